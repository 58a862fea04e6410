use Rattle.std.proofs.Common.{◌<◌, length, sym, subst, arith, rules}
use Rattle.ls_archive.specs.View.Checking.{HasNoLineFeed}
use Rattle.ls_archive.proofs.LineLemmas.{split_last, taken_line}
use Rattle.ls_archive.proofs.FrontLineLemmas.{front-fed, front-full, front-ended, fed-whole}
use Rattle.ls_archive.proofs.checking.take_line.Goals as goal

pub returns-in-Some-eq10-clause-one : goal.returns-in-Some-eq10-clause-one
returns-in-Some-eq10-clause-one g c =
    taken_line _ _ _ _ _ _ (rw c.in-Some-eq10.is at c.in_ok-feed_until.ensures.taken) c.loop-reader.invariant.one

pub returns-in-Some-eq10-clause-front : goal.returns-in-Some-eq10-clause-front
returns-in-Some-eq10-clause-front g c =
    let remaining = g.I.Read.remaining in
    front-fed _ _ (remaining c.args.reader.now) (remaining c.loop-reader.reader) _ _ _ (rw c.in-Some-eq10.is at c.in_ok-feed_until.ensures.taken) c.in-Some-eq10.field-0-test
    c.loop-reader.invariant.one c.loop-reader.invariant.gave

pub returns-in-None-2-clause-one : goal.returns-in-None-2-clause-one
returns-in-None-2-clause-one g c =
    let end = rw c.in-None-2.is at c.in_ok-feed_until.ensures.end in
    let some : 0 < length c.feed_until.new.bytes.items = search rules in
    split_last c.feed_until.new.bytes.items some (subst HasNoLineFeed (sym end.0) c.loop-reader.invariant.one)

pub returns-in-None-2-clause-front : goal.returns-in-None-2-clause-front
returns-in-None-2-clause-front g c =
    let remaining = g.I.Read.remaining in
    let end = rw c.in-None-2.is at c.in_ok-feed_until.ensures.end in
    front-ended (remaining c.args.reader.now) (remaining c.loop-reader.reader) c.loop-reader.line.items c.feed_until.new.bytes.items c.loop-reader.invariant.one c.loop-reader.invariant.gave
    (λ told. (end.1 told).1) end.0

pub returns-clause-one : goal.returns-clause-one
returns-clause-one g c = split_last c.loop-reader.line.items (omega arith) c.loop-reader.invariant.one

pub returns-clause-front : goal.returns-clause-front
returns-clause-front g c =
    let remaining = g.I.Read.remaining in
    front-full (remaining c.args.reader.now) (remaining c.loop-reader.reader) c.loop-reader.line.items c.loop-reader.invariant.one c.loop-reader.invariant.gave (omega arith)

pub returns-in-Some-eq10-clause-torn : goal.returns-in-Some-eq10-clause-torn
returns-in-Some-eq10-clause-torn g c = λ torn told.
    absurd (fed-whole _ _ _ _ _ _ (rw c.in-Some-eq10.is at c.in_ok-feed_until.ensures.taken) c.in-Some-eq10.field-0-test torn.0)

pub returns-in-None-2-clause-torn : goal.returns-in-None-2-clause-torn
returns-in-None-2-clause-torn g c = λ torn told.
    let end = rw c.in-None-2.is at c.in_ok-feed_until.ensures.end in
    (end.1 (c.loop-reader.invariant.gave told).0).2

pub returns-clause-torn : goal.returns-clause-torn
returns-clause-torn g c = λ torn told. absurd (omega (arith, torn.1))
