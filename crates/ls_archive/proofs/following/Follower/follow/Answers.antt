use Rattle.std.proofs.Common.{◌≡◌, ◌+◌, ◌<◌, ◌++◌, ℕ, true, inl, inr, [], Some, length, sym, ap, subst, ◌∙◌, arith}
use Rattle.std.proofs.lemmas.Result.{err_from_is_err_and}
use Rattle.std.specs.Io.KnownBytes.{Appends}
use Rattle.ls_film.specs.Film.{most_frames}
use Rattle.ls_archive.specs.Index.{line}
use Rattle.ls_archive.specs.View.Followed.{Followed, holding}
use Rattle.ls_archive.specs.View.Indexing.{HasRun, StopsLine}
use Rattle.ls_archive.specs.View.Following.{index_of, followed, SpellNoFrame}
use Rattle.ls_archive.proofs.FollowLemmas.{ended, none_spells, unheld, one_more_than_most, no_line, line_cut}
use Rattle.ls_archive.proofs.following.Follower.follow.Goals as goal

pub returns-clause-follows : goal.returns-clause-follows
returns-clause-follows g c = λ before index run.
    let old = followed c.args.self.now in
    let bytes = c.args.bytes.now in
    let now = g.I.Write.contents c.write_line.new.writer in
    let is = rw c.in-Some.is at c.in_ok-indexed.ensures.entry in
    let none : c.take.new.self ≡ holding [] old = rw c.in-Some.is at c.in_ok-indexed.ensures.none in
    let size = length c.bytes.result.now in
    let p = c.self.inside.0.1.1.0 in
    let number : p.number ≡ old.number = ap (λ (f : Followed). f.number) (ap followed c.self.view_is ∙ none) in
    let offset : p.offset ≡ old.offset = ap (λ (f : Followed). f.offset) (ap followed c.self.view_is ∙ none) in
    let written : p.written ≡ old.written = ap (λ (f : Followed). f.written) (ap followed c.self.view_is ∙ none) in
    let e = c.in-Some.indexed in
    let text = c.as_bytes.ensures.value ∙ c.in_ok-line.ensures.text ∙ ap (λ k. line true k p.offset e) number ∙ ap (λ o. line true old.number o e) offset in
    let room : old.number < most_frames = omega (arith, number, c.self.invariant.few, c.if-number-eq-MOST_FRAMES.false) in
    let count : c.in_ok-written.written ≡ old.written + length c.as_bytes.result.now = c.in_ok-written.ensures.count ∙ ap (λ k. k + length c.as_bytes.result.now) written in
    let appended = subst (λ i. Appends (g.I.Write.contents i) now c.as_bytes.result.now) (ap index_of c.self.view_is) c.in_ok-written.ensures.all in
    let all = ended before old.pending bytes index _ now old.number old.offset old.written size e c.as_bytes.result.now run room is.0 is.1 text appended (ap length c.bytes.ensures.value) in
    subst (λ (f : Followed). HasRun true (Some (before ++ bytes)) (Some f.pending) index now f.number f.offset f.written) (sym c.step.ensures)
    (subst (λ (f : Followed). HasRun true (Some (before ++ bytes)) (Some f.pending) index now (f.number + 1) (f.offset + size) c.in_ok-written.written) (sym (ap followed c.self.view_is ∙ none))
    (subst (λ (k : ℕ). HasRun true (Some (before ++ bytes)) (Some []) index now (old.number + 1) (old.offset + size) k) (sym count) all))

pub returns-in_err-indexed-clause-stops : goal.returns-in_err-indexed-clause-stops
returns-in_err-indexed-clause-stops g c =
    let p = err_from_is_err_and c.from_residual.result c.from_residual.ensures.1 in
    let old = followed c.args.self.now in
    let now = g.I.Write.contents (index_of c.args.self.now) in
    rw (p.1, p.2) (λ before index run. unheld before old.pending c.args.bytes.now index now old.number old.offset old.written c.in_err-indexed.ensures.some run)

pub returns-then-number-eq-MOST_FRAMES-clause-stops : goal.returns-then-number-eq-MOST_FRAMES-clause-stops
returns-then-number-eq-MOST_FRAMES-clause-stops g c = λ before index run.
    let old = followed c.args.self.now in
    let now = g.I.Write.contents (index_of c.args.self.now) in
    let is = rw c.in-Some.is at c.in_ok-indexed.ensures.entry in
    let none : c.take.new.self ≡ holding [] old = rw c.in-Some.is at c.in_ok-indexed.ensures.none in
    let number : c.self.inside.0.1.1.0.number ≡ old.number = ap (λ (f : Followed). f.number) (ap followed c.self.view_is ∙ none) in
    let all : old.number ≡ most_frames = omega (arith, number) in
    one_more_than_most before old.pending c.args.bytes.now index now old.number old.offset old.written c.in-Some.indexed run all is.0 is.1

pub returns-in_err-line-clause-stops : goal.returns-in_err-line-clause-stops
returns-in_err-line-clause-stops g c =
    let p = err_from_is_err_and c.from_residual-in_err-line.result c.from_residual-in_err-line.ensures.1 in
    let old = followed c.args.self.now in
    let now = g.I.Write.contents (index_of c.args.self.now) in
    let is = rw c.in-Some.is at c.in_ok-indexed.ensures.entry in
    rw (p.1, p.2) (λ before index run. no_line before old.pending c.args.bytes.now index now old.number old.offset old.written c.in-Some.indexed run is.0 is.1)

pub returns-in_err-written-clause-stops : goal.returns-in_err-written-clause-stops
returns-in_err-written-clause-stops g c =
    let p = err_from_is_err_and c.from_residual-in_err-written.result c.from_residual-in_err-written.ensures.1 in
    let old = followed c.args.self.now in
    let now = g.I.Write.contents c.write_line.new.writer in
    let is = rw c.in-Some.is at c.in_ok-indexed.ensures.entry in
    let none : c.take.new.self ≡ holding [] old = rw c.in-Some.is at c.in_ok-indexed.ensures.none in
    let p1 = c.self.inside.0.1.1.0 in
    let number : p1.number ≡ old.number = ap (λ (f : Followed). f.number) (ap followed c.self.view_is ∙ none) in
    let offset : p1.offset ≡ old.offset = ap (λ (f : Followed). f.offset) (ap followed c.self.view_is ∙ none) in
    let written : p1.written ≡ old.written = ap (λ (f : Followed). f.written) (ap followed c.self.view_is ∙ none) in
    let e = c.in-Some.indexed in
    let text = c.as_bytes.ensures.value ∙ c.in_ok-line.ensures.text ∙ ap (λ k. line true k p1.offset e) number ∙ ap (λ o. line true old.number o e) offset in
    let room : old.number < most_frames = omega (arith, number, c.self.invariant.few, c.if-number-eq-MOST_FRAMES.false) in
    let stops = subst (λ i. StopsLine (g.I.Write.contents i) now old.written c.as_bytes.result.now c.in_err-written.field-0.0) (ap index_of c.self.view_is)
    (subst (λ k. StopsLine (g.I.Write.contents c.self.inside.0.1.0) now k c.as_bytes.result.now c.in_err-written.field-0.0) written c.in_err-written.ensures.stops) in
    rw (p.1, p.2) (λ before index run. line_cut before old.pending c.args.bytes.now index _ now old.number old.offset old.written e c.as_bytes.result.now c.in_err-written.field-0.0 run room is.0 is.1 text stops)

pub returns-in_default-clause-waits : goal.returns-in_default-clause-waits
returns-in_default-clause-waits g c =
    let old = followed c.args.self.now in
    let held : c.take.new.self ≡ holding (old.pending ++ c.args.bytes.now) old = rw c.in_default.is at c.in_ok-indexed.ensures.held in
    let waits : SpellNoFrame (old.pending ++ c.args.bytes.now) = rw c.in_default.is at c.in_ok-indexed.ensures.waits in
    subst (λ (f : Followed). SpellNoFrame f.pending) (sym held) waits

pub returns-clause-waits : goal.returns-clause-waits
returns-clause-waits g c =
    let old = followed c.args.self.now in
    let none : c.take.new.self ≡ holding [] old = rw c.in-Some.is at c.in_ok-indexed.ensures.none in
    let now = ap followed c.self.view_is ∙ none in
    subst (λ (f : Followed). SpellNoFrame f.pending) (sym c.step.ensures) (subst (λ (f : Followed). SpellNoFrame f.pending) (sym now) none_spells)

pub returns-in_default-clause-holds : goal.returns-in_default-clause-holds
returns-in_default-clause-holds g c = inr (rw c.in_default.is at c.in_ok-indexed.ensures.held)

pub returns-clause-holds : goal.returns-clause-holds
returns-clause-holds g c =
    let old = followed c.args.self.now in
    let none : c.take.new.self ≡ holding [] old = rw c.in-Some.is at c.in_ok-indexed.ensures.none in
    let now = ap followed c.self.view_is ∙ none in
    inl (
      ap (λ (f : Followed). f.pending) c.step.ensures ∙ ap (λ (f : Followed). f.pending) now,
      ap (λ (f : Followed). f.number) c.step.ensures ∙ ap (λ (f : Followed). f.number + 1) now,
    )
