use Rattle.std.proofs.Common.{◌++◌, length, sym, ap, subst, ◌∙◌, refl, arith}
use Rattle.std.proofs.lemmas.Result.{err_from_is_err_and}
use Rattle.ls_frame.specs.View.Known.{TakesPast, known}
use Rattle.ls_stream.specs.View.Places.{IsPlaceAfter}
use Rattle.ls_stream.proofs.ExtentLemmas.{none_reached}
use Rattle.ls_stream.proofs.FeedLemmas.{if_some, IsOneMore, taken_on, on_with, ended_with, length_with, failed_in}
use Rattle.ls_stream.proofs.next.read_stream.Goals as goal

pub steps-init : goal.steps-init
steps-init g c =
    let empty = c.requires in record {
      failures = refl;
      few = omega (arith, ap length empty);
      place = subst (IsPlaceAfter _) (sym empty) none_reached;
      read = λ told. (told, ap (λ bs. bs ++ known (g.R.Read.remaining c.args.reader.now)) (sym empty));
    }

pub steps-preserved : goal.steps-preserved
steps-preserved g c =
    let remaining = g.R.Read.remaining in
    let before = c.steps.invariant in
    let new = c.next_bytes.new in
    let last = c.in-Some.last in
    let most = c.most_at_once-most in
    let taken = if_some (TakesPast 255 128 most.result (remaining c.steps.reader) (remaining new.reader) c.steps.bytes.items new.bytes.items) c.in_ok-last.field-0 last c.in-Some.is c.in_ok-last.ensures.taken in
    let one : IsOneMore c.steps.place (remaining c.args.reader.now) (remaining new.reader) new.bytes.items last =
    taken_on c.steps.place most.result (remaining c.args.reader.now) (remaining c.steps.reader) (remaining new.reader) c.steps.bytes.items new.bytes.items last before.place before.read most.ensures.one
    (omega (arith, most.ensures.most)) taken in
    record {
      failures = c.in_ok-last.ensures.failures ∙ before.failures;
      few = length_with c.steps.place (remaining c.args.reader.now) (remaining new.reader) new.bytes.items last one;
      place = on_with c.steps.place c.in-Some-after.next (remaining c.args.reader.now) (remaining new.reader) new.bytes.items last one c.in-Some-after.ensures.goes_on;
      read = one.read;
    }

pub returns-in-None-after-clause-bytes : goal.returns-in-None-after-clause-bytes
returns-in-None-after-clause-bytes g c = λ told.
    let remaining = g.R.Read.remaining in
    let before = c.steps.invariant in
    let new = c.next_bytes.new in
    let last = c.in-Some.last in
    let most = c.most_at_once-most in
    let taken = if_some (TakesPast 255 128 most.result (remaining c.steps.reader) (remaining new.reader) c.steps.bytes.items new.bytes.items) c.in_ok-last.field-0 last c.in-Some.is c.in_ok-last.ensures.taken in
    let one : IsOneMore c.steps.place (remaining c.args.reader.now) (remaining new.reader) new.bytes.items last =
    taken_on c.steps.place most.result (remaining c.args.reader.now) (remaining c.steps.reader) (remaining new.reader) c.steps.bytes.items new.bytes.items last before.place before.read most.ensures.one
    (omega (arith, most.ensures.most)) taken in
    let read = one.read told in
    (read.0, (read.1, ended_with c.steps.place (remaining c.args.reader.now) (remaining new.reader) new.bytes.items (known (remaining new.reader)) last one c.in-None-after.ensures.ends))

pub returns-in_err-last-clause-io : goal.returns-in_err-last-clause-io
returns-in_err-last-clause-io g c =
    let remaining = g.R.Read.remaining in
    let before = c.steps.invariant in
    let p = err_from_is_err_and c.from_residual.result c.from_residual.ensures.1 in
    rw (p.1, p.2) (λ is.
    failed_in c.steps.place (remaining c.args.reader.now) (remaining c.steps.reader) (remaining c.next_bytes.new.reader) c.steps.bytes.items c.next_bytes.new.bytes.items
    before.place (omega arith) before.read c.in_err-last.ensures.nothing (c.in_err-last.ensures.keeps is))
