use Rattle.std.proofs.Common.{length, sym, ap, arith, rules}
use Rattle.std.proofs.lemmas.Result.{err_from_is_err_and}
use Rattle.ls_film.proofs.EngineLemmas.{HasRun-none, HasRun-more, HasRun-completes, HasRun-no_chunk}
use Rattle.ls_film.proofs.StopLemmas.{stops-chunk}
use Rattle.ls_film.proofs.engine.write_at_most.Goals as goal

pub loop-number-init : goal.loop-number-init
loop-number-init g c = record {
  run = λ place stands. (place, stands, HasRun-none g.I.Images.image g.X.Text.text place (g.W.Write.contents c.args.writer.now) g.met.X.Text.empty);
  small = omega arith;
  reads = λ failed is. is;
  writes = search rules;
}

pub returns-in-Ok-None-clause-ended : goal.returns-in-Ok-None-clause-ended
returns-in-Ok-None-clause-ended g c = λ place stands _.
    let i = c.loop-number.invariant.run place stands in
    let end = rw c.in-Ok-None.field-0-is at (c.in-Ok-None.ensures.gives i.0 i.1) in
    HasRun-completes g.I.Images.image g.X.Text.text place i.0 _ _ _ c.loop-number.number c.loop-number.written i.2 end

pub returns-in-Err-clause-stops : goal.returns-in-Err-clause-stops
returns-in-Err-clause-stops g c = λ place stands.
    let i = c.loop-number.invariant.run place stands in
    let next = c.in-Err.ensures.gives i.0 i.1 in
    (next.0, next.1, (i.0, c.loop-number.written, i.2, next.2))

pub returns-in_err-chunk-clause-stops : goal.returns-in_err-chunk-clause-stops
returns-in_err-chunk-clause-stops g c = λ place stands.
    let p = err_from_is_err_and c.from_residual.result c.from_residual.ensures.1 in
    let i = c.loop-number.invariant.run place stands in
    let next = rw c.in-Ok-Some.field-0-is at (c.in-Ok-Some.ensures.gives i.0 i.1) in
    rw (p.1, p.2) (next.0, next.1, HasRun-no_chunk g.I.Images.image g.X.Text.text place i.0 next.0 _ _ c.loop-number.number c.loop-number.written next.2 i.2 next.3)

pub returns-in_err-written-clause-stops : goal.returns-in_err-written-clause-stops
returns-in_err-written-clause-stops g c = λ place stands.
    let p = err_from_is_err_and c.from_residual-in_err-written.result c.from_residual-in_err-written.ensures.1 in
    let i = c.loop-number.invariant.run place stands in
    let next = rw c.in-Ok-Some.field-0-is at (c.in-Ok-Some.ensures.gives i.0 i.1) in
    let grows = rw (sym c.deref.ensures.value) at c.in_ok-chunk.ensures.grows next.2 next.4 i.2.frames i.2.count in
    rw (p.1, p.2) (
      next.0,
      next.1,
      stops-chunk g.I.Images.image g.I.Images.unread g.X.Text.text place i.0 next.0 (g.R.Read.remaining c.next.new.reader) _ _ _ c.loop-number.number c.loop-number.written next.2 c.deref.result.now _ i.2 (omega arith) next.3 grows c.in_err-written.ensures.stops,
    )

pub loop-number-preserved : goal.loop-number-preserved
loop-number-preserved g c = record {
  run = λ place stands.
      let i = c.loop-number.invariant.run place stands in
      let next = rw c.in-Ok-Some.field-0-is at (c.in-Ok-Some.ensures.gives i.0 i.1) in
      let grows = rw (sym c.deref.ensures.value) at c.in_ok-chunk.ensures.grows next.2 next.4 i.2.frames i.2.count in
      rw c.in_ok-written.ensures.count (
        next.0,
        next.1,
        HasRun-more g.I.Images.image g.X.Text.text place i.0 next.0 _ _ _ c.loop-number.number c.loop-number.written next.2 c.deref.result.now i.2 (omega arith) next.3 grows c.in_ok-written.ensures.all,
      );
  small = omega (arith, c.in_ok-written.ensures.count, c.in_ok-chunk.ensures.short, ap length c.deref.ensures.value);
  reads = λ failed is. c.in-Ok-Some.ensures.failures failed (c.loop-number.invariant.reads failed is);
  writes = search rules;
}
