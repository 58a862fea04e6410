use Rattle.std.proofs.Common.{rules}
use Rattle.std.proofs.lemmas.Result.{err_from_is_err_and}
use Rattle.ls_salvage.specs.View.Parts.{part_of}
use Rattle.ls_salvage.proofs.RunLemmas.{run_none, run_more, stops_reading, stops_handing_on, small_none, small_more}
use Rattle.ls_salvage.proofs.salvaging.salvage.Goals as goal

pub parts-init : goal.parts-init
parts-init g c = rw c.none-progress.ensures (record {
  run = run_none g.T.Text.text _ _ _ g.met.T.Text.empty;
  small = small_none;
  reads = search rules;
  writes = search rules;
})

pub returns-in-Err-clause-stops : goal.returns-in-Err-clause-stops
returns-in-Err-clause-stops g c =
    rw c.of.ensures (stops_reading g.T.Text.text _ _ _ _ _ _ c.parts.progress c.parts.invariant.run c.in-Err.fault c.in-Err.ensures.no_end c.in-Err.ensures.too_much c.in-Err.ensures.memory)

pub returns-in_err-progress-clause-stops : goal.returns-in_err-progress-clause-stops
returns-in_err-progress-clause-stops g c =
    let p = err_from_is_err_and c.from_residual.result c.from_residual.ensures.1 in
    let gave = rw c.in-Ok-Some.field-0-is at c.in-Ok-Some.ensures.part in
    let lawful = rw c.in-Ok-Some.field-0-is at c.in-Ok-Some.ensures.lawful in
    rw (p.1, p.2) (stops_handing_on g.T.Text.text _ _ _ _ _ _ c.parts.progress c.parts.invariant.run _ _ _ (part_of c.in-Ok-Some.next) _ gave lawful c.in_err-progress.ensures.stops)

pub parts-preserved : goal.parts-preserved
parts-preserved g c =
    let gave = rw c.in-Ok-Some.field-0-is at c.in-Ok-Some.ensures.part in
    let lawful = rw c.in-Ok-Some.field-0-is at c.in-Ok-Some.ensures.lawful in
    let some = rw c.in-Ok-Some.field-0-is at c.in-Ok-Some.ensures.some in
    let hands = c.in_ok-progress.ensures.handed_on in
    record {
      run = run_more g.T.Text.text _ _ _ _ _ _ _ _ _ c.parts.progress (part_of c.in-Ok-Some.next) c.in_ok-progress.progress c.parts.invariant.run gave lawful hands;
      small = small_more g.T.Text.text _ _ _ _ c.parts.progress c.in_ok-progress.progress (part_of c.in-Ok-Some.next) c.parts.invariant.small some hands;
      reads = search rules;
      writes = search rules;
    }
