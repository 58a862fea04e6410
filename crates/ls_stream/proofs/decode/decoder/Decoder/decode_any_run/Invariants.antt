use Rattle.std.proofs.Common.{◌≡◌, ◌<◌, ℕ, Bool, false, ◌+◌, ◌-◌}
use Rattle.ls_frame.specs.Parameters.{qbpp_of, IsLegal}
use Rattle.ls_coding.specs.Runs.{run_of}
use Rattle.ls_coding.specs.View.States.{run_after}
use Rattle.ls_bits.specs.declared.source.CodeFault.{CodeFault}
use Rattle.ls_bits.specs.View.Plain.{bits_in}
use Rattle.ls_stream.specs.View.BitFaults.{BreaksRun}
use Rattle.ls_stream.proofs.RunReadingLemmas.{IsInRun}
use Rattle.ls_stream.proofs.decode.decoder.Decoder.decode_any_run.Given as goal

abbrev pub invariant-ones : goal.invariant-ones
invariant-ones l = record {
  short : l.count < l.left;
  uninterrupted : l.self-inside.state.now.interrupted ≡ false;
  parameters : l.self-inside.state.now.parameters ≡ l.self-inside.presets;
  qbpp : l.self-inside.qbpp ≡ qbpp_of l.self-inside.presets.maxval;
  legal : IsLegal l.self-inside.presets;
  regions : l.self-inside.regions ≡ l.self-inside.presets;
  sure : l.self-inside.sure.now ≡ l.self-inside.presets;
  breaks : (fault : CodeFault) → BreaksRun l.self-inside.state.now.run_index (l.left - l.count) (bits_in l.self-inside.source.now) fault → BreaksRun l.fn.self.state.run_index l.left l.fn.self.bits fault;
  in_run : IsInRun l.left l.count l.fn.self.state.run_index l.self-inside.state.now.run_index l.fn.self.bits (bits_in l.self-inside.source.now);
  states : (count : ℕ) (interrupted : Bool) → run_after l.self-inside.state.now (run_of count interrupted) ≡ run_after l.fn.self.state (run_of (l.count + count) interrupted);
}

abbrev pub decreases-ones : goal.decreases-ones
decreases-ones l = l.left - l.count
