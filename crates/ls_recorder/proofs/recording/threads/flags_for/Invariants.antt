use Rattle.std.proofs.Common.{◌≡◌, length}
use Rattle.ls_recorder.proofs.recording.threads.flags_for.Given as goal

abbrev pub invariant-loop-source : goal.invariant-loop-source
invariant-loop-source l = length l.flags.items ≡ l._source
