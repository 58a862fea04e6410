use Rattle.std.specs.Io.KnownBytes.{Keeps}
use Rattle.ls_files.proofs.patient.write_again.Given as goal

-- a try that is interrupted writes nothing
abbrev pub invariant-loop-try : goal.invariant-loop-try
invariant-loop-try g l = Keeps (g.W.Write.contents l.fn.writer) (g.W.Write.contents l.writer)
