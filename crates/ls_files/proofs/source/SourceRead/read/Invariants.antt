use Rattle.std.specs.Io.KnownBytes.{Keeps}
use Rattle.ls_files.specs.View.Opened.{known_of}
use Rattle.ls_files.proofs.source.SourceRead.read.Given as goal

-- a try that is interrupted takes nothing
abbrev pub invariant-loop-try : goal.invariant-loop-try
invariant-loop-try g l = Keeps (known_of g.O.File.Read.remaining l.fn.self.file) (known_of g.O.File.Read.remaining l.self.file)
