use Rattle.std.proofs.Common.{◌≡◌, drop}
use Rattle.ls_program_tests.specs.View.Files.{bytes_at}
use Rattle.ls_program_tests.proofs.memory.Memory.find.Given as goal

-- none of the files so far has this path
abbrev pub invariant-loop-file : goal.invariant-loop-file
invariant-loop-file l = bytes_at l.fn.self.files.now l.path ≡ bytes_at (drop l.file-index l.fn.self.files.now) l.path
