use Rattle.std.proofs.Common.{◌≡◌}
use Rattle.std.specs.List.{AllWithin}
use Rattle.ls_console.specs.declared.output.TheConstants.{DONE}
use Rattle.ls_reading.specs.View.Each.{IsIndexed}
use Rattle.ls_reading.specs.View.Statuses.{DoneOrFailed}
use Rattle.ls_reading.proofs.beside.index_beside.Given as goal

-- the indexes of the recordings so far are written, if the status is 0
abbrev pub invariant-loop-file : goal.invariant-loop-file
invariant-loop-file g l = DoneOrFailed l.status × (l.status ≡ DONE → AllWithin (λ file. IsIndexed g.O.Opens.holds g.O.File.Write.contents l.opener l.sums file.now) l.files 0 l.file-index)
