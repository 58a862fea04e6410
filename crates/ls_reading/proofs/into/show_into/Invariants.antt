use Rattle.std.proofs.Common.{◌≡◌}
use Rattle.std.specs.List.{AllWithin}
use Rattle.ls_console.specs.declared.output.TheConstants.{DONE}
use Rattle.ls_reading.specs.View.Each.{IsPlayed}
use Rattle.ls_reading.specs.View.Statuses.{DoneOrFailed}
use Rattle.ls_reading.proofs.into.show_into.Given as goal

-- the recordings so far are played, if the status is 0
abbrev pub invariant-loop-file : goal.invariant-loop-file
invariant-loop-file g l = DoneOrFailed l.status × (l.status ≡ DONE → AllWithin (λ file. IsPlayed g.O.Opens.holds g.O.File.Write.contents l.opener l.part file.now) l.files 0 l.file-index)
