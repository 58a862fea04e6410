use Rattle.std.proofs.Common.{◌≡◌}
use Rattle.std.specs.List.{AllWithin}
use Rattle.ls_console.specs.declared.output.TheConstants.{DONE}
use Rattle.ls_reading.specs.View.Each.{IsSound}
use Rattle.ls_reading.specs.View.Statuses.{DoneOrFailed}
use Rattle.ls_reading.proofs.each.check_each.Given as goal

-- the recordings so far are sound, if the status is 0
abbrev pub invariant-loop-file : goal.invariant-loop-file
invariant-loop-file g l = DoneOrFailed l.status × (l.status ≡ DONE → AllWithin (λ file. IsSound g.O.Opens.holds l.opener l.beside l.strict file.now) l.files 0 l.file-index)
