use Rattle.std.proofs.Common.{◌≡◌}
use Rattle.std.specs.Prelude.{take}
use Rattle.std.specs.List.{AllZip}
use Rattle.ls_opening.proofs.names.names_once.Given as goal

-- the films so far have their names
abbrev pub invariant-loop-place : goal.invariant-loop-place
invariant-loop-place l = AllZip (λ file film. film.file.now ≡ file.now) (take l.place l.asked.files.items) l.names.items
