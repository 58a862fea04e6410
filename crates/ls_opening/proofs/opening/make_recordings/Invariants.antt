use Rattle.std.proofs.Common.{◌≡◌, ℕ, ◌≤◌, get_or}
use Rattle.std.specs.Prelude.{take}
use Rattle.std.specs.List.{AllZip}
use Rattle.ls_opening.specs.declared.film.Film.{Film}
use Rattle.ls_opening.specs.View.Devices.{IsWriterFor}
use Rattle.ls_opening.proofs.opening.make_recordings.Given as goal

-- the recordings of the films so far are made, and the others are as they were
abbrev pub invariant-loop-film : goal.invariant-loop-film
invariant-loop-film g l = record {
  made : AllZip (λ film writer. IsWriterFor g.O.Makes.kept film.names.now writer) (take l.film-index l.fn.films) l.writers.items;
  left : (i : ℕ) (d : Film g.row.O.Denot g.row.O-Finished.Denot g.row.O-File.Denot) → l.film-index ≤ i → get_or l.films i d ≡ get_or l.fn.films i d;
}
