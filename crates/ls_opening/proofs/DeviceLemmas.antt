-- What a film's reader has.
use Rattle.std.proofs.Common.{◌≡◌, ◌⊎◌, inl, inr, List, ℕ, Option, sym, ap, subst, ◌∙◌}
use Rattle.std.specs.Prelude.{None}
use Rattle.ls_files.specs.declared.source.Source.{Source}
use Rattle.ls_files.specs.View.Opened.{known_of}
use Rattle.ls_files.specs.View.Files.{ReadsFileAt, left_in_source}
use Rattle.ls_opening.specs.View.Devices.{FilmReader, left_of}

pub reads-film : {O F : Type 0} (holds : O → List ℕ → Option (List ℕ) → Type 0) (remaining : F → Option (List ℕ)) (opener : O) (path : List ℕ) (source : Source O F) (reader : FilmReader O F)
    → ReadsFileAt holds remaining opener path source → left_of remaining reader ≡ left_in_source remaining source
    → (left_of remaining reader ≡ None) ⊎ holds opener path (left_of remaining reader)
reads-film holds remaining opener path source reader reads same =
    elim reads [ inl none ↦ inl (same ∙ ap (known_of remaining) none) | inr told ↦ inr (subst (holds opener path) (sym same) told) ]
