-- What `play` has done that found a part of a recording by the recording's index.
use Rattle.std.specs.Prelude.{◌≡◌, ◌⊎◌, ◌+◌, ◌<◌, ◌≤◌, ℕ, List, ◌++◌, ◌∷◌, [], drop, length, Option, Some, option_map, IfSome, IfNone, codes}
use Rattle.ls_film.specs.declared.part.Part.{Part}
use Rattle.ls_film.specs.Film.{most_frames}
use Rattle.ls_frame.specs.View.Known.{Tells, Gave, known}
use Rattle.ls_files.specs.View.Opened.{HoldsFrom}
use Rattle.ls_archive.specs.View.Listed.{HasPassed, Shows}

-- The codestreams of a part were shown by their lines, and nothing else was written: the index stood at the part's first line, the recording
-- at this offset.
pub record PlaysListed (part : Part) (offset : ℕ) (lines lines' read left written written' : Option (List ℕ)) (count : ℕ) : Type 0 where
  pub shows : Shows lines lines' read left written written' part.first offset count
  pub ends : IfSome part.last (λ last. part.first + count ≡ last + 1)
  pub goes_on : IfNone part.last ((0 < count) × ((part.first + count ≡ most_frames) ⊎ (Tells lines → known lines' ≡ [])))

module _ {O : Type 0} (holds : O → List ℕ → Option (List ℕ) → Type 0) (opener : O) where
  -- A reader of the index at this path, of whose bytes these are left, stands where a line begins: at the beginning, or after an LF; or it has
  -- passed over the lines before this one, whose codestreams end at this offset.
  abbrev pub StandsAtLine : List ℕ → ℕ → ℕ → Option (List ℕ) → Type 0
  StandsAtLine index first offset left =
      HoldsFrom (holds opener index) 0 left
      ⊎ (((place : ℕ) × (read : Option (List ℕ)) × HoldsFrom (holds opener index) place read × Gave read left (λ bytes. bytes ≡ codes "\n"))
      ⊎ ((whole : Option (List ℕ)) × holds opener index whole × HasPassed whole left first offset))

  -- The files at these two paths hold a recording and an index, as far as it is known: codestreams of the recording, each exactly what its line
  -- of the index says, were shown, and nothing else was written. The lines are those of the part, where one of the index begins.
  pub record ShowsListedOf (recording index : List ℕ) (written written' : Option (List ℕ)) (part : Part) : Type 0 where
    pub offset : ℕ
    pub lines : Option (List ℕ)
    pub lines_left : Option (List ℕ)
    pub read : Option (List ℕ)
    pub left : Option (List ℕ)
    pub count : ℕ
    pub stands : StandsAtLine index part.first offset lines
    pub file : HoldsFrom (holds opener recording) offset read
    pub run : PlaysListed part offset lines lines_left read left written written' count
