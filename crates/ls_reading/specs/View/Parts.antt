-- What `check` and `verify` have done for a part of a recording.
use Rattle.std.specs.Prelude.{◌≡◌, ℕ, List, Option}
use Rattle.ls_film.specs.declared.part.Part.{Part}
use Rattle.ls_files.specs.View.Opened.{HoldsFrom}
use Rattle.ls_archive.specs.declared.checking.Checked.{Checked}
use Rattle.ls_archive.specs.declared.checking.Finding.{Finding}
use Rattle.ls_archive.specs.declared.verifying.Verdict.TheVariants.{Same}
use Rattle.ls_archive.specs.View.CheckedLines.{IsCheckedPart}
use Rattle.ls_archive.specs.View.VerifiedParts.{FindsPart}
use Rattle.ls_reading.specs.View.Listed.{StandsAtLine}

module _ {O : Type 0} (holds : O → List ℕ → Option (List ℕ) → Type 0) (opener : O) where
  -- The files at these two paths hold a recording and an index, as far as it is known: a check of the part by the index, from where one of
  -- its lines begins, found no damage.
  pub record PassesPartCheck (recording index : List ℕ) (part : Part) : Type 0 where
    pub offset : ℕ
    pub lines : Option (List ℕ)
    pub lines_left : Option (List ℕ)
    pub read : Option (List ℕ)
    pub left : Option (List ℕ)
    pub before : Option (List Finding)
    pub after : Option (List Finding)
    pub checked : Checked
    pub stands : StandsAtLine holds opener index part.first offset lines
    pub file : HoldsFrom (holds opener recording) offset read
    pub run : IsCheckedPart part.first offset part.last lines lines_left read left before after checked
    pub undamaged : checked.damaged ≡ 0

  -- What the files at these two paths hold is a film and a recording, as far as it is known, that have the same frames in this part.
  pub record HaveSamePart (film recording : List ℕ) (part : Part) : Type 0 where
    pub images : Option (List ℕ)
    pub images_left : Option (List ℕ)
    pub codestreams : Option (List ℕ)
    pub codestreams_left : Option (List ℕ)
    pub count : ℕ
    pub film_file : holds opener film images
    pub recording_file : holds opener recording codestreams
    pub same : FindsPart images images_left codestreams codestreams_left part.first part.last (Same count)
