-- What a command has done that read the file at a path and wrote to standard output. What the file system holds at a path, and the known
-- bytes of the output before and after, are parameters.
use Rattle.std.specs.Prelude.{◌≡◌, ◌+◌, ◌<◌, ◌≤◌, ℕ, Bool, false, List, [], All, Option, None, IsSome, IfSome, IfNone}
use Rattle.ls_frame.specs.Picture.{Picture}
use Rattle.ls_frame.specs.View.Known.{Tells, known}
use Rattle.ls_film.specs.declared.part.Part.{Part}
use Rattle.ls_film.specs.Film.{most_frames}
use Rattle.ls_film.specs.Showing.{show as film_images}
use Rattle.ls_film.specs.View.Engine.{Completes}
use Rattle.ls_film.specs.View.Parts.{ShowsPart}
use Rattle.ls_salvage.specs.declared.gaps.Gap.{Gap}
use Rattle.ls_salvage.specs.declared.salvaging.Salvaged.{Salvaged}
use Rattle.ls_salvage.specs.View.Runs.{Completes as Salvages}
use Rattle.ls_archive.specs.declared.checking.Checked.{Checked}
use Rattle.ls_archive.specs.declared.checking.Finding.{Finding}
use Rattle.ls_archive.specs.declared.places.Wanted.{Wanted}
use Rattle.ls_archive.specs.View.Checks.{IsChecked}
use Rattle.ls_archive.specs.View.Indexing.{Completes as Indexes}
use Rattle.ls_archive.specs.View.Places.{IsSaidBy, AreStanding}
use Rattle.ls_archive.specs.View.Strict.{IsStrict}
use Rattle.ls_archive.specs.View.Verifying.{AreSame}

-- The codestreams before a part of a recording were passed over, and the images of the part's frames were written and nothing else.
pub record PlaysPart (part : Part) (read left written written' : Option (List ℕ)) (count : ℕ) : Type 0 where
  pub shows : ShowsPart read left written written' part.first count
  pub ends : IfSome part.last (λ last. part.first + count ≡ last + 1)
  pub goes_on : IfNone part.last ((0 < count) × (Tells read → known left ≡ []))

-- A salvage that writes nothing read a recording.
pub record IsSearched (read left : Option (List ℕ)) (salvaged : Salvaged) : Type 0 where
  pub written : Option (List ℕ)
  pub written' : Option (List ℕ)
  pub told : Option (List Gap)
  pub told' : Option (List Gap)
  pub run : Salvages (λ _. []) written written' told told' read left salvaged

module _ {O : Type 0} (holds : O → List ℕ → Option (List ℕ) → Type 0) (opener : O) (path : List ℕ) (written written' : Option (List ℕ)) where
  -- What the file at the path holds is a film, as far as it is known, and the text of its frames was written and nothing else.
  pub record WritesTextOf (IsImage : List ℕ → Picture → Type 0) (text : List Picture → List ℕ) : Type 0 where
    pub read : Option (List ℕ)
    pub left : Option (List ℕ)
    pub count : ℕ
    pub file : holds opener path read
    pub run : Completes IsImage text read left written written' count

  -- The same for a part of a recording.
  pub record ShowsPartOf (part : Part) : Type 0 where
    pub read : Option (List ℕ)
    pub left : Option (List ℕ)
    pub count : ℕ
    pub file : holds opener path read
    pub run : PlaysPart part read left written written' count

  -- What the file at the path holds is a recording without a gap, as far as it is known: a salvage read all of it, and wrote the images of its
  -- frames and nothing else.
  pub record SalvagesAllOf : Type 0 where
    pub read : Option (List ℕ)
    pub left : Option (List ℕ)
    pub salvaged : Salvaged
    pub file : holds opener path read
    pub run : Salvages film_images written written' None None read left salvaged
    pub without_gaps : salvaged.gaps ≡ 0

  -- What the file at the path holds is a recording, as far as it is known, and its index was written and nothing else.
  pub record WritesIndexOf (sums : Bool) : Type 0 where
    pub read : Option (List ℕ)
    pub left : Option (List ℕ)
    pub count : ℕ
    pub file : holds opener path read
    pub run : Indexes sums read left written written' count

-- a part that there can be: its frames have numbers that frames may have, and are in order
abbrev pub IsPart : Part → Type 0
IsPart part = (part.first < most_frames) × IfSome part.last (λ last. (part.first ≤ last) × (last < most_frames))

module _ {O : Type 0} (holds : O → List ℕ → Option (List ℕ) → Type 0) (opener : O) where
  -- What the files at these two paths hold is a film and a recording of the same frames, as far as it is known.
  pub record HaveSameFrames (film recording : List ℕ) : Type 0 where
    pub images : Option (List ℕ)
    pub images_left : Option (List ℕ)
    pub codestreams : Option (List ℕ)
    pub codestreams_left : Option (List ℕ)
    pub count : ℕ
    pub film_file : holds opener film images
    pub recording_file : holds opener recording codestreams
    pub same : AreSame images images_left codestreams codestreams_left count

  -- What the file at this path holds is a recording without a gap, as far as it is known.
  pub record HasNoGaps (recording : List ℕ) : Type 0 where
    pub read : Option (List ℕ)
    pub left : Option (List ℕ)
    pub salvaged : Salvaged
    pub file : holds opener recording read
    pub run : IsSearched read left salvaged
    pub without_gaps : salvaged.gaps ≡ 0

  -- What the file at this path holds is a recording, as far as it is known, and each of its codestreams is strict.
  pub record HasStrictCodestreams (recording : List ℕ) : Type 0 where
    pub read : Option (List ℕ)
    pub left : Option (List ℕ)
    pub count : ℕ
    pub file : holds opener recording read
    pub run : IsStrict read left count

  -- What the files at these two paths hold is a recording and an index of it, as far as it is known: a check found no damage and nothing more.
  pub record PassesCheck (recording index : List ℕ) : Type 0 where
    pub codestreams : Option (List ℕ)
    pub lines : Option (List ℕ)
    pub before : Option (List Finding)
    pub after : Option (List Finding)
    pub checked : Checked
    pub recording_file : holds opener recording codestreams
    pub index_file : holds opener index lines
    pub run : IsChecked lines codestreams before after checked
    pub undamaged : checked.damaged ≡ 0
    pub complete : checked.more ≡ false

  -- What the file at this path holds is an index, as far as it is known, and these are what its lines say.
  pub record SaysLines (index : List ℕ) (lines : List Wanted) : Type 0 where
    pub read : Option (List ℕ)
    pub file : holds opener index read
    pub said : IsSaidBy read lines

  -- Each codestream of the index that has a place stands there in what the file holds, as far as it is known.
  pub record AreFoundIn (recording index : List ℕ) (lines : List Wanted) (places : List (Option ℕ)) : Type 0 where
    pub read : Option (List ℕ)
    pub file : holds opener recording read
    pub lines_are : SaysLines index lines
    pub standing : AreStanding read lines places

  -- What the files at these two paths hold is a recording and an index, as far as it is known: each codestream of the index stands somewhere in
  -- the recording.
  pub record HasAllOf (recording index : List ℕ) : Type 0 where
    pub lines : List Wanted
    pub places : List (Option ℕ)
    pub found : AreFoundIn recording index lines places
    pub all : All IsSome places
