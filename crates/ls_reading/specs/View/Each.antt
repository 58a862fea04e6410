-- What a command over several files has done for one of them.
use Rattle.std.specs.Prelude.{◌≡◌, ◌++◌, ℕ, Bool, true, false, List, Option, IfSome, IfNone, codes}
use Rattle.ls_stream.specs.Grammar.{Spells}
use Rattle.ls_film.specs.declared.part.Part.{Part}
use Rattle.ls_film.specs.Showing.{show as film_images}
use Rattle.ls_files.specs.View.Opened.{known_of}
use Rattle.ls_reading.specs.View.Commands.{HasNoGaps, HasStrictCodestreams, HaveSameFrames, IsPart, PassesCheck, ShowsPartOf, WritesIndexOf, WritesTextOf}

module _ {O : Type 0} (holds : O → List ℕ → Option (List ℕ) → Type 0) (opener : O) where
  -- What the file at this path holds is a recording, as far as it is known, without damage: by the index beside it or, without one, by itself; and, if
  -- that is asked for, each of its codestreams is strict.
  pub record IsSound (beside strict : Bool) (recording : List ℕ) : Type 0 where
    pub by_index : beside ≡ true → PassesCheck holds opener recording (recording ++ codes ".index")
    pub by_itself : beside ≡ false → HasNoGaps holds opener recording
    pub is_strict : strict ≡ true → HasStrictCodestreams holds opener recording

  -- What the files at these two paths hold is a film and a recording of the same frames, as far as it is known; and, if that is asked for, each of the
  -- recording's codestreams is strict.
  pub record IsOfFilm (strict : Bool) (film recording : List ℕ) : Type 0 where
    pub same : HaveSameFrames holds opener film recording
    pub is_strict : strict ≡ true → HasStrictCodestreams holds opener recording

module _ {O F : Type 0} (holds : O → List ℕ → Option (List ℕ) → Type 0) (contents : F → Option (List ℕ)) (opener : O) where
  -- The index of the recording at this path was written to a file that was made for it, and nothing else was.
  pub record IsIndexed (sums : Bool) (recording : List ℕ) : Type 0 where
    pub made : Option F
    pub written : Option F
    pub index : WritesIndexOf holds opener recording (known_of contents made) (known_of contents written) sums

  -- The frames of the recording at this path, or those of a part, were written to a film that was made for it, and nothing else was.
  pub record IsPlayed (part : Option Part) (recording : List ℕ) : Type 0 where
    pub made : Option F
    pub written : Option F
    pub all : IfNone part (WritesTextOf holds opener recording (known_of contents made) (known_of contents written) Spells film_images)
    pub some : IfSome part (λ part. IsPart part → ShowsPartOf holds opener recording (known_of contents made) (known_of contents written) part)
