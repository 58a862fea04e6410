-- The salvage of a recording in memory, where all bytes are known.
use Rattle.std.specs.Prelude.{◌≡◌, ◌⊎◌, ℕ, List, ◌++◌, length}
use Rattle.ls_frame.specs.Picture.{Picture}
use Rattle.ls_stream.specs.Grammar.{Spells}
use Rattle.ls_film.specs.Showing.{show}
use Rattle.ls_salvage.specs.declared.faults.SalvageFault.{SalvageFault}
use Rattle.ls_salvage.specs.declared.faults.SalvageFault.TheVariants.{Io, Output, NoMemory, NoEnd, TooMuch}
use Rattle.ls_salvage.specs.declared.gaps.Gap.{Gap}
use Rattle.ls_salvage.specs.declared.salvaging.Salvaged.{Salvaged}
use Rattle.ls_salvage.specs.Salvage.{Part, frames_of, gaps_of, IsShownAt, IsHeld}
use Rattle.ls_salvage.specs.View.Salvaged.{IsSalvaged}

-- The output shows the frames of the recording's parts, and the gaps are those of the parts. Wherever a complete codestream of a frame stands, it is
-- shown, or a codestream that is shown holds its beginning.
pub record IsSalvageOf (recording out : List ℕ) (gaps : List Gap) (salvaged : Salvaged) : Type 0 where
  pub parts : List Part
  pub salvage : IsSalvaged recording parts
  pub shown : out ≡ show (frames_of parts)
  pub gaps_are : gaps ≡ gaps_of parts
  pub frame_count : salvaged.frames ≡ length (frames_of parts)
  pub gap_count : salvaged.gaps ≡ length gaps
  pub each_is_shown : (before front rest : List ℕ) (f : Picture) → recording ≡ before ++ (front ++ rest) → Spells front f
      → IsShownAt parts (length before) (length front) f ⊎ IsHeld parts (length before)

-- An allocation failed: for a frame, for a gap or for the output.
abbrev pub IsOutOfMemory : SalvageFault → Type 0
IsOutOfMemory (Io frames) = ⊥
IsOutOfMemory (Output bytes) = Unit {0}
IsOutOfMemory NoMemory = Unit {0}
IsOutOfMemory NoEnd = ⊥
IsOutOfMemory TooMuch = ⊥
