-- What the words may ask for, and what the code reads of the values of options.
use Rattle.std.specs.Prelude.{◌≡◌, ℕ, ◌<◌, ◌≤◌, ◌^◌, List, ◌∷◌, ◌++◌, Option, Some, None, IfSome}
use Rattle.std.specs.Borrow.{Bor}
use Rattle.ls_frame.specs.declared.tuning.Tuning.{Tuning}
use Rattle.ls_command.specs.declared.cut.Cut.{Cut}
use Rattle.ls_command.specs.declared.cut.Cut.TheVariants as cut
use Rattle.ls_command.specs.declared.frames.Frames.{Frames}
use Rattle.ls_command.specs.declared.frames.TheConstants.{MOST_NUMBERS}
use Rattle.ls_command.specs.Values.{Writes, WriteRange, WritesFrames, WritesCut, WritesTuning, no_tuning, comma}

-- the numbers are in order, and frames may have them
abbrev pub AreInOrder : Frames → Type 0
AreInOrder frames = (frames.first < MOST_NUMBERS) × IfSome frames.last (λ last. (frames.first ≤ last) × (last < MOST_NUMBERS))

-- The frames that a text asks for; none if it asks for none that there may be.
abbrev pub ReadsFrames : List ℕ → Option Frames → Type 0
ReadsFrames text (Some frames) = WritesFrames text frames × AreInOrder frames
ReadsFrames text None = (frames : Frames) → WritesFrames text frames → AreInOrder frames → ⊥

-- the same for what is on both sides of `..`
abbrev pub ReadsRange : List ℕ → List ℕ → Option Frames → Type 0
ReadsRange a b (Some frames) = WriteRange a b frames × AreInOrder frames
ReadsRange a b None = (frames : Frames) → WriteRange a b frames → AreInOrder frames → ⊥

-- the frames from one number to another, if they are in order
abbrev pub IsBetween : ℕ → ℕ → Option Frames → Type 0
IsBetween first last (Some frames) = (frames.first ≡ first) × (frames.last ≡ Some last) × (first ≤ last)
IsBetween first last None = last < first

-- a number that isn't 0, of 32 bits
abbrev pub IsSome : ℕ → Type 0
IsSome n = (0 < n) × (n < 2 ^ 32)

abbrev pub IsAfterSome : Cut → Type 0
IsAfterSome (cut.Frames n) = IsSome n
IsAfterSome (cut.Seconds n) = IsSome n

-- After how much the text says that the next piece begins; none if that is after nothing, or too much.
abbrev pub ReadsCut : List ℕ → Option Cut → Type 0
ReadsCut text (Some cut) = WritesCut text cut × IsAfterSome cut
ReadsCut text None = (cut : Cut) → WritesCut text cut → IsAfterSome cut → ⊥

-- the number that isn't 0 that a text writes; none if it writes none
abbrev pub IsCutAfter : List ℕ → Option ℕ → Type 0
IsCutAfter text (Some n) = Writes text n × IsSome n
IsCutAfter text None = (n : ℕ) → Writes text n → IsSome n → ⊥

-- The tuning that a preset asks for; none if it isn't one.
abbrev pub ReadsTuning : List ℕ → Option Tuning → Type 0
ReadsTuning text (Some tuning) = WritesTuning text tuning
ReadsTuning text None = (tuning : Tuning) → WritesTuning text tuning → ⊥

-- the same for a preset that may not have been given
abbrev pub ReadsPreset : Option (Bor (List ℕ)) → Option Tuning → Type 0
ReadsPreset None tuning = tuning ≡ Some no_tuning
ReadsPreset (Some text) tuning = ReadsTuning text.now tuning

-- the number before the first comma of a text, and the text after it
abbrev pub TakesNumber : List ℕ → Option (ℕ × Bor (List ℕ)) → Type 0
TakesNumber text (Some taken) = (front : List ℕ) × (text ≡ front ++ (comma ∷ taken.1.now)) × Writes front taken.0 × (taken.0 < 2 ^ 16)
TakesNumber text None = (front rest : List ℕ) (n : ℕ) → text ≡ front ++ (comma ∷ rest) → Writes front n → n < 2 ^ 16 → ⊥
