-- The values of options as they are written: numbers, the frames of `--frames`, the pieces of `--pieces`, and the coding
-- parameters of `--preset`.
use Rattle.std.specs.Prelude.{◌≡◌, ◌⊎◌, ◌<◌, ◌^◌, ℕ, List, [], ◌∷◌, ◌++◌, Option, Some, None}
use Rattle.std.specs.Str.Parse.{IsNumeral, digits_value}
use Rattle.ls_frame.specs.declared.tuning.Tuning.{Tuning}
use Rattle.ls_command.specs.declared.cut.Cut.{Cut}
use Rattle.ls_command.specs.declared.cut.Cut.TheVariants as cut
use Rattle.ls_command.specs.declared.frames.Frames.{Frames}

-- the decimal digits of a number, perhaps with leading zeros
abbrev pub Writes : List ℕ → ℕ → Type 0
Writes text n = IsNumeral 10 text × (digits_value 10 text ≡ n)

-- the number below a limit that a text writes; none if it writes none
abbrev pub ReadsBelow : ℕ → List ℕ → Option ℕ → Type 0
ReadsBelow limit text (Some n) = Writes text n × (n < limit)
ReadsBelow limit text None = (n : ℕ) → Writes text n → n < limit → ⊥

-- ---- frames

-- the point, of which `..` has two
abbrev pub point : ℕ
point = 46

-- A and B of `A..B`, of which one may be missing: the frames from A, or from 0, to B, or to the end
abbrev pub WriteRange : List ℕ → List ℕ → Frames → Type 0
WriteRange a [] frames = Writes a frames.first × (frames.last ≡ None)
WriteRange [] (c ∷ b) frames = (frames.first ≡ 0) × (n : ℕ) × (frames.last ≡ Some n) × Writes (c ∷ b) n
WriteRange (d ∷ a) (c ∷ b) frames = Writes (d ∷ a) frames.first × (n : ℕ) × (frames.last ≡ Some n) × Writes (c ∷ b) n

-- `A`, which is the frame A alone; `A..`, `..B` or `A..B`
abbrev pub WritesFrames : List ℕ → Frames → Type 0
WritesFrames text frames = (Writes text frames.first × (frames.last ≡ Some frames.first))
    ⊎ ((a : List ℕ) × (b : List ℕ) × (text ≡ a ++ (point ∷ point ∷ b)) × WriteRange a b frames)

-- ---- pieces

-- the letter `s`
abbrev pub letter_s : ℕ
letter_s = 115

-- a number of frames, or of seconds with `s` after it
abbrev pub WritesCut : List ℕ → Cut → Type 0
WritesCut text (cut.Frames n) = Writes text n
WritesCut text (cut.Seconds n) = (digits : List ℕ) × (text ≡ digits ++ (letter_s ∷ [])) × Writes digits n

-- ---- coding parameters

abbrev pub comma : ℕ
comma = 44

-- T1, T2, T3 and RESET, each of 16 bits, with commas between
abbrev pub WritesTuning : List ℕ → Tuning → Type 0
WritesTuning text tuning =
    (t1 : List ℕ) × (t2 : List ℕ) × (t3 : List ℕ) × (reset : List ℕ) × (text ≡ t1 ++ (comma ∷ (t2 ++ (comma ∷ (t3 ++ (comma ∷ reset))))))
    × Writes t1 tuning.t1 × (tuning.t1 < 2 ^ 16) × Writes t2 tuning.t2 × (tuning.t2 < 2 ^ 16)
    × Writes t3 tuning.t3 × (tuning.t3 < 2 ^ 16) × Writes reset tuning.reset × (tuning.reset < 2 ^ 16)

-- without a preset all four are 0
abbrev pub no_tuning : Tuning
no_tuning = record { t1 = 0; t2 = 0; t3 = 0; reset = 0 }
