-- Runs (T.87 A.7.1).
use Rattle.std.specs.Prelude.{ℕ, zero, suc, ◌+◌, ◌-◌, ◌^◌, ◌<◌, ◌≤◌, ◌==◌, min, nat_le, Bool, true, false, if◌then◌else◌, List, [], ◌∷◌, ◌++◌, replicate, slice_index}
use Rattle.ls_bits.specs.Bits.{bits_of}
use Rattle.ls_coding.specs.declared.run.Tail.{Tail}
use Rattle.ls_coding.specs.declared.run.Tail.TheVariants.{LineFull, LinePart, Interrupted}
use Rattle.ls_coding.specs.declared.run.RunWord.{RunWord}

-- J (A.2.1): a bit 1 stands for 2^J samples at each RUNindex
abbrev pub run_orders : List ℕ
run_orders = 0 ∷ 0 ∷ 0 ∷ 0 ∷ 1 ∷ 1 ∷ 1 ∷ 1 ∷ 2 ∷ 2 ∷ 2 ∷ 2 ∷ 3 ∷ 3 ∷ 3 ∷ 3 ∷ 4 ∷ 4 ∷ 5 ∷ 5 ∷ 6 ∷ 6 ∷ 7 ∷ 7 ∷ 8 ∷ 9 ∷ 10 ∷ 11 ∷ 12 ∷ 13 ∷ 14 ∷ 15 ∷ []

abbrev pub order : ℕ → ℕ
order index = slice_index run_orders index

-- the greatest RUNindex
abbrev pub last_index : ℕ
last_index = 31

-- the number of samples that bits 1 stand for, from a RUNindex on (A.7.1.2)
unfoldable pub samples_of_ones : ℕ → ℕ → ℕ
samples_of_ones zero index = 0
samples_of_ones (suc ones) index = 2 ^ order index + samples_of_ones ones (min (index + 1) last_index)

-- a run: the number of samples that equal the one before them, and whether a sample interrupts it before the line's end
pub record Run : Type 0 where
  pub count : ℕ
  pub interrupted : Bool

abbrev pub run_of : ℕ → Bool → Run
run_of count interrupted = record { count = count; interrupted = interrupted }

-- a run partly coded: the number of bits 1 so far, RUNindex, and the number of samples left
pub record Walk : Type 0 where
  pub ones : ℕ
  pub index : ℕ
  pub left : ℕ

-- a bit 1 for each 2^J samples, which raises RUNindex (A.7.1.2); `most` bounds the bits
abbrev pub walk : ℕ → Walk → Walk
walk zero so_far = so_far
walk (suc most) so_far =
    if nat_le (2 ^ order so_far.index) so_far.left
    then walk most (record { ones = so_far.ones + 1; index = min (so_far.index + 1) last_index; left = so_far.left - 2 ^ order so_far.index })
    else so_far

unfoldable pub walked : ℕ → ℕ → Walk
walked index count = walk count (record { ones = 0; index = index; left = count })

-- how a run ends after its bits 1: interrupted, with the number of samples left in J bits; or at the line's end, with samples left or none
abbrev pub tail_of : Bool → Walk → Tail
tail_of true so_far = Interrupted (order so_far.index) so_far.left
tail_of false so_far = if so_far.left == 0 then LineFull else LinePart

-- its bits: for an interrupted run a 0 and those J bits; at the line's end one more 1 if samples are left, else nothing
abbrev pub tail_bits : Tail → List Bool
tail_bits LineFull = []
tail_bits LinePart = true ∷ []
tail_bits (Interrupted width rest) = false ∷ bits_of width rest

-- the number after the 0 fits into its bits
abbrev pub TailFits : Tail → Type 0
TailFits LineFull = Unit {0}
TailFits LinePart = Unit {0}
TailFits (Interrupted width rest) = (width ≤ 15) × (rest < 2 ^ width)

-- the word of a run that begins at this RUNindex, and its bits
unfoldable pub run_word : ℕ → Run → RunWord
run_word index run = record { ones = (walked index run.count).ones; tail = tail_of run.interrupted (walked index run.count) }

abbrev pub word_bits : RunWord → List Bool
word_bits word = replicate word.ones true ++ tail_bits word.tail

abbrev pub run_bits : ℕ → Run → List Bool
run_bits index run = word_bits (run_word index run)

-- RUNindex after a run's bits, at which the sample that interrupts it is coded
abbrev pub index_at : ℕ → Run → ℕ
index_at index run = (walked index run.count).index
