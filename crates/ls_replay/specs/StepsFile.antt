-- The grammar of a steps file: lines that are steps or have no words, each ended by LF, which the last one may lack.
use Rattle.std.specs.Prelude.{◌≡◌, ℕ, ◌+◌, ◌<◌, ◌^◌, ◌==◌, not, Bool, IsTrue, List, [], ◌∷◌, ◌++◌, length, codes}
use Rattle.std.specs.List.{AllByRecursion, join_with_byte}
use Rattle.ls_frame.specs.Netpbm.{IsNumber, decimal_value}
use Rattle.ls_queue.specs.declared.steps.Step.{Step}
use Rattle.ls_replay.specs.declared.steps_file.StepsFault.{StepsFault}
use Rattle.ls_replay.specs.declared.steps_file.StepsFault.TheVariants.{NotAStep, NoMemory}
use Rattle.ls_queue.specs.declared.steps.Step.TheVariants as step

-- a blank, between words and at either end of a line; a TAB isn't one
abbrev pub is_blank : ℕ → Bool
is_blank c = c == 32

-- LF
abbrev pub is_end : ℕ → Bool
is_end c = c == 10

-- ---- words

abbrev pub AreBlanks : List ℕ → Type 0
AreBlanks text = AllByRecursion (λ c. IsTrue (is_blank c)) text

-- a word is one or more bytes, none of which is a blank
pub record IsWord (word : List ℕ) : Type 0 where
  pub some : 0 < length word
  pub each : AllByRecursion (λ c. IsTrue (not (is_blank c))) word

-- a word ends before a blank, or at the end of the line
abbrev pub EndsWord : List ℕ → Type 0
EndsWord [] = Unit {0}
EndsWord (c ∷ text) = IsTrue (is_blank c)

-- A line with these words: blanks, and for each word the word and what follows it.
abbrev pub HasWords : List ℕ → List (List ℕ) → Type 0
HasWords text [] = AreBlanks text
HasWords text (word ∷ words) =
    (blanks : List ℕ) × (rest : List ℕ) × (text ≡ blanks ++ (word ++ rest)) × AreBlanks blanks × IsWord word × EndsWord rest × HasWords rest words

-- ---- steps

-- the decimal digits of a number, perhaps with leading zeros
abbrev pub Writes : List ℕ → ℕ → Type 0
Writes word n = IsNumber word × (decimal_value word ≡ n)

-- the words that say a step: sources are 0 to 255, items 0 to 2^64 - 1
abbrev pub SayStep : List (List ℕ) → Step → Type 0
SayStep words (step.Put s x) = (source : List ℕ) × (item : List ℕ) × (words ≡ codes "put" ∷ source ∷ item ∷ []) × Writes source s × (s < 2 ^ 8) × Writes item x × (x < 2 ^ 64)
SayStep words (step.Close s) = (source : List ℕ) × (words ≡ codes "close" ∷ source ∷ []) × Writes source s × (s < 2 ^ 8)
SayStep words step.Take = words ≡ codes "take" ∷ []

-- a line has no words and says no step, or its words say one
abbrev pub IsLine : List ℕ → List Step → Type 0
IsLine text [] = HasWords text []
IsLine text (step ∷ []) = (words : List (List ℕ)) × HasWords text words × SayStep words step
IsLine text (step ∷ other ∷ steps) = ⊥

-- ---- lines

-- lines that say these steps, in order
abbrev pub AreLines : List (List ℕ) → List Step → Type 0
AreLines [] steps = steps ≡ []
AreLines (line ∷ lines) steps = (here : List Step) × (rest : List Step) × (steps ≡ here ++ rest) × IsLine line here × AreLines lines rest

-- A text is its lines, separated by LF; no line contains one. So the last line of a text that ends with LF is empty.
pub record IsText (text : List ℕ) (lines : List (List ℕ)) : Type 0 where
  pub some : 0 < length lines
  pub joined : text ≡ join_with_byte 10 lines
  pub each : AllByRecursion (λ line. AllByRecursion (λ c. IsTrue (not (is_end c))) line) lines

pub record IsStepsFile (text : List ℕ) (steps : List Step) : Type 0 where
  pub lines : List (List ℕ)
  pub text_is : IsText text lines
  pub says : AreLines lines steps

-- legal lines, followed by the first line that isn't, which is the n-th, from 1
pub record BreaksAt (text : List ℕ) (n : ℕ) : Type 0 where
  pub front : List (List ℕ)
  pub line : List ℕ
  pub back : List (List ℕ)
  pub text_is : IsText text (front ++ line ∷ back)
  pub count : n ≡ length front + 1
  pub steps : List Step
  pub says : AreLines front steps
  pub breaks : (steps : List Step) → IsLine line steps → ⊥

-- a fault other than NoMemory names the first line that isn't legal
abbrev pub IsFaultOf : List ℕ → StepsFault → Type 0
IsFaultOf text (NotAStep n) = BreaksAt text n
IsFaultOf text NoMemory = Unit {0}
