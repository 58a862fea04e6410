-- Reading a steps file as a function on lists.
use Rattle.std.specs.Prelude.{◌≡◌, ℕ, ◌+◌, ◌-◌, ◌^◌, Bool, not, ◌&&◌, ◌==◌, if◌then◌else◌, nat_le, List, [], ◌∷◌, ◌++◌, length, take, drop, codes, bytes_eq, Option, Some, None, Result, Ok, Err}
use Rattle.std.specs.List.{list_all, prefix_len, slice_split}
use Rattle.std.specs.Borrow.{Bor}
use Rattle.ls_frame.specs.Netpbm.{is_digit, decimal_value}
use Rattle.ls_queue.specs.declared.steps.Step.{Step}
use Rattle.ls_queue.specs.declared.steps.Step.TheVariants as step
use Rattle.ls_replay.specs.declared.steps_file.StepsFault.{StepsFault}
use Rattle.ls_replay.specs.declared.steps_file.StepsFault.TheVariants.{NotAStep, NoMemory}
use Rattle.ls_replay.specs.declared.steps_file.Line.{Line}
use Rattle.ls_replay.specs.declared.steps_file.Line.TheVariants as line
use Rattle.ls_replay.specs.StepsFile.{is_blank, is_end}

-- each LF of a text ends a line; after the last LF there is one more line, perhaps empty
abbrev pub lines_of : List ℕ → List (List ℕ)
lines_of text = slice_split is_end text

-- the lines of the remaining text, if there is one
abbrev pub lines_after : Option (Bor (List ℕ)) → List (List ℕ)
lines_after None = []
lines_after (Some text) = lines_of text.now

-- a bound on the number of these lines
abbrev pub left_in : Option (Bor (List ℕ)) → ℕ
left_in None = 0
left_in (Some text) = length text.now + 1

abbrev pub without_blanks : List ℕ → List ℕ
without_blanks text = drop (prefix_len is_blank text) text

abbrev pub first_word : List ℕ → List ℕ
first_word text = take (prefix_len (λ c. not (is_blank c)) (without_blanks text)) (without_blanks text)

abbrev pub after_word : List ℕ → List ℕ
after_word text = drop (prefix_len (λ c. not (is_blank c)) (without_blanks text)) (without_blanks text)

abbrev pub is_none : List ℕ → Bool
is_none word = length word == 0

-- the number that a word writes, if it is at most `most`
abbrev pub number_of : ℕ → List ℕ → Option ℕ
number_of most word = (if not (is_none word) && list_all is_digit word && nat_le (decimal_value word) most then Some (decimal_value word) else None)

abbrev pub put_of : Option ℕ → Option ℕ → Line
put_of (Some s) (Some x) = line.Step (step.Put s x)
put_of (Some s) None = line.Other
put_of None x = line.Other

abbrev pub close_of : Option ℕ → Line
close_of (Some s) = line.Step (step.Close s)
close_of None = line.Other

abbrev pub step_of : List ℕ → List ℕ → List ℕ → Line
step_of first second third =
    (if bytes_eq first (codes "put") then put_of (number_of 255 second) (number_of (2 ^ 64 - 1) third) else
    (if bytes_eq first (codes "close") && is_none third then close_of (number_of 255 second) else
    (if bytes_eq first (codes "take") && is_none second then line.Step step.Take else line.Other)))

abbrev pub line_of : List ℕ → Line
line_of text =
    let second = after_word text in
    let third = after_word second in
    let fourth = after_word third in
    (if is_none (first_word text) then line.Blank else (if is_none (first_word fourth) then step_of (first_word text) (first_word second) (first_word third) else line.Other))

abbrev pub with_front : List Step → Result (List Step) ℕ → Result (List Step) ℕ
with_front steps (Ok more) = Ok (steps ++ more)
with_front steps (Err n) = Err n

abbrev pub after_line : ℕ → Line → Result (List Step) ℕ → Result (List Step) ℕ
after_line n line.Blank rest = rest
after_line n (line.Step step) rest = with_front (step ∷ []) rest
after_line n line.Other rest = Err n

-- the steps of lines that are numbered from n on; or the number of the first line that has words but is no step
abbrev pub steps_from : ℕ → List (List ℕ) → Result (List Step) ℕ
steps_from n [] = Ok []
steps_from n (text ∷ lines) = after_line n (line_of text) (steps_from (n + 1) lines)

-- the steps of a text; or the number, from 1, of its first line that has words but is no step
abbrev pub steps_of : List ℕ → Result (List Step) ℕ
steps_of text = steps_from 1 (lines_of text)

-- a fault other than NoMemory has that number
abbrev pub IsReadFault : List ℕ → StepsFault → Type 0
IsReadFault text (NotAStep n) = steps_of text ≡ Err n
IsReadFault text NoMemory = Unit {0}
