-- A text is a steps file, or has a first line that isn't legal: reading agrees with the grammar, in both directions.
use Rattle.std.proofs.Common.{◌⊎◌, inl, inr, ◌≡◌, ℕ, ◌+◌, ◌-◌, ◌^◌, ◌<◌, Bool, true, false, not, ◌&&◌, cond, if◌then◌else◌, IsTrue, List, [], ◌∷◌, ◌++◌, length, drop, Option, Some, None, Result, Ok, Err, MatchResult, IfOk, IfErr, bytes_eq, codes, refl, sym, ap, subst, ◌∙◌, arith, append-nil}
use Rattle.std.specs.List.{prefix_len, slice_split, onto_first, join_with_byte, AllByRecursion}
use Rattle.std.proofs.lemmas.Bool.{eqb-true}
use Rattle.ls_queue.specs.declared.steps.Step.{Step}
use Rattle.ls_queue.specs.declared.steps.Step.TheVariants as step
use Rattle.ls_replay.specs.declared.steps_file.StepsFault.{StepsFault}
use Rattle.ls_replay.specs.declared.steps_file.StepsFault.TheVariants.{NotAStep, NoMemory}
use Rattle.ls_replay.specs.declared.steps_file.Line.{Line}
use Rattle.ls_replay.specs.declared.steps_file.Line.TheVariants as line
use Rattle.ls_replay.specs.StepsFile.{is_blank, is_end, AreBlanks, HasWords, IsLine, AreLines, IsText, IsStepsFile, BreaksAt, IsFaultOf}
use Rattle.ls_replay.specs.View.StepsReading.{lines_of, first_word, after_word, is_none, number_of, put_of, close_of, step_of, line_of, with_front, after_line, steps_from, steps_of, IsReadFault}
use Rattle.ls_replay.proofs.StepsReadingLemmas.{with_front-with_front}
use Rattle.ls_replay.proofs.GrammarLemmas.{blanks-none, words-none, words-found, no-words-found, number-read, line-says}

-- ---- lines

-- after a line without words there are no words
blank-after : (text : List ℕ) → HasWords text [] → HasWords (after_word text) []
blank-after text all =
    let none : after_word text ≡ [] = ap (λ t. drop (prefix_len (λ c. not (is_blank c)) t) t) (blanks-none text all) in
    subst AreBlanks (sym none) tt

-- a line that says a step is read as that step
pub line-read : (text : List ℕ) (st : Step) → IsLine text (st ∷ []) → line_of text ≡ line.Step st
line-read text (step.Put s x) (words, has, (a, b, same, source, small, item, large)) =
    let all : HasWords text (codes "put" ∷ a ∷ b ∷ []) = subst (HasWords text) same has in
    let one = words-found text (codes "put") (a ∷ b ∷ []) all in
    let two = words-found (after_word text) a (b ∷ []) one.1 in
    let three = words-found (after_word (after_word text)) b [] two.1 in
    let four = no-words-found (after_word (after_word (after_word text))) three.1 in
    ap (λ w. if is_none w then line.Blank else (if is_none (first_word (after_word (after_word (after_word text)))) then step_of w (first_word (after_word text)) (first_word (after_word (after_word text))) else line.Other)) one.0
    ∙ ap (λ w. if is_none w then step_of (codes "put") (first_word (after_word text)) (first_word (after_word (after_word text))) else line.Other) four
    ∙ ap (λ w. put_of (number_of 255 w) (number_of (2 ^ 64 - 1) (first_word (after_word (after_word text))))) two.0
    ∙ ap (λ w. put_of (number_of 255 a) (number_of (2 ^ 64 - 1) w)) three.0
    ∙ ap (λ n. put_of n (number_of (2 ^ 64 - 1) b)) (number-read 255 s a source (omega (arith, small)))
    ∙ ap (put_of (Some s)) (number-read (2 ^ 64 - 1) x b item (omega (arith, large)))
line-read text (step.Close s) (words, has, (a, same, source, small)) =
    let all : HasWords text (codes "close" ∷ a ∷ []) = subst (HasWords text) same has in
    let one = words-found text (codes "close") (a ∷ []) all in
    let two = words-found (after_word text) a [] one.1 in
    let three = no-words-found (after_word (after_word text)) two.1 in
    let four : first_word (after_word (after_word (after_word text))) ≡ [] = no-words-found (after_word (after_word (after_word text))) (blank-after (after_word (after_word text)) two.1) in
    ap (λ w. if is_none w then line.Blank else (if is_none (first_word (after_word (after_word (after_word text)))) then step_of w (first_word (after_word text)) (first_word (after_word (after_word text))) else line.Other)) one.0
    ∙ ap (λ w. if is_none w then step_of (codes "close") (first_word (after_word text)) (first_word (after_word (after_word text))) else line.Other) four
    ∙ ap (λ w. if is_none w then close_of (number_of 255 (first_word (after_word text))) else (if bytes_eq (codes "close") (codes "take") && is_none (first_word (after_word text)) then line.Step step.Take else line.Other)) three
    ∙ ap (λ w. close_of (number_of 255 w)) two.0
    ∙ ap close_of (number-read 255 s a source (omega (arith, small)))
line-read text step.Take (words, has, same) =
    let all : HasWords text (codes "take" ∷ []) = subst (HasWords text) same has in
    let one = words-found text (codes "take") [] all in
    let two = no-words-found (after_word text) one.1 in
    let second = blank-after (after_word text) one.1 in
    let four : first_word (after_word (after_word (after_word text))) ≡ [] = no-words-found (after_word (after_word (after_word text))) (blank-after (after_word (after_word text)) second) in
    ap (λ w. if is_none w then line.Blank else (if is_none (first_word (after_word (after_word (after_word text)))) then step_of w (first_word (after_word text)) (first_word (after_word (after_word text))) else line.Other)) one.0
    ∙ ap (λ w. if is_none w then step_of (codes "take") (first_word (after_word text)) (first_word (after_word (after_word text))) else line.Other) four
    ∙ ap (λ w. if is_none w then line.Step step.Take else line.Other) two

pub blank-read : (text : List ℕ) → HasWords text [] → line_of text ≡ line.Blank
blank-read text all =
    let first = no-words-found text all in
    ap (λ w. if is_none w then line.Blank else (if is_none (first_word (after_word (after_word (after_word text)))) then step_of w (first_word (after_word text)) (first_word (after_word (after_word text))) else line.Other)) first

put_of-not_blank : (s x : Option ℕ) → put_of s x ≡ line.Blank → ⊥
put_of-not_blank (Some s) (Some x) e = cc
put_of-not_blank (Some s) None e = cc
put_of-not_blank None x e = cc

close_of-not_blank : (s : Option ℕ) → close_of s ≡ line.Blank → ⊥
close_of-not_blank (Some s) e = cc
close_of-not_blank None e = cc

not_blank : (a b c : Bool) (p q : Line) → (p ≡ line.Blank → ⊥) → (q ≡ line.Blank → ⊥) → (if a then p else (if b then q else (if c then line.Step step.Take else line.Other))) ≡ line.Blank → ⊥
not_blank true b c p q free none e = free e
not_blank false true c p q free none e = none e
not_blank false false true p q free none e = cc
not_blank false false false p q free none e = cc

is_blank_line : (a b : Bool) (p : Line) → (p ≡ line.Blank → ⊥) → (if a then line.Blank else (if b then p else line.Other)) ≡ line.Blank → a ≡ true
is_blank_line true b p free e = refl
is_blank_line false true p free e = absurd (free e)
is_blank_line false false p free e = cc

pub blank-says : (text : List ℕ) → line_of text ≡ line.Blank → HasWords text []
blank-says text e =
    let second = first_word (after_word text) in
    let third = first_word (after_word (after_word text)) in
    words-none text (is_blank_line (is_none (first_word text)) (is_none (first_word (after_word (after_word (after_word text))))) (step_of (first_word text) second third)
    (not_blank (bytes_eq (first_word text) (codes "put")) (bytes_eq (first_word text) (codes "close") && is_none third) (bytes_eq (first_word text) (codes "take") && is_none second)
    (put_of (number_of 255 second) (number_of (2 ^ 64 - 1) third)) (close_of (number_of 255 second))
    (put_of-not_blank (number_of 255 second) (number_of (2 ^ 64 - 1) third)) (close_of-not_blank (number_of 255 second))) e)

pub other-breaks : (text : List ℕ) → line_of text ≡ line.Other → (steps : List Step) → IsLine text steps → ⊥
other-breaks text e [] says = let free = blank-read text says in cc
other-breaks text e (st ∷ []) says = let free = line-read text st says in cc
other-breaks text e (st ∷ other ∷ steps) says = says

-- ---- texts

join-more : (text : List ℕ) (lines : List (List ℕ)) → 0 < length lines → join_with_byte 10 (text ∷ lines) ≡ text ++ (10 ∷ join_with_byte 10 lines)
join-more text [] some = absurd (omega (arith, some))
join-more text (other ∷ lines) some = refl

onto : (c : ℕ) (text : List ℕ) (lines : List (List ℕ)) → IsTrue (not (is_end c)) → IsText text lines → IsText (c ∷ text) (onto_first c lines)
onto c text [] free is = absurd (omega (arith, is.some))
onto c text (l ∷ []) free is = record { some = omega arith; joined = ap (λ t. c ∷ t) is.joined; each = ((free, is.each.0), is.each.1) }
onto c text (l ∷ m ∷ lines) free is = record { some = omega arith; joined = ap (λ t. c ∷ t) is.joined; each = ((free, is.each.0), is.each.1) }

pub text-of-lines : (text : List ℕ) → IsText text (lines_of text)
text-of-lines [] = record { some = omega arith; joined = refl; each = (tt, tt) }
text-of-lines (c ∷ text) =
    let before = text-of-lines text in
    let P : Bool → Type 0 = λ b. is_end c ≡ b → IsText (c ∷ text) (cond b ([] ∷ slice_split is_end text) (onto_first c (slice_split is_end text))) in
    let both : P (is_end c) = elim (is_end c) as P [
      | true ↦ λ e. record {
        some = omega arith;
        joined = ap (λ d. d ∷ text) (eqb-true c 10 e) ∙ ap (λ t. 10 ∷ t) before.joined ∙ sym (join-more [] (slice_split is_end text) before.some);
        each = (tt, before.each);
      }
      | false ↦ λ e. onto c text (slice_split is_end text) (ap not e) before
    ] in
    both refl

not_true : (b : Bool) → not b ≡ true → b ≡ false
not_true true e = sym e
not_true false e = refl

line-alone : (text : List ℕ) → AllByRecursion (λ c. IsTrue (not (is_end c))) text → lines_of text ≡ text ∷ []
line-alone [] free = refl
line-alone (c ∷ text) free =
    ap (λ b. cond b ([] ∷ slice_split is_end text) (onto_first c (slice_split is_end text))) (not_true (is_end c) free.0) ∙ ap (onto_first c) (line-alone text free.1)

line-then : (text rest : List ℕ) → AllByRecursion (λ c. IsTrue (not (is_end c))) text → lines_of (text ++ (10 ∷ rest)) ≡ text ∷ lines_of rest
line-then [] rest free = refl
line-then (c ∷ text) rest free =
    ap (λ b. cond b ([] ∷ slice_split is_end (text ++ (10 ∷ rest))) (onto_first c (slice_split is_end (text ++ (10 ∷ rest))))) (not_true (is_end c) free.0) ∙ ap (onto_first c) (line-then text rest free.1)

lines-joined : (lines : List (List ℕ)) → 0 < length lines → AllByRecursion (λ l. AllByRecursion (λ c. IsTrue (not (is_end c))) l) lines → lines_of (join_with_byte 10 lines) ≡ lines
lines-joined [] some free = absurd (omega (arith, some))
lines-joined (l ∷ []) some free = line-alone l free.0
lines-joined (l ∷ m ∷ lines) some free = line-then l (join_with_byte 10 (m ∷ lines)) free.0 ∙ ap (λ rest. l ∷ rest) (lines-joined (m ∷ lines) (omega arith) free.1)

pub lines-of-text : (text : List ℕ) (lines : List (List ℕ)) → IsText text lines → lines_of text ≡ lines
lines-of-text text lines is = ap lines_of is.joined ∙ lines-joined lines is.some is.each

-- ---- steps

-- legal lines, followed by one that isn't
record IsBroken (n : ℕ) (lines : List (List ℕ)) (k : ℕ) : Type 0 where
  front : List (List ℕ)
  text : List ℕ
  back : List (List ℕ)
  whole : lines ≡ front ++ text ∷ back
  count : k ≡ n + length front
  steps : List Step
  says : AreLines front steps
  breaks : line_of text ≡ line.Other

with-nothing : (rest : Result (List Step) ℕ) → with_front [] rest ≡ rest
with-nothing (Ok steps) = refl
with-nothing (Err n) = refl

stopped : (n k : ℕ) → ◌≡◌ {A = Result (List Step) ℕ} (Err n) (Err k) → k ≡ n + 0
stopped n k e = let same : n ≡ k = cc in omega (arith, same)

front_ok : (st : Step) (rest : Result (List Step) ℕ) (steps : List Step) → with_front (st ∷ []) rest ≡ Ok steps → (more : List Step) × (rest ≡ Ok more) × (steps ≡ st ∷ more)
front_ok st (Ok more) steps e = (more, refl, cc)
front_ok st (Err n) steps e = cc

front_err : (st : Step) (rest : Result (List Step) ℕ) (k : ℕ) → with_front (st ∷ []) rest ≡ Err k → rest ≡ Err k
front_err st (Ok more) k e = cc
front_err st (Err n) k e = cc

ok-says : (n : ℕ) (lines : List (List ℕ)) (steps : List Step) → steps_from n lines ≡ Ok steps → AreLines lines steps
ok-says n [] steps e = cc
ok-says n (text ∷ lines) steps e =
    let rest = steps_from (n + 1) lines in
    let P : Line → Type 0 = λ l. line_of text ≡ l → after_line n l rest ≡ Ok steps → AreLines (text ∷ lines) steps in
    let both : P (line_of text) = elim (line_of text) as P [
      | line.Blank ↦ λ is h. ([], steps, refl, blank-says text is, ok-says (n + 1) lines steps h)
      | line.Step st ↦ λ is h.
          let more = front_ok st rest steps h in
          (st ∷ [], more.0, more.2, line-says text st is, ok-says (n + 1) lines more.0 more.1)
      | line.Other ↦ λ is h. cc
    ] in
    both refl e

err-says : (n : ℕ) (lines : List (List ℕ)) (k : ℕ) → steps_from n lines ≡ Err k → IsBroken n lines k
err-says n [] k e = cc
err-says n (text ∷ lines) k e =
    let rest = steps_from (n + 1) lines in
    let P : Line → Type 0 = λ l. line_of text ≡ l → after_line n l rest ≡ Err k → IsBroken n (text ∷ lines) k in
    let both : P (line_of text) = elim (line_of text) as P [
      | line.Blank ↦ λ is h.
          let later = err-says (n + 1) lines k h in
          record {
            front = text ∷ later.front;
            text = later.text;
            back = later.back;
            whole = ap (λ all. text ∷ all) later.whole;
            count = omega (arith, later.count);
            steps = later.steps;
            says = ([], later.steps, refl, blank-says text is, later.says);
            breaks = later.breaks;
          }
      | line.Step st ↦ λ is h.
          let later = err-says (n + 1) lines k (front_err st rest k h) in
          record {
            front = text ∷ later.front;
            text = later.text;
            back = later.back;
            whole = ap (λ all. text ∷ all) later.whole;
            count = omega (arith, later.count);
            steps = st ∷ later.steps;
            says = (st ∷ [], later.steps, refl, line-says text st is, later.says);
            breaks = later.breaks;
          }
      | line.Other ↦ λ is h. record { front = []; text = text; back = lines; whole = refl; count = stopped n k h; steps = []; says = refl; breaks = is }
    ] in
    both refl e

says-line : (n : ℕ) (text : List ℕ) (here : List Step) (rest : Result (List Step) ℕ) → IsLine text here → after_line n (line_of text) rest ≡ with_front here rest
says-line n text [] rest says = ap (λ l. after_line n l rest) (blank-read text says) ∙ sym (with-nothing rest)
says-line n text (st ∷ []) rest says = ap (λ l. after_line n l rest) (line-read text st says)
says-line n text (st ∷ other ∷ steps) rest says = absurd says

-- lines that say steps, followed by others
says-front : (n : ℕ) (front back : List (List ℕ)) (steps : List Step) → AreLines front steps → steps_from n (front ++ back) ≡ with_front steps (steps_from (n + length front) back)
says-front n [] back steps says =
    sym (with-nothing (steps_from n back)) ∙ ap (λ all. with_front all (steps_from n back)) (sym says) ∙ ap (λ k. with_front steps (steps_from k back)) (omega arith)
says-front n (text ∷ front) back steps (here, rest, whole, line, more) =
    let later = says-front (n + 1) front back rest more in
    says-line n text here (steps_from (n + 1) (front ++ back)) line ∙ ap (with_front here) later ∙ with_front-with_front here rest (steps_from (n + 1 + length front) back)
    ∙ ap (λ all. with_front all (steps_from (n + 1 + length front) back)) (sym whole) ∙ ap (λ k. with_front steps (steps_from k back)) (omega arith)

-- ---- the four directions

pub ok-is_file : (text : List ℕ) (steps : List Step) → steps_of text ≡ Ok steps → IsStepsFile text steps
ok-is_file text steps e = record { lines = lines_of text; text_is = text-of-lines text; says = ok-says 1 (lines_of text) steps e }

pub err-breaks : (text : List ℕ) (k : ℕ) → steps_of text ≡ Err k → BreaksAt text k
err-breaks text k e =
    let broken = err-says 1 (lines_of text) k e in
    record {
      front = broken.front;
      line = broken.text;
      back = broken.back;
      text_is = subst (IsText text) broken.whole (text-of-lines text);
      count = omega (arith, broken.count);
      steps = broken.steps;
      says = broken.says;
      breaks = other-breaks broken.text broken.breaks;
    }

pub file-is_read : (text : List ℕ) (steps : List Step) → IsStepsFile text steps → steps_of text ≡ Ok steps
file-is_read text steps file =
    ap (steps_from 1) (lines-of-text text file.lines file.text_is ∙ sym (append-nil file.lines)) ∙ says-front 1 file.lines [] steps file.says ∙ ap Ok (append-nil steps)

line-breaks : (text : List ℕ) → ((steps : List Step) → IsLine text steps → ⊥) → line_of text ≡ line.Other
line-breaks text breaks =
    let P : Line → Type 0 = λ l. line_of text ≡ l → l ≡ line.Other in
    let both : P (line_of text) = elim (line_of text) as P [
      | line.Blank ↦ λ is. absurd (breaks [] (blank-says text is))
      | line.Step st ↦ λ is. absurd (breaks (st ∷ []) (line-says text st is))
      | line.Other ↦ λ is. refl
    ] in
    both refl

pub break-is_read : (text : List ℕ) (k : ℕ) → BreaksAt text k → steps_of text ≡ Err k
break-is_read text k broken =
    ap (steps_from 1) (lines-of-text text (broken.front ++ broken.line ∷ broken.back) broken.text_is)
    ∙ says-front 1 broken.front (broken.line ∷ broken.back) broken.steps broken.says
    ∙ ap (λ l. with_front broken.steps (after_line (1 + length broken.front) l (steps_from (1 + length broken.front + 1) broken.back))) (line-breaks broken.line broken.breaks)
    ∙ ap Err (omega (arith, broken.count))

-- ---- a result

module _ {X : Type 0} (items : X → List Step) (text : List ℕ) where
  pub answer-ok : (r : Result X StepsFault) → MatchResult r (λ v. steps_of text ≡ Ok (items v)) (λ fault. IsReadFault text fault) → IfOk r (λ v. IsStepsFile text (items v))
  answer-ok (Ok v) e = ok-is_file text (items v) e
  answer-ok (Err fault) e = tt

  pub answer-fault : (r : Result X StepsFault) → MatchResult r (λ v. steps_of text ≡ Ok (items v)) (λ fault. IsReadFault text fault) → IfErr r (λ fault. IsFaultOf text fault)
  answer-fault (Ok v) e = tt
  answer-fault (Err (NotAStep n)) e = err-breaks text n e
  answer-fault (Err NoMemory) e = tt

  pub answer-whole : (r : Result X StepsFault) → MatchResult r (λ v. steps_of text ≡ Ok (items v)) (λ fault. IsReadFault text fault) → (steps : List Step) → IsStepsFile text steps
      → MatchResult r (λ v. items v ≡ steps) (λ fault. fault ≡ NoMemory)
  answer-whole (Ok v) e steps file = let same = file-is_read text steps file in cc
  answer-whole (Err (NotAStep n)) e steps file = let same = file-is_read text steps file in cc
  answer-whole (Err NoMemory) e steps file = refl

  pub answer-breaks : (r : Result X StepsFault) → MatchResult r (λ v. steps_of text ≡ Ok (items v)) (λ fault. IsReadFault text fault) → (n : ℕ) → BreaksAt text n
      → MatchResult r (λ v. ⊥) (λ fault. (fault ≡ NotAStep n) ⊎ (fault ≡ NoMemory))
  answer-breaks (Ok v) e n broken = let same = break-is_read text n broken in cc
  answer-breaks (Err (NotAStep m)) e n broken = let same = break-is_read text n broken in inl (cc)
  answer-breaks (Err NoMemory) e n broken = inr refl
