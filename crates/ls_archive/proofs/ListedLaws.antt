-- What is shown by an index that passes a check are the recording's frames.
use Rattle.std.proofs.Common.{◌≡◌, ◌≢◌, ◌<◌, ◌≤◌, ◌+◌, ◌*◌, ◌^◌, ℕ, suc, Bool, true, false, inl, inr, List, [], ◌∷◌, ◌++◌, length, take, drop, get_or, codes, decimal, flat_map, refl, sym, ap, subst, ◌∙◌, arith, append_assoc, length-append}
use Rattle.std.specs.List.{AllByRecursion, AllZip}
use Rattle.std.proofs.lemmas.List.{take-append-drop, drop-drop}
use Rattle.std.proofs.lemmas.Fmt.{decimal_injective, decimal_is_IsNumeral}
use Rattle.std.proofs.lemmas.Str.Parse.{digit_at}
use Rattle.ls_stream.specs.Grammar.{Spells}
use Rattle.ls_film.specs.Film.{most_frames}
use Rattle.ls_film.specs.Listing.{kind_text, column}
use Rattle.ls_archive.specs.Index.{Entry, columns, sum_column, line}
use Rattle.ls_archive.specs.View.Checking.{Line, HasNoLineFeed, beginning, IsLine, AreLines, texts, size_of, HasLine, AreFound}
use Rattle.ls_archive.specs.View.Listed.{Shown, AreShown, texts_of, codestreams_of, frames_of, BeginsLine, codestreams_by, IsIndexFor, ShownAreFrames}
use Rattle.ls_archive.proofs.ColumnLemmas.{same_rest}
use Rattle.ls_archive.proofs.FormLemmas.{first_same}
use Rattle.ls_archive.proofs.LineLemmas.{head_or}

-- ---- where lines begin

-- the first LF of two equal texts, one of which ends a line with it, and the other has it after some lines
cut : (body tail before left : List ℕ) → HasNoLineFeed body → body ++ 10 ∷ tail ≡ before ++ 10 ∷ left
    → (gap : List ℕ) × (before ++ 10 ∷ [] ≡ (body ++ 10 ∷ []) ++ gap) × (tail ≡ gap ++ left) × BeginsLine gap
unfolding head_or
cut [] tail [] left one same = ([], refl, ap (drop 1) same, inl refl)
cut [] tail (b ∷ before) left one same =
    let is : 10 ≡ b = ap (head_or 0) same in
    let rest : tail ≡ before ++ 10 ∷ left = ap (drop 1) same in
    (before ++ 10 ∷ [], ap (λ x. x ∷ (before ++ 10 ∷ [])) (sym is), rest ∙ sym (append_assoc before (10 ∷ []) left), inr (before, refl))
cut (x ∷ body) tail [] left one same = absurd (one.0 (ap (head_or 0) same))
cut (x ∷ body) tail (b ∷ before) left one same =
    let is : x ≡ b = ap (head_or 0) same in
    let later = cut body tail before left one.1 (ap (drop 1) same) in
    (later.0, ap (λ s. b ∷ s) later.1 ∙ ap (λ y. y ∷ ((body ++ 10 ∷ []) ++ later.0)) (sym is), later.2, later.3)

-- Lines that are split where one begins.
record Split (n offset : ℕ) (lines : List Line) (left : List ℕ) : Type 0 where
  before : List Line
  after : List Line
  lines_are : lines ≡ before ++ after
  left_is : left ≡ texts after
  are : AreLines (n + length before) (offset + size_of before) after

split : (n offset : ℕ) (lines : List Line) (front left : List ℕ) → AreLines n offset lines → texts lines ≡ front ++ left → BeginsLine front → Split n offset lines left
split n offset lines front left are same (inl none) =
    let number : n ≡ n + 0 = omega arith in
    let place : offset ≡ offset + 0 = omega arith in
    record {
      before = [];
      after = lines;
      lines_are = refl;
      left_is = sym (same ∙ ap (λ s. s ++ left) none);
      are = subst (λ k. AreLines k (offset + 0) lines) number (subst (λ o. AreLines n o lines) place are);
    }
split n offset [] front left are same (inr ends) =
    absurd (omega (arith, ap length same, length-append front left, ap length ends.1, length-append ends.0 (10 ∷ [])))
split n offset (l ∷ ls) front left are same (inr ends) =
    let body : List ℕ = beginning n offset l.size ++ are.0.rest in
    let text : l.text ≡ body ++ 10 ∷ [] = are.0.text_is in
    let whole : body ++ 10 ∷ texts ls ≡ ends.0 ++ 10 ∷ left =
    sym (append_assoc body (10 ∷ []) (texts ls)) ∙ ap (λ s. s ++ texts ls) (sym text) ∙ same ∙ ap (λ s. s ++ left) ends.1 ∙ append_assoc ends.0 (10 ∷ []) left in
    let gap = cut body (texts ls) ends.0 left are.0.one whole in
    let later : Split (n + 1) (offset + l.size) ls left = split (n + 1) (offset + l.size) ls gap.0 left are.1 gap.2 gap.3 in
    let number : (n + 1) + length later.before ≡ n + length (l ∷ later.before) = omega arith in
    let place : (offset + l.size) + size_of later.before ≡ offset + size_of (l ∷ later.before) = omega arith in
    record {
      before = l ∷ later.before;
      after = later.after;
      lines_are = ap (λ s. l ∷ s) later.lines_are;
      left_is = later.left_is;
      are = subst (λ k. AreLines k (offset + size_of (l ∷ later.before)) later.after) number (subst (λ o. AreLines ((n + 1) + length later.before) o later.after) place later.are);
    }

-- ---- the numbers at the front of a line

all_others : (xs : List ℕ) → ((k : ℕ) → k < length xs → get_or xs k 0 ≡ 32 → ⊥) → AllByRecursion (λ byte. byte ≢ 32) xs
all_others [] none = tt
all_others (x ∷ xs) none = (none 0 (omega arith), all_others xs (λ k less. none (suc k) (omega (arith, less))))

no_blanks : (n : ℕ) → n < 2 ^ 64 → AllByRecursion (λ byte. byte ≢ 32) (decimal n)
no_blanks n small = all_others (decimal n) (λ k less blank.
    let range = digit_at (decimal n) k (decimal_is_IsNumeral n small).0.1 less in
    omega (arith, blank, range))

-- texts up to their first blanks
cut_blank : (p q a b : List ℕ) → AllByRecursion (λ byte. byte ≢ 32) p → AllByRecursion (λ byte. byte ≢ 32) q → p ++ 32 ∷ a ≡ q ++ 32 ∷ b → (p ≡ q) × (a ≡ b)
unfolding head_or
cut_blank [] [] a b none none' same = (refl, ap (drop 1) same)
cut_blank [] (y ∷ q) a b none none' same = absurd (none'.0 (sym (ap (head_or 0) same)))
cut_blank (x ∷ p) [] a b none none' same = absurd (none.0 (ap (head_or 0) same))
cut_blank (x ∷ p) (y ∷ q) a b none none' same =
    let later = cut_blank p q a b none.1 none'.1 (ap (drop 1) same) in
    let is : x ≡ y = ap (head_or 0) same in
    (ap (λ z. z ∷ p) is ∙ ap (λ s. y ∷ s) later.0, later.1)

same_number : (m n : ℕ) (a b : List ℕ) → m < 2 ^ 64 → n < 2 ^ 64 → decimal m ++ 32 ∷ a ≡ decimal n ++ 32 ∷ b → (m ≡ n) × (a ≡ b)
same_number m n a b small small' same =
    let parts = cut_blank (decimal m) (decimal n) a b (no_blanks m small) (no_blanks n small') same in
    (decimal_injective m n small small' parts.0, parts.1)

-- lists that are joined from the left are so from the right
right : (a b c d k f s z : List ℕ) → a ++ b ++ c ++ d ++ k ++ f ++ s ++ z ≡ a ++ (b ++ (c ++ (d ++ (k ++ (f ++ (s ++ z))))))
right a b c d k f s z =
    append_assoc (a ++ b ++ c ++ d ++ k ++ f) s z ∙ append_assoc (a ++ b ++ c ++ d ++ k) f (s ++ z) ∙ append_assoc (a ++ b ++ c ++ d) k (f ++ (s ++ z))
    ∙ append_assoc (a ++ b ++ c) d (k ++ (f ++ (s ++ z))) ∙ append_assoc (a ++ b) c (d ++ (k ++ (f ++ (s ++ z)))) ∙ append_assoc a b (c ++ (d ++ (k ++ (f ++ (s ++ z)))))

-- what follows the size in a line
sized : (sums : Bool) (n offset : ℕ) (e : Entry) → (left : List ℕ) × (line sums n offset e ≡ decimal n ++ 32 ∷ (decimal offset ++ 32 ∷ (decimal (length e.bytes) ++ 32 ∷ left)))
unfolding line
sized sums n offset e = (
  kind_text e.kind ++ (flat_map column (columns e) ++ (sum_column sums e.bytes ++ codes "\n")),
  right (decimal n) (column offset) (column (length e.bytes)) (codes " ") (kind_text e.kind) (flat_map column (columns e)) (sum_column sums e.bytes) (codes "\n"),
)

-- what follows the number and the offset of a line, and a text after it
line_parts : (sums : Bool) (n offset : ℕ) (e : Entry) (rest : List ℕ) → (left : List ℕ) × (line sums n offset e ++ rest ≡ decimal n ++ 32 ∷ (decimal offset ++ 32 ∷ left))
line_parts sums n offset e rest =
    let one = sized sums n offset e in
    let after : List ℕ = decimal (length e.bytes) ++ 32 ∷ one.0 in (
      after ++ rest,
      ap (λ l. l ++ rest) one.1 ∙ append_assoc (decimal n) (32 ∷ (decimal offset ++ 32 ∷ after)) rest ∙ ap (λ s. decimal n ++ 32 ∷ s) (append_assoc (decimal offset) (32 ∷ after) rest),
    )

same_place : (s s' : Bool) (m n o o' : ℕ) (e e' : Entry) (rest more : List ℕ) → m < 2 ^ 64 → n < 2 ^ 64 → o < 2 ^ 64 → o' < 2 ^ 64
    → line s m o e ++ rest ≡ line s' n o' e' ++ more → (m ≡ n) × (o ≡ o')
same_place s s' m n o o' e e' rest more small small' low low' same =
    let one = line_parts s m o e rest in
    let other = line_parts s' n o' e' more in
    let numbers = same_number m n (decimal o ++ 32 ∷ one.0) (decimal o' ++ 32 ∷ other.0) small small' (sym one.1 ∙ same ∙ other.1) in
    let offsets = same_number o o' one.0 other.0 low low' numbers.1 in
    (numbers.0, offsets.0)

-- ---- one line with its sum or without

peel : (p a b rest more : List ℕ) → (p ++ a) ++ rest ≡ (p ++ b) ++ more → a ++ rest ≡ b ++ more
peel p a b rest more same = same_rest p (a ++ rest) (b ++ more) (sym (append_assoc p a rest) ∙ same ∙ append_assoc p b more)

ends : (t : Bool) (n offset : ℕ) (e : Entry) → (front : List ℕ) × (front ≡ decimal n ++ column offset ++ column (length e.bytes) ++ codes " " ++ kind_text e.kind ++ flat_map column (columns e))
    × (line t n offset e ≡ front ++ (sum_column t e.bytes ++ codes "\n"))
unfolding line
ends t n offset e =
    let front : List ℕ = decimal n ++ column offset ++ column (length e.bytes) ++ codes " " ++ kind_text e.kind ++ flat_map column (columns e) in
    (front, refl, append_assoc front (sum_column t e.bytes) (codes "\n"))

same_sums : (s t : Bool) (n offset : ℕ) (e : Entry) (rest more : List ℕ) → line s n offset e ++ rest ≡ line t n offset e ++ more → rest ≡ more
unfolding head_or
same_sums true true n offset e rest more same = same_rest (line true n offset e) rest more same
same_sums false false n offset e rest more same = same_rest (line false n offset e) rest more same
same_sums true false n offset e rest more same =
    let with = ends true n offset e in
    let without = ends false n offset e in
    let front : without.0 ≡ with.0 = without.1 ∙ sym with.1 in
    let left : (sum_column true e.bytes ++ codes "\n") ++ rest ≡ codes "\n" ++ more =
    peel with.0 (sum_column true e.bytes ++ codes "\n") (codes "\n") rest more
    (ap (λ l. l ++ rest) (sym with.2) ∙ same ∙ ap (λ l. l ++ more) (without.2 ∙ ap (λ f. f ++ codes "\n") front)) in
    let clash : 32 ≡ 10 = ap (head_or 0) left in
    absurd (omega (arith, clash))
same_sums false true n offset e rest more same =
    let with = ends true n offset e in
    let without = ends false n offset e in
    let front : without.0 ≡ with.0 = without.1 ∙ sym with.1 in
    let left : codes "\n" ++ rest ≡ (sum_column true e.bytes ++ codes "\n") ++ more =
    peel with.0 (codes "\n") (sum_column true e.bytes ++ codes "\n") rest more
    (ap (λ l. l ++ rest) (sym (without.2 ∙ ap (λ f. f ++ codes "\n") front)) ∙ same ∙ ap (λ l. l ++ more) with.2) in
    let clash : 10 ≡ 32 = ap (head_or 0) left in
    absurd (omega (arith, clash))

-- ---- the codestreams of lines

found_after : (n offset : ℕ) (before after : List Line) (bytes : List ℕ) → AreFound n offset (before ++ after) bytes []
    → AreFound (n + length before) (offset + size_of before) after (drop (size_of before) bytes) []
found_after n offset [] after bytes found =
    let number : n ≡ n + 0 = omega arith in
    let place : offset ≡ offset + 0 = omega arith in
    subst (λ k. AreFound k (offset + 0) after bytes []) number (subst (λ o. AreFound n o after bytes []) place found)
found_after n offset (l ∷ before) after bytes (inl good) =
    let number : (n + 1) + length before ≡ n + length (l ∷ before) = omega arith in
    let place : (offset + l.size) + size_of before ≡ offset + size_of (l ∷ before) = omega arith in
    let later = found_after (n + 1) (offset + l.size) before after (drop l.size bytes) good.1 in
    subst (λ k. AreFound k (offset + size_of (l ∷ before)) after (drop (size_of (l ∷ before)) bytes) []) number
    (subst (λ o. AreFound ((n + 1) + length before) o after (drop (size_of (l ∷ before)) bytes) []) place
    (subst (λ bs. AreFound ((n + 1) + length before) ((offset + l.size) + size_of before) after bs []) (drop-drop (size_of before) l.size bytes) later))
found_after n offset (l ∷ before) after bytes (inr bad) = absurd (omega (arith, ap length bad.2))

by_after : (before after : List Line) (bytes : List ℕ) → drop (length before) (codestreams_by (before ++ after) bytes) ≡ codestreams_by after (drop (size_of before) bytes)
by_after [] after bytes = refl
by_after (l ∷ before) after bytes = by_after before after (drop l.size bytes) ∙ ap (codestreams_by after) (drop-drop (size_of before) l.size bytes)

begin_parts : (n offset size : ℕ) (rest : List ℕ) → beginning n offset size ++ rest ≡ decimal n ++ 32 ∷ (decimal offset ++ 32 ∷ (decimal size ++ 32 ∷ rest))
begin_parts n offset size rest =
    append_assoc (decimal n) (column offset ++ (column size ++ codes " ")) rest
    ∙ ap (λ s. decimal n ++ s) (append_assoc (column offset) (column size ++ codes " ") rest)
    ∙ ap (λ s. decimal n ++ (column offset ++ s)) (append_assoc (column size) (codes " ") rest)

-- a line says the size of its codestream
size_said : (n offset : ℕ) (l : Line) (bytes : List ℕ) → IsLine n offset l → HasLine n offset l.text bytes → l.size ≡ length bytes
size_said n offset l bytes is has =
    let other = sized has.sums n offset has.entry in
    let whole : decimal n ++ 32 ∷ (decimal offset ++ 32 ∷ (decimal l.size ++ 32 ∷ (is.rest ++ codes "\n")))
    ≡ decimal n ++ 32 ∷ (decimal offset ++ 32 ∷ (decimal (length has.entry.bytes) ++ 32 ∷ other.0)) =
    sym (begin_parts n offset l.size (is.rest ++ codes "\n")) ∙ sym (append_assoc (beginning n offset l.size) is.rest (codes "\n")) ∙ sym is.text_is ∙ has.text_is ∙ other.1 in
    let after = ap (drop 1) (same_rest (decimal n) _ _ whole) in
    let sizes = ap (drop 1) (same_rest (decimal offset) _ _ after) in
    (same_number l.size (length has.entry.bytes) (is.rest ++ codes "\n") other.0 (omega (arith, is.few)) (omega (arith, has.is_entry.short)) sizes).0 ∙ ap length has.bytes_are

size_bound : (n offset : ℕ) (before after : List Line) → AreLines n offset (before ++ after) → size_of before ≤ 2 ^ 32 * length before
size_bound n offset [] after are = omega arith
size_bound n offset (l ∷ before) after are = omega (arith, are.0.few, size_bound (n + 1) (offset + l.size) before after are.1)

-- what is shown by lines that stand in the index are their codestreams' frames
shown_found : (n offset : ℕ) (after : List Line) (bytes rest more : List ℕ) (shown : List Shown) → AreLines n offset after → AreFound n offset after bytes [] → AreShown n offset shown
    → texts after ≡ texts_of shown ++ more → bytes ≡ codestreams_of shown ++ rest → AllZip Spells (take (length shown) (codestreams_by after bytes)) (frames_of shown)
shown_found n offset after bytes rest more [] listed found are lines is = tt
shown_found n offset [] bytes rest more (s ∷ ss) listed found are lines is =
    let parts = line_parts are.0.has.sums n offset are.0.has.entry (texts_of ss ++ more) in
    let whole : [] ≡ decimal n ++ 32 ∷ (decimal offset ++ 32 ∷ parts.0) = lines ∙ append_assoc s.text (texts_of ss) more ∙ ap (λ t. t ++ (texts_of ss ++ more)) are.0.has.text_is ∙ parts.1 in
    absurd (omega (arith, ap length whole, length-append (decimal n) (32 ∷ (decimal offset ++ 32 ∷ parts.0))))
shown_found n offset (l ∷ ls) bytes rest more (s ∷ ss) listed (inr bad) are lines is = absurd (omega (arith, ap length bad.2))
shown_found n offset (l ∷ ls) bytes rest more (s ∷ ss) listed (inl good) are lines is =
    let has = good.0.has in
    let its = are.0.has in
    let split_bytes : has.entry.bytes ++ drop l.size bytes ≡ its.entry.bytes ++ (codestreams_of ss ++ rest) =
    ap (λ b. b ++ drop l.size bytes) has.bytes_are ∙ take-append-drop l.size bytes ∙ is ∙ append_assoc s.codestream (codestreams_of ss) rest
    ∙ ap (λ b. b ++ (codestreams_of ss ++ rest)) (sym its.bytes_are) in
    let same = first_same has.entry its.entry (drop l.size bytes) (codestreams_of ss ++ rest) has.is_entry its.is_entry split_bytes in
    let codestream : s.codestream ≡ take l.size bytes = sym its.bytes_are ∙ sym (ap (λ (e : Entry). e.bytes) same.0) ∙ has.bytes_are in
    let split_lines : line has.sums n offset has.entry ++ texts ls ≡ line its.sums n offset has.entry ++ (texts_of ss ++ more) =
    ap (λ t. t ++ texts ls) (sym has.text_is) ∙ lines ∙ append_assoc s.text (texts_of ss) more ∙ ap (λ t. t ++ (texts_of ss ++ more)) its.text_is
    ∙ ap (λ e. line its.sums n offset e ++ (texts_of ss ++ more)) (sym same.0) in
    let next : texts ls ≡ texts_of ss ++ more = same_sums has.sums its.sums n offset has.entry (texts ls) (texts_of ss ++ more) split_lines in
    let shorter : length s.codestream ≡ l.size = ap length codestream ∙ sym (size_said n offset l (take l.size bytes) listed.0 has) in (
      subst (λ b. Spells b s.frame) codestream are.0.spells,
      shown_found (n + 1) (offset + l.size) ls (drop l.size bytes) rest more ss listed.1 good.1 (subst (λ k. AreShown (n + 1) (offset + k) ss) shorter are.1) next same.1,
    )

-- the first of what is shown stands where its line says
placed : (N O first offset : ℕ) (after : List Line) (bytes rest more : List ℕ) (s : Shown) (ss : List Shown) → N < 2 ^ 64 → O < 2 ^ 64 → first < 2 ^ 64 → offset < 2 ^ 64
    → AreFound N O after bytes [] → AreShown first offset (s ∷ ss) → texts after ≡ texts_of (s ∷ ss) ++ more → (N ≡ first) × (O ≡ offset)
placed N O first offset [] bytes rest more s ss high low small little found are lines =
    let has = are.0.has in
    let parts = line_parts has.sums first offset has.entry (texts_of ss ++ more) in
    let whole : [] ≡ decimal first ++ 32 ∷ (decimal offset ++ 32 ∷ parts.0) = lines ∙ append_assoc s.text (texts_of ss) more ∙ ap (λ t. t ++ (texts_of ss ++ more)) has.text_is ∙ parts.1 in
    absurd (omega (arith, ap length whole, length-append (decimal first) (32 ∷ (decimal offset ++ 32 ∷ parts.0))))
placed N O first offset (l ∷ ls) bytes rest more s ss high low small little (inr bad) are lines = absurd (omega (arith, ap length bad.2))
placed N O first offset (l ∷ ls) bytes rest more s ss high low small little (inl good) are lines =
    let has = good.0.has in
    let its = are.0.has in
    same_place has.sums its.sums N first O offset has.entry its.entry (texts ls) (texts_of ss ++ more) high small low little
    (ap (λ t. t ++ texts ls) (sym has.text_is) ∙ lines ∙ append_assoc s.text (texts_of ss) more ∙ ap (λ t. t ++ (texts_of ss ++ more)) its.text_is)

frames_shown : (index recording front left rest more : List ℕ) (lines : List Line) (first offset : ℕ) (shown : List Shown)
    → IsIndexFor index recording lines → index ≡ front ++ left → BeginsLine front → first < most_frames → offset < 2 ^ 64
    → AreShown first offset shown → 0 < length shown → left ≡ texts_of shown ++ more → drop offset recording ≡ codestreams_of shown ++ rest
    → AllZip Spells (take (length shown) (drop first (codestreams_by lines recording))) (frames_of shown)
frames_shown index recording front left rest more lines first offset [] is parts begins few small are some said read = absurd (omega (arith, some))
frames_shown index recording front left rest more lines first offset (s ∷ ss) is parts begins few small are some said read =
    let cut_lines = split 0 0 lines front left is.are (sym is.index_is ∙ parts) begins in
    let before = cut_lines.before in
    let after = cut_lines.after in
    let whole : AreLines 0 0 (before ++ after) = subst (AreLines 0 0) cut_lines.lines_are is.are in
    let found : AreFound (0 + length before) (0 + size_of before) after (drop (size_of before) recording) [] =
    found_after 0 0 before after recording (subst (λ ls. AreFound 0 0 ls recording []) cut_lines.lines_are is.good) in
    let texts_are : texts after ≡ texts_of (s ∷ ss) ++ more = sym cut_lines.left_is ∙ said in
    let count : length lines ≡ length before + length after = ap length cut_lines.lines_are ∙ length-append before after in
    let place = placed (0 + length before) (0 + size_of before) first offset after (drop (size_of before) recording) rest more s ss
    (omega (arith, count, is.few)) (omega (arith, count, is.few, size_bound 0 0 before after whole)) (omega (arith, few)) small found are texts_are in
    let number : length before ≡ first = omega (arith, place.0) in
    let start : size_of before ≡ offset = omega (arith, place.1) in
    let listed_there : AreLines first offset after = subst (λ k. AreLines k offset after) place.0 (subst (λ o. AreLines (0 + length before) o after) place.1 cut_lines.are) in
    let found_there : AreFound first offset after (drop offset recording) [] =
    subst (λ k. AreFound k offset after (drop offset recording) []) place.0
    (subst (λ o. AreFound (0 + length before) o after (drop offset recording) []) place.1
    (subst (λ o. AreFound (0 + length before) (0 + size_of before) after (drop o recording) []) start found)) in
    let codestreams : drop first (codestreams_by lines recording) ≡ codestreams_by after (drop offset recording) =
    ap (λ k. drop k (codestreams_by lines recording)) (sym number) ∙ ap (λ ls. drop (length before) (codestreams_by ls recording)) cut_lines.lines_are
    ∙ by_after before after recording ∙ ap (λ o. codestreams_by after (drop o recording)) start in
    subst (λ cs. AllZip Spells (take (length (s ∷ ss)) cs) (frames_of (s ∷ ss))) (sym codestreams)
    (shown_found first offset after (drop offset recording) rest more (s ∷ ss) listed_there found_there are texts_are read)

pub shown_are_frames : ShownAreFrames
shown_are_frames = frames_shown
