-- The first line of the bytes of an index, and the number at the front of a text, up to a blank.
use Rattle.std.proofs.Common.{◌≡◌, ◌≢◌, inl, inr, ℕ, zero, suc, ◌+◌, ◌<◌, ◌≤◌, List, [], ◌∷◌, ◌++◌, ◌&&◌, length, take, drop, get_or, Bool, true, false, Option, None, Some, Result, Ok, Err, MatchResult, slice_index, decimal, codes, refl, sym, ap, subst, ◌∙◌, arith, append_assoc, append-nil, length-append}
use Rattle.std.proofs.Math.Seq.{get_or-append_seam, take-append_seam, drop-append_seam}
use Rattle.std.proofs.lemmas.List.{get_or_append_left}
use Rattle.std.proofs.lemmas.Bool.{cases_order, eqb-true, eq-eqb}
use Rattle.std.proofs.lemmas.Fmt.{decimal_is_IsNumeral, parse-decimal, IsAscii-decimal}
use Rattle.std.proofs.lemmas.Str.{IsUtf8-from_ascii}
use Rattle.std.specs.Cmp.Derive.{both_true}
use Rattle.std.specs.Result.{result_ok}
use Rattle.std.specs.Str.{IsUtf8}
use Rattle.std.specs.Str.Parse.{ParsesUnsigned}
use Rattle.std.proofs.lemmas.Str.Parse.{digit_at}
use Rattle.memchr.specs.Find.{IsFirstByte, is_byte}
use Rattle.ls_frame.specs.View.Known.{Tells, Gave, TakesUntil, WasAtEnd, known}
use Rattle.ls_frame.proofs.KnownLemmas.{known-consumed}
use Rattle.ls_stream.specs.Grammar.{most_bytes}
use Rattle.ls_film.specs.Listing.{column}
use Rattle.ls_archive.specs.View.Checking.{HasNoLineFeed, beginning, EndsColumn}
use Rattle.ls_archive.specs.View.Checks.{IsFrontLine, IsTorn, is_of_line, are_of_line, EndsLines}
use Rattle.ls_archive.proofs.LineLemmas.{head_or, all-append, same_first}

-- ---- up to the first LF

first_feed : (front a rest b : List ℕ) → HasNoLineFeed front → HasNoLineFeed a → front ++ 10 ∷ rest ≡ a ++ 10 ∷ b → front ≡ a
unfolding head_or
first_feed [] [] rest b one other same = refl
first_feed [] (y ∷ a) rest b one other same = absurd (other.0 (sym (ap (head_or 0) same)))
first_feed (x ∷ front) [] rest b one other same = absurd (one.0 (ap (head_or 0) same))
first_feed (x ∷ front) (y ∷ a) rest b one other same =
    let first : x ≡ y = ap (head_or 0) same in
    let later : front ++ 10 ∷ rest ≡ a ++ 10 ∷ b = ap (drop 1) same in
    ap (λ e. e ∷ front) first ∙ ap (λ s. y ∷ s) (first_feed front a rest b one.1 other.1 later)

no_feed_before : (front a rest b : List ℕ) → HasNoLineFeed a → front ++ 10 ∷ rest ≡ a ++ b → length front < length a → ⊥
unfolding head_or
no_feed_before [] [] rest b other same less = absurd (omega (arith, less))
no_feed_before [] (y ∷ a) rest b other same less = other.0 (sym (ap (head_or 0) same))
no_feed_before (x ∷ front) [] rest b other same less = absurd (omega (arith, less))
no_feed_before (x ∷ front) (y ∷ a) rest b other same less =
    let later : front ++ 10 ∷ rest ≡ a ++ b = ap (drop 1) same in
    no_feed_before front a rest b other.1 later (omega (arith, less))

-- the bytes taken up to LF, after bytes without LF, end the first line
pub front-fed : (most last : ℕ) (old mid new : Option (List ℕ)) (before after : List ℕ) → TakesUntil 10 most mid new before after last → last ≡ 10 → HasNoLineFeed before
    → (Tells old → Tells mid × (known old ≡ before ++ known mid)) → Tells old → IsFrontLine (known old) after
front-fed most last old mid new before after taken feed one gave told =
    let so_far = gave told in
    let run : taken.run ++ last ∷ [] ≡ taken.run ++ 10 ∷ [] = ap (λ b. taken.run ++ b ∷ []) feed in
    let here : known mid ≡ (taken.run ++ 10 ∷ []) ++ known new = (known-consumed mid new (taken.run ++ last ∷ []) so_far.0 taken.given).1 ∙ ap (λ s. s ++ known new) run in
    let all : known old ≡ (before ++ taken.run) ++ 10 ∷ known new =
    so_far.1 ∙ ap (λ s. before ++ s) (here ∙ append_assoc taken.run (10 ∷ []) (known new)) ∙ sym (append_assoc before taken.run (10 ∷ known new)) in
    λ front rest begins none few.
    let same : front ≡ before ++ taken.run =
    first_feed front (before ++ taken.run) rest (known new) none (all-append (λ byte. byte ≢ 10) before taken.run one taken.unmarked)
    (sym (append_assoc front (10 ∷ []) rest) ∙ sym begins ∙ all) in
    taken.appended ∙ ap (λ s. before ++ s) run ∙ sym (append_assoc before taken.run (10 ∷ [])) ∙ ap (λ s. s ++ 10 ∷ []) (sym same)

-- there are as many bytes without LF as a line may have
pub front-full : (old new : Option (List ℕ)) (text : List ℕ) → HasNoLineFeed text → (Tells old → Tells new × (known old ≡ text ++ known new)) → 1024 ≤ length text → Tells old
    → IsFrontLine (known old) text
front-full old new text one gave full told front rest begins none few =
    absurd (no_feed_before front text rest (known new) one (sym (append_assoc front (10 ∷ []) rest) ∙ sym begins ∙ (gave told).1) (omega (arith, few, full)))

-- bytes without LF are all that is left
pub front-ended : (old mid : Option (List ℕ)) (before text : List ℕ) → HasNoLineFeed before → (Tells old → Tells mid × (known old ≡ before ++ known mid)) → (Tells mid → known mid ≡ []) → text ≡ before → Tells old
    → IsFrontLine (known old) text
front-ended old mid before text one gave end same told front rest begins none few =
    let so_far = gave told in
    let all : known old ≡ before = so_far.1 ∙ ap (λ s. before ++ s) (end so_far.0) ∙ append-nil before in
    let whole : front ++ 10 ∷ rest ≡ before ++ [] = sym (append_assoc front (10 ∷ []) rest) ∙ sym begins ∙ all ∙ sym (append-nil before) in
    let size : length front + suc (length rest) ≡ length before + 0 = sym (length-append front (10 ∷ rest)) ∙ ap length whole ∙ length-append before [] in
    absurd (no_feed_before front before rest [] one whole (omega (arith, size)))

-- ---- the end of an index within a line

-- a text in which no LF is found has none
pub no_feed : (text : List ℕ) → IsFirstByte (is_byte 10) text None → HasNoLineFeed text
no_feed [] none = tt
no_feed (byte ∷ text) none = (
  (λ same. none 0 (omega arith) (omega arith) (eq-eqb _ _ same)),
  no_feed text (λ i low less. none (suc i) (omega arith) (omega arith)),
)

-- bytes that end with LF have one
ends_fed : (before run : List ℕ) (last : ℕ) → last ≡ 10 → HasNoLineFeed (before ++ (run ++ last ∷ [])) → ⊥
ends_fed [] [] last feed none = none.0 feed
ends_fed [] (byte ∷ run) last feed none = ends_fed [] run last feed none.1
ends_fed (byte ∷ before) run last feed none = ends_fed before run last feed none.1

pub fed-whole : (most last : ℕ) (old new : Option (List ℕ)) (before after : List ℕ) → TakesUntil 10 most old new before after last → last ≡ 10 → HasNoLineFeed after → ⊥
fed-whole most last old new before after taken feed none = ends_fed before taken.run last feed (subst HasNoLineFeed taken.appended none)

-- one line without LF at its end has none
pub torn-end : (old new : Option (List ℕ)) (text : List ℕ) → Gave old new (λ bytes. text ≡ bytes) → IsTorn text → (IsTorn text → Tells old → known new ≡ []) → EndsLines true old new
torn-end old new text gave torn end told =
    let read = gave told in
    let left = end torn told in
    let all : known old ≡ text = read.2 ∙ ap (λ s. read.1 ++ s) left ∙ append-nil read.1 ∙ sym read.3 in
    (read.0, left, subst IsTorn (sym all) torn)

pub torn-ends : (growing : Bool) (old new : Option (List ℕ)) (text : List ℕ) → growing ≡ true → Gave old new (λ bytes. text ≡ bytes) → IsTorn text → (IsTorn text → Tells old → known new ≡ [])
    → EndsLines growing old new
torn-ends growing old new text grown gave torn end = subst (λ g. EndsLines g old new) (sym grown) (torn-end old new text gave torn end)

all_front : (front rest : List ℕ) → HasNoLineFeed (front ++ rest) → HasNoLineFeed front
all_front [] rest all = tt
all_front (byte ∷ front) rest all = (all.0, all_front front rest all.1)

left_of : (a b : Bool) → (a && b) ≡ true → a ≡ true
left_of true b both = refl
left_of false b both = both

right_of : (a b : Bool) → (a && b) ≡ true → b ≡ true
right_of true b both = both
right_of false b both = cc

of_front : (front rest : List ℕ) → are_of_line (front ++ rest) ≡ true → are_of_line front ≡ true
of_front [] rest all = refl
of_front (byte ∷ front) rest all =
    both_true (left_of (is_of_line byte) (are_of_line (front ++ rest)) all) (of_front front rest (right_of (is_of_line byte) (are_of_line (front ++ rest)) all))

-- if what was taken isn't torn, what it was taken off isn't
pub line-untorn : (growing : Bool) (old new : Option (List ℕ)) (text : List ℕ) → Gave old new (λ bytes. text ≡ bytes) → (growing ≡ true → IsTorn text → ⊥) → growing ≡ true → Tells old
    → IsTorn (known old) → ⊥
line-untorn growing old new text gave none grown told torn =
    let read = gave told in
    let all : IsTorn (read.1 ++ known new) = subst IsTorn read.2 torn in
    none grown (subst IsTorn (sym read.3) (all_front read.1 (known new) all.0, omega (arith, all.1, length-append read.1 (known new)), of_front read.1 (known new) all.2))

-- a text in which LF is found has one
pub fed_at : (text : List ℕ) (k : ℕ) → k < length text → slice_index text k ≡ 10 → HasNoLineFeed text → ⊥
fed_at [] k less feed none = omega (arith, less)
fed_at (byte ∷ text) zero less feed none = none.0 feed
fed_at (byte ∷ text) (suc k) less feed none = fed_at text k (omega arith) feed none.1

-- so has the end of an index
pub at-end : (growing : Bool) (old new : Option (List ℕ)) → WasAtEnd old new → EndsLines growing old new
at-end false old new end = end
at-end true old new end = λ told.
    let was = end told in
    (was.0, was.2, subst IsTorn (sym was.1) (tt, omega arith, refl))

-- ---- up to the first blank, or the end

-- no digit of a number is a blank
no_blank : (number end : ℕ) (text rest : List ℕ) → number ≤ most_bytes → text ≡ decimal number ++ rest → end < length (decimal number) → get_or text end 0 ≡ 32 → ⊥
no_blank number end text rest small is less blank =
    let digits = decimal number in
    let numeral = (decimal_is_IsNumeral number (omega (arith, small))).0.1 in
    let here : get_or text end 0 ≡ get_or digits end 0 = ap (λ s. get_or s end 0) is ∙ get_or_append_left digits rest 0 end less in
    let range = digit_at digits end numeral less in
    omega (arith, here, blank, range)

-- the first blank stands after the number
pub first-blank : (number end : ℕ) (text rest : List ℕ) → number ≤ most_bytes → EndsColumn rest → text ≡ decimal number ++ rest → IsFirstByte (is_byte 32) text (Some end) → end ≡ length (decimal number)
first-blank number end text rest small (inl none) is first =
    let size : length text ≡ length (decimal number) + 0 = ap length is ∙ length-append (decimal number) rest ∙ ap (λ s. length (decimal number) + length s) none in
    absurd (no_blank number end text rest small is (omega (arith, size, first.0.high)) (eqb-true _ _ first.1))
first-blank number end text rest small (inr more) is first =
    let digits = decimal number in
    let all : text ≡ digits ++ 32 ∷ more.0 = is ∙ ap (λ s. digits ++ s) more.1 in
    let blank : get_or text (length digits) 0 ≡ 32 = ap (λ s. get_or s (length digits) 0) all ∙ get_or-append_seam digits 32 more.0 0 in
    elim (cases_order end (length digits)) [
      | inl same ↦ same
      | inr (inl less) ↦ absurd (no_blank number end text rest small is less (eqb-true _ _ first.1))
      | inr (inr later) ↦ absurd (first.0.before (length digits) (omega arith) later (eq-eqb _ _ blank))
    ]

-- without a blank the number is the entire text
pub all-digits : (number : ℕ) (text rest : List ℕ) → EndsColumn rest → text ≡ decimal number ++ rest → IsFirstByte (is_byte 32) text None → length text ≡ length (decimal number)
all-digits number text rest (inl none) is first =
    let size : length text ≡ length (decimal number) + 0 = ap length is ∙ length-append (decimal number) rest ∙ ap (λ s. length (decimal number) + length s) none in
    omega (arith, size)
all-digits number text rest (inr more) is first =
    let digits = decimal number in
    let all : text ≡ digits ++ 32 ∷ more.0 = is ∙ ap (λ s. digits ++ s) more.1 in
    let blank : get_or text (length digits) 0 ≡ 32 = ap (λ s. get_or s (length digits) 0) all ∙ get_or-append_seam digits 32 more.0 0 in
    let size : length text ≡ length digits + suc (length more.0) = ap length all ∙ length-append digits (32 ∷ more.0) in
    absurd (first (length digits) (omega arith) (omega (arith, size)) (eq-eqb _ _ blank))

-- the bytes before it are the number
pub number-before : (number end : ℕ) (text rest : List ℕ) → text ≡ decimal number ++ rest → end ≡ length (decimal number) → take end text ≡ decimal number
number-before number end text rest is place = ap (λ n. take n text) place ∙ ap (take (length (decimal number))) is ∙ take-append_seam (decimal number) rest

-- parsed as a number, they give that number
pub number-read : {E : Type 0} (number end : ℕ) (text rest : List ℕ) (r : Result ℕ E) → number ≤ most_bytes → text ≡ decimal number ++ rest → end ≡ length (decimal number)
    → ParsesUnsigned 32 10 (take end text) r → r ≡ Ok number
number-read number end text rest r small is place parsed =
    parse-decimal 32 number (take end text) r (omega (arith, small)) (omega (arith, small)) (number-before number end text rest is place) parsed

-- they are valid UTF-8
pub number-is_text : (number end : ℕ) (text rest : List ℕ) → number ≤ most_bytes → text ≡ decimal number ++ rest → end ≡ length (decimal number) → IsUtf8 (take end text)
number-is_text number end text rest small is place =
    subst IsUtf8 (sym (number-before number end text rest is place)) (IsUtf8-from_ascii (decimal number) (IsAscii-decimal number (omega (arith, small))))

-- what holds of a result that was Ok, if that alone is kept, and of one that wasn't
pub kept : {A E : Type 0} (P : A → Type 0) (Q : E → Type 0) (a : A) (r : Result A E) → MatchResult r P Q → Some a ≡ result_ok r → P a
kept P Q a (Ok b) m same = let is : a ≡ b = cc in subst P (sym is) m
kept P Q a (Err e) m same = let clash : ⊥ = cc in absurd clash

pub refused : {A E : Type 0} (P : A → Type 0) (Q : E → Type 0) (r : Result A E) → MatchResult r P Q → None ≡ result_ok r → ((e : E) → Q e → ⊥) → ⊥
refused P Q (Ok b) m same never = let clash : ⊥ = cc in absurd clash
refused P Q (Err e) m same never = never e m

-- ---- the columns of a line

-- a line's beginning, split after the number and the offset
pub beginning-parts : (n offset size : ℕ) (rest : List ℕ) → beginning n offset size ++ rest ≡ (decimal n ++ (codes " " ++ (decimal offset ++ codes " "))) ++ (decimal size ++ (codes " " ++ rest))
beginning-parts n offset size rest =
    append_assoc (decimal n) (column offset ++ (column size ++ codes " ")) rest
    ∙ ap (λ s. decimal n ++ 32 ∷ s) (append_assoc (decimal offset) (column size ++ codes " ") rest ∙ ap (λ s. decimal offset ++ 32 ∷ s) (append_assoc (decimal size) (codes " ") rest)
    ∙ sym (append_assoc (decimal offset) (codes " ") (decimal size ++ 32 ∷ rest)))
    ∙ sym (append_assoc (decimal n) (codes " " ++ (decimal offset ++ codes " ")) (decimal size ++ 32 ∷ rest))

-- so are the bytes of a line before its LF
pub line-columns : (n offset size : ℕ) (text columns rest : List ℕ) → text ≡ columns ++ codes "\n" → text ≡ (beginning n offset size ++ rest) ++ codes "\n"
    → columns ≡ (decimal n ++ (codes " " ++ (decimal offset ++ codes " "))) ++ (decimal size ++ (codes " " ++ rest))
line-columns n offset size text columns rest ends line =
    same_first columns (beginning n offset size ++ rest) 10 10 (sym ends ∙ line) ∙ beginning-parts n offset size rest

pub columns-left : (n offset size : ℕ) (text columns left rest : List ℕ) → text ≡ columns ++ codes "\n" → columns ≡ (decimal n ++ (codes " " ++ (decimal offset ++ codes " "))) ++ left
    → text ≡ (beginning n offset size ++ rest) ++ codes "\n" → left ≡ decimal size ++ (codes " " ++ rest)
columns-left n offset size text columns left rest ends begins line =
    let front = decimal n ++ (codes " " ++ (decimal offset ++ codes " ")) in
    let all : front ++ left ≡ front ++ (decimal size ++ (codes " " ++ rest)) = sym begins ∙ line-columns n offset size text columns rest ends line in
    sym (drop-append_seam front left) ∙ ap (drop (length front)) all ∙ drop-append_seam front (decimal size ++ (codes " " ++ rest))

-- the converse
pub line-of_columns : (n offset size : ℕ) (text columns left rest : List ℕ) → text ≡ columns ++ codes "\n" → columns ≡ (decimal n ++ (codes " " ++ (decimal offset ++ codes " "))) ++ left
    → left ≡ (decimal size ++ codes " ") ++ rest → text ≡ (beginning n offset size ++ rest) ++ codes "\n"
line-of_columns n offset size text columns left rest ends begins number =
    let front = decimal n ++ (codes " " ++ (decimal offset ++ codes " ")) in
    ends ∙ ap (λ s. s ++ codes "\n")
    (begins ∙ ap (λ s. front ++ s) (number ∙ append_assoc (decimal size) (codes " ") rest) ∙ sym (beginning-parts n offset size rest))
