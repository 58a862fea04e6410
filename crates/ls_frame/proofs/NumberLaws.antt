-- Numbers: the bytes that reading takes, where reading stops, and that the value of the digits is read.
use Rattle.std.proofs.Common.{◌≡◌, ℕ, zero, suc, ◌+◌, ◌-◌, ◌*◌, ◌<◌, ◌≤◌, ◌||◌, ◌&&◌, min, true, false, cond, leb, ltb, fold, inl, inr, IsTrue, List, [], ◌∷◌, ◌++◌, length, MatchResult, Ok, Err, refl, ap, ◌∙◌, arith, append_assoc}
use Rattle.std.specs.List.{AllByRecursion}
use Rattle.std.proofs.lemmas.Bool.{cond_both, cond-true, leb-true, ltb-true, leb-false, ltb-false, and_parts, and_cases}
use Rattle.ls_frame.specs.declared.netpbm.NetpbmFault.{NetpbmFault}
use Rattle.ls_frame.specs.declared.netpbm.NetpbmFault.TheVariants.{BadHeader}
use Rattle.ls_frame.specs.Picture.{greatest}
use Rattle.ls_frame.specs.Netpbm.{is_white, is_digit, Gap, gap_bytes, blanks_bytes, decimal_value, Field, IsField, field_bytes, field_number, InRange}
use Rattle.ls_frame.specs.Faults.{digit_or_white, Start, gap, open_comment, digits, IsStart, start_bytes, start_due, BreaksOff, too_long, ends, refuses}
use Rattle.ls_frame.specs.View.Reading.{◌>>=◌, Step, with_digit, digits_at, gap_at, number_at, in_range, in_range_at}
use Rattle.ls_frame.proofs.TakeLemmas.{Takes, takes_one, takes_cons, takes_more, takes_as, stops_cons, stops_after, stops_as, outcome_weaker, outcome_of_both}
use Rattle.ls_frame.proofs.GapLaws.{GapRead, GapStops, among_blanks, within_comment, gap_outcome}

-- each is a digit
abbrev pub AreDigits : List ℕ → Type 0
AreDigits ds = AllByRecursion (λ c. IsTrue (is_digit c)) ds

-- ---- the reader's numbers are capped

-- the value of more digits after those with value n
abbrev pub followed : ℕ → List ℕ → ℕ
followed n ds = fold (λ n digit. 10 * n + (digit - 48)) n ds

-- the same, capped at each digit
abbrev pub followed_capped : ℕ → List ℕ → ℕ
followed_capped n ds = fold with_digit n ds

-- 65536 stands for all numbers over 65535
abbrev pub capped : ℕ → ℕ
capped n = min n (greatest + 1)

-- a number capped digit by digit is the number capped
pub capped_at_end : (ds : List ℕ) (m n : ℕ) → m ≡ capped n → followed_capped m ds ≡ capped (followed n ds)
capped_at_end [] m n is = is
capped_at_end (d ∷ ds) m n is = capped_at_end ds (with_digit m d) (10 * n + (d - 48)) (omega arith)

-- no digit is above `9`
pub digit_most : (c : ℕ) → IsTrue (is_digit c) → c ≤ 57
digit_most c is = leb-true c 57 (and_parts (leb 48 c) (leb c 57) is).1

-- a first digit and more of them
pub capped_number : (d : ℕ) (ds : List ℕ) → IsTrue (is_digit d) → followed_capped (d - 48) ds ≡ capped (decimal_value (d ∷ ds))
capped_number d ds is = let small = digit_most d is in capped_at_end ds (d - 48) (10 * 0 + (d - 48)) (omega arith)

-- ---- digits

-- digits after those with value n, and the white space after them
pub record DigitsRead (n allowed : ℕ) (bytes : List ℕ) (found : ℕ × ℕ × List ℕ) : Type 0 where
  pub ds : List ℕ
  pub white : ℕ
  pub each : AreDigits ds
  pub after : IsTrue (is_white white)
  pub takes : Takes allowed bytes (ds ++ white ∷ []) found.1 found.2
  pub is : found.0 ≡ followed_capped n ds

-- digits, and then reading stops
pub record DigitsStop (allowed : ℕ) (bytes : List ℕ) (fault : NetpbmFault) : Type 0 where
  pub ds : List ℕ
  pub each : AreDigits ds
  pub stops : BreaksOff allowed bytes ds digit_or_white fault

-- one digit more in front
digits_more : {n allowed : ℕ} {bytes : List ℕ} {found : ℕ × ℕ × List ℕ} (c : ℕ) → IsTrue (is_digit c) → DigitsRead (with_digit n c) allowed bytes found → DigitsRead n (suc allowed) (c ∷ bytes) found
digits_more c is read = record { ds = c ∷ read.ds; white = read.white; each = (is, read.each); after = read.after; takes = takes_cons c read.takes; is = read.is }

digits_stop_more : {allowed : ℕ} {bytes : List ℕ} {fault : NetpbmFault} (c : ℕ) → IsTrue (is_digit c) → DigitsStop allowed bytes fault → DigitsStop (suc allowed) (c ∷ bytes) fault
digits_stop_more c is stop = record { ds = c ∷ stop.ds; each = (is, stop.each); stops = stops_cons c stop.stops }

-- no digits
white_here : (n allowed c : ℕ) (bytes : List ℕ) → IsTrue (is_white c) → DigitsRead n (suc allowed) (c ∷ bytes) (n, allowed, bytes)
white_here n allowed c bytes is = record { ds = []; white = c; each = tt; after = is; takes = takes_one c allowed bytes; is = refl }

-- a byte that passes neither test isn't allowed
neither : (c : ℕ) → is_digit c ≡ false → is_white c ≡ false → (is_digit c || is_white c) ≡ false
neither c a b = rw (a, b) refl

-- the result of reading digits
abbrev pub DigitsGive : ℕ → ℕ → List ℕ → Step ℕ → Type 0
DigitsGive n allowed bytes step = MatchResult step (DigitsRead n allowed bytes) (DigitsStop allowed bytes)

-- a digit is one of the number
digit_gives : (n allowed c : ℕ) (bytes : List ℕ) (step : Step ℕ) → IsTrue (is_digit c) → DigitsGive (with_digit n c) allowed bytes step → DigitsGive n (suc allowed) (c ∷ bytes) step
digit_gives n allowed c bytes (Ok found) is read = digits_more c is read
digit_gives n allowed c bytes (Err fault) is stop = digits_stop_more c is stop

-- what isn't a digit ends the number
white_gives : (n allowed c : ℕ) (bytes : List ℕ) → is_digit c ≡ false → DigitsGive n (suc allowed) (c ∷ bytes) (cond (is_white c) (Ok (n, allowed, bytes)) (Err BadHeader))
white_gives n allowed c bytes no_digit =
    cond_both (is_white c) _ _ (DigitsGive n (suc allowed) (c ∷ bytes))
    (λ is. white_here n allowed c bytes is)
    (λ no_white. record { ds = []; each = tt; stops = refuses c bytes refl (omega arith) (neither c no_digit no_white) refl })

-- reading gives digits, or stops there with a fault
pub digits_outcome : (n allowed : ℕ) (bytes : List ℕ) → DigitsGive n allowed bytes (digits_at n allowed bytes)
unfolding digits_at
digits_outcome n zero bytes = record { ds = []; each = tt; stops = too_long bytes refl refl refl }
digits_outcome n (suc allowed) [] = record { ds = []; each = tt; stops = ends refl (omega arith) refl }
digits_outcome n (suc allowed) (c ∷ bytes) =
    cond_both (is_digit c) (digits_at (with_digit n c) allowed bytes) _ (DigitsGive n (suc allowed) (c ∷ bytes))
    (λ is. digit_gives n allowed c bytes (digits_at (with_digit n c) allowed bytes) is (digits_outcome (with_digit n c) allowed bytes))
    (λ no_digit. white_gives n allowed c bytes no_digit)

-- reading goes on after digits
pub digits_pass : (ds bytes : List ℕ) (n allowed left : ℕ) → AreDigits ds → allowed ≡ length ds + left → digits_at n allowed (ds ++ bytes) ≡ digits_at (followed_capped n ds) left bytes
unfolding digits_at
digits_pass [] bytes n allowed left each is = let e : allowed ≡ left = omega arith in ap (λ r. digits_at n r bytes) e
digits_pass (c ∷ ds) bytes n zero left each is = absurd (omega arith)
digits_pass (c ∷ ds) bytes n (suc allowed) left each is = cond-true (is_digit c) _ _ each.0 ∙ digits_pass ds bytes (with_digit n c) allowed left each.1 (omega arith)

-- ---- a field, after the white space that begins its gap

-- `before` and a field were taken, and the white space after
pub record FieldRead (allowed : ℕ) (bytes before : List ℕ) (found : ℕ × ℕ × List ℕ) : Type 0 where
  pub field : Field
  pub white : ℕ
  pub lawful : IsField field
  pub after : IsTrue (is_white white)
  pub takes : Takes allowed bytes (before ++ field_bytes field ++ white ∷ []) found.1 found.2
  pub is : found.0 ≡ capped (field_number field)

-- `before` and the start of a field were taken, and then reading stops
pub record FieldStops (allowed : ℕ) (bytes before : List ℕ) (fault : NetpbmFault) : Type 0 where
  pub start : Start
  pub lawful : IsStart start
  pub stops : BreaksOff allowed bytes (before ++ start_bytes start) (start_due start) fault

-- a gap and digits are a field
field_read : {allowed between : ℕ} {bytes before middle : List ℕ} (w : ℕ) (found second : ℕ × ℕ × List ℕ) → IsTrue (is_white w) → Takes allowed bytes (before ++ w ∷ []) between middle
    → GapRead between middle found → DigitsRead (found.0 - 48) found.1 found.2 second → FieldRead allowed bytes before second
field_read {before = before} w found second white taken read number =
    let g : Gap = record { first = w; blanks = read.blanks } in
    let f : Field = record { gap = g; digits = found.0 ∷ number.ds } in
    let same : (before ++ w ∷ []) ++ blanks_bytes read.blanks ++ (found.0 ∷ (number.ds ++ number.white ∷ [])) ≡ before ++ field_bytes f ++ number.white ∷ [] = simp append_assoc in
    record {
      field = f;
      white = number.white;
      lawful = record { gap = record { first = white; blanks = read.each }; digits = record { some = omega arith; each = (read.digit, number.each) } };
      after = number.after;
      takes = takes_as (takes_more (takes_more taken read.takes) (takes_cons found.0 number.takes)) same;
      is = number.is ∙ capped_number found.0 number.ds read.digit;
    }

-- reading stops in the gap
gap_stops : {allowed between : ℕ} {bytes before middle : List ℕ} {fault : NetpbmFault} (w : ℕ) → IsTrue (is_white w) → Takes allowed bytes (before ++ w ∷ []) between middle → GapStops between middle fault
    → FieldStops allowed bytes before fault
gap_stops {before = before} w is taken (among_blanks blanks each stops) =
    let g : Gap = record { first = w; blanks = blanks } in
    let same : (before ++ w ∷ []) ++ blanks_bytes blanks ≡ before ++ gap_bytes g = simp append_assoc in
    record { start = gap g; lawful = record { first = is; blanks = each }; stops = stops_as (stops_after taken stops) same }
gap_stops {before = before} w is taken (within_comment blanks text each those stops) =
    let g : Gap = record { first = w; blanks = blanks } in
    let same : (before ++ w ∷ []) ++ (blanks_bytes blanks ++ 35 ∷ text) ≡ before ++ (gap_bytes g ++ 35 ∷ text) = simp append_assoc in
    record { start = open_comment g text; lawful = (record { first = is; blanks = each }, those); stops = stops_as (stops_after taken stops) same }

-- or in the digits
digits_stop : {allowed between : ℕ} {bytes before middle : List ℕ} {fault : NetpbmFault} (w : ℕ) (found : ℕ × ℕ × List ℕ) → IsTrue (is_white w) → Takes allowed bytes (before ++ w ∷ []) between middle
    → GapRead between middle found → DigitsStop found.1 found.2 fault → FieldStops allowed bytes before fault
digits_stop {before = before} w found white taken read stop =
    let g : Gap = record { first = w; blanks = read.blanks } in
    let same : (before ++ w ∷ []) ++ blanks_bytes read.blanks ++ (found.0 ∷ stop.ds) ≡ before ++ (gap_bytes g ++ found.0 ∷ stop.ds) = simp append_assoc in
    record {
      start = digits g (found.0 ∷ stop.ds);
      lawful = (record { first = white; blanks = read.each }, record { some = omega arith; each = (read.digit, stop.each) });
      stops = stops_as (stops_after (takes_more taken read.takes) (stops_cons found.0 stop.stops)) same;
    }

-- reading gives a field, or stops there with a fault
pub number_outcome : (allowed between : ℕ) (bytes before middle : List ℕ) (w : ℕ) → IsTrue (is_white w) → Takes allowed bytes (before ++ w ∷ []) between middle
    → MatchResult (number_at between middle) (FieldRead allowed bytes before) (FieldStops allowed bytes before)
number_outcome allowed between bytes before middle w white taken =
    outcome_of_both (GapRead between middle) (GapStops between middle) (FieldRead allowed bytes before) (FieldStops allowed bytes before) (gap_at false between middle) (λ found. digits_at (found.0 - 48) found.1 found.2)
    (gap_outcome false between middle)
    (λ found read. outcome_weaker (DigitsRead (found.0 - 48) found.1 found.2) (DigitsStop found.1 found.2) (FieldRead allowed bytes before) (FieldStops allowed bytes before) (digits_at (found.0 - 48) found.1 found.2)
    (digits_outcome (found.0 - 48) found.1 found.2)
    (λ second number. field_read w found second white taken read number)
    (λ fault stop. digits_stop w found white taken read stop))
    (λ fault stops. gap_stops w white taken stops)

-- ---- within its range

-- if the capped number passes the test, the number is in range
pub in_range_if : (n m : ℕ) → n ≡ capped m → (ltb 0 n && leb n greatest) ≡ true → InRange m
in_range_if n m is test =
    let parts = and_parts (ltb 0 n) (leb n greatest) test in
    let some : 0 < n = ltb-true 0 n parts.0 in
    let most : n ≤ greatest = leb-true n greatest parts.1 in
    record { some = omega arith; most = omega arith }

-- a number in its range is read as it is
pub same_in_range : (n m : ℕ) → n ≡ capped m → InRange m → n ≡ m
same_in_range n m is range = omega arith

-- if the test fails, the number is out of range
pub out_of_range_if : (n m : ℕ) → n ≡ capped m → (ltb 0 n && leb n greatest) ≡ false → ¬ InRange m
out_of_range_if n m is test range = elim (and_cases (ltb 0 n) (leb n greatest) test) [
  | inl none ↦ let e : n ≤ 0 = ltb-false 0 n none in absurd (omega arith)
  | inr over ↦ let e : greatest < n = leb-false n greatest over in absurd (omega arith)
]

-- `before` and a field with its number from 1 to 65535 were taken, and the white space after
pub record InRangeRead (allowed : ℕ) (bytes before : List ℕ) (found : ℕ × ℕ × List ℕ) : Type 0 where
  pub field : Field
  pub white : ℕ
  pub lawful : IsField field
  pub range : InRange (field_number field)
  pub after : IsTrue (is_white white)
  pub takes : Takes allowed bytes (before ++ field_bytes field ++ white ∷ []) found.1 found.2
  pub is : found.0 ≡ field_number field

-- the same for a field with another number
pub record OutOfRange (allowed : ℕ) (bytes before : List ℕ) : Type 0 where
  pub field : Field
  pub white : ℕ
  pub left : ℕ
  pub rest : List ℕ
  pub lawful : IsField field
  pub out : ¬ InRange (field_number field)
  pub after : IsTrue (is_white white)
  pub takes : Takes allowed bytes (before ++ field_bytes field ++ white ∷ []) left rest

-- how a field fails
pub data FieldFault (allowed : ℕ) (bytes before : List ℕ) (range_fault fault : NetpbmFault) : Type 0 where
  field_stops : FieldStops allowed bytes before fault → FieldFault allowed bytes before range_fault fault
  out_of_range : OutOfRange allowed bytes before → fault ≡ range_fault → FieldFault allowed bytes before range_fault fault

-- a field that was read, with its number in range, or out of it
in_range_read : {allowed : ℕ} {bytes before : List ℕ} {found : ℕ × ℕ × List ℕ} (read : FieldRead allowed bytes before found) → InRange (field_number read.field) → InRangeRead allowed bytes before found
in_range_read {found = found} read range = record {
  field = read.field;
  white = read.white;
  lawful = read.lawful;
  range = range;
  after = read.after;
  takes = read.takes;
  is = same_in_range found.0 (field_number read.field) read.is range;
}

out_of_range_read : {allowed : ℕ} {bytes before : List ℕ} {found : ℕ × ℕ × List ℕ} (read : FieldRead allowed bytes before found) → ¬ InRange (field_number read.field) → OutOfRange allowed bytes before
out_of_range_read {found = found} read out = record {
  field = read.field;
  white = read.white;
  left = found.1;
  rest = found.2;
  lawful = read.lawful;
  out = out;
  after = read.after;
  takes = read.takes;
}

-- the test after the number
ranged : (range_fault : NetpbmFault) (allowed : ℕ) (bytes before : List ℕ) (found : ℕ × ℕ × List ℕ) → FieldRead allowed bytes before found
    → MatchResult (in_range range_fault found.0 >>= λ n. Ok (n, found.1, found.2)) (InRangeRead allowed bytes before) (FieldFault allowed bytes before range_fault)
ranged range_fault allowed bytes before found read =
    cond_both (ltb 0 found.0 && leb found.0 greatest) (Ok found.0) (Err range_fault)
    (λ r. MatchResult (r >>= λ n. Ok (n, found.1, found.2)) (InRangeRead allowed bytes before) (FieldFault allowed bytes before range_fault))
    (λ test. in_range_read read (in_range_if found.0 (field_number read.field) read.is test))
    (λ test. out_of_range (out_of_range_read read (out_of_range_if found.0 (field_number read.field) read.is test)) refl)

-- reading gives a field with its number in range, or stops there, or the number is out of range
pub field_outcome : (range_fault : NetpbmFault) (allowed between : ℕ) (bytes before middle : List ℕ) (w : ℕ) → IsTrue (is_white w) → Takes allowed bytes (before ++ w ∷ []) between middle
    → MatchResult (in_range_at range_fault between middle) (InRangeRead allowed bytes before) (FieldFault allowed bytes before range_fault)
field_outcome range_fault allowed between bytes before middle w white taken =
    outcome_of_both (FieldRead allowed bytes before) (FieldStops allowed bytes before) (InRangeRead allowed bytes before) (FieldFault allowed bytes before range_fault) (number_at between middle)
    (λ number. in_range range_fault number.0 >>= λ n. Ok (n, number.1, number.2))
    (number_outcome allowed between bytes before middle w white taken)
    (λ found read. ranged range_fault allowed bytes before found read)
    (λ fault stops. field_stops stops)
