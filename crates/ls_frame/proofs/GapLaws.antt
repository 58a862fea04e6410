-- The rest of a gap: the bytes that reading takes, where reading stops, and that each gap of the grammar is read.
use Rattle.std.proofs.Common.{◌≡◌, ℕ, zero, suc, ◌+◌, Bool, true, false, cond, ◌||◌, not, IsTrue, List, [], ◌∷◌, ◌++◌, length, MatchResult, Ok, Err, refl, ap, ◌∙◌, arith, length-append, append_assoc}
use Rattle.std.specs.List.{AllByRecursion}
use Rattle.std.proofs.lemmas.Bool.{cond_both, cond-true, cond-false, eqb-true, not_from_false, not-true}
use Rattle.ls_frame.specs.declared.netpbm.NetpbmFault.{NetpbmFault}
use Rattle.ls_frame.specs.declared.netpbm.NetpbmFault.TheVariants.{BadHeader}
use Rattle.ls_frame.specs.Netpbm.{is_white, is_line_end, is_digit, is_hash, Blank, white, comment, IsBlank, blank_bytes, blanks_bytes}
use Rattle.ls_frame.specs.Faults.{blank_or_digit, comment_text, BreaksOff, too_long, ends, refuses}
use Rattle.ls_frame.specs.View.Reading.{Step, gap_at}
use Rattle.ls_frame.proofs.TakeLemmas.{Takes, takes_one, takes_cons, takes_more, takes_none, stops_cons, stops_after}

-- the characters of a comment's text
abbrev pub IsText : List ℕ → Type 0
IsText text = AllByRecursion (λ c. IsTrue (not (is_line_end c))) text

-- parts of a gap
abbrev pub AreBlanks : List Blank → Type 0
AreBlanks blanks = AllByRecursion IsBlank blanks

-- ---- what is taken

-- parts of a gap were taken, and the digit after them was found but not taken
pub record GapRead (allowed : ℕ) (bytes : List ℕ) (found : ℕ × ℕ × List ℕ) : Type 0 where
  pub blanks : List Blank
  pub each : AreBlanks blanks
  pub digit : IsTrue (is_digit found.0)
  pub takes : Takes allowed bytes (blanks_bytes blanks) (suc found.1) (found.0 ∷ found.2)

-- a comment's text and the line end that closes it
pub record CommentRead (allowed : ℕ) (bytes : List ℕ) (left : ℕ) (rest : List ℕ) : Type 0 where
  pub text : List ℕ
  pub end : ℕ
  pub each : IsText text
  pub closes : IsTrue (is_line_end end)
  pub takes : Takes allowed bytes (text ++ end ∷ []) left rest

-- the rest of a comment, and then parts of a gap
pub record OpenGapRead (allowed : ℕ) (bytes : List ℕ) (found : ℕ × ℕ × List ℕ) : Type 0 where
  pub left : ℕ
  pub rest : List ℕ
  pub first : CommentRead allowed bytes left rest
  pub then : GapRead left rest found

-- ---- where reading stops

-- after parts of a gap, or in a comment after them
pub data GapStops (allowed : ℕ) (bytes : List ℕ) (fault : NetpbmFault) : Type 0 where
  among_blanks : (blanks : List Blank) → AreBlanks blanks → BreaksOff allowed bytes (blanks_bytes blanks) blank_or_digit fault → GapStops allowed bytes fault
  within_comment : (blanks : List Blank) (text : List ℕ) → AreBlanks blanks → IsText text → BreaksOff allowed bytes (blanks_bytes blanks ++ 35 ∷ text) comment_text fault → GapStops allowed bytes fault

-- in the open comment, or after it
pub data OpenGapStops (allowed : ℕ) (bytes : List ℕ) (fault : NetpbmFault) : Type 0 where
  still_inside : (text : List ℕ) → IsText text → BreaksOff allowed bytes text comment_text fault → OpenGapStops allowed bytes fault
  after : (left : ℕ) (rest : List ℕ) → CommentRead allowed bytes left rest → GapStops left rest fault → OpenGapStops allowed bytes fault

-- ---- one part more in front

-- for what is taken
gap_more : {allowed left : ℕ} {bytes rest : List ℕ} {found : ℕ × ℕ × List ℕ} (b : Blank) → IsBlank b → Takes allowed bytes (blank_bytes b) left rest → GapRead left rest found → GapRead allowed bytes found
gap_more b is taken read = record { blanks = b ∷ read.blanks; each = (is, read.each); digit = read.digit; takes = takes_more taken read.takes }

-- for where reading stops
gap_stops_more : {allowed left : ℕ} {bytes rest : List ℕ} {fault : NetpbmFault} (b : Blank) → IsBlank b → Takes allowed bytes (blank_bytes b) left rest → GapStops left rest fault → GapStops allowed bytes fault
gap_stops_more b is taken (among_blanks blanks each stops) = among_blanks (b ∷ blanks) (is, each) (stops_after taken stops)
gap_stops_more b is taken (within_comment blanks text each those stops) =
    within_comment (b ∷ blanks) text (is, each) those
    (rw append_assoc (stops_after taken stops))

-- ---- one byte more in front

-- the digit after a gap isn't taken with the gap
digit_here : (allowed c : ℕ) (bytes : List ℕ) → IsTrue (is_digit c) → GapRead (suc allowed) (c ∷ bytes) (c, allowed, bytes)
digit_here allowed c bytes digit = record { blanks = []; each = tt; digit = digit; takes = takes_none _ _ }

-- a character of the text, and the line end after the text
comment_more : {allowed left : ℕ} {bytes rest : List ℕ} (c : ℕ) → IsTrue (not (is_line_end c)) → CommentRead allowed bytes left rest → CommentRead (suc allowed) (c ∷ bytes) left rest
comment_more c is read = record { text = c ∷ read.text; end = read.end; each = (is, read.each); closes = read.closes; takes = takes_cons c read.takes }

comment_end : (allowed c : ℕ) (bytes : List ℕ) → IsTrue (is_line_end c) → CommentRead (suc allowed) (c ∷ bytes) allowed bytes
comment_end allowed c bytes is = record { text = []; end = c; each = tt; closes = is; takes = takes_one c allowed bytes }

-- `#` and a comment are a part of a gap
comment_part : {allowed left : ℕ} {bytes rest : List ℕ} (c : ℕ) → IsTrue (is_hash c) → (read : CommentRead allowed bytes left rest) → Takes (suc allowed) (c ∷ bytes) (blank_bytes (comment read.text read.end)) left rest
comment_part c is read = let e = eqb-true c 35 is in rw e (takes_cons 35 read.takes)

-- the same with what follows the comment
open_more : {allowed : ℕ} {bytes : List ℕ} {found : ℕ × ℕ × List ℕ} (c : ℕ) → IsTrue (not (is_line_end c)) → OpenGapRead allowed bytes found → OpenGapRead (suc allowed) (c ∷ bytes) found
open_more c is read = record { left = read.left; rest = read.rest; first = comment_more c is read.first; then = read.then }

-- `#` in front of the comment makes a gap of them
hash_more : {allowed : ℕ} {bytes : List ℕ} {found : ℕ × ℕ × List ℕ} (c : ℕ) → IsTrue (is_hash c) → OpenGapRead allowed bytes found → GapRead (suc allowed) (c ∷ bytes) found
hash_more c is read = gap_more (comment read.first.text read.first.end) (read.first.each, read.first.closes) (comment_part c is read.first) read.then

-- the same where reading stops
open_stops_more : {allowed : ℕ} {bytes : List ℕ} {fault : NetpbmFault} (c : ℕ) → IsTrue (not (is_line_end c)) → OpenGapStops allowed bytes fault → OpenGapStops (suc allowed) (c ∷ bytes) fault
open_stops_more c is (still_inside text each stops) = still_inside (c ∷ text) (is, each) (stops_cons c stops)
open_stops_more c is (after left rest read stops) = after left rest (comment_more c is read) stops

hash_stops_more : {allowed : ℕ} {bytes : List ℕ} {fault : NetpbmFault} (c : ℕ) → IsTrue (is_hash c) → OpenGapStops allowed bytes fault → GapStops (suc allowed) (c ∷ bytes) fault
hash_stops_more c is (still_inside text each stops) = let e = eqb-true c 35 is in rw e (within_comment [] text tt each (stops_cons 35 stops))
hash_stops_more c is (after left rest read stops) = gap_stops_more (comment read.text read.end) (read.each, read.closes) (comment_part c is read) stops

-- ---- what reading gives

-- where a comment is open and where none is
abbrev pub GapFound : Bool → ℕ → List ℕ → ℕ × ℕ × List ℕ → Type 0
GapFound true allowed bytes found = OpenGapRead allowed bytes found
GapFound false allowed bytes found = GapRead allowed bytes found

abbrev pub GapFault : Bool → ℕ → List ℕ → NetpbmFault → Type 0
GapFault true allowed bytes fault = OpenGapStops allowed bytes fault
GapFault false allowed bytes fault = GapStops allowed bytes fault

-- what a step of a gap gives
abbrev pub GapGives : Bool → ℕ → List ℕ → Step ℕ → Type 0
GapGives in_comment allowed bytes step = MatchResult step (GapFound in_comment allowed bytes) (GapFault in_comment allowed bytes)

-- a byte that passes none of the three tests isn't allowed
none_allowed : (c : ℕ) → is_white c ≡ false → is_hash c ≡ false → is_digit c ≡ false → (is_white c || is_hash c || is_digit c) ≡ false
none_allowed c a b d = rw (a, b, d) refl

-- a line end closes the comment
line_end_gives : (allowed c : ℕ) (bytes : List ℕ) (step : Step ℕ) → IsTrue (is_line_end c) → GapGives false allowed bytes step → GapGives true (suc allowed) (c ∷ bytes) step
line_end_gives allowed c bytes (Ok found) is read = record { left = allowed; rest = bytes; first = comment_end allowed c bytes is; then = read }
line_end_gives allowed c bytes (Err fault) is stops = after allowed bytes (comment_end allowed c bytes is) stops

-- another character continues the comment
text_gives : (allowed c : ℕ) (bytes : List ℕ) (step : Step ℕ) → IsTrue (not (is_line_end c)) → GapGives true allowed bytes step → GapGives true (suc allowed) (c ∷ bytes) step
text_gives allowed c bytes (Ok found) is read = open_more c is read
text_gives allowed c bytes (Err fault) is stops = open_stops_more c is stops

-- white space is a part of the gap
white_gives : (allowed c : ℕ) (bytes : List ℕ) (step : Step ℕ) → IsTrue (is_white c) → GapGives false allowed bytes step → GapGives false (suc allowed) (c ∷ bytes) step
white_gives allowed c bytes (Ok found) is read = gap_more (white c) is (takes_one c allowed bytes) read
white_gives allowed c bytes (Err fault) is stops = gap_stops_more (white c) is (takes_one c allowed bytes) stops

-- `#` begins a comment
hash_gives : (allowed c : ℕ) (bytes : List ℕ) (step : Step ℕ) → IsTrue (is_hash c) → GapGives true allowed bytes step → GapGives false (suc allowed) (c ∷ bytes) step
hash_gives allowed c bytes (Ok found) is read = hash_more c is read
hash_gives allowed c bytes (Err fault) is stops = hash_stops_more c is stops

-- what isn't white space or `#` ends the gap
digit_gives : (allowed c : ℕ) (bytes : List ℕ) → is_white c ≡ false → is_hash c ≡ false → GapGives false (suc allowed) (c ∷ bytes) (cond (is_digit c) (Ok (c, allowed, bytes)) (Err BadHeader))
digit_gives allowed c bytes no_white no_hash =
    cond_both (is_digit c) _ _ (GapGives false (suc allowed) (c ∷ bytes))
    (λ is. digit_here allowed c bytes is)
    (λ no_digit. among_blanks [] tt (refuses c bytes refl (omega arith) (none_allowed c no_white no_hash no_digit) refl))

-- reading gives a gap and the digit after it, or stops there with a fault
pub gap_outcome : (in_comment : Bool) (allowed : ℕ) (bytes : List ℕ) → GapGives in_comment allowed bytes (gap_at in_comment allowed bytes)
unfolding gap_at
gap_outcome true zero bytes = still_inside [] tt (too_long bytes refl refl refl)
gap_outcome true (suc allowed) [] = still_inside [] tt (ends refl (omega arith) refl)
gap_outcome true (suc allowed) (c ∷ bytes) =
    cond_both (is_line_end c) (gap_at false allowed bytes) (gap_at true allowed bytes) (GapGives true (suc allowed) (c ∷ bytes))
    (λ is. line_end_gives allowed c bytes (gap_at false allowed bytes) is (gap_outcome false allowed bytes))
    (λ other. text_gives allowed c bytes (gap_at true allowed bytes) (not_from_false _ other) (gap_outcome true allowed bytes))
gap_outcome false zero bytes = among_blanks [] tt (too_long bytes refl refl refl)
gap_outcome false (suc allowed) [] = among_blanks [] tt (ends refl (omega arith) refl)
gap_outcome false (suc allowed) (c ∷ bytes) =
    cond_both (is_white c) (gap_at false allowed bytes) _ (GapGives false (suc allowed) (c ∷ bytes))
    (λ is. white_gives allowed c bytes (gap_at false allowed bytes) is (gap_outcome false allowed bytes))
    (λ no_white. cond_both (is_hash c) (gap_at true allowed bytes) _ (GapGives false (suc allowed) (c ∷ bytes))
    (λ is. hash_gives allowed c bytes (gap_at true allowed bytes) is (gap_outcome true allowed bytes))
    (λ no_hash. digit_gives allowed c bytes no_white no_hash))

-- ---- each gap of the grammar is read

-- reading goes on after a comment's text
pub comment_passes : (text bytes : List ℕ) (allowed left : ℕ) → IsText text → allowed ≡ length text + left → gap_at true allowed (text ++ bytes) ≡ gap_at true left bytes
unfolding gap_at
comment_passes [] bytes allowed left each is = let e : allowed ≡ left = omega arith in ap (λ r. gap_at true r bytes) e
comment_passes (c ∷ text) bytes zero left each is = absurd (omega arith)
comment_passes (c ∷ text) bytes (suc allowed) left each is =
    cond-false (is_line_end c) _ _ (not-true _ each.0) ∙ comment_passes text bytes allowed left each.1 (omega arith)

-- and after the line end that closes it
comment_ends : (text bytes : List ℕ) (end allowed left : ℕ) → IsText text → IsTrue (is_line_end end) → allowed ≡ length text + suc left
    → gap_at true allowed (text ++ end ∷ bytes) ≡ gap_at false left bytes
unfolding gap_at
comment_ends text bytes end allowed left each closes is =
    comment_passes text (end ∷ bytes) allowed (suc left) each is ∙ cond-true (is_line_end end) _ _ closes

-- and after parts of a gap
pub gap_passes : (blanks : List Blank) (bytes : List ℕ) (allowed left : ℕ) → AreBlanks blanks → allowed ≡ length (blanks_bytes blanks) + left
    → gap_at false allowed (blanks_bytes blanks ++ bytes) ≡ gap_at false left bytes
unfolding gap_at
gap_passes [] bytes allowed left each is = let e : allowed ≡ left = omega arith in ap (λ r. gap_at false r bytes) e
gap_passes (white c ∷ blanks) bytes zero left each is = absurd (omega arith)
gap_passes (white c ∷ blanks) bytes (suc allowed) left each is = cond-true (is_white c) _ _ each.0 ∙ gap_passes blanks bytes allowed left each.1 (omega arith)
gap_passes (comment text end ∷ blanks) bytes zero left each is = absurd (omega arith)
gap_passes (comment text end ∷ blanks) bytes (suc allowed) left each is =
    let regrouped : ((text ++ end ∷ []) ++ blanks_bytes blanks) ++ bytes ≡ text ++ (end ∷ (blanks_bytes blanks ++ bytes)) = simp append_assoc in
    let size = simp length-append at is in
    let after : ℕ = length (blanks_bytes blanks) + left in
    let far : allowed ≡ length text + suc after = omega arith in
    ap (λ bs. gap_at true allowed bs) regrouped
    ∙ comment_ends text (blanks_bytes blanks ++ bytes) end allowed after each.0.0 each.0.1 far
    ∙ gap_passes blanks bytes after left each.1 refl
