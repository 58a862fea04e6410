-- One more byte of a header, for each loop that reads one.
use Rattle.std.proofs.Common.{◌≡◌, ℕ, zero, suc, ◌≤◌, Bool, true, false, cond, not, List, [], ◌∷◌, Ok, Err, refl, arith, leb}
use Rattle.std.proofs.lemmas.Bool.{eq-eqb, ne_eqb, leb-true, and_parts, or_from}
use Rattle.ls_frame.specs.declared.netpbm.NetpbmFault.{NetpbmFault}
use Rattle.ls_frame.specs.declared.netpbm.NetpbmFault.TheVariants.{BadHeader}
use Rattle.ls_frame.specs.Netpbm.{is_white, is_line_end, is_digit, is_hash}
use Rattle.ls_frame.specs.View.Reading.{◌>>=◌, Step, byte_at, with_digit, digits_at, gap_at}

-- ---- digits

digit_step : ℕ → ℕ × ℕ × List ℕ → Step ℕ
digit_step n found =
    cond (is_digit found.0) (digits_at (with_digit n found.0) found.1 found.2) (cond (is_white found.0) (Ok (n, found.1, found.2)) (Err BadHeader))

digits_at-byte : (n allowed : ℕ) (bytes : List ℕ) → digits_at n allowed bytes ≡ (byte_at allowed bytes >>= digit_step n)
unfolding digits_at digit_step
digits_at-byte n zero bytes = refl
digits_at-byte n (suc allowed) [] = refl
digits_at-byte n (suc allowed) (c ∷ bytes) = refl

pub digits_at-digit : (n allowed c allowed' : ℕ) (bytes bytes' : List ℕ) → byte_at allowed bytes ≡ Ok (c, allowed', bytes') → is_digit c ≡ true
    → digits_at n allowed bytes ≡ digits_at (with_digit n c) allowed' bytes'
unfolding digit_step
digits_at-digit n allowed c allowed' bytes bytes' found digit = rw (digits_at-byte n allowed bytes, found, digit) refl

pub digits_at-white : (n allowed c allowed' : ℕ) (bytes bytes' : List ℕ) → byte_at allowed bytes ≡ Ok (c, allowed', bytes') → is_digit c ≡ false → is_white c ≡ true
    → digits_at n allowed bytes ≡ Ok (n, allowed', bytes')
unfolding digit_step
digits_at-white n allowed c allowed' bytes bytes' found digit white = rw (digits_at-byte n allowed bytes, found, digit, white) refl

pub digits_at-other : (n allowed c allowed' : ℕ) (bytes bytes' : List ℕ) → byte_at allowed bytes ≡ Ok (c, allowed', bytes') → is_digit c ≡ false → is_white c ≡ false
    → digits_at n allowed bytes ≡ Err BadHeader
unfolding digit_step
digits_at-other n allowed c allowed' bytes bytes' found digit white = rw (digits_at-byte n allowed bytes, found, digit, white) refl

pub digits_at-fault : (n allowed : ℕ) (bytes : List ℕ) (fault : NetpbmFault) → byte_at allowed bytes ≡ Err fault → digits_at n allowed bytes ≡ Err fault
digits_at-fault n allowed bytes fault found = rw (digits_at-byte n allowed bytes, found) refl

pub ruleset digit_lemmas = (digits_at-digit, digits_at-white, digits_at-other, digits_at-fault)

-- ---- gaps

gap_step : Bool → ℕ × ℕ × List ℕ → Step ℕ
gap_step true found = cond (is_line_end found.0) (gap_at false found.1 found.2) (gap_at true found.1 found.2)
gap_step false found =
    cond (is_white found.0) (gap_at false found.1 found.2)
    (cond (is_hash found.0) (gap_at true found.1 found.2)
    (cond (is_digit found.0) (Ok (found.0, found.1, found.2)) (Err BadHeader)))

gap_at-byte : (in_comment : Bool) (allowed : ℕ) (bytes : List ℕ) → gap_at in_comment allowed bytes ≡ (byte_at allowed bytes >>= gap_step in_comment)
unfolding gap_at gap_step
gap_at-byte true zero bytes = refl
gap_at-byte true (suc allowed) [] = refl
gap_at-byte true (suc allowed) (c ∷ bytes) = refl
gap_at-byte false zero bytes = refl
gap_at-byte false (suc allowed) [] = refl
gap_at-byte false (suc allowed) (c ∷ bytes) = refl

-- a comment continues up to its line end
comment_step : (end : Bool) (allowed : ℕ) (bytes : List ℕ) → cond end (gap_at false allowed bytes) (gap_at true allowed bytes) ≡ gap_at (not end) allowed bytes
comment_step true allowed bytes = refl
comment_step false allowed bytes = refl

pub gap_at-comment : (allowed c allowed' : ℕ) (bytes bytes' : List ℕ) → byte_at allowed bytes ≡ Ok (c, allowed', bytes')
    → gap_at true allowed bytes ≡ gap_at (not (is_line_end c)) allowed' bytes'
unfolding gap_step
gap_at-comment allowed c allowed' bytes bytes' found = rw (gap_at-byte true allowed bytes, found) (comment_step (is_line_end c) allowed' bytes')

-- no character is two of white space, `#` and a digit
white_no_hash : (c : ℕ) → c ≡ 35 → is_white c ≡ false
white_no_hash c h = rw h refl

digit_least : (c : ℕ) → is_digit c ≡ true → 48 ≤ c
digit_least c h = leb-true 48 c (and_parts (leb 48 c) (leb c 57) h).0

pub white_no_digit : (c : ℕ) → is_digit c ≡ true → is_white c ≡ false
white_no_digit c h =
    let low = digit_least c h in
    or_from _ _ (or_from _ _ (or_from _ _ (ne_eqb c 32 (λ e. omega arith)) (ne_eqb c 9 (λ e. omega arith))) (ne_eqb c 13 (λ e. omega arith))) (ne_eqb c 10 (λ e. omega arith))

hash_no_digit : (c : ℕ) → is_digit c ≡ true → is_hash c ≡ false
hash_no_digit c h = let low = digit_least c h in ne_eqb c 35 (λ e. omega arith)

pub gap_at-hash : (allowed c allowed' : ℕ) (bytes bytes' : List ℕ) → byte_at allowed bytes ≡ Ok (c, allowed', bytes') → c ≡ 35
    → gap_at false allowed bytes ≡ gap_at true allowed' bytes'
unfolding gap_step
gap_at-hash allowed c allowed' bytes bytes' found hash = rw (gap_at-byte false allowed bytes, found, white_no_hash c hash, eq-eqb c 35 hash) refl

pub gap_at-digit : (allowed c allowed' : ℕ) (bytes bytes' : List ℕ) → byte_at allowed bytes ≡ Ok (c, allowed', bytes') → is_digit c ≡ true
    → gap_at false allowed bytes ≡ Ok (c, allowed', bytes')
unfolding gap_step
gap_at-digit allowed c allowed' bytes bytes' found digit = rw (gap_at-byte false allowed bytes, found, white_no_digit c digit, hash_no_digit c digit, digit) refl

pub gap_at-white : (allowed c allowed' : ℕ) (bytes bytes' : List ℕ) → byte_at allowed bytes ≡ Ok (c, allowed', bytes') → is_white c ≡ true
    → gap_at false allowed bytes ≡ gap_at false allowed' bytes'
unfolding gap_step
gap_at-white allowed c allowed' bytes bytes' found white = rw (gap_at-byte false allowed bytes, found, white) refl

pub gap_at-other : (allowed c allowed' : ℕ) (bytes bytes' : List ℕ) → byte_at allowed bytes ≡ Ok (c, allowed', bytes') → is_white c ≡ false → (c ≡ 35 → ⊥) → is_digit c ≡ false
    → gap_at false allowed bytes ≡ Err BadHeader
unfolding gap_step
gap_at-other allowed c allowed' bytes bytes' found white hash digit = rw (gap_at-byte false allowed bytes, found, white, ne_eqb c 35 hash, digit) refl

pub gap_at-fault : (in_comment : Bool) (allowed : ℕ) (bytes : List ℕ) (fault : NetpbmFault) → byte_at allowed bytes ≡ Err fault → gap_at in_comment allowed bytes ≡ Err fault
gap_at-fault in_comment allowed bytes fault found = rw (gap_at-byte in_comment allowed bytes, found) refl

pub ruleset gap_lemmas = (gap_at-comment, gap_at-hash, gap_at-digit, gap_at-white, gap_at-other, gap_at-fault)
