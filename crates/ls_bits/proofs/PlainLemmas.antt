-- Un-stuffed bytes as bits, and the bits from a place on.
use Rattle.std.proofs.Common.{◌≡◌, ℕ, zero, suc, ◌+◌, ◌-◌, ◌*◌, ◌/◌, ◌%◌, ◌^◌, ◌<◌, ◌≤◌, ◌⊎◌, inl, inr, ⊎_elim, Bool, true, false, List, [], ◌∷◌, ◌++◌, length, take, drop, set, get_or, refl, sym, ◌∙◌, ap, arith, append_assoc, length-append, take-append-drop, length-set, length-drop, ◌≢◌}
use Rattle.std.proofs.lemmas.List.{take_all, take_at, drop_at, take-append-le, drop-append-le, take-take, drop-take, drop-drop, drop_more, drop_all, get_or-set_same, get_or-set_other, get_or-take, get_or-drop, ext_get_or, length-take-le, append-nil, replicate-append-replicate}
use lib.Seq.{take-append-add}
use Rattle.std.proofs.lemmas.Nat.{pow_pos, pow-add, shr-shr}
use Rattle.std.proofs.lemmas.Bool.{cases_lt, cases_eq}
use Rattle.ls_bits.specs.Bits.{bits_of, zeros as zero_bits}
use Rattle.ls_bits.specs.Golomb.{short_word}
use Rattle.ls_bits.specs.View.Taking.{LeadingZeros, found, none}
use Rattle.ls_bits.specs.View.Plain.{plain_bits, Ahead, bits_from, IsAhead, with_bytes}
use Rattle.ls_bits.proofs.BitLemmas.{bits_of-cat, bits_of-split, bits_of-mod, length-bits_of, length-zeros, shifted_left}
use Rattle.ls_bits.proofs.ShortWords.{short-taken}
use Rattle.ls_bits.proofs.WindowLemmas.{bits_of-four}
use Rattle.std.specs.Int.{byte_at, bytes_high_first, to_be_bytes, w32, w64}
use Rattle.std.proofs.Math.Nat.{pow-succ'}

-- ---- bytes as bits

pub length-plain : (bytes : List ℕ) → length (plain_bits bytes) ≡ 8 * length bytes
length-plain [] = refl
length-plain (byte ∷ bytes) =
    length-append (bits_of 8 byte) (plain_bits bytes) ∙ omega (arith, length-bits_of 8 byte, length-plain bytes)

pub plain-append : (xs ys : List ℕ) → plain_bits (xs ++ ys) ≡ plain_bits xs ++ plain_bits ys
plain-append [] ys = refl
plain-append (x ∷ xs) ys =
    ap (λ bits. bits_of 8 x ++ bits) (plain-append xs ys) ∙ sym (append_assoc (bits_of 8 x) (plain_bits xs) (plain_bits ys))

pub drop-plain : (n : ℕ) (bytes : List ℕ) → drop (8 * n) (plain_bits bytes) ≡ plain_bits (drop n bytes)
drop-plain zero bytes = refl
drop-plain (suc n) [] = drop_all (8 * suc n) [] (omega arith)
drop-plain (suc n) (byte ∷ bytes) =
    let parts : 8 * suc n ≡ 8 + 8 * n = omega arith in
    ap (λ m. drop m (bits_of 8 byte ++ plain_bits bytes)) parts
    ∙ sym (drop-drop (8 * n) 8 (bits_of 8 byte ++ plain_bits bytes))
    ∙ ap (drop (8 * n)) (drop_at (bits_of 8 byte) (plain_bits bytes) 8 (length-bits_of 8 byte))
    ∙ drop-plain n bytes

-- ---- the bits from a place on

-- the first bits of a word shifted left by s are those from s on of any bits that begin with the word
pub aligned : (n width s word : ℕ) (more : List Bool) → s + n ≤ width
    → take n (bits_of width (word * 2 ^ s % 2 ^ width)) ≡ take n (drop s (bits_of width word ++ more))
aligned n width s word more h =
    let keep : ℕ = width - s in
    let sum : keep + s ≡ width = omega arith in
    let other : s + keep ≡ width = omega arith in
    let low : ℕ = word % 2 ^ keep in
    let whole : low * 2 ^ s + 0 ≡ low * 2 ^ s = omega arith in
    let shifted : bits_of width (word * 2 ^ s % 2 ^ width) ≡ bits_of keep low ++ bits_of s 0 =
    ap (bits_of width) (shifted_left s keep width word sum ∙ sym whole) ∙ sym (ap (λ m. bits_of m (low * 2 ^ s + 0)) sum) ∙ bits_of-cat keep s low 0 (pow_pos s) in
    let same : bits_of keep low ≡ bits_of keep word = bits_of-mod keep keep word (omega arith) in
    let long : n ≤ length (bits_of keep word) = omega (arith, length-bits_of keep word) in
    let left : take n (bits_of width (word * 2 ^ s % 2 ^ width)) ≡ take n (bits_of keep word) =
    ap (take n) (shifted ∙ ap (λ bits. bits ++ bits_of s 0) same) ∙ take-append-le n (bits_of keep word) (bits_of s 0) long in
    let split : bits_of width word ≡ bits_of s (word / 2 ^ keep) ++ bits_of keep word =
    sym (ap (λ m. bits_of m word) other) ∙ bits_of-split s keep word in
    let right : drop s (bits_of width word ++ more) ≡ bits_of keep word ++ more =
    ap (λ bits. drop s (bits ++ more)) split
    ∙ ap (drop s) (append_assoc (bits_of s (word / 2 ^ keep)) (bits_of keep word) more)
    ∙ drop_at (bits_of s (word / 2 ^ keep)) (bits_of keep word ++ more) s (length-bits_of s (word / 2 ^ keep)) in
    left ∙ sym (ap (take n) right ∙ take-append-le n (bits_of keep word) more long)

plain-four : (a b c d value : ℕ) (rest : List ℕ) → b < 256 → c < 256 → d < 256
    → value ≡ ((a * 256 + b) * 256 + c) * 256 + d
    → plain_bits (a ∷ b ∷ c ∷ d ∷ rest) ≡ bits_of 32 value ++ plain_bits rest
plain-four a b c d value rest lb lc ld e = sym (bits_of-four a b c d value (plain_bits rest) lb lc ld e)

four_at : (bytes : List ℕ) (at : ℕ) → at + 4 ≤ length bytes
    → drop at bytes ≡ get_or bytes at 0 ∷ get_or bytes (at + 1) 0 ∷ get_or bytes (at + 2) 0 ∷ get_or bytes (at + 3) 0 ∷ drop (at + 4) bytes
four_at bytes at h =
    let second : at + 1 + 1 ≡ at + 2 = omega arith in
    let third : at + 2 + 1 ≡ at + 3 = omega arith in
    let fourth : at + 3 + 1 ≡ at + 4 = omega arith in
    drop_more bytes at 0 (omega arith)
    ∙ ap (λ tail. get_or bytes at 0 ∷ tail) (drop_more bytes (at + 1) 0 (omega arith) ∙ ap (λ n. get_or bytes (at + 1) 0 ∷ drop n bytes) second
    ∙ ap (λ tail. get_or bytes (at + 1) 0 ∷ tail) (drop_more bytes (at + 2) 0 (omega arith) ∙ ap (λ n. get_or bytes (at + 2) 0 ∷ drop n bytes) third
    ∙ ap (λ tail. get_or bytes (at + 2) 0 ∷ tail) (drop_more bytes (at + 3) 0 (omega arith) ∙ ap (λ n. get_or bytes (at + 3) 0 ∷ drop n bytes) fourth)))

word_at : (bytes : List ℕ) (at value : ℕ) → ((i : ℕ) → get_or bytes i 0 < 256) → at + 4 ≤ length bytes
    → value ≡ ((get_or bytes at 0 * 256 + get_or bytes (at + 1) 0) * 256 + get_or bytes (at + 2) 0) * 256 + get_or bytes (at + 3) 0
    → (plain_bits (drop at bytes) ≡ bits_of 32 value ++ plain_bits (drop (at + 4) bytes)) × (value < 2 ^ 32)
word_at bytes at value each h e =
    let a : get_or bytes at 0 < 256 = each at in
    let b : get_or bytes (at + 1) 0 < 256 = each (at + 1) in
    let c : get_or bytes (at + 2) 0 < 256 = each (at + 2) in
    let d : get_or bytes (at + 3) 0 < 256 = each (at + 3) in
    (ap plain_bits (four_at bytes at h) ∙ plain-four _ _ _ _ value (drop (at + 4) bytes) b c d e, omega arith)

eight_at : (bytes : List ℕ) (at high low word : ℕ) → ((i : ℕ) → get_or bytes i 0 < 256) → at + 8 ≤ length bytes
    → high ≡ ((get_or bytes at 0 * 256 + get_or bytes (at + 1) 0) * 256 + get_or bytes (at + 2) 0) * 256 + get_or bytes (at + 3) 0
    → low ≡ ((get_or bytes (at + 4) 0 * 256 + get_or bytes (at + 4 + 1) 0) * 256 + get_or bytes (at + 4 + 2) 0) * 256 + get_or bytes (at + 4 + 3) 0
    → word ≡ high * 2 ^ 32 + low
    → plain_bits (drop at bytes) ≡ bits_of 64 word ++ plain_bits (drop (at + 8) bytes)
eight_at bytes at high low word each h eh el ew =
    let first = word_at bytes at high each (omega arith) eh in
    let second = word_at bytes (at + 4) low each (omega arith) el in
    let both : bits_of 64 word ≡ bits_of 32 high ++ bits_of 32 low = ap (bits_of 64) ew ∙ bits_of-cat 32 32 high low second.1 in
    let next : at + 4 + 4 ≡ at + 8 = omega arith in
    first.0 ∙ ap (λ bits. bits_of 32 high ++ bits) (second.0 ∙ ap (λ n. bits_of 32 low ++ plain_bits (drop n bytes)) next)
    ∙ sym (append_assoc (bits_of 32 high) (bits_of 32 low) (plain_bits (drop (at + 8) bytes)))
    ∙ ap (λ bits. bits ++ plain_bits (drop (at + 8) bytes)) (sym both)

pub from_place : (bytes : List ℕ) (place high low word : ℕ) → ((i : ℕ) → get_or bytes i 0 < 256) → place / 8 + 8 ≤ length bytes
    → high ≡ ((get_or bytes (place / 8) 0 * 256 + get_or bytes (place / 8 + 1) 0) * 256 + get_or bytes (place / 8 + 2) 0) * 256 + get_or bytes (place / 8 + 3) 0
    → low ≡ ((get_or bytes (place / 8 + 4) 0 * 256 + get_or bytes (place / 8 + 5) 0) * 256 + get_or bytes (place / 8 + 6) 0) * 256 + get_or bytes (place / 8 + 7) 0
    → word ≡ high * 2 ^ 32 + low
    → take 57 (bits_of 64 (word * 2 ^ (place % 8) % 2 ^ 64)) ≡ take 57 (drop place (plain_bits bytes))
from_place bytes place high low word each h eh el ew =
    let fifth : place / 8 + 4 + 1 ≡ place / 8 + 5 = omega arith in
    let sixth : place / 8 + 4 + 2 ≡ place / 8 + 6 = omega arith in
    let seventh : place / 8 + 4 + 3 ≡ place / 8 + 7 = omega arith in
    let low_is : low ≡ ((get_or bytes (place / 8 + 4) 0 * 256 + get_or bytes (place / 8 + 4 + 1) 0) * 256 + get_or bytes (place / 8 + 4 + 2) 0) * 256 + get_or bytes (place / 8 + 4 + 3) 0 =
    rw (fifth, sixth, seventh) el in
    let parts : 8 * (place / 8) + place % 8 ≡ place = omega arith in
    let there : drop place (plain_bits bytes) ≡ drop (place % 8) (plain_bits (drop (place / 8) bytes)) =
    sym (ap (λ n. drop n (plain_bits bytes)) parts) ∙ sym (drop-drop (place % 8) (8 * (place / 8)) (plain_bits bytes))
    ∙ ap (drop (place % 8)) (drop-plain (place / 8) bytes) in
    aligned 57 64 (place % 8) word (plain_bits (drop (place / 8 + 8) bytes)) (omega arith)
    ∙ sym (ap (take 57) (there ∙ ap (drop (place % 8)) (eight_at bytes (place / 8) high low word each h eh low_is ew)))

-- ---- bytes moved to the front

pub record AreMoved (from place : ℕ) (old bytes : List ℕ) : Type 0 where
  pub long : length bytes ≡ length old
  pub moved : (j : ℕ) → j < place - from → get_or bytes j 0 ≡ get_or old (from + j) 0
  pub others : (j : ℕ) → place ≤ j → get_or bytes j 0 ≡ get_or old j 0

below : (j n : ℕ) → j ≢ n → j ≤ n → j < n
below j n other h = elim (cases_lt j n) [
  | inl less ↦ less
  | inr more ↦ let same : j ≡ n = omega arith in absurd (other same)
]

pub moved_on : (from place : ℕ) (old bytes : List ℕ) → from ≤ place → place < length bytes → AreMoved from place old bytes
    → AreMoved from (place + 1) old (set bytes (place - from) (get_or bytes place 0))
moved_on from place old bytes order within are =
    let value : ℕ = get_or bytes place 0 in
    record {
      long = length-set bytes (place - from) value ∙ are.long;
      moved = λ j h. elim (cases_eq j (place - from)) [
        | inl same ↦
            let at : from + j ≡ place = omega arith in
            ap (λ n. get_or (set bytes (place - from) value) n 0) same ∙ get_or-set_same bytes (place - from) value 0 (omega arith)
            ∙ are.others place (omega arith) ∙ sym (ap (λ n. get_or old n 0) at)
        | inr other ↦ get_or-set_other bytes (place - from) j value 0 other ∙ are.moved j (below j (place - from) other (omega arith))
      ];
      others = λ j h. get_or-set_other bytes (place - from) j value 0 (λ e. absurd (omega arith)) ∙ are.others j (omega arith);
    }

pub all_moved : (from end : ℕ) (old bytes : List ℕ) → from ≤ end → end ≤ length old → AreMoved from end old bytes
    → take (end - from) bytes ≡ take (end - from) (drop from old)
all_moved from end old bytes order within are =
    let short : end - from ≤ length bytes = omega (arith, are.long) in
    let dropped : length (drop from old) ≡ length old - from = length-drop from old in
    let long : length (take (end - from) bytes) ≡ end - from = length-take-le (end - from) bytes short in
    let other : length (take (end - from) (drop from old)) ≡ end - from = length-take-le (end - from) (drop from old) (omega (arith, dropped)) in
    ext_get_or 0 (take (end - from) bytes) (take (end - from) (drop from old)) (long ∙ sym other)
    (λ i h. let few : i < end - from = omega (arith, long) in
    get_or-take (end - from) bytes i 0 few ∙ are.moved i few ∙ sym (get_or-take (end - from) (drop from old) i 0 few ∙ get_or-drop from old i 0))

-- ---- bits of the first bytes alone

seen_in : (m n q : ℕ) (bytes : List ℕ) → q + n ≤ 8 * m → m ≤ length bytes
    → take n (drop q (plain_bits (take m bytes))) ≡ take n (drop q (plain_bits bytes))
seen_in m n q bytes h short =
    let front : List Bool = plain_bits (take m bytes) in
    let rest : List Bool = plain_bits (drop m bytes) in
    let long : length front ≡ 8 * m = length-plain (take m bytes) ∙ ap (λ l. 8 * l) (length-take-le m bytes short) in
    let whole : plain_bits bytes ≡ front ++ rest = ap plain_bits (sym (take-append-drop m bytes)) ∙ plain-append (take m bytes) (drop m bytes) in
    let dropped : drop q (plain_bits bytes) ≡ drop q front ++ rest = ap (drop q) whole ∙ drop-append-le q front rest (omega (arith, long)) in
    let left : length (drop q front) ≡ 8 * m - q = length-drop q front ∙ ap (λ l. l - q) long in
    sym (ap (take n) dropped ∙ take-append-le n (drop q front) rest (omega (arith, left)))

pub at_front : (bytes moved : List ℕ) (place end : ℕ) → place ≤ end → (end + 7) / 8 ≤ length bytes → length moved ≡ length bytes
    → take ((end + 7) / 8 - place / 8) moved ≡ take ((end + 7) / 8 - place / 8) (drop (place / 8) bytes)
    → take ((end - 8 * (place / 8)) - (place - 8 * (place / 8))) (drop (place - 8 * (place / 8)) (plain_bits moved))
    ≡ take (end - place) (drop place (plain_bits bytes))
at_front bytes moved place end order within long same =
    let from : ℕ = place / 8 in
    let m : ℕ = (end + 7) / 8 - from in
    let n : ℕ = end - place in
    let q : ℕ = place - 8 * from in
    let count : (end - 8 * from) - (place - 8 * from) ≡ n = omega arith in
    let inside : q + n ≤ 8 * m = omega arith in
    let parts : 8 * from + q ≡ place = omega arith in
    let dropped : length (drop from bytes) ≡ length bytes - from = length-drop from bytes in
    ap (λ k. take k (drop q (plain_bits moved))) count
    ∙ sym (seen_in m n q moved inside (omega (arith, long)))
    ∙ ap (λ list. take n (drop q (plain_bits list))) same
    ∙ seen_in m n q (drop from bytes) inside (omega (arith, dropped))
    ∙ ap (λ bits. take n (drop q bits)) (sym (drop-plain from bytes))
    ∙ ap (take n) (drop-drop q (8 * from) (plain_bits bytes) ∙ ap (λ k. drop k (plain_bits bytes)) parts)

-- ---- the bytes of a number, appended

pow-bytes : (k : ℕ) → 256 ^ k ≡ 2 ^ (8 * k)
pow-bytes zero = refl
pow-bytes (suc k) =
    let parts : 8 * suc k ≡ 8 + 8 * k = omega arith in
    pow-succ' 256 k ∙ ap (λ n. 256 * n) (pow-bytes k) ∙ sym (ap (λ n. 2 ^ n) parts ∙ pow-add 2 8 (8 * k))

bits_of-byte : (k n : ℕ) → bits_of 8 (byte_at k n) ≡ bits_of 8 (n / 2 ^ (8 * k))
bits_of-byte zero n =
    let whole : n / 1 ≡ n = omega arith in
    bits_of-mod 8 8 n (omega arith) ∙ ap (bits_of 8) (sym whole)
bits_of-byte (suc k) n =
    bits_of-mod 8 8 (n / 256 ^ suc k) (omega arith) ∙ ap (λ m. bits_of 8 (n / m)) (pow-bytes (suc k))

pub plain-number : (k n : ℕ) → plain_bits (bytes_high_first k n) ≡ bits_of (8 * k) n
plain-number zero n = refl
plain-number (suc k) n =
    let parts : 8 * suc k ≡ 8 + 8 * k = omega arith in
    ap (λ bits. bits_of 8 (byte_at k n) ++ bits) (plain-number k n) ∙ ap (λ bits. bits ++ bits_of (8 * k) n) (bits_of-byte k n)
    ∙ sym (ap (λ m. bits_of m n) parts ∙ bits_of-split 8 (8 * k) n)

length-with_bytes : (bytes : List ℕ) (at : ℕ) (new : List ℕ) → at + length new ≤ length bytes → length (with_bytes bytes at new) ≡ length bytes
length-with_bytes bytes at new h =
    let rest : List ℕ = drop (at + length new) bytes in
    length-append (take at bytes) (new ++ rest)
    ∙ omega (arith, h, length-append new rest, length-take-le at bytes (omega (arith, h)), length-drop (at + length new) bytes)

pub bytes_more : (bytes : List ℕ) (place end count : ℕ) (new : List ℕ) → end % 8 ≡ 0 → end / 8 + length new ≤ length bytes → place ≤ end → count ≤ 8 * length new
    → take (end + count - place) (drop place (plain_bits (with_bytes bytes (end / 8) new)))
    ≡ take (end - place) (drop place (plain_bits bytes)) ++ take count (plain_bits new)
bytes_more bytes place end count new whole within order few =
    let at : ℕ = end / 8 in
    let front : List Bool = plain_bits (take at bytes) in
    let rest : List Bool = plain_bits (drop (at + length new) bytes) in
    let long : length front ≡ end = length-plain (take at bytes) ∙ omega (arith, length-take-le at bytes (omega (arith, within)), whole) in
    let after : plain_bits (with_bytes bytes at new) ≡ front ++ (plain_bits new ++ rest) =
    plain-append (take at bytes) (new ++ drop (at + length new) bytes) ∙ ap (λ bits. front ++ bits) (plain-append new (drop (at + length new) bytes)) in
    let before : plain_bits bytes ≡ front ++ plain_bits (drop at bytes) = ap plain_bits (sym (take-append-drop at bytes)) ∙ plain-append (take at bytes) (drop at bytes) in
    let left : length (drop place front) ≡ end - place = length-drop place front ∙ ap (λ l. l - place) long in
    let sum : end + count - place ≡ length (drop place front) + count = omega (arith, left) in
    let old_bits : take (end - place) (drop place (plain_bits bytes)) ≡ drop place front =
    ap (λ bits. take (end - place) (drop place bits)) before
    ∙ ap (take (end - place)) (drop-append-le place front (plain_bits (drop at bytes)) (omega (arith, long)))
    ∙ take_at (drop place front) (plain_bits (drop at bytes)) (end - place) left in
    ap (λ bits. take (end + count - place) (drop place bits)) after
    ∙ ap (take (end + count - place)) (drop-append-le place front (plain_bits new ++ rest) (omega (arith, long)))
    ∙ ap (λ n. take n (drop place front ++ (plain_bits new ++ rest))) sum
    ∙ take-append-add (drop place front) (plain_bits new ++ rest) count
    ∙ ap (λ bits. drop place front ++ bits) (take-append-le count (plain_bits new) rest (omega (arith, few, length-plain new)))
    ∙ sym (ap (λ bits. bits ++ take count (plain_bits new)) old_bits)

abbrev pub ahead_of : List ℕ → List Bool → Ahead
ahead_of bytes bits = record { bytes = bytes; bits = bits }

-- bits are only added after complete bytes
still_whole : (end count : ℕ) (front old new : List Bool) → old ≡ take count front ++ new → count ≤ length front → (count ≡ 0 → ⊥)
    → (end % 8 ≡ 0) ⊎ (old ≡ []) → end % 8 ≡ 0
still_whole end count front old new e few some (inl whole) = whole
still_whole end count front old new e few some (inr nothing_left) =
    let size : length (take count front) ≡ count = length-take-le count front few in
    let all : length old ≡ length (take count front) + length new = ap length e ∙ length-append (take count front) new in
    let nothing : count ≡ 0 = omega (arith, size, all, ap length nothing_left) in
    absurd (some nothing)

-- adding bytes doesn't change the bits that the source has left
pub record IsLonger (bytes longer : List ℕ) (place end later : ℕ) (old new : List Bool) : Type 0 where
  pub ahead : IsAhead (ahead_of longer new) place later
  pub bits : bits_from (ahead_of longer new) place later ≡ bits_from (ahead_of bytes old) place end

longer_by : (bytes : List ℕ) (place end count : ℕ) (more : List ℕ) (old new : List Bool) → IsAhead (ahead_of bytes old) place end
    → end + 8 * length more ≤ 16384 → (count ≡ 0 → ⊥) → old ≡ take count (plain_bits more) ++ new → count ≤ 8 * length more
    → (count ≡ 8 * length more) ⊎ (new ≡ []) → IsLonger bytes (with_bytes bytes (end / 8) more) place end (end + count) old new
longer_by bytes place end count more old new are room some e few all =
    let whole : end % 8 ≡ 0 = still_whole end count (plain_bits more) old new e (omega (arith, few, length-plain more)) some are.whole in
    let within : end / 8 + length more ≤ length bytes = omega (arith, are.room, room) in
    let seen : List Bool = take (end - place) (drop place (plain_bits bytes)) in
    record {
      ahead = record {
        order = omega (arith, are.order);
        within = omega (arith, room, few);
        whole = ⊎_elim (λ full. let same : (end + count) % 8 ≡ 0 = omega (arith, full, whole) in inl same) inr all;
        room = length-with_bytes bytes (end / 8) more within ∙ are.room;
      };
      bits = ap (λ bits. bits ++ new) (bytes_more bytes place end count more whole within are.order few)
          ∙ append_assoc seen (take count (plain_bits more)) new
          ∙ ap (λ bits. seen ++ bits) (sym e);
    }

pub longer_by_four : (bytes : List ℕ) (place end count number : ℕ) (old new : List Bool) → IsAhead (ahead_of bytes old) place end
    → end + 32 ≤ 16384 → (count ≡ 0 → ⊥) → old ≡ take count (bits_of 32 number) ++ new → count ≤ 32 → (count ≡ 32) ⊎ (new ≡ [])
    → IsLonger bytes (with_bytes bytes (end / 8) (to_be_bytes w32 number)) place end (end + count) old new
longer_by_four bytes place end count number old new are room some e few all =
    longer_by bytes place end count (to_be_bytes w32 number) old new are room some
    (e ∙ ap (λ bits. take count bits ++ new) (sym (plain-number 4 number))) few all

pub longer_by_eight : (bytes : List ℕ) (place end number : ℕ) (old new : List Bool) → IsAhead (ahead_of bytes old) place end
    → end + 64 ≤ 16384 → old ≡ bits_of 64 number ++ new
    → IsLonger bytes (with_bytes bytes (end / 8) (to_be_bytes w64 number)) place end (end + 64) old new
longer_by_eight bytes place end number old new are room e =
    longer_by bytes place end 64 (to_be_bytes w64 number) old new are room (λ none. absurd (omega arith))
    (e ∙ ap (λ bits. bits ++ new) (sym (take_all 64 (bits_of 64 number) (omega (arith, length-bits_of 64 number))) ∙ ap (take 64) (sym (plain-number 8 number))))
    (omega arith) (inl refl)

-- ---- a window's bits

length-ahead : (ahead : Ahead) (place end : ℕ) → IsAhead ahead place end → length (take (end - place) (drop place (plain_bits ahead.bytes))) ≡ end - place
length-ahead ahead place end are =
    let long : length (plain_bits ahead.bytes) ≡ 8 * length ahead.bytes = length-plain ahead.bytes in
    let left : length (drop place (plain_bits ahead.bytes)) ≡ length (plain_bits ahead.bytes) - place = length-drop place (plain_bits ahead.bytes) in
    length-take-le (end - place) (drop place (plain_bits ahead.bytes)) (omega (arith, long, left, are.order, are.within, are.room))

pub front_seen : (ahead : Ahead) (place end word n : ℕ) → IsAhead ahead place end
    → take 57 (bits_of 64 word) ≡ take 57 (drop place (plain_bits ahead.bytes)) → n ≤ 57 → n ≤ end - place
    → take n (bits_of 64 word) ≡ take n (bits_from ahead place end)
front_seen ahead place end word n are same few there =
    let all : List Bool = drop place (plain_bits ahead.bytes) in
    sym (take-take n 57 (bits_of 64 word) few) ∙ ap (take n) same ∙ take-take n 57 all few
    ∙ sym (take-append-le n (take (end - place) all) ahead.bits (omega (arith, length-ahead ahead place end are)) ∙ take-take n (end - place) all there)

pub skipped : (ahead : Ahead) (place end count : ℕ) → IsAhead ahead place end → count ≤ end - place
    → bits_from ahead (place + count) end ≡ drop count (bits_from ahead place end)
skipped ahead place end count are there =
    let all : List Bool = drop place (plain_bits ahead.bytes) in
    let parts : count + (end - (place + count)) ≡ end - place = omega arith in
    sym (drop-append-le count (take (end - place) all) ahead.bits (omega (arith, length-ahead ahead place end are))
    ∙ ap (λ bits. bits ++ ahead.bits) (ap (λ n. drop count (take n all)) (sym parts) ∙ drop-take count (end - (place + count)) all
    ∙ ap (take (end - (place + count))) (drop-drop count place (plain_bits ahead.bytes))))

-- ---- what bits begin with, by the first of them

-- what the first n of other bits say, when the first n of both are the same
pub begun : (n : ℕ) (seen bits front rest : List Bool) → take n seen ≡ take n bits → seen ≡ front ++ rest → length front ≤ n
    → bits ≡ front ++ drop (length front) bits
begun n seen bits front rest same begins short =
    let size : ℕ = length front in
    let first : take size bits ≡ front =
    sym (take-take size n bits short) ∙ ap (take size) (sym same) ∙ take-take size n seen short ∙ ap (take size) begins
    ∙ take_at front rest size refl in
    sym (take-append-drop size bits) ∙ ap (λ list. list ++ drop size bits) first

pub length-from : (ahead : Ahead) (place end : ℕ) → IsAhead ahead place end → length (bits_from ahead place end) ≡ (end - place) + length ahead.bits
length-from ahead place end are =
    length-append (take (end - place) (drop place (plain_bits ahead.bytes))) ahead.bits ∙ ap (λ n. n + length ahead.bits) (length-ahead ahead place end are)

-- a number at the front
pub number_begun : (front count value : ℕ) (bits : List Bool) → count ≤ 32 → value ≡ front / 2 ^ 32 / 2 ^ (32 - count) % 2 ^ count
    → take count (bits_of 64 front) ≡ take count bits → bits ≡ bits_of count value ++ drop count bits
number_begun front count value bits few is same =
    let rest : ℕ = 64 - count in
    let sum : count + rest ≡ 64 = omega arith in
    let parts : 32 + (32 - count) ≡ rest = omega arith in
    let shifted : front / 2 ^ 32 / 2 ^ (32 - count) ≡ front / 2 ^ rest = shr-shr front 32 (32 - count) ∙ ap (λ n. front / 2 ^ n) parts in
    let first : bits_of count (front / 2 ^ rest) ≡ bits_of count value =
    sym (ap (bits_of count) (is ∙ ap (λ n. n % 2 ^ count) shifted) ∙ bits_of-mod count count (front / 2 ^ rest) (omega arith)) in
    let split : bits_of 64 front ≡ bits_of count value ++ bits_of rest front =
    sym (ap (λ n. bits_of n front) sum) ∙ bits_of-split count rest front ∙ ap (λ list. list ++ bits_of rest front) first in
    let size : length (bits_of count value) ≡ count = length-bits_of count value in
    begun count (bits_of 64 front) bits (bits_of count value) (bits_of rest front) same split (omega (arith, size))
    ∙ ap (λ n. bits_of count value ++ drop n bits) size

length-short : (k value lead : ℕ) → value / 2 ^ k ≡ lead → length (short_word k value) ≡ lead + 1 + k
length-short k value lead high =
    length-append (zero_bits (value / 2 ^ k)) (true ∷ bits_of k value)
    ∙ omega (arith, length-zeros (value / 2 ^ k), length-bits_of k value, high)

-- a short word at the front
pub short_begun : (k front lead low value : ℕ) (bits : List Bool) → LeadingZeros 64 front lead → lead + 1 + k ≤ 57
    → low ≡ front / 2 ^ (64 - (lead + 1) - k) % 2 ^ k → value ≡ lead * 2 ^ k + low
    → take (lead + 1 + k) (bits_of 64 front) ≡ take (lead + 1 + k) bits → bits ≡ short_word k value ++ drop (lead + 1 + k) bits
short_begun k front lead low value bits leading room low_is value_is same =
    let short = short-taken k front 64 lead low value false [] leading (omega arith) low_is value_is in
    let rest : List Bool = bits_of (64 - (lead + 1) - k) front in
    let split : bits_of 64 front ≡ short_word k value ++ rest =
    sym (append-nil (bits_of 64 front)) ∙ short.taken ∙ ap (λ list. short_word k value ++ list) (append-nil rest) in
    let size : length (short_word k value) ≡ lead + 1 + k = length-short k value lead short.high in
    begun (lead + 1 + k) (bits_of 64 front) bits (short_word k value) rest same split (omega (arith, size))
    ∙ ap (λ n. short_word k value ++ drop n bits) size

-- zeros and a one at the front
pub one_begun : (front lead seen : ℕ) (bits : List Bool) → LeadingZeros 64 front lead → lead < seen → seen ≤ 57
    → take (lead + 1) (bits_of 64 front) ≡ take (lead + 1) bits → bits ≡ zero_bits lead ++ true ∷ drop (lead + 1) bits
one_begun front lead seen bits (none all e) less few same = absurd (omega arith)
one_begun front lead seen bits (found within e) less few same =
    let rest : List Bool = bits_of (64 - (lead + 1)) front in
    let front_bits : List Bool = zero_bits lead ++ true ∷ [] in
    let split : bits_of 64 front ≡ front_bits ++ rest = e ∙ sym (append_assoc (zero_bits lead) (true ∷ []) rest) in
    let size : length front_bits ≡ lead + 1 = length-append (zero_bits lead) (true ∷ []) ∙ ap (λ n. n + 1) (length-zeros lead) in
    begun (lead + 1) (bits_of 64 front) bits front_bits rest same split (omega (arith, size))
    ∙ ap (λ n. front_bits ++ drop n bits) size ∙ append_assoc (zero_bits lead) (true ∷ []) (drop (lead + 1) bits)

zeros_split : (front lead seen : ℕ) → LeadingZeros 64 front lead → seen ≤ lead → seen ≤ 57
    → (rest : List Bool) × (bits_of 64 front ≡ zero_bits seen ++ rest)
zeros_split front lead seen (found within e) enough few =
    let parts : zero_bits seen ++ zero_bits (lead - seen) ≡ zero_bits lead =
    replicate-append-replicate seen (lead - seen) false ∙ ap zero_bits (let sum : seen + (lead - seen) ≡ lead = omega arith in sum) in (
      zero_bits (lead - seen) ++ true ∷ bits_of (64 - (lead + 1)) front,
      e ∙ ap (λ list. list ++ true ∷ bits_of (64 - (lead + 1)) front) (sym parts)
          ∙ append_assoc (zero_bits seen) (zero_bits (lead - seen)) (true ∷ bits_of (64 - (lead + 1)) front),
    )
zeros_split front lead seen (none all e) enough few =
    let parts : zero_bits seen ++ zero_bits (64 - seen) ≡ zero_bits 64 =
    replicate-append-replicate seen (64 - seen) false ∙ ap zero_bits (let sum : seen + (64 - seen) ≡ 64 = omega arith in sum) in
    (zero_bits (64 - seen), e ∙ sym parts)

pub zeros_begun : (front lead seen : ℕ) (bits : List Bool) → LeadingZeros 64 front lead → seen ≤ lead → seen ≤ 57
    → take seen (bits_of 64 front) ≡ take seen bits → bits ≡ zero_bits seen ++ drop seen bits
zeros_begun front lead seen bits leading enough few same =
    let begins = zeros_split front lead seen leading enough few in
    let size : length (zero_bits seen) ≡ seen = length-zeros seen in
    begun seen (bits_of 64 front) bits (zero_bits seen) begins.0 same begins.1 (omega (arith, size))
    ∙ ap (λ n. zero_bits seen ++ drop n bits) size
