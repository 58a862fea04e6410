-- Bits taken 32 or 64 at a time.
use Rattle.std.proofs.Common.{◌≡◌, ℕ, suc, ◌+◌, ◌-◌, ◌*◌, ◌/◌, ◌%◌, ◌^◌, ◌<◌, ◌≤◌, ◌⊎◌, inl, inr, Bool, true, false, ◌==◌, List, [], ◌∷◌, ◌++◌, length, take, drop, get_or, append_assoc, refl, sym, ◌∙◌, ap, subst, arith}
use Rattle.std.proofs.lemmas.List.{take_all, take_at}
use lib.Bits.{bit_or}
use Rattle.std.proofs.lemmas.Nat.{shl_whole, shl_below, shr_below, mul-mod_first, mod_below, pow_pos}
use Rattle.std.proofs.Math.Nat.{pow-suc}
use Rattle.std.proofs.lemmas.Bool.{true≢false}
use Rattle.std.proofs.Math.Pow.{pow_mono}
use Rattle.ls_bits.specs.Bits.{bits_of, AreBytes}
use Rattle.ls_bits.specs.Stuffing.{bits_after, unstuff_from}
use Rattle.ls_bits.specs.View.Packing.{BitsLeft, byte_bits, bits_left, KeepsStuffing, HasNoFf, IsWindow}
use Rattle.ls_bits.proofs.BitLemmas.{bits_of-cat, bits_of-split, bits_of-mod, length-bits_of, shifted_in}
use Rattle.ls_bits.proofs.StuffingLemmas.{bits_after-other}
use Rattle.ls_bits.proofs.WindowLemmas.{bits_of-four, bits_left-take, length-held}

pub none_of : {A : Type 0} (xs : List A) → length xs ≤ 0 → xs ≡ []
none_of [] h = refl
none_of (x ∷ xs) h = absurd (omega arith)

pub thirty_two_taken : (word held value : ℕ) (after_ff : Bool) (rest : List ℕ) → 32 ≤ held → value ≡ word / 2 ^ (held - 32) % 2 ^ 32
    → bits_left word held after_ff rest ≡ take 32 (bits_of 32 value) ++ bits_left word (held - 32) after_ff rest
thirty_two_taken word held value after_ff rest enough is =
    bits_left-take word held 32 value after_ff rest enough is

shifted_whole : (word held low : ℕ) → held < 32 → low ≡ word % 2 ^ held → low * 2 ^ (32 - held) % 2 ^ 64 ≡ low * 2 ^ (32 - held)
shifted_whole word held low few is =
    let small : low < 2 ^ held = subst (λ n. n < 2 ^ held) (sym is) (mod_below word (2 ^ held) (pow_pos held)) in
    shl_whole low held (32 - held) 64 small (omega arith)

pub shifted_fits : (word held low : ℕ) → held < 32 → low ≡ word % 2 ^ held → low * 2 ^ (32 - held) % 2 ^ 64 < 2 ^ 32
shifted_fits word held low few is =
    let small : low < 2 ^ held = subst (λ n. n < 2 ^ held) (sym is) (mod_below word (2 ^ held) (pow_pos held)) in
    let sum : held + (32 - held) ≡ 32 = omega arith in
    let below : low * 2 ^ (32 - held) < 2 ^ (held + (32 - held)) = shl_below low held (32 - held) small in
    subst (λ n. n < 2 ^ 32) (sym (shifted_whole word held low few is)) (subst (λ n. low * 2 ^ (32 - held) < 2 ^ n) sum below)

pub rest_taken : (word held low : ℕ) (after_ff : Bool) (rest : List ℕ) → held < 32 → low ≡ word % 2 ^ held
    → bits_left word held after_ff rest ≡ take held (bits_of 32 (low * 2 ^ (32 - held) % 2 ^ 64)) ++ unstuff_from (byte_bits after_ff) rest
rest_taken word held low after_ff rest few is =
    let sum : held + (32 - held) ≡ 32 = omega arith in
    let plain : low * 2 ^ (32 - held) + 0 ≡ low * 2 ^ (32 - held) = omega arith in
    let parts : bits_of (held + (32 - held)) (low * 2 ^ (32 - held) + 0) ≡ bits_of held low ++ bits_of (32 - held) 0 =
    bits_of-cat held (32 - held) low 0 (pow_pos (32 - held)) in
    let whole : bits_of 32 (low * 2 ^ (32 - held) % 2 ^ 64) ≡ bits_of held low ++ bits_of (32 - held) 0 =
    ap (bits_of 32) (shifted_whole word held low few is ∙ sym plain) ∙ sym (ap (λ n. bits_of n (low * 2 ^ (32 - held) + 0)) sum) ∙ parts in
    let front : take held (bits_of 32 (low * 2 ^ (32 - held) % 2 ^ 64)) ≡ bits_of held low =
    ap (take held) whole ∙ take_at (bits_of held low) (bits_of (32 - held) 0) held (length-bits_of held low) in
    let same : bits_of held word ≡ bits_of held low = sym (ap (bits_of held) is ∙ bits_of-mod held held word (omega arith)) in
    ap (λ bits. bits ++ unstuff_from (byte_bits after_ff) rest) (same ∙ sym front)

-- if fewer than 32 bits are held after a refill, no more are left
pub no_more : (word held : ℕ) (after_ff : Bool) (rest : List ℕ) (seen : BitsLeft) → held < 32
    → ◌≡◌ {A = BitsLeft} (record { bits = bits_left word held after_ff rest; held = held }) seen
    → (32 ≤ seen.held) ⊎ (length seen.bits ≤ seen.held) → unstuff_from (byte_bits after_ff) rest ≡ []
no_more word held after_ff rest seen few is (inl enough) = absurd (omega (arith, enough, ap (λ (w : BitsLeft). w.held) is))
no_more word held after_ff rest seen few is (inr all) =
    none_of _ (omega (arith, all, ap (λ (w : BitsLeft). w.held) is, ap (λ (w : BitsLeft). length w.bits) is, length-held word held after_ff rest))

-- ---- eight bytes at once

pub with_bits_are : (word held other : ℕ) → held ≤ 63 → other < 2 ^ 64
    → bits_of 64 (bit_or (word * 2 % 2 ^ 64 * 2 ^ (63 - held) % 2 ^ 64) (other / 2 ^ held)) ≡ bits_of held word ++ bits_of (64 - held) (other / 2 ^ held)
with_bits_are word held other few small =
    let count : ℕ = 64 - held in
    let sum : held + count ≡ 64 = omega arith in
    let place : count + held ≡ 64 = omega arith in
    let next : suc (63 - held) ≡ count = omega arith in
    let doubled : 2 ^ count ≡ 2 ^ (63 - held) * 2 = sym (ap (λ n. 2 ^ n) next) ∙ pow-suc 2 (63 - held) in
    let below : other / 2 ^ held < 2 ^ count = shr_below other count held (subst (λ n. other < 2 ^ n) (sym place) small) in
    let shifted : word * 2 % 2 ^ 64 * 2 ^ (63 - held) % 2 ^ 64 ≡ word * 2 ^ count % 2 ^ 64 =
    mul-mod_first (word * 2) (2 ^ (63 - held)) (2 ^ 64) ∙ ap (λ n. n % 2 ^ 64) (rw doubled (grind arith)) in
    ap (λ n. bits_of 64 (bit_or n (other / 2 ^ held))) shifted
    ∙ ap (λ n. bits_of n (bit_or (word * 2 ^ count % 2 ^ 64) (other / 2 ^ held))) (sym sum)
    ∙ shifted_in held count word (other / 2 ^ held) (omega arith) below

-- four bytes of which none is FF, as bits
four_plain : (a b c d value : ℕ) (rest : List ℕ) → KeepsStuffing 8 (a ∷ b ∷ c ∷ d ∷ rest)
    → (a ≡ 255 → ⊥) → (b ≡ 255 → ⊥) → (c ≡ 255 → ⊥) → (d ≡ 255 → ⊥) → value ≡ ((a * 256 + b) * 256 + c) * 256 + d
    → (unstuff_from 8 (a ∷ b ∷ c ∷ d ∷ rest) ≡ bits_of 32 value ++ unstuff_from 8 rest) × (value < 2 ^ 32) × KeepsStuffing 8 rest
four_plain a b c d value rest keeps na nb nc nd e =
    let size_a : bits_after a ≡ 8 = bits_after-other a na in
    let size_b : bits_after b ≡ 8 = bits_after-other b nb in
    let size_c : bits_after c ≡ 8 = bits_after-other c nc in
    let size_d : bits_after d ≡ 8 = bits_after-other d nd in
    let keeps_b : KeepsStuffing 8 (b ∷ c ∷ d ∷ rest) = subst (λ size. KeepsStuffing size (b ∷ c ∷ d ∷ rest)) size_a keeps.1 in
    let keeps_c : KeepsStuffing 8 (c ∷ d ∷ rest) = subst (λ size. KeepsStuffing size (c ∷ d ∷ rest)) size_b keeps_b.1 in
    let keeps_d : KeepsStuffing 8 (d ∷ rest) = subst (λ size. KeepsStuffing size (d ∷ rest)) size_c keeps_c.1 in
    let keeps_rest : KeepsStuffing 8 rest = subst (λ size. KeepsStuffing size rest) size_d keeps_d.1 in
    let la : a < 256 = keeps.0 in
    let lb : b < 256 = keeps_b.0 in
    let lc : c < 256 = keeps_c.0 in
    let ld : d < 256 = keeps_d.0 in
    let more : List Bool = unstuff_from 8 rest in
    let sizes : unstuff_from 8 (a ∷ b ∷ c ∷ d ∷ rest) ≡ bits_of 8 a ++ (bits_of 8 b ++ (bits_of 8 c ++ (bits_of 8 d ++ more))) =
    rw (size_a, size_b, size_c, size_d) refl in
    (sizes ∙ sym (bits_of-four a b c d value more lb lc ld e), omega arith, keeps_rest)

eight_plain : (a b c d e f g h word : ℕ) (rest : List ℕ) → KeepsStuffing 8 (a ∷ b ∷ c ∷ d ∷ e ∷ f ∷ g ∷ h ∷ rest) → HasNoFf word
    → a < 256 → b < 256 → c < 256 → d < 256 → e < 256 → f < 256 → g < 256 → h < 256
    → word ≡ (((a * 256 + b) * 256 + c) * 256 + d) * 4294967296 + (((e * 256 + f) * 256 + g) * 256 + h)
    → (unstuff_from 8 (a ∷ b ∷ c ∷ d ∷ e ∷ f ∷ g ∷ h ∷ rest) ≡ bits_of 64 word ++ unstuff_from 8 rest) × KeepsStuffing 8 rest
eight_plain a b c d e f g h word rest keeps none la lb lc ld le lf lg lh is =
    let high : ℕ = ((a * 256 + b) * 256 + c) * 256 + d in
    let low : ℕ = ((e * 256 + f) * 256 + g) * 256 + h in
    let first = four_plain a b c d high (e ∷ f ∷ g ∷ h ∷ rest) keeps
    (λ x. none.at_56 (omega arith)) (λ x. none.at_48 (omega arith)) (λ x. none.at_40 (omega arith)) (λ x. none.at_32 (omega arith)) refl in
    let second = four_plain e f g h low rest first.2
    (λ x. none.at_24 (omega arith)) (λ x. none.at_16 (omega arith)) (λ x. none.at_8 (omega arith)) (λ x. none.at_0 (omega arith)) refl in
    let both : bits_of 64 word ≡ bits_of 32 high ++ bits_of 32 low = ap (bits_of 64) is ∙ bits_of-cat 32 32 high low second.1 in (
      first.0 ∙ ap (λ bits. bits_of 32 high ++ bits) second.0
          ∙ sym (append_assoc (bits_of 32 high) (bits_of 32 low) (unstuff_from 8 rest)) ∙ ap (λ bits. bits ++ unstuff_from 8 rest) (sym both),
      second.2,
    )

bits_after-most : (byte : ℕ) → bits_after byte ≤ 8
bits_after-most byte = size_most byte (byte == 255) refl
  where
    size_most : (byte : ℕ) (is : Bool) → (byte == 255) ≡ is → bits_after byte ≤ 8
    size_most byte true e = rw e (omega arith)
    size_most byte false e = rw e (omega arith)

small_bytes : (size : ℕ) (bytes : List ℕ) → size ≤ 8 → KeepsStuffing size bytes → AreBytes bytes
small_bytes size [] h keeps = tt
small_bytes size (byte ∷ bytes) h keeps =
    let most : 2 ^ size ≤ 2 ^ 8 = pow_mono h in
    (omega (arith, keeps.0, most), small_bytes (bits_after byte) bytes (bits_after-most byte) keeps.1)

-- eight bytes of which none is FF, after a byte that isn't FF
eight_taken_in : (word held bits a b c d e f g h eight : ℕ) (rest : List ℕ) → IsWindow held false (a ∷ b ∷ c ∷ d ∷ e ∷ f ∷ g ∷ h ∷ rest) → HasNoFf eight
    → eight ≡ (((a * 256 + b) * 256 + c) * 256 + d) * 4294967296 + (((e * 256 + f) * 256 + g) * 256 + h)
    → bits_of 64 bits ≡ bits_of held word ++ bits_of (64 - held) (eight / 2 ^ held)
    → (bits_left word held false (a ∷ b ∷ c ∷ d ∷ e ∷ f ∷ g ∷ h ∷ rest) ≡ bits_of 64 bits ++ bits_left eight held false rest) × IsWindow held false rest
eight_taken_in word held bits a b c d e f g h eight rest window none is taken =
    let small = small_bytes 8 (a ∷ b ∷ c ∷ d ∷ e ∷ f ∷ g ∷ h ∷ rest) (omega arith) window.keeps in
    let found = eight_plain a b c d e f g h eight rest window.keeps none small.0 small.1.0 small.1.1.0 small.1.1.1.0 small.1.1.1.1.0 small.1.1.1.1.1.0 small.1.1.1.1.1.1.0 small.1.1.1.1.1.1.1.0 is in
    let more : List Bool = unstuff_from 8 rest in
    let few : held ≤ 63 = window.few in
    let sum : (64 - held) + held ≡ 64 = omega arith in
    let high : List Bool = bits_of (64 - held) (eight / 2 ^ held) in
    let split : bits_of 64 eight ≡ high ++ bits_of held eight = sym (ap (λ n. bits_of n eight) sum) ∙ bits_of-split (64 - held) held eight in (
      ap (λ list. bits_of held word ++ list) (found.0 ∙ ap (λ list. list ++ more) split ∙ append_assoc high (bits_of held eight) more)
          ∙ sym (append_assoc (bits_of held word) high (bits_of held eight ++ more))
          ∙ ap (λ list. list ++ (bits_of held eight ++ more)) (sym taken),
      record { few = few; keeps = found.1 },
    )

pub eight_in : (word held bits eight : ℕ) (after_ff : Bool) (bytes : List ℕ) → after_ff ≡ false → 8 ≤ length bytes → IsWindow held after_ff bytes → HasNoFf eight
    → eight ≡ (((get_or bytes 0 0 * 256 + get_or bytes 1 0) * 256 + get_or bytes 2 0) * 256 + get_or bytes 3 0) * 4294967296
    + (((get_or bytes 4 0 * 256 + get_or bytes 5 0) * 256 + get_or bytes 6 0) * 256 + get_or bytes 7 0)
    → bits_of 64 bits ≡ bits_of held word ++ bits_of (64 - held) (eight / 2 ^ held)
    → (bits_left word held after_ff bytes ≡ bits_of 64 bits ++ bits_left eight held after_ff (take (length bytes - 8) (drop 8 bytes)))
    × IsWindow held after_ff (take (length bytes - 8) (drop 8 bytes))
eight_in word held bits eight true bytes other some window none is taken = absurd (true≢false other)
eight_in word held bits eight false (a ∷ b ∷ c ∷ d ∷ e ∷ f ∷ g ∷ h ∷ bytes) other some window none is taken =
    let all : take (length (a ∷ b ∷ c ∷ d ∷ e ∷ f ∷ g ∷ h ∷ bytes) - 8) bytes ≡ bytes = take_all (length (a ∷ b ∷ c ∷ d ∷ e ∷ f ∷ g ∷ h ∷ bytes) - 8) bytes (omega arith) in
    rw all (eight_taken_in word held bits a b c d e f g h eight bytes window none is taken)
eight_in word held bits eight false [] other some window none is taken = absurd (omega arith)
eight_in word held bits eight false (a ∷ []) other some window none is taken = absurd (omega arith)
eight_in word held bits eight false (a ∷ b ∷ []) other some window none is taken = absurd (omega arith)
eight_in word held bits eight false (a ∷ b ∷ c ∷ []) other some window none is taken = absurd (omega arith)
eight_in word held bits eight false (a ∷ b ∷ c ∷ d ∷ []) other some window none is taken = absurd (omega arith)
eight_in word held bits eight false (a ∷ b ∷ c ∷ d ∷ e ∷ []) other some window none is taken = absurd (omega arith)
eight_in word held bits eight false (a ∷ b ∷ c ∷ d ∷ e ∷ f ∷ []) other some window none is taken = absurd (omega arith)
eight_in word held bits eight false (a ∷ b ∷ c ∷ d ∷ e ∷ f ∷ g ∷ []) other some window none is taken = absurd (omega arith)
