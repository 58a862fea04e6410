-- What the steps of a `Stuffed` do to the bits that it has left.
use Rattle.std.proofs.Common.{◌≡◌, ℕ, suc, ◌+◌, ◌-◌, ◌*◌, ◌/◌, ◌%◌, ◌^◌, ◌<◌, ◌≤◌, inr, Bool, true, false, eqb, List, [], ◌∷◌, ◌++◌, length, take, drop, get_or, refl, sym, ◌∙◌, ap, Fits, w8, subst, arith, append_assoc, length-append}
use Rattle.std.proofs.lemmas.List.{append-nil, take_all, replicate-append-replicate, drop_more}
use Rattle.std.proofs.lemmas.Bool.{true≢false}
use lib.Bits.{bit_or}
use Rattle.ls_bits.specs.Bits.{bits_of, zeros, BeginsWith, AreBytes}
use Rattle.ls_bits.specs.Stuffing.{bits_after, unstuff_from}
use Rattle.ls_bits.specs.Data.{IsData}
use Rattle.ls_bits.specs.View.Packing.{byte_bits, KeepsStuffing, bits_left, BitsLeft, IsWindow}
use Rattle.ls_bits.specs.View.Taking.{LeadingZeros, found, none}
use Rattle.ls_bits.proofs.BitLemmas.{shifted_in, bits_of-cat, bits_of-split, bits_of-mod, length-bits_of}
use Rattle.ls_bits.proofs.StuffingLemmas.{size_range, bits_after-other, data-keeps}
use Rattle.ls_bits.proofs.PackingLemmas.{byte_bits-size}

-- ---- the beginning

pub bytes-each : (bytes : List ℕ) → ((i : ℕ) → get_or bytes i 0 < 256) → AreBytes bytes
bytes-each [] each = tt
bytes-each (byte ∷ bytes) each = (each 0, bytes-each bytes (λ i. each (suc i)))

pub window-new : (bytes : List ℕ) → ((i : ℕ) → Fits w8 (get_or bytes i 0)) → IsData bytes → IsWindow 0 false bytes
window-new bytes each data_is = record {
  few = omega arith;
  keeps = data-keeps 8 bytes (inr refl) (bytes-each bytes (λ i. let fits : Fits w8 (get_or bytes i 0) = each i in omega arith)) data_is (λ e. absurd (omega arith));
}

-- ---- bytes taken in

pub record TakenIn (word held : ℕ) (after_ff : Bool) (bytes : List ℕ) (word_after held_after : ℕ) (ff_after : Bool) (rest : List ℕ) : Type 0 where
  pub window : IsWindow held_after ff_after rest
  pub left : bits_left word_after held_after ff_after rest ≡ bits_left word held after_ff bytes

one_in : (word held byte : ℕ) (after_ff : Bool) (bytes : List ℕ) → IsWindow held after_ff (byte ∷ bytes) → held ≤ 55
    → TakenIn word held after_ff (byte ∷ bytes) (bit_or (word * 2 ^ byte_bits after_ff % 2 ^ 64) byte) (held + byte_bits after_ff) (eqb byte 255) bytes
one_in word held byte after_ff bytes window few =
    let range : (7 ≤ byte_bits after_ff) × (byte_bits after_ff ≤ 8) = size_range (byte_bits after_ff) (byte_bits-size after_ff) in
    record {
      window = record { few = omega (arith, range.1); keeps = window.keeps.1 };
      left = ap (λ bits. bits ++ unstuff_from (bits_after byte) bytes) (shifted_in held (byte_bits after_ff) word byte (omega (arith, range.1)) window.keeps.0)
          ∙ append_assoc (bits_of held word) (bits_of (byte_bits after_ff) byte) (unstuff_from (bits_after byte) bytes);
    }

pub byte_in : (word held size value : ℕ) (after_ff : Bool) (bytes : List ℕ) → 1 ≤ length bytes → IsWindow held after_ff bytes → held ≤ 55
    → size ≡ byte_bits after_ff → value ≡ get_or bytes 0 0
    → TakenIn word held after_ff bytes (bit_or (word * 2 ^ size % 2 ^ 64) value) (held + size) (eqb (get_or bytes 0 0) 255) (take (length bytes - 1) (drop 1 bytes))
byte_in word held size value after_ff [] some window few e v = absurd (omega arith)
byte_in word held size value after_ff (byte ∷ bytes) some window few e v =
    let rest : take (suc (length bytes) - 1) bytes ≡ bytes = take_all (suc (length bytes) - 1) bytes (omega arith) in
    rw (e, v, rest) (one_in word held byte after_ff bytes window few)

-- a number's lowest byte, with more bits after it
last_byte : (high a b : ℕ) (more : List Bool) → b < 256 → bits_of (high + 8) (a * 256 + b) ++ more ≡ bits_of high a ++ (bits_of 8 b ++ more)
last_byte high a b more small = ap (λ bits. bits ++ more) (bits_of-cat high 8 a b small) ∙ append_assoc (bits_of high a) (bits_of 8 b) more

-- the bits of a number in four bytes, with more bits after them
pub bits_of-four : (first second third fourth value : ℕ) (more : List Bool) → second < 256 → third < 256 → fourth < 256
    → value ≡ ((first * 256 + second) * 256 + third) * 256 + fourth
    → bits_of 32 value ++ more ≡ bits_of 8 first ++ (bits_of 8 second ++ (bits_of 8 third ++ (bits_of 8 fourth ++ more)))
bits_of-four first second third fourth value more b c d e =
    ap (λ n. bits_of 32 n ++ more) e
    ∙ last_byte 24 ((first * 256 + second) * 256 + third) fourth more d
    ∙ last_byte 16 (first * 256 + second) third (bits_of 8 fourth ++ more) c
    ∙ last_byte 8 first second (bits_of 8 third ++ (bits_of 8 fourth ++ more)) b

-- four bytes of which none is FF, after a byte that isn't FF
four_taken_in : (word held first second third fourth value : ℕ) (rest : List ℕ) → IsWindow held false (first ∷ second ∷ third ∷ fourth ∷ rest)
    → (first ≡ 255 → ⊥) → (second ≡ 255 → ⊥) → (third ≡ 255 → ⊥) → (fourth ≡ 255 → ⊥) → held ≤ 31
    → value ≡ ((first * 256 + second) * 256 + third) * 256 + fourth
    → TakenIn word held false (first ∷ second ∷ third ∷ fourth ∷ rest) (bit_or (word * 2 ^ 32 % 2 ^ 64) value) (held + 32) false rest
four_taken_in word held first second third fourth value rest window a b c d few e =
    let size_a : bits_after first ≡ 8 = bits_after-other first a in
    let size_b : bits_after second ≡ 8 = bits_after-other second b in
    let size_c : bits_after third ≡ 8 = bits_after-other third c in
    let size_d : bits_after fourth ≡ 8 = bits_after-other fourth d in
    let keeps_b : KeepsStuffing 8 (second ∷ third ∷ fourth ∷ rest) = subst (λ size. KeepsStuffing size (second ∷ third ∷ fourth ∷ rest)) size_a window.keeps.1 in
    let keeps_c : KeepsStuffing 8 (third ∷ fourth ∷ rest) = subst (λ size. KeepsStuffing size (third ∷ fourth ∷ rest)) size_b keeps_b.1 in
    let keeps_d : KeepsStuffing 8 (fourth ∷ rest) = subst (λ size. KeepsStuffing size (fourth ∷ rest)) size_c keeps_c.1 in
    let keeps_rest : KeepsStuffing 8 rest = subst (λ size. KeepsStuffing size rest) size_d keeps_d.1 in
    let small_a : first < 256 = window.keeps.0 in
    let small_b : second < 256 = keeps_b.0 in
    let small_c : third < 256 = keeps_c.0 in
    let small_d : fourth < 256 = keeps_d.0 in
    let small : value < 2 ^ 32 = omega arith in
    let more : List Bool = unstuff_from 8 rest in
    let sizes : unstuff_from 8 (first ∷ second ∷ third ∷ fourth ∷ rest) ≡ bits_of 8 first ++ (bits_of 8 second ++ (bits_of 8 third ++ (bits_of 8 fourth ++ more))) =
    rw (size_a, size_b, size_c, size_d) refl in
    record {
      window = record { few = omega arith; keeps = keeps_rest };
      left = ap (λ front. front ++ more) (shifted_in held 32 word value (omega arith) small)
          ∙ append_assoc (bits_of held word) (bits_of 32 value) more
          ∙ ap (λ tail. bits_of held word ++ tail) (bits_of-four first second third fourth value more small_b small_c small_d e ∙ sym sizes);
    }

pub four_in : (word held value : ℕ) (bytes : List ℕ) → 4 ≤ length bytes → IsWindow held false bytes
    → (get_or bytes 0 0 ≡ 255 → ⊥) → (get_or bytes 1 0 ≡ 255 → ⊥) → (get_or bytes 2 0 ≡ 255 → ⊥) → (get_or bytes 3 0 ≡ 255 → ⊥) → held ≤ 31
    → value ≡ ((get_or bytes 0 0 * 256 + get_or bytes 1 0) * 256 + get_or bytes 2 0) * 256 + get_or bytes 3 0
    → TakenIn word held false bytes (bit_or (word * 2 ^ 32 % 2 ^ 64) value) (held + 32) false (take (length bytes - 4) (drop 4 bytes))
four_in word held value [] some window a b c d few e = absurd (omega arith)
four_in word held value (first ∷ []) some window a b c d few e = absurd (omega arith)
four_in word held value (first ∷ second ∷ []) some window a b c d few e = absurd (omega arith)
four_in word held value (first ∷ second ∷ third ∷ []) some window a b c d few e = absurd (omega arith)
four_in word held value (first ∷ second ∷ third ∷ fourth ∷ bytes) some window a b c d few e =
    let rest : take (suc (suc (suc (suc (length bytes)))) - 4) bytes ≡ bytes = take_all (suc (suc (suc (suc (length bytes)))) - 4) bytes (omega arith) in
    rw rest (four_taken_in word held first second third fourth value bytes window a b c d few e)

-- ---- bits taken

-- the bits left before a refill are those of the refilled word and the other bytes
pub refilled : (word held : ℕ) (after_ff : Bool) (rest : List ℕ) (before after : BitsLeft) → after.bits ≡ before.bits
    → ◌≡◌ {A = BitsLeft} (record { bits = bits_left word held after_ff rest; held = held }) after → before.bits ≡ bits_left word held after_ff rest
refilled word held after_ff rest before after same seen = sym same ∙ sym (ap (λ (w : BitsLeft). w.bits) seen)

pub bits_left-take : (word held count value : ℕ) (after_ff : Bool) (rest : List ℕ) → count ≤ held → value ≡ word / 2 ^ (held - count) % 2 ^ count
    → bits_left word held after_ff rest ≡ bits_of count value ++ bits_left word (held - count) after_ff rest
bits_left-take word held count value after_ff rest h e =
    let sum : count + (held - count) ≡ held = omega arith in
    let more : List Bool = unstuff_from (byte_bits after_ff) rest in
    let same : bits_of count (word / 2 ^ (held - count)) ≡ bits_of count value =
    sym (ap (bits_of count) e ∙ bits_of-mod count count (word / 2 ^ (held - count)) (omega arith)) in
    ap (λ n. bits_of n word ++ more) (sym sum)
    ∙ ap (λ bits. bits ++ more) (bits_of-split count (held - count) word ∙ ap (λ bits. bits ++ bits_of (held - count) word) same)
    ∙ append_assoc (bits_of count value) (bits_of (held - count) word) more

-- if no bytes are left, all bits left are held
length-bits_left : (word held : ℕ) (after_ff : Bool) (rest : List ℕ) → rest ≡ [] → length (bits_left word held after_ff rest) ≡ held
length-bits_left word held after_ff rest e =
    ap (λ bytes. length (bits_left word held after_ff bytes)) e ∙ ap length (append-nil (bits_of held word)) ∙ length-bits_of held word

pub all_held : (word held : ℕ) (after_ff : Bool) (rest : List ℕ) → length rest < 1 → length (bits_left word held after_ff rest) ≤ held
all_held word held after_ff [] h = omega (arith, length-bits_left word held after_ff [] refl)
all_held word held after_ff (byte ∷ rest) h = absurd (omega arith)

-- ---- how many are left

pub length-byte_more : (size i : ℕ) (bytes : List ℕ) → i < length bytes
    → length (unstuff_from size (drop i bytes)) ≡ size + length (unstuff_from (bits_after (get_or bytes i 0)) (drop (i + 1) bytes))
length-byte_more size i bytes h =
    let byte : ℕ = get_or bytes i 0 in
    ap (λ list. length (unstuff_from size list)) (drop_more bytes i 0 h)
    ∙ length-append (bits_of size byte) (unstuff_from (bits_after byte) (drop (i + 1) bytes))
    ∙ ap (λ n. n + length (unstuff_from (bits_after byte) (drop (i + 1) bytes))) (length-bits_of size byte)

pub length-held : (word held : ℕ) (after_ff : Bool) (rest : List ℕ)
    → length (bits_left word held after_ff rest) ≡ held + length (unstuff_from (byte_bits after_ff) rest)
length-held word held after_ff rest =
    length-append (bits_of held word) (unstuff_from (byte_bits after_ff) rest) ∙ ap (λ n. n + length (unstuff_from (byte_bits after_ff) rest)) (length-bits_of held word)

-- ---- zeros taken

pub zeros-more : (count more : ℕ) (bits tail rest : List Bool) → bits ≡ zeros count ++ tail → tail ≡ zeros more ++ rest → bits ≡ zeros (count + more) ++ rest
zeros-more count more bits tail rest e f =
    e ∙ ap (λ list. zeros count ++ list) f ∙ sym (append_assoc (zeros count) (zeros more) rest)
    ∙ ap (λ list. list ++ rest) (replicate-append-replicate count more false)

pub zeros-begin : (count most : ℕ) (bits rest : List Bool) → bits ≡ zeros count ++ rest → most < count → BeginsWith (zeros (most + 1)) bits
zeros-begin count most bits rest e h =
    let sum : (most + 1) + (count - (most + 1)) ≡ count = omega arith in
    let parts : zeros (most + 1) ++ zeros (count - (most + 1)) ≡ zeros count = replicate-append-replicate (most + 1) (count - (most + 1)) false ∙ ap zeros sum in (
      zeros (count - (most + 1)) ++ rest,
      e ∙ ap (λ list. list ++ rest) (sym parts) ∙ append_assoc (zeros (most + 1)) (zeros (count - (most + 1))) rest,
    )

-- the one after the zeros that were counted
pub one-taken : (word held count : ℕ) (after_ff : Bool) (rest : List ℕ) → LeadingZeros held word count → count < held
    → bits_left word held after_ff rest ≡ zeros count ++ true ∷ bits_left word (held - (count + 1)) after_ff rest
one-taken word held count after_ff rest (none all e) h = absurd (omega arith)
one-taken word held count after_ff rest (found within e) h =
    ap (λ bits. bits ++ unstuff_from (byte_bits after_ff) rest) e
    ∙ append_assoc (zeros count) (true ∷ bits_of (held - (count + 1)) word) (unstuff_from (byte_bits after_ff) rest)

pub four_in_after : (word held value : ℕ) (after_ff : Bool) (bytes : List ℕ) → after_ff ≡ false → 4 ≤ length bytes → IsWindow held after_ff bytes
    → (get_or bytes 0 0 ≡ 255 → ⊥) → (get_or bytes 1 0 ≡ 255 → ⊥) → (get_or bytes 2 0 ≡ 255 → ⊥) → (get_or bytes 3 0 ≡ 255 → ⊥) → held ≤ 31
    → value ≡ ((get_or bytes 0 0 * 256 + get_or bytes 1 0) * 256 + get_or bytes 2 0) * 256 + get_or bytes 3 0
    → TakenIn word held after_ff bytes (bit_or (word * 2 ^ 32 % 2 ^ 64) value) (held + 32) after_ff (take (length bytes - 4) (drop 4 bytes))
four_in_after word held value true bytes other some window a b c d few e = absurd (true≢false other)
four_in_after word held value false bytes other some window a b c d few e = four_in word held value bytes some window a b c d few e
