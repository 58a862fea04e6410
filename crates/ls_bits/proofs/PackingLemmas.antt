-- What a packer's steps do to its bits.
use Rattle.std.proofs.Common.{◌≡◌, ℕ, zero, suc, ◌+◌, ◌-◌, ◌*◌, ◌/◌, ◌%◌, ◌^◌, ◌<◌, ◌≤◌, ◌⊎◌, inl, inr, Bool, true, false, eqb, List, [], ◌∷◌, ◌++◌, length, take, drop, refl, sym, ◌∙◌, ap, subst, arith, append_assoc, length-append}
use Rattle.std.proofs.lemmas.List.{append-nil, drop-append-le, take-append-drop, length-drop}
use Rattle.std.proofs.lemmas.Bool.{ne_eqb, true≢false}
use Rattle.std.proofs.lemmas.Nat.{mul-mod_first, shr_below}
use Rattle.std.proofs.Math.Nat.{mod-one, pow-suc}
use Rattle.std.proofs.Math.Pow.{pow_mono}
use lib.Bits.{bit_or}
use Rattle.ls_bits.specs.Bits.{bits_of, zeros}
use Rattle.ls_bits.specs.Stuffing.{stuff_into, stuff, unstuff}
use Rattle.ls_bits.specs.View.Packing.{byte_bits, KeepsStuffing, next_byte_bits, packed_bits, IsPacked, HasNoFf, with_word}
use Rattle.ls_bits.proofs.BitLemmas.{bits_of-cat, bits_of-split, bits_of-mod, bits_of-word, shifted_in, length-bits_of}
use Rattle.ls_bits.proofs.StuffingLemmas.{IsSize, unstuff_from-append, next_byte_bits-append, KeepsStuffing-append, length-unstuff_from, stuff_into-front, stuff_into-last, stuff_into-none, stuff_into-after_ff}

pub byte_bits-size : (after_ff : Bool) → IsSize (byte_bits after_ff)
byte_bits-size true = inl refl
byte_bits-size false = inr refl

-- ---- a byte put out

-- the byte above the bits that stay held
pub record IsNextByte (word waiting : ℕ) (after_ff : Bool) (byte : ℕ) : Type 0 where
  pub is : byte ≡ word / 2 ^ waiting % 2 ^ byte_bits after_ff

byte-lt : (word waiting byte : ℕ) (after_ff : Bool) → IsNextByte word waiting after_ff byte → byte < 2 ^ byte_bits after_ff
byte-lt word waiting byte true next = omega (arith, next.is)
byte-lt word waiting byte false next = omega (arith, next.is)

bits_of-next_byte : (word waiting byte : ℕ) (after_ff : Bool) → IsNextByte word waiting after_ff byte
    → bits_of (byte_bits after_ff + waiting) word ≡ bits_of (byte_bits after_ff) byte ++ bits_of waiting word
bits_of-next_byte word waiting byte after_ff next =
    let size : ℕ = byte_bits after_ff in
    let same : bits_of size byte ≡ bits_of size (word / 2 ^ waiting) = ap (bits_of size) next.is ∙ bits_of-mod size size (word / 2 ^ waiting) (omega arith) in
    bits_of-split size waiting word ∙ ap (λ bits. bits ++ bits_of waiting word) (sym same)

pub packed-byte : (start word other waiting byte : ℕ) (bytes : List ℕ) (after_ff : Bool) → IsPacked start bytes other after_ff
    → waiting ≤ 63 → IsNextByte word waiting after_ff byte
    → IsPacked start (bytes ++ byte ∷ []) waiting (eqb byte 255)
packed-byte start word other waiting byte bytes after_ff packed few next =
    let front : drop start (bytes ++ byte ∷ []) ≡ drop start bytes ++ byte ∷ [] = drop-append-le start bytes (byte ∷ []) packed.within in
    let small : byte < 2 ^ next_byte_bits 8 (drop start bytes) = subst (λ n. byte < 2 ^ n) (sym packed.next) (byte-lt word waiting byte after_ff next) in
    record {
      within = omega (arith, packed.within, length-append bytes (byte ∷ []));
      keeps = subst (KeepsStuffing 8) (sym front) (KeepsStuffing-append 8 (drop start bytes) (byte ∷ []) packed.keeps (small, tt));
      next = ap (next_byte_bits 8) front ∙ next_byte_bits-append 8 (drop start bytes) (byte ∷ []);
      few = few;
    }

pub packed_bits-byte : (start word held other waiting byte : ℕ) (bytes : List ℕ) (after_ff : Bool) → IsPacked start bytes other after_ff
    → byte_bits after_ff + waiting ≡ held → IsNextByte word waiting after_ff byte
    → packed_bits start (bytes ++ byte ∷ []) word waiting ≡ packed_bits start bytes word held
packed_bits-byte start word held other waiting byte bytes after_ff packed sum next =
    let stuffed : List ℕ = drop start bytes in
    let front : drop start (bytes ++ byte ∷ []) ≡ stuffed ++ byte ∷ [] = drop-append-le start bytes (byte ∷ []) packed.within in
    let out : unstuff (stuffed ++ byte ∷ []) ≡ unstuff stuffed ++ (bits_of (next_byte_bits 8 stuffed) byte ++ []) = unstuff_from-append 8 stuffed (byte ∷ []) in
    let of_size : bits_of (next_byte_bits 8 stuffed) byte ++ [] ≡ bits_of (byte_bits after_ff) byte = append-nil _ ∙ ap (λ n. bits_of n byte) packed.next in
    let whole : bits_of held word ≡ bits_of (byte_bits after_ff) byte ++ bits_of waiting word = sym (ap (λ n. bits_of n word) sum) ∙ bits_of-next_byte word waiting byte after_ff next in
    ap (λ list. unstuff list ++ bits_of waiting word) front
    ∙ ap (λ bits. bits ++ bits_of waiting word) (out ∙ ap (λ bits. unstuff stuffed ++ bits) of_size)
    ∙ append_assoc (unstuff stuffed) (bits_of (byte_bits after_ff) byte) (bits_of waiting word)
    ∙ ap (λ bits. unstuff stuffed ++ bits) (sym whole)

-- what putting out one byte leaves, if it isn't FF
pub record StillPacked (start word : ℕ) (before after : List ℕ) (held waiting : ℕ) : Type 0 where
  pub packed : IsPacked start after waiting false
  pub bits : packed_bits start after word waiting ≡ packed_bits start before word held

one_out : (start word held other waiting : ℕ) (bytes : List ℕ) → IsPacked start bytes other false → 8 + waiting ≡ held → waiting ≤ 63
    → (word / 2 ^ waiting % 256 ≡ 255 → ⊥) → StillPacked start word bytes (bytes ++ word / 2 ^ waiting % 256 ∷ []) held waiting
one_out start word held other waiting bytes packed sum few not_ff =
    let byte : ℕ = word / 2 ^ waiting % 256 in
    let next : IsNextByte word waiting false byte = record { is = refl } in
    record {
      packed = subst (IsPacked start (bytes ++ byte ∷ []) waiting) (ne_eqb byte 255 not_ff) (packed-byte start word other waiting byte bytes false packed few next);
      bits = packed_bits-byte start word held other waiting byte bytes false packed sum next;
    }

pub eight_out : (start word other : ℕ) (bytes : List ℕ) → IsPacked start bytes other false → HasNoFf word
    → StillPacked start word bytes (with_word bytes word) 64 0
eight_out start word other bytes packed none =
    let one = one_out start word 64 other 56 bytes packed refl (omega arith) none.at_56 in
    let two = one_out start word 56 56 48 _ one.packed refl (omega arith) none.at_48 in
    let three = one_out start word 48 48 40 _ two.packed refl (omega arith) none.at_40 in
    let four = one_out start word 40 40 32 _ three.packed refl (omega arith) none.at_32 in
    let five = one_out start word 32 32 24 _ four.packed refl (omega arith) none.at_24 in
    let six = one_out start word 24 24 16 _ five.packed refl (omega arith) none.at_16 in
    let seven = one_out start word 16 16 8 _ six.packed refl (omega arith) none.at_8 in
    let eight = one_out start word 8 8 0 _ seven.packed refl (omega arith) none.at_0 in
    record { packed = eight.packed; bits = eight.bits ∙ seven.bits ∙ six.bits ∙ five.bits ∙ four.bits ∙ three.bits ∙ two.bits ∙ one.bits }

-- what putting out a word of 64 bits leaves, after a byte that isn't FF
pub word_out : (start word other : ℕ) (after_ff : Bool) (before after : List ℕ) → IsPacked start before other after_ff → after_ff ≡ false → HasNoFf word
    → after ≡ with_word before word → StillPacked start word before after 64 0
word_out start word other true before after packed e none out = absurd (true≢false e)
word_out start word other false before after packed e none out =
    subst (λ (list : List ℕ). StillPacked start word before list 64 0) (sym out) (eight_out start word other before packed none)

pub packed-held : (start other held : ℕ) (after_ff : Bool) (bytes : List ℕ) → IsPacked start bytes other false → after_ff ≡ false → held ≤ 63 → IsPacked start bytes held after_ff
packed-held start other held true bytes packed e few = absurd (true≢false e)
packed-held start other held false bytes packed e few = record { within = packed.within; keeps = packed.keeps; next = packed.next; few = few }

-- ---- bits put

pub packed_bits-put : (start word held count value : ℕ) (bytes : List ℕ) → held + count ≤ 64 → value < 2 ^ count
    → packed_bits start bytes (bit_or (word * 2 ^ count % 2 ^ 64) value) (held + count) ≡ packed_bits start bytes word held ++ bits_of count value
packed_bits-put start word held count value bytes fits small =
    ap (λ bits. unstuff (drop start bytes) ++ bits) (shifted_in held count word value fits small)
    ∙ sym (append_assoc (unstuff (drop start bytes)) (bits_of held word) (bits_of count value))

-- the first 64 of the bits held and put, if they are at least 64, and the rest
pub full_bits : (held count waiting word value : ℕ) → held ≤ 63 → held + count ≡ 64 + waiting → count ≤ 64 → value < 2 ^ count
    → bits_of 64 (bit_or (word * 2 ^ (63 - held) % 2 ^ 64 * 2 ^ 1 % 2 ^ 64) (value / 2 ^ waiting)) ++ bits_of waiting value ≡ bits_of held word ++ bits_of count value
full_bits held count waiting word value few sum most small =
    let high : ℕ = 64 - held in
    let of_high : count ≡ high + waiting = omega arith in
    let step : suc (63 - held) ≡ high = omega arith in
    let power : 2 ^ (63 - held) * 2 ≡ 2 ^ high = sym (pow-suc 2 (63 - held)) ∙ ap (λ n. 2 ^ n) step in
    let regrouped : word * 2 ^ (63 - held) * 2 ≡ word * (2 ^ (63 - held) * 2) = grind arith in
    let shifted : word * 2 ^ (63 - held) % 2 ^ 64 * 2 ^ 1 % 2 ^ 64 ≡ word * 2 ^ high % 2 ^ 64 =
    mul-mod_first (word * 2 ^ (63 - held)) 2 (2 ^ 64) ∙ ap (λ n. n % 2 ^ 64) (regrouped ∙ ap (λ n. word * n) power) in
    let front_small : value / 2 ^ waiting < 2 ^ high = shr_below value high waiting (subst (λ n. value < 2 ^ n) of_high small) in
    let all : held + high ≡ 64 = omega arith in
    let front : bits_of 64 (bit_or (word * 2 ^ high % 2 ^ 64) (value / 2 ^ waiting)) ≡ bits_of held word ++ bits_of high (value / 2 ^ waiting) =
    sym (ap (λ n. bits_of n (bit_or (word * 2 ^ high % 2 ^ 64) (value / 2 ^ waiting))) all) ∙ shifted_in held high word (value / 2 ^ waiting) (omega arith) front_small in
    let parts : bits_of count value ≡ bits_of high (value / 2 ^ waiting) ++ bits_of waiting value =
    ap (λ n. bits_of n value) of_high ∙ bits_of-split high waiting value in
    ap (λ n. bits_of 64 (bit_or n (value / 2 ^ waiting)) ++ bits_of waiting value) shifted
    ∙ ap (λ bits. bits ++ bits_of waiting value) front
    ∙ append_assoc (bits_of held word) (bits_of high (value / 2 ^ waiting)) (bits_of waiting value)
    ∙ ap (λ bits. bits_of held word ++ bits) (sym parts)

-- a word of 64 bits is put out, and the rest of the value takes its place
pub packed_bits-full : (start held count waiting word value : ℕ) (before after : List ℕ) → held ≤ 63 → held + count ≡ 64 + waiting → count ≤ 64 → value < 2 ^ count
    → packed_bits start after (bit_or (word * 2 ^ (63 - held) % 2 ^ 64 * 2 ^ 1 % 2 ^ 64) (value / 2 ^ waiting)) 0
    ≡ packed_bits start before (bit_or (word * 2 ^ (63 - held) % 2 ^ 64 * 2 ^ 1 % 2 ^ 64) (value / 2 ^ waiting)) 64
    → packed_bits start after value waiting ≡ packed_bits start before word held ++ bits_of count value
packed_bits-full start held count waiting word value before after few sum most small out =
    let full : ℕ = bit_or (word * 2 ^ (63 - held) % 2 ^ 64 * 2 ^ 1 % 2 ^ 64) (value / 2 ^ waiting) in
    ap (λ bits. bits ++ bits_of waiting value) (sym (append-nil (unstuff (drop start after))) ∙ out)
    ∙ append_assoc (unstuff (drop start before)) (bits_of 64 full) (bits_of waiting value)
    ∙ ap (λ bits. unstuff (drop start before) ++ bits) (full_bits held count waiting word value few sum most small)
    ∙ sym (append_assoc (unstuff (drop start before)) (bits_of held word) (bits_of count value))

-- the same, as the code has it: the value's copies are given by equations
pub packed_bits-word_out : (start held count waiting word value copied stored : ℕ) (before after : List ℕ) → held ≤ 63 → held + count ≡ 64 + waiting → count ≤ 64
    → value < 2 ^ count → copied ≡ value → stored ≡ value
    → packed_bits start after (bit_or (word * 2 ^ (63 - held) % 2 ^ 64 * 2 ^ 1 % 2 ^ 64) (copied / 2 ^ waiting)) 0
    ≡ packed_bits start before (bit_or (word * 2 ^ (63 - held) % 2 ^ 64 * 2 ^ 1 % 2 ^ 64) (copied / 2 ^ waiting)) 64
    → packed_bits start after stored waiting ≡ packed_bits start before word held ++ bits_of count value
packed_bits-word_out start held count waiting word value copied stored before after few sum most small copy store out =
    let full : ℕ → ℕ = λ n. bit_or (word * 2 ^ (63 - held) % 2 ^ 64 * 2 ^ 1 % 2 ^ 64) (n / 2 ^ waiting) in
    let out_value : packed_bits start after (full value) 0 ≡ packed_bits start before (full value) 64 =
    sym (ap (λ n. packed_bits start after (full n) 0) copy) ∙ out ∙ ap (λ n. packed_bits start before (full n) 64) copy in
    ap (λ n. packed_bits start after n waiting) store
    ∙ packed_bits-full start held count waiting word value before after few sum most small out_value

-- a number in more bits than it needs
pub bits_of-wide : (front count value : ℕ) (bits : List Bool) → value < 2 ^ count → (bits ++ bits_of front 0) ++ bits_of count value ≡ bits ++ bits_of (front + count) value
bits_of-wide front count value bits small =
    let same : 0 * 2 ^ count + value ≡ value = omega arith in
    append_assoc bits (bits_of front 0) (bits_of count value)
    ∙ ap (λ list. bits ++ list) (sym (bits_of-cat front count 0 value small) ∙ ap (bits_of (front + count)) same)

-- ---- the end

-- the stuffed bits are the bytes put out, and after them the held bits stuffed
pub stuff-packed : (start word held : ℕ) (bytes : List ℕ) (after_ff : Bool) → IsPacked start bytes held after_ff
    → take start bytes ++ stuff (packed_bits start bytes word held) ≡ bytes ++ stuff_into (byte_bits after_ff) (bits_of held word)
stuff-packed start word held bytes after_ff packed =
    let stuffed : List ℕ = drop start bytes in
    let out : stuff (unstuff stuffed ++ bits_of held word) ≡ stuffed ++ stuff_into (next_byte_bits 8 stuffed) (bits_of held word) =
    stuff_into-front 8 stuffed (bits_of held word) (omega arith) packed.keeps in
    ap (λ list. take start bytes ++ list) (out ∙ ap (λ n. stuffed ++ stuff_into n (bits_of held word)) packed.next)
    ∙ sym (append_assoc (take start bytes) stuffed (stuff_into (byte_bits after_ff) (bits_of held word)))
    ∙ ap (λ list. list ++ stuff_into (byte_bits after_ff) (bits_of held word)) (take-append-drop start bytes)

-- no bits are held after a byte that isn't FF
pub stuff-packed_whole : (start word held : ℕ) (bytes : List ℕ) (after_ff : Bool) → IsPacked start bytes held after_ff → held ≡ 0 → after_ff ≡ false
    → take start bytes ++ stuff (packed_bits start bytes word held) ≡ bytes
stuff-packed_whole start word held bytes after_ff packed none other =
    stuff-packed start word held bytes after_ff packed
    ∙ ap (λ n. bytes ++ stuff_into (byte_bits after_ff) (bits_of n word)) none
    ∙ ap (λ b. bytes ++ stuff_into (byte_bits b) []) other
    ∙ ap (λ list. bytes ++ list) stuff_into-none
    ∙ append-nil bytes

last_byte : (size held word : ℕ) → IsSize size → held ≤ 7 → (1 ≤ held) ⊎ (size ≡ 7) → stuff_into size (bits_of held word) ≡ word % 2 ^ held * 2 ^ (size - held) ∷ []
last_byte size zero word r few (inl some) = absurd (omega arith)
last_byte size zero word r few (inr seven) =
    let none : word % 2 ^ 0 ≡ 0 = mod-one word in
    let product : word % 2 ^ 0 * 2 ^ (size - 0) ≡ 0 * 2 ^ (size - 0) = ap (λ n. n * 2 ^ (size - 0)) none in
    let nothing : 0 ≡ word % 2 ^ 0 * 2 ^ (size - 0) = omega arith in
    ap (λ n. stuff_into n []) seven ∙ stuff_into-after_ff ∙ ap (λ n. n ∷ []) nothing
last_byte size (suc held) word r few h = stuff_into-last size (suc held) word r (omega arith) few

some_of : (held : ℕ) (after_ff : Bool) → (1 ≤ held) ⊎ (after_ff ≡ true) → (1 ≤ held) ⊎ (byte_bits after_ff ≡ 7)
some_of held after_ff (inl h) = inl h
some_of held after_ff (inr e) = inr (ap byte_bits e)

-- held bits, or an FF before them, make one more byte
pub stuff-packed_last : (start word held : ℕ) (bytes : List ℕ) (after_ff : Bool) → IsPacked start bytes held after_ff → held ≤ 7 → (1 ≤ held) ⊎ (after_ff ≡ true)
    → take start bytes ++ stuff (packed_bits start bytes word held) ≡ bytes ++ word % 2 ^ held * 2 ^ (byte_bits after_ff - held) ∷ []
stuff-packed_last start word held bytes after_ff packed few some =
    stuff-packed start word held bytes after_ff packed
    ∙ ap (λ list. bytes ++ list) (last_byte (byte_bits after_ff) held word (byte_bits-size after_ff) few (some_of held after_ff some))

-- a lower bound on a packer's bits
pub length-packed_bits : (start word held : ℕ) (bytes : List ℕ) → start ≤ length bytes
    → 7 * (length bytes - start) + held ≤ length (packed_bits start bytes word held)
length-packed_bits start word held bytes h =
    omega (
      arith,
      length-append (unstuff (drop start bytes)) (bits_of held word),
      length-bits_of held word,
      length-unstuff_from 8 (drop start bytes) (inr refl),
      length-drop start bytes,
    )

some_byte : (bytes : List ℕ) → next_byte_bits 8 bytes ≡ 7 → 1 ≤ length bytes
some_byte [] e = absurd (omega arith)
some_byte (byte ∷ bytes) e = omega arith

-- it has some if any are held, or if the last byte is FF
pub some_bits : (start word held : ℕ) (bytes : List ℕ) (after_ff : Bool) → IsPacked start bytes held after_ff → (1 ≤ held) ⊎ (after_ff ≡ true)
    → 0 < length (packed_bits start bytes word held)
some_bits start word held bytes after_ff packed (inl some) = omega (arith, length-packed_bits start word held bytes packed.within)
some_bits start word held bytes after_ff packed (inr ff) =
    let next : next_byte_bits 8 (drop start bytes) ≡ 7 = packed.next ∙ ap byte_bits ff in
    let some : 1 ≤ length (drop start bytes) = some_byte (drop start bytes) next in
    omega (arith, length-packed_bits start word held bytes packed.within, length-drop start bytes)

-- ---- words put

pub word_at_once : (bits : List Bool) (count low rest : ℕ) → rest < 2 ^ low
    → bits ++ bits_of (count + 1 + low) (2 ^ low + rest) ≡ bits ++ (zeros count ++ true ∷ bits_of low rest)
word_at_once bits count low rest h =
    let sum : count + 1 + low ≡ count + suc low = omega arith in
    ap (λ list. bits ++ list) (ap (λ n. bits_of n (2 ^ low + rest)) sum ∙ bits_of-word count low rest h)

pub tail-lt : (count low rest : ℕ) → rest < 2 ^ low → 2 ^ low + rest < 2 ^ (count + 1 + low)
tail-lt count low rest h =
    let size : suc low ≤ count + 1 + low = omega arith in
    let doubled : 2 ^ suc low ≡ 2 ^ low * 2 = pow-suc 2 low in
    let grown : 2 ^ suc low ≤ 2 ^ (count + 1 + low) = pow_mono size in
    omega arith
