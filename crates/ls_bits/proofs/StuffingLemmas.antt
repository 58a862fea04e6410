-- Stuffing and its inverse.
use Rattle.std.proofs.Common.{◌≡◌, ℕ, zero, suc, ◌+◌, ◌-◌, ◌*◌, ◌/◌, ◌%◌, ◌^◌, ◌<◌, ◌≤◌, ◌⊎◌, inl, inr, Bool, true, false, eqb, cond, List, [], ◌∷◌, ◌++◌, length, take, drop, refl, sym, ◌∙◌, ap, subst, arith, append_assoc, length-append}
use Rattle.std.proofs.lemmas.List.{append-nil, take_at, drop_at, length-drop, length-take-le, take-append-drop, drop_all, take-append-le, replicate-append-replicate}
use Rattle.std.proofs.lemmas.Bool.{cases_lt, lt-ltb, ltb-true, ne_eqb, and_from, and_parts, cond-true}
use Rattle.std.proofs.Math.Pow.{pow_mono}
use Rattle.std.proofs.Math.Nat.{pow-suc}
use Rattle.ls_bits.specs.Bits.{bits_of, number_of, zeros, AreBytes}
use Rattle.ls_bits.specs.Stuffing.{bits_after, first_group, groups, stuff_into, unstuff_from}
use Rattle.ls_bits.specs.Data.{is_data, goes_on}
use Rattle.ls_bits.specs.View.Packing.{KeepsStuffing, next_byte_bits}
use Rattle.ls_bits.proofs.BitLemmas.{length-bits_of, length-zeros, number_of-bits_of, number_of-bits_of-small, number_of-lt, bits_of-number_of, number_of-filled}

-- a size is seven or eight
abbrev pub IsSize : ℕ → Type 0
IsSize size = (size ≡ 7) ⊎ (size ≡ 8)

size_of : (after_ff : Bool) → IsSize (cond after_ff 7 8)
size_of true = inl refl
size_of false = inr refl

pub bits_after-size : (byte : ℕ) → IsSize (bits_after byte)
bits_after-size byte = size_of (eqb byte 255)

pub size_range : (size : ℕ) → IsSize size → (7 ≤ size) × (size ≤ 8)
size_range size (inl e) = (omega arith, omega arith)
size_range size (inr e) = (omega arith, omega arith)

pub bits_after-other : (byte : ℕ) → (byte ≡ 255 → ⊥) → bits_after byte ≡ 8
bits_after-other byte h = rw (ne_eqb byte 255 h) refl

-- ---- the first group

-- fewer bits than the group holds are filled
take_filled : (size : ℕ) (bits : List Bool) → length bits ≤ size → take size (bits ++ zeros size) ≡ bits ++ zeros (size - length bits)
take_filled size bits h =
    let sum : (size - length bits) + length bits ≡ size = omega arith in
    let parts : zeros (size - length bits) ++ zeros (length bits) ≡ zeros size =
    replicate-append-replicate (size - length bits) (length bits) false ∙ ap zeros sum in
    let len : length (bits ++ zeros (size - length bits)) ≡ size =
    length-append bits (zeros (size - length bits)) ∙ ap (λ n. length bits + n) (length-zeros (size - length bits)) ∙ (omega arith) in
    let shape : bits ++ zeros size ≡ (bits ++ zeros (size - length bits)) ++ zeros (length bits) =
    ap (λ tail. bits ++ tail) (sym parts) ∙ sym (append_assoc bits (zeros (size - length bits)) (zeros (length bits))) in
    ap (take size) shape ∙ take_at (bits ++ zeros (size - length bits)) (zeros (length bits)) size len

size_of_group : (size : ℕ) (bits : List Bool) → length (take size (bits ++ zeros size)) ≡ size
size_of_group size bits =
    length-take-le size (bits ++ zeros size) (omega (arith, length-append bits (zeros size), length-zeros size))

pub first_group-lt : (size : ℕ) (bits : List Bool) → first_group size bits < 2 ^ size
first_group-lt size bits =
    let below : number_of (take size (bits ++ zeros size)) < 2 ^ length (take size (bits ++ zeros size)) = number_of-lt (take size (bits ++ zeros size)) in
    subst (λ n. number_of (take size (bits ++ zeros size)) < 2 ^ n) (size_of_group size bits) below

-- a group that isn't full isn't FF
even : (n size : ℕ) → 1 ≤ size → n * 2 ^ size ≡ 255 → ⊥
even n zero h e = absurd (omega arith)
even n (suc size) h e =
    let power : 2 ^ suc size ≡ 2 ^ size * 2 = pow-suc 2 size in
    let regrouped : n * (2 ^ size * 2) ≡ n * 2 ^ size * 2 = grind arith in
    let twice : n * 2 ^ size * 2 ≡ 255 = sym regrouped ∙ ap (λ k. n * k) (sym power) ∙ e in
    omega arith

pub first_group-filled : (size : ℕ) (bits : List Bool) → length bits ≤ size → first_group size bits ≡ number_of bits * 2 ^ (size - length bits)
first_group-filled size bits h = ap number_of (take_filled size bits h) ∙ number_of-filled bits (size - length bits)

after_part : (size : ℕ) (bits : List Bool) → length bits < size → bits_after (first_group size bits) ≡ 8
after_part size bits h =
    let value : first_group size bits ≡ number_of bits * 2 ^ (size - length bits) = first_group-filled size bits (omega arith) in
    bits_after-other (first_group size bits) (λ e. even (number_of bits) (size - length bits) (omega arith) (sym value ∙ e))

-- the bits of a group
group_bits : (size : ℕ) (bits : List Bool) → bits_of size (first_group size bits) ≡ take size (bits ++ zeros size)
group_bits size bits =
    let group : List Bool = take size (bits ++ zeros size) in
    sym (ap (λ n. bits_of n (number_of group)) (size_of_group size bits)) ∙ bits_of-number_of group

-- ---- groups, one by one

-- once enough groups are allowed, more change nothing
pub groups-enough : (most more size : ℕ) (bits : List Bool) → 1 ≤ size → length bits < most → length bits < more → groups most size bits ≡ groups more size bits
unfolding groups
groups-enough zero more size bits r h k = absurd (omega arith)
groups-enough (suc most) zero size bits r h k = absurd (omega arith)
groups-enough (suc most) (suc more) size [] r h k = refl
groups-enough (suc most) (suc more) size (bit ∷ bits) r h k =
    let group : ℕ = first_group size (bit ∷ bits) in
    let len : length (drop size (bit ∷ bits)) ≡ suc (length bits) - size = length-drop size (bit ∷ bits) in
    let some : (7 ≤ bits_after group) × (bits_after group ≤ 8) = size_range (bits_after group) (bits_after-size group) in
    let same : groups most (bits_after group) (drop size (bit ∷ bits)) ≡ groups more (bits_after group) (drop size (bit ∷ bits)) =
    groups-enough most more (bits_after group) (drop size (bit ∷ bits)) (omega (arith, some.0)) (omega arith) (omega arith) in
    ap (λ bytes. group ∷ bytes) same

pub groups-step : (most size : ℕ) (bits : List Bool) → 1 ≤ length bits
    → groups (suc most) size bits ≡ first_group size bits ∷ groups most (bits_after (first_group size bits)) (drop size bits)
unfolding groups
groups-step most size [] h = absurd (omega arith)
groups-step most size (bit ∷ bits) h = refl

groups-none : (most : ℕ) → groups most 8 [] ≡ []
unfolding groups
groups-none zero = refl
groups-none (suc most) = refl

pub stuff_into-none : stuff_into 8 [] ≡ []
stuff_into-none = groups-none 1

pub stuff_into-after_ff : stuff_into 7 [] ≡ 0 ∷ []
unfolding groups
stuff_into-after_ff = refl

pub stuff_into-step : (size : ℕ) (bits : List Bool) → 1 ≤ size → 1 ≤ length bits
    → stuff_into size bits ≡ first_group size bits ∷ stuff_into (bits_after (first_group size bits)) (drop size bits)
stuff_into-step size bits r h =
    let group : ℕ = first_group size bits in
    let len : length (drop size bits) ≡ length bits - size = length-drop size bits in
    let some : (7 ≤ bits_after group) × (bits_after group ≤ 8) = size_range (bits_after group) (bits_after-size group) in
    let same : groups (length bits) (bits_after group) (drop size bits) ≡ groups (suc (length (drop size bits))) (bits_after group) (drop size bits) =
    groups-enough (length bits) (suc (length (drop size bits))) (bits_after group) (drop size bits) (omega (arith, some.0)) (omega arith) (omega arith) in
    groups-step (length bits) size bits h ∙ ap (λ bytes. group ∷ bytes) same

-- the bits of a byte are the group that it was made of
pub stuff_into-byte : (size byte : ℕ) (more : List Bool) → 1 ≤ size → byte < 2 ^ size
    → stuff_into size (bits_of size byte ++ more) ≡ byte ∷ stuff_into (bits_after byte) more
stuff_into-byte size byte more r h =
    let bits : List Bool = bits_of size byte ++ more in
    let len : length (bits_of size byte) ≡ size = length-bits_of size byte in
    let long : 1 ≤ length bits = omega (arith, length-append (bits_of size byte) more) in
    let shape : bits ++ zeros size ≡ bits_of size byte ++ (more ++ zeros size) = append_assoc (bits_of size byte) more (zeros size) in
    let front : take size (bits ++ zeros size) ≡ bits_of size byte = ap (take size) shape ∙ take_at (bits_of size byte) (more ++ zeros size) size len in
    let group : first_group size bits ≡ byte = ap number_of front ∙ number_of-bits_of-small size byte h in
    let rest : drop size bits ≡ more = drop_at (bits_of size byte) more size len in
    stuff_into-step size bits r long ∙ rw (group, rest) refl

after_last : (size : ℕ) (bits : List Bool) (held : ℕ) → IsSize size → length bits ≡ held → held ≤ 7 → bits_after (first_group size bits) ≡ 8
after_last size bits held (inr eight) len few = after_part size bits (omega arith)
after_last size bits held (inl seven) len few =
    let below : first_group size bits < 2 ^ size = first_group-lt size bits in
    let small : first_group size bits < 128 = subst (λ n. first_group size bits < 2 ^ n) seven below in
    bits_after-other (first_group size bits) (λ e. omega arith)

-- fewer bits than a byte holds are its last group
pub stuff_into-last : (size held word : ℕ) → IsSize size → 1 ≤ held → held ≤ 7
    → stuff_into size (bits_of held word) ≡ word % 2 ^ held * 2 ^ (size - held) ∷ []
stuff_into-last size held word r some few =
    let bits : List Bool = bits_of held word in
    let range : (7 ≤ size) × (size ≤ 8) = size_range size r in
    let len : length bits ≡ held = length-bits_of held word in
    let value : first_group size bits ≡ number_of bits * 2 ^ (size - length bits) = first_group-filled size bits (omega (arith, range.0)) in
    let number : number_of bits ≡ word % 2 ^ held = number_of-bits_of held word in
    let group : first_group size bits ≡ word % 2 ^ held * 2 ^ (size - held) = value ∙ rw (number, len) refl in
    let next : bits_after (first_group size bits) ≡ 8 = after_last size bits held r len few in
    let rest : drop size bits ≡ [] = drop_all size bits (omega (arith, range.0)) in
    stuff_into-step size bits (omega (arith, range.0)) (omega arith) ∙ rw (next, rest, stuff_into-none, group) refl

-- bytes that keep the rules of stuffing are what their bits are stuffed into
pub stuff_into-front : (size : ℕ) (bytes : List ℕ) (rest : List Bool) → 1 ≤ size → KeepsStuffing size bytes
    → stuff_into size (unstuff_from size bytes ++ rest) ≡ bytes ++ stuff_into (next_byte_bits size bytes) rest
stuff_into-front size [] rest r keeps = refl
stuff_into-front size (byte ∷ bytes) rest r keeps =
    let others : List Bool = unstuff_from (bits_after byte) bytes in
    let some : (7 ≤ bits_after byte) × (bits_after byte ≤ 8) = size_range (bits_after byte) (bits_after-size byte) in
    let shape : (bits_of size byte ++ others) ++ rest ≡ bits_of size byte ++ (others ++ rest) = append_assoc (bits_of size byte) others rest in
    let first : stuff_into size (bits_of size byte ++ (others ++ rest)) ≡ byte ∷ stuff_into (bits_after byte) (others ++ rest) =
    stuff_into-byte size byte (others ++ rest) r keeps.0 in
    let more : stuff_into (bits_after byte) (others ++ rest) ≡ bytes ++ stuff_into (next_byte_bits (bits_after byte) bytes) rest =
    stuff_into-front (bits_after byte) bytes rest (omega (arith, some.0)) keeps.1 in
    ap (stuff_into size) shape ∙ first ∙ ap (λ list. byte ∷ list) more

-- ---- one byte more

pub unstuff_from-append : (size : ℕ) (bytes more : List ℕ) → unstuff_from size (bytes ++ more) ≡ unstuff_from size bytes ++ unstuff_from (next_byte_bits size bytes) more
unstuff_from-append size [] more = refl
unstuff_from-append size (byte ∷ bytes) more =
    ap (λ bits. bits_of size byte ++ bits) (unstuff_from-append (bits_after byte) bytes more)
    ∙ sym (append_assoc (bits_of size byte) (unstuff_from (bits_after byte) bytes) (unstuff_from (next_byte_bits (bits_after byte) bytes) more))

pub next_byte_bits-append : (size : ℕ) (bytes more : List ℕ) → next_byte_bits size (bytes ++ more) ≡ next_byte_bits (next_byte_bits size bytes) more
next_byte_bits-append size [] more = refl
next_byte_bits-append size (byte ∷ bytes) more = next_byte_bits-append (bits_after byte) bytes more

pub KeepsStuffing-append : (size : ℕ) (bytes more : List ℕ) → KeepsStuffing size bytes → KeepsStuffing (next_byte_bits size bytes) more → KeepsStuffing size (bytes ++ more)
KeepsStuffing-append size [] more keeps others = others
KeepsStuffing-append size (byte ∷ bytes) more keeps others = (keeps.0, KeepsStuffing-append (bits_after byte) bytes more keeps.1 others)

-- each byte holds at least seven bits
pub length-unstuff_from : (size : ℕ) (bytes : List ℕ) → IsSize size → 7 * length bytes ≤ length (unstuff_from size bytes)
length-unstuff_from size [] r = omega arith
length-unstuff_from size (byte ∷ bytes) r =
    let range : (7 ≤ size) × (size ≤ 8) = size_range size r in
    omega (
      arith,
      range.0,
      length-append (bits_of size byte) (unstuff_from (bits_after byte) bytes),
      length-bits_of size byte,
      length-unstuff_from (bits_after byte) bytes (bits_after-size byte),
    )

-- ---- laws

unstuffed_end : (most size : ℕ) → IsSize size → (count : ℕ) × (count ≤ 7) × (unstuff_from size (groups (suc most) size []) ≡ [] ++ zeros count)
unfolding groups
unstuffed_end most size (inl seven) = (7, omega arith, rw seven refl)
unstuffed_end most size (inr eight) = (0, omega arith, rw eight refl)

unstuffed_part : (most size : ℕ) (bits : List Bool) → IsSize size → length bits < size → 1 ≤ length bits
    → (count : ℕ) × (count ≤ 7) × (unstuff_from size (groups (suc most) size bits) ≡ bits ++ zeros count)
unstuffed_part most size bits r part some =
    let range : (7 ≤ size) × (size ≤ 8) = size_range size r in
    let group : ℕ = first_group size bits in
    let next : bits_after group ≡ 8 = after_part size bits part in
    let rest : drop size bits ≡ [] = drop_all size bits (omega arith) in
    let none : groups most (bits_after group) (drop size bits) ≡ [] = rw (next, rest) (groups-none most) in
    let step : groups (suc most) size bits ≡ group ∷ groups most (bits_after group) (drop size bits) = groups-step most size bits some in
    let one : groups (suc most) size bits ≡ group ∷ [] = step ∙ ap (λ bytes. group ∷ bytes) none in
    let filled : bits_of size group ≡ take size (bits ++ zeros size) = group_bits size bits in
    let bits_are : bits_of size group ++ [] ≡ bits ++ zeros (size - length bits) = append-nil (bits_of size group) ∙ filled ∙ take_filled size bits (omega arith) in
    (size - length bits, omega (arith, range.1), ap (unstuff_from size) one ∙ bits_are)

unstuffed_whole : (most size : ℕ) (bits : List Bool) (count : ℕ) → size ≤ length bits → 1 ≤ length bits
    → unstuff_from (bits_after (first_group size bits)) (groups most (bits_after (first_group size bits)) (drop size bits)) ≡ drop size bits ++ zeros count
    → unstuff_from size (groups (suc most) size bits) ≡ bits ++ zeros count
unstuffed_whole most size bits count whole some more =
    let group : ℕ = first_group size bits in
    let step : groups (suc most) size bits ≡ group ∷ groups most (bits_after group) (drop size bits) = groups-step most size bits some in
    let filled : bits_of size group ≡ take size bits = group_bits size bits ∙ take-append-le size bits (zeros size) whole in
    ap (unstuff_from size) step
    ∙ ap (λ front. front ++ unstuff_from (bits_after group) (groups most (bits_after group) (drop size bits))) filled
    ∙ ap (λ tail. take size bits ++ tail) more
    ∙ sym (append_assoc (take size bits) (drop size bits) (zeros count))
    ∙ ap (λ front. front ++ zeros count) (take-append-drop size bits)

-- un-stuffing gives the bits back, followed by fewer than eight zeros
pub groups-unstuffed : (most size : ℕ) (bits : List Bool) → IsSize size → length bits < most
    → (count : ℕ) × (count ≤ 7) × (unstuff_from size (groups most size bits) ≡ bits ++ zeros count)
groups-unstuffed zero size bits r h = absurd (omega arith)
groups-unstuffed (suc most) size [] r h = unstuffed_end most size r
groups-unstuffed (suc most) size (bit ∷ bits) r h = elim (cases_lt (length (bit ∷ bits)) size) [
  | inl part ↦ unstuffed_part most size (bit ∷ bits) r part (omega arith)
  | inr whole ↦
      let group : ℕ = first_group size (bit ∷ bits) in
      let range : (7 ≤ size) × (size ≤ 8) = size_range size r in
      let len : length (drop size (bit ∷ bits)) ≡ suc (length bits) - size = length-drop size (bit ∷ bits) in
      let more = groups-unstuffed most (bits_after group) (drop size (bit ∷ bits)) (bits_after-size group) (omega (arith, range.0)) in
      (more.0, more.1, unstuffed_whole most size (bit ∷ bits) more.0 whole (omega arith) more.2)
]

length_end : (size : ℕ) → IsSize size → length {A = ℕ} (cond (eqb size 7) (0 ∷ []) []) ≤ 1
length_end size (inl e) = rw e (omega arith)
length_end size (inr e) = rw e (omega arith)

-- at most one byte for each seven bits, and one more
pub length-groups : (most size : ℕ) (bits : List Bool) → IsSize size → length (groups most size bits) ≤ length bits / 7 + 1
unfolding groups
length-groups zero size bits r = omega arith
length-groups (suc most) size [] r = length_end size r
length-groups (suc most) size (bit ∷ bits) r =
    let group : ℕ = first_group size (bit ∷ bits) in
    let range : (7 ≤ size) × (size ≤ 8) = size_range size r in
    let len : length (drop size (bit ∷ bits)) ≡ suc (length bits) - size = length-drop size (bit ∷ bits) in
    let more : length (groups most (bits_after group) (drop size (bit ∷ bits))) ≤ length (drop size (bit ∷ bits)) / 7 + 1 =
    length-groups most (bits_after group) (drop size (bit ∷ bits)) (bits_after-size group) in
    elim (cases_lt (suc (length bits)) size) [
      | inl part ↦
          let next : bits_after group ≡ 8 = after_part size (bit ∷ bits) part in
          let rest : drop size (bit ∷ bits) ≡ [] = drop_all size (bit ∷ bits) (omega arith) in
          let none : groups most (bits_after group) (drop size (bit ∷ bits)) ≡ [] = rw (next, rest) (groups-none most) in
          omega (arith, ap length none)
      | inr whole ↦ omega (arith, range.0)
    ]

guarded : (test then : Bool) → (test ≡ true → then ≡ true) → cond test then true ≡ true
guarded true then h = h refl
guarded false then h = refl

data_end : (size : ℕ) → IsSize size → (is_data (cond (eqb size 7) (0 ∷ []) []) ≡ true) × (size ≡ 7 → goes_on (cond (eqb size 7) (0 ∷ []) []) ≡ true)
data_end size (inl e) = rw e (refl, λ h. refl)
data_end size (inr e) = (rw e refl, λ h. absurd (omega arith))

-- stuffed bits are data, and may follow FF if the first byte holds seven bits
pub groups-data : (most size : ℕ) (bits : List Bool) → IsSize size → length bits < most
    → (is_data (groups most size bits) ≡ true) × (size ≡ 7 → goes_on (groups most size bits) ≡ true)
unfolding groups
groups-data zero size bits r h = absurd (omega arith)
groups-data (suc most) size [] r h = data_end size r
groups-data (suc most) size (bit ∷ bits) r h =
    let group : ℕ = first_group size (bit ∷ bits) in
    let range : (7 ≤ size) × (size ≤ 8) = size_range size r in
    let len : length (drop size (bit ∷ bits)) ≡ suc (length bits) - size = length-drop size (bit ∷ bits) in
    let rest : List ℕ = groups most (bits_after group) (drop size (bit ∷ bits)) in
    let more : (is_data rest ≡ true) × (bits_after group ≡ 7 → goes_on rest ≡ true) =
    groups-data most (bits_after group) (drop size (bit ∷ bits)) (bits_after-size group) (omega (arith, range.0)) in
    let next : eqb group 255 ≡ true → bits_after group ≡ 7 = λ e. cond-true (eqb group 255) 7 8 e in (
      and_from _ _ (guarded (eqb group 255) (goes_on rest) (λ e. more.1 (next e))) more.0,
      λ seven. lt-ltb group 128 (subst (λ n. group < 2 ^ n) seven (first_group-lt size (bit ∷ bits))),
    )

bytes_end : (size : ℕ) → IsSize size → AreBytes (cond (eqb size 7) (0 ∷ []) [])
bytes_end size (inl e) = rw e (omega arith, tt)
bytes_end size (inr e) = rw e tt

-- stuffed bits are bytes
pub groups-bytes : (most size : ℕ) (bits : List Bool) → IsSize size → AreBytes (groups most size bits)
unfolding groups
groups-bytes zero size bits r = tt
groups-bytes (suc most) size [] r = bytes_end size r
groups-bytes (suc most) size (bit ∷ bits) r =
    let group : ℕ = first_group size (bit ∷ bits) in
    let range : (7 ≤ size) × (size ≤ 8) = size_range size r in
    let below : group < 2 ^ size = first_group-lt size (bit ∷ bits) in
    let most_power : 2 ^ size ≤ 2 ^ 8 = pow_mono range.1 in
    (omega arith, groups-bytes most (bits_after group) (drop size (bit ∷ bits)) (bits_after-size group))

-- ---- data

goes_after_test : (test on : Bool) → cond test on true ≡ true → cond {A = ℕ} test 7 8 ≡ 7 → on ≡ true
goes_after_test true on h e = h
goes_after_test false on h e = absurd (omega arith)

goes_after : (byte : ℕ) (bytes : List ℕ) → cond (eqb byte 255) (goes_on bytes) true ≡ true → bits_after byte ≡ 7 → goes_on bytes ≡ true
goes_after byte bytes h e = goes_after_test (eqb byte 255) (goes_on bytes) h e

byte_keeps : (size byte : ℕ) (bytes : List ℕ) → IsSize size → byte < 256 → (size ≡ 7 → goes_on (byte ∷ bytes) ≡ true) → byte < 2 ^ size
byte_keeps size byte bytes (inl seven) h on = subst (λ n. byte < 2 ^ n) (sym seven) (ltb-true byte 128 (on seven))
byte_keeps size byte bytes (inr eight) h on = subst (λ n. byte < 2 ^ n) (sym eight) h

-- bytes that are data keep the rules of stuffing
pub data-keeps : (size : ℕ) (bytes : List ℕ) → IsSize size → AreBytes bytes → is_data bytes ≡ true → (size ≡ 7 → goes_on bytes ≡ true) → KeepsStuffing size bytes
data-keeps size [] r bytes data_is on = tt
data-keeps size (byte ∷ bytes) r each data_is on =
    let parts : (cond (eqb byte 255) (goes_on bytes) true ≡ true) × (is_data bytes ≡ true) = and_parts _ _ data_is in
    let goes : bits_after byte ≡ 7 → goes_on bytes ≡ true = goes_after byte bytes parts.0 in
    (byte_keeps size byte bytes r each.0 on, data-keeps (bits_after byte) bytes (bits_after-size byte) each.1 parts.1 goes)
