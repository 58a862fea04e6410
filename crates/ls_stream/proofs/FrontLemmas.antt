-- The number of bytes of the data at the front.
use Rattle.std.proofs.Common.{◌≡◌, ℕ, zero, suc, ◌<◌, ◌≤◌, inl, inr, true, false, eqb, leb, ltb, List, [], ◌∷◌, ◌++◌, length, take, refl, sym, ◌∙◌, ap, arith}
use Rattle.std.proofs.lemmas.List.{take_at, drop_at}
use Rattle.std.proofs.lemmas.Bool.{cases_Bool, and_parts, and_from, both_ways, cond-true, cond-false, leb-true, le-ltb, ltb-true, ne_eqb, false≢true}
use Rattle.ls_bits.specs.Data.{goes_on, is_data, IsData, starts_marker, DataAtFront}
use Rattle.ls_stream.specs.View.Outlines.{data_length, data_at, after_data}

-- ---- the steps of computing it

pub length-none : data_length [] ≡ 0
unfolding data_length
length-none = refl

pub length-pair : (byte next : ℕ) (bytes : List ℕ) → eqb byte 255 ≡ true → ltb next 128 ≡ true → data_length (byte ∷ next ∷ bytes) ≡ suc (suc (data_length bytes))
unfolding data_length
length-pair byte next bytes ff low = rw (ff, low) refl

pub length-marker : (byte next : ℕ) (bytes : List ℕ) → eqb byte 255 ≡ true → ltb next 128 ≡ false → data_length (byte ∷ next ∷ bytes) ≡ 0
unfolding data_length
length-marker byte next bytes ff high = rw (ff, high) refl

pub length-other : (byte : ℕ) (bytes : List ℕ) → eqb byte 255 ≡ false → data_length (byte ∷ bytes) ≡ suc (data_length bytes)
unfolding data_length
length-other byte [] other = rw other refl
length-other byte (next ∷ bytes) other = rw other refl

pub length-last : (byte : ℕ) → eqb byte 255 ≡ true → data_length (byte ∷ []) ≡ 0
unfolding data_length
length-last byte ff = rw ff refl

-- ---- it is that of the longest front that is data

data_other : (byte : ℕ) (bytes : List ℕ) → eqb byte 255 ≡ false → is_data bytes ≡ true → is_data (byte ∷ bytes) ≡ true
data_other byte bytes other is = and_from _ _ (cond-false (eqb byte 255) (goes_on bytes) true other) is

-- a byte below 80 isn't FF
low_other : (byte : ℕ) → ltb byte 128 ≡ true → eqb byte 255 ≡ false
low_other byte low = let small : byte < 128 = ltb-true byte 128 low in ne_eqb byte 255 (λ e. absurd (omega arith))

front_data : (bytes : List ℕ) → (data_length bytes ≤ length bytes) × (is_data (take (data_length bytes) bytes) ≡ true)
front_data [] = rw length-none (omega arith, refl)
front_data (byte ∷ []) = elim (cases_Bool (eqb byte 255)) [
  | inl ff ↦ rw (length-last byte ff) (omega arith, refl)
  | inr other ↦ rw (length-other byte [] other, length-none) (omega arith, data_other byte [] other refl)
]
front_data (byte ∷ next ∷ bytes) = elim (cases_Bool (eqb byte 255)) [
  | inl ff ↦ elim (cases_Bool (ltb next 128)) [
    | inl low ↦
        let rest = front_data bytes in
        rw (length-pair byte next bytes ff low)
        (omega (arith, rest.0), and_from _ _ (cond-true (eqb byte 255) (ltb next 128) true ff ∙ low) (data_other next (take (data_length bytes) bytes) (low_other next low) rest.1))
    | inr high ↦ rw (length-marker byte next bytes ff high) (omega arith, refl)
  ]
  | inr other ↦
      let rest = front_data (next ∷ bytes) in
      rw (length-other byte (next ∷ bytes) other) (omega (arith, rest.0), data_other byte (take (data_length (next ∷ bytes)) (next ∷ bytes)) other rest.1)
]

front_longest : (bytes : List ℕ) (more : ℕ) → is_data (take more bytes) ≡ true → more ≤ length bytes → more ≤ data_length bytes
front_longest bytes zero is within = omega arith
front_longest [] (suc more) is within = absurd (omega arith)
front_longest (byte ∷ []) (suc zero) is within = elim (cases_Bool (eqb byte 255)) [
  | inl ff ↦ absurd (both_ways _ (cond-true (eqb byte 255) false true ff) (and_parts _ _ is).0)
  | inr other ↦ rw (length-other byte [] other) (omega arith)
]
front_longest (byte ∷ []) (suc (suc more)) is within = absurd (omega arith)
front_longest (byte ∷ next ∷ bytes) (suc zero) is within = elim (cases_Bool (eqb byte 255)) [
  | inl ff ↦ absurd (both_ways _ (cond-true (eqb byte 255) false true ff) (and_parts _ _ is).0)
  | inr other ↦ rw (length-other byte (next ∷ bytes) other) (omega arith)
]
front_longest (byte ∷ next ∷ bytes) (suc (suc more)) is within =
    let parts = and_parts _ _ is in
    elim (cases_Bool (eqb byte 255)) [
      | inl ff ↦
          let low : ltb next 128 ≡ true = sym (cond-true (eqb byte 255) (ltb next 128) true ff) ∙ parts.0 in
          let rest = front_longest bytes more (and_parts _ _ parts.1).1 (omega arith) in
          rw (length-pair byte next bytes ff low) (omega (arith, rest))
      | inr other ↦
          let rest = front_longest (next ∷ bytes) (suc more) parts.1 (omega arith) in
          rw (length-other byte (next ∷ bytes) other) (omega (arith, rest))
    ]

pub data_length-is : (bytes : List ℕ) → DataAtFront bytes (data_length bytes)
data_length-is bytes = let front = front_data bytes in record {
  within = front.0;
  is_data = front.1;
  longest = λ more within is. front_longest bytes more is within;
}

-- and no other
pub data_length-only : (bytes : List ℕ) (len : ℕ) → DataAtFront bytes len → len ≡ data_length bytes
data_length-only bytes len front =
    let own = data_length-is bytes in
    let low = own.longest len front.within front.is_data in
    let high = front.longest (data_length bytes) own.within own.is_data in
    omega arith

-- ---- data before a marker

nothing_first : (bytes : List ℕ) → starts_marker bytes ≡ true → data_length bytes ≡ 0
nothing_first [] starts = absurd (false≢true starts)
nothing_first (byte ∷ []) starts = absurd (false≢true starts)
nothing_first (byte ∷ next ∷ bytes) starts =
    let parts = and_parts (eqb byte 255) (leb 128 next) starts in
    length-marker byte next bytes parts.0 (le-ltb next 128 (leb-true 128 next parts.1))

data_before : (stuffed bytes : List ℕ) → is_data stuffed ≡ true → starts_marker bytes ≡ true → data_length (stuffed ++ bytes) ≡ length stuffed
data_before [] bytes is starts = nothing_first bytes starts
data_before (byte ∷ []) bytes is starts = elim (cases_Bool (eqb byte 255)) [
  | inl ff ↦ absurd (both_ways _ (cond-true (eqb byte 255) false true ff) (and_parts _ _ is).0)
  | inr other ↦ length-other byte bytes other ∙ ap suc (nothing_first bytes starts)
]
data_before (byte ∷ next ∷ stuffed) bytes is starts =
    let parts = and_parts _ _ is in
    elim (cases_Bool (eqb byte 255)) [
      | inl ff ↦
          let low : ltb next 128 ≡ true = sym (cond-true (eqb byte 255) (ltb next 128) true ff) ∙ parts.0 in
          length-pair byte next (stuffed ++ bytes) ff low ∙ ap (λ n. suc (suc n)) (data_before stuffed bytes (and_parts _ _ parts.1).1 starts)
      | inr other ↦ length-other byte (next ∷ stuffed ++ bytes) other ∙ ap suc (data_before (next ∷ stuffed) bytes parts.1 starts)
    ]

pub data_at-front : (stuffed bytes : List ℕ) → IsData stuffed → starts_marker bytes ≡ true → data_at (stuffed ++ bytes) ≡ stuffed
data_at-front stuffed bytes is starts = take_at stuffed bytes (data_length (stuffed ++ bytes)) (sym (data_before stuffed bytes is starts))

pub after_data-front : (stuffed bytes : List ℕ) → IsData stuffed → starts_marker bytes ≡ true → after_data (stuffed ++ bytes) ≡ bytes
after_data-front stuffed bytes is starts = drop_at stuffed bytes (data_length (stuffed ++ bytes)) (sym (data_before stuffed bytes is starts))
