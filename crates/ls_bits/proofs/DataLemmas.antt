-- How far the data at the front of bytes goes.
use Rattle.std.proofs.Common.{◌≡◌, ℕ, zero, suc, ◌+◌, ◌-◌, ◌<◌, ◌≤◌, inl, inr, Bool, true, false, eqb, cond, List, [], ◌∷◌, ◌++◌, length, take, drop, get_or, slice_range, Some, None, refl, sym, ◌∙◌, ap, subst, arith}
use Rattle.std.proofs.Math.Seq.{take-add}
use Rattle.std.proofs.lemmas.List.{length-drop, get_or-drop, take_all, take_more, drop_more, drop_all, append_assoc}
use Rattle.std.proofs.lemmas.Bool.{cases_lt, and_parts, and_from, lt-ltb, le-ltb, ne_eqb, eq-eqb, eqb-true, true≢false, cond-false}
use Rattle.memchr.specs.Find.{IsFirstByte, Nowhere, Passes, is_byte}
use Rattle.ls_bits.specs.Data.{goes_on, is_data, IsData, DataAtFront}

-- ---- data and what follows it

goes_append_test : (test : Bool) (bytes more : List ℕ) → cond test (goes_on bytes) true ≡ true → cond test (goes_on (bytes ++ more)) true ≡ true
goes_append_test false bytes more h = refl
goes_append_test true [] more h = absurd (true≢false (sym h))
goes_append_test true (byte ∷ bytes) more h = h

-- data with data after it is data
pub data-append : (bytes more : List ℕ) → is_data bytes ≡ true → is_data more ≡ true → is_data (bytes ++ more) ≡ true
data-append [] more a b = b
data-append (byte ∷ bytes) more a b =
    let parts : (cond (eqb byte 255) (goes_on bytes) true ≡ true) × (is_data bytes ≡ true) = and_parts _ _ a in
    and_from _ _ (goes_append_test (eqb byte 255) bytes more parts.0) (data-append bytes more parts.1 b)

-- the end of data is data
pub data-after_ff : (bytes more : List ℕ) → is_data (bytes ++ more) ≡ true → is_data more ≡ true
data-after_ff [] more h = h
data-after_ff (byte ∷ bytes) more h = data-after_ff bytes more (and_parts _ _ h).1

-- ---- one step further

data-other : (byte : ℕ) → (byte ≡ 255 → ⊥) → is_data (byte ∷ []) ≡ true
data-other byte h = and_from _ _ (cond-false (eqb byte 255) false true (ne_eqb byte 255 h)) refl

data-pair : (byte : ℕ) → byte < 128 → is_data (255 ∷ byte ∷ []) ≡ true
data-pair byte h =
    let other : byte ≡ 255 → ⊥ = λ e. absurd (omega arith) in
    and_from _ _ (lt-ltb byte 128 h) (data-other byte other)

plain-data : (count : ℕ) (bytes : List ℕ) → Nowhere (Passes (is_byte 255) bytes) 0 count → is_data (take count bytes) ≡ true
plain-data zero bytes none = refl
plain-data (suc count) [] none = refl
plain-data (suc count) (byte ∷ bytes) none =
    let other : byte ≡ 255 → ⊥ = λ is. none 0 (omega arith) (omega arith) (eq-eqb byte 255 is) in
    and_from _ _ (cond-false (eqb byte 255) (goes_on (take count bytes)) true (ne_eqb byte 255 other))
    (plain-data count bytes (λ k low less. none (suc k) (omega arith) (omega arith)))

-- over bytes that aren't FF
pub data-more_plain : (bytes : List ℕ) (len count : ℕ) → IsData (take len bytes) → Nowhere (Passes (is_byte 255) (drop len bytes)) 0 count → IsData (take (len + count) bytes)
data-more_plain bytes len count so_far none =
    subst IsData (sym (take-add len count bytes)) (data-append (take len bytes) (take count (drop len bytes)) so_far (plain-data count (drop len bytes) none))

rest-from : (bytes : List ℕ) (len : ℕ) → slice_range bytes len (length bytes) ≡ drop len bytes
rest-from bytes len = take_all (length bytes - len) (drop len bytes) (omega (arith, length-drop len bytes))

-- up to the first FF from there on
pub data-up_to_ff : (bytes : List ℕ) (len place : ℕ) → IsData (take len bytes) → IsFirstByte (is_byte 255) (slice_range bytes len (length bytes)) (Some place)
    → (len + place < length bytes) × IsData (take (len + place) bytes) × (get_or bytes (len + place) 0 ≡ 255)
data-up_to_ff bytes len place so_far is =
    let first : IsFirstByte (is_byte 255) (drop len bytes) (Some place) = subst (λ rest. IsFirstByte (is_byte 255) rest (Some place)) (rest-from bytes len) is in
    (omega (arith, first.0.high, length-drop len bytes), data-more_plain bytes len place so_far first.0.before, sym (get_or-drop len bytes place 0) ∙ eqb-true _ _ first.1)

pub data-more_pair : (bytes : List ℕ) (len : ℕ) → len + 1 < length bytes → IsData (take len bytes) → get_or bytes len 0 ≡ 255 → get_or bytes (len + 1) 0 < 128
    → IsData (take (len + 2) bytes)
data-more_pair bytes len h so_far ff below =
    let second : take (len + 1 + 1) bytes ≡ take (len + 1) bytes ++ get_or bytes (len + 1) 0 ∷ [] = take_more bytes (len + 1) 0 h in
    let first : take (len + 1) bytes ≡ take len bytes ++ get_or bytes len 0 ∷ [] = take_more bytes len 0 (omega arith) in
    let sum : len + 1 + 1 ≡ len + 2 = omega arith in
    let whole : take (len + 2) bytes ≡ take len bytes ++ (255 ∷ get_or bytes (len + 1) 0 ∷ []) =
    ap (λ n. take n bytes) (sym sum) ∙ second
    ∙ ap (λ list. list ++ get_or bytes (len + 1) 0 ∷ []) (first ∙ ap (λ n. take len bytes ++ n ∷ []) ff)
    ∙ append_assoc (take len bytes) (255 ∷ []) (get_or bytes (len + 1) 0 ∷ []) in
    subst IsData (sym whole) (data-append (take len bytes) (255 ∷ get_or bytes (len + 1) 0 ∷ []) so_far (data-pair (get_or bytes (len + 1) 0) below))

-- ---- no step further

take-none : (n : ℕ) → take {A = ℕ} n [] ≡ []
take-none zero = refl
take-none (suc n) = refl

take_parts : (len more : ℕ) (bytes : List ℕ) → len ≤ more → take more bytes ≡ take len bytes ++ take (more - len) (drop len bytes)
take_parts zero more bytes h = let all : more - 0 ≡ more = omega arith in ap (λ n. take n bytes) (sym all)
take_parts (suc len) zero bytes h = absurd (omega arith)
take_parts (suc len) (suc more) [] h = sym (take-none (suc more - suc len))
take_parts (suc len) (suc more) (byte ∷ bytes) h =
    let same : suc more - suc len ≡ more - len = omega arith in
    ap (λ list. byte ∷ list) (take_parts len more bytes (omega arith) ∙ ap (λ n. take len bytes ++ take n (drop len bytes)) (sym same))

blocked : (n : ℕ) (rest : List ℕ) → goes_on rest ≡ false → goes_on (take n rest) ≡ false
blocked zero rest h = refl
blocked (suc n) [] h = refl
blocked (suc n) (byte ∷ rest) h = h

no_more : (bytes : List ℕ) (len more : ℕ) → len < length bytes → get_or bytes len 0 ≡ 255 → goes_on (drop (len + 1) bytes) ≡ false → IsData (take more bytes) → more ≤ len
no_more bytes len more h ff stop data_is = elim (cases_lt len more) [
  | inr done ↦ done
  | inl further ↦
      let n : ℕ = more - len - 1 in
      let size : more - len ≡ suc n = omega arith in
      let front : take more bytes ≡ take len bytes ++ take (suc n) (drop len bytes) = take_parts len more bytes (omega arith) ∙ ap (λ k. take len bytes ++ take k (drop len bytes)) size in
      let head : drop len bytes ≡ 255 ∷ drop (len + 1) bytes = drop_more bytes len 0 h ∙ ap (λ byte. byte ∷ drop (len + 1) bytes) ff in
      let whole : take more bytes ≡ take len bytes ++ (255 ∷ take n (drop (len + 1) bytes)) = front ∙ ap (λ list. take len bytes ++ take (suc n) list) head in
      let both : is_data (take len bytes ++ (255 ∷ take n (drop (len + 1) bytes))) ≡ true = sym (ap is_data whole) ∙ data_is in
      let tail : is_data (255 ∷ take n (drop (len + 1) bytes)) ≡ true = data-after_ff (take len bytes) _ both in
      let goes : goes_on (take n (drop (len + 1) bytes)) ≡ true = (and_parts _ _ tail).0 in
      absurd (true≢false (sym goes ∙ blocked n (drop (len + 1) bytes) stop))
]

pub data-longest : (bytes : List ℕ) (len : ℕ) → len < length bytes → IsData (take len bytes) → get_or bytes len 0 ≡ 255 → goes_on (drop (len + 1) bytes) ≡ false
    → DataAtFront bytes len
data-longest bytes len h so_far ff stop = record {
  within = omega arith;
  is_data = so_far;
  longest = λ more within is_data. no_more bytes len more h ff stop is_data;
}

-- no FF is left
pub data-all : (bytes : List ℕ) (len : ℕ) → len ≤ length bytes → IsData (take len bytes) → IsFirstByte (is_byte 255) (slice_range bytes len (length bytes)) None
    → DataAtFront bytes (length bytes)
data-all bytes len h so_far is =
    let none : IsFirstByte (is_byte 255) (drop len bytes) None = subst (λ rest. IsFirstByte (is_byte 255) rest None) (rest-from bytes len) is in
    let all : len + length (drop len bytes) ≡ length bytes = omega (arith, length-drop len bytes) in
    record {
      within = omega arith;
      is_data = subst (λ n. IsData (take n bytes)) all (data-more_plain bytes len (length (drop len bytes)) so_far none);
      longest = λ more within is_data. within;
    }

-- the bytes end
pub data-stop_end : (bytes : List ℕ) (len : ℕ) → len + 1 ≡ length bytes → goes_on (drop (len + 1) bytes) ≡ false
data-stop_end bytes len e = ap goes_on (drop_all (len + 1) bytes (omega arith))

-- there is a marker
pub data-stop_marker : (bytes : List ℕ) (len : ℕ) → len + 1 < length bytes → 128 ≤ get_or bytes (len + 1) 0 → goes_on (drop (len + 1) bytes) ≡ false
data-stop_marker bytes len h high = ap goes_on (drop_more bytes (len + 1) 0 h) ∙ le-ltb (get_or bytes (len + 1) 0) 128 high
