-- The front of bytes up to the first mark that isn't followed by a byte below a limit.
use Rattle.std.proofs.Common.{◌≡◌, inl, inr, ℕ, suc, ◌+◌, ◌-◌, ◌<◌, ◌≤◌, List, [], ◌∷◌, ◌++◌, length, take, drop, get_or, slice_range, None, Some, sym, ap, subst, ◌∙◌, arith, take-append-drop, drop-drop, length-take, length-drop}
use Rattle.std.proofs.lemmas.List.{take-append-le, drop-take, drop_more, take_more, take_all, get_or-take, get_or-drop}
use Rattle.std.proofs.lemmas.Bool.{cases_lt, eq-eqb}
use Rattle.memchr.specs.Find.{IsFirstByte, Nowhere, Passes, is_byte}
use Rattle.ls_frame.specs.View.Known.{TakesPast, ArePassed}

-- ---- marks that are passed

-- each mark before an index is followed by a byte below the limit
abbrev pub PassedBefore : ℕ → ℕ → List ℕ → ℕ → Type 0
PassedBefore mark limit bytes place = (k : ℕ) → k < place → get_or bytes k 0 ≡ mark → get_or bytes (suc k) 0 < limit

rest-from : (bytes : List ℕ) (count : ℕ) → slice_range bytes count (length bytes) ≡ drop count bytes
rest-from bytes count = take_all (length bytes - count) (drop count bytes) (omega (arith, length-drop count bytes))

-- past bytes that aren't marks
pub passed-plain : (mark limit : ℕ) (bytes : List ℕ) (count more : ℕ) → PassedBefore mark limit bytes count → Nowhere (Passes (is_byte mark) (slice_range bytes count (length bytes))) 0 more
    → PassedBefore mark limit bytes (count + more)
passed-plain mark limit bytes count more so_far none k less is = elim (cases_lt k count) [
  | inl before ↦ so_far k before is
  | inr after ↦
      let place : count + (k - count) ≡ k = omega arith in
      let here : get_or (slice_range bytes count (length bytes)) (k - count) 0 ≡ mark =
      ap (λ bs. get_or bs (k - count) 0) (rest-from bytes count) ∙ get_or-drop count bytes (k - count) 0 ∙ ap (λ n. get_or bytes n 0) place ∙ is in
      absurd (none (k - count) (omega arith) (omega arith) (eq-eqb _ _ here))
]

-- past one more byte
pub passed-one : (mark limit : ℕ) (bytes : List ℕ) (count next : ℕ) → next ≡ count + 1 → PassedBefore mark limit bytes count → get_or bytes next 0 < limit → PassedBefore mark limit bytes next
passed-one mark limit bytes count next one so_far low k less is = elim (cases_lt k count) [
  | inl before ↦ so_far k before is
  | inr after ↦
      let place : next ≡ suc k = omega arith in
      subst (λ n. get_or bytes n 0 < limit) place low
]

-- so all marks in the front are passed
pub passed-front : (mark limit : ℕ) (bytes : List ℕ) (place count : ℕ) → PassedBefore mark limit bytes place → count ≤ place + 1 → ArePassed mark limit (take count bytes)
passed-front mark limit bytes place count passed near k less is =
    let size = length-take count bytes in
    let here = get_or-take count bytes k 0 (omega (arith, less, size)) in
    let next = get_or-take count bytes (suc k) 0 (omega (arith, less, size)) in
    let low = passed k (omega (arith, less, size, near)) (sym here ∙ is) in
    subst (λ b. b < limit) (sym next) low

-- and all marks, if there are none after an index
pub passed-all : (mark limit : ℕ) (bytes : List ℕ) (count : ℕ) → PassedBefore mark limit bytes count → IsFirstByte (is_byte mark) (slice_range bytes count (length bytes)) None
    → ArePassed mark limit (take (length bytes) bytes)
passed-all mark limit bytes count so_far none =
    let rest = slice_range bytes count (length bytes) in
    let size : length rest ≡ length bytes - count = ap length (rest-from bytes count) ∙ length-drop count bytes in
    passed-front mark limit bytes (count + length rest) (length bytes) (passed-plain mark limit bytes count (length rest) so_far none) (omega (arith, size))

-- ---- chunks

pub front-taken : (count most : ℕ) (bytes : List ℕ) → count ≤ length (take most bytes) → take count (take most bytes) ≡ take count bytes
front-taken count most bytes within = sym (take-append-le count (take most bytes) (drop most bytes) within) ∙ ap (take count) (take-append-drop most bytes)

-- a chunk is its front and what is left of it
chunk-parts : (bytes : List ℕ) (start count end : ℕ) → start + count ≤ end → slice_range bytes start end ≡ take count (slice_range bytes start end) ++ slice_range bytes (start + count) end
chunk-parts bytes start count end within =
    let chunk = slice_range bytes start end in
    let size : end - start ≡ count + (end - (start + count)) = omega arith in
    let rest : drop count chunk ≡ slice_range bytes (start + count) end =
    ap (λ n. drop count (take n (drop start bytes))) size ∙ drop-take count (end - (start + count)) (drop start bytes)
    ∙ ap (take (end - (start + count))) (drop-drop count start bytes) in
    sym (take-append-drop count chunk) ∙ ap (λ bs. take count chunk ++ bs) rest

-- the front of a chunk was appended, and this is its last byte
pub chunk-past : (mark limit most : ℕ) (bytes : List ℕ) (start count end : ℕ) (before after : List ℕ) → start + count ≤ end → 0 < count → count ≤ most → count ≤ length (slice_range bytes start end)
    → ArePassed mark limit (take count (slice_range bytes start end)) → after ≡ before ++ take count (slice_range bytes start end)
    → TakesPast mark limit most (Some (slice_range bytes start end)) (Some (slice_range bytes (start + count) end)) before after (get_or (slice_range bytes start end) (count - 1) 0)
chunk-past mark limit most bytes start count end before after within some few enough passed is =
    let chunk = slice_range bytes start end in
    let again : count ≡ (count - 1) + 1 = omega arith in
    let front : take count chunk ≡ take (count - 1) chunk ++ get_or chunk (count - 1) 0 ∷ [] =
    ap (λ n. take n chunk) again ∙ take_more chunk (count - 1) 0 (omega arith) in
    let size = length-take (count - 1) chunk in
    record {
      run = take (count - 1) chunk;
      appended = is ∙ ap (λ bs. before ++ bs) front;
      given = chunk-parts bytes start count end within ∙ ap (λ bs. bs ++ slice_range bytes (start + count) end) front;
      passed = subst (ArePassed mark limit) front passed;
      few = omega arith;
    }

pub passed-byte : (mark limit byte : ℕ) → ArePassed mark limit (byte ∷ [])
passed-byte mark limit byte k less is = absurd (omega (arith, less))

-- the first byte of a chunk was appended
pub chunk-one : (mark limit most : ℕ) (bytes : List ℕ) (start end byte : ℕ) (before after : List ℕ) → start < end → start < length bytes → 0 < most → byte ≡ get_or bytes start byte → after ≡ before ++ byte ∷ []
    → TakesPast mark limit most (Some (slice_range bytes start end)) (Some (slice_range bytes (start + 1) end)) before after byte
chunk-one mark limit most bytes start end byte before after some within any first is =
    let size : end - start ≡ suc (end - (start + 1)) = omega arith in
    let rest = take (end - (start + 1)) (drop (start + 1) bytes) in
    record {
      run = [];
      appended = is;
      given = ap (λ n. take n (drop start bytes)) size ∙ ap (take (suc (end - (start + 1)))) (drop_more bytes start byte within) ∙ ap (λ b. b ∷ rest) (sym first);
      passed = passed-byte mark limit byte;
      few = any;
    }
