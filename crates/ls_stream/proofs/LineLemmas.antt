-- Padded lines have the neighbours that samples have in the whole plane.
use Rattle.std.proofs.Common.{◌≡◌, ℕ, zero, suc, ◌+◌, ◌-◌, ◌*◌, ◌<◌, ◌≤◌, Bool, true, false, cond, ltb, [], ◌∷◌, length, get_or, drop, length-drop, refl, ◌∙◌, ap, arith, inl, inr, List, sym, subst}
use Rattle.std.proofs.lemmas.Bool.{ltb-true, ltb-false, cases_lt}
use Rattle.std.proofs.lemmas.Nat.{mul-le}
use Rattle.std.proofs.lemmas.List.{get_or-replicate, get_or-take, get_or-drop, get_or_append_left, get_or-append_right, get_or_past, length-take-le}
use Rattle.ls_coding.specs.declared.neighbours.Neighbours.{Neighbours}
use Rattle.ls_stream.specs.Planes.{Plane, at, around, left, above, above_left, above_right}
use Rattle.ls_stream.specs.View.LineBuffers.{row_of, line_of, neighbours_in, AreLines, HoldsLine}

-- the plane has a complete row i
abbrev pub HasRow : Plane → ℕ → Type 0
HasRow plane i = (i + 1) * plane.width ≤ length plane.samples

in_row : (plane : Plane) (i j : ℕ) → j < plane.width → get_or (row_of plane i) j 0 ≡ at plane i j
in_row plane i j k = get_or-take plane.width (drop (i * plane.width) plane.samples) j 0 k ∙ get_or-drop (i * plane.width) plane.samples j 0

length_row : (plane : Plane) (i : ℕ) → HasRow plane i → length (row_of plane i) ≡ plane.width
length_row plane i h =
    length-take-le plane.width (drop (i * plane.width) plane.samples) (omega (arith, length-drop (i * plane.width) plane.samples))

row_before : (plane : Plane) (i : ℕ) → HasRow plane (suc i) → HasRow plane i
row_before plane i h = omega (arith, mul-le (i + 1) plane.width (suc i + 1) plane.width (omega arith) (omega arith))

-- a place of a line after the first
pub line_sample : (plane : Plane) (i j : ℕ) → HasRow plane i → j < plane.width → get_or (line_of plane (suc i)) (j + 1) 0 ≡ at plane i j
line_sample plane i j h k =
    let next : j + 1 ≡ suc j = omega arith in
    let inside : j < length (row_of plane i) = omega (arith, length_row plane i h) in
    ap (λ n. get_or (line_of plane (suc i)) n 0) next
    ∙ get_or_append_left (row_of plane i) (at plane i (plane.width - 1) ∷ []) 0 j inside
    ∙ in_row plane i j k

pub line_last : (plane : Plane) (i : ℕ) → HasRow plane i → get_or (line_of plane (suc i)) (plane.width + 1) 0 ≡ at plane i (plane.width - 1)
line_last plane i h =
    let next : plane.width + 1 ≡ suc plane.width = omega arith in
    let none : plane.width - plane.width ≡ 0 = omega arith in
    ap (λ n. get_or (line_of plane (suc i)) n 0) next
    ∙ get_or-append_right (row_of plane i) (at plane i (plane.width - 1) ∷ []) plane.width plane.width 0 (length_row plane i h) (omega arith)
    ∙ ap (λ n. get_or (at plane i (plane.width - 1) ∷ []) n 0) none

-- ---- the four neighbours

pub to_left : (plane : Plane) (i j : ℕ) → HasRow plane i → j < plane.width → get_or (line_of plane (suc i)) j 0 ≡ left plane i j
to_left plane i zero h k = refl
to_left plane i (suc j) h k = let next : suc j ≡ j + 1 = omega arith in ap (λ n. get_or (line_of plane (suc i)) n 0) next ∙ line_sample plane i j h (omega arith)

pub no_sample : (plane : Plane) (j : ℕ) → j < plane.width + 2 → get_or (line_of plane 0) j 0 ≡ 0
no_sample plane j h = get_or-replicate (plane.width + 2) j 0 0 h

pub over : (plane : Plane) (i j : ℕ) → HasRow plane i → j < plane.width → get_or (line_of plane i) (j + 1) 0 ≡ above plane i j
over plane zero j h k = no_sample plane (j + 1) (omega arith)
over plane (suc i) j h k = line_sample plane i j (row_before plane i h) k

over_left : (plane : Plane) (i j : ℕ) → HasRow plane i → j < plane.width → get_or (line_of plane i) j 0 ≡ above_left plane i j
over_left plane zero j h k = no_sample plane j (omega arith)
over_left plane (suc i) zero h k = refl
over_left plane (suc i) (suc j) h k = to_left plane i (suc j) (row_before plane i h) k

first_right : (plane : Plane) (j : ℕ) (test : Bool) → 0 ≡ cond test (above plane 0 (j + 1)) (above plane 0 j)
first_right plane j true = refl
first_right plane j false = refl

over_right_by : (plane : Plane) (i j : ℕ) (test : Bool) → ltb (j + 1) plane.width ≡ test → HasRow plane i → j < plane.width
    → get_or (line_of plane (suc i)) (j + 2) 0 ≡ cond test (at plane i (j + 1)) (at plane i j)
over_right_by plane i j true e h k =
    let inside : j + 1 < plane.width = omega (arith, ltb-true (j + 1) plane.width e) in
    let next : j + 2 ≡ j + 1 + 1 = omega arith in
    ap (λ n. get_or (line_of plane (suc i)) n 0) next ∙ line_sample plane i (j + 1) h inside
over_right_by plane i j false e h k =
    let last : j + 2 ≡ plane.width + 1 = omega (arith, ltb-false (j + 1) plane.width e) in
    let same : plane.width - 1 ≡ j = omega (arith, ltb-false (j + 1) plane.width e) in
    ap (λ n. get_or (line_of plane (suc i)) n 0) last ∙ line_last plane i h ∙ ap (at plane i) same

over_right : (plane : Plane) (i j : ℕ) → HasRow plane i → j < plane.width → get_or (line_of plane i) (j + 2) 0 ≡ above_right plane i j
over_right plane zero j h k = no_sample plane (j + 2) (omega arith) ∙ first_right plane j (ltb (j + 1) plane.width)
over_right plane (suc i) j h k = over_right_by plane i j (ltb (j + 1) plane.width) refl (row_before plane i h) k

neighbours : ℕ → ℕ → ℕ → ℕ → Neighbours
neighbours a b c d = record { a = a; b = b; c = c; d = d }

pub near_is : (plane : Plane) (i j : ℕ) → HasRow plane i → j < plane.width → neighbours_in (line_of plane i) (line_of plane (suc i)) j ≡ around plane i j
unfolding neighbours around
near_is plane i j h k =
    ap (λ n. neighbours n (get_or (line_of plane i) (j + 1) 0) (get_or (line_of plane i) j 0) (get_or (line_of plane i) (j + 2) 0)) (to_left plane i j h k)
    ∙ ap (λ n. neighbours (left plane i j) n (get_or (line_of plane i) j 0) (get_or (line_of plane i) (j + 2) 0)) (over plane i j h k)
    ∙ ap (λ n. neighbours (left plane i j) (above plane i j) n (get_or (line_of plane i) (j + 2) 0)) (over_left plane i j h k)
    ∙ ap (λ n. neighbours (left plane i j) (above plane i j) (above_left plane i j) n) (over_right plane i j h k)

-- ---- in buffers

left_before : (plane : Plane) (i j end : ℕ) (line : List ℕ) → get_or line 0 0 ≡ left plane i 0
    → ((c : ℕ) → c < end → get_or line (c + 1) 0 ≡ at plane i c) → j ≤ end → get_or line j 0 ≡ left plane i j
left_before plane i zero end line first before h = first
left_before plane i (suc j) end line first before h = let next : suc j ≡ j + 1 = omega arith in ap (λ n. get_or line n 0) next ∙ before j (omega arith)

-- the sample to the left of a row's first one
pub first_left : (plane : Plane) (i : ℕ) (above_buffer line : List ℕ) → 1 ≤ plane.width → HasRow plane i → HoldsLine plane i above_buffer → get_or line 0 0 ≡ get_or above_buffer 1 0
    → get_or line 0 0 ≡ left plane i 0
first_left plane i above_buffer line some h over_is first = first ∙ over_is 1 (omega arith) ∙ over plane i 0 h some

-- for a sample whose row is known to the left of it
pub around_before : (plane : Plane) (i j end : ℕ) (above_buffer line : List ℕ) → HasRow plane i → j < plane.width → HoldsLine plane i above_buffer → get_or line 0 0 ≡ left plane i 0
    → ((c : ℕ) → c < end → get_or line (c + 1) 0 ≡ at plane i c) → j ≤ end → neighbours_in above_buffer line j ≡ around plane i j
unfolding neighbours around
around_before plane i j end above_buffer line h k over_is first before reach =
    ap (λ n. neighbours n (get_or above_buffer (j + 1) 0) (get_or above_buffer j 0) (get_or above_buffer (j + 2) 0)) (left_before plane i j end line first before reach)
    ∙ ap (λ n. neighbours (left plane i j) n (get_or above_buffer j 0) (get_or above_buffer (j + 2) 0)) (over_is (j + 1) (omega arith) ∙ over plane i j h k)
    ∙ ap (λ n. neighbours (left plane i j) (above plane i j) n (get_or above_buffer (j + 2) 0)) (over_is j (omega arith) ∙ over_left plane i j h k)
    ∙ ap (λ n. neighbours (left plane i j) (above plane i j) (above_left plane i j) n) (over_is (j + 2) (omega arith) ∙ over_right plane i j h k)

pub held_lines : (plane : Plane) (i : ℕ) (above_buffer line_buffer : List ℕ) → HasRow plane i → HoldsLine plane i above_buffer → HoldsLine plane (suc i) line_buffer → AreLines plane i above_buffer line_buffer
unfolding neighbours
held_lines plane i above_buffer line_buffer h over_is line_is = record {
  neighbours = λ j k.
      ap (λ n. neighbours n (get_or above_buffer (j + 1) 0) (get_or above_buffer j 0) (get_or above_buffer (j + 2) 0)) (line_is j (omega arith))
      ∙ ap (λ n. neighbours (get_or (line_of plane (suc i)) j 0) n (get_or above_buffer j 0) (get_or above_buffer (j + 2) 0)) (over_is (j + 1) (omega arith))
      ∙ ap (λ n. neighbours (get_or (line_of plane (suc i)) j 0) (get_or (line_of plane i) (j + 1) 0) n (get_or above_buffer (j + 2) 0)) (over_is j (omega arith))
      ∙ ap (λ n. neighbours (get_or (line_of plane (suc i)) j 0) (get_or (line_of plane i) (j + 1) 0) (get_or (line_of plane i) j 0) n) (over_is (j + 2) (omega arith))
      ∙ near_is plane i j h k;
  samples = λ j k. line_is (j + 1) (omega arith) ∙ line_sample plane i j h k;
}

-- the line above the first row
pub none_above : (plane : Plane) (buffer : List ℕ) → ((k : ℕ) → k < plane.width + 2 → get_or buffer k 0 ≡ 0) → HoldsLine plane 0 buffer
none_above plane buffer zeros k h = zeros k h ∙ sym (no_sample plane k h)

filled_at : (plane : Plane) (i : ℕ) (above_buffer buffer : List ℕ) → 1 ≤ plane.width → HasRow plane i → HoldsLine plane i above_buffer → get_or buffer 0 0 ≡ get_or above_buffer 1 0
    → ((k : ℕ) → k < plane.width → get_or buffer (k + 1) 0 ≡ at plane i k) → get_or buffer (plane.width + 1) 0 ≡ get_or buffer plane.width 0
    → (k : ℕ) → k < plane.width + 2 → get_or buffer k 0 ≡ get_or (line_of plane (suc i)) k 0
filled_at plane i above_buffer buffer some h over_is first middle last zero k =
    first ∙ over_is 1 (omega arith) ∙ over plane i 0 h some
filled_at plane i above_buffer buffer some h over_is first middle last (suc k) l =
    let next : suc k ≡ k + 1 = omega arith in
    ap (λ n. get_or buffer n 0) next
    ∙ elim (cases_lt k plane.width) [
      | inl inside ↦ middle k inside ∙ sym (line_sample plane i k h inside)
      | inr far ↦
          let whole : k ≡ plane.width = omega arith in
          let before : plane.width ≡ plane.width - 1 + 1 = omega arith in
          ap (λ n. get_or buffer (n + 1) 0) whole ∙ last ∙ ap (λ n. get_or buffer n 0) before ∙ middle (plane.width - 1) (omega arith)
          ∙ sym (line_last plane i h) ∙ ap (λ n. get_or (line_of plane (suc i)) (n + 1) 0) (sym whole)
    ]
    ∙ ap (λ n. get_or (line_of plane (suc i)) n 0) (sym next)

pub filled : (plane : Plane) (i : ℕ) (above_buffer buffer : List ℕ) → 1 ≤ plane.width → HasRow plane i → HoldsLine plane i above_buffer → get_or buffer 0 0 ≡ get_or above_buffer 1 0
    → ((k : ℕ) → k < plane.width → get_or buffer (k + 1) 0 ≡ at plane i k) → get_or buffer (plane.width + 1) 0 ≡ get_or buffer plane.width 0
    → HoldsLine plane (suc i) buffer
filled = filled_at

-- a line has samples of at most maxval if what it was made of has
filled_small : (maxval width count component : ℕ) (above_buffer buffer row : List ℕ) → 1 ≤ width → length buffer ≡ width + 2 → ((k : ℕ) → get_or above_buffer k 0 ≤ maxval) → ((k : ℕ) → get_or row k 0 ≤ maxval)
    → get_or buffer 0 0 ≡ get_or above_buffer 1 0 → ((k : ℕ) → k < width → get_or buffer (k + 1) 0 ≡ get_or row (k * count + component) 0) → get_or buffer (width + 1) 0 ≡ get_or buffer width 0
    → (k : ℕ) → get_or buffer k 0 ≤ maxval
filled_small maxval width count component above_buffer buffer row some whole above_small row_small first middle last zero = omega (arith, above_small 1)
filled_small maxval width count component above_buffer buffer row some whole above_small row_small first middle last (suc k) =
    let next : suc k ≡ k + 1 = omega arith in
    subst (λ n. get_or buffer n 0 ≤ maxval) (sym next)
    (elim (cases_lt k width) [
      | inl inside ↦ omega (arith, middle k inside, row_small (k * count + component))
      | inr far ↦ elim (cases_lt width k) [
        | inl past ↦ let none : get_or buffer (k + 1) 0 ≡ 0 = get_or_past buffer (k + 1) 0 (omega arith) in omega arith
        | inr neighbours_in ↦
            let same : k ≡ width = omega arith in
            let before : width ≡ width - 1 + 1 = omega arith in
            let at_last : get_or buffer width 0 ≡ get_or row ((width - 1) * count + component) 0 = ap (λ n. get_or buffer n 0) before ∙ middle (width - 1) (omega arith) in
            let at_end : get_or buffer (k + 1) 0 ≡ get_or buffer width 0 = ap (λ n. get_or buffer (n + 1) 0) same ∙ last in
            omega (arith, row_small ((width - 1) * count + component))
      ]
    ])

row_small : (maxval stride start : ℕ) (samples row : List ℕ) → length row ≡ stride → ((k : ℕ) → k < stride → get_or row k 0 ≡ get_or samples (start + k) 0) → ((k : ℕ) → get_or samples k 0 ≤ maxval)
    → (k : ℕ) → get_or row k 0 ≤ maxval
row_small maxval stride start samples row whole same small k =
    elim (cases_lt k stride) [
      | inl inside ↦ omega (arith, same k inside, small (start + k))
      | inr far ↦ let none : get_or row k 0 ≡ 0 = get_or_past row k 0 (omega arith) in omega arith
    ]

-- the same, if the row has
pub small_line : (maxval width count component start : ℕ) (samples row above_buffer buffer : List ℕ) → 1 ≤ width → length buffer ≡ width + 2
    → ((k : ℕ) → get_or above_buffer k 0 ≤ maxval) → length row ≡ width * count → ((k : ℕ) → k < width * count → get_or row k 0 ≡ get_or samples (start + k) 0)
    → ((k : ℕ) → get_or samples k 0 ≤ maxval) → get_or buffer 0 0 ≡ get_or above_buffer 1 0 → ((k : ℕ) → k < width → get_or buffer (k + 1) 0 ≡ get_or row (k * count + component) 0)
    → get_or buffer (width + 1) 0 ≡ get_or buffer width 0 → (k : ℕ) → get_or buffer k 0 ≤ maxval
small_line maxval width count component start samples row above_buffer buffer some line_length above_small row_length same small first middle last =
    filled_small maxval width count component above_buffer buffer row some line_length above_small (row_small maxval (width * count) start samples row row_length same small) first middle last

-- after one more row, its samples are known to be at most maxval
pub one_more_seen : (plane : Plane) (maxval i : ℕ) (line : List ℕ) → ((k : ℕ) → k < i * plane.width → get_or plane.samples k 0 ≤ maxval)
    → ((k : ℕ) → k < plane.width → get_or line (k + 1) 0 ≡ at plane i k) → ((k : ℕ) → get_or line k 0 ≤ maxval)
    → (k : ℕ) → k < (i + 1) * plane.width → get_or plane.samples k 0 ≤ maxval
one_more_seen plane maxval i line seen middle small k h =
    elim (cases_lt k (i * plane.width)) [
      | inl before ↦ seen k before
      | inr here ↦
          let place : i * plane.width + (k - i * plane.width) ≡ k = omega arith in
          let inside : k - i * plane.width < plane.width = omega arith in
          omega (arith, middle (k - i * plane.width) inside, small (k - i * plane.width + 1), ap (λ n. get_or plane.samples n 0) place)
    ]

-- the samples of all rows
pub all_seen : (plane : Plane) (maxval height : ℕ) → length plane.samples ≡ plane.width * height → ((k : ℕ) → k < height * plane.width → get_or plane.samples k 0 ≤ maxval)
    → (k : ℕ) → get_or plane.samples k 0 ≤ maxval
all_seen plane maxval height whole seen k =
    elim (cases_lt k (height * plane.width)) [
      | inl inside ↦ seen k inside
      | inr far ↦ let none : get_or plane.samples k 0 ≡ 0 = get_or_past plane.samples k 0 (omega arith) in omega arith
    ]
