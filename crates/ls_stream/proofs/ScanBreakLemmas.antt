-- How bits break in a scan: after some rows of a plane, in the next one.
use Rattle.std.proofs.Common.{◌≡◌, ℕ, ◌+◌, ◌-◌, ◌*◌, ◌<◌, ◌≤◌, Bool, true, false, cond, ltb, List, ◌++◌, length, get_or, inl, inr, refl, sym, ◌∙◌, ap, subst, arith}
use Rattle.std.specs.Prelude.{map}
use Rattle.std.specs.List.{range_with_len}
use Rattle.std.proofs.lemmas.Bool.{cases_lt, lt-ltb, le-ltb, cond-true, cond-false}
use Rattle.std.proofs.lemmas.List.{get_or_past}
use Rattle.std.proofs.lemmas.List.FromFn.{get_or-map-range_with_len, length-map-range_with_len}
use Rattle.std.proofs.lemmas.Nat.{mul-le}
use Rattle.ls_frame.specs.Parameters.{Parameters}
use Rattle.ls_bits.specs.declared.source.CodeFault.{CodeFault}
use Rattle.ls_coding.specs.View.States.{Coding}
use Rattle.ls_stream.specs.Planes.{Plane, IsSamplePlane, at, Span, row_from, rows_from, spans}
use Rattle.ls_stream.specs.View.BitFaults.{BreaksSpans}
use Rattle.ls_stream.specs.View.LineBuffers.{HoldsLine}
use Rattle.ls_stream.specs.View.Decoding.{place, HoldsRows, HoldsRowTo, BreaksLater, BreaksFrom}
use Rattle.ls_stream.proofs.LineLemmas.{first_left}
use Rattle.ls_stream.proofs.ScanReadingLemmas.{IsStored, sample_row, rows_before, row_in, all_spans}
use Rattle.ls_stream.proofs.SpanLemmas.{row_from-start, row_from-end, rows_from-next}

-- ---- after a row

-- the spans of the rows from one on
row_first : (plane : Plane) (height i : ℕ) → i < height → rows_from plane (height - i) i ≡ row_from plane i 0 ++ rows_from plane (height - (i + 1)) (i + 1)
row_first plane height i inside = rows_from-next plane height i inside ∙ ap (λ (xs : List Span). xs ++ rows_from plane (height - (i + 1)) (i + 1)) (row_from-start plane i)

pub rows_later : (p q : Parameters) (width height count component i : ℕ) (above line read samples new : List ℕ) (s t : Coding) (bits left_bits : List Bool) (plane : Plane) (fault : CodeFault) → q ≡ p
    → i < height → 1 ≤ width → IsSamplePlane p.maxval width height plane → (HoldsRows plane i count component samples → HoldsLine plane i above)
    → BreaksLater q.maxval width above (place 0 line s bits) (place width read t left_bits) → get_or line 0 0 ≡ get_or above 1 0 → get_or read 0 0 ≡ get_or line 0 0
    → IsStored width count component i samples new read → HoldsRows plane (i + 1) count component new
    → BreaksSpans plane (rows_from plane (height - (i + 1)) (i + 1)) t left_bits fault
    → HoldsRows plane i count component samples × BreaksSpans plane (rows_from plane (height - i) i) s bits fault
rows_later p q width height count component i above line read samples new s t bits left_bits plane fault e inside some is held later first kept stored rows malformed =
    let more = rows_from plane (height - (i + 1)) (i + 1) in
    let row = sample_row p.maxval width height i plane is inside in
    let before = rows_before plane width count component i samples new read is.width_is stored rows in
    let over = held before in
    let step = subst (λ (x : Parameters). BreaksLater x.maxval width above (place 0 line s bits) (place width read t left_bits)) e later in
    let holds : HoldsRowTo plane i above read width = record {
      over = over;
      first = first_left plane i above read (omega (arith, is.width_is)) row.whole over (kept ∙ first);
      before = row_in plane width count component i samples new read is.width_is stored rows;
    } in
    let past : more ≡ row_from plane i width ++ more = ap (λ (xs : List Span). xs ++ more) (sym (row_from-end plane i width (omega (arith, is.width_is)))) in (
      before,
      subst (λ (xs : List Span). BreaksSpans plane xs s bits fault) (sym (row_first plane height i inside))
          (step.later plane i row holds more fault (subst (λ (xs : List Span). BreaksSpans plane xs t left_bits fault) past malformed)),
    )

-- ---- in a row

-- a plane whose rows above one are among the samples, and whose next row is in a buffer
cell : ℕ → ℕ → ℕ → ℕ → List ℕ → List ℕ → ℕ → ℕ
cell width count component i samples line k = cond (ltb k (i * width)) (get_or samples (k * count + component) 0) (get_or line (k - i * width + 1) 0)

cells : ℕ → ℕ → ℕ → ℕ → ℕ → List ℕ → List ℕ → List ℕ
cells width height count component i samples line = map (cell width count component i samples line) (range_with_len 0 (height * width))

abbrev made : ℕ → ℕ → ℕ → ℕ → ℕ → List ℕ → List ℕ → Plane
made width height count component i samples line = record { width = width; samples = cells width height count component i samples line }

cell_is : (width height count component i : ℕ) (samples line : List ℕ) (k : ℕ) → k < height * width
    → get_or (cells width height count component i samples line) k 0 ≡ cell width count component i samples line k
unfolding cells
cell_is width height count component i samples line k inside =
    get_or-map-range_with_len (cell width count component i samples line) 0 (height * width) k k 0 inside (omega arith)

cell_count : (width height count component i : ℕ) (samples line : List ℕ) → length (cells width height count component i samples line) ≡ height * width
unfolding cells
cell_count width height count component i samples line = length-map-range_with_len (cell width count component i samples line) 0 (height * width)

cond_small : (test : Bool) (x y maxval : ℕ) → x ≤ maxval → y ≤ maxval → cond test x y ≤ maxval
cond_small true x y maxval h k = h
cond_small false x y maxval h k = k

cell_small : (maxval width count component i : ℕ) (samples line : List ℕ) (k : ℕ) → ((n : ℕ) → get_or samples n 0 ≤ maxval) → ((n : ℕ) → get_or line n 0 ≤ maxval)
    → cell width count component i samples line k ≤ maxval
unfolding cell
cell_small maxval width count component i samples line k h h' = cond_small (ltb k (i * width)) _ _ maxval (h (k * count + component)) (h' (k - i * width + 1))

cell_above : (width count component i : ℕ) (samples line : List ℕ) (k : ℕ) → k < i * width → cell width count component i samples line k ≡ get_or samples (k * count + component) 0
unfolding cell
cell_above width count component i samples line k h = cond-true (ltb k (i * width)) _ _ (lt-ltb k (i * width) h)

cell_in : (width count component i : ℕ) (samples line : List ℕ) (k c : ℕ) → k ≡ i * width + c → cell width count component i samples line k ≡ get_or line (c + 1) 0
unfolding cell
cell_in width count component i samples line k c e =
    let back : k - i * width + 1 ≡ c + 1 = omega arith in
    cond-false (ltb k (i * width)) _ _ (le-ltb k (i * width) (omega arith)) ∙ ap (λ n. get_or line n 0) back

is_made : (maxval width height count component i : ℕ) (samples line : List ℕ) → ((n : ℕ) → get_or samples n 0 ≤ maxval) → ((n : ℕ) → get_or line n 0 ≤ maxval)
    → IsSamplePlane maxval width height (made width height count component i samples line)
is_made maxval width height count component i samples line h h' = record {
  width_is = refl;
  count = cell_count width height count component i samples line;
  small = λ k. elim (cases_lt k (height * width)) [
    | inl inside ↦ subst (λ v. v ≤ maxval) (sym (cell_is width height count component i samples line k inside)) (cell_small maxval width count component i samples line k h h')
    | inr far ↦ subst (λ v. v ≤ maxval) (sym (get_or_past (cells width height count component i samples line) k 0 (omega (arith, cell_count width height count component i samples line)))) (omega arith)
  ];
}

rows_made : (width height count component i : ℕ) (samples line : List ℕ) → i < height → HoldsRows (made width height count component i samples line) i count component samples
rows_made width height count component i samples line inside r j h k =
    let rows : (r + 1) * width ≤ i * width = mul-le (r + 1) width i width (omega arith) (omega arith) in
    let all : i * width ≤ height * width = mul-le i width height width (omega arith) (omega arith) in
    sym (cell_is width height count component i samples line (r * width + j) (omega arith) ∙ cell_above width count component i samples line (r * width + j) (omega arith))

row_made : (width height count component i c : ℕ) (samples line : List ℕ) → i < height → c < width → get_or line (c + 1) 0 ≡ at (made width height count component i samples line) i c
row_made width height count component i c samples line inside h =
    let all : (i + 1) * width ≤ height * width = mul-le (i + 1) width height width (omega arith) (omega arith) in
    sym (cell_is width height count component i samples line (i * width + c) (omega arith) ∙ cell_in width count component i samples line (i * width + c) c refl)

pub row_malformed : (p q : Parameters) (width height count component i : ℕ) (above line samples : List ℕ) (s : Coding) (bits : List Bool) (fault : CodeFault) → q ≡ p → i < height → 1 ≤ width
    → ((plane : Plane) → IsSamplePlane p.maxval width height plane → HoldsRows plane i count component samples → HoldsLine plane i above)
    → ((k : ℕ) → get_or samples k 0 ≤ p.maxval) → get_or line 0 0 ≡ get_or above 1 0 → BreaksFrom q.maxval width above (place 0 line s bits) fault
    → (plane : Plane) × IsSamplePlane p.maxval width height plane × HoldsRows plane i count component samples × BreaksSpans plane (rows_from plane (height - i) i) s bits fault
row_malformed p q width height count component i above line samples s bits fault e inside some held small first malformed =
    let b = subst (λ (x : Parameters). BreaksFrom x.maxval width above (place 0 line s bits) fault) e malformed in
    let plane : Plane = made width height count component i samples b.line in
    let is = is_made p.maxval width height count component i samples b.line small b.small in
    let rows = rows_made width height count component i samples b.line inside in
    let row = sample_row p.maxval width height i plane is inside in
    let over = held plane is rows in
    let holds : HoldsRowTo plane i above b.line b.column = record {
      over = over;
      first = b.kept 0 (omega arith) ∙ first_left plane i above line (omega (arith, some)) row.whole over first;
      before = λ c h. row_made width height count component i c samples b.line inside (omega (arith, h, b.inside));
    } in (
      plane,
      is,
      rows,
      subst (λ (xs : List Span). BreaksSpans plane xs s bits fault) (sym (row_first plane height i inside)) (b.breaks plane i row holds (rows_from plane (height - (i + 1)) (i + 1))),
    )

-- and in all rows
pub rows_malformed : (p : Parameters) (width height count component i : ℕ) (samples : List ℕ) (s t : Coding) (bits left_bits : List Bool) (fault : CodeFault) → 1 ≤ width
    → ((plane : Plane) → IsSamplePlane p.maxval width height plane → HoldsRows plane i count component samples → (fault : CodeFault)
    → BreaksSpans plane (rows_from plane (height - i) i) t left_bits fault → BreaksSpans plane (rows_from plane (height - 0) 0) s bits fault)
    → ((plane : Plane) × IsSamplePlane p.maxval width height plane × HoldsRows plane i count component samples × BreaksSpans plane (rows_from plane (height - i) i) t left_bits fault)
    → (plane : Plane) × IsSamplePlane p.maxval width height plane × BreaksSpans plane (spans plane) s bits fault
rows_malformed p width height count component i samples s t bits left_bits fault some later row = (
  row.0,
  row.1,
  subst (λ (xs : List Span). BreaksSpans row.0 xs s bits fault) (sym (all_spans p.maxval width height row.0 some row.1)) (later row.0 row.1 row.2 fault row.3),
)
