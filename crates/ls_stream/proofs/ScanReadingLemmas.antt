-- Reading a scan, row by row.
use Rattle.std.proofs.Common.{◌≡◌, ◌≢◌, ◌↔◌, ℕ, suc, ◌+◌, ◌-◌, ◌*◌, ◌/◌, ◌%◌, ◌<◌, ◌≤◌, Bool, List, [], ◌++◌, length, get_or, inl, inr, refl, sym, ◌∙◌, ap, subst, mul-div_cancel, arith}
use Rattle.std.proofs.Math.ListN.{set}
use Rattle.std.proofs.Math.Nat.{mod-lt, div-lt_iff_lt-mul}
use Rattle.std.proofs.lemmas.Bool.{cases_lt}
use Rattle.std.proofs.lemmas.Grind.{same_number_lists}
use Rattle.std.proofs.lemmas.List.{get_or-set_same, get_or-set_other, get_or_past}
use Rattle.std.proofs.lemmas.List.FromFn.{get_or-map-range_with_len, length-map-range_with_len}
use Rattle.std.proofs.lemmas.Nat.{mul-le, div-add-mod'}
use Rattle.ls_coding.specs.View.States.{Coding, state_of}
use Rattle.ls_stream.specs.Planes.{Plane, IsSamplePlane, at, Span, row_from, rows_from, spans, plane_bits}
use Rattle.ls_stream.specs.Components.{component_of, component_plane}
use Rattle.ls_stream.specs.View.Coded.{bits_from}
use Rattle.ls_stream.specs.View.LineBuffers.{HoldsLine}
use Rattle.ls_stream.specs.View.Decoding.{HasSampleRow, place, AreSamePlanes, IsNoPlane, HoldsRows, RowsMayBeRead}
use Rattle.ls_stream.proofs.CodedLemmas.{plane_from}
use Rattle.ls_stream.proofs.ComponentLemmas.{sample_at}
use Rattle.ls_stream.proofs.LineLemmas.{HasRow, first_left, filled}
use Rattle.ls_stream.proofs.SpanLemmas.{row_from-start, row_from-end, rows_from-next}

-- ---- a row of a plane

pub has_rows : (maxval width height i : ℕ) (plane : Plane) → IsSamplePlane maxval width height plane → i < height → HasRow plane i
has_rows maxval width height i plane is h =
    let rows : (i + 1) * plane.width ≤ height * plane.width = mul-le (i + 1) plane.width height plane.width (omega arith) (omega arith) in
    let same : height * plane.width ≡ height * width = ap (λ w. height * w) is.width_is in
    omega (arith, is.count)

pub sample_row : (maxval width height i : ℕ) (plane : Plane) → IsSamplePlane maxval width height plane → i < height → HasSampleRow maxval width plane i
sample_row maxval width height i plane is h = record { width_is = is.width_is; whole = has_rows maxval width height i plane is h; small = is.small }

-- the bits of a row and of those after it
pub row_bits : (plane : Plane) (height i : ℕ) (s : Coding) (rest : List Bool) → i < height
    → bits_from plane (rows_from plane (height - i) i) s ++ rest ≡ bits_from plane (row_from plane i 0 ++ rows_from plane (height - (i + 1)) (i + 1)) s ++ rest
row_bits plane height i s rest h =
    ap (λ (xs : List Span). bits_from plane xs s ++ rest)
    (rows_from-next plane height i h ∙ ap (λ (xs : List Span). xs ++ rows_from plane (height - (i + 1)) (i + 1)) (row_from-start plane i))

-- the bits of the rows after one that is read
later_bits : (plane : Plane) (width height i : ℕ) (s : Coding) (rest : List Bool) → plane.width ≡ width
    → bits_from plane (row_from plane i width ++ rows_from plane (height - (i + 1)) (i + 1)) s ++ rest ≡ bits_from plane (rows_from plane (height - (i + 1)) (i + 1)) s ++ rest
later_bits plane width height i s rest e =
    ap (λ (xs : List Span). bits_from plane (xs ++ rows_from plane (height - (i + 1)) (i + 1)) s ++ rest) (row_from-end plane i width (omega arith))

-- the samples before and after a row was read: the row is among them, and those above it are unchanged
pub record IsStored (width count component i : ℕ) (samples new : List ℕ) (line : List ℕ) : Type 0 where
  pub stored : (j : ℕ) → j < width → get_or new ((i * width + j) * count + component) 0 ≡ get_or line (j + 1) 0
  pub kept : (r j : ℕ) → r < i → j < width → get_or new ((r * width + j) * count + component) 0 ≡ get_or samples ((r * width + j) * count + component) 0

by_width : (width width' count component i j : ℕ) (samples : List ℕ) → width ≡ width'
    → get_or samples ((i * width + j) * count + component) 0 ≡ get_or samples ((i * width' + j) * count + component) 0
by_width width width' count component i j samples e = ap (λ w. get_or samples ((i * w + j) * count + component) 0) e

rows_after : (plane : Plane) (width count component i : ℕ) (samples new line : List ℕ) → plane.width ≡ width → IsStored width count component i samples new line
    → HoldsRows plane i count component samples → ((c : ℕ) → c < width → get_or line (c + 1) 0 ≡ at plane i c) → HoldsRows plane (i + 1) count component new
rows_after plane width count component i samples new line e is rows row r j h k =
    by_width plane.width width count component r j new e
    ∙ elim (cases_lt r i) [
      | inl earlier ↦ is.kept r j earlier (omega arith) ∙ sym (by_width plane.width width count component r j samples e) ∙ rows r j earlier k
      | inr later ↦
          let same : r ≡ i = omega arith in
          ap (λ n. get_or new ((n * width + j) * count + component) 0) same ∙ is.stored j (omega arith) ∙ row j (omega arith) ∙ ap (λ n. at plane n j) (sym same)
    ]

pub rows_before : (plane : Plane) (width count component i : ℕ) (samples new line : List ℕ) → plane.width ≡ width → IsStored width count component i samples new line
    → HoldsRows plane (i + 1) count component new → HoldsRows plane i count component samples
rows_before plane width count component i samples new line e is rows r j h k =
    by_width plane.width width count component r j samples e ∙ sym (is.kept r j h (omega arith)) ∙ sym (by_width plane.width width count component r j new e)
    ∙ rows r j (omega arith) k

pub row_in : (plane : Plane) (width count component i : ℕ) (samples new line : List ℕ) → plane.width ≡ width → IsStored width count component i samples new line
    → HoldsRows plane (i + 1) count component new → (c : ℕ) → c < width → get_or line (c + 1) 0 ≡ at plane i c
row_in plane width count component i samples new line e is rows c h =
    sym (is.stored c h) ∙ sym (by_width plane.width width count component i c new e) ∙ rows i c (omega arith) (omega arith)

-- one more row is read
pub row_read : (maxval width height count component i : ℕ) (above line read samples new : List ℕ) (s t : Coding) (bits left : List Bool) (plane : Plane) (rest : List Bool) → i < height → 1 ≤ width
    → IsSamplePlane maxval width height plane → (HoldsRows plane i count component samples → HoldsLine plane i above)
    → AreSamePlanes maxval width above (place 0 line s bits) (place width read t left) → get_or line 0 0 ≡ get_or above 1 0 → get_or read 0 0 ≡ get_or line 0 0
    → IsStored width count component i samples new read
    → RowsMayBeRead plane height i count component samples s bits rest ↔ RowsMayBeRead plane height (i + 1) count component new t left rest
row_read maxval width height count component i above line read samples new s t bits left plane rest inside some is held same first kept stored =
    let more = rows_from plane (height - (i + 1)) (i + 1) in
    let row = sample_row maxval width height i plane is inside in (
      λ m.
          let over = held m.rows in
          let after = (same plane i row more rest).0 (record {
            over = over;
            first = first_left plane i above line (omega (arith, is.width_is)) row.whole over first;
            before = λ c h. absurd (omega arith);
            bits_are = m.bits_are ∙ row_bits plane height i s rest inside;
          }) in
          record {
            rows = rows_after plane width count component i samples new read is.width_is stored m.rows after.before;
            bits_are = after.bits_are ∙ later_bits plane width height i t rest is.width_is;
          },
      λ m.
          let rows = rows_before plane width count component i samples new read is.width_is stored m.rows in
          let over = held rows in
          let before = (same plane i row more rest).1 (record {
            over = over;
            first = first_left plane i above read (omega (arith, is.width_is)) row.whole over (kept ∙ first);
            before = row_in plane width count component i samples new read is.width_is stored m.rows;
            bits_are = m.bits_are ∙ sym (later_bits plane width height i t rest is.width_is);
          }) in
          record { rows = rows; bits_are = before.bits_are ∙ sym (row_bits plane height i s rest inside) },
    )

pub no_row : (maxval width height count component i : ℕ) (above line samples : List ℕ) (s : Coding) (bits : List Bool) (plane : Plane) (rest : List Bool) → i < height → 1 ≤ width
    → IsSamplePlane maxval width height plane → (HoldsRows plane i count component samples → HoldsLine plane i above)
    → IsNoPlane maxval width above (place 0 line s bits) → get_or line 0 0 ≡ get_or above 1 0
    → RowsMayBeRead plane height i count component samples s bits rest → ⊥
no_row maxval width height count component i above line samples s bits plane rest inside some is held none first m =
    let row = sample_row maxval width height i plane is inside in
    let over = held m.rows in
    none plane i row (rows_from plane (height - (i + 1)) (i + 1)) rest (record {
      over = over;
      first = first_left plane i above line (omega (arith, is.width_is)) row.whole over first;
      before = λ c h. absurd (omega arith);
      bits_are = m.bits_are ∙ row_bits plane height i s rest inside;
    })

-- the line above the next row
pub line_held : (maxval width height count component i : ℕ) (above line read samples new : List ℕ) (plane : Plane) → i < height → 1 ≤ width
    → IsSamplePlane maxval width height plane → (HoldsRows plane i count component samples → HoldsLine plane i above)
    → get_or line 0 0 ≡ get_or above 1 0 → get_or read 0 0 ≡ get_or line 0 0 → length read ≡ width + 2
    → IsStored width count component i samples new read → HoldsRows plane (i + 1) count component new
    → HoldsLine plane (i + 1) (set read (width + 1) (get_or read width 0))
line_held maxval width height count component i above line read samples new plane inside some is held first kept whole stored rows =
    let row = sample_row maxval width height i plane is inside in
    let buffer = set read (width + 1) (get_or read width 0) in
    let other : (k : ℕ) → k ≢ width + 1 → get_or buffer k 0 ≡ get_or read k 0 = λ k h. get_or-set_other read (width + 1) k (get_or read width 0) 0 h in
    let next : suc i ≡ i + 1 = omega arith in
    let last : get_or buffer (width + 1) 0 ≡ get_or read width 0 = get_or-set_same read (width + 1) (get_or read width 0) 0 (omega arith) in
    subst (λ n. HoldsLine plane n buffer) next
    (filled plane i above buffer (omega (arith, is.width_is)) row.whole (held (rows_before plane width count component i samples new read is.width_is stored rows))
    (other 0 (λ e. absurd (omega arith)) ∙ kept ∙ first)
    (λ k h. other (k + 1) (λ e. absurd (omega (arith, is.width_is))) ∙ row_in plane width count component i samples new read is.width_is stored rows k (omega (arith, is.width_is)))
    (ap (λ w. get_or buffer (w + 1) 0) is.width_is ∙ last ∙ sym (other width (λ e. absurd (omega arith))) ∙ ap (λ w. get_or buffer w 0) (sym is.width_is)))

-- ---- the whole plane

same_plane : (p q : Plane) → p.width ≡ q.width → p.samples ≡ q.samples → p ≡ q
same_plane p q e f =
    ap (λ w. let plane : Plane = record { width = w; samples = p.samples } in plane) e ∙ ap (λ xs. let plane : Plane = record { width = q.width; samples = xs } in plane) f

pub component_length : (width height count component : ℕ) (samples : List ℕ) → 1 ≤ count → length samples ≡ height * width * count → length (component_of count component samples) ≡ height * width
unfolding component_of
component_length width height count component samples some e =
    let positive : 0 < count = omega arith in
    length-map-range_with_len (λ n. get_or samples (n * count + component) 0) 0 (length samples / count)
    ∙ ap (λ n. n / count) e ∙ mul-div_cancel (height * width) positive

pub component_at : (width height count component k : ℕ) (samples : List ℕ) → 1 ≤ count → length samples ≡ height * width * count → k < height * width
    → get_or (component_of count component samples) k 0 ≡ get_or samples (k * count + component) 0
unfolding component_of
component_at width height count component k samples some e h =
    let positive : 0 < count = omega arith in
    let places : length samples / count ≡ height * width = ap (λ n. n / count) e ∙ mul-div_cancel (height * width) positive in
    get_or-map-range_with_len (λ n. get_or samples (n * count + component) 0) 0 (length samples / count) k k 0 (omega arith) (omega arith)

-- a plane all of whose rows are among the samples is the component's
pub all_rows_are : (maxval width height count component : ℕ) (samples : List ℕ) (plane : Plane) → 1 ≤ width → 1 ≤ count → length samples ≡ height * width * count
    → IsSamplePlane maxval width height plane → HoldsRows plane height count component samples → plane ≡ component_plane width count component samples
all_rows_are maxval width height count component samples plane some_width some e is rows =
    same_plane plane (component_plane width count component samples) is.width_is
    (same_number_lists plane.samples (component_of count component samples) (is.count ∙ sym (component_length width height count component samples some e))
    (λ k h.
    let inside : k < height * width = omega (arith, is.count) in
    let split : k / width * width + k % width ≡ k = div-add-mod' k width in
    let row : k / width < height = (div-lt_iff_lt-mul (omega arith)).1 inside in
    let column : k % width < width = mod-lt k (omega arith) in
    let width_is = is.width_is in
    let same : k / width * plane.width + k % width ≡ k = ap (λ w. k / width * w + k % width) width_is ∙ split in
    ap (λ n. get_or plane.samples n 0) (sym same)
    ∙ sym (rows (k / width) (k % width) row (omega (arith, column)))
    ∙ ap (λ n. get_or samples (n * count + component) 0) same
    ∙ sym (component_at width height count component k samples some e inside)))

-- and the component's plane has its rows there
pub rows_of_component : (width height count component : ℕ) (samples : List ℕ) → 1 ≤ count → length samples ≡ height * width * count
    → HoldsRows (component_plane width count component samples) height count component samples
rows_of_component width height count component samples some e i j h k =
    sym (sample_at samples width height count component i j some (e ∙ ap (λ n. n * count) (omega arith)) h k)

pub is_sample_plane : (maxval width height count component : ℕ) (samples : List ℕ) → 1 ≤ count → length samples ≡ height * width * count → ((k : ℕ) → get_or samples k 0 ≤ maxval)
    → IsSamplePlane maxval width height (component_plane width count component samples)
is_sample_plane maxval width height count component samples some e small = record {
  width_is = refl;
  count = component_length width height count component samples some e;
  small = λ k. elim (cases_lt k (height * width)) [
    | inl inside ↦ subst (λ v. v ≤ maxval) (sym (component_at width height count component k samples some e inside)) (small (k * count + component))
    | inr far ↦ subst (λ v. v ≤ maxval) (sym (get_or_past (component_of count component samples) k 0 (omega (arith, component_length width height count component samples some e)))) (omega arith)
  ];
}

-- ---- its bits

pub all_spans : (maxval width height : ℕ) (plane : Plane) → 1 ≤ width → IsSamplePlane maxval width height plane → spans plane ≡ rows_from plane (height - 0) 0
unfolding spans
all_spans maxval width height plane some is =
    let positive : 0 < width = omega arith in
    let none : height ≡ height - 0 = omega arith in
    ap (λ n. rows_from plane (n / plane.width) 0) is.count ∙ ap (λ w. rows_from plane (height * width / w) 0) is.width_is
    ∙ ap (λ n. rows_from plane n 0) (mul-div_cancel height positive ∙ none)

-- at a scan's start, any plane may be read whose bits are at the front
pub starts : (maxval width height count component : ℕ) (plane : Plane) (samples : List ℕ) (s : Coding) (bits rest : List Bool) → 1 ≤ width → IsSamplePlane maxval width height plane
    → s ≡ state_of s.parameters [] → bits ≡ plane_bits s.parameters plane ++ rest → RowsMayBeRead plane height 0 count component samples s bits rest
starts maxval width height count component plane samples s bits rest some is e f = record {
  rows = λ i j h k. absurd (omega arith);
  bits_are = f ∙ ap (λ x. x ++ rest) (plane_from s.parameters plane ∙ ap (λ (xs : List Span). bits_from plane xs (state_of s.parameters [])) (all_spans maxval width height plane some is))
      ∙ ap (λ (t : Coding). bits_from plane (rows_from plane (height - 0) 0) t ++ rest) (sym e);
}

pub started : (maxval width height count component : ℕ) (plane : Plane) (samples : List ℕ) (s : Coding) (bits rest : List Bool) → 1 ≤ width → IsSamplePlane maxval width height plane
    → s ≡ state_of s.parameters [] → RowsMayBeRead plane height 0 count component samples s bits rest → bits ≡ plane_bits s.parameters plane ++ rest
started maxval width height count component plane samples s bits rest some is e m =
    m.bits_are ∙ ap (λ (t : Coding). bits_from plane (rows_from plane (height - 0) 0) t ++ rest) e
    ∙ ap (λ x. x ++ rest) (sym (plane_from s.parameters plane ∙ ap (λ (xs : List Span). bits_from plane xs (state_of s.parameters [])) (all_spans maxval width height plane some is)))

-- at its end, only the rest is left
none_left : (plane : Plane) (height : ℕ) (s : Coding) (rest : List Bool) → bits_from plane (rows_from plane (height - height) height) s ++ rest ≡ rest
unfolding bits_from
none_left plane height s rest =
    let none : height - height ≡ 0 = omega arith in
    ap (λ n. bits_from plane (rows_from plane n height) s ++ rest) none

pub ended : (plane : Plane) (height count component : ℕ) (samples : List ℕ) (s : Coding) (bits rest : List Bool)
    → RowsMayBeRead plane height height count component samples s bits rest → rest ≡ bits
ended plane height count component samples s bits rest m = sym (m.bits_are ∙ none_left plane height s rest)

pub ends : (plane : Plane) (height count component : ℕ) (samples : List ℕ) (s : Coding) (bits : List Bool)
    → HoldsRows plane height count component samples → RowsMayBeRead plane height height count component samples s bits bits
ends plane height count component samples s bits rows = record { rows = rows; bits_are = sym (none_left plane height s bits) }
