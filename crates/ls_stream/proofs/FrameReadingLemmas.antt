-- Reading a codestream's scans, one after the other, and the frame that results.
use Rattle.std.proofs.Common.{◌≡◌, ◌≢◌, ℕ, zero, suc, ◌+◌, ◌-◌, ◌*◌, ◌/◌, ◌%◌, ◌<◌, ◌≤◌, List, [], ◌∷◌, ◌++◌, Result, Ok, Err, length, length-append, length-drop, take, drop, take-append-drop, get_or, inl, inr, refl, sym, ◌∙◌, ap, subst, append_assoc, true≢false, eq-eqb, eqb, arith}
use Rattle.std.specs.Prelude.{is_ok, IfOk, IfErr, if◌then◌else◌, Bool, true, false, not, ◌||◌, None, option_map}
use Rattle.std.specs.List.{AllByRecursion}
use Rattle.std.proofs.Math.Seq.{take-append_seam}
use Rattle.std.proofs.Math.Nat.{mod-lt, div-lt_iff_lt-mul}
use Rattle.std.proofs.lemmas.Bool.{cases_lt, le-ltb, cond-false, ne_eqb}
use Rattle.std.proofs.lemmas.Grind.{same_number_lists}
use Rattle.std.proofs.lemmas.List.{get_or_append_left, get_or_at, get_or-take, get_or-drop, length-take, length-map}
use Rattle.std.proofs.lemmas.List.FromFn.{get_or-map-range_with_len, length-map-range_with_len}
use Rattle.std.proofs.lemmas.Nat.{div-add-mod'}
use Rattle.ls_frame.specs.declared.frame.Kind.{Kind}
use Rattle.ls_frame.specs.declared.frame.FrameFault.TheVariants.{SampleTooLarge}
use Rattle.ls_frame.specs.Parameters.{Parameters, IsLegal}
use Rattle.ls_frame.specs.Picture.{Picture, IsFrame, components, sample_count, most_samples, frame_fault}
use Rattle.ls_bits.specs.Bits.{AreBytes}
use Rattle.ls_bits.specs.Data.{stop_at}
use Rattle.ls_stream.specs.Segments.{Component}
use Rattle.ls_stream.proofs.OutlineLemmas.{opening_read, outlines_spell}
use Rattle.ls_stream.proofs.MostLemmas.{of_all-ok, spellings_have_bounded_outlines}
use Rattle.ls_stream.specs.declared.faults.StreamFault.{StreamFault}
use Rattle.ls_stream.specs.declared.faults.StreamFault.TheVariants.{NoMemory}
use Rattle.ls_stream.specs.declared.segments.read.FrameHeader.{FrameHeader}
use Rattle.ls_stream.specs.Planes.{Plane, IsSamplePlane}
use Rattle.ls_stream.specs.Components.{component_of, component_plane, plane_of, arranged}
use Rattle.ls_stream.specs.declared.arranged.Arrangement.{Arrangement}
use Rattle.ls_stream.specs.Grammar.{IsCoded, Spells, most_bytes}
use Rattle.ls_stream.specs.View.FirstFaults.{BreaksData, IsPlaneData}
use Rattle.ls_stream.specs.View.Reading.{◌>>=◌, Take, Gives, opening_at, next_scan_at, end_at}
use Rattle.ls_stream.specs.View.Outlines.{scans_at, outline_at, ids_in, data_at, after_data, ScansStop, Outline, AreDataOf, IsOutlineOf, of_all, outline_of}
use Rattle.ls_stream.specs.View.Decoding.{scan_in, AreScansOf, NoScans, picture}
use Rattle.ls_stream.proofs.ArrangedLemmas.{arranged_length, arranged_small}
use Rattle.ls_stream.proofs.FrameLemmas.{samples_small, none_found, some_components, plane_length, plane_small}
use Rattle.ls_stream.proofs.ScanReadingLemmas.{component_at, is_sample_plane}
use Rattle.ls_stream.proofs.StepLemmas.{step_ok, step_is, same_ok}

abbrev Scans : Type 0
Scans = List (List ℕ)

abbrev pub gave : List (List ℕ) → List ℕ → Take (List (List ℕ))
gave scans left = Ok (scans, left)

abbrev read_ok : List ℕ → Result (List ℕ) StreamFault
read_ok x = Ok x

abbrev read_err : StreamFault → Result (List ℕ) StreamFault
read_err fault = Err fault

-- ---- one scan

more_at : (id : ℕ) (later bytes rest : List ℕ) (scans : Scans) (left : List ℕ) → next_scan_at id (after_data bytes) ≡ Ok rest → scans_at later rest ≡ gave scans left
    → scans_at (id ∷ later) bytes ≡ gave (data_at bytes ∷ scans) left
unfolding scans_at
more_at id later bytes rest scans left e f =
    step_is (next_scan_at id (after_data bytes)) (λ r. scans_at later r >>= λ found. Ok (data_at bytes ∷ found.0, found.1)) rest e
    ∙ step_is (scans_at later rest) (λ found. Ok (data_at bytes ∷ found.0, found.1)) (scans, left) f

-- what was read after a scan
record IsMore (id : ℕ) (later bytes : List ℕ) (scans : Scans) (left : List ℕ) : Type 0 where
  rest : List ℕ
  next : next_scan_at id (after_data bytes) ≡ Ok rest
  others : Scans
  scans_are : scans ≡ data_at bytes ∷ others
  later_are : scans_at later rest ≡ gave others left

same_pair : (a b : Scans) (x y : List ℕ) → gave a x ≡ gave b y → (a ≡ b) × (x ≡ y)
same_pair a b x y e =
    let same : ◌≡◌ {A = Scans × List ℕ} (a, x) (b, y) = same_ok (a, x) (b, y) e in
    (ap (λ (p : Scans × List ℕ). p.0) same, ap (λ (p : Scans × List ℕ). p.1) same)

more_of : (id : ℕ) (later bytes : List ℕ) (scans : Scans) (left : List ℕ) → scans_at (id ∷ later) bytes ≡ gave scans left → IsMore id later bytes scans left
unfolding scans_at
more_of id later bytes scans left e =
    let a = step_ok (next_scan_at id (after_data bytes)) (λ r. scans_at later r >>= λ found. Ok (data_at bytes ∷ found.0, found.1)) (scans, left) e in
    let b = step_ok (scans_at later a.0) (λ found. Ok (data_at bytes ∷ found.0, found.1)) (scans, left) a.2 in
    let same = same_pair (data_at bytes ∷ b.0.0) scans b.0.1 left b.2 in
    record {
      rest = a.0;
      next = a.1;
      others = b.0.0;
      scans_are = sym same.0;
      later_are = b.1 ∙ ap (λ x. gave b.0.0 x) same.1;
    }

last_at : (bytes left : List ℕ) → end_at (after_data bytes) ≡ Ok left → scans_at [] bytes ≡ gave (data_at bytes ∷ []) left
unfolding scans_at
last_at bytes left e = step_is (end_at (after_data bytes)) (λ r. Ok (data_at bytes ∷ [], r)) left e

record IsLast (bytes : List ℕ) (scans : Scans) (left : List ℕ) : Type 0 where
  end_is : end_at (after_data bytes) ≡ Ok left
  scans_are : scans ≡ data_at bytes ∷ []

last_of : (bytes : List ℕ) (scans : Scans) (left : List ℕ) → scans_at [] bytes ≡ gave scans left → IsLast bytes scans left
unfolding scans_at
last_of bytes scans left e =
    let a = step_ok (end_at (after_data bytes)) (λ r. Ok (data_at bytes ∷ [], r)) (scans, left) e in
    let same = same_pair (data_at bytes ∷ []) scans a.0 left a.2 in
    record { end_is = a.1 ∙ ap (λ x. Ok x) same.1; scans_are = sym same.0 }

-- the data of the next scan comes first
next_data : (ids bytes : List ℕ) (scans : Scans) (left : List ℕ) → scans_at ids bytes ≡ gave scans left → (others : Scans) × (scans ≡ data_at bytes ∷ others)
next_data [] bytes scans left e = ([], (last_of bytes scans left e).scans_are)
next_data (id ∷ later) bytes scans left e = let more = more_of id later bytes scans left e in (more.others, more.scans_are)

-- ---- some scans of all

-- the scans of the first components were read, and their data are those of no other samples
pub record IsReadTo (p : Parameters) (width height count : ℕ) (later first rest : List ℕ) (component : ℕ) (samples : List ℕ) : Type 0 where
  pub found : List (List ℕ)
  pub all : length found ≡ component
  pub on : (scans : List (List ℕ)) (left : List ℕ) → scans_at (drop component later) rest ≡ gave scans left → scans_at later first ≡ gave (found ++ scans) left
  pub stops : (fault : StreamFault) → ScansStop p width height component (drop component later) rest fault → ScansStop p width height 0 later first fault
  pub back : (scans : List (List ℕ)) (left : List ℕ) → scans_at later first ≡ gave scans left
      → (others : List (List ℕ)) × (scans ≡ found ++ others) × (scans_at (drop component later) rest ≡ gave others left)
  pub coded : (i : ℕ) → i < component → IsCoded p (component_plane width count i samples) (scan_in found i)
  pub only : (i : ℕ) (plane : Plane) → i < component → IsSamplePlane p.maxval width height plane → IsCoded p plane (scan_in found i)
      → plane ≡ component_plane width count i samples

pub none_read : (p : Parameters) (width height count : ℕ) (later first : List ℕ) (samples : List ℕ) → IsReadTo p width height count later first first 0 samples
none_read p width height count later first samples = record {
  found = [];
  all = refl;
  on = λ scans left e. e;
  stops = λ fault stops. stops;
  back = λ scans left e. (scans, refl, e);
  coded = λ i h. absurd (omega arith);
  only = λ i plane h. absurd (omega arith);
}

-- the other components are unchanged
pub same_component : (height width count other : ℕ) (samples new : List ℕ) → 1 ≤ count → length new ≡ length samples → length samples ≡ height * width * count
    → ((k : ℕ) → get_or new (k * count + other) 0 ≡ get_or samples (k * count + other) 0) → component_of count other new ≡ component_of count other samples
unfolding component_of
same_component height width count other samples new some len whole same =
    let places : length new / count ≡ length samples / count = ap (λ n. n / count) len in
    same_number_lists (component_of count other new) (component_of count other samples)
    (length-map-range_with_len (λ n. get_or new (n * count + other) 0) 0 (length new / count) ∙ places ∙ sym (length-map-range_with_len (λ n. get_or samples (n * count + other) 0) 0 (length samples / count)))
    (λ k h.
    let inside : k < length new / count = omega (arith, length-map-range_with_len (λ n. get_or new (n * count + other) 0) 0 (length new / count)) in
    get_or-map-range_with_len (λ n. get_or new (n * count + other) 0) 0 (length new / count) k k 0 inside (omega arith)
    ∙ same k
    ∙ sym (get_or-map-range_with_len (λ n. get_or samples (n * count + other) 0) 0 (length samples / count) k k 0 (omega (arith, places)) (omega arith)))

-- what one more scan leaves of those before it, and what it is itself
pub record IsScanRead (p : Parameters) (width height count component : ℕ) (bytes samples new : List ℕ) : Type 0 where
  pub coded : IsCoded p (component_plane width count component new) (data_at bytes)
  pub only : (plane : Plane) → IsSamplePlane p.maxval width height plane → IsCoded p plane (data_at bytes) → plane ≡ component_plane width count component new
  pub others : (k other : ℕ) → other < count → other ≢ component → get_or new (k * count + other) 0 ≡ get_or samples (k * count + other) 0
  pub len : length new ≡ length samples
  pub whole : length samples ≡ height * width * count
  pub some : 1 ≤ count
  pub component_is : component < count
  pub small : (k : ℕ) → get_or new k 0 ≤ p.maxval

kept_plane : (p : Parameters) (width height count component i : ℕ) (bytes samples new : List ℕ) → IsScanRead p width height count component bytes samples new → i < component
    → component_plane width count i new ≡ component_plane width count i samples
kept_plane p width height count component i bytes samples new read h =
    ap (λ xs. let plane : Plane = record { width = width; samples = xs } in plane)
    (same_component height width count i samples new read.some read.len read.whole (λ k. read.others k i (omega (arith, read.component_is)) (λ e. absurd (omega arith))))

found_before : (found : Scans) (bytes : List ℕ) (i : ℕ) → i < length found → scan_in (found ++ data_at bytes ∷ []) i ≡ scan_in found i
found_before found bytes i h = get_or_append_left found (data_at bytes ∷ []) [] i h

found_here : (found : Scans) (bytes : List ℕ) (component : ℕ) → length found ≡ component → scan_in (found ++ data_at bytes ∷ []) component ≡ data_at bytes
found_here found bytes component e = get_or_at found (data_at bytes) [] [] component e

all_coded : (p : Parameters) (width height count component : ℕ) (later first bytes samples new : List ℕ) (sofar : IsReadTo p width height count later first bytes component samples)
    → IsScanRead p width height count component bytes samples new
    → (i : ℕ) → i < component + 1 → IsCoded p (component_plane width count i new) (scan_in (sofar.found ++ data_at bytes ∷ []) i)
all_coded p width height count component later first bytes samples new sofar read i h =
    elim (cases_lt i component) [
      | inl earlier ↦
          subst (λ x. IsCoded p (component_plane width count i new) x) (sym (found_before sofar.found bytes i (omega (arith, sofar.all))))
          (subst (λ (plane : Plane). IsCoded p plane (scan_in sofar.found i)) (sym (kept_plane p width height count component i bytes samples new read earlier)) (sofar.coded i earlier))
      | inr last ↦
          let same : component ≡ i = omega arith in
          subst (λ n. IsCoded p (component_plane width count n new) (scan_in (sofar.found ++ data_at bytes ∷ []) n)) same
          (subst (λ x. IsCoded p (component_plane width count component new) x) (sym (found_here sofar.found bytes component sofar.all)) read.coded)
    ]

all_only : (p : Parameters) (width height count component : ℕ) (later first bytes samples new : List ℕ) (sofar : IsReadTo p width height count later first bytes component samples)
    → IsScanRead p width height count component bytes samples new
    → (i : ℕ) (plane : Plane) → i < component + 1 → IsSamplePlane p.maxval width height plane → IsCoded p plane (scan_in (sofar.found ++ data_at bytes ∷ []) i)
    → plane ≡ component_plane width count i new
all_only p width height count component later first bytes samples new sofar read i plane h is coded =
    elim (cases_lt i component) [
      | inl earlier ↦
          sofar.only i plane earlier is (subst (λ x. IsCoded p plane x) (found_before sofar.found bytes i (omega (arith, sofar.all))) coded)
          ∙ sym (kept_plane p width height count component i bytes samples new read earlier)
      | inr last ↦
          let same : component ≡ i = omega arith in
          read.only plane is (subst (λ x. IsCoded p plane x) (ap (scan_in (sofar.found ++ data_at bytes ∷ [])) (sym same) ∙ found_here sofar.found bytes component sofar.all) coded)
          ∙ ap (λ n. component_plane width count n new) same
    ]

-- the identifier of the next component
pub next_id : (later : List ℕ) (component : ℕ) → component < length later → drop component later ≡ get_or later component 0 ∷ drop (component + 1) later
next_id [] component h = absurd (omega arith)
next_id (id ∷ later) zero h = refl
next_id (id ∷ later) (suc component) h =
    let same : suc component + 1 ≡ suc (component + 1) = omega arith in
    next_id later component (omega arith) ∙ ap (λ n. get_or later component 0 ∷ drop n (id ∷ later)) (sym same)

next_known : (id : ℕ) (later bytes rest : List ℕ) (scans : Scans) (left : List ℕ) → next_scan_at id (after_data bytes) ≡ Ok rest → (more : IsMore id later bytes scans left) → more.rest ≡ rest
next_known id later bytes rest scans left e more = same_ok more.rest rest (sym more.next ∙ e)

-- the data is a plane's
scan_plane : (p : Parameters) (width height count component : ℕ) (bytes samples new : List ℕ) → IsScanRead p width height count component bytes samples new → IsPlaneData p width height (data_at bytes)
scan_plane p width height count component bytes samples new read = record {
  plane = component_plane width count component new;
  is_plane = is_sample_plane p.maxval width height count component new read.some (read.len ∙ read.whole) read.small;
  coded = read.coded;
}

pub one_more_scan : (p : Parameters) (width height count component id : ℕ) (later first bytes rest samples new : List ℕ) → IsReadTo p width height count later first bytes component samples
    → IsScanRead p width height count component bytes samples new → component < length later → id ≡ get_or later component 0 → next_scan_at id (after_data bytes) ≡ Ok rest
    → IsReadTo p width height count later first rest (component + 1) new
one_more_scan p width height count component id later first bytes rest samples new sofar read inside is next =
    let ids : drop component later ≡ id ∷ drop (component + 1) later = next_id later component inside ∙ ap (λ n. n ∷ drop (component + 1) later) (sym is) in
    record {
      found = sofar.found ++ data_at bytes ∷ [];
      all = length-append sofar.found (data_at bytes ∷ []) ∙ ap (λ n. n + 1) sofar.all;
      on = λ scans left e.
          sofar.on (data_at bytes ∷ scans) left (ap (λ xs. scans_at xs bytes) ids ∙ more_at id (drop (component + 1) later) bytes rest scans left next e)
          ∙ ap (λ xs. gave xs left) (sym (append_assoc sofar.found (data_at bytes ∷ []) scans));
      stops = λ fault stops.
          sofar.stops fault (subst (λ ids. ScansStop p width height component ids bytes fault) (sym ids) (inr (scan_plane p width height count component bytes samples new read, inr (rest, next, stops))));
      back = λ scans left e.
          let before = sofar.back scans left e in
          let more = more_of id (drop (component + 1) later) bytes before.0 left (sym (ap (λ xs. scans_at xs bytes) ids) ∙ before.2) in (
            more.others,
            before.1 ∙ ap (λ xs. sofar.found ++ xs) more.scans_are ∙ sym (append_assoc sofar.found (data_at bytes ∷ []) more.others),
            ap (λ r. scans_at (drop (component + 1) later) r) (sym (next_known id (drop (component + 1) later) bytes rest before.0 left next more)) ∙ more.later_are,
          );
      coded = all_coded p width height count component later first bytes samples new sofar read;
      only = all_only p width height count component later first bytes samples new sofar read;
    }

-- all scans, and EOI
pub all_scans : (p : Parameters) (width height count component : ℕ) (later first bytes left samples new : List ℕ) → IsReadTo p width height count later first bytes component samples
    → IsScanRead p width height count component bytes samples new → drop component later ≡ [] → component + 1 ≡ count → end_at (after_data bytes) ≡ Ok left
    → (scans : List (List ℕ)) × (scans_at later first ≡ Ok (scans, left)) × AreScansOf p width height count new scans
all_scans p width height count component later first bytes left samples new sofar read none whole end_is = (
  sofar.found ++ data_at bytes ∷ [],
  sofar.on (data_at bytes ∷ []) left (ap (λ xs. scans_at xs bytes) none ∙ last_at bytes left end_is),
  record {
    all = length-append sofar.found (data_at bytes ∷ []) ∙ ap (λ n. n + 1) sofar.all ∙ whole;
    coded = λ i h. all_coded p width height count component later first bytes samples new sofar read i (omega arith);
    only = λ i plane h. all_only p width height count component later first bytes samples new sofar read i plane (omega arith);
  },
)

-- ---- faults

opened_or_err : (x : FrameHeader × Parameters × List ℕ) (fault : StreamFault) → ◌≡◌ {A = Result (FrameHeader × Parameters × List ℕ) StreamFault} (Ok x) (Err fault) → ⊥
opened_or_err x fault e = true≢false (ap is_ok e)

ok_or_err : (x : List ℕ) (fault : StreamFault) → read_ok x ≡ read_err fault → ⊥
ok_or_err x fault e = true≢false (ap is_ok e)

pub no_data : (p : Parameters) (width height count component : ℕ) (later first bytes samples : List ℕ) → IsReadTo p width height count later first bytes component samples → component < count
    → ((plane : Plane) → IsSamplePlane p.maxval width height plane → IsCoded p plane (data_at bytes) → ⊥)
    → (scans : List (List ℕ)) (left : List ℕ) → scans_at later first ≡ Ok (scans, left) → NoScans p width height count scans
no_data p width height count component later first bytes samples sofar inside none scans left e planes are coded =
    let before = sofar.back scans left e in
    let next = next_data (drop component later) bytes before.0 left before.2 in
    let here : scan_in scans component ≡ data_at bytes =
    ap (λ xs. scan_in xs component) (before.1 ∙ ap (λ xs. sofar.found ++ xs) next.1) ∙ get_or_at sofar.found (data_at bytes) next.0 [] component sofar.all in
    none (planes component) (are component inside) (subst (λ x. IsCoded p (planes component) x) here (coded component inside))

pub no_next_scan : (p : Parameters) (width height count component id : ℕ) (later first bytes samples : List ℕ) (fault : StreamFault) → IsReadTo p width height count later first bytes component samples
    → component < length later → id ≡ get_or later component 0 → next_scan_at id (after_data bytes) ≡ Err fault
    → (scans : List (List ℕ)) (left : List ℕ) → scans_at later first ≡ Ok (scans, left) → NoScans p width height count scans
no_next_scan p width height count component id later first bytes samples fault sofar inside is next scans left e planes are coded =
    let ids : drop component later ≡ id ∷ drop (component + 1) later = next_id later component inside ∙ ap (λ n. n ∷ drop (component + 1) later) (sym is) in
    let before = sofar.back scans left e in
    let more = more_of id (drop (component + 1) later) bytes before.0 left (sym (ap (λ xs. scans_at xs bytes) ids) ∙ before.2) in
    ok_or_err more.rest fault (sym more.next ∙ next)

pub no_end : (p : Parameters) (width height count component : ℕ) (later first bytes samples : List ℕ) (fault : StreamFault) → IsReadTo p width height count later first bytes component samples
    → drop component later ≡ [] → end_at (after_data bytes) ≡ Err fault
    → (scans : List (List ℕ)) (left : List ℕ) → scans_at later first ≡ Ok (scans, left) → NoScans p width height count scans
no_end p width height count component later first bytes samples fault sofar none end_is scans left e planes are coded =
    let before = sofar.back scans left e in
    let last = last_of bytes before.0 left (sym (ap (λ xs. scans_at xs bytes) none) ∙ before.2) in
    ok_or_err left fault (sym last.end_is ∙ end_is)

-- where the scans stop
pub data_stops : (p : Parameters) (width height component : ℕ) (later bytes : List ℕ) (fault : StreamFault)
    → BreaksData p width height component (data_at bytes) (stop_at (after_data bytes)) fault → ScansStop p width height component later bytes fault
data_stops p width height component [] bytes fault breaks = inl breaks
data_stops p width height component (id ∷ later) bytes fault breaks = inl breaks

pub stopped_at_data : (p : Parameters) (width height count component : ℕ) (later first bytes samples : List ℕ) (fault : StreamFault) → IsReadTo p width height count later first bytes component samples
    → BreaksData p width height component (data_at bytes) (stop_at (after_data bytes)) fault → ScansStop p width height 0 later first fault
stopped_at_data p width height count component later first bytes samples fault sofar breaks =
    sofar.stops fault (data_stops p width height component (drop component later) bytes fault breaks)

pub stopped_after_data : (p : Parameters) (width height count component id : ℕ) (later first bytes samples new : List ℕ) (fault : StreamFault) → IsReadTo p width height count later first bytes component samples
    → IsScanRead p width height count component bytes samples new → component < length later → id ≡ get_or later component 0 → next_scan_at id (after_data bytes) ≡ Err fault
    → ScansStop p width height 0 later first fault
stopped_after_data p width height count component id later first bytes samples new fault sofar read inside is next =
    let ids : drop component later ≡ id ∷ drop (component + 1) later = next_id later component inside ∙ ap (λ n. n ∷ drop (component + 1) later) (sym is) in
    sofar.stops fault (subst (λ ids. ScansStop p width height component ids bytes fault) (sym ids) (inr (scan_plane p width height count component bytes samples new read, inl next)))

pub stopped_at_end : (p : Parameters) (width height count component : ℕ) (later first bytes samples new : List ℕ) (fault : StreamFault) → IsReadTo p width height count later first bytes component samples
    → IsScanRead p width height count component bytes samples new → drop component later ≡ [] → end_at (after_data bytes) ≡ Err fault
    → ScansStop p width height 0 later first fault
stopped_at_end p width height count component later first bytes samples new fault sofar read none end_is =
    sofar.stops fault (subst (λ ids. ScansStop p width height component ids bytes fault) (sym none) (inr (scan_plane p width height count component bytes samples new read, end_is)))

-- ---- the frame

data_of_component : (p : Parameters) (f : Picture) (from i : ℕ) (scans : Scans) → AreDataOf p f from scans → i < length scans → IsCoded p (plane_of f (from + i)) (scan_in scans i)
data_of_component p f from i [] are h = absurd (omega arith)
data_of_component p f from zero (stuffed ∷ scans) are h = let same : from ≡ from + 0 = omega arith in subst (λ n. IsCoded p (plane_of f n) stuffed) same are.0
data_of_component p f from (suc i) (stuffed ∷ scans) are h =
    let same : suc from + i ≡ from + suc i = omega arith in
    subst (λ n. IsCoded p (plane_of f n) (scan_in scans i)) same (data_of_component p f (suc from) i scans are.1 (omega arith))

data_of_all : (p : Parameters) (f : Picture) (from : ℕ) (scans : Scans) → ((i : ℕ) → i < length scans → IsCoded p (plane_of f (from + i)) (scan_in scans i)) → AreDataOf p f from scans
data_of_all p f from [] coded = tt
data_of_all p f from (stuffed ∷ scans) coded =
    let here : from + 0 ≡ from = omega arith in (
      subst (λ n. IsCoded p (plane_of f n) stuffed) here (coded 0 (omega arith)),
      data_of_all p f (suc from) scans (λ i h.
          let same : from + suc i ≡ suc from + i = omega arith in
          subst (λ n. IsCoded p (plane_of f n) (scan_in scans i)) same (coded (suc i) (omega arith))),
    )

turned : (a b : ℕ) → a * b ≡ b * a
turned a b = omega arith

-- each plane of a frame
pub plane_is : (f : Picture) (maxval width height i : ℕ) → IsFrame f → maxval ≡ f.maxval → width ≡ f.width → height ≡ f.height → IsSamplePlane maxval width height (plane_of f i)
plane_is f maxval width height i frame e g h = record {
  width_is = sym g;
  count = plane_length f frame.formed i ∙ turned f.width f.height ∙ ap (λ n. n * f.width) (sym h) ∙ ap (λ n. height * n) (sym g);
  small = λ k. omega (arith, plane_small f frame i k, e);
}

-- ---- in the form of the contracts

pub gives_ok : {X Y : Type 0} (view : X → Y) (r : Result X StreamFault) (read : Result Y StreamFault) (P : X → Type 0) → Gives view r read
    → ((x : X) → read ≡ Ok (view x) → P x) → IfOk r P
gives_ok view (Ok x) read P e f = f x e
gives_ok view (Err fault) read P e f = tt

pub gives_err : {X Y : Type 0} (view : X → Y) (r : Result X StreamFault) (read : Result Y StreamFault) (Q : Type 0) → Gives view r read
    → ((fault : StreamFault) → read ≡ Err fault → Q) → IfErr r (λ fault. Q)
gives_err view (Ok x) read Q e f = tt
gives_err view (Err fault) read Q e f = f fault e

-- the same, with the fault
pub gives_fault : {X Y : Type 0} (view : X → Y) (r : Result X StreamFault) (read : Result Y StreamFault) (P : StreamFault → Type 0) → Gives view r read
    → ((fault : StreamFault) → read ≡ Err fault → P fault) → IfErr r P
gives_fault view (Ok x) read P e f = tt
gives_fault view (Err fault) read P e f = f fault e

pub ids_after : (header : FrameHeader) → length (ids_in header) ≡ components header.kind → length (drop 1 (ids_in header)) ≡ components header.kind - 1
ids_after header e = length-drop 1 (ids_in header) ∙ ap (λ n. n - 1) e

pub id_after : (header : FrameHeader) (component : ℕ) → component + 1 < components header.kind → get_or header.ids (component + 1) 0 ≡ get_or (drop 1 (ids_in header)) component 0
id_after header component h =
    let turned : component + 1 ≡ 1 + component = omega arith in
    ap (λ n. get_or header.ids n 0) turned
    ∙ sym (get_or-take (components header.kind) header.ids (1 + component) 0 (omega arith))
    ∙ sym (get_or-drop 1 (ids_in header) component 0)

-- for a shape with the numbers of a header, and samples that are arranged so
pub scan_read : (a : Arrangement) (p : Parameters) (w h n width height count component : ℕ) (bytes samples new : List ℕ) → w ≡ width → h ≡ height → n ≡ count → component < n
    → length samples ≡ height * width * count → IsCoded p (component_plane w n component (arranged a n new)) (data_at bytes)
    → ((plane : Plane) → IsSamplePlane p.maxval w h plane → IsCoded p plane (data_at bytes) → plane ≡ component_plane w n component (arranged a n new))
    → ((k other : ℕ) → other < n → other ≢ component → get_or (arranged a n new) (k * n + other) 0 ≡ get_or (arranged a n samples) (k * n + other) 0) → length new ≡ length samples
    → ((k : ℕ) → get_or new k 0 ≤ p.maxval) → IsScanRead p width height count component bytes (arranged a count samples) (arranged a count new)
scan_read a p w h n width height count component bytes samples new ew eh en inside whole coded only others len small =
    subst (λ x. IsScanRead p x height count component bytes (arranged a count samples) (arranged a count new)) ew
    (subst (λ x. IsScanRead p w x count component bytes (arranged a count samples) (arranged a count new)) eh
    (subst (λ x. IsScanRead p w h x component bytes (arranged a x samples) (arranged a x new)) en
    (record {
      coded = coded;
      only = only;
      others = others;
      len = arranged_length a n new ∙ len ∙ sym (arranged_length a n samples);
      whole = arranged_length a n samples ∙ whole ∙ ap (λ x. height * width * x) (sym en) ∙ ap (λ x. height * x * n) (sym ew) ∙ ap (λ x. x * w * n) (sym eh);
      some = omega arith;
      component_is = inside;
      small = arranged_small a n p.maxval new small;
    })))

pub data_breaks : (p : Parameters) (w h n width height component : ℕ) (bytes : List ℕ) (fault : StreamFault) → w ≡ width → h ≡ height → n ≡ component
    → BreaksData p w h n (data_at bytes) (stop_at (after_data bytes)) fault → BreaksData p width height component (data_at bytes) (stop_at (after_data bytes)) fault
data_breaks p w h n width height component bytes fault ew eh en breaks =
    subst (λ x. BreaksData p width height x (data_at bytes) (stop_at (after_data bytes)) fault) en
    (subst (λ x. BreaksData p x height n (data_at bytes) (stop_at (after_data bytes)) fault) ew
    (subst (λ x. BreaksData p w x n (data_at bytes) (stop_at (after_data bytes)) fault) eh breaks))

pub no_scan_read : (p : Parameters) (w h width height : ℕ) (bytes : List ℕ) → w ≡ width → h ≡ height
    → ((plane : Plane) → IsSamplePlane p.maxval w h plane → IsCoded p plane (data_at bytes) → ⊥)
    → (plane : Plane) → IsSamplePlane p.maxval width height plane → IsCoded p plane (data_at bytes) → ⊥
no_scan_read p w h width height bytes ew eh none plane is coded =
    none plane (subst (λ x. IsSamplePlane p.maxval x h plane) (sym ew) (subst (λ x. IsSamplePlane p.maxval width x plane) (sym eh) is)) coded

-- ---- the frame that is put together

-- what is known once all scans were read
pub record IsPutTogether (bytes : List ℕ) (f : Picture) (header : FrameHeader) (p : Parameters) (opened left : List ℕ) : Type 0 where
  pub opening : opening_at bytes ≡ Ok (header, p, opened)
  pub kind : f.kind ≡ header.kind
  pub width : f.width ≡ header.width
  pub height : f.height ≡ header.height
  pub maxval : f.maxval ≡ p.maxval
  pub scans : List (List ℕ)
  pub scans_are : scans_at (drop 1 (ids_in header)) opened ≡ Ok (scans, left)
  pub are : AreScansOf p header.width header.height (components header.kind) f.samples scans

abbrev outline : FrameHeader → Parameters → List (List ℕ) → Outline
outline header p scans = record { header = header; parameters = p; scans = scans }

pub outlined : (bytes : List ℕ) (header : FrameHeader) (p : Parameters) (opened left : List ℕ) (scans : List (List ℕ)) → opening_at bytes ≡ Ok (header, p, opened)
    → scans_at (drop 1 (ids_in header)) opened ≡ Ok (scans, left) → outline_at bytes ≡ Ok (outline header p scans, left)
unfolding outline_at
outlined bytes header p opened left scans e f =
    step_is (opening_at bytes) (λ opening. scans_at (drop 1 (ids_in opening.0)) opening.2 >>= λ found. Ok (outline opening.0 opening.1 found.0, found.1)) (header, p, opened) e
    ∙ step_is (scans_at (drop 1 (ids_in header)) opened) (λ found. Ok (outline header p found.0, found.1)) (scans, left) f

pub frame_outlined : (bytes : List ℕ) (f : Picture) (header : FrameHeader) (p : Parameters) (opened left : List ℕ) → (put : IsPutTogether bytes f header p opened left)
    → outline_at bytes ≡ Ok (outline header p put.scans, left)
frame_outlined bytes f header p opened left put = outlined bytes header p opened left put.scans put.opening put.scans_are

plane_by_header : (f : Picture) (header : FrameHeader) (i : ℕ) → f.kind ≡ header.kind → f.width ≡ header.width → component_plane header.width (components header.kind) i f.samples ≡ plane_of f i
plane_by_header f header i e g =
    ap (λ w. component_plane w (components header.kind) i f.samples) (sym g) ∙ ap (λ k. component_plane f.width (components k) i f.samples) (sym e)

pub frame_has_outline : (bytes : List ℕ) (f : Picture) (header : FrameHeader) (p : Parameters) (opened left : List ℕ) → (put : IsPutTogether bytes f header p opened left)
    → IsOutlineOf f (outline header p put.scans)
frame_has_outline bytes f header p opened left put = record {
  kind = sym put.kind;
  height = sym put.height;
  width = sym put.width;
  maxval = sym put.maxval;
  count = put.are.all ∙ ap components (sym put.kind);
  coded = data_of_all p f 0 put.scans (λ i h.
      let zero_more : i ≡ 0 + i = omega arith in
      subst (λ n. IsCoded p (plane_of f n) (scan_in put.scans i)) zero_more
      (subst (λ (plane : Plane). IsCoded p plane (scan_in put.scans i)) (plane_by_header f header i put.kind put.width) (put.are.coded i (omega (arith, put.are.all)))));
}

-- ---- any outline of the bytes

pub record IsThatOutline (header : FrameHeader) (p : Parameters) (opened left : List ℕ) (o : Outline) : Type 0 where
  pub header_is : o.header ≡ header
  pub parameters_are : o.parameters ≡ p
  pub scans_are : scans_at (drop 1 (ids_in header)) opened ≡ Ok (o.scans, left)

abbrev Opened : Type 0
Opened = FrameHeader × Parameters × List ℕ

-- the outline of an opening and its scans
abbrev made_of : Opened → Scans × List ℕ → Take Outline
made_of x found = Ok (outline x.0 x.1 found.0, found.1)

abbrev opened_outline : Opened → Take Outline
opened_outline x = scans_at (drop 1 (ids_in x.0)) x.2 >>= made_of x

pub that_outline : (bytes : List ℕ) (header : FrameHeader) (p : Parameters) (opened left : List ℕ) (o : Outline) → opening_at bytes ≡ Ok (header, p, opened)
    → outline_at bytes ≡ Ok (o, left) → IsThatOutline header p opened left o
unfolding outline_at
that_outline bytes header p opened left o e f =
    let a = step_ok (opening_at bytes) opened_outline (o, left) f in
    let same : ◌≡◌ {A = Opened} a.0 (header, p, opened) = same_ok a.0 (header, p, opened) (sym a.1 ∙ e) in
    let rest : opened_outline (header, p, opened) ≡ Ok (o, left) = subst (λ (x : Opened). opened_outline x ≡ Ok (o, left)) same a.2 in
    let b = step_ok (scans_at (drop 1 (ids_in header)) opened) (made_of (header, p, opened)) (o, left) rest in
    let made : ◌≡◌ {A = Outline × List ℕ} (outline header p b.0.0, b.0.1) (o, left) = same_ok (outline header p b.0.0, b.0.1) (o, left) b.2 in
    record {
      header_is = sym (ap (λ (x : Outline × List ℕ). x.0.header) made);
      parameters_are = sym (ap (λ (x : Outline × List ℕ). x.0.parameters) made);
      scans_are = b.1 ∙ ap (λ (x : Outline × List ℕ). Ok (x.0.scans, x.1)) made;
    }

-- the planes of a frame that an outline fits
planes_coded : (header : FrameHeader) (p : Parameters) (opened left : List ℕ) (o : Outline) (f : Picture) → IsThatOutline header p opened left o → IsOutlineOf f o
    → (i : ℕ) → i < components header.kind → IsCoded p (plane_of f i) (scan_in o.scans i)
planes_coded header p opened left o f that is i h =
    let kinds : header.kind ≡ f.kind = sym (ap (λ (x : FrameHeader). x.kind) that.header_is) ∙ is.kind in
    let inside : i < length o.scans = omega (arith, is.count, ap components kinds) in
    let first : 0 + i ≡ i = omega arith in
    subst (λ (q : Parameters). IsCoded q (plane_of f i) (scan_in o.scans i)) that.parameters_are
    (subst (λ n. IsCoded o.parameters (plane_of f n) (scan_in o.scans i)) first (data_of_component o.parameters f 0 i o.scans is.coded inside))

planes_are : (header : FrameHeader) (p : Parameters) (opened left : List ℕ) (o : Outline) (f : Picture) → IsThatOutline header p opened left o → IsFrame f → IsOutlineOf f o
    → (i : ℕ) → IsSamplePlane p.maxval header.width header.height (plane_of f i)
planes_are header p opened left o f that frame is i =
    plane_is f p.maxval header.width header.height i frame
    (sym (ap (λ (q : Parameters). q.maxval) that.parameters_are) ∙ is.maxval)
    (sym (ap (λ (x : FrameHeader). x.width) that.header_is) ∙ is.width)
    (sym (ap (λ (x : FrameHeader). x.height) that.header_is) ∙ is.height)

pub no_frame : (bytes : List ℕ) (header : FrameHeader) (p : Parameters) (opened : List ℕ) → opening_at bytes ≡ Ok (header, p, opened)
    → ((scans : List (List ℕ)) (left : List ℕ) → scans_at (drop 1 (ids_in header)) opened ≡ Ok (scans, left) → NoScans p header.width header.height (components header.kind) scans)
    → (o : Outline) (left : List ℕ) (f : Picture) → outline_at bytes ≡ Ok (o, left) → IsFrame f → IsOutlineOf f o → ⊥
no_frame bytes header p opened e none o left f g frame is =
    let that = that_outline bytes header p opened left o e g in
    none o.scans left that.scans_are (plane_of f) (λ i h. planes_are header p opened left o f that frame is i) (planes_coded header p opened left o f that is)

pub no_opening : (bytes : List ℕ) (fault : StreamFault) → opening_at bytes ≡ Err fault
    → (o : Outline) (left : List ℕ) (f : Picture) → outline_at bytes ≡ Ok (o, left) → IsFrame f → IsOutlineOf f o → ⊥
unfolding outline_at
no_opening bytes fault e o left f g frame is =
    let a = step_ok (opening_at bytes) opened_outline (o, left) g in
    opened_or_err a.0 fault (sym a.1 ∙ e)

-- ---- the one frame

-- samples are those of their components
pub samples_by_component : (height width count : ℕ) (samples others : List ℕ) → 1 ≤ count → length samples ≡ height * width * count → length others ≡ height * width * count
    → ((i : ℕ) → i < count → component_of count i samples ≡ component_of count i others) → samples ≡ others
samples_by_component height width count samples others some e g same =
    same_number_lists samples others (e ∙ sym g)
    (λ k h.
    let split : k / count * count + k % count ≡ k = div-add-mod' k count in
    let component : k % count < count = mod-lt k (omega arith) in
    let pixel : k / count < height * width = (div-lt_iff_lt-mul (omega arith)).1 (omega (arith, e)) in
    ap (λ n. get_or samples n 0) (sym split)
    ∙ sym (component_at width height count (k % count) (k / count) samples some e pixel)
    ∙ ap (λ xs. get_or xs (k / count) 0) (same (k % count) component)
    ∙ component_at width height count (k % count) (k / count) others some g pixel
    ∙ ap (λ n. get_or others n 0) split)

pictured : Kind → ℕ → ℕ → ℕ → List ℕ → Picture
pictured kind width height maxval samples = record { kind = kind; width = width; height = height; maxval = maxval; samples = samples }

same_picture : (f g : Picture) → f.kind ≡ g.kind → f.width ≡ g.width → f.height ≡ g.height → f.maxval ≡ g.maxval → f.samples ≡ g.samples → f ≡ g
unfolding pictured
same_picture f g a b c d e =
    ap (λ x. pictured x f.width f.height f.maxval f.samples) a ∙ ap (λ x. pictured g.kind x f.height f.maxval f.samples) b ∙ ap (λ x. pictured g.kind g.width x f.maxval f.samples) c
    ∙ ap (λ x. pictured g.kind g.width g.height x f.samples) d ∙ ap (λ x. pictured g.kind g.width g.height g.maxval x) e

frame_count : (f : Picture) (width height : ℕ) (kind : Kind) → IsFrame f → f.width ≡ width → f.height ≡ height → f.kind ≡ kind → length f.samples ≡ height * width * components kind
frame_count f width height kind frame a b c =
    frame.formed.count ∙ ap (λ n. n * components f.kind) (turned f.width f.height) ∙ ap (λ k. f.height * f.width * components k) c ∙ ap (λ w. f.height * w * components kind) a ∙ ap (λ h. h * width * components kind) b

pub only_frame : (bytes : List ℕ) (f : Picture) (header : FrameHeader) (p : Parameters) (opened rest : List ℕ) → IsPutTogether bytes f header p opened rest → IsFrame f
    → (o : Outline) (left : List ℕ) (g : Picture) → outline_at bytes ≡ Ok (o, left) → IsFrame g → IsOutlineOf g o → f ≡ g
only_frame bytes f header p opened rest put frame o left g e frame_g is =
    let that = that_outline bytes header p opened left o put.opening e in
    let same_scans = same_pair o.scans put.scans left rest (sym that.scans_are ∙ put.scans_are) in
    let kind : f.kind ≡ g.kind = put.kind ∙ sym (ap (λ (x : FrameHeader). x.kind) that.header_is) ∙ is.kind in
    let width : f.width ≡ g.width = put.width ∙ sym (ap (λ (x : FrameHeader). x.width) that.header_is) ∙ is.width in
    let height : f.height ≡ g.height = put.height ∙ sym (ap (λ (x : FrameHeader). x.height) that.header_is) ∙ is.height in
    let maxval : f.maxval ≡ g.maxval = put.maxval ∙ sym (ap (λ (q : Parameters). q.maxval) that.parameters_are) ∙ is.maxval in
    let width_g : g.width ≡ header.width = sym width ∙ put.width in
    let kind_g : g.kind ≡ header.kind = sym kind ∙ put.kind in
    let height_g : g.height ≡ header.height = sym height ∙ put.height in
    same_picture f g kind width height maxval
    (samples_by_component header.height header.width (components header.kind) f.samples g.samples (some_components header.kind)
    (frame_count f header.width header.height header.kind frame put.width put.height put.kind) (frame_count g header.width header.height header.kind frame_g width_g height_g kind_g)
    (λ i h.
    let coded = planes_coded header p opened left o g that is i h in
    let one : plane_of g i ≡ component_plane header.width (components header.kind) i f.samples =
    put.are.only i (plane_of g i) h (planes_are header p opened left o g that frame_g is i) (subst (λ (xs : List (List ℕ)). IsCoded p (plane_of g i) (scan_in xs i)) same_scans.0 coded) in
    sym (ap (λ (q : Plane). q.samples) (plane_by_header g header i kind_g width_g ∙ one))))

-- ---- bytes

pub are_bytes : (bytes : List ℕ) → ((i : ℕ) → get_or bytes i 0 < 256) → AreBytes bytes
are_bytes [] h = tt
are_bytes (byte ∷ bytes) h = (h 0, are_bytes bytes (λ i. h (suc i)))

pub opening_ids : (bytes : List ℕ) (header : FrameHeader) (p : Parameters) (opened : List ℕ) → AreBytes bytes → opening_at bytes ≡ Ok (header, p, opened)
    → length (ids_in header) ≡ components header.kind
opening_ids bytes header p opened are e =
    let read = (opening_read bytes (header, p, opened) are e).header in
    sym (ap length read.ids) ∙ length-map read.header.components (λ (x : Component). x.id) ∙ read.count

-- ---- the parts of a frame

each_small : (maxval : ℕ) (samples : List ℕ) → ((k : ℕ) → get_or samples k 0 ≤ maxval) → AllByRecursion (λ sample. sample ≤ maxval) samples
each_small maxval [] h = tt
each_small maxval (sample ∷ samples) h = (h 0, each_small maxval samples (λ k. h (suc k)))

pub is_frame : (header : FrameHeader) (p : Parameters) (samples : List ℕ) → 0 < header.width → header.width ≤ 65535 → 0 < header.height → header.height ≤ 65535 → IsLegal p
    → sample_count header.kind header.width header.height ≤ most_samples → length samples ≡ header.height * header.width * components header.kind
    → ((k : ℕ) → get_or samples k 0 ≤ p.maxval) → IsFrame (picture header p.maxval samples)
is_frame header p samples some_width width some_height height legal few count small = record {
  formed = record {
    some_width = some_width;
    width = width;
    some_height = some_height;
    height = height;
    some_maxval = legal.some_maxval;
    maxval = legal.maxval;
    few = few;
    count = count ∙ ap (λ n. n * components header.kind) (turned header.height header.width);
  };
  each = each_small p.maxval samples small;
}

pub no_fault : (f : Picture) → IsFrame f → frame_fault f ≡ None
no_fault f frame =
    let size : (eqb f.width 0 || eqb f.height 0) ≡ false = rw (ne_eqb f.width 0 (λ e. absurd (omega (arith, frame.formed.some_width))), ne_eqb f.height 0 (λ e. absurd (omega (arith, frame.formed.some_height)))) refl in
    cond-false _ _ _ size
    ∙ cond-false _ _ _ (le-ltb most_samples (sample_count f.kind f.width f.height) frame.formed.few)
    ∙ cond-false _ _ _ (ap not (eq-eqb (length f.samples) (sample_count f.kind f.width f.height) frame.formed.count))
    ∙ cond-false _ _ _ (ne_eqb f.maxval 0 (λ e. absurd (omega (arith, frame.formed.some_maxval))))
    ∙ ap (option_map SampleTooLarge) (none_found f.maxval f.samples (samples_small f frame))

-- ---- the codestream at the front of bytes

pub bytes_take : (n : ℕ) (bytes : List ℕ) → AreBytes bytes → AreBytes (take n bytes)
bytes_take zero bytes are = tt
bytes_take (suc n) [] are = tt
bytes_take (suc n) (byte ∷ bytes) are = (are.0, bytes_take n bytes are.1)

pub left_short : (bytes left : List ℕ) (o : Outline) → AreBytes bytes → outline_at bytes ≡ Ok (o, left) → length left ≤ length bytes
left_short bytes left o are e =
    let found = outlines_spell bytes left o are e in
    omega (arith, ap length found.1, length-append found.0 left)

take_short : (n : ℕ) (xs : List ℕ) → length (take n xs) ≤ n
take_short n xs = omega (arith, length-take n xs)

-- the most bytes are of the front, and what is left of them
front_taken : (bytes front left : List ℕ) (n : ℕ) → take n bytes ≡ front ++ left → take (length front) bytes ≡ front
front_taken bytes front left n e =
    ap (take (length front)) (sym (take-append-drop n bytes) ∙ ap (λ xs. xs ++ drop n bytes) e ∙ append_assoc front left (drop n bytes))
    ∙ take-append_seam front (left ++ drop n bytes)

pub front_spells : (bytes left : List ℕ) (o : Outline) (f : Picture) (used : ℕ) → AreBytes bytes → outline_at (take most_bytes bytes) ≡ Ok (o, left) → IsFrame f → IsOutlineOf f o
    → used + length left ≡ length (take most_bytes bytes) → (used ≤ length bytes) × Spells (take used bytes) f
front_spells bytes left o f used are e frame is count =
    let found = outlines_spell (take most_bytes bytes) left o (bytes_take most_bytes bytes are) e in
    let parts : length (take most_bytes bytes) ≡ length found.0 + length left = ap length found.1 ∙ length-append found.0 left in
    let same : length found.0 ≡ used = omega arith in
    let whole : length (take most_bytes bytes) + length (drop most_bytes bytes) ≡ length bytes = sym (length-append (take most_bytes bytes) (drop most_bytes bytes)) ∙ ap length (take-append-drop most_bytes bytes) in
    let most : length (take most_bytes bytes) ≤ most_bytes = take_short most_bytes bytes in (
      omega arith,
      subst (λ n. Spells (take n bytes) f) same
          (subst (λ xs. Spells xs f) (sym (front_taken bytes found.0 left most_bytes found.1)) (found.2 f frame is (omega arith))),
    )

-- a codestream at the front of bytes, as it is found
pub record IsFoundAt (bytes front : List ℕ) (f : Picture) : Type 0 where
  pub o : Outline
  pub left : List ℕ
  pub outline_is : outline_at (take most_bytes bytes) ≡ Ok (o, left)
  pub frame : IsFrame f
  pub says : IsOutlineOf f o
  pub count : length front + length left ≡ length (take most_bytes bytes)

pub found_at : (bytes front rest : List ℕ) (f : Picture) → bytes ≡ front ++ rest → Spells front f → IsFoundAt bytes front f
unfolding outline_of
found_at bytes front rest f e spelled =
    let law = spellings_have_bounded_outlines front rest f spelled in
    let at_front = subst (λ xs. of_all xs (outline_at (take most_bytes xs)) ≡ Ok (law.0, rest)) (sym e) law.1 in
    let found = of_all-ok bytes (outline_at (take most_bytes bytes)) (law.0, rest) at_front in
    let whole : length (take most_bytes bytes) + length (drop most_bytes bytes) ≡ length bytes = sym (length-append (take most_bytes bytes) (drop most_bytes bytes)) ∙ ap length (take-append-drop most_bytes bytes) in
    let parts : length front + length rest ≡ length bytes = sym (ap length e ∙ length-append front rest) in
    let after : length found.0 + length (drop most_bytes bytes) ≡ length rest = sym (length-append found.0 (drop most_bytes bytes)) ∙ ap length found.2 in
    record {
      o = law.0;
      left = found.0;
      outline_is = found.1;
      frame = spelled.frame;
      says = law.2;
      count = omega arith;
    }

-- the same bytes are left
pub same_left : (bytes : List ℕ) (o other : Outline) (left rest : List ℕ) → outline_at bytes ≡ Ok (o, left) → outline_at bytes ≡ Ok (other, rest) → left ≡ rest
same_left bytes o other left rest e f =
    let same : ◌≡◌ {A = Outline × List ℕ} (o, left) (other, rest) = same_ok (o, left) (other, rest) (sym e ∙ f) in
    ap (λ (x : Outline × List ℕ). x.1) same

either_way : (test : Bool) → (if test then NoMemory else NoMemory) ≡ NoMemory
either_way true = refl
either_way false = refl

-- samples that were written back completely into the vector from which they are borrowed
pub written_back : (len : ℕ) (new items : List ℕ) → length new ≡ len → take len (new ++ drop (length new) items) ≡ new
written_back len new items e = ap (λ n. take n (new ++ drop (length new) items)) (sym e) ∙ take-append_seam new (drop (length new) items)
