-- Properties of a picture's planes, and of a frame's.
use Rattle.std.proofs.Common.{◌≡◌, ℕ, ◌+◌, ◌*◌, ◌/◌, ◌%◌, ◌<◌, ◌≤◌, ◌++◌, [], Bool, true, false, Option, Some, None, is_some, nat_lt, List, length, get_or, not, sym, ◌∙◌, ap, subst, append-nil, inl, inr, true≢false, arith, mul-div_cancel}
use Rattle.std.specs.List.{AllByRecursion, position, position_or_len}
use Rattle.std.proofs.Math.Nat.{mod-lt, div-lt_iff_lt-mul}
use Rattle.std.proofs.lemmas.Nat.{div-add-mod'}
use Rattle.std.proofs.lemmas.Bool.{cases_lt, le-ltb, cond-false}
use Rattle.std.proofs.lemmas.List.{get_or_past}
use Rattle.std.proofs.lemmas.List.Sums.{prefix_len_stops}
use Rattle.std.proofs.lemmas.List.Elements.{All-from_recursion}
use Rattle.std.proofs.lemmas.List.FromFn.{length-map-range_with_len, get_or-map-range_with_len}
use Rattle.ls_frame.specs.declared.frame.Kind.{Kind}
use Rattle.ls_frame.specs.declared.frame.Kind.TheVariants.{Gray, Color}
use Rattle.ls_frame.specs.Picture.{Picture, IsFormed, IsFrame, components}
use Rattle.ls_frame.specs.Parameters.{Parameters, limit_of}
use Rattle.ls_frame.proofs.SampleLemmas.{none_above, whole_frame}
use Rattle.ls_bits.specs.View.Room.{Fits}
use Rattle.ls_coding.specs.View.States.{Coding, state_of}
use Rattle.ls_stream.specs.Planes.{Plane, rows_from, spans, plane_bits}
use Rattle.ls_stream.specs.View.Coded.{bits_from, all_from}
use Rattle.ls_frame.specs.View.Numbers.{numbers}
use Rattle.ls_stream.specs.declared.arranged.ComponentView.{ComponentView}
use Rattle.ls_stream.specs.Components.{component_of, component_plane, plane_of}
use Rattle.ls_stream.specs.View.Arrangements.{IsComponentOf}
use Rattle.ls_stream.proofs.CodedLemmas.{plane_from, parameters_of}

-- each sample is at most maxval, and one past the end reads as 0
small_at : (maxval : ℕ) (samples : List ℕ) → AllByRecursion (λ sample. sample ≤ maxval) samples → (k : ℕ) → get_or samples k 0 ≤ maxval
small_at maxval samples each k =
    elim (cases_lt k (length samples)) [
      | inl inside ↦ All-from_recursion (λ sample. sample ≤ maxval) samples each k 0 inside
      | inr far ↦ let none : get_or samples k 0 ≡ 0 = get_or_past samples k 0 (omega arith) in omega arith
    ]

pub samples_small : (f : Picture) → IsFrame f → (k : ℕ) → get_or f.samples k 0 ≤ f.maxval
samples_small f frame = small_at f.maxval f.samples frame.each

-- if each is at most maxval, the search finds none over it
pub none_found : (maxval : ℕ) (samples : List ℕ) → ((k : ℕ) → get_or samples k 0 ≤ maxval) → position (λ sample. nat_lt maxval sample) samples ≡ None
none_found maxval samples small =
    let least : ℕ = position_or_len (λ sample. nat_lt maxval sample) samples in
    elim (cases_lt least (length samples)) [
      | inl short ↦
          absurd (true≢false (sym (ap not (le-ltb maxval (get_or samples least 0) (small least))) ∙ prefix_len_stops (λ sample. not (nat_lt maxval sample)) samples 0 short))
      | inr long ↦ cond-false _ _ _ (le-ltb least (length samples) long)
    ]

-- if the search finds no sample over maxval, none is
pub none_over : (maxval : ℕ) (samples : List ℕ) (found : Option ℕ) → found ≡ position (λ sample. nat_lt maxval sample) samples → is_some found ≡ false
    → (k : ℕ) → get_or samples k 0 ≤ maxval
none_over maxval samples None e not_some = small_at maxval samples (none_above maxval samples (sym e))
none_over maxval samples (Some place) e not_some = absurd (true≢false not_some)

-- and if it finds one, one is
pub one_over : (maxval : ℕ) (samples : List ℕ) (found : Option ℕ) → found ≡ position (λ sample. nat_lt maxval sample) samples → is_some found ≡ true
    → ((k : ℕ) → get_or samples k 0 ≤ maxval) → ⊥
one_over maxval samples found e some small = true≢false (sym some ∙ ap is_some (e ∙ none_found maxval samples small))

pub some_components : (kind : Kind) → 1 ≤ components kind
some_components Gray = omega arith
some_components Color = omega arith

pub few_components : (kind : Kind) → components kind ≤ 3
few_components Gray = omega arith
few_components Color = omega arith

-- a picture's planes have its number of rows
pub plane_length : (f : Picture) → IsFormed f → (component : ℕ) → length (plane_of f component).samples ≡ f.width * f.height
unfolding component_of
plane_length f is component =
    let some : 0 < components f.kind = omega (arith, some_components f.kind) in
    length-map-range_with_len _ 0 (length f.samples / components f.kind)
    ∙ ap (λ n. n / components f.kind) is.count ∙ mul-div_cancel (f.width * f.height) some

pub plane_rows : (f : Picture) → IsFormed f → (component : ℕ) → spans (plane_of f component) ≡ rows_from (plane_of f component) f.height 0
unfolding spans
plane_rows f is component =
    let some : 0 < f.width = is.some_width in
    let turned : f.width * f.height ≡ f.height * f.width = omega arith in
    ap (λ n. rows_from (plane_of f component) n 0)
    (ap (λ n. n / f.width) (plane_length f is component ∙ turned) ∙ mul-div_cancel f.height some)

-- the bits of all rows, coded from a scan's start on, are the plane's
pub all_rows : (p : Parameters) (f : Picture) → IsFormed f → (component : ℕ) (bits : List Bool) (s : Coding)
    → all_from (plane_of f component) bits s [] ≡ all_from (plane_of f component) [] (state_of p []) (rows_from (plane_of f component) f.height 0 ++ [])
    → bits ≡ plane_bits p (plane_of f component)
unfolding bits_from
all_rows p f is component bits s e =
    sym (append-nil bits) ∙ e
    ∙ ap (λ xs. bits_from (plane_of f component) xs (state_of p [])) (append-nil (rows_from (plane_of f component) f.height 0) ∙ sym (plane_rows f is component))
    ∙ sym (plane_from p (plane_of f component))

-- ---- the same, for the samples of a component

-- the most bits of a plane
abbrev pub most : ℕ → ℕ → ℕ → ℕ
most maxval width height = limit_of maxval * (width * height)

most_of : (f : Picture) (component : ℕ) (view : ComponentView) (p : Parameters) (s : Coding) → IsComponentOf f component view → s ≡ state_of p []
    → most s.parameters.maxval view.shape.width view.shape.height ≡ most p.maxval f.width f.height
most_of f component view p s is e =
    ap (λ (t : Coding). most t.parameters.maxval view.shape.width view.shape.height) e
    ∙ ap (λ (q : Parameters). most q.maxval view.shape.width view.shape.height) (parameters_of p [])
    ∙ ap (λ w. most p.maxval w view.shape.height) is.width ∙ ap (most p.maxval f.width) is.height

pub room_of : (f : Picture) (component : ℕ) (view : ComponentView) (p : Parameters) (s : Coding) (bits : List Bool) (room : ℕ) → IsComponentOf f component view → s ≡ state_of p []
    → bits ≡ [] → Fits (most p.maxval f.width f.height) room → Fits (length bits + most s.parameters.maxval view.shape.width view.shape.height) room
room_of f component view p s bits room is e none fits =
    let nothing : length bits ≡ 0 = ap length none in
    let same : most p.maxval f.width f.height ≡ length bits + most s.parameters.maxval view.shape.width view.shape.height = omega (arith, most_of f component view p s is e) in
    subst (λ n. Fits n room) same fits

pub cost_of : (f : Picture) (component : ℕ) (view : ComponentView) (p : Parameters) (s : Coding) (bits new : List Bool) → IsComponentOf f component view → s ≡ state_of p []
    → bits ≡ [] → length new ≤ length bits + most s.parameters.maxval view.shape.width view.shape.height → length new ≤ most p.maxval f.width f.height
cost_of f component view p s bits new is e none cost = omega (arith, most_of f component view p s is e, ap length none)

pub bits_of : (f : Picture) (component : ℕ) (view : ComponentView) (p : Parameters) (s after : Coding) (bits new : List Bool) → IsComponentOf f component view
    → s ≡ state_of p [] → bits ≡ []
    → all_from (component_plane view.shape.width view.shape.components view.component (numbers view.samples)) new after []
    ≡ all_from (component_plane view.shape.width view.shape.components view.component (numbers view.samples)) bits s (rows_from (component_plane view.shape.width view.shape.components view.component (numbers view.samples)) view.shape.height 0 ++ [])
    → new ≡ plane_bits p (plane_of f component)
bits_of f component view p s after bits new is e none rows =
    let plane : Plane = component_plane view.shape.width view.shape.components view.component (numbers view.samples) in
    all_rows p f is.formed component new after
    (subst (λ (q : Plane). all_from q new after [] ≡ all_from q [] (state_of p []) (rows_from q f.height 0 ++ [])) is.plane
    (rows ∙ ap (λ (x : List Bool). all_from plane x s (rows_from plane view.shape.height 0 ++ [])) none
    ∙ ap (λ (t : Coding). all_from plane [] t (rows_from plane view.shape.height 0 ++ [])) e
    ∙ ap (λ h. all_from plane [] (state_of p []) (rows_from plane h 0 ++ [])) is.height))

pub within_of : (f : Picture) (component : ℕ) (view : ComponentView) (p : Parameters) (s : Coding) → IsComponentOf f component view → s ≡ state_of p [] → p.maxval ≡ f.maxval
    → ((k : ℕ) → get_or (component_plane view.shape.width view.shape.components view.component (numbers view.samples)).samples k 0 ≤ s.parameters.maxval)
    → (k : ℕ) → get_or (plane_of f component).samples k 0 ≤ f.maxval
within_of f component view p s is e maxval within k =
    omega (
      arith,
      within k,
      ap (λ (q : Plane). get_or q.samples k 0) is.plane,
      ap (λ (t : Coding). t.parameters.maxval) e,
      ap (λ (q : Parameters). q.maxval) (parameters_of p []),
    )

pub small_of : (f : Picture) (component : ℕ) (view : ComponentView) (p : Parameters) (s : Coding) → IsFrame f → IsComponentOf f component view → s ≡ state_of p [] → p.maxval ≡ f.maxval
    → (k : ℕ) → get_or (numbers view.samples) k 0 ≤ s.parameters.maxval
small_of f component view p s frame is e maxval k =
    omega (arith, is.small frame k, ap (λ (t : Coding). t.parameters.maxval) e, ap (λ (q : Parameters). q.maxval) (parameters_of p []))

-- ---- planes

-- a sample of a picture is in a plane
sample_in_plane : (f : Picture) → IsFormed f → (k : ℕ) → k < length f.samples
    → get_or f.samples k 0 ≡ get_or (plane_of f (k % components f.kind)).samples (k / components f.kind) 0
unfolding component_of
sample_in_plane f is k inside =
    let count : ℕ = components f.kind in
    let some : 0 < count = omega (arith, some_components f.kind) in
    let split : k / count * count + k % count ≡ k = div-add-mod' k count in
    let places : length f.samples / count ≡ f.width * f.height = ap (λ n. n / count) is.count ∙ mul-div_cancel (f.width * f.height) some in
    let pixel : k / count < f.width * f.height = (div-lt_iff_lt-mul some).1 (omega (arith, is.count)) in
    ap (λ n. get_or f.samples n 0) (sym split)
    ∙ sym (get_or-map-range_with_len (λ n. get_or f.samples (n * count + k % count) 0) 0 (length f.samples / count) (k / count) (k / count) 0 (omega arith) (omega arith))

-- after one more plane, its samples are known to be at most maxval
pub one_more_plane : (f : Picture) (maxval count component : ℕ) → component ≡ count → ((i : ℕ) → i < count → (k : ℕ) → get_or (plane_of f i).samples k 0 ≤ maxval)
    → ((k : ℕ) → get_or (plane_of f component).samples k 0 ≤ maxval) → (i : ℕ) → i < count + 1 → (k : ℕ) → get_or (plane_of f i).samples k 0 ≤ maxval
one_more_plane f maxval count component e before here i inside =
    elim (cases_lt i count) [
      | inl earlier ↦ before i earlier
      | inr last ↦ let same : component ≡ i = omega arith in subst (λ n. (k : ℕ) → get_or (plane_of f n).samples k 0 ≤ maxval) same here
    ]

-- a picture whose planes have samples of at most maxval is a frame
pub frame_of_planes : (f : Picture) → IsFormed f → ((component : ℕ) → component < components f.kind → (k : ℕ) → get_or (plane_of f component).samples k 0 ≤ f.maxval) → IsFrame f
frame_of_planes f is within =
    let some : 0 < components f.kind = omega (arith, some_components f.kind) in
    whole_frame f is (none_found f.maxval f.samples (λ k.
    elim (cases_lt k (length f.samples)) [
      | inl inside ↦ omega (arith, sample_in_plane f is k inside, within (k % components f.kind) (mod-lt k some) (k / components f.kind))
      | inr far ↦ let none : get_or f.samples k 0 ≡ 0 = get_or_past f.samples k 0 (omega arith) in omega arith
    ]))

-- each sample of a plane is at most maxval
pub plane_small : (f : Picture) → IsFrame f → (component k : ℕ) → get_or (plane_of f component).samples k 0 ≤ f.maxval
unfolding component_of
plane_small f frame component k =
    let count = length f.samples / components f.kind in
    elim (cases_lt k count) [
      | inl inside ↦
          let first : 0 + k ≡ k = omega arith in
          omega (arith, get_or-map-range_with_len (λ n. get_or f.samples (n * components f.kind + component) 0) 0 count k k 0 inside first, samples_small f frame (k * components f.kind + component))
      | inr far ↦
          let none : get_or (plane_of f component).samples k 0 ≡ 0 = get_or_past (plane_of f component).samples k 0 (omega (arith, length-map-range_with_len (λ n. get_or f.samples (n * components f.kind + component) 0) 0 count)) in omega arith
    ]
