-- The samples of a component, as they are arranged and in the order of pixels.
use Rattle.std.proofs.Common.{◌≡◌, ◌≢◌, ◌⊎◌, ℕ, ◌+◌, ◌-◌, ◌*◌, ◌/◌, ◌%◌, ◌<◌, ◌≤◌, List, ◌++◌, length, length-append, length-drop, take, drop, take-append-drop, get_or, inl, inr, refl, sym, ◌∙◌, ap, subst, mul-div_cancel, arith}
use Rattle.std.proofs.Math.Seq.{take-append_seam, drop-append_seam}
use Rattle.std.proofs.Math.Nat.{mod-lt, div-lt_iff_lt-mul}
use Rattle.std.proofs.lemmas.Bool.{cases_lt}
use Rattle.std.proofs.lemmas.Grind.{same_number_lists}
use Rattle.std.proofs.lemmas.List.{get_or_past, get_or-take, get_or-drop, get_or_append_left, get_or-append_right, length-take, length-take-le, take_all, drop-drop}
use Rattle.std.proofs.lemmas.List.FromFn.{get_or-map-range_with_len, length-map-range_with_len}
use Rattle.std.proofs.lemmas.Nat.{mul-le, mul-add-lt, div-mul-add, mod-mul-add, div-add-mod'}
use Rattle.ls_frame.specs.declared.frame.Form.{Form}
use Rattle.ls_frame.specs.Picture.{Picture, IsFormed, IsFrame, picture_of, components}
use Rattle.ls_frame.specs.declared.samples.Samples.{Samples}
use Rattle.ls_frame.specs.View.Numbers.{numbers}
use Rattle.ls_frame.proofs.SampleLemmas.{whole_frame}
use Rattle.ls_stream.specs.declared.shape.Shape.{Shape}
use Rattle.ls_stream.specs.declared.arranged.ComponentView.{ComponentView}
use Rattle.ls_stream.specs.declared.arranged.Arrangement.{Arrangement}
use Rattle.ls_stream.specs.declared.arranged.Arrangement.TheVariants.{Pixels, Planes}
use Rattle.ls_stream.specs.declared.arranged.Area.{Area}
use Rattle.ls_stream.specs.Planes.{Plane}
use Rattle.ls_stream.specs.Components.{component_of, component_plane, plane_of, in_pixels, arranged}
use Rattle.ls_stream.specs.View.Arrangements.{area_of, IsComponentOf}
use Rattle.ls_stream.proofs.FrameLemmas.{samples_small, none_found, few_components}
use Rattle.ls_stream.proofs.ScanReadingLemmas.{component_length, component_at}

-- ---- plane by plane

planes_length : (count : ℕ) (planes : List ℕ) → length (in_pixels count planes) ≡ length planes
unfolding in_pixels
planes_length count planes = length-map-range_with_len (λ p. get_or planes (p % count * (length planes / count) + p / count) 0) 0 (length planes)

-- the sample of a pixel and a component
sample_in_plane : (count pixels component k : ℕ) (planes : List ℕ) → length planes ≡ pixels * count → component < count → k < pixels
    → get_or (in_pixels count planes) (k * count + component) 0 ≡ get_or planes (component * pixels + k) 0
unfolding in_pixels
sample_in_plane count pixels component k planes whole inside low =
    let positive : 0 < count = omega arith in
    let each : length planes / count ≡ pixels = ap (λ m. m / count) whole ∙ mul-div_cancel pixels positive in
    let place : ℕ = k * count + component in
    let turned : pixels * count ≡ count * pixels = omega arith in
    let below : place < length planes = omega (arith, mul-add-lt k count component pixels low inside) in
    get_or-map-range_with_len (λ p. get_or planes (p % count * (length planes / count) + p / count) 0) 0 (length planes) place place 0 below (omega arith)
    ∙ ap (λ m. get_or planes (m * (length planes / count) + place / count) 0) (mod-mul-add k count component inside)
    ∙ ap (λ m. get_or planes (component * (length planes / count) + m) 0) (div-mul-add k count component inside)
    ∙ ap (λ m. get_or planes (component * m + k) 0) each

planes_small : (count most : ℕ) (planes : List ℕ) → ((k : ℕ) → get_or planes k 0 ≤ most) → (k : ℕ) → get_or (in_pixels count planes) k 0 ≤ most
unfolding in_pixels
planes_small count most planes small k =
    elim (cases_lt k (length planes)) [
      | inl inside ↦
          omega (
            arith,
            get_or-map-range_with_len (λ p. get_or planes (p % count * (length planes / count) + p / count) 0) 0 (length planes) k k 0 inside (omega arith),
            small (k % count * (length planes / count) + k / count),
          )
      | inr far ↦ let none : get_or (in_pixels count planes) k 0 ≡ 0 = get_or_past (in_pixels count planes) k 0 (omega (arith, planes_length count planes)) in omega arith
    ]

small_planes : (count pixels most : ℕ) (planes : List ℕ) → length planes ≡ pixels * count → ((k : ℕ) → get_or (in_pixels count planes) k 0 ≤ most) → (k : ℕ) → get_or planes k 0 ≤ most
small_planes count pixels most planes whole small k =
    elim (cases_lt k (length planes)) [
      | inl inside ↦
          let turned : pixels * count ≡ count * pixels = omega arith in
          let below : k < count * pixels = omega arith in
          let some : 0 < pixels = elim (cases_lt 0 pixels) [ inl some ↦ some | inr none ↦ let nothing : count * pixels ≡ 0 = let zero : pixels ≡ 0 = omega arith in ap (λ n. count * n) zero ∙ omega arith in absurd (omega arith) ] in
          let split : k / pixels * pixels + k % pixels ≡ k = div-add-mod' k pixels in
          omega (
            arith,
            ap (λ n. get_or planes n 0) split,
            sample_in_plane count pixels (k / pixels) (k % pixels) planes whole ((div-lt_iff_lt-mul some).1 below) (mod-lt k some),
            small (k % pixels * count + k / pixels),
          )
      | inr far ↦ let none : get_or planes k 0 ≡ 0 = get_or_past planes k 0 far in omega arith
    ]

-- ---- in either arrangement

pub arranged_length : (a : Arrangement) (count : ℕ) (samples : List ℕ) → length (arranged a count samples) ≡ length samples
arranged_length Pixels count samples = refl
arranged_length Planes count samples = planes_length count samples

pub arranged_small : (a : Arrangement) (count most : ℕ) (samples : List ℕ) → ((k : ℕ) → get_or samples k 0 ≤ most) → (k : ℕ) → get_or (arranged a count samples) k 0 ≤ most
arranged_small Pixels count most samples small = small
arranged_small Planes count most samples small = planes_small count most samples small

pub small_arranged : (a : Arrangement) (count pixels most : ℕ) (samples : List ℕ) → length samples ≡ pixels * count → ((k : ℕ) → get_or (arranged a count samples) k 0 ≤ most)
    → (k : ℕ) → get_or samples k 0 ≤ most
small_arranged Pixels count pixels most samples whole small = small
small_arranged Planes count pixels most samples whole small = small_planes count pixels most samples whole small

-- a picture stays formed
pub formed_arranged : (a : Arrangement) (form : Form) (samples : List ℕ) → IsFormed (picture_of form samples) → IsFormed (picture_of form (arranged a (components form.kind) samples))
formed_arranged a form samples is = record {
  some_width = is.some_width;
  width = is.width;
  some_height = is.some_height;
  height = is.height;
  some_maxval = is.some_maxval;
  maxval = is.maxval;
  few = is.few;
  count = arranged_length a (components form.kind) samples ∙ is.count;
}

-- and it is a frame exactly if none of its samples in memory is over maxval
pub frame_arranged : (a : Arrangement) (form : Form) (samples : List ℕ) → IsFormed (picture_of form samples) → ((k : ℕ) → get_or samples k 0 ≤ form.maxval)
    → IsFrame (picture_of form (arranged a (components form.kind) samples))
frame_arranged a form samples is small =
    let f : Picture = picture_of form (arranged a (components form.kind) samples) in
    whole_frame f (formed_arranged a form samples is) (none_found form.maxval f.samples (arranged_small a (components form.kind) form.maxval samples small))

pub small_in_frame : (a : Arrangement) (form : Form) (samples : List ℕ) → IsFormed (picture_of form samples) → IsFrame (picture_of form (arranged a (components form.kind) samples))
    → (k : ℕ) → get_or samples k 0 ≤ form.maxval
small_in_frame a form samples is frame =
    small_arranged a (components form.kind) (form.width * form.height) form.maxval samples is.count (samples_small (picture_of form (arranged a (components form.kind) samples)) frame)

-- ---- areas

-- a plane lies among them all
plane_inside : (component pixels count : ℕ) → component < count → component * pixels + pixels ≤ pixels * count
plane_inside component pixels count h =
    let rows : (component + 1) * pixels ≤ count * pixels = mul-le (component + 1) pixels count pixels (omega arith) (omega arith) in
    let next : (component + 1) * pixels ≡ component * pixels + pixels = omega arith in
    let turned : count * pixels ≡ pixels * count = omega arith in
    omega arith

pub area_inside : (a : Arrangement) (shape : Shape) (component : ℕ) → component < shape.components
    → (area_of a shape component).start + (area_of a shape component).count ≤ shape.height * shape.width * shape.components
area_inside Pixels shape component h = omega arith
area_inside Planes shape component h = plane_inside component (shape.height * shape.width) shape.components h

pub area_count : (a : Arrangement) (shape : Shape) (component : ℕ)
    → (area_of a shape component).count ≡ shape.height * shape.width * (area_of a shape component).components
area_count Pixels shape component = refl
area_count Planes shape component = omega arith

pub area_component : (a : Arrangement) (shape : Shape) (component : ℕ) → component < shape.components
    → ((area_of a shape component).component < (area_of a shape component).components) × ((area_of a shape component).components ≤ shape.components)
area_component Pixels shape component h = (h, omega arith)
area_component Planes shape component h = (omega arith, omega arith)

-- the samples of an area
abbrev pub part_of : Area → List ℕ → List ℕ
part_of area samples = take area.count (drop area.start samples)

pub part_length : (area : Area) (samples : List ℕ) → area.start + area.count ≤ length samples → length (part_of area samples) ≡ area.count
part_length area samples inside = length-take-le area.count (drop area.start samples) (omega (arith, length-drop area.start samples))

pub part_small : (area : Area) (most : ℕ) (samples : List ℕ) → ((k : ℕ) → get_or samples k 0 ≤ most) → (k : ℕ) → get_or (part_of area samples) k 0 ≤ most
part_small area most samples small k =
    elim (cases_lt k area.count) [
      | inl inside ↦ omega (arith, get_or-take area.count (drop area.start samples) k 0 inside, get_or-drop area.start samples k 0, small (area.start + k))
      | inr far ↦
          let none : get_or (part_of area samples) k 0 ≡ 0 = get_or_past (part_of area samples) k 0 (omega (arith, length-take area.count (drop area.start samples))) in omega arith
    ]

-- in the order of pixels the area is all of them
whole_part : (shape : Shape) (component : ℕ) (samples : List ℕ) → length samples ≡ shape.height * shape.width * shape.components → part_of (area_of Pixels shape component) samples ≡ samples
whole_part shape component samples whole = take_all (shape.height * shape.width * shape.components) samples (omega (arith, whole))

-- a component's plane is that of its area
pub area_plane : (a : Arrangement) (shape : Shape) (component : ℕ) (samples : List ℕ) → component < shape.components → length samples ≡ shape.height * shape.width * shape.components
    → component_plane shape.width (area_of a shape component).components (area_of a shape component).component (part_of (area_of a shape component) samples)
    ≡ component_plane shape.width shape.components component (arranged a shape.components samples)
area_plane Pixels shape component samples h whole = ap (component_plane shape.width shape.components component) (whole_part shape component samples whole)
area_plane Planes shape component samples h whole =
    let pixels : ℕ = shape.height * shape.width in
    let count : ℕ = shape.components in
    let area : Area = area_of Planes shape component in
    let part : List ℕ = part_of area samples in
    let some : 1 ≤ count = omega arith in
    let one : 1 ≤ 1 = omega arith in
    let few : length part ≡ pixels * 1 = part_length area samples (omega (arith, plane_inside component pixels count h)) ∙ omega arith in
    let all : length (in_pixels count samples) ≡ pixels * count = planes_length count samples ∙ whole in
    ap (λ xs. let plane : Plane = record { width = shape.width; samples = xs } in plane)
    (same_number_lists (component_of 1 0 part) (component_of count component (in_pixels count samples))
    (component_length shape.width shape.height 1 0 part one few ∙ sym (component_length shape.width shape.height count component (in_pixels count samples) some all))
    (λ k inside.
    let low : k < pixels = omega (arith, component_length shape.width shape.height 1 0 part one few) in
    component_at shape.width shape.height 1 0 k part one few low
    ∙ ap (λ n. get_or part n 0) (omega arith)
    ∙ get_or-take pixels (drop (component * pixels) samples) k 0 low
    ∙ get_or-drop (component * pixels) samples k 0
    ∙ sym (sample_in_plane count pixels component k samples whole h low)
    ∙ sym (component_at shape.width shape.height count component k (in_pixels count samples) some all low)))

-- ---- an area that is written

-- samples of which those of an area were replaced
abbrev pub put_in : Area → List ℕ → List ℕ → List ℕ
put_in area part samples = take area.start samples ++ (part ++ drop (area.start + area.count) samples)

front_length : (area : Area) (samples : List ℕ) → area.start + area.count ≤ length samples → length (take area.start samples) ≡ area.start
front_length area samples inside = length-take-le area.start samples (omega arith)

pub put_length : (area : Area) (part samples : List ℕ) → length part ≡ area.count → area.start + area.count ≤ length samples → length (put_in area part samples) ≡ length samples
put_length area part samples whole inside =
    omega (
      arith,
      length-append (take area.start samples) (part ++ drop (area.start + area.count) samples),
      front_length area samples inside,
      length-append part (drop (area.start + area.count) samples),
      length-drop (area.start + area.count) samples,
    )

pub put_part : (area : Area) (part samples : List ℕ) → length part ≡ area.count → area.start + area.count ≤ length samples → part_of area (put_in area part samples) ≡ part
put_part area part samples whole inside =
    let rest : List ℕ = drop (area.start + area.count) samples in
    ap (λ n. take area.count (drop n (put_in area part samples))) (sym (front_length area samples inside))
    ∙ ap (take area.count) (drop-append_seam (take area.start samples) (part ++ rest))
    ∙ ap (λ n. take n (part ++ rest)) (sym whole)
    ∙ take-append_seam part rest

before : (area : Area) (part samples : List ℕ) → area.start + area.count ≤ length samples → (k : ℕ) → k < area.start → get_or (put_in area part samples) k 0 ≡ get_or samples k 0
before area part samples inside k low =
    get_or_append_left (take area.start samples) (part ++ drop (area.start + area.count) samples) 0 k (omega (arith, front_length area samples inside))
    ∙ get_or-take area.start samples k 0 low

within : (area : Area) (part samples : List ℕ) → length part ≡ area.count → area.start + area.count ≤ length samples → (k : ℕ) → k < area.count
    → get_or (put_in area part samples) (area.start + k) 0 ≡ get_or part k 0
within area part samples whole inside k low =
    get_or-append_right (take area.start samples) (part ++ drop (area.start + area.count) samples) area.start (area.start + k) 0 (front_length area samples inside) (omega arith)
    ∙ ap (λ n. get_or (part ++ drop (area.start + area.count) samples) n 0) (omega arith)
    ∙ get_or_append_left part (drop (area.start + area.count) samples) 0 k (omega arith)

after : (area : Area) (part samples : List ℕ) → length part ≡ area.count → area.start + area.count ≤ length samples → (k : ℕ) → area.start + area.count ≤ k
    → get_or (put_in area part samples) k 0 ≡ get_or samples k 0
after area part samples whole inside k high =
    get_or-append_right (take area.start samples) (part ++ drop (area.start + area.count) samples) area.start k 0 (front_length area samples inside) (omega arith)
    ∙ get_or-append_right part (drop (area.start + area.count) samples) area.count (k - area.start) 0 whole (omega arith)
    ∙ get_or-drop (area.start + area.count) samples (k - area.start - area.count) 0
    ∙ ap (λ n. get_or samples n 0) (omega arith)

pub put_small : (area : Area) (most : ℕ) (part samples : List ℕ) → length part ≡ area.count → area.start + area.count ≤ length samples → ((k : ℕ) → get_or samples k 0 ≤ most)
    → ((k : ℕ) → get_or part k 0 ≤ most) → (k : ℕ) → get_or (put_in area part samples) k 0 ≤ most
put_small area most part samples whole inside small small_part k =
    elim (cases_lt k area.start) [
      | inl low ↦ omega (arith, before area part samples inside k low, small k)
      | inr high ↦ elim (cases_lt k (area.start + area.count)) [
        | inl there ↦
            let at : area.start + (k - area.start) ≡ k = omega arith in
            omega (arith, ap (λ n. get_or (put_in area part samples) n 0) at, within area part samples whole inside (k - area.start) (omega arith), small_part (k - area.start))
        | inr far ↦ omega (arith, after area part samples whole inside k far, small k)
      ]
    ]

-- a place of another plane
other_place : (component other pixels k : ℕ) → other ≢ component → k < pixels → (other * pixels + k < component * pixels) ⊎ (component * pixels + pixels ≤ other * pixels + k)
other_place component other pixels k differs low =
    elim (cases_lt other component) [
      | inl earlier ↦
          let rows : (other + 1) * pixels ≤ component * pixels = mul-le (other + 1) pixels component pixels (omega arith) (omega arith) in
          let next : (other + 1) * pixels ≡ other * pixels + pixels = omega arith in
          inl (omega arith)
      | inr later ↦ elim (cases_lt component other) [
        | inl apart ↦
            let rows : (component + 1) * pixels ≤ other * pixels = mul-le (component + 1) pixels other pixels (omega arith) (omega arith) in
            let next : (component + 1) * pixels ≡ component * pixels + pixels = omega arith in
            inr (omega arith)
        | inr same ↦ absurd (differs (omega arith))
      ]
    ]

-- the samples of the other components stay as they were
pub put_others : (a : Arrangement) (shape : Shape) (component : ℕ) (part samples : List ℕ) → component < shape.components → length samples ≡ shape.height * shape.width * shape.components
    → length part ≡ (area_of a shape component).count
    → ((k other : ℕ) → other < (area_of a shape component).components → other ≢ (area_of a shape component).component
    → get_or part (k * (area_of a shape component).components + other) 0 ≡ get_or (part_of (area_of a shape component) samples) (k * (area_of a shape component).components + other) 0)
    → (k other : ℕ) → other < shape.components → other ≢ component
    → get_or (arranged a shape.components (put_in (area_of a shape component) part samples)) (k * shape.components + other) 0 ≡ get_or (arranged a shape.components samples) (k * shape.components + other) 0
put_others Pixels shape component part samples h whole all others k other low differs =
    let area : Area = area_of Pixels shape component in
    let inside : area.start + area.count ≤ length samples = omega (arith, whole) in
    ap (λ xs. get_or xs (k * shape.components + other) 0)
    (sym (whole_part shape component (put_in area part samples) (put_length area part samples all inside ∙ whole)) ∙ put_part area part samples all inside)
    ∙ others k other low differs
    ∙ ap (λ xs. get_or xs (k * shape.components + other) 0) (whole_part shape component samples whole)
put_others Planes shape component part samples h whole all others k other low differs =
    let area : Area = area_of Planes shape component in
    let pixels : ℕ = shape.height * shape.width in
    let count : ℕ = shape.components in
    let inside : area.start + area.count ≤ length samples = omega (arith, whole, plane_inside component pixels count h) in
    let new : List ℕ = put_in area part samples in
    let new_whole : length new ≡ pixels * count = put_length area part samples all inside ∙ whole in
    elim (cases_lt k pixels) [
      | inl below ↦
          sample_in_plane count pixels other k new new_whole low below
          ∙ elim (other_place component other pixels k differs below) [
            | inl earlier ↦ before area part samples inside (other * pixels + k) earlier
            | inr later ↦ after area part samples all inside (other * pixels + k) later
          ]
          ∙ sym (sample_in_plane count pixels other k samples whole low below)
      | inr past ↦
          let far : pixels * count ≤ k * count = mul-le pixels count k count past (omega arith) in
          get_or_past (in_pixels count new) (k * count + other) 0 (omega (arith, planes_length count new, new_whole))
          ∙ sym (get_or_past (in_pixels count samples) (k * count + other) 0 (omega (arith, planes_length count samples, whole)))
    ]

-- ---- the samples of a component

-- of a picture in memory, whose shape is given
abbrev pub view_in : Shape → Area → Samples → ComponentView
view_in shape area part = record { samples = part; shape = record { width = shape.width; height = shape.height; components = area.components }; component = area.component }

pub component_is : (a : Arrangement) (form : Form) (samples : List ℕ) (part : Samples) (shape : Shape) (component : ℕ) → IsFormed (picture_of form samples)
    → shape.width ≡ form.width → shape.height ≡ form.height → shape.components ≡ components form.kind → component < components form.kind
    → numbers part ≡ part_of (area_of a shape component) samples
    → IsComponentOf (picture_of form (arranged a (components form.kind) samples)) component (view_in shape (area_of a shape component) part)
component_is a form samples part shape component is w h n inside part_is =
    let area : Area = area_of a shape component in
    let low : component < shape.components = omega (arith, inside, n) in
    let turned : form.width * form.height * components form.kind ≡ form.height * form.width * components form.kind = omega arith in
    let whole : length samples ≡ shape.height * shape.width * shape.components = rw h (rw w (rw n (is.count ∙ turned))) in
    let fits : area.start + area.count ≤ length samples = omega (arith, area_inside a shape component low, whole) in
    let number = area_component a shape component low in
    let all : shape.height * shape.width * area.components ≡ shape.height * (shape.width * area.components) = omega arith in
    record {
      formed = formed_arranged a form samples is;
      width = w;
      height = h;
      few = omega (arith, number.1, n, few_components form.kind);
      inside = number.0;
      count = ap length part_is ∙ part_length area samples fits ∙ area_count a shape component ∙ all;
      plane = ap (component_plane shape.width area.components area.component) part_is ∙ area_plane a shape component samples low whole
          ∙ ap (λ x. component_plane x shape.components component (arranged a shape.components samples)) w
          ∙ ap (λ m. component_plane form.width m component (arranged a m samples)) n;
      small = λ frame k. omega (arith, ap (λ xs. get_or xs k 0) part_is, part_small area form.maxval samples (small_in_frame a form samples is frame) k);
    }

pub area_fits : (a : Arrangement) (form : Form) (samples : List ℕ) (shape : Shape) (component : ℕ) → IsFormed (picture_of form samples)
    → shape.width ≡ form.width → shape.height ≡ form.height → shape.components ≡ components form.kind → component < components form.kind
    → (area_of a shape component).start + (area_of a shape component).count ≤ length samples
area_fits a form samples shape component is w h n inside =
    let low : component < shape.components = omega (arith, inside, n) in
    let turned : form.width * form.height * components form.kind ≡ form.height * form.width * components form.kind = omega arith in
    let whole : length samples ≡ shape.height * shape.width * shape.components = rw h (rw w (rw n (is.count ∙ turned))) in
    omega (arith, area_inside a shape component low, whole)

-- ---- an area of slots that store samples, as it's lent and given back

abbrev pub lent : {A : Type 0} → Area → List A → List A
lent area slots = take area.count (drop area.start slots)

abbrev pub given_back : {A : Type 0} → Area → List A → List A → List A
given_back area written slots = take area.start slots ++ (written ++ drop area.count (drop area.start slots))

-- in the two parts that the slots are split into
pub back_in : {A : Type 0} (area : Area) (written slots front rest : List A) → front ≡ take area.start slots → rest ≡ drop area.start slots
    → given_back area written slots ≡ front ++ (written ++ drop area.count rest)
back_in area written slots front rest e f =
    ap (λ xs. xs ++ (written ++ drop area.count (drop area.start slots))) (sym e) ∙ ap (λ xs. front ++ (written ++ drop area.count xs)) (sym f)

module _ {A : Type 0} (store : List A → List ℕ) (one_each : (slots : List A) → length (store slots) ≡ length slots) (in_parts : (front rest : List A) → store (front ++ rest) ≡ store front ++ store rest) where
  stored_front : (n : ℕ) (slots : List A) → n ≤ length slots → store (take n slots) ≡ take n (store slots)
  stored_front n slots few =
      let front : List ℕ = store (take n slots) in
      let rest : List ℕ = store (drop n slots) in
      let size : length front ≡ n = one_each (take n slots) ∙ length-take-le n slots few in
      let split : front ++ rest ≡ store slots = sym (in_parts (take n slots) (drop n slots)) ∙ ap store (take-append-drop n slots) in
      sym (take-append_seam front rest) ∙ ap (λ k. take k (front ++ rest)) size ∙ ap (take n) split

  stored_rest : (n : ℕ) (slots : List A) → n ≤ length slots → store (drop n slots) ≡ drop n (store slots)
  stored_rest n slots few =
      let front : List ℕ = store (take n slots) in
      let rest : List ℕ = store (drop n slots) in
      let size : length front ≡ n = one_each (take n slots) ∙ length-take-le n slots few in
      let split : front ++ rest ≡ store slots = sym (in_parts (take n slots) (drop n slots)) ∙ ap store (take-append-drop n slots) in
      sym (drop-append_seam front rest) ∙ ap (λ k. drop k (front ++ rest)) size ∙ ap (drop n) split

  pub lent_is : (area : Area) (slots : List A) → area.start + area.count ≤ length (store slots) → store (lent area slots) ≡ part_of area (store slots)
  lent_is area slots inside =
      let few : area.start + area.count ≤ length slots = omega (arith, one_each slots) in
      stored_front area.count (drop area.start slots) (omega (arith, length-drop area.start slots))
      ∙ ap (take area.count) (stored_rest area.start slots (omega arith))

  pub given_is : (area : Area) (written slots : List A) → area.start + area.count ≤ length (store slots) → store (given_back area written slots) ≡ put_in area (store written) (store slots)
  given_is area written slots inside =
      let few : area.start + area.count ≤ length slots = omega (arith, one_each slots) in
      let rest : store (drop area.count (drop area.start slots)) ≡ drop (area.start + area.count) (store slots) =
      stored_rest area.count (drop area.start slots) (omega (arith, length-drop area.start slots))
      ∙ ap (drop area.count) (stored_rest area.start slots (omega arith))
      ∙ drop-drop area.count area.start (store slots) in
      in_parts (take area.start slots) (written ++ drop area.count (drop area.start slots))
      ∙ ap (λ xs. xs ++ store (written ++ drop area.count (drop area.start slots))) (stored_front area.start slots (omega arith))
      ∙ ap (λ xs. take area.start (store slots) ++ xs) (in_parts written (drop area.count (drop area.start slots)) ∙ ap (λ xs. store written ++ xs) rest)

  pub lent_inside : (a : Arrangement) (shape : Shape) (component : ℕ) (area : Area) (slots : List A) → area ≡ area_of a shape component → component < shape.components
      → length (store slots) ≡ shape.height * shape.width * shape.components → area.start + area.count ≤ length (store slots)
  lent_inside a shape component area slots is low whole =
      subst (λ (x : Area). x.start + x.count ≤ length (store slots)) (sym is) (omega (arith, area_inside a shape component low, whole))

  pub lent_length : (a : Arrangement) (shape : Shape) (component : ℕ) (area : Area) (slots : List A) → area ≡ area_of a shape component → component < shape.components
      → length (store slots) ≡ shape.height * shape.width * shape.components → length (store (lent area slots)) ≡ shape.height * shape.width * area.components
  lent_length a shape component area slots is low whole =
      let fits = lent_inside a shape component (area_of a shape component) slots refl low whole in
      subst (λ (x : Area). length (store (lent x slots)) ≡ shape.height * shape.width * x.components) (sym is)
      (ap length (lent_is (area_of a shape component) slots fits) ∙ part_length (area_of a shape component) (store slots) fits ∙ area_count a shape component)

  pub lent_component : (a : Arrangement) (shape : Shape) (component : ℕ) (area : Area) → area ≡ area_of a shape component → component < shape.components
      → (area.component < area.components) × (area.components ≤ shape.components)
  lent_component a shape component area is low =
      subst (λ (x : Area). (x.component < x.components) × (x.components ≤ shape.components)) (sym is) (area_component a shape component low)

  pub lent_small : (area : Area) (most : ℕ) (slots : List A) → area.start + area.count ≤ length (store slots) → ((k : ℕ) → get_or (store slots) k 0 ≤ most)
      → (k : ℕ) → get_or (store (lent area slots)) k 0 ≤ most
  lent_small area most slots inside small k = omega (arith, ap (λ xs. get_or xs k 0) (lent_is area slots inside), part_small area most (store slots) small k)

  given_size : (area : Area) (written slots : List A) → area.start + area.count ≤ length (store slots) → length (store written) ≡ length (store (lent area slots)) → length (store written) ≡ area.count
  given_size area written slots inside len = len ∙ ap length (lent_is area slots inside) ∙ part_length area (store slots) inside

  pub given_length : (area : Area) (written slots : List A) → area.start + area.count ≤ length (store slots) → length (store written) ≡ length (store (lent area slots))
      → length (store (given_back area written slots)) ≡ length (store slots)
  given_length area written slots inside len =
      ap length (given_is area written slots inside) ∙ put_length area (store written) (store slots) (given_size area written slots inside len) inside

  pub given_small : (area : Area) (most : ℕ) (written slots : List A) → area.start + area.count ≤ length (store slots) → length (store written) ≡ length (store (lent area slots))
      → ((k : ℕ) → get_or (store slots) k 0 ≤ most) → ((k : ℕ) → get_or (store written) k 0 ≤ most) → (k : ℕ) → get_or (store (given_back area written slots)) k 0 ≤ most
  given_small area most written slots inside len small small_written k =
      omega (
        arith,
        ap (λ xs. get_or xs k 0) (given_is area written slots inside),
        put_small area most (store written) (store slots) (given_size area written slots inside len) inside small small_written k,
      )

  pub given_plane : (a : Arrangement) (shape : Shape) (component : ℕ) (area : Area) (written slots : List A) → area ≡ area_of a shape component → component < shape.components
      → length (store slots) ≡ shape.height * shape.width * shape.components → length (store written) ≡ length (store (lent area slots))
      → component_plane shape.width area.components area.component (store written)
      ≡ component_plane shape.width shape.components component (arranged a shape.components (store (given_back area written slots)))
  given_plane a shape component area written slots is low whole =
      let here : Area = area_of a shape component in
      let fits = lent_inside a shape component here slots refl low whole in
      subst (λ (x : Area). length (store written) ≡ length (store (lent x slots))
      → component_plane shape.width x.components x.component (store written) ≡ component_plane shape.width shape.components component (arranged a shape.components (store (given_back x written slots))))
      (sym is)
      (λ len.
      let size = given_size here written slots fits len in
      ap (component_plane shape.width here.components here.component) (sym (put_part here (store written) (store slots) size fits))
      ∙ area_plane a shape component (put_in here (store written) (store slots)) low (put_length here (store written) (store slots) size fits ∙ whole)
      ∙ ap (λ xs. component_plane shape.width shape.components component (arranged a shape.components xs)) (sym (given_is here written slots fits)))

  pub given_others : (a : Arrangement) (shape : Shape) (component : ℕ) (area : Area) (written slots : List A) → area ≡ area_of a shape component → component < shape.components
      → length (store slots) ≡ shape.height * shape.width * shape.components → length (store written) ≡ length (store (lent area slots))
      → ((k other : ℕ) → other < area.components → other ≢ area.component → get_or (store written) (k * area.components + other) 0 ≡ get_or (store (lent area slots)) (k * area.components + other) 0)
      → (k other : ℕ) → other < shape.components → other ≢ component
      → get_or (arranged a shape.components (store (given_back area written slots))) (k * shape.components + other) 0 ≡ get_or (arranged a shape.components (store slots)) (k * shape.components + other) 0
  given_others a shape component area written slots is low whole =
      let here : Area = area_of a shape component in
      let fits = lent_inside a shape component here slots refl low whole in
      subst (λ (x : Area). length (store written) ≡ length (store (lent x slots))
      → ((k other : ℕ) → other < x.components → other ≢ x.component → get_or (store written) (k * x.components + other) 0 ≡ get_or (store (lent x slots)) (k * x.components + other) 0)
      → (k other : ℕ) → other < shape.components → other ≢ component
      → get_or (arranged a shape.components (store (given_back x written slots))) (k * shape.components + other) 0 ≡ get_or (arranged a shape.components (store slots)) (k * shape.components + other) 0)
      (sym is)
      (λ len others k other below differs.
      ap (λ xs. get_or (arranged a shape.components xs) (k * shape.components + other) 0) (given_is here written slots fits)
      ∙ put_others a shape component (store written) (store slots) low whole (given_size here written slots fits len)
      (λ i o l d. others i o l d ∙ ap (λ xs. get_or xs (i * here.components + o) 0) (lent_is here slots fits)) k other below differs)
