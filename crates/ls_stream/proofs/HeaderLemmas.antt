-- The contents of a frame header: what is read of bytes is what they are by the grammar, and what is so by the grammar is read.
use Rattle.std.proofs.Common.{◌≡◌, ℕ, zero, suc, ◌+◌, ◌*◌, ◌^◌, ◌<◌, ◌≤◌, false, cond, leb, eqb, List, [], ◌∷◌, length, map, flat_map, get_or, take, inl, inr, Result, Ok, Err, refl, sym, ap, subst, ◌∙◌, arith}
use Rattle.std.specs.Prelude.{◌&&◌, ◌||◌, not}
use Rattle.std.specs.List.{list_any}
use Rattle.std.proofs.lemmas.Bool.{cases_Bool, cond-true, cond-false, leb-true, le-leb, eqb-true, eqb-false, ne_eqb, and_parts, not-true, or_parts}
use Rattle.ls_frame.specs.declared.frame.Kind.{Kind}
use Rattle.ls_frame.specs.declared.frame.Kind.TheVariants.{Gray, Color}
use Rattle.ls_frame.specs.Picture.{Picture, IsFrame, components, sample_count, most_samples}
use Rattle.ls_bits.specs.Bits.{AreBytes}
use Rattle.ls_stream.specs.declared.faults.StreamFault.{StreamFault}
use Rattle.ls_stream.specs.declared.faults.StreamFault.TheVariants.{BadSegment, Unsupported, TooLarge}
use Rattle.ls_stream.specs.declared.faults.What.TheVariants as what
use Rattle.ls_stream.specs.declared.segments.read.FrameHeader.{FrameHeader}
use Rattle.ls_stream.specs.Segments.{field_of, Component, Header, component_bytes, header_contents}
use Rattle.ls_stream.specs.Grammar.{AreApart, IsHeaderOf}
use Rattle.ls_stream.specs.View.Reading.{◌>>=◌, wanted, kind_of_count, id_of, ids_of, frame_header_of}
use Rattle.ls_stream.specs.View.Outlines.{ids_in}
use Rattle.ls_stream.proofs.StepLemmas.{step_ok, test_ok, same_ok}
use Rattle.ls_stream.proofs.FrameLemmas.{few_components}
use Rattle.ls_stream.proofs.SegmentLemmas.{places_are, field_high, field_low, two_again}

abbrev byte : List ℕ → ℕ → ℕ
byte contents i = get_or contents i 0

-- ---- the identifiers

-- an identifier that is read: at its place, with sampling factors 1, and different from those before
record IdRead (before contents : List ℕ) (place id : ℕ) : Type 0 where
  is : id ≡ byte contents place
  sampled : byte contents (place + 1) ≡ 17
  another : list_any (λ other. eqb other id) before ≡ false

id_read : (before contents : List ℕ) (place id : ℕ) → id_of before contents place ≡ Ok id → IdRead before contents place id
unfolding id_of
id_read before contents place id e =
    let here = byte contents place in
    let last : Result ℕ StreamFault = Ok here in
    let first = test_ok (not (list_any (λ other. eqb other here) before)) BadSegment (wanted (eqb (byte contents (place + 1)) 17) (Unsupported what.Sampling) >>= λ sampled. last) id e in
    let second = test_ok (eqb (byte contents (place + 1)) 17) (Unsupported what.Sampling) last id first.1 in
    let same : here ≡ id = same_ok here id second.1 in
    record {
      is = sym same;
      sampled = eqb-true _ 17 second.0;
      another = subst (λ n. list_any (λ other. eqb other n) before ≡ false) same (not-true _ first.0);
    }

id_again : (before contents : List ℕ) (place : ℕ) → byte contents (place + 1) ≡ 17 → list_any (λ other. eqb other (byte contents place)) before ≡ false
    → id_of before contents place ≡ Ok (byte contents place)
unfolding id_of
id_again before contents place sampled another = rw (another, sampled) refl

-- ---- what a header is read as

component : List ℕ → ℕ → Component
component contents place = record { id = byte contents place; table = byte contents (place + 2) }

components_in : Kind → List ℕ → List Component
components_in Gray contents = component contents 6 ∷ []
components_in Color contents = component contents 6 ∷ component contents 9 ∷ component contents 12 ∷ []

header_in : Kind → List ℕ → Header
unfolding field_of
header_in kind contents = record {
  precision = byte contents 0;
  height = field_of contents 1;
  width = field_of contents 3;
  components = components_in kind contents;
}

-- a header whose contents these are, and what is read of it
pub record HeaderRead (contents : List ℕ) (h : FrameHeader) : Type 0 where
  pub header : Header
  pub whole : contents ≡ header_contents header
  pub some_bits : 2 ≤ header.precision
  pub bits : header.precision ≤ 16
  pub precision : header.precision ≡ h.precision
  pub height : header.height ≡ h.height
  pub width : header.width ≡ h.width
  pub some_width : 0 < h.width
  pub height_at : field_of contents 1 ≡ h.height
  pub width_at : field_of contents 3 ≡ h.width
  pub count : length header.components ≡ components h.kind
  pub ids : map (λ c. c.id) header.components ≡ ids_in h
  pub apart : AreApart (map (λ c. c.id) header.components)

-- the components' bytes, and their identifiers
record ComponentsRead (kind : Kind) (contents ids : List ℕ) : Type 0 where
  whole : length contents ≡ 6 + 3 * components kind → AreBytes contents → byte contents 5 ≡ components kind → contents ≡ header_contents (header_in kind contents)
  are : map (λ c. c.id) (components_in kind contents) ≡ take (components kind) ids
  apart : AreApart (map (λ c. c.id) (components_in kind contents))
  count : length (components_in kind contents) ≡ components kind

gray_whole : (contents : List ℕ) → byte contents 7 ≡ 17 → length contents ≡ 9 → AreBytes contents → byte contents 5 ≡ 1 → contents ≡ header_contents (header_in Gray contents)
unfolding header_contents field_of header_in components_in component
gray_whole contents sampled size are one =
    places_are contents 0 9 size
    ∙ sym (rw (field_high contents 1 are, field_low contents 1 are, field_high contents 3 are, field_low contents 3 are, one, sampled) refl)

color_whole : (contents : List ℕ) → byte contents 7 ≡ 17 → byte contents 10 ≡ 17 → byte contents 13 ≡ 17 → length contents ≡ 15 → AreBytes contents → byte contents 5 ≡ 3
    → contents ≡ header_contents (header_in Color contents)
unfolding header_contents field_of header_in components_in component
color_whole contents first second third size are three =
    places_are contents 0 15 size
    ∙ sym (rw (field_high contents 1 are, field_low contents 1 are, field_high contents 3 are, field_low contents 3 are, three, first, second, third) refl)

gray_read : (contents ids : List ℕ) → ids_of Gray contents ≡ Ok ids → ComponentsRead Gray contents ids
unfolding ids_of header_in components_in component
gray_read contents ids e =
    let one = step_ok (id_of [] contents 6) (λ first. Ok (first ∷ 0 ∷ 0 ∷ [])) ids e in
    let first = id_read [] contents 6 one.0 one.1 in
    let same : one.0 ∷ 0 ∷ 0 ∷ [] ≡ ids = same_ok (one.0 ∷ 0 ∷ 0 ∷ []) ids one.2 in
    record {
      whole = λ size are count. gray_whole contents first.sampled size are count;
      are = ap (λ n. n ∷ []) (sym first.is) ∙ ap (λ (ns : List ℕ). take 1 ns) same;
      apart = (tt, tt);
      count = refl;
    }

-- the identifiers of three components, each read at its place
color_joined : (contents ids : List ℕ) (one two three : ℕ) → IdRead [] contents 6 one → IdRead (one ∷ []) contents 9 two → IdRead (one ∷ two ∷ []) contents 12 three
    → one ∷ two ∷ three ∷ [] ≡ ids → ComponentsRead Color contents ids
unfolding header_in components_in component
color_joined contents ids one two three first second third same =
    let before_two = or_parts (eqb one two) false second.another in
    let before_three = or_parts (eqb one three) (eqb two three || false) third.another in
    let again_three = or_parts (eqb two three) false before_three.1 in
    let parts : AreApart (one ∷ two ∷ three ∷ []) = (
      (
        λ e. eqb-false one two before_two.0 (sym e),
        (λ e. eqb-false one three before_three.0 (sym e), tt),
      ),
      (
        (λ e. eqb-false two three again_three.0 (sym e), tt),
        (tt, tt),
      ),
    ) in
    let these : one ∷ two ∷ three ∷ [] ≡ byte contents 6 ∷ byte contents 9 ∷ byte contents 12 ∷ [] =
    ap (λ n. n ∷ two ∷ three ∷ []) first.is ∙ ap (λ n. byte contents 6 ∷ n ∷ three ∷ []) second.is ∙ ap (λ n. byte contents 6 ∷ byte contents 9 ∷ n ∷ []) third.is in
    record {
      whole = λ size are count. color_whole contents first.sampled second.sampled third.sampled size are count;
      are = sym these ∙ ap (λ (ns : List ℕ). take 3 ns) same;
      apart = subst AreApart these parts;
      count = refl;
    }

color_read : (contents ids : List ℕ) → ids_of Color contents ≡ Ok ids → ComponentsRead Color contents ids
unfolding ids_of
color_read contents ids e =
    let one = step_ok (id_of [] contents 6) (λ a. id_of (a ∷ []) contents 9 >>= λ b. id_of (a ∷ b ∷ []) contents 12 >>= λ c. Ok (a ∷ b ∷ c ∷ [])) ids e in
    let two = step_ok (id_of (one.0 ∷ []) contents 9) (λ b. id_of (one.0 ∷ b ∷ []) contents 12 >>= λ c. Ok (one.0 ∷ b ∷ c ∷ [])) ids one.2 in
    let three = step_ok (id_of (one.0 ∷ two.0 ∷ []) contents 12) (λ c. Ok (one.0 ∷ two.0 ∷ c ∷ [])) ids two.2 in
    color_joined contents ids one.0 two.0 three.0 (id_read [] contents 6 one.0 one.1) (id_read (one.0 ∷ []) contents 9 two.0 two.1) (id_read (one.0 ∷ two.0 ∷ []) contents 12 three.0 three.1)
    (same_ok (one.0 ∷ two.0 ∷ three.0 ∷ []) ids three.2)

ids_read : (kind : Kind) (contents ids : List ℕ) → ids_of kind contents ≡ Ok ids → ComponentsRead kind contents ids
ids_read Gray contents ids e = gray_read contents ids e
ids_read Color contents ids e = color_read contents ids e

abbrev kind_said : Kind → Result Kind StreamFault
kind_said kind = Ok kind

kind_read : (count : ℕ) (kind : Kind) → kind_of_count count ≡ Ok kind → count ≡ components kind
kind_read count kind e = elim (cases_Bool (eqb count 1)) [
  | inl one ↦
      let gray : kind_said Gray ≡ Ok kind = sym (cond-true (eqb count 1) (Ok Gray) _ one) ∙ e in
      eqb-true count 1 one ∙ ap components (same_ok Gray kind gray)
  | inr other ↦
      let rest : cond (eqb count 3) (Ok Color) (Err (Unsupported (what.Components count))) ≡ Ok kind = sym (cond-false (eqb count 1) (Ok Gray) _ other) ∙ e in
      elim (cases_Bool (eqb count 3)) [
        | inl three ↦
            let color : kind_said Color ≡ Ok kind = sym (cond-true (eqb count 3) (Ok Color) _ three) ∙ rest in
            eqb-true count 3 three ∙ ap components (same_ok Color kind color)
        | inr neither ↦
            let none : ◌≡◌ {A = Result Kind StreamFault} (Err (Unsupported (what.Components count))) (Ok kind) = sym (cond-false (eqb count 3) (Ok Color) _ neither) ∙ rest in
            absurd (let bad : ⊥ = cc in bad)
      ]
]

positive : (n : ℕ) → eqb n 0 ≡ false → 0 < n
positive zero e = absurd (eqb-false 0 0 e refl)
positive (suc n) e = omega arith

abbrev read_header : List ℕ → Kind → List ℕ → FrameHeader
read_header contents kind ids = record { precision = byte contents 0; height = field_of contents 1; width = field_of contents 3; kind = kind; ids = ids }

-- contents that passed each test, and their header
header_joined : (contents : List ℕ) (kind : Kind) (ids : List ℕ) (h : FrameHeader) → AreBytes contents → length contents ≡ 6 + 3 * components kind
    → byte contents 5 ≡ components kind → 2 ≤ byte contents 0 → byte contents 0 ≤ 16 → 0 < field_of contents 3 → ComponentsRead kind contents ids
    → read_header contents kind ids ≡ h → HeaderRead contents h
unfolding header_in
header_joined contents kind ids h are size count some_bits bits some_width read same =
    subst (λ (g : FrameHeader). HeaderRead contents g) same (record {
      header = header_in kind contents;
      whole = read.whole size are count;
      some_bits = some_bits;
      bits = bits;
      precision = refl;
      height = refl;
      width = refl;
      some_width = some_width;
      height_at = refl;
      width_at = refl;
      count = read.count;
      ids = read.are;
      apart = read.apart;
    })

pub header_read : (contents : List ℕ) (h : FrameHeader) → AreBytes contents → frame_header_of contents ≡ Ok h → HeaderRead contents h
unfolding frame_header_of header_in
header_read contents h are e =
    let precision = byte contents 0 in
    let height = field_of contents 1 in
    let width = field_of contents 3 in
    let made : Kind → List ℕ → Result FrameHeader StreamFault = λ kind ids. Ok (record { precision = precision; height = height; width = width; kind = kind; ids = ids }) in
    let few : Kind → List ℕ → Result FrameHeader StreamFault = λ kind ids. wanted (leb (sample_count kind width height) most_samples) TooLarge >>= λ passed. made kind ids in
    let named : Kind → Result FrameHeader StreamFault = λ kind. ids_of kind contents >>= λ ids. few kind ids in
    let sized : Kind → Result FrameHeader StreamFault = λ kind. wanted (eqb (length contents) (6 + 3 * components kind)) BadSegment >>= λ passed. named kind in
    let kinds : Result FrameHeader StreamFault = kind_of_count (byte contents 5) >>= λ kind. sized kind in
    let wide : Result FrameHeader StreamFault = wanted (not (eqb width 0)) BadSegment >>= λ passed. kinds in
    let high : Result FrameHeader StreamFault = wanted (not (eqb height 0)) (Unsupported what.HeightZero) >>= λ passed. wide in
    let deep : Result FrameHeader StreamFault = wanted (leb 2 precision && leb precision 16) BadSegment >>= λ passed. high in
    let h0 = test_ok (leb 6 (length contents)) BadSegment deep h e in
    let h1 = test_ok (leb 2 precision && leb precision 16) BadSegment high h h0.1 in
    let h2 = test_ok (not (eqb height 0)) (Unsupported what.HeightZero) wide h h1.1 in
    let h3 = test_ok (not (eqb width 0)) BadSegment kinds h h2.1 in
    let h4 = step_ok (kind_of_count (byte contents 5)) (λ kind. sized kind) h h3.1 in
    let kind = h4.0 in
    let h5 = test_ok (eqb (length contents) (6 + 3 * components kind)) BadSegment (named kind) h h4.2 in
    let h6 = step_ok (ids_of kind contents) (λ ids. few kind ids) h h5.1 in
    let h7 = test_ok (leb (sample_count kind width height) most_samples) TooLarge (made kind h6.0) h h6.2 in
    let bits = and_parts (leb 2 precision) (leb precision 16) h1.0 in
    header_joined contents kind h6.0 h are (eqb-true _ _ h5.0) (kind_read (byte contents 5) kind h4.1) (leb-true 2 precision bits.0) (leb-true precision 16 bits.1)
    (positive width (not-true _ h3.0)) (ids_read kind contents h6.0 h6.1) (same_ok (record { precision = precision; height = height; width = width; kind = kind; ids = h6.0 }) h h7.1)

-- ---- what is a header by the grammar is read

abbrev header_of : ℕ → ℕ → ℕ → List Component → Header
header_of precision height width cs = record { precision = precision; height = height; width = width; components = cs }

abbrev read_as : ℕ → ℕ → ℕ → Kind → List ℕ → Result FrameHeader StreamFault
read_as precision height width kind ids = Ok (record { precision = precision; height = height; width = width; kind = kind; ids = ids })

gray_again : (precision height width : ℕ) (a : Component) → 2 ≤ precision → precision ≤ 16 → 0 < height → 0 < width → sample_count Gray width height ≤ most_samples
    → frame_header_of (header_contents (header_of precision height width (a ∷ []))) ≡ read_as precision height width Gray (a.id ∷ 0 ∷ 0 ∷ [])
unfolding header_contents frame_header_of field_of ids_of id_of
gray_again precision height width a some_bits bits high wide few =
    rw (
      le-leb 2 precision some_bits,
      le-leb precision 16 bits,
      two_again height,
      two_again width,
      ne_eqb height 0 (λ e. omega arith),
      ne_eqb width 0 (λ e. omega arith),
      le-leb (sample_count Gray width height) most_samples few,
    ) refl

color_again : (precision height width : ℕ) (a b c : Component) → 2 ≤ precision → precision ≤ 16 → 0 < height → 0 < width → sample_count Color width height ≤ most_samples
    → AreApart (a.id ∷ b.id ∷ c.id ∷ [])
    → frame_header_of (header_contents (header_of precision height width (a ∷ b ∷ c ∷ []))) ≡ read_as precision height width Color (a.id ∷ b.id ∷ c.id ∷ [])
unfolding header_contents frame_header_of field_of ids_of id_of
color_again precision height width a b c some_bits bits high wide few apart =
    rw (
      le-leb 2 precision some_bits,
      le-leb precision 16 bits,
      two_again height,
      two_again width,
      ne_eqb height 0 (λ e. omega arith),
      ne_eqb width 0 (λ e. omega arith),
      ne_eqb a.id b.id (λ e. apart.0.0 (sym e)),
      ne_eqb a.id c.id (λ e. apart.0.1.0 (sym e)),
      ne_eqb b.id c.id (λ e. apart.1.0.0 (sym e)),
      le-leb (sample_count Color width height) most_samples few,
    ) refl

-- what is read of a header of a picture
pub record HeaderSays (kind : Kind) (header : Header) (h : FrameHeader) : Type 0 where
  pub read : frame_header_of (header_contents header) ≡ Ok h
  pub kind_is : h.kind ≡ kind
  pub precision : h.precision ≡ header.precision
  pub height : h.height ≡ header.height
  pub width : h.width ≡ header.width
  pub ids : ids_in h ≡ map (λ c. c.id) header.components

again_by : (kind : Kind) (precision height width : ℕ) (cs : List Component) → 2 ≤ precision → precision ≤ 16 → 0 < height → 0 < width → sample_count kind width height ≤ most_samples
    → length cs ≡ components kind → AreApart (map (λ c. c.id) cs) → (h : FrameHeader) × HeaderSays kind (header_of precision height width cs) h
again_by Gray precision height width [] some_bits bits high wide few count apart = absurd (omega arith)
again_by Gray precision height width (a ∷ []) some_bits bits high wide few count apart = (
  record { precision = precision; height = height; width = width; kind = Gray; ids = a.id ∷ 0 ∷ 0 ∷ [] },
  record {
    read = gray_again precision height width a some_bits bits high wide few;
    kind_is = refl;
    precision = refl;
    height = refl;
    width = refl;
    ids = refl;
  },
)
again_by Gray precision height width (a ∷ b ∷ cs) some_bits bits high wide few count apart = absurd (omega arith)
again_by Color precision height width [] some_bits bits high wide few count apart = absurd (omega arith)
again_by Color precision height width (a ∷ []) some_bits bits high wide few count apart = absurd (omega arith)
again_by Color precision height width (a ∷ b ∷ []) some_bits bits high wide few count apart = absurd (omega arith)
again_by Color precision height width (a ∷ b ∷ c ∷ []) some_bits bits high wide few count apart = (
  record { precision = precision; height = height; width = width; kind = Color; ids = a.id ∷ b.id ∷ c.id ∷ [] },
  record {
    read = color_again precision height width a b c some_bits bits high wide few apart;
    kind_is = refl;
    precision = refl;
    height = refl;
    width = refl;
    ids = refl;
  },
)
again_by Color precision height width (a ∷ b ∷ c ∷ d ∷ cs) some_bits bits high wide few count apart = absurd (omega arith)

pub header_again : (f : Picture) (header : Header) → IsFrame f → IsHeaderOf f header → (h : FrameHeader) × HeaderSays f.kind header h
header_again f header frame says =
    again_by f.kind header.precision header.height header.width header.components says.some_bits says.bits (rw says.height frame.formed.some_height) (rw says.width frame.formed.some_width)
    (rw (says.height, says.width) frame.formed.few) says.count says.apart

components_length : (cs : List Component) → length (flat_map component_bytes cs) ≡ 3 * length cs
components_length [] = refl
components_length (c ∷ cs) = omega (arith, components_length cs)

pub header_short : (kind : Kind) (header : Header) → length header.components ≡ components kind → 2 + length (header_contents header) < 2 ^ 16
unfolding header_contents
header_short kind header count = omega (arith, few_components kind, components_length header.components, count)
