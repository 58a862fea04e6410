-- No codestream is a proper front of another, and each is that of one frame only.
use Rattle.std.proofs.Common.{◌≡◌, ℕ, zero, suc, ◌+◌, ◌*◌, ◌/◌, ◌%◌, ◌<◌, ◌≤◌, Bool, true, false, cond, ltb, List, [], ◌∷◌, ◌++◌, Ok, Err, length, drop, get_or, refl, sym, ◌∙◌, ap, subst, append-nil, arith}
use Rattle.std.specs.Prelude.{Option, None, Some}
use Rattle.std.proofs.Math.Nat.{mod-lt, div-lt_iff_lt-mul}
use Rattle.std.proofs.lemmas.Grind.{same_number_lists}
use Rattle.std.proofs.lemmas.Nat.{div-add-mod'}
use Rattle.ls_frame.specs.declared.frame.Kind.{Kind}
use Rattle.ls_frame.specs.declared.presets.PresetFault.{PresetFault}
use Rattle.ls_frame.specs.declared.presets.PresetFault.TheVariants.{MaxvalRange}
use Rattle.ls_frame.specs.Picture.{Picture, IsFrame, components}
use Rattle.ls_frame.specs.Parameters.{Parameters, IsLegal, preset_fault, unless_fault, explicit_parameters}
use Rattle.ls_bits.specs.Bits.{AreBytes}
use Rattle.ls_bits.specs.Stuffing.{unstuff}
use Rattle.ls_stream.specs.Planes.{Plane, IsSamplePlane}
use Rattle.ls_stream.specs.Components.{plane_of}
use Rattle.ls_stream.specs.Grammar.{parameters_of, greatest_maxval, IsCoded, Spells}
use Rattle.ls_stream.specs.View.Outlines.{Outline, ids_in, scans_at, outline_at, AreDataOf, IsOutlineOf}
use Rattle.ls_stream.specs.View.Reading.{◌>>=◌, Take, opening_at}
use Rattle.ls_stream.proofs.FrameLemmas.{some_components}
use Rattle.ls_stream.proofs.FrameReadingLemmas.{plane_is}
use Rattle.ls_stream.proofs.OutlineLemmas.{opening_read, spellings_have_outlines}
use Rattle.ls_stream.proofs.PlaneLaws.{planes_are_told_apart}
use Rattle.ls_stream.proofs.ScanReadingLemmas.{component_at}
use Rattle.ls_stream.proofs.StepLemmas.{step_ok, same_ok}

-- ---- outlines

abbrev read_to : Outline → List ℕ → Take Outline
read_to o rest = Ok (o, rest)

-- reading the same bytes gives the same
one_outline : (a b : Outline) (x y bytes : List ℕ) → outline_at bytes ≡ read_to a x → outline_at bytes ≡ read_to b y → (a ≡ b) × (x ≡ y)
one_outline a b x y bytes e f =
    let same : ◌≡◌ {A = Outline × List ℕ} (a, x) (b, y) = same_ok (a, x) (b, y) (sym e ∙ f) in
    (ap (λ (p : Outline × List ℕ). p.0) same, ap (λ (p : Outline × List ℕ). p.1) same)

pub no_codestream_begins_another : (one other rest : List ℕ) (f g : Picture) → Spells one f → Spells other g → other ≡ one ++ rest → rest ≡ []
no_codestream_begins_another one other rest f g first second e =
    let front = spellings_have_outlines one rest f first in
    let whole = spellings_have_outlines other [] g second in
    (one_outline front.0 whole.0 rest [] (one ++ rest) front.1 (ap outline_at (sym e ∙ sym (append-nil other)) ∙ whole.1)).1

-- ---- their parameters are legal

abbrev pub LegalWithoutFault : Type 0
LegalWithoutFault = (p : Parameters) → p.maxval ≤ 65535 → preset_fault p ≡ None → IsLegal p

pub unless_ok : (fault : Option PresetFault) (q p : Parameters) → unless_fault fault q ≡ Ok p → (q ≡ p) × (fault ≡ None)
unless_ok None q p e = let same : q ≡ p = cc in (same, refl)
unless_ok (Some fault) q p e = absurd cc

faultless : (q p : Parameters) → explicit_parameters q ≡ Ok p → preset_fault p ≡ None
unfolding explicit_parameters
faultless q p e = let kept = unless_ok (preset_fault q) q p e in subst (λ (r : Parameters). preset_fault r ≡ None) kept.0 kept.1

faultless_by : (test : Bool) (q p : Parameters) → cond test (Err MaxvalRange) (explicit_parameters q) ≡ Ok p → preset_fault p ≡ None
faultless_by true q p e = absurd cc
faultless_by false q p e = faultless q p e

pub read_faultless : (precision : ℕ) (written p : Parameters) → parameters_of precision written ≡ Ok p → preset_fault p ≡ None
unfolding parameters_of
read_faultless precision written p e = faultless_by (ltb (greatest_maxval precision) written.maxval) _ p e

outline_faultless : (bytes rest : List ℕ) (o : Outline) → AreBytes bytes → outline_at bytes ≡ read_to o rest → preset_fault o.parameters ≡ None
unfolding outline_at
outline_faultless bytes rest o are e =
    let a = step_ok (opening_at bytes)
    (λ opening. scans_at (drop 1 (ids_in opening.0)) opening.2 >>= λ scans. Ok (record { header = opening.0; parameters = opening.1; scans = scans.0 }, scans.1)) (o, rest) e in
    let h = a.0.0 in
    let p = a.0.1 in
    let b = step_ok (scans_at (drop 1 (ids_in h)) a.0.2) (λ scans. Ok (record { header = h; parameters = p; scans = scans.0 }, scans.1)) (o, rest) a.2 in
    let made : Outline × List ℕ = (record { header = h; parameters = p; scans = b.0.0 }, b.0.1) in
    ap (λ (x : Outline × List ℕ). preset_fault x.0.parameters) (sym (same_ok made (o, rest) b.2))
    ∙ read_faultless _ _ p (opening_read bytes a.0 are a.1).parameters_are

-- ---- planes

one_plane : (p : Parameters) (plane other : Plane) (width height : ℕ) (bytes : List ℕ) → IsLegal p → 1 ≤ width
    → IsSamplePlane p.maxval width height plane → IsSamplePlane p.maxval width height other → IsCoded p plane bytes → IsCoded p other bytes → plane ≡ other
one_plane p plane other width height bytes legal some is is' coded coded' =
    (planes_are_told_apart p plane other width height (unstuff bytes) coded.more coded'.more legal some is is' coded.bits coded'.bits).0

abbrev HasSamplePlanes : ℕ → ℕ → ℕ → Picture → Type 0
HasSamplePlanes maxval width height f = (i : ℕ) → IsSamplePlane maxval width height (plane_of f i)

same_planes : (p : Parameters) (f g : Picture) (width height from i : ℕ) (scans : List (List ℕ)) → IsLegal p → 1 ≤ width
    → HasSamplePlanes p.maxval width height f → HasSamplePlanes p.maxval width height g → AreDataOf p f from scans → AreDataOf p g from scans → i < length scans
    → plane_of f (from + i) ≡ plane_of g (from + i)
same_planes p f g width height from i [] legal some is is' coded coded' h = absurd (omega arith)
same_planes p f g width height from zero (stuffed ∷ scans) legal some is is' coded coded' h =
    let here : from ≡ from + 0 = omega arith in
    subst (λ n. plane_of f n ≡ plane_of g n) here (one_plane p (plane_of f from) (plane_of g from) width height stuffed legal some (is from) (is' from) coded.0 coded'.0)
same_planes p f g width height from (suc i) (stuffed ∷ scans) legal some is is' coded coded' h =
    let next : suc from + i ≡ from + suc i = omega arith in
    subst (λ n. plane_of f n ≡ plane_of g n) next (same_planes p f g width height (suc from) i scans legal some is is' coded.1 coded'.1 (omega arith))

-- ---- samples

sample_of_plane : (f : Picture) (component k : ℕ) → IsFrame f → k < f.height * f.width
    → get_or (plane_of f component).samples k 0 ≡ get_or f.samples (k * components f.kind + component) 0
sample_of_plane f component k frame h =
    let turned : f.width * f.height ≡ f.height * f.width = omega arith in
    component_at f.width f.height (components f.kind) component k f.samples (some_components f.kind) (frame.formed.count ∙ ap (λ n. n * components f.kind) turned) h

same_samples : (f g : Picture) → IsFrame f → IsFrame g → f.kind ≡ g.kind → f.width ≡ g.width → f.height ≡ g.height
    → ((i : ℕ) → i < components f.kind → plane_of f i ≡ plane_of g i) → f.samples ≡ g.samples
same_samples f g frame frame' kinds widths heights planes =
    let count : ℕ = components f.kind in
    let counts : count ≡ components g.kind = ap components kinds in
    let some : 0 < count = omega (arith, some_components f.kind) in
    let places : length f.samples ≡ f.height * f.width * count = frame.formed.count ∙ (let turned : f.width * f.height ≡ f.height * f.width = omega arith in ap (λ n. n * count) turned) in
    let lengths : length f.samples ≡ length g.samples =
    frame.formed.count ∙ ap (λ w. w * f.height * count) widths ∙ ap (λ h. g.width * h * count) heights ∙ ap (λ n. g.width * g.height * n) counts ∙ sym frame'.formed.count in
    same_number_lists f.samples g.samples lengths
    (λ k h.
    let split : k / count * count + k % count ≡ k = div-add-mod' k count in
    let inside : k < f.height * f.width * count = omega arith in
    let pixel : k / count < f.height * f.width = (div-lt_iff_lt-mul some).1 inside in
    let pixels : f.height * f.width ≡ g.height * g.width = ap (λ h. h * f.width) heights ∙ ap (λ w. g.height * w) widths in
    ap (λ n. get_or f.samples n 0) (sym split)
    ∙ sym (sample_of_plane f (k % count) (k / count) frame pixel)
    ∙ ap (λ (plane : Plane). get_or plane.samples (k / count) 0) (planes (k % count) (mod-lt k some))
    ∙ sample_of_plane g (k % count) (k / count) frame' (omega arith)
    ∙ ap (λ n. get_or g.samples (k / count * n + k % count) 0) (sym counts)
    ∙ ap (λ n. get_or g.samples n 0) split)

-- ---- frames

picture : Kind → ℕ → ℕ → ℕ → List ℕ → Picture
picture kind width height maxval samples = record { kind = kind; width = width; height = height; maxval = maxval; samples = samples }

same_pictures : (f g : Picture) → f.kind ≡ g.kind → f.width ≡ g.width → f.height ≡ g.height → f.maxval ≡ g.maxval → f.samples ≡ g.samples → f ≡ g
unfolding picture
same_pictures f g kinds widths heights maxvals samples =
    ap (λ kind. picture kind f.width f.height f.maxval f.samples) kinds
    ∙ ap (λ width. picture g.kind width f.height f.maxval f.samples) widths
    ∙ ap (λ height. picture g.kind g.width height f.maxval f.samples) heights
    ∙ ap (λ maxval. picture g.kind g.width g.height maxval f.samples) maxvals
    ∙ ap (picture g.kind g.width g.height g.maxval) samples

one_frame : (f g : Picture) (o : Outline) → IsFrame f → IsFrame g → IsLegal o.parameters → IsOutlineOf f o → IsOutlineOf g o → f ≡ g
one_frame f g o frame frame' legal is is' =
    let kinds : f.kind ≡ g.kind = sym is.kind ∙ is'.kind in
    let widths : f.width ≡ g.width = sym is.width ∙ is'.width in
    let heights : f.height ≡ g.height = sym is.height ∙ is'.height in
    let planes : (i : ℕ) → i < components f.kind → plane_of f i ≡ plane_of g i = λ i h.
    let first : 0 + i ≡ i = omega arith in
    subst (λ n. plane_of f n ≡ plane_of g n) first
    (same_planes o.parameters f g o.header.width o.header.height 0 i o.scans legal (omega (arith, is.width, frame.formed.some_width))
    (λ k. plane_is f o.parameters.maxval o.header.width o.header.height k frame is.maxval is.width is.height)
    (λ k. plane_is g o.parameters.maxval o.header.width o.header.height k frame' is'.maxval is'.width is'.height)
    is.coded is'.coded (omega (arith, is.count))) in
    same_pictures f g kinds widths heights (sym is.maxval ∙ is'.maxval) (same_samples f g frame frame' kinds widths heights planes)

pub one_frame_each : LegalWithoutFault → (bytes : List ℕ) (f g : Picture) → Spells bytes f → Spells bytes g → f ≡ g
one_frame_each legal bytes f g first second =
    let one = spellings_have_outlines bytes [] f first in
    let two = spellings_have_outlines bytes [] g second in
    let same : one.0 ≡ two.0 = (one_outline one.0 two.0 [] [] (bytes ++ []) one.1 two.1).0 in
    let faultless : preset_fault one.0.parameters ≡ None =
    outline_faultless bytes [] one.0 first.are_bytes (ap outline_at (sym (append-nil bytes)) ∙ one.1) in
    one_frame f g one.0 first.frame second.frame (legal one.0.parameters (omega (arith, one.2.maxval, first.frame.formed.maxval)) faultless) one.2 (subst (IsOutlineOf g) (sym same) two.2)
