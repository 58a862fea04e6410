-- The codestream that is written for a frame is one of it by the grammar.
use Rattle.std.proofs.Common.{◌≡◌, ℕ, zero, suc, ◌+◌, ◌^◌, ◌<◌, ◌≤◌, [], ◌∷◌, Bool, true, false, cond, eqb, eqb→eq, length, map, None, inr, refl, sym, ◌∙◌, ap, subst, arith}
use Rattle.std.specs.Prelude.{not, ◌&&◌, Ok}
use Rattle.std.proofs.Math.Pow.{pow_mono}
use Rattle.std.proofs.lemmas.Bool.{false≢true, cond-false, le-ltb, ne_eqb, not-false}
use Rattle.std.proofs.lemmas.List.{length-replicate}
use Rattle.std.proofs.lemmas.List.FromFn.{length-map-range_with_len}
use Rattle.std.specs.List.{range_with_len, AllByRecursion}
use Rattle.ls_frame.specs.declared.frame.Kind.{Kind}
use Rattle.ls_frame.specs.declared.frame.Kind.TheVariants.{Gray, Color}
use Rattle.ls_frame.specs.Picture.{Picture, IsFrame, components}
use Rattle.ls_frame.specs.Parameters.{Parameters, IsLegal, bpp_of, ceil_log2, default_parameters, explicit_parameters, preset_fault, unless_fault}
use Rattle.ls_frame.proofs.ExponentLemmas.{ceil_log2-reaches, ceil_log2-least}
use Rattle.ls_frame.specs.Tuning.{or_default, tuned}
use Rattle.ls_bits.specs.Bits.{zeros}
use Rattle.ls_bits.specs.Stuffing.{stuff}
use Rattle.ls_bits.proofs.StuffingLemmas.{groups-data, groups-unstuffed}
use Rattle.ls_stream.specs.Planes.{plane_bits}
use Rattle.ls_stream.specs.Components.{plane_of}
use Rattle.ls_stream.specs.Segments.{AreTwoByteFields}
use Rattle.ls_stream.specs.Grammar.{presets, MayPrecedeScans, MayFollowScan, AreApart, IsHeaderOf, IsCoded, AreCoded, last_presets, no_presets, greatest_maxval, parameters_of, Says, Spells}
use Rattle.ls_stream.specs.Layout.{written_component, written_header, same_parameters, needs_presets, written_presets, written_scan, layout, codestream}
use Rattle.ls_stream.proofs.ByteLemmas.{codestream_bytes_are}
use Rattle.ls_stream.proofs.LengthLemmas.{within_bound, bound_small}

-- ---- the frame header

apart_by : (kind : Kind) → AreApart (map (λ c. c.id) (map written_component (range_with_len 0 (components kind))))
apart_by Gray = (tt, tt)
apart_by Color = ((λ e. absurd (omega arith), (λ e. absurd (omega arith), tt)), ((λ e. absurd (omega arith), tt), (tt, tt)))

header_of : (f : Picture) → IsFrame f → IsHeaderOf f (written_header f)
header_of f frame = record {
  some_bits = omega arith;
  bits = omega (arith, ceil_log2-least (f.maxval + 1) 16 (omega (arith, frame.formed.maxval)));
  height = refl;
  width = refl;
  count = length-map-range_with_len written_component 0 (components f.kind);
  apart = apart_by f.kind;
}

-- ---- the parameters

-- legal parameters have no fault by Table C.2
abbrev pub LegalAreKept : Type 0
LegalAreKept = (p : Parameters) → IsLegal p → preset_fault p ≡ None

parameters : ℕ → ℕ → ℕ → ℕ → ℕ → Parameters
parameters maxval t1 t2 t3 reset = record { maxval = maxval; t1 = t1; t2 = t2; t3 = t3; reset = reset }

alike : (a b c d e a' b' c' d' e' : ℕ) → a ≡ a' → b ≡ b' → c ≡ c' → d ≡ d' → e ≡ e' → parameters a b c d e ≡ parameters a' b' c' d' e'
alike a b c d e a' b' c' d' e' pa pb pc pd pe = cc

fields : (p : Parameters) → IsLegal p → AreTwoByteFields p
fields p legal = record {
  maxval = omega (arith, legal.maxval);
  t1 = omega (arith, legal.t1, legal.maxval);
  t2 = omega (arith, legal.t2, legal.maxval);
  t3 = omega (arith, legal.t3, legal.maxval);
  reset = omega (arith, legal.reset, legal.maxval);
}

explicit_kept : LegalAreKept → (p : Parameters) → IsLegal p → explicit_parameters p ≡ Ok p
unfolding explicit_parameters
explicit_kept kept p legal = ap (λ fault. unless_fault fault p) (kept p legal)

-- a parameter that is written isn't replaced by its default
chosen : (n default : ℕ) → 0 < n → or_default n default ≡ n
chosen zero default some = absurd (omega arith)
chosen (suc n) default some = cond-false _ _ _ (ne_eqb (suc n) 0 (λ e. absurd (omega arith)))

within : (p : Parameters) → IsLegal p → p.maxval ≤ greatest_maxval (bpp_of p.maxval)
within p legal =
    let reached : p.maxval + 1 ≤ 2 ^ ceil_log2 (p.maxval + 1) = ceil_log2-reaches (p.maxval + 1) (omega (arith, legal.maxval)) in
    let more : 2 ^ ceil_log2 (p.maxval + 1) ≤ 2 ^ bpp_of p.maxval = pow_mono (omega arith) in
    omega arith

unless_over : (precision : ℕ) (written : Parameters) → written.maxval ≤ greatest_maxval precision
    → parameters_of precision written ≡ explicit_parameters (tuned (record { t1 = written.t1; t2 = written.t2; t3 = written.t3; reset = written.reset }) (or_default written.maxval (greatest_maxval precision)))
unfolding parameters_of
unless_over precision written small = cond-false _ _ _ (le-ltb (greatest_maxval precision) written.maxval small)

tuned_again : (p : Parameters) → IsLegal p → (most : ℕ) → tuned (record { t1 = p.t1; t2 = p.t2; t3 = p.t3; reset = p.reset }) (or_default p.maxval most) ≡ p
unfolding tuned parameters
tuned_again p legal most =
    let d : Parameters = default_parameters (or_default p.maxval most) in
    alike _ _ _ _ _ _ _ _ _ _ (chosen p.maxval most legal.some_maxval) (chosen p.t1 d.t1 legal.some_t1) (chosen p.t2 d.t2 (omega (arith, legal.some_t1, legal.some_t2)))
    (chosen p.t3 d.t3 (omega (arith, legal.some_t1, legal.some_t2, legal.some_t3))) (chosen p.reset d.reset (omega (arith, legal.some_reset)))

-- legal parameters that are written are those that are read
written_again : LegalAreKept → (p : Parameters) → IsLegal p → parameters_of (bpp_of p.maxval) p ≡ Ok p
written_again kept p legal =
    unless_over (bpp_of p.maxval) p (within p legal) ∙ ap explicit_parameters (tuned_again p legal (greatest_maxval (bpp_of p.maxval))) ∙ explicit_kept kept p legal

tuned_default : (maxval : ℕ) → tuned (record { t1 = 0; t2 = 0; t3 = 0; reset = 0 }) maxval ≡ default_parameters maxval
unfolding tuned default_parameters
tuned_default maxval = refl

-- and the precision's defaults if none are written
default_again : LegalAreKept → (p : Parameters) → IsLegal p → p ≡ default_parameters (greatest_maxval (bpp_of p.maxval)) → parameters_of (bpp_of p.maxval) no_presets ≡ Ok p
default_again kept p legal e =
    unless_over (bpp_of p.maxval) no_presets (omega arith) ∙ ap explicit_parameters (tuned_default (greatest_maxval (bpp_of p.maxval)) ∙ sym e) ∙ explicit_kept kept p legal

both : (a b : Bool) → (a && b) ≡ true → (a ≡ true) × (b ≡ true)
both true true e = (refl, refl)
both true false e = absurd (false≢true e)
both false b e = absurd (false≢true e)

equal : (a b : ℕ) → eqb a b ≡ true → a ≡ b
equal a b e = eqb→eq a b (rw e tt)

same_are : (p q : Parameters) → same_parameters p q ≡ true → p ≡ q
unfolding parameters
same_are p q e =
    let one = both (eqb p.maxval q.maxval) _ e in
    let two = both (eqb p.t1 q.t1) _ one.1 in
    let three = both (eqb p.t2 q.t2) _ two.1 in
    let four = both (eqb p.t3 q.t3) (eqb p.reset q.reset) three.1 in
    alike p.maxval p.t1 p.t2 p.t3 p.reset q.maxval q.t1 q.t2 q.t3 q.reset (equal _ _ one.0) (equal _ _ two.0) (equal _ _ three.0) (equal _ _ four.0) (equal _ _ four.1)

said_by : LegalAreKept → (p : Parameters) → IsLegal p → (test : Bool) → not (same_parameters p (default_parameters (greatest_maxval (bpp_of p.maxval)))) ≡ test
    → parameters_of (bpp_of p.maxval) (last_presets no_presets (cond test (presets 0 p ∷ []) [])) ≡ Ok p
said_by kept p legal true e = written_again kept p legal
said_by kept p legal false e = default_again kept p legal (same_are p (default_parameters (greatest_maxval (bpp_of p.maxval))) (not-false _ e))

said : LegalAreKept → (p : Parameters) → IsLegal p → parameters_of (bpp_of p.maxval) (last_presets no_presets (written_presets p)) ≡ Ok p
unfolding needs_presets
said kept p legal = said_by kept p legal (needs_presets p) refl

leads_by : (p : Parameters) → IsLegal p → (test : Bool) → AllByRecursion MayPrecedeScans (cond test (presets 0 p ∷ []) [])
leads_by p legal true = (fields p legal, tt)
leads_by p legal false = tt

-- ---- the scans

coded : (p : Parameters) (f : Picture) (component : ℕ) → IsCoded p (plane_of f component) (stuff (plane_bits p (plane_of f component)))
coded p f component =
    let bits = plane_bits p (plane_of f component) in
    let back = groups-unstuffed (suc (length bits)) 8 bits (inr refl) (omega arith) in
    record {
      is_data = (groups-data (suc (length bits)) 8 bits (inr refl) (omega arith)).0;
      more = zeros back.0;
      few = omega (arith, length-replicate back.0 false, back.1);
      bits = back.2;
    }

all_coded : (p : Parameters) (f : Picture) (from count : ℕ) → AreCoded p f from (map (written_scan f p) (range_with_len from count))
all_coded p f from zero = tt
all_coded p f from (suc count) =
    let next : from + 1 ≡ suc from = omega arith in
    (coded p f from, subst (λ n. AreCoded p f n (map (written_scan f p) (range_with_len (from + 1) count))) next (all_coded p f (from + 1) count))

none_after : (p : Parameters) (f : Picture) (from count : ℕ) → AllByRecursion (λ s. AllByRecursion MayFollowScan s.after) (map (written_scan f p) (range_with_len from count))
none_after p f from zero = tt
none_after p f from (suc count) = (tt, none_after p f (from + 1) count)

-- ---- all of it

says : LegalAreKept → (f : Picture) (p : Parameters) → IsFrame f → IsLegal p → p.maxval ≡ f.maxval → Says (layout f p) p f
says kept f p frame legal same = record {
  before = tt;
  header = header_of f frame;
  between = leads_by p legal (needs_presets p);
  parameters_are = ap (λ n. parameters_of (bpp_of n) (last_presets no_presets (written_presets p))) (sym same) ∙ said kept p legal;
  maxval = same;
  count = length-map-range_with_len (written_scan f p) 0 (components f.kind);
  coded = all_coded p f 0 (components f.kind);
  after = none_after p f 0 (components f.kind);
}

pub spells : LegalAreKept → (f : Picture) (p : Parameters) → IsFrame f → IsLegal p → p.maxval ≡ f.maxval → Spells (codestream f p) f
unfolding codestream
spells kept f p frame legal same = record {
  frame = frame;
  are_bytes = codestream_bytes_are f p frame (fields p legal);
  short = omega (arith, within_bound f p frame legal same, bound_small f p frame.formed.few legal);
  codestream = layout f p;
  spelled = refl;
  parameters = p;
  says = says kept f p frame legal same;
}
