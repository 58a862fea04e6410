-- Bytes stop a decoder at one place, with one fault.
use Rattle.std.proofs.Common.{◌≡◌, ℕ, ◌+◌, ◌^◌, ◌≤◌, Bool, true, false, cond, ltb, eqb, List, [], ◌∷◌, ◌++◌, length, drop, inl, inr, Result, Ok, Err, refl, sym, ◌∙◌, ap, subst, arith}
use Rattle.std.proofs.Math.Pow.{pow_mono}
use Rattle.std.proofs.lemmas.Bool.{ltb-false}
use Rattle.ls_frame.specs.declared.presets.PresetFault.TheVariants.{MaxvalRange}
use Rattle.ls_frame.specs.declared.tuning.Tuning.{Tuning}
use Rattle.ls_frame.specs.Parameters.{Parameters, IsLegal, preset_fault, explicit_parameters}
use Rattle.ls_frame.specs.Tuning.{or_default, tuned}
use Rattle.ls_bits.specs.Bits.{AreBytes}
use Rattle.ls_bits.specs.Stuffing.{unstuff}
use Rattle.ls_bits.specs.Data.{stop_at}
use Rattle.ls_bits.specs.declared.data.Stop.{Stop}
use Rattle.ls_bits.specs.declared.data.Stop.TheVariants as stops
use Rattle.ls_bits.specs.declared.source.CodeFault.{CodeFault}
use Rattle.ls_bits.specs.declared.source.CodeFault.TheVariants.{OutOfBits, NotCanonical}
use Rattle.ls_stream.specs.declared.faults.StreamFault.{StreamFault}
use Rattle.ls_stream.specs.declared.segments.read.FrameHeader.{FrameHeader}
use Rattle.ls_stream.specs.Grammar.{parameters_of, greatest_maxval, last_presets, no_presets}
use Rattle.ls_stream.specs.View.FirstFaults.{BreaksData, wrong_code, marker_early, input_ends, leftover, BreakInPlane, HaveLeftoverBits, IsPlaneData}
use Rattle.ls_stream.specs.View.Outlines.{data_at, after_data, ids_in, ScansStop, DecodingStops, at_opening, at_scans}
use Rattle.ls_stream.specs.View.Reading.{next_scan_at, end_at, opening_at}
use Rattle.ls_stream.proofs.FrameLaws.{LegalWithoutFault, read_faultless, unless_ok}
use Rattle.ls_stream.proofs.OneBreakLemmas.{one_break}
use Rattle.ls_stream.proofs.OutlineLemmas.{opening_read}
use Rattle.ls_stream.proofs.PlaneLaws.{planes_are_told_apart}
use Rattle.ls_stream.proofs.StepLemmas.{same_ok, same_fault}

-- ---- the data of a scan

apart : NotCanonical ≡ OutOfBits → ⊥
apart e = cc

stops_apart : stops.Marker ≡ stops.End → ⊥
stops_apart e = cc

-- bits that run out don't break by a wrong code too
not_wrong : (p : Parameters) (width height : ℕ) (bits : List Bool) → IsLegal p → 1 ≤ width → BreakInPlane p width height bits NotCanonical → BreakInPlane p width height bits OutOfBits → ⊥
not_wrong p width height bits legal some wrong short = apart (one_break p width height bits NotCanonical OutOfBits legal some wrong.breaks short.breaks)

not_left_over : (p : Parameters) (width height : ℕ) (bits : List Bool) (fault : CodeFault) → BreakInPlane p width height bits fault → HaveLeftoverBits p width height bits → ⊥
not_left_over p width height bits fault malformed more = malformed.no_plane more.plane more.is_plane more.more more.whole

one_data_fault : (p : Parameters) (width height component : ℕ) (stuffed : List ℕ) (stop : Stop) (f g : StreamFault) → IsLegal p → 1 ≤ width
    → BreaksData p width height component stuffed stop f → BreaksData p width height component stuffed stop g → f ≡ g
one_data_fault p width height component stuffed stop f g legal some (wrong_code h e) (wrong_code h' e') = e ∙ sym e'
one_data_fault p width height component stuffed stop f g legal some (wrong_code h e) (marker_early h' is e') = e ∙ sym e'
one_data_fault p width height component stuffed stop f g legal some (wrong_code h e) (input_ends h' is e') = absurd (not_wrong p width height (unstuff stuffed) legal some h h')
one_data_fault p width height component stuffed stop f g legal some (wrong_code h e) (leftover h' e') = absurd (not_left_over p width height (unstuff stuffed) NotCanonical h h')
one_data_fault p width height component stuffed stop f g legal some (marker_early h is e) (wrong_code h' e') = e ∙ sym e'
one_data_fault p width height component stuffed stop f g legal some (marker_early h is e) (marker_early h' is' e') = e ∙ sym e'
one_data_fault p width height component stuffed stop f g legal some (marker_early h is e) (input_ends h' is' e') = absurd (stops_apart (sym is ∙ is'))
one_data_fault p width height component stuffed stop f g legal some (marker_early h is e) (leftover h' e') = absurd (not_left_over p width height (unstuff stuffed) OutOfBits h h')
one_data_fault p width height component stuffed stop f g legal some (input_ends h is e) (wrong_code h' e') = absurd (not_wrong p width height (unstuff stuffed) legal some h' h)
one_data_fault p width height component stuffed stop f g legal some (input_ends h is e) (marker_early h' is' e') = absurd (stops_apart (sym is' ∙ is))
one_data_fault p width height component stuffed stop f g legal some (input_ends h is e) (input_ends h' is' e') = e ∙ sym e'
one_data_fault p width height component stuffed stop f g legal some (input_ends h is e) (leftover h' e') = absurd (not_left_over p width height (unstuff stuffed) OutOfBits h h')
one_data_fault p width height component stuffed stop f g legal some (leftover h e) (wrong_code h' e') = absurd (not_left_over p width height (unstuff stuffed) NotCanonical h' h)
one_data_fault p width height component stuffed stop f g legal some (leftover h e) (marker_early h' is e') = absurd (not_left_over p width height (unstuff stuffed) OutOfBits h' h)
one_data_fault p width height component stuffed stop f g legal some (leftover h e) (input_ends h' is e') = absurd (not_left_over p width height (unstuff stuffed) OutOfBits h' h)
one_data_fault p width height component stuffed stop f g legal some (leftover h e) (leftover h' e') = e ∙ sym e'

-- the data of a plane has no fault
no_plane_at_fault : (p : Parameters) (width height : ℕ) (stuffed : List ℕ) (fault : CodeFault) → IsPlaneData p width height stuffed → BreakInPlane p width height (unstuff stuffed) fault → ⊥
no_plane_at_fault p width height stuffed fault whole malformed = malformed.no_plane whole.plane whole.is_plane whole.coded.more whole.coded.bits

no_data_fault : (p : Parameters) (width height component : ℕ) (stuffed : List ℕ) (stop : Stop) (f : StreamFault) → IsLegal p → 1 ≤ width
    → IsPlaneData p width height stuffed → BreaksData p width height component stuffed stop f → ⊥
no_data_fault p width height component stuffed stop f legal some whole (wrong_code h e) = no_plane_at_fault p width height stuffed NotCanonical whole h
no_data_fault p width height component stuffed stop f legal some whole (marker_early h is e) = no_plane_at_fault p width height stuffed OutOfBits whole h
no_data_fault p width height component stuffed stop f legal some whole (input_ends h is e) = no_plane_at_fault p width height stuffed OutOfBits whole h
no_data_fault p width height component stuffed stop f legal some whole (leftover h e) =
    let same = planes_are_told_apart p whole.plane h.plane width height (unstuff stuffed) whole.coded.more h.more legal some whole.is_plane h.is_plane whole.coded.bits h.whole in
    absurd (omega (arith, ap length same.1, whole.coded.few, h.many))

-- ---- scans

one_fault_of : {A : Type 0} (r : Result A StreamFault) (f g : StreamFault) → r ≡ Err f → r ≡ Err g → f ≡ g
one_fault_of {A} r f g e e' = same_fault {A = A} f g (sym e ∙ e')

ok_or_fault : {A : Type 0} (r : Result A StreamFault) (x : A) (f : StreamFault) → r ≡ Ok x → r ≡ Err f → ⊥
ok_or_fault r x f e e' = let both = sym e ∙ e' in cc

one_scans_stop : (p : Parameters) (width height component : ℕ) (ids bytes : List ℕ) (f g : StreamFault) → IsLegal p → 1 ≤ width
    → ScansStop p width height component ids bytes f → ScansStop p width height component ids bytes g → f ≡ g
one_scans_stop p width height component [] bytes f g legal some (inl h) (inl h') = one_data_fault p width height component (data_at bytes) (stop_at (after_data bytes)) f g legal some h h'
one_scans_stop p width height component [] bytes f g legal some (inl h) (inr h') = absurd (no_data_fault p width height component (data_at bytes) _ f legal some h'.0 h)
one_scans_stop p width height component [] bytes f g legal some (inr h) (inl h') = absurd (no_data_fault p width height component (data_at bytes) _ g legal some h.0 h')
one_scans_stop p width height component [] bytes f g legal some (inr h) (inr h') = one_fault_of (end_at (after_data bytes)) f g h.1 h'.1
one_scans_stop p width height component (id ∷ later) bytes f g legal some (inl h) (inl h') = one_data_fault p width height component (data_at bytes) (stop_at (after_data bytes)) f g legal some h h'
one_scans_stop p width height component (id ∷ later) bytes f g legal some (inl h) (inr h') = absurd (no_data_fault p width height component (data_at bytes) _ f legal some h'.0 h)
one_scans_stop p width height component (id ∷ later) bytes f g legal some (inr h) (inl h') = absurd (no_data_fault p width height component (data_at bytes) _ g legal some h.0 h')
one_scans_stop p width height component (id ∷ later) bytes f g legal some (inr h) (inr h') =
    elim h.1 [
      | inl bad ↦ elim h'.1 [
        | inl bad' ↦ one_fault_of (next_scan_at id (after_data bytes)) f g bad bad'
        | inr on' ↦ absurd (ok_or_fault (next_scan_at id (after_data bytes)) on'.0 f on'.1 bad)
      ]
      | inr on ↦ elim h'.1 [
        | inl bad' ↦ absurd (ok_or_fault (next_scan_at id (after_data bytes)) on.0 g on.1 bad')
        | inr on' ↦
            one_scans_stop p width height (component + 1) later on.0 f g legal some on.2
            (subst (λ (rest : List ℕ). ScansStop p width height (component + 1) later rest g) (same_ok on'.0 on.0 (sym on'.1 ∙ on.1)) on'.2)
      ]
    ]

-- ---- parameters are legal

chosen_by : (test : Bool) (chosen default most : ℕ) → chosen ≤ most → default ≤ most → cond test default chosen ≤ most
chosen_by true chosen default most h k = k
chosen_by false chosen default most h k = h

chosen_small : (chosen default most : ℕ) → chosen ≤ most → default ≤ most → or_default chosen default ≤ most
chosen_small chosen default most h k = chosen_by (eqb chosen 0) chosen default most h k

explicit_kept : (q p : Parameters) → explicit_parameters q ≡ Ok p → q ≡ p
unfolding explicit_parameters
explicit_kept q p e = (unless_ok (preset_fault q) q p e).0

tuned_maxval : (t : Tuning) (maxval : ℕ) (p : Parameters) → explicit_parameters (tuned t maxval) ≡ Ok p → p.maxval ≡ maxval
unfolding tuned
tuned_maxval t maxval p e = sym (ap (λ (q : Parameters). q.maxval) (explicit_kept (tuned t maxval) p e))

maxval_by : (test : Bool) (t : Tuning) (maxval most written greatest : ℕ) (p : Parameters) → test ≡ ltb greatest written → maxval ≡ or_default written greatest → greatest ≤ most
    → cond test (Err MaxvalRange) (explicit_parameters (tuned t maxval)) ≡ Ok p → p.maxval ≤ most
maxval_by true t maxval most written greatest p is e small found = absurd cc
maxval_by false t maxval most written greatest p is e small found =
    let few : written ≤ greatest = ltb-false greatest written (sym is) in
    let within : or_default written greatest ≤ most = chosen_small written greatest most (omega arith) small in
    omega (arith, tuned_maxval t maxval p found)

maxval_small : (precision : ℕ) (written p : Parameters) → precision ≤ 16 → parameters_of precision written ≡ Ok p → p.maxval ≤ 65535
unfolding parameters_of
maxval_small precision written p few e =
    let power : 2 ^ precision ≤ 2 ^ 16 = pow_mono few in
    maxval_by (ltb (greatest_maxval precision) written.maxval) _ _ 65535 written.maxval (greatest_maxval precision) p refl refl (omega arith) e

-- ---- all of it

pub one_stop : LegalWithoutFault → (bytes : List ℕ) (f g : StreamFault) → AreBytes bytes → DecodingStops bytes f → DecodingStops bytes g → f ≡ g
one_stop legal bytes f g are (at_opening e) (at_opening e') = one_fault_of (opening_at bytes) f g e e'
one_stop legal bytes f g are (at_opening e) (at_scans h p rest opened stops) = absurd (ok_or_fault (opening_at bytes) (h, p, rest) f opened e)
one_stop legal bytes f g are (at_scans h p rest opened stops) (at_opening e) = absurd (ok_or_fault (opening_at bytes) (h, p, rest) g opened e)
one_stop legal bytes f g are (at_scans h p rest opened stops) (at_scans h' p' rest' opened' stops') =
    let opening = opening_read bytes (h, p, rest) are opened in
    let few : h.precision ≤ 16 = omega (arith, opening.header.bits, opening.header.precision) in
    let lawful : IsLegal p = legal p (maxval_small h.precision (last_presets no_presets (opening.before ++ opening.between)) p few opening.parameters_are)
    (read_faultless h.precision _ p opening.parameters_are) in
    let same : ◌≡◌ {A = FrameHeader × Parameters × List ℕ} (h', p', rest') (h, p, rest) = same_ok (h', p', rest') (h, p, rest) (sym opened' ∙ opened) in
    one_scans_stop p h.width h.height 0 (drop 1 (ids_in h)) rest f g lawful (omega (arith, opening.header.some_width)) stops
    (subst (λ (x : FrameHeader × Parameters × List ℕ). ScansStop x.1 x.0.width x.0.height 0 (drop 1 (ids_in x.0)) x.2 g) same stops')
