-- A fault of reading bytes is one of the ways in which they break the grammar.
use Rattle.std.proofs.Common.{◌≡◌, ℕ, zero, suc, ◌+◌, ◌-◌, ◌*◌, ◌≤◌, Bool, true, false, cond, leb, eqb, List, [], ◌∷◌, ◌++◌, length, take, drop, replicate, inl, inr, Option, None, Some, Result, Ok, Err, refl, sym, ap, subst, ◌∙◌, arith, append_assoc}
use Rattle.std.specs.List.{AllByRecursion}
use Rattle.std.proofs.lemmas.Bool.{cases_Bool, cond-true, cond-false, eqb-true, eqb-false, leb-true, leb-false}
use Rattle.ls_frame.specs.Parameters.{Parameters}
use Rattle.ls_bits.specs.Bits.{AreBytes, two_bytes}
use Rattle.ls_stream.specs.declared.faults.StreamFault.{StreamFault}
use Rattle.ls_stream.specs.declared.faults.StreamFault.TheVariants.{Truncated, BadSegment, Unsupported}
use Rattle.ls_stream.specs.declared.faults.What.TheVariants as what
use Rattle.ls_stream.specs.declared.marker.Marker.{Marker}
use Rattle.ls_stream.specs.declared.marker.Marker.TheVariants.{StartOfImage, EndOfImage, StartOfScan, StartOfFrame, PresetParameters, Application, Comment, Other}
use Rattle.ls_stream.specs.Markers.{marker_of, IsMarker, marker}
use Rattle.ls_stream.specs.Grammar.{filled, Miscellaneous, one_miscellaneous_bytes, miscellaneous_bytes, MayPrecedeScans}
use Rattle.ls_stream.specs.Faults.{Due, is_late, MayStand, marker_fault, has_segment, presets_checks, BreaksSegment, no_length, bad_length, cut_off, fails, BreaksMarker, ends, no_marker, zero_code, misplaced, malformed, BreaksAfter}
use Rattle.ls_stream.specs.Segments.{field_of}
use Rattle.ls_stream.specs.View.Reading.{◌>>=◌, Ahead, wanted, code_at, marker_at, contents_at, preset_fields_of, skipped_at, presets_at, after_marker, part_at, unless_marker, ahead_within, ahead_at}
use Rattle.ls_stream.proofs.StepLemmas.{same_fault, step_err, test_err}
use Rattle.ls_stream.proofs.MarkerLemmas.{marker_read, marker_is}
use Rattle.ls_stream.proofs.SegmentLemmas.{two_are, contents_read, bytes_along}
use Rattle.ls_stream.proofs.CheckLemmas.{presets_agree, unmet_of}
use Rattle.ls_stream.proofs.AheadLemmas.{MayCome, Found, Stands, PartRead, part_read, part_shorter}

-- a value is no fault
abbrev pub value : {A : Type 0} → A → Result A StreamFault
value x = Ok x

pub no_err : {A : Type 0} (x : A) (fault : StreamFault) → value x ≡ Err fault → ⊥
no_err x fault e = cc

-- ---- a marker

data CodeBreaks (bytes : List ℕ) (fault : StreamFault) : Type 0 where
  code_ends : (fill : ℕ) → bytes ≡ replicate fill 255 → fault ≡ Truncated → CodeBreaks bytes fault
  code_zero : (fill : ℕ) (rest : List ℕ) → bytes ≡ replicate fill 255 ++ 0 ∷ rest → fault ≡ BadSegment → CodeBreaks bytes fault

code_more : {bytes : List ℕ} {fault : StreamFault} → CodeBreaks bytes fault → CodeBreaks (255 ∷ bytes) fault
code_more (code_ends fill whole is) = code_ends (suc fill) (ap (λ bs. 255 ∷ bs) whole) is
code_more (code_zero fill rest whole is) = code_zero (suc fill) rest (ap (λ bs. 255 ∷ bs) whole) is

zero_breaks : (byte : ℕ) (bytes : List ℕ) (fault : StreamFault) (test : Bool) → eqb byte 0 ≡ test → cond {A = Result (ℕ × List ℕ) StreamFault} test (Err BadSegment) (Ok (byte, bytes)) ≡ Err fault → CodeBreaks (byte ∷ bytes) fault
zero_breaks byte bytes fault true is e = code_zero 0 bytes (ap (λ b. b ∷ bytes) (eqb-true byte 0 is)) (sym (same_fault {A = ℕ × List ℕ} BadSegment fault e))
zero_breaks byte bytes fault false is e = absurd (no_err (byte, bytes) fault e)

code_breaks : (bytes : List ℕ) (fault : StreamFault) → code_at bytes ≡ Err fault → CodeBreaks bytes fault
unfolding code_at
code_breaks [] fault e = code_ends 0 refl (sym (same_fault {A = ℕ × List ℕ} Truncated fault e))
code_breaks (byte ∷ bytes) fault e = elim (cases_Bool (eqb byte 255)) [
  | inl ff ↦
      let more = code_more (code_breaks bytes fault (sym (cond-true (eqb byte 255) (code_at bytes) _ ff) ∙ e)) in
      subst (λ b. CodeBreaks (b ∷ bytes) fault) (sym (eqb-true byte 255 ff)) more
  | inr other ↦
      let rest : cond {A = Result (ℕ × List ℕ) StreamFault} (eqb byte 0) (Err BadSegment) (Ok (byte, bytes)) ≡ Err fault = sym (cond-false (eqb byte 255) (code_at bytes) _ other) ∙ e in
      zero_breaks byte bytes fault (eqb byte 0) refl rest
]

after_ff : (d : Due) (bytes : List ℕ) (fault : StreamFault) → CodeBreaks bytes fault → BreaksMarker d (255 ∷ bytes) fault
after_ff d bytes fault (code_ends fill whole is) = ends (suc fill) (ap (λ bs. 255 ∷ bs) whole) is
after_ff d bytes fault (code_zero fill rest whole is) = zero_code fill rest (ap (λ bs. 255 ∷ bs) whole) is

marker_breaks : (d : Due) (bytes : List ℕ) (fault : StreamFault) → marker_at bytes ≡ Err fault → BreaksMarker d bytes fault
unfolding marker_at
marker_breaks d [] fault e = ends 0 refl (sym (same_fault {A = Marker × List ℕ} Truncated fault e))
marker_breaks d (byte ∷ bytes) fault e = elim (test_err (eqb byte 255) BadSegment (code_at bytes >>= λ code. Ok (marker_of code.0, code.1)) fault e) [
  | inl other ↦ no_marker byte bytes refl (eqb-false byte 255 other.0) other.1
  | inr ff ↦
      subst (λ b. BreaksMarker d (b ∷ bytes) fault) (sym (eqb-true byte 255 ff.0))
      (elim (step_err (code_at bytes) (λ code. Ok (marker_of code.0, code.1)) fault ff.1) [
        | inl bad ↦ after_ff d bytes fault (code_breaks bytes fault bad)
        | inr good ↦ absurd (no_err (marker_of good.0.0, good.0.1) fault good.2)
      ])
]

-- ---- a segment

pub segment_breaks : (d : Due) (m : Marker) (bytes : List ℕ) (fault : StreamFault) → AreBytes bytes → contents_at bytes ≡ Err fault → BreaksSegment d m bytes fault
unfolding contents_at field_of
segment_breaks d m [] fault are e = no_length (omega arith) (sym (same_fault {A = List ℕ × List ℕ} Truncated fault e))
segment_breaks d m (byte ∷ []) fault are e = no_length (omega arith) (sym (same_fault {A = List ℕ × List ℕ} Truncated fault e))
segment_breaks d m (high ∷ low ∷ more) fault are e =
    let n : ℕ = 256 * high + low in
    let bytes : List ℕ = high ∷ low ∷ more in
    let last : Result (List ℕ × List ℕ) StreamFault = Ok (take (n - 2) more, drop n bytes) in
    let second : Result (List ℕ × List ℕ) StreamFault = wanted (leb n (length bytes)) Truncated >>= λ whole. last in
    let first : Result (List ℕ × List ℕ) StreamFault = wanted (leb 2 n) BadSegment >>= λ least. second in
    let said : bytes ≡ two_bytes n ++ more = ap (λ bs. bs ++ more) (sym (two_are high low are.0 are.1.0)) in
    elim (test_err (leb 2 (length bytes)) Truncated first fault e) [
      | inl none ↦ no_length (leb-false 2 (length bytes) none.0) none.1
      | inr some ↦ elim (test_err (leb 2 n) BadSegment second fault some.1) [
        | inl small ↦ bad_length n more said (leb-false 2 n small.0) small.1
        | inr least ↦ elim (test_err (leb n (length bytes)) Truncated last fault least.1) [
          | inl cut ↦ cut_off n more said (leb-true 2 n least.0) (leb-false n (length bytes) cut.0) cut.1
          | inr whole ↦ absurd (no_err (take (n - 2) more, drop n bytes) fault whole.1)
        ]
      ]
    ]

skipped_breaks : (d : Due) (written : Parameters) (fill : ℕ) (m : Marker) (rest bytes : List ℕ) (fault : StreamFault) → AreBytes rest → bytes ≡ filled fill (marker m) ++ rest
    → IsMarker m → marker_fault d m ≡ None → has_segment m ≡ true → skipped_at written rest ≡ Err fault → BreaksMarker d bytes fault
skipped_breaks d written fill m rest bytes fault are whole is may has e = elim (step_err (contents_at rest) (λ contents. Ok (None, written, contents.1)) fault e) [
  | inl bad ↦ malformed fill m rest whole is may has (segment_breaks d m rest fault are bad)
  | inr good ↦ absurd (no_err (None, written, good.0.1) fault good.2)
]

presets_break : (d : Due) (late : Bool) (fill : ℕ) (rest bytes : List ℕ) (fault : StreamFault) → is_late d ≡ late → AreBytes rest → bytes ≡ filled fill (marker PresetParameters) ++ rest
    → IsMarker PresetParameters → presets_at late rest ≡ Err fault → BreaksMarker d bytes fault
presets_break d true fill rest bytes fault same are whole is e =
    misplaced fill PresetParameters rest whole is (cond-true (is_late d) _ _ same ∙ ap (λ (f : StreamFault). Some f) (same_fault {A = Found} (Unsupported what.LseLate) fault e))
presets_break d false fill rest bytes fault same are whole is e =
    let may : marker_fault d PresetParameters ≡ None = cond-false (is_late d) _ _ same in
    elim (step_err (contents_at rest) (λ contents. preset_fields_of contents.0 >>= λ last. Ok (None, last, contents.1)) fault e) [
      | inl bad ↦ malformed fill PresetParameters rest whole is may refl (segment_breaks d PresetParameters rest fault are bad)
      | inr c ↦ elim (step_err (preset_fields_of c.0.0) (λ last. Ok (None, last, c.0.1)) fault c.2) [
        | inl bad ↦
            let read = contents_read rest c.0 are c.1 in
            malformed fill PresetParameters rest whole is may refl
            (fails c.0.0 c.0.1 read.whole (unmet_of (presets_checks c.0.0) (preset_fields_of c.0.0) fault (presets_agree c.0.0) bad))
        | inr good ↦ absurd (no_err (None, good.0, c.0.1) fault good.2)
      ]
    ]

after_breaks : (d : Due) (written : Parameters) (fill : ℕ) (m : Marker) (rest bytes : List ℕ) (fault : StreamFault) → AreBytes rest → bytes ≡ filled fill (marker m) ++ rest
    → IsMarker m → after_marker (is_late d) written m rest ≡ Err fault → BreaksMarker d bytes fault
unfolding after_marker
after_breaks d written fill StartOfImage rest bytes fault are whole is e = misplaced fill StartOfImage rest whole is (ap (λ (f : StreamFault). Some f) (same_fault {A = Found} _ fault e))
after_breaks d written fill EndOfImage rest bytes fault are whole is e = absurd (no_err (Some EndOfImage, written, rest) fault e)
after_breaks d written fill StartOfScan rest bytes fault are whole is e = absurd (no_err (Some StartOfScan, written, rest) fault e)
after_breaks d written fill StartOfFrame rest bytes fault are whole is e = absurd (no_err (Some StartOfFrame, written, rest) fault e)
after_breaks d written fill PresetParameters rest bytes fault are whole is e = presets_break d (is_late d) fill rest bytes fault refl are whole is e
after_breaks d written fill (Application code) rest bytes fault are whole is e = skipped_breaks d written fill (Application code) rest bytes fault are whole is refl refl e
after_breaks d written fill Comment rest bytes fault are whole is e = skipped_breaks d written fill Comment rest bytes fault are whole is refl refl e
after_breaks d written fill (Other code) rest bytes fault are whole is e = misplaced fill (Other code) rest whole is (ap (λ (f : StreamFault). Some f) (same_fault {A = Found} _ fault e))

part_breaks : (d : Due) (written : Parameters) (bytes : List ℕ) (fault : StreamFault) → AreBytes bytes → part_at (is_late d) written bytes ≡ Err fault → BreaksMarker d bytes fault
unfolding part_at
part_breaks d written bytes fault are e = elim (step_err (marker_at bytes) (λ n. after_marker (is_late d) written n.0 n.1) fault e) [
  | inl bad ↦ marker_breaks d bytes fault bad
  | inr next ↦
      let read = marker_read bytes next.0 next.1 in
      after_breaks d written read.0 next.0.0 next.0.1 bytes fault (bytes_along (filled read.0 (marker next.0.0)) next.0.1 are read.1) read.1 (marker_is bytes next.0 next.1) next.2
]

-- ---- miscellaneous segments, and what follows them

may_stand : (late : Bool) (s : Miscellaneous) → MayPrecedeScans s → MayCome late s → MayStand late s
may_stand true s lawful may = may
may_stand false s lawful may = lawful

pub all_stand : (late : Bool) (segments : List Miscellaneous) → AllByRecursion MayPrecedeScans segments → AllByRecursion (MayCome late) segments → AllByRecursion (MayStand late) segments
all_stand late [] lawful may = tt
all_stand late (s ∷ segments) lawful may = (may_stand late s lawful.0 may.0, all_stand late segments lawful.1 may.1)

next_breaks : (d : Due) (written : Parameters) (bytes : List ℕ) (o : Option Marker) (last : Parameters) (rest : List ℕ) (again : Parameters → List ℕ → Ahead) (fault : StreamFault)
    → AreBytes bytes → PartRead (is_late d) written bytes o last rest → unless_marker again o last rest ≡ Err fault
    → (AreBytes rest → again last rest ≡ Err fault → BreaksAfter d rest fault) → BreaksAfter d bytes fault
next_breaks d written bytes (Some m) last rest again fault are part e others = absurd (no_err (m, last, rest) fault e)
next_breaks d written bytes None last rest again fault are part e others =
    let more = others (bytes_along (one_miscellaneous_bytes part.one) rest are part.whole) e in
    record {
      segments = part.one ∷ more.segments;
      rest = more.rest;
      whole = part.whole ∙ ap (λ bs. one_miscellaneous_bytes part.one ++ bs) more.whole
          ∙ sym (append_assoc (one_miscellaneous_bytes part.one) (miscellaneous_bytes more.segments) more.rest);
      lawful = (may_stand (is_late d) part.one part.lawful part.may, more.lawful);
      breaks = more.breaks;
    }

within_breaks : (most : ℕ) (d : Due) (written : Parameters) (bytes : List ℕ) (fault : StreamFault) → AreBytes bytes → length bytes ≤ most
    → ahead_within most (is_late d) written bytes ≡ Err fault → BreaksAfter d bytes fault
unfolding ahead_within
within_breaks zero d written [] fault are few e = record {
  segments = [];
  rest = [];
  whole = refl;
  lawful = tt;
  breaks = ends 0 refl (sym (same_fault {A = Stands} Truncated fault e));
}
within_breaks zero d written (byte ∷ bytes) fault are few e = absurd (omega arith)
within_breaks (suc most) d written bytes fault are few e =
    let again : Parameters → List ℕ → Ahead = λ w rest. ahead_within most (is_late d) w rest in
    elim (step_err (part_at (is_late d) written bytes) (λ part. unless_marker again part.0 part.1 part.2) fault e) [
      | inl bad ↦ record {
        segments = [];
        rest = bytes;
        whole = refl;
        lawful = tt;
        breaks = part_breaks d written bytes fault are bad;
      }
      | inr p ↦
          let less = part_shorter (is_late d) written bytes p.0 p.1 in
          next_breaks d written bytes p.0.0 p.0.1 p.0.2 again fault are (part_read (is_late d) written bytes p.0 are p.1) p.2
          (λ rest_are f. within_breaks most d p.0.1 p.0.2 fault rest_are (omega arith) f)
    ]

pub ahead_breaks : (d : Due) (written : Parameters) (bytes : List ℕ) (fault : StreamFault) → AreBytes bytes → ahead_at (is_late d) written bytes ≡ Err fault → BreaksAfter d bytes fault
unfolding ahead_at
ahead_breaks d written bytes fault are e = within_breaks (length bytes) d written bytes fault are (omega arith) e
