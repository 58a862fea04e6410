-- Each way in which bytes break the grammar is the fault of reading them.
use Rattle.std.proofs.Common.{◌≡◌, ℕ, zero, suc, ◌+◌, ◌/◌, ◌^◌, ◌<◌, ◌≤◌, Bool, true, false, cond, leb, eqb, List, [], ◌∷◌, ◌++◌, length, take, drop, replicate, inl, inr, Option, None, Some, Result, Ok, Err, refl, sym, ap, subst, ◌∙◌, arith, append_assoc, take-append-drop}
use Rattle.std.specs.Prelude.{slice_index}
use Rattle.std.specs.List.{AllByRecursion}
use Rattle.std.proofs.lemmas.Bool.{cases_Bool, ne_eqb, le-leb, lt-leb, false≢true}
use Rattle.ls_frame.specs.declared.presets.PresetFault.{PresetFault}
use Rattle.ls_frame.specs.Parameters.{Parameters}
use Rattle.ls_bits.specs.Bits.{AreBytes, two_bytes}
use Rattle.ls_bits.specs.Data.{stop_at}
use Rattle.ls_stream.specs.declared.faults.StreamFault.{StreamFault}
use Rattle.ls_stream.specs.declared.faults.StreamFault.TheVariants.{Truncated, NotSoi, BadSegment, Unsupported}
use Rattle.ls_stream.specs.declared.faults.What.TheVariants as what
use Rattle.ls_stream.specs.declared.marker.Marker.{Marker}
use Rattle.ls_stream.specs.declared.marker.Marker.TheVariants.{StartOfImage, EndOfImage, StartOfScan, StartOfFrame, PresetParameters, Application, Comment, Other}
use Rattle.ls_stream.specs.declared.segments.read.FrameHeader.{FrameHeader}
use Rattle.ls_stream.specs.Markers.{code_of, marker_of, IsMarker, marker}
use Rattle.ls_stream.specs.Segments.{segment, field_of, scan_contents}
use Rattle.ls_stream.specs.Grammar.{filled, Miscellaneous, one_miscellaneous_bytes, miscellaneous_bytes, MayPrecedeScans, last_presets, no_presets, parameters_of}
use Rattle.ls_stream.specs.Faults.{Due, frame_header, first_scan, next_scan, end_marker, is_late, MayStand, marker_fault, Check, first_unmet, contents_checks, frame_checks, presets_checks, scan_checks, has_segment, BreaksSegment, no_length, bad_length, cut_off, fails, BreaksMarker, ends, no_marker, zero_code, misplaced, malformed, BreaksAfter, BreaksStart, no_byte, one_byte, another_first, another_second, HasFrame, HasScan, BeginsWithOpening, HasNextScan, BreaksOpening, at_start, before_frame, before_scan, bad_presets}
use Rattle.ls_stream.specs.View.FirstFaults.{BreaksData, IsPlaneData, BreaksPlanes, before_data, from_data}
use Rattle.ls_stream.specs.View.Reading.{◌>>=◌, wanted, Take, Ahead, byte_at, code_at, marker_at, contents_at, preset_fields_of, skipped_at, presets_at, after_marker, part_at, ahead_at, frame_header_of, scan_header_of, is_start_of_frame, is_start_of_scan, is_end_of_image, start_at, frame_header_at, scan_header_at, next_scan_at, end_at, or_bad_presets, opening_at, HasOpening}
use Rattle.ls_stream.specs.View.Outlines.{data_length, data_at, after_data, ids_in, ScansStop, at_opening, at_scans, FirstFaultsAreStops}
use Rattle.ls_stream.proofs.StepLemmas.{test_met, step_is}
use Rattle.ls_stream.proofs.SegmentLemmas.{two_again, bytes_of_front, bytes_of_rest, bytes_along, contents_again}
use Rattle.ls_stream.proofs.HeaderLemmas.{HeaderRead, header_read}
use Rattle.ls_stream.proofs.FrontLemmas.{data_length-only}
use Rattle.ls_stream.proofs.CheckLemmas.{Agrees, frame_agrees, presets_agree, scan_agrees}
use Rattle.ls_stream.proofs.AlongLemmas.{Frame}
use Rattle.ls_stream.proofs.AheadLemmas.{MayCome, Stops, segment_parts, part_after, part_again, ahead_at-fault, ahead_at-marker, ahead_at-segment, Stands, presets_after}
use Rattle.ls_stream.proofs.OutlineLemmas.{is_frame, is_scan, is_end, precedes_one, early, presets_append, frame_spelled, scan_header_spelled, next_scan_spelled}
use Rattle.ls_stream.proofs.FaultLaws.{wrong_frame, wrong_first, wrong_next, wrong_end, ids_at, precision_at}

-- ---- steps

-- a step that fails
step_bad : {A B : Type 0} (r : Result A StreamFault) (f : A → Result B StreamFault) (fault : StreamFault) → r ≡ Err fault → (r >>= f) ≡ Err fault
step_bad r f fault e = ap (λ r. r >>= f) e

-- a test that isn't met
test_unmet : {B : Type 0} (test : Bool) (fault : StreamFault) (r : Result B StreamFault) → test ≡ false → (wanted test fault >>= λ passed. r) ≡ Err fault
test_unmet test fault r e = ap (λ b. wanted b fault >>= λ passed. r) e

-- the same fault
fails_with : {B : Type 0} {r : Result B StreamFault} {fault other : StreamFault} → r ≡ Err fault → other ≡ fault → r ≡ Err other
fails_with e is = e ∙ ap (λ (f : StreamFault). Err f) (sym is)

some_same : (fault other : StreamFault) → ◌≡◌ {A = Option StreamFault} (Some fault) (Some other) → fault ≡ other
some_same fault other e = cc

none_some : (fault : StreamFault) → ◌≡◌ {A = Option StreamFault} None (Some fault) → ⊥
none_some fault e = cc

-- contents that fail a check aren't read, and those that fail none are
err_of : {X : Type 0} (checks : List Check) (r : Result X StreamFault) (fault : StreamFault) → Agrees checks r → first_unmet checks ≡ Some fault → r ≡ Err fault
err_of checks (Ok x) fault agrees e = absurd (none_some fault (sym agrees.same ∙ e))
err_of checks (Err cause) fault agrees e = ap (λ (f : StreamFault). Err f) (some_same cause fault (sym agrees.same ∙ e))

ok_of : {X : Type 0} (checks : List Check) (r : Result X StreamFault) → Agrees checks r → first_unmet checks ≡ None → (x : X) × (r ≡ Ok x)
ok_of checks (Ok x) agrees e = (x, refl)
ok_of checks (Err cause) agrees e = absurd (none_some cause (sym e ∙ agrees.same))

-- ---- a marker

code_ends : (fill : ℕ) → code_at (replicate fill 255) ≡ Err Truncated
unfolding code_at
code_ends zero = refl
code_ends (suc fill) = code_ends fill

code_zero : (fill : ℕ) (rest : List ℕ) → code_at (replicate fill 255 ++ 0 ∷ rest) ≡ Err BadSegment
unfolding code_at
code_zero zero rest = refl
code_zero (suc fill) rest = code_zero fill rest

marker_ends : (fill : ℕ) → marker_at (replicate fill 255) ≡ Err Truncated
unfolding marker_at
marker_ends zero = refl
marker_ends (suc fill) = step_bad (code_at (replicate fill 255)) (λ code. Ok (marker_of code.0, code.1)) Truncated (code_ends fill)

marker_none : (byte : ℕ) (rest : List ℕ) → (byte ≡ 255 → ⊥) → marker_at (byte ∷ rest) ≡ Err BadSegment
unfolding marker_at
marker_none byte rest other = test_unmet _ BadSegment (code_at rest >>= λ code. Ok (marker_of code.0, code.1)) (ne_eqb byte 255 other)

marker_zero : (fill : ℕ) (rest : List ℕ) → marker_at (replicate (suc fill) 255 ++ 0 ∷ rest) ≡ Err BadSegment
unfolding marker_at
marker_zero fill rest = step_bad (code_at (replicate fill 255 ++ 0 ∷ rest)) (λ code. Ok (marker_of code.0, code.1)) BadSegment (code_zero fill rest)

-- ---- a segment

abbrev Contents : Type 0
Contents = List ℕ × List ℕ

short_by : (n : ℕ) → n / 256 < 256 → n < 2 ^ 16
short_by n high = omega arith

-- the bytes of a segment hold its length
segment_short : (contents rest : List ℕ) → AreBytes ((two_bytes (2 + length contents) ++ contents) ++ rest) → 2 + length contents < 2 ^ 16
segment_short contents rest are = short_by (2 + length contents) are.0

small_fails : (n : ℕ) (rest : List ℕ) → n < 2 → contents_at (two_bytes n ++ rest) ≡ Err BadSegment
unfolding contents_at field_of
small_fails n rest small =
    let some : leb 2 (suc (suc (length rest))) ≡ true = le-leb 2 _ (omega arith) in
    let least : leb 2 n ≡ false = lt-leb 2 n small in
    rw (some, two_again n, least) refl

cut_fails : (n : ℕ) (rest : List ℕ) → 2 ≤ n → suc (suc (length rest)) < n → contents_at (two_bytes n ++ rest) ≡ Err Truncated
unfolding contents_at field_of
cut_fails n rest least few =
    let some : leb 2 (suc (suc (length rest))) ≡ true = le-leb 2 _ (omega arith) in
    let long : leb 2 n ≡ true = le-leb 2 n least in
    let whole : leb n (suc (suc (length rest))) ≡ false = lt-leb n _ few in
    rw (some, two_again n, long, whole) refl

none_fails : (bytes : List ℕ) → length bytes < 2 → contents_at bytes ≡ Err Truncated
unfolding contents_at
none_fails [] few = refl
none_fails (byte ∷ []) few = refl
none_fails (byte ∷ next ∷ bytes) few = absurd (omega arith)

-- a segment that breaks, before its contents or in them
contents_fail : {Y : Type 0} (d : Due) (m : Marker) (bytes : List ℕ) (fault : StreamFault) (f : Contents → Result Y StreamFault) → AreBytes bytes → BreaksSegment d m bytes fault
    → ((contents rest : List ℕ) → first_unmet (contents_checks d m contents) ≡ Some fault → f (contents, rest) ≡ Err fault) → (contents_at bytes >>= f) ≡ Err fault
contents_fail d m bytes fault f are (no_length few is) inside = step_bad (contents_at bytes) f fault (fails_with (none_fails bytes few) is)
contents_fail d m bytes fault f are (bad_length n rest whole small is) inside =
    step_bad (contents_at bytes) f fault (fails_with (ap contents_at whole ∙ small_fails n rest small) is)
contents_fail d m bytes fault f are (cut_off n rest whole least few is) inside =
    step_bad (contents_at bytes) f fault (fails_with (ap contents_at whole ∙ cut_fails n rest least (subst (λ (bs : List ℕ). length bs < n) whole few)) is)
contents_fail d m bytes fault f are (fails contents rest whole unmet) inside =
    step_is (contents_at bytes) f (contents, rest) (ap contents_at whole ∙ contents_again contents rest (segment_short contents rest (subst AreBytes whole are)))
    ∙ inside contents rest unmet

-- ---- miscellaneous segments, and what follows them

-- Reading fails where something is due: before another marker; or that marker may not come there; or its segment breaks.
data AheadFails (d : Due) (ahead : Ahead) (fault : StreamFault) : Type 0 where
  fails_before : ahead ≡ Err fault → AheadFails d ahead fault
  stands_wrong : (next : Stands) → ahead ≡ Ok next → Stops next.0 → marker_fault d next.0 ≡ Some fault → AheadFails d ahead fault
  breaks_within : (next : Stands) → ahead ≡ Ok next → Stops next.0 → marker_fault d next.0 ≡ None → has_segment next.0 ≡ true → AreBytes next.2 → BreaksSegment d next.0 next.2 fault
      → AheadFails d ahead fault

marker_fails : (d : Due) (written : Parameters) (bytes : List ℕ) (fault : StreamFault) → marker_at bytes ≡ Err fault → AheadFails d (ahead_at (is_late d) written bytes) fault
unfolding part_at
marker_fails d written bytes fault e =
    fails_before (ahead_at-fault (is_late d) written bytes fault (step_bad (marker_at bytes) (λ n. after_marker (is_late d) written n.0 n.1) fault e))

after_fails : (d : Due) (written : Parameters) (bytes : List ℕ) (m : Marker) (rest : List ℕ) (fault : StreamFault) → part_at (is_late d) written bytes ≡ after_marker (is_late d) written m rest
    → after_marker (is_late d) written m rest ≡ Err fault → AheadFails d (ahead_at (is_late d) written bytes) fault
after_fails d written bytes m rest fault same e = fails_before (ahead_at-fault (is_late d) written bytes fault (same ∙ e))

-- a marker that may not come there
presets_wrong : (late : Bool) (rest : List ℕ) (fault : StreamFault) → cond late (Some (Unsupported what.LseLate)) None ≡ Some fault → presets_at late rest ≡ Err fault
presets_wrong true rest fault is = ap (λ (f : StreamFault). Err f) (some_same (Unsupported what.LseLate) fault is)
presets_wrong false rest fault is = absurd (none_some fault is)

wrong_marker : (d : Due) (written : Parameters) (m : Marker) (rest bytes : List ℕ) (fault : StreamFault) → part_at (is_late d) written bytes ≡ after_marker (is_late d) written m rest
    → marker_fault d m ≡ Some fault → AheadFails d (ahead_at (is_late d) written bytes) fault
unfolding after_marker
wrong_marker d written StartOfImage rest bytes fault same is =
    after_fails d written bytes StartOfImage rest fault same (ap (λ (f : StreamFault). Err f) (some_same (Unsupported (what.Marker (code_of StartOfImage))) fault is))
wrong_marker d written EndOfImage rest bytes fault same is = stands_wrong (EndOfImage, written, rest) (ahead_at-marker (is_late d) written written bytes rest EndOfImage same) tt is
wrong_marker d written StartOfScan rest bytes fault same is = stands_wrong (StartOfScan, written, rest) (ahead_at-marker (is_late d) written written bytes rest StartOfScan same) tt is
wrong_marker d written StartOfFrame rest bytes fault same is = stands_wrong (StartOfFrame, written, rest) (ahead_at-marker (is_late d) written written bytes rest StartOfFrame same) tt is
wrong_marker d written PresetParameters rest bytes fault same is = after_fails d written bytes PresetParameters rest fault same (presets_wrong (is_late d) rest fault is)
wrong_marker d written (Application code) rest bytes fault same is = absurd (none_some fault is)
wrong_marker d written Comment rest bytes fault same is = absurd (none_some fault is)
wrong_marker d written (Other code) rest bytes fault same is =
    after_fails d written bytes (Other code) rest fault same (ap (λ (f : StreamFault). Err f) (some_same (Unsupported (what.Marker code)) fault is))

-- a segment that breaks
skipped_fails : (d : Due) (written : Parameters) (m : Marker) (rest : List ℕ) (fault : StreamFault) → AreBytes rest → ((contents : List ℕ) → first_unmet (contents_checks d m contents) ≡ None)
    → BreaksSegment d m rest fault → skipped_at written rest ≡ Err fault
skipped_fails d written m rest fault are none breaks =
    contents_fail d m rest fault (λ contents. Ok (None, written, contents.1)) are breaks (λ contents left unmet. absurd (none_some fault (sym (none contents) ∙ unmet)))

presets_fail : (d : Due) (late : Bool) (rest : List ℕ) (fault : StreamFault) → AreBytes rest → cond late (Some (Unsupported what.LseLate)) None ≡ None
    → BreaksSegment d PresetParameters rest fault → presets_at late rest ≡ Err fault
presets_fail d true rest fault are may breaks = absurd (none_some (Unsupported what.LseLate) (sym may))
presets_fail d false rest fault are may breaks =
    contents_fail d PresetParameters rest fault (λ contents. preset_fields_of contents.0 >>= λ written. Ok (None, written, contents.1)) are breaks
    (λ contents left unmet. step_bad (preset_fields_of contents) (λ written. Ok (None, written, left)) fault
    (err_of (presets_checks contents) (preset_fields_of contents) fault (presets_agree contents) unmet))

malformed_marker : (d : Due) (written : Parameters) (m : Marker) (rest bytes : List ℕ) (fault : StreamFault) → AreBytes rest
    → part_at (is_late d) written bytes ≡ after_marker (is_late d) written m rest → marker_fault d m ≡ None → has_segment m ≡ true → BreaksSegment d m rest fault
    → AheadFails d (ahead_at (is_late d) written bytes) fault
unfolding after_marker
malformed_marker d written StartOfImage rest bytes fault are same may has breaks = absurd (false≢true has)
malformed_marker d written EndOfImage rest bytes fault are same may has breaks = absurd (false≢true has)
malformed_marker d written StartOfScan rest bytes fault are same may has breaks =
    breaks_within (StartOfScan, written, rest) (ahead_at-marker (is_late d) written written bytes rest StartOfScan same) tt may has are breaks
malformed_marker d written StartOfFrame rest bytes fault are same may has breaks =
    breaks_within (StartOfFrame, written, rest) (ahead_at-marker (is_late d) written written bytes rest StartOfFrame same) tt may has are breaks
malformed_marker d written PresetParameters rest bytes fault are same may has breaks =
    after_fails d written bytes PresetParameters rest fault same (presets_fail d (is_late d) rest fault are may breaks)
malformed_marker d written (Application code) rest bytes fault are same may has breaks =
    after_fails d written bytes (Application code) rest fault same (skipped_fails d written (Application code) rest fault are (λ contents. refl) breaks)
malformed_marker d written Comment rest bytes fault are same may has breaks =
    after_fails d written bytes Comment rest fault same (skipped_fails d written Comment rest fault are (λ contents. refl) breaks)
malformed_marker d written (Other code) rest bytes fault are same may has breaks = absurd (false≢true has)

part_is : (late : Bool) (written : Parameters) (fill : ℕ) (m : Marker) (rest bytes : List ℕ) → bytes ≡ filled fill (marker m) ++ rest → IsMarker m
    → part_at late written bytes ≡ after_marker late written m rest
part_is late written fill m rest bytes whole is = ap (part_at late written) whole ∙ part_after late written fill m rest is

part_fails : (d : Due) (written : Parameters) (bytes : List ℕ) (fault : StreamFault) → AreBytes bytes → BreaksMarker d bytes fault → AheadFails d (ahead_at (is_late d) written bytes) fault
part_fails d written bytes fault are (ends fill whole is) = marker_fails d written bytes fault (fails_with (ap marker_at whole ∙ marker_ends fill) is)
part_fails d written bytes fault are (no_marker byte rest whole other is) = marker_fails d written bytes fault (fails_with (ap marker_at whole ∙ marker_none byte rest other) is)
part_fails d written bytes fault are (zero_code fill rest whole is) = marker_fails d written bytes fault (fails_with (ap marker_at whole ∙ marker_zero fill rest) is)
part_fails d written bytes fault are (misplaced fill m rest whole is no_place) =
    wrong_marker d written m rest bytes fault (part_is (is_late d) written fill m rest bytes whole is) no_place
part_fails d written bytes fault are (malformed fill m rest whole is may has breaks) =
    malformed_marker d written m rest bytes fault (bytes_along (filled fill (marker m)) rest are whole) (part_is (is_late d) written fill m rest bytes whole is) may has breaks

-- the segments before it are read
stand_lawful : (late : Bool) (s : Miscellaneous) → MayStand late s → MayPrecedeScans s
stand_lawful true s may = precedes_one s may
stand_lawful false s may = may

stand_come : (late : Bool) (s : Miscellaneous) → MayStand late s → MayCome late s
stand_come true s may = may
stand_come false s may = tt

ahead_past : (late : Bool) (written : Parameters) (segments : List Miscellaneous) (rest : List ℕ) → AllByRecursion (MayStand late) segments
    → ahead_at late written (miscellaneous_bytes segments ++ rest) ≡ ahead_at late (last_presets written segments) rest
ahead_past late written [] rest may = refl
ahead_past late written (s ∷ segments) rest may =
    let last = last_presets written (s ∷ []) in
    let others : List ℕ = miscellaneous_bytes segments ++ rest in
    ap (ahead_at late written) (append_assoc (one_miscellaneous_bytes s) (miscellaneous_bytes segments) rest)
    ∙ ahead_at-segment late written last (one_miscellaneous_bytes s ++ others) others (part_again late written s others (stand_lawful late s may.0) (stand_come late s may.0))
    ∙ ahead_past late last segments rest may.1
    ∙ ap (λ p. ahead_at late p rest) (presets_after written s segments)

ahead_fails : (d : Due) (written : Parameters) (bytes : List ℕ) (fault : StreamFault) → AreBytes bytes → BreaksAfter d bytes fault → AheadFails d (ahead_at (is_late d) written bytes) fault
ahead_fails d written bytes fault are breaks =
    let front : List ℕ = miscellaneous_bytes breaks.segments in
    let last = last_presets written breaks.segments in
    let same : ahead_at (is_late d) written bytes ≡ ahead_at (is_late d) last breaks.rest =
    ap (ahead_at (is_late d) written) breaks.whole ∙ ahead_past (is_late d) written breaks.segments breaks.rest breaks.lawful in
    subst (λ (r : Ahead). AheadFails d r fault) (sym same) (part_fails d last breaks.rest fault (bytes_along front breaks.rest are breaks.whole) breaks.breaks)

-- ---- headers and EOI

-- the markers that pass a test are those that are due
record IsTestOf (d : Due) (test : Marker → Bool) : Type 0 where
  other : (m : Marker) → Stops m → test m ≡ false → marker_fault d m ≡ Some BadSegment
  due : (m : Marker) → test m ≡ true → marker_fault d m ≡ None

test_frame : IsTestOf frame_header is_start_of_frame
test_frame = record { other = wrong_frame; due = λ m is. ap (marker_fault frame_header) (is_frame m is) }

test_first : (id : ℕ) → IsTestOf (first_scan id) is_start_of_scan
test_first id = record { other = wrong_first id; due = λ m is. ap (marker_fault (first_scan id)) (is_scan m is) }

test_next : (id : ℕ) → IsTestOf (next_scan id) is_start_of_scan
test_next id = record { other = wrong_next id; due = λ m is. ap (marker_fault (next_scan id)) (is_scan m is) }

test_end : IsTestOf end_marker is_end_of_image
test_end = record { other = wrong_end; due = λ m is. ap (marker_fault end_marker) (is_end m is) }

tested : {Y : Type 0} (d : Due) (test : Marker → Bool) (ahead : Ahead) (fault : StreamFault) (after : Stands → Result Y StreamFault) → IsTestOf d test → AheadFails d ahead fault
    → ((next : Stands) → test next.0 ≡ true → has_segment next.0 ≡ true → AreBytes next.2 → BreaksSegment d next.0 next.2 fault → after next ≡ Err fault)
    → (ahead >>= λ next. wanted (test next.0) BadSegment >>= λ passed. after next) ≡ Err fault
tested d test ahead fault after is (fails_before e) segment = step_bad ahead (λ next. wanted (test next.0) BadSegment >>= λ passed. after next) fault e
tested d test ahead fault after is (stands_wrong next e stops no_place) segment =
    step_is ahead (λ next. wanted (test next.0) BadSegment >>= λ passed. after next) next e
    ∙ elim (cases_Bool (test next.0)) [
      | inl due ↦ absurd (none_some fault (sym (is.due next.0 due) ∙ no_place))
      | inr other ↦ fails_with (test_unmet (test next.0) BadSegment (after next) other) (some_same fault BadSegment (sym no_place ∙ is.other next.0 stops other))
    ]
tested d test ahead fault after is (breaks_within next e stops may has are breaks) segment =
    step_is ahead (λ next. wanted (test next.0) BadSegment >>= λ passed. after next) next e
    ∙ elim (cases_Bool (test next.0)) [
      | inl due ↦ test_met (test next.0) BadSegment (after next) due ∙ segment next due has are breaks
      | inr other ↦ absurd (none_some BadSegment (sym may ∙ is.other next.0 stops other))
    ]

frame_fails : (bytes : List ℕ) (fault : StreamFault) → AreBytes bytes → BreaksAfter frame_header bytes fault → frame_header_at bytes ≡ Err fault
unfolding frame_header_at
frame_fails bytes fault are breaks =
    let after : Stands → Result Frame StreamFault = λ next. contents_at next.2 >>= λ contents. frame_header_of contents.0 >>= λ header. Ok (header, next.1, contents.1) in
    tested frame_header is_start_of_frame (ahead_at false no_presets bytes) fault after test_frame (ahead_fails frame_header no_presets bytes fault are breaks)
    (λ next due has rest_are segment. contents_fail frame_header StartOfFrame next.2 fault (λ contents. frame_header_of contents.0 >>= λ header. Ok (header, next.1, contents.1)) rest_are
    (subst (λ m. BreaksSegment frame_header m next.2 fault) (is_frame next.0 due) segment)
    (λ contents rest unmet. step_bad (frame_header_of contents) (λ header. Ok (header, next.1, rest)) fault
    (err_of (frame_checks contents) (frame_header_of contents) fault (frame_agrees contents) unmet)))

scan_fails : (d : Due) (id : ℕ) (written : Parameters) (bytes : List ℕ) (fault : StreamFault) → IsTestOf d is_start_of_scan
    → ((contents : List ℕ) → contents_checks d StartOfScan contents ≡ scan_checks id contents) → AreBytes bytes → BreaksAfter d bytes fault
    → scan_header_at (is_late d) written id bytes ≡ Err fault
unfolding scan_header_at
scan_fails d id written bytes fault is checks are breaks =
    let after : Stands → Take Parameters = λ next. contents_at next.2 >>= λ contents. scan_header_of id contents.0 >>= λ header. Ok (next.1, contents.1) in
    tested d is_start_of_scan (ahead_at (is_late d) written bytes) fault after is (ahead_fails d written bytes fault are breaks)
    (λ next due has rest_are segment. contents_fail d StartOfScan next.2 fault (λ contents. scan_header_of id contents.0 >>= λ header. Ok (next.1, contents.1)) rest_are
    (subst (λ m. BreaksSegment d m next.2 fault) (is_scan next.0 due) segment)
    (λ contents rest unmet. step_bad (scan_header_of id contents) (λ header. Ok (next.1, rest)) fault
    (err_of (scan_checks id contents) (scan_header_of id contents) fault (scan_agrees id contents) (ap first_unmet (sym (checks contents)) ∙ unmet))))

next_fails : (id : ℕ) (bytes : List ℕ) (fault : StreamFault) → AreBytes bytes → BreaksAfter (next_scan id) bytes fault → next_scan_at id bytes ≡ Err fault
unfolding next_scan_at
next_fails id bytes fault are breaks =
    step_bad (scan_header_at true no_presets id bytes) (λ scan. Ok scan.1) fault (scan_fails (next_scan id) id no_presets bytes fault (test_next id) (λ contents. refl) are breaks)

end_fails : (bytes : List ℕ) (fault : StreamFault) → AreBytes bytes → BreaksAfter end_marker bytes fault → end_at bytes ≡ Err fault
unfolding end_at
end_fails bytes fault are breaks =
    let after : Stands → Result (List ℕ) StreamFault = λ next. Ok next.2 in
    tested end_marker is_end_of_image (ahead_at true no_presets bytes) fault after test_end (ahead_fails end_marker no_presets bytes fault are breaks)
    (λ next due has rest_are segment. absurd (false≢true (ap has_segment (sym (is_end next.0 due)) ∙ has)))

-- ---- all before the data of the first scan

start_fails : (bytes : List ℕ) (fault : StreamFault) → BreaksStart bytes fault → start_at bytes ≡ Err fault
unfolding start_at
start_fails bytes fault (no_byte whole is) = fails_with {fault = Truncated} (ap start_at whole) is
start_fails bytes fault (one_byte whole is) = fails_with {fault = Truncated} (ap start_at whole) is
start_fails bytes fault (another_first byte rest whole other is) =
    fails_with (ap start_at whole ∙ test_unmet (eqb byte 255) NotSoi (byte_at rest >>= λ second. wanted (eqb second.0 216) NotSoi >>= λ d8. Ok second.1) (ne_eqb byte 255 other)) is
start_fails bytes fault (another_second byte rest whole other is) =
    let last : Result (List ℕ) StreamFault = Ok rest in
    fails_with (ap start_at whole ∙ test_unmet (eqb byte 216) NotSoi last (ne_eqb byte 216 other)) is

abbrev after_frame : FrameHeader → Parameters → List ℕ → Result Frame StreamFault
after_frame h written rest =
    scan_header_at false written (slice_index h.ids 0) rest >>= λ scan. or_bad_presets (parameters_of h.precision scan.0) >>= λ parameters. Ok (h, parameters, scan.1)

-- the frame header is read, and what is left goes on with the header of the first scan
record FrameOpened (bytes contents : List ℕ) (before : List Miscellaneous) (rest : List ℕ) : Type 0 where
  h : FrameHeader
  header : HeaderRead contents h
  rest_are : AreBytes rest
  opening : opening_at bytes ≡ after_frame h (last_presets no_presets before) rest

frame_opened : (bytes contents : List ℕ) (before : List Miscellaneous) (rest : List ℕ) → AreBytes bytes → HasFrame bytes contents before rest → FrameOpened bytes contents before rest
unfolding opening_at start_at
frame_opened bytes contents before rest are has =
    let front : List ℕ = miscellaneous_bytes before in
    let frame : List ℕ = filled has.fill (segment StartOfFrame contents) ++ rest in
    let said : List ℕ = two_bytes (2 + length contents) ++ contents in
    let frame_are : AreBytes frame = bytes_along front frame (bytes_along (marker StartOfImage) (front ++ frame) are has.whole) refl in
    let said_are : AreBytes (said ++ rest) = bytes_along (filled has.fill (marker StartOfFrame)) (said ++ rest) frame_are (segment_parts has.fill StartOfFrame contents rest) in
    let contents_are : AreBytes contents = bytes_of_rest (two_bytes (2 + length contents)) contents (bytes_of_front said rest said_are) in
    let read = ok_of (frame_checks contents) (frame_header_of contents) (frame_agrees contents) has.passed in
    record {
      h = read.0;
      header = header_read contents read.0 contents_are read.1;
      rest_are = bytes_of_rest said rest said_are;
      opening = ap opening_at has.whole
          ∙ step_is (frame_header_at (front ++ frame)) (λ found. after_frame found.0 found.1 found.2) (read.0, last_presets no_presets before, rest)
          (frame_spelled contents read.0 has.fill before rest read.1 (segment_short contents rest said_are) has.lawful);
    }

abbrev after_scan : FrameHeader → Result Parameters PresetFault → List ℕ → Result Frame StreamFault
after_scan h parameters rest = or_bad_presets parameters >>= λ p. Ok (h, p, rest)

-- and that is read too
record ScanOpened (bytes contents : List ℕ) (before between : List Miscellaneous) (rest : List ℕ) : Type 0 where
  h : FrameHeader
  header : HeaderRead contents h
  rest_are : AreBytes rest
  opening : opening_at bytes ≡ after_scan h (parameters_of (slice_index contents 0) (last_presets no_presets (before ++ between))) rest

scan_opened : (bytes contents : List ℕ) (before between : List Miscellaneous) (rest : List ℕ) → AreBytes bytes → HasScan bytes contents before between rest
    → ScanOpened bytes contents before between rest
scan_opened bytes contents before between rest are has =
    let frame = frame_opened bytes contents before has.middle are has.frame in
    let h = frame.h in
    let id = slice_index contents 6 in
    let at = ids_at contents h frame.header in
    let written = last_presets no_presets before in
    let last = last_presets written between in
    let header : List ℕ = filled has.fill (segment StartOfScan (scan_contents id)) in
    let header_is : scan_header_at false written (slice_index h.ids 0) has.middle ≡ Ok (last, rest) =
    ap (λ n. scan_header_at false written n has.middle) at.0 ∙ ap (scan_header_at false written id) has.whole
    ∙ scan_header_spelled false written id has.fill between rest has.lawful (early between) in
    record {
      h = h;
      header = frame.header;
      rest_are = bytes_along header rest (bytes_along (miscellaneous_bytes between) (header ++ rest) frame.rest_are has.whole) refl;
      opening = frame.opening
          ∙ step_is (scan_header_at false written (slice_index h.ids 0) has.middle) (λ scan. after_scan h (parameters_of h.precision scan.0) scan.1) (last, rest) header_is
          ∙ ap (λ q. after_scan h (parameters_of h.precision q) rest) (presets_append no_presets before between)
          ∙ ap (λ n. after_scan h (parameters_of n (last_presets no_presets (before ++ between))) rest) (precision_at contents h frame.header);
    }

-- an opening at the front is read
pub opening_again : (bytes : List ℕ) → AreBytes bytes → BeginsWithOpening bytes → HasOpening bytes
opening_again bytes are begins =
    let scan = scan_opened bytes begins.contents begins.before begins.between begins.rest are begins.scan in
    ((scan.h, begins.parameters, begins.rest), scan.opening ∙ ap (λ r. after_scan scan.h r begins.rest) begins.parameters_are)

pub not_both : (bytes : List ℕ) (fault : StreamFault) → HasOpening bytes → opening_at bytes ≡ Err fault → ⊥
not_both bytes fault found bad = let same : ◌≡◌ {A = Result Frame StreamFault} (Ok found.0) (Err fault) = sym found.1 ∙ bad in cc

start_again : (rest : List ℕ) → start_at (marker StartOfImage ++ rest) ≡ Ok rest
unfolding start_at
start_again rest = refl

opening_fails : (bytes : List ℕ) (fault : StreamFault) → AreBytes bytes → BreaksOpening bytes fault → opening_at bytes ≡ Err fault
unfolding opening_at
opening_fails bytes fault are (at_start breaks) =
    step_bad (start_at bytes) (λ rest. frame_header_at rest >>= λ found. after_frame found.0 found.1 found.2) fault (start_fails bytes fault breaks)
opening_fails bytes fault are (before_frame rest whole breaks) =
    step_is (start_at bytes) (λ rest. frame_header_at rest >>= λ found. after_frame found.0 found.1 found.2) rest (ap start_at whole ∙ start_again rest)
    ∙ step_bad (frame_header_at rest) (λ found. after_frame found.0 found.1 found.2) fault (frame_fails rest fault (bytes_along (marker StartOfImage) rest are whole) breaks)
opening_fails bytes fault are (before_scan contents rest before has breaks) =
    let frame = frame_opened bytes contents before rest are has in
    let h = frame.h in
    let id = slice_index contents 6 in
    let written = last_presets no_presets before in
    frame.opening
    ∙ step_bad (scan_header_at false written (slice_index h.ids 0) rest) (λ scan. after_scan h (parameters_of h.precision scan.0) scan.1) fault
    (ap (λ n. scan_header_at false written n rest) (ids_at contents h frame.header).0
    ∙ scan_fails (first_scan id) id written rest fault (test_first id) (λ contents. refl) frame.rest_are breaks)
opening_fails bytes fault are (bad_presets contents rest before between cause has e is) =
    let scan = scan_opened bytes contents before between rest are has in
    fails_with (scan.opening ∙ ap (λ r. after_scan scan.h r rest) e) is

-- ---- with the planes

planes_stop : (p : Parameters) (width height component : ℕ) (later bytes : List ℕ) (fault : StreamFault) → AreBytes bytes → BreaksPlanes p width height component later bytes fault
    → ScansStop p width height component later bytes fault
planes_stop p width height component [] bytes fault are (len, front, breaks) =
    let size : len ≡ data_length bytes = data_length-only bytes len front in
    let after_are = bytes_along (data_at bytes) (after_data bytes) are (sym (take-append-drop (data_length bytes) bytes)) in
    elim breaks [
      | inl code ↦ inl (subst (λ n. BreaksData p width height component (take n bytes) (stop_at (drop n bytes)) fault) size code)
      | inr a ↦ inr (
        subst (λ n. IsPlaneData p width height (take n bytes)) size a.0,
        end_fails (after_data bytes) fault after_are (subst (λ n. BreaksAfter end_marker (drop n bytes) fault) size a.1),
      )
    ]
planes_stop p width height component (id ∷ later) bytes fault are (len, front, breaks) =
    let size : len ≡ data_length bytes = data_length-only bytes len front in
    let after = after_data bytes in
    let after_are = bytes_along (data_at bytes) after are (sym (take-append-drop (data_length bytes) bytes)) in
    elim breaks [
      | inl code ↦ inl (subst (λ n. BreaksData p width height component (take n bytes) (stop_at (drop n bytes)) fault) size code)
      | inr a ↦ inr (
        subst (λ n. IsPlaneData p width height (take n bytes)) size a.0,
        elim a.1 [
          | inl bad ↦ inl (next_fails id after fault after_are (subst (λ n. BreaksAfter (next_scan id) (drop n bytes) fault) size bad))
          | inr b ↦
              let has : HasNextScan id after b.0 = subst (λ n. HasNextScan id (drop n bytes) b.0) size b.1 in
              let header : List ℕ = filled has.fill (segment StartOfScan (scan_contents id)) in
              let more_are = bytes_along header b.0 (bytes_along (miscellaneous_bytes has.after) (header ++ b.0) after_are has.whole) refl in
              inr (
                b.0,
                ap (next_scan_at id) has.whole ∙ next_scan_spelled id has.fill has.after b.0 has.lawful,
                planes_stop p width height (component + 1) later b.0 fault more_are b.2,
              )
        ],
      )
    ]

pub first_faults_are_stops : FirstFaultsAreStops
first_faults_are_stops bytes fault are (before_data breaks) = at_opening (opening_fails bytes fault are breaks)
first_faults_are_stops bytes fault are (from_data contents rest before between p has e breaks) =
    let scan = scan_opened bytes contents before between rest are has in
    let h = scan.h in
    at_scans h p rest (scan.opening ∙ ap (λ r. after_scan h r rest) e)
    (planes_stop p h.width h.height 0 (drop 1 (ids_in h)) rest fault scan.rest_are
    (subst (λ n. BreaksPlanes p n h.height 0 (drop 1 (ids_in h)) rest fault) scan.header.width_at
    (subst (λ n. BreaksPlanes p (field_of contents 3) n 0 (drop 1 (ids_in h)) rest fault) scan.header.height_at
    (subst (λ ids. BreaksPlanes p (field_of contents 3) (field_of contents 1) 0 ids rest fault) (sym (ids_at contents h scan.header).1) breaks))))
