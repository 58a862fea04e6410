-- Reading the outline of a codestream goes along with reading its extent: each part that the one reads the other passes, and where the one
-- needs a byte after the end, so does the other.
use Rattle.std.proofs.Common.{◌≡◌, ℕ, zero, suc, ◌+◌, ◌*◌, ◌<◌, ◌&&◌, Bool, true, false, cond, eqb, leb, List, [], ◌∷◌, length, drop, Option, None, Some, Result, Ok, Err, MatchResult, refl, sym, ap, subst, arith}
use Rattle.std.specs.Prelude.{slice_index, not}
use Rattle.ls_frame.specs.declared.frame.Kind.{Kind}
use Rattle.ls_frame.specs.declared.frame.Kind.TheVariants.{Gray, Color}
use Rattle.ls_frame.specs.declared.presets.PresetFault.{PresetFault}
use Rattle.ls_frame.specs.Parameters.{Parameters}
use Rattle.ls_frame.specs.Picture.{components, sample_count, most_samples}
use Rattle.ls_stream.specs.declared.faults.StreamFault.{StreamFault}
use Rattle.ls_stream.specs.declared.faults.StreamFault.TheVariants.{Truncated, BadSegment, Unsupported, BadPresets, TooLarge}
use Rattle.ls_stream.specs.declared.faults.What.{What}
use Rattle.ls_stream.specs.declared.faults.What.TheVariants as what
use Rattle.ls_stream.specs.declared.marker.Marker.{Marker}
use Rattle.ls_stream.specs.declared.marker.Marker.TheVariants.{StartOfImage, EndOfImage, StartOfScan, StartOfFrame, PresetParameters, Application, Comment, Other}
use Rattle.ls_stream.specs.declared.segments.read.FrameHeader.{FrameHeader}
use Rattle.ls_stream.specs.Segments.{field_of}
use Rattle.ls_stream.specs.Grammar.{no_presets, parameters_of}
use Rattle.ls_stream.specs.View.Reading.{◌>>=◌, wanted, Take, start_at, marker_at, contents_at, kind_of_count, id_of, ids_of, frame_header_of, scan_header_of, preset_fields_of, skipped_at, presets_at, after_marker, part_at, Ahead, unless_marker, ahead_at, is_start_of_frame, is_start_of_scan, is_end_of_image, frame_header_at, scan_header_at, next_scan_at, end_at, or_bad_presets, opening_at}
use Rattle.ls_stream.specs.View.Outlines.{data_at, after_data, Outline, ids_in, scans_at, outline_at}
use Rattle.ls_stream.specs.View.Extents.{Left, after_segment, after_any, segments_at, extent_at}
use Rattle.ls_stream.proofs.StepLemmas.{same_fault}
use Rattle.ls_stream.proofs.BreakLemmas.{no_err}
use Rattle.ls_stream.proofs.AheadLemmas.{Found, Stands, part_shorter, ahead_at-part}
use Rattle.ls_stream.proofs.OutlineLemmas.{is_frame, is_scan, is_end}
use Rattle.ls_stream.proofs.PlaceLemmas.{segments_at-next}

-- ---- steps

-- what is read goes along with an extent, which goes on after what is read
abbrev pub IsAlong : {X : Type 0} → (X → Left) → Result X StreamFault → Left → Type 0
IsAlong after r extent = MatchResult r (λ x. extent ≡ after x) (λ fault. fault ≡ Truncated → extent ≡ Err Truncated)

abbrev failed : {X : Type 0} → StreamFault → Result X StreamFault
failed fault = Err fault

step_along : {X Y : Type 0} (after : X → Left) (then : Y → Left) (r : Result X StreamFault) (f : X → Result Y StreamFault) (extent : Left) → IsAlong after r extent
    → ((x : X) → r ≡ Ok x → IsAlong then (f x) (after x)) → IsAlong then (r >>= f) extent
step_along after then (Ok x) f extent along next = subst (λ e. IsAlong then (f x) e) (sym along) (next x refl)
step_along after then (Err fault) f extent along next = along

-- both begin with the same step
both_along : {X Y : Type 0} (then : Y → Left) (r : Result X StreamFault) (f : X → Result Y StreamFault) (g : X → Left) → ((x : X) → IsAlong then (f x) (g x)) → IsAlong then (r >>= f) (r >>= g)
both_along then (Ok x) f g next = next x
both_along then (Err fault) f g next = λ e. ap (λ d. failed {X = List ℕ} d) e

-- a step that needs no byte
IsNoByte : {X : Type 0} → Result X StreamFault → Type 0
IsNoByte r = r ≡ Err Truncated → ⊥

inside_along : {X Y : Type 0} (then : Y → Left) (r : Result X StreamFault) (f : X → Result Y StreamFault) (extent : Left) → IsNoByte r
    → ((x : X) → IsAlong then (f x) extent) → IsAlong then (r >>= f) extent
unfolding IsNoByte
inside_along then (Ok x) f extent no_byte next = next x
inside_along {X} then (Err fault) f extent no_byte next = λ e. absurd (no_byte (ap (λ d. failed {X = X} d) e))

-- a test that passes, or a fault other than the end
tested_along : {Y : Type 0} (then : Y → Left) (test : Bool) (fault : StreamFault) (r : Result Y StreamFault) (extent : Left) → (fault ≡ Truncated → ⊥)
    → (test ≡ true → IsAlong then r extent) → IsAlong then (wanted test fault >>= λ passed. r) extent
tested_along then true fault r extent other next = next refl
tested_along then false fault r extent other next = λ e. absurd (other e)

-- ---- contents need no byte

no_bad : BadSegment ≡ Truncated → ⊥
no_bad e = cc

no_large : TooLarge ≡ Truncated → ⊥
no_large e = cc

no_what : (what : What) → Unsupported what ≡ Truncated → ⊥
no_what what e = cc

no_presets_fault : (fault : PresetFault) → BadPresets fault ≡ Truncated → ⊥
no_presets_fault fault e = cc

step_no_byte : {X Y : Type 0} (r : Result X StreamFault) (f : X → Result Y StreamFault) → IsNoByte r → ((x : X) → IsNoByte (f x)) → IsNoByte (r >>= f)
unfolding IsNoByte
step_no_byte (Ok x) f no_byte next = next x
step_no_byte {X} {Y} (Err fault) f no_byte next = λ e. no_byte (ap (λ d. failed {X = X} d) (same_fault {A = Y} fault Truncated e))

ok_no_byte : {X : Type 0} (x : X) → IsNoByte (Ok x)
unfolding IsNoByte
ok_no_byte x e = no_err x Truncated e

test_no_byte : {X : Type 0} (test : Bool) (fault : StreamFault) (r : Result X StreamFault) → (fault ≡ Truncated → ⊥) → IsNoByte r → IsNoByte (wanted test fault >>= λ passed. r)
unfolding IsNoByte
test_no_byte true fault r other no_byte = no_byte
test_no_byte {X} false fault r other no_byte = λ e. other (same_fault {A = X} fault Truncated e)

last_no_byte : (test : Bool) (fault : StreamFault) → (fault ≡ Truncated → ⊥) → IsNoByte (wanted test fault)
unfolding IsNoByte
last_no_byte true fault other e = no_err tt Truncated e
last_no_byte false fault other e = other (same_fault {A = Unit {0}} fault Truncated e)

kind_no_byte_by : (one three : Bool) (count : ℕ) → IsNoByte (cond one (Ok Gray) (cond three (Ok Color) (Err (Unsupported (what.Components count)))))
unfolding IsNoByte
kind_no_byte_by true three count e = no_err Gray Truncated e
kind_no_byte_by false true count e = no_err Color Truncated e
kind_no_byte_by false false count e = no_what (what.Components count) (same_fault {A = Kind} _ Truncated e)

id_no_byte : (before contents : List ℕ) (place : ℕ) → IsNoByte (id_of before contents place)
unfolding id_of
id_no_byte before contents place = test_no_byte _ _ _ no_bad (test_no_byte _ _ _ (no_what what.Sampling) (ok_no_byte (slice_index contents place)))

ids_no_byte : (kind : Kind) (contents : List ℕ) → IsNoByte (ids_of kind contents)
unfolding ids_of
ids_no_byte Gray contents = step_no_byte (id_of [] contents 6) (λ first. Ok (first ∷ 0 ∷ 0 ∷ [])) (id_no_byte [] contents 6) (λ first. ok_no_byte (first ∷ 0 ∷ 0 ∷ []))
ids_no_byte Color contents =
    step_no_byte (id_of [] contents 6) (λ first. id_of (first ∷ []) contents 9 >>= λ second. id_of (first ∷ second ∷ []) contents 12 >>= λ third. Ok (first ∷ second ∷ third ∷ []))
    (id_no_byte [] contents 6)
    (λ first. step_no_byte (id_of (first ∷ []) contents 9) (λ second. id_of (first ∷ second ∷ []) contents 12 >>= λ third. Ok (first ∷ second ∷ third ∷ [])) (id_no_byte (first ∷ []) contents 9)
    (λ second. step_no_byte (id_of (first ∷ second ∷ []) contents 12) (λ third. Ok (first ∷ second ∷ third ∷ [])) (id_no_byte (first ∷ second ∷ []) contents 12)
    (λ third. ok_no_byte (first ∷ second ∷ third ∷ []))))

header_in : List ℕ → Kind → List ℕ → FrameHeader
header_in contents kind ids = record { precision = slice_index contents 0; height = field_of contents 1; width = field_of contents 3; kind = kind; ids = ids }

header_no_byte : (contents : List ℕ) → IsNoByte (frame_header_of contents)
unfolding frame_header_of header_in
header_no_byte contents =
    test_no_byte (leb 6 (length contents)) _ _ no_bad
    (test_no_byte (leb 2 (slice_index contents 0) && leb (slice_index contents 0) 16) _ _ no_bad
    (test_no_byte (not (eqb (field_of contents 1) 0)) _ _ (no_what what.HeightZero)
    (test_no_byte (not (eqb (field_of contents 3) 0)) _ _ no_bad
    (step_no_byte (kind_of_count (slice_index contents 5)) _ (kind_no_byte_by (eqb (slice_index contents 5) 1) (eqb (slice_index contents 5) 3) (slice_index contents 5))
    (λ kind. test_no_byte (eqb (length contents) (6 + 3 * components kind)) _ _ no_bad
    (step_no_byte (ids_of kind contents) _ (ids_no_byte kind contents)
    (λ ids. test_no_byte (leb (sample_count kind (field_of contents 3) (field_of contents 1)) most_samples) _ _ no_large (ok_no_byte (header_in contents kind ids)))))))))

fields_no_byte : (contents : List ℕ) → IsNoByte (preset_fields_of contents)
unfolding preset_fields_of
fields_no_byte contents = test_no_byte _ _ _ no_bad (test_no_byte _ _ _ (no_what (what.LseId (slice_index contents 0))) (test_no_byte _ _ _ no_bad (ok_no_byte _)))

scan_no_byte : (id : ℕ) (contents : List ℕ) → IsNoByte (scan_header_of id contents)
unfolding scan_header_of
scan_no_byte id contents =
    test_no_byte (leb 4 (length contents)) _ _ no_bad (test_no_byte (eqb (slice_index contents 0) 1) _ _ (no_what what.Interleave)
    (test_no_byte (eqb (length contents) 6) _ _ no_bad (test_no_byte (eqb (slice_index contents 1) id) _ _ (no_what what.ScanOrder)
    (test_no_byte (eqb (slice_index contents 2) 0) _ _ (no_what what.Mapping) (test_no_byte (eqb (slice_index contents 3) 0) _ _ (no_what what.Near)
    (test_no_byte (eqb (slice_index contents 4) 0) _ _ (no_what what.Interleave) (last_no_byte (eqb (slice_index contents 5) 0) _ (no_what what.PointTransform))))))))

presets_no_byte : (r : Result Parameters PresetFault) → IsNoByte (or_bad_presets r)
unfolding IsNoByte
presets_no_byte (Ok p) e = no_err p Truncated e
presets_no_byte (Err fault) e = no_presets_fault fault (same_fault {A = Parameters} _ Truncated e)

-- ---- miscellaneous segments

-- where the extent goes on after a part
abbrev unless_ends : Option Marker → List ℕ → Left
unless_ends None rest = segments_at rest
unless_ends (Some m) rest = after_any segments_at m rest

abbrev after_part : Found → Left
after_part found = unless_ends found.0 found.2

abbrev after_ahead : Stands → Left
after_ahead found = after_any segments_at found.0 found.2

skipped_along : (written : Parameters) (bytes : List ℕ) → IsAlong after_part (skipped_at written bytes) (after_segment segments_at bytes)
skipped_along written bytes = both_along after_part (contents_at bytes) (λ c. Ok (None, written, c.1)) (λ c. segments_at c.1) (λ c. refl)

presets_along : (late : Bool) (bytes : List ℕ) → IsAlong after_part (presets_at late bytes) (after_segment segments_at bytes)
presets_along true bytes = λ e. absurd (no_what what.LseLate e)
presets_along false bytes =
    both_along after_part (contents_at bytes) (λ c. preset_fields_of c.0 >>= λ written. Ok (None, written, c.1)) (λ c. segments_at c.1)
    (λ c. inside_along after_part (preset_fields_of c.0) (λ written. Ok (None, written, c.1)) (segments_at c.1) (fields_no_byte c.0) (λ written. refl))

after_along : (late : Bool) (written : Parameters) (m : Marker) (bytes : List ℕ) → IsAlong after_part (after_marker late written m bytes) (after_any segments_at m bytes)
unfolding after_marker after_any
after_along late written StartOfImage bytes = λ e. absurd (no_what _ e)
after_along late written EndOfImage bytes = refl
after_along late written StartOfScan bytes = refl
after_along late written StartOfFrame bytes = refl
after_along late written PresetParameters bytes = presets_along late bytes
after_along late written (Application code) bytes = skipped_along written bytes
after_along late written Comment bytes = skipped_along written bytes
after_along late written (Other code) bytes = λ e. absurd (no_what _ e)

part_along : (late : Bool) (written : Parameters) (bytes : List ℕ) → IsAlong after_part (part_at late written bytes) (segments_at bytes)
unfolding part_at
part_along late written bytes =
    subst (λ e. IsAlong after_part (marker_at bytes >>= λ n. after_marker late written n.0 n.1) e) (sym (segments_at-next bytes))
    (both_along after_part (marker_at bytes) (λ n. after_marker late written n.0 n.1) (λ n. after_any segments_at n.0 n.1) (λ n. after_along late written n.0 n.1))

unless_along : (again : Parameters → List ℕ → Ahead) (o : Option Marker) (last : Parameters) (rest : List ℕ)
    → (o ≡ None → IsAlong after_ahead (again last rest) (segments_at rest)) → IsAlong after_ahead (unless_marker again o last rest) (unless_ends o rest)
unless_along again None last rest along = along refl
unless_along again (Some m) last rest along = refl

ahead_along_within : (most : ℕ) (late : Bool) (written : Parameters) (bytes : List ℕ) → length bytes < most → IsAlong after_ahead (ahead_at late written bytes) (segments_at bytes)
ahead_along_within zero late written bytes few = absurd (omega arith)
ahead_along_within (suc most) late written bytes few =
    let again : Parameters → List ℕ → Ahead = λ w rest. ahead_at late w rest in
    subst (λ r. IsAlong after_ahead r (segments_at bytes)) (sym (ahead_at-part late written bytes))
    (step_along after_part after_ahead (part_at late written bytes) (λ part. unless_marker again part.0 part.1 part.2) (segments_at bytes) (part_along late written bytes)
    (λ p e.
    let less = part_shorter late written bytes p e in
    unless_along again p.0 p.1 p.2 (λ none. ahead_along_within most late p.1 p.2 (omega arith))))

ahead_along : (late : Bool) (written : Parameters) (bytes : List ℕ) → IsAlong after_ahead (ahead_at late written bytes) (segments_at bytes)
ahead_along late written bytes = ahead_along_within (suc (length bytes)) late written bytes (omega arith)

-- ---- headers and EOI

abbrev pub Frame : Type 0
Frame = FrameHeader × Parameters × List ℕ

frame_header_along : (bytes : List ℕ) → IsAlong (λ (x : Frame). segments_at x.2) (frame_header_at bytes) (segments_at bytes)
unfolding frame_header_at after_any
frame_header_along bytes =
    let left : Frame → Left = λ x. segments_at x.2 in
    let after : Stands → Result Frame StreamFault = λ next. contents_at next.2 >>= λ c. frame_header_of c.0 >>= λ h. Ok (h, next.1, c.1) in
    step_along after_ahead left (ahead_at false no_presets bytes) (λ n. wanted (is_start_of_frame n.0) BadSegment >>= λ frame. after n) (segments_at bytes) (ahead_along false no_presets bytes)
    (λ n e. tested_along left (is_start_of_frame n.0) BadSegment (after n) (after_ahead n) no_bad
    (λ is. subst (λ m. IsAlong left (after n) (after_any segments_at m n.2)) (sym (is_frame n.0 is))
    (both_along left (contents_at n.2) (λ c. frame_header_of c.0 >>= λ h. Ok (h, n.1, c.1)) (λ c. segments_at c.1)
    (λ c. inside_along left (frame_header_of c.0) (λ h. Ok (h, n.1, c.1)) (segments_at c.1) (header_no_byte c.0) (λ h. refl)))))

abbrev Scan : Type 0
Scan = Parameters × List ℕ

scan_header_along : (late : Bool) (written : Parameters) (id : ℕ) (bytes : List ℕ) → IsAlong (λ (x : Scan). segments_at (after_data x.1)) (scan_header_at late written id bytes) (segments_at bytes)
unfolding scan_header_at after_any
scan_header_along late written id bytes =
    let left : Scan → Left = λ x. segments_at (after_data x.1) in
    let after : Stands → Result Scan StreamFault = λ next. contents_at next.2 >>= λ c. scan_header_of id c.0 >>= λ h. Ok (next.1, c.1) in
    step_along after_ahead left (ahead_at late written bytes) (λ n. wanted (is_start_of_scan n.0) BadSegment >>= λ scan. after n) (segments_at bytes) (ahead_along late written bytes)
    (λ n e. tested_along left (is_start_of_scan n.0) BadSegment (after n) (after_ahead n) no_bad
    (λ is. subst (λ m. IsAlong left (after n) (after_any segments_at m n.2)) (sym (is_scan n.0 is))
    (both_along left (contents_at n.2) (λ c. scan_header_of id c.0 >>= λ h. Ok (n.1, c.1)) (λ c. segments_at (after_data c.1))
    (λ c. inside_along left (scan_header_of id c.0) (λ h. Ok (n.1, c.1)) (segments_at (after_data c.1)) (scan_no_byte id c.0) (λ h. refl)))))

pub next_scan_along : (id : ℕ) (bytes : List ℕ) → IsAlong (λ (rest : List ℕ). segments_at (after_data rest)) (next_scan_at id bytes) (segments_at bytes)
unfolding next_scan_at
next_scan_along id bytes =
    step_along (λ (x : Scan). segments_at (after_data x.1)) (λ (rest : List ℕ). segments_at (after_data rest)) (scan_header_at true no_presets id bytes) (λ scan. Ok scan.1) (segments_at bytes)
    (scan_header_along true no_presets id bytes) (λ scan e. refl)

pub end_along : (bytes : List ℕ) → IsAlong (λ (rest : List ℕ). Ok rest) (end_at bytes) (segments_at bytes)
unfolding end_at after_any
end_along bytes =
    let left : List ℕ → Left = λ rest. Ok rest in
    step_along after_ahead left (ahead_at true no_presets bytes) (λ n. wanted (is_end_of_image n.0) BadSegment >>= λ image. Ok n.2) (segments_at bytes) (ahead_along true no_presets bytes)
    (λ n e. tested_along left (is_end_of_image n.0) BadSegment (Ok n.2) (after_ahead n) no_bad
    (λ is. ap (λ m. after_any segments_at m n.2) (is_end n.0 is)))

pub opening_along : (bytes : List ℕ) → IsAlong (λ (x : Frame). segments_at (after_data x.2)) (opening_at bytes) (extent_at bytes)
unfolding opening_at extent_at
opening_along bytes =
    let left : Frame → Left = λ x. segments_at (after_data x.2) in
    let last : Frame → Scan → Result Frame StreamFault = λ frame scan. or_bad_presets (parameters_of frame.0.precision scan.0) >>= λ p. Ok (frame.0, p, scan.1) in
    let scanned : Frame → Result Frame StreamFault = λ frame. scan_header_at false frame.1 (slice_index frame.0.ids 0) frame.2 >>= λ scan. last frame scan in
    both_along left (start_at bytes) (λ rest. frame_header_at rest >>= scanned) segments_at
    (λ rest. step_along (λ (x : Frame). segments_at x.2) left (frame_header_at rest) scanned (segments_at rest) (frame_header_along rest)
    (λ frame e. step_along (λ (x : Scan). segments_at (after_data x.1)) left (scan_header_at false frame.1 (slice_index frame.0.ids 0) frame.2) (last frame) (segments_at frame.2)
    (scan_header_along false frame.1 (slice_index frame.0.ids 0) frame.2)
    (λ scan e'. inside_along left (or_bad_presets (parameters_of frame.0.precision scan.0)) (λ p. Ok (frame.0, p, scan.1)) (segments_at (after_data scan.1))
    (presets_no_byte (parameters_of frame.0.precision scan.0)) (λ p. refl))))

-- ---- scans, and the outline

abbrev whole_left : {X : Type 0} → X × List ℕ → Left
whole_left found = Ok found.1

scans_along : (later bytes : List ℕ) → IsAlong (whole_left {X = List (List ℕ)}) (scans_at later bytes) (segments_at (after_data bytes))
unfolding scans_at
scans_along [] bytes =
    step_along (λ (rest : List ℕ). Ok rest) (whole_left {X = List (List ℕ)}) (end_at (after_data bytes)) (λ rest. Ok (data_at bytes ∷ [], rest)) (segments_at (after_data bytes))
    (end_along (after_data bytes)) (λ rest e. refl)
scans_along (id ∷ later) bytes =
    step_along (λ (rest : List ℕ). segments_at (after_data rest)) (whole_left {X = List (List ℕ)}) (next_scan_at id (after_data bytes))
    (λ rest. scans_at later rest >>= λ scans. Ok (data_at bytes ∷ scans.0, scans.1)) (segments_at (after_data bytes)) (next_scan_along id (after_data bytes))
    (λ rest e. step_along (whole_left {X = List (List ℕ)}) (whole_left {X = List (List ℕ)}) (scans_at later rest) (λ scans. Ok (data_at bytes ∷ scans.0, scans.1)) (segments_at (after_data rest))
    (scans_along later rest) (λ scans e'. refl))

pub outline_along : (bytes : List ℕ) → IsAlong (whole_left {X = Outline}) (outline_at bytes) (extent_at bytes)
unfolding outline_at
outline_along bytes =
    let made : Frame → List (List ℕ) × List ℕ → Take Outline = λ opening scans. Ok (record { header = opening.0; parameters = opening.1; scans = scans.0 }, scans.1) in
    step_along (λ (x : Frame). segments_at (after_data x.2)) (whole_left {X = Outline}) (opening_at bytes) (λ opening. scans_at (drop 1 (ids_in opening.0)) opening.2 >>= made opening) (extent_at bytes)
    (opening_along bytes)
    (λ opening e. step_along (whole_left {X = List (List ℕ)}) (whole_left {X = Outline}) (scans_at (drop 1 (ids_in opening.0)) opening.2) (made opening) (segments_at (after_data opening.2))
    (scans_along (drop 1 (ids_in opening.0)) opening.2) (λ scans e'. refl))
