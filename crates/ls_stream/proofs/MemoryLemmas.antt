-- Reading all before the data of the first scan allocates nothing: no fault of it is NoMemory.
use Rattle.std.proofs.Common.{◌≡◌, ◌≢◌, ℕ, zero, suc, Bool, true, false, List, [], ◌∷◌, length, Option, None, Some, Result, Ok, Err, inl, inr, drop, ap}
use Rattle.std.specs.Prelude.{◌+◌, ◌*◌, ◌&&◌, ◌==◌, not, nat_le, nat_lt, if◌then◌else◌, slice_index}
use Rattle.ls_frame.specs.declared.frame.Kind.{Kind}
use Rattle.ls_frame.specs.declared.frame.Kind.TheVariants.{Gray, Color}
use Rattle.ls_frame.specs.declared.presets.PresetFault.{PresetFault}
use Rattle.ls_frame.specs.Picture.{components, sample_count, most_samples}
use Rattle.ls_frame.specs.Parameters.{Parameters}
use Rattle.ls_stream.specs.declared.faults.StreamFault.{StreamFault}
use Rattle.ls_stream.specs.declared.faults.StreamFault.TheVariants.{Truncated, NotSoi, BadSegment, Unsupported, BadPresets, TooLarge, BadCode, LeftoverBits, NoMemory}
use Rattle.ls_stream.specs.declared.faults.What.TheVariants as what
use Rattle.ls_stream.specs.declared.marker.Marker.{Marker}
use Rattle.ls_stream.specs.declared.marker.Marker.TheVariants.{StartOfImage, EndOfImage, StartOfScan, StartOfFrame, PresetParameters, Application, Comment, Other}
use Rattle.ls_bits.specs.declared.data.Stop.{Stop}
use Rattle.ls_stream.specs.Segments.{field_of}
use Rattle.ls_stream.specs.Grammar.{parameters_of, no_presets, most_bytes}
use Rattle.ls_stream.specs.View.FirstFaults.{BreaksData, wrong_code, marker_early, input_ends, leftover}
use Rattle.ls_stream.specs.View.Reading.{◌>>=◌, wanted, byte_at, start_at, code_at, marker_at, contents_at, kind_of_count, id_of, ids_of, frame_header_of, preset_fields_of, scan_header_of, skipped_at, presets_at, after_marker, part_at, Ahead, unless_marker, ahead_within, ahead_at, frame_header_at, scan_header_at, or_bad_presets, opening_at, next_scan_at, end_at}
use Rattle.ls_stream.specs.View.Outlines.{past_most, fault_of, after_data, ids_in, ScansStop, DecodingStops, at_opening, at_scans}
use Rattle.ls_stream.proofs.StepLemmas.{same_fault}

-- it doesn't fail with NoMemory
abbrev NeedsNone : {A : Type 0} → Result A StreamFault → Type 0
NeedsNone r = r ≡ Err NoMemory → ⊥

abbrev failed : {A : Type 0} → StreamFault → Result A StreamFault
failed fault = Err fault

-- ---- steps

step : {A B : Type 0} (r : Result A StreamFault) (f : A → Result B StreamFault) → NeedsNone r → ((x : A) → NeedsNone (f x)) → NeedsNone (r >>= f)
step (Ok x) f first next e = next x e
step {A} {B} (Err fault) f first next e = first (ap (λ d. failed {A = A} d) (same_fault {A = B} fault NoMemory e))

test : {B : Type 0} (passes : Bool) (fault : StreamFault) (r : Result B StreamFault) → fault ≢ NoMemory → NeedsNone r → NeedsNone (wanted passes fault >>= λ passed. r)
test true fault r other next e = next e
test {B} false fault r other next e = other (same_fault {A = B} fault NoMemory e)

last_test : (passes : Bool) (fault : StreamFault) → fault ≢ NoMemory → NeedsNone (wanted passes fault)
last_test true fault other e = absurd cc
last_test false fault other e = other (same_fault {A = Unit {0}} fault NoMemory e)

either : {A : Type 0} (test : Bool) (r s : Result A StreamFault) → NeedsNone r → NeedsNone s → NeedsNone (if test then r else s)
either true r s one other e = one e
either false r s one other e = other e

value : {A : Type 0} (x : A) → NeedsNone (Ok x)
value x e = absurd cc

fails : {A : Type 0} (fault : StreamFault) → fault ≢ NoMemory → NeedsNone (failed {A = A} fault)
fails {A} fault other e = other (same_fault {A = A} fault NoMemory e)

-- ---- the faults

truncated : Truncated ≢ NoMemory
truncated e = absurd cc

not_soi : NotSoi ≢ NoMemory
not_soi e = absurd cc

bad_segment : BadSegment ≢ NoMemory
bad_segment e = absurd cc

too_large : TooLarge ≢ NoMemory
too_large e = absurd cc

unsupported : (kind : _) → Unsupported kind ≢ NoMemory
unsupported kind e = absurd cc

bad_presets : (kind : _) → BadPresets kind ≢ NoMemory
bad_presets kind e = absurd cc

-- ---- markers

byte : (bytes : List ℕ) → NeedsNone (byte_at bytes)
byte [] e = absurd cc
byte (first ∷ bytes) e = absurd cc

start : (bytes : List ℕ) → NeedsNone (start_at bytes)
unfolding start_at
start bytes =
    step (byte_at bytes) _ (byte bytes)
    (λ first. test _ NotSoi _ not_soi (step (byte_at first.1) _ (byte first.1) (λ second. test _ NotSoi _ not_soi (value second.1))))

code : (bytes : List ℕ) → NeedsNone (code_at bytes)
unfolding code_at
code [] = fails Truncated truncated
code (first ∷ bytes) = either _ _ _ (code bytes) (either _ _ _ (fails BadSegment bad_segment) (value (first, bytes)))

marker : (bytes : List ℕ) → NeedsNone (marker_at bytes)
unfolding marker_at
marker bytes = step (byte_at bytes) _ (byte bytes) (λ first. test _ BadSegment _ bad_segment (step (code_at first.1) _ (code first.1) (λ found. value _)))

-- ---- segments

contents : (bytes : List ℕ) → NeedsNone (contents_at bytes)
unfolding contents_at
contents bytes = test _ Truncated _ truncated (test _ BadSegment _ bad_segment (test _ Truncated _ truncated (value _)))

kind_of : (count : ℕ) → NeedsNone (kind_of_count count)
kind_of count = either _ _ _ (value Gray) (either _ _ _ (value Color) (fails _ (unsupported _)))

id : (before contents : List ℕ) (place : ℕ) → NeedsNone (id_of before contents place)
unfolding id_of
id before contents place = test _ BadSegment _ bad_segment (test _ _ _ (unsupported _) (value _))

ids : (kind : Kind) (contents : List ℕ) → NeedsNone (ids_of kind contents)
unfolding ids_of
ids Gray contents = step (id_of [] contents 6) _ (id [] contents 6) (λ first. value _)
ids Color contents =
    step (id_of [] contents 6) _ (id [] contents 6)
    (λ first. step (id_of (first ∷ []) contents 9) _ (id (first ∷ []) contents 9)
    (λ second. step (id_of (first ∷ second ∷ []) contents 12) _ (id (first ∷ second ∷ []) contents 12) (λ third. value _)))

frame_header_in : (contents : List ℕ) → NeedsNone (frame_header_of contents)
unfolding frame_header_of
frame_header_in contents =
    test (nat_le 6 (length contents)) BadSegment _ bad_segment
    (test (nat_le 2 (slice_index contents 0) && nat_le (slice_index contents 0) 16) BadSegment _ bad_segment
    (test (not (field_of contents 1 == 0)) (Unsupported what.HeightZero) _ (unsupported what.HeightZero)
    (test (not (field_of contents 3 == 0)) BadSegment _ bad_segment
    (step (kind_of_count (slice_index contents 5)) _ (kind_of (slice_index contents 5))
    (λ kind. test (length contents == 6 + 3 * components kind) BadSegment _ bad_segment
    (step (ids_of kind contents) _ (ids kind contents)
    (λ found. test (nat_le (sample_count kind (field_of contents 3) (field_of contents 1)) most_samples) TooLarge _ too_large
    (value (record { precision = slice_index contents 0; height = field_of contents 1; width = field_of contents 3; kind = kind; ids = found })))))))))

preset_fields_in : (contents : List ℕ) → NeedsNone (preset_fields_of contents)
unfolding preset_fields_of
preset_fields_in contents = test _ BadSegment _ bad_segment (test _ _ _ (unsupported _) (test _ BadSegment _ bad_segment (value _)))

scan_header_in : (id : ℕ) (contents : List ℕ) → NeedsNone (scan_header_of id contents)
unfolding scan_header_of
scan_header_in id contents =
    test (nat_le 4 (length contents)) BadSegment _ bad_segment
    (test (slice_index contents 0 == 1) (Unsupported what.Interleave) _ (unsupported what.Interleave)
    (test (length contents == 6) BadSegment _ bad_segment
    (test (slice_index contents 1 == id) (Unsupported what.ScanOrder) _ (unsupported what.ScanOrder)
    (test (slice_index contents 2 == 0) (Unsupported what.Mapping) _ (unsupported what.Mapping)
    (test (slice_index contents 3 == 0) (Unsupported what.Near) _ (unsupported what.Near)
    (test (slice_index contents 4 == 0) (Unsupported what.Interleave) _ (unsupported what.Interleave)
    (last_test (slice_index contents 5 == 0) (Unsupported what.PointTransform) (unsupported what.PointTransform))))))))

-- ---- miscellaneous segments

skipped : (written : Parameters) (bytes : List ℕ) → NeedsNone (skipped_at written bytes)
skipped written bytes = step (contents_at bytes) _ (contents bytes) (λ found. value _)

presets : (late : Bool) (bytes : List ℕ) → NeedsNone (presets_at late bytes)
presets true bytes = fails _ (unsupported _)
presets false bytes = step (contents_at bytes) _ (contents bytes) (λ found. step (preset_fields_of found.0) _ (preset_fields_in found.0) (λ written. value _))

after : (late : Bool) (written : Parameters) (m : Marker) (bytes : List ℕ) → NeedsNone (after_marker late written m bytes)
unfolding after_marker
after late written StartOfImage bytes = fails _ (unsupported _)
after late written EndOfImage bytes = value _
after late written StartOfScan bytes = value _
after late written StartOfFrame bytes = value _
after late written PresetParameters bytes = presets late bytes
after late written (Application code) bytes = skipped written bytes
after late written Comment bytes = skipped written bytes
after late written (Other code) bytes = fails _ (unsupported _)

part : (late : Bool) (written : Parameters) (bytes : List ℕ) → NeedsNone (part_at late written bytes)
unfolding part_at
part late written bytes = step (marker_at bytes) _ (marker bytes) (λ next. after late written next.0 next.1)

or_again : (again : Parameters → List ℕ → Ahead) (next : Option Marker) (written : Parameters) (bytes : List ℕ)
    → ((w : Parameters) (rest : List ℕ) → NeedsNone (again w rest)) → NeedsNone (unless_marker again next written bytes)
or_again again (Some next) written bytes none = value _
or_again again None written bytes none = none written bytes

within : (most : ℕ) (late : Bool) (written : Parameters) (bytes : List ℕ) → NeedsNone (ahead_within most late written bytes)
unfolding ahead_within
within zero late written bytes = fails Truncated truncated
within (suc most) late written bytes =
    step (part_at late written bytes) _ (part late written bytes)
    (λ found. or_again (λ w rest. ahead_within most late w rest) found.0 found.1 found.2 (λ w rest. within most late w rest))

ahead : (late : Bool) (written : Parameters) (bytes : List ℕ) → NeedsNone (ahead_at late written bytes)
unfolding ahead_at
ahead late written bytes = within (length bytes) late written bytes

-- ---- headers

frame_header : (bytes : List ℕ) → NeedsNone (frame_header_at bytes)
unfolding frame_header_at
frame_header bytes =
    step (ahead_at false _ bytes) _ (ahead false _ bytes)
    (λ next. test _ BadSegment _ bad_segment
    (step (contents_at next.2) _ (contents next.2) (λ found. step (frame_header_of found.0) _ (frame_header_in found.0) (λ header. value _))))

scan_header : (late : Bool) (written : Parameters) (id : ℕ) (bytes : List ℕ) → NeedsNone (scan_header_at late written id bytes)
unfolding scan_header_at
scan_header late written id bytes =
    step (ahead_at late written bytes) _ (ahead late written bytes)
    (λ next. test _ BadSegment _ bad_segment
    (step (contents_at next.2) _ (contents next.2) (λ found. step (scan_header_of id found.0) _ (scan_header_in id found.0) (λ header. value _))))

parameters : (r : Result Parameters PresetFault) → NeedsNone (or_bad_presets r)
parameters (Ok p) = value p
parameters (Err fault) = fails _ (bad_presets fault)

pub opening_needs_none : (bytes : List ℕ) → opening_at bytes ≡ Err NoMemory → ⊥
unfolding opening_at
opening_needs_none bytes =
    step (start_at bytes) _ (start bytes)
    (λ rest. step (frame_header_at rest) _ (frame_header rest)
    (λ frame. step (scan_header_at false frame.1 (slice_index frame.0.ids 0) frame.2) _ (scan_header false frame.1 (slice_index frame.0.ids 0) frame.2)
    (λ scan. step (or_bad_presets (parameters_of frame.0.precision scan.0)) _ (parameters (parameters_of frame.0.precision scan.0)) (λ p. value _))))

-- ---- of all bytes

only_memory : (more : Bool) (fault : StreamFault) → (if more then past_most fault else fault) ≡ NoMemory → fault ≡ NoMemory
only_memory false fault e = e
only_memory true Truncated e = absurd cc
only_memory true NotSoi e = e
only_memory true BadSegment e = e
only_memory true (Unsupported kind) e = e
only_memory true (BadPresets kind) e = e
only_memory true TooLarge e = e
only_memory true (BadCode component) e = e
only_memory true (LeftoverBits component) e = e
only_memory true NoMemory e = e

-- all bytes fail with NoMemory only if the first ones do
pub memory_of_first : (bytes : List ℕ) (fault : StreamFault) → fault_of bytes fault ≡ NoMemory → fault ≡ NoMemory
memory_of_first bytes fault e = only_memory (nat_lt most_bytes (length bytes)) fault e

-- ---- after the opening

next_scan : (id : ℕ) (bytes : List ℕ) → NeedsNone (next_scan_at id bytes)
unfolding next_scan_at
next_scan id bytes = step (scan_header_at true no_presets id bytes) _ (scan_header true no_presets id bytes) (λ scan. value _)

end : (bytes : List ℕ) → NeedsNone (end_at bytes)
unfolding end_at
end bytes = step (ahead_at true no_presets bytes) _ (ahead true no_presets bytes) (λ next. test _ BadSegment _ bad_segment (value _))

data_needs_none : (p : Parameters) (width height component : ℕ) (stuffed : List ℕ) (stop : Stop) → BreaksData p width height component stuffed stop NoMemory → ⊥
data_needs_none p width height component stuffed stop (wrong_code breaks e) = absurd cc
data_needs_none p width height component stuffed stop (marker_early breaks ends e) = absurd cc
data_needs_none p width height component stuffed stop (input_ends breaks ends e) = absurd cc
data_needs_none p width height component stuffed stop (leftover bits e) = absurd cc

scans_need_none : (p : Parameters) (width height component : ℕ) (later bytes : List ℕ) → ScansStop p width height component later bytes NoMemory → ⊥
scans_need_none p width height component [] bytes (inl breaks) = data_needs_none p width height component _ _ breaks
scans_need_none p width height component [] bytes (inr after) = end (after_data bytes) after.1
scans_need_none p width height component (id ∷ later) bytes (inl breaks) = data_needs_none p width height component _ _ breaks
scans_need_none p width height component (id ∷ later) bytes (inr (plane, inl header)) = next_scan id (after_data bytes) header
scans_need_none p width height component (id ∷ later) bytes (inr (plane, inr more)) = scans_need_none p width height (component + 1) later more.0 more.2

pub decoding_needs_none : (bytes : List ℕ) → DecodingStops bytes NoMemory → ⊥
decoding_needs_none bytes (at_opening e) = opening_needs_none bytes e
decoding_needs_none bytes (at_scans header p rest e stops) = scans_need_none p header.width header.height 0 (drop 1 (ids_in header)) rest stops
