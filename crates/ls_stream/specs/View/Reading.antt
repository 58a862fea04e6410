-- Reading markers and segments from a list of bytes, part by part: what is read and the bytes after it, or the first fault from the left.
-- What the bytes mean is defined in `Grammar`; laws connect the two.
use Rattle.std.specs.Prelude.{◌≡◌, ℕ, zero, suc, ◌+◌, ◌-◌, ◌*◌, ◌&&◌, ◌==◌, Bool, true, false, not, nat_le, if◌then◌else◌, List, [], ◌∷◌, length, take, drop, slice_index, Option, None, Some, Result, Ok, Err}
use Rattle.std.specs.List.{list_any}
use Rattle.ls_frame.specs.declared.frame.Kind.{Kind}
use Rattle.ls_frame.specs.declared.frame.Kind.TheVariants.{Gray, Color}
use Rattle.ls_frame.specs.declared.presets.PresetFault.{PresetFault}
use Rattle.ls_frame.specs.Picture.{components, sample_count, most_samples}
use Rattle.ls_frame.specs.Parameters.{Parameters}
use Rattle.ls_stream.specs.declared.faults.StreamFault.{StreamFault}
use Rattle.ls_stream.specs.declared.faults.StreamFault.TheVariants.{Truncated, NotSoi, BadSegment, Unsupported, BadPresets, TooLarge}
use Rattle.ls_stream.specs.declared.faults.What.TheVariants as what
use Rattle.ls_stream.specs.declared.marker.Marker.{Marker}
use Rattle.ls_stream.specs.declared.marker.Marker.TheVariants.{StartOfImage, EndOfImage, StartOfScan, StartOfFrame, PresetParameters, Application, Comment, Other}
use Rattle.ls_stream.specs.declared.segments.read.FrameHeader.{FrameHeader}
use Rattle.ls_stream.specs.declared.segments.read.PresetFields.{PresetFields}
use Rattle.ls_stream.specs.Markers.{marker_of, code_of}
use Rattle.ls_stream.specs.Segments.{field_of}
use Rattle.ls_stream.specs.Grammar.{no_presets, parameters_of}

-- ---- steps that may fail

infixl 10 ◌>>=◌
abbrev pub ◌>>=◌ : {A B : Type 0} → Result A StreamFault → (A → Result B StreamFault) → Result B StreamFault
(Ok x) >>= f = f x
(Err fault) >>= f = Err fault

-- the fault if a test fails
abbrev pub wanted : Bool → StreamFault → Result (Unit {0}) StreamFault
wanted true fault = Ok tt
wanted false fault = Err fault

-- a value and the bytes that are left
abbrev pub Take : Type 0 → Type 0
Take X = Result (X × List ℕ) StreamFault

-- ---- markers

abbrev pub byte_at : List ℕ → Take ℕ
byte_at [] = Err Truncated
byte_at (byte ∷ bytes) = Ok (byte, bytes)

-- SOI, and the bytes that are left
unfoldable pub start_at : List ℕ → Result (List ℕ) StreamFault
start_at bytes = do
  first ← byte_at bytes
  ff ← wanted (first.0 == 255) NotSoi
  second ← byte_at first.1
  d8 ← wanted (second.0 == 216) NotSoi
  Ok second.1

-- the code of a marker after its FF, and after any more FFs
unfoldable pub code_at : List ℕ → Take ℕ
code_at [] = Err Truncated
code_at (byte ∷ bytes) =
    if byte == 255 then code_at bytes
    else (if byte == 0 then Err BadSegment else Ok (byte, bytes))

-- a marker, after any fill bytes
unfoldable pub marker_at : List ℕ → Take Marker
marker_at bytes = do
  first ← byte_at bytes
  ff ← wanted (first.0 == 255) BadSegment
  code ← code_at first.1
  Ok (marker_of code.0, code.1)

-- ---- segments

-- the contents of a segment, by the length before them, which counts its own two bytes too
unfoldable pub contents_at : List ℕ → Take (List ℕ)
contents_at bytes = do
  some ← wanted (nat_le 2 (length bytes)) Truncated
  least ← wanted (nat_le 2 (field_of bytes 0)) BadSegment
  whole ← wanted (nat_le (field_of bytes 0) (length bytes)) Truncated
  Ok (take (field_of bytes 0 - 2) (drop 2 bytes), drop (field_of bytes 0) bytes)

-- ---- the contents of the frame header (SOF55; T.87 C.2.2)

abbrev pub kind_of_count : ℕ → Result Kind StreamFault
kind_of_count count = if count == 1 then Ok Gray else (if count == 3 then Ok Color else Err (Unsupported (what.Components count)))

-- the identifier of the component at a place, which must differ from those before
unfoldable pub id_of : List ℕ → List ℕ → ℕ → Result ℕ StreamFault
id_of before contents place = do
  another ← wanted (not (list_any (λ id. id == slice_index contents place) before)) BadSegment
  sampled ← wanted (slice_index contents (place + 1) == 17) (Unsupported what.Sampling)
  Ok (slice_index contents place)

-- the identifiers of the components, three numbers; unused ones are 0
unfoldable pub ids_of : Kind → List ℕ → Result (List ℕ) StreamFault
ids_of Gray contents = do
  first ← id_of [] contents 6
  Ok (first ∷ 0 ∷ 0 ∷ [])
ids_of Color contents = do
  first ← id_of [] contents 6
  second ← id_of (first ∷ []) contents 9
  third ← id_of (first ∷ second ∷ []) contents 12
  Ok (first ∷ second ∷ third ∷ [])

unfoldable pub frame_header_of : List ℕ → Result FrameHeader StreamFault
frame_header_of contents = do
  some ← wanted (nat_le 6 (length contents)) BadSegment
  precision ← wanted (nat_le 2 (slice_index contents 0) && nat_le (slice_index contents 0) 16) BadSegment
  height ← wanted (not (field_of contents 1 == 0)) (Unsupported what.HeightZero)
  width ← wanted (not (field_of contents 3 == 0)) BadSegment
  kind ← kind_of_count (slice_index contents 5)
  whole ← wanted (length contents == 6 + 3 * components kind) BadSegment
  ids ← ids_of kind contents
  few ← wanted (nat_le (sample_count kind (field_of contents 3) (field_of contents 1)) most_samples) TooLarge
  Ok (record { precision = slice_index contents 0; height = field_of contents 1; width = field_of contents 3; kind = kind; ids = ids })

-- ---- the contents of preset parameters (LSE with ID 1; T.87 C.2.4.1.1)

unfoldable pub preset_fields_of : List ℕ → Result Parameters StreamFault
preset_fields_of contents = do
  some ← wanted (nat_le 1 (length contents)) BadSegment
  id ← wanted (slice_index contents 0 == 1) (Unsupported (what.LseId (slice_index contents 0)))
  whole ← wanted (length contents == 11) BadSegment
  Ok (record {
    maxval = field_of contents 1;
    t1 = field_of contents 3;
    t2 = field_of contents 5;
    t3 = field_of contents 7;
    reset = field_of contents 9;
  })

-- ---- the contents of the header of a scan of the component with this identifier (SOS; T.87 C.2.3)

unfoldable pub scan_header_of : ℕ → List ℕ → Result (Unit {0}) StreamFault
scan_header_of id contents = do
  some ← wanted (nat_le 4 (length contents)) BadSegment
  alone ← wanted (slice_index contents 0 == 1) (Unsupported what.Interleave)
  whole ← wanted (length contents == 6) BadSegment
  next ← wanted (slice_index contents 1 == id) (Unsupported what.ScanOrder)
  unmapped ← wanted (slice_index contents 2 == 0) (Unsupported what.Mapping)
  lossless ← wanted (slice_index contents 3 == 0) (Unsupported what.Near)
  plain ← wanted (slice_index contents 4 == 0) (Unsupported what.Interleave)
  wanted (slice_index contents 5 == 0) (Unsupported what.PointTransform)

-- ---- miscellaneous segments

-- What is read where a marker is due: no marker if it is a miscellaneous segment, else the marker; the last preset parameters that were
-- written; the bytes that are left.
abbrev pub Part : Type 0
Part = Result (Option Marker × Parameters × List ℕ) StreamFault

-- a segment that is skipped
abbrev pub skipped_at : Parameters → List ℕ → Part
skipped_at written bytes = contents_at bytes >>= λ contents. Ok (None, written, contents.1)

-- preset parameters, which may not come late, after the header of the first scan
abbrev pub presets_at : Bool → List ℕ → Part
presets_at true bytes = Err (Unsupported what.LseLate)
presets_at false bytes = contents_at bytes >>= λ contents. preset_fields_of contents.0 >>= λ written. Ok (None, written, contents.1)

-- what comes after a marker
unfoldable pub after_marker : Bool → Parameters → Marker → List ℕ → Part
after_marker late written StartOfImage bytes = Err (Unsupported (what.Marker (code_of StartOfImage)))
after_marker late written EndOfImage bytes = Ok (Some EndOfImage, written, bytes)
after_marker late written StartOfScan bytes = Ok (Some StartOfScan, written, bytes)
after_marker late written StartOfFrame bytes = Ok (Some StartOfFrame, written, bytes)
after_marker late written PresetParameters bytes = presets_at late bytes
after_marker late written (Application code) bytes = skipped_at written bytes
after_marker late written Comment bytes = skipped_at written bytes
after_marker late written (Other code) bytes = Err (Unsupported (what.Marker code))

unfoldable pub part_at : Bool → Parameters → List ℕ → Part
part_at late written bytes = do
  next ← marker_at bytes
  after_marker late written next.0 next.1

-- a marker that isn't of a miscellaneous segment, the last preset parameters that were written, and the bytes that are left
abbrev pub Ahead : Type 0
Ahead = Result (Marker × Parameters × List ℕ) StreamFault

-- the marker if there is one, else what is read after the segment
abbrev pub unless_marker : (Parameters → List ℕ → Ahead) → Option Marker → Parameters → List ℕ → Ahead
unless_marker again (Some next) written bytes = Ok (next, written, bytes)
unless_marker again None written bytes = again written bytes

-- Miscellaneous segments, at most `most`, up to another marker. The number of bytes is always enough.
unfoldable pub ahead_within : ℕ → Bool → Parameters → List ℕ → Ahead
ahead_within zero late written bytes = Err Truncated
ahead_within (suc most) late written bytes =
    part_at late written bytes >>= λ part. unless_marker (λ w rest. ahead_within most late w rest) part.0 part.1 part.2

unfoldable pub ahead_at : Bool → Parameters → List ℕ → Ahead
ahead_at late written bytes = ahead_within (length bytes) late written bytes

-- ---- headers and EOI, with the miscellaneous segments before them

abbrev pub is_start_of_frame : Marker → Bool
is_start_of_frame StartOfImage = false
is_start_of_frame EndOfImage = false
is_start_of_frame StartOfScan = false
is_start_of_frame StartOfFrame = true
is_start_of_frame PresetParameters = false
is_start_of_frame (Application code) = false
is_start_of_frame Comment = false
is_start_of_frame (Other code) = false

abbrev pub is_start_of_scan : Marker → Bool
is_start_of_scan StartOfImage = false
is_start_of_scan EndOfImage = false
is_start_of_scan StartOfScan = true
is_start_of_scan StartOfFrame = false
is_start_of_scan PresetParameters = false
is_start_of_scan (Application code) = false
is_start_of_scan Comment = false
is_start_of_scan (Other code) = false

abbrev pub is_end_of_image : Marker → Bool
is_end_of_image StartOfImage = false
is_end_of_image EndOfImage = true
is_end_of_image StartOfScan = false
is_end_of_image StartOfFrame = false
is_end_of_image PresetParameters = false
is_end_of_image (Application code) = false
is_end_of_image Comment = false
is_end_of_image (Other code) = false

-- the frame header, and the last preset parameters that were written before it
unfoldable pub frame_header_at : List ℕ → Result (FrameHeader × Parameters × List ℕ) StreamFault
frame_header_at bytes = do
  next ← ahead_at false no_presets bytes
  frame ← wanted (is_start_of_frame next.0) BadSegment
  contents ← contents_at next.2
  header ← frame_header_of contents.0
  Ok (header, next.1, contents.1)

-- the header of a scan of the component with this identifier, and the last preset parameters that were written
unfoldable pub scan_header_at : Bool → Parameters → ℕ → List ℕ → Take Parameters
scan_header_at late written id bytes = do
  next ← ahead_at late written bytes
  scan ← wanted (is_start_of_scan next.0) BadSegment
  contents ← contents_at next.2
  header ← scan_header_of id contents.0
  Ok (next.1, contents.1)

-- the header of a scan other than the first, of the component with this identifier; and the bytes that are left
unfoldable pub next_scan_at : ℕ → List ℕ → Result (List ℕ) StreamFault
next_scan_at id bytes = scan_header_at true no_presets id bytes >>= λ scan. Ok scan.1

-- EOI, after the last scan, and the bytes that are left
unfoldable pub end_at : List ℕ → Result (List ℕ) StreamFault
end_at bytes = do
  next ← ahead_at true no_presets bytes
  image ← wanted (is_end_of_image next.0) BadSegment
  Ok next.2

-- ---- all before the data of the first scan

abbrev pub or_bad_presets : Result Parameters PresetFault → Result Parameters StreamFault
or_bad_presets (Ok p) = Ok p
or_bad_presets (Err fault) = Err (BadPresets fault)

unfoldable pub opening_at : List ℕ → Result (FrameHeader × Parameters × List ℕ) StreamFault
opening_at bytes = do
  rest ← start_at bytes
  frame ← frame_header_at rest
  scan ← scan_header_at false frame.1 (slice_index frame.0.ids 0) frame.2
  parameters ← or_bad_presets (parameters_of frame.0.precision scan.0)
  Ok (frame.0, parameters, scan.1)

-- an opening is read at the front of bytes
abbrev pub HasOpening : List ℕ → Type 0
HasOpening bytes = (opening : FrameHeader × Parameters × List ℕ) × (opening_at bytes ≡ Ok opening)

-- ---- what a function of the code gives

-- What was returned, seen through `view`, is what reading gives.
abbrev pub Gives : {X Y : Type 0} → (X → Y) → Result X StreamFault → Result Y StreamFault → Type 0
Gives view (Ok x) read = read ≡ Ok (view x)
Gives view (Err fault) read = read ≡ Err fault

-- preset parameters as they are written
abbrev pub fields_of : PresetFields → Parameters
fields_of p = record { maxval = p.maxval; t1 = p.tuning.t1; t2 = p.tuning.t2; t3 = p.tuning.t3; reset = p.tuning.reset }
