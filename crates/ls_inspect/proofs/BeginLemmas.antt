-- The coding parameters of an opening are those of each codestream that the bytes begin with.
use Rattle.std.proofs.Common.{◌≡◌, ℕ, ◌+◌, ◌-◌, ◌^◌, ◌<◌, ◌/◌, false, List, [], ◌∷◌, ◌++◌, length, take, Option, None, Some, Result, Ok, Err, refl, sym, ◌∙◌, ap, subst, arith, append_assoc}
use Rattle.std.specs.Prelude.{slice_index}
use Rattle.ls_frame.specs.Picture.{Picture, components}
use Rattle.ls_frame.specs.declared.frame.Kind.{Kind}
use Rattle.ls_frame.specs.declared.frame.Kind.TheVariants.{Gray, Color}
use Rattle.ls_frame.specs.Parameters.{Parameters}
use Rattle.ls_bits.specs.Bits.{AreBytes, two_bytes}
use Rattle.ls_stream.specs.declared.faults.StreamFault.{StreamFault}
use Rattle.ls_stream.specs.declared.marker.Marker.TheVariants.{StartOfImage, EndOfImage, StartOfScan, StartOfFrame}
use Rattle.ls_stream.specs.declared.segments.read.FrameHeader.{FrameHeader}
use Rattle.ls_stream.specs.Markers.{marker}
use Rattle.ls_stream.specs.Segments.{segment, Component, Header, header_contents, scan_contents}
use Rattle.ls_frame.specs.declared.presets.PresetFault.{PresetFault}
use Rattle.ls_stream.specs.Grammar.{parameters_of, filled, Miscellaneous, miscellaneous_bytes, Scan, scans_bytes, codestream_bytes, last_presets, no_presets, Spells, most_bytes}
use Rattle.ls_stream.specs.Faults.{Check, first_unmet, frame_checks, HasFrame, HasScan, BeginsWithOpening}
use Rattle.ls_stream.specs.View.Reading.{◌>>=◌, start_at, frame_header_of, frame_header_at, scan_header_at, or_bad_presets, opening_at}
use Rattle.ls_stream.specs.View.Openings.{Opened, SaysSo}
use Rattle.ls_stream.proofs.StepLemmas.{step_is, same_ok}
use Rattle.ls_stream.proofs.SegmentLemmas.{bytes_of_front, bytes_of_rest, bytes_along}
use Rattle.ls_stream.proofs.HeaderLemmas.{HeaderRead, header_read, header_again}
use Rattle.ls_stream.proofs.CheckLemmas.{Agrees, frame_agrees}
use Rattle.ls_stream.proofs.AheadLemmas.{segment_parts}
use Rattle.ls_stream.proofs.MostLemmas.{first_of}
use Rattle.ls_stream.proofs.OutlineLemmas.{presets_append, early, frame_spelled, scan_header_spelled}
use Rattle.ls_stream.proofs.FaultLaws.{ids_at, precision_at}
use Rattle.ls_stream.proofs.FrameReadingLemmas.{bytes_take}
use Rattle.ls_inspect.proofs.ScanLemmas.{scan_join}

-- ---- the frame header

none_some : (fault : StreamFault) → ◌≡◌ {A = Option StreamFault} None (Some fault) → ⊥
none_some fault e = cc

-- contents that fail no check are read
checked : {X : Type 0} (checks : List Check) (r : Result X StreamFault) → Agrees checks r → first_unmet checks ≡ None → (x : X) × (r ≡ Ok x)
checked checks (Ok x) agrees e = (x, refl)
checked checks (Err cause) agrees e = absurd (none_some cause (sym e ∙ agrees.same))

short_by : (n : ℕ) → n / 256 < 256 → n < 2 ^ 16
short_by n high = omega arith

-- the bytes of a segment hold its length
segment_short : (contents rest : List ℕ) → AreBytes ((two_bytes (2 + length contents) ++ contents) ++ rest) → 2 + length contents < 2 ^ 16
segment_short contents rest are = short_by (2 + length contents) are.0

-- what reading an opening gives
abbrev pub Read : Type 0
Read = FrameHeader × Parameters × List ℕ

-- after the header of the first scan, and after the frame header
abbrev after_scan : FrameHeader → Result Parameters PresetFault → List ℕ → Result Read StreamFault
after_scan h parameters rest = or_bad_presets parameters >>= λ p. Ok (h, p, rest)

abbrev after_frame : FrameHeader → Parameters → List ℕ → Result Read StreamFault
after_frame h written rest =
    scan_header_at false written (slice_index h.ids 0) rest >>= λ scan. or_bad_presets (parameters_of h.precision scan.0) >>= λ parameters. Ok (h, parameters, scan.1)

-- the frame header is read, and what is left goes on with the header of the first scan
record IsFrameRead (bytes contents : List ℕ) (before : List Miscellaneous) (rest : List ℕ) : Type 0 where
  h : FrameHeader
  header : HeaderRead contents h
  opening : opening_at bytes ≡ after_frame h (last_presets no_presets before) rest

frame_read : (bytes contents : List ℕ) (before : List Miscellaneous) (rest : List ℕ) → AreBytes bytes → HasFrame bytes contents before rest → IsFrameRead bytes contents before rest
unfolding opening_at start_at
frame_read bytes contents before rest are has =
    let front : List ℕ = miscellaneous_bytes before in
    let frame : List ℕ = filled has.fill (segment StartOfFrame contents) ++ rest in
    let said : List ℕ = two_bytes (2 + length contents) ++ contents in
    let frame_are : AreBytes frame = bytes_along front frame (bytes_along (marker StartOfImage) (front ++ frame) are has.whole) refl in
    let said_are : AreBytes (said ++ rest) = bytes_along (filled has.fill (marker StartOfFrame)) (said ++ rest) frame_are (segment_parts has.fill StartOfFrame contents rest) in
    let contents_are : AreBytes contents = bytes_of_rest (two_bytes (2 + length contents)) contents (bytes_of_front said rest said_are) in
    let read = checked (frame_checks contents) (frame_header_of contents) (frame_agrees contents) has.passed in
    record {
      h = read.0;
      header = header_read contents read.0 contents_are read.1;
      opening = ap opening_at has.whole
          ∙ step_is (frame_header_at (front ++ frame)) (λ found. after_frame found.0 found.1 found.2) (read.0, last_presets no_presets before, rest)
          (frame_spelled contents read.0 has.fill before rest read.1 (segment_short contents rest said_are) has.lawful);
    }

-- ---- the opening

-- an opening at the front is read, with its parameters
pub record IsRead (bytes contents : List ℕ) (p : Parameters) (rest : List ℕ) : Type 0 where
  pub h : FrameHeader
  pub header : HeaderRead contents h
  pub opening : opening_at bytes ≡ Ok (h, p, rest)

pub begin_read : (bytes : List ℕ) → AreBytes bytes → (begins : BeginsWithOpening bytes) → IsRead bytes begins.contents begins.parameters begins.rest
begin_read bytes are begins =
    let contents = begins.contents in
    let before = begins.before in
    let between = begins.between in
    let rest = begins.rest in
    let has : HasScan bytes contents before between rest = begins.scan in
    let frame = frame_read bytes contents before has.middle are has.frame in
    let h = frame.h in
    let id = slice_index contents 6 in
    let at = ids_at contents h frame.header in
    let written = last_presets no_presets before in
    let last = last_presets written between in
    let header_is : scan_header_at false written (slice_index h.ids 0) has.middle ≡ Ok (last, rest) =
    ap (λ n. scan_header_at false written n has.middle) at.0 ∙ ap (scan_header_at false written id) has.whole
    ∙ scan_header_spelled false written id has.fill between rest has.lawful (early between) in
    record {
      h = h;
      header = frame.header;
      opening = frame.opening
          ∙ step_is (scan_header_at false written (slice_index h.ids 0) has.middle) (λ scan. after_scan h (parameters_of h.precision scan.0) scan.1) (last, rest) header_is
          ∙ ap (λ q. after_scan h (parameters_of h.precision q) rest) (presets_append no_presets before between)
          ∙ ap (λ n. after_scan h (parameters_of n (last_presets no_presets (before ++ between))) rest) (precision_at contents h frame.header)
          ∙ ap (λ r. after_scan h r rest) begins.parameters_are;
    }

-- ---- a codestream begins with one

some_components : (kind : Kind) → 0 < components kind
some_components Gray = omega arith
some_components Color = omega arith

first_component : (cs : List Component) → 0 < length cs → (first : Component) × (later : List Component) × (cs ≡ first ∷ later)
first_component [] some = absurd (omega arith)
first_component (component ∷ cs) some = (component, cs, refl)

first_scan : (scans : List Scan) → 0 < length scans → (scan : Scan) × (others : List Scan) × (scans ≡ scan ∷ others)
first_scan [] some = absurd (omega arith)
first_scan (scan ∷ scans) some = (scan, scans, refl)

six_join : (a b c d e f rest : List ℕ) → (a ++ b ++ c ++ d ++ e ++ f) ++ rest ≡ a ++ (b ++ (c ++ (d ++ (e ++ (f ++ rest)))))
six_join a b c d e f rest = simp append_assoc

-- the identifier of the first component, and the bits per sample
id_at : (header : Header) (first : Component) (later : List Component) → header.components ≡ first ∷ later → slice_index (header_contents header) 6 ≡ first.id
unfolding header_contents
id_at header first later are = rw are refl

bits_at : (header : Header) → slice_index (header_contents header) 0 ≡ header.precision
unfolding header_contents
bits_at header = refl

-- contents that are read fail no check
unfailed : {X : Type 0} (checks : List Check) (r : Result X StreamFault) (x : X) → Agrees checks r → r ≡ Ok x → first_unmet checks ≡ None
unfailed checks (Ok y) x agrees e = agrees.same
unfailed checks (Err fault) x agrees e = absurd cc

pub spelled_begins : (front more : List ℕ) (f : Picture) (spelled : Spells front f) → (begins : BeginsWithOpening (front ++ more)) × (begins.parameters ≡ spelled.parameters)
unfolding codestream_bytes
spelled_begins front more f spelled =
    let stream = spelled.codestream in
    let header = stream.header in
    let says = spelled.says in
    let parts = first_component header.components (omega (arith, says.header.count, some_components f.kind)) in
    let first = parts.0 in
    let later = parts.1 in
    let scans = first_scan stream.scans (omega (arith, says.count, some_components f.kind)) in
    let scan = scans.0 in
    let others = scans.1 in
    let contents : List ℕ = header_contents header in
    let read = header_again f header spelled.frame says.header in
    let id : slice_index contents 6 ≡ first.id = id_at header first later parts.2 in
    let end : List ℕ = filled stream.last_fill (marker EndOfImage) ++ more in
    let rest : List ℕ = scan.stuffed ++ (miscellaneous_bytes scan.after ++ (scans_bytes later others ++ end)) in
    let scanned : ℕ → List ℕ = λ n. miscellaneous_bytes stream.between ++ (filled scan.fill (segment StartOfScan (scan_contents n)) ++ rest) in
    let middle : List ℕ = scanned first.id in
    let opened : List ℕ → List ℕ = λ bs. marker StartOfImage ++ (miscellaneous_bytes stream.before ++ (filled stream.fill (segment StartOfFrame contents) ++ bs)) in
    let all : front ++ more ≡ opened middle =
    ap (λ bs. bs ++ more) spelled.spelled
    ∙ six_join (marker StartOfImage) (miscellaneous_bytes stream.before) (filled stream.fill (segment StartOfFrame contents)) (miscellaneous_bytes stream.between)
    (scans_bytes header.components stream.scans) (filled stream.last_fill (marker EndOfImage)) more
    ∙ ap (λ cs. opened (miscellaneous_bytes stream.between ++ (scans_bytes cs stream.scans ++ end))) parts.2
    ∙ ap (λ ss. opened (miscellaneous_bytes stream.between ++ (scans_bytes (first ∷ later) ss ++ end))) scans.2
    ∙ ap (λ bs. opened (miscellaneous_bytes stream.between ++ bs)) (scan_join first later scan others end) in (
      record {
        contents = contents;
        before = stream.before;
        between = stream.between;
        rest = rest;
        parameters = spelled.parameters;
        scan = record {
          middle = middle;
          frame = record {
            fill = stream.fill;
            whole = all;
            lawful = says.before;
            passed = unfailed (frame_checks contents) (frame_header_of contents) read.0 (frame_agrees contents) read.1.read;
          };
          fill = scan.fill;
          whole = ap scanned (sym id);
          lawful = says.between;
        };
        parameters_are = ap (λ n. parameters_of n (last_presets no_presets (stream.before ++ stream.between))) (bits_at header) ∙ says.parameters_are;
      },
      refl,
    )

-- ---- the parameters

pub same_parameters : (bytes front rest : List ℕ) (f : Picture) (opened : Opened) → AreBytes bytes → opened.bytes ≡ bytes → SaysSo opened → bytes ≡ front ++ rest → (spelled : Spells front f)
    → opened.parameters ≡ spelled.parameters
same_parameters bytes front rest f opened are same says whole spelled =
    let more : List ℕ = take (most_bytes - length front) rest in
    let first : take most_bytes opened.bytes ≡ front ++ more = ap (take most_bytes) (same ∙ whole) ∙ first_of most_bytes front rest spelled.short in
    let first_are : AreBytes (take most_bytes opened.bytes) = bytes_take most_bytes opened.bytes (subst AreBytes (sym same) are) in
    let read = begin_read (take most_bytes opened.bytes) first_are says.begins in
    let begins = spelled_begins front more f spelled in
    let again = begin_read (front ++ more) (subst AreBytes first first_are) begins.0 in
    let one : Read = (read.h, says.begins.parameters, says.begins.rest) in
    let other : Read = (again.h, begins.0.parameters, begins.0.rest) in
    says.parameters ∙ ap (λ (found : Read). found.1) (same_ok one other (sym read.opening ∙ ap opening_at first ∙ again.opening)) ∙ begins.1
