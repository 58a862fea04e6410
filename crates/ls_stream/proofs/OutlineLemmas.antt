-- Outlines agree with the grammar: what is read of bytes is a codestream, and a codestream is read.
use Rattle.std.proofs.Common.{◌≡◌, ℕ, zero, suc, ◌+◌, ◌^◌, ◌<◌, ◌≤◌, Bool, true, false, eqb, List, [], ◌∷◌, ◌++◌, length, map, drop, get_or, replicate, Result, Ok, Err, refl, sym, ap, subst, ◌∙◌, arith, append_assoc, take-append-drop}
use Rattle.std.specs.Prelude.{IsTrue, slice_index}
use Rattle.std.specs.List.{AllByRecursion}
use Rattle.std.proofs.lemmas.Bool.{false≢true, eqb-true, le-leb, and_from}
use Rattle.std.proofs.lemmas.List.{get_or-take, length-map}
use Rattle.ls_frame.specs.declared.frame.Kind.{Kind}
use Rattle.ls_frame.specs.declared.frame.Kind.TheVariants.{Gray, Color}
use Rattle.ls_frame.specs.declared.presets.PresetFault.{PresetFault}
use Rattle.ls_frame.specs.Picture.{Picture, components}
use Rattle.ls_frame.specs.Parameters.{Parameters}
use Rattle.ls_bits.specs.Bits.{AreBytes, two_bytes}
use Rattle.ls_bits.specs.Data.{starts_marker}
use Rattle.ls_stream.specs.declared.faults.StreamFault.{StreamFault}
use Rattle.ls_stream.specs.declared.faults.StreamFault.TheVariants.{Truncated, NotSoi, BadSegment}
use Rattle.ls_stream.specs.declared.marker.Marker.{Marker}
use Rattle.ls_stream.specs.declared.marker.Marker.TheVariants.{StartOfImage, EndOfImage, StartOfScan, StartOfFrame, PresetParameters, Application, Comment, Other}
use Rattle.ls_stream.specs.declared.segments.read.FrameHeader.{FrameHeader}
use Rattle.ls_stream.specs.Markers.{code_of, marker}
use Rattle.ls_stream.specs.Segments.{segment, Component, Header, header_contents, scan_contents}
use Rattle.ls_stream.specs.Grammar.{filled, Miscellaneous, skipped, presets, miscellaneous_bytes, Scan, scans_bytes, Codestream, codestream_bytes, is_skipped, MayPrecedeScans, MayFollowScan, last_presets, no_presets, parameters_of, AreCoded, Says}
use Rattle.ls_stream.specs.View.Reading.{◌>>=◌, wanted, ahead_at, contents_at, frame_header_of, scan_header_of, is_start_of_frame, is_start_of_scan, is_end_of_image, start_at, frame_header_at, scan_header_at, next_scan_at, end_at, or_bad_presets, opening_at}
use Rattle.ls_stream.specs.View.Outlines.{data_at, after_data, Outline, ids_in, scans_at, outline_at, AreDataOf, IsOutlineOf, OutlinesSpell, SpellingsHaveOutlines}
use Rattle.ls_stream.proofs.StepLemmas.{step_ok, step_is, test_ok, same_ok}
use Rattle.ls_stream.proofs.MarkerLemmas.{application_is}
use Rattle.ls_stream.proofs.SegmentLemmas.{contents_read, contents_again, scan_header_is, scan_header_again, bytes_of_front, bytes_along}
use Rattle.ls_stream.proofs.HeaderLemmas.{HeaderRead, header_read, HeaderSays, header_again, header_short}
use Rattle.ls_stream.proofs.FrontLemmas.{data_at-front, after_data-front}
use Rattle.ls_stream.proofs.AheadLemmas.{MayCome, Stands, segment_parts, segment_whole, ahead_read, ahead_again, ahead_frame, ahead_scan, ahead_end}

-- ---- segments before and after scans

pub is_frame : (m : Marker) → is_start_of_frame m ≡ true → m ≡ StartOfFrame
is_frame StartOfImage is = absurd (false≢true is)
is_frame EndOfImage is = absurd (false≢true is)
is_frame StartOfScan is = absurd (false≢true is)
is_frame StartOfFrame is = refl
is_frame PresetParameters is = absurd (false≢true is)
is_frame (Application code) is = absurd (false≢true is)
is_frame Comment is = absurd (false≢true is)
is_frame (Other code) is = absurd (false≢true is)

pub is_scan : (m : Marker) → is_start_of_scan m ≡ true → m ≡ StartOfScan
is_scan StartOfImage is = absurd (false≢true is)
is_scan EndOfImage is = absurd (false≢true is)
is_scan StartOfScan is = refl
is_scan StartOfFrame is = absurd (false≢true is)
is_scan PresetParameters is = absurd (false≢true is)
is_scan (Application code) is = absurd (false≢true is)
is_scan Comment is = absurd (false≢true is)
is_scan (Other code) is = absurd (false≢true is)

pub is_end : (m : Marker) → is_end_of_image m ≡ true → m ≡ EndOfImage
is_end StartOfImage is = absurd (false≢true is)
is_end EndOfImage is = refl
is_end StartOfScan is = absurd (false≢true is)
is_end StartOfFrame is = absurd (false≢true is)
is_end PresetParameters is = absurd (false≢true is)
is_end (Application code) is = absurd (false≢true is)
is_end Comment is = absurd (false≢true is)
is_end (Other code) is = absurd (false≢true is)

-- what may follow a scan may precede one
pub precedes_one : (s : Miscellaneous) → MayFollowScan s → MayPrecedeScans s
precedes_one (skipped fill m contents) may = may
precedes_one (presets fill p) may = absurd may

precedes : (segments : List Miscellaneous) → AllByRecursion MayFollowScan segments → AllByRecursion MayPrecedeScans segments
precedes [] may = tt
precedes (s ∷ segments) may = (precedes_one s may.0, precedes segments may.1)

pub early : (segments : List Miscellaneous) → AllByRecursion (MayCome false) segments
early [] = tt
early (s ∷ segments) = (tt, early segments)

pub late_ones : (segments : List Miscellaneous) → AllByRecursion (MayCome true) segments → AllByRecursion MayFollowScan segments
late_ones [] may = tt
late_ones (s ∷ segments) may = (may.0, late_ones segments may.1)

follow : (segments : List Miscellaneous) → AllByRecursion MayFollowScan segments → AllByRecursion (MayCome true) segments
follow [] may = tt
follow (s ∷ segments) may = (may.0, follow segments may.1)

pub presets_append : (p : Parameters) (first second : List Miscellaneous) → last_presets (last_presets p first) second ≡ last_presets p (first ++ second)
presets_append p [] second = refl
presets_append p (skipped fill m contents ∷ first) second = presets_append p first second
presets_append p (presets fill q ∷ first) second = presets_append q first second

-- ---- the header of a scan

pub record ScanHeaderRead (late : Bool) (written : Parameters) (id : ℕ) (bytes : List ℕ) (last : Parameters) (rest : List ℕ) : Type 0 where
  pub segments : List Miscellaneous
  pub fill : ℕ
  pub whole : bytes ≡ miscellaneous_bytes segments ++ (filled fill (segment StartOfScan (scan_contents id)) ++ rest)
  pub lawful : AllByRecursion MayPrecedeScans segments
  pub may : AllByRecursion (MayCome late) segments
  pub last_is : last ≡ last_presets written segments
  pub rest_are : AreBytes rest

pub scan_header_read : (late : Bool) (written : Parameters) (id : ℕ) (bytes : List ℕ) (found : Parameters × List ℕ) → AreBytes bytes
    → scan_header_at late written id bytes ≡ Ok found → ScanHeaderRead late written id bytes found.0 found.1
unfolding scan_header_at
scan_header_read late written id bytes found are e =
    let a = step_ok (ahead_at late written bytes)
    (λ next. wanted (is_start_of_scan next.0) BadSegment >>= λ passed. contents_at next.2 >>= λ contents. scan_header_of id contents.0 >>= λ header. Ok (next.1, contents.1)) found e in
    let next : Stands = a.0 in
    let b = test_ok (is_start_of_scan next.0) BadSegment (contents_at next.2 >>= λ contents. scan_header_of id contents.0 >>= λ header. Ok (next.1, contents.1)) found a.2 in
    let c = step_ok (contents_at next.2) (λ contents. scan_header_of id contents.0 >>= λ header. Ok (next.1, contents.1)) found b.1 in
    let d = step_ok (scan_header_of id c.0.0) (λ header. Ok (next.1, c.0.1)) found c.2 in
    let read = ahead_read late written bytes next are a.1 in
    let front : List ℕ = miscellaneous_bytes read.segments in
    let at : List ℕ = filled read.fill (marker next.0) ++ next.2 in
    let after = bytes_along (filled read.fill (marker next.0)) next.2 (bytes_along front at are read.whole) refl in
    let contents = contents_read next.2 c.0 after c.1 in
    let made : Parameters × List ℕ = (next.1, c.0.1) in
    let here : at ≡ filled read.fill (segment StartOfScan (scan_contents id)) ++ c.0.1 =
    segment_whole at next.2 c.0.0 c.0.1 read.fill StartOfScan (ap (λ m. filled read.fill (marker m) ++ next.2) (is_scan next.0 b.0)) contents.whole
    ∙ ap (λ bs. filled read.fill (segment StartOfScan bs) ++ c.0.1) (scan_header_is id c.0.0 d.0 d.1) in
    subst (λ (f : Parameters × List ℕ). ScanHeaderRead late written id bytes f.0 f.1) (same_ok made found d.2) (record {
      segments = read.segments;
      fill = read.fill;
      whole = read.whole ∙ ap (λ bs. front ++ bs) here;
      lawful = read.lawful;
      may = read.may;
      last_is = read.last_is;
      rest_are = contents.rest_are;
    })

pub scan_short : (id : ℕ) → 2 + length (scan_contents id) < 2 ^ 16
unfolding scan_contents
scan_short id = omega arith

pub scan_header_spelled : (late : Bool) (written : Parameters) (id fill : ℕ) (segments : List Miscellaneous) (rest : List ℕ) → AllByRecursion MayPrecedeScans segments → AllByRecursion (MayCome late) segments
    → scan_header_at late written id (miscellaneous_bytes segments ++ (filled fill (segment StartOfScan (scan_contents id)) ++ rest)) ≡ Ok (last_presets written segments, rest)
unfolding scan_header_at
scan_header_spelled late written id fill segments rest lawful may =
    let contents = scan_contents id in
    let after : List ℕ = (two_bytes (2 + length contents) ++ contents) ++ rest in
    let front = miscellaneous_bytes segments in
    let last = last_presets written segments in
    let ahead : ahead_at late written (front ++ (filled fill (segment StartOfScan contents) ++ rest)) ≡ Ok (StartOfScan, last, after) =
    ap (λ bs. ahead_at late written (front ++ bs)) (segment_parts fill StartOfScan contents rest) ∙ ahead_again late written segments fill StartOfScan after lawful may ahead_scan in
    step_is (ahead_at late written (front ++ (filled fill (segment StartOfScan contents) ++ rest)))
    (λ next. wanted (is_start_of_scan next.0) BadSegment >>= λ passed. contents_at next.2 >>= λ c. scan_header_of id c.0 >>= λ header. Ok (next.1, c.1)) (StartOfScan, last, after) ahead
    ∙ step_is (contents_at after) (λ c. scan_header_of id c.0 >>= λ header. Ok (last, c.1)) (contents, rest) (contents_again contents rest (scan_short id))
    ∙ step_is (scan_header_of id contents) (λ header. Ok (last, rest)) tt (scan_header_again id)

-- ---- EOI

record EndRead (bytes rest : List ℕ) : Type 0 where
  segments : List Miscellaneous
  fill : ℕ
  whole : bytes ≡ miscellaneous_bytes segments ++ (filled fill (marker EndOfImage) ++ rest)
  may : AllByRecursion MayFollowScan segments

end_read : (bytes rest : List ℕ) → AreBytes bytes → end_at bytes ≡ Ok rest → EndRead bytes rest
unfolding end_at
end_read bytes rest are e =
    let a = step_ok (ahead_at true no_presets bytes) (λ next. wanted (is_end_of_image next.0) BadSegment >>= λ passed. Ok next.2) rest e in
    let next : Stands = a.0 in
    let last : Result (List ℕ) StreamFault = Ok next.2 in
    let b = test_ok (is_end_of_image next.0) BadSegment last rest a.2 in
    let read = ahead_read true no_presets bytes next are a.1 in
    let here : filled read.fill (marker next.0) ++ next.2 ≡ filled read.fill (marker EndOfImage) ++ rest =
    ap (λ m. filled read.fill (marker m) ++ next.2) (is_end next.0 b.0) ∙ ap (λ bs. filled read.fill (marker EndOfImage) ++ bs) (same_ok next.2 rest b.1) in
    record {
      segments = read.segments;
      fill = read.fill;
      whole = read.whole ∙ ap (λ bs. miscellaneous_bytes read.segments ++ bs) here;
      may = late_ones read.segments read.may;
    }

end_spelled : (fill : ℕ) (segments : List Miscellaneous) (rest : List ℕ) → AllByRecursion MayFollowScan segments
    → end_at (miscellaneous_bytes segments ++ (filled fill (marker EndOfImage) ++ rest)) ≡ Ok rest
unfolding end_at
end_spelled fill segments rest may =
    step_is (ahead_at true no_presets (miscellaneous_bytes segments ++ (filled fill (marker EndOfImage) ++ rest))) (λ next. wanted (is_end_of_image next.0) BadSegment >>= λ passed. Ok next.2)
    (EndOfImage, last_presets no_presets segments, rest)
    (ahead_again true no_presets segments fill EndOfImage rest (precedes segments may) (follow segments may) ahead_end)

-- ---- scans

abbrev pub ids : List Component → List ℕ
ids cs = map (λ c. c.id) cs

abbrev stuffed : List Scan → List (List ℕ)
stuffed scans = map (λ s. s.stuffed) scans

abbrev AllFollow : List Scan → Type 0
AllFollow scans = AllByRecursion (λ s. AllByRecursion MayFollowScan s.after) scans

-- what comes after the header of a scan: its data, and the scans of the components after it
abbrev from_data : List Component → Scan → List Scan → ℕ → List ℕ → List ℕ
from_data later scan scans last_fill rest =
    scan.stuffed ++ (miscellaneous_bytes scan.after ++ (scans_bytes later scans ++ (filled last_fill (marker EndOfImage) ++ rest)))

record ScansRead (later : List Component) (fill : ℕ) (bytes : List ℕ) (found : List (List ℕ)) (rest : List ℕ) : Type 0 where
  scan : Scan
  others : List Scan
  last_fill : ℕ
  fill_is : scan.fill ≡ fill
  whole : bytes ≡ from_data later scan others last_fill rest
  follow : AllByRecursion MayFollowScan scan.after × AllFollow others
  found_is : found ≡ scan.stuffed ∷ stuffed others
  count : length others ≡ length later

-- the scan of a component after another
scans_join : (component : Component) (later : List Component) (scan : Scan) (scans : List Scan) (bytes : List ℕ)
    → filled scan.fill (segment StartOfScan (scan_contents component.id)) ++ (scan.stuffed ++ (miscellaneous_bytes scan.after ++ (scans_bytes later scans ++ bytes)))
    ≡ scans_bytes (component ∷ later) (scan ∷ scans) ++ bytes
scans_join component later scan scans bytes = simp append_assoc

scans_read : (later : List Component) (fill : ℕ) (bytes : List ℕ) (found : List (List ℕ) × List ℕ) → AreBytes bytes → scans_at (ids later) bytes ≡ Ok found
    → ScansRead later fill bytes found.0 found.1
unfolding scans_at next_scan_at
scans_read [] fill bytes found are e =
    let after = after_data bytes in
    let a = step_ok (end_at after) (λ rest. Ok (data_at bytes ∷ [], rest)) found e in
    let split : bytes ≡ data_at bytes ++ after = sym (take-append-drop _ bytes) in
    let read = end_read after a.0 (bytes_along (data_at bytes) after are split) a.1 in
    let made : List (List ℕ) × List ℕ = (data_at bytes ∷ [], a.0) in
    subst (λ (f : List (List ℕ) × List ℕ). ScansRead [] fill bytes f.0 f.1) (same_ok made found a.2) (record {
      scan = record { fill = fill; stuffed = data_at bytes; after = read.segments };
      others = [];
      last_fill = read.fill;
      fill_is = refl;
      whole = split ∙ ap (λ bs. data_at bytes ++ bs) read.whole;
      follow = (read.may, tt);
      found_is = refl;
      count = refl;
    })
scans_read (component ∷ later) fill bytes found are e =
    let after = after_data bytes in
    let a = step_ok (next_scan_at component.id after) (λ rest. scans_at (ids later) rest >>= λ scans. Ok (data_at bytes ∷ scans.0, scans.1)) found e in
    let b = step_ok (scans_at (ids later) a.0) (λ scans. Ok (data_at bytes ∷ scans.0, scans.1)) found a.2 in
    let h = step_ok (scan_header_at true no_presets component.id after) (λ scan. Ok scan.1) a.0 a.1 in
    let split : bytes ≡ data_at bytes ++ after = sym (take-append-drop _ bytes) in
    let read = scan_header_read true no_presets component.id after h.0 (bytes_along (data_at bytes) after are split) h.1 in
    let left : h.0.1 ≡ a.0 = same_ok h.0.1 a.0 h.2 in
    let more = scans_read later read.fill a.0 b.0 (subst AreBytes left read.rest_are) b.1 in
    let made : List (List ℕ) × List ℕ = (data_at bytes ∷ b.0.0, b.0.1) in
    let tail : List ℕ = filled more.last_fill (marker EndOfImage) ++ b.0.1 in
    let header : ℕ → List ℕ = λ n. filled n (segment StartOfScan (scan_contents component.id)) in
    let here : header read.fill ++ h.0.1 ≡ scans_bytes (component ∷ later) (more.scan ∷ more.others) ++ tail =
    ap (λ n. header n ++ h.0.1) (sym more.fill_is) ∙ ap (λ bs. header more.scan.fill ++ bs) (left ∙ more.whole) ∙ scans_join component later more.scan more.others tail in
    subst (λ (f : List (List ℕ) × List ℕ). ScansRead (component ∷ later) fill bytes f.0 f.1) (same_ok made found b.2) (record {
      scan = record { fill = fill; stuffed = data_at bytes; after = read.segments };
      others = more.scan ∷ more.others;
      last_fill = more.last_fill;
      fill_is = refl;
      whole = split ∙ ap (λ bs. data_at bytes ++ bs) (read.whole ∙ ap (λ bs. miscellaneous_bytes read.segments ++ bs) here);
      follow = (late_ones read.segments read.may, more.follow);
      found_is = ap (λ ds. data_at bytes ∷ ds) more.found_is;
      count = ap suc more.count;
    })

-- ---- all before the data of the first scan

abbrev pub opening_bytes : List Miscellaneous → ℕ → List ℕ → List Miscellaneous → ℕ → ℕ → List ℕ → List ℕ
opening_bytes before fill contents between scan_fill id rest =
    marker StartOfImage ++ (miscellaneous_bytes before ++ (filled fill (segment StartOfFrame contents)
    ++ (miscellaneous_bytes between ++ (filled scan_fill (segment StartOfScan (scan_contents id)) ++ rest))))

pub record OpeningRead (bytes : List ℕ) (h : FrameHeader) (p : Parameters) (rest : List ℕ) : Type 0 where
  pub before : List Miscellaneous
  pub fill : ℕ
  pub contents : List ℕ
  pub header : HeaderRead contents h
  pub read : frame_header_of contents ≡ Ok h
  pub between : List Miscellaneous
  pub scan_fill : ℕ
  pub whole : bytes ≡ opening_bytes before fill contents between scan_fill (slice_index h.ids 0) rest
  pub before_lawful : AllByRecursion MayPrecedeScans before
  pub between_lawful : AllByRecursion MayPrecedeScans between
  pub parameters_are : parameters_of h.precision (last_presets no_presets (before ++ between)) ≡ Ok p
  pub rest_are : AreBytes rest

pub start_read : (bytes rest : List ℕ) → start_at bytes ≡ Ok rest → bytes ≡ marker StartOfImage ++ rest
unfolding start_at
start_read [] rest e = absurd cc
start_read (first ∷ []) rest e = let a = test_ok (eqb first 255) NotSoi (Err Truncated) rest e in absurd (let bad = a.1 in cc)
start_read (first ∷ second ∷ bytes) rest e =
    let last : Result (List ℕ) StreamFault = Ok bytes in
    let a = test_ok (eqb first 255) NotSoi (wanted (eqb second 216) NotSoi >>= λ passed. last) rest e in
    let b = test_ok (eqb second 216) NotSoi last rest a.1 in
    ap (λ n. n ∷ second ∷ bytes) (eqb-true first 255 a.0) ∙ ap (λ n. 255 ∷ n ∷ bytes) (eqb-true second 216 b.0) ∙ ap (λ bs. 255 ∷ 216 ∷ bs) (same_ok bytes rest b.1)

pub or_bad_ok : (r : Result Parameters PresetFault) (p : Parameters) → or_bad_presets r ≡ Ok p → r ≡ Ok p
or_bad_ok (Ok q) p e = ap (λ (r : Parameters). Ok r) (same_ok q p e)
or_bad_ok (Err fault) p e = absurd cc

or_bad_met : (r : Result Parameters PresetFault) (p : Parameters) → r ≡ Ok p → or_bad_presets r ≡ Ok p
or_bad_met r p e = rw e refl

pub record FrameRead (bytes : List ℕ) (h : FrameHeader) (last : Parameters) (rest : List ℕ) : Type 0 where
  pub segments : List Miscellaneous
  pub fill : ℕ
  pub contents : List ℕ
  pub header : HeaderRead contents h
  pub read : frame_header_of contents ≡ Ok h
  pub whole : bytes ≡ miscellaneous_bytes segments ++ (filled fill (segment StartOfFrame contents) ++ rest)
  pub lawful : AllByRecursion MayPrecedeScans segments
  pub last_is : last ≡ last_presets no_presets segments
  pub rest_are : AreBytes rest

pub frame_read : (bytes : List ℕ) (found : FrameHeader × Parameters × List ℕ) → AreBytes bytes → frame_header_at bytes ≡ Ok found → FrameRead bytes found.0 found.1 found.2
unfolding frame_header_at
frame_read bytes found are e =
    let a = step_ok (ahead_at false no_presets bytes)
    (λ next. wanted (is_start_of_frame next.0) BadSegment >>= λ passed. contents_at next.2 >>= λ contents. frame_header_of contents.0 >>= λ header. Ok (header, next.1, contents.1)) found e in
    let next : Stands = a.0 in
    let b = test_ok (is_start_of_frame next.0) BadSegment (contents_at next.2 >>= λ contents. frame_header_of contents.0 >>= λ header. Ok (header, next.1, contents.1)) found a.2 in
    let c = step_ok (contents_at next.2) (λ contents. frame_header_of contents.0 >>= λ header. Ok (header, next.1, contents.1)) found b.1 in
    let d = step_ok (frame_header_of c.0.0) (λ header. Ok (header, next.1, c.0.1)) found c.2 in
    let read = ahead_read false no_presets bytes next are a.1 in
    let front : List ℕ = miscellaneous_bytes read.segments in
    let at : List ℕ = filled read.fill (marker next.0) ++ next.2 in
    let after = bytes_along (filled read.fill (marker next.0)) next.2 (bytes_along front at are read.whole) refl in
    let contents = contents_read next.2 c.0 after c.1 in
    let made : FrameHeader × Parameters × List ℕ = (d.0, next.1, c.0.1) in
    let here : at ≡ filled read.fill (segment StartOfFrame c.0.0) ++ c.0.1 =
    segment_whole at next.2 c.0.0 c.0.1 read.fill StartOfFrame (ap (λ m. filled read.fill (marker m) ++ next.2) (is_frame next.0 b.0)) contents.whole in
    subst (λ (f : FrameHeader × Parameters × List ℕ). FrameRead bytes f.0 f.1 f.2) (same_ok made found d.2) (record {
      segments = read.segments;
      fill = read.fill;
      contents = c.0.0;
      header = header_read c.0.0 d.0 contents.contents_are d.1;
      read = d.1;
      whole = read.whole ∙ ap (λ bs. front ++ bs) here;
      lawful = read.lawful;
      last_is = read.last_is;
      rest_are = contents.rest_are;
    })

pub opening_read : (bytes : List ℕ) (found : FrameHeader × Parameters × List ℕ) → AreBytes bytes → opening_at bytes ≡ Ok found → OpeningRead bytes found.0 found.1 found.2
unfolding opening_at
opening_read bytes found are e =
    let a = step_ok (start_at bytes)
    (λ rest. frame_header_at rest >>= λ frame. scan_header_at false frame.1 (slice_index frame.0.ids 0) frame.2 >>= λ scan. or_bad_presets (parameters_of frame.0.precision scan.0)
    >>= λ parameters. Ok (frame.0, parameters, scan.1)) found e in
    let b = step_ok (frame_header_at a.0)
    (λ frame. scan_header_at false frame.1 (slice_index frame.0.ids 0) frame.2 >>= λ scan. or_bad_presets (parameters_of frame.0.precision scan.0)
    >>= λ parameters. Ok (frame.0, parameters, scan.1)) found a.2 in
    let h = b.0.0 in
    let id = slice_index h.ids 0 in
    let c = step_ok (scan_header_at false b.0.1 id b.0.2) (λ scan. or_bad_presets (parameters_of h.precision scan.0) >>= λ parameters. Ok (h, parameters, scan.1)) found b.2 in
    let d = step_ok (or_bad_presets (parameters_of h.precision c.0.0)) (λ parameters. Ok (h, parameters, c.0.1)) found c.2 in
    let start = start_read bytes a.0 a.1 in
    let frame = frame_read a.0 b.0 (bytes_along (marker StartOfImage) a.0 are start) b.1 in
    let scan = scan_header_read false b.0.1 id b.0.2 c.0 frame.rest_are c.1 in
    let made : FrameHeader × Parameters × List ℕ = (h, d.0, c.0.1) in
    let last : c.0.0 ≡ last_presets no_presets (frame.segments ++ scan.segments) =
    scan.last_is ∙ ap (λ p. last_presets p scan.segments) frame.last_is ∙ presets_append no_presets frame.segments scan.segments in
    let front : List ℕ → List ℕ = λ bs. miscellaneous_bytes frame.segments ++ (filled frame.fill (segment StartOfFrame frame.contents) ++ bs) in
    subst (λ (f : FrameHeader × Parameters × List ℕ). OpeningRead bytes f.0 f.1 f.2) (same_ok made found d.2) (record {
      before = frame.segments;
      fill = frame.fill;
      contents = frame.contents;
      header = frame.header;
      read = frame.read;
      between = scan.segments;
      scan_fill = scan.fill;
      whole = start ∙ ap (λ bs. marker StartOfImage ++ bs) (frame.whole ∙ ap front scan.whole);
      before_lawful = frame.lawful;
      between_lawful = scan.lawful;
      parameters_are = ap (λ p. parameters_of h.precision p) (sym last) ∙ or_bad_ok _ d.0 d.1;
      rest_are = scan.rest_are;
    })

-- ---- a complete codestream that is read

some_components : (kind : Kind) → 0 < components kind
some_components Gray = omega arith
some_components Color = omega arith

-- one component, and those after it
first_component : (cs : List Component) → 0 < length cs → (first : Component) × (later : List Component) × (cs ≡ first ∷ later)
first_component [] some = absurd (omega arith)
first_component (c ∷ cs) some = (c, cs, refl)

abbrev stream_of : List Miscellaneous → ℕ → Header → List Miscellaneous → Scan → List Scan → ℕ → Codestream
stream_of before fill header between scan others last_fill =
    record { before = before; fill = fill; header = header; between = between; scans = scan ∷ others; last_fill = last_fill }

parts_join : (a b c d e f rest : List ℕ) → a ++ (b ++ (c ++ (d ++ (e ++ (f ++ rest))))) ≡ (a ++ b ++ c ++ d ++ e ++ f) ++ rest
parts_join a b c d e f rest = simp append_assoc

stream_join : (before : List Miscellaneous) (fill : ℕ) (header : Header) (between : List Miscellaneous) (scan : Scan) (others : List Scan) (last_fill : ℕ) (first : Component)
    (later : List Component) (rest : List ℕ) → header.components ≡ first ∷ later
    → opening_bytes before fill (header_contents header) between scan.fill first.id (from_data later scan others last_fill rest)
    ≡ codestream_bytes (stream_of before fill header between scan others last_fill) ++ rest
unfolding codestream_bytes
stream_join before fill header between scan others last_fill first later rest are =
    let tail : List ℕ = filled last_fill (marker EndOfImage) ++ rest in
    let front : List ℕ → List ℕ = λ bs. marker StartOfImage ++ (miscellaneous_bytes before ++ (filled fill (segment StartOfFrame (header_contents header)) ++ (miscellaneous_bytes between ++ bs))) in
    let scans : List ℕ = scans_bytes header.components (scan ∷ others) in
    ap front (scans_join first later scan others tail ∙ ap (λ cs. scans_bytes cs (scan ∷ others) ++ tail) (sym are))
    ∙ parts_join (marker StartOfImage) (miscellaneous_bytes before) (filled fill (segment StartOfFrame (header_contents header))) (miscellaneous_bytes between) scans
    (filled last_fill (marker EndOfImage)) rest

-- the data of scans
coded_of : (p : Parameters) (f : Picture) (component : ℕ) (scans : List Scan) → AreDataOf p f component (stuffed scans) → AreCoded p f component scans
coded_of p f component [] are = tt
coded_of p f component (scan ∷ scans) are = (are.0, coded_of p f (suc component) scans are.1)

data_of_scans : (p : Parameters) (f : Picture) (component : ℕ) (scans : List Scan) → AreCoded p f component scans → AreDataOf p f component (stuffed scans)
data_of_scans p f component [] are = tt
data_of_scans p f component (scan ∷ scans) are = (are.0, data_of_scans p f (suc component) scans are.1)

-- the codestream of bytes, up to those that are left
record StreamRead (bytes : List ℕ) (o : Outline) (rest : List ℕ) : Type 0 where
  stream : Codestream
  whole : bytes ≡ codestream_bytes stream ++ rest
  contents : List ℕ
  header : HeaderRead contents o.header
  header_is : stream.header ≡ header.header
  before : AllByRecursion MayPrecedeScans stream.before
  between : AllByRecursion MayPrecedeScans stream.between
  parameters_are : parameters_of o.header.precision (last_presets no_presets (stream.before ++ stream.between)) ≡ Ok o.parameters
  scans : o.scans ≡ stuffed stream.scans
  count : length stream.scans ≡ length stream.header.components
  after : AllFollow stream.scans

stream_read : (bytes : List ℕ) (found : Outline × List ℕ) → AreBytes bytes → outline_at bytes ≡ Ok found → StreamRead bytes found.0 found.1
unfolding outline_at
stream_read bytes found are e =
    let a = step_ok (opening_at bytes)
    (λ opening. scans_at (drop 1 (ids_in opening.0)) opening.2 >>= λ scans. Ok (record { header = opening.0; parameters = opening.1; scans = scans.0 }, scans.1)) found e in
    let h = a.0.0 in
    let p = a.0.1 in
    let b = step_ok (scans_at (drop 1 (ids_in h)) a.0.2) (λ scans. Ok (record { header = h; parameters = p; scans = scans.0 }, scans.1)) found a.2 in
    let opening = opening_read bytes a.0 are a.1 in
    let header = opening.header.header in
    let parts = first_component header.components (omega (arith, opening.header.count, some_components h.kind)) in
    let first = parts.0 in
    let later = parts.1 in
    let named : ids_in h ≡ first.id ∷ ids later = sym opening.header.ids ∙ ap ids parts.2 in
    let id_is : slice_index h.ids 0 ≡ first.id = sym (get_or-take (components h.kind) h.ids 0 0 (some_components h.kind)) ∙ ap (λ (ns : List ℕ). get_or ns 0 0) named in
    let scans = scans_read later opening.scan_fill a.0.2 b.0 opening.rest_are (ap (λ (ns : List ℕ). scans_at (drop 1 ns) a.0.2) (sym named) ∙ b.1) in
    let rest = b.0.1 in
    let made : Outline × List ℕ = (record { header = h; parameters = p; scans = b.0.0 }, rest) in
    let opened : List ℕ → ℕ → ℕ → List ℕ → List ℕ = λ contents fill id bs. opening_bytes opening.before opening.fill contents opening.between fill id bs in
    subst (λ (f : Outline × List ℕ). StreamRead bytes f.0 f.1) (same_ok made found b.2) (record {
      stream = stream_of opening.before opening.fill header opening.between scans.scan scans.others scans.last_fill;
      whole = opening.whole
          ∙ ap (λ contents. opened contents opening.scan_fill (slice_index h.ids 0) a.0.2) opening.header.whole
          ∙ ap (λ id. opened (header_contents header) opening.scan_fill id a.0.2) id_is
          ∙ ap (λ fill. opened (header_contents header) fill first.id a.0.2) (sym scans.fill_is)
          ∙ ap (λ bs. opened (header_contents header) scans.scan.fill first.id bs) scans.whole
          ∙ stream_join opening.before opening.fill header opening.between scans.scan scans.others scans.last_fill first later rest parts.2;
      contents = opening.contents;
      header = opening.header;
      header_is = refl;
      before = opening.before_lawful;
      between = opening.between_lawful;
      parameters_are = opening.parameters_are;
      scans = scans.found_is;
      count = ap suc scans.count ∙ ap length (sym parts.2);
      after = scans.follow;
    })

says_by : (bytes rest : List ℕ) (o : Outline) (f : Picture) (read : StreamRead bytes o rest) → IsOutlineOf f o → Says read.stream o.parameters f
says_by bytes rest o f read is = record {
  before = read.before;
  header = rw read.header_is (record {
    some_bits = read.header.some_bits;
    bits = read.header.bits;
    height = read.header.height ∙ is.height;
    width = read.header.width ∙ is.width;
    count = read.header.count ∙ ap components is.kind;
    apart = read.header.apart;
  });
  between = read.between;
  parameters_are = ap (λ (header : Header). parameters_of header.precision (last_presets no_presets (read.stream.before ++ read.stream.between))) read.header_is
      ∙ ap (λ n. parameters_of n (last_presets no_presets (read.stream.before ++ read.stream.between))) read.header.precision ∙ read.parameters_are;
  maxval = is.maxval;
  count = read.count ∙ ap (λ (header : Header). length header.components) read.header_is ∙ read.header.count ∙ ap components is.kind;
  coded = coded_of o.parameters f 0 read.stream.scans (subst (AreDataOf o.parameters f 0) read.scans is.coded);
  after = read.after;
}

pub outlines_spell : OutlinesSpell
outlines_spell bytes rest o are e =
    let read = stream_read bytes (o, rest) are e in
    let front = codestream_bytes read.stream in (
      front,
      read.whole,
      λ f frame is short. record {
        frame = frame;
        are_bytes = bytes_of_front front rest (subst AreBytes read.whole are);
        short = short;
        codestream = read.stream;
        spelled = refl;
        parameters = o.parameters;
        says = says_by bytes rest o f read is;
      },
    )

-- ---- where a marker starts

starts_after : (fill code : ℕ) (more : List ℕ) → 128 ≤ code → starts_marker (replicate fill 255 ++ 255 ∷ code ∷ more) ≡ true
starts_after zero code more high = and_from _ _ refl (le-leb 128 code high)
starts_after (suc zero) code more high = refl
starts_after (suc (suc fill)) code more high = refl

marker_starts : (fill : ℕ) (m : Marker) (rest : List ℕ) → 128 ≤ code_of m → starts_marker (filled fill (marker m) ++ rest) ≡ true
marker_starts fill m rest high = ap starts_marker (append_assoc (replicate fill 255) (marker m) rest) ∙ starts_after fill (code_of m) rest high

segment_starts : (fill : ℕ) (m : Marker) (contents rest : List ℕ) → 128 ≤ code_of m → starts_marker (filled fill (segment m contents) ++ rest) ≡ true
segment_starts fill m contents rest high = ap starts_marker (segment_parts fill m contents rest) ∙ marker_starts fill m _ high

high_code : (m : Marker) → IsTrue (is_skipped m) → 128 ≤ code_of m
high_code StartOfImage is = absurd (false≢true is)
high_code EndOfImage is = absurd (false≢true is)
high_code StartOfScan is = absurd (false≢true is)
high_code StartOfFrame is = absurd (false≢true is)
high_code PresetParameters is = absurd (false≢true is)
high_code (Application code) is = let known = application_is code is in omega (arith, known.1)
high_code Comment is = omega arith
high_code (Other code) is = absurd (false≢true is)

segments_start : (segments : List Miscellaneous) (bytes : List ℕ) → AllByRecursion MayFollowScan segments → starts_marker bytes ≡ true → starts_marker (miscellaneous_bytes segments ++ bytes) ≡ true
segments_start [] bytes may starts = starts
segments_start (skipped fill m contents ∷ segments) bytes may starts =
    ap starts_marker (append_assoc (filled fill (segment m contents)) (miscellaneous_bytes segments) bytes) ∙ segment_starts fill m contents _ (high_code m may.0.marker_is)
segments_start (presets fill p ∷ segments) bytes may starts = absurd may.0

-- ---- what is so by the grammar is read

pub frame_spelled : (contents : List ℕ) (h : FrameHeader) (fill : ℕ) (segments : List Miscellaneous) (rest : List ℕ) → frame_header_of contents ≡ Ok h → 2 + length contents < 2 ^ 16
    → AllByRecursion MayPrecedeScans segments
    → frame_header_at (miscellaneous_bytes segments ++ (filled fill (segment StartOfFrame contents) ++ rest)) ≡ Ok (h, last_presets no_presets segments, rest)
unfolding frame_header_at
frame_spelled contents h fill segments rest read short lawful =
    let after : List ℕ = (two_bytes (2 + length contents) ++ contents) ++ rest in
    let front = miscellaneous_bytes segments in
    let last = last_presets no_presets segments in
    let ahead : ahead_at false no_presets (front ++ (filled fill (segment StartOfFrame contents) ++ rest)) ≡ Ok (StartOfFrame, last, after) =
    ap (λ bs. ahead_at false no_presets (front ++ bs)) (segment_parts fill StartOfFrame contents rest)
    ∙ ahead_again false no_presets segments fill StartOfFrame after lawful (early segments) ahead_frame in
    step_is (ahead_at false no_presets (front ++ (filled fill (segment StartOfFrame contents) ++ rest)))
    (λ next. wanted (is_start_of_frame next.0) BadSegment >>= λ passed. contents_at next.2 >>= λ c. frame_header_of c.0 >>= λ header. Ok (header, next.1, c.1)) (StartOfFrame, last, after) ahead
    ∙ step_is (contents_at after) (λ c. frame_header_of c.0 >>= λ header. Ok (header, last, c.1)) (contents, rest) (contents_again contents rest short)
    ∙ step_is (frame_header_of contents) (λ header. Ok (header, last, rest)) h read

opening_spelled : (kind : Kind) (header : Header) (h : FrameHeader) (before between : List Miscellaneous) (fill scan_fill id : ℕ) (p : Parameters) (rest : List ℕ) → HeaderSays kind header h
    → length header.components ≡ components kind → AllByRecursion MayPrecedeScans before → AllByRecursion MayPrecedeScans between → slice_index h.ids 0 ≡ id
    → parameters_of header.precision (last_presets no_presets (before ++ between)) ≡ Ok p
    → opening_at (opening_bytes before fill (header_contents header) between scan_fill id rest) ≡ Ok (h, p, rest)
unfolding opening_at start_at
opening_spelled kind header h before between fill scan_fill id p rest says count before_lawful between_lawful first parameters_are =
    let scan : List ℕ = miscellaneous_bytes between ++ (filled scan_fill (segment StartOfScan (scan_contents id)) ++ rest) in
    let frame : List ℕ = miscellaneous_bytes before ++ (filled fill (segment StartOfFrame (header_contents header)) ++ scan) in
    let written = last_presets no_presets before in
    let last = last_presets written between in
    let header_is : scan_header_at false written (slice_index h.ids 0) scan ≡ Ok (last, rest) =
    ap (λ n. scan_header_at false written n scan) first ∙ scan_header_spelled false written id scan_fill between rest between_lawful (early between) in
    let presets_are : parameters_of h.precision last ≡ Ok p =
    ap (λ n. parameters_of n last) says.precision ∙ ap (λ q. parameters_of header.precision q) (presets_append no_presets before between) ∙ parameters_are in
    step_is (frame_header_at frame)
    (λ found. scan_header_at false found.1 (slice_index found.0.ids 0) found.2 >>= λ s. or_bad_presets (parameters_of found.0.precision s.0) >>= λ q. Ok (found.0, q, s.1))
    (h, written, scan) (frame_spelled (header_contents header) h fill before scan says.read (header_short kind header count) before_lawful)
    ∙ step_is (scan_header_at false written (slice_index h.ids 0) scan) (λ s. or_bad_presets (parameters_of h.precision s.0) >>= λ q. Ok (h, q, s.1)) (last, rest) header_is
    ∙ step_is (or_bad_presets (parameters_of h.precision last)) (λ q. Ok (h, q, rest)) p (or_bad_met _ p presets_are)

pub next_scan_spelled : (id fill : ℕ) (segments : List Miscellaneous) (rest : List ℕ) → AllByRecursion MayFollowScan segments
    → next_scan_at id (miscellaneous_bytes segments ++ (filled fill (segment StartOfScan (scan_contents id)) ++ rest)) ≡ Ok rest
unfolding next_scan_at
next_scan_spelled id fill segments rest may =
    step_is (scan_header_at true no_presets id (miscellaneous_bytes segments ++ (filled fill (segment StartOfScan (scan_contents id)) ++ rest))) (λ scan. Ok scan.1)
    (last_presets no_presets segments, rest) (scan_header_spelled true no_presets id fill segments rest (precedes segments may) (follow segments may))

scans_spelled : (p : Parameters) (f : Picture) (component : ℕ) (later : List Component) (scan : Scan) (scans : List Scan) (last_fill : ℕ) (rest : List ℕ)
    → AreCoded p f component (scan ∷ scans) → AllFollow (scan ∷ scans) → length scans ≡ length later
    → scans_at (ids later) (from_data later scan scans last_fill rest) ≡ Ok (stuffed (scan ∷ scans), rest)
unfolding scans_at
scans_spelled p f component [] scan [] last_fill rest coded may count =
    let end : List ℕ = filled last_fill (marker EndOfImage) ++ rest in
    let tail : List ℕ = miscellaneous_bytes scan.after ++ end in
    let bytes : List ℕ = scan.stuffed ++ tail in
    let starts = segments_start scan.after end may.0 (marker_starts last_fill EndOfImage rest (omega arith)) in
    ap (λ bs. end_at bs >>= λ r. Ok (data_at bytes ∷ [], r)) (after_data-front scan.stuffed tail coded.0.is_data starts)
    ∙ step_is (end_at tail) (λ r. Ok (data_at bytes ∷ [], r)) rest (end_spelled last_fill scan.after rest may.0)
    ∙ ap (λ d. Ok (d ∷ [], rest)) (data_at-front scan.stuffed tail coded.0.is_data starts)
scans_spelled p f component [] scan (next ∷ scans) last_fill rest coded may count = absurd (omega arith)
scans_spelled p f component (c ∷ later) scan [] last_fill rest coded may count = absurd (omega arith)
scans_spelled p f component (c ∷ later) scan (next ∷ scans) last_fill rest coded may count =
    let end : List ℕ = filled last_fill (marker EndOfImage) ++ rest in
    let others : List ℕ = from_data later next scans last_fill rest in
    let header : List ℕ = filled next.fill (segment StartOfScan (scan_contents c.id)) in
    let tail : List ℕ = miscellaneous_bytes scan.after ++ (header ++ others) in
    let bytes : List ℕ = scan.stuffed ++ tail in
    let same : from_data (c ∷ later) scan (next ∷ scans) last_fill rest ≡ bytes =
    ap (λ bs. scan.stuffed ++ (miscellaneous_bytes scan.after ++ bs)) (sym (scans_join c later next scans end)) in
    let starts = segments_start scan.after (header ++ others) may.0 (segment_starts next.fill StartOfScan (scan_contents c.id) others (omega arith)) in
    ap (scans_at (c.id ∷ ids later)) same
    ∙ ap (λ bs. next_scan_at c.id bs >>= λ r. scans_at (ids later) r >>= λ ss. Ok (data_at bytes ∷ ss.0, ss.1)) (after_data-front scan.stuffed tail coded.0.is_data starts)
    ∙ step_is (next_scan_at c.id tail) (λ r. scans_at (ids later) r >>= λ ss. Ok (data_at bytes ∷ ss.0, ss.1)) others (next_scan_spelled c.id next.fill scan.after others may.0)
    ∙ step_is (scans_at (ids later) others) (λ ss. Ok (data_at bytes ∷ ss.0, ss.1)) (stuffed (next ∷ scans), rest)
    (scans_spelled p f (suc component) later next scans last_fill rest coded.1 may.1 (omega arith))
    ∙ ap (λ d. Ok (d ∷ stuffed (next ∷ scans), rest)) (data_at-front scan.stuffed tail coded.0.is_data starts)

first_scan : (scans : List Scan) → 0 < length scans → (scan : Scan) × (others : List Scan) × (scans ≡ scan ∷ others)
first_scan [] some = absurd (omega arith)
first_scan (scan ∷ scans) some = (scan, scans, refl)

pub spellings_have_outlines : SpellingsHaveOutlines
unfolding outline_at
spellings_have_outlines front rest f spells =
    let whole = spells.codestream in
    let says = spells.says in
    let p = spells.parameters in
    let header = whole.header in
    let again = header_again f header spells.frame says.header in
    let h = again.0 in
    let read = again.1 in
    let parts = first_component header.components (omega (arith, says.header.count, some_components f.kind)) in
    let first = parts.0 in
    let later = parts.1 in
    let scans = first_scan whole.scans (omega (arith, says.count, some_components f.kind)) in
    let scan = scans.0 in
    let others = scans.1 in
    let named : ids_in h ≡ first.id ∷ ids later = read.ids ∙ ap ids parts.2 in
    let id_is : slice_index h.ids 0 ≡ first.id = sym (get_or-take (components h.kind) h.ids 0 0 (some_components h.kind)) ∙ ap (λ (ns : List ℕ). get_or ns 0 0) named in
    let data_bytes : List ℕ = from_data later scan others whole.last_fill rest in
    let bytes : List ℕ = opening_bytes whole.before whole.fill (header_contents header) whole.between scan.fill first.id data_bytes in
    let stream : List Scan → Codestream = λ ss. record {
      before = whole.before;
      fill = whole.fill;
      header = header;
      between = whole.between;
      scans = ss;
      last_fill = whole.last_fill;
    } in
    let same : front ++ rest ≡ bytes =
    ap (λ bs. bs ++ rest) spells.spelled ∙ ap (λ ss. codestream_bytes (stream ss) ++ rest) scans.2
    ∙ sym (stream_join whole.before whole.fill header whole.between scan others whole.last_fill first later rest parts.2) in
    let coded : AreCoded p f 0 (scan ∷ others) = subst (AreCoded p f 0) scans.2 says.coded in
    let after : AllFollow (scan ∷ others) = subst AllFollow scans.2 says.after in
    let made : List (List ℕ) → Outline = λ ds. record { header = h; parameters = p; scans = ds } in
    let size = ap length scans.2 in
    let size_later = ap length parts.2 in
    let opened : opening_at bytes ≡ Ok (h, p, data_bytes) =
    opening_spelled f.kind header h whole.before whole.between whole.fill scan.fill first.id p data_bytes read says.header.count says.before says.between id_is says.parameters_are in
    let all : scans_at (drop 1 (ids_in h)) data_bytes ≡ Ok (stuffed (scan ∷ others), rest) =
    ap (λ (ns : List ℕ). scans_at (drop 1 ns) data_bytes) named
    ∙ scans_spelled p f 0 later scan others whole.last_fill rest coded after (omega (arith, says.count, says.header.count, size, size_later)) in (
      made (stuffed whole.scans),
      ap outline_at same
          ∙ step_is (opening_at bytes) (λ opening. scans_at (drop 1 (ids_in opening.0)) opening.2 >>= λ ss. Ok (record { header = opening.0; parameters = opening.1; scans = ss.0 }, ss.1)) (h, p, data_bytes) opened
          ∙ step_is (scans_at (drop 1 (ids_in h)) data_bytes) (λ ss. Ok (made ss.0, ss.1)) (stuffed (scan ∷ others), rest) all
          ∙ ap (λ ss. Ok (made (stuffed ss), rest)) (sym scans.2),
      record {
        kind = read.kind_is;
        height = read.height ∙ says.header.height;
        width = read.width ∙ says.header.width;
        maxval = says.maxval;
        count = length-map whole.scans (λ s. s.stuffed) ∙ says.count;
        coded = data_of_scans p f 0 whole.scans says.coded;
      },
    )
