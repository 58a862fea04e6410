-- A fault of the outline of bytes is one of the ways in which they break the grammar.
use Rattle.std.proofs.Common.{◌≡◌, ℕ, ◌+◌, ◌<◌, Bool, true, false, eqb, List, [], ◌∷◌, ◌++◌, length, drop, get_or, inl, inr, None, Some, Result, Ok, Err, refl, sym, ap, subst, ◌∙◌, arith, take-append-drop}
use Rattle.std.specs.Prelude.{slice_index}
use Rattle.std.specs.List.{AllByRecursion}
use Rattle.std.proofs.lemmas.Bool.{eqb-true, eqb-false, true≢false}
use Rattle.std.proofs.lemmas.List.{get_or-take}
use Rattle.ls_frame.specs.declared.frame.Kind.{Kind}
use Rattle.ls_frame.specs.declared.frame.Kind.TheVariants.{Gray, Color}
use Rattle.ls_frame.specs.declared.presets.PresetFault.{PresetFault}
use Rattle.ls_frame.specs.Picture.{components}
use Rattle.ls_frame.specs.Parameters.{Parameters}
use Rattle.ls_bits.specs.Bits.{AreBytes}
use Rattle.ls_stream.specs.declared.faults.StreamFault.{StreamFault}
use Rattle.ls_stream.specs.declared.faults.StreamFault.TheVariants.{Truncated, NotSoi, BadSegment, BadPresets}
use Rattle.ls_stream.specs.declared.marker.Marker.{Marker}
use Rattle.ls_stream.specs.declared.marker.Marker.TheVariants.{StartOfImage, EndOfImage, StartOfScan, StartOfFrame, PresetParameters, Application, Comment, Other}
use Rattle.ls_stream.specs.declared.segments.read.FrameHeader.{FrameHeader}
use Rattle.ls_stream.specs.Markers.{IsMarker, marker}
use Rattle.ls_stream.specs.Segments.{segment, field_of, Component, header_contents, scan_contents}
use Rattle.ls_stream.specs.Grammar.{filled, Miscellaneous, miscellaneous_bytes, last_presets, no_presets, parameters_of}
use Rattle.ls_stream.specs.Faults.{Due, frame_header, first_scan, next_scan, end_marker, is_late, MayStand, marker_fault, first_unmet, contents_checks, frame_checks, scan_checks, has_segment, BreaksSegment, fails, misplaced, malformed, BreaksAfter, BreaksStart, no_byte, one_byte, another_first, another_second, HasFrame, HasScan, BeginsWithOpening, HasNextScan, later_ids, BreaksScans, BreaksOpening, at_start, before_frame, before_scan, bad_presets, in_opening, in_scans}
use Rattle.ls_stream.specs.View.FirstFaults.{BreaksPlanes, before_data, from_data}
use Rattle.ls_stream.specs.View.Reading.{◌>>=◌, wanted, ahead_at, contents_at, frame_header_of, scan_header_of, is_start_of_frame, is_start_of_scan, is_end_of_image, start_at, frame_header_at, scan_header_at, next_scan_at, end_at, or_bad_presets, opening_at, HasOpening}
use Rattle.ls_stream.specs.View.Outlines.{data_length, data_at, after_data, Outline, ids_in, scans_at, outline_at, OutlineFaultsBreak, ScansStop, at_opening, at_scans, StopsAreFirstFaults}
use Rattle.ls_stream.proofs.StepLemmas.{same_fault, same_ok, step_ok, step_err, test_err}
use Rattle.ls_stream.proofs.SegmentLemmas.{contents_read, bytes_along}
use Rattle.ls_stream.proofs.HeaderLemmas.{HeaderRead}
use Rattle.ls_stream.proofs.FrontLemmas.{data_length-is}
use Rattle.ls_stream.proofs.CheckLemmas.{frame_agrees, scan_agrees, unmet_of, met_of}
use Rattle.ls_stream.proofs.AheadLemmas.{Stops, stop_is, Stands, AheadRead, ahead_read}
use Rattle.ls_stream.proofs.BreakLemmas.{no_err, segment_breaks, all_stand, ahead_breaks}
use Rattle.ls_stream.proofs.OutlineLemmas.{is_frame, is_scan, presets_append, late_ones, ids, scan_header_read, start_read, frame_read, OpeningRead, opening_read}

-- ---- another marker than the one that is due

pub wrong_frame : (m : Marker) → Stops m → is_start_of_frame m ≡ false → marker_fault frame_header m ≡ Some BadSegment
wrong_frame StartOfImage stops other = absurd stops
wrong_frame EndOfImage stops other = refl
wrong_frame StartOfScan stops other = refl
wrong_frame StartOfFrame stops other = absurd (true≢false other)
wrong_frame PresetParameters stops other = absurd stops
wrong_frame (Application code) stops other = absurd stops
wrong_frame Comment stops other = absurd stops
wrong_frame (Other code) stops other = absurd stops

pub wrong_first : (id : ℕ) (m : Marker) → Stops m → is_start_of_scan m ≡ false → marker_fault (first_scan id) m ≡ Some BadSegment
wrong_first id StartOfImage stops other = absurd stops
wrong_first id EndOfImage stops other = refl
wrong_first id StartOfScan stops other = absurd (true≢false other)
wrong_first id StartOfFrame stops other = refl
wrong_first id PresetParameters stops other = absurd stops
wrong_first id (Application code) stops other = absurd stops
wrong_first id Comment stops other = absurd stops
wrong_first id (Other code) stops other = absurd stops

pub wrong_next : (id : ℕ) (m : Marker) → Stops m → is_start_of_scan m ≡ false → marker_fault (next_scan id) m ≡ Some BadSegment
wrong_next id StartOfImage stops other = absurd stops
wrong_next id EndOfImage stops other = refl
wrong_next id StartOfScan stops other = absurd (true≢false other)
wrong_next id StartOfFrame stops other = refl
wrong_next id PresetParameters stops other = absurd stops
wrong_next id (Application code) stops other = absurd stops
wrong_next id Comment stops other = absurd stops
wrong_next id (Other code) stops other = absurd stops

pub wrong_end : (m : Marker) → Stops m → is_end_of_image m ≡ false → marker_fault end_marker m ≡ Some BadSegment
wrong_end StartOfImage stops other = absurd stops
wrong_end EndOfImage stops other = absurd (true≢false other)
wrong_end StartOfScan stops other = refl
wrong_end StartOfFrame stops other = refl
wrong_end PresetParameters stops other = absurd stops
wrong_end (Application code) stops other = absurd stops
wrong_end Comment stops other = absurd stops
wrong_end (Other code) stops other = absurd stops

-- it comes after miscellaneous segments
misplaced_after : (d : Due) (written : Parameters) (bytes : List ℕ) (next : Stands) (fault : StreamFault) → AheadRead (is_late d) written bytes next → marker_fault d next.0 ≡ Some fault
    → BreaksAfter d bytes fault
misplaced_after d written bytes next fault read no_place = record {
  segments = read.segments;
  rest = filled read.fill (marker next.0) ++ next.2;
  whole = read.whole;
  lawful = all_stand (is_late d) read.segments read.lawful read.may;
  breaks = misplaced read.fill next.0 next.2 refl (stop_is next.0 read.stops) no_place;
}

-- a segment breaks after miscellaneous ones
malformed_after : (d : Due) (written : Parameters) (bytes : List ℕ) (next : Stands) (fault : StreamFault) (m : Marker) → AheadRead (is_late d) written bytes next → next.0 ≡ m
    → marker_fault d m ≡ None → has_segment m ≡ true → BreaksSegment d m next.2 fault → BreaksAfter d bytes fault
malformed_after d written bytes next fault m read is may has breaks = record {
  segments = read.segments;
  rest = filled read.fill (marker next.0) ++ next.2;
  whole = read.whole;
  lawful = all_stand (is_late d) read.segments read.lawful read.may;
  breaks = malformed read.fill m next.2 (ap (λ k. filled read.fill (marker k) ++ next.2) is) (subst IsMarker is (stop_is next.0 read.stops)) may has breaks;
}

left_are : (late : Bool) (written : Parameters) (bytes : List ℕ) (next : Stands) → AreBytes bytes → AheadRead late written bytes next → AreBytes next.2
left_are late written bytes next are read =
    bytes_along (filled read.fill (marker next.0)) next.2 (bytes_along (miscellaneous_bytes read.segments) (filled read.fill (marker next.0) ++ next.2) are read.whole) refl

-- ---- the frame header

frame_breaks : (bytes : List ℕ) (fault : StreamFault) → AreBytes bytes → frame_header_at bytes ≡ Err fault → BreaksAfter frame_header bytes fault
unfolding frame_header_at
frame_breaks bytes fault are e =
    elim (step_err (ahead_at false no_presets bytes)
    (λ next. wanted (is_start_of_frame next.0) BadSegment >>= λ passed. contents_at next.2 >>= λ contents. frame_header_of contents.0 >>= λ header. Ok (header, next.1, contents.1)) fault e) [
      | inl bad ↦ ahead_breaks frame_header no_presets bytes fault are bad
      | inr a ↦
          let next : Stands = a.0 in
          let read = ahead_read false no_presets bytes next are a.1 in
          let rest_are = left_are false no_presets bytes next are read in
          elim (test_err (is_start_of_frame next.0) BadSegment (contents_at next.2 >>= λ contents. frame_header_of contents.0 >>= λ header. Ok (header, next.1, contents.1)) fault a.2) [
            | inl other ↦ misplaced_after frame_header no_presets bytes next fault read (wrong_frame next.0 read.stops other.0 ∙ ap (λ (f : StreamFault). Some f) (sym other.1))
            | inr b ↦
                let after = malformed_after frame_header no_presets bytes next fault StartOfFrame read (is_frame next.0 b.0) refl refl in
                elim (step_err (contents_at next.2) (λ contents. frame_header_of contents.0 >>= λ header. Ok (header, next.1, contents.1)) fault b.1) [
                  | inl bad ↦ after (segment_breaks frame_header StartOfFrame next.2 fault rest_are bad)
                  | inr c ↦
                      let contents = contents_read next.2 c.0 rest_are c.1 in
                      elim (step_err (frame_header_of c.0.0) (λ header. Ok (header, next.1, c.0.1)) fault c.2) [
                        | inl bad ↦ after (fails c.0.0 c.0.1 contents.whole (unmet_of (frame_checks c.0.0) (frame_header_of c.0.0) fault (frame_agrees c.0.0) bad))
                        | inr good ↦ absurd (no_err (good.0, next.1, c.0.1) fault good.2)
                      ]
                ]
          ]
    ]

-- ---- the header of a scan

scan_breaks : (d : Due) (id : ℕ) (written : Parameters) (bytes : List ℕ) (fault : StreamFault) → ((m : Marker) → Stops m → is_start_of_scan m ≡ false → marker_fault d m ≡ Some BadSegment)
    → marker_fault d StartOfScan ≡ None → ((contents : List ℕ) → contents_checks d StartOfScan contents ≡ scan_checks id contents) → AreBytes bytes
    → scan_header_at (is_late d) written id bytes ≡ Err fault → BreaksAfter d bytes fault
unfolding scan_header_at
scan_breaks d id written bytes fault wrong may checks are e =
    elim (step_err (ahead_at (is_late d) written bytes)
    (λ next. wanted (is_start_of_scan next.0) BadSegment >>= λ passed. contents_at next.2 >>= λ contents. scan_header_of id contents.0 >>= λ header. Ok (next.1, contents.1)) fault e) [
      | inl bad ↦ ahead_breaks d written bytes fault are bad
      | inr a ↦
          let next : Stands = a.0 in
          let read = ahead_read (is_late d) written bytes next are a.1 in
          let rest_are = left_are (is_late d) written bytes next are read in
          elim (test_err (is_start_of_scan next.0) BadSegment (contents_at next.2 >>= λ contents. scan_header_of id contents.0 >>= λ header. Ok (next.1, contents.1)) fault a.2) [
            | inl other ↦ misplaced_after d written bytes next fault read (wrong next.0 read.stops other.0 ∙ ap (λ (f : StreamFault). Some f) (sym other.1))
            | inr b ↦
                let after = malformed_after d written bytes next fault StartOfScan read (is_scan next.0 b.0) may refl in
                elim (step_err (contents_at next.2) (λ contents. scan_header_of id contents.0 >>= λ header. Ok (next.1, contents.1)) fault b.1) [
                  | inl bad ↦ after (segment_breaks d StartOfScan next.2 fault rest_are bad)
                  | inr c ↦
                      let contents = contents_read next.2 c.0 rest_are c.1 in
                      elim (step_err (scan_header_of id c.0.0) (λ header. Ok (next.1, c.0.1)) fault c.2) [
                        | inl bad ↦ after (fails c.0.0 c.0.1 contents.whole (ap first_unmet (checks c.0.0) ∙ unmet_of (scan_checks id c.0.0) (scan_header_of id c.0.0) fault (scan_agrees id c.0.0) bad))
                        | inr good ↦ absurd (no_err (next.1, c.0.1) fault good.2)
                      ]
                ]
          ]
    ]

-- ---- EOI

pub end_breaks : (bytes : List ℕ) (fault : StreamFault) → AreBytes bytes → end_at bytes ≡ Err fault → BreaksAfter end_marker bytes fault
unfolding end_at
end_breaks bytes fault are e =
    elim (step_err (ahead_at true no_presets bytes) (λ next. wanted (is_end_of_image next.0) BadSegment >>= λ passed. Ok next.2) fault e) [
      | inl bad ↦ ahead_breaks end_marker no_presets bytes fault are bad
      | inr a ↦
          let next : Stands = a.0 in
          let read = ahead_read true no_presets bytes next are a.1 in
          let last : Result (List ℕ) StreamFault = Ok next.2 in
          elim (test_err (is_end_of_image next.0) BadSegment last fault a.2) [
            | inl other ↦ misplaced_after end_marker no_presets bytes next fault read (wrong_end next.0 read.stops other.0 ∙ ap (λ (f : StreamFault). Some f) (sym other.1))
            | inr b ↦ absurd (no_err next.2 fault b.1)
          ]
    ]

-- ---- SOI

start_breaks : (bytes : List ℕ) (fault : StreamFault) → start_at bytes ≡ Err fault → BreaksStart bytes fault
unfolding start_at
start_breaks [] fault e = no_byte refl (sym (same_fault {A = List ℕ} Truncated fault e))
start_breaks (first ∷ []) fault e =
    let none : Result (List ℕ) StreamFault = Err Truncated in
    elim (test_err (eqb first 255) NotSoi none fault e) [
      | inl other ↦ another_first first [] refl (eqb-false first 255 other.0) other.1
      | inr ff ↦ one_byte (ap (λ b. b ∷ []) (eqb-true first 255 ff.0)) (sym (same_fault {A = List ℕ} Truncated fault ff.1))
    ]
start_breaks (first ∷ second ∷ bytes) fault e =
    let last : Result (List ℕ) StreamFault = Ok bytes in
    elim (test_err (eqb first 255) NotSoi (wanted (eqb second 216) NotSoi >>= λ passed. last) fault e) [
      | inl other ↦ another_first first (second ∷ bytes) refl (eqb-false first 255 other.0) other.1
      | inr ff ↦ elim (test_err (eqb second 216) NotSoi last fault ff.1) [
        | inl other ↦ another_second second bytes (ap (λ b. b ∷ second ∷ bytes) (eqb-true first 255 ff.0)) (eqb-false second 216 other.0) other.1
        | inr d8 ↦ absurd (no_err bytes fault d8.1)
      ]
    ]

-- ---- the places of the identifiers

some_components : (kind : Kind) → 0 < components kind
some_components Gray = omega arith
some_components Color = omega arith

by_components : (kind : Kind) (precision height width : ℕ) (cs : List Component) → length cs ≡ components kind
    → (get_or (ids cs) 0 0 ≡ get_or (header_contents (record { precision = precision; height = height; width = width; components = cs })) 6 0)
    × (drop 1 (ids cs) ≡ later_ids (header_contents (record { precision = precision; height = height; width = width; components = cs })))
unfolding header_contents
by_components Gray precision height width [] count = absurd (omega arith)
by_components Gray precision height width (a ∷ []) count = (refl, refl)
by_components Gray precision height width (a ∷ b ∷ cs) count = absurd (omega arith)
by_components Color precision height width [] count = absurd (omega arith)
by_components Color precision height width (a ∷ []) count = absurd (omega arith)
by_components Color precision height width (a ∷ b ∷ []) count = absurd (omega arith)
by_components Color precision height width (a ∷ b ∷ c ∷ []) count = (refl, refl)
by_components Color precision height width (a ∷ b ∷ c ∷ d ∷ cs) count = absurd (omega arith)

pub ids_at : (contents : List ℕ) (h : FrameHeader) → HeaderRead contents h → (slice_index h.ids 0 ≡ get_or contents 6 0) × (drop 1 (ids_in h) ≡ later_ids contents)
ids_at contents h read =
    let header = read.header in
    let at = by_components h.kind header.precision header.height header.width header.components read.count in (
      sym (get_or-take (components h.kind) h.ids 0 0 (some_components h.kind)) ∙ ap (λ (ns : List ℕ). get_or ns 0 0) (sym read.ids) ∙ at.0 ∙ ap (λ (bs : List ℕ). get_or bs 6 0) (sym read.whole),
      ap (λ (ns : List ℕ). drop 1 ns) (sym read.ids) ∙ at.1 ∙ ap later_ids (sym read.whole),
    )

pub precision_at : (contents : List ℕ) (h : FrameHeader) → HeaderRead contents h → h.precision ≡ get_or contents 0 0
unfolding header_contents
precision_at contents h read = sym read.precision ∙ ap (λ (bs : List ℕ). get_or bs 0 0) (sym read.whole)

-- ---- all before the data of the first scan

or_bad_err : (r : Result Parameters PresetFault) (fault : StreamFault) → or_bad_presets r ≡ Err fault → (cause : PresetFault) × (r ≡ Err cause) × (fault ≡ BadPresets cause)
or_bad_err (Ok p) fault e = absurd (no_err p fault e)
or_bad_err (Err cause) fault e = (cause, refl, sym (same_fault {A = Parameters} (BadPresets cause) fault e))

scan_stands : (contents bytes : List ℕ) (h : FrameHeader) (before between : List Miscellaneous) (middle rest : List ℕ) (fill : ℕ) → HasFrame bytes contents before middle
    → slice_index h.ids 0 ≡ get_or contents 6 0 → middle ≡ miscellaneous_bytes between ++ (filled fill (segment StartOfScan (scan_contents (slice_index h.ids 0))) ++ rest)
    → AllByRecursion (MayStand false) between → HasScan bytes contents before between rest
scan_stands contents bytes h before between middle rest fill frame same whole lawful = record {
  middle = middle;
  frame = frame;
  fill = fill;
  whole = whole ∙ ap (λ n. miscellaneous_bytes between ++ (filled fill (segment StartOfScan (scan_contents n)) ++ rest)) same;
  lawful = lawful;
}

opening_breaks : (bytes : List ℕ) (fault : StreamFault) → AreBytes bytes → opening_at bytes ≡ Err fault → BreaksOpening bytes fault
unfolding opening_at
opening_breaks bytes fault are e =
    elim (step_err (start_at bytes)
    (λ rest. frame_header_at rest >>= λ frame. scan_header_at false frame.1 (slice_index frame.0.ids 0) frame.2 >>= λ scan. or_bad_presets (parameters_of frame.0.precision scan.0)
    >>= λ parameters. Ok (frame.0, parameters, scan.1)) fault e) [
      | inl bad ↦ at_start (start_breaks bytes fault bad)
      | inr a ↦
          let start = start_read bytes a.0 a.1 in
          let rest_are = bytes_along (marker StartOfImage) a.0 are start in
          elim (step_err (frame_header_at a.0)
          (λ frame. scan_header_at false frame.1 (slice_index frame.0.ids 0) frame.2 >>= λ scan. or_bad_presets (parameters_of frame.0.precision scan.0)
          >>= λ parameters. Ok (frame.0, parameters, scan.1)) fault a.2) [
            | inl bad ↦ before_frame a.0 start (frame_breaks a.0 fault rest_are bad)
            | inr b ↦
                let h = b.0.0 in
                let frame = frame_read a.0 b.0 rest_are b.1 in
                let contents = frame.contents in
                let at = ids_at contents h frame.header in
                let id = get_or contents 6 0 in
                let has : HasFrame bytes contents frame.segments b.0.2 = record {
                  fill = frame.fill;
                  whole = start ∙ ap (λ bs. marker StartOfImage ++ bs) frame.whole;
                  lawful = frame.lawful;
                  passed = met_of (frame_checks contents) (frame_header_of contents) h (frame_agrees contents) frame.read;
                } in
                elim (step_err (scan_header_at false b.0.1 (slice_index h.ids 0) b.0.2)
                (λ scan. or_bad_presets (parameters_of h.precision scan.0) >>= λ parameters. Ok (h, parameters, scan.1)) fault b.2) [
                  | inl bad ↦
                      before_scan contents b.0.2 frame.segments has
                      (scan_breaks (first_scan id) id b.0.1 b.0.2 fault (wrong_first id) refl (λ c. refl) frame.rest_are (ap (λ n. scan_header_at false b.0.1 n b.0.2) (sym at.0) ∙ bad))
                  | inr c ↦
                      let scan = scan_header_read false b.0.1 (slice_index h.ids 0) b.0.2 c.0 frame.rest_are c.1 in
                      elim (step_err (or_bad_presets (parameters_of h.precision c.0.0)) (λ parameters. Ok (h, parameters, c.0.1)) fault c.2) [
                        | inl bad ↦
                            let cause = or_bad_err (parameters_of h.precision c.0.0) fault bad in
                            let last = scan.last_is ∙ ap (λ p. last_presets p scan.segments) frame.last_is ∙ presets_append no_presets frame.segments scan.segments in
                            bad_presets contents c.0.1 frame.segments scan.segments cause.0
                            (scan_stands contents bytes h frame.segments scan.segments b.0.2 c.0.1 scan.fill has at.0 scan.whole scan.lawful)
                            (ap (λ n. parameters_of n (last_presets no_presets (frame.segments ++ scan.segments))) (sym (precision_at contents h frame.header))
                            ∙ ap (λ p. parameters_of h.precision p) (sym last) ∙ cause.1) cause.2
                        | inr good ↦ absurd (no_err (h, good.0, c.0.1) fault good.2)
                      ]
                ]
          ]
    ]

-- ---- the scans

-- the header of the next scan, as the grammar has it
next_stands : (id : ℕ) (bytes rest : List ℕ) → AreBytes bytes → next_scan_at id bytes ≡ Ok rest → HasNextScan id bytes rest × AreBytes rest
unfolding next_scan_at
next_stands id bytes rest are e =
    let h = step_ok (scan_header_at true no_presets id bytes) (λ scan. Ok scan.1) rest e in
    let read = scan_header_read true no_presets id bytes h.0 are h.1 in
    let left : h.0.1 ≡ rest = same_ok h.0.1 rest h.2 in (
      record {
        after = read.segments;
        fill = read.fill;
        whole = read.whole ∙ ap (λ bs. miscellaneous_bytes read.segments ++ (filled read.fill (segment StartOfScan (scan_contents id)) ++ bs)) left;
        lawful = late_ones read.segments read.may;
      },
      subst AreBytes left read.rest_are,
    )

next_breaks : (id : ℕ) (bytes : List ℕ) (fault : StreamFault) → AreBytes bytes → next_scan_at id bytes ≡ Err fault → BreaksAfter (next_scan id) bytes fault
unfolding next_scan_at
next_breaks id bytes fault are e =
    elim (step_err (scan_header_at true no_presets id bytes) (λ scan. Ok scan.1) fault e) [
      | inl bad ↦ scan_breaks (next_scan id) id no_presets bytes fault (wrong_next id) refl (λ c. refl) are bad
      | inr good ↦ absurd (no_err good.0.1 fault good.2)
    ]

scans_break : (later bytes : List ℕ) (fault : StreamFault) → AreBytes bytes → scans_at later bytes ≡ Err fault → BreaksScans later bytes fault
unfolding scans_at
scans_break [] bytes fault are e =
    let after = after_data bytes in
    let after_are = bytes_along (data_at bytes) after are (sym (take-append-drop (data_length bytes) bytes)) in
    elim (step_err (end_at after) (λ rest. Ok (data_at bytes ∷ [], rest)) fault e) [
      | inl bad ↦ (data_length bytes, data_length-is bytes, end_breaks after fault after_are bad)
      | inr good ↦ absurd (no_err (data_at bytes ∷ [], good.0) fault good.2)
    ]
scans_break (id ∷ later) bytes fault are e =
    let after = after_data bytes in
    let after_are = bytes_along (data_at bytes) after are (sym (take-append-drop (data_length bytes) bytes)) in
    elim (step_err (next_scan_at id after) (λ rest. scans_at later rest >>= λ scans. Ok (data_at bytes ∷ scans.0, scans.1)) fault e) [
      | inl bad ↦ (data_length bytes, data_length-is bytes, inl (next_breaks id after fault after_are bad))
      | inr a ↦ elim (step_err (scans_at later a.0) (λ scans. Ok (data_at bytes ∷ scans.0, scans.1)) fault a.2) [
        | inl bad ↦
            let stands = next_stands id after a.0 after_are a.1 in
            (data_length bytes, data_length-is bytes, inr (a.0, stands.0, scans_break later a.0 fault stands.1 bad))
        | inr good ↦ absurd (no_err (data_at bytes ∷ good.0.0, good.0.1) fault good.2)
      ]
    ]

-- ---- all of it

pub outline_faults_break : OutlineFaultsBreak
unfolding outline_at
outline_faults_break bytes fault are e =
    elim (step_err (opening_at bytes)
    (λ opening. scans_at (drop 1 (ids_in opening.0)) opening.2 >>= λ scans. Ok (record { header = opening.0; parameters = opening.1; scans = scans.0 }, scans.1)) fault e) [
      | inl bad ↦ in_opening (opening_breaks bytes fault are bad)
      | inr a ↦
          let h = a.0.0 in
          let opening = opening_read bytes a.0 are a.1 in
          let contents = opening.contents in
          let at = ids_at contents h opening.header in
          let made : List (List ℕ) → Outline = λ scans. record { header = h; parameters = a.0.1; scans = scans } in
          let middle : List ℕ = miscellaneous_bytes opening.between ++ (filled opening.scan_fill (segment StartOfScan (scan_contents (slice_index h.ids 0))) ++ a.0.2) in
          let has : HasFrame bytes contents opening.before middle = record {
            fill = opening.fill;
            whole = opening.whole;
            lawful = opening.before_lawful;
            passed = met_of (frame_checks contents) (frame_header_of contents) h (frame_agrees contents) opening.read;
          } in
          elim (step_err (scans_at (drop 1 (ids_in h)) a.0.2) (λ scans. Ok (made scans.0, scans.1)) fault a.2) [
            | inl bad ↦
                in_scans contents a.0.2 opening.before opening.between
                (scan_stands contents bytes h opening.before opening.between middle a.0.2 opening.scan_fill has at.0 refl opening.between_lawful)
                (scans_break (later_ids contents) a.0.2 fault opening.rest_are (ap (λ ns. scans_at ns a.0.2) (sym at.1) ∙ bad))
            | inr good ↦ absurd (no_err (made good.0.0, good.0.1) fault good.2)
          ]
    ]

-- ---- with the planes

planes_break : (p : Parameters) (width height component : ℕ) (later bytes : List ℕ) (fault : StreamFault) → AreBytes bytes → ScansStop p width height component later bytes fault
    → BreaksPlanes p width height component later bytes fault
planes_break p width height component [] bytes fault are stops =
    let after = after_data bytes in
    let after_are = bytes_along (data_at bytes) after are (sym (take-append-drop (data_length bytes) bytes)) in (
      data_length bytes,
      data_length-is bytes,
      elim stops [
        | inl breaks ↦ inl breaks
        | inr a ↦ inr (a.0, end_breaks after fault after_are a.1)
      ],
    )
planes_break p width height component (id ∷ later) bytes fault are stops =
    let after = after_data bytes in
    let after_are = bytes_along (data_at bytes) after are (sym (take-append-drop (data_length bytes) bytes)) in (
      data_length bytes,
      data_length-is bytes,
      elim stops [
        | inl breaks ↦ inl breaks
        | inr a ↦ inr (
          a.0,
          elim a.1 [
            | inl bad ↦ inl (next_breaks id after fault after_are bad)
            | inr b ↦
                let stands = next_stands id after b.0 after_are b.1 in
                inr (b.0, stands.0, planes_break p width height (component + 1) later b.0 fault stands.1 b.2)
          ],
        )
      ],
    )

-- an opening that was read is at the front
pub opening_has : (bytes : List ℕ) (h : FrameHeader) (p : Parameters) (rest : List ℕ) (opening : OpeningRead bytes h p rest)
    → HasScan bytes opening.contents opening.before opening.between rest
opening_has bytes h p rest opening =
    let contents = opening.contents in
    let middle : List ℕ = miscellaneous_bytes opening.between ++ (filled opening.scan_fill (segment StartOfScan (scan_contents (slice_index h.ids 0))) ++ rest) in
    let has : HasFrame bytes contents opening.before middle = record {
      fill = opening.fill;
      whole = opening.whole;
      lawful = opening.before_lawful;
      passed = met_of (frame_checks contents) (frame_header_of contents) h (frame_agrees contents) opening.read;
    } in
    scan_stands contents bytes h opening.before opening.between middle rest opening.scan_fill has (ids_at contents h opening.header).0 refl opening.between_lawful

-- with its parameters
pub parameters_stand : (bytes : List ℕ) (h : FrameHeader) (p : Parameters) (rest : List ℕ) (opening : OpeningRead bytes h p rest)
    → parameters_of (slice_index opening.contents 0) (last_presets no_presets (opening.before ++ opening.between)) ≡ Ok p
parameters_stand bytes h p rest opening =
    ap (λ n. parameters_of n (last_presets no_presets (opening.before ++ opening.between))) (sym (precision_at opening.contents h opening.header)) ∙ opening.parameters_are

pub opening_begins : (bytes : List ℕ) → AreBytes bytes → HasOpening bytes → BeginsWithOpening bytes
opening_begins bytes are found =
    let h = found.0.0 in
    let p = found.0.1 in
    let rest = found.0.2 in
    let opening = opening_read bytes found.0 are found.1 in
    record {
      contents = opening.contents;
      before = opening.before;
      between = opening.between;
      rest = rest;
      parameters = p;
      scan = opening_has bytes h p rest opening;
      parameters_are = parameters_stand bytes h p rest opening;
    }

pub stops_are_first_faults : StopsAreFirstFaults
stops_are_first_faults bytes fault are (at_opening bad) = before_data (opening_breaks bytes fault are bad)
stops_are_first_faults bytes fault are (at_scans h p rest opened stops) =
    let opening = opening_read bytes (h, p, rest) are opened in
    let contents = opening.contents in
    let at = ids_at contents h opening.header in
    from_data contents rest opening.before opening.between p (opening_has bytes h p rest opening) (parameters_stand bytes h p rest opening)
    (subst (λ n. BreaksPlanes p n (field_of contents 1) 0 (later_ids contents) rest fault) (sym opening.header.width_at)
    (subst (λ n. BreaksPlanes p h.width n 0 (later_ids contents) rest fault) (sym opening.header.height_at)
    (subst (λ ids. BreaksPlanes p h.width h.height 0 ids rest fault) at.1 (planes_break p h.width h.height 0 (drop 1 (ids_in h)) rest fault opening.rest_are stops))))
