-- Miscellaneous segments at the front of bytes, up to another marker: what is read of bytes is what they are by the grammar, what is so by
-- the grammar is read, and one more segment.
use Rattle.std.proofs.Common.{◌≡◌, ℕ, zero, suc, ◌+◌, ◌^◌, ◌<◌, ◌≤◌, Bool, true, false, List, [], ◌∷◌, ◌++◌, length, replicate, Option, None, Some, Ok, Err, refl, sym, ap, subst, ◌∙◌, arith, append_assoc, length-append}
use Rattle.std.specs.Prelude.{IsTrue}
use Rattle.std.proofs.lemmas.Bool.{false≢true}
use Rattle.std.specs.List.{AllByRecursion}
use Rattle.ls_frame.specs.Parameters.{Parameters}
use Rattle.ls_bits.specs.Bits.{AreBytes, two_bytes}
use Rattle.ls_stream.specs.declared.faults.StreamFault.{StreamFault}
use Rattle.ls_stream.specs.declared.marker.Marker.{Marker}
use Rattle.ls_stream.specs.declared.marker.Marker.TheVariants.{StartOfImage, EndOfImage, StartOfScan, StartOfFrame, PresetParameters, Application, Comment, Other}
use Rattle.ls_stream.specs.Markers.{IsMarker, marker}
use Rattle.ls_stream.specs.Segments.{segment, presets_contents}
use Rattle.ls_stream.specs.Grammar.{filled, Miscellaneous, skipped, presets, one_miscellaneous_bytes, miscellaneous_bytes, is_skipped, IsSkipped, MayPrecedeScans, MayFollowScan, last_presets}
use Rattle.ls_stream.specs.View.Reading.{◌>>=◌, Part, Ahead, marker_at, contents_at, preset_fields_of, skipped_at, presets_at, after_marker, part_at, unless_marker, ahead_within, ahead_at}
use Rattle.ls_stream.proofs.StepLemmas.{step_ok, step_is, same_ok}
use Rattle.ls_stream.proofs.MarkerLemmas.{IsLawful, application_is, marker_read, marker_again}
use Rattle.ls_stream.proofs.SegmentLemmas.{contents_read, contents_again, contents_shorter, fields_are, fields_again, bytes_along}

-- ---- a segment that is read, or another marker

abbrev pub Found : Type 0
Found = Option Marker × Parameters × List ℕ

-- the segments that may come, late or not
abbrev pub MayCome : Bool → Miscellaneous → Type 0
MayCome true s = MayFollowScan s
MayCome false s = Unit {0}

-- a miscellaneous segment is at the front
pub record SegmentRead (late : Bool) (written : Parameters) (bytes : List ℕ) (last : Parameters) (rest : List ℕ) : Type 0 where
  pub one : Miscellaneous
  pub whole : bytes ≡ one_miscellaneous_bytes one ++ rest
  pub lawful : MayPrecedeScans one
  pub may : MayCome late one
  pub last_is : last ≡ last_presets written (one ∷ [])

-- a marker that isn't of a miscellaneous segment, and that may come somewhere
abbrev pub Stops : Marker → Type 0
Stops StartOfImage = ⊥
Stops EndOfImage = Unit {0}
Stops StartOfScan = Unit {0}
Stops StartOfFrame = Unit {0}
Stops PresetParameters = ⊥
Stops (Application code) = ⊥
Stops Comment = ⊥
Stops (Other code) = ⊥

pub stop_is : (m : Marker) → Stops m → IsMarker m
stop_is StartOfImage stops = absurd stops
stop_is EndOfImage stops = record { back = refl; some = λ e. absurd (omega arith); other = λ e. absurd (omega arith) }
stop_is StartOfScan stops = record { back = refl; some = λ e. absurd (omega arith); other = λ e. absurd (omega arith) }
stop_is StartOfFrame stops = record { back = refl; some = λ e. absurd (omega arith); other = λ e. absurd (omega arith) }
stop_is PresetParameters stops = absurd stops
stop_is (Application code) stops = absurd stops
stop_is Comment stops = absurd stops
stop_is (Other code) stops = absurd stops

-- a marker is at the front, after fill bytes
pub record MarkerRead (written : Parameters) (bytes : List ℕ) (m : Marker) (last : Parameters) (rest : List ℕ) : Type 0 where
  pub fill : ℕ
  pub whole : bytes ≡ filled fill (marker m) ++ rest
  pub stops : Stops m
  pub last_is : last ≡ written

abbrev pub PartRead : Bool → Parameters → List ℕ → Option Marker → Parameters → List ℕ → Type 0
PartRead late written bytes None last rest = SegmentRead late written bytes last rest
PartRead late written bytes (Some m) last rest = MarkerRead written bytes m last rest

abbrev Read : Bool → Parameters → List ℕ → Found → Type 0
Read late written bytes found = PartRead late written bytes found.0 found.1 found.2

-- the bytes of a segment, in parts
pub segment_parts : (fill : ℕ) (m : Marker) (contents rest : List ℕ)
    → filled fill (segment m contents) ++ rest ≡ filled fill (marker m) ++ ((two_bytes (2 + length contents) ++ contents) ++ rest)
segment_parts fill m contents rest =
    let front = replicate fill 255 in
    append_assoc front (segment m contents) rest ∙ sym (append_assoc front (marker m) ((two_bytes (2 + length contents) ++ contents) ++ rest))

pub segment_whole : (bytes after contents rest : List ℕ) (fill : ℕ) (m : Marker) → bytes ≡ filled fill (marker m) ++ after → after ≡ (two_bytes (2 + length contents) ++ contents) ++ rest
    → bytes ≡ filled fill (segment m contents) ++ rest
segment_whole bytes after contents rest fill m first second = first ∙ ap (λ bs. filled fill (marker m) ++ bs) second ∙ sym (segment_parts fill m contents rest)

may_come : (late : Bool) (fill : ℕ) (m : Marker) (contents : List ℕ) → IsSkipped m contents → MayCome late (skipped fill m contents)
may_come true fill m contents is = is
may_come false fill m contents is = tt

skipped_read : (late : Bool) (written : Parameters) (bytes after : List ℕ) (fill : ℕ) (m : Marker) (found : Found) → AreBytes after → IsTrue (is_skipped m)
    → bytes ≡ filled fill (marker m) ++ after → skipped_at written after ≡ Ok found → Read late written bytes found
skipped_read late written bytes after fill m found are is whole e =
    let c = step_ok (contents_at after) (λ contents. Ok (None, written, contents.1)) found e in
    let read = contents_read after c.0 are c.1 in
    let made : Found = (None, written, c.0.1) in
    let lawful : IsSkipped m c.0.0 = record { marker_is = is; short = read.short } in
    let segment : SegmentRead late written bytes written c.0.1 = record {
      one = skipped fill m c.0.0;
      whole = segment_whole bytes after c.0.0 c.0.1 fill m whole read.whole;
      lawful = lawful;
      may = may_come late fill m c.0.0 lawful;
      last_is = refl;
    } in
    subst (Read late written bytes) (same_ok made found c.2) segment

presets_read : (late : Bool) (written : Parameters) (bytes after : List ℕ) (fill : ℕ) (found : Found) → AreBytes after → bytes ≡ filled fill (marker PresetParameters) ++ after
    → presets_at late after ≡ Ok found → Read late written bytes found
presets_read true written bytes after fill found are whole e = absurd cc
presets_read false written bytes after fill found are whole e =
    let c = step_ok (contents_at after) (λ contents. preset_fields_of contents.0 >>= λ last. Ok (None, last, contents.1)) found e in
    let read = contents_read after c.0 are c.1 in
    let d = step_ok (preset_fields_of c.0.0) (λ last. Ok (None, last, c.0.1)) found c.2 in
    let fields = fields_are c.0.0 d.0 read.contents_are d.1 in
    let made : Found = (None, d.0, c.0.1) in
    let segment : SegmentRead false written bytes d.0 c.0.1 = record {
      one = presets fill d.0;
      whole = segment_whole bytes after c.0.0 c.0.1 fill PresetParameters whole read.whole ∙ ap (λ bs. filled fill (segment PresetParameters bs) ++ c.0.1) fields.0;
      lawful = fields.1;
      may = tt;
      last_is = refl;
    } in
    subst (Read false written bytes) (same_ok made found d.2) segment

marker_stands : (late : Bool) (written : Parameters) (bytes rest : List ℕ) (fill : ℕ) (m : Marker) (found : Found) → Stops m → bytes ≡ filled fill (marker m) ++ rest
    → ◌≡◌ {A = Part} (Ok (Some m, written, rest)) (Ok found) → Read late written bytes found
marker_stands late written bytes rest fill m found stops whole e =
    let made : Found = (Some m, written, rest) in
    let stands : MarkerRead written bytes m written rest = record { fill = fill; whole = whole; stops = stops; last_is = refl } in
    subst (Read late written bytes) (same_ok made found e) stands

after_read : (late : Bool) (written : Parameters) (bytes rest : List ℕ) (fill : ℕ) (m : Marker) (found : Found) → AreBytes rest → IsLawful m
    → bytes ≡ filled fill (marker m) ++ rest → after_marker late written m rest ≡ Ok found → Read late written bytes found
unfolding after_marker
after_read late written bytes rest fill StartOfImage found are lawful whole e = absurd cc
after_read late written bytes rest fill EndOfImage found are lawful whole e = marker_stands late written bytes rest fill EndOfImage found tt whole e
after_read late written bytes rest fill StartOfScan found are lawful whole e = marker_stands late written bytes rest fill StartOfScan found tt whole e
after_read late written bytes rest fill StartOfFrame found are lawful whole e = marker_stands late written bytes rest fill StartOfFrame found tt whole e
after_read late written bytes rest fill PresetParameters found are lawful whole e = presets_read late written bytes rest fill found are whole e
after_read late written bytes rest fill (Application code) found are lawful whole e = skipped_read late written bytes rest fill (Application code) found are lawful whole e
after_read late written bytes rest fill Comment found are lawful whole e = skipped_read late written bytes rest fill Comment found are refl whole e
after_read late written bytes rest fill (Other code) found are lawful whole e = absurd cc

pub part_read : (late : Bool) (written : Parameters) (bytes : List ℕ) (found : Found) → AreBytes bytes → part_at late written bytes ≡ Ok found → Read late written bytes found
unfolding part_at
part_read late written bytes found are e =
    let next = step_ok (marker_at bytes) (λ n. after_marker late written n.0 n.1) found e in
    let read = marker_read bytes next.0 next.1 in
    after_read late written bytes next.0.1 read.0 next.0.0 found (bytes_along (filled read.0 (marker next.0.0)) next.0.1 are read.1) read.2 read.1 next.2

-- ---- fewer bytes are left

skipped_shorter : (written : Parameters) (bytes : List ℕ) (found : Found) → skipped_at written bytes ≡ Ok found → length found.2 ≤ length bytes
skipped_shorter written bytes found e =
    let c = step_ok (contents_at bytes) (λ contents. Ok (None, written, contents.1)) found e in
    let made : Found = (None, written, c.0.1) in
    subst (λ (f : Found). length f.2 ≤ length bytes) (same_ok made found c.2) (contents_shorter bytes c.0 c.1)

presets_shorter : (late : Bool) (bytes : List ℕ) (found : Found) → presets_at late bytes ≡ Ok found → length found.2 ≤ length bytes
presets_shorter true bytes found e = absurd cc
presets_shorter false bytes found e =
    let c = step_ok (contents_at bytes) (λ contents. preset_fields_of contents.0 >>= λ last. Ok (None, last, contents.1)) found e in
    let d = step_ok (preset_fields_of c.0.0) (λ last. Ok (None, last, c.0.1)) found c.2 in
    let made : Found = (None, d.0, c.0.1) in
    subst (λ (f : Found). length f.2 ≤ length bytes) (same_ok made found d.2) (contents_shorter bytes c.0 c.1)

marker_shorter : (written : Parameters) (bytes : List ℕ) (m : Marker) (found : Found) → ◌≡◌ {A = Part} (Ok (Some m, written, bytes)) (Ok found) → length found.2 ≤ length bytes
marker_shorter written bytes m found e =
    let made : Found = (Some m, written, bytes) in
    subst (λ (f : Found). length f.2 ≤ length bytes) (same_ok made found e) (omega arith)

after_shorter : (late : Bool) (written : Parameters) (m : Marker) (bytes : List ℕ) (found : Found) → after_marker late written m bytes ≡ Ok found → length found.2 ≤ length bytes
unfolding after_marker
after_shorter late written StartOfImage bytes found e = absurd cc
after_shorter late written EndOfImage bytes found e = marker_shorter written bytes EndOfImage found e
after_shorter late written StartOfScan bytes found e = marker_shorter written bytes StartOfScan found e
after_shorter late written StartOfFrame bytes found e = marker_shorter written bytes StartOfFrame found e
after_shorter late written PresetParameters bytes found e = presets_shorter late bytes found e
after_shorter late written (Application code) bytes found e = skipped_shorter written bytes found e
after_shorter late written Comment bytes found e = skipped_shorter written bytes found e
after_shorter late written (Other code) bytes found e = absurd cc

pub part_shorter : (late : Bool) (written : Parameters) (bytes : List ℕ) (found : Found) → part_at late written bytes ≡ Ok found → length found.2 < length bytes
unfolding part_at
part_shorter late written bytes found e =
    let next = step_ok (marker_at bytes) (λ n. after_marker late written n.0 n.1) found e in
    let read = marker_read bytes next.0 next.1 in
    let left = after_shorter late written next.0.0 next.0.1 found next.2 in
    omega (
      arith,
      left,
      ap length read.1,
      length-append (filled read.0 (marker next.0.0)) next.0.1,
      length-append (replicate read.0 255) (marker next.0.0),
    )

-- ---- one more segment

next_by : (o : Option Marker) (last : Parameters) (rest : List ℕ) (f g : Parameters → List ℕ → Ahead) → (o ≡ None → f last rest ≡ g last rest)
    → unless_marker f o last rest ≡ unless_marker g o last rest
next_by None last rest f g same = same refl
next_by (Some m) last rest f g same = refl

same_next : (r : Part) (f g : Parameters → List ℕ → Ahead) → ((last : Parameters) (rest : List ℕ) → r ≡ Ok (None, last, rest) → f last rest ≡ g last rest)
    → (r >>= λ part. unless_marker f part.0 part.1 part.2) ≡ (r >>= λ part. unless_marker g part.0 part.1 part.2)
same_next (Ok found) f g same = next_by found.0 found.1 found.2 f g (λ none. same found.1 found.2 (ap (λ (o : Option Marker). Ok (o, found.1, found.2)) none))
same_next (Err fault) f g same = refl

-- the number of bytes is enough
enough : (late : Bool) (a b : ℕ) (written : Parameters) (bytes : List ℕ) → length bytes ≤ a → length bytes ≤ b → ahead_within a late written bytes ≡ ahead_within b late written bytes
unfolding ahead_within part_at marker_at
enough late zero zero written bytes first second = refl
enough late zero (suc b) written [] first second = refl
enough late zero (suc b) written (byte ∷ bytes) first second = absurd (omega arith)
enough late (suc a) zero written [] first second = refl
enough late (suc a) zero written (byte ∷ bytes) first second = absurd (omega arith)
enough late (suc a) (suc b) written bytes first second =
    same_next (part_at late written bytes) (λ w rest. ahead_within a late w rest) (λ w rest. ahead_within b late w rest)
    (λ last rest e. let less = part_shorter late written bytes (None, last, rest) e in enough late a b last rest (omega arith) (omega arith))

pub ahead_at-part : (late : Bool) (written : Parameters) (bytes : List ℕ)
    → ahead_at late written bytes ≡ (part_at late written bytes >>= λ part. unless_marker (λ w rest. ahead_at late w rest) part.0 part.1 part.2)
unfolding ahead_at ahead_within part_at marker_at
ahead_at-part late written [] = refl
ahead_at-part late written (byte ∷ bytes) =
    same_next (part_at late written (byte ∷ bytes)) (λ w rest. ahead_within (length bytes) late w rest) (λ w rest. ahead_within (length rest) late w rest)
    (λ last rest e. let less = part_shorter late written (byte ∷ bytes) (None, last, rest) e in enough late (length bytes) (length rest) last rest (omega arith) (omega arith))

pub ahead_at-fault : (late : Bool) (written : Parameters) (bytes : List ℕ) (fault : StreamFault) → part_at late written bytes ≡ Err fault → ahead_at late written bytes ≡ Err fault
ahead_at-fault late written bytes fault e = rw (ahead_at-part late written bytes, e) refl

pub ahead_at-marker : (late : Bool) (written last : Parameters) (bytes rest : List ℕ) (m : Marker) → part_at late written bytes ≡ Ok (Some m, last, rest)
    → ahead_at late written bytes ≡ Ok (m, last, rest)
ahead_at-marker late written last bytes rest m e = rw (ahead_at-part late written bytes, e) refl

pub ahead_at-segment : (late : Bool) (written last : Parameters) (bytes rest : List ℕ) → part_at late written bytes ≡ Ok (None, last, rest)
    → ahead_at late written bytes ≡ ahead_at late last rest
ahead_at-segment late written last bytes rest e = rw (ahead_at-part late written bytes, e) refl

pub ruleset ahead_lemmas = (ahead_at-fault, ahead_at-marker, ahead_at-segment)

-- ---- all segments up to another marker

abbrev pub Stands : Type 0
Stands = Marker × Parameters × List ℕ

pub record AheadRead (late : Bool) (written : Parameters) (bytes : List ℕ) (found : Stands) : Type 0 where
  pub segments : List Miscellaneous
  pub fill : ℕ
  pub whole : bytes ≡ miscellaneous_bytes segments ++ (filled fill (marker found.0) ++ found.2)
  pub stops : Stops found.0
  pub lawful : AllByRecursion MayPrecedeScans segments
  pub may : AllByRecursion (MayCome late) segments
  pub last_is : found.1 ≡ last_presets written segments

-- the presets of a segment and then of others
pub presets_after : (written : Parameters) (s : Miscellaneous) (segments : List Miscellaneous) → last_presets (last_presets written (s ∷ [])) segments ≡ last_presets written (s ∷ segments)
presets_after written (skipped fill m contents) segments = refl
presets_after written (presets fill p) segments = refl

ahead_by : (late : Bool) (written : Parameters) (bytes : List ℕ) (o : Option Marker) (last : Parameters) (rest : List ℕ) (again : Parameters → List ℕ → Ahead) (found : Stands)
    → AreBytes bytes → PartRead late written bytes o last rest → unless_marker again o last rest ≡ Ok found
    → (AreBytes rest → again last rest ≡ Ok found → AheadRead late last rest found) → AheadRead late written bytes found
ahead_by late written bytes (Some m) last rest again found are part e others =
    let made : Stands = (m, last, rest) in
    let stands : AheadRead late written bytes made = record {
      segments = [];
      fill = part.fill;
      whole = part.whole;
      stops = part.stops;
      lawful = tt;
      may = tt;
      last_is = part.last_is;
    } in
    subst (AheadRead late written bytes) (same_ok made found e) stands
ahead_by late written bytes None last rest again found are part e others =
    let more = others (bytes_along (one_miscellaneous_bytes part.one) rest are part.whole) e in
    record {
      segments = part.one ∷ more.segments;
      fill = more.fill;
      whole = part.whole ∙ ap (λ bs. one_miscellaneous_bytes part.one ++ bs) more.whole
          ∙ sym (append_assoc (one_miscellaneous_bytes part.one) (miscellaneous_bytes more.segments) (filled more.fill (marker found.0) ++ found.2));
      stops = more.stops;
      lawful = (part.lawful, more.lawful);
      may = (part.may, more.may);
      last_is = more.last_is ∙ ap (λ p. last_presets p more.segments) part.last_is ∙ presets_after written part.one more.segments;
    }

within_read : (most : ℕ) (late : Bool) (written : Parameters) (bytes : List ℕ) (found : Stands) → AreBytes bytes → ahead_within most late written bytes ≡ Ok found → AheadRead late written bytes found
unfolding ahead_within
within_read zero late written bytes found are e = absurd cc
within_read (suc most) late written bytes found are e =
    let again : Parameters → List ℕ → Ahead = λ w rest. ahead_within most late w rest in
    let p = step_ok (part_at late written bytes) (λ part. unless_marker again part.0 part.1 part.2) found e in
    ahead_by late written bytes p.0.0 p.0.1 p.0.2 again found are (part_read late written bytes p.0 are p.1) p.2
    (λ rest_are f. within_read most late p.0.1 p.0.2 found rest_are f)

pub ahead_read : (late : Bool) (written : Parameters) (bytes : List ℕ) (found : Stands) → AreBytes bytes → ahead_at late written bytes ≡ Ok found → AheadRead late written bytes found
unfolding ahead_at
ahead_read late written bytes found are e = within_read (length bytes) late written bytes found are e

-- ---- what is so by the grammar is read

-- a skipped marker has a code of its own, as has that of preset parameters, and what follows it is skipped
skipped_is : (m : Marker) → IsTrue (is_skipped m) → IsMarker m
skipped_is StartOfImage is = absurd (false≢true is)
skipped_is EndOfImage is = absurd (false≢true is)
skipped_is StartOfScan is = absurd (false≢true is)
skipped_is StartOfFrame is = absurd (false≢true is)
skipped_is PresetParameters is = absurd (false≢true is)
skipped_is (Application code) is =
    let known = application_is code is in record { back = known.0; some = λ e. absurd (omega (arith, known.1)); other = λ e. absurd (omega (arith, known.2)) }
skipped_is Comment is = record { back = refl; some = λ e. absurd (omega arith); other = λ e. absurd (omega arith) }
skipped_is (Other code) is = absurd (false≢true is)

presets_is : IsMarker PresetParameters
presets_is = record { back = refl; some = λ e. absurd (omega arith); other = λ e. absurd (omega arith) }

after_skipped : (late : Bool) (written : Parameters) (m : Marker) (bytes : List ℕ) → IsTrue (is_skipped m) → after_marker late written m bytes ≡ skipped_at written bytes
unfolding after_marker
after_skipped late written StartOfImage bytes is = absurd (false≢true is)
after_skipped late written EndOfImage bytes is = absurd (false≢true is)
after_skipped late written StartOfScan bytes is = absurd (false≢true is)
after_skipped late written StartOfFrame bytes is = absurd (false≢true is)
after_skipped late written PresetParameters bytes is = absurd (false≢true is)
after_skipped late written (Application code) bytes is = refl
after_skipped late written Comment bytes is = refl
after_skipped late written (Other code) bytes is = absurd (false≢true is)

-- a marker and what follows it
pub part_after : (late : Bool) (written : Parameters) (fill : ℕ) (m : Marker) (rest : List ℕ) → IsMarker m
    → part_at late written (filled fill (marker m) ++ rest) ≡ after_marker late written m rest
unfolding part_at
part_after late written fill m rest is = step_is (marker_at (filled fill (marker m) ++ rest)) (λ n. after_marker late written n.0 n.1) (m, rest) (marker_again fill m rest is)

presets_short : (p : Parameters) → 2 + length (presets_contents p) < 2 ^ 16
unfolding presets_contents
presets_short p = omega arith

pub part_again : (late : Bool) (written : Parameters) (s : Miscellaneous) (rest : List ℕ) → MayPrecedeScans s → MayCome late s
    → part_at late written (one_miscellaneous_bytes s ++ rest) ≡ Ok (None, last_presets written (s ∷ []), rest)
unfolding after_marker
part_again late written (skipped fill m contents) rest lawful may =
    let after : List ℕ = (two_bytes (2 + length contents) ++ contents) ++ rest in
    ap (part_at late written) (segment_parts fill m contents rest) ∙ part_after late written fill m after (skipped_is m lawful.marker_is)
    ∙ after_skipped late written m after lawful.marker_is
    ∙ step_is (contents_at after) (λ c. Ok (None, written, c.1)) (contents, rest) (contents_again contents rest lawful.short)
part_again true written (presets fill p) rest lawful may = absurd may
part_again false written (presets fill p) rest lawful may =
    let contents = presets_contents p in
    let after : List ℕ = (two_bytes (2 + length contents) ++ contents) ++ rest in
    ap (part_at false written) (segment_parts fill PresetParameters contents rest)
    ∙ part_after false written fill PresetParameters after presets_is
    ∙ step_is (contents_at after) (λ c. preset_fields_of c.0 >>= λ last. Ok (None, last, c.1)) (contents, rest) (contents_again contents rest (presets_short p))
    ∙ step_is (preset_fields_of contents) (λ last. Ok (None, last, rest)) p (fields_again p)

-- a marker that isn't of a miscellaneous segment
pub record IsAhead (m : Marker) : Type 0 where
  pub is : IsMarker m
  pub after : (late : Bool) (written : Parameters) (rest : List ℕ) → after_marker late written m rest ≡ Ok (Some m, written, rest)

pub ahead_frame : IsAhead StartOfFrame
unfolding after_marker
ahead_frame = record { is = stop_is StartOfFrame tt; after = λ late written rest. refl }

pub ahead_scan : IsAhead StartOfScan
unfolding after_marker
ahead_scan = record { is = stop_is StartOfScan tt; after = λ late written rest. refl }

pub ahead_end : IsAhead EndOfImage
unfolding after_marker
ahead_end = record { is = stop_is EndOfImage tt; after = λ late written rest. refl }

pub ahead_again : (late : Bool) (written : Parameters) (segments : List Miscellaneous) (fill : ℕ) (m : Marker) (rest : List ℕ) → AllByRecursion MayPrecedeScans segments
    → AllByRecursion (MayCome late) segments → IsAhead m
    → ahead_at late written (miscellaneous_bytes segments ++ (filled fill (marker m) ++ rest)) ≡ Ok (m, last_presets written segments, rest)
ahead_again late written [] fill m rest lawful may is =
    ahead_at-marker late written written (filled fill (marker m) ++ rest) rest m (part_after late written fill m rest is.is ∙ is.after late written rest)
ahead_again late written (s ∷ segments) fill m rest lawful may is =
    let last = last_presets written (s ∷ []) in
    let others : List ℕ = miscellaneous_bytes segments ++ (filled fill (marker m) ++ rest) in
    ap (ahead_at late written) (append_assoc (one_miscellaneous_bytes s) (miscellaneous_bytes segments) (filled fill (marker m) ++ rest))
    ∙ ahead_at-segment late written last (one_miscellaneous_bytes s ++ others) others (part_again late written s others lawful.0 may.0)
    ∙ ahead_again late last segments fill m rest lawful.1 may.1 is
    ∙ ap (λ p. Ok (m, p, rest)) (presets_after written s segments)
