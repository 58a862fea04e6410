-- The data of the scans of a codestream, as they are found part by part.
use Rattle.std.proofs.Common.{◌≡◌, ℕ, zero, suc, ◌+◌, ◌^◌, ◌<◌, ◌≤◌, Bool, true, false, eqb, List, [], ◌∷◌, ◌++◌, length, map, take, drop, get_or, replicate, Ok, Err, refl, sym, ap, subst, ◌∙◌, arith, append_assoc}
use lib.Pointwise.{pointwise}
use Rattle.std.specs.Prelude.{IsTrue, ◌==◌, not}
use Rattle.std.specs.List.{AllByRecursion}
use Rattle.std.proofs.lemmas.Bool.{false≢true, and_from, and_parts, le-leb, eq-eqb, eqb-true}
use Rattle.ls_bits.specs.Bits.{two_bytes}
use Rattle.ls_bits.specs.Data.{IsData, starts_marker}
use Rattle.ls_frame.specs.Parameters.{Parameters}
use Rattle.ls_stream.specs.declared.marker.Marker.{Marker}
use Rattle.ls_stream.specs.declared.marker.Marker.TheVariants.{StartOfImage, EndOfImage, StartOfScan, StartOfFrame, PresetParameters, Application, Comment, Other}
use Rattle.ls_stream.specs.declared.faults.StreamFault.{StreamFault}
use Rattle.ls_stream.specs.Markers.{code_of, IsMarker, marker}
use Rattle.ls_stream.specs.Segments.{segment, Component, header_contents, presets_contents, scan_contents}
use Rattle.ls_stream.specs.Grammar.{filled, Miscellaneous, skipped, presets, one_miscellaneous_bytes, miscellaneous_bytes, Scan, scan_bytes, scans_bytes, Codestream, codestream_bytes, is_skipped, MayPrecedeScans, MayFollowScan}
use Rattle.ls_stream.specs.View.Reading.{◌>>=◌, marker_at, contents_at}
use Rattle.ls_stream.specs.View.Outlines.{data_at, after_data}
use Rattle.ls_stream.proofs.StepLemmas.{step_is, same_ok}
use Rattle.ls_stream.proofs.BreakLemmas.{no_err}
use Rattle.ls_stream.proofs.MarkerLemmas.{application_is, marker_again}
use Rattle.ls_stream.proofs.SegmentLemmas.{contents_again}
use Rattle.ls_stream.proofs.AheadLemmas.{segment_parts}
use Rattle.ls_stream.proofs.FrontLemmas.{data_at-front, after_data-front}
use Rattle.ls_stream.proofs.OutlineLemmas.{precedes_one, scan_short}
use Rattle.ls_inspect.specs.declared.markers.Part.{Part}
use Rattle.ls_inspect.specs.declared.markers.Part.TheVariants as part
use Rattle.ls_inspect.specs.Parts.{part_of, part_by, part_at}
use Rattle.ls_inspect.specs.Scans.{IsAfterHeader, at_front, past_segment, HaveData}

-- ---- there is one next scan

same_part : (bytes : List ℕ) (one other : Part × List ℕ) → part_at bytes ≡ Ok one → part_at bytes ≡ Ok other → one ≡ other
same_part bytes one other e e' = same_ok one other (sym e ∙ e')

same_kind : (bytes : List ℕ) (a b : Part) (x y : List ℕ) → part_at bytes ≡ Ok (a, x) → part_at bytes ≡ Ok (b, y) → a ≡ b
same_kind bytes a b x y e e' = ap (λ (found : Part × List ℕ). found.0) (same_part bytes (a, x) (b, y) e e')

same_left : (bytes : List ℕ) (a b : Part) (x y : List ℕ) → part_at bytes ≡ Ok (a, x) → part_at bytes ≡ Ok (b, y) → x ≡ y
same_left bytes a b x y e e' = ap (λ (found : Part × List ℕ). found.1) (same_part bytes (a, x) (b, y) e e')

segment_scan : part.Segment ≡ part.Scan → ⊥
segment_scan e = cc

segment_end : part.Segment ≡ part.End → ⊥
segment_end e = cc

scan_end : part.Scan ≡ part.End → ⊥
scan_end e = cc

pub reaches_past : (rest left bytes : List ℕ) → part_at bytes ≡ Ok (part.Segment, left) → IsAfterHeader rest bytes → IsAfterHeader rest left
reaches_past rest left bytes e (at_front _ scan) = absurd (segment_scan (same_kind bytes part.Segment part.Scan left rest e scan))
reaches_past rest left bytes e (past_segment _ more passed reaches) = subst (IsAfterHeader rest) (same_left bytes part.Segment part.Segment more left passed e) reaches

pub reaches_here : (rest left bytes : List ℕ) → part_at bytes ≡ Ok (part.Scan, left) → IsAfterHeader rest bytes → left ≡ rest
reaches_here rest left bytes e (at_front _ scan) = same_left bytes part.Scan part.Scan left rest e scan
reaches_here rest left bytes e (past_segment _ more passed reaches) = absurd (segment_scan (same_kind bytes part.Segment part.Scan more left passed e))

pub reaches_no_end : (rest left bytes : List ℕ) → part_at bytes ≡ Ok (part.End, left) → IsAfterHeader rest bytes → ⊥
reaches_no_end rest left bytes e (at_front _ scan) = scan_end (same_kind bytes part.Scan part.End rest left scan e)
reaches_no_end rest left bytes e (past_segment _ more passed reaches) = segment_end (same_kind bytes part.Segment part.End more left passed e)

pub reaches_no_fault : (rest bytes : List ℕ) (fault : StreamFault) → part_at bytes ≡ Err fault → IsAfterHeader rest bytes → ⊥
reaches_no_fault rest bytes fault e (at_front _ scan) = no_err (part.Scan, rest) fault (sym scan ∙ e)
reaches_no_fault rest bytes fault e (past_segment _ more passed reaches) = no_err (part.Segment, more) fault (sym passed ∙ e)

pub ruleset header_lemmas = (reaches_past, reaches_here, reaches_no_end, reaches_no_fault)

same_scan : (one other bytes : List ℕ) → IsAfterHeader one bytes → IsAfterHeader other bytes → one ≡ other
same_scan one other bytes (at_front _ scan) reaches = reaches_here other one bytes scan reaches
same_scan one other bytes (past_segment _ more passed first) reaches = same_scan one other more first (reaches_past other more bytes passed reaches)

-- so many scans have one list of data
pub same_data : (bytes : List ℕ) (one other : List (List ℕ)) → length one ≡ length other → HaveData bytes one → HaveData bytes other → one ≡ other
same_data bytes [] [] count have have' = refl
same_data bytes [] (stuffed ∷ other) count have have' = absurd (omega arith)
same_data bytes (stuffed ∷ one) [] count have have' = absurd (omega arith)
same_data bytes (stuffed ∷ one) (stuffed' ∷ other) count have have' =
    let rest : have.0 ≡ have'.0 = same_scan have.0 have'.0 bytes have.1 have'.1 in
    let first : stuffed ≡ stuffed' = have.2 ∙ ap data_at rest ∙ sym have'.2 in
    let more : one ≡ other =
    same_data (after_data have'.0) one other (omega arith) (subst (λ bs. HaveData (after_data bs) one) rest have.3) have'.3 in
    ap (λ d. d ∷ one) first ∙ ap (λ ds. stuffed' ∷ ds) more

-- ---- parts by the grammar

part_is : (found : Part) (fill : ℕ) (m : Marker) (contents rest : List ℕ) → IsMarker m → 2 + length contents < 2 ^ 16
    → ((bytes : List ℕ) → part_by (part_of m) (code_of m) bytes ≡ (contents_at bytes >>= λ c. Ok (found, c.1))) → part_at (filled fill (segment m contents) ++ rest) ≡ Ok (found, rest)
unfolding part_at
part_is found fill m contents rest is short by =
    let after : List ℕ = (two_bytes (2 + length contents) ++ contents) ++ rest in
    ap part_at (segment_parts fill m contents rest)
    ∙ step_is (marker_at (filled fill (marker m) ++ after)) (λ next. part_by (part_of next.0) (code_of next.0) next.1) (m, after) (marker_again fill m after is)
    ∙ by after
    ∙ step_is (contents_at after) (λ c. Ok (found, c.1)) (contents, rest) (contents_again contents rest short)

-- a supported segment that has no data after it
record IsPlain (m : Marker) : Type 0 where
  is : IsMarker m
  by : (bytes : List ℕ) → part_by (part_of m) (code_of m) bytes ≡ (contents_at bytes >>= λ c. Ok (part.Segment, c.1))

plain_skipped : (m : Marker) → IsTrue (is_skipped m) → IsPlain m
plain_skipped StartOfImage is = absurd (false≢true is)
plain_skipped EndOfImage is = absurd (false≢true is)
plain_skipped StartOfScan is = absurd (false≢true is)
plain_skipped StartOfFrame is = absurd (false≢true is)
plain_skipped PresetParameters is = absurd (false≢true is)
plain_skipped (Application code) is =
    let known = application_is code is in
    record { is = record { back = known.0; some = λ e. absurd (omega (arith, known.1)); other = λ e. absurd (omega (arith, known.2)) }; by = λ bytes. refl }
plain_skipped Comment is = record { is = record { back = refl; some = λ e. absurd (omega arith); other = λ e. absurd (omega arith) }; by = λ bytes. refl }
plain_skipped (Other code) is = absurd (false≢true is)

plain_presets : IsPlain PresetParameters
plain_presets = record { is = record { back = refl; some = λ e. absurd (omega arith); other = λ e. absurd (omega arith) }; by = λ bytes. refl }

plain_frame : IsPlain StartOfFrame
plain_frame = record { is = record { back = refl; some = λ e. absurd (omega arith); other = λ e. absurd (omega arith) }; by = λ bytes. refl }

segment_is : (fill : ℕ) (m : Marker) (contents rest : List ℕ) → IsPlain m → 2 + length contents < 2 ^ 16 → part_at (filled fill (segment m contents) ++ rest) ≡ Ok (part.Segment, rest)
segment_is fill m contents rest plain short = part_is part.Segment fill m contents rest plain.is short plain.by

scan_marker : IsMarker StartOfScan
scan_marker = record { back = refl; some = λ e. absurd (omega arith); other = λ e. absurd (omega arith) }

scan_is : (fill id : ℕ) (rest : List ℕ) → part_at (filled fill (segment StartOfScan (scan_contents id)) ++ rest) ≡ Ok (part.Scan, rest)
scan_is fill id rest = part_is part.Scan fill StartOfScan (scan_contents id) rest scan_marker (scan_short id) (λ bytes. refl)

presets_short : (p : Parameters) → 2 + length (presets_contents p) < 2 ^ 16
unfolding presets_contents
presets_short p = omega arith

miscellaneous_is : (s : Miscellaneous) (rest : List ℕ) → MayPrecedeScans s → part_at (one_miscellaneous_bytes s ++ rest) ≡ Ok (part.Segment, rest)
miscellaneous_is (skipped fill m contents) rest may = segment_is fill m contents rest (plain_skipped m may.marker_is) may.short
miscellaneous_is (presets fill p) rest may = segment_is fill PresetParameters (presets_contents p) rest plain_presets (presets_short p)

-- ---- segments before scans

-- what the scans of some bytes have, those of others have
have_too : (bytes more : List ℕ) (scans : List (List ℕ)) → ((rest : List ℕ) → IsAfterHeader rest bytes → IsAfterHeader rest more) → HaveData bytes scans → HaveData more scans
have_too bytes more [] reach have = tt
have_too bytes more (stuffed ∷ scans) reach have = (have.0, reach have.0 have.1, have.2, have.3)

after_segment : (fill : ℕ) (m : Marker) (contents bytes : List ℕ) (scans : List (List ℕ)) → IsPlain m → 2 + length contents < 2 ^ 16 → HaveData bytes scans
    → HaveData (filled fill (segment m contents) ++ bytes) scans
after_segment fill m contents bytes scans plain short have =
    have_too bytes (filled fill (segment m contents) ++ bytes) scans (λ rest reaches. past_segment (filled fill (segment m contents) ++ bytes) bytes (segment_is fill m contents bytes plain short) reaches) have

after_miscellaneous : (segments : List Miscellaneous) (bytes : List ℕ) (scans : List (List ℕ)) → AllByRecursion MayPrecedeScans segments → HaveData bytes scans
    → HaveData (miscellaneous_bytes segments ++ bytes) scans
after_miscellaneous [] bytes scans may have = have
after_miscellaneous (s ∷ segments) bytes scans may have =
    let others : List ℕ = miscellaneous_bytes segments ++ bytes in
    subst (λ bs. HaveData bs scans) (sym (append_assoc (one_miscellaneous_bytes s) (miscellaneous_bytes segments) bytes))
    (have_too others (one_miscellaneous_bytes s ++ others) scans (λ rest reaches. past_segment (one_miscellaneous_bytes s ++ others) others (miscellaneous_is s others may.0) reaches)
    (after_miscellaneous segments bytes scans may.1 have))

precedes : (segments : List Miscellaneous) → AllByRecursion MayFollowScan segments → AllByRecursion MayPrecedeScans segments
precedes [] may = tt
precedes (s ∷ segments) may = (precedes_one s may.0, precedes segments may.1)

-- ---- where a marker starts

starts_after : (fill code : ℕ) (more : List ℕ) → 128 ≤ code → starts_marker (replicate fill 255 ++ 255 ∷ code ∷ more) ≡ true
starts_after zero code more high = and_from _ _ refl (le-leb 128 code high)
starts_after (suc zero) code more high = refl
starts_after (suc (suc fill)) code more high = refl

marker_starts : (fill : ℕ) (m : Marker) (rest : List ℕ) → 128 ≤ code_of m → starts_marker (filled fill (marker m) ++ rest) ≡ true
marker_starts fill m rest high = ap starts_marker (append_assoc (replicate fill 255) (marker m) rest) ∙ starts_after fill (code_of m) rest high

segment_starts : (fill : ℕ) (m : Marker) (contents rest : List ℕ) → 128 ≤ code_of m → starts_marker (filled fill (segment m contents) ++ rest) ≡ true
segment_starts fill m contents rest high = ap starts_marker (segment_parts fill m contents rest) ∙ marker_starts fill m _ high

high_code : (m : Marker) → IsTrue (is_skipped m) → 128 ≤ code_of m
high_code StartOfImage is = absurd (false≢true is)
high_code EndOfImage is = absurd (false≢true is)
high_code StartOfScan is = absurd (false≢true is)
high_code StartOfFrame is = absurd (false≢true is)
high_code PresetParameters is = absurd (false≢true is)
high_code (Application code) is = let known = application_is code is in omega (arith, known.1)
high_code Comment is = omega arith
high_code (Other code) is = absurd (false≢true is)

segments_start : (segments : List Miscellaneous) (bytes : List ℕ) → AllByRecursion MayFollowScan segments → starts_marker bytes ≡ true → starts_marker (miscellaneous_bytes segments ++ bytes) ≡ true
segments_start [] bytes may starts = starts
segments_start (skipped fill m contents ∷ segments) bytes may starts =
    ap starts_marker (append_assoc (filled fill (segment m contents)) (miscellaneous_bytes segments) bytes) ∙ segment_starts fill m contents _ (high_code m may.0.marker_is)
segments_start (presets fill p ∷ segments) bytes may starts = absurd may.0

-- ---- scans

abbrev pub data_in : List Scan → List (List ℕ)
data_in scans = map (λ (scan : Scan). scan.stuffed) scans

-- what follows the data of these scans is such that it ends them
abbrev pub AreEnded : List Scan → Type 0
AreEnded scans = AllByRecursion (λ (scan : Scan). IsData scan.stuffed × AllByRecursion MayFollowScan scan.after) scans

three_join : (a b c rest : List ℕ) → (a ++ b ++ c) ++ rest ≡ a ++ (b ++ (c ++ rest))
three_join a b c rest = simp append_assoc

abbrev pub header_of : Component → Scan → List ℕ
header_of component scan = filled scan.fill (segment StartOfScan (scan_contents component.id))

pub scan_join : (component : Component) (later : List Component) (scan : Scan) (scans : List Scan) (end : List ℕ)
    → scans_bytes (component ∷ later) (scan ∷ scans) ++ end ≡ header_of component scan ++ (scan.stuffed ++ (miscellaneous_bytes scan.after ++ (scans_bytes later scans ++ end)))
scan_join component later scan scans end =
    append_assoc (scan_bytes component scan) (scans_bytes later scans) end ∙ three_join (header_of component scan) scan.stuffed (miscellaneous_bytes scan.after) (scans_bytes later scans ++ end)

scans_start : (cs : List Component) (scans : List Scan) (end : List ℕ) → starts_marker end ≡ true → starts_marker (scans_bytes cs scans ++ end) ≡ true
scans_start [] scans end starts = starts
scans_start (component ∷ later) [] end starts = starts
scans_start (component ∷ later) (scan ∷ scans) end starts =
    ap starts_marker (scan_join component later scan scans end) ∙ segment_starts scan.fill StartOfScan (scan_contents component.id) _ (omega arith)

scans_have : (cs : List Component) (scans : List Scan) (end : List ℕ) → length cs ≡ length scans → AreEnded scans → starts_marker end ≡ true
    → HaveData (scans_bytes cs scans ++ end) (data_in scans)
scans_have [] [] end count ended starts = tt
scans_have [] (scan ∷ scans) end count ended starts = absurd (omega arith)
scans_have (component ∷ later) [] end count ended starts = tt
scans_have (component ∷ later) (scan ∷ scans) end count ended starts =
    let others : List ℕ = scans_bytes later scans ++ end in
    let after : List ℕ = miscellaneous_bytes scan.after ++ others in
    let rest : List ℕ = scan.stuffed ++ after in
    let follows : starts_marker after ≡ true = segments_start scan.after others ended.0.1 (scans_start later scans end starts) in
    let more : HaveData after (data_in scans) =
    after_miscellaneous scan.after others (data_in scans) (precedes scan.after ended.0.1) (scans_have later scans end (omega arith) ended.1 starts) in
    subst (λ bs. HaveData bs (data_in (scan ∷ scans))) (sym (scan_join component later scan scans end)) (
      rest,
      at_front (header_of component scan ++ rest) (scan_is scan.fill component.id rest),
      sym (data_at-front scan.stuffed after ended.0.0 follows),
      subst (λ bs. HaveData bs (data_in scans)) (sym (after_data-front scan.stuffed after ended.0.0 follows)) more,
    )

-- ---- a codestream

join_parts : (b c d e f : List ℕ) → b ++ (c ++ (d ++ (e ++ f))) ≡ b ++ c ++ d ++ e ++ f
join_parts b c d e f = simp append_assoc

-- after SOI the scans have their data
pub stream_has : (stream : Codestream) → AllByRecursion MayPrecedeScans stream.before → AllByRecursion MayPrecedeScans stream.between
    → 2 + length (header_contents stream.header) < 2 ^ 16 → length stream.header.components ≡ length stream.scans → AreEnded stream.scans
    → HaveData (drop 2 (codestream_bytes stream)) (data_in stream.scans)
unfolding codestream_bytes
stream_has stream before between short count ended =
    let end : List ℕ = filled stream.last_fill (marker EndOfImage) in
    let scans : List ℕ = scans_bytes stream.header.components stream.scans ++ end in
    let last : List ℕ = miscellaneous_bytes stream.between ++ scans in
    let frame : List ℕ = filled stream.fill (segment StartOfFrame (header_contents stream.header)) ++ last in
    let all = data_in stream.scans in
    let starts : starts_marker end ≡ true = starts_after stream.last_fill 217 [] (omega arith) in
    let have : HaveData scans all = scans_have stream.header.components stream.scans end count ended starts in
    let in_last : HaveData last all = after_miscellaneous stream.between scans all between have in
    let in_frame : HaveData frame all = after_segment stream.fill StartOfFrame (header_contents stream.header) last all plain_frame short in_last in
    subst (λ bs. HaveData bs all)
    (join_parts (miscellaneous_bytes stream.before) (filled stream.fill (segment StartOfFrame (header_contents stream.header))) (miscellaneous_bytes stream.between)
    (scans_bytes stream.header.components stream.scans) end)
    (after_miscellaneous stream.before frame all before in_frame)

-- ---- the data of one scan of several

drop_split : (place : ℕ) (scans : List (List ℕ)) → place < length scans → drop place scans ≡ get_or scans place [] ∷ drop (place + 1) scans
drop_split place [] some = absurd (omega arith)
drop_split zero (stuffed ∷ scans) some = refl
drop_split (suc place) (stuffed ∷ scans) some =
    let next : suc (place + 1) ≡ suc place + 1 = omega arith in
    drop_split place scans (omega arith) ∙ ap (λ n. get_or scans place [] ∷ drop n (stuffed ∷ scans)) next

pub take_split : (place : ℕ) (scans : List (List ℕ)) → place < length scans → take (place + 1) scans ≡ take place scans ++ get_or scans place [] ∷ []
take_split place [] some = absurd (omega arith)
take_split zero (stuffed ∷ scans) some = refl
take_split (suc place) (stuffed ∷ scans) some =
    let next : suc place + 1 ≡ suc (place + 1) = omega arith in
    ap (λ n. take n (stuffed ∷ scans)) next ∙ ap (λ ss. stuffed ∷ ss) (take_split place scans (omega arith))

pub data_there : (bytes : List ℕ) (place : ℕ) (scans : List (List ℕ)) → place < length scans → HaveData bytes (drop place scans)
    → (rest : List ℕ) × IsAfterHeader rest bytes × (get_or scans place [] ≡ data_at rest) × HaveData (after_data rest) (drop (place + 1) scans)
data_there bytes place scans some have = subst (HaveData bytes) (drop_split place scans some) have

-- ---- bytes that are compared

alike : (bytes : List ℕ) → pointwise ◌==◌ bytes bytes ≡ true
alike [] = refl
alike (byte ∷ bytes) = and_from (eqb byte byte) (pointwise ◌==◌ bytes bytes) (eq-eqb byte byte refl) (alike bytes)

same_by : (one other : List ℕ) → pointwise ◌==◌ one other ≡ true → one ≡ other
same_by [] [] e = refl
same_by [] (byte ∷ other) e = absurd cc
same_by (byte ∷ one) [] e = absurd cc
same_by (byte ∷ one) (byte' ∷ other) e =
    let parts = and_parts (eqb byte byte') (pointwise ◌==◌ one other) e in
    ap (λ b. b ∷ one) (eqb-true byte byte' parts.0) ∙ ap (λ bs. byte' ∷ bs) (same_by one other parts.1)

not_true : (b : Bool) → not b ≡ true → b ≡ false
not_true true e = absurd cc
not_true false e = refl

not_false : (b : Bool) → not b ≡ false → b ≡ true
not_false true e = refl
not_false false e = absurd cc

pub others : (one other : List ℕ) → not (pointwise ◌==◌ one other) ≡ true → one ≡ other → ⊥
others one other differs same =
    false≢true (sym (not_true (pointwise ◌==◌ one other) differs) ∙ ap (λ bs. pointwise ◌==◌ bs other) same ∙ alike other)

pub no_others : (one other : List ℕ) → not (pointwise ◌==◌ one other) ≡ false → one ≡ other
no_others one other same = same_by one other (not_false (pointwise ◌==◌ one other) same)
