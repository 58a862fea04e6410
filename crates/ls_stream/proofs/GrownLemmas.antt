-- What is read of bytes is read of more bytes too, unless a byte is needed after their end.
use Rattle.std.proofs.Common.{◌≡◌, ◌⊎◌, ℕ, zero, suc, ◌+◌, ◌-◌, ◌*◌, ◌≤◌, Bool, true, false, cond, leb, ltb, eqb, List, [], ◌∷◌, ◌++◌, length, take, drop, inl, inr, Option, None, Some, Result, Ok, Err, refl, sym, ap, subst, ◌∙◌, arith, length-append}
use Rattle.std.specs.Prelude.{slice_index}
use Rattle.std.proofs.lemmas.Bool.{cases_Bool, le-leb, leb-true}
use Rattle.std.proofs.lemmas.List.{take-append-le, drop-append-le}
use Rattle.ls_frame.specs.Parameters.{Parameters}
use Rattle.ls_stream.specs.declared.faults.StreamFault.{StreamFault}
use Rattle.ls_stream.specs.declared.faults.StreamFault.TheVariants.{Truncated, NotSoi, BadSegment}
use Rattle.ls_stream.specs.declared.marker.Marker.{Marker}
use Rattle.ls_stream.specs.declared.marker.Marker.TheVariants.{StartOfImage, EndOfImage, StartOfScan, StartOfFrame, PresetParameters, Application, Comment, Other}
use Rattle.ls_stream.specs.declared.segments.read.FrameHeader.{FrameHeader}
use Rattle.ls_stream.specs.Markers.{marker_of}
use Rattle.ls_stream.specs.Segments.{field_of}
use Rattle.ls_stream.specs.Grammar.{no_presets, parameters_of}
use Rattle.ls_stream.specs.View.Reading.{◌>>=◌, wanted, Take, start_at, code_at, marker_at, contents_at, frame_header_of, scan_header_of, preset_fields_of, skipped_at, presets_at, after_marker, part_at, Ahead, unless_marker, ahead_at, is_start_of_frame, is_start_of_scan, is_end_of_image, frame_header_at, scan_header_at, next_scan_at, end_at, or_bad_presets, opening_at}
use Rattle.ls_stream.specs.View.Outlines.{data_length, data_at, after_data, Outline, ids_in, scans_at, outline_at}
use Rattle.ls_stream.specs.View.Extents.{Left, after_segment, after_any, segments_at, extent_at}
use Rattle.ls_stream.proofs.StepLemmas.{same_fault}
use Rattle.ls_stream.proofs.BreakLemmas.{no_err}
use Rattle.ls_stream.proofs.AheadLemmas.{Found, Stands, part_shorter, ahead_at-part, ahead_at-fault}
use Rattle.ls_stream.proofs.PlaceLemmas.{segments_at-next, marker_shorter, data_shorter}
use Rattle.ls_stream.proofs.SegmentLemmas.{contents_shorter}
use Rattle.ls_stream.proofs.FrontLemmas.{length-none, length-last, length-pair, length-marker, length-other, data_length-is}

-- ---- steps

-- a value, changed
abbrev pub changed : {X : Type 0} → (X → X) → Result X StreamFault → Result X StreamFault
changed add (Ok x) = Ok (add x)
changed add (Err fault) = Err fault

-- what is read of more bytes is what is read of these, with more left; unless these are too few
abbrev pub IsGrown : {X : Type 0} → (X → X) → Result X StreamFault → Result X StreamFault → Type 0
IsGrown add few all = (few ≡ Err Truncated) ⊎ (all ≡ changed add few)

abbrev failed : {X : Type 0} → StreamFault → Result X StreamFault
failed fault = Err fault

err_ok : {X : Type 0} (x : X) → ◌≡◌ {A = Result X StreamFault} (Ok x) (Err Truncated) → ⊥
err_ok x e = no_err x Truncated e

pub step_grown : {X Y : Type 0} (add : X → X) (then : Y → Y) (few all : Result X StreamFault) (f g : X → Result Y StreamFault) → IsGrown add few all
    → ((x : X) → few ≡ Ok x → IsGrown then (f x) (g (add x))) → IsGrown then (few >>= f) (all >>= g)
step_grown add then (Ok x) all f g (inl e) next = absurd (err_ok x e)
step_grown add then (Ok x) all f g (inr e) next = subst (λ r. IsGrown then (f x) (r >>= g)) (sym e) (next x refl)
step_grown {X} {Y} add then (Err fault) all f g (inl e) next = inl (ap (λ d. failed {X = Y} d) (same_fault {A = X} fault Truncated e))
step_grown add then (Err fault) all f g (inr e) next = inr (ap (λ r. r >>= g) e)

-- a first step that reads no bytes
pub same_grown : {X Y : Type 0} (then : Y → Y) (r : Result X StreamFault) (f g : X → Result Y StreamFault) → ((x : X) → IsGrown then (f x) (g x)) → IsGrown then (r >>= f) (r >>= g)
same_grown then (Ok x) f g next = next x
same_grown then (Err fault) f g next = inr refl

-- a value and what is left
abbrev pub left_more : {X : Type 0} → List ℕ → X × List ℕ → X × List ℕ
left_more more found = (found.0, found.1 ++ more)

abbrev pub third_more : {X Y : Type 0} → List ℕ → X × Y × List ℕ → X × Y × List ℕ
third_more more found = (found.0, found.1, found.2 ++ more)

abbrev pub bytes_more : List ℕ → List ℕ → List ℕ
bytes_more more bytes = bytes ++ more

-- ---- markers and segments

start_grown_second : (byte : ℕ) (bytes more : List ℕ) → IsGrown (bytes_more more) (wanted (eqb byte 216) NotSoi >>= λ d8. Ok bytes) (wanted (eqb byte 216) NotSoi >>= λ d8. Ok (bytes ++ more))
start_grown_second byte bytes more = same_grown (bytes_more more) (wanted (eqb byte 216) NotSoi) (λ d8. Ok bytes) (λ d8. Ok (bytes ++ more)) (λ d8. inr refl)

pub start_grown : (bytes more : List ℕ) → IsGrown (bytes_more more) (start_at bytes) (start_at (bytes ++ more))
unfolding start_at
start_grown [] more = inl refl
start_grown (byte ∷ []) more = elim (cases_Bool (eqb byte 255)) [
  | inl ff ↦ inl (rw ff refl)
  | inr other ↦ inr (rw other refl)
]
start_grown (byte ∷ second ∷ bytes) more =
    same_grown (bytes_more more) (wanted (eqb byte 255) NotSoi) (λ ff. wanted (eqb second 216) NotSoi >>= λ d8. Ok bytes) (λ ff. wanted (eqb second 216) NotSoi >>= λ d8. Ok (bytes ++ more))
    (λ ff. start_grown_second second bytes more)

code_grown_by : (fill zero_code : Bool) (byte : ℕ) (bytes more : List ℕ) → IsGrown (left_more more) (code_at bytes) (code_at (bytes ++ more))
    → IsGrown (left_more more) (cond fill (code_at bytes) (cond zero_code (Err BadSegment) (Ok (byte, bytes))))
    (cond fill (code_at (bytes ++ more)) (cond zero_code (Err BadSegment) (Ok (byte, bytes ++ more))))
code_grown_by true z byte bytes more grown = grown
code_grown_by false true byte bytes more grown = inr refl
code_grown_by false false byte bytes more grown = inr refl

code_grown : (bytes more : List ℕ) → IsGrown (left_more more) (code_at bytes) (code_at (bytes ++ more))
unfolding code_at
code_grown [] more = inl refl
code_grown (byte ∷ bytes) more = code_grown_by (eqb byte 255) (eqb byte 0) byte bytes more (code_grown bytes more)

pub marker_grown : (bytes more : List ℕ) → IsGrown (left_more more) (marker_at bytes) (marker_at (bytes ++ more))
unfolding marker_at
marker_grown [] more = inl refl
marker_grown (byte ∷ bytes) more =
    same_grown (left_more more) (wanted (eqb byte 255) BadSegment) (λ ff. code_at bytes >>= λ code. Ok (marker_of code.0, code.1)) (λ ff. code_at (bytes ++ more) >>= λ code. Ok (marker_of code.0, code.1))
    (λ ff. step_grown (left_more more) (left_more more) (code_at bytes) (code_at (bytes ++ more)) (λ code. Ok (marker_of code.0, code.1)) (λ code. Ok (marker_of code.0, code.1))
    (code_grown bytes more) (λ code e. inr refl))

abbrev Contents : Type 0
Contents = List ℕ × List ℕ

-- the contents, by the length before them
said : ℕ → List ℕ → List ℕ → Result Contents StreamFault
said n rest bytes = wanted (leb 2 n) BadSegment >>= λ least. wanted (leb n (length bytes)) Truncated >>= λ whole. Ok (take (n - 2) rest, drop n bytes)

said_grown : (n high low : ℕ) (rest more : List ℕ) → IsGrown (left_more more) (said n rest (high ∷ low ∷ rest)) (said n (rest ++ more) (high ∷ low ∷ (rest ++ more)))
unfolding said
said_grown n high low rest more = elim (cases_Bool (leb 2 n)) [
  | inl least ↦ elim (cases_Bool (leb n (length (high ∷ low ∷ rest)))) [
    | inl whole ↦
        let within : n ≤ suc (suc (length rest)) = leb-true n (suc (suc (length rest))) whole in
        let all : leb n (length (high ∷ low ∷ (rest ++ more))) ≡ true = le-leb n (suc (suc (length (rest ++ more)))) (omega (arith, length-append rest more)) in
        let front : take (n - 2) (rest ++ more) ≡ take (n - 2) rest = take-append-le (n - 2) rest more (omega arith) in
        let back : drop n (high ∷ low ∷ (rest ++ more)) ≡ drop n (high ∷ low ∷ rest) ++ more = drop-append-le n (high ∷ low ∷ rest) more within in
        inr (rw (least, whole, all, front, back) refl)
    | inr cut ↦ inl (rw (least, cut) refl)
  ]
  | inr small ↦ inr (rw small refl)
]

pub contents_grown : (bytes more : List ℕ) → IsGrown (left_more more) (contents_at bytes) (contents_at (bytes ++ more))
unfolding contents_at field_of said
contents_grown [] more = inl refl
contents_grown (byte ∷ []) more = inl refl
contents_grown (high ∷ low ∷ rest) more =
    let few : leb 2 (suc (suc (length rest))) ≡ true = le-leb 2 (suc (suc (length rest))) (omega arith) in
    let all : leb 2 (suc (suc (length (rest ++ more)))) ≡ true = le-leb 2 (suc (suc (length (rest ++ more)))) (omega arith) in
    rw (few, all) (said_grown (256 * high + low) high low rest more)

-- ---- data

-- more bytes don't make the data longer, or no marker follows it
pub data_grown : (bytes more : List ℕ) → (data_length (bytes ++ more) ≡ data_length bytes) ⊎ (marker_at (after_data bytes) ≡ Err Truncated)
unfolding marker_at code_at
data_grown [] more = inr (rw length-none refl)
data_grown (byte ∷ []) more = elim (cases_Bool (eqb byte 255)) [
  | inl ff ↦ inr (rw (length-last byte ff, ff) refl)
  | inr other ↦ inr (rw (length-other byte [] other, length-none) refl)
]
data_grown (byte ∷ next ∷ bytes) more = elim (cases_Bool (eqb byte 255)) [
  | inl ff ↦ elim (cases_Bool (ltb next 128)) [
    | inl low ↦ elim (data_grown bytes more) [
      | inl same ↦ inl (length-pair byte next (bytes ++ more) ff low ∙ ap (λ n. suc (suc n)) same ∙ sym (length-pair byte next bytes ff low))
      | inr none ↦ inr (ap (λ n. marker_at (drop n (byte ∷ next ∷ bytes))) (length-pair byte next bytes ff low) ∙ none)
    ]
    | inr high ↦ inl (length-marker byte next (bytes ++ more) ff high ∙ sym (length-marker byte next bytes ff high))
  ]
  | inr other ↦ elim (data_grown (next ∷ bytes) more) [
    | inl same ↦ inl (length-other byte (next ∷ (bytes ++ more)) other ∙ ap suc same ∙ sym (length-other byte (next ∷ bytes) other))
    | inr none ↦ inr (ap (λ n. marker_at (drop n (byte ∷ next ∷ bytes))) (length-other byte (next ∷ bytes) other) ∙ none)
  ]
]

pub after_data-more : (bytes more : List ℕ) → data_length (bytes ++ more) ≡ data_length bytes → after_data (bytes ++ more) ≡ after_data bytes ++ more
after_data-more bytes more same =
    let front = data_length-is bytes in
    ap (λ n. drop n (bytes ++ more)) same ∙ drop-append-le (data_length bytes) bytes more front.within

pub data_at-more : (bytes more : List ℕ) → data_length (bytes ++ more) ≡ data_length bytes → data_at (bytes ++ more) ≡ data_at bytes
data_at-more bytes more same =
    let front = data_length-is bytes in
    ap (λ n. take n (bytes ++ more)) same ∙ take-append-le (data_length bytes) bytes more front.within

-- ---- the extent

abbrev SegmentsGrown : List ℕ → List ℕ → Type 0
SegmentsGrown bytes more = IsGrown (bytes_more more) (segments_at bytes) (segments_at (bytes ++ more))

pub segments_none : (bytes : List ℕ) → marker_at bytes ≡ Err Truncated → segments_at bytes ≡ Err Truncated
segments_none bytes none = segments_at-next bytes ∙ ap (λ r. r >>= λ next. after_any segments_at next.0 next.1) none

segment_grown : (next : List ℕ → Left) (bytes more : List ℕ) → ((rest : List ℕ) → length rest ≤ length bytes → IsGrown (bytes_more more) (next rest) (next (rest ++ more)))
    → IsGrown (bytes_more more) (after_segment next bytes) (after_segment next (bytes ++ more))
segment_grown next bytes more grown =
    step_grown (left_more more) (bytes_more more) (contents_at bytes) (contents_at (bytes ++ more)) (λ c. next c.1) (λ c. next c.1) (contents_grown bytes more)
    (λ c e. grown c.1 (contents_shorter bytes c e))

after_data_grown : (bytes more : List ℕ) → SegmentsGrown (after_data bytes) more → IsGrown (bytes_more more) (segments_at (after_data bytes)) (segments_at (after_data (bytes ++ more)))
after_data_grown bytes more grown = elim (data_grown bytes more) [
  | inl same ↦ subst (λ bs. IsGrown (bytes_more more) (segments_at (after_data bytes)) (segments_at bs)) (sym (after_data-more bytes more same)) grown
  | inr none ↦ inl (segments_none (after_data bytes) none)
]

any_grown : (m : Marker) (bytes more : List ℕ) → ((rest : List ℕ) → length rest ≤ length bytes → SegmentsGrown rest more)
    → IsGrown (bytes_more more) (after_any segments_at m bytes) (after_any segments_at m (bytes ++ more))
unfolding after_any
any_grown StartOfImage bytes more grown = inr refl
any_grown EndOfImage bytes more grown = inr refl
any_grown StartOfScan bytes more grown =
    segment_grown (λ stuffed. segments_at (after_data stuffed)) bytes more
    (λ rest less. after_data_grown rest more (grown (after_data rest) (let fewer = data_shorter rest in omega arith)))
any_grown StartOfFrame bytes more grown = segment_grown segments_at bytes more grown
any_grown PresetParameters bytes more grown = segment_grown segments_at bytes more grown
any_grown (Application code) bytes more grown = segment_grown segments_at bytes more grown
any_grown Comment bytes more grown = segment_grown segments_at bytes more grown
any_grown (Other code) bytes more grown = inr refl

segments_grown_within : (most : ℕ) (bytes more : List ℕ) → length bytes ≤ most → SegmentsGrown bytes more
unfolding marker_at
segments_grown_within zero [] more few = inl (segments_none [] refl)
segments_grown_within zero (byte ∷ bytes) more few = absurd (omega arith)
segments_grown_within (suc most) bytes more few =
    let add = bytes_more more in
    let after : Marker × List ℕ → Left = λ next. after_any segments_at next.0 next.1 in
    subst (λ r. IsGrown add r (segments_at (bytes ++ more))) (sym (segments_at-next bytes))
    (subst (λ r. IsGrown add (marker_at bytes >>= after) r) (sym (segments_at-next (bytes ++ more)))
    (step_grown (left_more more) add (marker_at bytes) (marker_at (bytes ++ more)) after after (marker_grown bytes more)
    (λ n e.
    let less = marker_shorter bytes n e in
    any_grown n.0 n.1 more (λ rest fewer. segments_grown_within most rest more (omega arith)))))

pub extent_grown : (bytes more : List ℕ) → IsGrown (bytes_more more) (extent_at bytes) (extent_at (bytes ++ more))
unfolding extent_at
extent_grown bytes more =
    step_grown (bytes_more more) (bytes_more more) (start_at bytes) (start_at (bytes ++ more)) segments_at segments_at (start_grown bytes more)
    (λ rest e. segments_grown_within (length rest) rest more (omega arith))

-- ---- miscellaneous segments

skipped_grown : (written : Parameters) (bytes more : List ℕ) → IsGrown (third_more more) (skipped_at written bytes) (skipped_at written (bytes ++ more))
skipped_grown written bytes more =
    step_grown (left_more more) (third_more more) (contents_at bytes) (contents_at (bytes ++ more)) (λ c. Ok (None, written, c.1)) (λ c. Ok (None, written, c.1)) (contents_grown bytes more)
    (λ c e. inr refl)

presets_grown : (late : Bool) (bytes more : List ℕ) → IsGrown (third_more more) (presets_at late bytes) (presets_at late (bytes ++ more))
presets_grown true bytes more = inr refl
presets_grown false bytes more =
    step_grown (left_more more) (third_more more) (contents_at bytes) (contents_at (bytes ++ more))
    (λ c. preset_fields_of c.0 >>= λ written. Ok (None, written, c.1)) (λ c. preset_fields_of c.0 >>= λ written. Ok (None, written, c.1)) (contents_grown bytes more)
    (λ c e. same_grown (third_more more) (preset_fields_of c.0) (λ written. Ok (None, written, c.1)) (λ written. Ok (None, written, c.1 ++ more)) (λ written. inr refl))

after_grown : (late : Bool) (written : Parameters) (m : Marker) (bytes more : List ℕ) → IsGrown (third_more more) (after_marker late written m bytes) (after_marker late written m (bytes ++ more))
unfolding after_marker
after_grown late written StartOfImage bytes more = inr refl
after_grown late written EndOfImage bytes more = inr refl
after_grown late written StartOfScan bytes more = inr refl
after_grown late written StartOfFrame bytes more = inr refl
after_grown late written PresetParameters bytes more = presets_grown late bytes more
after_grown late written (Application code) bytes more = skipped_grown written bytes more
after_grown late written Comment bytes more = skipped_grown written bytes more
after_grown late written (Other code) bytes more = inr refl

part_grown : (late : Bool) (written : Parameters) (bytes more : List ℕ) → IsGrown (third_more more) (part_at late written bytes) (part_at late written (bytes ++ more))
unfolding part_at
part_grown late written bytes more =
    step_grown (left_more more) (third_more more) (marker_at bytes) (marker_at (bytes ++ more)) (λ n. after_marker late written n.0 n.1) (λ n. after_marker late written n.0 n.1) (marker_grown bytes more)
    (λ n e. after_grown late written n.0 n.1 more)

unless_grown : (again : Parameters → List ℕ → Ahead) (o : Option Marker) (last : Parameters) (rest more : List ℕ)
    → (o ≡ None → IsGrown (third_more more) (again last rest) (again last (rest ++ more))) → IsGrown (third_more more) (unless_marker again o last rest) (unless_marker again o last (rest ++ more))
unless_grown again None last rest more grown = grown refl
unless_grown again (Some m) last rest more grown = inr refl

pub ahead_none : (late : Bool) (written : Parameters) (bytes : List ℕ) → marker_at bytes ≡ Err Truncated → ahead_at late written bytes ≡ Err Truncated
unfolding part_at
ahead_none late written bytes none = ahead_at-fault late written bytes Truncated (ap (λ r. r >>= λ n. after_marker late written n.0 n.1) none)

ahead_grown_within : (most : ℕ) (late : Bool) (written : Parameters) (bytes more : List ℕ) → length bytes ≤ most → IsGrown (third_more more) (ahead_at late written bytes) (ahead_at late written (bytes ++ more))
unfolding marker_at
ahead_grown_within zero late written [] more few = inl (ahead_none late written [] refl)
ahead_grown_within zero late written (byte ∷ bytes) more few = absurd (omega arith)
ahead_grown_within (suc most) late written bytes more few =
    let again : Parameters → List ℕ → Ahead = λ w rest. ahead_at late w rest in
    let next : Found → Ahead = λ part. unless_marker again part.0 part.1 part.2 in
    subst (λ r. IsGrown (third_more more) r (ahead_at late written (bytes ++ more))) (sym (ahead_at-part late written bytes))
    (subst (λ r. IsGrown (third_more more) (part_at late written bytes >>= next) r) (sym (ahead_at-part late written (bytes ++ more)))
    (step_grown (third_more more) (third_more more) (part_at late written bytes) (part_at late written (bytes ++ more)) next next (part_grown late written bytes more)
    (λ p e.
    let less = part_shorter late written bytes p e in
    unless_grown again p.0 p.1 p.2 more (λ none. ahead_grown_within most late p.1 p.2 more (omega arith)))))

pub ahead_grown : (late : Bool) (written : Parameters) (bytes more : List ℕ) → IsGrown (third_more more) (ahead_at late written bytes) (ahead_at late written (bytes ++ more))
ahead_grown late written bytes more = ahead_grown_within (length bytes) late written bytes more (omega arith)

-- ---- headers and EOI

frame_header_grown : (bytes more : List ℕ) → IsGrown (third_more more) (frame_header_at bytes) (frame_header_at (bytes ++ more))
unfolding frame_header_at
frame_header_grown bytes more =
    let after : Stands → Result (FrameHeader × Parameters × List ℕ) StreamFault = λ next. contents_at next.2 >>= λ c. frame_header_of c.0 >>= λ h. Ok (h, next.1, c.1) in
    let next : Stands → Result (FrameHeader × Parameters × List ℕ) StreamFault = λ n. wanted (is_start_of_frame n.0) BadSegment >>= λ frame. after n in
    step_grown (third_more more) (third_more more) (ahead_at false no_presets bytes) (ahead_at false no_presets (bytes ++ more)) next next (ahead_grown false no_presets bytes more)
    (λ n e. same_grown (third_more more) (wanted (is_start_of_frame n.0) BadSegment) (λ frame. after n) (λ frame. after (third_more more n))
    (λ frame. step_grown (left_more more) (third_more more) (contents_at n.2) (contents_at (n.2 ++ more))
    (λ c. frame_header_of c.0 >>= λ h. Ok (h, n.1, c.1)) (λ c. frame_header_of c.0 >>= λ h. Ok (h, n.1, c.1)) (contents_grown n.2 more)
    (λ c e. same_grown (third_more more) (frame_header_of c.0) (λ h. Ok (h, n.1, c.1)) (λ h. Ok (h, n.1, c.1 ++ more)) (λ h. inr refl))))

scan_header_grown : (late : Bool) (written : Parameters) (id : ℕ) (bytes more : List ℕ) → IsGrown (left_more more) (scan_header_at late written id bytes) (scan_header_at late written id (bytes ++ more))
unfolding scan_header_at
scan_header_grown late written id bytes more =
    let after : Stands → Take Parameters = λ next. contents_at next.2 >>= λ c. scan_header_of id c.0 >>= λ h. Ok (next.1, c.1) in
    let next : Stands → Take Parameters = λ n. wanted (is_start_of_scan n.0) BadSegment >>= λ scan. after n in
    step_grown (third_more more) (left_more more) (ahead_at late written bytes) (ahead_at late written (bytes ++ more)) next next (ahead_grown late written bytes more)
    (λ n e. same_grown (left_more more) (wanted (is_start_of_scan n.0) BadSegment) (λ scan. after n) (λ scan. after (third_more more n))
    (λ scan. step_grown (left_more more) (left_more more) (contents_at n.2) (contents_at (n.2 ++ more))
    (λ c. scan_header_of id c.0 >>= λ h. Ok (n.1, c.1)) (λ c. scan_header_of id c.0 >>= λ h. Ok (n.1, c.1)) (contents_grown n.2 more)
    (λ c e. same_grown (left_more more) (scan_header_of id c.0) (λ h. Ok (n.1, c.1)) (λ h. Ok (n.1, c.1 ++ more)) (λ h. inr refl))))

pub next_scan_grown : (id : ℕ) (bytes more : List ℕ) → IsGrown (bytes_more more) (next_scan_at id bytes) (next_scan_at id (bytes ++ more))
unfolding next_scan_at
next_scan_grown id bytes more =
    step_grown (left_more more) (bytes_more more) (scan_header_at true no_presets id bytes) (scan_header_at true no_presets id (bytes ++ more)) (λ scan. Ok scan.1) (λ scan. Ok scan.1)
    (scan_header_grown true no_presets id bytes more) (λ scan e. inr refl)

pub end_grown : (bytes more : List ℕ) → IsGrown (bytes_more more) (end_at bytes) (end_at (bytes ++ more))
unfolding end_at
end_grown bytes more =
    let next : Stands → Left = λ n. wanted (is_end_of_image n.0) BadSegment >>= λ image. Ok n.2 in
    step_grown (third_more more) (bytes_more more) (ahead_at true no_presets bytes) (ahead_at true no_presets (bytes ++ more)) next next (ahead_grown true no_presets bytes more)
    (λ n e. same_grown (bytes_more more) (wanted (is_end_of_image n.0) BadSegment) (λ image. Ok n.2) (λ image. Ok (n.2 ++ more)) (λ image. inr refl))

pub opening_grown : (bytes more : List ℕ) → IsGrown (third_more more) (opening_at bytes) (opening_at (bytes ++ more))
unfolding opening_at
opening_grown bytes more =
    let last : FrameHeader × Parameters × List ℕ → Parameters × List ℕ → Result (FrameHeader × Parameters × List ℕ) StreamFault =
    λ frame scan. or_bad_presets (parameters_of frame.0.precision scan.0) >>= λ p. Ok (frame.0, p, scan.1) in
    let scanned : FrameHeader × Parameters × List ℕ → Result (FrameHeader × Parameters × List ℕ) StreamFault =
    λ frame. scan_header_at false frame.1 (slice_index frame.0.ids 0) frame.2 >>= λ scan. last frame scan in
    step_grown (bytes_more more) (third_more more) (start_at bytes) (start_at (bytes ++ more)) (λ rest. frame_header_at rest >>= scanned) (λ rest. frame_header_at rest >>= scanned) (start_grown bytes more)
    (λ rest e. step_grown (third_more more) (third_more more) (frame_header_at rest) (frame_header_at (rest ++ more)) scanned scanned (frame_header_grown rest more)
    (λ frame e'. step_grown (left_more more) (third_more more) (scan_header_at false frame.1 (slice_index frame.0.ids 0) frame.2) (scan_header_at false frame.1 (slice_index frame.0.ids 0) (frame.2 ++ more))
    (last frame) (last (third_more more frame)) (scan_header_grown false frame.1 (slice_index frame.0.ids 0) frame.2 more)
    (λ scan e''. same_grown (third_more more) (or_bad_presets (parameters_of frame.0.precision scan.0)) (λ p. Ok (frame.0, p, scan.1)) (λ p. Ok (frame.0, p, scan.1 ++ more)) (λ p. inr refl))))

-- ---- scans

end_none : (bytes : List ℕ) → marker_at bytes ≡ Err Truncated → end_at bytes ≡ Err Truncated
unfolding end_at
end_none bytes none = ap (λ r. r >>= λ n. wanted (is_end_of_image n.0) BadSegment >>= λ image. Ok n.2) (ahead_none true no_presets bytes none)

next_scan_none : (id : ℕ) (bytes : List ℕ) → marker_at bytes ≡ Err Truncated → next_scan_at id bytes ≡ Err Truncated
unfolding next_scan_at scan_header_at
next_scan_none id bytes none =
    let header : Stands → Take Parameters = λ n. wanted (is_start_of_scan n.0) BadSegment >>= λ scan. contents_at n.2 >>= λ c. scan_header_of id c.0 >>= λ h. Ok (n.1, c.1) in
    let last : Parameters × List ℕ → Left = λ scan. Ok scan.1 in
    ap (λ (r : Ahead). (r >>= header) >>= last) (ahead_none true no_presets bytes none)

pub scans_grown : (later bytes more : List ℕ) → IsGrown (left_more more) (scans_at later bytes) (scans_at later (bytes ++ more))
unfolding scans_at
scans_grown [] bytes more = elim (data_grown bytes more) [
  | inl same ↦
      let few : Take (List (List ℕ)) = end_at (after_data bytes) >>= λ rest. Ok (data_at bytes ∷ [], rest) in
      subst (λ bs. IsGrown (left_more more) few (end_at bs >>= λ rest. Ok (data_at (bytes ++ more) ∷ [], rest))) (sym (after_data-more bytes more same))
      (subst (λ d. IsGrown (left_more more) few (end_at (after_data bytes ++ more) >>= λ rest. Ok (d ∷ [], rest))) (sym (data_at-more bytes more same))
      (step_grown (bytes_more more) (left_more more) (end_at (after_data bytes)) (end_at (after_data bytes ++ more)) (λ rest. Ok (data_at bytes ∷ [], rest)) (λ rest. Ok (data_at bytes ∷ [], rest))
      (end_grown (after_data bytes) more) (λ rest e. inr refl)))
  | inr none ↦ inl (ap (λ r. r >>= λ rest. Ok (data_at bytes ∷ [], rest)) (end_none (after_data bytes) none))
]
scans_grown (id ∷ later) bytes more = elim (data_grown bytes more) [
  | inl same ↦
      let with_data : List ℕ → List ℕ → Take (List (List ℕ)) = λ d rest. scans_at later rest >>= λ scans. Ok (d ∷ scans.0, scans.1) in
      let few : Take (List (List ℕ)) = next_scan_at id (after_data bytes) >>= with_data (data_at bytes) in
      subst (λ bs. IsGrown (left_more more) few (next_scan_at id bs >>= with_data (data_at (bytes ++ more)))) (sym (after_data-more bytes more same))
      (subst (λ d. IsGrown (left_more more) few (next_scan_at id (after_data bytes ++ more) >>= with_data d)) (sym (data_at-more bytes more same))
      (step_grown (bytes_more more) (left_more more) (next_scan_at id (after_data bytes)) (next_scan_at id (after_data bytes ++ more)) (with_data (data_at bytes)) (with_data (data_at bytes))
      (next_scan_grown id (after_data bytes) more)
      (λ rest e. step_grown (left_more more) (left_more more) (scans_at later rest) (scans_at later (rest ++ more)) (λ scans. Ok (data_at bytes ∷ scans.0, scans.1)) (λ scans. Ok (data_at bytes ∷ scans.0, scans.1))
      (scans_grown later rest more) (λ scans e'. inr refl))))
  | inr none ↦ inl (ap (λ r. r >>= λ rest. scans_at later rest >>= λ scans. Ok (data_at bytes ∷ scans.0, scans.1)) (next_scan_none id (after_data bytes) none))
]

-- ---- the outline

pub outline_grown : (bytes more : List ℕ) → IsGrown (left_more more) (outline_at bytes) (outline_at (bytes ++ more))
unfolding outline_at
outline_grown bytes more =
    let made : FrameHeader × Parameters × List ℕ → List (List ℕ) × List ℕ → Take Outline =
    λ opening scans. Ok (record { header = opening.0; parameters = opening.1; scans = scans.0 }, scans.1) in
    let scanned : FrameHeader × Parameters × List ℕ → Take Outline = λ opening. scans_at (drop 1 (ids_in opening.0)) opening.2 >>= made opening in
    step_grown (third_more more) (left_more more) (opening_at bytes) (opening_at (bytes ++ more)) scanned scanned (opening_grown bytes more)
    (λ opening e. step_grown (left_more more) (left_more more) (scans_at (drop 1 (ids_in opening.0)) opening.2) (scans_at (drop 1 (ids_in opening.0)) (opening.2 ++ more))
    (made opening) (made opening) (scans_grown (drop 1 (ids_in opening.0)) opening.2 more) (λ scans e'. inr refl))
