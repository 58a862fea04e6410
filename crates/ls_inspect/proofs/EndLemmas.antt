-- Where the next codestream ends.
use Rattle.std.proofs.Common.{◌≡◌, ◌⊎◌, ℕ, ◌+◌, ◌-◌, ◌*◌, ◌<◌, ◌≤◌, eqb, ltb, List, [], ◌∷◌, ◌++◌, length, take, drop, inl, inr, Option, None, Some, Ok, Err, refl, sym, ap, subst, ◌∙◌, arith, append_assoc, append-nil, length-append, take-append-drop}
use Rattle.std.proofs.lemmas.Bool.{cases_Bool, eqb-true, eqb-false, ltb-true, ltb-false}
use Rattle.std.proofs.lemmas.List.{take_all, take_at, drop_at, length-take}
use Rattle.ls_frame.specs.Picture.{Picture}
use Rattle.ls_stream.specs.declared.faults.StreamFault.{StreamFault}
use Rattle.ls_stream.specs.declared.faults.StreamFault.TheVariants.{Truncated, TooLarge}
use Rattle.ls_stream.specs.declared.faults.StreamFault.TheVariants as stream_fault
use Rattle.ls_stream.specs.declared.next.awaited.Awaited.{Awaited}
use Rattle.ls_stream.specs.declared.next.awaited.Awaited.TheVariants as awaited
use Rattle.ls_stream.specs.declared.next.awaited.Follows.{Follows}
use Rattle.ls_stream.specs.Markers.{marker_of}
use Rattle.ls_stream.specs.Grammar.{Spells, most_bytes}
use Rattle.ls_stream.specs.View.Extents.{extent_at, IsNext}
use Rattle.ls_stream.specs.View.Places.{GoesOn, Ends, IsPlaceAfter, follows_of, place_of}
use Rattle.ls_stream.proofs.StepLemmas.{same_ok}
use Rattle.ls_stream.proofs.BreakLemmas.{no_err}
use Rattle.ls_stream.proofs.MostLemmas.{first_of}
use Rattle.ls_stream.proofs.ExtentLemmas.{none_reached, reached_undecided, one_more, ended}
use Rattle.ls_stream.proofs.ExtentLaws.{spellings_have_extents}
use Rattle.ls_stream.proofs.PlaceLemmas.{start_ff, start_other, start_code, start_other_code, marker_ff, marker_other, code_fill, code_zero, code_segment, code_stops, length_high, length_small, length_two, length_more, contents_last, contents_more, data_ff, data_other, code_low, code_high, code_high_stops}
use Rattle.ls_inspect.specs.Ends.{EndsAfter, HasNoEnd, cut_off, endless, malformed}

-- ---- with each byte the next codestream goes on or ends

abbrev Steps : Awaited → ℕ → Type 0
Steps place byte = ((next : Awaited) × GoesOn place byte next) ⊎ Ends place byte

code_steps_by : (byte : ℕ) (o : Option Follows) → o ≡ follows_of (marker_of byte) → (byte ≡ 255 → ⊥) → (byte ≡ 0 → ⊥) → Steps awaited.Code byte
code_steps_by byte (Some follows) is other some = inl (awaited.Length follows, code_segment byte follows other some is)
code_steps_by byte None is other some = inr (code_stops byte other some is)

code_steps : (byte : ℕ) → Steps awaited.Code byte
code_steps byte = elim (cases_Bool (eqb byte 255)) [
  | inl ff ↦ inl (awaited.Code, code_fill byte (eqb-true byte 255 ff))
  | inr other ↦ elim (cases_Bool (eqb byte 0)) [
    | inl zero ↦ inr (code_zero byte (eqb-true byte 0 zero))
    | inr some ↦ code_steps_by byte (follows_of (marker_of byte)) refl (eqb-false byte 255 other) (eqb-false byte 0 some)
  ]
]

-- the code of a marker after data
data_code : (byte : ℕ) → 128 ≤ byte → Steps awaited.Code byte → Steps awaited.DataCode byte
data_code byte high (inl goes) = inl (goes.0, code_high byte goes.0 high goes.1)
data_code byte high (inr ends) = inr (code_high_stops byte high ends)

length_steps : (follows : Follows) (high low : ℕ) → Steps (awaited.LengthLow follows high) low
length_steps follows high low = elim (cases_Bool (ltb (256 * high + low) 2)) [
  | inl small ↦ inr (length_small follows high low (ltb-true (256 * high + low) 2 small))
  | inr some ↦ elim (cases_Bool (eqb (256 * high + low) 2)) [
    | inl two ↦ inl (place_of follows, length_two follows high low (eqb-true (256 * high + low) 2 two))
    | inr more ↦
        let least : 2 ≤ 256 * high + low = ltb-false (256 * high + low) 2 some in
        let other = eqb-false (256 * high + low) 2 more in
        inl (awaited.Contents follows (256 * high + low - 3), length_more follows high low (256 * high + low - 3) (omega (arith, least, other)))
  ]
]

steps : (place : Awaited) (byte : ℕ) → Steps place byte
steps awaited.Start byte = elim (cases_Bool (eqb byte 255)) [
  | inl ff ↦ inl (awaited.StartCode, start_ff byte (eqb-true byte 255 ff))
  | inr other ↦ inr (start_other byte (eqb-false byte 255 other))
]
steps awaited.StartCode byte = elim (cases_Bool (eqb byte 216)) [
  | inl is ↦ inl (awaited.Marker, start_code byte (eqb-true byte 216 is))
  | inr other ↦ inr (start_other_code byte (eqb-false byte 216 other))
]
steps awaited.Marker byte = elim (cases_Bool (eqb byte 255)) [
  | inl ff ↦ inl (awaited.Code, marker_ff byte (eqb-true byte 255 ff))
  | inr other ↦ inr (marker_other byte (eqb-false byte 255 other))
]
steps awaited.Code byte = code_steps byte
steps (awaited.Length follows) byte = inl (awaited.LengthLow follows byte, length_high follows byte)
steps (awaited.LengthLow follows high) byte = length_steps follows high byte
steps (awaited.Contents follows more) byte = elim (cases_Bool (eqb more 0)) [
  | inl none ↦ inl (place_of follows, contents_last follows byte more (eqb-true more 0 none))
  | inr some ↦ inl (awaited.Contents follows (more - 1), contents_more follows byte more (eqb-false more 0 some))
]
steps awaited.Data byte = elim (cases_Bool (eqb byte 255)) [
  | inl ff ↦ inl (awaited.DataCode, data_ff byte (eqb-true byte 255 ff))
  | inr other ↦ inl (awaited.Data, data_other byte (eqb-false byte 255 other))
]
steps awaited.DataCode byte = elim (cases_Bool (ltb byte 128)) [
  | inl low ↦ inl (awaited.Data, code_low byte (ltb-true byte 128 low))
  | inr high ↦ data_code byte (ltb-false byte 128 high) (code_steps byte)
]

-- ---- bytes that are read to EOI begin with the next codestream, up to that EOI

-- the bytes that are read to EOI
record ReadsToEnd (bytes left : List ℕ) : Type 0 where
  front : List ℕ
  whole : bytes ≡ front ++ left
  next : (rest : List ℕ) → IsNext front rest
  to_end : extent_at front ≡ Ok []

reads_to_end : (place : Awaited) (seen bytes left : List ℕ) → IsPlaceAfter place seen → extent_at (seen ++ bytes) ≡ Ok left → length (seen ++ bytes) ≤ most_bytes → ReadsToEnd (seen ++ bytes) left
reads_to_end place seen [] left reached e few =
    absurd (no_err left Truncated (sym e ∙ ap extent_at (append-nil seen) ∙ reached_undecided place seen reached))
reads_to_end place seen (byte ∷ bytes) left reached e few =
    let same : (seen ++ byte ∷ []) ++ bytes ≡ seen ++ byte ∷ bytes = append_assoc seen (byte ∷ []) bytes in
    let size = length-append seen (byte ∷ bytes) in
    elim (steps place byte) [
      | inl goes ↦
          subst (λ bs. ReadsToEnd bs left) same
          (reads_to_end goes.0 (seen ++ byte ∷ []) bytes left (one_more place goes.0 seen byte reached goes.1) (ap extent_at same ∙ e)
          (subst (λ bs. length bs ≤ most_bytes) (sym same) few))
      | inr stops ↦ elim stops.ends [
        | inl all ↦
            let end : bytes ≡ left = same_ok bytes left (sym (all bytes) ∙ sym (reached.on (byte ∷ bytes)) ∙ e) in
            record {
              front = seen ++ byte ∷ [];
              whole = sym same ∙ ap (λ bs. (seen ++ byte ∷ []) ++ bs) end;
              next = λ rest. ended place seen rest byte reached stops (omega (arith, size, few));
              to_end = reached.on (byte ∷ []) ∙ all [];
            }
        | inr bad ↦ absurd (no_err left bad.0 (sym e ∙ reached.on (byte ∷ bytes) ∙ bad.2 bytes))
      ]
    ]

-- the first bytes, no more than a codestream may have
first_reads : (bytes first left : List ℕ) → first ≡ take most_bytes bytes → extent_at first ≡ Ok left → ReadsToEnd first left
first_reads bytes first left same e = reads_to_end awaited.Start [] first left none_reached e (omega (arith, ap length same, length-take most_bytes bytes))

pub left_few : (bytes first left : List ℕ) → first ≡ take most_bytes bytes → extent_at first ≡ Ok left → length left ≤ length first
left_few bytes first left same e = let read = first_reads bytes first left same e in omega (arith, ap length read.whole, length-append read.front left)

ends_by : (bytes front after : List ℕ) (size : ℕ) → bytes ≡ front ++ after → length front ≡ size → IsNext front after → extent_at front ≡ Ok [] → EndsAfter bytes size
ends_by bytes front after size whole count next to_end =
    let taken : take size bytes ≡ front = ap (take size) whole ∙ take_at front after size count in
    let dropped : drop size bytes ≡ after = ap (drop size) whole ∙ drop_at front after size count in
    record {
      within = omega (arith, ap length whole, length-append front after, count);
      next = rw (taken, dropped) next;
      to_end = rw taken to_end;
    }

pub ends_after : (bytes first left : List ℕ) → first ≡ take most_bytes bytes → extent_at first ≡ Ok left → EndsAfter bytes (length first - length left)
ends_after bytes first left same e =
    let read = first_reads bytes first left same e in
    let after : List ℕ = left ++ drop most_bytes bytes in
    let whole : bytes ≡ read.front ++ after =
    sym (take-append-drop most_bytes bytes) ∙ ap (λ bs. bs ++ drop most_bytes bytes) (sym same ∙ read.whole) ∙ append_assoc read.front left (drop most_bytes bytes) in
    ends_by bytes read.front after (length first - length left) whole (omega (arith, ap length read.whole, length-append read.front left)) (read.next after) read.to_end

-- ---- bytes that aren't

-- if they are fewer than a codestream may have
few_by : (bytes : List ℕ) (fault : StreamFault) → length bytes < most_bytes → extent_at bytes ≡ Err fault → extent_at (take most_bytes bytes) ≡ Err fault → HasNoEnd bytes fault
few_by bytes stream_fault.Truncated few all e = cut_off refl (few, all)
few_by bytes stream_fault.NotSoi few all e = malformed (λ t. cc) e
few_by bytes stream_fault.BadSegment few all e = malformed (λ t. cc) e
few_by bytes (stream_fault.Unsupported what) few all e = malformed (λ t. cc) e
few_by bytes (stream_fault.BadPresets what) few all e = malformed (λ t. cc) e
few_by bytes stream_fault.TooLarge few all e = malformed (λ t. cc) e
few_by bytes (stream_fault.BadCode component) few all e = malformed (λ t. cc) e
few_by bytes (stream_fault.LeftoverBits component) few all e = malformed (λ t. cc) e
few_by bytes stream_fault.NoMemory few all e = malformed (λ t. cc) e

pub few_is : (bytes : List ℕ) (fault : StreamFault) → length bytes < most_bytes → extent_at (take most_bytes bytes) ≡ Err fault → HasNoEnd bytes fault
few_is bytes fault few e = few_by bytes fault few (ap extent_at (sym (take_all most_bytes bytes (omega arith))) ∙ e) e

-- if they aren't
pub endless_is : (bytes : List ℕ) (fault : StreamFault) → fault ≡ Truncated → most_bytes ≤ length bytes → extent_at (take most_bytes bytes) ≡ Err fault → HasNoEnd bytes TooLarge
endless_is bytes fault is many e = endless refl (omega (arith, length-take most_bytes bytes), e ∙ ap (λ (f : StreamFault). Err f) is)

pub other_is : (bytes : List ℕ) (fault : StreamFault) → (fault ≡ Truncated → ⊥) → extent_at (take most_bytes bytes) ≡ Err fault → HasNoEnd bytes fault
other_is bytes fault other e = malformed other e

pub ruleset no_end_lemmas = (few_is, endless_is, other_is)

-- then they begin with no codestream of a frame
pub no_end_unspelled : (bytes : List ℕ) (fault : StreamFault) → HasNoEnd bytes fault → (front rest : List ℕ) (f : Picture) → bytes ≡ front ++ rest → Spells front f → ⊥
no_end_unspelled bytes fault (cut_off is undecided) front rest f same spelled =
    no_err rest Truncated (sym (spellings_have_extents front rest f spelled) ∙ ap extent_at (sym same) ∙ undecided.1)
no_end_unspelled bytes fault (endless is begins) front rest f same spelled =
    let more : List ℕ = take (most_bytes - length front) rest in
    no_err more Truncated
    (sym (spellings_have_extents front more f spelled) ∙ ap extent_at (sym (first_of most_bytes front rest spelled.short)) ∙ ap (λ bs. extent_at (take most_bytes bs)) (sym same) ∙ begins.1)
no_end_unspelled bytes fault (malformed other e) front rest f same spelled =
    let more : List ℕ = take (most_bytes - length front) rest in
    no_err more fault
    (sym (spellings_have_extents front more f spelled) ∙ ap extent_at (sym (first_of most_bytes front rest spelled.short)) ∙ ap (λ bs. extent_at (take most_bytes bs)) (sym same) ∙ e)
