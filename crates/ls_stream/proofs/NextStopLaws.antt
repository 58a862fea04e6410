-- Decoding the next codestream stops where decoding all bytes from it on stops: its markers show where it ends or what breaks it, so each
-- step on the way reads the same of more bytes.
use Rattle.std.proofs.Common.{◌≡◌, ℕ, ◌+◌, ◌-◌, ◌≤◌, true, cond, eqb, ltb, List, [], ◌∷◌, ◌++◌, length, take, drop, inl, inr, ◌⊎◌, Result, Ok, Err, refl, sym, ap, subst, ◌∙◌, append-nil}
use Rattle.std.proofs.lemmas.Bool.{cases_Bool, cond-false, le-leb, le-ltb, ltb-false, and_from, false≢true}
use Rattle.ls_frame.specs.Parameters.{Parameters}
use Rattle.ls_bits.specs.Data.{starts_marker, stop_at}
use Rattle.ls_bits.specs.declared.data.Stop.{Stop}
use Rattle.ls_bits.specs.declared.data.Stop.TheVariants.{Marker, End}
use Rattle.ls_stream.specs.declared.faults.StreamFault.{StreamFault}
use Rattle.ls_stream.specs.declared.faults.StreamFault.TheVariants.{Truncated}
use Rattle.ls_stream.specs.Grammar.{most_bytes}
use Rattle.ls_stream.specs.View.FirstFaults.{BreaksData, wrong_code, marker_early, input_ends, leftover, IsPlaneData}
use Rattle.ls_stream.specs.View.Reading.{code_at, marker_at, next_scan_at, end_at, opening_at}
use Rattle.ls_stream.specs.View.Outlines.{data_length, data_at, after_data, ids_in, ScansStop, DecodingStops, at_opening, at_scans, past_most, fault_of}
use Rattle.ls_stream.specs.View.Extents.{segments_at, extent_at, StopsWith, NextStopsAlike}
use Rattle.ls_stream.proofs.StepLemmas.{same_ok}
use Rattle.ls_stream.proofs.BreakLemmas.{no_err}
use Rattle.ls_stream.proofs.MostLemmas.{first_of, first_all}
use Rattle.ls_stream.proofs.FrontLemmas.{length-none, length-last, length-pair, length-marker, length-other}
use Rattle.ls_stream.proofs.GrownLemmas.{changed, IsGrown, third_more, bytes_more, data_grown, after_data-more, data_at-more, segments_none, next_scan_grown, end_grown, opening_grown}
use Rattle.ls_stream.proofs.AlongLemmas.{Frame, next_scan_along, end_along, opening_along}
use Rattle.ls_stream.proofs.ExtentLaws.{along_ok, along_err, fault_kept}

-- ---- what is read of more bytes

abbrev failed : {X : Type 0} → StreamFault → Result X StreamFault
failed fault = Err fault

-- not Truncated
abbrev IsDecided : {X : Type 0} → Result X StreamFault → Type 0
IsDecided r = r ≡ Err Truncated → ⊥

changed_err : {X : Type 0} (add : X → X) (r : Result X StreamFault) (fault : StreamFault) → changed add r ≡ Err fault → r ≡ Err fault
changed_err add (Ok x) fault e = absurd (no_err (add x) fault e)
changed_err add (Err cause) fault e = e

changed_ok : {X : Type 0} (add : X → X) (r : Result X StreamFault) (y : X) → changed add r ≡ Ok y → (x : X) × (r ≡ Ok x) × (y ≡ add x)
changed_ok add (Ok x) y e = (x, refl, sym (same_ok (add x) y e))
changed_ok add (Err fault) y e = absurd (no_err y fault (sym e))

grown_decided : {X : Type 0} (add : X → X) (few all : Result X StreamFault) → IsGrown add few all → IsDecided few → all ≡ changed add few
grown_decided add few all (inl truncated) decided = absurd (decided truncated)
grown_decided add few all (inr grown) decided = grown

-- ---- data that a marker follows

abbrev MarkerFollows : List ℕ → Type 0
MarkerFollows bytes = starts_marker (after_data bytes) ≡ true

follows_or_none : (bytes : List ℕ) → MarkerFollows bytes ⊎ (marker_at (after_data bytes) ≡ Err Truncated)
unfolding marker_at code_at
follows_or_none [] = inr (rw length-none refl)
follows_or_none (byte ∷ []) = elim (cases_Bool (eqb byte 255)) [
  | inl ff ↦ inr (rw (length-last byte ff, ff) refl)
  | inr other ↦ inr (rw (length-other byte [] other, length-none) refl)
]
follows_or_none (byte ∷ next ∷ bytes) = elim (cases_Bool (eqb byte 255)) [
  | inl ff ↦ elim (cases_Bool (ltb next 128)) [
    | inl low ↦ elim (follows_or_none bytes) [
      | inl starts ↦ inl (ap (λ n. starts_marker (drop n (byte ∷ next ∷ bytes))) (length-pair byte next bytes ff low) ∙ starts)
      | inr none ↦ inr (ap (λ n. marker_at (drop n (byte ∷ next ∷ bytes))) (length-pair byte next bytes ff low) ∙ none)
    ]
    | inr high ↦ inl (ap (λ n. starts_marker (drop n (byte ∷ next ∷ bytes))) (length-marker byte next bytes ff high) ∙ and_from _ _ ff (le-leb 128 next (ltb-false next 128 high)))
  ]
  | inr other ↦ elim (follows_or_none (next ∷ bytes)) [
    | inl starts ↦ inl (ap (λ n. starts_marker (drop n (byte ∷ next ∷ bytes))) (length-other byte (next ∷ bytes) other) ∙ starts)
    | inr none ↦ inr (ap (λ n. marker_at (drop n (byte ∷ next ∷ bytes))) (length-other byte (next ∷ bytes) other) ∙ none)
  ]
]

starts_more : (bytes more : List ℕ) → starts_marker bytes ≡ true → starts_marker (bytes ++ more) ≡ true
starts_more [] more starts = absurd (false≢true starts)
starts_more (byte ∷ []) more starts = absurd (false≢true starts)
starts_more (byte ∷ next ∷ bytes) more starts = starts

-- what comes after the data of a scan isn't too few bytes
abbrev DataDecided : List ℕ → Type 0
DataDecided bytes = IsDecided (segments_at (after_data bytes))

follows : (bytes : List ℕ) → DataDecided bytes → MarkerFollows bytes
follows bytes decided = elim (follows_or_none bytes) [
  | inl starts ↦ starts
  | inr none ↦ absurd (decided (segments_none (after_data bytes) none))
]

-- then more bytes change neither the data nor what ends it
record IsKept (bytes more : List ℕ) : Type 0 where
  stuffed : data_at (bytes ++ more) ≡ data_at bytes
  after : after_data (bytes ++ more) ≡ after_data bytes ++ more
  stop : stop_at (after_data (bytes ++ more)) ≡ stop_at (after_data bytes)

kept : (bytes more : List ℕ) → DataDecided bytes → IsKept bytes more
kept bytes more decided =
    let same : data_length (bytes ++ more) ≡ data_length bytes = elim (data_grown bytes more) [
      | inl same ↦ same
      | inr none ↦ absurd (decided (segments_none (after_data bytes) none))
    ] in
    let starts = follows bytes decided in
    record {
      stuffed = data_at-more bytes more same;
      after = after_data-more bytes more same;
      stop = ap stop_at (after_data-more bytes more same) ∙ ap (λ b. cond b Marker End) (starts_more (after_data bytes) more starts ∙ sym starts);
    }

-- ---- the steps after the data of a scan

end_decided : (bytes : List ℕ) → IsDecided (segments_at bytes) → IsDecided (end_at bytes)
end_decided bytes decided e = decided (along_err (λ (rest : List ℕ). Ok rest) (end_at bytes) (segments_at bytes) (end_along bytes) e)

scan_decided : (id : ℕ) (bytes : List ℕ) → IsDecided (segments_at bytes) → IsDecided (next_scan_at id bytes)
scan_decided id bytes decided e = decided (along_err (λ (rest : List ℕ). segments_at (after_data rest)) (next_scan_at id bytes) (segments_at bytes) (next_scan_along id bytes) e)

-- after the header of the next scan the data is decided too
next_decided : (id : ℕ) (bytes rest : List ℕ) → IsDecided (segments_at bytes) → next_scan_at id bytes ≡ Ok rest → DataDecided rest
next_decided id bytes rest decided e truncated =
    decided (along_ok (λ (rest : List ℕ). segments_at (after_data rest)) (next_scan_at id bytes) (segments_at bytes) rest (next_scan_along id bytes) e ∙ truncated)

end_more : (bytes more : List ℕ) → DataDecided bytes → end_at (after_data (bytes ++ more)) ≡ changed (bytes_more more) (end_at (after_data bytes))
end_more bytes more decided =
    let after = after_data bytes in
    let is = kept bytes more decided in
    ap end_at is.after ∙ grown_decided (bytes_more more) (end_at after) (end_at (after ++ more)) (end_grown after more) (end_decided after decided)

scan_more : (id : ℕ) (bytes more : List ℕ) → DataDecided bytes → next_scan_at id (after_data (bytes ++ more)) ≡ changed (bytes_more more) (next_scan_at id (after_data bytes))
scan_more id bytes more decided =
    let after = after_data bytes in
    let is = kept bytes more decided in
    ap (next_scan_at id) is.after ∙ grown_decided (bytes_more more) (next_scan_at id after) (next_scan_at id (after ++ more)) (next_scan_grown id after more) (scan_decided id after decided)

-- ---- the scans

data_same : (p : Parameters) (width height component : ℕ) (one other : List ℕ) (s t : Stop) (fault : StreamFault) → one ≡ other → s ≡ t → BreaksData p width height component one s fault
    → BreaksData p width height component other t fault
data_same p width height component one other s t fault same stops breaks =
    subst (λ d. BreaksData p width height component d t fault) same (subst (λ (u : Stop). BreaksData p width height component one u fault) stops breaks)

scans_more : (p : Parameters) (width height component : ℕ) (later bytes more : List ℕ) (fault : StreamFault) → DataDecided bytes
    → ScansStop p width height component later bytes fault → ScansStop p width height component later (bytes ++ more) fault
scans_more p width height component [] bytes more fault decided stops =
    let is = kept bytes more decided in
    elim stops [
      | inl breaks ↦ inl (data_same p width height component _ _ _ _ fault (sym is.stuffed) (sym is.stop) breaks)
      | inr a ↦ inr (subst (IsPlaneData p width height) (sym is.stuffed) a.0, end_more bytes more decided ∙ ap (changed (bytes_more more)) a.1)
    ]
scans_more p width height component (id ∷ later) bytes more fault decided stops =
    let is = kept bytes more decided in
    let scan = scan_more id bytes more decided in
    elim stops [
      | inl breaks ↦ inl (data_same p width height component _ _ _ _ fault (sym is.stuffed) (sym is.stop) breaks)
      | inr a ↦ inr (
        subst (IsPlaneData p width height) (sym is.stuffed) a.0,
        elim a.1 [
          | inl bad ↦ inl (scan ∙ ap (changed (bytes_more more)) bad)
          | inr b ↦ inr (
            b.0 ++ more,
            scan ∙ ap (changed (bytes_more more)) b.1,
            scans_more p width height (component + 1) later b.0 more fault (next_decided id (after_data bytes) b.0 decided b.1) b.2,
          )
        ],
      )
    ]

scans_fewer : (p : Parameters) (width height component : ℕ) (later bytes more : List ℕ) (fault : StreamFault) → DataDecided bytes
    → ScansStop p width height component later (bytes ++ more) fault → ScansStop p width height component later bytes fault
scans_fewer p width height component [] bytes more fault decided stops =
    let is = kept bytes more decided in
    elim stops [
      | inl breaks ↦ inl (data_same p width height component _ _ _ _ fault is.stuffed is.stop breaks)
      | inr a ↦ inr (
        subst (IsPlaneData p width height) is.stuffed a.0,
        changed_err (bytes_more more) (end_at (after_data bytes)) fault (sym (end_more bytes more decided) ∙ a.1),
      )
    ]
scans_fewer p width height component (id ∷ later) bytes more fault decided stops =
    let is = kept bytes more decided in
    let scan = sym (scan_more id bytes more decided) in
    let few = next_scan_at id (after_data bytes) in
    elim stops [
      | inl breaks ↦ inl (data_same p width height component _ _ _ _ fault is.stuffed is.stop breaks)
      | inr a ↦ inr (
        subst (IsPlaneData p width height) is.stuffed a.0,
        elim a.1 [
          | inl bad ↦ inl (changed_err (bytes_more more) few fault (scan ∙ bad))
          | inr b ↦
              let c = changed_ok (bytes_more more) few b.0 (scan ∙ b.1) in
              inr (
                c.0,
                c.1,
                scans_fewer p width height (component + 1) later c.0 more fault (next_decided id (after_data bytes) c.0 decided c.1)
                    (subst (λ bs. ScansStop p width height (component + 1) later bs fault) c.2 b.2),
              )
        ],
      )
    ]

-- ---- the fault isn't Truncated

data_other : (p : Parameters) (width height component : ℕ) (stuffed : List ℕ) (stop : Stop) (fault : StreamFault) → stop ≡ Marker → BreaksData p width height component stuffed stop fault
    → fault ≡ Truncated → ⊥
data_other p width height component stuffed stop fault at (wrong_code breaks is) e = cc
data_other p width height component stuffed stop fault at (marker_early breaks here is) e = cc
data_other p width height component stuffed stop fault at (input_ends breaks here is) e = cc
data_other p width height component stuffed stop fault at (leftover many is) e = cc

truncated_by : {X : Type 0} (r : Result X StreamFault) (fault : StreamFault) → IsDecided r → r ≡ Err fault → fault ≡ Truncated → ⊥
truncated_by {X} r fault decided e is = decided (e ∙ ap (λ d. failed {X = X} d) is)

scans_other : (p : Parameters) (width height component : ℕ) (later bytes : List ℕ) (fault : StreamFault) → DataDecided bytes → ScansStop p width height component later bytes fault
    → fault ≡ Truncated → ⊥
scans_other p width height component [] bytes fault decided stops =
    let stop : stop_at (after_data bytes) ≡ Marker = ap (λ b. cond b Marker End) (follows bytes decided) in
    elim stops [
      | inl breaks ↦ data_other p width height component _ _ fault stop breaks
      | inr a ↦ truncated_by (end_at (after_data bytes)) fault (end_decided (after_data bytes) decided) a.1
    ]
scans_other p width height component (id ∷ later) bytes fault decided stops =
    let stop : stop_at (after_data bytes) ≡ Marker = ap (λ b. cond b Marker End) (follows bytes decided) in
    elim stops [
      | inl breaks ↦ data_other p width height component _ _ fault stop breaks
      | inr a ↦ elim a.1 [
        | inl bad ↦ truncated_by (next_scan_at id (after_data bytes)) fault (scan_decided id (after_data bytes) decided) bad
        | inr b ↦ scans_other p width height (component + 1) later b.0 fault (next_decided id (after_data bytes) b.0 decided b.1) b.2
      ]
    ]

-- ---- all of it

opening_decided : (bytes : List ℕ) → IsDecided (extent_at bytes) → IsDecided (opening_at bytes)
opening_decided bytes decided e = decided (along_err (λ (x : Frame). segments_at (after_data x.2)) (opening_at bytes) (extent_at bytes) (opening_along bytes) e)

opened_decided : (bytes : List ℕ) (x : Frame) → IsDecided (extent_at bytes) → opening_at bytes ≡ Ok x → DataDecided x.2
opened_decided bytes x decided e truncated =
    decided (along_ok (λ (x : Frame). segments_at (after_data x.2)) (opening_at bytes) (extent_at bytes) x (opening_along bytes) e ∙ truncated)

opening_more : (bytes more : List ℕ) → IsDecided (extent_at bytes) → opening_at (bytes ++ more) ≡ changed (third_more more) (opening_at bytes)
opening_more bytes more decided = grown_decided (third_more more) (opening_at bytes) (opening_at (bytes ++ more)) (opening_grown bytes more) (opening_decided bytes decided)

stops_more : (bytes more : List ℕ) (fault : StreamFault) → IsDecided (extent_at bytes) → DecodingStops bytes fault → DecodingStops (bytes ++ more) fault
stops_more bytes more fault decided (at_opening bad) = at_opening (opening_more bytes more decided ∙ ap (changed (third_more more)) bad)
stops_more bytes more fault decided (at_scans h p rest opened stops) =
    at_scans h p (rest ++ more) (opening_more bytes more decided ∙ ap (changed (third_more more)) opened)
    (scans_more p h.width h.height 0 (drop 1 (ids_in h)) rest more fault (opened_decided bytes (h, p, rest) decided opened) stops)

stops_fewer : (bytes more : List ℕ) (fault : StreamFault) → IsDecided (extent_at bytes) → DecodingStops (bytes ++ more) fault → DecodingStops bytes fault
stops_fewer bytes more fault decided (at_opening bad) = at_opening (changed_err (third_more more) (opening_at bytes) fault (sym (opening_more bytes more decided) ∙ bad))
stops_fewer bytes more fault decided (at_scans h p rest opened stops) =
    let few = changed_ok (third_more more) (opening_at bytes) (h, p, rest) (sym (opening_more bytes more decided) ∙ opened) in
    let x : Frame = few.0 in
    at_scans x.0 x.1 x.2 few.1
    (scans_fewer x.1 x.0.width x.0.height 0 (drop 1 (ids_in x.0)) x.2 more fault (opened_decided bytes x decided few.1)
    (subst (λ (y : Frame). ScansStop y.1 y.0.width y.0.height 0 (drop 1 (ids_in y.0)) y.2 fault) few.2 stops))

stops_other : (bytes : List ℕ) (fault : StreamFault) → IsDecided (extent_at bytes) → DecodingStops bytes fault → fault ≡ Truncated → ⊥
stops_other bytes fault decided (at_opening bad) = truncated_by (opening_at bytes) fault (opening_decided bytes decided) bad
stops_other bytes fault decided (at_scans h p rest opened stops) =
    scans_other p h.width h.height 0 (drop 1 (ids_in h)) rest fault (opened_decided bytes (h, p, rest) decided opened) stops

-- ---- the next codestream

-- no more bytes than a codestream may have
few_fault : (bytes : List ℕ) (fault : StreamFault) → length bytes ≤ most_bytes → fault_of bytes fault ≡ fault
few_fault bytes fault few = cond-false (ltb most_bytes (length bytes)) (past_most fault) fault (le-ltb most_bytes (length bytes) few)

decided_alike : (bytes rest : List ℕ) (fault : StreamFault) → length bytes ≤ most_bytes → IsDecided (extent_at bytes)
    → (StopsWith bytes fault → StopsWith (bytes ++ rest) fault) × (StopsWith (bytes ++ rest) fault → StopsWith bytes fault)
decided_alike bytes rest fault few decided =
    let more : List ℕ = take (most_bytes - length bytes) rest in
    let all = first_all bytes few in
    let first = first_of most_bytes bytes rest few in (
      λ s.
          let stops : DecodingStops bytes s.0 = subst (λ bs. DecodingStops bs s.0) all s.2 in (
            s.0,
            s.1 ∙ few_fault bytes s.0 few ∙ sym (fault_kept (bytes ++ rest) s.0 (stops_other bytes s.0 decided stops)),
            subst (λ bs. DecodingStops bs s.0) (sym first) (stops_more bytes more s.0 decided stops),
          ),
      λ s.
          let stops : DecodingStops bytes s.0 = stops_fewer bytes more s.0 decided (subst (λ bs. DecodingStops bs s.0) first s.2) in (
            s.0,
            s.1 ∙ fault_kept (bytes ++ rest) s.0 (stops_other bytes s.0 decided stops) ∙ sym (few_fault bytes s.0 few),
            subst (λ bs. DecodingStops bs s.0) (sym all) stops,
          ),
    )

pub next_stops_alike : NextStopsAlike
next_stops_alike bytes rest next fault = elim next.enough [
  | inl decided ↦ decided_alike bytes rest fault next.short decided
  | inr end ↦
      let same : bytes ++ rest ≡ bytes = ap (λ bs. bytes ++ bs) end ∙ append-nil bytes in (
        λ s. subst (λ bs. StopsWith bs fault) (sym same) s,
        λ s. subst (λ bs. StopsWith bs fault) same s,
      )
]
