-- The bytes of the next codestream, found by its markers alone, and what decoding finds in them: the same as in all remaining bytes.
use Rattle.std.proofs.Common.{◌≡◌, ◌⊎◌, ℕ, ◌+◌, ◌-◌, ◌<◌, ◌≤◌, ltb, List, [], ◌∷◌, ◌++◌, length, take, drop, inl, inr, Option, None, Some, Result, Ok, Err, MatchResult, refl, sym, ap, subst, ◌∙◌, arith, append_assoc, append-nil, length-append, take-append-drop}
use Rattle.std.specs.Prelude.{MatchOption, IfOk, IfErr, IfSome}
use Rattle.std.proofs.lemmas.Bool.{cases_Bool, cond-true, cond-false, le-ltb, ltb-true, ltb-false}
use Rattle.std.proofs.lemmas.List.{take-append-le, take_all, drop_all, take_at}
use Rattle.ls_frame.specs.Picture.{Picture}
use Rattle.ls_frame.specs.View.Known.{Tells, known}
use Rattle.ls_stream.specs.declared.faults.StreamFault.{StreamFault}
use Rattle.ls_stream.specs.declared.faults.StreamFault.TheVariants.{Truncated}
use Rattle.ls_stream.specs.declared.next.NextFault.{NextFault}
use Rattle.ls_stream.specs.declared.next.NextFault.TheVariants as next_fault
use Rattle.ls_stream.specs.Grammar.{Spells, most_bytes}
use Rattle.ls_stream.specs.View.Reading.{Take, start_at}
use Rattle.ls_stream.specs.View.Outlines.{Outline, past_most, fault_of, of_all, outline_at, outline_of}
use Rattle.ls_stream.specs.View.Extents.{Left, extent_at, IsNext, IsEndless, BeginsEndless, with_left, SpellingsHaveExtents, OutlinesHaveExtents, TooFewForBoth, OneIsNext}
use Rattle.ls_stream.specs.View.Places.{IsTooLong, GivesNext}
use Rattle.ls_stream.proofs.StepLemmas.{same_ok, same_fault}
use Rattle.ls_stream.proofs.BreakLemmas.{no_err}
use Rattle.ls_stream.proofs.MostLemmas.{first_of, left_of, past_other}
use Rattle.ls_stream.proofs.OutlineLemmas.{spellings_have_outlines}
use Rattle.ls_stream.proofs.GrownLemmas.{changed, bytes_more, left_more, extent_grown, outline_grown}
use Rattle.ls_stream.proofs.AlongLemmas.{IsAlong, outline_along}

-- ---- codestreams of frames

pub along_ok : {X : Type 0} (after : X → Left) (r : Result X StreamFault) (extent : Left) (x : X) → IsAlong after r extent → r ≡ Ok x → extent ≡ after x
along_ok after (Ok y) extent x along e = along ∙ ap after (same_ok y x e)
along_ok after (Err fault) extent x along e = absurd (no_err x fault (sym e))

-- a codestream of a frame is read to its end
pub outlines_have_extents : OutlinesHaveExtents
outlines_have_extents bytes rest o e = along_ok (λ (x : Outline × List ℕ). Ok x.1) (outline_at bytes) (extent_at bytes) (o, rest) (outline_along bytes) e

pub spellings_have_extents : SpellingsHaveExtents
spellings_have_extents front rest f spelled =
    let found = spellings_have_outlines front rest f spelled in
    outlines_have_extents (front ++ rest) rest found.0 found.1

spelled_alone : (front : List ℕ) (f : Picture) → Spells front f → extent_at front ≡ Ok []
spelled_alone front f spelled = ap extent_at (sym (append-nil front)) ∙ spellings_have_extents front [] f spelled

-- so it isn't undecided
pub never_undecided : (front : List ℕ) (f : Picture) → Spells front f → extent_at front ≡ Err Truncated → ⊥
never_undecided front f spelled e = no_err [] Truncated (sym (spelled_alone front f spelled) ∙ e)

-- of two fronts of the same bytes the shorter is a front of the longer
shorter_front : (one other x y : List ℕ) → one ++ x ≡ other ++ y → length one ≤ length other → take (length one) other ≡ one
shorter_front one other x y same few =
    sym (take-append-le (length one) other y few) ∙ ap (take (length one)) (sym same) ∙ take_at one x (length one) refl

undecided_front : (front bytes x y : List ℕ) (f : Picture) → Spells front f → bytes ++ x ≡ front ++ y → length front ≤ length bytes
    → extent_at (take (length front) bytes) ≡ Err Truncated → ⊥
undecided_front front bytes x y f spelled same few undecided =
    never_undecided front f spelled (ap extent_at (sym (shorter_front front bytes y x (sym same) few)) ∙ undecided)

-- ---- it is the next codestream

-- the bytes after a front of those that are decided
more_of : (bytes front x y : List ℕ) → bytes ++ x ≡ front ++ y → length bytes ≤ length front → front ≡ bytes ++ drop (length bytes) front
more_of bytes front x y same few =
    sym (take-append-drop (length bytes) front) ∙ ap (λ bs. bs ++ drop (length bytes) front) (shorter_front bytes front x y same few)

no_length : (bytes : List ℕ) → length bytes ≡ 0 → bytes ≡ []
no_length [] none = refl
no_length (byte ∷ bytes) none = absurd (omega arith)

nothing_more : (r : Left) (more : List ℕ) → changed (bytes_more more) r ≡ Ok [] → more ≡ []
nothing_more (Ok left) more e = let size = ap length (same_ok (left ++ more) [] e) in no_length more (omega (arith, size, length-append left more))
nothing_more (Err fault) more e = absurd (no_err [] fault (sym e))

-- decided bytes with more after them aren't read to their end
past_end : (bytes more : List ℕ) → (extent_at bytes ≡ Err Truncated → ⊥) → extent_at (bytes ++ more) ≡ Ok [] → more ≡ []
past_end bytes more decided e = elim (extent_grown bytes more) [
  | inl truncated ↦ absurd (decided truncated)
  | inr grown ↦ nothing_more (extent_at bytes) more (sym grown ∙ e)
]

-- a front that is a codestream of a frame is the next codestream
pub next_is : (bytes rest front other : List ℕ) (f : Picture) → IsNext bytes rest → bytes ++ rest ≡ front ++ other → Spells front f → bytes ≡ front
next_is bytes rest front other f next same spelled = elim (cases_Bool (ltb (length front) (length bytes))) [
  | inl fewer ↦
      let less : length front < length bytes = ltb-true (length front) (length bytes) fewer in
      absurd (undecided_front front bytes rest other f spelled same (omega arith) (next.least (length front) less))
  | inr most ↦
      let few : length bytes ≤ length front = ltb-false (length front) (length bytes) most in
      let more : List ℕ = drop (length bytes) front in
      let whole : front ≡ bytes ++ more = more_of bytes front rest other same few in
      elim next.enough [
        | inl decided ↦
            let none : more ≡ [] = past_end bytes more decided (ap extent_at (sym whole) ∙ spelled_alone front f spelled) in
            sym (whole ∙ ap (λ bs. bytes ++ bs) none ∙ append-nil bytes)
        | inr end ↦
            let sizes : length bytes ≡ length front + length other =
            ap length (sym (append-nil bytes) ∙ ap (λ bs. bytes ++ bs) (sym end) ∙ same) ∙ length-append front other in
            let size : length bytes ≡ length front = omega arith in
            sym (take_all (length bytes) bytes (omega arith)) ∙ ap (λ n. take n bytes) size ∙ shorter_front front bytes other rest (sym same) (omega arith)
      ]
]

-- one of two that are next isn't shorter than the other
not_shorter : (bytes rest other left : List ℕ) → IsNext bytes rest → IsNext other left → bytes ++ rest ≡ other ++ left → length bytes < length other → ⊥
not_shorter bytes rest other left next next' same less =
    let undecided : extent_at bytes ≡ Err Truncated =
    ap extent_at (sym (shorter_front bytes other rest left same (omega arith))) ∙ next'.least (length bytes) less in
    elim next.enough [
      | inl decided ↦ decided undecided
      | inr end ↦
          let sizes : length bytes ≡ length other + length left =
          ap length (sym (append-nil bytes) ∙ ap (λ bs. bytes ++ bs) (sym end) ∙ same) ∙ length-append other left in
          absurd (omega arith)
    ]

pub one_is_next : OneIsNext
one_is_next bytes rest other left next next' same = elim (cases_Bool (ltb (length bytes) (length other))) [
  | inl less ↦ absurd (not_shorter bytes rest other left next next' same (ltb-true (length bytes) (length other) less))
  | inr most ↦ elim (cases_Bool (ltb (length other) (length bytes))) [
    | inl more ↦ absurd (not_shorter other left bytes rest next' next (sym same) (ltb-true (length other) (length bytes) more))
    | inr few ↦
        let low : length other ≤ length bytes = ltb-false (length bytes) (length other) most in
        let high : length bytes ≤ length other = ltb-false (length other) (length bytes) few in
        let size : length bytes ≡ length other = omega arith in
        sym (shorter_front bytes other rest left same high) ∙ ap (λ n. take n other) size ∙ take_all (length other) other (omega arith)
  ]
]

-- ---- the outline of all remaining bytes

-- an outline of decided bytes isn't undecided
pub along_err : {X : Type 0} (after : X → Left) (r : Result X StreamFault) (extent : Left) → IsAlong after r extent → r ≡ Err Truncated → extent ≡ Err Truncated
along_err after (Ok x) extent along e = absurd (no_err x Truncated e)
along_err {X} after (Err fault) extent along e = along (same_fault {A = X} fault Truncated e)

pub too_few_for_both : TooFewForBoth
too_few_for_both bytes e = along_err (λ (x : Outline × List ℕ). Ok x.1) (outline_at bytes) (extent_at bytes) (outline_along bytes) e

decided_outline : (bytes : List ℕ) → (extent_at bytes ≡ Err Truncated → ⊥) → outline_at bytes ≡ Err Truncated → ⊥
decided_outline bytes decided e = decided (too_few_for_both bytes e)

-- what is read of bytes, no more than the most, is read of all of them
of_few : {X : Type 0} (bytes : List ℕ) (r : Take X) → length bytes ≤ most_bytes → of_all bytes r ≡ r
of_few bytes (Ok found) few = ap (λ bs. Ok (found.0, found.1 ++ bs)) (drop_all most_bytes bytes few) ∙ ap (λ bs. Ok (found.0, bs)) (append-nil found.1)
of_few bytes (Err fault) few = ap (λ (f : StreamFault). Err f) (cond-false (ltb most_bytes (length bytes)) (past_most fault) fault (le-ltb most_bytes (length bytes) few))

outline_few : (bytes : List ℕ) → length bytes ≤ most_bytes → outline_of bytes ≡ outline_at bytes
unfolding outline_of
outline_few bytes few = ap (λ bs. of_all bytes (outline_at bs)) (take_all most_bytes bytes few) ∙ of_few bytes (outline_at bytes) few

-- another fault than the end is one of all bytes
pub fault_kept : (bytes : List ℕ) (fault : StreamFault) → (fault ≡ Truncated → ⊥) → fault_of bytes fault ≡ fault
fault_kept bytes fault other = elim (cases_Bool (ltb most_bytes (length bytes))) [
  | inl more ↦ cond-true (ltb most_bytes (length bytes)) (past_most fault) fault more ∙ past_other fault other
  | inr few ↦ cond-false (ltb most_bytes (length bytes)) (past_most fault) fault few
]

joined : {X : Type 0} (r : Take X) (bytes rest : List ℕ) → length bytes ≤ most_bytes → (r ≡ Err Truncated → ⊥)
    → of_all (bytes ++ rest) (changed (left_more (take (most_bytes - length bytes) rest)) r) ≡ with_left rest r
joined (Ok found) bytes rest few decided =
    ap (λ bs. Ok (found.0, bs))
    (append_assoc found.1 (take (most_bytes - length bytes) rest) (drop most_bytes (bytes ++ rest)) ∙ ap (λ bs. found.1 ++ bs) (left_of most_bytes bytes rest few))
joined {X} (Err fault) bytes rest few decided =
    ap (λ (f : StreamFault). Err f) (fault_kept (bytes ++ rest) fault (λ e. decided (ap (λ (f : StreamFault). Err f) e)))

left_none : {X : Type 0} (r : Take X) → with_left [] r ≡ r
left_none (Ok found) = ap (λ bs. Ok (found.0, bs)) (append-nil found.1)
left_none (Err fault) = refl

-- the outline of the next codestream is that of all remaining bytes
pub next_outline : (bytes rest : List ℕ) → IsNext bytes rest → outline_of (bytes ++ rest) ≡ with_left rest (outline_of bytes)
unfolding outline_of
next_outline bytes rest next = elim next.enough [
  | inl decided ↦
      let more : List ℕ = take (most_bytes - length bytes) rest in
      let decided' = decided_outline bytes decided in
      elim (outline_grown bytes more) [
        | inl truncated ↦ absurd (decided' truncated)
        | inr grown ↦
            ap (λ bs. of_all (bytes ++ rest) (outline_at bs)) (first_of most_bytes bytes rest next.short)
            ∙ ap (of_all (bytes ++ rest)) grown
            ∙ joined (outline_at bytes) bytes rest next.short decided'
            ∙ ap (with_left rest) (sym (outline_few bytes next.short))
      ]
  | inr end ↦
      ap outline_of (ap (λ bs. bytes ++ bs) end ∙ append-nil bytes) ∙ sym (left_none (outline_of bytes)) ∙ ap (λ bs. with_left bs (outline_of bytes)) (sym end)
]

-- ---- for the code

-- no bytes are no codestream of a frame
nothing_spelled : (front rest : List ℕ) (f : Picture) → [] ≡ front ++ rest → Spells front f → ⊥
unfolding extent_at start_at
nothing_spelled [] rest f same spelled = never_undecided [] f spelled refl
nothing_spelled (byte ∷ front) rest f same spelled = absurd (let size = ap length same in omega arith)

-- nor is a front of too many undecided bytes one
long_spelled : (old new front rest : List ℕ) (f : Picture) → IsTooLong old new → old ≡ front ++ rest → Spells front f → ⊥
long_spelled old new front rest f long same spelled =
    let few : length front ≤ length long.read = omega (arith, long.most, spelled.short) in
    undecided_front front long.read new rest f spelled (sym long.whole ∙ same) few (long.undecided (length front) few)

abbrev Neither : List ℕ → List ℕ → Type 0
Neither old new = (old ≡ []) × (new ≡ [])

abbrev Both : List ℕ → List ℕ → List ℕ → Type 0
Both old bytes new = (old ≡ bytes ++ new) × IsNext bytes new

abbrev IsWhole : {X : Type 0} → (X → List ℕ) → List ℕ → Result (Option X) NextFault → Type 0
IsWhole view front result = MatchResult result (λ next. MatchOption next ⊥ (λ bytes. view bytes ≡ front)) (λ fault. (fault ≡ next_fault.Io) ⊎ (fault ≡ next_fault.NoMemory))

pub whole_given : {X : Type 0} (view : X → List ℕ) (old new : Option (List ℕ)) (result : Result (Option X) NextFault) → GivesNext view old new result → Tells old
    → (front rest : List ℕ) (f : Picture) → known old ≡ front ++ rest → Spells front f → IsWhole view front result
whole_given view old new (Ok None) gives told front rest f same spelled =
    let given : Tells new × Neither (known old) (known new) = gives told in
    absurd (nothing_spelled front rest f (sym given.1.0 ∙ same) spelled)
whole_given view old new (Ok (Some bytes)) gives told front rest f same spelled =
    let given : Tells new × Both (known old) (view bytes) (known new) = gives told in
    next_is (view bytes) (known new) front rest f given.1.1 (sym given.1.0 ∙ same) spelled
whole_given view old new (Err next_fault.TooLarge) gives told front rest f same spelled =
    let given : Tells new × IsTooLong (known old) (known new) = gives told in absurd (long_spelled (known old) (known new) front rest f given.1 same spelled)
whole_given view old new (Err next_fault.Io) gives told front rest f same spelled = inl refl
whole_given view old new (Err next_fault.NoMemory) gives told front rest f same spelled = inr refl

pub outline_given : {X : Type 0} (view : X → List ℕ) (old new : Option (List ℕ)) (result : Result (Option X) NextFault) → GivesNext view old new result
    → IfOk result (λ next. IfSome next (λ bytes. Tells old → outline_of (known old) ≡ with_left (known new) (outline_of (view bytes))))
outline_given view old new (Ok None) gives = tt
outline_given view old new (Ok (Some bytes)) gives = λ told.
    let given : Tells new × Both (known old) (view bytes) (known new) = gives told in
    ap outline_of given.1.0 ∙ next_outline (view bytes) (known new) given.1.1
outline_given view old new (Err fault) gives = tt

-- the most bytes were read, undecided: the old bytes begin with them
endless_front : (old new : List ℕ) → IsTooLong old new → BeginsEndless old
endless_front old new long =
    let front : take most_bytes old ≡ long.read = ap (take most_bytes) long.whole ∙ take_at long.read new most_bytes long.most in
    subst IsEndless (sym front)
    (long.most, ap extent_at (sym (take_all (length long.read) long.read (omega arith))) ∙ long.undecided (length long.read) (omega arith))

pub endless_given : {X : Type 0} (view : X → List ℕ) (old new : Option (List ℕ)) (result : Result (Option X) NextFault) → GivesNext view old new result
    → IfErr result (λ fault. fault ≡ next_fault.TooLarge → Tells old → BeginsEndless (known old))
endless_given view old new (Ok next) gives = tt
endless_given view old new (Err next_fault.TooLarge) gives = λ is told.
    let given : Tells new × IsTooLong (known old) (known new) = gives told in endless_front (known old) (known new) given.1
endless_given view old new (Err next_fault.Io) gives = λ is. absurd cc
endless_given view old new (Err next_fault.NoMemory) gives = λ is. absurd cc
