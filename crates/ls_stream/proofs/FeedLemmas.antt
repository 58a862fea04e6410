-- Bytes that are taken from a reader up to a marker, after those that were taken before, and the place to which they lead.
use Rattle.std.proofs.Common.{◌≡◌, ℕ, suc, Bool, true, false, ◌-◌, ◌<◌, ◌≤◌, List, [], ◌∷◌, ◌++◌, ◌⊎◌, inl, inr, length, get_or, Option, Some, None, IfSome, refl, sym, ap, subst, ◌∙◌, arith, append_assoc, append-nil, length-append}
use Rattle.std.proofs.lemmas.Bool.{cases_order}
use Rattle.std.proofs.lemmas.List.{take_all}
use Rattle.std.specs.Io.KnownBytes.{Keeps}
use Rattle.ls_frame.specs.View.Known.{Tells, Gave, TakesPast, ArePassed, known}
use Rattle.ls_frame.proofs.KnownLemmas.{known-consumed}
use Rattle.ls_stream.specs.declared.next.awaited.Awaited.{Awaited}
use Rattle.ls_stream.specs.declared.next.awaited.Awaited.TheVariants as awaited
use Rattle.ls_stream.specs.Grammar.{most_bytes}
use Rattle.ls_stream.specs.View.Extents.{IsNext, IsUndecided, extent_at}
use Rattle.ls_stream.specs.View.Places.{GoesOn, Ends, IsPlaceAfter, read_on}
use Rattle.ls_stream.proofs.ExtentLemmas.{one_more, ended}
use Rattle.ls_stream.proofs.PlaceLemmas.{data_ff, data_other, code_low}

-- Before a byte of data: these bytes lead to a place from which that byte leads on as it does from data.
record IsBefore (place : Awaited) (bytes : List ℕ) (last : ℕ) : Type 0 where
  from : Awaited
  reached : IsPlaceAfter from bytes
  same : (rest : List ℕ) → read_on from (last ∷ rest) ≡ read_on place (last ∷ rest)

-- in data, or after an FF in it
after_ff : Bool → Awaited
after_ff false = awaited.Data
after_ff true = awaited.DataCode

-- data whose FFs are followed by bytes below 80 is followed by data
passed_on : (ff : Bool) (bytes run : List ℕ) (last : ℕ) → IsPlaceAfter (after_ff ff) bytes → (ff ≡ true → get_or (run ++ last ∷ []) 0 0 < 128) → ArePassed 255 128 (run ++ last ∷ [])
    → IsBefore awaited.Data (bytes ++ run) last
unfolding after_ff
passed_on false bytes [] last reached low passed =
    record { from = awaited.Data; reached = subst (IsPlaceAfter awaited.Data) (sym (append-nil bytes)) reached; same = λ rest. refl }
passed_on true bytes [] last reached low passed =
    let below : last < 128 = low refl in
    record {
      from = awaited.DataCode;
      reached = subst (IsPlaceAfter awaited.DataCode) (sym (append-nil bytes)) reached;
      same = λ rest. (code_low last below).on rest ∙ sym ((data_other last (λ is. absurd (omega (arith, below, is)))).on rest);
    }
passed_on true bytes (byte ∷ run) last reached low passed =
    let below : byte < 128 = low refl in
    subst (λ bs. IsBefore awaited.Data bs last) (append_assoc bytes (byte ∷ []) run)
    (passed_on false (bytes ++ byte ∷ []) run last (one_more awaited.DataCode awaited.Data bytes byte reached (code_low byte below)) (λ no. let clash : ⊥ = cc in absurd clash)
    (λ k less is. passed (suc k) (omega (arith, less)) is))
passed_on false bytes (byte ∷ run) last reached low passed =
    let size = length-append run (last ∷ []) in
    subst (λ bs. IsBefore awaited.Data bs last) (append_assoc bytes (byte ∷ []) run)
    (elim (cases_order byte 255) [
      | inl is ↦
          passed_on true (bytes ++ byte ∷ []) run last (one_more awaited.Data awaited.DataCode bytes byte reached (data_ff byte is)) (λ yes. passed 0 (omega (arith, size)) is)
          (λ k less is. passed (suc k) (omega (arith, less)) is)
      | inr other ↦
          passed_on false (bytes ++ byte ∷ []) run last (one_more awaited.Data awaited.Data bytes byte reached (data_other byte (λ is. elim other [ inl less ↦ omega (arith, less, is) | inr more ↦ omega (arith, more, is) ])))
          (λ no. let clash : ⊥ = cc in absurd clash) (λ k less is. passed (suc k) (omega (arith, less)) is)
    ])

-- the same for what comes before a single byte
run_on : (place : Awaited) (bytes run : List ℕ) (last most : ℕ) → IsPlaceAfter place bytes → (place ≡ awaited.Data) ⊎ (most ≡ 1) → length run < most → ArePassed 255 128 (run ++ last ∷ [])
    → IsBefore place (bytes ++ run) last
unfolding after_ff
run_on place bytes [] last most reached at few passed =
    record { from = place; reached = subst (IsPlaceAfter place) (sym (append-nil bytes)) reached; same = λ rest. refl }
run_on place bytes (byte ∷ run) last most reached (inl here) few passed =
    subst (λ p. IsBefore p (bytes ++ byte ∷ run) last) (sym here)
    (passed_on false bytes (byte ∷ run) last (subst (λ p. IsPlaceAfter p bytes) here reached) (λ no. let clash : ⊥ = cc in absurd clash) passed)
run_on place bytes (byte ∷ run) last most reached (inr one) few passed = absurd (omega (arith, one))

-- all those bytes but the last lead to a place from which the last leads on as from `place`; what was read is what the reader gave
pub record IsOneMore (place : Awaited) (first new : Option (List ℕ)) (after : List ℕ) (last : ℕ) : Type 0 where
  pub before : List ℕ
  pub from : Awaited
  pub reached : IsPlaceAfter from before
  pub same : (rest : List ℕ) → read_on from (last ∷ rest) ≡ read_on place (last ∷ rest)
  pub parts : after ≡ before ++ last ∷ []
  pub few : length before < most_bytes
  pub read : Tells first → Tells new × (known first ≡ after ++ known new)

pub taken_on : (place : Awaited) (most : ℕ) (first old new : Option (List ℕ)) (bytes after : List ℕ) (last : ℕ) → IsPlaceAfter place bytes → (Tells first → Tells old × (known first ≡ bytes ++ known old))
    → (place ≡ awaited.Data) ⊎ (most ≡ 1) → most ≤ most_bytes - length bytes → TakesPast 255 128 most old new bytes after last → IsOneMore place first new after last
taken_on place most first old new bytes after last reached read at room taken = record {
  before = bytes ++ taken.run;
  from = (run_on place bytes taken.run last most reached at taken.few taken.passed).from;
  reached = (run_on place bytes taken.run last most reached at taken.few taken.passed).reached;
  same = (run_on place bytes taken.run last most reached at taken.few taken.passed).same;
  parts = taken.appended ∙ sym (append_assoc bytes taken.run (last ∷ []));
  few = let few = taken.few in omega (arith, length-append bytes taken.run);
  read = λ told.
      let before = read told in
      let given = known-consumed old new (taken.run ++ last ∷ []) before.0 taken.given in (
        given.0,
        before.1 ∙ ap (λ bs. bytes ++ bs) given.1 ∙ sym (append_assoc bytes (taken.run ++ last ∷ []) (known new)) ∙ ap (λ bs. bs ++ known new) (sym taken.appended),
      );
}

-- where reading goes on from with the last byte, or what ends with it
pub on_with : (place next : Awaited) (first new : Option (List ℕ)) (after : List ℕ) (last : ℕ) → IsOneMore place first new after last → GoesOn place last next → IsPlaceAfter next after
on_with place next first new after last one goes =
    subst (IsPlaceAfter next) (sym one.parts) (one_more one.from next one.before last one.reached (record { on = λ rest. one.same rest ∙ goes.on rest }))

ends_from : (from place : Awaited) (last : ℕ) → ((rest : List ℕ) → read_on from (last ∷ rest) ≡ read_on place (last ∷ rest)) → Ends place last → Ends from last
ends_from from place last same ends = elim ends.ends [
  | inl whole ↦ record { ends = inl (λ rest. same rest ∙ whole rest) }
  | inr bad ↦ record { ends = inr (bad.0, bad.1, λ rest. same rest ∙ bad.2 rest) }
]

pub ended_with : (place : Awaited) (first new : Option (List ℕ)) (after rest : List ℕ) (last : ℕ) → IsOneMore place first new after last → Ends place last → IsNext after rest
ended_with place first new after rest last one ends = subst (λ bs. IsNext bs rest) (sym one.parts) (ended one.from one.before rest last one.reached (ends_from one.from place last one.same ends) one.few)

pub length_with : (place : Awaited) (first new : Option (List ℕ)) (after : List ℕ) (last : ℕ) → IsOneMore place first new after last → length after ≤ most_bytes
length_with place first new after last one = let few = one.few in omega (arith, ap length one.parts, length-append one.before (last ∷ []))

-- what is known of a returned value
pub if_some : {A : Type 0} (P : A → Type 0) (next : Option A) (x : A) → next ≡ Some x → IfSome next P → P x
if_some P next x is holds = let found : IfSome (Some x) P = subst (λ o. IfSome o P) is holds in found

-- a read that failed took nothing, after bytes that were read and from which reading goes on
kept : (old new : Option (List ℕ)) → Keeps old new → Tells old → Tells new × (known new ≡ known old)
kept None new keeps told = let clash : ⊥ = cc in absurd clash
kept (Some bytes) None keeps told = absurd keeps
kept (Some bytes) (Some others) keeps told = (told, keeps)

pub failed_in : (place : Awaited) (first old new : Option (List ℕ)) (bytes after : List ℕ) → IsPlaceAfter place bytes → length bytes < most_bytes
    → (Tells first → Tells old × (known first ≡ bytes ++ known old)) → after ≡ bytes → Keeps old new → Gave first new (λ read. (after ≡ read) × IsUndecided read)
failed_in place first old new bytes after reached few read same keeps told =
    let before = read told in
    let now = kept old new keeps before.0 in
    let undecided : IsUndecided bytes = (few, ap extent_at (sym (take_all (length bytes) bytes (omega arith))) ∙ reached.undecided (length bytes) (omega arith)) in
    (now.0, bytes, before.1 ∙ ap (λ bs. bytes ++ bs) (sym now.1), (same, undecided))
