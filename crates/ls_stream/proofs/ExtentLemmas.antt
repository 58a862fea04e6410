-- The bytes of the next codestream, byte by byte: up to where they were read, and what they are once they show an end or a fault.
use Rattle.std.proofs.Common.{◌≡◌, ℕ, ◌+◌, ◌<◌, ◌≤◌, leb, List, [], ◌∷◌, ◌++◌, length, take, inl, inr, Err, refl, sym, ap, ◌∙◌, arith, append_assoc, append-nil, length-append}
use Rattle.std.proofs.lemmas.Bool.{cases_Bool, leb-true, leb-false}
use Rattle.std.proofs.lemmas.List.{take-append-le, take_all}
use Rattle.ls_stream.specs.declared.faults.StreamFault.TheVariants.{Truncated}
use Rattle.ls_stream.specs.declared.next.awaited.Awaited.{Awaited}
use Rattle.ls_stream.specs.declared.next.awaited.Awaited.TheVariants as awaited
use Rattle.ls_stream.specs.Grammar.{most_bytes}
use Rattle.ls_stream.specs.View.Extents.{extent_at, IsNext}
use Rattle.ls_stream.specs.View.Places.{read_on, GoesOn, Ends, IsPlaceAfter}
use Rattle.ls_stream.proofs.StepLemmas.{same_ok, same_fault}
use Rattle.ls_stream.proofs.BreakLemmas.{no_err}
use Rattle.ls_stream.proofs.PlaceLemmas.{read_on-none}

-- nothing was read
pub none_reached : IsPlaceAfter awaited.Start []
unfolding read_on
none_reached = record {
  on = λ rest. refl;
  undecided = λ count few. let none : count ≡ 0 = omega arith in ap (λ n. extent_at (take n [])) none ∙ read_on-none awaited.Start;
}

-- the bytes read so far are undecided
pub reached_undecided : (place : Awaited) (bytes : List ℕ) → IsPlaceAfter place bytes → extent_at bytes ≡ Err Truncated
reached_undecided place bytes reached = ap extent_at (sym (append-nil bytes)) ∙ reached.on [] ∙ read_on-none place

grown_one : (bytes : List ℕ) (byte : ℕ) → length (bytes ++ byte ∷ []) ≡ length bytes + 1
grown_one bytes byte = length-append bytes (byte ∷ [])

-- one more byte
pub one_more : (place next : Awaited) (bytes : List ℕ) (byte : ℕ) → IsPlaceAfter place bytes → GoesOn place byte next → IsPlaceAfter next (bytes ++ byte ∷ [])
one_more place next bytes byte reached goes =
    let all : List ℕ = bytes ++ byte ∷ [] in
    let on : (rest : List ℕ) → extent_at (all ++ rest) ≡ read_on next rest = λ rest.
    ap extent_at (append_assoc bytes (byte ∷ []) rest) ∙ reached.on (byte ∷ rest) ∙ goes.on rest in
    record {
      on = on;
      undecided = λ count few. elim (cases_Bool (leb count (length bytes))) [
        | inl fewer ↦
            let within = leb-true count (length bytes) fewer in
            ap extent_at (take-append-le count bytes (byte ∷ []) within) ∙ reached.undecided count within
        | inr more ↦
            let over = leb-false count (length bytes) more in
            ap extent_at (take_all count all (omega (arith, over, grown_one bytes byte)) ∙ sym (append-nil all)) ∙ on [] ∙ read_on-none next
      ];
    }

-- the last byte
pub ended : (place : Awaited) (bytes rest : List ℕ) (byte : ℕ) → IsPlaceAfter place bytes → Ends place byte → length bytes < most_bytes → IsNext (bytes ++ byte ∷ []) rest
ended place bytes rest byte reached ends few = record {
  some = omega (arith, grown_one bytes byte);
  short = omega (arith, grown_one bytes byte);
  least = λ count less.
      let within : count ≤ length bytes = omega (arith, grown_one bytes byte) in
      ap extent_at (take-append-le count bytes (byte ∷ []) within) ∙ reached.undecided count within;
  enough = inl (λ truncated. elim ends.ends [
    | inl all ↦ no_err [] Truncated (sym (all []) ∙ sym (reached.on (byte ∷ [])) ∙ truncated)
    | inr bad ↦ bad.1 (same_fault {A = List ℕ} bad.0 Truncated (sym (bad.2 []) ∙ sym (reached.on (byte ∷ [])) ∙ truncated))
  ]);
  to_end = λ left whole. elim ends.ends [
    | inl all ↦ same_ok left [] (sym whole ∙ reached.on (byte ∷ []) ∙ all [])
    | inr bad ↦ absurd (no_err left bad.0 (sym whole ∙ reached.on (byte ∷ []) ∙ bad.2 []))
  ];
}

-- the end of input
pub cut_off : (place : Awaited) (bytes rest : List ℕ) → IsPlaceAfter place bytes → 0 < length bytes → length bytes ≤ most_bytes → rest ≡ [] → IsNext bytes rest
cut_off place bytes rest reached some short end = record {
  some = some;
  short = short;
  least = λ count less. reached.undecided count (omega arith);
  enough = inr end;
  to_end = λ left whole. absurd (no_err left Truncated (sym whole ∙ reached_undecided place bytes reached));
}
