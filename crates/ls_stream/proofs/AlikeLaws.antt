-- Bytes have one first fault, so what is taken as the next codestream is decoded as all bytes from it on are.
use Rattle.std.proofs.lemmas.List.{length-take}
use Rattle.std.proofs.Common.{◌≡◌, ◌↔◌, ℕ, ◌≤◌, List, [], ◌++◌, length, take, drop, inl, inr, Option, None, Some, Result, Ok, Err, sym, ◌∙◌, ap, subst, append_assoc, append-nil, take-append-drop, arith}
use Rattle.std.specs.Prelude.{IfOk, IfSome, MatchOption}
use Rattle.ls_frame.specs.Picture.{Picture}
use Rattle.ls_frame.specs.View.Known.{Tells, known}
use Rattle.ls_bits.specs.Bits.{AreBytes}
use Rattle.ls_stream.specs.declared.decode.Decoded.{Decoded}
use Rattle.ls_stream.specs.declared.faults.StreamFault.{StreamFault}
use Rattle.ls_stream.specs.declared.next.NextFault.{NextFault}
use Rattle.ls_stream.specs.Grammar.{Spells, most_bytes}
use Rattle.ls_stream.specs.View.Outlines.{fault_of, IsFirstFault, OneFirstFault}
use Rattle.ls_stream.specs.View.Extents.{StopsWith, IsDecoding, AreAlike, NextHasTheFirstFault}
use Rattle.ls_stream.specs.View.Places.{GivesNext}
use Rattle.ls_stream.proofs.FaultLaws.{stops_are_first_faults}
use Rattle.ls_stream.proofs.FirstFaultLaws.{first_faults_are_stops}
use Rattle.ls_stream.proofs.FrameLaws.{LegalWithoutFault}
use Rattle.ls_stream.proofs.FrameReadingLemmas.{bytes_take}
use Rattle.ls_stream.proofs.NextStopLaws.{next_stops_alike}
use Rattle.ls_stream.proofs.OneFaultLemmas.{one_stop}
use Rattle.ls_stream.proofs.SegmentLemmas.{bytes_of_front}

-- ---- first faults, and where decoding stops

stops_with : (bytes : List ℕ) (fault : StreamFault) → AreBytes bytes → IsFirstFault bytes fault → StopsWith bytes fault
stops_with bytes fault are first = (first.0, first.1, first_faults_are_stops (take most_bytes bytes) first.0 (bytes_take most_bytes bytes are) first.2)

first_fault : (bytes : List ℕ) (fault : StreamFault) → AreBytes bytes → StopsWith bytes fault → IsFirstFault bytes fault
first_fault bytes fault are stops = (stops.0, stops.1, stops_are_first_faults (take most_bytes bytes) stops.0 (bytes_take most_bytes bytes are) stops.2)

pub one_first_fault : LegalWithoutFault → OneFirstFault
one_first_fault legal bytes fault other are first second =
    let one = stops_with bytes fault are first in
    let two = stops_with bytes other are second in
    one.1 ∙ ap (fault_of bytes) (one_stop legal (take most_bytes bytes) one.0 two.0 (bytes_take most_bytes bytes are) one.2 two.2) ∙ sym two.1

pub next_has_the_first_fault : NextHasTheFirstFault
next_has_the_first_fault bytes rest are next fault =
    let front : AreBytes bytes = bytes_of_front bytes rest are in
    let alike = next_stops_alike bytes rest next fault in (
      λ first. first_fault (bytes ++ rest) fault are (alike.0 (stops_with bytes fault front first)),
      λ first. first_fault bytes fault front (alike.1 (stops_with (bytes ++ rest) fault are first)),
    )

-- ---- for the code

pub fault_given : {X : Type 0} (view : X → List ℕ) (old new : Option (List ℕ)) (result : Result (Option X) NextFault) → GivesNext view old new result
    → IfOk result (λ next. IfSome next (λ bytes. Tells old → AreBytes (known old) → (fault : StreamFault) → IsFirstFault (view bytes) fault ↔ IsFirstFault (known old) fault))
fault_given view old new (Ok None) gives = tt
fault_given view old new (Ok (Some bytes)) gives = λ told are fault.
    let given = gives told in
    let joined : view bytes ++ known new ≡ known old = sym given.1.0 in
    subst (λ (all : List ℕ). IsFirstFault (view bytes) fault ↔ IsFirstFault all fault) joined
    (next_has_the_first_fault (view bytes) (known new) (subst AreBytes (sym joined) are) given.1.1 fault)
fault_given view old new (Err fault) gives = tt

abbrev given_some : {X : Type 0} → X → Option X
given_some x = Some x

same_some : {X : Type 0} (x y : X) → given_some x ≡ given_some y → x ≡ y
same_some x y e = cc

pub of_some : {X : Type 0} (next : Option X) (x : X) (P : X → Type 0) → next ≡ Some x → IfSome next P → P x
of_some None x P e h = absurd cc
of_some (Some y) x P e h = subst P (same_some y x e) h

pub match_some : {X : Type 0} (next : Option X) (x : X) (P : X → Type 0) → next ≡ Some x → MatchOption next ⊥ P → P x
match_some None x P e h = absurd h
match_some (Some y) x P e h = subst P (same_some y x e) h

-- ---- decoding, twice

length_of_front : (count : ℕ) (bytes : List ℕ) → count ≤ length bytes → length (take count bytes) ≡ count
length_of_front count bytes few = omega (arith, length-take count bytes)

front_of : (count : ℕ) (taken rest all : List ℕ) → all ≡ taken ++ rest → all ≡ take count taken ++ (drop count taken ++ rest)
front_of count taken rest all e = e ∙ ap (λ bs. bs ++ rest) (sym (take-append-drop count taken)) ∙ append_assoc (take count taken) (drop count taken) rest

pub decoded_alike : LegalWithoutFault → (taken rest all : List ℕ) → all ≡ taken ++ rest → AreBytes all
    → ((front left : List ℕ) (f : Picture) → all ≡ front ++ left → Spells front f → taken ≡ front)
    → ((fault : StreamFault) → IsFirstFault taken fault ↔ IsFirstFault all fault)
    → (one other : Result Decoded StreamFault) → IsDecoding taken one → IsDecoding all other → AreAlike one other
decoded_alike legal taken rest all e are whole faults (Ok one) (Ok other) first second =
    let found = second.complete (take one.used taken) (drop one.used taken ++ rest) one.frame (front_of one.used taken rest all e) first.ok.1 in
    (sym found.0, sym (found.1 ∙ length_of_front one.used taken first.ok.0))
decoded_alike legal taken rest all e are whole faults (Ok one) (Err fault) first second =
    second.complete (take one.used taken) (drop one.used taken ++ rest) one.frame (front_of one.used taken rest all e) first.ok.1
decoded_alike legal taken rest all e are whole faults (Err fault) (Ok other) first second =
    let front : List ℕ = take other.used all in
    let is : taken ≡ front = whole front (drop other.used all) other.frame (sym (take-append-drop other.used all)) second.ok.1 in
    first.complete front [] other.frame (is ∙ sym (append-nil front)) second.ok.1
decoded_alike legal taken rest all e are whole faults (Err fault) (Err other) first second =
    elim first.first [
      | inl memory ↦ inl memory
      | inr one ↦ elim second.first [
        | inl memory ↦ inr (inl memory)
        | inr two ↦ inr (inr (one_first_fault legal all fault other are ((faults fault).0 one) two))
      ]
    ]
