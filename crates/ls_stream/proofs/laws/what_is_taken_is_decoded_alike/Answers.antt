use Rattle.std.proofs.Common.{◌≡◌, ◌↔◌, ℕ, List, ◌++◌, Some, get_or, Fits, w8, refl, sym, ap, ◌∙◌, subst, arith}
use Rattle.ls_frame.specs.View.Known.{Tells, Gave}
use Rattle.ls_bits.specs.Bits.{AreBytes}
use Rattle.ls_stream.specs.declared.faults.StreamFault.{StreamFault}
use Rattle.ls_stream.specs.View.Extents.{IsNext, IsDecoding}
use Rattle.ls_stream.specs.View.Outlines.{IsFirstFault}
use Rattle.ls_stream.proofs.AlikeLaws.{of_some, match_some, decoded_alike}
use Rattle.ls_stream.proofs.FrameReadingLemmas.{are_bytes}
use Rattle.ls_stream.proofs.laws.what_is_taken_is_decoded_alike.Goals as goal

-- what was taken, and what is left
gave : (c : goal.After-drop-codestream) → (c.args.bytes.now ≡ c.deref.result.now ++ c.next_stream.new.reader.now) × IsNext c.deref.result.now c.next_stream.new.reader.now
gave c =
    let all : List ℕ = c.args.bytes.now in
    let left : List ℕ = c.next_stream.new.reader.now in
    let codestream = c.in-Some.codestream in
    let read = of_some c.in_ok-codestream.field-0 codestream (λ bytes. Gave (Some all) (Some left) (λ read. (bytes.items ≡ read) × IsNext read left)) c.in-Some.is c.in_ok-codestream.ensures.stream refl in
    let is : c.deref.result.now ≡ read.1 = c.deref.ensures.value ∙ read.3.0 in
    (read.2 ∙ ap (λ bs. bs ++ left) (sym is), subst (λ bs. IsNext bs left) (sym is) read.3.1)

of_taken : (c : goal.After-drop-codestream) → IsDecoding c.deref.result.now c.decode_frame.result
of_taken c = record { ok = c.decode_frame.ensures.ok; first = c.decode_frame.ensures.first; complete = c.decode_frame.ensures.complete; memory = c.decode_frame.ensures.memory }

of_all : (c : goal.After-drop-codestream) → IsDecoding c.args.bytes.now c.decode_frame-in-Some.result
of_all c = record { ok = c.decode_frame-in-Some.ensures.ok; first = c.decode_frame-in-Some.ensures.first; complete = c.decode_frame-in-Some.ensures.complete; memory = c.decode_frame-in-Some.ensures.memory }

pub returns-in-Some-clause-alike : goal.returns-in-Some-clause-alike
returns-in-Some-clause-alike c =
    let all : List ℕ = c.args.bytes.now in
    let codestream = c.in-Some.codestream in
    let is : c.deref.result.now ≡ codestream.items = c.deref.ensures.value in
    let are : AreBytes all = are_bytes all (λ i. let fits : Fits w8 (get_or all i 0) = c.type_inv.bytes i in omega arith) in
    let faults = of_some c.in_ok-codestream.field-0 codestream (λ bytes. Tells (Some all) → AreBytes all → (fault : StreamFault) → IsFirstFault bytes.items fault ↔ IsFirstFault all fault)
    c.in-Some.is c.in_ok-codestream.ensures.fault refl are in
    decoded_alike c.parameters_are_legal_or_at_fault.ensures.legal c.deref.result.now c.next_stream.new.reader.now all (gave c).0 are
    (λ front rest f e spelled. is ∙ match_some c.in_ok-codestream.field-0 codestream (λ bytes. bytes.items ≡ front) c.in-Some.is (c.in_ok-codestream.ensures.complete refl front rest f e spelled))
    (λ fault. subst (λ bs. IsFirstFault bs fault ↔ IsFirstFault all fault) (sym is) (faults fault))
    c.decode_frame.result c.decode_frame-in-Some.result (of_taken c) (of_all c)

pub returns-in-Some-clause-taken : goal.returns-in-Some-clause-taken
returns-in-Some-clause-taken c = record { codestream = c.deref.result.now; rest = c.next_stream.new.reader.now; split = (gave c).0; is_next = (gave c).1; decoding = of_taken c }

pub returns-in-Some-clause-all : goal.returns-in-Some-clause-all
returns-in-Some-clause-all c = of_all c
