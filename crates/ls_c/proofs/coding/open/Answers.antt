use Rattle.std.proofs.Common.{ℕ, get_or, List, take, Fits, w8, refl, ap, subst, arith}
use Rattle.ls_bits.specs.Bits.{AreBytes}
use Rattle.ls_stream.specs.Grammar.{most_bytes}
use Rattle.ls_stream.specs.Faults.{BeginsWithOpening}
use Rattle.ls_stream.proofs.FrameReadingLemmas.{are_bytes}
use Rattle.ls_c.specs.declared.form.JlsrecForm.{JlsrecForm}
use Rattle.ls_c.specs.Calls.{too_deep, too_large, at_fault}
use Rattle.ls_c.proofs.OneOpeningLemmas.{has_form}
use Rattle.ls_c.proofs.OpeningLemmas.{told}
use Rattle.ls_c.proofs.coding.open.Goals as goal

pub returns-in-Err-clause-refused : goal.returns-in-Err-clause-refused
returns-in-Err-clause-refused c =
    at_fault c.in-Err.first refl c.in-Err.ensures.memory c.in-Err.ensures.first
    (λ given has. c.in-Err.ensures.unopened (subst (λ bytes. BeginsWithOpening (take most_bytes bytes)) has.of_bytes has.says.begins)) c.in-Err.ensures.none c.details_of.ensures c.no_form.ensures

pub returns-then-maxval-most-clause-refused : goal.returns-then-maxval-most-clause-refused
returns-then-maxval-most-clause-refused c =
    let bytes : List ℕ = c.args.bytes.now in
    let are : AreBytes bytes = are_bytes bytes (λ i. let fits : Fits w8 (get_or bytes i 0) = c.type_inv.bytes i in omega arith) in
    too_deep refl (has_form bytes c.in-Ok.opening c.form_by.result are c.in-Ok.ensures.bytes c.in-Ok.ensures.says c.form_by.ensures)
    (omega (arith, c.if-maxval-most.true, c.maxval.ensures.value, ap (λ p. p.maxval) c.presets.ensures, ap (λ (x : JlsrecForm). x.maxval) c.form_by.ensures))
    (λ front rest f e s. told c.in-Ok.opening c.form_by.result f c.form_by.ensures (c.in-Ok.ensures.form front rest f e s)) c.no_details.ensures

pub returns-then-sample_count-room-clause-refused : goal.returns-then-sample_count-room-clause-refused
returns-then-sample_count-room-clause-refused c =
    let bytes : List ℕ = c.args.bytes.now in
    let are : AreBytes bytes = are_bytes bytes (λ i. let fits : Fits w8 (get_or bytes i 0) = c.type_inv.bytes i in omega arith) in
    too_large refl (has_form bytes c.in-Ok.opening c.form_by.result are c.in-Ok.ensures.bytes c.in-Ok.ensures.says c.form_by.ensures)
    (omega (arith, c.if-maxval-most.false, c.maxval.ensures.value, ap (λ p. p.maxval) c.presets.ensures, ap (λ (x : JlsrecForm). x.maxval) c.form_by.ensures))
    (rw (c.form_by.ensures) (omega (arith, c.if-sample_count-room.true, c.sample_count.ensures.value)))
    (λ front rest f e s. told c.in-Ok.opening c.form_by.result f c.form_by.ensures (c.in-Ok.ensures.form front rest f e s)) c.no_details.ensures

pub returns-clause-form : goal.returns-clause-form
returns-clause-form c =
    let bytes : List ℕ = c.args.bytes.now in
    let are : AreBytes bytes = are_bytes bytes (λ i. let fits : Fits w8 (get_or bytes i 0) = c.type_inv.bytes i in omega arith) in
    (has_form bytes c.in-Ok.opening c.form_by.result are c.in-Ok.ensures.bytes c.in-Ok.ensures.says c.form_by.ensures, c.form_by.ensures)

pub returns-clause-spelled : goal.returns-clause-spelled
returns-clause-spelled c = λ front rest f e s. told c.in-Ok.opening c.form_by.result f c.form_by.ensures (c.in-Ok.ensures.form front rest f e s)
