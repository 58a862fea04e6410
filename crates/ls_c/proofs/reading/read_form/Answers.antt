use Rattle.std.proofs.Common.{ℕ, List, ◌≤◌, get_or, Fits, w8, inl, inr, refl, arith}
use Rattle.ls_bits.specs.Bits.{AreBytes}
use Rattle.ls_stream.proofs.FrameReadingLemmas.{are_bytes}
use Rattle.ls_c.specs.Refusals.{fault_number}
use Rattle.ls_c.proofs.NumberLemmas.{fault_above}
use Rattle.ls_c.proofs.OneOpeningLemmas.{has_form}
use Rattle.ls_c.proofs.OpeningLemmas.{told}
use Rattle.ls_c.proofs.reading.read_form.Goals as goal

pub returns-in-Ok : goal.returns-in-Ok
returns-in-Ok c =
    let bytes : List ℕ = c.args.bytes.now in
    let are : AreBytes bytes = are_bytes bytes (λ i. let fits : Fits w8 (get_or bytes i 0) = c.type_inv.bytes i in omega arith) in
    record {
      done = λ _. (has_form bytes c.in-Ok.opening c.form_by.result are c.in-Ok.ensures.bytes c.in-Ok.ensures.says c.form_by.ensures, c.no_details.ensures);
      legal = λ _. refl;
      complete = λ front rest f e spelled. (refl, told c.in-Ok.opening c.form_by.result f c.form_by.ensures (c.in-Ok.ensures.form front rest f e spelled));
      faulty = λ some. absurd (some refl);
    }

pub returns-in-Err : goal.returns-in-Err
returns-in-Err c =
    let above : 20 ≤ fault_number c.in-Err.first = elim (fault_above c.in-Err.first) [ inl e ↦ absurd (c.in-Err.ensures.memory e) | inr high ↦ high ] in
    record {
      done = λ zero. absurd (omega (arith, above, zero));
      legal = λ begins. absurd (c.in-Err.ensures.unopened begins);
      complete = λ front rest f e spelled. absurd (c.in-Err.ensures.none front rest f e spelled);
      faulty = λ _. (c.in-Err.first, refl, above, c.details_of.ensures, c.in-Err.ensures.first, c.no_form.ensures);
    }
