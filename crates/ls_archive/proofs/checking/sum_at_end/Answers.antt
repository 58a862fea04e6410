use Rattle.std.proofs.Common.{◌≡◌, List, ℕ, Option, None, Some, Ok, codes, sym, ap, ◌∙◌}
use Rattle.std.proofs.lemmas.Bool.{true≢false}
use Rattle.std.proofs.lemmas.Bool.Decides.{Decides-eqb}
use Rattle.std.proofs.lemmas.Slice.Eq.{slice_eq-Decides, strip_prefix_is}
use Rattle.std.specs.Result.{result_ok}
use Rattle.hex.specs.Hex.{encode_lower}
use Rattle.ls_archive.proofs.ColumnLemmas.{sum-digits, sum-read, on-ok}
use Rattle.ls_archive.proofs.checking.sum_at_end.Goals as goal

pub returns-in_err-sum-clause-given : goal.returns-in_err-sum-clause-given
returns-in_err-sum-clause-given c sum is same =
    let begins = strip_prefix_is Decides-eqb c.args.text.now (codes " ") (Some c.in_ok-digits.digits) c.in_ok-digits.ensures.cases in
    let found = sum-digits c.args.text.now c.in_ok-digits.digits.now sum begins is same in
    let read : c.from_hex.result ≡ Ok found.0 = sum-read c.in_ok-digits.digits.now found.0 c.from_hex.result c.from_hex.ensures found.2 found.3 found.4 in
    let never : ◌≡◌ {A = Option (List ℕ)} None (Some found.0) = c.in_err-sum.ensures.value ∙ ap result_ok read in
    let clash : ⊥ = cc in absurd clash

pub returns-then-eq-clause-given : goal.returns-then-eq-clause-given
returns-then-eq-clause-given c sum is same =
    let begins = strip_prefix_is Decides-eqb c.args.text.now (codes " ") (Some c.in_ok-digits.digits) c.in_ok-digits.ensures.cases in
    let found = sum-digits c.args.text.now c.in_ok-digits.digits.now sum begins is same in
    let read : c.from_hex.result ≡ Ok found.0 = sum-read c.in_ok-digits.digits.now found.0 c.from_hex.result c.from_hex.ensures found.2 found.3 found.4 in
    ap (λ s. Some s) (c.in_ok-sum.ensures.value ∙ ap result_ok read ∙ sym found.1)

pub returns-else-eq-clause-given : goal.returns-else-eq-clause-given
returns-else-eq-clause-given c sum is same =
    let begins = strip_prefix_is Decides-eqb c.args.text.now (codes " ") (Some c.in_ok-digits.digits) c.in_ok-digits.ensures.cases in
    let found = sum-digits c.args.text.now c.in_ok-digits.digits.now sum begins is same in
    let read : c.from_hex.result ≡ Ok found.0 = sum-read c.in_ok-digits.digits.now found.0 c.from_hex.result c.from_hex.ensures found.2 found.3 found.4 in
    let is_it : c.in_ok-sum.sum ≡ found.0 = let one = c.in_ok-sum.ensures.value ∙ ap result_ok read in cc in
    let whole : c.as_slice-2.result.now ≡ encode_lower c.in_ok-sum.sum =
    c.as_slice-2.ensures ∙ on-ok c.encode_to_slice.result _ c.encode_to_slice.ensures.written c.in_ok-ok.ensures.value ∙ ap encode_lower c.as_slice.ensures in
    let equal = found.2 ∙ ap encode_lower (sym is_it) ∙ sym whole in
    absurd (true≢false (sym ((slice_eq-Decides Decides-eqb c.in_ok-digits.digits.now c.as_slice-2.result.now _ c.eq.ensures).1 equal) ∙ c.if-eq.false))
