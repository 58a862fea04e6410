use Rattle.std.proofs.Common.{◌≡◌, inr, Some, None, decimal, codes, refl, ap, sym, ◌++◌, ◌∙◌}
use Rattle.std.proofs.lemmas.Bool.Decides.{Decides-eqb}
use Rattle.std.proofs.lemmas.List.{append_assoc}
use Rattle.std.proofs.lemmas.Slice.Eq.{strip_prefix_is, strip_suffix_is}
use Rattle.ls_archive.proofs.ColumnLemmas.{same_rest}
use Rattle.ls_archive.proofs.FrontLineLemmas.{line-columns, columns-left, line-of_columns}
use Rattle.ls_archive.proofs.checking.size_in.Goals as goal

pub returns-in_default-strip_prefix-clause-given : goal.returns-in_default-strip_prefix-clause-given
returns-in_default-strip_prefix-clause-given c size rest few line =
    let columns = c.in-Some.columns.now in
    let front = c.as_bytes.ensures.value ∙ c.in_ok-front.ensures.ok in
    let ends = strip_suffix_is Decides-eqb c.args.text.now (codes "\n") (Some c.in-Some.columns) c.in-Some.ensures.cases in
    strip_prefix_is Decides-eqb columns c.as_bytes.result.now None c.in_default-strip_prefix.ensures.cases (decimal size ++ (codes " " ++ rest))
    (line-columns c.args.number c.args.offset size c.args.text.now columns rest ends line ∙ ap (λ s. s ++ (decimal size ++ (codes " " ++ rest))) (sym front))

pub returns-in_default-leading_number-clause-given : goal.returns-in_default-leading_number-clause-given
returns-in_default-leading_number-clause-given c size rest few line =
    let columns = c.in-Some.columns.now in
    let left = c.in-Some-strip_prefix.columns in
    let front = c.as_bytes.ensures.value ∙ c.in_ok-front.ensures.ok in
    let ends = strip_suffix_is Decides-eqb c.args.text.now (codes "\n") (Some c.in-Some.columns) c.in-Some.ensures.cases in
    let begins = strip_prefix_is Decides-eqb columns c.as_bytes.result.now (Some left) c.in-Some-strip_prefix.ensures.cases ∙ ap (λ s. s ++ left.now) front in
    let never = c.in_default-leading_number.ensures size (codes " " ++ rest) few (inr (rest, refl)) (columns-left c.args.number c.args.offset size c.args.text.now columns left.now rest ends begins line) in
    let clash : ⊥ = cc in absurd clash

pub returns-in-Some-strip_prefix-2-clause-some : goal.returns-in-Some-strip_prefix-2-clause-some
returns-in-Some-strip_prefix-2-clause-some c =
    let columns = c.in-Some.columns.now in
    let left = c.in-Some-strip_prefix.columns in
    let rest = c.in-Some-strip_prefix-2.rest in
    let front = c.as_bytes.ensures.value ∙ c.in_ok-front.ensures.ok in
    let ends = strip_suffix_is Decides-eqb c.args.text.now (codes "\n") (Some c.in-Some.columns) c.in-Some.ensures.cases in
    let begins = strip_prefix_is Decides-eqb columns c.as_bytes.result.now (Some left) c.in-Some-strip_prefix.ensures.cases ∙ ap (λ s. s ++ left.now) front in
    let wanted = c.as_bytes-2.ensures.value ∙ c.in_ok-wanted.ensures.ok in
    let number = strip_prefix_is Decides-eqb left.now c.as_bytes-2.result.now (Some rest) c.in-Some-strip_prefix-2.ensures.cases ∙ ap (λ s. s ++ rest.now) wanted in
    line-of_columns c.args.number c.args.offset c.in-Some-leading_number.size c.args.text.now columns left.now rest.now ends begins number

pub returns-in-Some-strip_prefix-2-clause-given : goal.returns-in-Some-strip_prefix-2-clause-given
returns-in-Some-strip_prefix-2-clause-given c size rest few line =
    let columns = c.in-Some.columns.now in
    let left = c.in-Some-strip_prefix.columns in
    let found = c.in-Some-strip_prefix-2.rest in
    let front = c.as_bytes.ensures.value ∙ c.in_ok-front.ensures.ok in
    let ends = strip_suffix_is Decides-eqb c.args.text.now (codes "\n") (Some c.in-Some.columns) c.in-Some.ensures.cases in
    let begins = strip_prefix_is Decides-eqb columns c.as_bytes.result.now (Some left) c.in-Some-strip_prefix.ensures.cases ∙ ap (λ s. s ++ left.now) front in
    let is = columns-left c.args.number c.args.offset size c.args.text.now columns left.now rest ends begins line in
    let same : c.in-Some-leading_number.size ≡ size = let read = c.in-Some-leading_number.ensures size (codes " " ++ rest) few (inr (rest, refl)) is in cc in
    let wanted = c.as_bytes-2.ensures.value ∙ c.in_ok-wanted.ensures.ok ∙ ap (λ n. decimal n ++ codes " ") same in
    let number = strip_prefix_is Decides-eqb left.now c.as_bytes-2.result.now (Some found) c.in-Some-strip_prefix-2.ensures.cases ∙ ap (λ s. s ++ found.now) wanted in
    (same, same_rest (decimal size ++ codes " ") found.now rest (sym number ∙ is ∙ sym (append_assoc (decimal size) (codes " ") rest)))

pub returns-clause-given : goal.returns-clause-given
returns-clause-given c size rest few line =
    let columns = c.in-Some.columns.now in
    let left = c.in-Some-strip_prefix.columns in
    let front = c.as_bytes.ensures.value ∙ c.in_ok-front.ensures.ok in
    let ends = strip_suffix_is Decides-eqb c.args.text.now (codes "\n") (Some c.in-Some.columns) c.in-Some.ensures.cases in
    let begins = strip_prefix_is Decides-eqb columns c.as_bytes.result.now (Some left) c.in-Some-strip_prefix.ensures.cases ∙ ap (λ s. s ++ left.now) front in
    let is = columns-left c.args.number c.args.offset size c.args.text.now columns left.now rest ends begins line in
    let same : c.in-Some-leading_number.size ≡ size = let read = c.in-Some-leading_number.ensures size (codes " " ++ rest) few (inr (rest, refl)) is in cc in
    let wanted = c.as_bytes-2.ensures.value ∙ c.in_ok-wanted.ensures.ok ∙ ap (λ n. decimal n ++ codes " ") same in
    strip_prefix_is Decides-eqb left.now c.as_bytes-2.result.now None c.in-None.ensures.cases rest
    (is ∙ sym (append_assoc (decimal size) (codes " ") rest) ∙ ap (λ s. s ++ rest) (sym wanted))
