use Rattle.std.proofs.Common.{◌≡◌, ◌<◌, ◌++◌, Some, decimal, codes, sym, ap, ◌∙◌, arith}
use Rattle.std.proofs.lemmas.Bool.Decides.{Decides-eqb}
use Rattle.std.proofs.lemmas.Slice.Eq.{strip_prefix_is}
use Rattle.ls_archive.proofs.ColumnLemmas.{same_rest, stripped, column-stripped}
use Rattle.ls_archive.proofs.checking.after_number.Goals as goal

pub returns-clause-some : goal.returns-clause-some
returns-clause-some c =
    let left = c.in_ok-left.left in
    let small : c.in_ok-number.number < 65536 = omega arith in
    let begins = strip_prefix_is Decides-eqb c.args.text.now (codes " ") (Some left) c.in_ok-left.ensures.cases in
    column-stripped c.in_ok-number.number c.args.text.now left.now c.as_bytes.result.now c.strip_prefix-2.result small begins (c.as_bytes.ensures.value ∙ c.format.ensures.text)
    (strip_prefix_is Decides-eqb left.now c.as_bytes.result.now c.strip_prefix-2.result c.strip_prefix-2.ensures.cases)

pub returns-clause-given : goal.returns-clause-given
returns-clause-given c number rest few ends is =
    let left = c.in_ok-left.left in
    let begins = strip_prefix_is Decides-eqb c.args.text.now (codes " ") (Some left) c.in_ok-left.ensures.cases in
    let digits : left.now ≡ decimal number ++ rest = same_rest (codes " ") left.now (decimal number ++ rest) (sym begins ∙ is) in
    let found : c.in_ok-number.number ≡ number = let same = c.in_ok-number.ensures number rest (omega (arith, few)) ends digits in cc in
    let front = c.as_bytes.ensures.value ∙ c.format.ensures.text ∙ ap decimal found in
    stripped left.now c.as_bytes.result.now rest c.strip_prefix-2.result
    (strip_prefix_is Decides-eqb left.now c.as_bytes.result.now c.strip_prefix-2.result c.strip_prefix-2.ensures.cases) (digits ∙ ap (λ s. s ++ rest) (sym front))
