use Rattle.std.proofs.Common.{subst, ap, ◌∙◌}
use Rattle.std.specs.Result.{result_ok}
use Rattle.std.specs.Str.Parse.{ParsesUnsigned}
use Rattle.ls_archive.proofs.FrontLineLemmas.{number-is_text, number-read, kept, refused}
use Rattle.ls_archive.proofs.checking.leading_number.Goals as goal

pub returns-in_err-digits : goal.returns-in_err-digits
returns-in_err-digits c number rest few ends is =
    let place = c.end_of_column.ensures.number number rest few ends is in
    let is_text = number-is_text number c.end_of_column.result c.args.text.now rest few is place in
    absurd (refused _ _ c.from_utf8.result c.from_utf8.ensures.cases c.in_err-digits.ensures.value (λ e not. not.0 is_text))

pub returns : goal.returns
returns c number rest few ends is =
    let place = c.end_of_column.ensures.number number rest few ends is in
    let same = (kept _ _ c.in_ok-digits.digits c.from_utf8.result c.from_utf8.ensures.cases c.in_ok-digits.ensures.value).0 in
    let parsed = subst (λ bs. ParsesUnsigned 32 10 bs c.parse.result) same c.parse.ensures.value.0 in
    c.ok-2.ensures.value ∙ ap result_ok (number-read number c.end_of_column.result c.args.text.now rest c.parse.result few is place parsed)
