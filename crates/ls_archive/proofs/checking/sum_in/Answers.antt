use Rattle.ls_archive.proofs.ColumnLemmas.{are-columns-some, sum-ends}
use Rattle.ls_archive.specs.View.Checking.{sum_at_end}
use Rattle.ls_archive.proofs.checking.sum_in.Goals as goal

pub returns-in_err-after_kind-clause-given : goal.returns-in_err-after_kind-clause-given
returns-in_err-after_kind-clause-given c sum is = absurd (c.in_err-after_kind.ensures.given is.kind _ is.text_is)

pub returns-in_err-left-clause-given : goal.returns-in_err-left-clause-given
returns-in_err-left-clause-given c sum is =
    let mid = c.in_ok-after_kind.ensures.given is.kind _ is.text_is in
    absurd (c.in_err-left.ensures.given is.numbers (sum_at_end sum) is.are (sum-ends sum) mid)

pub returns-clause-some : goal.returns-clause-some
returns-clause-some c =
    are-columns-some c.args.columns.now c.in_ok-after_kind.field-0.now c.in_ok-left.left.now c.sum_at_end.result c.in_ok-after_kind.ensures.some c.in_ok-left.ensures.some c.sum_at_end.ensures.some

pub returns-clause-given : goal.returns-clause-given
returns-clause-given c sum is =
    let mid = c.in_ok-after_kind.ensures.given is.kind _ is.text_is in
    let left = c.in_ok-left.ensures.given is.numbers (sum_at_end sum) is.are (sum-ends sum) mid in
    c.sum_at_end.ensures.given sum is.is_sum left
