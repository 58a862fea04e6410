use Rattle.std.proofs.Common.{◌≤◌, ◌++◌, List, ap, sym, ◌∙◌, arith}
use Rattle.ls_stream.specs.Planes.{Span}
use Rattle.ls_stream.specs.View.Coded.{all_from}
use Rattle.ls_stream.proofs.SpanLemmas.{row_from-end}
use Rattle.ls_stream.proofs.encode.row.code_row.Goals as goal

pub returns-clause-row : goal.returns-clause-row
returns-clause-row g c plane i same lines more =
    let far : plane.width ≤ c.columns.column = omega arith in
    ap (λ (xs : List Span). all_from plane c.columns.coder.bits c.columns.coder.state (xs ++ more)) (sym (row_from-end plane i c.columns.column far))
    ∙ c.columns.invariant.row plane i same lines more
