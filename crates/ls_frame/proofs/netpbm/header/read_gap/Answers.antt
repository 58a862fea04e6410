use Rattle.std.proofs.Common.{sym, ap, ◌∙◌}
use Rattle.ls_frame.specs.View.Known.{known}
use Rattle.ls_frame.specs.View.Reading.{gap_at}
use Rattle.ls_frame.proofs.StepLemmas.{gap_at-other}
use Rattle.ls_frame.proofs.netpbm.header.read_gap.Goals as goal

pub returns-then-not-is_white-clause-bytes : goal.returns-then-not-is_white-clause-bytes
returns-then-not-is_white-clause-bytes g c = λ told blamed.
    let before = c.loop-byte.invariant.1 told in
    let read = c.in_ok-byte.ensures.bytes before.0 in
    before.1
    ∙ ap (λ in_comment. gap_at in_comment c.loop-byte.allowed (known (g.R.Read.remaining c.loop-byte.reader))) c.if-in_comment.false
    ∙ gap_at-other _ _ _ _ _ read.1 (sym c.is_white.ensures ∙ c.if-not-is_white.true) c.if-byte-eq35.false (sym c.is_digit.ensures ∙ c.if-is_digit.false)
