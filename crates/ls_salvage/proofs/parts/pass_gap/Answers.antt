use Rattle.ls_salvage.proofs.PartLemmas.{gap_passed}
use Rattle.ls_salvage.proofs.parts.pass_gap.Goals as goal

pub returns-clause-passed : goal.returns-clause-passed
returns-clause-passed g c =
    gap_passed c.args.read.now _ c.in_ok-count.count _ _ _ c.after_first.ensures c.in_ok-put_back.ensures.back c.in_ok-count.ensures.skipped
