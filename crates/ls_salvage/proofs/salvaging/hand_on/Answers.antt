use Rattle.std.proofs.lemmas.Result.{IfOk-weaker}
use Rattle.ls_salvage.proofs.salvaging.hand_on.Goals as goal

pub returns-in-Frame-clause-handed_on : goal.returns-in-Frame-clause-handed_on
returns-in-Frame-clause-handed_on g c =
    rw c.in-Frame.is (IfOk-weaker c.show_frame.result _ _ (λ after shown. shown (g.G.Gaps.told c.args.gaps.now)) c.show_frame.ensures.shown)

pub returns-in-Gap-clause-handed_on : goal.returns-in-Gap-clause-handed_on
returns-in-Gap-clause-handed_on g c =
    rw c.in-Gap.is (IfOk-weaker c.tell_gap.result _ _ (λ after told. told (g.W.Write.contents c.args.writer.now) g.T.Text.text) c.tell_gap.ensures.told)
