use Rattle.std.proofs.Common.{◌≡◌, ◌∙◌, ℕ, ◌≤◌, true, false, not, get_or, ap, sym, subst}
use Rattle.ls_frame.specs.Picture.{Picture, IsFormed, IsFrame}
use Rattle.ls_frame.specs.View.Numbers.{numbers}
use Rattle.ls_stream.proofs.ArrangedLemmas.{formed_arranged, frame_arranged, small_in_frame}
use Rattle.ls_stream.proofs.FrameLemmas.{none_over, one_over}
use Rattle.ls_stream.proofs.arranged.ArrangedView.is_frame.Goals as goal

pub returns-clause-within : goal.returns-clause-within
returns-clause-within c answer =
    let form = c.self.inside.form in
    let samples = numbers c.self.inside.samples in
    subst (λ (f : Picture). IsFrame f) c.self.view_is
    (frame_arranged c.self.inside.arrangement form samples c.self.invariant
    (none_over form.maxval samples c.first_above.result c.first_above.ensures (c.is_none.ensures ∙ ap not answer)))

pub returns-clause-over : goal.returns-clause-over
returns-clause-over c answer frame =
    let form = c.self.inside.form in
    let samples = numbers c.self.inside.samples in
    one_over form.maxval samples c.first_above.result c.first_above.ensures (c.is_none.ensures ∙ ap not answer)
    (small_in_frame c.self.inside.arrangement form samples c.self.invariant (subst (λ (f : Picture). IsFrame f) (sym c.self.view_is) frame))

pub returns-clause-lawful : goal.returns-clause-lawful
returns-clause-lawful c = subst (λ (f : Picture). IsFormed f) c.self.view_is (formed_arranged c.self.inside.arrangement c.self.inside.form (numbers c.self.inside.samples) c.self.invariant)
