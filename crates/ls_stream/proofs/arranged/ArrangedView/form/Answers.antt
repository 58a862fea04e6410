use Rattle.std.proofs.Common.{subst}
use Rattle.ls_frame.specs.Picture.{Picture, IsFormed}
use Rattle.ls_frame.specs.View.Numbers.{numbers}
use Rattle.ls_stream.proofs.ArrangedLemmas.{formed_arranged}
use Rattle.ls_stream.proofs.arranged.ArrangedView.form.Goals as goal

pub returns-clause-lawful : goal.returns-clause-lawful
returns-clause-lawful c = subst (λ (f : Picture). IsFormed f) c.self.view_is (formed_arranged c.self.inside.arrangement c.self.inside.form (numbers c.self.inside.samples) c.self.invariant)
