use Rattle.std.proofs.Common.{[], ap, ◌∙◌}
use Rattle.ls_coding.specs.View.States.{Coding}
use Rattle.ls_stream.proofs.CodedLemmas.{parameters_of}
use Rattle.ls_stream.proofs.encode.coder.Coder.new.Goals as goal

pub invariant_of-result : goal.invariant_of-result
invariant_of-result g c = (ap (λ (s : Coding). s.parameters) c.requires.state ∙ parameters_of c.args.presets.now [], c.qbpp.ensures.value)

pub returns-clause-parameters : goal.returns-clause-parameters
returns-clause-parameters g c = ap (λ (s : Coding). s.parameters) c.requires.state ∙ parameters_of c.args.presets.now []
