use Rattle.std.proofs.Common.{[], ap, ◌∙◌}
use Rattle.ls_coding.specs.View.States.{Coding}
use Rattle.ls_stream.proofs.CodedLemmas.{parameters_of}
use Rattle.ls_stream.proofs.decode.decoder.Decoder.new.Goals as goal

pub invariant_of-result : goal.invariant_of-result
invariant_of-result c = (ap (λ (s : Coding). s.parameters) c.requires.state ∙ parameters_of c.args.presets.now [], c.qbpp.ensures.value, c.maxval.ensures.legal, c.view.ensures ∙ c.requires.regions, c.requires.sure)

pub returns-clause-parameters : goal.returns-clause-parameters
returns-clause-parameters c = ap (λ (s : Coding). s.parameters) c.requires.state ∙ parameters_of c.args.presets.now []
