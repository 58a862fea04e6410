use Rattle.std.proofs.Common.{ap, ◌∙◌}
use Rattle.ls_coding.specs.View.States.{Coding, state_of}
use Rattle.ls_bench.proofs.regular.Coder.new.Goals as goal

pub invariant_of-result : goal.invariant_of-result
unfolding state_of
invariant_of-result c = record {
  samples = ap (λ (s : Coding). s.parameters.maxval) c.new.ensures ∙ c.default_of.ensures.maxval;
  uninterrupted = ap (λ (s : Coding). s.interrupted) c.new.ensures;
}
