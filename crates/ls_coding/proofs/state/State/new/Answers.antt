use Rattle.std.proofs.Common.{refl, ◌∙◌}
use Rattle.ls_coding.specs.Stats.{first_stats}
use Rattle.ls_coding.specs.View.States.{state_of}
use Rattle.ls_coding.specs.View.Fields.{contexts_of, stats_at}
use Rattle.ls_coding.proofs.FieldLemmas.{map_alike}
use Rattle.ls_coding.proofs.StateLemmas.{alike_parameters, alike}
use Rattle.ls_coding.proofs.state.State.new.Goals as goal

pub returns : goal.returns
unfolding contexts_of state_of
returns c =
    alike_parameters _ _ _ _ _ _ _ c.new.ensures.parameters
    ∙ alike c.args.presets.now _ _ _ _ _ _ _ _ _ _
    (map_alike (λ number. first_stats c.args.presets.now) (stats_at c.new.result.a c.new.result.b c.new.result.c c.new.result.n) 365 (first_stats c.args.presets.now) c.new.ensures.contexts)
    c.new.ensures.ri_type_0 c.new.ensures.ri_type_1 refl refl
