use Rattle.std.proofs.Common.{◌≡◌, ap, ◌∙◌}
use Rattle.ls_frame.specs.Parameters.{Parameters, default_parameters, explicit_parameters}
use Rattle.ls_frame.specs.Tuning.{or_default, tuned}
use Rattle.ls_frame.proofs.ParameterLemmas.{explicit_parameters-same}
use Rattle.ls_frame.proofs.tuning.Tuning.presets.Goals as goal

-- what was asked for
asked : (c : goal.After-explicit) → c.explicit.result ≡ explicit_parameters (tuned c.args.self.now c.args.maxval)
unfolding tuned
asked c =
    let chosen = c.args.self.now in
    let defaults : c.default_of-defaults.result ≡ default_parameters c.args.maxval = c.default_of-defaults.ensures.value in
    let t1 = c.or_default.ensures ∙ ap (or_default chosen.t1) (c.t1.ensures.value ∙ ap (λ (p : Parameters). p.t1) defaults) in
    let t2 = c.or_default-2.ensures ∙ ap (or_default chosen.t2) (c.t2.ensures.value ∙ ap (λ (p : Parameters). p.t2) defaults) in
    let t3 = c.or_default-3.ensures ∙ ap (or_default chosen.t3) (c.t3.ensures.value ∙ ap (λ (p : Parameters). p.t3) defaults) in
    let reset = c.or_default-4.ensures ∙ ap (or_default chosen.reset) (c.reset.ensures.value ∙ ap (λ (p : Parameters). p.reset) defaults) in
    c.explicit.ensures.value
    ∙ ap explicit_parameters (λ i. record { maxval = c.args.maxval; t1 = t1 i; t2 = t2 i; t3 = t3 i; reset = reset i })

pub returns-clause-value : goal.returns-clause-value
returns-clause-value c = asked c

pub returns-clause-ok : goal.returns-clause-ok
returns-clause-ok c = rw (asked c) (explicit_parameters-same (tuned c.args.self.now c.args.maxval))
