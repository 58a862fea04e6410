use Rattle.std.proofs.Common.{arith}
use Rattle.ls_c.specs.Forms.{parameters}
use Rattle.ls_c.proofs.PresetLemmas.{narrowed_is}
use Rattle.ls_c.proofs.request.presets_of.Goals as goal

pub returns-clause-exactly : goal.returns-clause-exactly
unfolding parameters
returns-clause-exactly c = narrowed_is (parameters c.args.form.now) c.explicit.result (omega arith) (cc (c.default_of-defaults.ensures.value))
