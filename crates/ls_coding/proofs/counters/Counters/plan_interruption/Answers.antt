use Rattle.std.proofs.Common.{arith}
use Rattle.ls_coding.specs.View.Fields.{counts_at}
use Rattle.ls_coding.specs.Stats.{error_bound}
use Rattle.ls_coding.specs.Interruptions.{AreSoundCounts}
use Rattle.ls_coding.proofs.FieldLemmas.{counts_sound_at, counts_sum}
use Rattle.ls_coding.proofs.WordLemmas.{interruption_code}
use Rattle.ls_coding.proofs.counters.Counters.plan_interruption.Goals as goal

pub interruption_k-requires-clause-sum : goal.interruption_k-requires-clause-sum
interruption_k-requires-clause-sum c =
    let sound : AreSoundCounts c.args.self.now.presets.reset (error_bound c.args.self.now.presets.maxval) (counts_at c.args.self.now.a c.args.self.now.n c.args.self.now.nn c.ri_value-which.result) =
    rw c.ri_value-which.ensures.value (counts_sound_at c.ri_type_of-ri_type.result _ _ _ _ _ _ _ c.requires.sound.all) in
    counts_sum c.args.self.now.presets.reset c.args.self.now.presets.maxval _ sound (omega (arith, c.requires.sound.legal.maxval))

pub returns-clause-golomb : goal.returns-clause-golomb
returns-clause-golomb c =
    let sound : AreSoundCounts c.args.self.now.presets.reset (error_bound c.args.self.now.presets.maxval) (counts_at c.args.self.now.a c.args.self.now.n c.args.self.now.nn c.ri_value-which.result) =
    rw c.ri_value-which.ensures.value (counts_sound_at c.ri_type_of-ri_type.result _ _ _ _ _ _ _ c.requires.sound.all) in
    rw (c.interruption_k.ensures, c.requires.sound.limit_is, c.order.ensures.value)
    (interruption_code c.ri_type_of-ri_type.result c.args.self.now.presets.reset c.args.self.now.presets.maxval c.args.run_index _ (omega (arith, c.requires.sound.legal.some_maxval)) (omega (arith, c.requires.sound.legal.maxval)) sound)
