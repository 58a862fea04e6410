use Rattle.std.proofs.Common.{◌≤◌, ◌^◌, sym, subst, arith}
use mir.Syntax.{w32}
use mir.Val.{to_z, of_z}
use Rattle.ls_frame.specs.Parameters.{range_of, qbpp_of}
use Rattle.ls_coding.specs.Errors.{IsReduced}
use Rattle.ls_coding.specs.View.Fields.{counts_at}
use Rattle.ls_coding.specs.Stats.{error_bound}
use Rattle.ls_coding.specs.Interruptions.{AreSoundCounts}
use Rattle.ls_coding.proofs.FieldLemmas.{counts_sound_at, counts_sum}
use Rattle.ls_coding.proofs.SignedLemmas.{through}
use Rattle.ls_coding.proofs.WordLemmas.{interruption_code, interruption_value_small}
use Rattle.ls_coding.proofs.counters.Counters.code_interruption.Goals as goal

pub interruption_k-k-requires-clause-sum : goal.interruption_k-k-requires-clause-sum
interruption_k-k-requires-clause-sum c =
    let sound : AreSoundCounts c.args.self.now.presets.reset (error_bound c.args.self.now.presets.maxval) (counts_at c.args.self.now.a c.args.self.now.n c.args.self.now.nn c.ri_value-which.result) =
    rw c.ri_value-which.ensures.value (counts_sound_at c.ri_type_of-ri_type.result _ _ _ _ _ _ _ c.requires.sound.all) in
    counts_sum c.args.self.now.presets.reset c.args.self.now.presets.maxval _ sound (omega arith)

pub returns-clause-golomb : goal.returns-clause-golomb
returns-clause-golomb c =
    let sound : AreSoundCounts c.args.self.now.presets.reset (error_bound c.args.self.now.presets.maxval) (counts_at c.args.self.now.a c.args.self.now.n c.args.self.now.nn c.ri_value-which.result) =
    rw c.ri_value-which.ensures.value (counts_sound_at c.ri_type_of-ri_type.result _ _ _ _ _ _ _ c.requires.sound.all) in
    rw (c.interruption_k-k.ensures, c.requires.sound.limit_is, c.order.ensures.value)
    (interruption_code c.ri_type_of-ri_type.result c.args.self.now.presets.reset c.args.self.now.presets.maxval c.args.run_index _ (omega arith) (omega arith) sound)

pub returns-clause-value : goal.returns-clause-value
returns-clause-value c =
    let reduced : IsReduced (range_of c.args.self.now.presets.maxval) (to_z w32 (of_z w32 c.error_of-error.result)) =
    subst (IsReduced (range_of c.args.self.now.presets.maxval)) (sym (through c.error_of-error.result c.error_of-error.type_inv)) c.error_of-error.ensures.reduced in
    subst (λ v. v ≤ 2 ^ qbpp_of c.args.self.now.presets.maxval) (sym c.interruption_value-value.ensures) (interruption_value_small c.args.self.now.presets.maxval _ _ _ (omega arith) (omega arith) reduced)
