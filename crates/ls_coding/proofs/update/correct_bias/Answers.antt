use Rattle.std.proofs.Common.{cond, pos, neg_ℤ, ◌+ℤ◌, ◌-ℤ◌, ◌<ℤ◌, ap, sym, subst, refl, ◌∙◌}
use Rattle.std.specs.Prelude.{int_lt, int_le}
use mir.Syntax.{w32}
use mir.Val.{to_z, of_z}
use Rattle.ls_coding.specs.Stats.{stats, bias_corrected}
use Rattle.ls_coding.proofs.SignedLemmas.{through}
use Rattle.ls_coding.proofs.StatsLemmas.{mean_through, bias_through, mean_part, corrected_bias_is, over_zero}
use Rattle.ls_coding.proofs.update.correct_bias.Goals as goal

pub corrected_mean-requires-clause-far : goal.corrected_mean-requires-clause-far
corrected_mean-requires-clause-far c t =
    let same = mean_through c.args.b.now c.requires.low c.requires.high in
    subst (λ z. pos 0 <ℤ z) (sym same)
    (over_zero c.args.b.now _ c.args.n c.is_below.result c.requires.low c.requires.high refl c.is_below.ensures.1 c.if-is_below.false (sym (ap (λ z. int_le z (neg_ℤ (pos c.args.n))) same) ∙ t))

pub returns-clause-b : goal.returns-clause-b
returns-clause-b c =
    through c.corrected_mean.result c.corrected_mean.type_inv ∙ c.corrected_mean.ensures
    ∙ ap (λ z. (bias_corrected (stats 0 z (pos 0) c.args.n)).b) (mean_through c.args.b.now c.requires.low c.requires.high)
    ∙ mean_part c.args.b.now (pos 0) c.args.c.now c.args.n

pub returns-clause-c : goal.returns-clause-c
returns-clause-c c =
    through c.corrected_bias.result c.corrected_bias.type_inv ∙ c.corrected_bias.ensures.value
    ∙ ap (λ z. cond (int_lt (to_z w32 (of_z w32 c.args.b.now)) (pos 0)) (cond (int_lt (neg_ℤ (pos 128)) z) (z -ℤ pos 1) z) (cond (int_lt z (pos 127)) (z +ℤ pos 1) z)) (bias_through c.args.c.now c.requires.bias_low c.requires.bias_high)
    ∙ ap (λ z. cond (int_lt z (pos 0)) (cond (int_lt (neg_ℤ (pos 128)) c.args.c.now) (c.args.c.now -ℤ pos 1) c.args.c.now) (cond (int_lt c.args.c.now (pos 127)) (c.args.c.now +ℤ pos 1) c.args.c.now)) (mean_through c.args.b.now c.requires.low c.requires.high)
    ∙ corrected_bias_is c.args.b.now c.args.c.now c.args.n c.requires.some
    (over_zero c.args.b.now _ c.args.n c.is_below.result c.requires.low c.requires.high refl c.is_below.ensures.1 c.if-is_below.false)
