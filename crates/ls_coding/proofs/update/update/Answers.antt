use Rattle.std.proofs.Common.{◌≡◌, ◌≤◌, ap, ◌∙◌, neg_ℤ, pos, ◌≤ℤ◌, arith}
use Rattle.std.specs.Prelude.{unsigned_abs}
use Rattle.ls_coding.specs.Stats.{error_bound}
use Rattle.ls_coding.proofs.GolombParameterLemmas.{shifts}
use Rattle.ls_coding.proofs.StatsLemmas.{counted_by_code, step_is, sound_is, error_through, error_size, error_low, error_high, sum_through}
use Rattle.ls_coding.proofs.update.update.Goals as goal

pub is_parameter-requires : goal.is_parameter-requires
is_parameter-requires c =
    let facts = counted_by_code c.args.presets.reset c.args.presets.maxval c.args.a.now c.args.n.now c.unsigned_abs.result c.count_error.new.a c.count_error.new.n c.from-reset.result
    c.args.b.now c.args.c.now c.args.error (omega arith) (omega arith) (omega arith) c.requires.sound c.requires.error c.unsigned_abs.ensures.value
    (c.from-reset.ensures ∙ c.reset.ensures.value) c.count_error.ensures.a c.count_error.ensures.n in
    let bound : error_bound c.args.presets.maxval ≤ 65536 = omega arith in
    let shifted = shifts c.args.n.now c.args.a.now c.args.k.now c.count_error.new.n (error_bound c.args.presets.maxval) c.requires.parameter c.requires.sound.sum bound facts.3 in
    record { some = facts.0; few = facts.1; small = shifted.0; fits = shifted.1 }

pub other_parameter-requires : goal.other_parameter-requires
other_parameter-requires c =
    let facts = counted_by_code c.args.presets.reset c.args.presets.maxval c.args.a.now c.args.n.now c.unsigned_abs.result c.count_error.new.a c.count_error.new.n c.from-reset.result
    c.args.b.now c.args.c.now c.args.error (omega arith) (omega arith) (omega arith) c.requires.sound c.requires.error c.unsigned_abs.ensures.value
    (c.from-reset.ensures ∙ c.reset.ensures.value) c.count_error.ensures.a c.count_error.ensures.n in
    record { some = facts.0; few = facts.1; sum = facts.2 }

low : (c : goal.After-correct_bias) → neg_ℤ (pos 32768) ≤ℤ c.args.error
low c = error_low _ c.args.error c.reset.ensures.legal.maxval c.requires.error

high : (c : goal.After-correct_bias) → c.args.error ≤ℤ pos 32767
high c = error_high _ c.args.error c.reset.ensures.legal.maxval c.requires.error

size : (c : goal.After-correct_bias) → c.unsigned_abs.result ≡ unsigned_abs c.args.error
size c = c.unsigned_abs.ensures.value ∙ ap unsigned_abs (error_through c.args.error (low c) (high c))

same : (c : goal.After-correct_bias) → c.from-reset.result ≡ c.args.presets.reset
same c = c.from-reset.ensures ∙ c.reset.ensures.value

pub returns-clause-step : goal.returns-clause-step
returns-clause-step c =
    step_is c.args.presets.reset c.args.a.now c.args.n.now c.unsigned_abs.result c.args.b.now c.args.c.now c.args.error
    c.count_error.new.a c.count_error.new.n c.count_error.new.b _ c.correct_bias.new.b c.correct_bias.new.c
    (size c) (sum_through c.args.presets.reset _ c.args.a.now c.args.n.now c.args.b.now c.args.c.now c.args.error c.requires.sound (omega arith) (low c) (high c))
    (rw (same c) at c.count_error.ensures.a) (rw (same c) at c.count_error.ensures.b) (rw (same c) at c.count_error.ensures.n) c.correct_bias.ensures.b c.correct_bias.ensures.c

pub returns-clause-sound : goal.returns-clause-sound
returns-clause-sound c =
    sound_is c.args.presets.reset _ c.args.a.now c.args.n.now c.unsigned_abs.result c.count_error.new.a c.count_error.new.n c.args.b.now c.args.c.now c.count_error.new.b c.correct_bias.new.b c.correct_bias.new.c
    (omega arith) c.requires.sound (omega (arith, size c, error_size _ c.args.error c.requires.error)) (rw (same c) at c.count_error.ensures.a) (rw (same c) at c.count_error.ensures.n) c.correct_bias.ensures.b c.correct_bias.ensures.low c.correct_bias.ensures.high
