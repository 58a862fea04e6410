use Rattle.std.proofs.Common.{◌≡◌, ap, ◌∙◌, pos, arith}
use Rattle.std.specs.Prelude.{int_lt}
use mir.Val.{bool_byte}
use Rattle.ls_coding.proofs.StatsLemmas.{error_through, error_size, error_low, error_high}
use Rattle.ls_coding.proofs.InterruptionLemmas.{counts_step_is, sound_counts}
use Rattle.ls_coding.proofs.interruption.count_interruption.Goals as goal

more : (c : goal.After-count_interruption_error) → c.from-2.result ≡ bool_byte (int_lt c.args.error (pos 0))
more c =
    c.from-2.ensures ∙ ap (λ z. bool_byte (int_lt z (pos 0))) (error_through c.args.error (error_low _ c.args.error c.reset.ensures.legal.maxval c.requires.error)
    (error_high _ c.args.error c.reset.ensures.legal.maxval c.requires.error))

same : (c : goal.After-count_interruption_error) → c.from-reset.result ≡ c.args.presets.reset
same c = c.from-reset.ensures ∙ c.reset.ensures.value

pub returns-clause-step : goal.returns-clause-step
returns-clause-step c =
    counts_step_is c.args.ri_type c.args.presets.reset c.args.a.now c.args.n.now c.args.nn.now c.args.value c.from.result c.from-2.result c.args.error
    c.count_interruption_error.new.a c.count_interruption_error.new.n c.count_interruption_error.new.nn c.requires.value c.from.ensures (more c)
    (rw (same c) at c.count_interruption_error.ensures.a) (rw (same c) at c.count_interruption_error.ensures.n) (rw (same c) at c.count_interruption_error.ensures.nn)

pub returns-clause-sound : goal.returns-clause-sound
returns-clause-sound c =
    sound_counts c.args.ri_type c.args.presets.reset _ c.args.a.now c.args.n.now c.args.nn.now c.args.value c.from.result c.from-2.result c.args.error
    c.count_interruption_error.new.a c.count_interruption_error.new.n c.count_interruption_error.new.nn (omega arith) c.requires.sound (error_size _ c.args.error c.requires.error) c.requires.value c.from.ensures (more c)
    (rw (same c) at c.count_interruption_error.ensures.a) (rw (same c) at c.count_interruption_error.ensures.n) (rw (same c) at c.count_interruption_error.ensures.nn)
