-- Parameters of which some are chosen and the others are defaults.
use Rattle.std.specs.Prelude.{ℕ, ◌==◌, if◌then◌else◌}
use Rattle.ls_frame.specs.declared.tuning.Tuning.{Tuning}
use Rattle.ls_frame.specs.Parameters.{Parameters, default_parameters}

-- the chosen value, or the default if that is 0
abbrev pub or_default : ℕ → ℕ → ℕ
or_default chosen default = if chosen == 0 then default else chosen

-- the parameters that a tuning asks for at a maxval; each default depends on the maxval alone
unfoldable pub tuned : Tuning → ℕ → Parameters
tuned t maxval = let defaults = default_parameters maxval in record {
  maxval = maxval;
  t1 = or_default t.t1 defaults.t1;
  t2 = or_default t.t2 defaults.t2;
  t3 = or_default t.t3 defaults.t3;
  reset = or_default t.reset defaults.reset;
}
