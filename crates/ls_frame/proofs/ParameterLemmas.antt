-- Explicit and default parameters.
use Rattle.std.proofs.Common.{◌≡◌, ◌<◌, ◌≤◌, ℕ, Option, None, Some, IfOk, refl, arith, rules}
use Rattle.ls_frame.specs.declared.presets.PresetFault.{PresetFault}
use Rattle.ls_frame.specs.Parameters.{Parameters, IsLegal, clamped_threshold, unclamped_thresholds, default_t1, default_t2, default_parameters, preset_fault, unless_fault, explicit_parameters}

unless_fault-same : (found : Option PresetFault) (p : Parameters) → IfOk (unless_fault found p) (λ q. q ≡ p)
unless_fault-same None p = refl
unless_fault-same (Some fault) p = tt

-- explicit parameters that are accepted are those given
pub explicit_parameters-same : (p : Parameters) → IfOk (explicit_parameters p) (λ q. q ≡ p)
unfolding explicit_parameters
explicit_parameters-same p = unless_fault-same (preset_fault p) p

-- ---- default parameters

clamped : (v low maxval : ℕ) → low ≤ maxval → (low ≤ clamped_threshold v low maxval) × (clamped_threshold v low maxval ≤ maxval)
clamped v low maxval within = search rules

pub defaults_legal : (maxval : ℕ) → 0 < maxval → maxval ≤ 65535 → IsLegal (default_parameters maxval)
unfolding default_parameters
defaults_legal maxval some small =
    let one = clamped (unclamped_thresholds maxval).0 1 maxval (omega arith) in
    let two = clamped (unclamped_thresholds maxval).1 (default_t1 maxval) maxval one.1 in
    let three = clamped (unclamped_thresholds maxval).2 (default_t2 maxval) maxval two.1 in
    record {
      some_maxval = some;
      maxval = small;
      some_t1 = omega (arith, one.0);
      t1 = one.1;
      some_t2 = two.0;
      t2 = two.1;
      some_t3 = three.0;
      t3 = three.1;
      some_reset = omega arith;
      reset = omega arith;
    }

pub defaults_maxval : (maxval : ℕ) → (default_parameters maxval).maxval ≡ maxval
unfolding default_parameters
defaults_maxval maxval = refl
