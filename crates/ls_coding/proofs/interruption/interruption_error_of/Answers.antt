use Rattle.std.proofs.Common.{◌∙◌, ap, sym}
use Rattle.std.specs.Prelude.{◌-◌, ◌*◌, ℤ, unsigned_abs}
use Rattle.ls_coding.specs.Interruptions.{counts, map_of, ri_value}
use Rattle.ls_coding.proofs.SignedLemmas.{through}
use Rattle.ls_coding.proofs.InterruptionLemmas.{value_stood_for, only_stood_for}
use Rattle.ls_coding.proofs.interruption.interruption_error_of.Goals as goal

pub returns-clause-value : goal.returns-clause-value
returns-clause-value c =
    ap (λ (e : ℤ). 2 * unsigned_abs e - ri_value c.args.ri_type - map_of c.args.k (counts 0 c.args.n c.args.nn) e) (through c.signed_half.result c.signed_half.type_inv)
    ∙ value_stood_for c.args.ri_type c.args.k c.args.n c.args.nn c.args.value c.maps_negative.result c.from.result c.signed_half.result c.maps_negative.ensures c.from.ensures c.signed_half.ensures

pub returns-clause-only : goal.returns-clause-only
returns-clause-only c e some h =
    only_stood_for c.args.ri_type c.args.k c.args.n c.args.nn c.args.value c.maps_negative.result c.from.result c.signed_half.result e c.maps_negative.ensures c.from.ensures c.signed_half.ensures some h
    ∙ sym (through c.signed_half.result c.signed_half.type_inv)
