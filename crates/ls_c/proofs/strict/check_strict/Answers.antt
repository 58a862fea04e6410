use Rattle.std.proofs.Common.{◌∙◌}
use Rattle.ls_c.proofs.StrictLemmas.{strict_is, loose_is, refused_is}
use Rattle.ls_c.proofs.strict.check_strict.Goals as goal

pub returns-in-Err : goal.returns-in-Err
returns-in-Err c =
    rw c.fault_number.ensures
    (refused_is c.args.bytes.now c.in-Err.first c.details_of.result c.in-Err.ensures.first c.in-Err.ensures.memory c.in-Err.ensures.complete c.details_of.ensures)

pub returns-in-None : goal.returns-in-None
returns-in-None c =
    strict_is c.args.bytes.now c.in-Ok.found.used c.in-Ok.found.loose c.no_details.result c.in-Ok.ensures.within c.in-Ok.ensures.strict c.in-None.is c.in-Ok.ensures.complete c.no_details.ensures

pub returns-in-Some : goal.returns-in-Some
returns-in-Some c =
    loose_is c.args.bytes.now c.in-Ok.found.used c.in-Some.component c.in-Ok.found.loose c.details.result c.in-Ok.ensures.within c.in-Ok.ensures.loose c.in-Ok.ensures.never c.in-Some.is
    c.in-Ok.ensures.complete (c.details.ensures.component ∙ c.from.ensures) c.details.ensures.marker c.details.ensures.number
