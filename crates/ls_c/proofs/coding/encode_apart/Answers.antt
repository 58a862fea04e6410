use Rattle.std.proofs.Common.{◌∙◌, length, inr, sym, ap, rules, arith}
use Rattle.ls_c.specs.Refusals.{status_by}
use Rattle.ls_c.proofs.EncodingLemmas.{frame_refusal, over_refusal, room, no_room}
use Rattle.ls_c.proofs.coding.encode_apart.Goals as goal

pub returns-clause-done : goal.returns-clause-done
returns-clause-done c = search rules

pub returns-then-count-bytes-clause-need : goal.returns-then-count-bytes-clause-need
returns-then-count-bytes-clause-need g c = search rules

pub returns-then-count-bytes-clause-exactly : goal.returns-then-count-bytes-clause-exactly
returns-then-count-bytes-clause-exactly c =
    let coded = rw c.in-Some.is at c.in_ok-codestream.ensures.exactly in
    inr (sym (ap status_by (frame_refusal c.args.picture.now c.args.presets.now (length c.args.bytes.now) coded.0 ∙ no_room c.args.picture.now c.args.presets.now c.args.bytes.now (omega (arith, c.if-count-bytes.true, c.len-count.ensures, ap length coded.1)))))

pub returns-in_default-clause-exactly : goal.returns-in_default-clause-exactly
returns-in_default-clause-exactly c =
    let refused = rw c.in_default.is at c.in_ok-codestream.ensures.exactly in
    inr (sym (ap status_by (over_refusal c.args.picture.now c.args.presets.now (length c.args.bytes.now) refused.0 refused.1)))

pub returns-clause-exactly : goal.returns-clause-exactly
returns-clause-exactly c =
    let coded = rw c.in-Some.is at c.in_ok-codestream.ensures.exactly in
    inr (sym (ap status_by (frame_refusal c.args.picture.now c.args.presets.now (length c.args.bytes.now) coded.0 ∙ room c.args.picture.now c.args.presets.now c.args.bytes.now (omega (arith, c.if-count-bytes.false, c.len-count.ensures, ap length coded.1)))))
