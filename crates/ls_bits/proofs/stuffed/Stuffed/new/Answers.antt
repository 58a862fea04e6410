use Rattle.ls_bits.proofs.WindowLemmas.{window-new}
use Rattle.ls_bits.proofs.stuffed.Stuffed.new.Goals as goal

pub invariant_of-result : goal.invariant_of-result
invariant_of-result c = window-new c.args.bytes.now c.type_inv.bytes c.requires
