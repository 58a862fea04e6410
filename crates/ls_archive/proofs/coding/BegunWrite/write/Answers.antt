use Rattle.ls_archive.proofs.CodedLemmas.{written-on}
use Rattle.ls_archive.proofs.coding.BegunWrite.write.Goals as goal

pub invariant_of-self : goal.invariant_of-self
invariant_of-self g c =
    let start = g.K.Beginning.start in
    let begun = g.K.Beginning.begun in
    let made = c.write.ensures in
    written-on g.W.Write.contents g.I.Write.contents start begun c.self.inside.writer c.write.new.self c.args.buf.now c.write.result c.self.invariant
    (λ bytes is. made.recorded start begun bytes is) made.told made.untold
