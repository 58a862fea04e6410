use Rattle.std.proofs.Common.{◌++◌, ap, ◌∙◌, arith}
use Rattle.ls_bits.specs.Bits.{bits_of}
use Rattle.ls_bits.specs.View.Packing.{Packed}
use Rattle.ls_bits.proofs.PackingLemmas.{word_out, packed-held, packed_bits-word_out}
use Rattle.ls_bits.proofs.packer.Packer.put.Goals as goal

pub invariant_of-self : goal.invariant_of-self
invariant_of-self g c =
    let out = word_out c.self.inside.start _ c.self.inside.held c.self.inside.after_ff (g.R.Room.items c.self.inside.bytes) (g.R.Room.items c.put_word.new.self)
    c.self.invariant c.if-self.false (c.has_ff.ensures c.if-has_ff.false) c.put_word.ensures.items in
    packed-held c.self.inside.start 0 _ c.self.inside.after_ff (g.R.Room.items c.put_word.new.self) out.packed c.if-self.false (omega (arith, c.self.invariant.few, c.requires.count))

pub returns-clause-bits : goal.returns-clause-bits
returns-clause-bits g c =
    let out = word_out c.self.inside.start _ c.self.inside.held c.self.inside.after_ff (g.R.Room.items c.self.inside.bytes) (g.R.Room.items c.put_word.new.self)
    c.self.invariant c.if-self.false (c.has_ff.ensures c.if-has_ff.false) c.put_word.ensures.items in
    packed_bits-word_out c.self.inside.start c.self.inside.held c.args.count _ c.self.inside.word c.args.value c.from.result c.from-self-inside.result
    (g.R.Room.items c.self.inside.bytes) (g.R.Room.items c.put_word.new.self) c.self.invariant.few (omega (arith, c.if-total-lt64.false)) c.requires.count c.requires.value
    c.from.ensures c.from-self-inside.ensures out.bits
    ∙ ap (λ (p : Packed g.row.R.Denot). p.bits ++ bits_of c.args.count c.args.value) c.self.view_is
