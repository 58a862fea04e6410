use Rattle.std.proofs.Common.{ℕ, ◌/◌, ◌^◌, ◌∷◌, ◌++◌, true, ap, sym, subst, ◌∙◌, arith}
use Rattle.ls_bits.specs.Bits.{bits_of, zeros}
use Rattle.ls_bits.specs.View.Packing.{KeepsRest}
use Rattle.ls_bits.proofs.GolombLemmas.{code_word-small, code_word-escape, length-short, length-escape, short_word-low}
use Rattle.ls_bits.proofs.packer.Packer.put_golomb.Goals as goal

pub put_unary-requires-clause-room : goal.put_unary-requires-clause-room
put_unary-requires-clause-room g c = omega (arith, c.requires.room, length-short c.args.k c.args.glimit c.args.qbpp c.args.v c.if-small-escape.true)

pub put_escape-requires-clause-room : goal.put_escape-requires-clause-room
put_escape-requires-clause-room g c = omega (arith, c.requires.room, length-escape c.args.k c.args.glimit c.args.qbpp c.args.v c.if-small-escape.false)

pub returns-then-small-escape-clause-bits : goal.returns-then-small-escape-clause-bits
returns-then-small-escape-clause-bits g c =
    c.put_unary.ensures.bits
    ∙ ap (λ word. c.args.self.now.bits ++ word)
    (ap (λ low. zeros (c.args.v / 2 ^ c.args.k) ++ true ∷ bits_of c.args.k low) c.low_bits.ensures
    ∙ short_word-low c.args.k c.args.v
    ∙ sym (code_word-small c.args.k c.args.glimit c.args.qbpp c.args.v c.if-small-escape.true))

pub returns-then-small-escape-clause-rest : goal.returns-then-small-escape-clause-rest
returns-then-small-escape-clause-rest g c =
    subst (λ (n : ℕ). KeepsRest g.R.Room.Grown c.args.self.now c.put_unary.new.self n) (sym (length-short c.args.k c.args.glimit c.args.qbpp c.args.v c.if-small-escape.true)) c.put_unary.ensures.rest

pub returns-else-small-escape-clause-bits : goal.returns-else-small-escape-clause-bits
returns-else-small-escape-clause-bits g c =
    c.put_escape.ensures.bits
    ∙ ap (λ word. c.args.self.now.bits ++ word)
    (sym (code_word-escape c.args.k c.args.glimit c.args.qbpp c.args.v c.if-small-escape.false))

pub returns-else-small-escape-clause-rest : goal.returns-else-small-escape-clause-rest
returns-else-small-escape-clause-rest g c =
    subst (λ (n : ℕ). KeepsRest g.R.Room.Grown c.args.self.now c.put_escape.new.self n) (sym (length-escape c.args.k c.args.glimit c.args.qbpp c.args.v c.if-small-escape.false)) c.put_escape.ensures.rest
