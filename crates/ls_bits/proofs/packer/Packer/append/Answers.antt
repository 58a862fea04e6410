use Rattle.std.proofs.Common.{◌≡◌, ◌+◌, ◌*◌, ◌%◌, ◌^◌, ◌++◌, ap, ◌∙◌, arith}
use lib.Bits.{bit_or}
use Rattle.ls_bits.specs.Bits.{bits_of}
use Rattle.ls_bits.specs.View.Packing.{Packed, packed_bits}
use Rattle.ls_bits.proofs.PackingLemmas.{packed_bits-put}
use Rattle.ls_bits.proofs.packer.Packer.append.Goals as goal

pub returns-clause-bits : goal.returns-clause-bits
returns-clause-bits g c =
    let held : c.self.inside.held ≡ c.args.self.now.held = ap (λ (p : Packed g.row.R.Denot). p.held) c.self.view_is in
    ap (λ value. packed_bits c.self.inside.start (g.R.Room.items c.self.inside.bytes) (bit_or (c.self.inside.word * 2 ^ c.args.count % 2 ^ 64) value)
    (c.self.inside.held + c.args.count)) c.from.ensures
    ∙ packed_bits-put c.self.inside.start c.self.inside.word c.self.inside.held c.args.count c.args.value (g.R.Room.items c.self.inside.bytes)
    (omega (arith, c.requires.held)) c.requires.value
    ∙ ap (λ (p : Packed g.row.R.Denot). p.bits ++ bits_of c.args.count c.args.value) c.self.view_is
