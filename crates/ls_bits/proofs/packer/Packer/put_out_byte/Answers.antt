use Rattle.std.proofs.Common.{◌≡◌, ◌+◌, ◌-◌, ap, ◌∙◌, arith}
use Rattle.ls_bits.specs.View.Packing.{Packed, byte_bits}
use Rattle.ls_bits.proofs.StuffingLemmas.{size_range}
use Rattle.ls_bits.proofs.PackingLemmas.{byte_bits-size, IsNextByte, packed-byte, packed_bits-byte}
use Rattle.ls_bits.proofs.packer.Packer.put_out_byte.Goals as goal

pub invariant_of-self : goal.invariant_of-self
invariant_of-self g c =
    let next : IsNextByte c.self.inside.word (c.self.inside.held - c.byte_bits.result) c.self.inside.after_ff c.group-byte.result = record { is = c.group-byte.ensures } in
    rw (c.put_byte.ensures.items) (packed-byte _ _ _ _ _ _ _ c.self.invariant (omega (arith, c.self.invariant.few)) next)

pub returns-clause-bits : goal.returns-clause-bits
returns-clause-bits g c =
    let held : c.self.inside.held ≡ c.args.self.now.held = ap (λ (p : Packed g.row.R.Denot). p.held) c.self.view_is in
    let sum : byte_bits c.self.inside.after_ff + (c.self.inside.held - c.byte_bits.result) ≡ c.self.inside.held =
    omega (arith, c.requires.held, (size_range (byte_bits c.self.inside.after_ff) (byte_bits-size c.self.inside.after_ff)).1) in
    let next : IsNextByte c.self.inside.word (c.self.inside.held - c.byte_bits.result) c.self.inside.after_ff c.group-byte.result = record { is = c.group-byte.ensures } in
    rw (c.put_byte.ensures.items) (packed_bits-byte _ _ _ _ _ _ _ _ c.self.invariant sum next)
    ∙ ap (λ (p : Packed g.row.R.Denot). p.bits) c.self.view_is
