use Rattle.std.proofs.Common.{◌≡◌, ◌+◌, length, ap, ◌∙◌, arith, length-append}
use Rattle.ls_bits.specs.Bits.{bits_of}
use Rattle.ls_bits.specs.View.Room.{Filled}
use Rattle.ls_bits.proofs.BitLemmas.{length-bits_of}
use Rattle.ls_bits.proofs.room_sink.RoomSink.put.Goals as goal

pub invariant_of-self : goal.invariant_of-self
invariant_of-self g c =
    let front : length c.put.new.self.front ≡ length c.self.inside.packer.front = ap length c.put.ensures.rest.front in
    let room = ap (λ (f : Filled g.row.R.Denot). f.capacity_left) c.self.view_is in
    let size = ap (λ (f : Filled g.row.R.Denot). length f.bits) c.self.view_is in
    let bits : length c.put.new.self.bits ≡ length c.self.inside.packer.bits + length (bits_of c.args.count c.args.value) = ap length c.put.ensures.bits ∙ length-append _ _ in
    let count : length (bits_of c.args.count c.args.value) ≡ c.args.count = length-bits_of c.args.count c.args.value in (
      omega (arith, front, c.put.ensures.rest.capacity, c.self.invariant.0),
      omega (arith, front, bits, count, c.put.ensures.rest.capacity, c.put.ensures.rest.room, c.self.invariant.1),
      λ some. omega (arith, front, bits, count, room, size, c.put.ensures.rest.capacity, c.requires.room),
    )
