use Rattle.std.proofs.Common.{◌≡◌, ◌<◌, ◌≤◌, ◌++◌, ◌∷◌, [], ◌⊎◌, inl, inr, true, length, ap, sym, ◌∙◌, arith}
use Rattle.ls_bits.specs.Stuffing.{stuff}
use Rattle.ls_bits.specs.View.Packing.{Packed, packed_bits}
use Rattle.ls_bits.proofs.PackingLemmas.{some_bits, stuff-packed_last, stuff-packed_whole}
use Rattle.ls_bits.proofs.packer.Packer.finish.Goals as goal
use Rattle.ls_bits.proofs.packer.Packer.finish.Goals.{then-self-gt0-via-then-self-gt0, then-self-gt0-via-else-self-gt0+then-self}

pub put_byte-requires : goal.put_byte-requires
put_byte-requires g c =
    let some : (1 ≤ c.self.inside.held) ⊎ (c.self.inside.after_ff ≡ true) = elim c.then-self-gt0.branch [
      | then-self-gt0-via-then-self-gt0 w ↦ inl w.if-self-gt0.true
      | then-self-gt0-via-else-self-gt0+then-self w ↦ inr w.if-self.true
    ] in
    let bits : 0 < length (packed_bits c.self.inside.start (g.R.Room.items c.self.inside.bytes) c.self.inside.word c.self.inside.held) = some_bits _ c.self.inside.word _ _ _ c.self.invariant some in
    let same : length (packed_bits c.self.inside.start (g.R.Room.items c.self.inside.bytes) c.self.inside.word c.self.inside.held) ≡ length c.args.self.bits =
    ap (λ (p : Packed g.row.R.Denot). length p.bits) c.self.view_is ∙ ap length c.put_out_bytes.ensures.bits in
    omega (arith, c.requires.room (omega arith), c.put_out_bytes.ensures.rest.room, ap (λ (p : Packed g.row.R.Denot). p.capacity_left) c.self.view_is)

pub returns-then-self-gt0-clause-bytes : goal.returns-then-self-gt0-clause-bytes
returns-then-self-gt0-clause-bytes g c =
    let some : (1 ≤ c.self.inside.held) ⊎ (c.self.inside.after_ff ≡ true) = elim c.then-self-gt0.branch [
      | then-self-gt0-via-then-self-gt0 w ↦ inl w.if-self-gt0.true
      | then-self-gt0-via-else-self-gt0+then-self w ↦ inr w.if-self.true
    ] in
    let held : c.self.inside.held ≡ c.put_out_bytes.new.self.held = ap (λ (p : Packed g.row.R.Denot). p.held) c.self.view_is in
    c.put_byte.ensures.items
    ∙ ap (λ byte. (g.R.Room.items c.self.inside.bytes) ++ byte ∷ []) c.last_group.ensures
    ∙ sym (stuff-packed_last c.self.inside.start c.self.inside.word c.self.inside.held (g.R.Room.items c.self.inside.bytes) c.self.inside.after_ff
    c.self.invariant (omega (arith, c.put_out_bytes.ensures.held)) some)
    ∙ ap (λ (p : Packed g.row.R.Denot). p.front ++ stuff p.bits) c.self.view_is
    ∙ ap (λ front. front ++ stuff c.put_out_bytes.new.self.bits) c.put_out_bytes.ensures.rest.front
    ∙ ap (λ bits. c.args.self.front ++ stuff bits) c.put_out_bytes.ensures.bits

pub returns-else-self-clause-bytes : goal.returns-else-self-clause-bytes
returns-else-self-clause-bytes g c =
    sym (stuff-packed_whole c.self.inside.start c.self.inside.word c.self.inside.held (g.R.Room.items c.self.inside.bytes) c.self.inside.after_ff
    c.self.invariant (omega arith) c.if-self.false)
    ∙ ap (λ (p : Packed g.row.R.Denot). p.front ++ stuff p.bits) c.self.view_is
    ∙ ap (λ front. front ++ stuff c.put_out_bytes.new.self.bits) c.put_out_bytes.ensures.rest.front
    ∙ ap (λ bits. c.args.self.front ++ stuff bits) c.put_out_bytes.ensures.bits
