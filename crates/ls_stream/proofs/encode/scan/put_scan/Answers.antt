use Rattle.std.proofs.Common.{◌+◌, ◌-◌, ◌*◌, ◌/◌, ◌≤◌, ◌++◌, [], length, sym, ap, subst, ◌∙◌, arith}
use Rattle.ls_frame.specs.Parameters.{Parameters, limit_of}
use Rattle.ls_bits.specs.View.Room.{Fits}
use Rattle.ls_bits.specs.Stuffing.{stuff}
use Rattle.ls_coding.specs.View.States.{state_of}
use Rattle.ls_stream.specs.Planes.{plane_bits}
use Rattle.ls_stream.specs.Components.{plane_of}
use Rattle.ls_stream.proofs.LayoutLemmas.{stuffed_short}
use Rattle.ls_stream.proofs.encode.scan.put_scan.Goals as goal

pub code_plane-within-requires-clause-maxval : goal.code_plane-within-requires-clause-maxval
code_plane-within-requires-clause-maxval g c = ap (λ (p : Parameters). p.maxval) c.new-coder.ensures.parameters ∙ c.requires.maxval

pub code_plane-within-requires-clause-state : goal.code_plane-within-requires-clause-state
code_plane-within-requires-clause-state g c = c.new-coder.ensures.state ∙ ap (λ p. state_of p []) (sym c.new-coder.ensures.parameters)

pub code_plane-within-requires-clause-room : goal.code_plane-within-requires-clause-room
code_plane-within-requires-clause-room g c =
    let most : limit_of c.args.presets.now.maxval * (c.args.picture.now.width * c.args.picture.now.height) / 7 + 1 ≤ c.new-coder.result.capacity_left = omega (arith, c.new-coder.ensures.room, c.requires.room, ap (λ room. g.R.Room.capacity room - length (g.R.Room.items room)) c.take_room.ensures) in
    subst (λ (p : Parameters). Fits (limit_of p.maxval * (c.args.picture.now.width * c.args.picture.now.height)) c.new-coder.result.capacity_left) (sym c.new-coder.ensures.parameters) most

pub returns-clause-bytes : goal.returns-clause-bytes
returns-clause-bytes g c answer =
    c.finish.ensures.bytes ∙ ap (λ front. front ++ stuff c.code_plane-within.new.coder.bits) (c.code_plane-within.ensures.front ∙ c.new-coder.ensures.front ∙ ap g.R.Room.items c.take_room.ensures)
    ∙ ap (λ bits. (g.R.Room.items c.args.bytes.now) ++ stuff bits)
    (c.code_plane-within.ensures.bits answer ∙ ap (λ p. plane_bits p (plane_of c.args.picture.now c.args.component)) c.new-coder.ensures.parameters)

pub returns-clause-short : goal.returns-clause-short
returns-clause-short g c =
    let cost : length c.code_plane-within.new.coder.bits ≤ limit_of c.args.presets.now.maxval * (c.args.picture.now.width * c.args.picture.now.height) =
    subst (λ (p : Parameters). length c.code_plane-within.new.coder.bits ≤ limit_of p.maxval * (c.args.picture.now.width * c.args.picture.now.height)) c.new-coder.ensures.parameters c.code_plane-within.ensures.cost in
    omega (
      arith,
      stuffed_short (g.R.Room.items c.args.bytes.now) (g.R.Room.items c.finish.result) _ _
          (c.finish.ensures.bytes ∙ ap (λ front. front ++ stuff c.code_plane-within.new.coder.bits) (c.code_plane-within.ensures.front ∙ c.new-coder.ensures.front ∙ ap g.R.Room.items c.take_room.ensures))
          cost,
    )
