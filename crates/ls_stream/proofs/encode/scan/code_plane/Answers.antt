use Rattle.std.proofs.Common.{[], refl, ap, ◌∙◌}
use Rattle.ls_coding.specs.View.States.{Coding}
use Rattle.ls_stream.proofs.CodedLemmas.{uninterrupted_of}
use Rattle.ls_stream.proofs.FrameLemmas.{within_of, small_of, room_of, cost_of, bits_of}
use Rattle.ls_stream.proofs.encode.scan.code_plane.Goals as goal

pub code_rows-requires-clause-uninterrupted : goal.code_rows-requires-clause-uninterrupted
code_rows-requires-clause-uninterrupted g c = ap (λ (s : Coding). s.interrupted) c.requires.state ∙ uninterrupted_of c.args.coder.now.state.parameters [] refl

pub code_rows-requires-clause-room : goal.code_rows-requires-clause-room
code_rows-requires-clause-room g c =
    room_of c.args.picture.now c.args.component c.component-view.result c.args.coder.now.state.parameters _ _ _ c.component-view.ensures c.requires.state c.requires.empty c.requires.room

pub returns-clause-within : goal.returns-clause-within
returns-clause-within g c answer =
    within_of c.args.picture.now c.args.component c.component-view.result c.args.coder.now.state.parameters _ c.component-view.ensures c.requires.state c.requires.maxval (c.code_rows.ensures.within answer)

pub returns-clause-over : goal.returns-clause-over
returns-clause-over g c answer frame =
    c.code_rows.ensures.over answer (small_of c.args.picture.now c.args.component c.component-view.result c.args.coder.now.state.parameters _ frame c.component-view.ensures c.requires.state c.requires.maxval)

pub returns-clause-bits : goal.returns-clause-bits
returns-clause-bits g c answer =
    bits_of c.args.picture.now c.args.component c.component-view.result c.args.coder.now.state.parameters _ _ _ _ c.component-view.ensures c.requires.state c.requires.empty (c.code_rows.ensures.rows answer [])

pub returns-clause-cost : goal.returns-clause-cost
returns-clause-cost g c =
    cost_of c.args.picture.now c.args.component c.component-view.result c.args.coder.now.state.parameters _ _ _ c.component-view.ensures c.requires.state c.requires.empty c.code_rows.ensures.cost
