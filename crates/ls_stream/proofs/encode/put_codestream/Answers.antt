use Rattle.std.proofs.Common.{arith}
use Rattle.ls_stream.proofs.LayoutLemmas.{all_put, room_is}
use Rattle.ls_stream.proofs.encode.put_codestream.Goals as goal

pub put_marker-requires : goal.put_marker-requires
put_marker-requires g c = record { room = omega (arith, c.requires.room, room_is c.args.picture.now c.args.presets.now) }

pub put_frame_header-requires : goal.put_frame_header-requires
put_frame_header-requires g c = record { room = omega (arith, c.requires.room, room_is c.args.picture.now c.args.presets.now) }

pub put_presets_if_needed-requires : goal.put_presets_if_needed-requires
put_presets_if_needed-requires g c = record { room = omega (arith, c.requires.room, room_is c.args.picture.now c.args.presets.now) }

pub put_scans-frame-requires-clause-room : goal.put_scans-frame-requires-clause-room
put_scans-frame-requires-clause-room g c = omega (arith, c.requires.room, room_is c.args.picture.now c.args.presets.now)

pub returns-clause-bytes : goal.returns-clause-bytes
returns-clause-bytes g c answer = all_put c.args.picture.now c.args.presets.now (g.R.Room.items c.args.bytes.now) _ _ _ _ _ c.put_marker.ensures.bytes c.put_frame_header.ensures.bytes c.put_presets_if_needed.ensures.bytes (c.put_scans-frame.ensures.bytes answer) c.put_marker-2.ensures.bytes
