use Rattle.std.proofs.Common.{◌≡◌, ◌+◌, ◌-◌, ◌++◌, ap, refl, sym, append-nil, ◌∙◌, arith, rules}
use Rattle.ls_frame.specs.declared.frame.Form.{Form}
use Rattle.ls_frame.specs.Picture.{components}
use Rattle.ls_bits.specs.Stuffing.{stuff}
use Rattle.ls_stream.specs.Planes.{plane_bits}
use Rattle.ls_stream.specs.Components.{plane_of}
use Rattle.ls_stream.specs.Layout.{scans_up_to, scan_bound}
use Rattle.ls_stream.proofs.FrameLemmas.{frame_of_planes, one_more_plane}
use Rattle.ls_stream.proofs.LayoutLemmas.{scan_more, room_left}
use Rattle.ls_stream.proofs.encode.put_scans.Goals as goal

pub loop-component-init : goal.loop-component-init
unfolding scans_up_to
loop-component-init g c = record {
  bytes = sym (append-nil (g.R.Room.items c.args.bytes.now));
  within = λ component none. absurd (omega (arith, none));
  room = let whole : components c.args.picture.now.kind - 0 ≡ components c.args.picture.now.kind = omega arith in rw whole c.requires.room;
  capacity = refl;
  grown = g.met.R.Room.grown_not _;
  lines = refl;
  count = c.components-component-end.ensures ∙ ap (λ (form : Form). components form.kind) c.form.ensures.value;
}

pub put_scan-requires-clause-room : goal.put_scan-requires-clause-room
put_scan-requires-clause-room g c =
    omega (
      arith,
      c.loop-component.invariant.room,
      c.loop-component.invariant.count,
      room_left (components c.args.picture.now.kind) c.loop-component.component (10 + scan_bound c.args.picture.now c.args.presets.now) (omega (arith, c.loop-component.invariant.count)),
    )

pub loop-component-preserved : goal.loop-component-preserved
loop-component-preserved g c = record {
  bytes = scan_more c.args.picture.now c.args.presets.now (g.R.Room.items c.args.bytes.now) _ _ _ c.loop-component.component c.loop-component.invariant.bytes c.put_scan_header.ensures.bytes
      (c.put_scan.ensures.bytes c.if-not-put_scan.false ∙ ap (λ n. g.R.Room.items c.put_scan_header.new.bytes ++ stuff (plane_bits c.args.presets.now (plane_of c.args.picture.now n))) c.from.ensures);
  within = one_more_plane c.args.picture.now c.args.picture.now.maxval c.loop-component.component _ c.from.ensures c.loop-component.invariant.within (c.put_scan.ensures.within c.if-not-put_scan.false);
  room = omega (
    arith,
    c.loop-component.invariant.room,
    c.loop-component.invariant.count,
    c.put_scan.ensures.short,
    c.put_scan.ensures.capacity,
    room_left (components c.args.picture.now.kind) c.loop-component.component (10 + scan_bound c.args.picture.now c.args.presets.now) (omega (arith, c.loop-component.invariant.count)),
  );
  capacity = omega (arith, c.loop-component.invariant.capacity, c.put_scan.ensures.capacity, c.put_scan_header.ensures.capacity);
  grown = g.met.R.Room.grown_twice _ _ _ c.loop-component.invariant.grown (g.met.R.Room.grown_twice _ _ _ c.put_scan_header.ensures.grown c.put_scan.ensures.grown);
  lines = search rules;
  count = c.loop-component.invariant.count;
}

pub returns-clause-within : goal.returns-clause-within
returns-clause-within g c answer =
    frame_of_planes c.args.picture.now c.form.ensures.lawful (λ component inside. c.loop-component.invariant.within component (omega (arith, inside, c.loop-component.invariant.count)))

pub returns-then-not-put_scan-clause-room : goal.returns-then-not-put_scan-clause-room
returns-then-not-put_scan-clause-room g c =
    omega (
      arith,
      c.loop-component.invariant.room,
      c.loop-component.invariant.count,
      c.put_scan.ensures.short,
      c.put_scan.ensures.capacity,
      room_left (components c.args.picture.now.kind) c.loop-component.component (10 + scan_bound c.args.picture.now c.args.presets.now) (omega (arith, c.loop-component.invariant.count)),
    )
