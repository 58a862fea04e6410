use Rattle.std.proofs.Common.{◌≡◌, ◌+◌, ◌++◌, [], length, ap, ◌∙◌, arith}
use Rattle.ls_stream.specs.Markers.{marker}
use Rattle.ls_stream.specs.declared.marker.Marker.TheVariants.{StartOfImage}
use Rattle.ls_stream.proofs.LayoutLemmas.{all_put, room_is, three_scans}
use Rattle.ls_stream.proofs.encode.beside.joined.Goals as goal

pub put_marker-requires : goal.put_marker-requires
put_marker-requires c = record {
  room = omega (
    arith,
    ap length c.in_ok-bytes.ensures.items,
    c.in_ok-bytes.ensures.capacity,
    c.picture_bound-capacity.ensures.value,
    c.picture_bound-capacity.ensures.small,
    room_is c.args.picture.now c.args.presets.now,
  );
}

pub put_frame_header-requires : goal.put_frame_header-requires
put_frame_header-requires c = record {
  room = omega (
    arith,
    ap length c.in_ok-bytes.ensures.items,
    c.in_ok-bytes.ensures.capacity,
    c.picture_bound-capacity.ensures.value,
    c.picture_bound-capacity.ensures.small,
    c.put_marker.ensures.len,
    c.put_marker.ensures.capacity,
    room_is c.args.picture.now c.args.presets.now,
  );
}

pub put_presets_if_needed-requires : goal.put_presets_if_needed-requires
put_presets_if_needed-requires c = record {
  room = omega (
    arith,
    ap length c.in_ok-bytes.ensures.items,
    c.in_ok-bytes.ensures.capacity,
    c.picture_bound-capacity.ensures.value,
    c.picture_bound-capacity.ensures.small,
    c.put_marker.ensures.len,
    c.put_marker.ensures.capacity,
    c.put_frame_header.ensures.len,
    c.put_frame_header.ensures.capacity,
    room_is c.args.picture.now c.args.presets.now,
  );
}

pub returns-clause-bytes : goal.returns-clause-bytes
returns-clause-bytes c =
    let f = c.args.picture.now in
    let p = c.args.presets.now in
    let scans = three_scans f p _ _ _ _ c.args.first.now c.args.second.now c.args.third.now c.requires.color c.requires.first c.requires.second c.requires.third c.in_ok-extend_from_slice.ensures.items
    c.in_ok-extend_from_slice-2.ensures.items c.in_ok-extend_from_slice-3.ensures.items in
    all_put f p [] _ _ _ _ _ (c.put_marker.ensures.bytes ∙ ap (λ x. x ++ marker StartOfImage) c.in_ok-bytes.ensures.items) c.put_frame_header.ensures.bytes
    c.put_presets_if_needed.ensures.bytes scans c.in_ok-extend_from_slice-4.ensures.items

pub returns-clause-short : goal.returns-clause-short
returns-clause-short c =
    omega (arith, ap length (returns-clause-bytes c), c.picture_bound-capacity.ensures.enough c.requires.frame, c.picture_bound-capacity.ensures.small)
