use Rattle.std.proofs.Common.{◌≡◌, ◌+◌, ◌*◌, ◌++◌, map, flat_map, length}
use Rattle.std.specs.List.{range_with_len}
use Rattle.ls_stream.specs.Segments.{component_bytes}
use Rattle.ls_stream.specs.Layout.{written_component}
use Rattle.ls_stream.proofs.segments.write.put_components.Given as goal

abbrev pub invariant-loop-component : goal.invariant-loop-component
invariant-loop-component g l = record {
  bytes : g.R.Room.items l.bytes ≡ g.R.Room.items l.fn.bytes ++ flat_map component_bytes (map written_component (range_with_len 0 l.component));
  len : length (g.R.Room.items l.bytes) ≡ length (g.R.Room.items l.fn.bytes) + 3 * l.component;
  capacity : g.R.Room.capacity l.bytes ≡ g.R.Room.capacity l.fn.bytes;
  grown : g.R.Room.Grown l.fn.bytes l.bytes;
}
