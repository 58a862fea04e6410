use Rattle.std.proofs.Common.{◌≡◌, ℕ, ◌+◌, ◌-◌, ◌*◌, ◌<◌, ◌≤◌, ◌++◌, length, get_or}
use Rattle.ls_frame.specs.Picture.{components}
use Rattle.ls_stream.specs.Components.{plane_of}
use Rattle.ls_stream.specs.Layout.{scans_up_to, scan_bound}
use Rattle.ls_stream.proofs.encode.put_scans.Given as goal

abbrev pub invariant-loop-component : goal.invariant-loop-component
invariant-loop-component g l = record {
  bytes : g.R.Room.items l.bytes ≡ g.R.Room.items l.fn.bytes ++ scans_up_to l.picture l.presets l.component;
  within : (component : ℕ) → component < l.component → (k : ℕ) → get_or (plane_of l.picture component).samples k 0 ≤ l.picture.maxval;
  room : length (g.R.Room.items l.bytes) + (components l.picture.kind - l.component) * (10 + scan_bound l.picture l.presets) + 2 ≤ g.R.Room.capacity l.bytes;
  capacity : g.R.Room.capacity l.bytes ≡ g.R.Room.capacity l.fn.bytes;
  grown : g.R.Room.Grown l.fn.bytes l.bytes;
  lines : l.lines ≡ l.fn.lines;
  count : l.component-end ≡ components l.picture.kind;
}
