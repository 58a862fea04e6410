use Rattle.std.proofs.Common.{◌≡◌, drop}
use Rattle.ls_stream.specs.View.Outlines.{ids_in, scans_at, rest_of}
use Rattle.ls_stream.proofs.decode.skip_scans.Given as goal

-- skipping all scans leaves what skipping those from this component on leaves
abbrev pub invariant-loop-component : goal.invariant-loop-component
invariant-loop-component l = record {
  read : rest_of (scans_at (drop 1 (ids_in l.header)) l.fn.bytes) ≡ rest_of (scans_at (drop l.component (drop 1 (ids_in l.header))) l.rest);
}
