-- The codestream that is written for a frame: of all its codestreams the one with no fill bytes and no skipped segments, with the
-- components numbered from 1, and with preset parameters, after the frame header, only if they aren't the defaults of the precision.
use Rattle.std.specs.Prelude.{ℕ, ◌+◌, ◌*◌, ◌/◌, ◌&&◌, ◌==◌, not, Bool, if◌then◌else◌, List, [], ◌∷◌, ◌++◌, map, flat_map}
use Rattle.std.specs.List.{range_with_len}
use Rattle.ls_frame.specs.Picture.{Picture, components}
use Rattle.ls_frame.specs.Parameters.{Parameters, bpp_of, limit_of, default_parameters}
use Rattle.ls_bits.specs.Stuffing.{stuff}
use Rattle.ls_stream.specs.Segments.{segment, scan_contents, Component, Header}
use Rattle.ls_stream.specs.declared.marker.Marker.TheVariants.{StartOfScan}
use Rattle.ls_stream.specs.Planes.{plane_bits}
use Rattle.ls_stream.specs.Components.{plane_of}
use Rattle.ls_stream.specs.Grammar.{Miscellaneous, presets, Scan, Codestream, codestream_bytes, greatest_maxval}

abbrev pub written_component : ℕ → Component
written_component component = record { id = component + 1; table = 0 }

abbrev pub written_header : Picture → Header
written_header f = record {
  precision = bpp_of f.maxval;
  height = f.height;
  width = f.width;
  components = map written_component (range_with_len 0 (components f.kind));
}

abbrev pub same_parameters : Parameters → Parameters → Bool
same_parameters p q = p.maxval == q.maxval && (p.t1 == q.t1 && (p.t2 == q.t2 && (p.t3 == q.t3 && p.reset == q.reset)))

-- whether parameters have to be written
unfoldable pub needs_presets : Parameters → Bool
needs_presets p = not (same_parameters p (default_parameters (greatest_maxval (bpp_of p.maxval))))

abbrev pub written_presets : Parameters → List Miscellaneous
written_presets p = if needs_presets p then presets 0 p ∷ [] else []

abbrev pub written_scan : Picture → Parameters → ℕ → Scan
written_scan f p component = record { fill = 0; stuffed = stuff (plane_bits p (plane_of f component)); after = [] }

abbrev pub layout : Picture → Parameters → Codestream
layout f p = record {
  before = [];
  fill = 0;
  header = written_header f;
  between = written_presets p;
  scans = map (written_scan f p) (range_with_len 0 (components f.kind));
  last_fill = 0;
}

unfoldable pub codestream : Picture → Parameters → List ℕ
codestream f p = codestream_bytes (layout f p)

-- ---- the same, part by part

-- the scan of a component: its header and its data
abbrev pub scan_of : Picture → Parameters → ℕ → List ℕ
scan_of f p component = segment StartOfScan (scan_contents (component + 1)) ++ stuff (plane_bits p (plane_of f component))

-- the scans of the first components
unfoldable pub scans_up_to : Picture → Parameters → ℕ → List ℕ
scans_up_to f p count = flat_map (scan_of f p) (range_with_len 0 count)

-- ---- how long it may be

abbrev pub presets_length : Parameters → ℕ
presets_length p = if needs_presets p then 15 else 0

-- the bytes of SOI, the frame header, preset parameters if they are written, a scan header for each component, and EOI
unfoldable pub headers_length : Picture → Parameters → ℕ
headers_length f p = 2 + (10 + 3 * components f.kind) + presets_length p + 10 * components f.kind + 2

-- the bytes of data of a plane that takes LIMIT bits per sample: at least seven bits to each byte but the last
abbrev pub scan_bound : Picture → Parameters → ℕ
scan_bound f p = limit_of p.maxval * (f.width * f.height) / 7 + 1

unfoldable pub bound : Picture → Parameters → ℕ
bound f p = headers_length f p + components f.kind * scan_bound f p
