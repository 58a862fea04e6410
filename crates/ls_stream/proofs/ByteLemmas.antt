-- The codestream that is written for a frame consists of bytes.
use Rattle.std.proofs.Common.{ℕ, zero, suc, ◌+◌, ◌^◌, ◌<◌, ◌≤◌, ◌++◌, [], ◌∷◌, Bool, true, false, cond, List, length, map, flat_map, inr, refl, sym, subst, arith}
use Rattle.std.specs.List.{range_with_len}
use Rattle.ls_frame.specs.declared.frame.Kind.{Kind}
use Rattle.ls_frame.specs.declared.frame.Kind.TheVariants.{Gray, Color}
use Rattle.ls_frame.specs.Picture.{Picture, IsFrame, components}
use Rattle.ls_frame.specs.Parameters.{Parameters, bpp_of}
use Rattle.ls_frame.proofs.ExponentLemmas.{ceil_log2-least}
use Rattle.ls_bits.specs.Bits.{AreBytes, two_bytes}
use Rattle.ls_bits.proofs.StuffingLemmas.{groups-bytes}
use Rattle.ls_stream.specs.declared.marker.Marker.TheVariants.{StartOfImage, EndOfImage, StartOfFrame}
use Rattle.ls_stream.specs.Markers.{marker}
use Rattle.ls_stream.specs.Planes.{plane_bits}
use Rattle.ls_stream.specs.Components.{plane_of}
use Rattle.ls_stream.specs.Segments.{segment, component_bytes, header_contents, presets_contents, scan_contents, AreTwoByteFields}
use Rattle.ls_stream.specs.Grammar.{presets, miscellaneous_bytes}
use Rattle.ls_stream.specs.Layout.{written_component, written_header, needs_presets, written_presets, scan_of, scans_up_to, codestream}
use Rattle.ls_stream.proofs.LayoutLemmas.{codestream_is}
use Rattle.ls_stream.proofs.FrameLemmas.{few_components}

joined : (xs ys : List ℕ) → AreBytes xs → AreBytes ys → AreBytes (xs ++ ys)
joined [] ys these those = those
joined (x ∷ xs) ys these those = (these.0, joined xs ys these.1 those)

two : (n : ℕ) → n < 2 ^ 16 → AreBytes (two_bytes n)
two n small = (omega arith, (omega arith, tt))

-- the components of a header, numbered from 1
components_by : (kind : Kind) → AreBytes (flat_map component_bytes (map written_component (range_with_len 0 (components kind))))
components_by Gray = (omega arith, (omega arith, (omega arith, tt)))
components_by Color =
    (omega arith, (omega arith, (omega arith, (omega arith, (omega arith, (omega arith, (omega arith, (omega arith, (omega arith, tt)))))))))

header_by : (kind : Kind) (precision height width : ℕ) → precision ≤ 16 → height < 2 ^ 16 → width < 2 ^ 16
    → AreBytes (segment StartOfFrame (header_contents (record { precision = precision; height = height; width = width; components = map written_component (range_with_len 0 (components kind)) })))
unfolding header_contents
header_by Gray precision height width few high wide = (
  omega arith,
  (
    omega arith,
    (
      omega arith,
      (
        omega arith,
        (
          omega arith,
          (omega arith, (omega arith, (omega arith, (omega arith, (omega arith, components_by Gray))))),
        ),
      ),
    ),
  ),
)
header_by Color precision height width few high wide = (
  omega arith,
  (
    omega arith,
    (
      omega arith,
      (
        omega arith,
        (
          omega arith,
          (omega arith, (omega arith, (omega arith, (omega arith, (omega arith, components_by Color))))),
        ),
      ),
    ),
  ),
)

header_are : (f : Picture) → IsFrame f → AreBytes (segment StartOfFrame (header_contents (written_header f)))
header_are f frame =
    header_by f.kind (bpp_of f.maxval) f.height f.width (omega (arith, ceil_log2-least (f.maxval + 1) 16 (omega (arith, frame.formed.maxval))))
    (omega (arith, frame.formed.height)) (omega (arith, frame.formed.width))

presets_by : (p : Parameters) → AreTwoByteFields p → (test : Bool) → AreBytes (miscellaneous_bytes (cond test (presets 0 p ∷ []) []))
unfolding presets_contents
presets_by p fields false = tt
presets_by p fields true = (
  omega arith,
  (
    omega arith,
    (
      omega arith,
      (
        omega arith,
        (
          omega arith,
          (
            omega (arith, fields.maxval),
            (
              omega arith,
              (
                omega (arith, fields.t1),
                (
                  omega arith,
                  (
                    omega (arith, fields.t2),
                    (
                      omega arith,
                      (omega (arith, fields.t3), (omega arith, (omega (arith, fields.reset), (omega arith, tt)))),
                    ),
                  ),
                ),
              ),
            ),
          ),
        ),
      ),
    ),
  ),
)

scan_are : (f : Picture) (p : Parameters) (component : ℕ) → component < 255 → AreBytes (scan_of f p component)
unfolding scan_contents
scan_are f p component few =
    let bits = plane_bits p (plane_of f component) in (
      omega arith,
      (
        omega arith,
        (
          omega arith,
          (
            omega arith,
            (
              omega arith,
              (
                omega arith,
                (
                  omega arith,
                  (
                    omega arith,
                    (
                      omega arith,
                      (
                        omega arith,
                        groups-bytes (suc (length bits)) 8 bits (inr refl),
                      ),
                    ),
                  ),
                ),
              ),
            ),
          ),
        ),
      ),
    )

scans_are : (f : Picture) (p : Parameters) (from count : ℕ) → from + count ≤ 255 → AreBytes (flat_map (scan_of f p) (range_with_len from count))
scans_are f p from zero few = tt
scans_are f p from (suc count) few =
    joined (scan_of f p from) (flat_map (scan_of f p) (range_with_len (from + 1) count)) (scan_are f p from (omega arith)) (scans_are f p (from + 1) count (omega arith))

pub codestream_bytes_are : (f : Picture) (p : Parameters) → IsFrame f → AreTwoByteFields p → AreBytes (codestream f p)
unfolding scans_up_to
codestream_bytes_are f p frame fields =
    let start = marker StartOfImage in
    let header = segment StartOfFrame (header_contents (written_header f)) in
    let tables = miscellaneous_bytes (written_presets p) in
    let scans = flat_map (scan_of f p) (range_with_len 0 (components f.kind)) in
    subst AreBytes (sym (codestream_is f p))
    (joined (((start ++ header) ++ tables) ++ scans) (marker EndOfImage)
    (joined ((start ++ header) ++ tables) scans
    (joined (start ++ header) tables (joined start header (omega arith, (omega arith, tt)) (header_are f frame)) (presets_by p fields (needs_presets p)))
    (scans_are f p 0 (components f.kind) (omega (arith, few_components f.kind))))
    (omega arith, (omega arith, tt)))
