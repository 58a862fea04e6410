-- How long a codestream is.
use Rattle.std.proofs.Common.{◌≡◌, ℕ, zero, suc, ◌+◌, ◌*◌, ◌/◌, ◌^◌, ◌<◌, ◌≤◌, ◌++◌, [], ◌∷◌, Bool, true, false, cond, length, map, flat_map, refl, ◌∙◌, ap, length-append, div-mul-le_self, arith}
use Rattle.std.proofs.lemmas.Nat.{mul-le}
use Rattle.std.specs.List.{range_with_len}
use Rattle.ls_frame.specs.Picture.{Picture, IsFrame, components, sample_count, most_samples}
use Rattle.ls_frame.specs.Parameters.{Parameters, IsLegal, qbpp_of, limit_of}
use Rattle.ls_coding.proofs.WordLemmas.{qbpp_are, limit_small}
use Rattle.ls_bits.specs.Stuffing.{stuff}
use Rattle.ls_stream.specs.declared.marker.Marker.TheVariants.{StartOfImage, EndOfImage, StartOfFrame}
use Rattle.ls_stream.specs.Markers.{marker}
use Rattle.ls_stream.specs.Segments.{segment, header_contents, scan_contents, presets_contents, component_bytes}
use Rattle.ls_stream.specs.Planes.{plane_bits}
use Rattle.ls_stream.specs.Components.{plane_of}
use Rattle.ls_stream.specs.Grammar.{presets, miscellaneous_bytes}
use Rattle.ls_stream.specs.Layout.{written_component, written_header, needs_presets, written_presets, presets_length, codestream, scan_of, scans_up_to, scan_bound, bound}
use Rattle.ls_stream.proofs.CostLemmas.{plane_bits_short}
use Rattle.ls_stream.proofs.FrameLemmas.{plane_length, plane_small, few_components}
use Rattle.ls_stream.proofs.LayoutLemmas.{stuffed_short, codestream_is, room_is}

most_by : (test : Bool) → cond test 15 0 ≤ 15
most_by true = omega arith
most_by false = omega arith

components_length : (from count : ℕ) → length (flat_map component_bytes (map written_component (range_with_len from count))) ≡ 3 * count
components_length from zero = refl
components_length from (suc count) = let more : suc (suc (suc (3 * count))) ≡ 3 * suc count = omega arith in ap (λ n. suc (suc (suc n))) (components_length (from + 1) count) ∙ more

header_length : (f : Picture) → length (segment StartOfFrame (header_contents (written_header f))) ≡ 10 + 3 * components f.kind
unfolding header_contents
header_length f = omega (arith, components_length 0 (components f.kind))

presets_by : (p : Parameters) (test : Bool) → length (miscellaneous_bytes (cond test (presets 0 p ∷ []) [])) ≡ cond test 15 0
unfolding presets_contents
presets_by p true = refl
presets_by p false = refl

presets_is : (p : Parameters) → length (miscellaneous_bytes (written_presets p)) ≡ presets_length p
presets_is p = presets_by p (needs_presets p)

presets_most : (p : Parameters) → presets_length p ≤ 15
presets_most p = most_by (needs_presets p)

scan_length : (f : Picture) (p : Parameters) (component : ℕ) → IsFrame f → IsLegal p → p.maxval ≡ f.maxval → length (scan_of f p component) ≤ 10 + scan_bound f p
unfolding scan_contents
scan_length f p component frame legal same =
    let bits = plane_bits p (plane_of f component) in
    let few : length bits ≤ limit_of p.maxval * length (plane_of f component).samples =
    plane_bits_short p (plane_of f component) legal frame.formed.some_width (λ k. omega (arith, plane_small f frame component k)) in
    let most : length bits ≤ limit_of p.maxval * (f.width * f.height) = omega (arith, ap (λ n. limit_of p.maxval * n) (plane_length f frame.formed component)) in
    omega (arith, stuffed_short [] (stuff bits) bits (limit_of p.maxval * (f.width * f.height)) refl most)

scans_length : (f : Picture) (p : Parameters) (from count : ℕ) → IsFrame f → IsLegal p → p.maxval ≡ f.maxval → length (flat_map (scan_of f p) (range_with_len from count)) ≤ count * (10 + scan_bound f p)
scans_length f p from zero frame legal same = omega arith
scans_length f p from (suc count) frame legal same =
    omega (arith, length-append (scan_of f p from) (flat_map (scan_of f p) (range_with_len (from + 1) count)), scan_length f p from frame legal same, scans_length f p (from + 1) count frame legal same)

limit_most : (p : Parameters) → IsLegal p → limit_of p.maxval ≤ 64
limit_most p legal = limit_small p.maxval (qbpp_of p.maxval) refl (qbpp_are p.maxval legal.some_maxval legal.maxval).few

pub within_bound : (f : Picture) (p : Parameters) → IsFrame f → IsLegal p → p.maxval ≡ f.maxval → length (codestream f p) ≤ bound f p
unfolding scans_up_to
within_bound f p frame legal same =
    let header = segment StartOfFrame (header_contents (written_header f)) in
    let tables = miscellaneous_bytes (written_presets p) in
    let scans = scans_up_to f p (components f.kind) in
    let start = marker StartOfImage in
    omega (
      arith,
      room_is f p,
      ap length (codestream_is f p),
      length-append (((start ++ header) ++ tables) ++ scans) (marker EndOfImage),
      length-append ((start ++ header) ++ tables) scans,
      length-append (start ++ header) tables,
      length-append start header,
      header_length f,
      presets_is p,
      scans_length f p 0 (components f.kind) frame legal same,
    )

-- LIMIT bits for each sample, seven to a byte, and one more byte for each component
pub bound_small : (f : Picture) (p : Parameters) → sample_count f.kind f.width f.height ≤ most_samples → IsLegal p → bound f p < 2 ^ 32
bound_small f p samples_few legal =
    let count = components f.kind in
    let limit = limit_of p.maxval in
    let bits = limit * (f.width * f.height) in
    let small : limit ≤ 64 = limit_most p legal in
    let all : count * bits ≡ limit * (f.width * f.height * count) = omega arith in
    let few : limit * (f.width * f.height * count) ≤ 64 * 2 ^ 28 = mul-le limit (f.width * f.height * count) 64 (2 ^ 28) small samples_few in
    let sevenths : count * (bits / 7 * 7) ≤ count * bits = mul-le count (bits / 7 * 7) count bits (omega arith) (div-mul-le_self bits 7) in
    let split : count * (10 + (bits / 7 + 1)) ≡ 11 * count + count * (bits / 7) = omega arith in
    let turned : count * (bits / 7 * 7) ≡ 7 * (count * (bits / 7)) = omega arith in
    omega (arith, room_is f p, presets_most p, few_components f.kind)
