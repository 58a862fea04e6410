-- What is appended of a codestream, part by part.
use Rattle.std.proofs.Common.{◌≡◌, ℕ, zero, suc, ◌+◌, ◌*◌, ◌-◌, ◌/◌, ◌<◌, ◌≤◌, ◌++◌, [], ◌∷◌, Bool, List, length, map, flat_map, inr, refl, sym, ◌∙◌, ap, append_assoc, append-nil, length-append, arith}
use Rattle.std.specs.List.{range_with_len}
use Rattle.std.proofs.lemmas.List.{flat_map_more}
use Rattle.std.proofs.lemmas.List.FromFn.{map-range_with_len_more}
use Rattle.ls_frame.specs.declared.frame.Kind.TheVariants.{Color}
use Rattle.ls_frame.specs.Picture.{Picture, components}
use Rattle.ls_frame.specs.Parameters.{Parameters}
use Rattle.ls_bits.specs.Stuffing.{stuff}
use Rattle.ls_bits.proofs.StuffingLemmas.{length-groups}
use Rattle.ls_stream.specs.Markers.{marker}
use Rattle.ls_stream.specs.Segments.{segment, Component, component_bytes, header_contents, scan_contents}
use Rattle.ls_stream.specs.declared.marker.Marker.TheVariants.{StartOfImage, EndOfImage, StartOfScan, StartOfFrame}
use Rattle.ls_stream.specs.Planes.{plane_bits}
use Rattle.ls_stream.specs.Components.{plane_of}
use Rattle.ls_stream.specs.Grammar.{miscellaneous_bytes, scan_bytes, scans_bytes, codestream_bytes}
use Rattle.ls_stream.specs.Layout.{written_component, written_header, written_presets, presets_length, written_scan, codestream, scan_of, scans_up_to, headers_length, scan_bound, bound}

range_push : (a count : ℕ) → range_with_len a (count + 1) ≡ range_with_len a count ++ (a + count) ∷ []
range_push a zero = let same : a ≡ a + 0 = omega arith in ap (λ n. n ∷ []) same
range_push a (suc count) =
    let more : suc count + 1 ≡ suc (suc count) = omega arith in
    let next : suc count ≡ count + 1 = omega arith in
    let last : a + 1 + count ≡ a + suc count = omega arith in
    ap (range_with_len a) more
    ∙ ap (λ ns. a ∷ ns) (ap (range_with_len (a + 1)) next ∙ range_push (a + 1) count ∙ ap (λ n. range_with_len (a + 1) count ++ n ∷ []) last)

-- one component more
pub component_more : (bytes start one two three : List ℕ) (component : ℕ) → start ≡ bytes ++ flat_map component_bytes (map written_component (range_with_len 0 component))
    → one ≡ start ++ (component + 1) ∷ [] → two ≡ one ++ 17 ∷ [] → three ≡ two ++ 0 ∷ []
    → three ≡ bytes ++ flat_map component_bytes (map written_component (range_with_len 0 (component + 1)))
component_more bytes start one two three component e f g h =
    let put = component_bytes (written_component component) in
    let so_far : List Component = map written_component (range_with_len 0 component) in
    h ∙ ap (λ x. x ++ 0 ∷ []) (g ∙ ap (λ x. x ++ 17 ∷ []) f)
    ∙ append_assoc (start ++ (component + 1) ∷ []) (17 ∷ []) (0 ∷ []) ∙ append_assoc start ((component + 1) ∷ []) (17 ∷ 0 ∷ [])
    ∙ ap (λ x. x ++ put) e ∙ flat_map_more component_bytes bytes so_far (written_component component)
    ∙ ap (λ (xs : List Component). bytes ++ flat_map component_bytes xs) (sym (map-range_with_len_more written_component 0 component component (omega arith)))

-- stuffed bits after bytes
pub stuffed_short : (bytes all : List ℕ) (bits : List Bool) (most : ℕ) → all ≡ bytes ++ stuff bits → length bits ≤ most → length all ≤ length bytes + (most / 7 + 1)
stuffed_short bytes all bits most e h =
    let short : length (stuff bits) ≤ length bits / 7 + 1 = length-groups (suc (length bits)) 8 bits (inr refl) in
    omega (arith, ap length e, length-append bytes (stuff bits))

-- one scan more
pub scan_more : (f : Picture) (p : Parameters) (bytes start header all : List ℕ) (component : ℕ) → start ≡ bytes ++ scans_up_to f p component
    → header ≡ start ++ segment StartOfScan (scan_contents (component + 1)) → all ≡ header ++ stuff (plane_bits p (plane_of f component)) → all ≡ bytes ++ scans_up_to f p (component + 1)
unfolding scans_up_to
scan_more f p bytes start header all component e g h =
    let last : 0 + component ≡ component = omega arith in
    h ∙ ap (λ x. x ++ stuff (plane_bits p (plane_of f component))) g
    ∙ append_assoc start (segment StartOfScan (scan_contents (component + 1))) (stuff (plane_bits p (plane_of f component)))
    ∙ ap (λ x. x ++ scan_of f p component) e
    ∙ flat_map_more (scan_of f p) bytes (range_with_len 0 component) component
    ∙ ap (λ ns. bytes ++ flat_map (scan_of f p) ns) (sym (range_push 0 component ∙ ap (λ n. range_with_len 0 component ++ n ∷ []) last))

-- capacity for one scan more
pub room_left : (count component size : ℕ) → component < count → (count - component) * size ≡ size + (count - (component + 1)) * size
room_left count component size h =
    let one : count - component ≡ 1 + (count - (component + 1)) = omega arith in
    let split : (1 + (count - (component + 1))) * size ≡ size + (count - (component + 1)) * size = omega arith in
    ap (λ n. n * size) one ∙ split

-- ---- all of it

scan_is : (f : Picture) (p : Parameters) (component : ℕ) → scan_bytes (written_component component) (written_scan f p component) ≡ scan_of f p component
scan_is f p component = append-nil (scan_of f p component)

scans_are : (f : Picture) (p : Parameters) (from count : ℕ)
    → scans_bytes (map written_component (range_with_len from count)) (map (written_scan f p) (range_with_len from count)) ≡ flat_map (scan_of f p) (range_with_len from count)
scans_are f p from zero = refl
scans_are f p from (suc count) =
    let later = scans_bytes (map written_component (range_with_len (from + 1) count)) (map (written_scan f p) (range_with_len (from + 1) count)) in
    ap (λ x. x ++ later) (scan_is f p from) ∙ ap (λ x. scan_of f p from ++ x) (scans_are f p (from + 1) count)

pub codestream_is : (f : Picture) (p : Parameters)
    → codestream f p ≡ (((marker StartOfImage ++ segment StartOfFrame (header_contents (written_header f))) ++ miscellaneous_bytes (written_presets p)) ++ scans_up_to f p (components f.kind)) ++ marker EndOfImage
unfolding codestream codestream_bytes scans_up_to
codestream_is f p =
    let front = (marker StartOfImage ++ segment StartOfFrame (header_contents (written_header f))) ++ miscellaneous_bytes (written_presets p) in
    ap (λ x. (front ++ x) ++ marker EndOfImage) (scans_are f p 0 (components f.kind))

-- written one after the other
pub all_put : (f : Picture) (p : Parameters) (bytes one two three four five : List ℕ) → one ≡ bytes ++ marker StartOfImage → two ≡ one ++ segment StartOfFrame (header_contents (written_header f))
    → three ≡ two ++ miscellaneous_bytes (written_presets p) → four ≡ three ++ scans_up_to f p (components f.kind) → five ≡ four ++ marker EndOfImage → five ≡ bytes ++ codestream f p
all_put f p bytes one two three four five e1 e2 e3 e4 e5 =
    let start = marker StartOfImage in
    let header = segment StartOfFrame (header_contents (written_header f)) in
    let tables = miscellaneous_bytes (written_presets p) in
    let scans = scans_up_to f p (components f.kind) in
    let two_is : two ≡ bytes ++ (start ++ header) = e2 ∙ ap (λ x. x ++ header) e1 ∙ append_assoc bytes start header in
    let three_is : three ≡ bytes ++ ((start ++ header) ++ tables) = e3 ∙ ap (λ x. x ++ tables) two_is ∙ append_assoc bytes (start ++ header) tables in
    let four_is : four ≡ bytes ++ (((start ++ header) ++ tables) ++ scans) = e4 ∙ ap (λ x. x ++ scans) three_is ∙ append_assoc bytes ((start ++ header) ++ tables) scans in
    e5 ∙ ap (λ x. x ++ marker EndOfImage) four_is ∙ append_assoc bytes (((start ++ header) ++ tables) ++ scans) (marker EndOfImage)
    ∙ ap (λ x. bytes ++ x) (sym (codestream_is f p))

-- the capacity for all of it
pub room_is : (f : Picture) (p : Parameters) → bound f p ≡ 2 + (10 + 3 * components f.kind) + presets_length p + (components f.kind * (10 + scan_bound f p) + 2)
unfolding bound headers_length
room_is f p =
    let split : components f.kind * (10 + scan_bound f p) ≡ 10 * components f.kind + components f.kind * scan_bound f p = omega arith in
    omega arith

-- the scans of a colour frame, one after the other
pub three_scans : (f : Picture) (p : Parameters) (bytes one two three first second third : List ℕ) → f.kind ≡ Color → first ≡ scan_of f p 0 → second ≡ scan_of f p 1 → third ≡ scan_of f p 2
    → one ≡ bytes ++ first → two ≡ one ++ second → three ≡ two ++ third → three ≡ bytes ++ scans_up_to f p (components f.kind)
unfolding scans_up_to
three_scans f p bytes one two three first second third color is_first is_second is_third e g h =
    let a = scan_of f p 0 in
    let b = scan_of f p 1 in
    let d = scan_of f p 2 in
    h ∙ ap (λ x. x ++ third) (g ∙ ap (λ x. x ++ second) e)
    ∙ ap (λ x. ((bytes ++ x) ++ second) ++ third) is_first ∙ ap (λ x. ((bytes ++ a) ++ x) ++ third) is_second ∙ ap (λ x. ((bytes ++ a) ++ b) ++ x) is_third
    ∙ append_assoc (bytes ++ a) b d ∙ append_assoc bytes a (b ++ d)
    ∙ ap (λ x. bytes ++ (a ++ (b ++ x))) (sym (append-nil d))
    ∙ ap (λ kind. bytes ++ flat_map (scan_of f p) (range_with_len 0 (components kind))) (sym color)
