use Rattle.std.proofs.Common.{◌≡◌, ◌+◌, List, ℕ, get_or, ap, ◌∙◌, arith}
use Rattle.std.proofs.lemmas.List.{get_or-drop, take_rest}
use Rattle.ls_stream.specs.Segments.{field_of}
use Rattle.ls_inspect.proofs.markers.field.Goals as goal

pub returns : goal.returns
unfolding field_of
returns c =
    let bytes = c.args.bytes.now in
    let place = c.args.place in
    let here : place + 0 ≡ place = omega arith in
    let rest = take_rest bytes place in
    let high = ap (λ (bs : List ℕ). get_or bs 0 0) rest ∙ get_or-drop place bytes 0 0 ∙ ap (λ i. get_or bytes i 0) here in
    let low = ap (λ (bs : List ℕ). get_or bs 1 0) rest ∙ get_or-drop place bytes 1 0 in
    omega (arith, high, low, c.read_u16.ensures)
