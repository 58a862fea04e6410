use Rattle.std.proofs.Common.{◌+◌, ◌*◌, ◌/◌, ℕ, List, get_or, Fits, w8, arith, refl}
use Rattle.ls_bits.proofs.PlainLemmas.{from_place}
use Rattle.ls_bits.proofs.plain.front_of.Goals as goal

pub returns : goal.returns
returns c =
    let bytes : List ℕ = c.args.bytes.now in
    let at : ℕ = c.args.place / 8 in
    let high : ℕ = ((get_or bytes at 0 * 256 + get_or bytes (at + 1) 0) * 256 + get_or bytes (at + 2) 0) * 256 + get_or bytes (at + 3) 0 in
    let low : ℕ = ((get_or bytes (at + 4) 0 * 256 + get_or bytes (at + 5) 0) * 256 + get_or bytes (at + 6) 0) * 256 + get_or bytes (at + 7) 0 in
    from_place bytes c.args.place high low c.from_be_bytes-word.result
    (λ i. let fits : Fits w8 (get_or bytes i 0) = c.type_inv.bytes i in omega arith) c.requires refl refl (omega (arith, c.from_be_bytes-word.ensures))
