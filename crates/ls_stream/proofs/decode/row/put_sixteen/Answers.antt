use Rattle.std.proofs.Common.{◌≡◌, ℕ, ◌+◌, ◌-◌, List, length, take, get_or, sym, ap, ◌∙◌, arith}
use Rattle.std.proofs.lemmas.List.{get_or-take, get_or-append_right, get_or-replicate, length-take-le}
use Rattle.std.proofs.lemmas.Slice.{take-put_mid}
use Rattle.ls_stream.proofs.decode.row.put_sixteen.Goals as goal

pub returns-clause-inside : goal.returns-clause-inside
returns-clause-inside c k low high =
    let start : ℕ = c.args.start in
    let line : List ℕ = c.args.line.now in
    let sixteen : List ℕ = c.copy_from_slice.new.self in
    let size : length sixteen ≡ 16 = ap length c.copy_from_slice.ensures.after in
    sym (get_or-take (start + 16) _ k 0 high)
    ∙ ap (λ l. get_or l k 0) (take-put_mid start (start + 16 - start) line sixteen (start + 16) (omega (arith, size)) (omega (arith, c.requires)))
    ∙ get_or-append_right (take start line) sixteen start k 0 (length-take-le start line (omega (arith, c.requires))) low
    ∙ ap (λ l. get_or l (k - start) 0) c.copy_from_slice.ensures.after
    ∙ get_or-replicate 16 (k - start) c.args.value 0 (omega arith)
