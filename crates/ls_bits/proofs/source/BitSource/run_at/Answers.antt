use Rattle.std.proofs.Common.{◌<◌, ◌≤◌, ◌≡◌, ℕ, ◌+◌, ◌∷◌, ◌++◌, ◌∙◌, List, Bool, true, false, ap, sym, inr, take, drop, get_or, length, replicate, arith}
use Rattle.ls_bits.specs.Bits.{bits_of}
use Rattle.ls_bits.specs.View.Plain.{Ahead, Placed, plain_bits, bits_from}
use Rattle.ls_bits.proofs.PlainLemmas.{front_seen, skipped}
use Rattle.ls_bits.proofs.OnesLemmas.{run_begun, ones_begun}
use Rattle.ls_bits.proofs.source.BitSource.run_at.Goals as goal

pub returns-clause-bits : goal.returns-clause-bits
returns-clause-bits c =
    let ahead : Ahead = c.args.self.now.ahead in
    let place : ℕ = c.args.at.place in
    let end : ℕ = c.args.self.now.end in
    let ones : ℕ = c.leading_ones-ones.result in
    let width : ℕ = get_or c.args.widths.now ones 0 in
    let front : ℕ = c.front_of-front.result in
    let count : ℕ = ones + 1 + width in
    let narrow : width ≤ 15 = c.requires.small ones in
    let enough : place + 57 ≤ end = omega (arith, ap (λ (p : Placed). p.end) c.self.view_is) in
    let few : ones < 32 = omega (arith, c.requires.count) in
    let same : take 57 (bits_of 64 front) ≡ take 57 (drop place (plain_bits ahead.bytes)) =
    c.front_of-front.ensures ∙ ap (λ (p : Placed). take 57 (drop place (plain_bits p.ahead.bytes))) c.self.view_is in
    run_begun front ones width c.low_bits-rest.result (bits_from ahead place end) (c.leading_ones-ones.ensures.some (omega (arith, few))) (omega (arith, few, narrow))
    c.low_bits-rest.ensures
    (front_seen ahead place end front count c.requires.at same (omega (arith, few, narrow)) (omega (arith, few, narrow, enough)))
    ∙ ap (λ bits. replicate ones true ++ false ∷ bits_of width c.low_bits-rest.result ++ bits) (sym (skipped ahead place end count c.requires.at (omega (arith, few, narrow, enough))))

pub returns-then-ones-widths-clause-none : goal.returns-then-ones-widths-clause-none
returns-then-ones-widths-clause-none c =
    let ahead : Ahead = c.args.self.now.ahead in
    let place : ℕ = c.args.at.place in
    let end : ℕ = c.args.self.now.end in
    let most : ℕ = length c.args.widths.now in
    let front : ℕ = c.front_of-front.result in
    let bits : List Bool = bits_from ahead place end in
    let enough : place + 57 ≤ end = omega (arith, ap (λ (p : Placed). p.end) c.self.view_is) in
    let same : take 57 (bits_of 64 front) ≡ take 57 (drop place (plain_bits ahead.bytes)) =
    c.front_of-front.ensures ∙ ap (λ (p : Placed). take 57 (drop place (plain_bits p.ahead.bytes))) c.self.view_is in
    inr (
      drop most bits,
      ones_begun front c.leading_ones-ones.result most bits c.leading_ones-ones.ensures.some c.leading_ones-ones.ensures.all (omega arith) (omega (arith, c.requires.count))
          (front_seen ahead place end front most c.requires.at same (omega (arith, c.requires.count)) (omega (arith, c.requires.count, enough))),
    )
