use Rattle.std.proofs.Common.{◌≤◌, ◌≡◌, ℕ, ◌+◌, ◌-◌, ◌/◌, ◌%◌, ◌^◌, ◌++◌, ◌∙◌, List, Bool, ap, sym, inr, take, drop, arith}
use Rattle.ls_bits.specs.Bits.{bits_of}
use Rattle.ls_bits.specs.Golomb.{short_word}
use Rattle.ls_bits.specs.View.Plain.{Ahead, Placed, plain_bits, bits_from}
use Rattle.ls_bits.proofs.PlainLemmas.{front_seen, skipped, short_begun, zeros_begun}
use Rattle.ls_bits.proofs.source.BitSource.few_at.Goals as goal

pub returns-clause-word : goal.returns-clause-word
returns-clause-word c =
    let ahead : Ahead = c.args.self.now.ahead in
    let place : ℕ = c.args.at.place in
    let end : ℕ = c.args.self.now.end in
    let k : ℕ = c.args.k in
    let zeros : ℕ = c.leading_zeros-zeros.result in
    let front : ℕ = c.front_of-front.result in
    let count : ℕ = zeros + 1 + k in
    let enough : place + 57 ≤ end = omega (arith, ap (λ (p : Placed). p.end) c.self.view_is) in
    let same : take 57 (bits_of 64 front) ≡ take 57 (drop place (plain_bits ahead.bytes)) =
    c.front_of-front.ensures ∙ ap (λ (p : Placed). take 57 (drop place (plain_bits p.ahead.bytes))) c.self.view_is in
    let left : 63 - zeros - k ≡ 64 - (zeros + 1) - k = omega arith in
    short_begun k front zeros (front / 2 ^ (63 - zeros - k) % 2 ^ k) c.short_value-value.result (bits_from ahead place end) c.leading_zeros-zeros.ensures (omega arith)
    (ap (λ n. front / 2 ^ n % 2 ^ k) left) c.short_value-value.ensures
    (front_seen ahead place end front count c.requires.at same (omega arith) (omega arith))
    ∙ ap (λ bits. short_word k c.short_value-value.result ++ bits) (sym (skipped ahead place end count c.requires.at (omega arith)))

pub returns-then-zeros-most-clause-none : goal.returns-then-zeros-most-clause-none
returns-then-zeros-most-clause-none c =
    let ahead : Ahead = c.args.self.now.ahead in
    let place : ℕ = c.args.at.place in
    let end : ℕ = c.args.self.now.end in
    let most : ℕ = c.args.most in
    let front : ℕ = c.front_of-front.result in
    let bits : List Bool = bits_from ahead place end in
    let enough : place + 57 ≤ end = omega (arith, ap (λ (p : Placed). p.end) c.self.view_is) in
    let same : take 57 (bits_of 64 front) ≡ take 57 (drop place (plain_bits ahead.bytes)) =
    c.front_of-front.ensures ∙ ap (λ (p : Placed). take 57 (drop place (plain_bits p.ahead.bytes))) c.self.view_is in
    inr (
      drop most bits,
      zeros_begun front c.leading_zeros-zeros.result most bits c.leading_zeros-zeros.ensures c.if-zeros-most.true (omega arith)
          (front_seen ahead place end front most c.requires.at same (omega arith) (omega arith)),
    )
