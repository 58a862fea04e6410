-- Masks and shifts, as the code writes them.
use Rattle.std.proofs.Common.{◌≡◌, ℕ, ◌+◌, ◌-◌, ◌*◌, ◌%◌, ◌^◌, ◌<◌, ◌≤◌, Bool, sym, ap, ◌∙◌, arith}
use Rattle.std.proofs.lemmas.Nat.{and_mask, one_shl, or_shifted, shl_whole, shl_below, mod_below, pow_pos}
use Rattle.std.proofs.Math.Pow.{pow_mono}
use lib.Bits.{bit_and, bit_or}
use Rattle.ls_bits.specs.View.Packing.{byte_bits}
use Rattle.ls_bits.proofs.StuffingLemmas.{size_range}
use Rattle.ls_bits.proofs.PackingLemmas.{byte_bits-size}

-- `word & ((1 << count) - 1)` at a width
pub masked : (width word count : ℕ) → count < width → bit_and word (1 * 2 ^ count % 2 ^ width - 1) ≡ word % 2 ^ count
masked width word count h = ap (λ n. bit_and word (n - 1)) (one_shl count width h) ∙ and_mask word count

-- `(1 << count) | rest`
pub led : (width count rest : ℕ) → count < width → rest < 2 ^ count → bit_or (1 * 2 ^ count % 2 ^ width) rest ≡ 2 ^ count + rest
led width count rest h small =
    let one : 1 * 2 ^ count ≡ 2 ^ count = omega arith in
    let shifted : 1 * 2 ^ count % 2 ^ width ≡ 1 * 2 ^ count = one_shl count width h ∙ sym one in
    let joined : bit_or (1 * 2 ^ count) rest ≡ 1 * 2 ^ count + rest = or_shifted 1 count rest small in
    let whole : bit_or (1 * 2 ^ count % 2 ^ width) rest ≡ 1 * 2 ^ count + rest = ap (λ n. bit_or n rest) shifted ∙ joined in
    omega arith

pub last_group-is : (word held size : ℕ) (after_ff : Bool) → held ≤ 7 → size ≡ byte_bits after_ff
    → bit_and word (1 * 2 ^ held % 2 ^ 64 - 1) * 2 ^ (size - held) % 2 ^ 64 ≡ word % 2 ^ held * 2 ^ (byte_bits after_ff - held)
last_group-is word held size after_ff few e =
    let range : (7 ≤ byte_bits after_ff) × (byte_bits after_ff ≤ 8) = size_range (byte_bits after_ff) (byte_bits-size after_ff) in
    let small : word % 2 ^ held < 2 ^ held = mod_below word (2 ^ held) (pow_pos held) in
    ap (λ n. n * 2 ^ (size - held) % 2 ^ 64) (masked 64 word held (omega arith))
    ∙ shl_whole (word % 2 ^ held) held (size - held) 64 small (omega (arith, range.1))
    ∙ ap (λ n. word % 2 ^ held * 2 ^ (n - held)) e

pub last_group-lt : (word held : ℕ) (after_ff : Bool) → held ≤ 7 → word % 2 ^ held * 2 ^ (byte_bits after_ff - held) < 256
last_group-lt word held after_ff few =
    let range : (7 ≤ byte_bits after_ff) × (byte_bits after_ff ≤ 8) = size_range (byte_bits after_ff) (byte_bits-size after_ff) in
    let small : word % 2 ^ held < 2 ^ held = mod_below word (2 ^ held) (pow_pos held) in
    let below : word % 2 ^ held * 2 ^ (byte_bits after_ff - held) < 2 ^ (held + (byte_bits after_ff - held)) = shl_below (word % 2 ^ held) held (byte_bits after_ff - held) small in
    let size : held + (byte_bits after_ff - held) ≤ 8 = omega (arith, range.0, range.1) in
    let power : 2 ^ (held + (byte_bits after_ff - held)) ≤ 2 ^ 8 = pow_mono size in
    omega arith

-- `(high << count) | low`
pub joined-is : (high low count : ℕ) → high < 64 → count ≤ 17 → low < 2 ^ count → bit_or (high * 2 ^ count % 2 ^ 32) low ≡ high * 2 ^ count + low
joined-is high low count small few below =
    ap (λ n. bit_or n low) (shl_whole high 6 count 32 small (omega arith)) ∙ or_shifted high count low below
