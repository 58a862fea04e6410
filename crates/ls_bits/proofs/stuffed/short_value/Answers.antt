use Rattle.std.proofs.Common.{◌≡◌, ◌+◌, ◌-◌, ◌*◌, ◌/◌, ◌%◌, ◌^◌, ◌<◌, ◌≤◌, arith}
use Rattle.std.proofs.Math.Nat.{pow-le-pow_right}
use Rattle.std.proofs.lemmas.Nat.{mod_below, pow_pos, one_shl, shl_whole, shl_below}
use Rattle.ls_bits.proofs.ShortWords.{one_on_top}
use Rattle.ls_bits.proofs.stuffed.short_value.Goals as goal

record AreSmall (c : goal.Start) : Type 0 where
  top : c.args.word / 2 ^ (63 - c.args.zeros - c.args.k) ≡ 2 ^ c.args.k + c.args.word / 2 ^ (63 - c.args.zeros - c.args.k) % 2 ^ c.args.k
  low : c.args.word / 2 ^ (63 - c.args.zeros - c.args.k) % 2 ^ c.args.k < 2 ^ c.args.k
  one : 1 * 2 ^ c.args.k % 2 ^ 32 ≡ 2 ^ c.args.k
  one_few : 2 ^ c.args.k ≤ 2 ^ 17
  high : c.args.zeros * 2 ^ c.args.k % 2 ^ 32 ≡ c.args.zeros * 2 ^ c.args.k
  high_few : c.args.zeros * 2 ^ c.args.k < 2 ^ (5 + c.args.k)
  high_most : 2 ^ (5 + c.args.k) ≤ 2 ^ 22

are_small : (c : goal.Start) → AreSmall c
are_small c =
    record {
      top = one_on_top c.args.word c.args.zeros c.args.k c.ranges.word.fits c.requires.zeros (omega (arith, c.requires.few, c.requires.k));
      low = mod_below (c.args.word / 2 ^ (63 - c.args.zeros - c.args.k)) (2 ^ c.args.k) (pow_pos c.args.k);
      one = one_shl c.args.k 32 (omega (arith, c.requires.k));
      one_few = pow-le-pow_right {n = 2} (omega arith) {i = c.args.k} {j = 17} c.requires.k;
      high = shl_whole c.args.zeros 5 c.args.k 32 (omega (arith, c.requires.few)) (omega (arith, c.requires.k));
      high_few = shl_below c.args.zeros 5 c.args.k (omega (arith, c.requires.few));
      high_most = pow-le-pow_right {n = 2} (omega arith) {i = 5 + c.args.k} {j = 22} (omega (arith, c.requires.k));
    }

pub overflow_cast-last-2 : goal.overflow_cast-last-2
overflow_cast-last-2 c = let s = are_small c in omega (arith, s.top, s.low, s.one_few)

pub overflow_add-result : goal.overflow_add-result
overflow_add-result c = let s = are_small c in omega (arith, s.top, s.low, s.one_few, s.high, s.high_few, s.high_most)

pub overflow_sub-result : goal.overflow_sub-result
overflow_sub-result c = let s = are_small c in omega (arith, s.top, s.one)

pub returns : goal.returns
returns c = let s = are_small c in omega (arith, s.top, s.one, s.high)
