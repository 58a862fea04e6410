use Rattle.std.proofs.Common.{◌+◌, ◌-◌, ◌*◌, ◌<◌, length, drop, get_or, sym, arith}
use Rattle.ls_replay.proofs.StepsReadingLemmas.{number_of-large, digit_more}
use Rattle.ls_replay.proofs.steps_file.number_of.Goals as goal

pub returns-then-next-from : goal.returns-then-next-from
returns-then-next-from c =
    let i = c.loop-byte.byte-index in
    let word = c.args.word.now in
    let inside : c.loop-byte.byte-index < length c.args.word.now = omega arith in
    let large : c.args.most < 10 * c.loop-byte.value + (get_or c.args.word.now c.loop-byte.byte-index 0 - 48) = omega arith in
    sym (number_of-large c.args.most (10 * c.loop-byte.value + (get_or word i 0 - 48)) word (drop (i + 1) word) (digit_more word i 0 c.loop-byte.value inside c.loop-byte.invariant.value) large)
