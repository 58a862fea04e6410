use Rattle.std.proofs.Common.{length, ap, arith}
use Rattle.ls_c.proofs.TextLemmas.{words_short}
use Rattle.ls_c.proofs.text.put_text.Goals as goal

pub lay-end-requires : goal.lay-end-requires
lay-end-requires c = omega (arith, ap length c.as_bytes-2.ensures.value, ap length c.words_of.ensures, words_short c.args.status)

pub put_detail-requires : goal.put_detail-requires
put_detail-requires c = omega (arith, c.lay-end.ensures.end, ap length c.as_bytes-2.ensures.value, ap length c.words_of.ensures, words_short c.args.status)
