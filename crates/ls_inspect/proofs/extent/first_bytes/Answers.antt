use Rattle.std.proofs.Common.{sym, arith}
use Rattle.ls_stream.proofs.MostLemmas.{first_full, first_all}
use Rattle.ls_inspect.proofs.extent.first_bytes.Goals as goal

pub slice_bounds-result-end : goal.slice_bounds-result-end
slice_bounds-result-end c = first_full _ c.args.bytes.now c.if-bytes-gt-MOST_BYTES.true

pub returns-else-bytes-gt-MOST_BYTES : goal.returns-else-bytes-gt-MOST_BYTES
returns-else-bytes-gt-MOST_BYTES c = sym (first_all c.args.bytes.now (omega (arith, c.if-bytes-gt-MOST_BYTES.false)))
