use Rattle.ls_stream.proofs.MostLemmas.{first_full}
use Rattle.ls_stream.proofs.decode.markers.first_bytes.Goals as goal

pub slice_bounds-result-end : goal.slice_bounds-result-end
slice_bounds-result-end c = first_full _ c.args.bytes.now c.if-bytes-gt-MOST_BYTES.true
