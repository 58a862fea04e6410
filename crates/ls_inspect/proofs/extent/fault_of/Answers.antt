use Rattle.ls_inspect.proofs.EndLemmas.{few_is}
use Rattle.ls_inspect.proofs.extent.fault_of.Goals as goal

pub returns-then-bytes-lt-MOST_BYTES : goal.returns-then-bytes-lt-MOST_BYTES
returns-then-bytes-lt-MOST_BYTES c = few_is c.args.bytes.now c.args.fault c.if-bytes-lt-MOST_BYTES.true c.requires
