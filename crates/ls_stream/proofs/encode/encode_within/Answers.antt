use Rattle.std.proofs.Common.{rules}
use Rattle.ls_stream.proofs.encode.encode_within.Goals as goal

pub returns-clause-bytes : goal.returns-clause-bytes
returns-clause-bytes c = search rules
