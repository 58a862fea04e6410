use Rattle.std.proofs.Common.{rules}
use Rattle.ls_stream.proofs.encode.encode_into.Goals as goal

pub returns-then-not-is_frame-clause-exactly : goal.returns-then-not-is_frame-clause-exactly
returns-then-not-is_frame-clause-exactly c = (c.is_frame.ensures.lawful, c.is_frame.ensures.over c.if-not-is_frame.true)

pub returns-clause-rest : goal.returns-clause-rest
returns-clause-rest c = search rules
