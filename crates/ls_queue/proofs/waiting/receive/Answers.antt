use Rattle.std.proofs.Common.{rules}
use Rattle.ls_queue.proofs.waiting.receive.Goals as goal

pub recv_as-requires-clause-rule : goal.recv_as-requires-clause-rule
recv_as-requires-clause-rule g c = search rules

pub returns-clause-rule : goal.returns-clause-rule
returns-clause-rule g c = search rules
