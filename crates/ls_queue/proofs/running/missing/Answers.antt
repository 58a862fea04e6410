use Rattle.std.proofs.Common.{rules}
use Rattle.ls_queue.proofs.running.missing.Goals as goal

pub returns-then-not-has_end : goal.returns-then-not-has_end
returns-then-not-has_end g c = search rules
