use Rattle.std.proofs.Common.{rules}
use Rattle.ls_frame.proofs.device.CountedFeed.feed.Goals as goal

pub returns-in-Ok-clause-bytes : goal.returns-in-Ok-clause-bytes
returns-in-Ok-clause-bytes g c = search rules
