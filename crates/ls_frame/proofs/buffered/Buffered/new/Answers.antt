use Rattle.std.proofs.KnownBytes.{prepend_known-nil}
use Rattle.ls_frame.proofs.buffered.Buffered.new.Goals as goal

pub returns : goal.returns
returns g c = prepend_known-nil (g.R.Read.remaining c.args.inner)
