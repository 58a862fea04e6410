use Rattle.ls_stream.proofs.FrameLaws.{no_codestream_begins_another}
use Rattle.ls_stream.proofs.laws.no_codestream_begins_another.Goals as goal

pub returns : goal.returns
returns c = no_codestream_begins_another
