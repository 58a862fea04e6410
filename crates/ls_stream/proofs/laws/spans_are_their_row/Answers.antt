use Rattle.ls_stream.proofs.CoverLemmas.{row_covered}
use Rattle.ls_stream.proofs.laws.spans_are_their_row.Goals as goal

pub returns : goal.returns
returns c = row_covered
