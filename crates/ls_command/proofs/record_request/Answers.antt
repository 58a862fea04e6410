use Rattle.std.proofs.Common.{arith, sym}
use Rattle.ls_command.proofs.MatchLemmas.{recording_asked}
use Rattle.ls_command.proofs.record_request.Goals as goal

pub returns : goal.returns
returns c =
    recording_asked c.args.words.now c.in-Some.tuning c.in_ok-pieces.pieces c.in-Ok.files.items c.get_str.result (sym c.get_str.ensures) c.in-Some.ensures c.in_ok-pieces.ensures c.in-Ok.ensures (omega (arith, c.if-len-gt-MOST_FILMS.false, c.len.ensures))
    c.recording_of.result c.recording_of.ensures
