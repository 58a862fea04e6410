use Rattle.std.proofs.Common.{map, string_bytes}
use Rattle.std.proofs.lemmas.Result.{IfOk-weaker}
use Rattle.clap.specs.Words.{HasMatchesOf, app_of}
use Rattle.ls_command.specs.View.Matched.{AreMatched}
use Rattle.ls_command.proofs.match_words.Goals as goal

pub returns : goal.returns
returns c =
    let words = map string_bytes c.args.words.now in
    IfOk-weaker c.try_get_matches_from.result (HasMatchesOf (app_of c.in_ok-command.command) words) (AreMatched words) (λ matches has. (app_of c.in_ok-command.command, has)) c.try_get_matches_from.ensures.matches
