use Rattle.std.proofs.Common.{ℕ, List, MatchResult, subst}
use Rattle.ls_film.specs.View.Codestreams.{IsMadeOf, IsUnmade}
use Rattle.ls_film.proofs.ahead.work.Goals as goal

pub returns-clause-made : goal.returns-clause-made
returns-clause-made g c =
    subst (λ (bytes : List ℕ). MatchResult c.made_of.result (IsMadeOf g.T.Made.made bytes) (IsUnmade bytes)) c.deref.ensures.value c.made_of.ensures
