use Rattle.std.proofs.Common.{◌≡◌, ◌++◌, ◌∷◌, [], sym, ap, subst, ◌∙◌, rules, IfNone}
use Rattle.std.proofs.lemmas.Bool.{true≢false}
use Rattle.std.proofs.lemmas.Bool.Decides.{Decides-eqb}
use Rattle.std.proofs.lemmas.Slice.Eq.{ends_is}
use Rattle.ls_archive.specs.View.Followed.{Followed}
use Rattle.ls_archive.specs.View.Following.{SpellNoFrame}
use Rattle.ls_archive.proofs.FollowLemmas.{ends_with_eoi}
use Rattle.ls_archive.proofs.following.Progress.take.Goals as goal

pub returns-then-not-ends_with-clause-waits : goal.returns-then-not-ends_with-clause-waits
returns-then-not-ends_with-clause-waits c = λ f spells.
    let all = c.args.self.now.pending ++ c.args.bytes.now in
    let ends = ends_with_eoi all f spells in
    let same : c.deref.result.now ≡ all = search rules in
    true≢false (sym ((ends_is Decides-eqb c.deref.result.now (255 ∷ 217 ∷ []) _ c.ends_with.ensures.value).1 ends.0 (same ∙ ends.1)) ∙ c.if-not-ends_with.true)

pub returns-clause-waits : goal.returns-clause-waits
returns-clause-waits c = subst (λ bytes. IfNone c.take.result (SpellNoFrame bytes))
    (c.in_ok-extend_from_slice.ensures.items ∙ ap (λ (f : Followed). f.pending ++ c.args.bytes.now) c.self.view_is) c.take.ensures.none
