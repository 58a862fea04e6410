use Rattle.std.proofs.Common.{◌≡◌, ◌+◌, ◌^◌, ◌<◌, ◌≤◌, true, refl, sym, ap, subst, ◌∙◌, arith, rules}
use Rattle.ls_coding.specs.Runs.{order, samples_of_ones, run_of, run_word}
use Rattle.ls_coding.specs.View.States.{Coding, run_after}
use Rattle.ls_coding.specs.contracts.state.State as state
use Rattle.ls_coding.proofs.RunLaws.{word_of_ones, after_ones}
use Rattle.ls_coding.proofs.StateLemmas.{state_after_run}
use Rattle.ls_coding.proofs.SumLemmas.{few_of_one}
use Rattle.ls_coding.proofs.state.State.accept_run.Goals as goal

pub overflow_add-count : goal.overflow_add-count
overflow_add-count c = omega (arith, c.samples_of_ones.ensures.small, c.requires.rest, few_of_one (c.args.self.now.run_index + c.args.ones))

pub returns-clause-word : goal.returns-clause-word
returns-clause-word c =
    let ones = c.args.ones in
    let rest = c.args.rest in
    let index = c.args.self.now.run_index in
    let same : c.samples_of_ones.result + rest ≡ samples_of_ones ones index + rest =
    ap (λ n. n + rest) (c.samples_of_ones.ensures.value ∙ ap (λ (t : Coding). samples_of_ones ones t.run_index) c.self.view_is) in
    ap (λ n. run_word index (run_of n true)) same ∙ word_of_ones ones index rest c.requires.ones c.requires.rest

pub returns-clause-state : goal.returns-clause-state
returns-clause-state c =
    let ones = c.args.ones in
    let rest = c.args.rest in
    let before : Coding = state.the_view c.self.inside in
    let count = c.samples_of_ones.result + rest in
    after_ones before ones (before.run_index + ones) rest count refl (ap (λ n. n + rest) c.samples_of_ones.ensures.value)
    (subst (λ (t : Coding). t.run_index + ones ≤ 31) (sym c.self.view_is) c.requires.ones)
    (subst (λ (t : Coding). rest < 2 ^ order (t.run_index + ones)) (sym c.self.view_is) c.requires.rest)
    ∙ ap (λ (t : Coding). run_after t (run_of count true)) c.self.view_is

pub returns-clause-events : goal.returns-clause-events
returns-clause-events c events same = state_after_run c.args.self.now _ _ (returns-clause-state c) events same

pub returns-clause-short : goal.returns-clause-short
returns-clause-short c = search rules
