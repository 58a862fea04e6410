use Rattle.std.proofs.Common.{rules, ◌≡◌, ◌≤◌, ◌+◌, ◌-◌, ◌*◌, ℕ, Bool, length, refl, ap, sym, subst, ◌∙◌, arith}
use Rattle.std.specs.Prelude.{not}
use Rattle.ls_frame.specs.Parameters.{qbpp_of, limit_of}
use Rattle.ls_coding.specs.declared.run.RunWord.{RunWord}
use Rattle.ls_coding.specs.Runs.{TailFits, order, run_of, run_word, word_bits, walked}
use Rattle.ls_coding.specs.View.States.{Coding}
use Rattle.ls_coding.proofs.RunLemmas.{full_cost, interrupted_cost, tail_fits}
use Rattle.ls_coding.proofs.StateLemmas.{word_is, state_after_run}
use Rattle.ls_coding.proofs.WordLemmas.{limit_large}
use Rattle.ls_coding.proofs.state.State.code_run.Goals as goal

pub returns-clause-word : goal.returns-clause-word
returns-clause-word c =
    word_is c.args.self.now.run_index c.self.inside.run_index c.args.count c.walk-walked.result.ones c.walk-walked.result.index c.walk-walked.result.left _ c.tail.result
    (ap (λ (s : Coding). s.run_index) c.self.view_is) c.walk-walked.ensures.ones c.walk-walked.ensures.index c.walk-walked.ensures.left c.tail.ensures

pub returns-clause-full_cost : goal.returns-clause-full_cost
returns-clause-full_cost c full =
    let index : ℕ = c.args.self.now.run_index in
    let limit : ℕ = limit_of c.args.self.now.parameters.maxval in
    let large = limit_large c.args.self.now.parameters.maxval (qbpp_of c.args.self.now.parameters.maxval) refl in
    subst (λ (w : RunWord). length (word_bits w) ≤ limit * c.args.count) (sym (returns-clause-word c))
    (subst (λ (b : Bool). length (word_bits (run_word index (run_of c.args.count b))) ≤ limit * c.args.count) (sym (ap not full)) (full_cost index c.args.count limit (omega (arith, large))))

pub returns-clause-interrupted_cost : goal.returns-clause-interrupted_cost
returns-clause-interrupted_cost c interrupted =
    let index : ℕ = c.args.self.now.run_index in
    let limit : ℕ = limit_of c.args.self.now.parameters.maxval in
    let large = limit_large c.args.self.now.parameters.maxval (qbpp_of c.args.self.now.parameters.maxval) refl in
    let after : c.walk-walked.result.index ≡ (walked index c.args.count).index = c.walk-walked.ensures.index ∙ ap (λ (s : Coding). (walked s.run_index c.args.count).index) c.self.view_is in
    let word : RunWord = record { ones = c.walk-walked.result.ones; tail = c.tail.result } in
    subst (λ i. length (word_bits word) + (limit - order i - 1) ≤ limit * (c.args.count + 1)) (sym after)
    (subst (λ (w : RunWord). length (word_bits w) + (limit - order (walked index c.args.count).index - 1) ≤ limit * (c.args.count + 1)) (sym (returns-clause-word c))
    (subst (λ (b : Bool). length (word_bits (run_word index (run_of c.args.count b))) + (limit - order (walked index c.args.count).index - 1) ≤ limit * (c.args.count + 1)) (sym interrupted)
    (interrupted_cost index c.args.count limit (omega (arith, large)))))

pub returns-clause-state : goal.returns-clause-state
returns-clause-state c = search rules

pub returns-clause-events : goal.returns-clause-events
returns-clause-events c events same = state_after_run c.args.self.now _ _ (returns-clause-state c) events same

pub returns-clause-tail : goal.returns-clause-tail
returns-clause-tail c =
    subst (λ (w : RunWord). TailFits w.tail) (sym (returns-clause-word c)) (tail_fits c.args.self.now.run_index c.args.count (not c.args.eol))
