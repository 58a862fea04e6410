use Rattle.std.proofs.Common.{ℕ, ◌+◌, ◌-◌, ◌≤◌, drop, get_or, length-drop, sym, ap, subst, ◌∙◌, arith}
use Rattle.std.proofs.lemmas.List.{take_all, get_or-drop}
use Rattle.ls_coding.specs.Runs.{run_orders}
use Rattle.ls_coding.proofs.RunLemmas.{order_small}
use Rattle.ls_coding.proofs.run.orders_from.Goals as goal

pub returns-clause-value : goal.returns-clause-value
returns-clause-value c k =
    let index : ℕ = c.args.index in
    ap (λ orders. get_or orders k 0) (take_all (32 - index) (drop index run_orders) (omega (arith, length-drop index run_orders)))
    ∙ get_or-drop index run_orders k 0

pub returns-clause-small : goal.returns-clause-small
returns-clause-small c k = subst (λ n. n ≤ 15) (sym (returns-clause-value c k)) (order_small (c.args.index + k))
