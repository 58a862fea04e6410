use Rattle.std.proofs.Common.{◌≡◌, ℕ, List, length, take, drop}
use Rattle.ls_inspect.specs.Scans.{HaveData}
use Rattle.ls_inspect.proofs.strict.first_other.Given as goal

-- the scans that are left have the data from this component on, and those before are the same
abbrev pub invariant-loop-component : goal.invariant-loop-component
invariant-loop-component l = (one other : List (List ℕ)) → HaveData l.fn.given one → HaveData l.fn.wanted other → length one ≡ l.count → length other ≡ l.count
    → HaveData l.given (drop l.component one) × HaveData l.wanted (drop l.component other) × (take l.component one ≡ take l.component other)
