use Rattle.std.proofs.Common.{ℕ, Option, List, [], unwrap_or, ap, ◌∙◌}
use Rattle.std.proofs.lemmas.Result.{IfOk-weaker}
use Rattle.ls_command.specs.View.Matched.{texts_of}
use Rattle.ls_command.proofs.files_of.Goals as goal

pub returns-in-Some : goal.returns-in-Some
returns-in-Some c =
    IfOk-weaker c.to_vec.result _ _ (λ files same. ap texts_of (same (λ x y is. is)) ∙ ap (λ (named : Option (List (List ℕ))). unwrap_or named []) c.in-Some.ensures)
    c.to_vec.ensures.items_if_clones_equal
