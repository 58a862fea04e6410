use Rattle.std.proofs.Common.{rules, ◌≡◌, Bool, true, refl, All, Decides}
use Rattle.std.proofs.lemmas.Bool.Decides.{same_from_decides, Decides-by_and}
use Rattle.ls_queue.specs.Queue.{all_true}
use Rattle.ls_queue.proofs.bounded.all_true.Goals as goal

itself : (b : Bool) → Decides b (b ≡ true)
itself b = (λ e. e, λ e. e)

pub returns : goal.returns
returns c =
    let found : Decides c.all.result (All (λ (b : Bool). b ≡ true) c.args.flags.now) = search rules in
    same_from_decides c.all.result (all_true c.args.flags.now) found (Decides-by_and (λ b. b) (λ b. b ≡ true) all_true itself refl (λ _ _. refl) c.args.flags.now)
