use Rattle.std.proofs.Common.{rules, ◌≡◌, ℕ, Bool, true, refl, All, Decides}
use Rattle.std.proofs.lemmas.Bool.Decides.{same_from_decides, Decides-by_and}
use Rattle.ls_archive.specs.View.Checks.{is_of_line, are_of_line}
use Rattle.ls_archive.proofs.checking.are_of_line.Goals as goal

itself : (b : Bool) → Decides b (b ≡ true)
itself b = (λ e. e, λ e. e)

pub returns : goal.returns
returns c =
    let found : Decides c.all.result (All (λ (byte : ℕ). is_of_line byte ≡ true) c.args.text.now) = search rules in
    same_from_decides c.all.result (are_of_line c.args.text.now) found
    (Decides-by_and is_of_line (λ byte. is_of_line byte ≡ true) are_of_line (λ byte. itself (is_of_line byte)) refl (λ _ _. refl) c.args.text.now)
