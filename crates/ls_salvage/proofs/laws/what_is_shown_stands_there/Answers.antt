use Rattle.std.proofs.Common.{[], ◌∙◌}
use Rattle.ls_salvage.proofs.SalvageLemmas.{shown_stands}
use Rattle.ls_salvage.proofs.laws.what_is_shown_stands_there.Goals as goal

pub returns : goal.returns
returns c = λ bytes parts place count f are shown.
    let stands = shown_stands bytes [] parts shown.0 shown.1 count f are shown.2 in
    (stands.0, stands.1, stands.2, stands.3, stands.4 ∙ shown.3, stands.5, stands.6)
