-- Which gaps are known to have been reported.
use Rattle.std.specs.Prelude.{◌≡◌, List, ◌++◌, Option, None, Some}
use Rattle.ls_salvage.specs.declared.gaps.Gap.{Gap}

-- The gaps known to have been reported grow by these; if they aren't known before, they aren't known afterwards.
abbrev pub TellsMore : Option (List Gap) → Option (List Gap) → List Gap → Type 0
TellsMore None after gaps = after ≡ None
TellsMore (Some before) after gaps = after ≡ Some (before ++ gaps)
