use Rattle.std.proofs.Common.{◌≡◌, ◌-◌, ◌≤◌, ◌++◌, ℕ, List}
use Rattle.std.specs.Prelude.{flat_map}
use Rattle.ls_film.specs.Listing.{column}
use Rattle.ls_archive.specs.View.Checking.{AreNumbers, EndsColumn}
use Rattle.ls_archive.proofs.checking.after_numbers.Given as goal

-- the columns so far were passed; if the text is columns of numbers, the remaining ones are left
abbrev pub invariant-columns : goal.invariant-columns
invariant-columns l = record {
  few : l.passed ≤ l.count;
  some : (numbers : List ℕ) × AreNumbers l.passed numbers × (l.text ≡ flat_map column numbers ++ l.left);
  given : (numbers rest : List ℕ) → AreNumbers l.count numbers → EndsColumn rest → l.text ≡ flat_map column numbers ++ rest
      → (more : List ℕ) × AreNumbers (l.count - l.passed) more × (l.left ≡ flat_map column more ++ rest);
}

abbrev pub decreases-columns : goal.decreases-columns
decreases-columns l = l.count - l.passed
