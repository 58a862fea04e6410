-- A check of a part, from a check of its lines.
use Rattle.std.proofs.Common.{◌≡◌, ◌⊎◌, ◌<◌, ◌≤◌, ◌+◌, ◌-◌, ℕ, Bool, true, false, inl, inr, List, length, Option, None, Some, Result, Ok, Err, refl, sym, ap, ◌∙◌, arith}
use Rattle.ls_film.specs.Film.{most_frames}
use Rattle.ls_frame.specs.View.Devices.{count_after}
use Rattle.ls_archive.specs.declared.checking.CheckFault.{CheckFault}
use Rattle.ls_archive.specs.declared.checking.CheckFault.TheVariants as fault
use Rattle.ls_archive.specs.declared.checking.Checked.{Checked}
use Rattle.ls_archive.specs.declared.checking.Finding.{Finding}
use Rattle.ls_archive.specs.declared.checking.part.CheckPartFault.{CheckPartFault}
use Rattle.ls_archive.specs.declared.checking.part.CheckPartFault.TheVariants.{Check, TooFew}
use Rattle.ls_archive.specs.View.Batches.{HasReadBatches}
use Rattle.ls_archive.specs.View.CheckedLines.{IsCheckedPart, HasCheckedLines, StopsPart, IsEnd, HasReadPart, HasReadPartBatches}
use Rattle.ls_archive.specs.View.Checks.{EndsLines}
use Rattle.ls_archive.proofs.CheckLemmas.{lines-are, found-are, stops-after}

module _ (first start : ℕ) (index index' recording recording' : Option (List ℕ)) (found found' : Option (List Finding)) (n offset damaged : ℕ) where
  -- all lines of the part were checked
  pub part-between : (last : ℕ) (ended : Bool) → ended ≡ false → HasCheckedLines first start false index index' recording recording' found found' n offset damaged ended → n ≡ last + 1
      → IsCheckedPart first start (Some last) index index' recording recording' found found' (record { frames = n - first; damaged = damaged; bytes = offset - start; more = false })
  part-between last ended not run all =
      let checked = run.checked in
      record {
        lines = checked.lines;
        are_lines = lines-are first start index run.mid recording recording' found found' n offset damaged checked;
        count = omega (arith, checked.count);
        few = checked.few;
        mid = run.mid;
        gave = checked.gave;
        ends = (omega (arith, checked.count, all), run.unread not);
        goes_on = tt;
        findings = checked.findings;
        damaged = checked.damaged_are;
        told = checked.told;
        are_found = found-are first start index run.mid recording recording' found found' n offset damaged checked;
        bytes = omega (arith, checked.size);
        left = checked.left;
      }

  -- the index has fewer
  pub part-lacks : (last : ℕ) (ended : Bool) → ended ≡ true → HasCheckedLines first start false index index' recording recording' found found' n offset damaged ended → n < last + 1
      → StopsPart first start index index' recording recording' found found' (Some last) (TooFew n)
  part-lacks last ended is run lacks = (
    stops-after first start index run.mid recording recording' found found' found' n offset damaged IsEnd run.checked refl (λ told. (run.end is told).1),
    omega (arith, lacks),
  )

  -- the lines up to the end of the index were checked, or the most that it may have
  goes_on_to : (ended : Bool) → (ended ≡ false → n ≡ most_frames) → (run : HasCheckedLines first start true index index' recording recording' found found' n offset damaged ended)
      → (first + length run.checked.lines ≡ most_frames) ⊎ EndsLines true run.mid index'
  goes_on_to true all run = inr (run.end refl)
  goes_on_to false all run = inl (omega (arith, run.checked.count, all refl))

  pub part-rest : (ended : Bool) → HasCheckedLines first start true index index' recording recording' found found' n offset damaged ended → (ended ≡ false → n ≡ most_frames)
      → IsCheckedPart first start None index index' recording recording' found found' (record { frames = n - first; damaged = damaged; bytes = offset - start; more = false })
  part-rest ended run all =
      let checked = run.checked in
      record {
        lines = checked.lines;
        are_lines = lines-are first start index run.mid recording recording' found found' n offset damaged checked;
        count = omega (arith, checked.count);
        few = checked.few;
        mid = run.mid;
        gave = checked.gave;
        ends = tt;
        goes_on = goes_on_to ended all run;
        findings = checked.findings;
        damaged = checked.damaged_are;
        told = checked.told;
        are_found = found-are first start index run.mid recording recording' found found' n offset damaged checked;
        bytes = omega (arith, checked.size);
        left = checked.left;
      }

-- ---- reads that failed

same_fault : {X : Type 0} (why other : CheckFault) → ◌≡◌ {A = Result X CheckFault} (Err why) (Err other) → why ≡ other
same_fault why other e = cc

pub part-reads : {X : Type 0} (most : ℕ) (blamed : Bool) (old new : ℕ) (why : CheckFault) → HasReadBatches {X = X} most blamed old new (Err why)
    → HasReadPartBatches most blamed old new (Err (Check why))
part-reads most blamed old new why (inl is) = inl is
part-reads most blamed old new why (inr several) = elim several.1 [
  | inl is ↦ inl is
  | inr beyond ↦ inr (several.0, inr (ap (λ (w : CheckFault). Err (Check w)) (same_fault why fault.NoMemory beyond.0), beyond.1))
]

ok_err : {X : Type 0} (done : X) (why : CheckFault) → ◌≡◌ {A = Result X CheckFault} (Ok done) (Err why) → ⊥
ok_err done why e = cc

pub part-reads-ok : {X : Type 0} (most : ℕ) (old new : ℕ) (done : X) → HasReadBatches most false old new (Ok done) → new ≡ count_after false old
part-reads-ok most old new done (inl is) = is
part-reads-ok most old new done (inr several) = elim several.1 [
  | inl is ↦ is
  | inr beyond ↦ let clash : ⊥ = ok_err done fault.NoMemory beyond.0 in absurd clash
]

pub part-reads-alone : (blamed : Bool) (old new : ℕ) (result : Result Checked CheckPartFault) → HasReadPartBatches 1 blamed old new result → new ≡ count_after blamed old
part-reads-alone blamed old new result (inl is) = is
part-reads-alone blamed old new result (inr several) = let no : ⊥ = omega (arith, several.0) in absurd no

pub part-reads-several : (most : ℕ) (blamed : Bool) (old new : ℕ) (result : Result Checked CheckPartFault) → HasReadPartBatches most blamed old new result → HasReadPart blamed old new result
part-reads-several most blamed old new result (inl is) = inl is
part-reads-several most blamed old new result (inr several) = several.1
