-- Lines that are taken at once, what is found for them, and what is reported.
use Rattle.std.proofs.Common.{◌≡◌, ◌<◌, ◌≤◌, ◌+◌, ℕ, suc, Bool, true, false, inl, inr, List, [], ◌∷◌, ◌++◌, length, get_or, take, drop, Option, None, Some, Result, Ok, Err, IfOk, IfSome, refl, sym, ap, subst, ◌∙◌, arith}
use Rattle.std.specs.Prelude.{IfNone, OnErr, slice_index_or}
use Rattle.std.specs.List.{AllZip}
use Rattle.std.proofs.lemmas.List.{at_drop_more, at_drop_all}
use Rattle.std.proofs.lemmas.Slice.Zip.{AllZip-long}
use Rattle.ls_film.specs.Film.{most_frames}
use Rattle.ls_frame.specs.View.Devices.{count_after}
use Rattle.ls_frame.specs.View.Known.{Gave}
use Rattle.ls_archive.specs.declared.checking.CheckFault.{CheckFault}
use Rattle.ls_archive.specs.declared.checking.CheckFault.TheVariants as fault
use Rattle.ls_archive.specs.declared.checking.Checked.{Checked}
use Rattle.ls_archive.specs.declared.checking.Damage.{Damage}
use Rattle.ls_archive.specs.declared.checking.Finding.{Finding}
use Rattle.ls_archive.specs.declared.checking.IndexLine.{IndexLine}
use Rattle.ls_archive.specs.declared.checking.batches.After.{After}
use Rattle.ls_archive.specs.declared.checking.batches.After.TheVariants.{More, End, Fault}
use Rattle.ls_archive.specs.declared.checking.batches.Batch.{Batch}
use Rattle.ls_archive.specs.declared.checking.batches.Listed.{Listed}
use Rattle.ls_archive.specs.declared.checking.batches.SoFar.{SoFar}
use Rattle.ls_archive.specs.View.Checking.{Line, IsLine, IsGood, IsDamage}
use Rattle.ls_archive.specs.View.CheckedLines.{IsMore, HasCheckedLines, StopsLines, FailsLines}
use Rattle.ls_archive.specs.View.Checks.{GaveAtMost, IsFound, HasLooked, HasChecked, StopsAfter}
use Rattle.ls_archive.specs.View.Batches.{Place, line_of, IsTaken, AreTaken, ComesAfter, IsBatch, IsLookedAt, IsLooked, AreLooked, HasCheckedTo, LeadsOn, LeadsSomewhere, HasReadBeyond, HasReadBatches, fails_index, fails_recording}
use Rattle.ls_film.proofs.AheadLemmas.{lent-back}
use Rattle.ls_archive.proofs.CheckLemmas.{checked-more, stops-after, had-line, stops-next-line, stops-in-bytes, fails-next-line, fails-in-bytes}

-- ---- lines that are taken

-- one more
pub taken-more : (at mid next : Place) (jobs : List Listed) (job : Listed) → AreTaken at mid jobs → IsTaken mid next job → AreTaken at next (jobs ++ job ∷ [])
taken-more at mid next [] job are is = (next, subst (λ p. IsTaken p next job) (sym are) is, refl)
taken-more at mid next (first ∷ jobs) job are is = (are.0, are.1, taken-more are.0 mid next jobs job are.2 is)

-- ---- what is found

-- a job that was taken and looked at
looked-one : (at next : Place) (job job' : Listed) → IsTaken at next job → IsLookedAt job job' → IsLooked at next job'
looked-one at next job job' taken looked = record {
  number = looked.number ∙ taken.number;
  offset = looked.offset ∙ taken.offset;
  is = subst (λ (line : IndexLine). IsLine at.number at.offset (line_of line)) (sym looked.line) taken.is;
  gave = subst (λ (line : IndexLine). Gave at.index next.index (λ bytes. line.text.items ≡ bytes)) (sym looked.line) taken.gave;
  bytes = job.bytes.items;
  taken = subst (λ (line : IndexLine). GaveAtMost at.recording next.recording line.size job.bytes.items) (sym looked.line) taken.taken;
  found = looked.found;
  next_number = taken.next_number;
  next_offset = taken.next_offset ∙ ap (λ (line : IndexLine). at.offset + line.size) (sym looked.line);
}

pub all-looked : (at next : Place) (jobs jobs' : List Listed) → AreTaken at next jobs → AllZip IsLookedAt jobs jobs' → AreLooked at next jobs'
all-looked at next [] [] are looked = are
all-looked at next [] (job' ∷ jobs') are looked = absurd looked
all-looked at next (job ∷ jobs) [] are looked = absurd looked
all-looked at next (job ∷ jobs) (job' ∷ jobs') are looked =
    (are.0, looked-one at are.0 job job' are.1 looked.0, all-looked are.0 next jobs jobs' are.2 looked.1)

-- each was looked at
abbrev pub EachIsLookedAt : List Listed → List Listed → Type 0
EachIsLookedAt jobs jobs' = (i : ℕ) (d : Listed) → i < length jobs → IsLookedAt (slice_index_or jobs i d) (slice_index_or jobs' i d)

later : (job job' : Listed) (jobs jobs' : List Listed) → EachIsLookedAt (job ∷ jobs) (job' ∷ jobs') → EachIsLookedAt jobs jobs'
later job job' jobs jobs' each i d lt = each (suc i) d (omega arith)

pub each-looked : (jobs jobs' : List Listed) → length jobs' ≡ length jobs → EachIsLookedAt jobs jobs' → AllZip IsLookedAt jobs jobs'
each-looked [] [] len each = tt
each-looked [] (job' ∷ jobs') len each = let no : ⊥ = omega arith in absurd no
each-looked (job ∷ jobs) [] len each = let no : ⊥ = omega arith in absurd no
each-looked (job ∷ jobs) (job' ∷ jobs') len each = (each 0 job (omega arith), each-looked jobs jobs' (omega arith) (later job job' jobs jobs' each))

-- jobs that were lent as a slice were looked at in place
pub looked-whole : (jobs lent after : List Listed) (len : ℕ) → lent ≡ jobs → length lent ≡ len → length after ≡ length lent → AllZip IsLookedAt lent after
    → AllZip IsLookedAt jobs (take len (after ++ drop (length after) jobs))
looked-whole jobs lent after len same size kept looked =
    subst (AllZip IsLookedAt jobs) (sym (lent-back jobs lent after len same size kept)) (subst (λ (js : List Listed). AllZip IsLookedAt js after) same looked)

-- what was found
found-is : (n offset : ℕ) (l : Line) (bytes : List ℕ) (found : Option Damage) → IfNone found (IsGood n offset l.text bytes) → IfSome found (λ damage. IsGood n offset l.text bytes → ⊥)
    → IfSome found (IsDamage n offset l bytes) → IsFound n offset l bytes found
found-is n offset l bytes None good damaged damage = good
found-is n offset l bytes (Some is) good damaged damage = (damaged, damage)

pub found-of : {E : Type 0} (n offset : ℕ) (l : Line) (bytes : List ℕ) (result : Result (Option Damage) E) → IfOk result (λ found. IfNone found (IsGood n offset l.text bytes))
    → IfOk result (λ found. IfSome found (λ damage. IsGood n offset l.text bytes → ⊥)) → IfOk result (λ found. IfSome found (IsDamage n offset l bytes)) → IfOk result (IsFound n offset l bytes)
found-of n offset l bytes (Ok found) good damaged damage = found-is n offset l bytes found good damaged damage
found-of n offset l bytes (Err refused) good damaged damage = tt

-- ---- what is reported

pub on-err : {X E P : Type 0} (result : Result X E) → P → OnErr result P
on-err (Ok x) holds = tt
on-err (Err fault) holds = holds

-- the next job
pub looked-step : (at next : Place) (jobs : List Listed) (i : ℕ) (job : Listed) → i < length jobs → job ≡ get_or jobs i job → AreLooked at next (drop i jobs)
    → (mid : Place) × IsLooked at mid job × AreLooked mid next (drop (i + 1) jobs)
looked-step at next jobs i job lt is are =
    let split = subst (AreLooked at next) (at_drop_more (λ (js : List Listed). js) jobs i job lt) are in
    (split.0, subst (IsLooked at split.0) (sym is) split.1, split.2)

module _ (told told' : Option (List Finding)) (so_far so_far' : SoFar) (jobs : List Listed) where
  -- what was found for the next job was reported
  pub leads-more : (told'' : Option (List Finding)) (done : SoFar) (i : ℕ) (job : Listed) → LeadsOn told told' so_far so_far' jobs (drop i jobs) → i < length jobs → job ≡ get_or jobs i job
      → ((first start : ℕ) (index recording : Option (List ℕ)) (found : Option (List Finding)) (at next : Place) → HasCheckedTo first start index recording found told' at so_far' → IsLooked at next job
      → HasCheckedTo first start index recording found told'' next done)
      → LeadsOn told told'' so_far done jobs (drop (i + 1) jobs)
  leads-more told'' done i job leads lt is one first start index recording found at next to are =
      let here = leads first start index recording found at next to are in
      let step = looked-step here.0 next jobs i job lt is here.2 in
      (step.0, one first start index recording found here.0 step.0 here.1 step.1, step.2)

  -- the next job is left
  pub leads-somewhere : (i : ℕ) (job : Listed) → LeadsOn told told' so_far so_far' jobs (drop i jobs) → i < length jobs → LeadsSomewhere told told' so_far jobs
  leads-somewhere i job leads lt = (
    so_far',
    get_or jobs i job,
    drop (i + 1) jobs,
    subst (LeadsOn told told' so_far so_far' jobs) (at_drop_more (λ (js : List Listed). js) jobs i job lt) leads,
  )

  -- for all of them
  pub leads-all : (i : ℕ) → LeadsOn told told' so_far so_far' jobs (drop i jobs) → length jobs ≤ i → LeadsOn told told' so_far so_far' jobs []
  leads-all i leads all = subst (LeadsOn told told' so_far so_far' jobs) (at_drop_all (λ (js : List Listed). js) jobs i all) leads

module _ (first start : ℕ) (index recording : Option (List ℕ)) (found : Option (List Finding)) where
  -- what was found for one more job was reported
  pub told-more : (told told' : Option (List Finding)) (at next : Place) (so_far done : SoFar) (job : Listed) (d : ℕ) → HasCheckedTo first start index recording found told at so_far
      → (is : IsLooked at next job) → so_far.number < most_frames → HasLooked job.number job.offset (line_of job.line) is.bytes told told' d
      → done.number ≡ so_far.number + 1 → done.offset ≡ so_far.offset + job.line.size → done.damaged ≡ so_far.damaged + d → HasCheckedTo first start index recording found told' next done
  told-more told told' at next so_far done job d to is room looked number offset damaged =
      let here = subst (λ n. HasLooked n job.offset (line_of job.line) is.bytes told told' d) is.number looked in
      let there = subst (λ o. HasLooked at.number o (line_of job.line) is.bytes told told' d) is.offset here in
      let more = checked-more first start index at.index next.index recording at.recording next.recording found told told' at.number at.offset so_far.damaged d (line_of job.line) is.bytes
      to.checked (omega (arith, room, to.number)) is.is is.gave is.taken there in
      record {
        number = number ∙ ap (λ k. k + 1) to.number ∙ sym is.next_number;
        offset = offset ∙ ap (λ k. k + job.line.size) to.offset ∙ sym is.next_offset;
        checked = rw (is.next_number, is.next_offset, damaged) more;
      }

  -- an allocation failed
  pub stops-telling : (told : Option (List Finding)) (at next : Place) (so_far : SoFar) (job : Listed) → HasCheckedTo first start index recording found told at so_far → IsLooked at next job
      → (m : ℕ) × StopsAfter first start index recording found told m IsMore
  stops-telling told at next so_far job to is = (
    at.number,
    stops-after first start index at.index recording at.recording found told told at.number at.offset so_far.damaged IsMore to.checked refl
        (had-line at.index next.index at.number at.offset (line_of job.line) is.is is.gave),
  )

  -- for a batch
  module _ (growing : Bool) (told told' : Option (List Finding)) (so_far : SoFar) (index0 recording0 index' recording' : Option (List ℕ)) (batch : Batch) (jobs' : List Listed)
      (checked : HasChecked first start index index0 recording recording0 found told so_far.number so_far.offset so_far.damaged)
      (is : IsBatch growing (record { index = index0; recording = recording0; number = so_far.number; offset = so_far.offset }) index' recording' batch) (looked : AllZip IsLookedAt batch.jobs.items jobs') where
    to-begun : HasCheckedTo first start index recording found told (record { index = index0; recording = recording0; number = so_far.number; offset = so_far.offset }) so_far
    to-begun = record { number = refl; offset = refl; checked = checked }

    are : AreLooked (record { index = index0; recording = recording0; number = so_far.number; offset = so_far.offset }) is.mid jobs'
    are = all-looked (record { index = index0; recording = recording0; number = so_far.number; offset = so_far.offset }) is.mid batch.jobs.items jobs' is.taken looked

    -- everything was reported
    pub told-batch : (done : SoFar) → LeadsOn told told' so_far done jobs' [] → (mid : Place) × HasCheckedTo first start index recording found told' mid done × ComesAfter growing mid index' recording' batch.after
    told-batch done leads =
        let there = leads first start index recording found (record { index = index0; recording = recording0; number = so_far.number; offset = so_far.offset }) is.mid to-begun are in
        (is.mid, subst (λ (p : Place). HasCheckedTo first start index recording found told' p done) there.2 there.1, is.after)

    -- or an allocation failed before that
    pub stops-batch : LeadsSomewhere told told' so_far jobs' → (m : ℕ) × StopsAfter first start index recording found told' m IsMore
    stops-batch leads =
        let there = leads.3 first start index recording found (record { index = index0; recording = recording0; number = so_far.number; offset = so_far.offset }) is.mid to-begun are in
        stops-telling told' there.0 there.2.0 leads.0 leads.1 there.1 there.2.1

  -- ---- what comes after a batch

  module _ (growing : Bool) (told : Option (List Finding)) (done : SoFar) (at : Place) (index' recording' : Option (List ℕ)) (to : HasCheckedTo first start index recording found told at done)
      (after : After) (comes : ComesAfter growing at index' recording' after) where
    -- the check at the numbers that the code has
    here : HasChecked first start index at.index recording at.recording found told done.number done.offset done.damaged
    here =
        let number = subst (λ n. HasChecked first start index at.index recording at.recording found told n at.offset done.damaged) (sym to.number) to.checked in
        subst (λ o. HasChecked first start index at.index recording at.recording found told done.number o done.damaged) (sym to.offset) number

    pub more-comes : after ≡ More → HasChecked first start index index' recording recording' found told done.number done.offset done.damaged
    more-comes more =
        let same : ComesAfter growing at index' recording' More = subst (ComesAfter growing at index' recording') more comes in
        let lines = subst (λ i. HasChecked first start index i recording at.recording found told done.number done.offset done.damaged) same.0 here in
        subst (λ r. HasChecked first start index index' recording r found told done.number done.offset done.damaged) same.1 lines

    pub end-comes : after ≡ End → HasCheckedLines first start growing index index' recording recording' found told done.number done.offset done.damaged true
    end-comes is =
        let end : ComesAfter growing at index' recording' End = subst (ComesAfter growing at index' recording') is comes in
        record {
          mid = at.index;
          checked = subst (λ r. HasChecked first start index at.index recording r found told done.number done.offset done.damaged) end.1 here;
          end = λ ended. end.0;
          unread = λ other. let clash : ⊥ = cc in absurd clash;
        }

    stops-either : (why : CheckFault) → ComesAfter growing at index' recording' (Fault why) → StopsLines first start index index' recording recording' found told growing why
    stops-either why (inl line) =
        stops-next-line first start index at.index index' recording at.recording recording' found told at.number at.offset done.damaged to.checked growing why line.0 line.1
    stops-either why (inr read) =
        stops-in-bytes first start index at.index index' recording at.recording recording' found told at.number at.offset done.damaged to.checked read.0 read.1 read.2 growing why read.3

    pub fault-comes : (why : CheckFault) → after ≡ Fault why → StopsLines first start index index' recording recording' found told growing why
    fault-comes why is = stops-either why (subst (ComesAfter growing at index' recording') is comes)

    fails-either : (why : CheckFault) → ComesAfter growing at index' recording' (Fault why) → FailsLines first start index index' recording recording' found told why
    fails-either why (inl line) =
        fails-next-line first start index at.index index' recording at.recording recording' found told at.number at.offset done.damaged to.checked why line.0
    fails-either why (inr read) =
        fails-in-bytes first start index at.index index' recording at.recording recording' found told at.number at.offset done.damaged to.checked read.0 read.1 read.2 why read.3

    pub failure-comes : (why : CheckFault) → after ≡ Fault why → FailsLines first start index index' recording recording' found told why
    failure-comes why is = fails-either why (subst (ComesAfter growing at index' recording') is comes)

-- ---- reads that failed

-- if an allocation failed, a read that came after it may have failed too
pub reads-beyond : {X : Type 0} (most : ℕ) (failed : Bool) (old new : ℕ) → new ≡ count_after failed old → (failed ≡ true → 1 < most) → HasReadBatches {X = X} most false old new (Err fault.NoMemory)
reads-beyond most true old new is several = inr (several refl, inr (refl, is))
reads-beyond most false old new is several = inl is

-- the end of the index comes after the last batch
pub end-no-more : (after : After) → after ≡ End → after ≡ More → ⊥
end-no-more More is more = let clash : ⊥ = cc in clash
end-no-more End is more = let clash : ⊥ = cc in clash
end-no-more (Fault why) is more = let clash : ⊥ = cc in clash

-- no read fails after a batch that isn't the last
pub more-reads-no-index : (after : After) → fails_index after ≡ true → after ≡ More → ⊥
more-reads-no-index More failed is = let clash : ⊥ = cc in clash
more-reads-no-index End failed is = let clash : ⊥ = cc in clash
more-reads-no-index (Fault why) failed is = let clash : ⊥ = cc in clash

pub more-reads-no-recording : (after : After) → fails_recording after ≡ true → after ≡ More → ⊥
more-reads-no-recording More failed is = let clash : ⊥ = cc in clash
more-reads-no-recording End failed is = let clash : ⊥ = cc in clash
more-reads-no-recording (Fault why) failed is = let clash : ⊥ = cc in clash

-- the last batch has fewer jobs than were asked for; so if it has any, they may be several
pub several-jobs : (jobs jobs' : List Listed) (asked most : ℕ) → length jobs < asked → AllZip IsLookedAt jobs jobs' → 0 < length jobs' → asked ≤ most → 1 < most
several-jobs jobs jobs' asked most fewer looked some few = omega (arith, fewer, AllZip-long IsLookedAt jobs jobs' looked, some, few)

-- with one job a batch there is no such read
pub reads-alone : {X : Type 0} (blamed : Bool) (old new : ℕ) (result : Result X CheckFault) → HasReadBatches 1 blamed old new result → new ≡ count_after blamed old
reads-alone blamed old new result (inl is) = is
reads-alone blamed old new result (inr several) = let no : ⊥ = omega (arith, several.0) in absurd no

pub reads-several : {X : Type 0} (most : ℕ) (blamed : Bool) (old new : ℕ) (result : Result X CheckFault) → HasReadBatches most blamed old new result → HasReadBeyond blamed old new result
reads-several most blamed old new result (inl is) = inl is
reads-several most blamed old new result (inr several) = several.1
