-- A check by an index, batch by batch: lines that are taken at once, and what is found for them, whoever looks at their codestreams.
use Rattle.std.specs.Prelude.{◌≡◌, ◌⊎◌, ℕ, ◌+◌, ◌<◌, Bool, true, false, List, [], ◌∷◌, Option, Result, Err, IfOk, OnErr}
use Rattle.ls_frame.specs.View.Devices.{count_after}
use Rattle.ls_frame.specs.View.Known.{Gave}
use Rattle.ls_archive.specs.declared.checking.CheckFault.{CheckFault}
use Rattle.ls_archive.specs.declared.checking.CheckFault.TheVariants as fault
use Rattle.ls_archive.specs.declared.checking.Finding.{Finding}
use Rattle.ls_archive.specs.declared.checking.IndexLine.{IndexLine}
use Rattle.ls_archive.specs.declared.checking.batches.After.{After}
use Rattle.ls_archive.specs.declared.checking.batches.After.TheVariants.{More, End, Fault}
use Rattle.ls_archive.specs.declared.checking.batches.Batch.{Batch}
use Rattle.ls_archive.specs.declared.checking.batches.Listed.{Listed}
use Rattle.ls_archive.specs.declared.checking.batches.SoFar.{SoFar}
use Rattle.ls_archive.specs.View.Checking.{Line, IsLine, HasEntry}
use Rattle.ls_archive.specs.View.Checks.{GaveAtMost, IsFound, HasChecked, EndsLines, StopsNextLine, IsUntorn, StopsReading, blames_index, blames_recording}

-- The place of a check: what is left of the index and of the recording, the number of the next line, and the offset that it must say.
pub record Place : Type 0 where
  pub index : Option (List ℕ)
  pub recording : Option (List ℕ)
  pub number : ℕ
  pub offset : ℕ

-- a line of the index
abbrev pub line_of : IndexLine → Line
line_of line = record { text = line.text.items; size = line.size; sum = line.sum }

-- ---- lines that are taken

-- At this place the index gave the line of a listed codestream, and the recording the line's bytes, or all that were left; the check is then at the next
-- place.
pub record IsTaken (at next : Place) (job : Listed) : Type 0 where
  pub number : job.number ≡ at.number
  pub offset : job.offset ≡ at.offset
  pub is : IsLine at.number at.offset (line_of job.line)
  pub gave : Gave at.index next.index (λ bytes. job.line.text.items ≡ bytes)
  pub taken : GaveAtMost at.recording next.recording job.line.size job.bytes.items
  pub next_number : next.number ≡ at.number + 1
  pub next_offset : next.offset ≡ at.offset + job.line.size

-- Listed codestreams were taken one after the other, from the first place to the second.
abbrev pub AreTaken : Place → Place → List Listed → Type 0
AreTaken at next [] = at ≡ next
AreTaken at next (job ∷ jobs) = (mid : Place) × IsTaken at mid job × AreTaken mid next jobs

-- This fault is in the next line, or in the bytes of that line.
abbrev pub StopsTaking : Bool → Place → Option (List ℕ) → Option (List ℕ) → CheckFault → Type 0
StopsTaking growing at index recording fault =
    (StopsNextLine at.index index at.number at.offset fault × IsUntorn growing at.index fault)
    ⊎ ((l : Line) × IsLine at.number at.offset l × Gave at.index index (λ bytes. l.text ≡ bytes) × StopsReading at.recording recording l.size fault)

-- What follows the lines that were taken, and leaves this of both readers. With `growing` the index may end with the torn beginning of a line.
abbrev pub ComesAfter : Bool → Place → Option (List ℕ) → Option (List ℕ) → After → Type 0
ComesAfter growing at index recording More = (at.index ≡ index) × (at.recording ≡ recording)
ComesAfter growing at index recording End = EndsLines growing at.index index × (at.recording ≡ recording)
ComesAfter growing at index recording (Fault fault) = StopsTaking growing at index recording fault

-- At this place the readers gave the batch's lines with their bytes, and then what follows these; this is left of both readers.
pub record IsBatch (growing : Bool) (at : Place) (index recording : Option (List ℕ)) (batch : Batch) : Type 0 where
  pub mid : Place
  pub taken : AreTaken at mid batch.jobs.items
  pub after : ComesAfter growing mid index recording batch.after

-- ---- what is found

-- A listed codestream's bytes were looked at, and what is wrong with them was found, unless an allocation failed: none is needed to see that
-- they aren't complete by their markers and headers.
pub record IsLookedAt (job job' : Listed) : Type 0 where
  pub number : job'.number ≡ job.number
  pub offset : job'.offset ≡ job.offset
  pub line : job'.line ≡ job.line
  pub found : IfOk job'.damage (IsFound job'.number job'.offset (line_of job'.line) job.bytes.items)
  pub memory : OnErr job'.damage (HasEntry job.bytes.items)

-- At this place the readers gave the line of a listed codestream and its bytes, and it says what was found of these, unless an allocation failed; the
-- check is then at the next place.
pub record IsLooked (at next : Place) (job : Listed) : Type 0 where
  pub number : job.number ≡ at.number
  pub offset : job.offset ≡ at.offset
  pub is : IsLine at.number at.offset (line_of job.line)
  pub gave : Gave at.index next.index (λ bytes. job.line.text.items ≡ bytes)
  pub bytes : List ℕ
  pub taken : GaveAtMost at.recording next.recording job.line.size bytes
  pub found : IfOk job.damage (IsFound job.number job.offset (line_of job.line) bytes)
  pub next_number : next.number ≡ at.number + 1
  pub next_offset : next.offset ≡ at.offset + job.line.size

-- Listed codestreams were taken one after the other, from the first place to the second, and looked at.
abbrev pub AreLooked : Place → Place → List Listed → Type 0
AreLooked at next [] = at ≡ next
AreLooked at next (job ∷ jobs) = (mid : Place) × IsLooked at mid job × AreLooked mid next jobs

-- ---- what is reported

-- The codestreams of the lines from the first one on and before this place were checked, and the findings on them reported.
pub record HasCheckedTo (first start : ℕ) (index recording : Option (List ℕ)) (found found' : Option (List Finding)) (at : Place) (so_far : SoFar) : Type 0 where
  pub number : so_far.number ≡ at.number
  pub offset : so_far.offset ≡ at.offset
  pub checked : HasChecked first start index at.index recording at.recording found found' at.number at.offset so_far.damaged

-- A check that stands before these codestreams, whatever its place, stands before those that are left once what was found is reported.
abbrev pub LeadsOn : Option (List Finding) → Option (List Finding) → SoFar → SoFar → List Listed → List Listed → Type 0
LeadsOn told told' so_far so_far' jobs left =
    (first start : ℕ) (index recording : Option (List ℕ)) (found : Option (List Finding)) (at next : Place) → HasCheckedTo first start index recording found told at so_far
    → AreLooked at next jobs → (mid : Place) × HasCheckedTo first start index recording found told' mid so_far' × AreLooked mid next left

-- the same, for some state and some codestreams left, at least one
abbrev pub LeadsSomewhere : Option (List Finding) → Option (List Finding) → SoFar → List Listed → Type 0
LeadsSomewhere told told' so_far jobs = (so_far' : SoFar) × (next : Listed) × (left : List Listed) × LeadsOn told told' so_far so_far' jobs (next ∷ left)

-- ---- reads that failed

-- whether a read of the index failed after the lines that were taken, and whether a read of the recording did
abbrev pub fails_index : After → Bool
fails_index More = false
fails_index End = false
fails_index (Fault fault) = blames_index fault

abbrev pub fails_recording : After → Bool
fails_recording More = false
fails_recording End = false
fails_recording (Fault fault) = blames_recording fault

-- The failed reads: one if that is the fault, else none; or, if the result is that an allocation failed, one that came after what the
-- allocation was for.
abbrev pub HasReadBeyond : {X : Type 0} → Bool → ℕ → ℕ → Result X CheckFault → Type 0
HasReadBeyond blamed failed failed' result = (failed' ≡ count_after blamed failed) ⊎ ((result ≡ Err fault.NoMemory) × (failed' ≡ count_after true failed))

-- the same of batches that have at most this many codestreams: with one there is no such read
abbrev pub HasReadBatches : {X : Type 0} → ℕ → Bool → ℕ → ℕ → Result X CheckFault → Type 0
HasReadBatches most blamed failed failed' result = (failed' ≡ count_after blamed failed) ⊎ ((1 < most) × HasReadBeyond blamed failed failed' result)
