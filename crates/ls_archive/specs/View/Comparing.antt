-- A comparison step by step, whichever source the recording's frames come from: where it stands is a parameter.
use Rattle.std.specs.Prelude.{◌≡◌, ◌⊎◌, ℕ, true, List, Option, None, Result, Ok}
use Rattle.ls_frame.specs.Picture.{Picture}
use Rattle.ls_frame.specs.View.Devices.{count_after}
use Rattle.ls_stream.specs.Grammar.{Spells}
use Rattle.ls_film.specs.View.Codestreams.{IsUnread}
use Rattle.ls_film.specs.View.Sources.{GivesImage}
use Rattle.ls_archive.specs.declared.faults.VerifyFault.{VerifyFault}
use Rattle.ls_archive.specs.declared.verifying.Verdict.{Verdict}
use Rattle.ls_film.specs.View.Steps.{failed_by}
use Rattle.ls_archive.specs.View.Verifying.{Finds, HaveRun, IsCompared, blames_recording}

module _ {S : Type 0} (stands : S → Option (List ℕ) → Option (List ℕ) → Type 0) where
  -- what the next codestream gives: its frame, or nothing at the end
  abbrev pub GivesCoded : Option (List ℕ) → Option (List ℕ) → S → Option Picture → Type 0
  GivesCoded place read source next = GivesImage Spells (λ f same. same ≡ f) IsUnread stands place read source (Ok next)

  -- Both gave their next, the recording at this place, and this is the verdict on it. Where it is none, the source stands after that
  -- codestream; else there, or its reader is at the end.
  abbrev pub HasCompared : Option (List ℕ) → Option (List ℕ) → Option (List ℕ) → Option (List ℕ) → S → ℕ → Option Verdict → Type 0
  HasCompared film film' place read source n verdict =
      (place' : Option (List ℕ)) × IsCompared film film' place place' n verdict × (verdict ≡ None → stands source place' read) × (stands source place' read ⊎ (place' ≡ read))

  -- what a verdict says, where the source stands in the end, or at the end of its reader
  abbrev pub HasFound : Option (List ℕ) → Option (List ℕ) → Option (List ℕ) → Option (List ℕ) → S → Verdict → Type 0
  HasFound film film' place read source verdict = (place' : Option (List ℕ)) × Finds film film' place place' verdict × (stands source place' read ⊎ (place' ≡ read))

  -- Both gave the same n frames so far, and the source stands after them.
  abbrev pub HasRunTo : Option (List ℕ) → Option (List ℕ) → Option (List ℕ) → Option (List ℕ) → S → ℕ → Type 0
  HasRunTo film film' place read source n = (place' : Option (List ℕ)) × stands source place' read × HaveRun film film' place place' n

-- What a verdict says, but for the recording's place: it may have been read further.
abbrev pub FindsAhead : Option (List ℕ) → Option (List ℕ) → Option (List ℕ) → Verdict → Type 0
FindsAhead film film' recording verdict = (place : Option (List ℕ)) × Finds film film' recording place verdict

-- The reads of the recording that failed: one where that is the fault; else none, or one after the frames of the verdict or fault.
abbrev pub HasReadAhead : ℕ → ℕ → Result Verdict VerifyFault → Type 0
HasReadAhead failed failed' result = (failed' ≡ count_after (failed_by blames_recording result) failed) ⊎ (failed' ≡ count_after true failed)
