-- What the results of engines say of a command.
use Rattle.std.proofs.Common.{◌≡◌, ◌⊎◌, ℕ, List, Option, None, Result, Ok, Err, IfOk, IfErr, MatchResult, refl, sym, subst, ◌∙◌, inl, inr, arith}
use Rattle.ls_archive.specs.declared.verifying.Verdict.{Verdict}
use Rattle.ls_archive.specs.declared.verifying.Verdict.TheVariants.{Same, Differs, Missing, Extra}
use Rattle.ls_archive.specs.declared.faults.IndexFault.{IndexFault}
use Rattle.ls_archive.specs.View.Coded.{CodesWithIndex}
use Rattle.ls_archive.specs.View.Comparing.{FindsAhead}
use Rattle.ls_archive.specs.View.VerifiedParts.{FindsPart}
use Rattle.ls_console.specs.declared.output.TheConstants.{DONE, FAILED}
use Rattle.ls_film.specs.declared.faults.FilmFault.{FilmFault}
use Rattle.ls_film.specs.declared.part.Part.{Part}
use Rattle.ls_film.specs.declared.part.PartFault.{PartFault}
use Rattle.ls_film.specs.declared.playing.PlayFault.{PlayFault}
use Rattle.ls_film.specs.View.Playing.{Stops, StopsAhead}
use Rattle.ls_reading.specs.View.Commands.{IsPart, PlaysPart, ShowsPartOf, HaveSameFrames}
use Rattle.ls_reading.specs.View.Indexes.{HasCoded}
use Rattle.ls_reading.specs.View.Parts.{HaveSamePart}
use Rattle.ls_reading.specs.View.Statuses.{DoneOrFailed, verdict_status}

-- playing one by one stops as playing ahead does
pub stops_ahead : (read read' written written' : Option (List ℕ)) (outcome : Result ℕ PlayFault) → IfErr outcome (Stops read read' written written')
    → IfErr outcome (StopsAhead read read' written written')
stops_ahead read read' written written' (Ok count) none = _
stops_ahead read read' written written' (Err fault) stops = (read', (λ device. refl), stops)

-- the two statuses differ
not-both : (status : ℕ) → status ≡ FAILED → status ≡ DONE → ⊥
not-both status failed done = let one : status ≡ 1 = failed in let zero : status ≡ 0 = done in omega (arith, one, zero)

-- the status before the last flush was 0 if that after it is
pub done_before : (status after : ℕ) → (after ≡ status) ⊎ (after ≡ FAILED) → after ≡ DONE → status ≡ DONE
done_before status after (inl same) done = sym same ∙ done
done_before status after (inr failed) done = absurd (not-both after failed done)

-- an outcome's status is 0 or 1
pub concluded : {T E : Type 0} (outcome : Result T E) (status : ℕ) → MatchResult outcome (λ _. status ≡ DONE) (λ _. status ≡ FAILED) → DoneOrFailed status
concluded (Ok value) status is = inl is
concluded (Err fault) status is = inr is

-- and so is the status after the last flush
pub flushed : (status after : ℕ) → (after ≡ status) ⊎ (after ≡ FAILED) → DoneOrFailed status → DoneOrFailed after
flushed status after (inl same) (inl done) = inl (same ∙ done)
flushed status after (inl same) (inr failed) = inr (same ∙ failed)
flushed status after (inr failed) is = inr failed

-- a part was shown if the status is 0
module _ {O : Type 0} (holds : O → List ℕ → Option (List ℕ) → Type 0) (opener : O) (path : List ℕ) (written written' : Option (List ℕ)) where
  pub part-shown : (part : Part) (read left : Option (List ℕ)) (outcome : Result ℕ PartFault) (status : ℕ) → holds opener path read
      → MatchResult outcome (λ _. status ≡ DONE) (λ _. status ≡ FAILED) → IfOk outcome (λ count. IsPart part → PlaysPart part read left written written' count)
      → status ≡ DONE → IsPart part → ShowsPartOf holds opener path written written' part
  part-shown part read left (Ok count) status file is shows done lawful =
      record { read = read; left = left; count = count; file = file; run = shows lawful }
  part-shown part read left (Err fault) status file is shows done lawful = absurd (not-both status is done)

-- the frames are the same if the status is 0
module _ {O : Type 0} (holds : O → List ℕ → Option (List ℕ) → Type 0) (opener : O) where
  pub same-frames : (film recording : List ℕ) (images left codestreams : Option (List ℕ)) (verdict : Verdict) (status : ℕ) → holds opener film images
      → holds opener recording codestreams → FindsAhead images left codestreams verdict → status ≡ verdict_status verdict → status ≡ DONE
      → HaveSameFrames holds opener film recording
  same-frames film recording images left codestreams (Same count) status one other finds is done =
      record {
        images = images;
        images_left = left;
        codestreams = codestreams;
        codestreams_left = finds.0;
        count = count;
        film_file = one;
        recording_file = other;
        same = finds.1;
      }
  same-frames film recording images left codestreams (Differs number what) status one other finds is done = absurd (not-both status is done)
  same-frames film recording images left codestreams (Missing number) status one other finds is done = absurd (not-both status is done)
  same-frames film recording images left codestreams (Extra number) status one other finds is done = absurd (not-both status is done)

  -- those of a part
  pub same-part : (film recording : List ℕ) (part : Part) (images left codestreams rest : Option (List ℕ)) (verdict : Verdict) (status : ℕ) → holds opener film images
      → holds opener recording codestreams → (IsPart part → FindsPart images left codestreams rest part.first part.last verdict) → status ≡ verdict_status verdict
      → status ≡ DONE → IsPart part → HaveSamePart holds opener film recording part
  same-part film recording part images left codestreams rest (Same count) status one other finds is done lawful =
      record {
        images = images;
        images_left = left;
        codestreams = codestreams;
        codestreams_left = rest;
        count = count;
        film_file = one;
        recording_file = other;
        same = finds lawful;
      }
  same-part film recording part images left codestreams rest (Differs number what) status one other finds is done lawful = absurd (not-both status is done)
  same-part film recording part images left codestreams rest (Missing number) status one other finds is done lawful = absurd (not-both status is done)
  same-part film recording part images left codestreams rest (Extra number) status one other finds is done lawful = absurd (not-both status is done)

-- a film was coded with its index, which is whole, if the status is 0
pub has-coded : (read left written written' begun begun' index index' : Option (List ℕ)) (outcome : Result ℕ FilmFault) (status : ℕ) (broken : Option IndexFault)
    → begun ≡ begun' → index' ≡ index → MatchResult outcome (λ _. status ≡ DONE) (λ _. status ≡ FAILED)
    → IfOk outcome (CodesWithIndex read left written written' begun index broken) → status ≡ DONE → broken ≡ None → HasCoded read written written' begun' index'
has-coded read left written written' begun begun' index index' (Ok n) status broken same same' is coded done none =
    subst (λ i. HasCoded read written written' begun' i) (sym same')
    (subst (λ b. HasCoded read written written' b index) same (left, n, subst (λ b. CodesWithIndex read left written written' begun index b n) none coded))
has-coded read left written written' begun begun' index index' (Err fault) status broken same same' is coded done none = absurd (not-both status is done)
