-- A part of a film and of a recording: what comes before it, and what is found in it.
use Rattle.std.proofs.Common.{◌≡◌, ◌⊎◌, ◌<◌, ◌≤◌, ◌+◌, ℕ, Bool, true, false, inl, inr, List, [], length, Option, None, Some, Result, Ok, Err, IfOk, IfErr, refl, sym, ap, subst, ◌∙◌, arith}
use Rattle.std.specs.Prelude.{◌||◌}
use Rattle.std.proofs.lemmas.List.{length_push}
use Rattle.ls_frame.specs.Picture.{Picture}
use Rattle.ls_frame.specs.Netpbm.{IsImageOf}
use Rattle.ls_frame.specs.View.Devices.{count_after}
use Rattle.ls_frame.specs.View.Known.{WasAtEnd}
use Rattle.ls_film.specs.View.Parts.{GavePassed}
use Rattle.ls_film.proofs.FilmLemmas.{GaveFrames-none, GaveFrames-more, GaveFilm-end}
use Rattle.ls_archive.specs.declared.faults.VerifyFault.{VerifyFault}
use Rattle.ls_archive.specs.declared.faults.VerifyFault.TheVariants as fault
use Rattle.ls_archive.specs.declared.verifying.part.VerifyPartFault.{VerifyPartFault}
use Rattle.ls_archive.specs.declared.verifying.part.VerifyPartFault.TheVariants.{Verify, Passing, FilmTooFew, RecordingTooFew}
use Rattle.ls_archive.specs.declared.verifying.Verdict.{Verdict}
use Rattle.ls_archive.specs.declared.verifying.Verdict.TheVariants.{Same}
use Rattle.ls_archive.specs.View.Verifying.{HaveRun, Finds, GaveNext, StopsFilm, number_of, blames_film, blames_recording}
use Rattle.ls_archive.specs.View.VerifiedParts.{later, later_fault, IsDifference, FindsFrom, StopsRest, GaveImages, StopsImages, StopsStreams, FindsPart, StopsVerifyPart, FailsRest, FailsVerifyPart, fails_in_part}
use Rattle.ls_archive.proofs.ComparingLemmas.{found-here}

-- ---- the film's images before the part

pub images-none : (film : Option (List ℕ)) → GaveImages film film 0
images-none film = ([], refl, GaveFrames-none IsImageOf film)

pub images-more : (film mid film' : Option (List ℕ)) (n : ℕ) (f : Picture) → GaveImages film mid n → GaveNext IsImageOf mid film' (Some f) → GaveImages film film' (n + 1)
images-more film mid film' n f (frames, count, gave) next =
    (_, length_push frames f ∙ ap (λ k. k + 1) count, GaveFrames-more IsImageOf film mid film' frames f gave next)

pub images-end : (film mid film' : Option (List ℕ)) (n first : ℕ) → n < first → GaveImages film mid n → GaveNext IsImageOf mid film' None → StopsImages film film' first (FilmTooFew n)
images-end film mid film' n first less (frames, count, gave) end = (less, (frames, count, GaveFilm-end IsImageOf film mid film' frames gave end))

-- ---- failed reads

pub film_only : (film : Option (List ℕ)) (n : ℕ) (why : VerifyFault) → StopsFilm film n why → fails_in_part (Verify why) ≡ false
film_only film n (fault.Film m broken) stops = refl
film_only film n (fault.Recording m broken) stops = refl
film_only film n (fault.RecordingIo m) stops = absurd stops
film_only film n fault.NoMemory stops = refl
film_only film n fault.TooMany stops = refl

pub images-unfailed : (film film' : Option (List ℕ)) (first : ℕ) (why : VerifyPartFault) → StopsImages film film' first why → fails_in_part why ≡ false
images-unfailed film film' first (Verify why) (mid, m, less, gave, stops) = film_only mid m why stops
images-unfailed film film' first (Passing why) stops = refl
images-unfailed film film' first (FilmTooFew m) stops = refl
images-unfailed film film' first (RecordingTooFew m) stops = refl

pub streams-unfailed : (recording recording' : Option (List ℕ)) (first : ℕ) (why : VerifyPartFault) → StopsStreams recording recording' first why → fails_in_part why ≡ false
streams-unfailed recording recording' first (Verify why) stops = absurd stops
streams-unfailed recording recording' first (Passing why) stops = refl
streams-unfailed recording recording' first (FilmTooFew m) stops = refl
streams-unfailed recording recording' first (RecordingTooFew m) stops = refl

-- a fault says of the same device, whatever its number
later-film : (first : ℕ) (alone : VerifyFault) → blames_film (later_fault first alone) ≡ blames_film alone
later-film first (fault.Film m broken) = refl
later-film first (fault.Recording m broken) = refl
later-film first (fault.RecordingIo m) = refl
later-film first fault.NoMemory = refl
later-film first fault.TooMany = refl

later-recording : (first : ℕ) (alone : VerifyFault) → blames_recording (later_fault first alone) ≡ (blames_recording alone || false)
later-recording first (fault.Film m broken) = refl
later-recording first (fault.Recording m broken) = refl
later-recording first (fault.RecordingIo m) = refl
later-recording first fault.NoMemory = refl
later-recording first fault.TooMany = refl

pub reads-film : (first : ℕ) (why alone : VerifyFault) (old new : ℕ) → why ≡ later_fault first alone → new ≡ count_after (blames_film alone) old → new ≡ count_after (blames_film why) old
reads-film first why alone old new is reads =
    subst (λ w. new ≡ count_after (blames_film w) old) (sym is) (reads ∙ ap (λ b. count_after b old) (sym (later-film first alone)))

pub reads-recording : (first : ℕ) (why alone : VerifyFault) (old new : ℕ) → why ≡ later_fault first alone → new ≡ count_after (blames_recording alone || false) old
    → new ≡ count_after (blames_recording why) old
reads-recording first why alone old new is reads =
    subst (λ w. new ≡ count_after (blames_recording w) old) (sym is) (reads ∙ ap (λ b. count_after b old) (sym (later-recording first alone)))

-- ---- the frames of the part

module _ (film film' recording recording' : Option (List ℕ)) (first last : ℕ) where
  -- all are the same
  pub finds-all : (n : ℕ) → first + n ≡ last + 1 → (place : Option (List ℕ)) × (place ≡ recording') × HaveRun film film' recording place n
      → FindsFrom film film' recording recording' first (Some last) (Same n)
  finds-all n all (place, is, run) = inl (n, refl, all, subst (λ p. HaveRun film film' recording p n) is run)

  -- a verdict was found before the last one
  module _ (alone : Verdict) (before : first + number_of alone ≤ last)
      (found : (place : Option (List ℕ)) × Finds film film' recording place alone × ((place ≡ recording') ⊎ (place ≡ recording'))) where
    pub finds-within : (r : Result Verdict VerifyPartFault) → IfOk r (λ verdict. (verdict ≡ later first alone) × IsDifference alone)
        → IfOk r (FindsFrom film film' recording recording' first (Some last))
    finds-within (Ok verdict) (is, differs) = inr (alone, is, differs, before, found-here film film' recording recording' alone found)
    finds-within (Err why) is = tt

    pub lacks-within : (r : Result Verdict VerifyPartFault) → IfErr r (λ why. (n : ℕ) × (alone ≡ Same n) × (why ≡ FilmTooFew (first + n)))
        → IfErr r (StopsRest film film' recording recording' first (Some last))
    lacks-within (Ok verdict) is = tt
    lacks-within (Err why) (n, same, is) =
        subst (StopsRest film film' recording recording' first (Some last)) (sym is)
        (n, refl, subst (Finds film film' recording recording') same (found-here film film' recording recording' alone found), subst (λ v. first + number_of v ≤ last) same before)

  pub unfailed-within : (alone : Verdict) (r : Result Verdict VerifyPartFault) → IfErr r (λ why. (n : ℕ) × (alone ≡ Same n) × (why ≡ FilmTooFew (first + n)))
      → IfErr r (FailsRest recording recording' first)
  unfailed-within alone (Ok verdict) is = tt
  unfailed-within alone (Err why) (n, same, is) = subst (FailsRest recording recording' first) (sym is) tt

-- ---- the part, after the frames before it

module _ (film mid film' recording midway recording' : Option (List ℕ)) (first : ℕ) (last : Option ℕ) (images : GaveImages film mid first) (passed : GavePassed recording midway first) where
  pub finds-part : (r : Result Verdict VerifyPartFault) → IfOk r (FindsFrom mid film' midway recording' first last) → IfOk r (FindsPart film film' recording recording' first last)
  finds-part (Ok verdict) finds = record { mid = mid; images = images; midway = midway; codestreams = passed; after = finds }
  finds-part (Err why) finds = tt

  pub stops-part : (r : Result Verdict VerifyPartFault) → IfErr r (StopsRest mid film' midway recording' first last) → IfErr r (StopsVerifyPart film film' recording recording' first last)
  stops-part (Ok verdict) stops = tt
  stops-part (Err why) stops = inr (inr (record { mid = mid; images = images; midway = midway; codestreams = passed; after = stops }))

  pub fails-part : (r : Result Verdict VerifyPartFault) → IfErr r (FailsRest midway recording' first) → IfErr r (FailsVerifyPart recording recording' first)
  fails-part (Ok verdict) fails = tt
  fails-part (Err why) fails = inr (midway, passed, fails)
