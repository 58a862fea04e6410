-- A film and its recording, frame by frame.
use Rattle.std.proofs.Common.{◌≡◌, ◌⊎◌, ℕ, ◌+◌, ◌<◌, ◌≤◌, inl, inr, true, false, List, [], ◌∷◌, ◌++◌, Option, Some, None, Ok, Err, IfOk, IfErr, IfSome, MatchResult, IsTrue, refl, sym, ap, subst, ◌∙◌, arith}
use Rattle.std.proofs.lemmas.List.{length_push}
use Rattle.std.proofs.lemmas.Bool.{cases_Bool, cond-true, cond-false}
use Rattle.ls_frame.specs.Picture.{Picture, same_picture}
use Rattle.ls_frame.specs.Netpbm.{IsImageOf, IsWholeHeading, BeginsWithHeading}
use Rattle.ls_frame.specs.Faults.{IsBroken, blames_bytes}
use Rattle.ls_frame.specs.declared.netpbm.NetpbmFault.TheVariants as netpbm
use Rattle.ls_frame.specs.View.Alike.{same_picture-decides}
use Rattle.ls_frame.specs.View.Known.{Tells, Gave, known}
use Rattle.ls_frame.specs.declared.netpbm.NetpbmFault.{NetpbmFault}
use Rattle.ls_stream.specs.declared.faults.StreamFault.{StreamFault}
use Rattle.ls_stream.specs.declared.faults.StreamFault.TheVariants as stream
use Rattle.ls_stream.specs.Grammar.{Spells}
use Rattle.ls_stream.specs.View.Extents.{IsUndecided}
use Rattle.ls_film.specs.Film.{most_frames}
use Rattle.ls_film.specs.View.Memory.{AnyBytes, HasBytes}
use Rattle.ls_film.specs.View.Codestreams.{BreaksBy}
use Rattle.ls_film.proofs.FilmLemmas.{GaveFrames-none, GaveFrames-more, GaveFilm-end, IsBrokenAfter-next, GaveFrames-and}
use Rattle.ls_archive.specs.declared.faults.VerifyFault.{VerifyFault}
use Rattle.ls_archive.specs.declared.faults.VerifyFault.TheVariants.{Film, Recording, RecordingIo, NoMemory, TooMany}
use Rattle.ls_archive.specs.declared.verifying.Verdict.{Verdict}
use Rattle.ls_archive.specs.declared.verifying.Verdict.TheVariants.{Same, Differs, Missing, Extra}
use Rattle.ls_archive.specs.Verify.{difference_of}
use Rattle.ls_archive.specs.View.Verifying.{BeginsWithImage, HaveRun, Finds, StopsAfter, Stops, GaveNext, verdict_at, IsCompared, at_most, StopsFilm, StopsRecording, FailsAfter, FailsNext, film_fault, recording_fault, number_of, number_in}

-- before the first frame
pub HaveRun-none : (film recording : Option (List ℕ)) → HaveRun film film recording recording 0
HaveRun-none film recording = record {
  frames = [];
  count = refl;
  few = omega arith;
  film_gave = GaveFrames-none IsImageOf film;
  recording_gave = GaveFrames-none Spells recording;
}

-- pictures that compare equal are equal
pub same_is : (f g : Picture) → same_picture f g ≡ true → f ≡ g
same_is f g is = (same_picture-decides f g).0 is

pub other_is : (f g : Picture) → same_picture f g ≡ false → f ≡ g → ⊥
other_is f g is same = let alike : same_picture f g ≡ true = (same_picture-decides f g).1 same in let clash : ⊥ = cc in absurd clash

some_none : (v : Verdict) → ◌≡◌ {A = Option Verdict} None (Some v) → ⊥
some_none v e = let clash : ⊥ = cc in absurd clash

none_some : (v : Verdict) → ◌≡◌ {A = Option Verdict} (Some v) None → ⊥
none_some v e = let clash : ⊥ = cc in absurd clash

same_verdict : (v w : Verdict) → ◌≡◌ {A = Option Verdict} (Some v) (Some w) → v ≡ w
same_verdict v w e = cc

module _ (film mid film' recording midway recording' : Option (List ℕ)) (n : ℕ) (run : HaveRun film mid recording midway n) where
  -- both gave the same frame
  more : (f g : Picture) → n < most_frames → f ≡ g → GaveNext IsImageOf mid film' (Some f) → GaveNext Spells midway recording' (Some g)
      → HaveRun film film' recording recording' (n + 1)
  more f g room same image coded = record {
    frames = run.frames ++ f ∷ [];
    count = length_push run.frames f ∙ ap (λ k. k + 1) run.count;
    few = omega (arith, length_push run.frames f, run.count, room);
    film_gave = GaveFrames-more IsImageOf film mid film' run.frames f run.film_gave image;
    recording_gave = GaveFrames-more Spells recording midway recording' run.frames f run.recording_gave (subst (λ h. Gave midway recording' (λ bytes. Spells bytes h)) (sym same) coded);
  }

  -- by cases of what both gave next: there is no verdict, and the run goes on
  goes_on : (image coded : Option Picture) → n < most_frames → GaveNext IsImageOf mid film' image → GaveNext Spells midway recording' coded
      → None ≡ verdict_at n image coded → HaveRun film film' recording recording' (n + 1)
  goes_on (Some f) (Some g) room image coded is = elim (cases_Bool (same_picture f g)) [
    | inl same ↦ more f g room (same_is f g same) image coded
    | inr other ↦ absurd (some_none (Differs n (difference_of f g)) (is ∙ cond-false (same_picture f g) None (Some (Differs n (difference_of f g))) other))
  ]
  goes_on (Some f) None room image coded is = absurd (some_none (Missing n) is)
  goes_on None (Some g) room image coded is = absurd (some_none (Extra n) is)
  goes_on None None room image coded is = absurd (some_none (Same n) is)

  -- or there is one
  ends : (image coded : Option Picture) (v : Verdict) → GaveNext IsImageOf mid film' image → GaveNext Spells midway recording' coded
      → Some v ≡ verdict_at n image coded → Finds film film' recording recording' v
  ends (Some f) (Some g) v image coded is = elim (cases_Bool (same_picture f g)) [
    | inl same ↦ absurd (none_some v (is ∙ cond-true (same_picture f g) None (Some (Differs n (difference_of f g))) same))
    | inr other ↦
        subst (Finds film film' recording recording') (sym (same_verdict v (Differs n (difference_of f g)) (is ∙ cond-false (same_picture f g) None (Some (Differs n (difference_of f g))) other)))
        (record {
          frames = run.frames;
          f = f;
          g = g;
          count = run.count;
          differ = other_is f g other;
          what_is = refl;
          film_gave = GaveFrames-more IsImageOf film mid film' run.frames f run.film_gave image;
          recording_gave = GaveFrames-more Spells recording midway recording' run.frames g run.recording_gave coded;
        })
  ]
  ends (Some f) None v image coded is =
      subst (Finds film film' recording recording') (sym (same_verdict v (Missing n) is))
      (record {
        frames = run.frames;
        f = f;
        count = run.count;
        film_gave = GaveFrames-more IsImageOf film mid film' run.frames f run.film_gave image;
        recording_gave = GaveFilm-end Spells recording midway recording' run.frames run.recording_gave coded;
      })
  ends None (Some g) v image coded is =
      subst (Finds film film' recording recording') (sym (same_verdict v (Extra n) is))
      (record {
        frames = run.frames;
        g = g;
        count = run.count;
        film_gave = GaveFilm-end IsImageOf film mid film' run.frames run.film_gave image;
        recording_gave = GaveFrames-more Spells recording midway recording' run.frames g run.recording_gave coded;
      })
  ends None None v image coded is =
      subst (Finds film film' recording recording') (sym (same_verdict v (Same n) is))
      (record {
        frames = run.frames;
        count = run.count;
        few = run.few;
        film_gave = GaveFilm-end IsImageOf film mid film' run.frames run.film_gave image;
        recording_gave = GaveFilm-end Spells recording midway recording' run.frames run.recording_gave coded;
      })

  pub run-more : n < most_frames → IsCompared mid film' midway recording' n None → HaveRun film film' recording recording' (n + 1)
  run-more room compared = goes_on compared.image compared.coded room compared.film_gave compared.recording_gave compared.is

  pub run-ends : (v : Verdict) → IsCompared mid film' midway recording' n (Some v) → Finds film film' recording recording' v
  run-ends v compared = ends compared.image compared.coded v compared.film_gave compared.recording_gave compared.is

  -- ---- faults

  stops_after : (P Q : List ℕ → Type 0) → (Tells mid → P (known mid)) → (Tells midway → Q (known midway)) → StopsAfter film recording n P Q
  stops_after P Q image coded = record {
    frames = run.frames;
    count = run.count;
    few = run.few;
    film_begins = IsBrokenAfter-next IsImageOf film mid run.frames P run.film_gave image;
    recording_begins = IsBrokenAfter-next Spells recording midway run.frames Q run.recording_gave coded;
  }

  any : (r : Option (List ℕ)) → Tells r → AnyBytes (known r)
  any r told = tt

  at_film : (fault : VerifyFault) → StopsFilm mid n fault → Stops film recording fault
  at_film (Film m fault) why = (rw why.0 (stops_after _ AnyBytes why.2 (any midway)), why.1)
  at_film (Recording m fault) why = absurd why
  at_film (RecordingIo m) why = absurd why
  at_film NoMemory why = (n, inl (stops_after BeginsWithHeading AnyBytes why (any midway)))
  at_film TooMany why = absurd why

  at_recording : (fault : VerifyFault) → StopsRecording midway n fault → Stops film recording fault
  at_recording (Film m fault) why = absurd why
  at_recording (Recording m fault) why = (rw why.0 (stops_after AnyBytes _ (any mid) why.2), why.1)
  at_recording (RecordingIo m) why = rw why (stops_after AnyBytes AnyBytes (any mid) (any midway))
  at_recording NoMemory why = (n, inr (stops_after AnyBytes HasBytes (any mid) why))
  at_recording TooMany why = absurd why

  pub run-stops : (fault : VerifyFault) → StopsFilm mid n fault ⊎ StopsRecording midway n fault → Stops film recording fault
  run-stops fault (inl why) = at_film fault why
  run-stops fault (inr why) = at_recording fault why

  -- the bytes that were given were at the front
  begins : (IsImage : List ℕ → Picture → Type 0) (old new : Option (List ℕ)) (f : Picture) → GaveNext IsImage old new (Some f) → Tells old → BeginsWithImage IsImage (known old)
  begins IsImage old new f gives told = let gave = gives told in (f, gave.1, known new, gave.2, gave.3)

-- ---- after the most frames

module _ (film mid film' recording midway recording' : Option (List ℕ)) (run : HaveRun film mid recording midway most_frames) where
  over : (image coded : Option Picture) → GaveNext IsImageOf mid film' image → GaveNext Spells midway recording' coded
      → (image ≡ None → coded ≡ None → ⊥) → Stops film recording TooMany
  over (Some f) coded gave also some =
      inl (stops_after film mid film' recording midway recording' most_frames run (BeginsWithImage IsImageOf) AnyBytes
      (begins film mid film' recording midway recording' most_frames run IsImageOf mid film' f gave) (λ told. tt))
  over None (Some g) gave also some =
      inr (stops_after film mid film' recording midway recording' most_frames run AnyBytes (BeginsWithImage Spells) (λ told. tt)
      (begins film mid film' recording midway recording' most_frames run Spells midway recording' g also))
  over None None gave also some = absurd (some refl refl)

  -- one of the two has another frame, unless both are at their ends
  another : (v : Option Verdict) (image coded : Option Picture) → v ≡ verdict_at most_frames image coded → at_most v ≡ Err TooMany → image ≡ None → coded ≡ None → ⊥
  another v image coded is end no_image no_coded =
      let ends : v ≡ Some (Same most_frames) = is ∙ ap (λ i. verdict_at most_frames i coded) no_image ∙ ap (verdict_at most_frames None) no_coded in
      let ok : at_most v ≡ Ok (Same most_frames) = ap at_most ends in
      let clash : ⊥ = cc in absurd clash

  most : (v : Option Verdict) → IsCompared mid film' midway recording' most_frames v → (at_most v ≡ Err TooMany) → Stops film recording TooMany
  most v compared end = over compared.image compared.coded compared.film_gave compared.recording_gave (another v compared.image compared.coded compared.is end)

  pub most-ends : (v : Option Verdict) → IsCompared mid film' midway recording' most_frames v → IfOk (at_most v) (Finds film film' recording recording')
  most-ends None compared = tt
  most-ends (Some (Same n)) compared = run-ends film mid film' recording midway recording' most_frames run (Same n) compared
  most-ends (Some (Differs n what)) compared = tt
  most-ends (Some (Missing n)) compared = tt
  most-ends (Some (Extra n)) compared = tt

  pub most-stops : (v : Option Verdict) → IsCompared mid film' midway recording' most_frames v → IfErr (at_most v) (Stops film recording)
  most-stops None compared = most None compared refl
  most-stops (Some (Same n)) compared = tt
  most-stops (Some (Differs n what)) compared = most (Some (Differs n what)) compared refl
  most-stops (Some (Missing n)) compared = most (Some (Missing n)) compared refl
  most-stops (Some (Extra n)) compared = most (Some (Extra n)) compared refl

-- ---- the next image

-- the fault of a comparison for a fault of it
pub stops_image : (read read' : Option (List ℕ)) (n : ℕ) (fault : NetpbmFault) → (IsTrue (blames_bytes fault) → Tells read → IsBroken (known read) fault)
    → (fault ≡ netpbm.NoMemory → Gave read read' IsWholeHeading) → StopsFilm read n (film_fault n fault)
stops_image read read' n netpbm.BadMagic broken memory = (refl, (λ is. let clash : ⊥ = cc in clash), (λ told blames. broken blames told))
stops_image read read' n netpbm.BadHeader broken memory = (refl, (λ is. let clash : ⊥ = cc in clash), (λ told blames. broken blames told))
stops_image read read' n netpbm.HeaderTooLong broken memory = (refl, (λ is. let clash : ⊥ = cc in clash), (λ told blames. broken blames told))
stops_image read read' n netpbm.SizeOutOfRange broken memory = (refl, (λ is. let clash : ⊥ = cc in clash), (λ told blames. broken blames told))
stops_image read read' n netpbm.MaxvalOutOfRange broken memory = (refl, (λ is. let clash : ⊥ = cc in clash), (λ told blames. broken blames told))
stops_image read read' n netpbm.SampleTooLarge broken memory = (refl, (λ is. let clash : ⊥ = cc in clash), (λ told blames. broken blames told))
stops_image read read' n netpbm.Truncated broken memory = (refl, (λ is. let clash : ⊥ = cc in clash), (λ told blames. broken blames told))
stops_image read read' n netpbm.Io broken memory = (refl, (λ is. let clash : ⊥ = cc in clash), (λ told blames. broken blames told))
stops_image read read' n netpbm.NoMemory broken memory = λ told. let gave = memory refl told in (gave.1, known read', gave.2, gave.3)

-- ---- the next codestream

coded_fault : (read : Option (List ℕ)) (n : ℕ) (fault : StreamFault) → (fault ≡ stream.NoMemory → ⊥) → (fault ≡ stream.NoMemory) ⊎ (Tells read → BreaksBy fault (known read))
    → (n ≡ n) × (fault ≡ stream.NoMemory → ⊥) × (Tells read → BreaksBy fault (known read))
coded_fault read n fault other (inl memory) = absurd (other memory)
coded_fault read n fault other (inr breaks) = (refl, other, breaks)

-- the fault of a comparison for a fault of it
pub stops_coded : (read : Option (List ℕ)) (n : ℕ) (fault : StreamFault) → (Tells read → HasBytes (known read)) → (fault ≡ stream.NoMemory) ⊎ (Tells read → BreaksBy fault (known read))
    → StopsRecording read n (recording_fault n fault)
stops_coded read n stream.Truncated some why = coded_fault read n stream.Truncated (λ is. let clash : ⊥ = cc in clash) why
stops_coded read n stream.NotSoi some why = coded_fault read n stream.NotSoi (λ is. let clash : ⊥ = cc in clash) why
stops_coded read n stream.BadSegment some why = coded_fault read n stream.BadSegment (λ is. let clash : ⊥ = cc in clash) why
stops_coded read n (stream.Unsupported what) some why = coded_fault read n (stream.Unsupported what) (λ is. let clash : ⊥ = cc in clash) why
stops_coded read n (stream.BadPresets fault) some why = coded_fault read n (stream.BadPresets fault) (λ is. let clash : ⊥ = cc in clash) why
stops_coded read n stream.TooLarge some why = coded_fault read n stream.TooLarge (λ is. let clash : ⊥ = cc in clash) why
stops_coded read n (stream.BadCode component) some why = coded_fault read n (stream.BadCode component) (λ is. let clash : ⊥ = cc in clash) why
stops_coded read n (stream.LeftoverBits component) some why = coded_fault read n (stream.LeftoverBits component) (λ is. let clash : ⊥ = cc in clash) why
stops_coded read n stream.NoMemory some why = some

-- ---- failed reads of the recording

-- a fault of the film is none
pub film-unfailed : (film place read : Option (List ℕ)) (n : ℕ) (fault : VerifyFault) → StopsFilm film n fault → FailsNext place read n fault
film-unfailed film place read n (Film m fault) why = tt
film-unfailed film place read n (Recording m fault) why = tt
film-unfailed film place read n (RecordingIo m) why = absurd why
film-unfailed film place read n NoMemory why = tt
film-unfailed film place read n TooMany why = tt

-- nor is a fault of a codestream
pub coded-unfailed : (place read : Option (List ℕ)) (n : ℕ) (fault : StreamFault) → FailsNext place read n (recording_fault n fault)
coded-unfailed place read n stream.Truncated = tt
coded-unfailed place read n stream.NotSoi = tt
coded-unfailed place read n stream.BadSegment = tt
coded-unfailed place read n (stream.Unsupported what) = tt
coded-unfailed place read n (stream.BadPresets fault) = tt
coded-unfailed place read n stream.TooLarge = tt
coded-unfailed place read n (stream.BadCode component) = tt
coded-unfailed place read n (stream.LeftoverBits component) = tt
coded-unfailed place read n stream.NoMemory = tt

-- after the frames that were compared
pub run-fails : (film mid recording midway read : Option (List ℕ)) (n : ℕ) → HaveRun film mid recording midway n → (fault : VerifyFault) → FailsNext midway read n fault → FailsAfter recording read fault
run-fails film mid recording midway read n run (Film m fault) why = tt
run-fails film mid recording midway read n run (Recording m fault) why = tt
run-fails film mid recording midway read n run (RecordingIo m) why =
    (run.frames, run.count ∙ sym why.0, GaveFrames-and Spells recording midway read run.frames IsUndecided IsUndecided run.recording_gave why.1 (λ last is. is))
run-fails film mid recording midway read n run NoMemory why = tt
run-fails film mid recording midway read n run TooMany why = tt

-- the most frames
pub most-fails : (recording read : Option (List ℕ)) (v : Option Verdict) → IfErr (at_most v) (FailsAfter recording read)
most-fails recording read None = tt
most-fails recording read (Some (Same n)) = tt
most-fails recording read (Some (Differs n what)) = tt
most-fails recording read (Some (Missing n)) = tt
most-fails recording read (Some (Extra n)) = tt

-- ---- numbers

-- a fault of the film's frame n, and of codestream n, and a verdict on these
pub film-number : (film : Option (List ℕ)) (n : ℕ) (fault : VerifyFault) → StopsFilm film n fault → number_in fault ≤ n
film-number film n (Film m fault) why = let few : m ≤ n = omega (arith, why.0) in few
film-number film n (Recording m fault) why = absurd why
film-number film n (RecordingIo m) why = absurd why
film-number film n NoMemory why = let few : 0 ≤ n = omega arith in few
film-number film n TooMany why = let few : 0 ≤ n = omega arith in few

at_number : (n : ℕ) → n ≤ n
at_number n = omega arith

below_number : (n : ℕ) → 0 ≤ n
below_number n = omega arith

pub coded-number : (n : ℕ) (fault : StreamFault) → number_in (recording_fault n fault) ≤ n
coded-number n stream.Truncated = at_number n
coded-number n stream.NotSoi = at_number n
coded-number n stream.BadSegment = at_number n
coded-number n (stream.Unsupported what) = at_number n
coded-number n (stream.BadPresets fault) = at_number n
coded-number n stream.TooLarge = at_number n
coded-number n (stream.BadCode component) = at_number n
coded-number n (stream.LeftoverBits component) = at_number n
coded-number n stream.NoMemory = below_number n

pub verdict-number : (n : ℕ) (image coded : Option Picture) → IfSome (verdict_at n image coded) (λ verdict. number_of verdict ≡ n)
verdict-number n (Some f) (Some g) = elim (cases_Bool (same_picture f g)) [
  | inl same ↦ subst (λ v. IfSome v (λ verdict. number_of verdict ≡ n)) (sym (cond-true (same_picture f g) None (Some (Differs n (difference_of f g))) same)) tt
  | inr other ↦ subst (λ v. IfSome v (λ verdict. number_of verdict ≡ n)) (sym (cond-false (same_picture f g) None (Some (Differs n (difference_of f g))) other)) refl
]
verdict-number n (Some f) None = refl
verdict-number n None (Some g) = refl
verdict-number n None None = refl

-- after the most frames
pub most-number : (v : Option Verdict) → IfSome v (λ verdict. number_of verdict ≡ most_frames) → MatchResult (at_most v) (λ verdict. number_of verdict ≤ most_frames) (λ fault. number_in fault ≤ most_frames)
most-number None is = below_number most_frames
most-number (Some (Same n)) is = let same : n ≡ most_frames = is in let few : n ≤ most_frames = omega (arith, same) in few
most-number (Some (Differs n what)) is = below_number most_frames
most-number (Some (Missing n)) is = below_number most_frames
most-number (Some (Extra n)) is = below_number most_frames

-- before the last
pub number-below : (n m most : ℕ) → n ≤ m → m < most → n < most
number-below n m most few less = omega (arith, few, less)

pub number-at : (n m most : ℕ) → n ≡ m → m < most → n < most
number-at n m most same less = omega (arith, same, less)

pub number-few : (n most : ℕ) → n < most → n ≤ most
number-few n most less = omega (arith, less)
