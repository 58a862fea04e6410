-- What a comparison of a film with a recording in memory says of their frames.
use Rattle.std.proofs.Common.{◌≡◌, ℕ, ◌+◌, ◌<◌, ◌≤◌, false, inl, inr, List, [], ◌∷◌, ◌++◌, length, Option, Some, Result, Ok, Err, IfOk, IfErr, MatchResult, IsTrue, refl, sym, ap, subst, ◌∙◌, arith, append_assoc, length-append}
use Rattle.ls_frame.specs.declared.frame.Kind.{Kind}
use Rattle.ls_frame.specs.declared.frame.Kind.TheVariants.{Gray, Color}
use Rattle.ls_frame.specs.declared.netpbm.NetpbmFault.{NetpbmFault}
use Rattle.ls_frame.specs.declared.netpbm.NetpbmFault.TheVariants as netpbm
use Rattle.ls_frame.specs.Picture.{Picture}
use Rattle.ls_frame.specs.Netpbm.{IsImageOf, magic}
use Rattle.ls_frame.specs.Faults.{Breaks, IsBroken, blames_bytes, blames_device}
use Rattle.ls_frame.specs.View.Known.{known}
use Rattle.ls_frame.specs.View.Devices.{count_after}
use Rattle.ls_stream.specs.Grammar.{codestream_bytes, Spells}
use Rattle.ls_film.specs.Film.{most_frames, IsFilm}
use Rattle.ls_film.specs.View.Given.{GaveFrames}
use Rattle.ls_film.proofs.OneFilmLemmas.{more_frames, one_film}
use Rattle.ls_archive.specs.declared.faults.VerifyFault.{VerifyFault}
use Rattle.ls_archive.specs.declared.faults.VerifyFault.TheVariants.{Film, Recording, RecordingIo, NoMemory, TooMany}
use Rattle.ls_archive.specs.declared.verifying.Verdict.{Verdict}
use Rattle.ls_archive.specs.declared.verifying.Verdict.TheVariants.{Same, Differs, Missing, Extra}
use Rattle.ls_archive.specs.Verify.{Compares}
use Rattle.ls_film.specs.View.Steps.{failed_by}
use Rattle.ls_archive.specs.View.Verifying.{BeginsWithImage, Finds, Stops, FindsIn, StopsIn, blames_film, blames_recording}
use Rattle.ls_archive.proofs.FormLemmas.{no_break, no_failure}

-- ---- images and codestreams have bytes

some_magic : (kind : Kind) → 0 < length (magic kind)
some_magic Gray = omega arith
some_magic Color = omega arith

some_front : (front rest : List ℕ) → 0 < length front → 0 < length (front ++ rest)
some_front front rest some = omega (arith, length-append front rest)

some_image : (bytes : List ℕ) (f : Picture) → IsImageOf bytes f → 0 < length bytes
some_image bytes f image =
    rw image.whole (some_front _ _ (some_front _ _ (some_front _ _ (some_front _ _ (some_front _ _ (some_magic image.heading.kind))))))

no_start : (byte : ℕ) (bytes : List ℕ) → [] ≡ byte ∷ bytes → ⊥
no_start byte bytes is = let clash : ⊥ = cc in absurd clash

some_codestream : (bytes : List ℕ) (f : Picture) → Spells bytes f → 0 < length bytes
unfolding codestream_bytes
some_codestream [] f spells = absurd (no_start _ _ spells.spelled)
some_codestream (byte ∷ bytes) f spells = omega arith

-- ---- films, of images or of codestreams

module _ (IsImage : List ℕ → Picture → Type 0)
    (some : (bytes : List ℕ) (f : Picture) → IsImage bytes f → 0 < length bytes)
    (only : (one other rest : List ℕ) (f g : Picture) → IsImage one f → IsImage other g → other ≡ one ++ rest → rest ≡ [])
    (same : (bytes : List ℕ) (f g : Picture) → IsImage bytes f → IsImage bytes g → f ≡ g)
    (bytes : List ℕ) (frames : List Picture) (film : IsFilm IsImage bytes frames) where
  -- the frames that were read, and one more, are the first ones
  first_are : (left : Option (List ℕ)) (first : List Picture) (f : Picture) → GaveFrames IsImage (Some bytes) left (first ++ f ∷ [])
      → (more : List Picture) × (frames ≡ first ++ f ∷ more)
  first_are left first f gives =
      let gave = gives refl in
      let more = more_frames IsImage some only same gave.1 (known left) bytes (first ++ f ∷ []) frames gave.2 gave.3 film in
      (more.0, more.1 ∙ append_assoc first (f ∷ []) more.0)

  -- no image follows as many frames as a film has at most
  not_most : (first : List Picture) → length first ≡ most_frames → length frames ≤ most_frames → (front rest : List ℕ) → bytes ≡ front ++ rest → IsFilm IsImage front first
      → BeginsWithImage IsImage rest → ⊥
  not_most first count few front rest whole begins next =
      let more = more_frames IsImage some only same front rest bytes first frames whole begins film in
      let sizes : length frames ≡ length first + length more.0 = ap length more.1 ∙ length-append first more.0 in
      none_more more.0 (omega (arith, sizes, count, few)) rest more.2 next
    where
      none_more : (more : List Picture) → length more ≡ 0 → (rest : List ℕ) → IsFilm IsImage rest more → BeginsWithImage IsImage rest → ⊥
      none_more [] none rest end next = omega (arith, ap length end, ap length next.3, length-append next.1 next.2, some next.1 next.0 next.4)
      none_more (f ∷ more) none rest end next = omega (arith, none)

-- ---- a film and a recording

-- a fault that is neither a failed allocation nor a failed read is a fault of the bytes
of_bytes : (fault : NetpbmFault) → (fault ≡ netpbm.NoMemory → ⊥) → blames_device fault ≡ false → IsTrue (blames_bytes fault)
of_bytes netpbm.BadMagic memory device = refl
of_bytes netpbm.BadHeader memory device = refl
of_bytes netpbm.HeaderTooLong memory device = refl
of_bytes netpbm.SizeOutOfRange memory device = refl
of_bytes netpbm.MaxvalOutOfRange memory device = refl
of_bytes netpbm.SampleTooLarge memory device = refl
of_bytes netpbm.Truncated memory device = refl
of_bytes netpbm.Io memory device = let clash : ⊥ = cc in absurd clash
of_bytes netpbm.NoMemory memory device = absurd (memory refl)

module _ (only_image : (front rest : List ℕ) (f g : Picture) → IsImageOf front f → IsImageOf (front ++ rest) g → rest ≡ [])
    (same_image : (bytes : List ℕ) (f g : Picture) → IsImageOf bytes f → IsImageOf bytes g → f ≡ g)
    (none_breaks : (fault : NetpbmFault) → Breaks [] fault → ⊥)
    (only_codestream : (one other rest : List ℕ) (f g : Picture) → Spells one f → Spells other g → other ≡ one ++ rest → rest ≡ [])
    (same_codestream : (bytes : List ℕ) (f g : Picture) → Spells bytes f → Spells bytes g → f ≡ g) where
  only_of : (one other rest : List ℕ) (f g : Picture) → IsImageOf one f → IsImageOf other g → other ≡ one ++ rest → rest ≡ []
  only_of one other rest f g first second is = only_image one rest f g first (rw (sym is) second)

  -- after the first frames an image begins, or nothing follows
  no_break_image : (rest : List ℕ) (more : List Picture) (fault : NetpbmFault) → IsFilm IsImageOf rest more → IsBroken rest fault → ⊥
  no_break_image rest [] fault none broken = none_breaks fault (subst (λ bs. Breaks bs fault) none broken.breaks)
  no_break_image rest (f ∷ more) fault film broken = broken.no_image film.0 film.1 f film.2 film.3

  module _ (film recording : List ℕ) (frames others : List Picture) (few : length frames ≤ most_frames) (few' : length others ≤ most_frames)
      (images : IsFilm IsImageOf film frames) (codestreams : IsFilm Spells recording others) where
    images_of : (first : List Picture) → IsFilm IsImageOf film first → first ≡ frames
    images_of first all = one_film IsImageOf some_image only_of same_image film frames first images all

    codestreams_of : (first : List Picture) → IsFilm Spells recording first → first ≡ others
    codestreams_of first all = one_film Spells some_codestream only_codestream same_codestream recording others first codestreams all

    compared : (v : Verdict) → FindsIn film recording v → Compares frames others v
    compared (Same n) finds =
        let run = finds.2 in
        let image = images_of run.frames (run.film_gave refl).2 in
        let coded = codestreams_of run.frames (run.recording_gave refl).2 in
        (sym coded ∙ image, sym (ap length image) ∙ run.count)
    compared (Differs n what) finds =
        let run = finds.2 in
        let image = first_are IsImageOf some_image only_of same_image film frames images finds.0 run.frames run.f run.film_gave in
        let coded = first_are Spells some_codestream only_codestream same_codestream recording others codestreams finds.1 run.frames run.g run.recording_gave in
        record {
          first = run.frames;
          f = run.f;
          g = run.g;
          frames_left = image.0;
          others_left = coded.0;
          count = run.count;
          frames_are = image.1;
          others_are = coded.1;
          differ = run.differ;
          what_is = run.what_is;
        }
    compared (Missing n) finds =
        let run = finds.2 in
        let image = first_are IsImageOf some_image only_of same_image film frames images finds.0 run.frames run.f run.film_gave in
        let coded = codestreams_of run.frames (run.recording_gave refl).2 in
        record { f = run.f; left = image.0; count = sym (ap length coded) ∙ run.count; frames_are = image.1 ∙ ap (λ fs. fs ++ run.f ∷ image.0) coded }
    compared (Extra n) finds =
        let run = finds.2 in
        let image = images_of run.frames (run.film_gave refl).2 in
        let coded = first_are Spells some_codestream only_codestream same_codestream recording others codestreams finds.1 run.frames run.g run.recording_gave in
        record { f = run.g; left = coded.0; count = sym (ap length image) ∙ run.count; frames_are = coded.1 ∙ ap (λ fs. fs ++ run.g ∷ coded.0) image }

    stopped : (fault : VerifyFault) → StopsIn film recording fault → fault ≡ NoMemory
    stopped (Film m fault) why =
        let run = why.0.0 in
        let begins = run.film_begins refl in
        let more = more_frames IsImageOf some_image only_of same_image begins.0 begins.1 film run.frames frames begins.2 begins.3 images in
        absurd (no_break_image begins.1 more.0 fault more.2 (begins.4 (of_bytes fault why.0.1 why.1)))
    stopped (Recording m fault) why =
        let run = why.0.0 in
        let begins = run.recording_begins refl in
        let more = more_frames Spells some_codestream only_codestream same_codestream begins.0 begins.1 recording run.frames others begins.2 begins.3 codestreams in
        absurd (no_break begins.1 more.0 more.2 begins.4.0)
    stopped (RecordingIo m) why = let clash : ⊥ = cc in absurd clash
    stopped NoMemory why = refl
    stopped TooMany why = elim why.0 [
      | inl run ↦
          let begins = run.film_begins refl in
          absurd (not_most IsImageOf some_image only_of same_image film frames images run.frames run.count few begins.0 begins.1 begins.2 begins.3 begins.4)
      | inr run ↦
          let begins = run.recording_begins refl in
          absurd (not_most Spells some_codestream only_codestream same_codestream recording others codestreams run.frames run.count few' begins.0 begins.1 begins.2 begins.3 begins.4)
    ]

    pub whole_verdict : (r : Result Verdict VerifyFault) → IfOk r (FindsIn film recording) → IfErr r (StopsIn film recording)
        → MatchResult r (Compares frames others) (λ fault. fault ≡ NoMemory)
    whole_verdict (Ok v) finds stops = compared v finds
    whole_verdict (Err fault) finds stops = stopped fault stops

-- ---- in memory

pub finds_in : (film recording : List ℕ) (film' recording' : Option (List ℕ)) (r : Result Verdict VerifyFault) → IfOk r (Finds (Some film) film' (Some recording) recording')
    → IfOk r (FindsIn film recording)
finds_in film recording film' recording' (Ok v) finds = (film', recording', finds)
finds_in film recording film' recording' (Err fault) finds = tt

pub stops_in : (film recording : List ℕ) (r : Result Verdict VerifyFault) → 0 ≡ count_after (failed_by blames_film r) 0 → 0 ≡ count_after (failed_by blames_recording r) 0
    → IfErr r (Stops (Some film) (Some recording)) → IfErr r (StopsIn film recording)
stops_in film recording (Ok v) film_stays recording_stays stops = tt
stops_in film recording (Err fault) film_stays recording_stays stops =
    (stops, no_failure (blames_film fault) film_stays, no_failure (blames_recording fault) recording_stays)
