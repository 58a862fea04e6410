-- From what the lanes of films did to what was recorded.
use Rattle.std.proofs.Common.{◌≡◌, ◌⊎◌, inl, inr, ℕ, Bool, true, false, true≢false, ◌&&◌, List, [], ◌∷◌, ◌++◌, ◌<◌, length, Option, Some, Result, Ok, Err, IfOk, MatchResult, refl, sym, ap, subst, ◌∙◌, append_assoc, append-nil, arith}
use Rattle.std.specs.Prelude.{slice_index_or, remove}
use Rattle.std.specs.Io.KnownBytes.{Appends}
use Rattle.std.specs.List.{AllZip}
use Rattle.ls_frame.specs.declared.netpbm.NetpbmFault.TheVariants.{Io}
use Rattle.ls_frame.specs.declared.tuning.Tuning.{Tuning}
use Rattle.ls_files.specs.View.Files.{joined_in}
use Rattle.ls_frame.specs.View.Devices.{wrapped}
use Rattle.ls_pieces.specs.Orders.{Ordered}
use Rattle.ls_recorder.specs.declared.lane.LaneFault.{LaneFault}
use Rattle.ls_recorder.specs.declared.lane.LaneFault.TheVariants.{Input, NotStarted}
use Rattle.ls_recorder.specs.declared.recording.Recording.{Recording}
use Rattle.ls_recorder.specs.declared.recording.Track.{Track}
use Rattle.ls_recorder.specs.View.Lanes.{Records, StopsLane, RecordsBefore, tuned_file}
use Rattle.ls_recorder.specs.View.Recordings.{IsTrack}
use Rattle.ls_recorder.proofs.ListLemmas.{zip-more, zip-through, zip-weaker}
use Rattle.ls_opening.specs.View.Devices.{FilmReader, FilmWriter, FilmDevices, finished_of, left_of, target_of}
use Rattle.ls_recording.specs.declared.ending.EndedFiles.{EndedFiles}
use Rattle.ls_recording.specs.View.Films.{IsComplete, HasTrack, IsWhole, IsRecorded, held, held_by, was_stopped}

-- a recorder's tracks say what the lanes of their films did
module _ {R W : Type 0} (remaining : R → Option (List ℕ)) (failed_reads : R → ℕ) (contents : W → Option (List ℕ)) (failed_writes : W → ℕ) where
  tracked : (film : R × W × Tuning) (track : Track R W) → (n : ℕ) × IsTrack remaining failed_reads contents failed_writes film n track → HasTrack remaining contents film track
  tracked film track has = (has.1.items, elim has.1.did [ inl none ↦ inl none.0 | inr run ↦ inr run ])

  pub all-tracked : (films : List (R × W × Tuning)) (tracks : List (Track R W)) → AllZip (λ film track. (n : ℕ) × IsTrack remaining failed_reads contents failed_writes film n track) films tracks
      → AllZip (HasTrack remaining contents) films tracks
  all-tracked films tracks all = zip-weaker _ _ films tracks tracked all

-- the fault of a result, if it is one
abbrev fault-of : Result ℕ LaneFault → LaneFault
fault-of (Ok n) = NotStarted
fault-of (Err fault) = fault

module _ {O F D : Type 0} (remaining contents : F → Option (List ℕ)) (kept : D → List ℕ) (count : Option ℕ) where
  -- the files of a film that has ended hold what its writer held
  same-held : (files : EndedFiles O D F) (writer : FilmWriter O F D) → files.finished ≡ finished_of (wrapped writer) → files.open.recording ≡ target_of writer
      → held contents kept writer ≡ held_by contents kept files
  same-held files writer finished last = λ i. joined_in kept contents (sym finished i) (sym last i)

  recorded-so : (film : FilmDevices O F D) (files : EndedFiles O D F) (reader : FilmReader O F) (writer : FilmWriter O F D) (items : List Ordered) (r : Result ℕ LaneFault) (n : ℕ)
      → (r ≡ Err NotStarted) ⊎ MatchResult r
      (Records film.2 items (left_of remaining film.0) (left_of remaining reader) (held contents kept film.1) (held contents kept writer))
      (StopsLane film.2 items (left_of remaining film.0) (left_of remaining reader) (held contents kept film.1) (held contents kept writer))
      → IsComplete count r (was_stopped reader) n → held contents kept writer ≡ held_by contents kept files → IsRecorded remaining contents kept count film files
  recorded-so film files reader writer items (Ok k) n (inl none) complete file = let clash : ⊥ = cc in absurd clash
  recorded-so film files reader writer items (Ok k) n (inr run) complete file = record {
    frames = run.run.frames;
    few = run.run.few;
    tuned = run.put.1;
    reader = reader;
    gave = inl run.run.gave;
    wrote = subst (λ bytes. Appends (held contents kept film.1) bytes (tuned_file film.2 run.run.frames)) file run.run.wrote;
  }
  recorded-so film files reader writer items (Err fault) n (inl none) (inl ok) file = let clash : ⊥ = cc in absurd clash
  recorded-so film files reader writer items (Err fault) n (inl none) (inr stopped) file =
      let one : fault ≡ NotStarted = ap fault-of none in
      let other : fault ≡ Input n Io = ap fault-of stopped.0 in
      let clash : ⊥ = cc in absurd clash
  recorded-so film files reader writer items (Err fault) n (inr stops) (inl ok) file = let clash : ⊥ = cc in absurd clash
  recorded-so film files reader writer items (Err fault) n (inr stops) (inr stopped) file =
      let is : fault ≡ Input n Io = ap fault-of stopped.0 in
      let before : RecordsBefore film.2 items (left_of remaining film.0) (left_of remaining reader) (held contents kept film.1) (held contents kept writer) n Io =
      subst (StopsLane film.2 items (left_of remaining film.0) (left_of remaining reader) (held contents kept film.1) (held contents kept writer)) is stops in
      record {
        frames = before.run.frames;
        few = before.run.few;
        tuned = before.put.1;
        reader = reader;
        gave = inr (elim stopped.1 [ inl so ↦ inl so | inr all ↦ inr (all ∙ ap Some (sym before.run.count)) ], before.run.begins);
        wrote = subst (λ bytes. Appends (held contents kept film.1) bytes (tuned_file film.2 before.run.frames)) file before.run.wrote;
      }

  -- the films whose tracks are whole were recorded to their files
  pub all-recorded : (films : List (FilmDevices O F D)) (tracks : List (Track (FilmReader O F) (FilmWriter O F D))) (files : List (EndedFiles O D F))
      → AllZip (HasTrack (left_of remaining) (held contents kept)) films tracks → AllZip (IsWhole count) tracks files → AllZip (IsRecorded remaining contents kept count) films files
  all-recorded films tracks files has whole = zip-weaker _ _ films files
      (λ film files both. let track = both.0 in
      recorded-so film files track.reader track.writer both.1.0 track.result both.2.frames both.1.1 both.2.complete (same-held files track.writer both.2.finished both.2.last))
      (zip-through _ _ films tracks files has whole)

  -- so they were if the recording ended
  pub finished : {X : Type 0} (films : List (FilmDevices O F D)) (recorded : Result (Recording (FilmReader O F) (FilmWriter O F D)) X) (files : List (EndedFiles O D F))
      → IfOk recorded (λ recording. AllZip (HasTrack (left_of remaining) (held contents kept)) films recording.tracks.items)
      → MatchResult recorded (λ recording. AllZip (IsWhole count) recording.tracks.items files) (λ _. ⊥) → AllZip (IsRecorded remaining contents kept count) films files
  finished films (Ok recording) files has whole = all-recorded films recording.tracks.items files has whole
  finished films (Err fault) files has whole = absurd whole

-- ---- the loop over films

-- the tracks of the first films are related to the files, if all are whole, and the others remain
abbrev pub ZippedIf : {A B : Type 0} → (A → B → Type 0) → Bool → List A → List A → List B → Type 0
ZippedIf {A} R whole all left zs = (done : List A) × (done ++ left ≡ all) × (whole ≡ true → AllZip R done zs)

pub and_left : (a b : Bool) → (a && b) ≡ true → a ≡ true
and_left true b is = refl
and_left false b is = absurd (true≢false (sym is))

pub and_right : (a b : Bool) → (a && b) ≡ true → b ≡ true
and_right true b is = is
and_right false b is = absurd (true≢false (sym is))

-- the first element is taken from a list that has one
pub taken-first : {A : Type 0} (left rest : List A) (x : A) → 0 < length left → x ≡ slice_index_or left 0 x → rest ≡ remove left 0 → left ≡ x ∷ rest
taken-first [] rest x some is others = absurd (omega (arith, some))
taken-first (y ∷ ys) rest x some is others = λ i. sym is i ∷ sym others i

pub none-left : {A : Type 0} (left : List A) → length left ≡ 0 → left ≡ []
none-left [] none = refl
none-left (x ∷ xs) none = absurd (omega (arith, none))

pub zipped-if-more : {A B : Type 0} (R : A → B → Type 0) (whole one : Bool) (all left rest : List A) (zs : List B) (x : A) (z : B) → ZippedIf R whole all left zs → left ≡ x ∷ rest
    → (one ≡ true → R x z) → ZippedIf R (whole && one) all rest (zs ++ z ∷ [])
zipped-if-more R whole one all left rest zs x z before first last = (
  before.0 ++ x ∷ [],
  append_assoc before.0 (x ∷ []) rest ∙ ap (λ l. before.0 ++ l) (sym first) ∙ before.1,
  λ both. zip-more R before.0 zs x z (before.2 (and_left whole one both)) (last (and_right whole one both)),
)

pub zipped-if-all : {A B : Type 0} (R : A → B → Type 0) (whole : Bool) (all left : List A) (zs : List B) → ZippedIf R whole all left zs → whole ≡ true → left ≡ [] → AllZip R all zs
zipped-if-all R whole all left zs so is none = subst (λ xs. AllZip R xs zs) (sym (append-nil so.0) ∙ ap (λ l. so.0 ++ l) (sym none) ∙ so.1) (so.2 is)
