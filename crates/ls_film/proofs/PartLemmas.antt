-- Codestreams that are passed over, and the frames after them, which are shown.
use Rattle.std.specs.Prelude.{IsTrue, IfSome, is_some, not}
use Rattle.std.proofs.Common.{Bool, true, false, None, Some, ◌≡◌, ◌⊎◌, ◌<◌, ◌≤◌, ◌+◌, ℕ, inl, inr, List, [], ◌∷◌, ◌++◌, length, take, drop, Option, refl, sym, ap, subst, ◌∙◌, arith, append_assoc, append-nil}
use Rattle.std.proofs.KnownBytes.{Appends-nil}
use Rattle.std.proofs.lemmas.List.{length_push, length-append, length-drop, take_at, drop_at}
use Rattle.ls_frame.specs.Picture.{Picture}
use Rattle.ls_frame.specs.View.Known.{Tells, Gave, HadBytes, known}
use Rattle.ls_stream.specs.Grammar.{Spells}
use Rattle.ls_stream.specs.View.Extents.{IsNext}
use Rattle.std.specs.Io.KnownBytes.{Appends}
use Rattle.ls_film.specs.Showing.{show}
use Rattle.ls_stream.proofs.ExtentLaws.{next_is}
use Rattle.ls_film.specs.Film.{most_frames, IsFilm}
use Rattle.ls_film.specs.View.Engine.{Completes, HasRun}
use Rattle.ls_film.specs.View.Playing.{Stops, stream_fault}
use Rattle.ls_film.specs.View.Codestreams.{IsUnread, IsOutlined, WasPassed}
use Rattle.ls_film.specs.declared.codestreams.Unread.TheVariants as unread
use Rattle.ls_stream.specs.declared.faults.StreamFault.{StreamFault}
use Rattle.ls_stream.specs.declared.faults.StreamFault.TheVariants as stream
use Rattle.ls_film.specs.View.Parts.{joined, ArePassed, GavePassed, ShowsNext, ShowsPart, EndsEarly, IsFaultAt, StopsPassing, LacksPart, StopsShowing, IsShortOf, IsNoneOfStreams, later}
use Rattle.ls_film.specs.declared.playing.PlayFault.{PlayFault}
use Rattle.ls_film.specs.declared.playing.PlayFault.TheVariants.{Stream, Io, Output, NoMemory, TooMuch}
use Rattle.ls_film.proofs.OneFilmLemmas.{more_frames, no_frames}
use Rattle.ls_film.proofs.RecordedLemmas.{some_bytes, no_break}
use Rattle.ls_film.proofs.FilmLemmas.{GaveFrames-none}

joined_more : (streams : List (List ℕ)) (codestream : List ℕ) → joined (streams ++ codestream ∷ []) ≡ joined streams ++ codestream
joined_more [] codestream = append-nil codestream
joined_more (first ∷ streams) codestream = ap (λ s. first ++ s) (joined_more streams codestream) ∙ sym (append_assoc first (joined streams) codestream)

-- one more codestream
passed_more : (streams : List (List ℕ)) (codestream rest : List ℕ) → ArePassed streams (codestream ++ rest) → IsNext codestream rest → IsOutlined codestream
    → ArePassed (streams ++ codestream ∷ []) rest
passed_more [] codestream rest passed next outlined = (next, outlined, tt)
passed_more (first ∷ streams) codestream rest passed next outlined =
    let same : joined streams ++ (codestream ++ rest) ≡ joined (streams ++ codestream ∷ []) ++ rest =
    sym (append_assoc (joined streams) codestream rest) ∙ ap (λ s. s ++ rest) (sym (joined_more streams codestream)) in
    (subst (IsNext first) same passed.0, passed.1, passed_more streams codestream rest passed.2 next outlined)

pub passed-more : (read mid new : Option (List ℕ)) (n : ℕ) → GavePassed read mid n → WasPassed mid new → GavePassed read new (n + 1)
passed-more read mid new n passed was = λ told.
    let front = passed told in
    let one = was.1 front.0 in
    let streams : List (List ℕ) = front.3.0 in
    let before : ArePassed streams (one.1 ++ known new) = subst (ArePassed streams) one.2 front.3.3 in
    let outlined : IsOutlined one.1 = subst IsOutlined one.3.0 was.2 in (
      one.0,
      front.1 ++ one.1,
      front.2 ∙ ap (λ s. front.1 ++ s) one.2 ∙ sym (append_assoc front.1 one.1 (known new)),
      (
        streams ++ one.1 ∷ [],
        length_push streams one.1 ∙ ap (λ k. k + 1) front.3.1,
        ap (λ s. s ++ one.1) front.3.2 ∙ sym (joined_more streams one.1),
        passed_more streams one.1 (known new) before one.3.1 outlined,
      ),
    )

-- ---- what is shown

-- a recording that ends before a part is too short for it
lacks_all : (first m : ℕ) (last : Option ℕ) → m < first → IfSome last (λ n. (first ≤ n) × (n < most_frames)) → LacksPart first last m
lacks_all first m None before in_order = omega (arith, before)
lacks_all first m (Some n) before in_order = omega (arith, before, in_order.0)

-- so is one that has no frame of a part that goes to the end
pub lacks-first : (first n : ℕ) (last : Option ℕ) (open_ended : Bool) → is_some last ≡ not open_ended → open_ended ≡ true → n ≤ 0 → LacksPart first last (first + n)
lacks-first first n None open_ended is so none = omega (arith, none)
lacks-first first n (Some l) open_ended is so none = let off : not open_ended ≡ false = ap not so in let clash : ⊥ = cc in absurd clash

-- so is one without the part's last frame
pub lacks-last : (first n : ℕ) (last : Option ℕ) (open_ended ended : Bool) → is_some last ≡ not open_ended → open_ended ≡ false → IfSome last (λ l. IsTrue ended → first + n ≤ l)
    → IsTrue ended → LacksPart first last (first + n)
lacks-last first n None open_ended ended is so few at_end = let on : not open_ended ≡ true = ap not so in let clash : ⊥ = cc in absurd clash
lacks-last first n (Some l) open_ended ended is so few at_end = few at_end

-- nothing was shown, since the recording ended before the part
pub ends-early : (read mid written : Option (List ℕ)) (first m : ℕ) (last : Option ℕ) → m < first → IfSome last (λ n. (first ≤ n) × (n < most_frames)) → GavePassed read mid m
    → (Tells read → known mid ≡ []) → EndsEarly read mid written written first last m
ends-early read mid written first m last before in_order passed end = record {
  passed = m;
  shown = 0;
  count = omega arith;
  begun = inr (before, refl);
  lacks = lacks_all first m last before in_order;
  shows = record { mid = mid; passed = passed; shows = record { frames = []; count = refl; lawful = tt; gave = GaveFrames-none Spells mid; wrote = Appends-nil written } };
  end = end;
}

-- ---- a recording that is codestreams of frames

-- the codestreams that are passed over are those of its first frames
passed_film : (streams : List (List ℕ)) (rest bytes : List ℕ) (frames : List Picture) → bytes ≡ joined streams ++ rest → ArePassed streams rest → IsFilm Spells bytes frames
    → (length streams ≤ length frames) × IsFilm Spells rest (drop (length streams) frames)
passed_film [] rest bytes frames whole passed film = (omega arith, subst (λ s. IsFilm Spells s frames) whole film)
passed_film (first ∷ streams) rest bytes [] whole passed film =
    absurd (omega (arith, passed.0.some, ap length film, ap length whole, length-append (first ++ joined streams) rest, length-append first (joined streams)))
passed_film (first ∷ streams) rest bytes (f ∷ frames) whole passed film =
    let after : List ℕ = joined streams ++ rest in
    let split : first ++ after ≡ film.0 ++ film.1 = sym (append_assoc first (joined streams) rest) ∙ sym whole ∙ film.2 in
    let is : first ≡ film.0 = next_is first after film.0 film.1 f passed.0 split film.3 in
    let left : film.1 ≡ after =
    sym (drop_at film.0 film.1 (length film.0) refl) ∙ ap (drop (length film.0)) (sym split) ∙ ap (λ n. drop n (first ++ after)) (sym (ap length is)) ∙ drop_at first after (length first) refl in
    let more = passed_film streams rest film.1 frames left passed.2 film.4 in
    (omega (arith, more.0), more.1)

no_more : (frames : List Picture) → length frames ≡ 0 → frames ≡ []
no_more [] none = refl
no_more (f ∷ frames) none = absurd (omega (arith, none))

-- the frames that are shown are all those from the first of a part on, or the recording has none of the part
shown_from : (first passed shown : ℕ) (frames them : List Picture) → (passed ≡ first) ⊎ ((passed < first) × (shown ≡ 0)) → drop passed frames ≡ them → length them ≡ shown
    → length frames ≡ passed + shown → drop first frames ≡ them
shown_from first passed shown frames them (inl is) left count all = ap (λ n. drop n frames) (sym is) ∙ left
shown_from first passed shown frames them (inr before) left count all =
    no_more (drop first frames) (omega (arith, length-drop first frames, before.0, before.1, all)) ∙ sym (no_more them (omega (arith, count, before.1)))

-- what follows the codestreams that the reader gave
rest_film : (read mid : Option (List ℕ)) (n : ℕ) (frames : List Picture) → Tells read → IsFilm Spells (known read) frames → GavePassed read mid n
    → Tells mid × (n ≤ length frames) × IsFilm Spells (known mid) (drop n frames)
rest_film read mid n frames told film passed =
    let front = passed told in
    let rest = passed_film front.3.0 (known mid) (known read) frames (front.2 ∙ ap (λ s. s ++ known mid) front.3.2) front.3.3 film in
    (front.0, subst (λ k. k ≤ length frames) front.3.1 rest.0, subst (λ k. IsFilm Spells (known mid) (drop k frames)) front.3.1 rest.1)

module _ (only : (one other rest : List ℕ) (f g : Picture) → Spells one f → Spells other g → other ≡ one ++ rest → rest ≡ [])
    (same : (bytes : List ℕ) (f g : Picture) → Spells bytes f → Spells bytes g → f ≡ g)
    (read : Option (List ℕ)) (frames : List Picture) (few : length frames ≤ most_frames) (told : Tells read) (film : IsFilm Spells (known read) frames) where
  -- the frames that are shown are the next ones, and what follows is a film of the others
  next_frames : (read' written written' : Option (List ℕ)) (first n : ℕ) (part : ShowsPart read read' written written' first n)
      → (more : List Picture) × (drop first frames ≡ part.shows.frames ++ more) × IsFilm Spells (known read') more × (first ≤ length frames)
  next_frames read' written written' first n part =
      let rest = rest_film read part.mid first frames told film part.passed in
      let gave = part.shows.gave rest.0 in
      let more = more_frames Spells some_bytes only same gave.1 (known read') (known part.mid) part.shows.frames (drop first frames) gave.2 gave.3 rest.2 in
      (more.0, more.1, more.2, rest.1)

  pub part-shown : (read' written written' : Option (List ℕ)) (first n : ℕ) → ShowsPart read read' written written' first n → (first + n ≤ length frames) × Appends written written' (show (take n (drop first frames)))
  part-shown read' written written' first n part =
      let next = next_frames read' written written' first n part in
      let front : take n (drop first frames) ≡ part.shows.frames = ap (take n) next.1 ∙ take_at part.shows.frames next.0 n part.shows.count in (
        omega (arith, next.3, length-drop first frames, ap length next.1, length-append part.shows.frames next.0, part.shows.count),
        subst (λ fs. Appends written written' (show fs)) (sym front) part.shows.wrote,
      )

  pub part-few : (read' written written' : Option (List ℕ)) (first m : ℕ) (last : Option ℕ) → EndsEarly read read' written written' first last m
      → IsShortOf written written' first last frames m
  part-few read' written written' first m last ends =
      let next = next_frames read' written written' ends.passed ends.shown ends.shows in
      let none = no_frames Spells some_bytes only same next.0 (subst (λ s. IsFilm Spells s next.0) (ends.end told) next.2) in
      let all : m ≡ length frames =
      omega (arith, next.3, length-drop ends.passed frames, ap length next.1, length-append ends.shows.shows.frames next.0, ends.shows.shows.count, ap length none, ends.count) in
      let left : drop ends.passed frames ≡ ends.shows.shows.frames = next.1 ∙ ap (λ fs. ends.shows.shows.frames ++ fs) none ∙ append-nil ends.shows.shows.frames in
      record {
        count = all;
        lacks = ends.lacks;
        wrote = subst (λ fs. Appends written written' (show fs)) (sym (shown_from first ends.passed ends.shown frames ends.shows.shows.frames ends.begun left ends.shows.shows.count
            (omega (arith, all, ends.count)))) ends.shows.shows.wrote;
      }

  pub part-unpassed : (read' : Option (List ℕ)) (first : ℕ) (fault : PlayFault) → StopsPassing read read' first fault → IsNoneOfStreams fault
  part-unpassed read' first fault stops = elim stops.fault_is [
    | inl broken ↦
        let rest = rest_film read stops.mid stops.m frames told film stops.passed in
        absurd (no_break only same (known stops.mid) (drop stops.m frames) rest.2 (broken.3 rest.0).0)
    | inr other ↦ elim other [
      | inl io ↦ rw io.0 tt
      | inr memory ↦ rw memory.0 tt
    ]
  ]

  none_of_streams : (mid read' written written' : Option (List ℕ)) (rest : List Picture) → Tells mid → IsFilm Spells (known mid) rest → length rest ≤ most_frames → (fault : PlayFault)
      → Stops mid read' written written' fault → IsNoneOfStreams fault
  none_of_streams mid read' written written' rest tells is short (Stream m fault) run =
      let broken = run.0.broken tells in
      let more = more_frames Spells some_bytes only same broken.0 broken.1 (known mid) run.0.frames rest broken.2 broken.3 is in
      absurd (no_break only same broken.1 more.0 more.2 broken.4.0)
  none_of_streams mid read' written written' rest tells is short (Io m) run = tt
  none_of_streams mid read' written written' rest tells is short (Output bytes) run = tt
  none_of_streams mid read' written written' rest tells is short NoMemory run = tt
  none_of_streams mid read' written written' rest tells is short TooMuch run =
      let gave = run.gave tells in
      let more = more_frames Spells some_bytes only same gave.1 _ (known mid) (run.frames ++ run.last ∷ []) rest gave.2 gave.3 is in
      absurd (omega (arith, short, run.count, ap length more.1, length-append (run.frames ++ run.last ∷ []) more.0, length-append run.frames (run.last ∷ [])))

  of_later : (first : ℕ) (fault : PlayFault) → IsNoneOfStreams fault → IsNoneOfStreams (later first fault)
  of_later first (Stream m fault) none = none
  of_later first (Io m) none = tt
  of_later first (Output bytes) none = tt
  of_later first NoMemory none = tt
  of_later first TooMuch none = none

  pub part-unshown : (read' written written' : Option (List ℕ)) (first : ℕ) (fault : PlayFault) → StopsShowing read read' written written' first fault → IsNoneOfStreams fault
  part-unshown read' written written' first fault stops =
      let rest = rest_film read stops.mid first frames told film stops.passed in
      let short : length (drop first frames) ≤ most_frames = omega (arith, few, length-drop first frames) in
      rw stops.numbered (of_later first stops.alone (none_of_streams stops.mid read' written written' (drop first frames) rest.0 rest.2 short stops.alone stops.stops))

-- all frames that were left were shown, and they were too few
pub early-shown : (read mid read' written written' : Option (List ℕ)) (first n : ℕ) (last : Option ℕ) → GavePassed read mid first → ShowsNext mid read' written written' n
    → LacksPart first last (first + n) → (Tells mid → known read' ≡ []) → EndsEarly read read' written written' first last (first + n)
early-shown read mid read' written written' first n last passed shows lacks end = record {
  passed = first;
  shown = n;
  count = refl;
  begun = inl refl;
  lacks = lacks;
  shows = record { mid = mid; passed = passed; shows = shows };
  end = λ told. end (passed told).0;
}

-- ---- frames that were shown to the end, or as far as was asked

pub shows-all : (read read' written written' : Option (List ℕ)) (n : ℕ) → Completes Spells show read read' written written' n → ShowsNext read read' written written' n
shows-all read read' written written' n run = record {
  frames = run.frames;
  count = run.count;
  lawful = run.lawful;
  gave = λ told.
      let gave = run.gave told in
      (gave.0, known read, sym (ap (λ s. known read ++ s) gave.1 ∙ append-nil (known read)), gave.2);
  wrote = run.wrote;
}

pub shows-run : (read read' written written' : Option (List ℕ)) (ended : Bool) (n : ℕ) → (IsTrue ended → Completes Spells show read read' written written' n)
    → (ended ≡ false → (bytes : ℕ) × ((place : Option (List ℕ)) × (place ≡ read') × HasRun Spells show read place written written' n bytes)) → ShowsNext read read' written written' n
shows-run read read' written written' true n all some = shows-all read read' written written' n (all refl)
shows-run read read' written written' false n all some =
    let ran = some refl in
    let run = ran.1.2 in
    subst (λ r. ShowsNext read r written written' n) ran.1.1
    (record { frames = run.frames; count = run.count; lawful = run.lawful; gave = run.gave; wrote = run.wrote })

-- ---- why passing over the first codestreams stopped

-- a fault that isn't lack of memory
broken_by : (m : ℕ) (mid read' : Option (List ℕ)) (fault : StreamFault) → (fault ≡ stream.NoMemory → ⊥) → IsUnread (unread.Stream fault) mid read' → IsFaultAt m mid read' (Stream m fault)
broken_by m mid read' fault other (inl memory) = absurd (other memory.0)
broken_by m mid read' fault other (inr breaks) = inl (fault, refl, other, breaks)

had_bytes : (mid read' : Option (List ℕ)) → IsUnread (unread.Stream stream.NoMemory) mid read' → HadBytes mid
had_bytes mid read' (inl memory) = memory.1
had_bytes mid read' (inr breaks) = λ told. (breaks told).0.some

fault_at : (m : ℕ) (mid read' : Option (List ℕ)) (fault : StreamFault) → IsUnread (unread.Stream fault) mid read' → IsFaultAt m mid read' (stream_fault m fault)
fault_at m mid read' stream.Truncated why = broken_by m mid read' stream.Truncated (λ is. let clash : ⊥ = cc in clash) why
fault_at m mid read' stream.NotSoi why = broken_by m mid read' stream.NotSoi (λ is. let clash : ⊥ = cc in clash) why
fault_at m mid read' stream.BadSegment why = broken_by m mid read' stream.BadSegment (λ is. let clash : ⊥ = cc in clash) why
fault_at m mid read' (stream.Unsupported what) why = broken_by m mid read' (stream.Unsupported what) (λ is. let clash : ⊥ = cc in clash) why
fault_at m mid read' (stream.BadPresets fault) why = broken_by m mid read' (stream.BadPresets fault) (λ is. let clash : ⊥ = cc in clash) why
fault_at m mid read' stream.TooLarge why = broken_by m mid read' stream.TooLarge (λ is. let clash : ⊥ = cc in clash) why
fault_at m mid read' (stream.BadCode component) why = broken_by m mid read' (stream.BadCode component) (λ is. let clash : ⊥ = cc in clash) why
fault_at m mid read' (stream.LeftoverBits component) why = broken_by m mid read' (stream.LeftoverBits component) (λ is. let clash : ⊥ = cc in clash) why
fault_at m mid read' stream.NoMemory why = inr (inr (refl, had_bytes mid read' why))

pub stops-passing : (read mid read' : Option (List ℕ)) (first m : ℕ) (fault : StreamFault) → m < first → GavePassed read mid m → IsUnread (unread.Stream fault) mid read'
    → StopsPassing read read' first (stream_fault m fault)
stops-passing read mid read' first m fault before passed why = record {
  m = m;
  before = before;
  mid = mid;
  passed = passed;
  fault_is = fault_at m mid read' fault why;
}
