-- What the engine's end over codestreams is to a recording.
use Rattle.std.proofs.Common.{◌≡◌, ◌⊎◌, ℕ, Bool, true, false, inl, inr, List, ◌++◌, length, length-append, Option, refl, ap, subst, ◌∙◌, append_assoc, arith}
use Rattle.std.specs.Prelude.{◌||◌}
use Rattle.ls_frame.specs.View.Devices.{count_after}
use Rattle.ls_frame.specs.View.Known.{Tells, Gave, HadBytes, known}
use Rattle.ls_stream.specs.declared.faults.StreamFault.{StreamFault}
use Rattle.ls_stream.specs.declared.faults.StreamFault.TheVariants as stream
use Rattle.ls_stream.specs.Grammar.{Spells}
use Rattle.ls_film.specs.Film.{IsFilm}
use Rattle.ls_film.specs.View.Engine.{HasRun, StopsAtInput, StopsInFrame}
use Rattle.ls_film.specs.View.Memory.{HasBytes}
use Rattle.ls_film.specs.View.Steps.{IsSomeImage, HasStopped, blames_reader as engine_blames}
use Rattle.ls_film.specs.declared.engine.Stopped.{Stopped}
use Rattle.ls_film.specs.declared.engine.Stopped.TheVariants.{Input, Output, NoMemory, TooMany}
use Rattle.ls_film.proofs.FilmLemmas.{IsBrokenAfter-next, BeginsWithFrames-gave, GaveFrames-and}
use Rattle.ls_film.proofs.RecordedLemmas.{some_bytes}
use Rattle.ls_film.specs.declared.codestreams.Unread.{Unread}
use Rattle.ls_film.specs.declared.playing.PlayFault.{PlayFault}
use Rattle.ls_film.specs.declared.codestreams.Unread.TheVariants as unread
use Rattle.ls_film.specs.Showing.{show}
use Rattle.ls_film.specs.View.Codestreams.{BreaksBy, IsUnread, is_io}
use Rattle.ls_stream.specs.View.Extents.{IsUndecided}
use Rattle.ls_film.specs.View.Playing.{Stops, StopsAhead, HasReadAhead, blames_reader, play_fault}

abbrev wants_memory : StreamFault → Bool
wants_memory stream.Truncated = false
wants_memory stream.NotSoi = false
wants_memory stream.BadSegment = false
wants_memory (stream.Unsupported what) = false
wants_memory (stream.BadPresets fault) = false
wants_memory stream.TooLarge = false
wants_memory (stream.BadCode component) = false
wants_memory (stream.LeftoverBits component) = false
wants_memory stream.NoMemory = true

other_than_memory : (fault : StreamFault) → wants_memory fault ≡ false → fault ≡ stream.NoMemory → ⊥
other_than_memory fault other is = let memory : wants_memory fault ≡ true = ap wants_memory is in let clash : ⊥ = cc in absurd clash

module _ (read read' written written' : Option (List ℕ)) where
  -- the frames so far were shown, and of what follows P holds
  stops_after : (mid : Option (List ℕ)) (m bytes : ℕ) (P : List ℕ → Type 0) → HasRun Spells show read mid written written' m bytes → (Tells mid → P (known mid))
      → StopsAtInput Spells show read read' written written' m P
  stops_after mid m bytes P run follows = record {
    frames = run.frames;
    count = run.count;
    few = run.few;
    lawful = run.lawful;
    begins = BeginsWithFrames-gave Spells read mid run.frames run.gave;
    broken = IsBrokenAfter-next Spells read mid run.frames P run.gave follows;
    wrote = run.wrote;
  }

  -- a read failed in the next codestream
  stops_in : (mid : Option (List ℕ)) (m bytes : ℕ) → HasRun Spells show read mid written written' m bytes → Gave mid read' IsUndecided
      → (stop : StopsInFrame Spells show read read' written written' IsUndecided) × (length stop.frames ≡ m)
  stops_in mid m bytes run fails = (
    record {
      frames = run.frames;
      few = run.few;
      lawful = run.lawful;
      gave = GaveFrames-and Spells read mid read' run.frames IsUndecided IsUndecided run.gave fails (λ last is. is);
      wrote = run.wrote;
    },
    run.count,
  )

  -- an allocation failed for the next codestream, of which there was a byte
  had_bytes : (mid : Option (List ℕ)) → ((stream.NoMemory ≡ stream.NoMemory) × HadBytes mid) ⊎ (Tells mid → BreaksBy stream.NoMemory (known mid)) → Tells mid → HasBytes (known mid)
  had_bytes mid (inl memory) told = memory.1 told
  had_bytes mid (inr breaks) told = (breaks told).0.some

  -- the next codestream can't be decoded
  at_codestream : (mid : Option (List ℕ)) (m bytes : ℕ) (fault : StreamFault) → wants_memory fault ≡ false → HasRun Spells show read mid written written' m bytes
      → ((fault ≡ stream.NoMemory) × HadBytes mid) ⊎ (Tells mid → BreaksBy fault (known mid))
      → StopsAtInput Spells show read read' written written' m (BreaksBy fault) × (fault ≡ stream.NoMemory → ⊥)
  at_codestream mid m bytes fault other run (inl memory) = absurd (other_than_memory fault other memory.0)
  at_codestream mid m bytes fault other run (inr none) = (stops_after mid m bytes (BreaksBy fault) run none, other_than_memory fault other)

  -- an allocation failed for the image of a frame
  at_image : (run : StopsInFrame Spells show read read' written written' (IsSomeImage Spells)) → StopsAtInput Spells show read read' written written' (length run.frames) HasBytes
  at_image run =
      let begins : (told : Tells read) → (film : List ℕ) × (rest : List ℕ) × (known read ≡ film ++ rest) × IsFilm Spells film run.frames = λ told.
      let front = run.gave told in let last = front.3 in
      (last.0, last.1 ++ known read', front.2 ∙ ap (λ s. s ++ known read') last.2 ∙ append_assoc last.0 last.1 (known read'), last.3) in
      record {
        frames = run.frames;
        count = refl;
        few = run.few;
        lawful = run.lawful;
        begins = begins;
        broken = λ told.
            let b = begins told in
            let last = (run.gave told).3 in
            (b.0, b.1, b.2, b.3, omega (arith, length-append last.1 (known read'), some_bytes last.1 last.4.0 last.4.1));
        wrote = run.wrote;
      }

  pub play-stops : (stopped : Stopped Unread) → HasStopped Spells IsUnread show read read' read' written written' stopped → Stops read read' written written' (play_fault stopped)
  play-stops (Input m (unread.Stream stream.Truncated)) why = at_codestream why.0 m why.1 stream.Truncated refl why.2 why.3
  play-stops (Input m (unread.Stream stream.NotSoi)) why = at_codestream why.0 m why.1 stream.NotSoi refl why.2 why.3
  play-stops (Input m (unread.Stream stream.BadSegment)) why = at_codestream why.0 m why.1 stream.BadSegment refl why.2 why.3
  play-stops (Input m (unread.Stream (stream.Unsupported what))) why = at_codestream why.0 m why.1 (stream.Unsupported what) refl why.2 why.3
  play-stops (Input m (unread.Stream (stream.BadPresets fault))) why = at_codestream why.0 m why.1 (stream.BadPresets fault) refl why.2 why.3
  play-stops (Input m (unread.Stream stream.TooLarge)) why = at_codestream why.0 m why.1 stream.TooLarge refl why.2 why.3
  play-stops (Input m (unread.Stream (stream.BadCode component))) why = at_codestream why.0 m why.1 (stream.BadCode component) refl why.2 why.3
  play-stops (Input m (unread.Stream (stream.LeftoverBits component))) why = at_codestream why.0 m why.1 (stream.LeftoverBits component) refl why.2 why.3
  play-stops (Input m (unread.Stream stream.NoMemory)) why = (m, stops_after why.0 m why.1 HasBytes why.2 (had_bytes why.0 why.3))
  play-stops (Input m unread.Io) why = stops_in why.0 m why.1 why.2 why.3
  play-stops (Output bytes) why = why
  play-stops NoMemory why = (length why.frames, at_image why)
  play-stops TooMany why = why

-- the same, where the engine's source ends where its reader is
pub play-stops-at : (read place read' written written' : Option (List ℕ)) (stopped : Stopped Unread) → place ≡ read'
    → HasStopped Spells IsUnread show read place read' written written' stopped → Stops read read' written written' (play_fault stopped)
play-stops-at read place read' written written' stopped is why =
    play-stops read read' written written' stopped (subst (λ p. HasStopped Spells IsUnread show read p read' written written' stopped) is why)

-- the same, where it may have read further
module _ (read place read' written written' : Option (List ℕ)) where
  -- a stop that says nothing of where the reader is
  at_place : (stopped : Stopped Unread) → blames_reader (play_fault stopped) ≡ false → HasStopped Spells IsUnread show read place place written written' stopped
      → StopsAhead read read' written written' (play_fault stopped)
  at_place stopped other why = (place, λ blamed. let clash : ⊥ = cc in absurd clash, play-stops read place written written' stopped why)

  pub play-stops-ahead : (stopped : Stopped Unread) → HasStopped Spells IsUnread show read place read' written written' stopped → StopsAhead read read' written written' (play_fault stopped)
  play-stops-ahead (Input m unread.Io) why = (read', λ blamed. refl, stops_in read read' written written' why.0 m why.1 why.2 why.3)
  play-stops-ahead (Input m (unread.Stream stream.Truncated)) why = at_place (Input m (unread.Stream stream.Truncated)) refl why
  play-stops-ahead (Input m (unread.Stream stream.NotSoi)) why = at_place (Input m (unread.Stream stream.NotSoi)) refl why
  play-stops-ahead (Input m (unread.Stream stream.BadSegment)) why = at_place (Input m (unread.Stream stream.BadSegment)) refl why
  play-stops-ahead (Input m (unread.Stream (stream.Unsupported what))) why = at_place (Input m (unread.Stream (stream.Unsupported what))) refl why
  play-stops-ahead (Input m (unread.Stream (stream.BadPresets fault))) why = at_place (Input m (unread.Stream (stream.BadPresets fault))) refl why
  play-stops-ahead (Input m (unread.Stream stream.TooLarge)) why = at_place (Input m (unread.Stream stream.TooLarge)) refl why
  play-stops-ahead (Input m (unread.Stream (stream.BadCode component))) why = at_place (Input m (unread.Stream (stream.BadCode component))) refl why
  play-stops-ahead (Input m (unread.Stream (stream.LeftoverBits component))) why = at_place (Input m (unread.Stream (stream.LeftoverBits component))) refl why
  play-stops-ahead (Input m (unread.Stream stream.NoMemory)) why = at_place (Input m (unread.Stream stream.NoMemory)) refl why
  play-stops-ahead (Output bytes) why = at_place (Output bytes) refl why
  play-stops-ahead NoMemory why = at_place NoMemory refl why
  play-stops-ahead TooMany why = at_place TooMany refl why

-- ---- reads that failed

or-true : (b : Bool) → b || true ≡ true
or-true true = refl
or-true false = refl

-- the engine's end blames the reader where the recording's does
pub blamed : (stopped : Stopped Unread) → engine_blames is_io stopped || false ≡ blames_reader (play_fault stopped)
blamed (Input m (unread.Stream stream.Truncated)) = refl
blamed (Input m (unread.Stream stream.NotSoi)) = refl
blamed (Input m (unread.Stream stream.BadSegment)) = refl
blamed (Input m (unread.Stream (stream.Unsupported what))) = refl
blamed (Input m (unread.Stream (stream.BadPresets fault))) = refl
blamed (Input m (unread.Stream stream.TooLarge)) = refl
blamed (Input m (unread.Stream (stream.BadCode component))) = refl
blamed (Input m (unread.Stream (stream.LeftoverBits component))) = refl
blamed (Input m (unread.Stream stream.NoMemory)) = refl
blamed (Input m unread.Io) = refl
blamed (Output bytes) = refl
blamed NoMemory = refl
blamed TooMany = refl

pub reads-plain : (old new : ℕ) (stopped : Stopped Unread) → new ≡ count_after (engine_blames is_io stopped || false) old → new ≡ count_after (blames_reader (play_fault stopped)) old
reads-plain old new stopped is = is ∙ ap (λ b. count_after b old) (blamed stopped)

pub reads-ahead : (owes : Bool) (old new : ℕ) (stopped : Stopped Unread) → new ≡ count_after (engine_blames is_io stopped || owes) old → HasReadAhead old new (play_fault stopped)
reads-ahead true old new stopped is = inr (is ∙ ap (λ b. count_after b old) (or-true (engine_blames is_io stopped)))
reads-ahead false old new stopped is = inl (reads-plain old new stopped is)

-- no read of bytes in memory fails
pub none-failed : (fault : PlayFault) → HasReadAhead 0 0 fault → 0 ≡ count_after (blames_reader fault) 0
none-failed fault (inl none) = none
none-failed fault (inr one) = absurd (omega (arith, one))
