-- What stops an engine that reads frames and writes a text of them; and what that is to a film of Netpbm images.
use Rattle.std.proofs.Common.{◌≡◌, ℕ, ◌<◌, true, false, inl, inr, List, [], ◌∷◌, ◌++◌, Option, refl, ap, subst, IsTrue}
use Rattle.ls_frame.specs.declared.netpbm.NetpbmFault.{NetpbmFault}
use Rattle.ls_frame.specs.declared.netpbm.NetpbmFault.TheVariants as netpbm
use Rattle.ls_frame.specs.Picture.{Picture, IsFrame}
use Rattle.ls_frame.specs.Netpbm.{IsImageOf, IsWholeHeading}
use Rattle.ls_frame.specs.Faults.{IsBroken, blames_bytes, blames_memory}
use Rattle.ls_frame.specs.View.Known.{Gave}
use Rattle.ls_film.specs.Film.{most_frames}
use Rattle.ls_film.specs.View.Engine.{HasRun, StopsAtInput, StopsInFrame}
use Rattle.ls_film.specs.View.Steps.{IsSomeImage, HasStopped, StopsChunk}
use Rattle.ls_film.specs.View.Stopping.{IsUnread, IsHeadingOrImage, Stops, film_fault}
use Rattle.ls_film.specs.declared.engine.Stopped.{Stopped}
use Rattle.ls_film.specs.declared.engine.Stopped.TheVariants.{Input, Output, NoMemory, TooMany}
use Rattle.ls_film.proofs.EngineLemmas.{HasRun-output}
use Rattle.ls_film.proofs.FilmLemmas.{GaveFrames-and, IsBrokenAfter-next, BeginsWithFrames-gave}

-- ---- the engine

module _ {E : Type 0} (IsImage : List ℕ → Picture → Type 0) (Unread : E → Option (List ℕ) → Option (List ℕ) → Type 0) (text : List Picture → List ℕ) where
  -- an end at the chunk of a frame
  pub stops-chunk : (read mid new left written midway out : Option (List ℕ)) (n bytes : ℕ) (f : Picture) (chunk : List ℕ) (stopped : Stopped E)
      (run : HasRun IsImage text read mid written midway n bytes) → n < most_frames → IsFrame f × Gave mid new (λ image. IsImage image f) → text (run.frames ++ f ∷ []) ≡ text run.frames ++ chunk
      → StopsChunk midway out bytes chunk stopped → HasStopped IsImage Unread text read new left written out stopped
  stops-chunk read mid new left written midway out n bytes f chunk (Input m fault) run room next grows why = absurd why
  stops-chunk read mid new left written midway out n bytes f chunk (Output count) run room next grows why =
      rw why.1 (HasRun-output IsImage text read mid new written midway out n bytes why.0 f chunk run room next grows why.2 why.3)
  stops-chunk read mid new left written midway out n bytes f chunk NoMemory run room next grows why = absurd why
  stops-chunk read mid new left written midway out n bytes f chunk TooMany run room next grows why = absurd why

-- ---- Netpbm images

other_than_memory : (fault : NetpbmFault) → blames_memory fault ≡ false → fault ≡ netpbm.NoMemory → ⊥
other_than_memory fault other is = let memory : blames_memory fault ≡ true = ap blames_memory is in let clash : ⊥ = cc in absurd clash

module _ (text : List Picture → List ℕ) (read read' written written' : Option (List ℕ)) where
  -- an image can't be read, for another cause than memory
  at_input : (m : ℕ) (fault : NetpbmFault) → blames_memory fault ≡ false → HasStopped IsImageOf IsUnread text read read' read' written written' (Input m fault)
      → StopsAtInput IsImageOf text read read' written written' m (λ rest. IsTrue (blames_bytes fault) → IsBroken rest fault) × (fault ≡ netpbm.NoMemory → ⊥)
  at_input m fault other stopped =
      let run = stopped.2 in (
        record {
          frames = run.frames;
          count = run.count;
          few = run.few;
          lawful = run.lawful;
          begins = BeginsWithFrames-gave IsImageOf read stopped.0 run.frames run.gave;
          broken = IsBrokenAfter-next IsImageOf read stopped.0 run.frames (λ rest. IsTrue (blames_bytes fault) → IsBroken rest fault) run.gave
              (λ told blamed. stopped.3.broken blamed told);
          wrote = run.wrote;
        },
        other_than_memory fault other,
      )

  -- an allocation failed for an image whose header had been read
  at_heading : (m : ℕ) → HasStopped IsImageOf IsUnread text read read' read' written written' (Input m netpbm.NoMemory)
      → StopsInFrame IsImageOf text read read' written written' IsHeadingOrImage
  at_heading m stopped =
      let run = stopped.2 in
      record {
        frames = run.frames;
        few = run.few;
        lawful = run.lawful;
        gave = GaveFrames-and IsImageOf read stopped.0 read' run.frames IsWholeHeading IsHeadingOrImage run.gave (stopped.3.memory refl) (λ last heading. inl heading);
        wrote = run.wrote;
      }

  -- an allocation failed for the chunk of a frame
  at_chunk : StopsInFrame IsImageOf text read read' written written' (IsSomeImage IsImageOf)
      → StopsInFrame IsImageOf text read read' written written' IsHeadingOrImage
  at_chunk run = record {
    frames = run.frames;
    few = run.few;
    lawful = run.lawful;
    gave = λ told. let front = run.gave told in let last = front.3 in (front.0, front.1, front.2, (last.0, last.1, last.2, last.3, inr last.4));
    wrote = run.wrote;
  }

  -- the engine's end, to a film
  pub film-stops : (stopped : Stopped NetpbmFault) → HasStopped IsImageOf IsUnread text read read' read' written written' stopped
      → Stops text read read' written written' (film_fault stopped)
  film-stops (Input m netpbm.BadMagic) why = at_input m netpbm.BadMagic refl why
  film-stops (Input m netpbm.BadHeader) why = at_input m netpbm.BadHeader refl why
  film-stops (Input m netpbm.HeaderTooLong) why = at_input m netpbm.HeaderTooLong refl why
  film-stops (Input m netpbm.SizeOutOfRange) why = at_input m netpbm.SizeOutOfRange refl why
  film-stops (Input m netpbm.MaxvalOutOfRange) why = at_input m netpbm.MaxvalOutOfRange refl why
  film-stops (Input m netpbm.SampleTooLarge) why = at_input m netpbm.SampleTooLarge refl why
  film-stops (Input m netpbm.Truncated) why = at_input m netpbm.Truncated refl why
  film-stops (Input m netpbm.Io) why = at_input m netpbm.Io refl why
  film-stops (Input m netpbm.NoMemory) why = at_heading m why
  film-stops (Output bytes) why = why
  film-stops NoMemory why = at_chunk why
  film-stops TooMany why = why

-- the same, where the engine's source ends where its reader is
pub film-stops-at : (text : List Picture → List ℕ) (read place read' written written' : Option (List ℕ)) (stopped : Stopped NetpbmFault) → place ≡ read'
    → HasStopped IsImageOf IsUnread text read place read' written written' stopped → Stops text read read' written written' (film_fault stopped)
film-stops-at text read place read' written written' stopped is why =
    film-stops text read read' written written' stopped (subst (λ p. HasStopped IsImageOf IsUnread text read p read' written written' stopped) is why)
