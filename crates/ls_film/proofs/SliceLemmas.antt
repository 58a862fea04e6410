-- What an engine's clauses say when reader and writer are in memory.
use Rattle.std.proofs.Common.{◌≡◌, ℕ, Bool, true, false, inl, inr, List, [], ◌∷◌, ◌++◌, Option, Some, Result, Ok, Err, IfErr, IsTrue, refl, ap, ◌∙◌, arith, append_assoc}
use Rattle.ls_frame.specs.declared.netpbm.NetpbmFault.{NetpbmFault}
use Rattle.ls_frame.specs.declared.netpbm.NetpbmFault.TheVariants as netpbm
use Rattle.ls_frame.specs.Picture.{Picture}
use Rattle.ls_frame.specs.Netpbm.{BeginsWithHeading, IsImageOf, heading_bytes}
use Rattle.ls_frame.specs.Faults.{blames_bytes, blames_device}
use Rattle.ls_frame.specs.View.Devices.{count_after}
use Rattle.ls_frame.specs.View.Known.{known}
use Rattle.ls_film.specs.View.Given.{GaveFrames}
use Rattle.ls_film.specs.View.Engine.{Completes}
use Rattle.ls_film.specs.declared.faults.FilmFault.{FilmFault}
use Rattle.ls_film.specs.declared.faults.FilmFault.TheVariants.{Input, Output, NoMemory, TooMany}
use Rattle.ls_film.specs.View.Stopping.{IsHeadingOrImage, Stops, blames_reader}
use Rattle.ls_film.specs.View.Memory.{IsTextOf, BeginsFilm, AnyBytes, StopsOver}
use Rattle.ls_film.specs.View.Steps.{failed_by}

-- if a count stays 0, no call failed
no_failure : (failed : Bool) → 0 ≡ count_after failed 0 → failed ≡ false
no_failure false stays = refl
no_failure true stays = absurd (omega arith)

-- what begins with a header or an image begins with a header
begins_with_heading : (last rest : List ℕ) → IsHeadingOrImage last → BeginsWithHeading (last ++ rest)
begins_with_heading last rest (inl heading) = (last, rest, refl, heading)
begins_with_heading last rest (inr image) =
    let front : List ℕ = heading_bytes image.1.heading in
    (front, image.1.raster ++ rest, ap (λ s. s ++ rest) image.1.whole ∙ append_assoc front image.1.raster rest, (image.1.heading, image.1.lawful, refl))

module _ (text : List Picture → List ℕ) (film out : List ℕ) (left : Option (List ℕ)) where
  pub completes-over : (n : ℕ) → Completes IsImageOf text (Some film) left (Some []) (Some out) n → IsTextOf text film out n
  completes-over n run = record { frames = run.frames; count = run.count; few = run.few; whole = (run.gave refl).2; wrote = run.wrote }

  -- the film begins with these frames
  gave-over : (frames : List Picture) → GaveFrames IsImageOf (Some film) left frames → BeginsFilm film frames AnyBytes
  gave-over frames gave =
      let front = gave refl in
      record { front = front.1; rest = known left; whole = front.2; begins = front.3; follows = tt }

  -- a fault that is neither a failed allocation nor a failed read is a fault of the bytes
  of_bytes : (fault : NetpbmFault) → (fault ≡ netpbm.NoMemory → ⊥) → blames_device fault ≡ false → IsTrue (blames_bytes fault)
  of_bytes netpbm.BadMagic memory device = refl
  of_bytes netpbm.BadHeader memory device = refl
  of_bytes netpbm.HeaderTooLong memory device = refl
  of_bytes netpbm.SizeOutOfRange memory device = refl
  of_bytes netpbm.MaxvalOutOfRange memory device = refl
  of_bytes netpbm.SampleTooLarge memory device = refl
  of_bytes netpbm.Truncated memory device = refl
  of_bytes netpbm.Io memory device = let clash : ⊥ = cc in absurd clash
  of_bytes netpbm.NoMemory memory device = absurd (memory refl)

  pub stops-over : (fault : FilmFault) → blames_reader fault ≡ false → Stops text (Some film) left (Some []) (Some out) fault → StopsOver text film out fault
  stops-over (Input m fault) device run =
      let broken = run.0.broken refl in (
        record {
          frames = run.0.frames;
          few = run.0.few;
          begins = record { front = broken.0; rest = broken.1; whole = broken.2; begins = broken.3; follows = broken.4 (of_bytes fault run.1 device) };
          wrote = run.0.wrote;
        },
        run.0.count,
      )
  stops-over (Output bytes) device run = (run.frames, run.few, gave-over run.frames run.gave, run.part, run.wrote)
  stops-over NoMemory device run =
      let gave = run.gave refl in
      let last = gave.3 in
      record {
        frames = run.frames;
        few = run.few;
        begins = record {
          front = last.0;
          rest = last.1 ++ known left;
          whole = gave.2 ∙ ap (λ s. s ++ known left) last.2 ∙ append_assoc last.0 last.1 (known left);
          begins = last.3;
          follows = begins_with_heading last.1 (known left) last.4;
        };
        wrote = run.wrote;
      }
  stops-over TooMany device run = (run.frames, run.last, gave-over (run.frames ++ run.last ∷ []) run.gave, run.count, run.wrote)

  -- a run over memory, whose reader has no failed call
  pub run-stops : (r : Result ℕ FilmFault) → 0 ≡ count_after (failed_by blames_reader r) 0 → IfErr r (Stops text (Some film) left (Some []) (Some out)) → IfErr r (StopsOver text film out)
  run-stops (Ok n) stays run = tt
  run-stops (Err fault) stays run = stops-over fault (no_failure (blames_reader fault) stays) run
