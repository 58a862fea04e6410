-- An engine that reads frames and writes a text of them, step by step.
use Rattle.std.proofs.Common.{◌≡◌, ℕ, ◌+◌, ◌<◌, List, [], ◌∷◌, ◌++◌, length, take, Option, refl, sym, ap, subst, ◌∙◌, arith}
use Rattle.std.specs.Io.KnownBytes.{Appends}
use Rattle.std.proofs.KnownBytes.{Appends-nil, Appends-trans}
use Rattle.std.proofs.Math.Seq.{take-append-add}
use Rattle.std.proofs.lemmas.List.{length-append, length_push}
use Rattle.ls_frame.specs.Picture.{Picture, IsFrame}
use Rattle.ls_frame.specs.View.Known.{Gave, WasAtEnd}
use Rattle.ls_film.specs.Film.{most_frames}
use Rattle.ls_film.specs.View.Engine.{Completes, StopsAtOutput, StopsInFrame, StopsAtMost, HasRun}
use Rattle.ls_film.specs.View.Steps.{IsSomeImage}
use Rattle.ls_film.proofs.FilmLemmas.{all-more, GaveFrames-none, GaveFrames-more, GaveFrames-and, GaveFilm-end}

module _ (IsImage : List ℕ → Picture → Type 0) (text : List Picture → List ℕ) where
  -- before the first frame
  pub HasRun-none : (read written : Option (List ℕ)) → text [] ≡ [] → HasRun IsImage text read read written written 0 0
  HasRun-none read written none = record {
    frames = [];
    count = refl;
    few = omega arith;
    lawful = tt;
    gave = GaveFrames-none IsImage read;
    wrote = subst (Appends written written) (sym none) (Appends-nil written);
    bytes_are = sym (ap length none);
  }

  -- a frame was read and its chunk written
  pub HasRun-more : (read mid new written midway out : Option (List ℕ)) (n bytes : ℕ) (f : Picture) (chunk : List ℕ) (run : HasRun IsImage text read mid written midway n bytes)
      → n < most_frames → IsFrame f × Gave mid new (λ image. IsImage image f) → text (run.frames ++ f ∷ []) ≡ text run.frames ++ chunk → Appends midway out chunk
      → HasRun IsImage text read new written out (n + 1) (bytes + length chunk)
  HasRun-more read mid new written midway out n bytes f chunk run room next grows wrote = record {
    frames = run.frames ++ f ∷ [];
    count = length_push run.frames f ∙ ap (λ k. k + 1) run.count;
    few = omega (arith, length_push run.frames f, run.count, room);
    lawful = all-more IsFrame run.frames f run.lawful next.0;
    gave = GaveFrames-more IsImage read mid new run.frames f run.gave next.1;
    wrote = subst (Appends written out) (sym grows) (Appends-trans written midway out (text run.frames) chunk run.wrote wrote);
    bytes_are = ap (λ k. k + length chunk) run.bytes_are ∙ sym (length-append (text run.frames) chunk) ∙ sym (ap length grows);
  }

  -- the end of the input
  pub HasRun-completes : (read mid new written out : Option (List ℕ)) (n bytes : ℕ) → HasRun IsImage text read mid written out n bytes → WasAtEnd mid new
      → Completes IsImage text read new written out n
  HasRun-completes read mid new written out n bytes run end = record {
    frames = run.frames;
    count = run.count;
    few = run.few;
    lawful = run.lawful;
    gave = GaveFilm-end IsImage read mid new run.frames run.gave end;
    wrote = run.wrote;
  }

  -- a frame was read and a part of its chunk written
  pub HasRun-output : (read mid new written midway out : Option (List ℕ)) (n bytes here : ℕ) (f : Picture) (chunk : List ℕ) (run : HasRun IsImage text read mid written midway n bytes)
      → n < most_frames → IsFrame f × Gave mid new (λ image. IsImage image f) → text (run.frames ++ f ∷ []) ≡ text run.frames ++ chunk → here < length chunk → Appends midway out (take here chunk)
      → StopsAtOutput IsImage text read new written out (bytes + here)
  HasRun-output read mid new written midway out n bytes here f chunk run room next grows part wrote =
      let size : length (text (run.frames ++ f ∷ [])) ≡ bytes + length chunk =
      ap length grows ∙ length-append (text run.frames) chunk ∙ ap (λ k. k + length chunk) (sym run.bytes_are) in
      let front : take (bytes + here) (text (run.frames ++ f ∷ [])) ≡ text run.frames ++ take here chunk =
      ap (take (bytes + here)) grows ∙ ap (λ k. take (k + here) (text run.frames ++ chunk)) run.bytes_are ∙ take-append-add (text run.frames) chunk here in
      record {
        frames = run.frames ++ f ∷ [];
        few = omega (arith, length_push run.frames f, run.count, room);
        lawful = all-more IsFrame run.frames f run.lawful next.0;
        gave = GaveFrames-more IsImage read mid new run.frames f run.gave next.1;
        part = omega (arith, size, part);
        wrote = subst (Appends written out) (sym front) (Appends-trans written midway out (text run.frames) (take here chunk) run.wrote wrote);
      }

  -- an allocation failed for the chunk of a frame that was read
  pub HasRun-no_chunk : (read mid new written out : Option (List ℕ)) (n bytes : ℕ) (f : Picture) → HasRun IsImage text read mid written out n bytes
      → IsFrame f × Gave mid new (λ image. IsImage image f) → StopsInFrame IsImage text read new written out (IsSomeImage IsImage)
  HasRun-no_chunk read mid new written out n bytes f run next = record {
    frames = run.frames;
    few = run.few;
    lawful = run.lawful;
    gave = GaveFrames-and IsImage read mid new run.frames (λ image. IsImage image f) (IsSomeImage IsImage) run.gave next.1 (λ last image. (f, image));
    wrote = run.wrote;
  }

  -- a frame was read after the most that a film has
  pub HasRun-most : (read mid new written out : Option (List ℕ)) (bytes : ℕ) (f : Picture) → HasRun IsImage text read mid written out most_frames bytes
      → IsFrame f × Gave mid new (λ image. IsImage image f) → StopsAtMost IsImage text read new written out
  HasRun-most read mid new written out bytes f run next = record {
    frames = run.frames;
    last = f;
    count = run.count;
    lawful = all-more IsFrame run.frames f run.lawful next.0;
    gave = GaveFrames-more IsImage read mid new run.frames f run.gave next.1;
    wrote = run.wrote;
  }
