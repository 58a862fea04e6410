-- What an engine that reads frames and writes a text of them does, and where it may stop. What an image of a frame is, is a parameter, as
-- in `Film`; the reader's and the writer's known bytes before and after the run come after it. The pictures read are frames whether or not
-- the reader's bytes are known.
use Rattle.std.specs.Prelude.{◌≡◌, ℕ, ◌<◌, ◌≤◌, List, [], ◌∷◌, ◌++◌, length, take, Option}
use Rattle.std.specs.Io.KnownBytes.{Appends}
use Rattle.std.specs.List.{AllByRecursion}
use Rattle.ls_frame.specs.Picture.{Picture, IsFrame}
use Rattle.ls_film.specs.Film.{most_frames}
use Rattle.ls_film.specs.View.Given.{GaveFrames, GaveFramesAnd, GaveFilm, IsBrokenAfter, BeginsWithFrames}

module _ (IsImage : List ℕ → Picture → Type 0) (text : List Picture → List ℕ) (read read' written written' : Option (List ℕ)) where
  -- The reader is at its end, it gave a film of n frames, and their text was written and nothing else.
  pub record Completes (n : ℕ) : Type 0 where
    pub frames : List Picture
    pub count : length frames ≡ n
    pub few : length frames ≤ most_frames
    pub lawful : AllByRecursion IsFrame frames
    pub gave : GaveFilm IsImage read read' frames
    pub wrote : Appends written written' (text frames)

  -- Frame m can't be read: the input begins with m frames, exactly their text was written, and P holds of what follows them.
  pub record StopsAtInput (m : ℕ) (P : List ℕ → Type 0) : Type 0 where
    pub frames : List Picture
    pub count : length frames ≡ m
    pub few : length frames ≤ most_frames
    pub lawful : AllByRecursion IsFrame frames
    pub begins : BeginsWithFrames IsImage read frames
    pub broken : IsBrokenAfter IsImage read frames P
    pub wrote : Appends written written' (text frames)

  -- A write failed: exactly this many bytes of the text of the frames read were written.
  pub record StopsAtOutput (bytes : ℕ) : Type 0 where
    pub frames : List Picture
    pub few : length frames ≤ most_frames
    pub lawful : AllByRecursion IsFrame frames
    pub gave : GaveFrames IsImage read read' frames
    pub part : bytes < length (text frames)
    pub wrote : Appends written written' (take bytes (text frames))

  -- It stopped in a frame: exactly the text of the frames before it was written, and P holds of the bytes of it that were read.
  pub record StopsInFrame (P : List ℕ → Type 0) : Type 0 where
    pub frames : List Picture
    pub few : length frames ≤ most_frames
    pub lawful : AllByRecursion IsFrame frames
    pub gave : GaveFramesAnd IsImage read read' frames P
    pub wrote : Appends written written' (text frames)

  -- One frame too many: the text of all before it was written.
  pub record StopsAtMost : Type 0 where
    pub frames : List Picture
    pub last : Picture
    pub count : length frames ≡ most_frames
    pub lawful : AllByRecursion IsFrame (frames ++ last ∷ [])
    pub gave : GaveFrames IsImage read read' (frames ++ last ∷ [])
    pub wrote : Appends written written' (text frames)

  -- So far n frames were read, at most as many as a film may have, and their text, of this many bytes, was written.
  pub record HasRun (n bytes : ℕ) : Type 0 where
    pub frames : List Picture
    pub count : length frames ≡ n
    pub few : length frames ≤ most_frames
    pub lawful : AllByRecursion IsFrame frames
    pub gave : GaveFrames IsImage read read' frames
    pub wrote : Appends written written' (text frames)
    pub bytes_are : bytes ≡ length (text frames)
