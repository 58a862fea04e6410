-- What a command has done that read a file in memory, with the status 0.
use Rattle.std.specs.Prelude.{◌≡◌, ℕ, List, Some}
use Rattle.ls_frame.specs.Netpbm.{IsImageOf}
use Rattle.ls_frame.specs.Picture.{Picture}
use Rattle.ls_stream.specs.Grammar.{Spells}
use Rattle.ls_film.specs.Coding.{default_file}
use Rattle.ls_film.specs.Film.{IsFilm}
use Rattle.ls_film.specs.View.Memory.{IsTextOf}
use Rattle.ls_film.specs.View.Playing.{IsShownOf}
use Rattle.ls_program_tests.specs.View.Files.{Named, bytes_at}

module _ (files : List Named) (path : List ℕ) where
  -- There is a file at the path. It is codestreams of frames, and the images are those of these frames, in order, and nothing else.
  pub record IsPlayedFrom (images : List ℕ) : Type 0 where
    pub recording : List ℕ
    pub count : ℕ
    pub file : bytes_at files path ≡ Some recording
    pub shown : IsShownOf recording images count

  -- There is a file at the path. It is images of frames, and the codestreams are those of these frames, in order, and nothing else.
  pub record IsCodedFrom (codestreams : List ℕ) : Type 0 where
    pub film : List ℕ
    pub count : ℕ
    pub file : bytes_at files path ≡ Some film
    pub coded : IsTextOf default_file film codestreams count

-- There are files at both paths. They are images and codestreams of the same frames, in order, and nothing else.
pub record HaveOneFilm (files : List Named) (film recording : List ℕ) : Type 0 where
  pub images : List ℕ
  pub codestreams : List ℕ
  pub frames : List Picture
  pub film_file : bytes_at files film ≡ Some images
  pub recording_file : bytes_at files recording ≡ Some codestreams
  pub filmed : IsFilm IsImageOf images frames
  pub recorded : IsFilm Spells codestreams frames
