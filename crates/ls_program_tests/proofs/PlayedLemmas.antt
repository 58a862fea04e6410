-- What a command says of a file whose bytes are known.
use Rattle.std.proofs.Common.{◌≡◌, ℕ, List, [], Option, None, Some, IfSome, Vec, refl, sym, subst, false, true}
use Rattle.std.specs.declared.alloc.Global.{Global}
use Rattle.ls_frame.specs.Picture.{Picture}
use Rattle.ls_frame.specs.Netpbm.{IsImageOf}
use Rattle.ls_stream.specs.Grammar.{Spells}
use Rattle.ls_film.specs.Coding.{default_file}
use Rattle.ls_film.specs.Showing.{show}
use Rattle.ls_film.specs.View.Engine.{Completes}
use Rattle.ls_program_tests.specs.View.Files.{Named, HoldsFile}
use Rattle.ls_archive.specs.View.Verifying.{AreSame}
use Rattle.ls_reading.specs.View.Commands.{WritesTextOf, HaveSameFrames}
use Rattle.ls_program_tests.specs.View.Played.{IsPlayedFrom, IsCodedFrom, HaveOneFilm}

-- what was written, by equal bytes
pub written-as : {O : Type 0} (holds : O → List ℕ → Option (List ℕ) → Type 0) (opener : O) (path : List ℕ) (IsImage : List ℕ → Picture → Type 0)
    (text : List Picture → List ℕ) (start start' out out' : List ℕ) → start ≡ start' → out ≡ out'
    → WritesTextOf holds opener path (Some start) (Some out) IsImage text → WritesTextOf holds opener path (Some start') (Some out') IsImage text
written-as holds opener path IsImage text start start' out out' is is' writes =
    subst (λ s. WritesTextOf holds opener path (Some s) (Some out') IsImage text) is
    (subst (λ s. WritesTextOf holds opener path (Some start) (Some s) IsImage text) is' writes)

module _ (files : List Named) (path : List ℕ) where
  -- bytes that aren't known are of no file
  unknown : HoldsFile files path None → ⊥
  unknown held = let known : false ≡ true = held.0 in let clash : ⊥ = cc in absurd clash

  pub is-played : (read left : Option (List ℕ)) (images : List ℕ) (count : ℕ) → HoldsFile files path read
      → Completes Spells show read left (Some []) (Some images) count → IsPlayedFrom files path images
  is-played None left images count held run = absurd (unknown held)
  is-played (Some recording) left images count held run = record {
    recording = recording;
    count = count;
    file = sym held.1;
    shown = record { frames = run.frames; count = run.count; few = run.few; whole = (run.gave refl).2; shown = run.wrote };
  }

  pub is-coded : (read left : Option (List ℕ)) (codestreams : List ℕ) (count : ℕ) → HoldsFile files path read
      → Completes IsImageOf default_file read left (Some []) (Some codestreams) count → IsCodedFrom files path codestreams
  is-coded None left codestreams count held run = absurd (unknown held)
  is-coded (Some film) left codestreams count held run = record {
    film = film;
    count = count;
    file = sym held.1;
    coded = record { frames = run.frames; count = run.count; few = run.few; whole = (run.gave refl).2; wrote = run.wrote };
  }

-- the two files of a comparison
pub have-one-film : (files : List Named) (film recording : List ℕ) (images images_left codestreams codestreams_left : Option (List ℕ)) (count : ℕ)
    → HoldsFile files film images → HoldsFile files recording codestreams → AreSame images images_left codestreams codestreams_left count
    → HaveOneFilm files film recording
have-one-film files film recording None images_left codestreams codestreams_left count held held' same = absurd (unknown files film held)
have-one-film files film recording (Some images) images_left None codestreams_left count held held' same = absurd (unknown files recording held')
have-one-film files film recording (Some images) images_left (Some codestreams) codestreams_left count held held' same = record {
  images = images;
  codestreams = codestreams;
  frames = same.frames;
  film_file = sym held.1;
  recording_file = sym held'.1;
  filmed = (same.film_gave refl).2;
  recorded = (same.recording_gave refl).2;
}

-- ---- of any file system that holds these files

module _ {O : Type 0} (holds : O → List ℕ → Option (List ℕ) → Type 0) (opener : O) (files : List Named)
    (held : (path : List ℕ) (bytes : Option (List ℕ)) → holds opener path bytes → HoldsFile files path bytes) where
  pub played-in : (path : List ℕ) (result : Option (Vec ℕ Global))
      → IfSome result (λ images. WritesTextOf holds opener path (Some []) (Some images.items) Spells show)
      → IfSome result (λ images. IsPlayedFrom files path images.items)
  played-in path None none = _
  played-in path (Some images) writes =
      is-played files path writes.read writes.left images.items writes.count (held path writes.read writes.file) writes.run

  pub coded-in : (path : List ℕ) (result : Option (Vec ℕ Global))
      → IfSome result (λ codestreams. WritesTextOf holds opener path (Some []) (Some codestreams.items) IsImageOf default_file)
      → IfSome result (λ codestreams. IsCodedFrom files path codestreams.items)
  coded-in path None none = _
  coded-in path (Some codestreams) writes =
      is-coded files path writes.read writes.left codestreams.items writes.count (held path writes.read writes.file) writes.run

  pub same-in : (film recording : List ℕ) → HaveSameFrames holds opener film recording → HaveOneFilm files film recording
  same-in film recording have =
      have-one-film files film recording have.images have.images_left have.codestreams have.codestreams_left have.count
      (held film have.images have.film_file) (held recording have.codestreams have.recording_file) have.same
