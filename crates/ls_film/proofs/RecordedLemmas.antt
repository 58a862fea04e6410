-- A recording in memory that is the codestreams of frames, and how playing it ends.
use Rattle.std.proofs.Common.{Bool, true, false, ◌≡◌, ◌<◌, ◌≤◌, ℕ, List, [], ◌∷◌, ◌++◌, length, Option, Some, Ok, Err, refl, sym, ap, subst, ◌∙◌, arith}
use Rattle.std.proofs.lemmas.List.{length-append, length-map}
use Rattle.std.specs.List.{AllByRecursion}
use Rattle.ls_frame.specs.Picture.{Picture, IsFrame}
use Rattle.ls_frame.specs.Parameters.{Parameters, IsLegal, default_parameters}
use Rattle.ls_frame.specs.View.Devices.{count_after}
use Rattle.ls_stream.specs.Grammar.{codestream_bytes, Spells}
use Rattle.ls_stream.specs.Layout.{codestream}
use Rattle.ls_film.specs.Coding.{file, with_defaults}
use Rattle.ls_film.specs.Film.{most_frames, IsFilm}
use Rattle.ls_film.specs.View.Engine.{Completes}
use Rattle.ls_film.proofs.OneFilmLemmas.{more_frames, one_film}
use Rattle.ls_film.specs.declared.playing.PlayFault.{PlayFault}
use Rattle.ls_film.specs.declared.playing.PlayFault.TheVariants.{Stream, Io, Output, NoMemory, TooMuch}
use Rattle.ls_film.specs.Showing.{show}
use Rattle.ls_film.specs.View.Codestreams.{BeginsWithNone}
use Rattle.ls_film.specs.View.Playing.{Stops, Plays, IsOutOfMemory, IsCodable, frames_of, blames_reader}

-- ---- a writer into memory

-- a stop says the same of equal bytes written
pub stops-into : (read read' : Option (List ℕ)) (start start' out out' : List ℕ) (fault : PlayFault) → start ≡ start' → out ≡ out'
    → Stops read read' (Some start) (Some out) fault → Stops read read' (Some start') (Some out') fault
stops-into read read' start start' out out' fault is is' stops =
    subst (λ s. Stops read read' (Some s) (Some out') fault) is (subst (λ s. Stops read read' (Some start) (Some s) fault) is' stops)

-- a count that stays 0 says that no call failed
pub never_blamed : (blames : Bool) → 0 ≡ count_after blames 0 → blames ≡ false
never_blamed false same = refl
never_blamed true same = absurd (omega (arith, same))

-- ---- films of codestreams

-- a codestream has bytes
no_start : (byte : ℕ) (bytes : List ℕ) → [] ≡ byte ∷ bytes → ⊥
no_start byte bytes is = let clash : ⊥ = cc in absurd clash

pub some_bytes : (bytes : List ℕ) (f : Picture) → Spells bytes f → 0 < length bytes
unfolding codestream_bytes
some_bytes [] f spells = absurd (no_start _ _ spells.spelled)
some_bytes (byte ∷ bytes) f spells = omega arith

module _ (only : (one other rest : List ℕ) (f g : Picture) → Spells one f → Spells other g → other ≡ one ++ rest → rest ≡ [])
    (same : (bytes : List ℕ) (f g : Picture) → Spells bytes f → Spells bytes g → f ≡ g) where
  -- after the first frames a codestream begins, or nothing follows
  pub no_break : (rest : List ℕ) (more : List Picture) → IsFilm Spells rest more → BeginsWithNone rest → ⊥
  no_break rest [] none broken = absurd (omega (arith, ap length none, broken.some))
  no_break rest (f ∷ more) film broken = broken.none film.0 film.1 f film.2 film.3

  module _ (recording empty shown : List ℕ) (left : Option (List ℕ)) (frames : List Picture) (few : length frames ≤ most_frames) (film : IsFilm Spells recording frames) where
    pub played : (n : ℕ) (out : List ℕ) → empty ≡ [] → out ≡ shown → Completes Spells show (Some recording) left (Some empty) (Some shown) n
        → (n ≡ length frames) × (out ≡ show frames)
    played n out none is run =
        let are : run.frames ≡ frames = one_film Spells some_bytes only same recording frames run.frames film (run.gave refl).2 in
        (sym run.count ∙ ap length are, is ∙ run.wrote ∙ ap (λ s. s ++ show run.frames) none ∙ ap show are)

    pub stopped : (fault : PlayFault) → 0 ≡ count_after (blames_reader fault) 0 → Stops (Some recording) left (Some empty) (Some shown) fault → IsOutOfMemory fault
    stopped (Stream m fault) reads run =
        let broken = run.0.broken refl in
        let more = more_frames Spells some_bytes only same broken.0 broken.1 recording run.0.frames frames broken.2 broken.3 film in
        absurd (no_break broken.1 more.0 more.2 broken.4.0)
    stopped (Io m) reads run = absurd (omega arith)
    stopped (Output bytes) reads run = tt
    stopped NoMemory reads run = tt
    stopped TooMuch reads run =
        let gave = run.gave refl in
        let more = more_frames Spells some_bytes only same gave.1 _ recording (run.frames ++ run.last ∷ []) frames gave.2 gave.3 film in
        absurd (omega (arith, few, run.count, ap length more.1, length-append (run.frames ++ run.last ∷ []) more.0, length-append run.frames (run.last ∷ [])))

-- ---- what is recorded

-- the codestreams of frames are a film of them
pub recorded_film : ((f : Picture) (p : Parameters) → IsFrame f → IsLegal p → p.maxval ≡ f.maxval → Spells (codestream f p) f)
    → (frames : List (Picture × Parameters)) → AllByRecursion IsCodable frames → IsFilm Spells (file frames) (frames_of frames)
recorded_film spell [] each = refl
recorded_film spell (one ∷ frames) each =
    (codestream one.0 one.1, file frames, refl, spell one.0 one.1 each.0.frame each.0.legal each.0.maxval, recorded_film spell frames each.1)

-- frames with default parameters can be coded
pub defaults_codable : ((maxval : ℕ) → 0 < maxval → maxval ≤ 65535 → IsLegal (default_parameters maxval)) → ((maxval : ℕ) → (default_parameters maxval).maxval ≡ maxval)
    → (frames : List Picture) → AllByRecursion IsFrame frames → AllByRecursion IsCodable (with_defaults frames)
defaults_codable legal maxval [] none = tt
defaults_codable legal maxval (f ∷ frames) each = (
  record {
    frame = each.0;
    legal = legal f.maxval each.0.formed.some_maxval each.0.formed.maxval;
    maxval = maxval f.maxval;
  },
  defaults_codable legal maxval frames each.1,
)

pub defaults_frames : (frames : List Picture) → frames_of (with_defaults frames) ≡ frames
defaults_frames [] = refl
defaults_frames (f ∷ frames) = ap (λ rest. f ∷ rest) (defaults_frames frames)

-- ---- how the playing of a recording in memory ends

module _ (only : (one other rest : List ℕ) (f g : Picture) → Spells one f → Spells other g → other ≡ one ++ rest → rest ≡ [])
    (same : (bytes : List ℕ) (f g : Picture) → Spells bytes f → Spells bytes g → f ≡ g)
    (spell : (f : Picture) (p : Parameters) → IsFrame f → IsLegal p → p.maxval ≡ f.maxval → Spells (codestream f p) f)
    (recording empty shown out : List ℕ) (left : Option (List ℕ)) (none : empty ≡ []) (is : out ≡ shown) where
  film_of : (frames : List (Picture × Parameters)) → AllByRecursion IsCodable frames → recording ≡ file frames → IsFilm Spells recording (frames_of frames)
  film_of frames codable are = rw are (recorded_film spell frames codable)

  few_of : (frames : List (Picture × Parameters)) → length frames ≤ most_frames → length (frames_of frames) ≤ most_frames
  few_of frames few = rw (length-map frames (λ one. one.0)) few

  pub plays-all : (n : ℕ) → Completes Spells show (Some recording) left (Some empty) (Some shown) n → Plays recording out (Ok n)
  plays-all n run = record {
    completes = record {
      frames = run.frames;
      count = run.count;
      few = run.few;
      whole = (run.gave refl).2;
      shown = is ∙ run.wrote ∙ ap (λ s. s ++ show run.frames) none;
    };
    stops = tt;
    device = tt;
    of_frames = λ frames few film. played only same recording empty shown left frames few film n out none is run;
    recorded = λ frames few codable are.
        rw (sym (length-map frames (λ one. one.0)))
        (played only same recording empty shown left (frames_of frames) (few_of frames few) (film_of frames codable are) n out none is run);
  }

  pub plays-stopped : (fault : PlayFault) → 0 ≡ count_after (blames_reader fault) 0 → Stops (Some recording) left (Some empty) (Some shown) fault → Plays recording out (Err fault)
  plays-stopped fault reads stops = record {
    completes = tt;
    stops = (left, stops-into (Some recording) left empty [] shown out fault none (sym is) stops);
    device = never_blamed (blames_reader fault) reads;
    of_frames = λ frames few film. stopped only same recording empty shown left frames few film fault reads stops;
    recorded = λ frames few codable are.
        stopped only same recording empty shown left (frames_of frames) (few_of frames few) (film_of frames codable are) fault reads stops;
  }
