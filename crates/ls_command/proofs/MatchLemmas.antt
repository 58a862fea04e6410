-- Numbers and texts of matched words.
use Rattle.std.proofs.Common.{◌≡◌, ◌≤◌, ◌^◌, ℕ, List, length, codes, Option, Some, None, Result, Ok, Err, IfSome, refl, sym, ap, subst, ◌∙◌, arith}
use Rattle.std.specs.Borrow.{Bor}
use Rattle.std.specs.Str.Parse.{ParsesUnsigned}
use Rattle.clap.specs.declared.parser.matches.ArgMatches.{ArgMatches}
use Rattle.clap.specs.Matches.{ReadsOne, found_of, first_value, one_text}
use Rattle.ls_frame.specs.declared.tuning.Tuning.{Tuning}
use Rattle.ls_command.specs.declared.cut.Cut.{Cut}
use Rattle.ls_command.specs.declared.Request.{Request}
use Rattle.ls_command.specs.declared.Request.TheVariants as request
use Rattle.ls_command.specs.declared.limits.TheConstants.{MOST_FILMS}
use Rattle.ls_command.specs.View.Asked.{ReadsPreset}
use Rattle.ls_command.specs.View.Matched.{Asks, AsksPieces, AsksToRecord, files_in, texts_of, HasText, ReadsNumber, text_in}

-- an option that isn't empty has a value
given : {A B : Type 0} (o : Option A) (b : B) → (o ≡ None → Some b ≡ None) → (a : A) × (o ≡ Some a)
given None b none = let no : Some b ≡ None = none refl in let clash : ⊥ = cc in absurd clash
given (Some a) b none = (a, refl)

-- the number that `get_one` reads, where P says what `from_str` gives
module _ {E : Type 0} (words : ArgMatches) (name : List ℕ) (k : ℕ) (P : List ℕ → Result ℕ E → Type 0)
    (parses : (text : List ℕ) (outcome : Result ℕ E) → P text outcome → ParsesUnsigned k 10 text outcome) where
  pub number_read : (one : Option ℕ) → (one_text (found_of words) name ≡ None → one ≡ None) → ((text : List ℕ) → one_text (found_of words) name ≡ Some text → ReadsOne P text one)
      → ReadsNumber words (2 ^ k) name one
  number_read (Some n) none value =
      let text = given (one_text (found_of words) name) n none in
      let read = parses text.0 (Ok n) (value text.0 text.1) in
      ((text.0, text.1, read.0.0, sym read.1), omega (arith, read.0.1, read.1))
  number_read None none value = λ n is lt.
      let read = value is.0 is.1 in
      let no = parses is.0 (Err read.0) read.1 in
      no (is.2, omega (arith, is.3, lt))

-- the text of an argument that was given
pub text_is : (words : ArgMatches) (name : List ℕ) (found : Option (Bor (List ℕ))) (text : Bor (List ℕ)) → text_in found ≡ first_value (found_of words) name → found ≡ Some text
    → HasText words name (Some text.now)
text_is words name found text value is = sym value ∙ ap text_in is

-- none was given
pub text_is_none : (words : ArgMatches) (name : List ℕ) (found : Option (Bor (List ℕ))) → text_in found ≡ first_value (found_of words) name → found ≡ None
    → HasText words name None
text_is_none words name found value is = sym value ∙ ap text_in is

-- the recording that is asked for, from its settings, its tuning, its pieces and its films
pub recording_asked : (words : ArgMatches) (tuning : Tuning) (pieces : Option Cut) (files : List (Bor (List ℕ))) (preset : Option (Bor (List ℕ))) → HasText words (codes "preset") (text_in preset)
    → ReadsPreset preset (Some tuning) → AsksPieces words pieces → texts_of files ≡ files_in words → length files ≤ MOST_FILMS → (asked : Option Request) → IfSome asked (AsksToRecord words tuning pieces files)
    → IfSome asked (Asks words (codes "record"))
recording_asked words tuning pieces files preset text reads cut named few None has = tt
recording_asked words tuning pieces files preset text reads cut named few (Some (request.Record asked)) has = (
  refl,
  record {
    settings = has.0;
    preset = preset;
    preset_is = text;
    tuning = subst (λ (t : Tuning). ReadsPreset preset (Some t)) (sym has.1) reads;
    pieces = subst (AsksPieces words) (sym has.2) cut;
    files = ap texts_of has.3 ∙ named;
    few = subst (λ (fs : List (Bor (List ℕ))). length fs ≤ MOST_FILMS) (sym has.3) few;
  },
)
recording_asked words tuning pieces files preset text reads cut named few (Some (request.List file json)) has = absurd has
recording_asked words tuning pieces files preset text reads cut named few (Some (request.Code file index)) has = absurd has
recording_asked words tuning pieces files preset text reads cut named few (Some (request.Play file frames workers)) has = absurd has
recording_asked words tuning pieces files preset text reads cut named few (Some (request.Listed file index frames)) has = absurd has
recording_asked words tuning pieces files preset text reads cut named few (Some (request.PlayInto recordings into frames workers)) has = absurd has
recording_asked words tuning pieces files preset text reads cut named few (Some (request.Salvage file index)) has = absurd has
recording_asked words tuning pieces files preset text reads cut named few (Some (request.Index file sums json)) has = absurd has
recording_asked words tuning pieces files preset text reads cut named few (Some (request.IndexBeside recordings sums)) has = absurd has
recording_asked words tuning pieces files preset text reads cut named few (Some (request.Check file index workers strict json)) has = absurd has
recording_asked words tuning pieces files preset text reads cut named few (Some (request.CheckPart file index frames workers json)) has = absurd has
recording_asked words tuning pieces files preset text reads cut named few (Some (request.CheckEach recordings beside workers strict json)) has = absurd has
recording_asked words tuning pieces files preset text reads cut named few (Some (request.Verify pairs workers strict)) has = absurd has
recording_asked words tuning pieces files preset text reads cut named few (Some (request.VerifyPart film file frames)) has = absurd has
recording_asked words tuning pieces files preset text reads cut named few (Some (request.Replay sources capacity file)) has = absurd has
