-- The request that a command's matched words make. What `clap` matched of the words is given; of each argument it says the text, or the uses.
use Rattle.std.specs.Prelude.{◌≡◌, ℕ, ◌<◌, ◌≤◌, ◌^◌, Bool, true, false, not, List, [], ◌∷◌, length, map, flat_map, codes, Option, Some, None, IfSome, IfNone, option_map, unwrap_or}
use Rattle.std.specs.Borrow.{Bor}
use Rattle.std.specs.Str.Parse.{IsNumeral, digits_value, without_leading_plus}
use Rattle.clap.specs.Words.{App, HasMatchesOf, subcommand_rows_of}
use Rattle.clap.specs.declared.parser.matches.ArgMatches.{ArgMatches}
use Rattle.clap.specs.Matches.{found_of, first_value, one_text, matched_of, raw_values, subcommand_name_of}
use Rattle.clap.specs.Walk.{rows_of}
use Rattle.ls_frame.specs.declared.tuning.Tuning.{Tuning}
use Rattle.ls_command.specs.declared.cut.Cut.{Cut}
use Rattle.ls_command.specs.declared.frames.Frames.{Frames}
use Rattle.ls_command.specs.declared.RecordRequest.{RecordRequest}
use Rattle.ls_command.specs.declared.Request.{Request}
use Rattle.ls_command.specs.declared.Request.TheVariants as request
use Rattle.ls_command.specs.declared.limits.TheConstants.{MOST_FILMS}
use Rattle.ls_command.specs.View.Asked.{ReadsFrames, ReadsCut, ReadsPreset}

-- the texts behind references
abbrev pub texts_of : List (Bor (List ℕ)) → List (List ℕ)
texts_of texts = map (λ (text : Bor (List ℕ)). text.now) texts

-- the texts of pairs, in turn
abbrev pub texts_in_turn : List (Bor (List ℕ) × Bor (List ℕ)) → List (List ℕ)
texts_in_turn pairs = flat_map (λ (pair : Bor (List ℕ) × Bor (List ℕ)). pair.0.now ∷ pair.1.now ∷ []) pairs

abbrev pub text_in : Option (Bor (List ℕ)) → Option (List ℕ)
text_in text = option_map (λ (t : Bor (List ℕ)). t.now) text

module _ (words : ArgMatches) where
  -- the argument of this name has this text
  abbrev pub HasText : List ℕ → Option (List ℕ) → Type 0
  HasText name text = first_value (found_of words) name ≡ text

  -- whether this option was given
  abbrev pub IsGiven : List ℕ → Bool → Type 0
  IsGiven name given = (one_text (found_of words) name ≡ None → given ≡ false)
      × (one_text (found_of words) name ≡ Some (codes "true") → given ≡ true) × (one_text (found_of words) name ≡ Some (codes "false") → given ≡ false)

  -- the argument of this name is this number
  abbrev pub IsNumber : List ℕ → ℕ → Type 0
  IsNumber name n = (text : List ℕ) × (one_text (found_of words) name ≡ Some text) × IsNumeral 10 (without_leading_plus text)
      × (digits_value 10 (without_leading_plus text) ≡ n)

  -- the argument of this name is this number below a limit; none, if it is none
  abbrev pub ReadsNumber : ℕ → List ℕ → Option ℕ → Type 0
  ReadsNumber limit name (Some n) = IsNumber name n × (n < limit)
  ReadsNumber limit name None = (n : ℕ) → IsNumber name n → n < limit → ⊥

  -- the frames of `--frames`; none, if it isn't given
  abbrev pub AsksFrames : Option Frames → Type 0
  AsksFrames None = HasText (codes "frames") None
  AsksFrames (Some frames) = (text : List ℕ) × HasText (codes "frames") (Some text) × ReadsFrames text (Some frames)

  -- where the recordings are cut by `--pieces`; none, if it isn't given
  abbrev pub AsksPieces : Option Cut → Type 0
  AsksPieces None = HasText (codes "pieces") None
  AsksPieces (Some cut) = (text : List ℕ) × HasText (codes "pieces") (Some text) × ReadsCut text (Some cut)

  -- the workers of `--workers`, or one
  abbrev pub AsksWorkers : ℕ → Type 0
  AsksWorkers workers = (given : Option ℕ) × ReadsNumber (2 ^ 8) (codes "workers") given × (workers ≡ unwrap_or given 1)

  -- the files that are named
  abbrev pub files_in : List (List ℕ)
  files_in = unwrap_or (option_map raw_values (matched_of (found_of words) (codes "FILE"))) []

  -- one file is named, and no more
  abbrev pub HasFile : List ℕ → Type 0
  HasFile file = files_in ≡ file ∷ []

  -- The films and recordings that are named in turn: a film first, and then the files after it.
  abbrev pub ArePairsOf : List (Bor (List ℕ) × Bor (List ℕ)) → Type 0
  ArePairsOf pairs = (film : List ℕ) × HasText (codes "FILM") (Some film) × (texts_in_turn pairs ≡ film ∷ files_in)

  -- What is asked for beside tuning, pieces and films.
  pub record AsksSettings (asked : RecordRequest) : Type 0 where
    pub workers : ReadsNumber (2 ^ 64) (codes "workers") (Some asked.workers)
    pub capacity : ReadsNumber (2 ^ 64) (codes "queue") (Some asked.capacity)
    pub window : ReadsNumber (2 ^ 64) (codes "window") (Some asked.window)
    pub into : HasText (codes "into") (text_in asked.into)
    pub replace : IsGiven (codes "replace") asked.replace
    pub progress : IsGiven (codes "progress") asked.progress
    pub report : HasText (codes "report") (text_in asked.report)
    pub index : IsGiven (codes "index") asked.index
    pub times : IsGiven (codes "times") asked.times
    pub sync : ReadsNumber (2 ^ 64) (codes "sync") (Some asked.sync)
    pub keep_open : IsGiven (codes "keep-open") asked.keep_open
    pub count : ReadsNumber (2 ^ 64) (codes "count") asked.count
    pub seconds : ReadsNumber (2 ^ 64) (codes "for") asked.seconds

  -- The recording that is asked for.
  pub record AsksRecording (asked : RecordRequest) : Type 0 where
    pub settings : AsksSettings asked
    pub preset : Option (Bor (List ℕ))
    pub preset_is : HasText (codes "preset") (text_in preset)
    pub tuning : ReadsPreset preset (Some asked.tuning)
    pub pieces : AsksPieces asked.pieces
    pub files : texts_of asked.files.items ≡ files_in
    pub few : length asked.files.items ≤ MOST_FILMS

  -- the recording that is asked for with this tuning, in these pieces and of these films
  abbrev pub AsksToRecord : Tuning → Option Cut → List (Bor (List ℕ)) → Request → Type 0
  AsksToRecord tuning pieces files (request.Record asked) = AsksSettings asked × (asked.tuning ≡ tuning) × (asked.pieces ≡ pieces) × (asked.files.items ≡ files)
  AsksToRecord tuning pieces files _ = ⊥

  -- the request that the words of the command of this name make
  abbrev pub Asks : List ℕ → Request → Type 0
  Asks name (request.List file json) = (name ≡ codes "list") × HasText (codes "FILE") (Some file.now) × IsGiven (codes "json") json
  Asks name (request.Code file index) = (name ≡ codes "code") × HasText (codes "FILE") (Some file.now) × HasText (codes "index") (text_in index)
  Asks name (request.Play file frames workers) =
      (name ≡ codes "play") × HasFile file.now × AsksFrames frames × AsksWorkers workers × IsGiven (codes "salvage") false
      × HasText (codes "index") None × HasText (codes "into") None × IfSome frames (λ _. workers ≤ 1)
  Asks name (request.PlayInto files into frames workers) =
      (name ≡ codes "play") × (texts_of files.items ≡ files_in) × HasText (codes "into") (Some into.now) × AsksFrames frames × AsksWorkers workers
      × IsGiven (codes "salvage") false × HasText (codes "index") None × IfSome frames (λ _. workers ≤ 1)
  Asks name (request.Listed file index frames) =
      (name ≡ codes "play") × HasFile file.now × HasText (codes "index") (Some index.now) × AsksFrames (Some frames)
      × IsGiven (codes "salvage") false × HasText (codes "into") None
  Asks name (request.Salvage file index) =
      (name ≡ codes "play") × HasFile file.now × HasText (codes "index") (text_in index) × IsGiven (codes "salvage") true
      × HasText (codes "frames") None × HasText (codes "into") None
  Asks name (request.Index file sums json) =
      (name ≡ codes "index") × HasFile file.now × IsGiven (codes "no-sums") (not sums) × IsGiven (codes "beside") false × IsGiven (codes "json") json
  Asks name (request.IndexBeside files sums) =
      (name ≡ codes "index") × (texts_of files.items ≡ files_in) × IsGiven (codes "no-sums") (not sums) × IsGiven (codes "beside") true
      × IsGiven (codes "json") false
  Asks name (request.Check file index workers strict json) =
      (name ≡ codes "check") × HasFile file.now × HasText (codes "index") (text_in index) × IsGiven (codes "beside") false × AsksWorkers workers
      × IsGiven (codes "strict") strict × IsGiven (codes "json") json × IfNone index (workers ≤ 1) × HasText (codes "frames") None
  Asks name (request.CheckPart file index frames workers json) =
      (name ≡ codes "check") × HasFile file.now × HasText (codes "index") (Some index.now) × AsksFrames (Some frames) × IsGiven (codes "beside") false
      × AsksWorkers workers × IsGiven (codes "strict") false × IsGiven (codes "json") json
  Asks name (request.CheckEach files beside workers strict json) =
      (name ≡ codes "check") × (texts_of files.items ≡ files_in) × HasText (codes "index") None × IsGiven (codes "beside") beside × AsksWorkers workers
      × IsGiven (codes "strict") strict × IsGiven (codes "json") json × (beside ≡ false → workers ≤ 1) × HasText (codes "frames") None
  Asks name (request.Verify pairs workers strict) =
      (name ≡ codes "verify") × ArePairsOf pairs.items × ReadsNumber (2 ^ 8) (codes "workers") (Some workers) × IsGiven (codes "strict") strict
      × HasText (codes "frames") None
  Asks name (request.VerifyPart film file frames) =
      (name ≡ codes "verify") × HasText (codes "FILM") (Some film.now) × HasFile file.now × AsksFrames (Some frames)
      × ((workers : ℕ) × AsksWorkers workers × (workers ≤ 1)) × IsGiven (codes "strict") false
  Asks name (request.Record asked) = (name ≡ codes "record") × AsksRecording asked
  Asks name (request.Replay sources capacity file) =
      (name ≡ codes "replay") × HasText (codes "FILE") (Some file.now) × ReadsNumber (2 ^ 8) (codes "sources") (Some sources)
      × ReadsNumber (2 ^ 32) (codes "capacity") (Some capacity)

-- The words of a command were matched as these, and they make this request; and whether `--reasons` is given.
pub record MakesRequest (matches : ArgMatches) (request : Request) (reasons : Bool) : Type 0 where
  pub name : List ℕ
  pub words : ArgMatches
  pub command : subcommand_name_of matches ≡ Some name
  pub of_command : option_map (λ p. p.1) (subcommand_rows_of matches) ≡ Some (rows_of (found_of words))
  pub asks : Asks words name request
  pub given : IsGiven words (codes "reasons") reasons

-- what `clap` makes of words, by its own contract
abbrev pub AreMatched : List (List ℕ) → ArgMatches → Type 0
AreMatched words matches = (app : App) × HasMatchesOf app words matches

-- These words make this request: `clap` matched them, and what it matched makes it.
abbrev pub WordsMakeRequest : List (List ℕ) → Request → Bool → Type 0
WordsMakeRequest words request reasons = (matches : ArgMatches) × AreMatched words matches × MakesRequest matches request reasons
