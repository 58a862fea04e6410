-- Codestreams that were taken off a reader ahead of their turn, and the next of them.
use Rattle.std.specs.Prelude.{◌≡◌, ℕ, Bool, false, List, [], ◌∷◌, length, map, Option, Result, MatchResult}
use Rattle.std.specs.List.{AllByRecursion}
use Rattle.ls_frame.specs.Picture.{Picture}
use Rattle.ls_frame.specs.View.Known.{WasAtEnd}
use Rattle.ls_stream.specs.Grammar.{Spells}
use Rattle.ls_film.specs.declared.ahead.After.{After}
use Rattle.ls_film.specs.declared.ahead.After.TheVariants.{More, End, Fault}
use Rattle.ls_film.specs.declared.ahead.Ahead.{Ahead}
use Rattle.ls_film.specs.declared.ahead.Fetched.{Fetched}
use Rattle.ls_film.specs.declared.codestreams.Unread.{Unread}
use Rattle.ls_film.specs.View.Codestreams.{IsTaken, IsMadeOf, IsUnmade, IsUnread, is_io}
use Rattle.ls_film.specs.View.Sources.{GivesImage}

-- ---- codestreams that were taken at once

-- What is to be made of a fetched codestream's frame was made, or its fault found.
abbrev pub IsMade : {T : Type 0} → (Picture → T → Type 0) → Fetched T → Type 0
IsMade made job = MatchResult job.made (IsMadeOf made job.bytes.items) (IsUnmade job.bytes.items)

-- the codestreams that were fetched
abbrev pub codestreams_of : {T : Type 0} → List (Fetched T) → List (List ℕ)
codestreams_of jobs = map (λ job. job.bytes.items) jobs

-- They were taken off a reader, one after the other.
abbrev pub AreTaken : Option (List ℕ) → Option (List ℕ) → List (List ℕ) → Type 0
AreTaken read read' [] = read ≡ read'
AreTaken read read' (bytes ∷ more) = (mid : Option (List ℕ)) × IsTaken read mid bytes × AreTaken mid read' more

-- what comes after codestreams that were taken
abbrev pub ComesAfter : Option (List ℕ) → Option (List ℕ) → After → Type 0
ComesAfter read read' More = read ≡ read'
ComesAfter read read' End = WasAtEnd read read'
ComesAfter read read' (Fault fault) = IsUnread fault read read'

-- A reader gave these codestreams, and then what comes after them.
pub record IsBatch {T : Type 0} (read read' : Option (List ℕ)) (batch : Ahead T) : Type 0 where
  pub mid : Option (List ℕ)
  pub taken : AreTaken read mid (codestreams_of batch.jobs.items)
  pub after : ComesAfter mid read' batch.after

-- They are as many as were asked for, unless an end or a fault comes after them.
abbrev pub IsFull : {T : Type 0} → ℕ → Ahead T → Type 0
IsFull most batch = batch.after ≡ More → length batch.jobs.items ≡ most

-- whether a read failed after them
abbrev pub failed_after : After → Bool
failed_after More = false
failed_after End = false
failed_after (Fault fault) = is_io fault

-- ---- codestreams that are read ahead

module _ {T : Type 0} (made : Picture → T → Type 0) where
  -- A reader, which was at this place, gave these codestreams, which were worked on, and is now where they end, or saw what comes after them.
  pub record IsAhead (place read : Option (List ℕ)) (ahead : Ahead T) : Type 0 where
    pub mid : Option (List ℕ)
    pub taken : AreTaken place mid (codestreams_of ahead.jobs.items)
    pub worked : AllByRecursion (IsMade made) ahead.jobs.items
    pub after : ComesAfter mid read ahead.after

  -- what the next codestream at this place gives
  abbrev pub GivesAhead : Option (List ℕ) → Option (List ℕ) → Ahead T → Result (Option T) Unread → Type 0
  GivesAhead place read ahead result =
      GivesImage Spells made IsUnread (λ jobs here now. IsAhead here now jobs) place read ahead result
