-- The next codestream of a recording, if it is strict or isn't, and why the engine over strict ones stopped.
use Rattle.std.proofs.Common.{◌≡◌, ℕ, List, ◌++◌, take, drop, Option, None, Some, Result, Ok, Err, IfOk, IfErr, IfSome, IfNone, MatchResult, sym, ap, subst, ◌∙◌, append_assoc}
use Rattle.std.proofs.lemmas.List.{take-append-drop}
use Rattle.ls_frame.specs.Picture.{Picture, IsFrame}
use Rattle.ls_frame.specs.View.Known.{Gave, known}
use Rattle.ls_stream.specs.Grammar.{Spells}
use Rattle.ls_inspect.specs.Strict.{SpellsStrictly, SpellsLoosely}
use Rattle.ls_film.specs.declared.engine.Stopped.{Stopped}
use Rattle.ls_film.specs.declared.engine.Stopped.TheVariants.{Input, Output, NoMemory, TooMany}
use Rattle.ls_film.specs.declared.playing.PlayFault.{PlayFault}
use Rattle.ls_film.specs.View.Codestreams.{IsTaken}
use Rattle.ls_film.specs.View.Steps.{HasStopped}
use Rattle.ls_archive.specs.declared.strict.Strict.{Strict}
use Rattle.ls_archive.specs.declared.strict.Unstrict.{Unstrict}
use Rattle.ls_archive.specs.declared.strict.Unstrict.TheVariants as unstrict
use Rattle.ls_archive.specs.View.Strict.{GaveLoose, IsUnstrict, IsStrict, IsLoose, StopsStrict, IsFoundBy, IsFaultBy, no_text}

-- a codestream at the front of what was taken is all that the reader gave, so what is known of it is known of that
pub gave_all : (read read' : Option (List ℕ)) (bytes : List ℕ) (used : ℕ) (f : Picture) (P : List ℕ → Type 0) → IsTaken read read' bytes
    → Spells (take used bytes) f → P (take used bytes) → Gave read read' P
gave_all read read' bytes used f P taken spells p = λ told.
    let gave = taken.gave told in
    let whole : known read ≡ bytes ++ known read' = gave.2 ∙ ap (λ s. s ++ known read') (sym gave.3.0) in
    let split : bytes ++ known read' ≡ take used bytes ++ (drop used bytes ++ known read') =
    ap (λ s. s ++ known read') (sym (take-append-drop used bytes)) ∙ append_assoc (take used bytes) (drop used bytes) (known read') in
    let is : bytes ≡ take used bytes = taken.complete told (take used bytes) (drop used bytes ++ known read') f (whole ∙ split) spells in
    (gave.0, bytes, whole, subst P (sym is) p)

-- what is known of a codestream at the front of what was taken, if it is strict or isn't
module _ (read read' : Option (List ℕ)) (bytes : List ℕ) (used : ℕ) (taken : IsTaken read read' bytes) where
  pub gave_strict : (f : Picture) → SpellsStrictly (take used bytes) f → IsFrame f × Gave read read' (λ image. SpellsStrictly image f)
  gave_strict f strict = (strict.spells.frame, gave_all read read' bytes used f (λ image. SpellsStrictly image f) taken strict.spells strict)

  pub gave_loose : (f : Picture) (component : ℕ) → SpellsLoosely (take used bytes) f component → GaveLoose read read' component
  gave_loose f component loose =
      gave_all read read' bytes used f (λ image. (g : Picture) × SpellsLoosely image g component) taken loose.spells (f, loose)

-- why the engine over strict codestreams stopped, as it is returned
module _ (read read' written written' : Option (List ℕ)) where
  loose_by : (stopped : Stopped Unstrict) (found : Strict) (place : Option (List ℕ))
      → HasStopped SpellsStrictly IsUnstrict no_text read place read' written written' stopped
      → IsFoundBy stopped found → IfSome found.loose (IsLoose read read' found.frames)
  loose_by (Input m (unstrict.Loose component)) found place stop is =
      subst (λ loose. IfSome loose (IsLoose read read' found.frames)) (sym is.1)
      (subst (λ n. IsLoose read read' n component) (sym is.0)
      record { before = stop.0; written = written; written' = written'; bytes = stop.1; run = stop.2; loose = stop.3 })
  loose_by (Input m (unstrict.Unread fault)) found place stop is = absurd is
  loose_by (Output bytes) found place stop is = absurd is
  loose_by NoMemory found place stop is = absurd is
  loose_by TooMany found place stop is = absurd is

  is_some : (stopped : Stopped Unstrict) (found : Strict) → IsFoundBy stopped found → IfNone found.loose ⊥
  is_some (Input m (unstrict.Loose component)) found is = subst (λ loose. IfNone loose ⊥) (sym is.1) tt
  is_some (Input m (unstrict.Unread fault)) found is = absurd is
  is_some (Output bytes) found is = absurd is
  is_some NoMemory found is = absurd is
  is_some TooMany found is = absurd is

  none-by : (loose : Option ℕ) (P : Type 0) → IfNone loose ⊥ → IfNone loose P
  none-by (Some component) P is = tt
  none-by None P is = absurd is

  stops_by : (stopped : Stopped Unstrict) (fault : PlayFault) (place : Option (List ℕ))
      → HasStopped SpellsStrictly IsUnstrict no_text read place read' written written' stopped → IsFaultBy stopped fault → StopsStrict read read' fault
  stops_by (Input m (unstrict.Loose component)) fault place stop is = absurd is
  stops_by (Input m (unstrict.Unread unread)) fault place stop is = record {
    stopped = Input m unread;
    fault_is = is;
    place = place;
    written = written;
    written' = written';
    run = stop;
  }
  stops_by (Output bytes) fault place stop is = record {
    stopped = Output bytes;
    fault_is = is;
    place = place;
    written = written;
    written' = written';
    run = stop;
  }
  stops_by NoMemory fault place stop is = record {
    stopped = NoMemory;
    fault_is = is;
    place = place;
    written = written;
    written' = written';
    run = stop;
  }
  stops_by TooMany fault place stop is = record {
    stopped = TooMany;
    fault_is = is;
    place = place;
    written = written;
    written' = written';
    run = stop;
  }

  module _ (stopped : Stopped Unstrict) (place : Option (List ℕ)) (stop : HasStopped SpellsStrictly IsUnstrict no_text read place read' written written' stopped) where
    pub found-loose : (result : Result Strict PlayFault) → MatchResult result (IsFoundBy stopped) (IsFaultBy stopped)
        → IfOk result (λ found. IfSome found.loose (IsLoose read read' found.frames))
    found-loose (Ok found) is = loose_by stopped found place stop is
    found-loose (Err fault) is = tt

    pub found-strict : (result : Result Strict PlayFault) → MatchResult result (IsFoundBy stopped) (IsFaultBy stopped)
        → IfOk result (λ found. IfNone found.loose (IsStrict read read' found.frames))
    found-strict (Ok found) is = none-by found.loose (IsStrict read read' found.frames) (is_some stopped found is)
    found-strict (Err fault) is = tt

    pub found-stops : (result : Result Strict PlayFault) → MatchResult result (IsFoundBy stopped) (IsFaultBy stopped) → IfErr result (StopsStrict read read')
    found-stops (Ok found) is = tt
    found-stops (Err fault) is = stops_by stopped fault place stop is
