-- A recording read codestream by codestream, as long as these are strict: each scan has exactly the data that encoding gives.
use Rattle.std.specs.Prelude.{◌≡◌, ℕ, Bool, false, List, [], Option, Some}
use Rattle.ls_frame.specs.Picture.{Picture}
use Rattle.ls_frame.specs.View.Known.{Gave}
use Rattle.ls_inspect.specs.Strict.{SpellsStrictly, SpellsLoosely}
use Rattle.ls_film.specs.declared.codestreams.Unread.{Unread}
use Rattle.ls_film.specs.declared.engine.Stopped.{Stopped}
use Rattle.ls_film.specs.declared.engine.Stopped.TheVariants as engine
use Rattle.ls_film.specs.declared.playing.PlayFault.{PlayFault}
use Rattle.ls_film.specs.View.Codestreams.{IsUnread, is_io}
use Rattle.ls_film.specs.View.Engine.{Completes, HasRun}
use Rattle.ls_film.specs.View.Playing.{play_fault}
use Rattle.ls_film.specs.View.Steps.{HasStopped}
use Rattle.ls_archive.specs.declared.strict.Strict.{Strict}
use Rattle.ls_archive.specs.declared.strict.Unstrict.{Unstrict}
use Rattle.ls_archive.specs.declared.strict.Unstrict.TheVariants as unstrict

-- nothing is written of frames
abbrev pub no_text : List Picture → List ℕ
no_text frames = []

-- the reader gave a codestream that isn't strict, and the scan of this component is the first with other data
abbrev pub GaveLoose : Option (List ℕ) → Option (List ℕ) → ℕ → Type 0
GaveLoose read read' component = Gave read read' (λ bytes. (f : Picture) × SpellsLoosely bytes f component)

-- what a fault of the next codestream says
abbrev pub IsUnstrict : Unstrict → Option (List ℕ) → Option (List ℕ) → Type 0
IsUnstrict (unstrict.Unread fault) read read' = IsUnread fault read read'
IsUnstrict (unstrict.Loose component) read read' = GaveLoose read read' component

abbrev pub is_device : Unstrict → Bool
is_device (unstrict.Unread fault) = is_io fault
is_device (unstrict.Loose component) = false

module _ (read read' : Option (List ℕ)) where
  -- The reader gave n codestreams, all strict, and is at its end.
  pub record IsStrict (n : ℕ) : Type 0 where
    pub written : Option (List ℕ)
    pub written' : Option (List ℕ)
    pub run : Completes SpellsStrictly no_text read read' written written' n

  -- It gave n strict codestreams, and then one whose first scan with other data is that of this component.
  pub record IsLoose (n component : ℕ) : Type 0 where
    pub before : Option (List ℕ)
    pub written : Option (List ℕ)
    pub written' : Option (List ℕ)
    pub bytes : ℕ
    pub run : HasRun SpellsStrictly no_text read before written written' n bytes
    pub loose : GaveLoose before read' component

  -- It gave strict codestreams, and then the engine stopped, which is this fault.
  pub record StopsStrict (fault : PlayFault) : Type 0 where
    pub stopped : Stopped Unread
    pub fault_is : fault ≡ play_fault stopped
    pub place : Option (List ℕ)
    pub written : Option (List ℕ)
    pub written' : Option (List ℕ)
    pub run : HasStopped SpellsStrictly IsUnread no_text read place read' written written' stopped

-- ---- why the engine stopped, as it is returned

-- it stopped at the first codestream that isn't strict, after this many
abbrev pub IsFoundBy : Stopped Unstrict → Strict → Type 0
IsFoundBy (engine.Input m (unstrict.Loose component)) found = (found.frames ≡ m) × (found.loose ≡ Some component)
IsFoundBy (engine.Input m (unstrict.Unread fault)) found = ⊥
IsFoundBy (engine.Output bytes) found = ⊥
IsFoundBy engine.NoMemory found = ⊥
IsFoundBy engine.TooMany found = ⊥

-- it stopped for another reason, which this fault tells
abbrev pub IsFaultBy : Stopped Unstrict → PlayFault → Type 0
IsFaultBy (engine.Input m (unstrict.Loose component)) fault = ⊥
IsFaultBy (engine.Input m (unstrict.Unread unread)) fault = fault ≡ play_fault (engine.Input m unread)
IsFaultBy (engine.Output bytes) fault = fault ≡ play_fault (engine.Output bytes)
IsFaultBy engine.NoMemory fault = fault ≡ play_fault engine.NoMemory
IsFaultBy engine.TooMany fault = fault ≡ play_fault engine.TooMany
