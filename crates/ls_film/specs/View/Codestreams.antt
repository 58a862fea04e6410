-- The next codestream of a recording: what is taken off a reader, what is made of its frame, and why there is none.
use Rattle.std.specs.Prelude.{◌≡◌, ◌⊎◌, ◌↔◌, ◌<◌, ℕ, Bool, true, false, List, ◌++◌, length, take, Option, Ok}
use Rattle.ls_bits.specs.Bits.{AreBytes}
use Rattle.ls_frame.specs.Picture.{Picture}
use Rattle.ls_frame.specs.View.Known.{Tells, Gave, HadBytes, known}
use Rattle.ls_stream.specs.declared.faults.StreamFault.{StreamFault}
use Rattle.ls_stream.specs.declared.faults.StreamFault.TheVariants as stream
use Rattle.ls_stream.specs.declared.next.NextFault.{NextFault}
use Rattle.ls_stream.specs.declared.next.NextFault.TheVariants as next_fault
use Rattle.ls_stream.specs.Grammar.{Spells}
use Rattle.ls_stream.specs.View.Extents.{IsNext, IsUndecided, BeginsEndless, with_left}
use Rattle.ls_stream.specs.View.Outlines.{Outline, outline_of, IsFirstFault}
use Rattle.ls_film.specs.declared.codestreams.Unread.{Unread}
use Rattle.ls_film.specs.declared.codestreams.Unread.TheVariants.{Stream, Io}

-- ---- why there is none

-- There are bytes, and no front of them is a codestream of a frame.
pub record BeginsWithNone (bytes : List ℕ) : Type 0 where
  pub some : 0 < length bytes
  pub none : (front rest : List ℕ) (f : Picture) → bytes ≡ front ++ rest → Spells front f → ⊥

-- It is the first fault of the bytes; or as many of them as a codestream may have show by their markers neither an end nor a fault, and it says that
-- they are too many. (If there are exactly that many, their first fault is that they are truncated.)
abbrev pub IsFaultOf : List ℕ → StreamFault → Type 0
IsFaultOf bytes fault = (AreBytes bytes → IsFirstFault bytes fault) ⊎ ((fault ≡ stream.TooLarge) × BeginsEndless bytes)

-- They begin with no codestream, and have this fault.
abbrev pub BreaksBy : StreamFault → List ℕ → Type 0
BreaksBy fault bytes = BeginsWithNone bytes × IsFaultOf bytes fault

-- A read failed before the next codestream was read whole.
abbrev pub FailsReading : Option (List ℕ) → Option (List ℕ) → Type 0
FailsReading read read' = Gave read read' IsUndecided

-- What a fault says of the known bytes that were left, and of what a reader left of these: they begin with no codestream, and have this fault; or an
-- allocation failed, of which there is none at the end; or a read failed.
abbrev pub IsUnread : Unread → Option (List ℕ) → Option (List ℕ) → Type 0
IsUnread (Stream fault) read read' = ((fault ≡ stream.NoMemory) × HadBytes read) ⊎ (Tells read → BreaksBy fault (known read))
IsUnread Io read read' = FailsReading read read'

-- The same of a codestream that can't be taken: the bytes that were left are too many for one, and begin with none.
abbrev pub IsUntaken : Unread → Option (List ℕ) → Option (List ℕ) → Type 0
IsUntaken (Stream fault) read read' =
    ((fault ≡ stream.NoMemory) × HadBytes read) ⊎ ((fault ≡ stream.TooLarge) × (Tells read → BeginsWithNone (known read) × BeginsEndless (known read)))
IsUntaken Io read read' = FailsReading read read'

abbrev pub is_io : Unread → Bool
is_io (Stream fault) = false
is_io Io = true

-- why the next codestream can't be taken
abbrev pub unread_of : NextFault → Unread
unread_of next_fault.TooLarge = Stream stream.TooLarge
unread_of next_fault.Io = Io
unread_of next_fault.NoMemory = Stream stream.NoMemory

-- ---- what is taken and made

-- These bytes are the next codestream of a reader, which gave exactly them: where a codestream of a frame begins what it had left,
-- they are that one, and else they have the first fault of all that was left. What their headers say is what all that was left says.
pub record IsTaken (read read' : Option (List ℕ)) (bytes : List ℕ) : Type 0 where
  pub gave : Gave read read' (λ taken. (bytes ≡ taken) × IsNext taken (known read'))
  pub complete : Tells read → (front rest : List ℕ) (f : Picture) → known read ≡ front ++ rest → Spells front f → bytes ≡ front
  pub outline : Tells read → outline_of (known read) ≡ with_left (known read') (outline_of bytes)
  pub fault : Tells read → AreBytes (known read) → (fault : StreamFault) → IsFirstFault bytes fault ↔ IsFirstFault (known read) fault

-- It was made of a frame whose codestream the bytes begin with. Of which frame it is made is said by a parameter.
abbrev pub IsMadeOf : {T : Type 0} → (Picture → T → Type 0) → List ℕ → T → Type 0
IsMadeOf made bytes x = (f : Picture) × (used : ℕ) × Spells (take used bytes) f × made f x

-- An allocation failed; or the bytes begin with no codestream of a frame, and it is their first fault.
abbrev pub IsUnmade : List ℕ → StreamFault → Type 0
IsUnmade bytes fault =
    (fault ≡ stream.NoMemory) ⊎ (((front rest : List ℕ) (f : Picture) → bytes ≡ front ++ rest → Spells front f → ⊥) × IsFirstFault bytes fault)

-- ---- what is passed over

-- a codestream at the front of these bytes has no fault in its markers and headers
abbrev pub IsOutlined : List ℕ → Type 0
IsOutlined bytes = (outline : Outline) × (left : List ℕ) × (outline_of bytes ≡ Ok (outline, left))

-- A reader gave the next codestream, which has no fault in its markers and headers.
abbrev pub WasPassed : Option (List ℕ) → Option (List ℕ) → Type 0
WasPassed read read' = (bytes : List ℕ) × Gave read read' (λ taken. (bytes ≡ taken) × IsNext taken (known read')) × IsOutlined bytes
