-- Codestreams that are looked for: what an index says of them, and where they stand in a recording.
use Rattle.std.specs.Prelude.{◌≡◌, ◌⊎◌, ℕ, ◌+◌, ◌<◌, ◌≤◌, ◌^◌, List, [], ◌∷◌, ◌++◌, length, drop, Option, None, Some, IfSome, slice_get, slice_set}
use Rattle.std.specs.List.{AllByRecursion, AllZip}
use Rattle.sha2.specs.Sha256.{sha256}
use Rattle.ls_film.specs.Film.{most_frames}
use Rattle.ls_frame.specs.View.Known.{Tells, Gave, known}
use Rattle.ls_archive.specs.declared.checking.CheckFault.{CheckFault}
use Rattle.ls_archive.specs.declared.checking.CheckFault.TheVariants as fault
use Rattle.ls_archive.specs.declared.places.Standing.{Standing}
use Rattle.ls_archive.specs.declared.places.Standing.TheVariants.{Codestream, Gap}
use Rattle.ls_archive.specs.declared.places.Wanted.{Wanted}
use Rattle.ls_archive.specs.Index.{Entry}
use Rattle.ls_archive.specs.View.Checking.{Line, AreLines, texts, size_of}
use Rattle.ls_archive.specs.View.Checks.{BeginsOtherwise, BeginsWithLine, FailsInLine}
use Rattle.ls_archive.specs.View.Entries.{IsEntry}
use Rattle.ls_film.specs.View.Memory.{HasBytes}

-- ---- the lines of an index

-- what a line says of its codestream, which begins at this offset
abbrev pub said : ℕ → Line → Wanted
said offset l = record { place = offset; count = l.size; sum = l.sum }

-- what lines say of theirs, of which the first begins at this offset
abbrev pub said_from : ℕ → List Line → List Wanted
said_from offset [] = []
said_from offset (l ∷ ls) = said offset l ∷ said_from (offset + l.size) ls

-- The index is lines, and this is what they say.
pub record IsSaidBy (index : Option (List ℕ)) (wanted : List Wanted) : Type 0 where
  pub lines : List Line
  pub are_lines : AreLines 0 0 lines
  pub few : length lines ≤ most_frames
  pub index_is : Tells index → known index ≡ texts lines
  pub said_are : wanted ≡ said_from 0 lines

-- The index begins with m lines, and P holds of their total size and of what follows them.
pub record BeginsWithLines (index : Option (List ℕ)) (m : ℕ) (P : ℕ → List ℕ → Type 0) : Type 0 where
  pub lines : List Line
  pub are_lines : AreLines 0 0 lines
  pub count : length lines ≡ m
  pub few : length lines ≤ most_frames
  pub begins : Tells index → (rest : List ℕ) × (known index ≡ texts lines ++ rest) × P (size_of lines) rest

-- at least one byte
abbrev pub HasMore : ℕ → List ℕ → Type 0
HasMore offset rest = HasBytes rest

-- what each fault says of the index's bytes, before and after it
abbrev pub StopsInIndex : Option (List ℕ) → Option (List ℕ) → CheckFault → Type 0
StopsInIndex index index' (fault.Line n) = BeginsWithLines index n (BeginsOtherwise n)
StopsInIndex index index' fault.IndexIo = (m : ℕ) × BeginsWithLines index m (FailsInLine index')
StopsInIndex index index' fault.Io = ⊥
StopsInIndex index index' fault.NoMemory = (m : ℕ) × BeginsWithLines index m HasMore
StopsInIndex index index' fault.TooMany = BeginsWithLines index most_frames (BeginsWithLine most_frames)

-- ---- what comes next in a recording that is read codestream by codestream

-- The reader gave this codestream, or passed over a gap of this size.
abbrev pub GaveStanding : Option (List ℕ) → Option (List ℕ) → Standing → Type 0
GaveStanding read read' (Codestream entry) = IsEntry entry × Gave read read' (λ bytes. bytes ≡ entry.bytes)
GaveStanding read read' (Gap count) = Tells read → Tells read' × (known read' ≡ drop count (known read))

-- a gap is shorter than 2^63 bytes
abbrev pub IsSmall : Standing → Type 0
IsSmall (Codestream entry) = Unit {0}
IsSmall (Gap count) = count < 2 ^ 63

-- ---- where the codestreams stand

-- At this place of the bytes stands a codestream that is complete by its markers and headers, of the size and with the SHA-256 that are wanted.
pub record StandsAt (bytes : List ℕ) (one : Wanted) (place : ℕ) : Type 0 where
  pub entry : Entry
  pub is_entry : IsEntry entry
  pub rest : List ℕ
  pub at : drop place bytes ≡ entry.bytes ++ rest
  pub size : one.count ≡ length entry.bytes
  pub sum : one.sum ≡ Some (sha256 entry.bytes)

-- each wanted codestream that has a place stands there
abbrev pub AreStanding : Option (List ℕ) → List Wanted → List (Option ℕ) → Type 0
AreStanding recording wanted places = Tells recording → AllZip (λ one place. IfSome place (StandsAt (known recording) one)) wanted places

-- each place is that of one codestream alone
abbrev pub AreApart : List (Option ℕ) → Type 0
AreApart [] = Unit {0}
AreApart (place ∷ places) = AllByRecursion (λ other. other ≡ place → place ≡ None) places × AreApart places

-- The wanted codestream of this number has this size and this sum, and no place yet.
pub record Fits (wanted : List Wanted) (places : List (Option ℕ)) (number count : ℕ) (sum : List ℕ) : Type 0 where
  pub one : Wanted
  pub is : slice_get wanted number ≡ Some one
  pub none : slice_get places number ≡ Some None
  pub size_is : one.count ≡ count
  pub sum_is : one.sum ≡ Some sum

-- The codestream that was picked was given this place; or it doesn't fit, and none was.
abbrev pub GivesPlace : List Wanted → List (Option ℕ) → List (Option ℕ) → ℕ → ℕ → ℕ → List ℕ → Type 0
GivesPlace wanted places places' picked place count sum =
    (Fits wanted places picked count sum × (places' ≡ slice_set places picked (Some place))) ⊎ (places' ≡ places)

-- its size, in bytes
abbrev pub size_standing : Standing → ℕ
size_standing (Codestream entry) = length entry.bytes
size_standing (Gap count) = count

-- What stands at this place was passed: the place of a codestream was given to one that was picked, or to none.
abbrev pub GivesStanding : List Wanted → List (Option ℕ) → List (Option ℕ) → ℕ → Standing → Type 0
GivesStanding wanted places places' place (Codestream entry) =
    (picked : ℕ) × GivesPlace wanted places places' picked place (length entry.bytes) (sha256 entry.bytes)
GivesStanding wanted places places' place (Gap count) = places' ≡ places
