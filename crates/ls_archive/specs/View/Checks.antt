-- What a check by an index says of its two readers and of the findings that it reports.
use Rattle.std.specs.Prelude.{◌≡◌, ◌⊎◌, ◌↔◌, ℕ, ◌+◌, ◌<◌, ◌≤◌, Bool, true, false, IsTrue, List, [], ◌∷◌, ◌++◌, ◌==◌, ◌&&◌, ◌||◌, nat_le, length, take, drop, codes, Option, None, Some}
use Rattle.ls_film.specs.Film.{most_frames}
use Rattle.ls_film.specs.View.Memory.{HasBytes}
use Rattle.ls_frame.specs.View.Known.{Tells, Gave, HadBytes, WasAtEnd, known}
use Rattle.ls_archive.specs.declared.checking.Damage.{Damage}
use Rattle.ls_archive.specs.declared.checking.Finding.{Finding}
use Rattle.ls_archive.specs.declared.checking.Checked.{Checked}
use Rattle.ls_archive.specs.declared.checking.CheckFault.{CheckFault}
use Rattle.ls_archive.specs.declared.checking.CheckFault.TheVariants as fault
use Rattle.ls_archive.specs.View.Checking.{Line, HasNoLineFeed, IsLine, AreLines, texts, IsGood, IsDamage, IsOf, AreFound, size_of}

-- ---- what is reported

-- more findings were added to those reported before, if these are known; else they stay unknown
abbrev pub FindsMore : Option (List Finding) → Option (List Finding) → List Finding → Type 0
FindsMore None new more = new ≡ None
FindsMore (Some told) new more = new ≡ Some (told ++ more)

-- ---- what is read

-- The reader gave this many bytes, or all that were left.
pub record GaveAtMost (old new : Option (List ℕ)) (most : ℕ) (bytes : List ℕ) : Type 0 where
  pub tells : Tells old → Tells new
  pub taken : Tells old → bytes ≡ take most (known old)
  pub left : Tells old → known new ≡ drop most (known old)

-- There is at least one byte, and none but perhaps the last is LF.
pub record IsOneLine (text : List ℕ) : Type 0 where
  pub first : List ℕ
  pub last : ℕ
  pub text_is : text ≡ first ++ last ∷ []
  pub one : HasNoLineFeed first

-- If LF is among the first 1,024 bytes, the text is the bytes up to and including the first LF.
abbrev pub IsFrontLine : List ℕ → List ℕ → Type 0
IsFrontLine bytes text = (front rest : List ℕ) → bytes ≡ (front ++ codes "\n") ++ rest → HasNoLineFeed front → length front < 1024 → text ≡ front ++ codes "\n"

-- a byte of a number, of a word in small letters, or a blank
abbrev pub is_of_line : ℕ → Bool
is_of_line byte = byte == 32 || nat_le 48 byte && nat_le byte 57 || nat_le 97 byte && nat_le byte 122

abbrev pub are_of_line : List ℕ → Bool
are_of_line [] = true
are_of_line (byte ∷ bytes) = is_of_line byte && are_of_line bytes

-- bytes that may be the beginning of a line that isn't written whole: each is of a line, none is LF, and they are fewer than a line may have
abbrev pub IsTorn : List ℕ → Type 0
IsTorn bytes = HasNoLineFeed bytes × (length bytes < 1024) × (are_of_line bytes ≡ true)

-- There was no other line: the reader was at its end; or, if lines may still be written, had at most the torn beginning of one.
abbrev pub EndsLines : Bool → Option (List ℕ) → Option (List ℕ) → Type 0
EndsLines false old new = WasAtEnd old new
EndsLines true old new = Tells old → Tells new × (known new ≡ []) × IsTorn (known old)

-- ---- a check

-- The index is these lines, and the findings those on the recording; `more` says whether the recording goes on after them.
pub record IsChecked (index recording : Option (List ℕ)) (found found' : Option (List Finding)) (checked : Checked) : Type 0 where
  pub lines : List Line
  pub are_lines : AreLines 0 0 lines
  pub count : length lines ≡ checked.frames
  pub few : length lines ≤ most_frames
  pub index_is : Tells index → known index ≡ texts lines
  pub findings : List Finding
  pub damaged : length findings ≡ checked.damaged
  pub told : FindsMore found found' findings
  pub are_found : Tells recording → AreFound 0 0 lines (known recording) findings
  pub bytes : size_of lines ≡ checked.bytes
  pub more : Tells recording → IsTrue checked.more ↔ (size_of lines < length (known recording))

-- what is wrong with the bytes of a line, or none if they are good
abbrev pub IsFound : ℕ → ℕ → Line → List ℕ → Option Damage → Type 0
IsFound n offset l bytes None = IsGood n offset l.text bytes
IsFound n offset l bytes (Some damage) = (IsGood n offset l.text bytes → ⊥) × IsDamage n offset l bytes damage

-- The bytes of a line were looked at: they are good, and nothing was reported; or they aren't, and one finding was.
pub record HasLooked (n offset : ℕ) (l : Line) (bytes : List ℕ) (found found' : Option (List Finding)) (damaged : ℕ) : Type 0 where
  pub findings : List Finding
  pub damaged_are : length findings ≡ damaged
  pub few : damaged ≤ 1
  pub told : FindsMore found found' findings
  pub are : (IsGood n offset l.text bytes × (findings ≡ [])) ⊎ ((IsGood n offset l.text bytes → ⊥) × ((finding : Finding) × (findings ≡ finding ∷ []) × IsOf n offset l bytes finding))

-- So far the lines from the first one on were read, of which the codestream begins at `start`; line n is the next one, and its codestream
-- begins at this offset. What is wrong with the bytes between these was found, and what is found in the rest adds to these findings.
pub record HasChecked (first start : ℕ) (index index' recording recording' : Option (List ℕ)) (found found' : Option (List Finding)) (n offset damaged : ℕ) : Type 0 where
  pub lines : List Line
  pub count : first + length lines ≡ n
  pub few : first + length lines ≤ most_frames
  pub size : start + size_of lines ≡ offset
  pub more_lines : (more : List Line) → AreLines n offset more → AreLines first start (lines ++ more)
  pub gave : Gave index index' (λ bytes. bytes ≡ texts lines)
  pub findings : List Finding
  pub damaged_are : length findings ≡ damaged
  pub told : FindsMore found found' findings
  pub tells : Tells recording → Tells recording'
  pub more_found : Tells recording → (more : List Line) (besides : List Finding) → AreFound n offset more (known recording') besides
      → AreFound first start (lines ++ more) (known recording) (findings ++ besides)
  pub left : Tells recording → known recording' ≡ drop (size_of lines) (known recording)

-- ---- where a check stops

-- The index begins with the lines from the first one on and before line m, the first one's codestream begins at `start`, the findings are
-- those on these lines, and P holds of their total size and of what follows them in the index.
pub record StopsAfter (first start : ℕ) (index recording : Option (List ℕ)) (found found' : Option (List Finding)) (m : ℕ) (P : ℕ → List ℕ → Type 0) : Type 0 where
  pub lines : List Line
  pub are_lines : AreLines first start lines
  pub count : first + length lines ≡ m
  pub few : first + length lines ≤ most_frames
  pub begins : Tells index → (rest : List ℕ) × (known index ≡ texts lines ++ rest) × P (size_of lines) rest
  pub findings : List Finding
  pub told : FindsMore found found' findings
  pub are_found : Tells recording → AreFound first start lines (known recording) findings

-- the bytes begin with the line n, whose codestream begins at this offset
abbrev pub BeginsWithLine : ℕ → ℕ → List ℕ → Type 0
BeginsWithLine n offset bytes = (l : Line) × (rest : List ℕ) × (bytes ≡ l.text ++ rest) × IsLine n offset l

-- there are bytes, and they don't begin with that line
abbrev pub BeginsOtherwise : ℕ → ℕ → List ℕ → Type 0
BeginsOtherwise n offset bytes = (0 < length bytes) × (BeginsWithLine n offset bytes → ⊥)

-- no condition
abbrev pub Anything : ℕ → List ℕ → Type 0
Anything offset bytes = Unit {0}

-- Not all was read: these bytes of the index are left, or the recording goes on at this offset.
abbrev pub GoesOn : Option (List ℕ) → ℕ → List ℕ → Type 0
GoesOn recording offset rest = HasBytes rest ⊎ (Tells recording → offset < length (known recording))

-- What each fault says: the line of this number isn't a line of an index; a read failed; an allocation failed, which it never does when
-- all was read; there is one line more than an index may have.
abbrev pub Stops : Option (List ℕ) → Option (List ℕ) → Option (List Finding) → Option (List Finding) → CheckFault → Type 0
Stops index recording found found' (fault.Line n) = StopsAfter 0 0 index recording found found' n (BeginsOtherwise n)
Stops index recording found found' fault.IndexIo = (m : ℕ) × StopsAfter 0 0 index recording found found' m Anything
Stops index recording found found' fault.Io = (m : ℕ) × StopsAfter 0 0 index recording found found' m Anything
Stops index recording found found' fault.NoMemory = (m : ℕ) × StopsAfter 0 0 index recording found found' m (GoesOn recording)
Stops index recording found found' fault.TooMany = StopsAfter 0 0 index recording found found' most_frames (BeginsWithLine most_frames)

-- ---- where a read failed

-- The index gave a front of these bytes that has no LF, and then a read of it failed.
abbrev pub FailsInLine : Option (List ℕ) → ℕ → List ℕ → Type 0
FailsInLine index' offset rest = Tells index' × (front : List ℕ) × (rest ≡ front ++ known index') × HasNoLineFeed front

-- The recording gave fewer than this many bytes of those from the offset on, and then a read of it failed.
abbrev pub FailsWithin : Option (List ℕ) → Option (List ℕ) → ℕ → ℕ → Type 0
FailsWithin recording recording' most offset = Tells recording →
    Tells recording' × (front : List ℕ) × (drop offset (known recording) ≡ front ++ known recording') × (length front < most)

-- The index gave line n, which begins these bytes, and the recording a part of that line's bytes, and then a read of the recording failed; or
-- these bytes are none, and the read that failed was of the recording's next byte.
abbrev pub FailsInBytes : Option (List ℕ) → Option (List ℕ) → Option (List ℕ) → ℕ → ℕ → List ℕ → Type 0
FailsInBytes index' recording recording' n offset rest =
    ((l : Line) × IsLine n offset l × (rest ≡ l.text ++ known index') × FailsWithin recording recording' l.size offset)
    ⊎ ((rest ≡ []) × FailsWithin recording recording' 1 offset)

-- If a read failed, the findings on all lines whose bytes were read before were reported: those on the m lines before the one that couldn't be
-- read, or whose bytes couldn't. What each reader has left, and the findings, come before and after.
abbrev pub Fails : Option (List ℕ) → Option (List ℕ) → Option (List ℕ) → Option (List ℕ) → Option (List Finding) → Option (List Finding) → CheckFault → Type 0
Fails index index' recording recording' found found' (fault.Line n) = Unit {0}
Fails index index' recording recording' found found' fault.IndexIo = (m : ℕ) × StopsAfter 0 0 index recording found found' m (FailsInLine index')
Fails index index' recording recording' found found' fault.Io = (m : ℕ) × StopsAfter 0 0 index recording found found' m (FailsInBytes index' recording recording' m)
Fails index index' recording recording' found found' fault.NoMemory = Unit {0}
Fails index index' recording recording' found found' fault.TooMany = Unit {0}

-- what a stop at line n, whose codestream begins at this offset, says of the index's bytes, before and after it
abbrev pub StopsNextLine : Option (List ℕ) → Option (List ℕ) → ℕ → ℕ → CheckFault → Type 0
StopsNextLine index index' n offset (fault.Line m) = (m ≡ n) × (Tells index → BeginsOtherwise n offset (known index))
StopsNextLine index index' n offset fault.IndexIo = Gave index index' HasNoLineFeed
StopsNextLine index index' n offset fault.Io = ⊥
StopsNextLine index index' n offset fault.NoMemory = HadBytes index
StopsNextLine index index' n offset fault.TooMany = ⊥

-- what a stop at this many bytes of the recording says of its bytes, before and after it
abbrev pub StopsReading : Option (List ℕ) → Option (List ℕ) → ℕ → CheckFault → Type 0
StopsReading recording recording' most (fault.Line m) = ⊥
StopsReading recording recording' most fault.IndexIo = ⊥
StopsReading recording recording' most fault.Io = Gave recording recording' (λ front. length front < most)
StopsReading recording recording' most fault.NoMemory = HadBytes recording
StopsReading recording recording' most fault.TooMany = ⊥

-- The bytes of the index from a line on aren't the torn beginning of one, if that isn't taken for a line, and the fault is of the line.
abbrev pub IsUntorn : Bool → Option (List ℕ) → CheckFault → Type 0
IsUntorn growing index (fault.Line n) = growing ≡ true → Tells index → IsTorn (known index) → ⊥
IsUntorn growing index fault.IndexIo = Unit {0}
IsUntorn growing index fault.Io = Unit {0}
IsUntorn growing index fault.NoMemory = Unit {0}
IsUntorn growing index fault.TooMany = Unit {0}

-- whether a check failed because a read of the index did, and because a read of the recording did
abbrev pub blames_index : CheckFault → Bool
blames_index (fault.Line n) = false
blames_index fault.IndexIo = true
blames_index fault.Io = false
blames_index fault.NoMemory = false
blames_index fault.TooMany = false

abbrev pub blames_recording : CheckFault → Bool
blames_recording (fault.Line n) = false
blames_recording fault.IndexIo = false
blames_recording fault.Io = true
blames_recording fault.NoMemory = false
blames_recording fault.TooMany = false
