-- Frames of a recording that are shown by the lines of its index: each codestream has exactly its line.
use Rattle.std.specs.Prelude.{◌≡◌, ◌⊎◌, ℕ, ◌+◌, ◌^◌, ◌<◌, ◌≤◌, List, [], ◌∷◌, ◌++◌, length, take, drop, map, flat_map, codes, Option, None, Bool, true, false}
use Rattle.std.specs.Io.KnownBytes.{Appends}
use Rattle.std.specs.List.{AllZip}
use Rattle.ls_frame.specs.Canonical.{canonical}
use Rattle.ls_frame.specs.Picture.{Picture}
use Rattle.ls_frame.specs.View.Known.{Gave, HadBytes, WasAtEnd}
use Rattle.ls_stream.specs.Grammar.{Spells}
use Rattle.ls_film.specs.Film.{most_frames}
use Rattle.ls_film.specs.Showing.{show}
use Rattle.ls_archive.specs.View.Checking.{Line as IndexLine, IsLine, AreLines, texts, size_of, HasLine, IsGood, IsDamage, AreFound}
use Rattle.ls_archive.specs.View.Checks.{GaveAtMost, StopsNextLine, StopsReading}
use Rattle.ls_archive.specs.declared.checking.CheckFault.{CheckFault}
use Rattle.ls_archive.specs.declared.checking.CheckFault.TheVariants as fault
use Rattle.ls_archive.specs.declared.checking.Damage.{Damage}
use Rattle.ls_archive.specs.declared.listed.ListedFault.{ListedFault}
use Rattle.ls_archive.specs.declared.listed.ListedFault.TheVariants.{Line, IndexIo, Damaged, Io, Output, NoMemory, TooFew}

-- ---- what is shown

-- A frame that is shown: the text of its line, its codestream, and the frame.
pub record Shown : Type 0 where
  pub text : List ℕ
  pub codestream : List ℕ
  pub frame : Picture

-- The text is the line, as number n and with this offset, of the codestream, with its sum or without; and that is one of the frame.
pub record IsShown (n offset : ℕ) (s : Shown) : Type 0 where
  pub has : HasLine n offset s.text s.codestream
  pub spells : Spells s.codestream s.frame

-- They are numbered from n on; the first codestream begins at this offset, and each other where the one before it ends.
abbrev pub AreShown : ℕ → ℕ → List Shown → Type 0
AreShown n offset [] = Unit {0}
AreShown n offset (s ∷ ss) = IsShown n offset s × AreShown (n + 1) (offset + length s.codestream) ss

-- their lines, their codestreams, each joined with nothing between them, and their frames
abbrev pub texts_of : List Shown → List ℕ
texts_of shown = flat_map (λ s. s.text) shown

abbrev pub codestreams_of : List Shown → List ℕ
codestreams_of shown = flat_map (λ s. s.codestream) shown

abbrev pub frames_of : List Shown → List Picture
frames_of shown = map (λ s. s.frame) shown

-- ---- a run

module _ (index index' recording recording' written written' : Option (List ℕ)) (first offset : ℕ) where
  -- So far n frames were shown, numbered from the first on: the index gave their lines, the recording their codestreams, of which the first
  -- begins at this offset and the last ends at the next one, and their images, of this many bytes, were written.
  pub record HasShown (n next bytes : ℕ) : Type 0 where
    pub shown : List Shown
    pub count : length shown ≡ n
    pub more : (others : List Shown) → AreShown (first + n) next others → AreShown first offset (shown ++ others)
    pub next_is : next ≡ offset + length (codestreams_of shown)
    pub gave_lines : Gave index index' (λ read. read ≡ texts_of shown)
    pub gave : Gave recording recording' (λ read. read ≡ codestreams_of shown)
    pub wrote : Appends written written' (show (frames_of shown))
    pub bytes_are : bytes ≡ length (show (frames_of shown))

  -- Exactly these n frames were shown.
  pub record Shows (n : ℕ) : Type 0 where
    pub shown : List Shown
    pub count : length shown ≡ n
    pub are : AreShown first offset shown
    pub gave_lines : Gave index index' (λ read. read ≡ texts_of shown)
    pub gave : Gave recording recording' (λ read. read ≡ codestreams_of shown)
    pub wrote : Appends written written' (show (frames_of shown))

-- The index gave line n, with this offset, and the recording its codestream, of this size, whose frame has this image.
pub record GivesShown (index index' recording recording' : Option (List ℕ)) (n offset size : ℕ) (image : List ℕ) : Type 0 where
  pub shown : Shown
  pub is : IsShown n offset shown
  pub size_is : size ≡ length shown.codestream
  pub gave_line : Gave index index' (λ read. read ≡ shown.text)
  pub gave : Gave recording recording' (λ read. read ≡ shown.codestream)
  pub image_is : image ≡ canonical shown.frame

-- ---- where it stops

-- The index gave line n, with this offset, and the recording the line's bytes, or all that were left, which are damaged so.
abbrev pub IsDamagedNext : Option (List ℕ) → Option (List ℕ) → Option (List ℕ) → Option (List ℕ) → ℕ → ℕ → Damage → Type 0
IsDamagedNext index index' recording recording' n offset damage =
    (l : IndexLine) × (bytes : List ℕ) × IsLine n offset l × Gave index index' (λ read. l.text ≡ read) × GaveAtMost recording recording' l.size bytes
    × (IsGood n offset l.text bytes → ⊥) × IsDamage n offset l bytes damage

-- What a stop at line n says: its own fault, as of a check; what is wrong with its codestream; a read of that failed; an allocation failed
-- for one of them; or the index is at its end, and the recording wasn't read further.
abbrev pub StopsNext : Option (List ℕ) → Option (List ℕ) → Option (List ℕ) → Option (List ℕ) → ℕ → ℕ → ListedFault → Type 0
StopsNext index index' recording recording' n offset (Line m) = (m ≡ n) × StopsNextLine index index' n offset (fault.Line n)
StopsNext index index' recording recording' n offset IndexIo = StopsNextLine index index' n offset fault.IndexIo
StopsNext index index' recording recording' n offset (Damaged m damage) = (m ≡ n) × IsDamagedNext index index' recording recording' n offset damage
StopsNext index index' recording recording' n offset (Io m) = (m ≡ n) × ((most : ℕ) × StopsReading recording recording' most fault.Io)
StopsNext index index' recording recording' n offset (Output bytes) = ⊥
StopsNext index index' recording recording' n offset NoMemory = HadBytes index
StopsNext index index' recording recording' n offset (TooFew m) = (m ≡ n) × WasAtEnd index index' × (recording' ≡ recording)

-- Only a part of an image was written, after this many bytes.
abbrev pub StopsImage : Option (List ℕ) → Option (List ℕ) → ℕ → List ℕ → ListedFault → Type 0
StopsImage written written' before image (Output bytes) = (k : ℕ) × (bytes ≡ before + k) × (k < length image) × Appends written written' (take k image)
StopsImage written written' before image (Line m) = ⊥
StopsImage written written' before image IndexIo = ⊥
StopsImage written written' before image (Damaged m damage) = ⊥
StopsImage written written' before image (Io m) = ⊥
StopsImage written written' before image NoMemory = ⊥
StopsImage written written' before image (TooFew m) = ⊥

-- the fault of line n, or of its codestream
abbrev pub listed_fault : ℕ → CheckFault → ListedFault
listed_fault n (fault.Line m) = Line m
listed_fault n fault.IndexIo = IndexIo
listed_fault n fault.Io = Io n
listed_fault n fault.NoMemory = NoMemory
listed_fault n fault.TooMany = NoMemory

-- What a failed write says: some frames were read, and exactly this many bytes of their images were written.
pub record StopsAtOutput (written written' : Option (List ℕ)) (first offset bytes : ℕ) : Type 0 where
  pub shown : List Shown
  pub are : AreShown first offset shown
  pub part : bytes < length (show (frames_of shown))
  pub wrote : Appends written written' (take bytes (show (frames_of shown)))

-- The frames before the one at fault were shown, exactly.
pub record StopsAfter (index index' recording recording' written written' : Option (List ℕ)) (first offset : ℕ) (fault : ListedFault) : Type 0 where
  pub mid : Option (List ℕ)
  pub half : Option (List ℕ)
  pub n : ℕ
  pub next : ℕ
  pub shows : Shows index mid recording half written written' first offset n
  pub why : StopsNext mid index' half recording' (first + n) next fault

-- what each fault says of the run
abbrev pub Stops : Option (List ℕ) → Option (List ℕ) → Option (List ℕ) → Option (List ℕ) → Option (List ℕ) → Option (List ℕ) → ℕ → ℕ → ListedFault → Type 0
Stops index index' recording recording' written written' first offset (Output bytes) = StopsAtOutput written written' first offset bytes
Stops index index' recording recording' written written' first offset (Line m) = StopsAfter index index' recording recording' written written' first offset (Line m)
Stops index index' recording recording' written written' first offset IndexIo = StopsAfter index index' recording recording' written written' first offset IndexIo
Stops index index' recording recording' written written' first offset (Damaged m damage) = StopsAfter index index' recording recording' written written' first offset (Damaged m damage)
Stops index index' recording recording' written written' first offset (Io m) = StopsAfter index index' recording recording' written written' first offset (Io m)
Stops index index' recording recording' written written' first offset NoMemory = StopsAfter index index' recording recording' written written' first offset NoMemory
Stops index index' recording recording' written written' first offset (TooFew m) = StopsAfter index index' recording recording' written written' first offset (TooFew m)

-- ---- lines that are passed over

-- The index gave this many lines, whose codestreams end at this offset.
pub record HasPassed (index index' : Option (List ℕ)) (count offset : ℕ) : Type 0 where
  pub lines : List IndexLine
  pub are_lines : (more : List IndexLine) → AreLines count offset more → AreLines 0 0 (lines ++ more)
  pub count_is : length lines ≡ count
  pub size : size_of lines ≡ offset
  pub gave : Gave index index' (λ read. read ≡ texts lines)

-- The index gave m lines, fewer than these, and the next one can't be passed over.
pub record StopsPassing (index index' : Option (List ℕ)) (count : ℕ) (fault : ListedFault) : Type 0 where
  pub mid : Option (List ℕ)
  pub m : ℕ
  pub offset : ℕ
  pub before : m < count
  pub passed : HasPassed index mid m offset
  pub why : StopsNext mid index' None None m offset fault

-- ---- an index of this recording

-- a line begins after these bytes: they are none, or the last is LF
abbrev pub BeginsLine : List ℕ → Type 0
BeginsLine front = (front ≡ []) ⊎ ((before : List ℕ) × (front ≡ before ++ codes "\n"))

-- the codestreams that lines say of bytes, the first at their front
abbrev pub codestreams_by : List IndexLine → List ℕ → List (List ℕ)
codestreams_by [] bytes = []
codestreams_by (l ∷ ls) bytes = take l.size bytes ∷ codestreams_by ls (drop l.size bytes)

-- The index is these lines, and a check of the recording by it finds no damage.
pub record IsIndexFor (index recording : List ℕ) (lines : List IndexLine) : Type 0 where
  pub are : AreLines 0 0 lines
  pub few : length lines ≤ most_frames
  pub index_is : index ≡ texts lines
  pub good : AreFound 0 0 lines recording []

-- If a check of a recording by an index finds no damage, then what is shown by the index, read from where any line begins and from the offset
-- at which the recording is read, are the frames from the first one on.
abbrev pub ShownAreFrames : Type 0
ShownAreFrames = (index recording front left rest more : List ℕ) (lines : List IndexLine) (first offset : ℕ) (shown : List Shown)
    → IsIndexFor index recording lines → index ≡ front ++ left → BeginsLine front → first < most_frames → offset < 2 ^ 64
    → AreShown first offset shown → 0 < length shown → left ≡ texts_of shown ++ more → drop offset recording ≡ codestreams_of shown ++ rest
    → AllZip Spells (take (length shown) (drop first (codestreams_by lines recording))) (frames_of shown)

-- ---- failures

abbrev pub blames_index : ListedFault → Bool
blames_index (Line m) = false
blames_index IndexIo = true
blames_index (Damaged m damage) = false
blames_index (Io m) = false
blames_index (Output bytes) = false
blames_index NoMemory = false
blames_index (TooFew m) = false

abbrev pub blames_recording : ListedFault → Bool
blames_recording (Line m) = false
blames_recording IndexIo = false
blames_recording (Damaged m damage) = false
blames_recording (Io m) = true
blames_recording (Output bytes) = false
blames_recording NoMemory = false
blames_recording (TooFew m) = false

abbrev pub blames_writer : ListedFault → Bool
blames_writer (Line m) = false
blames_writer IndexIo = false
blames_writer (Damaged m damage) = false
blames_writer (Io m) = false
blames_writer (Output bytes) = true
blames_writer NoMemory = false
blames_writer (TooFew m) = false
