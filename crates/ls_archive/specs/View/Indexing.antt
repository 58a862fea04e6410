-- What writing an index does, and where it may stop. The reader's and the writer's known bytes, each before and after, come first.
use Rattle.std.specs.Prelude.{◌≡◌, ◌≢◌, ℕ, ◌+◌, ◌<◌, ◌≤◌, Bool, true, false, List, [], ◌∷◌, ◌++◌, length, take, Option, Some}
use Rattle.std.specs.Io.KnownBytes.{Appends}
use Rattle.std.specs.List.{AllZip}
use Rattle.ls_frame.specs.Picture.{Picture}
use Rattle.ls_frame.specs.View.Known.{Tells, known}
use Rattle.ls_stream.specs.declared.faults.StreamFault.{StreamFault}
use Rattle.ls_stream.specs.declared.faults.StreamFault.TheVariants as stream
use Rattle.ls_film.specs.Film.{most_frames}
use Rattle.ls_film.specs.View.Memory.{AnyBytes, HasBytes}
use Rattle.ls_archive.specs.declared.faults.IndexFault.{IndexFault}
use Rattle.ls_archive.specs.declared.faults.IndexFault.TheVariants.{Stream, Io, Output, NoMemory, TooMany}
use Rattle.ls_archive.specs.Index.{Entry, joined, lines}
use Rattle.ls_archive.specs.View.Entries.{AreEntriesOf, IsOfFrame, GaveEntries, GaveIndexed, BeginsWithEntries, BreaksBy}

module _ (sums : Bool) (read read' written written' : Option (List ℕ)) where
  -- The reader is at its end, it gave n codestreams, and their lines were written and nothing else.
  pub record Completes (n : ℕ) : Type 0 where
    pub entries : List Entry
    pub count : length entries ≡ n
    pub few : length entries ≤ most_frames
    pub gave : GaveIndexed read read' entries
    pub wrote : Appends written written' (lines sums entries)

  -- Codestream m has no entry, or no line: the input begins with m codestreams, exactly their lines were written, and P holds of what
  -- follows them.
  pub record StopsAt (m : ℕ) (P : List ℕ → Type 0) : Type 0 where
    pub entries : List Entry
    pub count : length entries ≡ m
    pub few : length entries ≤ most_frames
    pub begins : BeginsWithEntries read entries P
    pub wrote : Appends written written' (lines sums entries)

  -- A write failed: exactly this many bytes of the lines of the codestreams read were written.
  pub record StopsAtOutput (bytes : ℕ) : Type 0 where
    pub entries : List Entry
    pub few : length entries ≤ most_frames
    pub gave : GaveEntries read read' entries
    pub part : bytes < length (lines sums entries)
    pub wrote : Appends written written' (take bytes (lines sums entries))

  -- One codestream too many: the lines of all before it were written.
  pub record StopsAtMost : Type 0 where
    pub entries : List Entry
    pub last : Entry
    pub count : length entries ≡ most_frames
    pub gave : GaveEntries read read' (entries ++ last ∷ [])
    pub wrote : Appends written written' (lines sums entries)

  -- So far n codestreams were read, with a total size of offset, and their lines were written, with a total size of bytes.
  pub record HasRun (n offset bytes : ℕ) : Type 0 where
    pub entries : List Entry
    pub count : length entries ≡ n
    pub few : length entries ≤ most_frames
    pub gave : GaveEntries read read' entries
    pub wrote : Appends written written' (lines sums entries)
    pub offset_is : offset ≡ length (joined entries)
    pub bytes_are : bytes ≡ length (lines sums entries)

  -- what each fault says of the run
  abbrev pub Stops : IndexFault → Type 0
  Stops (Stream m fault) = StopsAt m (BreaksBy fault) × (fault ≢ stream.NoMemory)
  Stops (Io m) = StopsAt m AnyBytes
  Stops (Output bytes) = StopsAtOutput bytes
  Stops NoMemory = (m : ℕ) × StopsAt m HasBytes
  Stops TooMany = StopsAtMost

-- ---- the steps

-- the fault of an index for a fault of codestream m
abbrev pub index_fault : ℕ → StreamFault → IndexFault
index_fault m stream.Truncated = Stream m stream.Truncated
index_fault m stream.NotSoi = Stream m stream.NotSoi
index_fault m stream.BadSegment = Stream m stream.BadSegment
index_fault m (stream.Unsupported what) = Stream m (stream.Unsupported what)
index_fault m (stream.BadPresets fault) = Stream m (stream.BadPresets fault)
index_fault m stream.TooLarge = Stream m stream.TooLarge
index_fault m (stream.BadCode component) = Stream m (stream.BadCode component)
index_fault m (stream.LeftoverBits component) = Stream m (stream.LeftoverBits component)
index_fault m stream.NoMemory = NoMemory

-- what a stop at the next codestream, of number n, says of the reader's bytes: it has no entry
abbrev pub StopsNext : Option (List ℕ) → ℕ → IndexFault → Type 0
StopsNext read n (Stream m fault) = (m ≡ n) × (fault ≢ stream.NoMemory) × (Tells read → BreaksBy fault (known read))
StopsNext read n (Io m) = m ≡ n
StopsNext read n (Output bytes) = ⊥
StopsNext read n NoMemory = Tells read → HasBytes (known read)
StopsNext read n TooMany = ⊥

-- what a stop at a line, written after this many bytes of lines, says: only the first bytes of its text were written
abbrev pub StopsLine : Option (List ℕ) → Option (List ℕ) → ℕ → List ℕ → IndexFault → Type 0
StopsLine written written' bytes text (Stream m fault) = ⊥
StopsLine written written' bytes text (Io m) = ⊥
StopsLine written written' bytes text (Output n) = (here : ℕ) × (n ≡ bytes + here) × (here < length text) × Appends written written' (take here text)
StopsLine written written' bytes text NoMemory = ⊥
StopsLine written written' bytes text TooMany = ⊥

-- ---- devices

-- whether a run failed because a read did, and because a write did
abbrev pub blames_reader : IndexFault → Bool
blames_reader (Stream m fault) = false
blames_reader (Io m) = true
blames_reader (Output bytes) = false
blames_reader NoMemory = false
blames_reader TooMany = false

abbrev pub blames_writer : IndexFault → Bool
blames_writer (Stream m fault) = false
blames_writer (Io m) = false
blames_writer (Output bytes) = true
blames_writer NoMemory = false
blames_writer TooMany = false

-- ---- in memory

-- The recording is n codestreams, and out is their index.
pub record IsIndexOf (sums : Bool) (recording out : List ℕ) (n : ℕ) : Type 0 where
  pub entries : List Entry
  pub count : length entries ≡ n
  pub few : length entries ≤ most_frames
  pub are : AreEntriesOf recording entries
  pub wrote : out ≡ lines sums entries

-- what each fault says of the recording and of what was written
abbrev pub StopsOver : Bool → List ℕ → List ℕ → IndexFault → Type 0
StopsOver sums recording out fault =
    (left : Option (List ℕ)) × Stops sums (Some recording) left (Some []) (Some out) fault × (blames_reader fault ≡ false)

-- The recording is codestreams of these frames, n in all, and out is its index: each entry says its frame's form.
pub record IsIndexOfFrames (sums : Bool) (recording : List ℕ) (frames : List Picture) (out : List ℕ) (n : ℕ) : Type 0 where
  pub index : IsIndexOf sums recording out n
  pub count : n ≡ length frames
  pub forms : AllZip IsOfFrame index.entries frames

-- An allocation failed, for a codestream or for what is written (in memory a write fails only then).
abbrev pub IsOutOfMemory : IndexFault → Type 0
IsOutOfMemory (Stream m fault) = ⊥
IsOutOfMemory (Io m) = ⊥
IsOutOfMemory (Output bytes) = Unit {0}
IsOutOfMemory NoMemory = Unit {0}
IsOutOfMemory TooMany = ⊥
