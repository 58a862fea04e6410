-- A check of some lines of an index, which may begin at any line, and may end before the index does.
use Rattle.std.specs.Prelude.{◌≡◌, ◌⊎◌, ℕ, ◌+◌, ◌<◌, ◌≤◌, Bool, true, false, List, [], ◌++◌, length, drop, Option, None, Some, Result, Err, MatchOption, IfSome, IfNone}
use Rattle.ls_film.specs.Film.{most_frames}
use Rattle.ls_film.specs.View.Memory.{HasBytes}
use Rattle.ls_frame.specs.View.Devices.{count_after}
use Rattle.ls_frame.specs.View.Known.{Tells, Gave, known}
use Rattle.ls_archive.specs.declared.checking.Finding.{Finding}
use Rattle.ls_archive.specs.declared.checking.Checked.{Checked}
use Rattle.ls_archive.specs.declared.checking.CheckFault.{CheckFault}
use Rattle.ls_archive.specs.declared.checking.CheckFault.TheVariants as fault
use Rattle.ls_archive.specs.declared.checking.part.CheckPartFault.{CheckPartFault}
use Rattle.ls_archive.specs.declared.checking.part.CheckPartFault.TheVariants.{Check, TooFew}
use Rattle.ls_archive.specs.View.Checking.{Line, IsLine, AreLines, AreFound, texts, size_of}
use Rattle.ls_archive.specs.View.Checks.{FindsMore, IsTorn, EndsLines, HasChecked, StopsAfter, BeginsOtherwise, Anything, FailsInLine, FailsWithin, blames_index as index_at_fault, blames_recording as recording_at_fault}

-- ---- a part of an index

module _ (first start : ℕ) (last : Option ℕ) (index index' recording recording' : Option (List ℕ)) (found found' : Option (List Finding)) where
  -- From line `first` on, whose codestream begins at `start`, the index gave these lines, and the findings are those on what the recording has from
  -- there on, of which nothing after the lines' codestreams was read. They end with the last line of the part; or, if that goes to the end,
  -- with the index, which may have the torn beginning of another.
  pub record IsCheckedPart (checked : Checked) : Type 0 where
    pub lines : List Line
    pub are_lines : AreLines first start lines
    pub count : length lines ≡ checked.frames
    pub few : first + length lines ≤ most_frames
    pub mid : Option (List ℕ)
    pub gave : Gave index mid (λ bytes. bytes ≡ texts lines)
    pub ends : IfSome last (λ last. (first + length lines ≡ last + 1) × (mid ≡ index'))
    pub goes_on : IfNone last ((first + length lines ≡ most_frames) ⊎ EndsLines true mid index')
    pub findings : List Finding
    pub damaged : length findings ≡ checked.damaged
    pub told : FindsMore found found' findings
    pub are_found : Tells recording → AreFound first start lines (known recording) findings
    pub bytes : size_of lines ≡ checked.bytes
    pub left : Tells recording → known recording' ≡ drop (size_of lines) (known recording)

-- ---- where a check of lines stops

-- whether an index may still be written: for a part that goes to its end
abbrev pub grows : Option ℕ → Bool
grows None = true
grows (Some last) = false

-- the bytes don't begin with line n, whose codestream begins after this many bytes from `start` on
abbrev pub IsNoLine : Bool → ℕ → ℕ → ℕ → List ℕ → Type 0
IsNoLine growing start n size rest = BeginsOtherwise n (start + size) rest × (growing ≡ true → IsTorn rest → ⊥)

-- nothing follows
abbrev pub IsEnd : ℕ → List ℕ → Type 0
IsEnd size rest = rest ≡ []

abbrev pub IsMore : ℕ → List ℕ → Type 0
IsMore size rest = HasBytes rest

-- The index gave line n, which begins these bytes, and the recording a part of that line's bytes, and then a read of the recording failed.
abbrev pub FailsInCodestream : ℕ → Option (List ℕ) → Option (List ℕ) → Option (List ℕ) → ℕ → ℕ → List ℕ → Type 0
FailsInCodestream start index' recording recording' n size rest =
    (l : Line) × IsLine n (start + size) l × (rest ≡ l.text ++ known index') × FailsWithin recording recording' l.size size

module _ (first start : ℕ) (index index' recording recording' : Option (List ℕ)) (found found' : Option (List Finding)) where
  -- What each fault says: the line of this number isn't a line of an index, nor, if lines may still be written, the torn beginning of one; a
  -- read failed; an allocation failed, which it never does at the end of the index.
  abbrev pub StopsLines : Bool → CheckFault → Type 0
  StopsLines growing (fault.Line n) = StopsAfter first start index recording found found' n (IsNoLine growing start n)
  StopsLines growing fault.IndexIo = (m : ℕ) × StopsAfter first start index recording found found' m Anything
  StopsLines growing fault.Io = (m : ℕ) × StopsAfter first start index recording found found' m Anything
  StopsLines growing fault.NoMemory = (m : ℕ) × StopsAfter first start index recording found found' m IsMore
  StopsLines growing fault.TooMany = ⊥

  -- If a read failed, the findings on all lines whose bytes were read before were reported, as for a check of all lines.
  abbrev pub FailsLines : CheckFault → Type 0
  FailsLines (fault.Line n) = Unit {0}
  FailsLines fault.IndexIo = (m : ℕ) × StopsAfter first start index recording found found' m (FailsInLine index')
  FailsLines fault.Io = (m : ℕ) × StopsAfter first start index recording found found' m (FailsInCodestream start index' recording recording' m)
  FailsLines fault.NoMemory = Unit {0}
  FailsLines fault.TooMany = Unit {0}

  -- The same of a part: that there are only m lines is said only where the part has a last one, which is missing.
  abbrev pub StopsPart : Option ℕ → CheckPartFault → Type 0
  StopsPart last (Check fault) = StopsLines (grows last) fault
  StopsPart last (TooFew m) = StopsAfter first start index recording found found' m IsEnd × MatchOption last ⊥ (λ last. m ≤ last)

  abbrev pub FailsPart : CheckPartFault → Type 0
  FailsPart (Check fault) = FailsLines fault
  FailsPart (TooFew m) = Unit {0}

-- ---- the engine

-- The lines before this number were checked; or those before the end of the index, if it has fewer.
pub record HasCheckedLines (first start : ℕ) (growing : Bool) (index index' recording recording' : Option (List ℕ)) (found found' : Option (List Finding)) (n offset damaged : ℕ)
    (ended : Bool) : Type 0 where
  pub mid : Option (List ℕ)
  pub checked : HasChecked first start index mid recording recording' found found' n offset damaged
  pub end : ended ≡ true → EndsLines growing mid index'
  pub unread : ended ≡ false → mid ≡ index'

-- whether a check of a part failed because a read of the index did, and because a read of the recording did
abbrev pub blames_index : CheckPartFault → Bool
blames_index (Check fault) = index_at_fault fault
blames_index (TooFew m) = false

abbrev pub blames_recording : CheckPartFault → Bool
blames_recording (Check fault) = recording_at_fault fault
blames_recording (TooFew m) = false

-- The failed reads: one if that is the fault, else none; or, if the result is that an allocation failed, one that came after what the
-- allocation was for.
abbrev pub HasReadPart : Bool → ℕ → ℕ → Result Checked CheckPartFault → Type 0
HasReadPart blamed failed failed' result = (failed' ≡ count_after blamed failed) ⊎ ((result ≡ Err (Check fault.NoMemory)) × (failed' ≡ count_after true failed))

-- the same of batches that have at most this many codestreams: with one there is no such read
abbrev pub HasReadPartBatches : ℕ → Bool → ℕ → ℕ → Result Checked CheckPartFault → Type 0
HasReadPartBatches most blamed failed failed' result = (failed' ≡ count_after blamed failed) ⊎ ((1 < most) × HasReadPart blamed failed failed' result)
