-- Reading the text of a steps file off a reader.
use Rattle.std.specs.Prelude.{◌≡◌, ℕ, ◌+◌, ◌≤◌, ◌^◌, Bool, true, false, List, [], length, Option, Result, Ok, Err}
use Rattle.ls_frame.specs.View.Known.{Tells, Gave, HadBytes, known}
use Rattle.ls_replay.specs.declared.steps_file.TextFault.{TextFault}
use Rattle.ls_replay.specs.declared.steps_file.TextFault.TheVariants.{TooLong, ReadFailed, NoMemory}

-- the most bytes of a steps file
abbrev pub most_bytes : ℕ
most_bytes = 2 ^ 24

-- If the reader's bytes are known, they were this text, and it is at its end.
abbrev pub GaveText : Option (List ℕ) → Option (List ℕ) → List ℕ → Type 0
GaveText read left text = Tells read → Tells left × (known read ≡ text) × (known left ≡ [])

-- What each fault says of the reader's bytes: one more than a text may have were read; at most as many as it may have were; or there were some.
abbrev pub StopsText : Option (List ℕ) → Option (List ℕ) → TextFault → Type 0
StopsText read left TooLong = Gave read left (λ bytes. length bytes ≡ most_bytes + 1)
StopsText read left ReadFailed = Gave read left (λ bytes. length bytes ≤ most_bytes)
StopsText read left NoMemory = HadBytes read

-- whether a text wasn't read because a read failed
abbrev pub has_read_failed : {X : Type 0} → Result X TextFault → Bool
has_read_failed (Ok text) = false
has_read_failed (Err TooLong) = false
has_read_failed (Err ReadFailed) = true
has_read_failed (Err NoMemory) = false
