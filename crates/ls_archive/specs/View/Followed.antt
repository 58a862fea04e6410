-- How far a recording has been followed whose index is written with it.
use Rattle.std.specs.Prelude.{◌≡◌, ◌⊎◌, ℕ, ◌+◌, ◌*◌, ◌^◌, ◌≤◌, List, [], ◌++◌}
use Rattle.ls_film.specs.Film.{most_frames}

-- The bytes since the end of the last codestream, which are held back; and of the codestreams before them: their number, their total size,
-- and the total size of their lines, in bytes.
pub record Followed : Type 0 where
  pub pending : List ℕ
  pub number : ℕ
  pub offset : ℕ
  pub written : ℕ

-- before the first byte
abbrev pub nothing : Followed
nothing = record { pending = []; number = 0; offset = 0; written = 0 }

-- the same with other bytes held back
abbrev pub holding : List ℕ → Followed → Followed
holding pending f = record { pending = pending; number = f.number; offset = f.offset; written = f.written }

-- with one codestream more, of this size, and this total size of all lines
abbrev pub stepped : ℕ → ℕ → Followed → Followed
stepped size written f = record { pending = f.pending; number = f.number + 1; offset = f.offset + size; written = written }

-- The counts are in range: at most `most_frames` codestreams, and 2^32 bytes for each of them and for each line.
pub record IsFollowed (f : Followed) : Type 0 where
  pub few : f.number ≤ most_frames
  pub bounded : f.offset ≤ 2 ^ 32 * f.number
  pub small : f.written ≤ 2 ^ 32 * f.number

-- What is held back once these bytes were followed: nothing if a codestream ends with them, which is counted; else they too, and nothing is
-- counted.
abbrev pub HoldsBack : List ℕ → Followed → Followed → Type 0
HoldsBack bytes old new = ((new.pending ≡ []) × (new.number ≡ old.number + 1)) ⊎ (new ≡ holding (old.pending ++ bytes) old)
