-- A film that is coded while its index is written.
use Rattle.std.specs.Prelude.{◌≡◌, ℕ, true, IsSome, List, [], Option, None, Some}
use Rattle.ls_frame.specs.Netpbm.{IsImageOf}
use Rattle.ls_frame.specs.View.Known.{Tells}
use Rattle.ls_film.specs.Coding.{default_file}
use Rattle.ls_film.specs.View.Engine.{Completes}
use Rattle.ls_archive.specs.declared.following.Indexing.{Indexing}
use Rattle.ls_archive.specs.declared.faults.IndexFault.{IndexFault}
use Rattle.ls_archive.specs.View.Following.{following, HasRecorded}
use Rattle.ls_archive.specs.View.Indexing.{Completes as Indexes}

-- What was written since the beginning: a recording, and what there is of its index.
pub record HasWritten {W I : Type 0} (recorded : W → Option (List ℕ)) (indexed : I → Option (List ℕ)) (start begun : Option (List ℕ)) (i : Indexing W I) : Type 0 where
  pub bytes : List ℕ
  pub both : HasRecorded recorded indexed start begun bytes i
  pub follows : IsSome (following i)

-- The index of this recording was written, with sums, and nothing else.
abbrev pub WritesIndex : List ℕ → Option (List ℕ) → Option (List ℕ) → Type 0
WritesIndex recording begun index = (n : ℕ) × Indexes true (Some recording) (Some []) begun index n

-- The reader is at its end, it gave a film of n frames, and their codestreams were written and nothing else; if nothing broke the index off, and
-- the bytes of the recording are known, it is the index of these codestreams.
pub record CodesWithIndex (read left written written' begun index : Option (List ℕ)) (broken : Option IndexFault) (n : ℕ) : Type 0 where
  pub run : Completes IsImageOf default_file read left written written' n
  pub indexed : broken ≡ None → Tells written → WritesIndex (default_file run.frames) begun index
