-- An index that is written while its recording is being written.
use Rattle.std.specs.Prelude.{◌≡◌, ℕ, true, List, [], ◌++◌, Option, None, Some}
use Rattle.std.specs.Io.KnownBytes.{Appends}
use Rattle.ls_frame.specs.Picture.{Picture}
use Rattle.ls_stream.specs.Grammar.{Spells}
use Rattle.ls_archive.specs.declared.following.Follower.{Follower}
use Rattle.ls_archive.specs.declared.following.Indexing.{Indexing}
use Rattle.ls_archive.specs.declared.faults.IndexFault.{IndexFault}
use Rattle.ls_archive.specs.declared.faults.IndexFault.TheVariants.{Stream, Io, Output, NoMemory, TooMany}
use Rattle.ls_archive.specs.View.Followed.{Followed, HoldsBack}
use Rattle.ls_archive.specs.View.Indexing.{HasRun, Stops, Completes}

module _ {I : Type 0} where
  -- what the index is written to
  abbrev pub index_of : Follower I → I
  index_of f = f.index

  -- how far the recording has been followed
  abbrev pub followed : Follower I → Followed
  followed f = f.progress

module _ {W I : Type 0} where
  -- what a recording is written to
  abbrev pub recording_of : Indexing W I → W
  recording_of i = i.recording

  -- its index, if there is one to write
  abbrev pub following : Indexing W I → Option (Follower I)
  following i = i.index

  -- why that stopped, if it did
  abbrev pub broken : Indexing W I → Option IndexFault
  broken i = i.fault

-- nothing was followed, and the index didn't stop
abbrev pub IsUntold : {W I : Type 0} → Indexing W I → Indexing W I → Type 0
IsUntold old new = (following new ≡ following old) × (broken new ≡ broken old)

-- The bytes are codestreams and then those held back, and exactly the lines of these codestreams were written.
abbrev pub HasFollowed : List ℕ → Option (List ℕ) → Option (List ℕ) → Followed → Type 0
HasFollowed bytes index index' state = HasRun true (Some bytes) (Some state.pending) index index' state.number state.offset state.written

-- The bytes aren't a codestream of a frame, so they wait for more.
abbrev pub SpellNoFrame : List ℕ → Type 0
SpellNoFrame bytes = (f : Picture) → Spells bytes f → ⊥

module _ (bytes : List ℕ) (between new : Option (List ℕ)) where
  -- These bytes were followed too, whatever the bytes before them were and wherever the index began.
  abbrev pub FollowsOn : Followed → Followed → Type 0
  FollowsOn old' new' = (before : List ℕ) (index : Option (List ℕ)) → HasFollowed before index between old' → HasFollowed (before ++ bytes) index new new'

  -- The index stopped at these bytes: this is the fault, and what was written, whatever the bytes before them were.
  abbrev pub StopsFollowing : Followed → IndexFault → Type 0
  StopsFollowing old' fault = (before : List ℕ) (index : Option (List ℕ)) → HasFollowed before index between old' → Stops true (Some (before ++ bytes)) (Some []) index new fault

-- a write or an allocation failed, or there are too many codestreams
abbrev pub IsOfWriting : IndexFault → Type 0
IsOfWriting (Stream m fault) = ⊥
IsOfWriting (Io m) = ⊥
IsOfWriting (Output bytes) = Unit {0}
IsOfWriting NoMemory = Unit {0}
IsOfWriting TooMany = Unit {0}

module _ {I : Type 0} (contents : I → Option (List ℕ)) (bytes : List ℕ) where
  -- What becomes of the index when the recording's next bytes are written: it goes on, or stops; one that stopped before isn't changed.
  abbrev pub IsTold : Option (Follower I) → Option IndexFault → Option (Follower I) → Option IndexFault → Type 0
  IsTold old (Some fault) new why = (new ≡ old) × (why ≡ Some fault)
  IsTold None None new why = (new ≡ None) × (why ≡ None)
  IsTold (Some f) None None why = ⊥
  IsTold (Some f) None (Some g) None =
      FollowsOn bytes (contents (index_of f)) (contents (index_of g)) (followed f) (followed g)
      × SpellNoFrame (followed g).pending × HoldsBack bytes (followed f) (followed g)
  IsTold (Some f) None (Some g) (Some fault) = StopsFollowing bytes (contents (index_of f)) (contents (index_of g)) (followed f) fault × IsOfWriting fault

-- ---- over all calls

module _ {I : Type 0} (contents : I → Option (List ℕ)) (begun : Option (List ℕ)) (bytes : List ℕ) where
  -- What there is of the index of a recording of these bytes, begun after what its writer had: none is written; or exactly the lines of the
  -- recording's codestreams are, and the bytes after these aren't a codestream of a frame; or it stopped within them, for this fault.
  abbrev pub HasIndexed : Option (Follower I) → Option IndexFault → Type 0
  HasIndexed None None = Unit {0}
  HasIndexed None (Some fault) = ⊥
  HasIndexed (Some f) None = HasFollowed bytes begun (contents (index_of f)) (followed f) × SpellNoFrame (followed f).pending
  HasIndexed (Some f) (Some fault) =
      (front : List ℕ) × (rest : List ℕ) × (bytes ≡ front ++ rest) × Stops true (Some front) (Some []) begun (contents (index_of f)) fault × IsOfWriting fault

  -- If the index didn't stop, and no bytes are held back, it is complete: it is what `write_index` writes for these bytes.
  abbrev pub IsComplete : Option (Follower I) → Option IndexFault → Type 0
  IsComplete None why = Unit {0}
  IsComplete (Some f) None = (followed f).pending ≡ [] → Completes true (Some bytes) (Some []) begun (contents (index_of f)) (followed f).number
  IsComplete (Some f) (Some fault) = Unit {0}

module _ {W I : Type 0} (recorded : W → Option (List ℕ)) (indexed : I → Option (List ℕ)) (start begun : Option (List ℕ)) where
  -- These bytes were written: the recording's writer took them after what it had at the start, and what there is of the index is of them.
  pub record HasRecorded (bytes : List ℕ) (i : Indexing W I) : Type 0 where
    pub recording : Appends start (recorded (recording_of i)) bytes
    pub index : HasIndexed indexed begun bytes (following i) (broken i)
