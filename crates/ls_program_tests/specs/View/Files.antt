-- The files of a file system in memory, and their bytes.
use Rattle.std.specs.Prelude.{◌≡◌, ◌==◌, ℕ, if◌then◌else◌, List, [], ◌∷◌, Option, None, Some, IsSome, Vec, flat_map}
use Rattle.std.specs.Borrow.{Bor, MutBor}
use Rattle.ls_files.specs.View.Opened.{known_of}
use Rattle.ls_program_tests.specs.declared.memory.MemoryFile.{MemoryFile}
use lib.Pointwise.{pointwise}

-- a file: its path and its bytes
abbrev pub Named : Type 0
Named = Bor (List ℕ) × Bor (List ℕ)

-- the bytes of the first of these files that has this path
abbrev pub bytes_at : List Named → List ℕ → Option (List ℕ)
bytes_at [] path = None
bytes_at (file ∷ files) path = if pointwise ◌==◌ file.0.now path then Some file.1.now else bytes_at files path

-- There is a file at this path, and these are its bytes.
abbrev pub HoldsFile : List Named → List ℕ → Option (List ℕ) → Type 0
HoldsFile files path bytes = IsSome bytes × (bytes ≡ bytes_at files path)

-- what is known of the bytes in a file that was made: all
abbrev pub contents_of : MemoryFile → Option (List ℕ)
contents_of file = known_of (λ written. Some written.now.items) file.written

-- the bytes of files that were made, one after the other
abbrev pub bytes_of_all : {Z : Type 0} → List (MutBor (Vec ℕ Z)) → List ℕ
bytes_of_all files = flat_map (λ written. written.now.items) files
