-- The bytes left in a reader, if known, and those that it returned.
use Rattle.std.specs.Prelude.{◌≡◌, ◌≢◌, ℕ, suc, ◌<◌, IsSome, List, [], ◌∷◌, ◌++◌, length, slice_index, Option, unwrap_or}
use Rattle.std.specs.List.{AllByRecursion}
use Rattle.std.specs.Io.KnownBytes.{Consumes}

-- The reader's bytes are known, as over memory, and unlike over a file.
abbrev pub Tells : Option (List ℕ) → Type 0
Tells bytes = IsSome bytes

-- the known bytes, or none if they aren't known
abbrev pub known : Option (List ℕ) → List ℕ
known bytes = unwrap_or bytes []

-- If the reader's bytes are known, they are afterwards too, and P holds of those that it returned.
abbrev pub Gave : Option (List ℕ) → Option (List ℕ) → (List ℕ → Type 0) → Type 0
Gave old new P = Tells old → Tells new × (bytes : List ℕ) × (known old ≡ bytes ++ known new) × P bytes

-- If the reader's bytes are known, it was and is at its end.
abbrev pub WasAtEnd : Option (List ℕ) → Option (List ℕ) → Type 0
WasAtEnd old new = Tells old → Tells new × (known old ≡ []) × (known new ≡ [])

-- If the reader's bytes are known, it wasn't at its end.
abbrev pub HadBytes : Option (List ℕ) → Type 0
HadBytes old = Tells old → 0 < length (known old)

-- Bytes from the reader were appended to others: at least one and at most `most`, of which only the last may be the mark.
pub record TakesUntil (mark most : ℕ) (old new : Option (List ℕ)) (before after : List ℕ) (last : ℕ) : Type 0 where
  pub run : List ℕ
  pub appended : after ≡ before ++ (run ++ last ∷ [])
  pub given : Consumes old new (run ++ last ∷ [])
  pub unmarked : AllByRecursion (λ byte. byte ≢ mark) run
  pub few : length run < most

-- each mark is followed by a byte below the limit, unless it is the last byte
abbrev pub ArePassed : ℕ → ℕ → List ℕ → Type 0
ArePassed mark limit bytes = (k : ℕ) → suc k < length bytes → slice_index bytes k ≡ mark → slice_index bytes (suc k) < limit

-- The same, but marks that are followed by a byte below the limit may be among the bytes.
pub record TakesPast (mark limit most : ℕ) (old new : Option (List ℕ)) (before after : List ℕ) (last : ℕ) : Type 0 where
  pub run : List ℕ
  pub appended : after ≡ before ++ (run ++ last ∷ [])
  pub given : Consumes old new (run ++ last ∷ [])
  pub passed : ArePassed mark limit (run ++ last ∷ [])
  pub few : length run < most
