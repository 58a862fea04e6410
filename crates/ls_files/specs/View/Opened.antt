-- What is known of files that may be opened late.
use Rattle.std.specs.Prelude.{◌≡◌, ℕ, List, drop, Option, Some, None, option_map}

-- what is known of a file's bytes once it is open; before that, nothing is
abbrev pub known_of : {F : Type 0} → (F → Option (List ℕ)) → Option F → Option (List ℕ)
known_of bytes (Some file) = bytes file
known_of bytes None = None

-- What is known of the bytes of a file from a place on, where P holds of what is known of all of them.
pub record HoldsFrom (P : Option (List ℕ) → Type 0) (place : ℕ) (left : Option (List ℕ)) : Type 0 where
  pub whole : Option (List ℕ)
  pub holds : P whole
  pub left_is : left ≡ option_map (drop place) whole
