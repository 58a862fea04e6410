-- Where the codestream at the front of bytes ends, by its markers alone.
use Rattle.std.specs.Prelude.{◌≡◌, ◌≢◌, ℕ, ◌≤◌, List, [], length, take, drop, Ok, Err}
use Rattle.ls_stream.specs.declared.faults.StreamFault.{StreamFault}
use Rattle.ls_stream.specs.declared.faults.StreamFault.TheVariants.{Truncated, TooLarge}
use Rattle.ls_stream.specs.Grammar.{most_bytes}
use Rattle.ls_stream.specs.View.Extents.{extent_at, IsNext, IsUndecided, BeginsEndless}

-- The markers lead from SOI to EOI, which ends the first bytes, this many: they are the next codestream.
pub record EndsAfter (bytes : List ℕ) (size : ℕ) : Type 0 where
  pub within : size ≤ length bytes
  pub next : IsNext (take size bytes) (drop size bytes)
  pub to_end : extent_at (take size bytes) ≡ Ok []

-- The markers don't lead to EOI: the bytes end before, or as many as a codestream may have show neither EOI nor a fault of the markers; or
-- these have a fault.
pub data HasNoEnd (bytes : List ℕ) (fault : StreamFault) : Type 0 where
  cut_off : fault ≡ Truncated → IsUndecided bytes → HasNoEnd bytes fault
  endless : fault ≡ TooLarge → BeginsEndless bytes → HasNoEnd bytes fault
  malformed : fault ≢ Truncated → extent_at (take most_bytes bytes) ≡ Err fault → HasNoEnd bytes fault
