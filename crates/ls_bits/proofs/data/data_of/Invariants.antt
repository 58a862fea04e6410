use Rattle.std.proofs.Common.{length, ◌-◌, ◌≤◌, take}
use Rattle.ls_bits.specs.Data.{IsData}
use Rattle.ls_bits.proofs.data.data_of.Given as goal

abbrev pub invariant-loop-place : goal.invariant-loop-place
invariant-loop-place l = (l.len ≤ length l.bytes) × IsData (take l.len l.bytes)

abbrev pub decreases-loop-place : goal.decreases-loop-place
decreases-loop-place l = length l.bytes - l.len
