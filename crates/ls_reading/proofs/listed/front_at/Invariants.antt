use Rattle.std.proofs.Common.{◌<◌, length}
use Rattle.ls_reading.proofs.listed.front_at.Given as goal

-- there is room for another byte
abbrev pub invariant-loop-part : goal.invariant-loop-part
invariant-loop-part g l = record { few : length l.front.items < 8192 }
