use Rattle.std.proofs.Common.{◌≡◌, false, IsSome}
use Rattle.std.specs.List.{AllWithin}
use Rattle.ls_reading.proofs.recorded.Found.say_lost.Given as goal

-- so far all were found, unless one is lost
abbrev pub invariant-loop-number : goal.invariant-loop-number
invariant-loop-number g l = l.any ≡ false → AllWithin IsSome l.self.places.items 0 l.number
