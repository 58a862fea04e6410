use Rattle.std.proofs.Common.{◌≡◌, ◌-◌, ◌<◌}
use Rattle.ls_bits.specs.View.Plain.{bits_from, bits_in, IsAhead}
use Rattle.ls_bits.proofs.PlainLemmas.{ahead_of}
use Rattle.ls_bits.proofs.source.BitSource.fill.Given as goal

abbrev pub invariant-words : goal.invariant-words
invariant-words l =
    IsAhead (ahead_of l.self-inside.bytes l.self-inside.stuffed.bits) l.self-inside.place l.self-inside.end
    × (bits_from (ahead_of l.self-inside.bytes l.self-inside.stuffed.bits) l.self-inside.place l.self-inside.end ≡ bits_in l.fn.self)
    × (l.self-inside.place < 8)

abbrev pub decreases-words : goal.decreases-words
decreases-words l = 16384 - l.self-inside.end
