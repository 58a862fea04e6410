-- The values of samples in memory.
use Rattle.std.specs.Prelude.{ℕ, List}
use Rattle.ls_frame.specs.declared.samples.Samples.{Samples}
use Rattle.ls_frame.specs.declared.samples.Samples.TheVariants.{Bytes, Words}

abbrev pub numbers : Samples → List ℕ
numbers (Bytes bytes) = bytes.now
numbers (Words words) = words.now

-- the greatest value that samples of this size can have
abbrev pub most_of : Samples → ℕ
most_of (Bytes bytes) = 255
most_of (Words words) = 65535
