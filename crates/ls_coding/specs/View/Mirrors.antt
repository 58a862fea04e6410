-- What can be known of a sample of regular mode before its context's counters are: the sample and its prediction, mirrored if SIGN is -1.
use Rattle.std.specs.Prelude.{◌≡◌, ℕ, ◌-◌, ◌≤◌, Bool, if◌then◌else◌, ℤ, pos, ◌+ℤ◌, ◌-ℤ◌}
use Rattle.ls_frame.specs.Parameters.{Parameters, range_of}
use Rattle.ls_coding.specs.declared.neighbours.Neighbours.{Neighbours}
use Rattle.ls_coding.specs.declared.mirrored.Mirrored.{Mirrored}
use Rattle.ls_coding.specs.Numbers.{clamped}
use Rattle.ls_coding.specs.Samples.{AreSamples}
use Rattle.ls_coding.specs.Contexts.{context_of}
use Rattle.ls_coding.specs.Errors.{median, reduced}

-- a sample, subtracted from MAXVAL if SIGN is -1
abbrev pub mirror_image : ℕ → Bool → ℕ → ℕ
mirror_image maxval negative sample = if negative then maxval - sample else sample

-- a sample's context number, and the mirror images of its prediction (A.4.1) and of the sample itself
pub record IsMirrored (p : Parameters) (neighbours : Neighbours) (sample : ℕ) (mirrored : Mirrored) : Type 0 where
  pub samples : AreSamples p.maxval neighbours
  pub within : sample ≤ p.maxval
  pub context_is : mirrored.context ≡ (context_of p neighbours).number
  pub prediction_is : mirrored.prediction ≡ mirror_image p.maxval (context_of p neighbours).negative (median neighbours)
  pub sample_is : mirrored.sample ≡ mirror_image p.maxval (context_of p neighbours).negative sample

-- its error in a context with this C, as A.4.2 to A.4.5 define it for SIGN 1
abbrev pub mirrored_error : Parameters → ℤ → ℕ → ℕ → ℤ
mirrored_error p c prediction sample = reduced (range_of p.maxval) (pos sample -ℤ clamped (pos 0) (pos p.maxval) (pos prediction +ℤ c))
