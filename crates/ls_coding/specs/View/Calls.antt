-- What the coding calls require of the state, for each kind of event.
use Rattle.std.specs.Prelude.{◌≡◌, ℕ, ◌<◌, ◌≤◌, true, false}
use Rattle.ls_coding.specs.declared.neighbours.Neighbours.{Neighbours}
use Rattle.ls_coding.specs.declared.mirrored.Mirrored.{Mirrored}
use Rattle.ls_coding.specs.Samples.{AreSamples, Interrupts}
use Rattle.ls_coding.specs.Contexts.{is_run}
use Rattle.ls_coding.specs.Runs.{Run}
use Rattle.ls_coding.specs.View.States.{Coding}

-- a sample of regular mode
pub record MayCodeRegular (state : Coding) (neighbours : Neighbours) (sample : ℕ) : Type 0 where
  pub samples : AreSamples state.parameters.maxval neighbours
  pub within : sample ≤ state.parameters.maxval
  pub regular : is_run neighbours ≡ false
  pub uninterrupted : state.interrupted ≡ false

-- a sample of regular mode for which `mirror` was computed beforehand
pub record MayCodeMirrored (state : Coding) (mirrored : Mirrored) : Type 0 where
  pub context : mirrored.context < 365
  pub prediction : mirrored.prediction ≤ state.parameters.maxval
  pub within : mirrored.sample ≤ state.parameters.maxval
  pub uninterrupted : state.interrupted ≡ false

-- a run; one that ends with the line has some samples
pub record MayCodeRun (state : Coding) (run : Run) : Type 0 where
  pub uninterrupted : state.interrupted ≡ false
  pub some : run.interrupted ≡ false → 0 < run.count

-- the sample that interrupts a run
pub record MayCodeInterruption (state : Coding) (neighbours : Neighbours) (sample : ℕ) : Type 0 where
  pub samples : AreSamples state.parameters.maxval neighbours
  pub interrupts : Interrupts state.parameters.maxval neighbours.a sample
  pub interrupted : state.interrupted ≡ true
