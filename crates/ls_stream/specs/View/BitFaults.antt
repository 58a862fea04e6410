-- How bits break where a span of a plane is due: a word, a run or a sample that no encoder writes, or too few bits.
use Rattle.std.specs.Prelude.{◌≡◌, ◌⊎◌, ℕ, ◌+◌, ◌-◌, ◌^◌, ◌<◌, ◌≤◌, min, Bool, true, false, List, [], ◌∷◌, ◌++◌, length}
use Rattle.ls_frame.specs.Parameters.{Parameters, qbpp_of}
use Rattle.ls_bits.specs.declared.source.CodeFault.{CodeFault}
use Rattle.ls_bits.specs.declared.source.CodeFault.TheVariants.{OutOfBits, NotCanonical}
use Rattle.ls_bits.specs.Bits.{bits_of}
use Rattle.ls_bits.specs.Golomb.{TakesWord, GolombFault}
use Rattle.ls_coding.specs.declared.neighbours.Neighbours.{Neighbours}
use Rattle.ls_coding.specs.Samples.{Interrupts}
use Rattle.ls_coding.specs.Runs.{order, last_index, run_of, run_bits}
use Rattle.ls_coding.specs.View.Plans.{Planned, NoSample, regular_plan, interruption_plan}
use Rattle.ls_coding.specs.View.States.{Coding, state_of, regular_word_in, interruption_word_in, run_after}
use Rattle.ls_stream.specs.Planes.{Plane, IsSamplePlane, around, Span, sample_span, run_span, spans}
use Rattle.ls_stream.specs.View.Coded.{span_bits_in, span_after}

-- ---- a sample's word

-- By the plan of a sample's code: the bits don't begin with a word, with this fault; or they begin with the word of a value that no sample
-- has.
abbrev pub BreaksWord : Planned → (ℕ → ℕ) → (ℕ → Type 0) → ℕ → List Bool → CodeFault → Type 0
BreaksWord plan value_of IsSample qbpp bits fault =
    GolombFault plan.k plan.glimit qbpp bits fault
    ⊎ ((value : ℕ) × (rest : List Bool) × TakesWord plan.k plan.glimit qbpp bits value rest × NoSample IsSample value_of value × (fault ≡ NotCanonical))

-- in regular mode
abbrev pub BreaksSample : Coding → Neighbours → List Bool → CodeFault → Type 0
BreaksSample state neighbours bits fault =
    BreaksWord (regular_plan state neighbours) (λ sample. (regular_word_in state neighbours sample).value) (λ sample. sample ≤ state.parameters.maxval)
    (qbpp_of state.parameters.maxval) bits fault

-- for the sample that interrupts a run
abbrev pub BreaksInterruption : Coding → Neighbours → List Bool → CodeFault → Type 0
BreaksInterruption state neighbours bits fault =
    BreaksWord (interruption_plan state neighbours) (λ sample. (interruption_word_in state neighbours sample).value) (Interrupts state.parameters.maxval neighbours.a)
    (qbpp_of state.parameters.maxval) bits fault

-- ---- a run

-- At a RUNindex, with `left` samples left in the line: no bit; a 1 for 2^J samples, fewer than are left, and then the rest of the run
-- breaks; a 0 and fewer than J bits; or a 0, and J bits that give as many samples as are left, or more.
pub data BreaksRun : ℕ → ℕ → List Bool → CodeFault → Type 0 where
  bits_end : {index left : ℕ} {bits : List Bool} {fault : CodeFault} → bits ≡ [] → fault ≡ OutOfBits → BreaksRun index left bits fault
  after_one : {index left : ℕ} {bits : List Bool} {fault : CodeFault} → (more : List Bool) → bits ≡ true ∷ more → 2 ^ order index < left
      → BreaksRun (min (index + 1) last_index) (left - 2 ^ order index) more fault → BreaksRun index left bits fault
  rest_ends : {index left : ℕ} {bits : List Bool} {fault : CodeFault} → (more : List Bool) → bits ≡ false ∷ more → length more < order index → fault ≡ OutOfBits
      → BreaksRun index left bits fault
  no_room : {index left : ℕ} {bits : List Bool} {fault : CodeFault} → (count : ℕ) (more : List Bool) → bits ≡ false ∷ (bits_of (order index) count ++ more)
      → count < 2 ^ order index → left ≤ count → fault ≡ NotCanonical → BreaksRun index left bits fault

-- ---- spans

-- The next span breaks: in its sample's word; in its run; or, after a run no longer than that, in the word of the sample that interrupts
-- it.
abbrev pub BreaksSpan : Plane → Span → Coding → List Bool → CodeFault → Type 0
BreaksSpan plane (sample_span i j) state bits fault = BreaksSample state (around plane i j) bits fault
BreaksSpan plane (run_span i j most interrupted) state bits fault =
    BreaksRun state.run_index (plane.width - j) bits fault
    ⊎ ((count : ℕ) × (more : List Bool) × (count ≤ most) × (j + count < plane.width) × (bits ≡ run_bits state.run_index (run_of count true) ++ more)
    × BreaksInterruption (run_after state (run_of count true)) (around plane i (j + count)) more fault)

-- the bits begin with those of the first of these spans, and what follows breaks the next span
unfoldable pub BreaksSpans : Plane → List Span → Coding → List Bool → CodeFault → Type 0
BreaksSpans plane [] state bits fault = ⊥
BreaksSpans plane (span ∷ later) state bits fault =
    BreaksSpan plane span state bits fault
    ⊎ ((more : List Bool) × (bits ≡ span_bits_in plane span state ++ more) × BreaksSpans plane later (span_after plane span state) more fault)

-- The bits begin with those of the first spans of some plane of this width and height, and what follows breaks the next span.
pub record BreaksPlane (p : Parameters) (width height : ℕ) (bits : List Bool) (fault : CodeFault) : Type 0 where
  pub plane : Plane
  pub is_plane : IsSamplePlane p.maxval width height plane
  pub breaks : BreaksSpans plane (spans plane) (state_of p []) bits fault
