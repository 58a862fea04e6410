-- Rasters: the bytes that reading takes, how it fails, and that each raster of the grammar is read.
use Rattle.std.proofs.Common.{◌≡◌, ℕ, zero, suc, ◌+◌, ◌<◌, ◌≤◌, Bool, true, false, leb, List, [], ◌∷◌, ◌++◌, length, MatchResult, Ok, Err, refl, sym, ap, ◌∙◌, arith, append_assoc, append-nil}
use Rattle.std.specs.List.{AllByRecursion}
use Rattle.std.proofs.lemmas.Bool.{cond_both, leb-true, leb-false, le-leb, lt-leb}
use Rattle.ls_frame.specs.declared.netpbm.NetpbmFault.{NetpbmFault}
use Rattle.ls_frame.specs.declared.netpbm.NetpbmFault.TheVariants.{SampleTooLarge, Truncated}
use Rattle.ls_frame.specs.Netpbm.{IsSample, IsRaster}
use Rattle.ls_frame.specs.Faults.{sample_size}
use Rattle.ls_frame.specs.View.Reading.{◌>>=◌, sample_at, within, with_front, samples_at}
use Rattle.ls_frame.proofs.TakeLemmas.{outcome_of_both}
use Rattle.ls_frame.proofs.RasterLemmas.{with_front-nil, with_front-all}

-- each at most maxval
abbrev pub AreWithin : ℕ → List ℕ → Type 0
AreWithin maxval samples = AllByRecursion (λ sample. sample ≤ maxval) samples

-- ---- what is taken

-- a sample was taken
pub record SampleRead (wide : Bool) (bytes : List ℕ) (found : ℕ × List ℕ) : Type 0 where
  pub first : List ℕ
  pub whole : bytes ≡ first ++ found.1
  pub said : IsSample wide first found.0

-- `count` samples within maxval, and the bytes after them
pub record RasterRead (wide : Bool) (maxval count : ℕ) (bytes : List ℕ) (found : List ℕ × List ℕ) : Type 0 where
  pub raster : List ℕ
  pub whole : bytes ≡ raster ++ found.1
  pub said : IsRaster wide raster found.0
  pub each : AreWithin maxval found.0
  pub all : length found.0 ≡ count

-- fewer than `count` samples within maxval, and the bytes after them
pub record RasterBegun (wide : Bool) (maxval count : ℕ) (bytes rest : List ℕ) : Type 0 where
  pub raster : List ℕ
  pub samples : List ℕ
  pub whole : bytes ≡ raster ++ rest
  pub said : IsRaster wide raster samples
  pub each : AreWithin maxval samples
  pub more : length samples < count

-- how a raster fails
pub data RasterFault (wide : Bool) (maxval count : ℕ) (bytes : List ℕ) (fault : NetpbmFault) : Type 0 where
  ends_early : (rest : List ℕ) → RasterBegun wide maxval count bytes rest → length rest < sample_size wide → fault ≡ Truncated → RasterFault wide maxval count bytes fault
  exceeds : (next rest : List ℕ) (sample : ℕ) → RasterBegun wide maxval count bytes (next ++ rest) → IsSample wide next sample → maxval < sample → fault ≡ SampleTooLarge
      → RasterFault wide maxval count bytes fault

-- ---- one sample

-- too few bytes for one
abbrev EndsInSample : Bool → List ℕ → NetpbmFault → Type 0
EndsInSample wide bytes fault = (length bytes < sample_size wide) × (fault ≡ Truncated)

-- reading gives a sample, unless the bytes end
sample_outcome : (wide : Bool) (bytes : List ℕ) → MatchResult (sample_at wide bytes) (SampleRead wide bytes) (EndsInSample wide bytes)
sample_outcome false [] = (omega arith, refl)
sample_outcome false (c ∷ bytes) = record { first = c ∷ []; whole = refl; said = refl }
sample_outcome true [] = (omega arith, refl)
sample_outcome true (high ∷ []) = (omega arith, refl)
sample_outcome true (high ∷ low ∷ bytes) = record { first = high ∷ low ∷ []; whole = refl; said = (high, low, refl, refl) }

-- no sample so far
begun_none : (wide : Bool) (maxval count : ℕ) (bytes : List ℕ) → RasterBegun wide maxval (suc count) bytes bytes
begun_none wide maxval count bytes = record { raster = []; samples = []; whole = refl; said = refl; each = tt; more = omega arith }

-- one sample more in front
whole_more : {bytes middle : List ℕ} (first raster rest : List ℕ) → bytes ≡ first ++ middle → middle ≡ raster ++ rest → bytes ≡ (first ++ raster) ++ rest
whole_more first raster rest a b = a ∙ ap (λ bs. first ++ bs) b ∙ sym (append_assoc first raster rest)

-- after it begins the raster
begun_more : {wide : Bool} {maxval count : ℕ} {bytes rest : List ℕ} (found : ℕ × List ℕ) → SampleRead wide bytes found → found.0 ≤ maxval → RasterBegun wide maxval count found.1 rest
    → RasterBegun wide maxval (suc count) bytes rest
begun_more found read is begun = record {
  raster = read.first ++ begun.raster;
  samples = found.0 ∷ begun.samples;
  whole = whole_more read.first begun.raster _ read.whole begun.whole;
  said = (read.first, begun.raster, refl, read.said, begun.said);
  each = (is, begun.each);
  more = let m = begun.more in omega arith;
}

-- or ends
read_more : {wide : Bool} {maxval count : ℕ} {bytes : List ℕ} (found : ℕ × List ℕ) (after : List ℕ × List ℕ) → SampleRead wide bytes found → found.0 ≤ maxval → RasterRead wide maxval count found.1 after
    → RasterRead wide maxval (suc count) bytes (found.0 ∷ after.0, after.1)
read_more found after read is more = record {
  raster = read.first ++ more.raster;
  whole = whole_more read.first more.raster _ read.whole more.whole;
  said = (read.first, more.raster, refl, read.said, more.said);
  each = (is, more.each);
  all = ap suc more.all;
}

-- or fails
fault_more : {wide : Bool} {maxval count : ℕ} {bytes : List ℕ} {fault : NetpbmFault} (found : ℕ × List ℕ) → SampleRead wide bytes found → found.0 ≤ maxval → RasterFault wide maxval count found.1 fault
    → RasterFault wide maxval (suc count) bytes fault
fault_more found read is (ends_early rest begun short fault_is) = ends_early rest (begun_more found read is begun) short fault_is
fault_more found read is (exceeds next rest sample begun said over fault_is) = exceeds next rest sample (begun_more found read is begun) said over fault_is

-- a sample over maxval
exceeds_here : {wide : Bool} {maxval : ℕ} {bytes : List ℕ} (count : ℕ) (found : ℕ × List ℕ) → SampleRead wide bytes found → maxval < found.0 → RasterFault wide maxval (suc count) bytes SampleTooLarge
exceeds_here {wide = wide} {maxval = maxval} {bytes = bytes} count found read over =
    exceeds read.first found.1 found.0 (rw (← read.whole) (begun_none wide maxval count bytes)) read.said over refl

-- ---- what reading gives

-- the test of a sample, and the samples after it
after_sample : (wide : Bool) (maxval count : ℕ) (bytes : List ℕ) (found : ℕ × List ℕ) → SampleRead wide bytes found
    → MatchResult (samples_at wide maxval count found.1) (RasterRead wide maxval count found.1) (RasterFault wide maxval count found.1)
    → MatchResult (within maxval found.0 >>= λ s. with_front (s ∷ []) (samples_at wide maxval count found.1)) (RasterRead wide maxval (suc count) bytes) (RasterFault wide maxval (suc count) bytes)
after_sample wide maxval count bytes found read outcome =
    let P = RasterRead wide maxval (suc count) bytes in
    let Q = RasterFault wide maxval (suc count) bytes in
    cond_both (leb found.0 maxval) (Ok found.0) (Err SampleTooLarge) (λ r. MatchResult (r >>= λ s. with_front (s ∷ []) (samples_at wide maxval count found.1)) P Q)
    (λ test. outcome_of_both (RasterRead wide maxval count found.1) (RasterFault wide maxval count found.1) P Q (samples_at wide maxval count found.1) (λ after. Ok (found.0 ∷ after.0, after.1))
    outcome
    (λ after more. read_more found after read (leb-true found.0 maxval test) more)
    (λ fault failed. fault_more found read (leb-true found.0 maxval test) failed))
    (λ test. exceeds_here count found read (leb-false found.0 maxval test))

-- reading gives a raster, or fails in one of these ways
pub samples_outcome : (wide : Bool) (maxval count : ℕ) (bytes : List ℕ) → MatchResult (samples_at wide maxval count bytes) (RasterRead wide maxval count bytes) (RasterFault wide maxval count bytes)
unfolding samples_at
samples_outcome wide maxval zero bytes = record { raster = []; whole = refl; said = refl; each = tt; all = refl }
samples_outcome wide maxval (suc count) bytes =
    outcome_of_both (SampleRead wide bytes) (EndsInSample wide bytes) (RasterRead wide maxval (suc count) bytes) (RasterFault wide maxval (suc count) bytes) (sample_at wide bytes) _
    (sample_outcome wide bytes)
    (λ found read. after_sample wide maxval count bytes found read (samples_outcome wide maxval count found.1))
    (λ fault ends. ends_early bytes (begun_none wide maxval count bytes) ends.0 ends.1)

-- ---- each raster of the grammar is read

-- an encoded sample is read
pub sample_passes : (wide : Bool) (first bytes : List ℕ) (sample : ℕ) → IsSample wide first sample → sample_at wide (first ++ bytes) ≡ Ok (sample, bytes)
sample_passes false first bytes sample said = rw said refl
sample_passes true first bytes sample said = rw (said.2, said.3) refl

-- one within maxval is the first of the samples read
sample_read : (wide : Bool) (maxval count sample : ℕ) (bytes rest : List ℕ) → sample_at wide bytes ≡ Ok (sample, rest) → sample ≤ maxval
    → samples_at wide maxval (suc count) bytes ≡ with_front (sample ∷ []) (samples_at wide maxval count rest)
unfolding samples_at
sample_read wide maxval count sample bytes rest found is = rw (found, le-leb sample maxval is) refl

-- one over maxval isn't
pub sample_over : (wide : Bool) (maxval count sample : ℕ) (bytes rest : List ℕ) → sample_at wide bytes ≡ Ok (sample, rest) → maxval < sample
    → samples_at wide maxval (suc count) bytes ≡ Err SampleTooLarge
unfolding samples_at
sample_over wide maxval count sample bytes rest found over = rw (found, lt-leb sample maxval over) refl

-- too few bytes aren't a sample
short_sample : (wide : Bool) (bytes : List ℕ) → length bytes < sample_size wide → sample_at wide bytes ≡ Err Truncated
short_sample false [] short = refl
short_sample false (c ∷ bytes) short = absurd (omega arith)
short_sample true [] short = refl
short_sample true (high ∷ []) short = refl
short_sample true (high ∷ low ∷ bytes) short = absurd (omega arith)

-- and aren't a raster
pub sample_short : (wide : Bool) (maxval count : ℕ) (bytes : List ℕ) → length bytes < sample_size wide → samples_at wide maxval (suc count) bytes ≡ Err Truncated
unfolding samples_at
sample_short wide maxval count bytes short = rw (short_sample wide bytes short) refl

-- reading goes on after samples within maxval
pub samples_pass : (wide : Bool) (maxval : ℕ) (samples raster bytes : List ℕ) (count left : ℕ) → IsRaster wide raster samples → AreWithin maxval samples → count ≡ length samples + left
    → samples_at wide maxval count (raster ++ bytes) ≡ with_front samples (samples_at wide maxval left bytes)
samples_pass wide maxval [] raster bytes count left said each all =
    let same : count ≡ left = omega arith in rw (said, same) (sym (with_front-nil (samples_at wide maxval left bytes)))
samples_pass wide maxval (s ∷ samples) raster bytes zero left said each all = absurd (omega arith)
samples_pass wide maxval (s ∷ samples) raster bytes (suc count) left said each all =
    let regrouped : raster ++ bytes ≡ said.0 ++ (said.1 ++ bytes) = ap (λ bs. bs ++ bytes) said.2 ∙ append_assoc said.0 said.1 bytes in
    ap (λ bs. samples_at wide maxval (suc count) bs) regrouped
    ∙ sample_read wide maxval count s (said.0 ++ (said.1 ++ bytes)) (said.1 ++ bytes) (sample_passes wide said.0 (said.1 ++ bytes) s said.3) each.0
    ∙ ap (λ read. with_front (s ∷ []) read) (samples_pass wide maxval samples said.1 bytes count left said.4 each.1 (omega arith))
    ∙ with_front-all (s ∷ []) samples (samples_at wide maxval left bytes)

-- all of them
pub raster_read : (wide : Bool) (maxval count : ℕ) (samples raster rest : List ℕ) → IsRaster wide raster samples → AreWithin maxval samples → length samples ≡ count
    → samples_at wide maxval count (raster ++ rest) ≡ Ok (samples, rest)
unfolding samples_at
raster_read wide maxval count samples raster rest said each all =
    samples_pass wide maxval samples raster rest count 0 said each (omega arith) ∙ ap (λ s. Ok (s, rest)) (append-nil samples)
