-- The error of a sample, from the sample and its prediction subtracted from MAXVAL.
use Rattle.std.proofs.Common.{◌≡◌, ℕ, ◌-◌, ◌≤◌, Bool, true, false, cond, List, ℤ, pos, neg_ℤ, ◌+ℤ◌, ◌-ℤ◌, refl, ◌∙◌, ap, arith}
use Rattle.std.specs.Prelude.{int_lt, max, ◌==◌}
use Rattle.std.proofs.Math.ListN.{set}
use Rattle.std.proofs.lemmas.Int.{ints}
use Rattle.ls_frame.specs.Parameters.{Parameters, range_of}
use Rattle.ls_coding.specs.declared.neighbours.Neighbours.{Neighbours}
use Rattle.ls_coding.specs.declared.mirrored.Mirrored.{Mirrored}
use Rattle.ls_coding.specs.Numbers.{clamped}
use Rattle.ls_coding.specs.Contexts.{context_of, signed}
use Rattle.ls_coding.specs.Errors.{median, reduced}
use Rattle.ls_coding.specs.Stats.{Stats, stats_step}
use Rattle.ls_coding.specs.Events.{regular_error_of, regular_word}
use Rattle.ls_coding.specs.View.States.{Coding}
use Rattle.ls_coding.specs.View.Fields.{stats_at, contexts_of}
use Rattle.ls_coding.specs.View.Calls.{MayCodeMirrored}
use Rattle.ls_coding.specs.View.Mirrors.{mirror_image, mirrored_error, IsMirrored}
use Rattle.ls_coding.proofs.RegularLemmas.{context_small}
use Rattle.ls_coding.proofs.StatsLemmas.{choose, lt_true, lt_false}

-- clamping a mirrored number mirrors the clamped number
clamped_mirrored : (most : ℕ) (y z : ℤ) → y ≡ pos most -ℤ z → clamped (pos 0) (pos most) y ≡ pos most -ℤ clamped (pos 0) (pos most) z
clamped_mirrored most y z e =
    choose (int_lt y (pos 0)) (pos 0) (cond (int_lt (pos most) y) (pos most) y) (λ v. v ≡ pos most -ℤ clamped (pos 0) (pos most) z)
    (λ f. choose (int_lt z (pos 0)) (pos 0) (cond (int_lt (pos most) z) (pos most) z) (λ v. pos 0 ≡ pos most -ℤ v)
    (λ g. absurd (omega (arith, ints, lt_true y (pos 0) f, lt_true z (pos 0) g)))
    (λ g. choose (int_lt (pos most) z) (pos most) z (λ v. pos 0 ≡ pos most -ℤ v)
    (λ h. omega (arith, ints))
    (λ h. absurd (omega (arith, ints, lt_true y (pos 0) f, lt_false (pos most) z h)))))
    (λ f. choose (int_lt (pos most) y) (pos most) y (λ v. v ≡ pos most -ℤ clamped (pos 0) (pos most) z)
    (λ g. choose (int_lt z (pos 0)) (pos 0) (cond (int_lt (pos most) z) (pos most) z) (λ v. pos most ≡ pos most -ℤ v)
    (λ h. omega (arith, ints))
    (λ h. absurd (omega (arith, ints, lt_true (pos most) y g, lt_false z (pos 0) h))))
    (λ g. choose (int_lt z (pos 0)) (pos 0) (cond (int_lt (pos most) z) (pos most) z) (λ v. y ≡ pos most -ℤ v)
    (λ h. absurd (omega (arith, ints, lt_false (pos most) y g, lt_true z (pos 0) h)))
    (λ h. choose (int_lt (pos most) z) (pos most) z (λ v. y ≡ pos most -ℤ v)
    (λ i. absurd (omega (arith, ints, lt_false y (pos 0) f, lt_true (pos most) z i)))
    (λ i. e))))

same_difference : (most m x : ℕ) (c : ℤ) (negative : Bool) → m ≤ most → x ≤ most
    → pos (mirror_image most negative x) -ℤ clamped (pos 0) (pos most) (pos (mirror_image most negative m) +ℤ c)
    ≡ signed negative (pos x -ℤ clamped (pos 0) (pos most) (pos m +ℤ signed negative c))
same_difference most m x c false h k = refl
same_difference most m x c true h k =
    let other : clamped (pos 0) (pos most) (pos (most - m) +ℤ c) ≡ pos most -ℤ clamped (pos 0) (pos most) (pos m +ℤ neg_ℤ c) =
    clamped_mirrored most (pos (most - m) +ℤ c) (pos m +ℤ neg_ℤ c) (omega (arith, ints)) in
    ap (λ z. pos (most - x) -ℤ z) other ∙ omega (arith, ints)

median_small : (n : Neighbours) → median n ≤ max n.a n.b
median_small n = grind (arith)

-- it is the error of the sample itself
pub error_is : (p : Parameters) (t : Stats) (n : Neighbours) (sample : ℕ) (one : Mirrored) → IsMirrored p n sample one
    → mirrored_error p t.c one.prediction one.sample ≡ regular_error_of p (context_of p n) t n sample
error_is p t n sample one h =
    ap (λ m. mirrored_error p t.c m one.sample) h.prediction_is
    ∙ ap (mirrored_error p t.c (mirror_image p.maxval (context_of p n).negative (median n))) h.sample_is
    ∙ ap (reduced (range_of p.maxval)) (same_difference p.maxval (median n) sample t.c (context_of p n).negative (omega (arith, median_small n, h.samples.left, h.samples.above)) h.within)

-- ---- in the counters of all contexts

pub word_is : (p : Parameters) (a n : List ℕ) (b c : List ℤ) (x : Neighbours) (sample : ℕ) (one : Mirrored) → IsMirrored p x sample one
    → regular_word p (stats_at a b c n one.context) (mirrored_error p (stats_at a b c n one.context).c one.prediction one.sample)
    ≡ regular_word p (stats_at a b c n (context_of p x).number) (regular_error_of p (context_of p x) (stats_at a b c n (context_of p x).number) x sample)
word_is p a n b c x sample one h =
    ap (λ number. regular_word p (stats_at a b c n number) (mirrored_error p (stats_at a b c n number).c one.prediction one.sample)) h.context_is
    ∙ ap (regular_word p (stats_at a b c n (context_of p x).number)) (error_is p (stats_at a b c n (context_of p x).number) x sample one h)

pub step_is : (p : Parameters) (a n : List ℕ) (b c : List ℤ) (x : Neighbours) (sample : ℕ) (one : Mirrored) → IsMirrored p x sample one
    → set (contexts_of a b c n) one.context (stats_step p.reset (stats_at a b c n one.context) (mirrored_error p (stats_at a b c n one.context).c one.prediction one.sample))
    ≡ set (contexts_of a b c n) (context_of p x).number
    (stats_step p.reset (stats_at a b c n (context_of p x).number) (regular_error_of p (context_of p x) (stats_at a b c n (context_of p x).number) x sample))
step_is p a n b c x sample one h =
    ap (λ number. set (contexts_of a b c n) number (stats_step p.reset (stats_at a b c n number) (mirrored_error p (stats_at a b c n number).c one.prediction one.sample))) h.context_is
    ∙ ap (λ (z : ℤ). set (contexts_of a b c n) (context_of p x).number (stats_step p.reset (stats_at a b c n (context_of p x).number) z)) (error_is p (stats_at a b c n (context_of p x).number) x sample one h)

-- ---- its bounds

image_small : (most x : ℕ) (negative : Bool) → x ≤ most → mirror_image most negative x ≤ most
image_small most x true h = omega arith
image_small most x false h = h

pub may_code : (s : Coding) (n : Neighbours) (sample : ℕ) (one : Mirrored) → s.interrupted ≡ false → IsMirrored s.parameters n sample one → MayCodeMirrored s one
may_code s n sample one uninterrupted h = record {
  context = omega (arith, h.context_is, context_small s.parameters n);
  prediction = omega (arith, h.prediction_is, image_small s.parameters.maxval (median n) (context_of s.parameters n).negative (omega (arith, median_small n, h.samples.left, h.samples.above)));
  within = omega (arith, h.sample_is, image_small s.parameters.maxval sample (context_of s.parameters n).negative h.within);
  uninterrupted = uninterrupted;
}
