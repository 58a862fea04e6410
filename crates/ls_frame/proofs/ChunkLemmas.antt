-- Writing a text chunk by chunk, and the bytes of samples in chunks.
use Rattle.std.proofs.Common.{◌≡◌, ℕ, ◌+◌, ◌-◌, ◌*◌, ◌/◌, ◌%◌, ◌<◌, ◌≤◌, Bool, true, false, List, [], ◌∷◌, ◌++◌, length, take, drop, get_or, set, Option, refl, sym, ap, subst, ◌∙◌, arith, append_assoc, append-nil}
use Rattle.std.proofs.KnownBytes.{Appends-trans}
use Rattle.std.proofs.Math.Seq.{take-append-add, take-add}
use Rattle.std.proofs.lemmas.List.{length-append, length-set, take-append-le, take-append-drop, take_more, take_more_set}
use Rattle.std.proofs.lemmas.List.Concat.{flat_map-append}
use Rattle.std.proofs.lemmas.Bool.{leb-false}
use Rattle.std.specs.List.{AllByRecursion}
use Rattle.std.specs.Io.KnownBytes.{Appends}
use Rattle.ls_frame.specs.Picture.{Picture, IsFrame}
use Rattle.ls_frame.specs.Netpbm.{is_wide}
use Rattle.ls_frame.specs.View.Reading.{byte_count}
use Rattle.ls_frame.specs.Canonical.{canonical_heading, sample_bytes, raster_bytes, canonical}

-- ---- the bytes of samples

raster_bytes-append : (wide : Bool) (xs ys : List ℕ) → raster_bytes wide (xs ++ ys) ≡ raster_bytes wide xs ++ raster_bytes wide ys
unfolding raster_bytes
raster_bytes-append wide xs ys = flat_map-append (sample_bytes wide) xs ys

pub raster_bytes-nil : (wide : Bool) → raster_bytes wide [] ≡ []
unfolding raster_bytes
raster_bytes-nil wide = refl

raster_bytes-one : (wide : Bool) (sample : ℕ) → raster_bytes wide (sample ∷ []) ≡ sample_bytes wide sample
unfolding raster_bytes
raster_bytes-one wide sample = append-nil (sample_bytes wide sample)

-- samples of one byte each are their bytes
pub raster_bytes-narrow : (samples : List ℕ) → raster_bytes false samples ≡ samples
unfolding raster_bytes
raster_bytes-narrow [] = refl
raster_bytes-narrow (s ∷ samples) = ap (λ bs. s ∷ bs) (raster_bytes-narrow samples)

pub length-raster_bytes : (wide : Bool) (samples : List ℕ) → length (raster_bytes wide samples) ≡ byte_count wide (length samples)
unfolding raster_bytes
length-raster_bytes false samples = ap length (raster_bytes-narrow samples)
length-raster_bytes true [] = refl
length-raster_bytes true (s ∷ samples) = let rest = length-raster_bytes true samples in omega arith

-- one sample more
raster_bytes-more : (wide : Bool) (samples : List ℕ) (i : ℕ) → i < length samples → raster_bytes wide (take (i + 1) samples) ≡ raster_bytes wide (take i samples) ++ sample_bytes wide (get_or samples i 0)
raster_bytes-more wide samples i within =
    ap (raster_bytes wide) (take_more samples i 0 within)
    ∙ raster_bytes-append wide (take i samples) (get_or samples i 0 ∷ [])
    ∙ ap (λ bs. raster_bytes wide (take i samples) ++ bs) (raster_bytes-one wide (get_or samples i 0))

-- the bytes of one more sample, put after those before
pub wide-more : (chunk samples : List ℕ) (i : ℕ) → i < length samples → 2 * length samples ≤ length chunk → take (2 * i) chunk ≡ raster_bytes true (take i samples)
    → take (2 * (i + 1)) (set (set chunk (2 * i) (get_or samples i 0 / 256)) (2 * i + 1) (get_or samples i 0 % 256)) ≡ raster_bytes true (take (i + 1) samples)
wide-more chunk samples i within room before =
    let high = get_or samples i 0 / 256 in
    let low = get_or samples i 0 % 256 in
    let count : 2 * (i + 1) ≡ (2 * i + 1) + 1 = omega arith in
    let size = length-set chunk (2 * i) high in
    ap (λ n. take n (set (set chunk (2 * i) high) (2 * i + 1) low)) count
    ∙ take_more_set (set chunk (2 * i) high) (2 * i + 1) low (omega arith)
    ∙ ap (λ bs. bs ++ low ∷ []) (take_more_set chunk (2 * i) high (omega arith))
    ∙ append_assoc (take (2 * i) chunk) (high ∷ []) (low ∷ [])
    ∙ ap (λ bs. bs ++ high ∷ low ∷ []) before
    ∙ sym (raster_bytes-more true samples i within)

each-below : (most : ℕ) (samples : List ℕ) → most < 256 → AllByRecursion (λ sample. sample ≤ most) samples → AllByRecursion (λ sample. sample < 256) samples
each-below most [] small each = tt
each-below most (s ∷ samples) small each = (let first = each.0 in omega arith, each-below most samples small each.1)

-- samples of a frame are below 256 if they have one byte each
pub narrow-each : (f : Picture) (samples : List ℕ) (wide : Bool) → IsFrame f → wide ≡ is_wide f.maxval → samples ≡ f.samples → wide ≡ false → AllByRecursion (λ sample. sample < 256) samples
narrow-each f samples wide lawful wide_is samples_is narrow =
    rw samples_is (each-below f.maxval f.samples (leb-false 256 f.maxval (sym wide_is ∙ narrow)) lawful.each)

-- ---- samples in chunks

-- the samples from one index to another
abbrev part : List ℕ → ℕ → ℕ → List ℕ
part samples done end = take (end - done) (drop done samples)

-- the bytes of the samples so far, and then those of a part
pub samples-more : (wide : Bool) (samples chunk : List ℕ) (done end : ℕ) → done ≤ end → chunk ≡ raster_bytes wide (part samples done end)
    → raster_bytes wide (take end samples) ≡ raster_bytes wide (take done samples) ++ chunk
samples-more wide samples chunk done end order is =
    let count : end ≡ done + (end - done) = omega arith in
    ap (λ n. raster_bytes wide (take n samples)) count
    ∙ ap (raster_bytes wide) (take-add done (end - done) samples)
    ∙ raster_bytes-append wide (take done samples) (part samples done end)
    ∙ ap (λ bs. raster_bytes wide (take done samples) ++ bs) (sym is)

-- the bytes of the samples after a part
abbrev after : Bool → List ℕ → ℕ → ℕ → List ℕ
after wide samples done end = raster_bytes wide (drop (end - done) (drop done samples))

samples-split : (wide : Bool) (samples chunk : List ℕ) (done end : ℕ) → chunk ≡ raster_bytes wide (part samples done end)
    → raster_bytes wide samples ≡ raster_bytes wide (take done samples) ++ (chunk ++ after wide samples done end)
samples-split wide samples chunk done end is =
    let rest = drop done samples in
    ap (raster_bytes wide) (sym (take-append-drop done samples))
    ∙ raster_bytes-append wide (take done samples) rest
    ∙ ap (λ s. raster_bytes wide (take done samples) ++ raster_bytes wide s) (sym (take-append-drop (end - done) rest))
    ∙ ap (λ bs. raster_bytes wide (take done samples) ++ bs) (raster_bytes-append wide (part samples done end) (drop (end - done) rest))
    ∙ ap (λ bs. raster_bytes wide (take done samples) ++ (bs ++ after wide samples done end)) (sym is)

-- the bytes of a part are at most those of all samples
pub samples-few : (wide : Bool) (samples chunk : List ℕ) (done end : ℕ) → chunk ≡ raster_bytes wide (part samples done end)
    → length (raster_bytes wide (take done samples)) + length chunk ≤ length (raster_bytes wide samples)
samples-few wide samples chunk done end is =
    let front = raster_bytes wide (take done samples) in
    let all = ap length (samples-split wide samples chunk done end is) in
    omega (arith, all, length-append front (chunk ++ after wide samples done end), length-append chunk (after wide samples done end))

-- ---- chunks

-- a chunk was written in part, after others
pub appends-part : (a b c : Option (List ℕ)) (front chunk rest : List ℕ) (before mid written : ℕ) → mid ≡ before + length front → mid ≤ written → written < mid + length chunk
    → Appends a b front → Appends b c (take (written - mid) chunk) → Appends a c (take (written - before) (front ++ (chunk ++ rest)))
appends-part a b c front chunk rest before mid written is low part out more =
    let within : written - mid ≤ length chunk = omega arith in
    let count : written - before ≡ length front + (written - mid) = omega arith in
    let all : take (written - before) (front ++ (chunk ++ rest)) ≡ front ++ take (written - mid) chunk =
    ap (λ n. take n (front ++ (chunk ++ rest))) count ∙ take-append-add front (chunk ++ rest) (written - mid)
    ∙ ap (λ s. front ++ s) (take-append-le (written - mid) chunk rest within) in
    subst (Appends a c) (sym all) (Appends-trans a b c front (take (written - mid) chunk) out more)

-- the same for a part of the samples
pub samples-part : (wide : Bool) (samples chunk : List ℕ) (done end : ℕ) (a b c : Option (List ℕ)) (before mid written : ℕ) → chunk ≡ raster_bytes wide (part samples done end)
    → mid ≡ before + length (raster_bytes wide (take done samples)) → mid ≤ written → written < mid + length chunk
    → Appends a b (raster_bytes wide (take done samples)) → Appends b c (take (written - mid) chunk) → Appends a c (take (written - before) (raster_bytes wide samples))
samples-part wide samples chunk done end a b c before mid written is count low less out more =
    rw (samples-split wide samples chunk done end is)
    (appends-part a b c (raster_bytes wide (take done samples)) chunk (after wide samples done end) before mid written count low less out more)

-- ---- a text of two chunks

-- the first was written in part
pub front-part : (text front back : List ℕ) (a c : Option (List ℕ)) (written : ℕ) → text ≡ front ++ back → written < 0 + length front
    → Appends a c (take (written - 0) front) → Appends a c (take written text)
front-part text front back a c written is less out =
    let all : written - 0 ≡ written = omega arith in
    let same : take (written - 0) front ≡ take written text = ap (λ n. take n front) all ∙ sym (ap (take written) is ∙ take-append-le written front back (omega arith)) in
    subst (Appends a c) same out

-- the first was written, and the second in part
pub back-part : (text front back : List ℕ) (a b c : Option (List ℕ)) (mid written : ℕ) → text ≡ front ++ back → mid ≡ 0 + length front → mid ≤ written → written < mid + length back
    → Appends a b front → Appends b c (take (written - mid) back) → Appends a c (take written text)
back-part text front back a b c mid written is count low less out more =
    let all : written - 0 ≡ written = omega arith in
    let whole : take (written - 0) (front ++ (back ++ [])) ≡ take written text = ap (λ n. take n (front ++ (back ++ []))) all ∙ ap (λ bs. take written (front ++ bs)) (append-nil back) ∙ sym (ap (take written) is) in
    subst (Appends a c) whole (appends-part a b c front back [] 0 mid written count low less out more)

-- the canonical text is a header and a raster
pub canonical-chunks : (f : Picture) (heading samples : List ℕ) (wide : Bool) → heading ≡ canonical_heading f → wide ≡ is_wide f.maxval → samples ≡ f.samples
    → canonical f ≡ heading ++ raster_bytes wide samples
unfolding canonical
canonical-chunks f heading samples wide heading_is wide_is samples_is =
    ap (λ h. h ++ raster_bytes (is_wide f.maxval) f.samples) (sym heading_is)
    ∙ ap (λ w. heading ++ raster_bytes w f.samples) (sym wide_is)
    ∙ ap (λ s. heading ++ raster_bytes wide s) (sym samples_is)
