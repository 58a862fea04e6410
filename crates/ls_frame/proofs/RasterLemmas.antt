-- Samples in the bytes of a raster.
use Rattle.std.proofs.Common.{◌≡◌, ℕ, zero, suc, ◌+◌, ◌-◌, ◌*◌, ◌/◌, ◌%◌, ◌&&◌, cond, leb, get_or, set, ◌⊎◌, inl, inr, Ok, Err, take, ◌<◌, ◌≤◌, Bool, true, false, List, [], ◌∷◌, ◌++◌, length, drop, refl, sym, ap, ◌∙◌, arith, append_assoc, append-nil}
use Rattle.std.proofs.lemmas.List.{drop-drop, length-drop, length-take, length-take-le, length-append, get_or-take, take_more_set}
use Rattle.std.proofs.lemmas.Bool.{and_parts, and_from, leb-true}
use Rattle.std.specs.List.{AllByRecursion}
use Rattle.byteorder.specs.Endian.{big_number}
use Rattle.ls_frame.specs.declared.netpbm.NetpbmFault.TheVariants.{SampleTooLarge, Truncated}
use Rattle.ls_frame.specs.Faults.{sample_size}
use Rattle.ls_frame.specs.View.Reading.{◌>>=◌, Take, samples_of, begun_of, byte_count, are_within, within, with_front, samples_at}

-- ---- pairs of bytes

pub samples_of-pair : (bytes : List ℕ) → 2 ≤ length bytes → samples_of true bytes ≡ big_number 2 bytes ∷ samples_of true (drop 2 bytes)
unfolding samples_of
samples_of-pair [] h = absurd (omega arith)
samples_of-pair (a ∷ []) h = absurd (omega arith)
samples_of-pair (a ∷ b ∷ bytes) h = let same : 256 * a + b ≡ a * 256 + (b * 1 + 0) = omega arith in ap (λ s. s ∷ samples_of true bytes) same

pub samples_of-short : (bytes : List ℕ) → length bytes < 2 → samples_of true bytes ≡ []
unfolding samples_of
samples_of-short [] h = refl
samples_of-short (a ∷ []) h = refl
samples_of-short (a ∷ b ∷ bytes) h = absurd (omega arith)

-- one more pair was appended; below, no pair is left
pub samples_of-more : (front bytes all : List ℕ) (i sample : ℕ) → front ++ samples_of true (drop (2 * i) bytes) ≡ all → i < length bytes / 2
    → sample ≡ big_number 2 (drop (2 * i) bytes) → (front ++ sample ∷ []) ++ samples_of true (drop (2 * (i + 1)) bytes) ≡ all
samples_of-more front bytes all i sample said more is =
    let left : 2 ≤ length (drop (2 * i) bytes) = simp length-drop (omega arith) in
    let after : drop 2 (drop (2 * i) bytes) ≡ drop (2 * (i + 1)) bytes =
    drop-drop 2 (2 * i) bytes ∙ (let same : 2 * i + 2 ≡ 2 * (i + 1) = omega arith in ap (λ n. drop n bytes) same) in
    append_assoc front (sample ∷ []) (samples_of true (drop (2 * (i + 1)) bytes))
    ∙ ap (λ s. front ++ s ∷ samples_of true (drop (2 * (i + 1)) bytes)) is
    ∙ ap (λ bs. front ++ big_number 2 (drop (2 * i) bytes) ∷ samples_of true bs) (sym after)
    ∙ ap (λ s. front ++ s) (sym (samples_of-pair (drop (2 * i) bytes) left))
    ∙ said

pub samples_of-all : (front bytes all : List ℕ) (i : ℕ) → front ++ samples_of true (drop (2 * i) bytes) ≡ all → length bytes / 2 ≤ i → front ≡ all
samples_of-all front bytes all i said none =
    let short : length (drop (2 * i) bytes) < 2 = simp length-drop (omega arith) in
    sym (append-nil front) ∙ ap (λ s. front ++ s) (sym (samples_of-short (drop (2 * i) bytes) short)) ∙ said

-- ---- the number of samples in bytes, and the byte of an incomplete one

pub length-samples_of : (bytes : List ℕ) → length (samples_of true bytes) ≡ length bytes / 2
unfolding samples_of
length-samples_of [] = refl
length-samples_of (a ∷ []) = refl
length-samples_of (a ∷ b ∷ bytes) = let more = length-samples_of bytes in omega arith

pub begun_of-even : (bytes : List ℕ) → length bytes % 2 ≡ 0 → begun_of true bytes ≡ []
unfolding begun_of
begun_of-even [] h = refl
begun_of-even (a ∷ []) h = absurd (omega arith)
begun_of-even (a ∷ b ∷ bytes) h = begun_of-even bytes (omega arith)

pub begun_of-odd : (bytes : List ℕ) → length bytes % 2 ≡ 1 → begun_of true bytes ≡ get_or bytes (length bytes - 1) 0 ∷ []
unfolding begun_of
begun_of-odd [] h = absurd (omega arith)
begun_of-odd (a ∷ []) h = refl
begun_of-odd (a ∷ b ∷ bytes) h =
    let odd : length bytes % 2 ≡ 1 = omega arith in
    let place : suc (suc (length bytes)) - 1 ≡ suc (suc (length bytes - 1)) = omega arith in
    begun_of-odd bytes odd ∙ ap (λ i. get_or (a ∷ b ∷ bytes) i 0 ∷ []) (sym place)

-- The byte of an incomplete sample is the last of an odd number, copied to the front of the chunk.
pub begun_of-none : (wide : Bool) (chunk : List ℕ) (filled : ℕ) → filled ≤ length chunk → (wide ≡ false) ⊎ (filled % 2 ≡ 0) → begun_of wide (take filled chunk) ≡ []
unfolding begun_of
begun_of-none wide chunk filled within (inl narrow) = rw narrow refl
begun_of-none false chunk filled within (inr even) = refl
begun_of-none true chunk filled within (inr even) =
    begun_of-even (take filled chunk) (let all : length (take filled chunk) ≡ filled = length-take-le filled chunk within in rw all even)

pub begun_of-one : (chunk : List ℕ) (filled : ℕ) → 0 < filled → filled ≤ length chunk → filled % 2 ≡ 1
    → take 1 (set chunk 0 (get_or chunk (filled - 1) 0)) ≡ begun_of true (take filled chunk)
begun_of-one chunk filled some within odd =
    let all : length (take filled chunk) ≡ filled = length-take-le filled chunk within in
    let last : get_or (take filled chunk) (filled - 1) 0 ≡ get_or chunk (filled - 1) 0 = get_or-take filled chunk (filled - 1) 0 (omega arith) in
    take_more_set chunk 0 _ (omega arith)
    ∙ ap (λ s. s ∷ []) (sym last)
    ∙ ap (λ n. get_or (take filled chunk) (n - 1) 0 ∷ []) (sym all)
    ∙ sym (begun_of-odd (take filled chunk) (rw all odd))

-- ---- the samples of a chunk

pub with_front-all : (front back : List ℕ) (read : Take (List ℕ)) → with_front front (with_front back read) ≡ with_front (front ++ back) read
with_front-all front back (Ok found) = ap (λ s. Ok (s, found.1)) (sym (append_assoc front back found.0))
with_front-all front back (Err fault) = refl

pub with_front-nil : (read : Take (List ℕ)) → with_front [] read ≡ read
with_front-nil (Ok found) = refl
with_front-nil (Err fault) = refl

-- reading a chunk's samples: a fault if one is over maxval, else they stand in front of those read after them
pub chunk_read : Bool → List ℕ → Take (List ℕ) → Take (List ℕ)
chunk_read true front read = with_front front read
chunk_read false front read = Err SampleTooLarge

one_more : (here rest : Bool) (s : ℕ) (front : List ℕ) (read : Take (List ℕ))
    → ((cond here (Ok s) (Err SampleTooLarge)) >>= λ s. with_front (s ∷ []) (chunk_read rest front read)) ≡ chunk_read (here && rest) (s ∷ front) read
unfolding chunk_read
one_more true true s front read = with_front-all (s ∷ []) front read
one_more true false s front read = refl
one_more false true s front read = refl
one_more false false s front read = refl

pub samples_at-chunk : (wide : Bool) (maxval : ℕ) (bytes rest : List ℕ) (n : ℕ)
    → samples_at wide maxval (length (samples_of wide bytes) + n) (bytes ++ rest)
    ≡ chunk_read (are_within maxval (samples_of wide bytes)) (samples_of wide bytes) (samples_at wide maxval n (begun_of wide bytes ++ rest))
unfolding samples_at samples_of begun_of chunk_read
samples_at-chunk false maxval [] rest n = (let e : 0 + n ≡ n = omega arith in ap (λ k. samples_at false maxval k rest) e) ∙ sym (with_front-nil _)
samples_at-chunk false maxval (a ∷ bytes) rest n =
    (let e : suc (length bytes) + n ≡ suc (length bytes + n) = omega arith in ap (λ k. samples_at false maxval k (a ∷ bytes ++ rest)) e)
    ∙ ap (λ read. within maxval a >>= λ s. with_front (s ∷ []) read) (samples_at-chunk false maxval bytes rest n)
    ∙ one_more (leb a maxval) (are_within maxval bytes) a bytes (samples_at false maxval n rest)
samples_at-chunk true maxval [] rest n = (let e : 0 + n ≡ n = omega arith in ap (λ k. samples_at true maxval k rest) e) ∙ sym (with_front-nil _)
samples_at-chunk true maxval (a ∷ []) rest n = (let e : 0 + n ≡ n = omega arith in ap (λ k. samples_at true maxval k (a ∷ rest)) e) ∙ sym (with_front-nil _)
samples_at-chunk true maxval (a ∷ b ∷ bytes) rest n =
    (let e : suc (length (samples_of true bytes)) + n ≡ suc (length (samples_of true bytes) + n) = omega arith in ap (λ k. samples_at true maxval k (a ∷ b ∷ bytes ++ rest)) e)
    ∙ ap (λ read. within maxval (256 * a + b) >>= λ s. with_front (s ∷ []) read) (samples_at-chunk true maxval bytes rest n)
    ∙ one_more (leb (256 * a + b) maxval) (are_within maxval (samples_of true bytes)) (256 * a + b) (samples_of true bytes) (samples_at true maxval n (begun_of true bytes ++ rest))

-- ---- the loop's progress by one chunk

pub chunk-size : (wide : Bool) (bytes : List ℕ) → byte_count wide (length (samples_of wide bytes)) + length (begun_of wide bytes) ≡ length bytes
unfolding samples_of begun_of
chunk-size false bytes = omega arith
chunk-size true [] = refl
chunk-size true (a ∷ []) = refl
chunk-size true (a ∷ b ∷ bytes) = let more = chunk-size true bytes in omega arith

pub chunk-few : (wide : Bool) (left here begun filled : ℕ) → byte_count wide here + begun ≡ filled → filled ≤ byte_count wide left → here ≤ left
chunk-few false left here begun filled all within = omega arith
chunk-few true left here begun filled all within = omega arith

pub chunk-less : (wide : Bool) (left here begun filled held : ℕ) → byte_count wide here + begun ≡ filled → filled ≤ byte_count wide left → held < filled
    → byte_count wide (left - here) - begun < byte_count wide left - held
chunk-less false left here begun filled held all within more = omega arith
chunk-less true left here begun filled held all within more = omega arith

-- ---- the invariant of the loop over chunks

-- the number of samples left, split at those of a chunk
left-split : (count : ℕ) (samples more : List ℕ) → length more ≤ count - length samples → count - length samples ≡ length more + (count - length (samples ++ more))
left-split count samples more few = let all = length-append samples more in omega arith

-- a chunk was read
chunks-read : (wide : Bool) (maxval count : ℕ) (samples part before rest : List ℕ) (within : Bool) (whole : Take (List ℕ))
    → whole ≡ with_front samples (samples_at wide maxval (count - length samples) before) → before ≡ part ++ rest
    → are_within maxval (samples_of wide part) ≡ within → length (samples_of wide part) ≤ count - length samples
    → whole ≡ with_front samples (chunk_read within (samples_of wide part) (samples_at wide maxval (count - length (samples ++ samples_of wide part)) (begun_of wide part ++ rest)))
chunks-read wide maxval count samples part before rest within whole said read passes few =
    said
    ∙ ap (λ bytes. with_front samples (samples_at wide maxval (count - length samples) bytes)) read
    ∙ ap (λ n. with_front samples (samples_at wide maxval n (part ++ rest))) (left-split count samples (samples_of wide part) few)
    ∙ ap (with_front samples) (samples_at-chunk wide maxval part rest (count - length (samples ++ samples_of wide part)))
    ∙ ap (λ w. with_front samples (chunk_read w (samples_of wide part) (samples_at wide maxval (count - length (samples ++ samples_of wide part)) (begun_of wide part ++ rest)))) passes

-- .. and all of its samples are within maxval
pub chunks-more : (wide : Bool) (maxval count : ℕ) (samples part before rest : List ℕ) (whole : Take (List ℕ))
    → whole ≡ with_front samples (samples_at wide maxval (count - length samples) before) → before ≡ part ++ rest
    → are_within maxval (samples_of wide part) ≡ true → length (samples_of wide part) ≤ count - length samples
    → whole ≡ with_front (samples ++ samples_of wide part) (samples_at wide maxval (count - length (samples ++ samples_of wide part)) (begun_of wide part ++ rest))
unfolding chunk_read
chunks-more wide maxval count samples part before rest whole said read passes few =
    chunks-read wide maxval count samples part before rest true whole said read passes few
    ∙ with_front-all samples (samples_of wide part) _

-- .. or one is over it
pub chunks-over : (wide : Bool) (maxval count : ℕ) (samples part before rest : List ℕ) (whole : Take (List ℕ))
    → whole ≡ with_front samples (samples_at wide maxval (count - length samples) before) → before ≡ part ++ rest
    → are_within maxval (samples_of wide part) ≡ false → length (samples_of wide part) ≤ count - length samples → whole ≡ Err SampleTooLarge
unfolding chunk_read
chunks-over wide maxval count samples part before rest whole said read passes few =
    chunks-read wide maxval count samples part before rest false whole said read passes few

samples_at-short : (wide : Bool) (maxval left : ℕ) (bytes : List ℕ) → 0 < left → length bytes < sample_size wide → samples_at wide maxval left bytes ≡ Err Truncated
unfolding samples_at
samples_at-short wide maxval zero bytes more short = absurd (omega arith)
samples_at-short false maxval (suc left) [] more short = refl
samples_at-short false maxval (suc left) (a ∷ bytes) more short = absurd (omega arith)
samples_at-short true maxval (suc left) [] more short = refl
samples_at-short true maxval (suc left) (a ∷ []) more short = refl
samples_at-short true maxval (suc left) (a ∷ b ∷ bytes) more short = absurd (omega arith)

held-short : (wide : Bool) (chunk : List ℕ) (held : ℕ) → held ≤ 1 → (wide ≡ false → held ≡ 0) → length (take held chunk) < sample_size wide
held-short false chunk held few narrow = let none = narrow refl in omega (arith, length-take held chunk)
held-short true chunk held few narrow = omega (arith, length-take held chunk)

-- the input ended
pub chunks-end : (wide : Bool) (maxval count held : ℕ) (samples chunk rest : List ℕ) (whole : Take (List ℕ))
    → whole ≡ with_front samples (samples_at wide maxval (count - length samples) (take held chunk ++ rest)) → rest ≡ []
    → length samples < count → held ≤ 1 → (wide ≡ false → held ≡ 0) → whole ≡ Err Truncated
chunks-end wide maxval count held samples chunk rest whole said none more few narrow =
    said
    ∙ ap (λ bytes. with_front samples (samples_at wide maxval (count - length samples) (take held chunk ++ bytes))) none
    ∙ ap (λ bytes. with_front samples (samples_at wide maxval (count - length samples) bytes)) (append-nil (take held chunk))
    ∙ ap (with_front samples) (samples_at-short wide maxval (count - length samples) (take held chunk) (omega arith) (held-short wide chunk held few narrow))

-- all samples were read
pub chunks-all : (wide : Bool) (maxval count : ℕ) (samples before : List ℕ) (whole : Take (List ℕ))
    → whole ≡ with_front samples (samples_at wide maxval (count - length samples) before) → count ≤ length samples → whole ≡ Ok (samples, before)
unfolding samples_at
chunks-all wide maxval count samples before whole said all =
    said
    ∙ (let none : count - length samples ≡ 0 = omega arith in ap (λ n. with_front samples (samples_at wide maxval n before)) none)
    ∙ ap (λ s. Ok (s, before)) (append-nil samples)

pub are_within-append : (maxval : ℕ) (front back : List ℕ) → are_within maxval front ≡ true → are_within maxval back ≡ true → are_within maxval (front ++ back) ≡ true
are_within-append maxval [] back all more = more
are_within-append maxval (s ∷ front) back all more =
    let here = and_parts (leb s maxval) (are_within maxval front) all in
    and_from (leb s maxval) (are_within maxval (front ++ back)) here.0 (are_within-append maxval front back here.1 more)

-- a chunk has no more samples than are left, and the loop comes nearer to its end
pub part-few : (wide : Bool) (chunk : List ℕ) (filled left : ℕ) → filled ≤ length chunk → filled ≤ byte_count wide left → length (samples_of wide (take filled chunk)) ≤ left
part-few wide chunk filled left within few =
    chunk-few wide left _ _ filled (chunk-size wide (take filled chunk) ∙ length-take-le filled chunk within) few

pub part-less : (wide : Bool) (chunk kept : List ℕ) (filled left held begun : ℕ) → filled ≤ length chunk → filled ≤ byte_count wide left → held < filled
    → begun ≤ length kept → take begun kept ≡ begun_of wide (take filled chunk)
    → byte_count wide (left - length (samples_of wide (take filled chunk))) - begun < byte_count wide left - held
part-less wide chunk kept filled left held begun within few more room same =
    let count : begun ≡ length (begun_of wide (take filled chunk)) = sym (length-take-le begun kept room) ∙ ap length same in
    rw count (chunk-less wide left _ _ filled held (chunk-size wide (take filled chunk) ∙ length-take-le filled chunk within) few more)

-- the bytes that are left, by the vector's length
pub left-by_len : (wide : Bool) (count len : ℕ) (samples : List ℕ) → len ≡ length samples → byte_count wide (count - len) ≡ byte_count wide (count - length samples)
left-by_len wide count len samples same = ap (λ n. byte_count wide (count - n)) same

-- no byte is held after the last sample
chunk-last : (wide : Bool) (left here begun filled : ℕ) → byte_count wide here + begun ≡ filled → filled ≤ byte_count wide left → left ≤ here → begun ≡ 0
chunk-last false left here begun filled all within last = omega arith
chunk-last true left here begun filled all within last = omega arith

pub part-last : (wide : Bool) (chunk kept : List ℕ) (filled left begun : ℕ) → filled ≤ length chunk → filled ≤ byte_count wide left
    → begun ≤ length kept → take begun kept ≡ begun_of wide (take filled chunk) → left ≤ length (samples_of wide (take filled chunk)) → begun ≡ 0
part-last wide chunk kept filled left begun within few room same last =
    let count : begun ≡ length (begun_of wide (take filled chunk)) = sym (length-take-le begun kept room) ∙ ap length same in
    count ∙ chunk-last wide left _ _ filled (chunk-size wide (take filled chunk) ∙ length-take-le filled chunk within) few last

-- if all samples are within maxval, each is
pub within-each : (maxval : ℕ) (samples : List ℕ) → are_within maxval samples ≡ true → AllByRecursion (λ sample. sample ≤ maxval) samples
within-each maxval [] all = tt
within-each maxval (s ∷ samples) all =
    let here = and_parts (leb s maxval) (are_within maxval samples) all in
    (leb-true s maxval here.0, within-each maxval samples here.1)
