-- If bytes break the grammar, reading fails with the same fault.
use Rattle.std.proofs.Common.{◌≡◌, ℕ, suc, ◌+◌, ◌-◌, ◌<◌, ◌≤◌, ◌||◌, ◌&&◌, ◌==◌, Bool, true, false, leb, ltb, inl, inr, IsTrue, List, [], ◌∷◌, ◌++◌, length, Some, Result, Ok, Err, refl, sym, ap, ◌∙◌, arith, length-append, append_assoc}
use Rattle.std.proofs.lemmas.Bool.{cond-false, or_parts, lt-leb, false_from_ne_true, both_ways, cases_Bool}
use Rattle.ls_frame.specs.declared.frame.Kind.{Kind}
use Rattle.ls_frame.specs.declared.netpbm.NetpbmFault.{NetpbmFault}
use Rattle.ls_frame.specs.declared.netpbm.NetpbmFault.TheVariants.{BadMagic, SizeOutOfRange, MaxvalOutOfRange, SampleTooLarge, Truncated}
use Rattle.ls_frame.specs.Picture.{picture_of, sample_count, most_samples, greatest}
use Rattle.ls_frame.specs.Netpbm.{is_white, is_digit, is_hash, blanks_bytes, Field, IsField, field_bytes, field_number, InRange, magic, Heading, heading_bytes, most_heading, is_wide}
use Rattle.ls_frame.specs.Faults.{letter, kind_digit, gap_start, blank_or_digit, comment_text, digit_or_white, Start, gap, open_comment, digits, IsStart, start_bytes, start_due, Beginning, empty, one_letter, only_magic, in_width, in_height, in_maxval, IsBeginning, beginning_bytes, due, IsWidth, allows, BreaksOff, too_long, ends, refuses, StopsInHeading, BreaksWidth, BreaksHeight, BreaksMaxval, BeginsRaster, EndsInRaster, ExceedsMaxval}
use Rattle.ls_frame.specs.View.Reading.{◌>>=◌, wanted, digits_at, gap_at, number_at, in_range, in_range_at, kind_of, magic_at, white_at, heading_at, with_front, samples_at, image_at}
use Rattle.ls_frame.proofs.StepLemmas.{gap_at-hash, digits_at-other, digits_at-fault, gap_at-other, gap_at-fault}
use Rattle.ls_frame.proofs.TakeLemmas.{Takes, takes_as, takes_first, takes_second, StopsHere, no_byte, refused, StopsAfter, stops_seen}
use Rattle.ls_frame.proofs.GapLaws.{comment_passes, gap_passes}
use Rattle.ls_frame.proofs.NumberLaws.{capped, in_range_if, out_of_range_if, followed_capped, digits_pass}
use Rattle.ls_frame.proofs.HeadingLaws.{maxval_at, height_at, width_at, heading_at-steps}
use Rattle.ls_frame.proofs.RasterLaws.{sample_passes, sample_over, sample_short, samples_pass}
use Rattle.ls_frame.proofs.SpellingLaws.{digit_found, field_number_at, field_rest, after_magic, at_width, in_width_at, at_height, in_height_at, at_count, at_maxval, in_maxval_at, header_of, after_heading}

-- ---- gaps and digits

-- a byte that is neither part of a gap nor a digit
gap_fails : (allowed : ℕ) (bytes : List ℕ) (fault : NetpbmFault) → StopsHere allowed bytes blank_or_digit fault → gap_at false allowed bytes ≡ Err fault
gap_fails allowed bytes fault (no_byte none) = gap_at-fault false allowed bytes fault none
gap_fails allowed bytes fault (refused c left rest found not_allowed is) =
    let no_digit = or_parts (is_white c || is_hash c) (is_digit c) not_allowed in
    let neither = or_parts (is_white c) (is_hash c) no_digit.0 in
    gap_at-other allowed c left bytes rest found neither.0 (λ hash. both_ways (is_hash c) neither.1 (rw hash refl)) no_digit.1 ∙ ap Err (sym is)

-- the end of input in a comment
comment_fails : (allowed : ℕ) (bytes : List ℕ) (fault : NetpbmFault) → StopsHere allowed bytes comment_text fault → gap_at true allowed bytes ≡ Err fault
comment_fails allowed bytes fault (no_byte none) = gap_at-fault true allowed bytes fault none
comment_fails allowed bytes fault (refused c left rest found not_allowed is) = absurd (let bad : ⊥ = cc in bad)

-- a byte after digits that is neither a digit nor white space
digits_fail : (n allowed : ℕ) (bytes : List ℕ) (fault : NetpbmFault) → StopsHere allowed bytes digit_or_white fault → digits_at n allowed bytes ≡ Err fault
digits_fail n allowed bytes fault (no_byte none) = digits_at-fault n allowed bytes fault none
digits_fail n allowed bytes fault (refused c left rest found not_allowed is) =
    let neither = or_parts (is_digit c) (is_white c) not_allowed in
    digits_at-other n allowed c left bytes rest found neither.0 neither.1 ∙ ap Err (sym is)

-- ---- the beginning of a field

-- its first white space, and the rest
abbrev start_first : Start → ℕ
start_first (gap g) = g.first
start_first (open_comment g text) = g.first
start_first (digits g ds) = g.first

abbrev start_rest : Start → List ℕ
start_rest (gap g) = blanks_bytes g.blanks
start_rest (open_comment g text) = blanks_bytes g.blanks ++ 35 ∷ text
start_rest (digits g ds) = blanks_bytes g.blanks ++ ds

-- these are its bytes
start_parts : (s : Start) → start_bytes s ≡ start_first s ∷ start_rest s
start_parts (gap g) = refl
start_parts (open_comment g text) = refl
start_parts (digits g ds) = refl

-- it begins with white space
start_white : (s : Start) → IsStart s → IsTrue (is_white (start_first s))
start_white (gap g) lawful = lawful.first
start_white (open_comment g text) lawful = lawful.0.first
start_white (digits g ds) lawful = lawful.0.first

-- a number fails if its gap does
gap_failed : (allowed : ℕ) (bytes : List ℕ) (fault : NetpbmFault) → gap_at false allowed bytes ≡ Err fault → number_at allowed bytes ≡ Err fault
gap_failed allowed bytes fault failed = rw failed refl

-- `#` opens a comment
hash_passes : (allowed : ℕ) (bytes : List ℕ) → gap_at false (suc allowed) (35 ∷ bytes) ≡ gap_at true allowed bytes
hash_passes allowed bytes = gap_at-hash (suc allowed) 35 allowed (35 ∷ bytes) bytes refl refl

-- a number fails if reading stops after its start
start_fails : (s : Start) (allowed left : ℕ) (bytes rest : List ℕ) (fault : NetpbmFault) → IsStart s → Takes allowed bytes (start_rest s) left rest → StopsHere left rest (start_due s) fault
    → number_at allowed bytes ≡ Err fault
start_fails (gap g) allowed left bytes rest fault lawful taken here =
    gap_failed allowed bytes fault (ap (λ bs. gap_at false allowed bs) taken.whole ∙ gap_passes g.blanks rest allowed left lawful.blanks taken.room_is ∙ gap_fails left rest fault here)
start_fails (open_comment g text) allowed left bytes rest fault lawful taken here =
    let regrouped : (blanks_bytes g.blanks ++ 35 ∷ text) ++ rest ≡ blanks_bytes g.blanks ++ 35 ∷ (text ++ rest) = simp append_assoc in
    let size = simp length-append at taken.room_is in
    gap_failed allowed bytes fault (ap (λ bs. gap_at false allowed bs) (taken.whole ∙ regrouped)
    ∙ gap_passes g.blanks (35 ∷ (text ++ rest)) allowed (suc (length text + left)) lawful.0.blanks (omega arith)
    ∙ hash_passes (length text + left) (text ++ rest)
    ∙ comment_passes text rest (length text + left) left lawful.1 refl
    ∙ comment_fails left rest fault here)
start_fails (digits g []) allowed left bytes rest fault lawful taken here = absurd (let some = lawful.1.some in omega arith)
start_fails (digits g (d ∷ ds)) allowed left bytes rest fault lawful taken here =
    let regrouped : (blanks_bytes g.blanks ++ d ∷ ds) ++ rest ≡ blanks_bytes g.blanks ++ d ∷ (ds ++ rest) = simp append_assoc in
    let size = simp length-append at taken.room_is in
    ap (λ bs. number_at allowed bs) (taken.whole ∙ regrouped)
    ∙ digit_found g.blanks (ds ++ rest) d allowed (length ds + left) lawful.0.blanks lawful.1.each.0 (omega arith)
    ∙ digits_pass ds rest (d - 48) (length ds + left) left lawful.1.each.1 refl
    ∙ digits_fail (followed_capped (d - 48) ds) left rest fault here

-- and so does its field
in_range_start_fails : (range_fault : NetpbmFault) (s : Start) (allowed left : ℕ) (bytes rest : List ℕ) (fault : NetpbmFault) → IsStart s → Takes allowed bytes (start_rest s) left rest → StopsHere left rest (start_due s) fault
    → in_range_at range_fault allowed bytes ≡ Err fault
in_range_start_fails range_fault s allowed left bytes rest fault lawful taken here = rw (start_fails s allowed left bytes rest fault lawful taken here) refl

-- ---- fields

-- a number out of its range fails
in_range_fails : (fault : NetpbmFault) (n : ℕ) → ¬ InRange n → in_range fault (capped n) ≡ Err fault
in_range_fails fault n out =
    cond-false (ltb 0 (capped n) && leb (capped n) greatest) _ _ (false_from_ne_true _ (λ test. out (in_range_if (capped n) n refl test)))

-- and so does its field
field_out : (fault : NetpbmFault) (f : Field) (white allowed left : ℕ) (bytes rest : List ℕ) → IsField f → ¬ InRange (field_number f) → IsTrue (is_white white) → Takes allowed bytes (field_rest f white) left rest
    → in_range_at fault allowed bytes ≡ Err fault
field_out fault f white allowed left bytes rest lawful out after taken =
    rw (field_number_at f white allowed left bytes rest lawful after taken, in_range_fails fault (field_number f) out) refl

-- bytes and a start, split after the start's first white space
start_as : (before : List ℕ) (s : Start) → before ++ start_bytes s ≡ (before ++ start_first s ∷ []) ++ start_rest s
start_as before s = ap (λ bs. before ++ bs) (start_parts s) ∙ sym (append_assoc before (start_first s ∷ []) (start_rest s))

-- a test that fails
test_fails : {A : Type 0} (test : Bool) (fault : NetpbmFault) (next : Result A NetpbmFault) → test ≡ false → (wanted test fault >>= λ passed. next) ≡ Err fault
test_fails test fault next is = rw is refl

-- `before` and a start were taken; so were `before` and the start's first white space
start_first_taken : (before : List ℕ) (s : Start) {bytes rest : List ℕ} {left : ℕ} → Takes most_heading bytes (before ++ start_bytes s) left rest
    → Takes most_heading bytes (before ++ start_first s ∷ []) (length (start_rest s) + left) (start_rest s ++ rest)
start_first_taken before s taken = takes_first (before ++ start_first s ∷ []) (start_rest s) (takes_as taken (start_as before s))

-- ---- a header that stops

-- no magic
magic_stops : (first allowed : ℕ) (bytes : List ℕ) (fault : NetpbmFault) → suc allowed ≡ most_heading → BreaksOff most_heading (first ∷ bytes) [] letter fault → heading_at first allowed bytes ≡ Err fault
magic_stops first allowed bytes fault all (too_long rest whole none is) = absurd (omega arith)
magic_stops first allowed bytes fault all (ends whole some is) = absurd (let bad : ⊥ = cc in bad)
magic_stops first allowed bytes fault all (refuses c rest whole some not_allowed is) =
    let same : first ≡ c = cc in
    rw (heading_at-steps first allowed bytes, same, not_allowed, is) refl

-- a byte that stands for no kind
kind_refused : (c : ℕ) → allows kind_digit c ≡ false → kind_of c ≡ Err BadMagic
kind_refused c not_allowed = let neither = or_parts (c == 53) (c == 54) not_allowed in rw (neither.0, neither.1) refl

-- and so the magic fails
kind_stops : (left : ℕ) (rest : List ℕ) (fault : NetpbmFault) → StopsHere left rest kind_digit fault → magic_at 80 left rest ≡ Err fault
kind_stops left rest fault (no_byte none) = rw none refl
kind_stops left rest fault (refused c after back found not_allowed is) = rw (found, kind_refused c not_allowed, is) refl

-- the same for the header after its first byte
second_stops : (first allowed : ℕ) (bytes : List ℕ) (fault : NetpbmFault) → suc allowed ≡ most_heading → StopsAfter most_heading (first ∷ bytes) (80 ∷ []) kind_digit fault → heading_at first allowed bytes ≡ Err fault
second_stops first allowed bytes fault all stop =
    let p : first ≡ 80 = cc (stop.takes.whole) in
    let after : bytes ≡ stop.rest = cc (stop.takes.whole) in
    let size : allowed ≡ stop.left = (let e = stop.takes.room_is in omega arith) in
    rw (heading_at-steps first allowed bytes, p, after, size, kind_stops stop.left stop.rest fault stop.here) refl

-- no white space after the magic
white_stops : (left : ℕ) (rest : List ℕ) (fault : NetpbmFault) → StopsHere left rest gap_start fault → white_at left rest ≡ Err fault
white_stops left rest fault (no_byte none) = rw none refl
white_stops left rest fault (refused c after back found not_allowed is) = rw (found, not_allowed, is) refl

-- a header fails if reading stops after its beginning
beginning_fails : (b : Beginning) (first allowed : ℕ) (bytes : List ℕ) (fault : NetpbmFault) → suc allowed ≡ most_heading → IsBeginning b → BreaksOff most_heading (first ∷ bytes) (beginning_bytes b) (due b) fault
    → heading_at first allowed bytes ≡ Err fault
beginning_fails empty first allowed bytes fault all lawful stops = magic_stops first allowed bytes fault all stops
beginning_fails one_letter first allowed bytes fault all lawful stops = second_stops first allowed bytes fault all (stops_seen stops)
beginning_fails (only_magic kind) first allowed bytes fault all lawful stops =
    let stop = stops_seen stops in
    after_magic kind first allowed stop.left bytes stop.rest all stop.takes
    ∙ ap (λ r. r >>= λ found. width_at kind found.1 found.2) (white_stops stop.left stop.rest fault stop.here)
beginning_fails (in_width kind s) first allowed bytes fault all lawful stops =
    let stop = stops_seen stops in
    at_width kind (start_first s) first allowed (length (start_rest s) + stop.left) bytes (start_rest s ++ stop.rest) all (start_white s lawful) (start_first_taken (magic kind) s stop.takes)
    ∙ ap (λ r. r >>= λ found. height_at kind found.0 found.1 found.2)
    (in_range_start_fails SizeOutOfRange s (length (start_rest s) + stop.left) stop.left (start_rest s ++ stop.rest) stop.rest fault lawful (takes_second (start_rest s) stop.left stop.rest) stop.here)
beginning_fails (in_height kind w s) first allowed bytes fault all lawful stops =
    let stop = stops_seen stops in
    at_height kind w (start_first s) first allowed (length (start_rest s) + stop.left) bytes (start_rest s ++ stop.rest) all lawful.0 (start_white s lawful.1)
    (start_first_taken (magic kind ++ field_bytes w) s stop.takes)
    ∙ ap (λ r. r >>= λ found. (wanted (leb (sample_count kind (field_number w) found.0) most_samples) SizeOutOfRange >>= λ few. maxval_at kind (field_number w) found.0 found.1 found.2))
    (in_range_start_fails SizeOutOfRange s (length (start_rest s) + stop.left) stop.left (start_rest s ++ stop.rest) stop.rest fault lawful.1 (takes_second (start_rest s) stop.left stop.rest) stop.here)
beginning_fails (in_maxval kind w h s) first allowed bytes fault all lawful stops =
    let stop = stops_seen stops in
    at_maxval kind w h (start_first s) first allowed (length (start_rest s) + stop.left) bytes (start_rest s ++ stop.rest) all lawful.0 (start_white s lawful.1)
    (start_first_taken (magic kind ++ field_bytes w ++ field_bytes h) s stop.takes)
    ∙ ap (λ r. r >>= λ found. Ok (record { kind = kind; width = field_number w; height = field_number h; maxval = found.0 }, found.1, found.2))
    (in_range_start_fails MaxvalOutOfRange s (length (start_rest s) + stop.left) stop.left (start_rest s ++ stop.rest) stop.rest fault lawful.1 (takes_second (start_rest s) stop.left stop.rest) stop.here)

-- an image fails if its header does
image_fails : (first : ℕ) (bytes : List ℕ) (fault : NetpbmFault) → heading_at first (most_heading - 1) bytes ≡ Err fault → image_at (first ∷ bytes) ≡ Err fault
unfolding image_at
image_fails first bytes fault failed = rw failed refl

-- bytes where reading stops in the header
pub stop_fails : (bytes : List ℕ) (fault : NetpbmFault) → StopsInHeading bytes fault → image_at bytes ≡ Err fault
stop_fails [] fault stop = absurd (let some = stop.some in omega arith)
stop_fails (first ∷ bytes) fault stop = image_fails first bytes fault (beginning_fails stop.beginning first (most_heading - 1) bytes fault refl stop.lawful stop.stops)

-- ---- a number out of its range

-- `front` and the white space after it are taken
with_last : {bytes : List ℕ} (front rest : List ℕ) (white : ℕ) → bytes ≡ front ++ white ∷ rest → length (front ++ white ∷ []) ≤ most_heading
    → Takes most_heading bytes (front ++ white ∷ []) (most_heading - length (front ++ white ∷ [])) rest
with_last front rest white whole short = record { whole = whole ∙ sym (append_assoc front (white ∷ []) rest); room_is = omega arith }

-- a width out of its range
pub width_fails : (bytes : List ℕ) → BreaksWidth bytes → image_at bytes ≡ Err SizeOutOfRange
width_fails [] b = absurd (let size = simp length-append at (ap length b.whole) in omega arith)
width_fails (first ∷ bytes) b =
    let taken = with_last (magic b.kind ++ field_bytes b.width) b.rest b.white b.whole b.short in
    let left : ℕ = most_heading - length (magic b.kind ++ field_bytes b.width ++ b.white ∷ []) in
    image_fails first bytes SizeOutOfRange
    (in_width_at b.kind b.width b.white first (most_heading - 1) left bytes b.rest refl b.width_field taken
    ∙ ap (λ r. r >>= λ found. height_at b.kind found.0 found.1 found.2)
    (field_out SizeOutOfRange b.width b.white _ left _ b.rest b.width_field b.out b.after (takes_second (field_rest b.width b.white) left b.rest)))

-- a height out of its range
height_out : (bytes rest : List ℕ) (kind : Kind) (w h : Field) (white first allowed left : ℕ) → suc allowed ≡ most_heading → IsWidth w → IsField h → IsTrue (is_white white)
    → Takes most_heading (first ∷ bytes) (magic kind ++ field_bytes w ++ field_bytes h ++ white ∷ []) left rest → ¬ InRange (field_number h) → heading_at first allowed bytes ≡ Err SizeOutOfRange
height_out bytes rest kind w h white first allowed left all width lawful is taken out =
    in_height_at kind w h white first allowed left bytes rest all width lawful taken
    ∙ ap (λ r. r >>= λ found. (wanted (leb (sample_count kind (field_number w) found.0) most_samples) SizeOutOfRange >>= λ few. maxval_at kind (field_number w) found.0 found.1 found.2))
    (field_out SizeOutOfRange h white _ left _ rest lawful out is (takes_second (field_rest h white) left rest))

-- a height in its range, but too many samples
height_many : (bytes rest : List ℕ) (kind : Kind) (w h : Field) (white first allowed left : ℕ) → suc allowed ≡ most_heading → IsWidth w → IsField h → IsTrue (is_white white)
    → Takes most_heading (first ∷ bytes) (magic kind ++ field_bytes w ++ field_bytes h ++ white ∷ []) left rest → InRange (field_number h)
    → most_samples < sample_count kind (field_number w) (field_number h) → heading_at first allowed bytes ≡ Err SizeOutOfRange
height_many bytes rest kind w h white first allowed left all width lawful is taken range many =
    at_count kind w h white first allowed left bytes rest all width lawful range is taken
    ∙ test_fails _ SizeOutOfRange (maxval_at kind (field_number w) (field_number h) left rest) (lt-leb _ most_samples many)

-- a size out of its range
pub height_fails : (bytes : List ℕ) → BreaksHeight bytes → image_at bytes ≡ Err SizeOutOfRange
height_fails [] b = absurd (let size = simp length-append at (ap length b.whole) in omega arith)
height_fails (first ∷ bytes) b =
    let taken = with_last (magic b.kind ++ field_bytes b.width ++ field_bytes b.height) b.rest b.white b.whole b.short in
    let n : ℕ = field_number b.height in
    image_fails first bytes SizeOutOfRange (elim b.out [
      | inl out ↦ height_out bytes b.rest b.kind b.width b.height b.white first (most_heading - 1) _ refl b.width_passed b.height_field b.after taken out
      | inr many ↦ elim (cases_Bool (ltb 0 (capped n) && leb (capped n) greatest)) [
        | inl test ↦ height_many bytes b.rest b.kind b.width b.height b.white first (most_heading - 1) _ refl b.width_passed b.height_field b.after taken (in_range_if (capped n) n refl test) many
        | inr test ↦ height_out bytes b.rest b.kind b.width b.height b.white first (most_heading - 1) _ refl b.width_passed b.height_field b.after taken (out_of_range_if (capped n) n refl test)
      ]
    ])

-- a maxval out of its range
pub maxval_fails : (bytes : List ℕ) → BreaksMaxval bytes → image_at bytes ≡ Err MaxvalOutOfRange
maxval_fails [] b = absurd (let size = simp length-append at (ap length b.whole) in omega arith)
maxval_fails (first ∷ bytes) b =
    let before : List ℕ = magic b.kind ++ field_bytes b.width ++ field_bytes b.height ++ field_bytes b.maxval in
    let taken = with_last before b.rest b.white b.whole b.short in
    let left : ℕ = most_heading - length (before ++ b.white ∷ []) in
    image_fails first bytes MaxvalOutOfRange
    (in_maxval_at b.kind b.width b.height b.maxval b.white first (most_heading - 1) left bytes b.rest refl b.size b.maxval_field taken
    ∙ ap (λ r. r >>= λ found. Ok (record { kind = b.kind; width = field_number b.width; height = field_number b.height; maxval = found.0 }, found.1, found.2))
    (field_out MaxvalOutOfRange b.maxval b.white _ left _ b.rest b.maxval_field b.out b.after (takes_second (field_rest b.maxval b.white) left b.rest)))

-- ---- rasters

-- if the rest after the samples fails, the image does
raster_fails : (bytes rest : List ℕ) (h : Heading) (fault : NetpbmFault) → BeginsRaster bytes rest h
    → ((left : ℕ) → samples_at (is_wide (field_number h.maxval)) (field_number h.maxval) (suc left) rest ≡ Err fault) → image_at bytes ≡ Err fault
raster_fails bytes rest h fault begins failed =
    let wide : Bool = is_wide (field_number h.maxval) in
    let count : ℕ = sample_count h.kind (field_number h.width) (field_number h.height) in
    let left : ℕ = count - suc (length begins.samples) in
    let more = begins.more in
    after_heading bytes (begins.raster ++ rest) h begins.lawful (begins.whole ∙ append_assoc (heading_bytes h) begins.raster rest)
    ∙ ap (λ r. (r >>= λ found. Ok (picture_of (header_of h) found.0, found.1)) >>= λ found. Ok (Some found))
    (samples_pass wide (field_number h.maxval) begins.samples begins.raster rest count (suc left) begins.said begins.within (omega arith)
    ∙ ap (λ read. with_front begins.samples read) (failed left))

-- a raster that ends early
pub short_fails : (bytes : List ℕ) → EndsInRaster bytes → image_at bytes ≡ Err Truncated
short_fails bytes b =
    raster_fails bytes b.rest b.heading Truncated b.begins (λ left. sample_short (is_wide (field_number b.heading.maxval)) (field_number b.heading.maxval) left b.rest b.ends)

-- a sample over maxval
pub over_fails : (bytes : List ℕ) → ExceedsMaxval bytes → image_at bytes ≡ Err SampleTooLarge
over_fails bytes b =
    let maxval : ℕ = field_number b.heading.maxval in
    raster_fails bytes (b.next ++ b.rest) b.heading SampleTooLarge b.begins
    (λ left. sample_over (is_wide maxval) maxval left b.sample (b.next ++ b.rest) b.rest (sample_passes (is_wide maxval) b.next b.rest b.sample b.said) b.over)
