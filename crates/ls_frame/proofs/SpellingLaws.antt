-- Fields and headers of the grammar are read.
use Rattle.std.proofs.Common.{◌≡◌, ℕ, suc, ◌+◌, ◌-◌, Bool, true, false, leb, IsTrue, List, [], ◌∷◌, ◌++◌, length, Some, Result, Ok, refl, ap, ◌∙◌, arith, length-append, append_assoc}
use Rattle.std.proofs.lemmas.Bool.{lt-ltb, le-leb, false_from_ne_true, both_ways}
use Rattle.ls_frame.specs.declared.frame.Kind.{Kind}
use Rattle.ls_frame.specs.declared.frame.Kind.TheVariants.{Gray, Color}
use Rattle.ls_frame.specs.declared.frame.Form.{Form}
use Rattle.ls_frame.specs.declared.netpbm.NetpbmFault.{NetpbmFault}
use Rattle.ls_frame.specs.declared.netpbm.NetpbmFault.TheVariants.{SizeOutOfRange, MaxvalOutOfRange}
use Rattle.ls_frame.specs.Picture.{sample_count, most_samples, greatest}
use Rattle.ls_frame.specs.Netpbm.{is_white, is_digit, Blank, blanks_bytes, IsNumber, decimal_value, Field, IsField, field_bytes, field_number, InRange, magic, Heading, IsHeading, heading_bytes, most_heading}
use Rattle.ls_frame.specs.Faults.{IsWidth, IsSize}
use Rattle.ls_frame.specs.View.Reading.{◌>>=◌, wanted, digits_at, number_at, in_range, in_range_at, magic_at, white_at, heading_at, raster_at, image_at}
use Rattle.ls_frame.proofs.StepLemmas.{digits_at-white, gap_at-digit, white_no_digit}
use Rattle.ls_frame.proofs.TakeLemmas.{Takes, takes_as, takes_first, takes_second, takes_last}
use Rattle.ls_frame.proofs.GapLaws.{AreBlanks, gap_passes}
use Rattle.ls_frame.proofs.NumberLaws.{capped, capped_number, followed_capped, digits_pass}
use Rattle.ls_frame.proofs.HeadingLaws.{maxval_at, height_at, width_at, fields_at, heading_at-steps}

-- ---- numbers

-- white space isn't a digit
no_digit_if_white : (c : ℕ) → IsTrue (is_white c) → is_digit c ≡ false
no_digit_if_white c is = false_from_ne_true (is_digit c) (λ digit. both_ways (is_white c) (white_no_digit c digit) is)

-- parts of a gap and a first digit
pub digit_found : (blanks : List Blank) (bytes : List ℕ) (d allowed left : ℕ) → AreBlanks blanks → IsTrue (is_digit d) → allowed ≡ length (blanks_bytes blanks) + suc left
    → number_at allowed (blanks_bytes blanks ++ d ∷ bytes) ≡ digits_at (d - 48) left bytes
digit_found blanks bytes d allowed left each digit is =
    ap (λ r. r >>= λ found. digits_at (found.0 - 48) found.1 found.2)
    (gap_passes blanks (d ∷ bytes) allowed (suc left) each is ∙ gap_at-digit (suc left) d left (d ∷ bytes) bytes refl digit)

-- parts of a gap, digits and white space
number_passes : (blanks : List Blank) (ds rest : List ℕ) (white allowed left : ℕ) → AreBlanks blanks → IsNumber ds → IsTrue (is_white white) → allowed ≡ length (blanks_bytes blanks) + (length ds + suc left)
    → number_at allowed (blanks_bytes blanks ++ (ds ++ white ∷ rest)) ≡ Ok (capped (decimal_value ds), left, rest)
number_passes blanks [] rest white allowed left each number after is = absurd (let some = number.some in omega arith)
number_passes blanks (d ∷ ds) rest white allowed left each number after is =
    digit_found blanks (ds ++ white ∷ rest) d allowed (length ds + suc left) each number.each.0 (omega arith)
    ∙ digits_pass ds (white ∷ rest) (d - 48) (length ds + suc left) (suc left) number.each.1 refl
    ∙ digits_at-white (followed_capped (d - 48) ds) (suc left) white left (white ∷ rest) rest refl (no_digit_if_white white after) after
    ∙ ap (λ n. Ok (n, left, rest)) (capped_number d ds number.each.0)

-- ---- fields

-- a number in its range passes
pub in_range_passes : (fault : NetpbmFault) (n : ℕ) → InRange n → in_range fault (capped n) ≡ Ok n
in_range_passes fault n range =
    let same : capped n ≡ n = omega arith in
    rw (same, lt-ltb 0 n range.some, le-leb n greatest range.most) refl

-- a field's bytes after the white space that begins it, and the white space after the field
abbrev pub field_rest : Field → ℕ → List ℕ
field_rest f white = blanks_bytes f.gap.blanks ++ (f.digits ++ white ∷ [])

-- a field's number
pub field_number_at : (f : Field) (white allowed left : ℕ) (bytes rest : List ℕ) → IsField f → IsTrue (is_white white) → Takes allowed bytes (field_rest f white) left rest
    → number_at allowed bytes ≡ Ok (capped (field_number f), left, rest)
field_number_at f white allowed left bytes rest lawful after taken =
    let regrouped : (blanks_bytes f.gap.blanks ++ (f.digits ++ white ∷ [])) ++ rest ≡ blanks_bytes f.gap.blanks ++ (f.digits ++ white ∷ rest) = simp append_assoc in
    let size = simp length-append at taken.room_is in
    ap (λ bs. number_at allowed bs) (taken.whole ∙ regrouped)
    ∙ number_passes f.gap.blanks f.digits rest white allowed left lawful.gap.blanks lawful.digits after (omega arith)

-- and if it is in its range, the field is read
pub field_passes : (fault : NetpbmFault) (f : Field) (white allowed left : ℕ) (bytes rest : List ℕ) → IsField f → InRange (field_number f) → IsTrue (is_white white) → Takes allowed bytes (field_rest f white) left rest
    → in_range_at fault allowed bytes ≡ Ok (field_number f, left, rest)
field_passes fault f white allowed left bytes rest lawful range after taken =
    rw (field_number_at f white allowed left bytes rest lawful after taken, in_range_passes fault (field_number f) range) refl

-- ---- the header, field by field

-- the magic is read
magic_passes : (kind : Kind) (first allowed left : ℕ) (bytes rest : List ℕ) → suc allowed ≡ most_heading → Takes most_heading (first ∷ bytes) (magic kind) left rest → magic_at first allowed bytes ≡ Ok (kind, left, rest)
magic_passes Gray first allowed left bytes rest all taken =
    let p : first ≡ 80 = cc (taken.whole) in
    let after : bytes ≡ 53 ∷ rest = cc (taken.whole) in
    let size : allowed ≡ suc left = (let e = taken.room_is in omega arith) in
    rw (p, after, size) refl
magic_passes Color first allowed left bytes rest all taken =
    let p : first ≡ 80 = cc (taken.whole) in
    let after : bytes ≡ 54 ∷ rest = cc (taken.whole) in
    let size : allowed ≡ suc left = (let e = taken.room_is in omega arith) in
    rw (p, after, size) refl

-- and the white space after it
pub white_passes : (w left : ℕ) (rest : List ℕ) → IsTrue (is_white w) → white_at (suc left) (w ∷ rest) ≡ Ok (tt, left, rest)
white_passes w left rest is = rw is refl

-- reading goes on after the magic
pub after_magic : (kind : Kind) (first allowed left : ℕ) (bytes rest : List ℕ) → suc allowed ≡ most_heading → Takes most_heading (first ∷ bytes) (magic kind) left rest
    → heading_at first allowed bytes ≡ fields_at kind left rest
after_magic kind first allowed left bytes rest all taken =
    heading_at-steps first allowed bytes ∙ ap (λ r. r >>= λ found. fields_at found.0 found.1 found.2) (magic_passes kind first allowed left bytes rest all taken)

-- and after the white space after it
pub at_width : (kind : Kind) (white first allowed left : ℕ) (bytes rest : List ℕ) → suc allowed ≡ most_heading → IsTrue (is_white white) → Takes most_heading (first ∷ bytes) (magic kind ++ white ∷ []) left rest
    → heading_at first allowed bytes ≡ width_at kind left rest
at_width kind white first allowed left bytes rest all is taken =
    after_magic kind first allowed (suc left) bytes (white ∷ rest) all (takes_last (magic kind) white taken)
    ∙ ap (λ r. r >>= λ found. width_at kind found.1 found.2) (white_passes white left rest is)

-- bytes and a field, split after the field's first white space
pub field_as : (before : List ℕ) (f : Field) (white : ℕ) → before ++ field_bytes f ++ white ∷ [] ≡ (before ++ f.gap.first ∷ []) ++ field_rest f white
field_as before f white = simp append_assoc

-- if a width is taken, reading the header is reading on from that width
pub in_width_at : (kind : Kind) (w : Field) (white first allowed left : ℕ) (bytes rest : List ℕ) → suc allowed ≡ most_heading → IsField w → Takes most_heading (first ∷ bytes) (magic kind ++ field_bytes w ++ white ∷ []) left rest
    → heading_at first allowed bytes ≡ width_at kind (length (field_rest w white) + left) (field_rest w white ++ rest)
in_width_at kind w white first allowed left bytes rest all lawful taken =
    at_width kind w.gap.first first allowed (length (field_rest w white) + left) bytes (field_rest w white ++ rest) all lawful.gap.first
    (takes_first (magic kind ++ w.gap.first ∷ []) (field_rest w white) (takes_as taken (field_as (magic kind) w white)))

-- reading goes on after a width
pub at_height : (kind : Kind) (w : Field) (white first allowed left : ℕ) (bytes rest : List ℕ) → suc allowed ≡ most_heading → IsWidth w → IsTrue (is_white white)
    → Takes most_heading (first ∷ bytes) (magic kind ++ field_bytes w ++ white ∷ []) left rest → heading_at first allowed bytes ≡ height_at kind (field_number w) left rest
at_height kind w white first allowed left bytes rest all width is taken =
    in_width_at kind w white first allowed left bytes rest all width.field taken
    ∙ ap (λ r. r >>= λ found. height_at kind found.0 found.1 found.2)
    (field_passes SizeOutOfRange w white (length (field_rest w white) + left) left (field_rest w white ++ rest) rest width.field width.range is (takes_second (field_rest w white) left rest))

-- if a height is taken, reading the header is reading on from that height
pub in_height_at : (kind : Kind) (w h : Field) (white first allowed left : ℕ) (bytes rest : List ℕ) → suc allowed ≡ most_heading → IsWidth w → IsField h
    → Takes most_heading (first ∷ bytes) (magic kind ++ field_bytes w ++ field_bytes h ++ white ∷ []) left rest
    → heading_at first allowed bytes ≡ height_at kind (field_number w) (length (field_rest h white) + left) (field_rest h white ++ rest)
in_height_at kind w h white first allowed left bytes rest all width lawful taken =
    let before : List ℕ = magic kind ++ field_bytes w in
    at_height kind w h.gap.first first allowed (length (field_rest h white) + left) bytes (field_rest h white ++ rest) all width lawful.gap.first
    (takes_first (before ++ h.gap.first ∷ []) (field_rest h white) (takes_as taken (field_as before h white)))

-- a test that passes
pub test_passes : {A : Type 0} (test : Bool) (fault : NetpbmFault) (next : Result A NetpbmFault) → test ≡ true → (wanted test fault >>= λ passed. next) ≡ next
test_passes test fault next is = rw is refl

-- after the height the number of samples is tested
pub at_count : (kind : Kind) (w h : Field) (white first allowed left : ℕ) (bytes rest : List ℕ) → suc allowed ≡ most_heading → IsWidth w → IsField h → InRange (field_number h) → IsTrue (is_white white)
    → Takes most_heading (first ∷ bytes) (magic kind ++ field_bytes w ++ field_bytes h ++ white ∷ []) left rest
    → heading_at first allowed bytes ≡ (wanted (leb (sample_count kind (field_number w) (field_number h)) most_samples) SizeOutOfRange >>= λ few. maxval_at kind (field_number w) (field_number h) left rest)
at_count kind w h white first allowed left bytes rest all width lawful range is taken =
    in_height_at kind w h white first allowed left bytes rest all width lawful taken
    ∙ ap (λ r. r >>= λ found. (wanted (leb (sample_count kind (field_number w) found.0) most_samples) SizeOutOfRange >>= λ few. maxval_at kind (field_number w) found.0 found.1 found.2))
    (field_passes SizeOutOfRange h white (length (field_rest h white) + left) left (field_rest h white ++ rest) rest lawful range is (takes_second (field_rest h white) left rest))

-- reading goes on after a size
pub at_maxval : (kind : Kind) (w h : Field) (white first allowed left : ℕ) (bytes rest : List ℕ) → suc allowed ≡ most_heading → IsSize kind w h → IsTrue (is_white white)
    → Takes most_heading (first ∷ bytes) (magic kind ++ field_bytes w ++ field_bytes h ++ white ∷ []) left rest
    → heading_at first allowed bytes ≡ maxval_at kind (field_number w) (field_number h) left rest
at_maxval kind w h white first allowed left bytes rest all size is taken =
    at_count kind w h white first allowed left bytes rest all size.width size.field size.range is taken
    ∙ test_passes _ SizeOutOfRange (maxval_at kind (field_number w) (field_number h) left rest) (le-leb _ most_samples size.few)

-- if a maxval is taken, reading the header is reading on from that maxval
pub in_maxval_at : (kind : Kind) (w h m : Field) (white first allowed left : ℕ) (bytes rest : List ℕ) → suc allowed ≡ most_heading → IsSize kind w h → IsField m
    → Takes most_heading (first ∷ bytes) (magic kind ++ field_bytes w ++ field_bytes h ++ field_bytes m ++ white ∷ []) left rest
    → heading_at first allowed bytes ≡ maxval_at kind (field_number w) (field_number h) (length (field_rest m white) + left) (field_rest m white ++ rest)
in_maxval_at kind w h m white first allowed left bytes rest all size lawful taken =
    let before : List ℕ = magic kind ++ field_bytes w ++ field_bytes h in
    at_maxval kind w h m.gap.first first allowed (length (field_rest m white) + left) bytes (field_rest m white ++ rest) all size lawful.gap.first
    (takes_first (before ++ m.gap.first ∷ []) (field_rest m white) (takes_as taken (field_as before m white)))

-- ---- complete headers

-- the kind, size and maxval of a heading
abbrev pub header_of : Heading → Form
header_of h = record { kind = h.kind; width = field_number h.width; height = field_number h.height; maxval = field_number h.maxval }

-- a header is read
pub heading_passes : (h : Heading) (first allowed left : ℕ) (bytes rest : List ℕ) → suc allowed ≡ most_heading → IsHeading h → Takes most_heading (first ∷ bytes) (heading_bytes h) left rest
    → heading_at first allowed bytes ≡ Ok (header_of h, left, rest)
heading_passes h first allowed left bytes rest all lawful taken =
    let size : IsSize h.kind h.width h.height = record { width = record { field = lawful.width; range = lawful.width_range }; field = lawful.height; range = lawful.height_range; few = lawful.few } in
    in_maxval_at h.kind h.width h.height h.maxval h.last first allowed left bytes rest all size lawful.maxval taken
    ∙ ap (λ r. r >>= λ found. Ok (record { kind = h.kind; width = field_number h.width; height = field_number h.height; maxval = found.0 }, found.1, found.2))
    (field_passes MaxvalOutOfRange h.maxval h.last (length (field_rest h.maxval h.last) + left) left (field_rest h.maxval h.last ++ rest) rest lawful.maxval lawful.maxval_range lawful.last
    (takes_second (field_rest h.maxval h.last) left rest))

-- bytes that begin with a header
pub after_heading : (bytes rest : List ℕ) (h : Heading) → IsHeading h → bytes ≡ heading_bytes h ++ rest → image_at bytes ≡ (raster_at (header_of h) rest >>= λ found. Ok (Some found))
unfolding image_at
after_heading [] rest h lawful whole = absurd (let size = simp length-append at (ap length whole) in omega arith)
after_heading (first ∷ bytes) rest h lawful whole =
    let short = lawful.short in
    let left : ℕ = most_heading - length (heading_bytes h) in
    let taken : Takes most_heading (first ∷ bytes) (heading_bytes h) left rest = record { whole = whole; room_is = omega arith } in
    ap (λ r. r >>= λ found. (raster_at found.0 found.2 >>= λ picture. Ok (Some picture))) (heading_passes h first (most_heading - 1) left bytes rest refl lawful taken)
