-- Headers: the bytes that reading takes, and how it fails.
use Rattle.std.proofs.Common.{◌≡◌, ℕ, zero, suc, ◌<◌, ◌≤◌, ◌==◌, true, false, leb, ◌⊎◌, inl, inr, IsTrue, List, [], ◌∷◌, ◌++◌, length, Result, MatchResult, Ok, Err, refl, ◌∙◌, arith, append_assoc, append-nil}
use Rattle.std.proofs.lemmas.Bool.{cond_both, or_from, leb-true, leb-false, eqb-true}
use Rattle.ls_frame.specs.declared.frame.Kind.{Kind}
use Rattle.ls_frame.specs.declared.frame.Kind.TheVariants.{Gray, Color}
use Rattle.ls_frame.specs.declared.frame.Form.{Form}
use Rattle.ls_frame.specs.declared.netpbm.NetpbmFault.{NetpbmFault}
use Rattle.ls_frame.specs.declared.netpbm.NetpbmFault.TheVariants.{BadMagic, BadHeader, SizeOutOfRange, MaxvalOutOfRange}
use Rattle.ls_frame.specs.Picture.{sample_count, most_samples}
use Rattle.ls_frame.specs.Netpbm.{is_white, Field, field_bytes, field_number, magic, Heading, IsHeading, heading_bytes, most_heading}
use Rattle.ls_frame.specs.Faults.{Beginning, empty, one_letter, only_magic, in_width, in_height, in_maxval, IsWidth, IsSize, IsBeginning, beginning_bytes, due, BreaksOff, too_long, ends, refuses, StopsInHeading, BreaksWidth, BreaksHeight, BreaksMaxval}
use Rattle.ls_frame.specs.View.Reading.{◌>>=◌, Step, wanted, byte_at, in_range_at, kind_of, magic_at, white_at, heading_at}
use Rattle.ls_frame.proofs.TakeLemmas.{Takes, takes_one, takes_more, outcome_of_both, wanted_outcome, wanted_next_outcome}
use Rattle.ls_frame.proofs.NumberLaws.{InRangeRead, FieldFault, field_stops, out_of_range, field_outcome}

-- ---- the steps of a header, from the last back

-- the maxval, and the header
abbrev pub maxval_at : Kind → ℕ → ℕ → ℕ → List ℕ → Step Form
maxval_at kind width height allowed bytes =
    in_range_at MaxvalOutOfRange allowed bytes >>= λ maxval. Ok (record { kind = kind; width = width; height = height; maxval = maxval.0 }, maxval.1, maxval.2)

-- the height and what follows
abbrev pub height_at : Kind → ℕ → ℕ → List ℕ → Step Form
height_at kind width allowed bytes =
    in_range_at SizeOutOfRange allowed bytes >>= λ height.
    wanted (leb (sample_count kind width height.0) most_samples) SizeOutOfRange >>= λ few. maxval_at kind width height.0 height.1 height.2

-- the width and what follows
abbrev pub width_at : Kind → ℕ → List ℕ → Step Form
width_at kind allowed bytes = in_range_at SizeOutOfRange allowed bytes >>= λ width. height_at kind width.0 width.1 width.2

-- the white space after the magic, and what follows
abbrev pub fields_at : Kind → ℕ → List ℕ → Step Form
fields_at kind allowed bytes = white_at allowed bytes >>= λ first. width_at kind first.1 first.2

-- a header is the magic and then these
pub heading_at-steps : (first allowed : ℕ) (bytes : List ℕ) → heading_at first allowed bytes ≡ (magic_at first allowed bytes >>= λ kind. fields_at kind.0 kind.1 kind.2)
unfolding heading_at
heading_at-steps first allowed bytes = refl

-- ---- what is taken, and how reading fails

-- a header was taken, and its numbers are those that were read
pub record HeadingRead (bytes : List ℕ) (found : Form × ℕ × List ℕ) : Type 0 where
  pub heading : Heading
  pub lawful : IsHeading heading
  pub kind : found.0.kind ≡ heading.kind
  pub width : found.0.width ≡ field_number heading.width
  pub height : found.0.height ≡ field_number heading.height
  pub maxval : found.0.maxval ≡ field_number heading.maxval
  pub whole : bytes ≡ heading_bytes heading ++ found.2

-- how a header fails
pub data HeadingFault (bytes : List ℕ) (fault : NetpbmFault) : Type 0 where
  in_heading : StopsInHeading bytes fault → HeadingFault bytes fault
  of_size : BreaksWidth bytes ⊎ BreaksHeight bytes → fault ≡ SizeOutOfRange → HeadingFault bytes fault
  of_maxval : BreaksMaxval bytes → fault ≡ MaxvalOutOfRange → HeadingFault bytes fault

-- reading stops after a beginning
stops_at : {bytes : List ℕ} {fault : NetpbmFault} (b : Beginning) → 0 < length bytes → IsBeginning b → BreaksOff most_heading bytes (beginning_bytes b) (due b) fault → HeadingFault bytes fault
stops_at b some lawful stops = in_heading (record { some = some; beginning = b; lawful = lawful; stops = stops })

-- `front` and the last byte were taken, and aren't too many
whole_with_last : {bytes rest : List ℕ} {left : ℕ} (front : List ℕ) (last : ℕ) → Takes most_heading bytes (front ++ last ∷ []) left rest → bytes ≡ front ++ last ∷ rest
whole_with_last {rest = rest} front last taken = taken.whole ∙ append_assoc front (last ∷ []) rest

-- the bytes that were taken aren't too many
short_enough : {bytes front rest : List ℕ} {left : ℕ} → Takes most_heading bytes front left rest → length front ≤ most_heading
short_enough taken = let e = taken.room_is in omega arith

-- ---- the maxval

-- with its maxval the header is complete
maxval_read : {bytes : List ℕ} (kind : Kind) (w h : Field) (width height : ℕ) (found : ℕ × ℕ × List ℕ) → IsSize kind w h → width ≡ field_number w → height ≡ field_number h
    → InRangeRead most_heading bytes (magic kind ++ field_bytes w ++ field_bytes h) found
    → HeadingRead bytes (record { kind = kind; width = width; height = height; maxval = found.0 }, found.1, found.2)
maxval_read kind w h width height found size width_is height_is read = record {
  heading = record { kind = kind; width = w; height = h; maxval = read.field; last = read.white };
  lawful = record {
    width = size.width.field;
    height = size.field;
    maxval = read.lawful;
    last = read.after;
    width_range = size.width.range;
    height_range = size.range;
    few = size.few;
    maxval_range = read.range;
    short = short_enough read.takes;
  };
  kind = refl;
  width = width_is;
  height = height_is;
  maxval = read.is;
  whole = read.takes.whole;
}

-- the maxval fails
maxval_fault : {bytes : List ℕ} {fault : NetpbmFault} (kind : Kind) (w h : Field) → 0 < length bytes → IsSize kind w h
    → FieldFault most_heading bytes (magic kind ++ field_bytes w ++ field_bytes h) MaxvalOutOfRange fault → HeadingFault bytes fault
maxval_fault kind w h some size (field_stops at) = stops_at (in_maxval kind w h at.start) some (size, at.lawful) at.stops
maxval_fault kind w h some size (out_of_range read is) = of_maxval (record {
  kind = kind;
  width = w;
  height = h;
  maxval = read.field;
  white = read.white;
  rest = read.rest;
  whole = whole_with_last _ _ read.takes;
  short = short_enough read.takes;
  size = size;
  maxval_field = read.lawful;
  after = read.after;
  out = read.out;
}) is

-- after the height
maxval_outcome : (bytes rest : List ℕ) (allowed : ℕ) (kind : Kind) (w h : Field) (white width height : ℕ) → 0 < length bytes → IsSize kind w h → width ≡ field_number w → height ≡ field_number h
    → IsTrue (is_white white) → Takes most_heading bytes (magic kind ++ field_bytes w ++ field_bytes h ++ white ∷ []) allowed rest
    → MatchResult (maxval_at kind width height allowed rest) (HeadingRead bytes) (HeadingFault bytes)
maxval_outcome bytes rest allowed kind w h white width height some size width_is height_is is taken =
    let before : List ℕ = magic kind ++ field_bytes w ++ field_bytes h in
    outcome_of_both (InRangeRead most_heading bytes before) (FieldFault most_heading bytes before MaxvalOutOfRange) (HeadingRead bytes) (HeadingFault bytes) (in_range_at MaxvalOutOfRange allowed rest) _
    (field_outcome MaxvalOutOfRange most_heading allowed bytes before rest white is taken)
    (λ found read. maxval_read kind w h width height found size width_is height_is read)
    (λ fault failed. maxval_fault kind w h some size failed)

-- ---- the height

-- the height fails
height_fault : {bytes : List ℕ} {fault : NetpbmFault} (kind : Kind) (w : Field) → 0 < length bytes → IsWidth w
    → FieldFault most_heading bytes (magic kind ++ field_bytes w) SizeOutOfRange fault → HeadingFault bytes fault
height_fault kind w some width (field_stops at) = stops_at (in_height kind w at.start) some (width, at.lawful) at.stops
height_fault kind w some width (out_of_range read is) = of_size (inr (record {
  kind = kind;
  width = w;
  height = read.field;
  white = read.white;
  rest = read.rest;
  whole = whole_with_last _ _ read.takes;
  short = short_enough read.takes;
  width_passed = width;
  height_field = read.lawful;
  after = read.after;
  out = inl read.out;
})) is

-- the size has too many samples
too_many : {bytes : List ℕ} {found : ℕ × ℕ × List ℕ} (kind : Kind) (w : Field) (width : ℕ) → IsWidth w → width ≡ field_number w
    → (read : InRangeRead most_heading bytes (magic kind ++ field_bytes w) found) → leb (sample_count kind width found.0) most_samples ≡ false
    → HeadingFault bytes SizeOutOfRange
too_many {found = found} kind w width lawful width_is read test =
    let many : most_samples < sample_count kind width found.0 = leb-false (sample_count kind width found.0) most_samples test in
    of_size (inr (record {
      kind = kind;
      width = w;
      height = read.field;
      white = read.white;
      rest = found.2;
      whole = whole_with_last _ _ read.takes;
      short = short_enough read.takes;
      width_passed = lawful;
      height_field = read.lawful;
      after = read.after;
      out = inr (rw (← width_is, ← read.is) many);
    })) refl

-- or few enough
size_read : {bytes : List ℕ} {found : ℕ × ℕ × List ℕ} (kind : Kind) (w : Field) (width : ℕ) → IsWidth w → width ≡ field_number w
    → (read : InRangeRead most_heading bytes (magic kind ++ field_bytes w) found) → leb (sample_count kind width found.0) most_samples ≡ true → IsSize kind w read.field
size_read {found = found} kind w width lawful width_is read test =
    let few : sample_count kind width found.0 ≤ most_samples = leb-true (sample_count kind width found.0) most_samples test in
    record { width = lawful; field = read.lawful; range = read.range; few = rw (← width_is, ← read.is) few }

-- after the width
height_outcome : (bytes rest : List ℕ) (allowed : ℕ) (kind : Kind) (w : Field) (white width : ℕ) → 0 < length bytes → IsWidth w → width ≡ field_number w
    → IsTrue (is_white white) → Takes most_heading bytes (magic kind ++ field_bytes w ++ white ∷ []) allowed rest
    → MatchResult (height_at kind width allowed rest) (HeadingRead bytes) (HeadingFault bytes)
height_outcome bytes rest allowed kind w white width some lawful width_is is taken =
    let before : List ℕ = magic kind ++ field_bytes w in
    outcome_of_both (InRangeRead most_heading bytes before) (FieldFault most_heading bytes before SizeOutOfRange) (HeadingRead bytes) (HeadingFault bytes) (in_range_at SizeOutOfRange allowed rest) _
    (field_outcome SizeOutOfRange most_heading allowed bytes before rest white is taken)
    (λ found read. wanted_outcome (HeadingRead bytes) (HeadingFault bytes) (leb (sample_count kind width found.0) most_samples) SizeOutOfRange (maxval_at kind width found.0 found.1 found.2)
    (λ test. maxval_outcome bytes found.2 found.1 kind w read.field read.white width found.0 some (size_read kind w width lawful width_is read test) width_is read.is read.after read.takes)
    (λ test. too_many kind w width lawful width_is read test))
    (λ fault failed. height_fault kind w some lawful failed)

-- ---- the width

-- the width fails
width_fault : {bytes : List ℕ} {fault : NetpbmFault} (kind : Kind) → 0 < length bytes → FieldFault most_heading bytes (magic kind) SizeOutOfRange fault → HeadingFault bytes fault
width_fault kind some (field_stops at) = stops_at (in_width kind at.start) some at.lawful at.stops
width_fault kind some (out_of_range read is) = of_size (inl (record {
  kind = kind;
  width = read.field;
  white = read.white;
  rest = read.rest;
  whole = whole_with_last _ _ read.takes;
  short = short_enough read.takes;
  width_field = read.lawful;
  after = read.after;
  out = read.out;
})) is

-- after the white space
width_outcome : (bytes rest : List ℕ) (allowed : ℕ) (kind : Kind) (white : ℕ) → 0 < length bytes → IsTrue (is_white white) → Takes most_heading bytes (magic kind ++ white ∷ []) allowed rest
    → MatchResult (width_at kind allowed rest) (HeadingRead bytes) (HeadingFault bytes)
width_outcome bytes rest allowed kind white some is taken =
    outcome_of_both (InRangeRead most_heading bytes (magic kind)) (FieldFault most_heading bytes (magic kind) SizeOutOfRange) (HeadingRead bytes) (HeadingFault bytes) (in_range_at SizeOutOfRange allowed rest) _
    (field_outcome SizeOutOfRange most_heading allowed bytes (magic kind) rest white is taken)
    (λ found read. height_outcome bytes found.2 found.1 kind read.field read.white found.0 some (record { field = read.lawful; range = read.range }) read.is read.after read.takes)
    (λ fault failed. width_fault kind some failed)

-- ---- the magic, and the white space after it

-- after the magic
white_outcome : (bytes rest : List ℕ) (allowed : ℕ) (kind : Kind) → 0 < length bytes → Takes most_heading bytes (magic kind) allowed rest
    → MatchResult (fields_at kind allowed rest) (HeadingRead bytes) (HeadingFault bytes)
white_outcome bytes rest zero kind some taken = let e = taken.room_is in stops_at (only_magic kind) some tt (too_long rest taken.whole (omega arith) refl)
white_outcome bytes [] (suc allowed) kind some taken = let e = taken.room_is in stops_at (only_magic kind) some tt (ends (taken.whole ∙ append-nil (magic kind)) (omega arith) refl)
white_outcome bytes (c ∷ rest) (suc allowed) kind some taken =
    let e = taken.room_is in
    wanted_next_outcome (HeadingRead bytes) (HeadingFault bytes) (is_white c) BadHeader (tt, allowed, rest) (λ first. width_at kind first.1 first.2)
    (λ is. width_outcome bytes rest allowed kind c some is (takes_more taken (takes_one c allowed rest)))
    (λ other. stops_at (only_magic kind) some tt (refuses c rest taken.whole (omega arith) other refl))

-- the magic was taken
abbrev MagicRead : List ℕ → Kind × ℕ × List ℕ → Type 0
MagicRead bytes found = Takes most_heading bytes (magic found.0) found.1 found.2

-- its two bytes
magic_taken : (kind : Kind) (first second allowed : ℕ) (bytes : List ℕ) → suc (suc allowed) ≡ most_heading → first ∷ second ∷ bytes ≡ magic kind ++ bytes → length (magic kind) ≡ 2
    → Takes most_heading (first ∷ second ∷ bytes) (magic kind) allowed bytes
magic_taken kind first second allowed bytes whole same two = record { whole = same; room_is = omega arith }

-- the second byte stands for the kind
kind_outcome : (first second allowed : ℕ) (bytes : List ℕ) → suc (suc allowed) ≡ most_heading → first ≡ 80
    → MatchResult (kind_of second >>= λ kind. Ok (kind, allowed, bytes)) (MagicRead (first ∷ second ∷ bytes)) (HeadingFault (first ∷ second ∷ bytes))
kind_outcome first second allowed bytes whole p =
    let all : List ℕ = first ∷ second ∷ bytes in
    let P : Result Kind NetpbmFault → Type 0 = λ r. MatchResult (r >>= λ kind. Ok (kind, allowed, bytes)) (MagicRead all) (HeadingFault all) in
    cond_both (second == 53) (Ok Gray) _ P
    (λ gray. magic_taken Gray first second allowed bytes whole (rw (p, eqb-true second 53 gray) refl) refl)
    (λ not_gray. cond_both (second == 54) (Ok Color) (Err BadMagic) P
    (λ color. magic_taken Color first second allowed bytes whole (rw (p, eqb-true second 54 color) refl) refl)
    (λ not_color. stops_at one_letter (omega arith) tt (refuses second bytes (rw p refl) (omega arith) (or_from _ _ not_gray not_color) refl)))

-- after the first
second_outcome : (first allowed : ℕ) (bytes : List ℕ) → suc allowed ≡ most_heading → first ≡ 80
    → MatchResult (byte_at allowed bytes >>= λ second. (kind_of second.0 >>= λ kind. Ok (kind, second.1, second.2))) (MagicRead (first ∷ bytes)) (HeadingFault (first ∷ bytes))
second_outcome first zero bytes whole p = absurd (omega arith)
second_outcome first (suc allowed) [] whole p = stops_at one_letter (omega arith) tt (ends (rw p refl) (omega arith) refl)
second_outcome first (suc allowed) (second ∷ bytes) whole p = kind_outcome first second allowed bytes whole p

-- from the start
magic_outcome : (first allowed : ℕ) (bytes : List ℕ) → suc allowed ≡ most_heading → MatchResult (magic_at first allowed bytes) (MagicRead (first ∷ bytes)) (HeadingFault (first ∷ bytes))
magic_outcome first allowed bytes whole =
    wanted_outcome (MagicRead (first ∷ bytes)) (HeadingFault (first ∷ bytes)) (first == 80) BadMagic (byte_at allowed bytes >>= λ second. (kind_of second.0 >>= λ kind. Ok (kind, second.1, second.2)))
    (λ p. second_outcome first allowed bytes whole (eqb-true first 80 p))
    (λ other. stops_at empty (omega arith) tt (refuses first bytes refl (omega arith) other refl))

-- ---- the header

-- reading gives a header, or fails in one of these ways
pub heading_outcome : (first allowed : ℕ) (bytes : List ℕ) → suc allowed ≡ most_heading → MatchResult (heading_at first allowed bytes) (HeadingRead (first ∷ bytes)) (HeadingFault (first ∷ bytes))
heading_outcome first allowed bytes whole = rw (heading_at-steps first allowed bytes)
    (outcome_of_both (MagicRead (first ∷ bytes)) (HeadingFault (first ∷ bytes)) (HeadingRead (first ∷ bytes)) (HeadingFault (first ∷ bytes)) (magic_at first allowed bytes) (λ kind. fields_at kind.0 kind.1 kind.2)
    (magic_outcome first allowed bytes whole)
    (λ found taken. white_outcome (first ∷ bytes) found.2 found.1 found.0 (omega arith) taken)
    (λ fault failed. failed))
