-- Reading an image agrees with the grammar.
use Rattle.std.proofs.Common.{◌≡◌, ℕ, ◌-◌, Bool, true, false, inl, inr, List, [], ◌∷◌, ◌++◌, Option, None, Some, MatchOption, MatchResult, Ok, Err, refl, sym, ap, ◌∙◌, append_assoc}
use Rattle.std.proofs.lemmas.Result.{MatchResult-at_ok, MatchResult-at_err}
use Rattle.ls_frame.specs.declared.frame.Form.{Form}
use Rattle.ls_frame.specs.declared.netpbm.NetpbmFault.{NetpbmFault}
use Rattle.ls_frame.specs.declared.netpbm.NetpbmFault.TheVariants.{BadMagic, BadHeader, HeaderTooLong, SizeOutOfRange, MaxvalOutOfRange, SampleTooLarge, Truncated, Io, NoMemory}
use Rattle.ls_frame.specs.Picture.{Picture, picture_of, form_of, sample_count, IsFrame}
use Rattle.ls_frame.specs.Netpbm.{heading_bytes, most_heading, is_wide, IsImageOf, IsWholeHeading}
use Rattle.ls_frame.specs.Faults.{Due, letter, kind_digit, gap_start, blank_or_digit, comment_text, digit_or_white, fault_at, BreaksOff, too_long, ends, refuses, StopsInHeading, BeginsRaster, EndsInRaster, ExceedsMaxval, Breaks}
use Rattle.ls_frame.specs.View.Reading.{◌>>=◌, heading_at, samples_at, raster_at, image_at}
use Rattle.ls_frame.specs.View.Laws.{ReadsSpellings, SpellingsAreRead, ReadsNothingAtEnd, FaultsBreak, BreaksAreFaults}
use Rattle.ls_frame.proofs.TakeLemmas.{outcome_of_both}
use Rattle.ls_frame.proofs.HeadingLaws.{HeadingRead, HeadingFault, in_heading, of_size, of_maxval, heading_outcome}
use Rattle.ls_frame.proofs.RasterLaws.{RasterRead, RasterBegun, RasterFault, ends_early, exceeds, samples_outcome, raster_read}
use Rattle.ls_frame.proofs.BreakLaws.{stop_fails, width_fails, height_fails, maxval_fails, over_fails, short_fails}
use Rattle.ls_frame.proofs.SpellingLaws.{header_of, after_heading}

-- ---- faults in the header

-- the faults of a header that stops early
stops_early : NetpbmFault → Bool
stops_early BadMagic = true
stops_early BadHeader = true
stops_early HeaderTooLong = true
stops_early SizeOutOfRange = false
stops_early MaxvalOutOfRange = false
stops_early SampleTooLarge = false
stops_early Truncated = true
stops_early Io = false
stops_early NoMemory = false

-- a byte that isn't allowed gives such a fault
refusal_stops : (d : Due) → stops_early (fault_at d) ≡ true
unfolding stops_early
refusal_stops letter = refl
refusal_stops kind_digit = refl
refusal_stops gap_start = refl
refusal_stops blank_or_digit = refl
refusal_stops comment_text = refl
refusal_stops digit_or_white = refl

-- and so does each stop
fault_stops : {room : ℕ} {bytes front : List ℕ} {d : Due} {fault : NetpbmFault} → BreaksOff room bytes front d fault → stops_early fault ≡ true
unfolding stops_early
fault_stops (too_long rest whole all is) = rw is refl
fault_stops (ends whole some is) = rw is refl
fault_stops {d = d} (refuses c rest whole some not_allowed is) = rw is (refusal_stops d)

-- bytes where reading stops in the header break the grammar with this fault
stop_breaks : (bytes : List ℕ) (fault : NetpbmFault) → stops_early fault ≡ true → StopsInHeading bytes fault → Breaks bytes fault
unfolding stops_early
stop_breaks bytes BadMagic early stop = stop
stop_breaks bytes BadHeader early stop = stop
stop_breaks bytes HeaderTooLong early stop = stop
stop_breaks bytes SizeOutOfRange early stop = absurd (let bad : ⊥ = cc in bad)
stop_breaks bytes MaxvalOutOfRange early stop = absurd (let bad : ⊥ = cc in bad)
stop_breaks bytes SampleTooLarge early stop = absurd (let bad : ⊥ = cc in bad)
stop_breaks bytes Truncated early stop = inl stop
stop_breaks bytes Io early stop = absurd (let bad : ⊥ = cc in bad)
stop_breaks bytes NoMemory early stop = absurd (let bad : ⊥ = cc in bad)

-- bytes whose header fails break the grammar with this fault
heading_breaks : (bytes : List ℕ) (fault : NetpbmFault) → HeadingFault bytes fault → Breaks bytes fault
heading_breaks bytes fault (in_heading stop) = stop_breaks bytes fault (fault_stops stop.stops) stop
heading_breaks bytes fault (of_size size is) = rw is size
heading_breaks bytes fault (of_maxval maxval is) = rw is maxval

-- ---- faults in the raster

-- samples after a header begin its raster
raster_begins : {bytes rest : List ℕ} (found : Form × ℕ × List ℕ) (read : HeadingRead bytes found)
    → RasterBegun (is_wide found.0.maxval) found.0.maxval (sample_count found.0.kind found.0.width found.0.height) found.2 rest → BeginsRaster bytes rest read.heading
raster_begins {rest = rest} found read begun = record {
  raster = begun.raster;
  samples = begun.samples;
  whole = read.whole ∙ ap (λ bs. heading_bytes read.heading ++ bs) begun.whole ∙ sym (append_assoc (heading_bytes read.heading) begun.raster rest);
  lawful = read.lawful;
  said = rw (← read.maxval) begun.said;
  within = rw (← read.maxval) begun.each;
  more = rw (← read.kind, ← read.width, ← read.height) begun.more;
}

-- bytes whose raster fails break the grammar with this fault
raster_breaks : {bytes : List ℕ} {fault : NetpbmFault} (found : Form × ℕ × List ℕ) (read : HeadingRead bytes found)
    → RasterFault (is_wide found.0.maxval) found.0.maxval (sample_count found.0.kind found.0.width found.0.height) found.2 fault → Breaks bytes fault
raster_breaks {bytes = bytes} found read (ends_early rest begun short is) =
    let broken : EndsInRaster bytes = record { heading = read.heading; rest = rest; begins = raster_begins found read begun; ends = rw (← read.maxval) short } in
    rw is (inr broken)
raster_breaks {bytes = bytes} found read (exceeds next rest sample begun said over is) =
    let broken : ExceedsMaxval bytes = record {
      heading = read.heading;
      next = next;
      sample = sample;
      rest = rest;
      begins = raster_begins found read begun;
      said = rw (← read.maxval) said;
      over = rw (← read.maxval) over;
    } in
    rw is broken

-- ---- what is read

-- an image at the front, and the bytes after it
abbrev PictureRead : List ℕ → Picture × List ℕ → Type 0
PictureRead bytes found = (front : List ℕ) × (bytes ≡ front ++ found.1) × IsImageOf front found.0

-- the picture is a frame
picture_frame : {bytes : List ℕ} (found : Form × ℕ × List ℕ) (samples rest : List ℕ) → HeadingRead bytes found
    → RasterRead (is_wide found.0.maxval) found.0.maxval (sample_count found.0.kind found.0.width found.0.height) found.2 (samples, rest) → IsFrame (picture_of found.0 samples)
picture_frame found samples rest read raster =
    let h = read.lawful in
    let w = read.width in
    let t = read.height in
    let m = read.maxval in
    record {
      formed = record {
        some_width = rw w h.width_range.some;
        width = rw w h.width_range.most;
        some_height = rw t h.height_range.some;
        height = rw t h.height_range.most;
        some_maxval = rw m h.maxval_range.some;
        maxval = rw m h.maxval_range.most;
        few = rw (read.kind, w, t) h.few;
        count = raster.all;
      };
      each = raster.each;
    }

-- a header and its raster are an image
picture_read : {bytes : List ℕ} (found : Form × ℕ × List ℕ) (samples rest : List ℕ) → HeadingRead bytes found
    → RasterRead (is_wide found.0.maxval) found.0.maxval (sample_count found.0.kind found.0.width found.0.height) found.2 (samples, rest)
    → PictureRead bytes (picture_of found.0 samples, rest)
picture_read found samples rest read raster = (
  heading_bytes read.heading ++ raster.raster,
  read.whole ∙ ap (λ bs. heading_bytes read.heading ++ bs) raster.whole ∙ sym (append_assoc (heading_bytes read.heading) raster.raster rest),
  record {
    heading = read.heading;
    raster = raster.raster;
    whole = refl;
    lawful = read.lawful;
    kind = read.kind;
    width = read.width;
    height = read.height;
    maxval = read.maxval;
    samples = raster.said;
    frame = picture_frame found samples rest read raster;
  },
)

-- after a header reading gives its raster, or the bytes break the grammar with the fault
raster_outcome : (bytes : List ℕ) (found : Form × ℕ × List ℕ) → HeadingRead bytes found → MatchResult (raster_at found.0 found.2) (PictureRead bytes) (Breaks bytes)
raster_outcome bytes found read =
    let wide : Bool = is_wide found.0.maxval in
    let count : ℕ = sample_count found.0.kind found.0.width found.0.height in
    outcome_of_both (RasterRead wide found.0.maxval count found.2) (RasterFault wide found.0.maxval count found.2) (PictureRead bytes) (Breaks bytes) (samples_at wide found.0.maxval count found.2) _
    (samples_outcome wide found.0.maxval count found.2)
    (λ samples raster. picture_read found samples.0 samples.1 read raster)
    (λ fault failed. raster_breaks found read failed)

-- an image was read, or the input is empty
abbrev ImageRead : List ℕ → Option (Picture × List ℕ) → Type 0
ImageRead bytes found = MatchOption found (bytes ≡ []) (PictureRead bytes)

-- reading gives an image, or the bytes break the grammar with the fault
image_outcome : (bytes : List ℕ) → MatchResult (image_at bytes) (ImageRead bytes) (Breaks bytes)
unfolding image_at
image_outcome [] = refl
image_outcome (first ∷ bytes) =
    let all : List ℕ = first ∷ bytes in
    outcome_of_both (HeadingRead all) (HeadingFault all) (ImageRead all) (Breaks all) (heading_at first (most_heading - 1) bytes) _
    (heading_outcome first (most_heading - 1) bytes refl)
    (λ found read. outcome_of_both (PictureRead all) (Breaks all) (ImageRead all) (Breaks all) (raster_at found.0 found.2) (λ picture. Ok (Some picture))
    (raster_outcome all found read) (λ picture said. said) (λ fault failed. failed))
    (λ fault failed. heading_breaks all fault failed)

-- ---- each image of the grammar is read

-- the header of an image has the kind, size and maxval of its picture
heading_says : (front : List ℕ) (f : Picture) (said : IsImageOf front f) → header_of said.heading ≡ form_of f
heading_says front f said = rw (said.kind, said.width, said.height, said.maxval) refl

-- ---- headers

-- the bytes that are read for a header are a complete, legal one
pub heading_read : (first : ℕ) (bytes : List ℕ) (found : Form × ℕ × List ℕ) → heading_at first (most_heading - 1) bytes ≡ Ok found
    → (front : List ℕ) × (first ∷ bytes ≡ front ++ found.2) × IsWholeHeading front
heading_read first bytes found read =
    let all : List ℕ = first ∷ bytes in
    let whole = MatchResult-at_ok (HeadingRead all) (HeadingFault all) found read (heading_outcome first (most_heading - 1) bytes refl) in
    (heading_bytes whole.heading, whole.whole, (whole.heading, whole.lawful, refl))

-- reading a header doesn't fail with NoMemory
pub heading_needs_no_memory : (first : ℕ) (bytes : List ℕ) → heading_at first (most_heading - 1) bytes ≡ Err NoMemory → ⊥
heading_needs_no_memory first bytes failed =
    let all : List ℕ = first ∷ bytes in
    heading_breaks all NoMemory (MatchResult-at_err (HeadingRead all) (HeadingFault all) NoMemory failed (heading_outcome first (most_heading - 1) bytes refl))

-- ---- the laws

pub spellings_are_read : SpellingsAreRead
spellings_are_read front rest f said =
    let whole : front ++ rest ≡ heading_bytes said.heading ++ (said.raster ++ rest) =
    ap (λ bs. bs ++ rest) said.whole ∙ append_assoc (heading_bytes said.heading) said.raster rest in
    after_heading (front ++ rest) (said.raster ++ rest) said.heading said.lawful whole
    ∙ ap (λ h. raster_at h (said.raster ++ rest) >>= λ found. Ok (Some found)) (heading_says front f said)
    ∙ ap (λ r. (r >>= λ found. Ok (picture_of (form_of f) found.0, found.1)) >>= λ found. Ok (Some found))
    (raster_read (is_wide f.maxval) f.maxval (sample_count f.kind f.width f.height) f.samples said.raster rest said.samples said.frame.each said.frame.formed.count)

pub reads_spellings : ReadsSpellings
reads_spellings bytes rest f read = MatchResult-at_ok (ImageRead bytes) (Breaks bytes) (Some (f, rest)) read (image_outcome bytes)

pub reads_nothing_at_end : ReadsNothingAtEnd
reads_nothing_at_end bytes read = MatchResult-at_ok (ImageRead bytes) (Breaks bytes) None read (image_outcome bytes)

pub faults_break : FaultsBreak
faults_break bytes fault read = MatchResult-at_err (ImageRead bytes) (Breaks bytes) fault read (image_outcome bytes)

pub breaks_are_faults : BreaksAreFaults
breaks_are_faults bytes BadMagic stop = stop_fails bytes BadMagic stop
breaks_are_faults bytes BadHeader stop = stop_fails bytes BadHeader stop
breaks_are_faults bytes HeaderTooLong stop = stop_fails bytes HeaderTooLong stop
breaks_are_faults bytes SizeOutOfRange (inl width) = width_fails bytes width
breaks_are_faults bytes SizeOutOfRange (inr height) = height_fails bytes height
breaks_are_faults bytes MaxvalOutOfRange maxval = maxval_fails bytes maxval
breaks_are_faults bytes SampleTooLarge over = over_fails bytes over
breaks_are_faults bytes Truncated (inl stop) = stop_fails bytes Truncated stop
breaks_are_faults bytes Truncated (inr short) = short_fails bytes short
breaks_are_faults bytes Io none = absurd none
breaks_are_faults bytes NoMemory none = absurd none
