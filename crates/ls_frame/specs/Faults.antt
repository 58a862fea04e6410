-- How bytes break the grammar of an image: legal parts, followed by a part that isn't.
use Rattle.std.specs.Prelude.{◌≡◌, ℕ, ◌<◌, ◌≤◌, ◌||◌, ◌==◌, not, Bool, true, false, IsTrue, List, [], ◌∷◌, ◌++◌, length, ◌⊎◌, Result, Ok, Err}
use Rattle.std.specs.List.{AllByRecursion}
use Rattle.ls_frame.specs.declared.frame.Kind.{Kind}
use Rattle.ls_frame.specs.declared.netpbm.NetpbmFault.{NetpbmFault}
use Rattle.ls_frame.specs.declared.netpbm.NetpbmFault.TheVariants.{BadMagic, BadHeader, HeaderTooLong, SizeOutOfRange, MaxvalOutOfRange, SampleTooLarge, Truncated, Io, NoMemory}
use Rattle.ls_frame.specs.Picture.{sample_count, most_samples}
use Rattle.ls_frame.specs.Netpbm.{is_white, is_line_end, is_digit, is_hash, Gap, IsGap, gap_bytes, IsNumber, Field, IsField, field_bytes, field_number, magic, Heading, heading_bytes, IsHeading, most_heading, InRange, is_wide, IsSample, IsRaster, NoImage}

-- whether a fault is one of the bytes, and not of a device or of memory
abbrev pub blames_bytes : NetpbmFault → Bool
blames_bytes BadMagic = true
blames_bytes BadHeader = true
blames_bytes HeaderTooLong = true
blames_bytes SizeOutOfRange = true
blames_bytes MaxvalOutOfRange = true
blames_bytes SampleTooLarge = true
blames_bytes Truncated = true
blames_bytes Io = false
blames_bytes NoMemory = false

-- whether a fault is a failed read
abbrev pub blames_device : NetpbmFault → Bool
blames_device BadMagic = false
blames_device BadHeader = false
blames_device HeaderTooLong = false
blames_device SizeOutOfRange = false
blames_device MaxvalOutOfRange = false
blames_device SampleTooLarge = false
blames_device Truncated = false
blames_device Io = true
blames_device NoMemory = false

-- whether a fault is a failed allocation
abbrev pub blames_memory : NetpbmFault → Bool
blames_memory BadMagic = false
blames_memory BadHeader = false
blames_memory HeaderTooLong = false
blames_memory SizeOutOfRange = false
blames_memory MaxvalOutOfRange = false
blames_memory SampleTooLarge = false
blames_memory Truncated = false
blames_memory Io = false
blames_memory NoMemory = true

-- whether a call failed because a read did
abbrev pub failed_device : {X : Type 0} → Result X NetpbmFault → Bool
failed_device (Ok x) = false
failed_device (Err fault) = blames_device fault

-- whether a call failed because an allocation did
abbrev pub failed_for_memory : {X : Type 0} → Result X NetpbmFault → Bool
failed_for_memory (Ok x) = false
failed_for_memory (Err fault) = blames_memory fault

-- ---- the beginning of a header

-- what must come next after the beginning of a header
pub data Due : Type 0 where
  letter : Due
  kind_digit : Due
  gap_start : Due
  blank_or_digit : Due
  comment_text : Due
  digit_or_white : Due

abbrev pub allows : Due → ℕ → Bool
allows letter c = c == 80
allows kind_digit c = c == 53 || c == 54
allows gap_start c = is_white c
allows blank_or_digit c = is_white c || is_hash c || is_digit c
allows comment_text c = true
allows digit_or_white c = is_digit c || is_white c

-- the fault if the next byte isn't allowed
abbrev pub fault_at : Due → NetpbmFault
fault_at letter = BadMagic
fault_at kind_digit = BadMagic
fault_at gap_start = BadHeader
fault_at blank_or_digit = BadHeader
fault_at comment_text = BadHeader
fault_at digit_or_white = BadHeader

-- The beginning of a field: a gap; a gap and a comment that isn't closed yet; a gap and digits.
pub data Start : Type 0 where
  gap : Gap → Start
  open_comment : Gap → List ℕ → Start
  digits : Gap → List ℕ → Start

abbrev pub IsStart : Start → Type 0
IsStart (gap g) = IsGap g
IsStart (open_comment g text) = IsGap g × AllByRecursion (λ c. IsTrue (not (is_line_end c))) text
IsStart (digits g ds) = IsGap g × IsNumber ds

abbrev pub start_bytes : Start → List ℕ
start_bytes (gap g) = gap_bytes g
start_bytes (open_comment g text) = gap_bytes g ++ 35 ∷ text
start_bytes (digits g ds) = gap_bytes g ++ ds

abbrev pub start_due : Start → Due
start_due (gap g) = blank_or_digit
start_due (open_comment g text) = comment_text
start_due (digits g ds) = digit_or_white

-- The beginning of a header: the magic or less; or the magic, complete fields within their ranges, and the beginning of
-- the next field. Digits with nothing after them are such a beginning, and not a complete field: a digit may follow.
pub data Beginning : Type 0 where
  empty : Beginning
  one_letter : Beginning
  only_magic : Kind → Beginning
  in_width : Kind → Start → Beginning
  in_height : Kind → Field → Start → Beginning
  in_maxval : Kind → Field → Field → Start → Beginning

-- a width within its range; below, a width and a height within theirs
pub record IsWidth (w : Field) : Type 0 where
  pub field : IsField w
  pub range : InRange (field_number w)

pub record IsSize (kind : Kind) (w h : Field) : Type 0 where
  pub width : IsWidth w
  pub field : IsField h
  pub range : InRange (field_number h)
  pub few : sample_count kind (field_number w) (field_number h) ≤ most_samples

abbrev pub IsBeginning : Beginning → Type 0
IsBeginning empty = Unit {0}
IsBeginning one_letter = Unit {0}
IsBeginning (only_magic kind) = Unit {0}
IsBeginning (in_width kind s) = IsStart s
IsBeginning (in_height kind w s) = IsWidth w × IsStart s
IsBeginning (in_maxval kind w h s) = IsSize kind w h × IsStart s

abbrev pub beginning_bytes : Beginning → List ℕ
beginning_bytes empty = []
beginning_bytes one_letter = 80 ∷ []
beginning_bytes (only_magic kind) = magic kind
beginning_bytes (in_width kind s) = magic kind ++ start_bytes s
beginning_bytes (in_height kind w s) = magic kind ++ field_bytes w ++ start_bytes s
beginning_bytes (in_maxval kind w h s) = magic kind ++ field_bytes w ++ field_bytes h ++ start_bytes s

abbrev pub due : Beginning → Due
due empty = letter
due one_letter = kind_digit
due (only_magic kind) = gap_start
due (in_width kind s) = start_due s
due (in_height kind w s) = start_due s
due (in_maxval kind w h s) = start_due s

-- ---- where reading stops

-- Reading stops after `front`, if the header may have `allowed` bytes: all of these have been read, or the input ends,
-- or the next byte isn't allowed there.
pub data BreaksOff (allowed : ℕ) (bytes front : List ℕ) (d : Due) (fault : NetpbmFault) : Type 0 where
  too_long : (rest : List ℕ) → bytes ≡ front ++ rest → length front ≡ allowed → fault ≡ HeaderTooLong → BreaksOff allowed bytes front d fault
  ends : bytes ≡ front → length front < allowed → fault ≡ Truncated → BreaksOff allowed bytes front d fault
  refuses : (c : ℕ) (rest : List ℕ) → bytes ≡ front ++ c ∷ rest → length front < allowed → allows d c ≡ false → fault ≡ fault_at d → BreaksOff allowed bytes front d fault

-- Reading stops in the header, and there is at least one byte.
pub record StopsInHeading (bytes : List ℕ) (fault : NetpbmFault) : Type 0 where
  pub some : 0 < length bytes
  pub beginning : Beginning
  pub lawful : IsBeginning beginning
  pub stops : BreaksOff most_heading bytes (beginning_bytes beginning) (due beginning) fault

-- ---- numbers out of range, followed by white space

pub record BreaksWidth (bytes : List ℕ) : Type 0 where
  pub kind : Kind
  pub width : Field
  pub white : ℕ
  pub rest : List ℕ
  pub whole : bytes ≡ magic kind ++ field_bytes width ++ white ∷ rest
  pub short : length (magic kind ++ field_bytes width ++ white ∷ []) ≤ most_heading
  pub width_field : IsField width
  pub after : IsTrue (is_white white)
  pub out : ¬ InRange (field_number width)

pub record BreaksHeight (bytes : List ℕ) : Type 0 where
  pub kind : Kind
  pub width : Field
  pub height : Field
  pub white : ℕ
  pub rest : List ℕ
  pub whole : bytes ≡ magic kind ++ field_bytes width ++ field_bytes height ++ white ∷ rest
  pub short : length (magic kind ++ field_bytes width ++ field_bytes height ++ white ∷ []) ≤ most_heading
  pub width_passed : IsWidth width
  pub height_field : IsField height
  pub after : IsTrue (is_white white)
  pub out : (¬ InRange (field_number height)) ⊎ (most_samples < sample_count kind (field_number width) (field_number height))

pub record BreaksMaxval (bytes : List ℕ) : Type 0 where
  pub kind : Kind
  pub width : Field
  pub height : Field
  pub maxval : Field
  pub white : ℕ
  pub rest : List ℕ
  pub whole : bytes ≡ magic kind ++ field_bytes width ++ field_bytes height ++ field_bytes maxval ++ white ∷ rest
  pub short : length (magic kind ++ field_bytes width ++ field_bytes height ++ field_bytes maxval ++ white ∷ []) ≤ most_heading
  pub size : IsSize kind width height
  pub maxval_field : IsField maxval
  pub after : IsTrue (is_white white)
  pub out : ¬ InRange (field_number maxval)

-- ---- rasters

-- a header, samples within maxval, fewer than the size needs, and then `rest`
pub record BeginsRaster (bytes rest : List ℕ) (heading : Heading) : Type 0 where
  pub raster : List ℕ
  pub samples : List ℕ
  pub whole : bytes ≡ heading_bytes heading ++ raster ++ rest
  pub lawful : IsHeading heading
  pub said : IsRaster (is_wide (field_number heading.maxval)) raster samples
  pub within : AllByRecursion (λ sample. sample ≤ field_number heading.maxval) samples
  pub more : length samples < sample_count heading.kind (field_number heading.width) (field_number heading.height)

-- the number of bytes of a sample
abbrev pub sample_size : Bool → ℕ
sample_size false = 1
sample_size true = 2

-- the input ends before the next sample does
pub record EndsInRaster (bytes : List ℕ) : Type 0 where
  pub heading : Heading
  pub rest : List ℕ
  pub begins : BeginsRaster bytes rest heading
  pub ends : length rest < sample_size (is_wide (field_number heading.maxval))

-- the next sample is over maxval
pub record ExceedsMaxval (bytes : List ℕ) : Type 0 where
  pub heading : Heading
  pub next : List ℕ
  pub sample : ℕ
  pub rest : List ℕ
  pub begins : BeginsRaster bytes (next ++ rest) heading
  pub said : IsSample (is_wide (field_number heading.maxval)) next sample
  pub over : field_number heading.maxval < sample

-- ---- the faults

-- The bytes break the grammar with this fault.
abbrev pub Breaks : List ℕ → NetpbmFault → Type 0
Breaks bytes BadMagic = StopsInHeading bytes BadMagic
Breaks bytes BadHeader = StopsInHeading bytes BadHeader
Breaks bytes HeaderTooLong = StopsInHeading bytes HeaderTooLong
Breaks bytes SizeOutOfRange = BreaksWidth bytes ⊎ BreaksHeight bytes
Breaks bytes MaxvalOutOfRange = BreaksMaxval bytes
Breaks bytes SampleTooLarge = ExceedsMaxval bytes
Breaks bytes Truncated = StopsInHeading bytes Truncated ⊎ EndsInRaster bytes
Breaks bytes Io = ⊥
Breaks bytes NoMemory = ⊥

-- The bytes break the grammar with this fault, and don't begin with an image.
pub record IsBroken (bytes : List ℕ) (fault : NetpbmFault) : Type 0 where
  pub breaks : Breaks bytes fault
  pub no_image : NoImage bytes
