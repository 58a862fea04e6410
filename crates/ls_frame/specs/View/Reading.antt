-- Reading an image from a list of bytes, part by part. The grammar is in `Netpbm`; `Laws` relates it to this.
use Rattle.std.specs.Prelude.{◌≡◌, ℕ, zero, suc, ◌+◌, ◌-◌, ◌*◌, min, ◌&&◌, ◌==◌, Bool, true, false, not, nat_lt, nat_le, IsTrue, IsSome, if◌then◌else◌, List, [], ◌∷◌, ◌++◌, Option, None, Some, Result, Ok, Err, MatchResult, MatchOption}
use Rattle.std.specs.List.{list_all}
use Rattle.ls_frame.specs.declared.frame.Kind.{Kind}
use Rattle.ls_frame.specs.declared.frame.Kind.TheVariants.{Gray, Color}
use Rattle.ls_frame.specs.declared.frame.Form.{Form}
use Rattle.ls_frame.specs.declared.netpbm.NetpbmFault.{NetpbmFault}
use Rattle.ls_frame.specs.declared.netpbm.NetpbmFault.TheVariants.{BadMagic, BadHeader, HeaderTooLong, SizeOutOfRange, MaxvalOutOfRange, SampleTooLarge, Truncated}
use Rattle.ls_frame.specs.Picture.{Picture, picture_of, sample_count, most_samples, greatest}
use Rattle.ls_frame.specs.Netpbm.{is_white, is_line_end, is_digit, is_hash, most_heading, is_wide}
use Rattle.ls_frame.specs.Faults.{blames_bytes, blames_device}
use Rattle.ls_frame.specs.View.Known.{known}

-- ---- steps that may fail

infixl 10 ◌>>=◌
abbrev pub ◌>>=◌ : {A B : Type 0} → Result A NetpbmFault → (A → Result B NetpbmFault) → Result B NetpbmFault
(Ok x) >>= f = f x
(Err e) >>= f = Err e

-- a value, the number of bytes that the header may still have, and the bytes that are left
abbrev pub Step : Type 0 → Type 0
Step X = Result (X × ℕ × List ℕ) NetpbmFault

-- nothing if a test passes, else the fault
abbrev pub wanted : Bool → NetpbmFault → Result (Unit {0}) NetpbmFault
wanted true fault = Ok tt
wanted false fault = Err fault

-- ---- the header

abbrev pub byte_at : ℕ → List ℕ → Step ℕ
byte_at zero bytes = Err HeaderTooLong
byte_at (suc allowed) [] = Err Truncated
byte_at (suc allowed) (c ∷ bytes) = Ok (c, allowed, bytes)

-- a number with one more digit; 65536 stands for all numbers over 65535
abbrev pub with_digit : ℕ → ℕ → ℕ
with_digit n digit = min (10 * n + (digit - 48)) (greatest + 1)

-- the other digits of a number whose digits so far have the value n, and the white space character after them
unfoldable pub digits_at : ℕ → ℕ → List ℕ → Step ℕ
digits_at n zero bytes = Err HeaderTooLong
digits_at n (suc allowed) [] = Err Truncated
digits_at n (suc allowed) (c ∷ bytes) =
    if is_digit c then digits_at (with_digit n c) allowed bytes
    else (if is_white c then Ok (n, allowed, bytes) else Err BadHeader)

-- the rest of a gap, which begins within a comment or not, and the digit after it
unfoldable pub gap_at : Bool → ℕ → List ℕ → Step ℕ
gap_at in_comment zero bytes = Err HeaderTooLong
gap_at in_comment (suc allowed) [] = Err Truncated
gap_at true (suc allowed) (c ∷ bytes) = if is_line_end c then gap_at false allowed bytes else gap_at true allowed bytes
gap_at false (suc allowed) (c ∷ bytes) =
    if is_white c then gap_at false allowed bytes
    else (if is_hash c then gap_at true allowed bytes
    else (if is_digit c then Ok (c, allowed, bytes) else Err BadHeader))

-- the rest of a gap, a number and the white space character after it
abbrev pub number_at : ℕ → List ℕ → Step ℕ
number_at allowed bytes = gap_at false allowed bytes >>= λ digit. digits_at (digit.0 - 48) digit.1 digit.2

abbrev pub in_range : NetpbmFault → ℕ → Result ℕ NetpbmFault
in_range fault n = if nat_lt 0 n && nat_le n greatest then Ok n else Err fault

-- the same, of a number from 1 to 65535
abbrev pub in_range_at : NetpbmFault → ℕ → List ℕ → Step ℕ
in_range_at fault allowed bytes = do
  number ← number_at allowed bytes
  n ← in_range fault number.0
  Ok (n, number.1, number.2)

-- the kind that the second byte of the magic stands for
abbrev pub kind_of : ℕ → Result Kind NetpbmFault
kind_of letter = if letter == 53 then Ok Gray else (if letter == 54 then Ok Color else Err BadMagic)

abbrev pub magic_at : ℕ → ℕ → List ℕ → Step Kind
magic_at first allowed bytes = do
  p ← wanted (first == 80) BadMagic
  letter ← byte_at allowed bytes
  kind ← kind_of letter.0
  Ok (kind, letter.1, letter.2)

-- the white space character that a gap begins with
abbrev pub white_at : ℕ → List ℕ → Step (Unit {0})
white_at allowed bytes = do
  first ← byte_at allowed bytes
  white ← wanted (is_white first.0) BadHeader
  Ok (tt, first.1, first.2)

-- the header after its first byte
unfoldable pub heading_at : ℕ → ℕ → List ℕ → Step Form
heading_at first allowed bytes = do
  kind ← magic_at first allowed bytes
  gap ← white_at kind.1 kind.2
  width ← in_range_at SizeOutOfRange gap.1 gap.2
  height ← in_range_at SizeOutOfRange width.1 width.2
  few ← wanted (nat_le (sample_count kind.0 width.0 height.0) most_samples) SizeOutOfRange
  maxval ← in_range_at MaxvalOutOfRange height.1 height.2
  Ok (record { kind = kind.0; width = width.0; height = height.0; maxval = maxval.0 }, maxval.1, maxval.2)

-- ---- the raster

-- a value and the bytes that are left
abbrev pub Take : Type 0 → Type 0
Take X = Result (X × List ℕ) NetpbmFault

abbrev pub sample_at : Bool → List ℕ → Take ℕ
sample_at false [] = Err Truncated
sample_at false (c ∷ bytes) = Ok (c, bytes)
sample_at true [] = Err Truncated
sample_at true (high ∷ []) = Err Truncated
sample_at true (high ∷ low ∷ bytes) = Ok (256 * high + low, bytes)

abbrev pub within : ℕ → ℕ → Result ℕ NetpbmFault
within maxval sample = if nat_le sample maxval then Ok sample else Err SampleTooLarge

abbrev pub with_front : List ℕ → Take (List ℕ) → Take (List ℕ)
with_front front read = read >>= λ found. Ok (front ++ found.0, found.1)

-- the complete samples in the bytes; below, the byte of an incomplete one after them
unfoldable pub samples_of : Bool → List ℕ → List ℕ
samples_of false bytes = bytes
samples_of true [] = []
samples_of true (high ∷ []) = []
samples_of true (high ∷ low ∷ bytes) = (256 * high + low) ∷ samples_of true bytes

unfoldable pub begun_of : Bool → List ℕ → List ℕ
begun_of false bytes = []
begun_of true [] = []
begun_of true (high ∷ []) = high ∷ []
begun_of true (high ∷ low ∷ bytes) = begun_of true bytes

-- the number of bytes of this many samples
abbrev pub byte_count : Bool → ℕ → ℕ
byte_count false samples = samples
byte_count true samples = 2 * samples

abbrev pub are_within : ℕ → List ℕ → Bool
are_within maxval samples = list_all (λ sample. nat_le sample maxval) samples

unfoldable pub samples_at : Bool → ℕ → ℕ → List ℕ → Take (List ℕ)
samples_at wide maxval zero bytes = Ok ([], bytes)
samples_at wide maxval (suc count) bytes = do
  sample ← sample_at wide bytes
  s ← within maxval sample.0
  with_front (s ∷ []) (samples_at wide maxval count sample.1)

-- ---- the image

abbrev pub raster_at : Form → List ℕ → Take Picture
raster_at h bytes = samples_at (is_wide h.maxval) h.maxval (sample_count h.kind h.width h.height) bytes
    >>= λ found. Ok (picture_of h found.0, found.1)

-- the next image, or nothing at the end
unfoldable pub image_at : List ℕ → Result (Option (Picture × List ℕ)) NetpbmFault
image_at [] = Ok None
image_at (first ∷ bytes) = do
  h ← heading_at first (most_heading - 1) bytes
  found ← raster_at h.0 h.2
  Ok (Some found)

-- ---- what the code's readers return

-- If the bytes are known, a call has the result of the step: the value, the number of bytes that the header may still have
-- and the bytes that are left, or the fault. A failed read says nothing about the bytes.
abbrev pub GivesStep : {X : Type 0} → Option (List ℕ) → Option (List ℕ) → ℕ → Result X NetpbmFault → Step X → Type 0
GivesStep old new allowed result step = IsSome old → MatchResult result
    (λ x. IsSome new × (step ≡ Ok (x, allowed, known new)))
    (λ fault. IsTrue (not (blames_device fault)) → step ≡ Err fault)

-- The same for samples. A failed allocation says nothing about the bytes either.
abbrev pub GivesTake : {X Y : Type 0} → (X → Y) → Option (List ℕ) → Option (List ℕ) → Result X NetpbmFault → Take Y → Type 0
GivesTake view old new result take = IsSome old → MatchResult result
    (λ x. IsSome new × (take ≡ Ok (view x, known new)))
    (λ fault. IsTrue (blames_bytes fault) → take ≡ Err fault)

-- The same for the next image. `Ok(None)` is the end of input, where no byte is read.
abbrev pub GivesImage : Option (List ℕ) → Option (List ℕ) → Result (Option Picture) NetpbmFault → Type 0
GivesImage old new result = IsSome old → MatchResult result
    (λ next. IsSome new × MatchOption next
    ((known new ≡ []) × (image_at (known old) ≡ Ok None))
    (λ f. image_at (known old) ≡ Ok (Some (f, known new))))
    (λ fault. IsTrue (blames_bytes fault) → image_at (known old) ≡ Err fault)
