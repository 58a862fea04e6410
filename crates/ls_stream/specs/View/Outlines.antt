-- The outline of a codestream: its frame header, its coding parameters and the data of its scans, without the planes. How it is read from
-- bytes, which frame it fits, and what happens if there are more bytes than a codestream may have.
use Rattle.std.specs.Prelude.{◌≡◌, ◌⊎◌, ℕ, suc, ◌+◌, ◌≤◌, ◌==◌, nat_lt, if◌then◌else◌, List, [], ◌∷◌, ◌++◌, length, take, drop, Result, Ok, Err}
use Rattle.ls_frame.specs.Picture.{Picture, IsFrame, components}
use Rattle.ls_frame.specs.Parameters.{Parameters}
use Rattle.ls_bits.specs.Bits.{AreBytes}
use Rattle.ls_bits.specs.Data.{stop_at}
use Rattle.ls_stream.specs.declared.faults.StreamFault.{StreamFault}
use Rattle.ls_stream.specs.declared.faults.StreamFault.TheVariants.{Truncated, TooLarge}
use Rattle.ls_stream.specs.declared.segments.read.FrameHeader.{FrameHeader}
use Rattle.ls_stream.specs.Components.{plane_of}
use Rattle.ls_stream.specs.Grammar.{IsCoded, Spells, most_bytes}
use Rattle.ls_stream.specs.Faults.{Breaks}
use Rattle.ls_stream.specs.View.FirstFaults.{BreaksData, IsPlaneData, FirstFault}
use Rattle.ls_stream.specs.View.Reading.{◌>>=◌, Take, opening_at, next_scan_at, end_at}

-- ---- the data of a scan

-- the number of bytes of the data at the front: up to an FF at the end, or one that is followed by a byte of 80 or more (T.87 C.1)
unfoldable pub data_length : List ℕ → ℕ
data_length [] = 0
data_length (byte ∷ []) = if byte == 255 then 0 else 1
data_length (byte ∷ next ∷ bytes) =
    if byte == 255 then (if nat_lt next 128 then suc (suc (data_length bytes)) else 0)
    else suc (data_length (next ∷ bytes))

abbrev pub data_at : List ℕ → List ℕ
data_at bytes = take (data_length bytes) bytes

abbrev pub after_data : List ℕ → List ℕ
after_data bytes = drop (data_length bytes) bytes

-- ---- outlines

pub record Outline : Type 0 where
  pub header : FrameHeader
  pub parameters : Parameters
  pub scans : List (List ℕ)

-- the identifiers of the components
abbrev pub ids_in : FrameHeader → List ℕ
ids_in header = take (components header.kind) header.ids

-- The data of the scan whose header was read, and the data of the scans of the components with these identifiers; then EOI.
unfoldable pub scans_at : List ℕ → List ℕ → Take (List (List ℕ))
scans_at [] bytes = end_at (after_data bytes) >>= λ rest. Ok (data_at bytes ∷ [], rest)
scans_at (id ∷ later) bytes = do
  rest ← next_scan_at id (after_data bytes)
  scans ← scans_at later rest
  Ok (data_at bytes ∷ scans.0, scans.1)

-- the bytes that are left
abbrev pub rest_of : {X : Type 0} → Take X → Result (List ℕ) StreamFault
rest_of (Ok found) = Ok found.1
rest_of (Err fault) = Err fault

-- the outline of the codestream at the front of bytes
unfoldable pub outline_at : List ℕ → Take Outline
outline_at bytes = do
  opening ← opening_at bytes
  scans ← scans_at (drop 1 (ids_in opening.0)) opening.2
  Ok (record { header = opening.0; parameters = opening.1; scans = scans.0 }, scans.1)

-- ---- where decoding stops

-- After the header of a component's scan: its data breaks, or the header of the next scan, or EOI, can't be read after it.
abbrev pub ScansStop : Parameters → ℕ → ℕ → ℕ → List ℕ → List ℕ → StreamFault → Type 0
ScansStop p width height component [] bytes fault =
    BreaksData p width height component (data_at bytes) (stop_at (after_data bytes)) fault
    ⊎ (IsPlaneData p width height (data_at bytes) × (end_at (after_data bytes) ≡ Err fault))
ScansStop p width height component (id ∷ later) bytes fault =
    BreaksData p width height component (data_at bytes) (stop_at (after_data bytes)) fault
    ⊎ (IsPlaneData p width height (data_at bytes) × ((next_scan_at id (after_data bytes) ≡ Err fault)
    ⊎ ((rest : List ℕ) × (next_scan_at id (after_data bytes) ≡ Ok rest) × ScansStop p width height (component + 1) later rest fault)))

-- Decoding stops before the data of the first scan, or from there on.
pub data DecodingStops (bytes : List ℕ) (fault : StreamFault) : Type 0 where
  at_opening : opening_at bytes ≡ Err fault → DecodingStops bytes fault
  at_scans : (header : FrameHeader) (p : Parameters) (rest : List ℕ) → opening_at bytes ≡ Ok (header, p, rest)
      → ScansStop p header.width header.height 0 (drop 1 (ids_in header)) rest fault → DecodingStops bytes fault

-- ---- the most bytes of a codestream

-- the fault if a byte is needed after the most bytes
abbrev pub past_most : StreamFault → StreamFault
past_most Truncated = TooLarge
past_most fault = fault

-- the fault of all bytes, given that of the first ones, no more than a codestream may have
abbrev pub fault_of : List ℕ → StreamFault → StreamFault
fault_of bytes fault = if nat_lt most_bytes (length bytes) then past_most fault else fault

-- The first fault of any bytes: that of the first of them, no more than a codestream may have; TooLarge stands for Truncated if there are
-- more.
abbrev pub IsFirstFault : List ℕ → StreamFault → Type 0
IsFirstFault bytes fault = (cause : StreamFault) × (fault ≡ fault_of bytes cause) × FirstFault (take most_bytes bytes) cause

-- what was read of the first bytes, with what is left of all bytes
abbrev pub of_all : {X : Type 0} → List ℕ → Take X → Take X
of_all bytes (Ok found) = Ok (found.0, found.1 ++ drop most_bytes bytes)
of_all bytes (Err fault) = Err (fault_of bytes fault)

-- the outline of the codestream at the front of any bytes
unfoldable pub outline_of : List ℕ → Take Outline
outline_of bytes = of_all bytes (outline_at (take most_bytes bytes))

-- ---- frames

-- these are the data of the picture's components from this one on
abbrev pub AreDataOf : Parameters → Picture → ℕ → List (List ℕ) → Type 0
AreDataOf p f component [] = Unit {0}
AreDataOf p f component (stuffed ∷ scans) = IsCoded p (plane_of f component) stuffed × AreDataOf p f (suc component) scans

-- an outline that fits this frame
pub record IsOutlineOf (f : Picture) (o : Outline) : Type 0 where
  pub kind : o.header.kind ≡ f.kind
  pub height : o.header.height ≡ f.height
  pub width : o.header.width ≡ f.width
  pub maxval : o.parameters.maxval ≡ f.maxval
  pub count : length o.scans ≡ components f.kind
  pub coded : AreDataOf o.parameters f 0 o.scans

-- ---- laws

-- If an outline is read, the front is a codestream of each frame that it fits, if it is no longer than a codestream may be.
abbrev pub OutlinesSpell : Type 0
OutlinesSpell = (bytes rest : List ℕ) (o : Outline) → AreBytes bytes → outline_at bytes ≡ Ok (o, rest)
    → (front : List ℕ) × (bytes ≡ front ++ rest) × ((f : Picture) → IsFrame f → IsOutlineOf f o → length front ≤ most_bytes → Spells front f)

-- The same for any bytes.
abbrev pub BoundedOutlinesSpell : Type 0
BoundedOutlinesSpell = (bytes rest : List ℕ) (o : Outline) → AreBytes bytes → outline_of bytes ≡ Ok (o, rest)
    → (front : List ℕ) × (bytes ≡ front ++ rest) × ((f : Picture) → IsFrame f → IsOutlineOf f o → Spells front f)

-- A codestream of a frame has an outline, whatever follows it, and the outline fits the frame.
abbrev pub SpellingsHaveOutlines : Type 0
SpellingsHaveOutlines = (front rest : List ℕ) (f : Picture) → Spells front f
    → (o : Outline) × (outline_at (front ++ rest) ≡ Ok (o, rest)) × IsOutlineOf f o

abbrev pub SpellingsHaveBoundedOutlines : Type 0
SpellingsHaveBoundedOutlines = (front rest : List ℕ) (f : Picture) → Spells front f
    → (o : Outline) × (outline_of (front ++ rest) ≡ Ok (o, rest)) × IsOutlineOf f o

-- Bytes without an outline break the grammar, with the fault of reading it.
abbrev pub OutlineFaultsBreak : Type 0
OutlineFaultsBreak = (bytes : List ℕ) (fault : StreamFault) → AreBytes bytes → outline_at bytes ≡ Err fault → Breaks bytes fault

-- The same for any bytes: the first of them break, no more than a codestream may have.
abbrev pub BoundedFaultsBreak : Type 0
BoundedFaultsBreak = (bytes : List ℕ) (fault : StreamFault) → AreBytes bytes → outline_of bytes ≡ Err fault
    → (cause : StreamFault) × (fault ≡ fault_of bytes cause) × Breaks (take most_bytes bytes) cause

-- The fault with which decoding stops is the first fault of the bytes.
abbrev pub StopsAreFirstFaults : Type 0
StopsAreFirstFaults = (bytes : List ℕ) (fault : StreamFault) → AreBytes bytes → DecodingStops bytes fault → FirstFault bytes fault

-- Decoding stops with the first fault of the bytes.
abbrev pub FirstFaultsAreStops : Type 0
FirstFaultsAreStops = (bytes : List ℕ) (fault : StreamFault) → AreBytes bytes → FirstFault bytes fault → DecodingStops bytes fault

-- Bytes have one first fault.
abbrev pub OneFirstFault : Type 0
OneFirstFault = (bytes : List ℕ) (fault other : StreamFault) → AreBytes bytes → IsFirstFault bytes fault → IsFirstFault bytes other → fault ≡ other
