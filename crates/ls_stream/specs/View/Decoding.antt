-- How the planes that given bits may begin with grow fewer while the bits are read, until one plane is left, or none.
use Rattle.std.specs.Prelude.{◌≡◌, ◌⊎◌, ◌↔◌, ℕ, ◌+◌, ◌-◌, ◌*◌, ◌<◌, ◌≤◌, Bool, true, false, List, [], ◌++◌, length, slice_index, slice_index_or, pos}
use Rattle.ls_frame.specs.Parameters.{Parameters}
use Rattle.ls_coding.specs.View.SignedContexts.{half_context}
use Rattle.ls_coding.specs.Runs.{run_of, run_bits}
use Rattle.ls_coding.specs.View.States.{Coding, run_after}
use Rattle.ls_frame.specs.Picture.{Picture}
use Rattle.ls_stream.specs.declared.segments.read.FrameHeader.{FrameHeader}
use Rattle.ls_bits.specs.View.Plain.{Placed}
use Rattle.ls_bits.specs.declared.data.Stop.{Stop}
use Rattle.ls_bits.specs.declared.data.Stop.TheVariants.{Marker, End}
use Rattle.ls_bits.specs.declared.source.CodeFault.{CodeFault}
use Rattle.ls_bits.specs.declared.source.CodeFault.TheVariants.{OutOfBits, NotCanonical}
use Rattle.ls_stream.specs.declared.faults.StreamFault.{StreamFault}
use Rattle.ls_stream.specs.declared.faults.StreamFault.TheVariants as stream
use Rattle.ls_stream.specs.declared.decode.decoder.FoundRun.{FoundRun}
use Rattle.ls_stream.specs.declared.decode.row.Above.{Above}
use Rattle.ls_stream.specs.declared.decode.row.FromAbove.{FromAbove}
use Rattle.ls_stream.specs.declared.decode.scan.ScanFault.{ScanFault}
use Rattle.ls_stream.specs.declared.decode.scan.ScanFault.TheVariants.{Code, LeftoverBits}
use Rattle.ls_stream.specs.View.FirstFaults.{BreakInPlane, HaveLeftoverBits}
use Rattle.ls_stream.specs.Planes.{Plane, IsSamplePlane, at, left, Span, row_from, rows_from}
use Rattle.ls_stream.specs.Components.{component_plane}
use Rattle.ls_stream.specs.Grammar.{IsCoded}
use Rattle.ls_stream.specs.View.BitFaults.{BreaksSpans, BreaksRun}
use Rattle.ls_stream.specs.View.Coded.{bits_from}
use Rattle.ls_stream.specs.View.LineBuffers.{HoldsLine, ArePadded}

-- a plane of this width, with samples of at most maxval, that has a row i
pub record HasSampleRow (maxval width : ℕ) (plane : Plane) (i : ℕ) : Type 0 where
  pub width_is : plane.width ≡ width
  pub whole : (i + 1) * plane.width ≤ length plane.samples
  pub small : (k : ℕ) → slice_index plane.samples k ≤ maxval

-- ---- in a row

-- how far a row is read: the next column, the row's buffer, the state of the coding, and the bits that are left
pub record Place : Type 0 where
  pub column : ℕ
  pub line : List ℕ
  pub state : Coding
  pub bits : List Bool

abbrev pub place : ℕ → List ℕ → Coding → List Bool → Place
place column line state bits = record { column = column; line = line; state = state; bits = bits }

-- Row i of a plane may be the row that is read: one buffer holds its samples before the column, the other the line above it; and the bits
-- that are left are those of its spans from the column on, those of the spans in `more`, and the rest.
pub record MayBeRead (plane : Plane) (i : ℕ) (above : List ℕ) (at_place : Place) (more : List Span) (rest : List Bool) : Type 0 where
  pub over : HoldsLine plane i above
  pub first : slice_index at_place.line 0 ≡ left plane i 0
  pub before : (c : ℕ) → c < at_place.column → slice_index at_place.line (c + 1) ≡ at plane i c
  pub bits_are : at_place.bits ≡ bits_from plane (row_from plane i at_place.column ++ more) at_place.state ++ rest

-- the same planes, with the same row, may be what is read at either place
abbrev pub AreSamePlanes : ℕ → ℕ → List ℕ → Place → Place → Type 0
AreSamePlanes maxval width above one other =
    (plane : Plane) (i : ℕ) → HasSampleRow maxval width plane i → (more : List Span) (rest : List Bool)
    → MayBeRead plane i above one more rest ↔ MayBeRead plane i above other more rest

-- no plane's row may be what is read
abbrev pub IsNoPlane : ℕ → ℕ → List ℕ → Place → Type 0
IsNoPlane maxval width above one =
    (plane : Plane) (i : ℕ) → HasSampleRow maxval width plane i → (more : List Span) (rest : List Bool)
    → MayBeRead plane i above one more rest → ⊥

-- a buffer holds row i of a plane up to a column, and the other the line above it
pub record HoldsRowTo (plane : Plane) (i : ℕ) (above line : List ℕ) (column : ℕ) : Type 0 where
  pub over : HoldsLine plane i above
  pub first : slice_index line 0 ≡ left plane i 0
  pub before : (c : ℕ) → c < column → slice_index line (c + 1) ≡ at plane i c

-- The row was read from one place to another, and a fault of the bits that are left at the second is one of the bits that are left at the
-- first.
pub record BreaksLater (maxval width : ℕ) (above : List ℕ) (one other : Place) : Type 0 where
  pub on : one.column ≤ other.column
  pub kept : (k : ℕ) → k ≤ one.column → slice_index other.line k ≡ slice_index one.line k
  pub later : (plane : Plane) (i : ℕ) → HasSampleRow maxval width plane i → HoldsRowTo plane i above other.line other.column → (more : List Span) (fault : CodeFault)
      → BreaksSpans plane (row_from plane i other.column ++ more) other.state other.bits fault
      → BreaksSpans plane (row_from plane i one.column ++ more) one.state one.bits fault

-- From this place on the bits break with this fault, in each plane whose row up to some column is in the buffer.
pub record BreaksFrom (maxval width : ℕ) (above : List ℕ) (one : Place) (fault : CodeFault) : Type 0 where
  pub column : ℕ
  pub line : List ℕ
  pub inside : column < width
  pub on : one.column ≤ column
  pub kept : (k : ℕ) → k ≤ one.column → slice_index line k ≡ slice_index one.line k
  pub small : (k : ℕ) → slice_index line k ≤ maxval
  pub breaks : (plane : Plane) (i : ℕ) → HasSampleRow maxval width plane i → HoldsRowTo plane i above line column → (more : List Span)
      → BreaksSpans plane (row_from plane i one.column ++ more) one.state one.bits fault

-- The row was read from one place to another: the same planes may be what is read at either, whatever follows, and a fault of the bits that
-- are left at the second is one of the bits that are left at the first. The buffer has samples, its first place is unchanged, and no run is
-- interrupted.
pub record ReadsOn (width : ℕ) (above : List ℕ) (one other : Place) : Type 0 where
  pub same : AreSamePlanes one.state.parameters.maxval width above one other
  pub later : BreaksLater one.state.parameters.maxval width above one other
  pub lines : ArePadded other.state.parameters.maxval width above other.line
  pub first : slice_index other.line 0 ≡ slice_index one.line 0
  pub uninterrupted : other.state.interrupted ≡ false
  pub parameters : other.state.parameters ≡ one.state.parameters

-- The row can't be read on from this place: the bits that are left are those of no plane, and break with this fault.
pub record ReadsNoFurther (width : ℕ) (above : List ℕ) (one : Place) (fault : CodeFault) : Type 0 where
  pub none : IsNoPlane one.state.parameters.maxval width above one
  pub breaks : BreaksFrom one.state.parameters.maxval width above one fault

-- ---- in a scan

-- the first `rows` rows of a plane are among the samples, in the places of one of `count` components
abbrev pub HoldsRows : Plane → ℕ → ℕ → ℕ → List ℕ → Type 0
HoldsRows plane rows count component samples =
    (i j : ℕ) → i < rows → j < plane.width → slice_index samples ((i * plane.width + j) * count + component) ≡ at plane i j

-- a plane may be the one that is read: its rows before `row` are among the samples, and the bits that are left are those of the other rows
-- and the rest
pub record RowsMayBeRead (plane : Plane) (height row count component : ℕ) (samples : List ℕ) (state : Coding) (bits rest : List Bool) : Type 0 where
  pub rows : HoldsRows plane row count component samples
  pub bits_are : bits ≡ bits_from plane (rows_from plane (height - row) row) state ++ rest

-- ---- the calls on the way

-- the sample to the left of a column is copied into each column from it up to `end`, and each other place is unchanged or has it too
pub record AreRepeated (old : List ℕ) (column end : ℕ) (new : List ℕ) : Type 0 where
  pub whole : length new ≡ length old
  pub inside : (c : ℕ) → column ≤ c → c < end → slice_index new (c + 1) ≡ slice_index old column
  pub before : (k : ℕ) → k ≤ column → slice_index new k ≡ slice_index old k
  pub others : (k : ℕ) → (slice_index new k ≡ slice_index old k) ⊎ (slice_index new k ≡ slice_index old column)

-- what the line above decides of a column's sample: half of its context, and how much Rb is over Rc, or under it
pub record IsAbove (p : Parameters) (above : List ℕ) (j : ℕ) (from : FromAbove) : Type 0 where
  pub half_is : from.half ≡ half_context p (slice_index above (j + 1)) (slice_index above j) (slice_index above (j + 2))
  pub rise_is : from.rise ≡ slice_index above (j + 1) - slice_index above j
  pub fall_is : from.fall ≡ slice_index above j - slice_index above (j + 1)

-- the entry of a block at a place
abbrev pub from_above : Above → ℕ → FromAbove
from_above block place = record {
  half = slice_index_or block.halves place (pos 0);
  rise = slice_index block.rises place;
  fall = slice_index block.falls place;
}

-- the block is that of the samples from a column up to another
abbrev pub AreAbove : Parameters → ℕ → ℕ → List ℕ → Above → Type 0
AreAbove p start end above block = (j : ℕ) → start ≤ j → j < end → IsAbove p above j (from_above block (j - start))

-- a scan that is being read: the state of its coding, the bits that are left, and their source
pub record Unread : Type 0 where
  pub state : Coding
  pub bits : List Bool
  pub source : Placed

-- a run of `count` samples, with `left` in the line: it has all of them if it ends with the line, and fewer if a sample interrupts it
pub record EndsInLine (left count : ℕ) (interrupted : Bool) : Type 0 where
  pub full : interrupted ≡ false → count ≡ left
  pub short : interrupted ≡ true → count < left

-- A run is read, with `left` samples in the line: its bits are before those that are left, and no other run's are.
pub record ReadsRun (left : ℕ) (old new : Unread) (run : FoundRun) : Type 0 where
  pub within : EndsInLine left run.count run.interrupted
  pub bits : old.bits ≡ run_bits old.state.run_index (run_of run.count run.interrupted) ++ new.bits
  pub state : new.state ≡ run_after old.state (run_of run.count run.interrupted)
  pub only : (count : ℕ) (interrupted : Bool) (rest : List Bool) → EndsInLine left count interrupted
      → old.bits ≡ run_bits old.state.run_index (run_of count interrupted) ++ rest
      → (count ≡ run.count) × (interrupted ≡ run.interrupted) × (rest ≡ new.bits)

-- no run can be read: the bits begin with those of none, and break with this fault
pub record ReadsNoRun (left : ℕ) (old : Unread) (fault : CodeFault) : Type 0 where
  pub none : (count : ℕ) (interrupted : Bool) (rest : List Bool) → EndsInLine left count interrupted
      → old.bits ≡ run_bits old.state.run_index (run_of count interrupted) ++ rest → ⊥
  pub breaks : BreaksRun old.state.run_index left old.bits fault

-- what the fault of a scan means for its bits
abbrev pub ScanBreaks : Parameters → ℕ → ℕ → List Bool → ScanFault → Type 0
ScanBreaks p width height bits (Code fault) = BreakInPlane p width height bits fault
ScanBreaks p width height bits LeftoverBits = HaveLeftoverBits p width height bits

-- the fault to report for a fault of a component's scan, by what ends its data
abbrev pub end_fault : ℕ → Stop → StreamFault
end_fault component Marker = stream.BadCode component
end_fault component End = stream.Truncated

abbrev pub code_fault : ℕ → Stop → CodeFault → StreamFault
code_fault component stop OutOfBits = end_fault component stop
code_fault component stop NotCanonical = stream.BadCode component

abbrev pub fault_in : ℕ → Stop → ScanFault → StreamFault
fault_in component stop (Code fault) = code_fault component stop fault
fault_in component stop LeftoverBits = stream.LeftoverBits component

-- ---- in a frame

-- the data of a component's scan
abbrev pub scan_in : List (List ℕ) → ℕ → List ℕ
scan_in scans component = slice_index_or scans component []

-- the scans' data are those of all components among these samples, and those of no other plane
pub record AreScansOf (p : Parameters) (width height count : ℕ) (samples : List ℕ) (scans : List (List ℕ)) : Type 0 where
  pub all : length scans ≡ count
  pub coded : (i : ℕ) → i < count → IsCoded p (component_plane width count i samples) (scan_in scans i)
  pub only : (i : ℕ) (plane : Plane) → i < count → IsSamplePlane p.maxval width height plane → IsCoded p plane (scan_in scans i)
      → plane ≡ component_plane width count i samples

-- no planes have these scans
abbrev pub NoScans : Parameters → ℕ → ℕ → ℕ → List (List ℕ) → Type 0
NoScans p width height count scans =
    (planes : ℕ → Plane) → ((i : ℕ) → i < count → IsSamplePlane p.maxval width height (planes i))
    → ((i : ℕ) → i < count → IsCoded p (planes i) (scan_in scans i)) → ⊥

-- the picture of a frame header, with this maxval and these samples
abbrev pub picture : FrameHeader → ℕ → List ℕ → Picture
picture header maxval samples = record { kind = header.kind; width = header.width; height = header.height; maxval = maxval; samples = samples }
