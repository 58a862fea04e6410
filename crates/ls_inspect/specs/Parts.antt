-- The parts of a codestream after SOI, as their markers tell them: segments, headers of scans, and EOI.
use Rattle.std.specs.Prelude.{ℕ, List, Option, None, Some, Ok, Err}
use Rattle.ls_stream.specs.declared.faults.StreamFault.TheVariants.{Unsupported}
use Rattle.ls_stream.specs.declared.faults.What.TheVariants as what
use Rattle.ls_stream.specs.declared.marker.Marker.{Marker}
use Rattle.ls_stream.specs.declared.marker.Marker.TheVariants.{StartOfImage, EndOfImage, StartOfScan, StartOfFrame, PresetParameters, Application, Comment, Other}
use Rattle.ls_stream.specs.Markers.{code_of}
use Rattle.ls_stream.specs.View.Reading.{◌>>=◌, Take, marker_at, contents_at}
use Rattle.ls_inspect.specs.declared.markers.Part.{Part}
use Rattle.ls_inspect.specs.declared.markers.Part.TheVariants.{Segment, Scan, End}

-- the part that a marker begins, if it is supported there
abbrev pub part_of : Marker → Option Part
part_of StartOfImage = None
part_of EndOfImage = Some End
part_of StartOfScan = Some Scan
part_of StartOfFrame = Some Segment
part_of PresetParameters = Some Segment
part_of (Application code) = Some Segment
part_of Comment = Some Segment
part_of (Other code) = None

-- what comes after a marker with this code: a segment, whose contents aren't examined, or nothing after EOI
abbrev pub part_by : Option Part → ℕ → List ℕ → Take Part
part_by None code bytes = Err (Unsupported (what.Marker code))
part_by (Some Segment) code bytes = contents_at bytes >>= λ contents. Ok (Segment, contents.1)
part_by (Some Scan) code bytes = contents_at bytes >>= λ contents. Ok (Scan, contents.1)
part_by (Some End) code bytes = Ok (End, bytes)

unfoldable pub part_at : List ℕ → Take Part
part_at bytes = marker_at bytes >>= λ next. part_by (part_of next.0) (code_of next.0) next.1
