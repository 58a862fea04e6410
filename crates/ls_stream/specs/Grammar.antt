-- Which bytes are a codestream of a frame: those of T.87 (Annex C) with NEAR 0 and one scan for each component. In order: SOI; the frame
-- header, with miscellaneous segments before and after it; for each component a scan, which is its header, its data, and miscellaneous
-- segments after it; EOI. Any marker but SOI may have fill bytes before it.
use Rattle.std.specs.Prelude.{◌≡◌, ◌≢◌, ℕ, suc, ◌+◌, ◌-◌, ◌^◌, ◌<◌, ◌≤◌, nat_lt, Bool, true, false, IsTrue, if◌then◌else◌, List, [], ◌∷◌, ◌++◌, length, map, flat_map, replicate, Result, Ok, Err}
use Rattle.std.specs.List.{AllByRecursion}
use Rattle.ls_frame.specs.declared.presets.PresetFault.{PresetFault}
use Rattle.ls_frame.specs.declared.presets.PresetFault.TheVariants.{MaxvalRange}
use Rattle.ls_frame.specs.Picture.{Picture, IsFrame, components}
use Rattle.ls_frame.specs.Parameters.{Parameters, explicit_parameters}
use Rattle.ls_frame.specs.Tuning.{or_default, tuned}
use Rattle.ls_bits.specs.Bits.{AreBytes}
use Rattle.ls_bits.specs.Data.{IsData}
use Rattle.ls_bits.specs.Stuffing.{unstuff}
use Rattle.ls_stream.specs.declared.marker.Marker.{Marker}
use Rattle.ls_stream.specs.declared.marker.Marker.TheVariants.{StartOfImage, EndOfImage, StartOfScan, StartOfFrame, PresetParameters, Application, Comment, Other}
use Rattle.ls_stream.specs.Markers.{is_application, marker}
use Rattle.ls_stream.specs.Segments.{segment, Component, Header, header_contents, presets_contents, AreTwoByteFields, scan_contents}
use Rattle.ls_stream.specs.Planes.{Plane, plane_bits}
use Rattle.ls_stream.specs.Components.{plane_of}

-- ---- the bytes

-- fill bytes (T.81 B.1.1.2) before a marker
abbrev pub filled : ℕ → List ℕ → List ℕ
filled count bytes = replicate count 255 ++ bytes

-- A tables or miscellaneous segment (T.81 B.2.4), with the fill bytes before it: one that is skipped, or preset parameters.
pub data Miscellaneous : Type 0 where
  skipped : (fill : ℕ) → Marker → (contents : List ℕ) → Miscellaneous
  presets : (fill : ℕ) → Parameters → Miscellaneous

abbrev pub one_miscellaneous_bytes : Miscellaneous → List ℕ
one_miscellaneous_bytes (skipped fill m contents) = filled fill (segment m contents)
one_miscellaneous_bytes (presets fill p) = filled fill (segment PresetParameters (presets_contents p))

abbrev pub miscellaneous_bytes : List Miscellaneous → List ℕ
miscellaneous_bytes segments = flat_map one_miscellaneous_bytes segments

-- a scan: the fill bytes before its header, its data, and the miscellaneous segments after its data
pub record Scan : Type 0 where
  pub fill : ℕ
  pub stuffed : List ℕ
  pub after : List Miscellaneous

abbrev pub scan_bytes : Component → Scan → List ℕ
scan_bytes component scan = filled scan.fill (segment StartOfScan (scan_contents component.id)) ++ scan.stuffed ++ miscellaneous_bytes scan.after

-- a scan for each component, in the order of the frame header
abbrev pub scans_bytes : List Component → List Scan → List ℕ
scans_bytes [] scans = []
scans_bytes (component ∷ later) [] = []
scans_bytes (component ∷ later) (scan ∷ scans) = scan_bytes component scan ++ scans_bytes later scans

pub record Codestream : Type 0 where
  -- the miscellaneous segments before the frame header, and its fill bytes
  pub before : List Miscellaneous
  pub fill : ℕ
  pub header : Header
  -- those between the frame header and the first scan
  pub between : List Miscellaneous
  pub scans : List Scan
  -- the fill bytes before EOI
  pub last_fill : ℕ

unfoldable pub codestream_bytes : Codestream → List ℕ
codestream_bytes stream =
    marker StartOfImage ++ miscellaneous_bytes stream.before ++ filled stream.fill (segment StartOfFrame (header_contents stream.header))
    ++ miscellaneous_bytes stream.between ++ scans_bytes stream.header.components stream.scans ++ filled stream.last_fill (marker EndOfImage)

-- ---- what may come where

-- the markers whose segments are skipped: APPn and COM
abbrev pub is_skipped : Marker → Bool
is_skipped StartOfImage = false
is_skipped EndOfImage = false
is_skipped StartOfScan = false
is_skipped StartOfFrame = false
is_skipped PresetParameters = false
is_skipped (Application code) = is_application code
is_skipped Comment = true
is_skipped (Other code) = false

pub record IsSkipped (m : Marker) (contents : List ℕ) : Type 0 where
  pub marker_is : IsTrue (is_skipped m)
  pub short : 2 + length contents < 2 ^ 16

-- before the first scan, either kind may come
abbrev pub MayPrecedeScans : Miscellaneous → Type 0
MayPrecedeScans (skipped fill m contents) = IsSkipped m contents
MayPrecedeScans (presets fill p) = AreTwoByteFields p

-- after a scan, preset parameters may not
abbrev pub MayFollowScan : Miscellaneous → Type 0
MayFollowScan (skipped fill m contents) = IsSkipped m contents
MayFollowScan (presets fill p) = ⊥

-- ---- what they mean

-- the last preset parameters of these segments, or `p` if there are none
abbrev pub last_presets : Parameters → List Miscellaneous → Parameters
last_presets p [] = p
last_presets p (skipped fill m contents ∷ more) = last_presets p more
last_presets p (presets fill q ∷ more) = last_presets q more

-- no preset parameters: each is the default, as where 0 is written
abbrev pub no_presets : Parameters
no_presets = record { maxval = 0; t1 = 0; t2 = 0; t3 = 0; reset = 0 }

-- the default of MAXVAL: the greatest value of this number of bits
abbrev pub greatest_maxval : ℕ → ℕ
greatest_maxval precision = 2 ^ precision - 1

-- The coding parameters that result from a precision and the written preset parameters, where 0 stands for the default (T.87 C.2.4.1.1); or
-- the first fault that keeps them from being legal, that of MAXVAL first.
unfoldable pub parameters_of : ℕ → Parameters → Result Parameters PresetFault
parameters_of precision written =
    if nat_lt (greatest_maxval precision) written.maxval then Err MaxvalRange
    else explicit_parameters (tuned (record { t1 = written.t1; t2 = written.t2; t3 = written.t3; reset = written.reset })
    (or_default written.maxval (greatest_maxval precision)))

-- identifiers that are all different
abbrev pub AreApart : List ℕ → Type 0
AreApart [] = Unit {0}
AreApart (id ∷ ids) = AllByRecursion (λ other. other ≢ id) ids × AreApart ids

-- a frame header of this picture
pub record IsHeaderOf (f : Picture) (header : Header) : Type 0 where
  pub some_bits : 2 ≤ header.precision
  pub bits : header.precision ≤ 16
  pub height : header.height ≡ f.height
  pub width : header.width ≡ f.width
  pub count : length header.components ≡ components f.kind
  pub apart : AreApart (map (λ component. component.id) header.components)

-- data whose bits are those of a plane, followed by fewer than 16 more
pub record IsCoded (p : Parameters) (plane : Plane) (bytes : List ℕ) : Type 0 where
  pub is_data : IsData bytes
  pub more : List Bool
  pub few : length more < 16
  pub bits : unstuff bytes ≡ plane_bits p plane ++ more

-- the scans are those of the picture's components from this one on
abbrev pub AreCoded : Parameters → Picture → ℕ → List Scan → Type 0
AreCoded p f component [] = Unit {0}
AreCoded p f component (scan ∷ scans) = IsCoded p (plane_of f component) scan.stuffed × AreCoded p f (suc component) scans

-- a codestream of this picture, coded with these parameters
pub record Says (stream : Codestream) (p : Parameters) (f : Picture) : Type 0 where
  pub before : AllByRecursion MayPrecedeScans stream.before
  pub header : IsHeaderOf f stream.header
  pub between : AllByRecursion MayPrecedeScans stream.between
  pub parameters_are : parameters_of stream.header.precision (last_presets no_presets (stream.before ++ stream.between)) ≡ Ok p
  pub maxval : p.maxval ≡ f.maxval
  pub count : length stream.scans ≡ components f.kind
  pub coded : AreCoded p f 0 stream.scans
  pub after : AllByRecursion (λ scan. AllByRecursion MayFollowScan scan.after) stream.scans

-- the most bytes that a codestream may have
abbrev pub most_bytes : ℕ
most_bytes = 2 ^ 32 - 1

-- the bytes are a codestream of this frame
pub record Spells (bytes : List ℕ) (f : Picture) : Type 0 where
  pub frame : IsFrame f
  pub are_bytes : AreBytes bytes
  pub short : length bytes ≤ most_bytes
  pub codestream : Codestream
  pub spelled : bytes ≡ codestream_bytes codestream
  pub parameters : Parameters
  pub says : Says codestream parameters f
