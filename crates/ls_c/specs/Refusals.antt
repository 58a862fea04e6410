-- The statuses: 0 if a call did what it was asked to do, and a number for each refusal.
use Rattle.std.specs.Prelude.{ℕ, Option, None, Some, Result, Ok, Err}
use Rattle.ls_frame.specs.declared.presets.PresetFault.{PresetFault}
use Rattle.ls_frame.specs.declared.presets.PresetFault.TheVariants.{MaxvalRange, T1Range, T2Range, T3Range, ResetRange}
use Rattle.ls_stream.specs.declared.faults.StreamFault.{StreamFault}
use Rattle.ls_stream.specs.declared.faults.StreamFault.TheVariants.{Truncated, NotSoi, BadSegment, Unsupported, BadPresets, TooLarge, BadCode, LeftoverBits, NoMemory}
use Rattle.ls_stream.specs.declared.faults.What.{What}
use Rattle.ls_stream.specs.declared.faults.What.TheVariants as what
use Rattle.ls_c.specs.declared.form.JlsrecFault.{JlsrecFault}
use Rattle.ls_c.specs.declared.refusal.Refusal.{Refusal}
use Rattle.ls_c.specs.declared.refusal.Refusal.TheVariants as refusal

-- preset parameters to encode with
abbrev pub preset_number : PresetFault → ℕ
preset_number MaxvalRange = 6
preset_number T1Range = 10
preset_number T2Range = 11
preset_number T3Range = 12
preset_number ResetRange = 13

-- preset parameters of a codestream
abbrev pub stream_preset_number : PresetFault → ℕ
stream_preset_number MaxvalRange = 34
stream_preset_number T1Range = 35
stream_preset_number T2Range = 36
stream_preset_number T3Range = 37
stream_preset_number ResetRange = 38

abbrev pub what_number : What → ℕ
what_number (what.Marker code) = 23
what_number (what.Components count) = 24
what_number what.HeightZero = 25
what_number what.Sampling = 26
what_number what.Mapping = 27
what_number what.Near = 28
what_number what.Interleave = 29
what_number what.PointTransform = 30
what_number (what.LseId id) = 31
what_number what.LseLate = 32
what_number what.ScanOrder = 33

abbrev pub fault_number : StreamFault → ℕ
fault_number NoMemory = 1
fault_number Truncated = 20
fault_number NotSoi = 21
fault_number BadSegment = 22
fault_number (Unsupported what) = what_number what
fault_number (BadPresets fault) = stream_preset_number fault
fault_number TooLarge = 39
fault_number (BadCode component) = 40
fault_number (LeftoverBits component) = 41

abbrev pub number_of : Refusal → ℕ
number_of refusal.NoRoom = 2
number_of refusal.Components = 3
number_of refusal.Side = 4
number_of refusal.TooManySamples = 5
number_of refusal.Maxval = 6
number_of refusal.Stride = 7
number_of refusal.TooFewSamples = 8
number_of refusal.SampleTooLarge = 9
number_of (refusal.Preset fault) = preset_number fault
number_of refusal.NotEightBits = 14
number_of (refusal.Stream fault) = fault_number fault

abbrev pub status_of : Result (Unit {0}) Refusal → ℕ
status_of (Ok done) = 0
status_of (Err refusal) = number_of refusal

-- the status of a refusal, if there is one, else 0
abbrev pub status_by : Option Refusal → ℕ
status_by None = 0
status_by (Some refusal) = number_of refusal

-- ---- details

abbrev pub details : ℕ → ℕ → ℕ → JlsrecFault
details component marker number = record { component = component; marker = marker; number = number }

abbrev pub no_details : JlsrecFault
no_details = details 0 0 0

abbrev pub what_details : What → JlsrecFault
what_details (what.Marker code) = details 0 code 0
what_details (what.Components count) = details 0 0 count
what_details what.HeightZero = no_details
what_details what.Sampling = no_details
what_details what.Mapping = no_details
what_details what.Near = no_details
what_details what.Interleave = no_details
what_details what.PointTransform = no_details
what_details (what.LseId id) = details 0 0 id
what_details what.LseLate = no_details
what_details what.ScanOrder = no_details

-- the details of a fault, beside its status
abbrev pub details_of : StreamFault → JlsrecFault
details_of NoMemory = no_details
details_of Truncated = no_details
details_of NotSoi = no_details
details_of BadSegment = no_details
details_of (Unsupported what) = what_details what
details_of (BadPresets fault) = no_details
details_of TooLarge = no_details
details_of (BadCode component) = details component 0 0
details_of (LeftoverBits component) = details component 0 0
