-- Which refusal each status stands for.
use Rattle.std.proofs.Common.{◌≡◌, ◌≢◌, ◌⊎◌, ◌<◌, ◌≤◌, inl, inr, refl, ap, arith}
use Rattle.ls_frame.specs.declared.presets.PresetFault.{PresetFault}
use Rattle.ls_frame.specs.declared.presets.PresetFault.TheVariants as preset
use Rattle.ls_stream.specs.declared.faults.StreamFault.{StreamFault}
use Rattle.ls_stream.specs.declared.faults.StreamFault.TheVariants as stream
use Rattle.ls_stream.specs.declared.faults.What.{What}
use Rattle.ls_stream.specs.declared.faults.What.TheVariants as what
use Rattle.ls_c.specs.declared.refusal.Refusal.{Refusal}
use Rattle.ls_c.specs.declared.refusal.Refusal.TheVariants as refusal
use Rattle.ls_c.specs.Refusals.{preset_number, stream_preset_number, what_number, fault_number, number_of}

what_above : (w : What) → 20 ≤ what_number w
what_above (what.Marker code) = omega arith
what_above (what.Components count) = omega arith
what_above what.HeightZero = omega arith
what_above what.Sampling = omega arith
what_above what.Mapping = omega arith
what_above what.Near = omega arith
what_above what.Interleave = omega arith
what_above what.PointTransform = omega arith
what_above (what.LseId id) = omega arith
what_above what.LseLate = omega arith
what_above what.ScanOrder = omega arith

stream_preset_above : (fault : PresetFault) → 20 ≤ stream_preset_number fault
stream_preset_above preset.MaxvalRange = omega arith
stream_preset_above preset.T1Range = omega arith
stream_preset_above preset.T2Range = omega arith
stream_preset_above preset.T3Range = omega arith
stream_preset_above preset.ResetRange = omega arith

pub fault_above : (fault : StreamFault) → (fault ≡ stream.NoMemory) ⊎ (20 ≤ fault_number fault)
fault_above stream.NoMemory = inl refl
fault_above stream.Truncated = inr (omega arith)
fault_above stream.NotSoi = inr (omega arith)
fault_above stream.BadSegment = inr (omega arith)
fault_above (stream.Unsupported w) = inr (what_above w)
fault_above (stream.BadPresets fault) = inr (stream_preset_above fault)
fault_above stream.TooLarge = inr (omega arith)
fault_above (stream.BadCode component) = inr (omega arith)
fault_above (stream.LeftoverBits component) = inr (omega arith)

pub preset_above : (fault : PresetFault) → 3 ≤ preset_number fault
preset_above preset.MaxvalRange = omega arith
preset_above preset.T1Range = omega arith
preset_above preset.T2Range = omega arith
preset_above preset.T3Range = omega arith
preset_above preset.ResetRange = omega arith

pub fault_some : (fault : StreamFault) → 0 < fault_number fault
fault_some fault = elim (fault_above fault) [ inl e ↦ omega (arith, ap fault_number e) | inr above ↦ omega arith ]

pub fault_not_two : (fault : StreamFault) → fault_number fault ≢ 2
fault_not_two fault = λ two. elim (fault_above fault) [ inl e ↦ absurd (omega (arith, ap fault_number e)) | inr above ↦ absurd (omega arith) ]

pub number_some : (r : Refusal) → 0 < number_of r
number_some refusal.NoRoom = omega arith
number_some refusal.Components = omega arith
number_some refusal.Side = omega arith
number_some refusal.TooManySamples = omega arith
number_some refusal.Maxval = omega arith
number_some refusal.Stride = omega arith
number_some refusal.TooFewSamples = omega arith
number_some refusal.SampleTooLarge = omega arith
number_some (refusal.Preset fault) = omega (arith, preset_above fault)
number_some refusal.NotEightBits = omega arith
number_some (refusal.Stream fault) = fault_some fault

pub two_is_no_room : (r : Refusal) → number_of r ≡ 2 → r ≡ refusal.NoRoom
two_is_no_room refusal.NoRoom two = refl
two_is_no_room refusal.Components two = absurd (omega arith)
two_is_no_room refusal.Side two = absurd (omega arith)
two_is_no_room refusal.TooManySamples two = absurd (omega arith)
two_is_no_room refusal.Maxval two = absurd (omega arith)
two_is_no_room refusal.Stride two = absurd (omega arith)
two_is_no_room refusal.TooFewSamples two = absurd (omega arith)
two_is_no_room refusal.SampleTooLarge two = absurd (omega arith)
two_is_no_room (refusal.Preset fault) two = absurd (omega (arith, preset_above fault))
two_is_no_room refusal.NotEightBits two = absurd (omega arith)
two_is_no_room (refusal.Stream fault) two = absurd (fault_not_two fault two)
