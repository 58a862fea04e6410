-- Where decoding stops, in the form of the contracts.
use Rattle.std.proofs.Common.{◌≡◌, ℕ, List, refl}
use Rattle.ls_frame.specs.Parameters.{Parameters}
use Rattle.ls_bits.specs.declared.data.Stop.{Stop}
use Rattle.ls_bits.specs.declared.data.Stop.TheVariants.{Marker, End}
use Rattle.ls_bits.specs.declared.source.CodeFault.TheVariants.{OutOfBits, NotCanonical}
use Rattle.ls_bits.specs.Stuffing.{unstuff}
use Rattle.ls_stream.specs.declared.faults.StreamFault.{StreamFault}
use Rattle.ls_stream.specs.declared.decode.scan.ScanFault.{ScanFault}
use Rattle.ls_stream.specs.declared.decode.scan.ScanFault.TheVariants.{Code, LeftoverBits}
use Rattle.ls_stream.specs.View.FirstFaults.{BreaksData, wrong_code, marker_early, input_ends, leftover}
use Rattle.ls_stream.specs.View.Decoding.{ScanBreaks, fault_in}

-- ---- the data of a scan

pub breaks_data : (p : Parameters) (width height component : ℕ) (stuffed : List ℕ) (stop : Stop) (fault : ScanFault) (said : StreamFault)
    → ScanBreaks p width height (unstuff stuffed) fault → said ≡ fault_in component stop fault → BreaksData p width height component stuffed stop said
breaks_data p width height component stuffed Marker (Code OutOfBits) said breaks e = marker_early breaks refl e
breaks_data p width height component stuffed End (Code OutOfBits) said breaks e = input_ends breaks refl e
breaks_data p width height component stuffed stop (Code NotCanonical) said breaks e = wrong_code breaks e
breaks_data p width height component stuffed stop LeftoverBits said breaks e = leftover breaks e
