-- Markers (T.87 Table C.1; T.81 Table B.1), as a reader of codestreams tells them apart.
use Rattle.std.specs.Prelude.{◌≡◌, ◌≢◌, ℕ, ◌&&◌, ◌==◌, nat_le, Bool, if◌then◌else◌, List, [], ◌∷◌}
use Rattle.ls_stream.specs.declared.marker.Marker.{Marker}
use Rattle.ls_stream.specs.declared.marker.Marker.TheVariants.{StartOfImage, EndOfImage, StartOfScan, StartOfFrame, PresetParameters, Application, Comment, Other}

-- the byte after FF, which identifies the marker
abbrev pub code_of : Marker → ℕ
code_of StartOfImage = 216
code_of EndOfImage = 217
code_of StartOfScan = 218
code_of StartOfFrame = 247
code_of PresetParameters = 248
code_of (Application code) = code
code_of Comment = 254
code_of (Other code) = code

-- whether this is the code of one of APP0 to APP15: E0 to EF
abbrev pub is_application : ℕ → Bool
is_application code = nat_le 224 code && nat_le code 239

-- the marker of a code
abbrev pub marker_of : ℕ → Marker
marker_of code =
    if code == 216 then StartOfImage
    else (if code == 217 then EndOfImage
    else (if code == 218 then StartOfScan
    else (if code == 247 then StartOfFrame
    else (if code == 248 then PresetParameters
    else (if is_application code then Application code
    else (if code == 254 then Comment
    else Other code))))))

-- The marker is that of its code, and the code is neither 0 nor FF (T.81 B.1.1.2).
pub record IsMarker (m : Marker) : Type 0 where
  pub back : marker_of (code_of m) ≡ m
  pub some : code_of m ≢ 0
  pub other : code_of m ≢ 255

abbrev pub marker : Marker → List ℕ
marker m = 255 ∷ code_of m ∷ []
