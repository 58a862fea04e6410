-- Where a codestream may begin: SOI (T.81 B.2.1) and, right after it, a marker of this format's headers.
use Rattle.std.specs.Prelude.{ℕ, suc, ◌&&◌, ◌||◌, ◌==◌, Bool, false, if◌then◌else◌, List, [], ◌∷◌}
use Rattle.ls_stream.specs.declared.marker.Marker.TheVariants.{StartOfImage, StartOfFrame, PresetParameters, Comment}
use Rattle.ls_stream.specs.Markers.{code_of, is_application}

-- the byte before the code of each marker: FF; it may also stand before a marker as a fill byte (T.81 B.1.1.2)
abbrev pub ff : ℕ
ff = 255

-- what may follow SOI and FF: the codes of SOF55 (F7), LSE (F8), COM (FE) and APPn (E0 to EF); and FF, since the one before it may be a fill byte
abbrev pub may_follow_soi : ℕ → Bool
may_follow_soi code =
    (code == code_of StartOfFrame) || ((code == code_of PresetParameters) || ((code == code_of Comment) || ((code == ff) || is_application code)))

-- the bytes begin with a start: SOI, and then FF and such a code
unfoldable pub is_start : List ℕ → Bool
is_start [] = false
is_start (a ∷ []) = false
is_start (a ∷ b ∷ []) = false
is_start (a ∷ b ∷ c ∷ []) = false
is_start (a ∷ b ∷ c ∷ code ∷ bytes) = (a == ff) && ((b == code_of StartOfImage) && ((c == ff) && may_follow_soi code))

-- the number of bytes before the first start, or of all if there is none
unfoldable pub to_start : List ℕ → ℕ
to_start [] = 0
to_start (byte ∷ bytes) = if is_start (byte ∷ bytes) then 0 else suc (to_start bytes)

-- the number of bytes before the first start after the first byte
unfoldable pub to_next : List ℕ → ℕ
to_next [] = 0
to_next (byte ∷ bytes) = suc (to_start bytes)
