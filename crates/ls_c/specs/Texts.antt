-- The text of each status, in English.
use Rattle.std.specs.Prelude.{ℕ, ◌+◌, ◌/◌, ◌%◌, ◌==◌, ◌||◌, nat_lt, if◌then◌else◌, List, [], ◌∷◌, ◌++◌, slice_index_or, codes, decimal}
use Rattle.ls_c.specs.declared.form.JlsrecFault.{JlsrecFault}

-- ---- words

-- of a number that is no status, and of a detail that no fault has
abbrev pub unknown : List ℕ
unknown = codes "unknown status"

-- Of the statuses from 0 on, up to the detail that some of them give. No call returns 16 to 19.
abbrev pub words : List (List ℕ)
words =
    codes "done"
    ∷ codes "no memory"
    ∷ codes "no room"
    ∷ codes "neither 1 nor 3 components"
    ∷ codes "a side isn't 1 to 65535"
    ∷ codes "over 2^28 samples"
    ∷ codes "maxval isn't 1 to 65535"
    ∷ codes "the stride is less than a row or splits a sample"
    ∷ codes "fewer samples than the form asks for"
    ∷ codes "a sample is over maxval"
    ∷ codes "bad presets: T1"
    ∷ codes "bad presets: T2"
    ∷ codes "bad presets: T3"
    ∷ codes "bad presets: RESET"
    ∷ codes "maxval is over 255"
    ∷ codes "not strict"
    ∷ unknown ∷ unknown ∷ unknown ∷ unknown
    ∷ codes "truncated"
    ∷ codes "no SOI"
    ∷ codes "bad segment"
    ∷ codes "unsupported: marker "
    ∷ codes "unsupported: "
    ∷ codes "unsupported: height 0"
    ∷ codes "unsupported: sampling"
    ∷ codes "unsupported: mapping table"
    ∷ codes "unsupported: near-lossless"
    ∷ codes "unsupported: interleave"
    ∷ codes "unsupported: point transform"
    ∷ codes "unsupported: LSE "
    ∷ codes "unsupported: LSE after a scan"
    ∷ codes "unsupported: scan order"
    ∷ codes "bad presets: maxval"
    ∷ codes "bad presets: T1"
    ∷ codes "bad presets: T2"
    ∷ codes "bad presets: T3"
    ∷ codes "bad presets: RESET"
    ∷ codes "too large"
    ∷ codes "bad code in component "
    ∷ codes "leftover bits in component "
    ∷ []

unfoldable pub words_of : ℕ → List ℕ
words_of status = slice_index_or words status unknown

-- ---- details

-- the detail that the text of a status gives, if it gives one
abbrev pub detail_of : ℕ → JlsrecFault → ℕ
detail_of status fault =
    if status == 23 then fault.marker
    else (if status == 24 || status == 31 then fault.number
    else (if status == 40 || status == 41 then fault.component
    else 0))

-- a hexadecimal digit, in lower case
abbrev pub digit : ℕ → ℕ
digit n = if nat_lt n 10 then 48 + n else 87 + n

-- a byte in hexadecimal
abbrev pub hexadecimal : ℕ → List ℕ
hexadecimal byte = digit (byte / 16) ∷ digit (byte % 16) ∷ []

-- what follows the words of a status with this detail
abbrev pub detail_text : ℕ → ℕ → List ℕ
detail_text status detail =
    if status == 23 then hexadecimal detail
    else (if status == 24 then decimal detail ++ codes " components"
    else (if status == 31 || status == 40 || status == 41 then decimal detail
    else []))

-- ---- texts

-- The text of a status and the details of its fault. No fault has a detail over 255.
abbrev pub text_of : ℕ → JlsrecFault → List ℕ
text_of status fault =
    if nat_lt 255 (detail_of status fault) then unknown
    else words_of status ++ detail_text status (detail_of status fault)
