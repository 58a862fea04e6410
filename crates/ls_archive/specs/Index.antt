-- The index of a recording: a line for each codestream.
use Rattle.std.specs.Prelude.{ℕ, ◌+◌, Bool, true, false, List, [], ◌∷◌, ◌++◌, length, flat_map, decimal, codes}
use Rattle.hex.specs.Hex.{encode_lower}
use Rattle.sha2.specs.Sha256.{sha256}
use Rattle.ls_frame.specs.declared.frame.Kind.{Kind}
use Rattle.ls_frame.specs.Parameters.{Parameters}
use Rattle.ls_film.specs.Listing.{kind_text, column}

-- A codestream: its bytes, and what its headers say: the frame's form, bits per sample (P), and the coding parameters.
pub record Entry : Type 0 where
  pub bytes : List ℕ
  pub kind : Kind
  pub width : ℕ
  pub height : ℕ
  pub precision : ℕ
  pub parameters : Parameters

-- the codestreams, joined with nothing between them
abbrev pub joined : List Entry → List ℕ
joined entries = flat_map (λ entry. entry.bytes) entries

-- the numbers of a line after its kind: width, height, MAXVAL, P, T1, T2, T3, RESET
unfoldable pub columns : Entry → List ℕ
columns entry = let p = entry.parameters in
    entry.width ∷ entry.height ∷ p.maxval ∷ entry.precision ∷ p.t1 ∷ p.t2 ∷ p.t3 ∷ p.reset ∷ []

-- the SHA-256 of bytes (FIPS 180-4), in hexadecimal
unfoldable pub sum_text : List ℕ → List ℕ
sum_text bytes = encode_lower (sha256 bytes)

-- a blank and the sum; or nothing, without sums
abbrev pub sum_column : Bool → List ℕ → List ℕ
sum_column true bytes = codes " " ++ sum_text bytes
sum_column false bytes = []

-- the line of codestream n, which begins at this offset: number, offset, size in bytes, kind, and the columns
unfoldable pub line : Bool → ℕ → ℕ → Entry → List ℕ
line sums n offset entry =
    decimal n ++ column offset ++ column (length entry.bytes) ++ codes " " ++ kind_text entry.kind ++ flat_map column (columns entry)
    ++ sum_column sums entry.bytes ++ codes "\n"

-- the lines of codestreams numbered from n on, the first of which begins at this offset
abbrev pub lines_from : Bool → ℕ → ℕ → List Entry → List ℕ
lines_from sums n offset [] = []
lines_from sums n offset (entry ∷ entries) = line sums n offset entry ++ lines_from sums (n + 1) (offset + length entry.bytes) entries

-- the index of a recording
abbrev pub lines : Bool → List Entry → List ℕ
lines sums entries = lines_from sums 0 0 entries
