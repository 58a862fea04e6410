-- What a check of a recording by its index finds: for each line of the index, whether its codestream stands at the offset that the line
-- says and is unchanged.
use Rattle.std.specs.Prelude.{◌≡◌, ◌≢◌, ◌⊎◌, ℕ, ◌+◌, ◌<◌, ◌≤◌, ◌^◌, Bool, List, [], ◌∷◌, ◌++◌, length, take, drop, flat_map, decimal, codes, Option, None, Some}
use Rattle.std.specs.List.{AllByRecursion}
use Rattle.hex.specs.Hex.{encode_lower, IsBytes}
use Rattle.ls_frame.specs.declared.frame.Kind.{Kind}
use Rattle.ls_film.specs.Listing.{kind_text, column}
use Rattle.ls_frame.specs.Picture.{Picture}
use Rattle.ls_stream.specs.Grammar.{Spells, most_bytes}
use Rattle.ls_stream.specs.View.Outlines.{IsFirstFault}
use Rattle.ls_archive.specs.Index.{Entry, line}
use Rattle.ls_archive.specs.View.Entries.{IsEntry}
use Rattle.ls_archive.specs.declared.checking.Damage.{Damage}
use Rattle.ls_archive.specs.declared.checking.Damage.TheVariants.{Truncated, Changed, Fault}
use Rattle.ls_archive.specs.declared.checking.Finding.{Finding}

-- ---- lines

-- A line of an index: its text with its LF, the size that it says for its codestream, in bytes, and the codestream's SHA-256, if it says
-- one.
pub record Line : Type 0 where
  pub text : List ℕ
  pub size : ℕ
  pub sum : Option (List ℕ)

-- none of these bytes is LF
abbrev pub HasNoLineFeed : List ℕ → Type 0
HasNoLineFeed bytes = AllByRecursion (λ byte. byte ≢ 10) bytes

-- the beginning of the line of codestream n, which begins at this offset and has this size
abbrev pub beginning : ℕ → ℕ → ℕ → List ℕ
beginning n offset size = decimal n ++ (column offset ++ (column size ++ codes " "))

-- this number of 16-bit numbers
abbrev pub AreNumbers : ℕ → List ℕ → Type 0
AreNumbers count numbers = (length numbers ≡ count) × AllByRecursion (λ number. number < 2 ^ 16) numbers

-- the end, or a blank and what follows it
abbrev pub EndsColumn : List ℕ → Type 0
EndsColumn text = (text ≡ []) ⊎ ((more : List ℕ) × (text ≡ codes " " ++ more))

-- a SHA-256, if there is one
abbrev pub IsSum : Option (List ℕ) → Type 0
IsSum None = Unit {0}
IsSum (Some sum) = (length sum ≡ 32) × IsBytes sum

-- a blank and the sum in hexadecimal, in lower case; or nothing, without a sum
abbrev pub sum_at_end : Option (List ℕ) → List ℕ
sum_at_end None = []
sum_at_end (Some sum) = codes " " ++ encode_lower sum

-- What follows the beginning of a line: the kind, eight numbers, and this sum, or nothing.
pub record AreColumns (text : List ℕ) (sum : Option (List ℕ)) : Type 0 where
  pub kind : Kind
  pub numbers : List ℕ
  pub are : AreNumbers 8 numbers
  pub is_sum : IsSum sum
  pub text_is : text ≡ kind_text kind ++ (flat_map column numbers ++ sum_at_end sum)

-- The line of codestream n, which begins at this offset, in the form of an index: its beginning, its columns, and LF. The size that it says
-- is at most that of a codestream.
pub record IsLine (n offset : ℕ) (l : Line) : Type 0 where
  pub few : l.size ≤ most_bytes
  pub rest : List ℕ
  pub columns : AreColumns rest l.sum
  pub text_is : l.text ≡ (beginning n offset l.size ++ rest) ++ codes "\n"
  pub one : HasNoLineFeed (beginning n offset l.size ++ rest)
  pub short : length l.text ≤ 1024

-- The lines of codestreams numbered from n on; the first begins at this offset, and each other where the one before it ends.
abbrev pub AreLines : ℕ → ℕ → List Line → Type 0
AreLines n offset [] = Unit {0}
AreLines n offset (l ∷ ls) = IsLine n offset l × AreLines (n + 1) (offset + l.size) ls

-- the lines' bytes, one after the other
abbrev pub texts : List Line → List ℕ
texts [] = []
texts (l ∷ ls) = l.text ++ texts ls

-- ---- codestreams

-- The bytes are a codestream that is complete by its markers and headers.
abbrev pub HasEntry : List ℕ → Type 0
HasEntry bytes = (entry : Entry) × IsEntry entry × (entry.bytes ≡ bytes)

-- The bytes have an entry, and the text is its line as number n, with their sum or without.
pub record HasLine (n offset : ℕ) (text bytes : List ℕ) : Type 0 where
  pub entry : Entry
  pub is_entry : IsEntry entry
  pub bytes_are : entry.bytes ≡ bytes
  pub sums : Bool
  pub text_is : text ≡ line sums n offset entry

-- The bytes are the codestream of line n: they have exactly that line, and are a codestream of a frame.
pub record IsGood (n offset : ℕ) (text bytes : List ℕ) : Type 0 where
  pub has : HasLine n offset text bytes
  pub frame : Picture
  pub spells : Spells bytes frame

-- What is wrong with the bytes at the offset of line n: they don't have that line, and are fewer than it says, or not fewer; or they have
-- it, and this is the first fault of decoding them.
abbrev pub IsDamage : ℕ → ℕ → Line → List ℕ → Damage → Type 0
IsDamage n offset l bytes Truncated = (HasLine n offset l.text bytes → ⊥) × (length bytes < l.size)
IsDamage n offset l bytes Changed = (HasLine n offset l.text bytes → ⊥) × (l.size ≤ length bytes)
IsDamage n offset l bytes (Fault fault) = HasLine n offset l.text bytes × IsFirstFault bytes fault

-- A finding on line n, whose codestream should begin at this offset, where these bytes stand.
pub record IsOf (n offset : ℕ) (l : Line) (bytes : List ℕ) (finding : Finding) : Type 0 where
  pub number : finding.number ≡ n
  pub place : finding.place ≡ offset
  pub count : finding.count ≡ l.size
  pub sum : finding.sum ≡ l.sum
  pub damage : IsDamage n offset l bytes finding.damage

-- For these lines, of which the first has number n and says this offset, the codestreams in the bytes are good except for the findings.
abbrev pub AreFound : ℕ → ℕ → List Line → List ℕ → List Finding → Type 0
AreFound n offset [] bytes findings = findings ≡ []
AreFound n offset (l ∷ ls) bytes findings =
    (IsGood n offset l.text (take l.size bytes) × AreFound (n + 1) (offset + l.size) ls (drop l.size bytes) findings)
    ⊎ ((finding : Finding) × (more : List Finding) × (findings ≡ finding ∷ more) × IsOf n offset l (take l.size bytes) finding
    × (IsGood n offset l.text (take l.size bytes) → ⊥) × AreFound (n + 1) (offset + l.size) ls (drop l.size bytes) more)

-- the total size that the lines say, in bytes
abbrev pub size_of : List Line → ℕ
size_of [] = 0
size_of (l ∷ ls) = l.size + size_of ls
