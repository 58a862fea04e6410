-- Codestreams with exactly the data that encoding gives. The grammar lets fewer than 16 bits of any value follow those of a component's
-- samples (`IsCoded`). Encoding adds none: it fills up the last byte with 0.
use Rattle.std.specs.Prelude.{◌≡◌, ◌≢◌, ℕ, suc, List, [], ◌∷◌, ◌++◌, length}
use Rattle.ls_frame.specs.Picture.{Picture}
use Rattle.ls_frame.specs.Parameters.{Parameters}
use Rattle.ls_bits.specs.Stuffing.{stuff}
use Rattle.ls_stream.specs.Planes.{plane_bits}
use Rattle.ls_stream.specs.Components.{plane_of}
use Rattle.ls_stream.specs.Grammar.{Scan, Spells}

-- the scans of the components from this one on have their bits, stuffed, as data, and no others
abbrev pub AreExact : Parameters → Picture → ℕ → List Scan → Type 0
AreExact p f component [] = Unit {0}
AreExact p f component (scan ∷ scans) = (scan.stuffed ≡ stuff (plane_bits p (plane_of f component))) × AreExact p f (suc component) scans

-- The bytes are a codestream of this frame, and the data of each scan are those that encoding it with the same parameters gives.
pub record SpellsStrictly (bytes : List ℕ) (f : Picture) : Type 0 where
  pub spells : Spells bytes f
  pub exact : AreExact spells.parameters f 0 spells.codestream.scans

-- They are a codestream of this frame, and the scan of this component is the first with other data.
pub record SpellsLoosely (bytes : List ℕ) (f : Picture) (component : ℕ) : Type 0 where
  pub spells : Spells bytes f
  pub before : List Scan
  pub loose : Scan
  pub after : List Scan
  pub scans : spells.codestream.scans ≡ before ++ loose ∷ after
  pub place : length before ≡ component
  pub exact : AreExact spells.parameters f 0 before
  pub other : loose.stuffed ≢ stuff (plane_bits spells.parameters (plane_of f component))
