-- The laws that relate reading to the grammar.
use Rattle.std.specs.Prelude.{◌≡◌, ℕ, List, [], ◌++◌, None, Some, Ok, Err}
use Rattle.ls_frame.specs.declared.netpbm.NetpbmFault.{NetpbmFault}
use Rattle.ls_frame.specs.Picture.{Picture}
use Rattle.ls_frame.specs.Netpbm.{IsImageOf}
use Rattle.ls_frame.specs.Faults.{Breaks}
use Rattle.ls_frame.specs.View.Reading.{image_at}

-- the bytes that are read are an image of the picture
abbrev pub ReadsSpellings : Type 0
ReadsSpellings = (bytes rest : List ℕ) (f : Picture) → image_at bytes ≡ Ok (Some (f, rest)) → (front : List ℕ) × (bytes ≡ front ++ rest) × IsImageOf front f

-- an image is read, whatever follows it
abbrev pub SpellingsAreRead : Type 0
SpellingsAreRead = (front rest : List ℕ) (f : Picture) → IsImageOf front f → image_at (front ++ rest) ≡ Ok (Some (f, rest))

-- reading finds no image only at the end of input
abbrev pub ReadsNothingAtEnd : Type 0
ReadsNothingAtEnd = (bytes : List ℕ) → image_at bytes ≡ Ok None → bytes ≡ []

-- if reading fails, the bytes break the grammar with the same fault
abbrev pub FaultsBreak : Type 0
FaultsBreak = (bytes : List ℕ) (fault : NetpbmFault) → image_at bytes ≡ Err fault → Breaks bytes fault

-- if bytes break the grammar, reading fails with the same fault
abbrev pub BreaksAreFaults : Type 0
BreaksAreFaults = (bytes : List ℕ) (fault : NetpbmFault) → Breaks bytes fault → image_at bytes ≡ Err fault
