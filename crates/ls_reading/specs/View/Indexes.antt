-- An index that is written together with its recording.
use Rattle.std.specs.Prelude.{ℕ, List, Option, None}
use Rattle.ls_archive.specs.View.Coded.{CodesWithIndex}

-- The reader gave a film, and its codestreams were written and nothing else; and so was the index of these codestreams, whole.
abbrev pub HasCoded : Option (List ℕ) → Option (List ℕ) → Option (List ℕ) → Option (List ℕ) → Option (List ℕ) → Type 0
HasCoded read written written' begun index = (left : Option (List ℕ)) × (n : ℕ) × CodesWithIndex read left written written' begun index None n
