use Rattle.std.proofs.Common.{◌≡◌, ◌∷◌, ◌++◌}
use Rattle.std.specs.Prelude.{take}
use Rattle.ls_command.specs.View.Matched.{texts_in_turn, texts_of}
use Rattle.ls_command.proofs.PairLemmas.{waiting}
use Rattle.ls_command.proofs.pairs_of.Given as goal

-- the films and recordings so far are in pairs, but for a film that waits for its recording
abbrev pub invariant-loop-file : goal.invariant-loop-file
invariant-loop-file l = texts_in_turn l.pairs.items ++ waiting l.film ≡ l.fn.first ∷ texts_of (take l.file-index l.fn.files)
