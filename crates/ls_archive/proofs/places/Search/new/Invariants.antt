use Rattle.ls_archive.proofs.places.Search.new.Given as goal

abbrev pub decreases-chain : goal.decreases-chain
decreases-chain l = l.number
