use Rattle.ls_archive.proofs.coding.code_film_with_index.Given as goal

-- what both writers have
abbrev pub ghosts-code_from : goal.ghosts-code_from
ghosts-code_from g a = record { start = g.W.Write.contents a.recording; begun = g.I.Write.contents a.index }
