use Rattle.std.specs.Prelude.{take}
use Rattle.std.specs.List.{AllZip}
use Rattle.ls_files.specs.View.Files.{ReadsFileAt}
use Rattle.ls_opening.proofs.opening.Opening.open_sources.Given as goal

-- the films so far are open
abbrev pub invariant-loop-film : goal.invariant-loop-film
invariant-loop-film g l = AllZip (λ names source. ReadsFileAt g.O.Opens.holds g.R.File.Read.remaining l.self.opener names.file.now source) (take l.film-index l.self.names.now) l.sources.items
