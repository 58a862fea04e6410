use Rattle.std.specs.Prelude.{take, drop}
use Rattle.std.specs.List.{AllZip}
use Rattle.ls_files.specs.View.Files.{ReadsFileAt}
use Rattle.ls_opening.specs.View.Devices.{AreDevicesOf, IsWriterFor}
use Rattle.ls_opening.proofs.opening.Opening.devices.Given as goal

-- the films so far have their devices, and a source and a writer is left for each of the others
abbrev pub invariant-loop-film : goal.invariant-loop-film
invariant-loop-film g l = record {
  sources : AllZip (λ names source. ReadsFileAt g.O.Opens.holds g.R.File.Read.remaining l.self.opener names.file.now source) (drop l.film-index l.self.names.now) l.sources.items;
  writers : AllZip (IsWriterFor g.O.Makes.kept) (drop l.film-index l.self.names.now) l.writers.items;
  devices : AllZip (AreDevicesOf g.O.Opens.holds g.R.File.Read.remaining g.O.Makes.kept l.self.opener l.self.asked.now.tuning) (take l.film-index l.self.names.now) l.devices.items;
}
