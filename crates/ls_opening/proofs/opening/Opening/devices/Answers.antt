use Rattle.std.proofs.Common.{◌≡◌, ◌<◌, ◌∷◌, [], ◌++◌, length, arith, rules, refl, ap, subst, ◌∙◌}
use Rattle.std.specs.List.{AllZip}
use Rattle.std.proofs.lemmas.List.{take_all}
use Rattle.ls_files.specs.View.Files.{ReadsFileAt}
use Rattle.ls_console.specs.View.Readers.{unread}
use Rattle.ls_opening.specs.View.Devices.{FilmDevices, AreDevicesOf, IsWriterFor}
use Rattle.ls_opening.proofs.ZipLemmas.{zip-first, zip-next, zip-some}
use Rattle.ls_opening.proofs.DeviceLemmas.{reads-film}
use Rattle.ls_opening.proofs.opening.Opening.devices.Goals as goal

pub remove-source-requires : goal.remove-source-requires
remove-source-requires g c =
    let some : 0 < length c.loop-film.sources.items = zip-some _ c.args.self.now.names.now c.loop-film.film-index c.loop-film.sources.items c.film-item.result (search rules) c.loop-film.invariant.sources in
    omega (arith, some, c.loop-film.sources.ok)

pub remove-writer-requires : goal.remove-writer-requires
remove-writer-requires g c =
    let some : 0 < length c.loop-film.writers.items = zip-some _ c.args.self.now.names.now c.loop-film.film-index c.loop-film.writers.items c.film-item.result (search rules) c.loop-film.invariant.writers in
    omega (arith, some, c.loop-film.writers.ok)

pub returns : goal.returns
returns g c = subst (λ l. AllZip (AreDevicesOf g.O.Opens.holds g.R.File.Read.remaining g.O.Makes.kept c.args.self.now.opener c.args.self.now.asked.now.tuning) l c.loop-film.devices.items) (take_all c.loop-film.film-index c.args.self.now.names.now (search rules)) c.loop-film.invariant.devices

pub loop-film-preserved : goal.loop-film-preserved
loop-film-preserved g c =
    let names = c.args.self.now.names.now in
    let i = c.loop-film.film-index in
    let film = c.film-item.result in
    let device : FilmDevices g.row.O.Denot g.row.R-File.Denot g.row.O-Finished.Denot = (c.new-limited.result, c.remove-writer.result, c.args.self.now.asked.now.tuning) in
    let less : i < length names = search rules in
    let source = zip-first (λ names source. ReadsFileAt g.O.Opens.holds g.R.File.Read.remaining c.args.self.now.opener names.file.now source) names i
    c.loop-film.sources.items c.remove-source.new.self.items film c.remove-source.result less c.film-item.is c.loop-film.invariant.sources c.remove-source.ensures.value c.remove-source.ensures.items in
    let writer = zip-first (IsWriterFor g.O.Makes.kept) names i
    c.loop-film.writers.items c.remove-writer.new.self.items film c.remove-writer.result less c.film-item.is c.loop-film.invariant.writers c.remove-writer.ensures.value c.remove-writer.ensures.items in
    let pushed : c.push.new.self.items ≡ c.loop-film.devices.items ++ device ∷ [] = search rules in
    record {
      sources = source.1;
      writers = writer.1;
      devices = rw pushed (zip-next (AreDevicesOf g.O.Opens.holds g.R.File.Read.remaining g.O.Makes.kept c.args.self.now.opener c.args.self.now.asked.now.tuning) names i c.loop-film.devices.items film device less c.film-item.is
          c.loop-film.invariant.devices (record {
            film = reads-film g.O.Opens.holds g.R.File.Read.remaining c.args.self.now.opener film.file.now c.remove-source.result c.new-limited.result source.0
                (ap (unread g.R.File.Read.remaining) c.new-limited.ensures ∙ c.in_ok-reader.ensures);
            recording = writer.0;
            tuning_is = refl;
          }));
    }
