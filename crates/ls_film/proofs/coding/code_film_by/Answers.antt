use Rattle.std.proofs.Common.{refl}
use Rattle.ls_film.specs.Coding.{default_file}
use Rattle.ls_film.proofs.StopLemmas.{film-stops-at}
use Rattle.ls_film.proofs.coding.code_film_by.Goals as goal

pub returns-in-Err-clause-stops : goal.returns-in-Err-clause-stops
returns-in-Err-clause-stops g c =
    let why = c.in-Err.ensures.stops (g.R.Read.remaining c.args.reader.now) refl in
    rw c.of.ensures (film-stops-at default_file _ _ _ _ _ c.in-Err.stopped why.1 why.2)
