use Rattle.std.proofs.Common.{refl}
use Rattle.ls_archive.proofs.StrictLemmas.{found-loose, found-strict, found-stops}
use Rattle.ls_archive.proofs.strict.read_strict.Goals as goal

pub returns-in-Ok-clause-strict : goal.returns-in-Ok-clause-strict
returns-in-Ok-clause-strict g c = record {
  written = _;
  written' = _;
  run = c.in-Ok.ensures.completes (g.R.Read.remaining c.args.recording.now) refl;
}

pub returns-clause-loose : goal.returns-clause-loose
returns-clause-loose g c =
    let why = c.in-Err.ensures.stops (g.R.Read.remaining c.args.recording.now) refl in
    found-loose (g.R.Read.remaining c.args.recording.now) (g.R.Read.remaining c.write_text.new.reader) _ _ c.in-Err.stopped why.0 why.2 c.found_by.result c.found_by.ensures

pub returns-clause-stops : goal.returns-clause-stops
returns-clause-stops g c =
    let why = c.in-Err.ensures.stops (g.R.Read.remaining c.args.recording.now) refl in
    found-stops (g.R.Read.remaining c.args.recording.now) (g.R.Read.remaining c.write_text.new.reader) _ _ c.in-Err.stopped why.0 why.2 c.found_by.result c.found_by.ensures
