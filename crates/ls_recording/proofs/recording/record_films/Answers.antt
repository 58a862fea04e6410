use Rattle.std.proofs.Common.{List, subst}
use Rattle.ls_opening.specs.declared.names.Names.{Names}
use Rattle.ls_recording.specs.View.Films.{AreRecorded}
use Rattle.ls_recording.proofs.recording.record_films.Goals as goal

pub returns : goal.returns
returns g c = λ done. record {
  names = c.in-Ok.names.items;
  named = c.in-Ok.ensures;
  recorded = subst (λ (names : List Names). AreRecorded g.O.Opens.holds g.R.File.Read.remaining g.R.File.Write.contents g.O.Makes.kept c.args.program.opener
      c.args.asked.tuning c.args.asked.count names) c.deref.ensures.value (c.record_named.ensures done);
}
