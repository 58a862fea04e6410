use Rattle.std.proofs.Common.{Some, refl, sym, ap, subst, ◌∙◌}
use Rattle.ls_film.specs.View.Playing.{Plays}
use Rattle.ls_roundtrip.proofs.round_trip.play_back.Goals as goal

pub returns : goal.returns
returns g c =
    let shown = c.play_bytes_by-shown.result.0.items in
    record {
      recorded = refl;
      recording = ap (λ v. Some v.items) (sym c.into_inner-recording.ensures);
      plays = subst (λ l. Plays l shown c.play_bytes_by-shown.result.1) c.deref.ensures.value c.play_bytes_by-shown.ensures;
    }
