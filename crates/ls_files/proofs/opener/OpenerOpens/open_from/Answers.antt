use Rattle.std.proofs.Common.{ℕ, List, ◌++◌, replicate, Option, None, Some, refl, sym, ap}
use Rattle.std.proofs.lemmas.List.{drop_at, length-replicate}
use Rattle.ls_files.specs.View.Opened.{HoldsFrom}
use Rattle.ls_files.proofs.opener.OpenerOpens.open_from.Goals as goal

-- any bytes are left from a place on of a file about which nothing is said
from : (place : ℕ) (left : Option (List ℕ)) → HoldsFrom (λ x. Unit {0}) place left
from place None = record { whole = None; holds = tt; left_is = refl }
from place (Some bytes) = record {
  whole = Some (replicate place 0 ++ bytes);
  holds = tt;
  left_is = ap (λ s. Some s) (sym (drop_at (replicate place 0) bytes place (length-replicate place 0)));
}

pub returns : goal.returns
returns g c = from c.args.place (g.R.File.Read.remaining c.seek.new.self)
