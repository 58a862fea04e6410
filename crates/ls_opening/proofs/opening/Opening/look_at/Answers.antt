use Rattle.std.proofs.Common.{◌≡◌, ◌∷◌, [], ◌++◌, rules, arith}
use Rattle.ls_opening.proofs.ZipLemmas.{zip-next}
use Rattle.ls_opening.proofs.opening.Opening.look_at.Goals as goal

pub loop-names-preserved : goal.loop-names-preserved
loop-names-preserved g c =
    let pushed : c.push.new.self.items ≡ c.loop-names.films.items ++ c.look.result ∷ [] = search rules in
    rw pushed (zip-next _ c.args.self.now.names.now c.loop-names.names-index c.loop-names.films.items c.names-item.result c.look.result (search rules) c.names-item.is c.loop-names.invariant c.look.ensures)
