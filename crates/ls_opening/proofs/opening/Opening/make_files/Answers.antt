use Rattle.std.proofs.Common.{◌≡◌, subst}
use Rattle.std.proofs.lemmas.Result.{IfOk-weaker}
use Rattle.ls_opening.specs.View.Devices.{IsWriterFor}
use Rattle.ls_opening.proofs.ZipLemmas.{zip-chain}
use Rattle.ls_opening.proofs.opening.Opening.make_files.Goals as goal

pub returns : goal.returns
returns g c =
    IfOk-weaker c.make_claimed-made.result _ _
    (λ made writers. zip-chain (λ names film. film.names.now ≡ names) (λ film writer. IsWriterFor g.O.Makes.kept film.names.now writer) (IsWriterFor g.O.Makes.kept)
    c.args.self.now.names.now c.in_ok-claimed.claimed.films.items made.writers.items (λ names film writer same is. subst (λ n. IsWriterFor g.O.Makes.kept n writer) same is) c.in_ok-claimed.ensures writers)
    c.make_claimed-made.ensures
