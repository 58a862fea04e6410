use Rattle.std.proofs.Common.{subst}
use Rattle.std.specs.List.{AllZip}
use Rattle.ls_opening.specs.View.Devices.{IsWriterFor}
use Rattle.ls_opening.proofs.opening.make_claimed.Goals as goal

pub returns : goal.returns
returns g c = subst (λ l. AllZip (λ film writer. IsWriterFor g.O.Makes.kept film.names.now writer) l c.in_ok-writers.writers.items) c.deref_mut.ensures.value c.in_ok-writers.ensures
