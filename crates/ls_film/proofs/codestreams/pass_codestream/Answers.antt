use Rattle.std.proofs.Common.{subst}
use Rattle.ls_film.specs.View.Codestreams.{IsTaken, IsUnmade}
use Rattle.ls_film.proofs.CodestreamLemmas.{taken_fault}
use Rattle.ls_film.proofs.codestreams.pass_codestream.Goals as goal

pub returns-clause-stops : goal.returns-clause-stops
returns-clause-stops g c =
    let read = g.R.Read.remaining c.args.reader.now in
    let read' = g.R.Read.remaining c.take_codestream.new.reader in
    let taken : IsTaken read read' c.in-Ok-Some.bytes.items = rw c.in-Ok-Some.field-0-is at c.in-Ok-Some.ensures.taken in
    taken_fault read read' c.in-Ok-Some.bytes.items taken c.first_fault.result read' (subst (λ b. IsUnmade b c.first_fault.result) c.deref-in-Err-look_over.ensures.value c.first_fault.ensures)
