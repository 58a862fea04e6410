use Rattle.std.proofs.Common.{ℕ, List, refl, subst}
use Rattle.ls_film.specs.View.Codestreams.{IsTaken, IsMadeOf, IsUnmade}
use Rattle.ls_film.proofs.CodestreamLemmas.{taken_frame, taken_fault}
use Rattle.ls_film.proofs.codestreams.OneByOneImages.next.Goals as goal

pub returns-in-Ok-clause-gives : goal.returns-in-Ok-clause-gives
returns-in-Ok-clause-gives g c = λ place is.
    let read = g.R.Read.remaining c.args.reader.now in
    let read' = g.R.Read.remaining c.take_codestream.new.reader in
    let bytes = c.in-Ok-Some.bytes.items in
    let taken : IsTaken read read' bytes = rw c.in-Ok-Some.field-0-is at c.in-Ok-Some.ensures.taken in
    let made : IsMadeOf g.T.Made.made bytes c.in-Ok.made = subst (λ (s : List ℕ). IsMadeOf g.T.Made.made s c.in-Ok.made) c.deref.ensures.value c.in-Ok.ensures in
    rw is (read', refl, made.0, taken_frame read read' bytes taken made.1 made.0 made.2, made.3)

pub returns-clause-gives : goal.returns-clause-gives
returns-clause-gives g c = λ place is.
    let read = g.R.Read.remaining c.args.reader.now in
    let read' = g.R.Read.remaining c.take_codestream.new.reader in
    let bytes = c.in-Ok-Some.bytes.items in
    let taken : IsTaken read read' bytes = rw c.in-Ok-Some.field-0-is at c.in-Ok-Some.ensures.taken in
    let fault : IsUnmade bytes c.in-Err-made_of.fault = subst (λ (s : List ℕ). IsUnmade s c.in-Err-made_of.fault) c.deref.ensures.value c.in-Err-made_of.ensures in
    rw is (read', refl, taken_fault read read' bytes taken c.in-Err-made_of.fault read' fault)
