use Rattle.std.proofs.Common.{ℕ, List, refl, subst, take}
use Rattle.ls_frame.specs.Picture.{Picture}
use Rattle.ls_inspect.specs.Strict.{SpellsStrictly, SpellsLoosely}
use Rattle.ls_film.specs.View.Codestreams.{IsTaken, IsUnmade}
use Rattle.ls_film.proofs.CodestreamLemmas.{taken_fault, fault-is}
use Rattle.ls_archive.proofs.StrictLemmas.{gave_strict, gave_loose}
use Rattle.ls_archive.proofs.strict.StrictOnesImagesSeen.next.Goals as goal

pub returns-in-None-clause-gives : goal.returns-in-None-clause-gives
returns-in-None-clause-gives g c = λ place is.
    let read = g.R.Read.remaining c.args.reader.now in
    let read' = g.R.Read.remaining c.take_codestream.new.reader in
    let bytes : List ℕ = c.in-Ok-Some.bytes.items in
    let used : ℕ = c.in-Ok.inspected.used in
    let taken : IsTaken read read' bytes = rw c.in-Ok-Some.field-0-is at c.in-Ok-Some.ensures.taken in
    let found : (f : Picture) × SpellsStrictly (take used bytes) f =
    subst (λ (s : List ℕ). (f : Picture) × SpellsStrictly (take used s) f) c.deref.ensures.value (rw c.in-None.is at c.in-Ok.ensures.strict) in
    rw is (read', refl, found.0, gave_strict read read' bytes used taken found.0 found.1, tt)

pub returns-in-Ok-clause-gives : goal.returns-in-Ok-clause-gives
returns-in-Ok-clause-gives g c = λ place is.
    let read = g.R.Read.remaining c.args.reader.now in
    let read' = g.R.Read.remaining c.take_codestream.new.reader in
    let bytes : List ℕ = c.in-Ok-Some.bytes.items in
    let used : ℕ = c.in-Ok.inspected.used in
    let component : ℕ = c.in-Some.component in
    let taken : IsTaken read read' bytes = rw c.in-Ok-Some.field-0-is at c.in-Ok-Some.ensures.taken in
    let found : (f : Picture) × SpellsLoosely (take used bytes) f component =
    subst (λ (s : List ℕ). (f : Picture) × SpellsLoosely (take used s) f component) c.deref.ensures.value (rw c.in-Some.is at c.in-Ok.ensures.loose) in
    rw is (read', refl, gave_loose read read' bytes used taken found.0 component found.1)

pub returns-clause-gives : goal.returns-clause-gives
returns-clause-gives g c = λ place is.
    let read = g.R.Read.remaining c.args.reader.now in
    let read' = g.R.Read.remaining c.take_codestream.new.reader in
    let bytes : List ℕ = c.in-Ok-Some.bytes.items in
    let taken : IsTaken read read' bytes = rw c.in-Ok-Some.field-0-is at c.in-Ok-Some.ensures.taken in
    let fault : IsUnmade bytes c.in-Err-inspect.fault =
    subst (λ (s : List ℕ). IsUnmade s c.in-Err-inspect.fault) c.deref.ensures.value
    (fault-is c.deref.result.now c.in-Err-inspect.fault c.in-Err-inspect.ensures.fault c.in-Err-inspect.ensures.first) in
    rw is (read', refl, taken_fault read read' bytes taken c.in-Err-inspect.fault read' fault)
