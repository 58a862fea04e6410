use Rattle.std.proofs.Common.{sym, subst, ap, ◌∙◌, length}
use Rattle.std.proofs.lemmas.Bool.{ltb-false}
use Rattle.std.specs.Prelude.{if◌then◌else◌}
use Rattle.ls_recorder.specs.declared.lane.LaneFault.{LaneFault}
use Rattle.ls_pieces.specs.declared.collector.Misfit.TheVariants.{NotBooked}
use Rattle.ls_recorder.specs.declared.lane.LaneFault.TheVariants.{NoMemory, Misfit}
use Rattle.ls_recorder.specs.View.Lanes.{StopsWriting}
use Rattle.ls_recorder.specs.View.Halves.{orders_taken, fault_after, HaltsWriting}
use Rattle.ls_recorder.proofs.WritingLemmas.{later-stops, later-ahead, later-beyond}
use Rattle.ls_recorder.proofs.lane.writing.take_the_rest.Goals as goal

pub returns-in-Fault-clause-stops : goal.returns-in-Fault-clause-stops
returns-in-Fault-clause-stops g c = λ start now why.
    let halts = subst (HaltsWriting (orders_taken c.args.seat.now) start now) c.in-Fault.is why in
    let more = c.drain-more.ensures.more in
    subst (λ l. StopsWriting l start now c.in-Fault.fault) (sym more.1) (later-stops (orders_taken c.args.seat.now) more.0 start now c.in-Fault.fault halts.0 halts.1)

pub returns-then-drain-clause-stops : goal.returns-then-drain-clause-stops
returns-then-drain-clause-stops g c = λ start now why.
    let halts = subst (HaltsWriting (orders_taken c.args.seat.now) start now) c.in-NotBooked.is why in
    let more = c.drain.ensures.more in
    subst (λ l. StopsWriting l start now NoMemory) (sym more.1) (later-beyond (orders_taken c.args.seat.now) more.0 start now c.in-NotBooked.ahead halts)

pub returns-else-drain-clause-stops : goal.returns-else-drain-clause-stops
returns-else-drain-clause-stops g c = λ start now why.
    let halts = subst (HaltsWriting (orders_taken c.args.seat.now) start now) c.in-NotBooked.is why in
    let more = c.drain.ensures.more in
    subst (λ l. StopsWriting l start now (Misfit NotBooked)) (sym more.1) (later-ahead (orders_taken c.args.seat.now) more.0 start now c.in-NotBooked.ahead halts (ltb-false _ _ (sym more.2 ∙ c.if-drain.false)))

pub returns-in-Fault-clause-fault : goal.returns-in-Fault-clause-fault
returns-in-Fault-clause-fault g c =
    let more = c.drain-more.ensures.more in
    (more.0, more.1, ap (λ h. fault_after h (length more.0)) (sym c.in-Fault.is))

pub returns-then-drain-clause-fault : goal.returns-then-drain-clause-fault
returns-then-drain-clause-fault g c =
    let more = c.drain.ensures.more in
    (more.0, more.1, ap (λ b. if◌then◌else◌ {A = LaneFault} b NoMemory (Misfit NotBooked)) (sym c.if-drain.true ∙ more.2) ∙ ap (λ h. fault_after h (length more.0)) (sym c.in-NotBooked.is))

pub returns-else-drain-clause-fault : goal.returns-else-drain-clause-fault
returns-else-drain-clause-fault g c =
    let more = c.drain.ensures.more in
    (more.0, more.1, ap (λ b. if◌then◌else◌ {A = LaneFault} b NoMemory (Misfit NotBooked)) (sym c.if-drain.false ∙ more.2) ∙ ap (λ h. fault_after h (length more.0)) (sym c.in-NotBooked.is))
