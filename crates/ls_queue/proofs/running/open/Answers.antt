use Rattle.std.proofs.Common.{rules, refl, arith}
use Rattle.ls_queue.proofs.AccountSeats.{begins}
use Rattle.ls_queue.proofs.running.open.Goals as goal

pub bounded_with-requires-clause-rule : goal.bounded_with-requires-clause-rule
bounded_with-requires-clause-rule g c = begins

pub returns : goal.returns
returns g c = (
  search rules,
  refl,
  refl,
  omega (arith, c.in_ok-sender.ensures.1),
  c.in_ok-source_seats.ensures.seats,
  c.in_ok-worker_seats.ensures.seats,
  record {
    pass = c.in_ok-worker_seats.ensures.pass;
    known = c.in_ok-worker_seats.ensures.known;
  },
)
