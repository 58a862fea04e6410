use Rattle.std.proofs.Common.{◌≡◌, length, refl, rules, arith}
use Rattle.ls_film.proofs.AheadLemmas.{ends-ahead, fault-ahead, gives-made, gives-fault, first-and-rest, none-left}
use Rattle.ls_film.proofs.ahead.give.Goals as goal

pub returns-in-Fault-clause-gives : goal.returns-in-Fault-clause-gives
returns-in-Fault-clause-gives g c = λ place read is.
    let size : length c.args.ahead.now.jobs.items ≡ 0 = search rules in
    fault-ahead g.T.Made.made place read c.args.ahead.now c.in-Fault.fault (none-left _ size) c.in-Fault.is is

pub returns-in-End-clause-gives : goal.returns-in-End-clause-gives
returns-in-End-clause-gives g c = λ place read is.
    let size : length c.args.ahead.now.jobs.items ≡ 0 = search rules in
    ends-ahead g.T.Made.made place read c.args.ahead.now (none-left _ size) c.in-End.is is

pub unreachable-unreachable : goal.unreachable-unreachable
unreachable-unreachable g c =
    let size : length c.args.ahead.now.jobs.items ≡ 0 = search rules in
    c.requires (none-left _ size) c.in-More.is

pub returns-in-Ok-clause-gives : goal.returns-in-Ok-clause-gives
returns-in-Ok-clause-gives g c = λ place read is.
    let are = first-and-rest c.args.ahead.now.jobs.items c.remove-job.result c.remove-job.new.self.items (omega arith) c.remove-job.ensures.value c.remove-job.ensures.items in
    gives-made g.T.Made.made place read c.args.ahead.now (record { jobs = c.remove-job.new.self; after = c.args.ahead.now.after }) c.remove-job.result are refl is c.in-Ok.made c.in-Ok.is

pub returns-clause-gives : goal.returns-clause-gives
returns-clause-gives g c = λ place read is.
    let are = first-and-rest c.args.ahead.now.jobs.items c.remove-job.result c.remove-job.new.self.items (omega arith) c.remove-job.ensures.value c.remove-job.ensures.items in
    gives-fault g.T.Made.made place read c.args.ahead.now (record { jobs = c.remove-job.new.self; after = c.args.ahead.now.after }) c.remove-job.result are refl is c.in-Err.fault c.in-Err.is
