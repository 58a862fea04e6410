use Rattle.std.proofs.Common.{Some, None, Ok, Err}
use Rattle.ls_stream.proofs.AlikeLaws.{fault_given}
use Rattle.ls_stream.proofs.ExtentLaws.{whole_given, outline_given, endless_given}
use Rattle.ls_stream.proofs.next.next_stream.Goals as goal

pub returns-in-Ok-Some-clause-complete : goal.returns-in-Ok-Some-clause-complete
returns-in-Ok-Some-clause-complete g c =
    whole_given {X = Unit {0}} (λ _. c.read_stream.new.bytes.items) (g.R.Read.remaining c.args.reader.now) (g.R.Read.remaining c.read_stream.new.reader) (Ok (Some tt)) (rw c.in-Ok-Some.field-0-is at c.in-Ok-Some.ensures.bytes)

pub returns-in-Ok-Some-clause-outline : goal.returns-in-Ok-Some-clause-outline
returns-in-Ok-Some-clause-outline g c =
    outline_given {X = Unit {0}} (λ _. c.read_stream.new.bytes.items) (g.R.Read.remaining c.args.reader.now) (g.R.Read.remaining c.read_stream.new.reader) (Ok (Some tt)) (rw c.in-Ok-Some.field-0-is at c.in-Ok-Some.ensures.bytes)

pub returns-in-Ok-Some-clause-fault : goal.returns-in-Ok-Some-clause-fault
returns-in-Ok-Some-clause-fault g c =
    fault_given {X = Unit {0}} (λ _. c.read_stream.new.bytes.items) (g.R.Read.remaining c.args.reader.now) (g.R.Read.remaining c.read_stream.new.reader) (Ok (Some tt)) (rw c.in-Ok-Some.field-0-is at c.in-Ok-Some.ensures.bytes)

pub returns-in-Ok-None-clause-complete : goal.returns-in-Ok-None-clause-complete
returns-in-Ok-None-clause-complete g c =
    whole_given {X = Unit {0}} (λ _. c.read_stream.new.bytes.items) (g.R.Read.remaining c.args.reader.now) (g.R.Read.remaining c.read_stream.new.reader) (Ok None) (rw c.in-Ok-None.field-0-is at c.in-Ok-None.ensures.bytes)

pub returns-in-Err-clause-complete : goal.returns-in-Err-clause-complete
returns-in-Err-clause-complete g c =
    whole_given {X = Unit {0}} (λ _. c.read_stream.new.bytes.items) (g.R.Read.remaining c.args.reader.now) (g.R.Read.remaining c.read_stream.new.reader) (Err c.in-Err.fault) c.in-Err.ensures.bytes

pub returns-in-Err-clause-endless : goal.returns-in-Err-clause-endless
returns-in-Err-clause-endless g c =
    endless_given {X = Unit {0}} (λ _. c.read_stream.new.bytes.items) (g.R.Read.remaining c.args.reader.now) (g.R.Read.remaining c.read_stream.new.reader) (Err c.in-Err.fault) c.in-Err.ensures.bytes
