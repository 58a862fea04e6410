use Rattle.ls_film.specs.View.Codestreams.{IsTaken}
use Rattle.ls_film.proofs.CodestreamLemmas.{unread, untaken}
use Rattle.ls_film.proofs.codestreams.take_codestream.Goals as goal

pub returns-in-Ok-Some-clause-taken : goal.returns-in-Ok-Some-clause-taken
returns-in-Ok-Some-clause-taken g c =
    let is : IsTaken (g.R.Read.remaining c.args.reader.now) (g.R.Read.remaining c.next_stream.new.reader) c.in-Ok-Some.bytes.items = record {
      gave = rw c.in-Ok-Some.field-0-is at c.in-Ok-Some.ensures.stream;
      complete = rw c.in-Ok-Some.field-0-is at c.in-Ok-Some.ensures.complete;
      outline = rw c.in-Ok-Some.field-0-is at c.in-Ok-Some.ensures.outline;
      fault = rw c.in-Ok-Some.field-0-is at c.in-Ok-Some.ensures.fault;
    } in
    rw c.shrink_to_fit.ensures.items is

pub returns-in-Err-clause-untaken : goal.returns-in-Err-clause-untaken
returns-in-Err-clause-untaken g c =
    rw c.of.ensures (untaken (g.R.Read.remaining c.args.reader.now) (g.R.Read.remaining c.next_stream.new.reader) c.in-Err.fault c.in-Err.ensures.too_large c.in-Err.ensures.complete
    c.in-Err.ensures.endless c.in-Err.ensures.io c.in-Err.ensures.memory)

pub returns-in-Err-clause-stops : goal.returns-in-Err-clause-stops
returns-in-Err-clause-stops g c = unread c.of.result (g.R.Read.remaining c.args.reader.now) (g.R.Read.remaining c.next_stream.new.reader) (returns-in-Err-clause-untaken g c)
