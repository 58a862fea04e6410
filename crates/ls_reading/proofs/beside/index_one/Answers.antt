use Rattle.ls_reading.proofs.beside.index_one.Goals as goal

pub returns-clause-status : goal.returns-clause-status
returns-clause-status g c = c.end.ensures.status c.index_through-status.ensures.status

pub returns-clause-written : goal.returns-clause-written
returns-clause-written g c = λ done. record {
  made = c.new-output.result.inner.file;
  written = _;
  index = c.index_through-status.ensures.lists (c.end.ensures.done done);
}
