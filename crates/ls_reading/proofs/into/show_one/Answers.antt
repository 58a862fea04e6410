use Rattle.ls_reading.proofs.into.show_one.Goals as goal

pub returns-clause-status : goal.returns-clause-status
returns-clause-status g c = c.end.ensures.status c.show-status.ensures.status

pub returns-clause-played : goal.returns-clause-played
returns-clause-played g c = λ done. record {
  made = c.new-output.result.inner.file;
  written = _;
  all = c.show-status.ensures.shows (c.end.ensures.done done);
  some = c.show-status.ensures.part (c.end.ensures.done done);
}
