use Rattle.std.proofs.Common.{◌≡◌, ◌≤◌, ◌+◌}
use Rattle.crossbeam_channel.specs.Claims.{view, IsSeatAt}
use Rattle.crossbeam_channel.specs.Ends.{receives_on}
use Rattle.ls_recorder.proofs.lane.places.Places.take.Given as goal

-- the same places, however many are counted as handed back
abbrev pub invariant-loop : goal.invariant-loop
invariant-loop g l = record {
  own : IsSeatAt (receives_on l.self.receiver) l.self.pass;
  half : (view l.self.pass).shares ≡ 1;
  sends_none : (view l.self.pass).sent ≡ 0;
  counted : l.self.returned ≤ (view l.self.pass).received;
  within : l.self.taken ≤ l.self.window + l.self.returned;
  window : l.self.window ≡ l.fn.self.window;
  channel : receives_on l.self.receiver ≡ receives_on l.fn.self.receiver;
  taken : l.self.taken ≡ l.fn.self.taken;
}
