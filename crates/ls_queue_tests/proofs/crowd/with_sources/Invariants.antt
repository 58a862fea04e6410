use Rattle.std.specs.Prelude.{◌≡◌}
use Rattle.std.specs.List.{AllByRecursion}
use Rattle.ls_queue.specs.View.Running.{AreNewSources, IsSourceAt}
use Rattle.ls_queue_tests.proofs.crowd.with_sources.Given as goal

-- the seats paired with their sources so far, and the remaining ones, from the next source on
abbrev pub invariant-loop-source : goal.invariant-loop-source
invariant-loop-source l =
    AllByRecursion (λ one. IsSourceAt l.queue.channel one.1 × (one.1.source ≡ one.0)) l.numbered.items
    × AreNewSources l.queue.channel l.source l.seats.items
