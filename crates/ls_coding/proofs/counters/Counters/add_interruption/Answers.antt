use Rattle.std.proofs.Common.{rules}
use Rattle.ls_coding.proofs.FieldLemmas.{AreWholeCounts, contexts_kept, interruption_sound, parameters_kept}
use Rattle.ls_coding.proofs.counters.Counters.add_interruption.Goals as goal

whole : (c : goal.After-count_interruption) → AreWholeCounts c.args.self.now.a c.args.self.now.n c.args.self.now.nn
whole c = record { every_a = search rules; every_n = search rules; every_nn = search rules }

pub returns-clause-contexts : goal.returns-clause-contexts
returns-clause-contexts c = contexts_kept _ _ _ _ c.ri_value-which.result _ _

pub returns-clause-sound : goal.returns-clause-sound
returns-clause-sound c = record {
  legal = c.requires.sound.legal;
  limit_is = c.requires.sound.limit_is;
  all = rw c.ri_value-which.ensures.value
      (interruption_sound c.args.ri_type _ _ _ _ _ _ _ _ _ _ (whole c) c.requires.sound.all c.count_interruption.ensures.sound);
  parameters = parameters_kept _ _ _ c.ri_value-which.result _ _ c.requires.sound.parameters;
}
