use Rattle.std.proofs.Common.{ap, sym, subst, ◌∙◌, rules}
use mir.Syntax.{w32}
use mir.Val.{to_z, of_z}
use Rattle.ls_frame.specs.Parameters.{Parameters}
use Rattle.ls_coding.specs.Stats.{stats_step, AreSound, error_bound, stats}
use Rattle.ls_coding.specs.View.Fields.{stats_at}
use Rattle.ls_coding.proofs.SignedLemmas.{through}
use Rattle.ls_coding.proofs.FieldLemmas.{AreWhole, contexts_set, regular_sound, parameters_set}
use Rattle.ls_coding.proofs.counters.Counters.add.Goals as goal

whole : (c : goal.After-update) → AreWhole c.args.self.now.a c.args.self.now.b c.args.self.now.c c.args.self.now.n
whole c = record { all_a = search rules; all_b = search rules; all_c = search rules; all_n = search rules }

pub update-requires-clause-sound : goal.update-requires-clause-sound
update-requires-clause-sound c =
    subst (λ (p : Parameters). AreSound p.reset (error_bound p.maxval) (stats_at c.args.self.now.a c.args.self.now.b c.args.self.now.c c.args.self.now.n c.args.number)) (sym c.requires.presets)
    (c.requires.sound.all.regular c.args.number c.requires.number)

pub returns-clause-contexts : goal.returns-clause-contexts
returns-clause-contexts c =
    contexts_set _ _ _ _ c.args.number _ _ _ _ _ (whole c) c.requires.number
    (c.update.ensures.step
    ∙ ap (λ (p : Parameters). stats_step p.reset (stats_at c.args.self.now.a c.args.self.now.b c.args.self.now.c c.args.self.now.n c.args.number) (to_z w32 (of_z w32 c.args.error))) c.requires.presets
    ∙ ap (stats_step c.args.self.now.presets.reset (stats_at c.args.self.now.a c.args.self.now.b c.args.self.now.c c.args.self.now.n c.args.number)) (through c.args.error c.ranges.error.sfits))

pub returns-clause-sound : goal.returns-clause-sound
returns-clause-sound c = record {
  legal = c.requires.sound.legal;
  limit_is = c.requires.sound.limit_is;
  all = regular_sound _ _ _ _ _ _ _ c.args.number _ _ _ _ (whole c) c.requires.number c.requires.sound.all
      (subst (λ (p : Parameters). AreSound p.reset (error_bound p.maxval) (stats c.update.new.a c.update.new.b c.update.new.c c.update.new.n)) c.requires.presets c.update.ensures.sound);
  parameters = parameters_set c.args.self.now.k c.args.self.now.n c.args.self.now.a c.args.number _ _ _ (search rules) (search rules) (search rules) c.requires.number c.update.ensures.parameter c.requires.sound.parameters;
}
