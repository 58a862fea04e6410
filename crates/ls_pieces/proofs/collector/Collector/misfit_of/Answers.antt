use Rattle.std.proofs.Common.{sym, rules}
use Rattle.ls_pieces.proofs.CollectorLemmas.{no_misfit}
use Rattle.ls_pieces.proofs.collector.Collector.misfit_of.Goals as goal

pub returns-in-Some-3-clause-reply : goal.returns-in-Some-3-clause-reply
returns-in-Some-3-clause-reply c =
    sym (no_misfit c.args.self.now c.args.piece.now c.in-Some.slot.now (record {
      source = search rules;
      number = search rules;
      at = search rules;
      order = search rules;
    }) (search rules))
