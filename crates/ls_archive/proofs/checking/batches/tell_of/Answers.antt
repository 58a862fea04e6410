use Rattle.std.proofs.Common.{◌+◌, refl, ap}
use Rattle.ls_archive.proofs.BatchLemmas.{told-more}
use Rattle.ls_archive.proofs.checking.batches.tell_of.Goals as goal

pub returns-clause-told : goal.returns-clause-told
returns-clause-told g c = λ first start index recording found at next to is.
    let damage = rw c.in-Ok.is at is.found in
    let looked = c.in_ok-damaged.ensures.looked is.bytes damage in
    told-more first start index recording found (g.F.Findings.found c.args.findings.now) (g.F.Findings.found c.tell_damage.new.findings) at next c.args.so_far _ c.args.job.now c.in_ok-damaged.damaged to is
    c.requires.few looked refl (ap (λ k. c.args.so_far.offset + k) c.from.ensures) refl
