use Rattle.std.proofs.Common.{subst, ◌≤◌, IfErr}
use Rattle.ls_bits.specs.Golomb.{GolombFault}
use Rattle.ls_bits.specs.View.Plain.{bits_in}
use Rattle.ls_bits.proofs.GolombLaws.{short_word-taken}
use Rattle.ls_bits.proofs.source.BitSource.read_golomb.Goals as goal

pub returns-in-Some-clause-ok : goal.returns-in-Some-clause-ok
returns-in-Some-clause-ok c =
    short_word-taken c.args.k c.args.glimit c.args.qbpp c.in-Some.value (bits_in c.args.self.now) (bits_in c.take_short.new.self) c.in-Some.ensures.few
    (subst (λ n. c.in-Some.value ≤ n) c.most.ensures c.in-Some.ensures.small) c.in-Some.ensures.word

pub returns-clause-fault : goal.returns-clause-fault
returns-clause-fault c =
    subst (λ bits. IfErr c.take_any.result (λ fault. GolombFault c.args.k c.args.glimit c.args.qbpp bits fault)) c.in_default.ensures.none
    c.take_any.ensures.fault
