use Rattle.ls_bits.specs.View.Plain.{bits_in}
use Rattle.ls_bits.proofs.GolombLaws.{one_answer}
use Rattle.ls_bits.proofs.source.BitSource.take_golomb.Goals as goal

pub returns-clause-word : goal.returns-clause-word
returns-clause-word c v rest word =
    one_answer c.args.k c.args.glimit c.args.qbpp (bits_in c.args.self.now) (bits_in c.read_golomb.new.self) c.read_golomb.result c.requires c.read_golomb.ensures.ok c.read_golomb.ensures.fault v rest word
