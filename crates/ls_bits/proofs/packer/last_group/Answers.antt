use Rattle.std.proofs.Common.{arith}
use Rattle.ls_bits.proofs.MaskLemmas.{last_group-is, last_group-lt}
use Rattle.ls_bits.proofs.packer.last_group.Goals as goal

pub overflow_cast-result-2 : goal.overflow_cast-result-2
overflow_cast-result-2 c =
    omega (
      arith,
      last_group-is c.args.word c.args.held c.byte_bits.result c.args.after_ff c.requires c.byte_bits.ensures,
      last_group-lt c.args.word c.args.held c.args.after_ff c.requires,
    )

pub returns : goal.returns
returns c = last_group-is c.args.word c.args.held c.byte_bits.result c.args.after_ff c.requires c.byte_bits.ensures
