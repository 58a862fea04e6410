use Rattle.std.proofs.Common.{length, length-append, refl, ap, arith}
use Rattle.std.proofs.lemmas.Bool.{false≢true}
use Rattle.ls_stream.specs.Planes.{plane_bits}
use Rattle.ls_stream.proofs.laws.these_say_no_frame.Goals as goal

pub returns-clause-more_bits : goal.returns-clause-more_bits
returns-clause-more_bits c p plane bytes many coded =
    omega (arith, many, coded.few, ap length coded.bits, length-append (plane_bits p plane) coded.more)

pub returns-clause-late_tables : goal.returns-clause-late_tables
returns-clause-late_tables c p q f says = says.after.0.0

pub returns-clause-identifiers : goal.returns-clause-identifiers
returns-clause-identifiers c f one two header = header.apart.0.1.0 refl

pub returns-clause-restarts : goal.returns-clause-restarts
returns-clause-restarts c p f contents says = false≢true says.before.0.marker_is
