use Rattle.std.proofs.Common.{arith}
use Rattle.std.proofs.lemmas.Bool.{eqb-true}
use Rattle.ls_archive.proofs.FrontLineLemmas.{no_feed, fed_at}
use Rattle.ls_archive.proofs.checking.is_torn.Goals as goal

pub returns-in-Some-clause-none : goal.returns-in-Some-clause-none
returns-in-Some-clause-none c = λ _ torn. fed_at c.args.text.now _ c.in-Some.ensures.0.high (eqb-true _ _ c.in-Some.ensures.1) torn.0

pub returns-in-None-clause-some : goal.returns-in-None-clause-some
returns-in-None-clause-some c = λ is. let begins = c.is_beginning.ensures.some is in (no_feed c.args.text.now c.in-None.ensures, begins.0, begins.1)

pub returns-in-None-clause-none : goal.returns-in-None-clause-none
returns-in-None-clause-none c = λ no torn. c.is_beginning.ensures.none no torn.1 torn.2
