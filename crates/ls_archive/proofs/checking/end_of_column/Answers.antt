use Rattle.ls_archive.proofs.FrontLineLemmas.{first-blank, all-digits}
use Rattle.ls_archive.proofs.checking.end_of_column.Goals as goal

pub returns-in-Some-clause-number : goal.returns-in-Some-clause-number
returns-in-Some-clause-number c number rest few ends is = first-blank number c.in-Some.end c.args.text.now rest few ends is c.in-Some.ensures

pub returns-in-None-clause-number : goal.returns-in-None-clause-number
returns-in-None-clause-number c number rest few ends is = all-digits number c.args.text.now rest ends is c.in-None.ensures
