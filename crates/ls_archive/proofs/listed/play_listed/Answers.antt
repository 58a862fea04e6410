use Rattle.std.proofs.Common.{◌<◌, ◌-◌, inr, arith}
use Rattle.ls_archive.proofs.ListedLemmas.{shown-fewer, if-none}
use Rattle.ls_archive.proofs.listed.play_listed.Goals as goal

pub returns-in-Err-TooFew-clause-shows : goal.returns-in-Err-TooFew-clause-shows
returns-in-Err-TooFew-clause-shows g c =
    let stops = rw c.in-Err-TooFew.field-0-is at c.in-Err-TooFew.ensures.stops in
    (shown-fewer c.args.part.first c.args.offset _ _ _ _ _ _ c.in-Err-TooFew.lines stops).0

pub returns-in-Err-TooFew-clause-all : goal.returns-in-Err-TooFew-clause-all
returns-in-Err-TooFew-clause-all g c =
    let stops = rw c.in-Err-TooFew.field-0-is at c.in-Err-TooFew.ensures.stops in
    let some : 0 < c.in-Err-TooFew.lines - c.args.part.first = omega (arith, c.if-lines-part.true) in
    if-none c.args.part.last _ (some, inr (shown-fewer c.args.part.first c.args.offset _ _ _ _ _ _ c.in-Err-TooFew.lines stops).1)
