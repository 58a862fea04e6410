use Rattle.ls_archive.proofs.checking.part.check_part.Goals as goal

pub returns-in-Some-clause-checked : goal.returns-in-Some-clause-checked
returns-in-Some-clause-checked g c = rw c.in-Some.is c.check_between.ensures.checked

pub returns-in-Some-clause-stops : goal.returns-in-Some-clause-stops
returns-in-Some-clause-stops g c = rw c.in-Some.is c.check_between.ensures.stops

pub returns-in-None-clause-checked : goal.returns-in-None-clause-checked
returns-in-None-clause-checked g c = rw c.in-None.is c.check_rest.ensures.checked

pub returns-in-None-clause-stops : goal.returns-in-None-clause-stops
returns-in-None-clause-stops g c = rw c.in-None.is c.check_rest.ensures.stops
