use Rattle.std.proofs.Common.{rules}
use Rattle.ls_film.proofs.film.NetpbmImagesImagesFrame.next.Goals as goal

pub returns-in-Ok-None-clause-end : goal.returns-in-Ok-None-clause-end
returns-in-Ok-None-clause-end g c = search rules

pub returns-in-Ok-None-clause-failures : goal.returns-in-Ok-None-clause-failures
returns-in-Ok-None-clause-failures g c = search rules
