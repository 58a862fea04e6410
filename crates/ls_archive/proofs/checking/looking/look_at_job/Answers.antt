use Rattle.std.proofs.Common.{refl}
use Rattle.ls_archive.specs.View.Batches.{line_of}
use Rattle.ls_archive.proofs.BatchLemmas.{found-of}
use Rattle.ls_archive.proofs.checking.looking.look_at_job.Goals as goal

pub returns : goal.returns
returns c =
    let job = c.args.job.now in
    let same = c.replace-bytes.ensures.value in
    record {
      number = refl;
      offset = refl;
      line = refl;
      found = found-of job.number job.offset (line_of job.line) job.bytes.items c.damage_of-job.result
          (rw same at c.damage_of-job.ensures.good) (rw same at c.damage_of-job.ensures.damaged) (rw same at c.damage_of-job.ensures.damage);
      memory = rw same at c.damage_of-job.ensures.memory;
    }
