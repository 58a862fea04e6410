use Rattle.std.proofs.Common.{inl}
use Rattle.ls_archive.proofs.CheckedPartLemmas.{part-rest, part-reads, part-reads-ok}
use Rattle.ls_archive.proofs.checking.part.check_rest.Goals as goal

pub returns-in-Ok-clause-checked : goal.returns-in-Ok-clause-checked
returns-in-Ok-clause-checked g c =
    part-rest c.args.first c.args.offset (g.I.Read.remaining c.args.index.now) (g.I.Read.remaining c.check_lines.new.index) (g.R.Read.remaining c.args.recording.now) (g.R.Read.remaining c.check_lines.new.recording)
    (g.F.Findings.found c.args.findings.now) (g.F.Findings.found c.check_lines.new.findings)
    _ _ _ _ c.in-Ok.ensures.checked c.in-Ok.ensures.all

pub returns-in-Ok-clause-index_reads : goal.returns-in-Ok-clause-index_reads
returns-in-Ok-clause-index_reads g c = inl (part-reads-ok _ _ _ _ c.in-Ok.ensures.index_reads)

pub returns-in-Ok-clause-reads : goal.returns-in-Ok-clause-reads
returns-in-Ok-clause-reads g c = inl (part-reads-ok _ _ _ _ c.in-Ok.ensures.reads)

pub returns-in-Err-clause-index_reads : goal.returns-in-Err-clause-index_reads
returns-in-Err-clause-index_reads g c = part-reads _ _ _ _ c.in-Err.fault c.in-Err.ensures.index_reads

pub returns-in-Err-clause-reads : goal.returns-in-Err-clause-reads
returns-in-Err-clause-reads g c = part-reads _ _ _ _ c.in-Err.fault c.in-Err.ensures.reads
