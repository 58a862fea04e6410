use Rattle.std.proofs.Common.{inl}
use Rattle.ls_archive.proofs.CheckedPartLemmas.{part-between, part-lacks, part-reads, part-reads-ok}
use Rattle.ls_archive.proofs.checking.part.check_between.Goals as goal

pub returns-in-Err-clause-index_reads : goal.returns-in-Err-clause-index_reads
returns-in-Err-clause-index_reads g c = part-reads _ _ _ _ c.in-Err.fault c.in-Err.ensures.index_reads

pub returns-in-Err-clause-reads : goal.returns-in-Err-clause-reads
returns-in-Err-clause-reads g c = part-reads _ _ _ _ c.in-Err.fault c.in-Err.ensures.reads

pub returns-then-ended-clause-stops : goal.returns-then-ended-clause-stops
returns-then-ended-clause-stops g c =
    part-lacks c.args.first c.args.offset (g.I.Read.remaining c.args.index.now) (g.I.Read.remaining c.check_lines.new.index) (g.R.Read.remaining c.args.recording.now) (g.R.Read.remaining c.check_lines.new.recording)
    (g.F.Findings.found c.args.findings.now) (g.F.Findings.found c.check_lines.new.findings)
    _ _ _ c.args.last _ c.if-ended.true c.in-Ok.ensures.checked (c.in-Ok.ensures.lacks c.if-ended.true)

pub returns-else-ended-clause-checked : goal.returns-else-ended-clause-checked
returns-else-ended-clause-checked g c =
    part-between c.args.first c.args.offset (g.I.Read.remaining c.args.index.now) (g.I.Read.remaining c.check_lines.new.index) (g.R.Read.remaining c.args.recording.now) (g.R.Read.remaining c.check_lines.new.recording)
    (g.F.Findings.found c.args.findings.now) (g.F.Findings.found c.check_lines.new.findings)
    _ _ _ c.args.last _ c.if-ended.false c.in-Ok.ensures.checked (c.in-Ok.ensures.all c.if-ended.false)

pub returns-then-ended-clause-index_reads : goal.returns-then-ended-clause-index_reads
returns-then-ended-clause-index_reads g c = inl (part-reads-ok _ _ _ _ c.in-Ok.ensures.index_reads)

pub returns-then-ended-clause-reads : goal.returns-then-ended-clause-reads
returns-then-ended-clause-reads g c = inl (part-reads-ok _ _ _ _ c.in-Ok.ensures.reads)

pub returns-else-ended-clause-index_reads : goal.returns-else-ended-clause-index_reads
returns-else-ended-clause-index_reads g c = inl (part-reads-ok _ _ _ _ c.in-Ok.ensures.index_reads)

pub returns-else-ended-clause-reads : goal.returns-else-ended-clause-reads
returns-else-ended-clause-reads g c = inl (part-reads-ok _ _ _ _ c.in-Ok.ensures.reads)
