use Rattle.std.proofs.Common.{◌≡◌, ◌-◌, ◌+◌, List, ℕ, length, take, Ok, Err, refl, subst}
use Rattle.ls_stream.specs.Grammar.{most_bytes}
use Rattle.ls_stream.specs.View.Outlines.{Outline, outline_of}
use Rattle.ls_stream.specs.View.Openings.{Opened, IsOutlineFrom}
use Rattle.ls_stream.proofs.FrameReadingLemmas.{bytes_take, opening_ids}
use Rattle.ls_stream.proofs.SkipLemmas.{skipped, not_skipped}
use Rattle.ls_stream.proofs.decode.Opening.skip.Goals as goal

pub skip_scans-requires : goal.skip_scans-requires
skip_scans-requires c =
    let o = c.self.inside in
    record { ids = opening_ids (take most_bytes o.bytes.now) o.header o.presets o.rest.now (bytes_take most_bytes o.bytes.now c.self.invariant.are) c.self.invariant.read }

pub overflow_sub-result : goal.overflow_sub-result
overflow_sub-result c =
    let o = c.self.inside in
    let opened : Opened = record { bytes = o.bytes.now; precision = o.header.precision; kind = o.header.kind; width = o.header.width; height = o.header.height; parameters = o.presets } in
    rw c.first_bytes.ensures
    (skipped opened o.header o.presets o.rest.now c.in-Ok.left.now (bytes_take most_bytes o.bytes.now c.self.invariant.are) c.self.invariant.read c.in-Ok.ensures refl refl refl refl refl).0

pub returns-in-Ok-clause-ok : goal.returns-in-Ok-clause-ok
returns-in-Ok-clause-ok c =
    let o = c.self.inside in
    let opened : Opened = record { bytes = o.bytes.now; precision = o.header.precision; kind = o.header.kind; width = o.header.width; height = o.header.height; parameters = o.presets } in
    let found = (skipped opened o.header o.presets o.rest.now c.in-Ok.left.now (bytes_take most_bytes o.bytes.now c.self.invariant.are) c.self.invariant.read c.in-Ok.ensures refl refl refl refl refl).1 in
    subst (λ (opened : Opened). (o : Outline) × (all : List ℕ) × (outline_of opened.bytes ≡ Ok (o, all))
    × (length c.first_bytes.result.now - length c.in-Ok.left.now + length all ≡ length opened.bytes) × IsOutlineFrom opened o) c.self.view_is
    (rw c.first_bytes.ensures found)

pub returns-in-Err-clause-fault : goal.returns-in-Err-clause-fault
returns-in-Err-clause-fault c =
    let o = c.self.inside in
    subst (λ (opened : Opened). outline_of opened.bytes ≡ Err c.fault_of.result) c.self.view_is
    (rw c.fault_of.ensures (not_skipped o.bytes.now o.header o.presets o.rest.now c.in-Err.cause c.self.invariant.read c.in-Err.ensures))
