use Rattle.std.proofs.Common.{get_or, take, Fits, w8, Err, sym, ◌∙◌, ap, subst, arith}
use Rattle.ls_stream.specs.Grammar.{most_bytes}
use Rattle.ls_stream.specs.View.Reading.{HasOpening, opening_at}
use Rattle.ls_stream.specs.View.Outlines.{DecodingStops, at_opening}
use Rattle.ls_stream.proofs.FaultLaws.{opening_begins, stops_are_first_faults}
use Rattle.ls_stream.proofs.FirstFaultLaws.{opening_again, not_both}
use Rattle.ls_stream.proofs.MemoryLemmas.{memory_of_first, opening_needs_none}
use Rattle.ls_stream.proofs.FrameReadingLemmas.{are_bytes, bytes_take, no_opening}
use Rattle.ls_stream.proofs.SkipLemmas.{not_opened}
use Rattle.ls_stream.proofs.OpeningLemmas.{no_front, of_form, opening_says}
use Rattle.ls_stream.proofs.decode.Opening.read.Goals as goal

pub returns-in-Ok-clause-begins : goal.returns-in-Ok-clause-begins
returns-in-Ok-clause-begins c =
    let bytes = c.args.bytes.now in
    let are = bytes_take most_bytes bytes (are_bytes bytes (λ i. let fits : Fits w8 (get_or bytes i 0) = c.type_inv.bytes i in omega arith)) in
    opening_begins (take most_bytes bytes) are (subst HasOpening c.first_bytes.ensures (_, c.in-Ok.ensures.value))

pub returns-in-Ok-clause-says : goal.returns-in-Ok-clause-says
returns-in-Ok-clause-says c =
    let bytes = c.args.bytes.now in
    let are = bytes_take most_bytes bytes (are_bytes bytes (λ i. let fits : Fits w8 (get_or bytes i 0) = c.type_inv.bytes i in omega arith)) in
    opening_says bytes _ _ _ are (ap opening_at (sym c.first_bytes.ensures) ∙ c.in-Ok.ensures.value)

pub returns-in-Ok-clause-form : goal.returns-in-Ok-clause-form
returns-in-Ok-clause-form c = of_form c.args.bytes.now c.first_bytes.result.now _ _ _ c.first_bytes.ensures c.in-Ok.ensures.value

pub returns-in-Err-clause-none : goal.returns-in-Err-clause-none
returns-in-Err-clause-none c =
    no_front c.args.bytes.now c.first_bytes.result.now c.first_bytes.ensures (no_opening c.first_bytes.result.now c.in-Err.fault c.in-Err.ensures.value)

pub returns-in-Err-clause-first : goal.returns-in-Err-clause-first
returns-in-Err-clause-first c =
    let bytes = c.args.bytes.now in
    let are = bytes_take most_bytes bytes (are_bytes bytes (λ i. let fits : Fits w8 (get_or bytes i 0) = c.type_inv.bytes i in omega arith)) in (
      c.in-Err.fault,
      c.fault_of.ensures,
      stops_are_first_faults (take most_bytes bytes) c.in-Err.fault are
          (subst (λ first. DecodingStops first c.in-Err.fault) c.first_bytes.ensures (at_opening c.in-Err.ensures.value)),
    )

pub returns-in-Err-clause-unopened : goal.returns-in-Err-clause-unopened
returns-in-Err-clause-unopened c = λ begins.
    let bytes = c.args.bytes.now in
    let are = bytes_take most_bytes bytes (are_bytes bytes (λ i. let fits : Fits w8 (get_or bytes i 0) = c.type_inv.bytes i in omega arith)) in
    not_both (take most_bytes bytes) c.in-Err.fault (opening_again (take most_bytes bytes) are begins) (ap opening_at (sym c.first_bytes.ensures) ∙ c.in-Err.ensures.value)

pub returns-in-Err-clause-outline : goal.returns-in-Err-clause-outline
returns-in-Err-clause-outline c =
    not_opened c.args.bytes.now c.first_bytes.result.now c.in-Err.fault c.first_bytes.ensures c.in-Err.ensures.value ∙ ap Err (sym c.fault_of.ensures)

pub returns-in-Err-clause-memory : goal.returns-in-Err-clause-memory
returns-in-Err-clause-memory c = λ e.
    opening_needs_none c.first_bytes.result.now
    (c.in-Err.ensures.value ∙ ap Err (memory_of_first c.args.bytes.now c.in-Err.fault (sym c.fault_of.ensures ∙ e)))
