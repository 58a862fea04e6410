use Rattle.std.proofs.Common.{◌≡◌, ℕ, ◌+◌, ◌<◌, List, ◌∷◌, drop, get_or, sym, ◌∙◌, ap, arith}
use Rattle.std.proofs.lemmas.List.{drop_all}
use Rattle.std.proofs.lemmas.Result.{err_from_is_err_and}
use Rattle.ls_frame.specs.Picture.{components}
use Rattle.ls_stream.specs.View.Reading.{next_scan_at, end_at}
use Rattle.ls_stream.specs.View.Outlines.{ids_in, scans_at, rest_of}
use Rattle.ls_stream.proofs.FrameReadingLemmas.{next_id, ids_after, id_after}
use Rattle.ls_stream.proofs.SkipLemmas.{rest_more, rest_stopped, rest_last}
use Rattle.ls_stream.proofs.decode.skip_scans.Goals as goal

pub returns-in_err-rest : goal.returns-in_err-rest
returns-in_err-rest c =
    let header = c.args.header.now in
    let component : ℕ = c.loop-component.component in
    let later : List ℕ = drop 1 (ids_in header) in
    let id : ℕ = get_or header.ids (component + 1) 0 in
    let inside : component + 1 < components header.kind = omega (arith, c.loop-component-test.true, c.components.ensures, c.from-last.ensures) in
    let ids : drop component later ≡ id ∷ drop (component + 1) later =
    next_id later component (omega (arith, ids_after header c.requires.ids, inside)) ∙ ap (λ n. n ∷ drop (component + 1) later) (sym (id_after header component inside)) in
    let next = ap (λ xs. next_scan_at id xs) (sym c.after_data.ensures) ∙ c.in_err-rest.ensures in
    let fault = err_from_is_err_and c.from_residual.result c.from_residual.ensures.1 in
    rw (fault.1, fault.2)
    (c.loop-component.invariant.read ∙ ap (λ xs. rest_of (scans_at xs c.loop-component.rest.now)) ids
    ∙ rest_stopped id (drop (component + 1) later) c.loop-component.rest.now _ next)

pub loop-component-preserved : goal.loop-component-preserved
loop-component-preserved c =
    let header = c.args.header.now in
    let component : ℕ = c.loop-component.component in
    let later : List ℕ = drop 1 (ids_in header) in
    let id : ℕ = get_or header.ids (component + 1) 0 in
    let inside : component + 1 < components header.kind = omega (arith, c.loop-component-test.true, c.components.ensures, c.from-last.ensures) in
    let ids : drop component later ≡ id ∷ drop (component + 1) later =
    next_id later component (omega (arith, ids_after header c.requires.ids, inside)) ∙ ap (λ n. n ∷ drop (component + 1) later) (sym (id_after header component inside)) in
    let next = ap (λ xs. next_scan_at id xs) (sym c.after_data.ensures) ∙ c.in_ok-rest.ensures in
    record {
      read = c.loop-component.invariant.read ∙ ap (λ xs. rest_of (scans_at xs c.loop-component.rest.now)) ids
          ∙ rest_more id (drop (component + 1) later) c.loop-component.rest.now c.in_ok-rest.rest.now next;
    }

pub returns : goal.returns
returns c =
    let header = c.args.header.now in
    let component : ℕ = c.loop-component.component in
    let later : List ℕ = drop 1 (ids_in header) in
    let rest : List ℕ = c.loop-component.rest.now in
    let none = drop_all component later (omega (arith, ids_after header c.requires.ids, c.loop-component-test.false, c.components.ensures, c.from-last.ensures)) in
    let read : rest_of (scans_at later c.args.bytes.now) ≡ end_at c.after_data-2.result.now =
    c.loop-component.invariant.read ∙ ap (λ xs. rest_of (scans_at xs rest)) none ∙ rest_last rest ∙ ap end_at (sym c.after_data-2.ensures) in
    rw read c.find_end.ensures
