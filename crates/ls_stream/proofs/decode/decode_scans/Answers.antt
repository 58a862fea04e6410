use Rattle.std.proofs.Common.{◌≡◌, ℕ, ◌+◌, ◌-◌, ◌<◌, drop, get_or, refl, sym, ◌∙◌, ap, subst, arith}
use Rattle.std.proofs.lemmas.List.{drop_all}
use Rattle.std.proofs.lemmas.Result.{err_from_is_err_and}
use Rattle.ls_frame.specs.Picture.{components}
use Rattle.ls_coding.proofs.RegularLemmas.{err_always}
use Rattle.ls_stream.specs.Components.{arranged}
use Rattle.ls_stream.specs.View.Reading.{next_scan_at, end_at}
use Rattle.ls_stream.specs.View.Outlines.{ids_in}
use Rattle.ls_stream.proofs.FrameLemmas.{some_components}
use Rattle.ls_stream.proofs.FrameReadingLemmas.{IsReadTo, none_read, one_more_scan, all_scans, no_data, no_next_scan, no_end, gives_ok, gives_err, gives_fault, data_breaks, stopped_at_data, stopped_after_data, stopped_at_end, ids_after, id_after, scan_read, no_scan_read}
use Rattle.ls_stream.proofs.decode.decode_scans.Goals as goal

pub loop-component-init : goal.loop-component-init
loop-component-init g c =
    let header = c.args.header.now in
    record {
      lines = refl;
      len = refl;
      small = c.requires.small;
      read = none_read c.args.presets.now header.width header.height (components header.kind) (drop 1 (ids_in header)) c.args.bytes.now (arranged c.args.arrangement (components header.kind) (g.S.Sample.numbers c.args.samples.now));
    }

pub returns-in_err-after-clause-none : goal.returns-in_err-after-clause-none
returns-in_err-after-clause-none g c =
    let header = c.args.header.now in
    let p = c.args.presets.now in
    err_always c.from_residual.result _
    (no_data p header.width header.height (components header.kind) c.loop-component.component (drop 1 (ids_in header)) c.args.bytes.now c.loop-component.rest.now (arranged c.args.arrangement (components header.kind) (g.S.Sample.numbers c.loop-component.samples))
    c.loop-component.invariant.read (omega (arith, c.loop-component-test.true, c.shape_of-shape.ensures.count))
    (no_scan_read p c.shape_of-shape.result.width c.shape_of-shape.result.height header.width header.height c.loop-component.rest.now
    c.shape_of-shape.ensures.width c.shape_of-shape.ensures.height c.in_err-after.ensures.none))

pub returns-in_err-rest-clause-none : goal.returns-in_err-rest-clause-none
returns-in_err-rest-clause-none g c =
    let header = c.args.header.now in
    let p = c.args.presets.now in
    let component : ℕ = c.loop-component.component in
    let inside : component + 1 < components header.kind = omega (arith, c.loop-component-test.true, c.shape_of-shape.ensures.count) in
    let next = ap (λ xs. next_scan_at (get_or header.ids (component + 1) 0) xs) (sym c.in_ok-after.ensures.rest) ∙ c.in_err-rest.ensures in
    err_always c.from_residual-in_err-rest.result _
    (no_next_scan p header.width header.height (components header.kind) component (get_or header.ids (component + 1) 0) (drop 1 (ids_in header)) c.args.bytes.now c.loop-component.rest.now (arranged c.args.arrangement (components header.kind) (g.S.Sample.numbers c.loop-component.samples)) _
    c.loop-component.invariant.read (omega (arith, ids_after header c.requires.ids)) (id_after header component inside) next)

pub loop-component-preserved : goal.loop-component-preserved
loop-component-preserved g c =
    let header = c.args.header.now in
    let p = c.args.presets.now in
    let component : ℕ = c.loop-component.component in
    let shape = c.shape_of-shape.result in
    let inside : component + 1 < components header.kind = omega (arith, c.loop-component-test.true, c.shape_of-shape.ensures.count) in
    let next = ap (λ xs. next_scan_at (get_or header.ids (component + 1) 0) xs) (sym c.in_ok-after.ensures.rest) ∙ c.in_ok-rest.ensures in
    let whole = c.loop-component.invariant.len ∙ c.requires.samples in
    let read = scan_read c.args.arrangement p shape.width shape.height shape.components header.width header.height (components header.kind) component c.loop-component.rest.now (g.S.Sample.numbers c.loop-component.samples) (g.S.Sample.numbers c.decode_data.new.samples)
    c.shape_of-shape.ensures.width c.shape_of-shape.ensures.height c.shape_of-shape.ensures.count (omega (arith, c.loop-component-test.true)) whole
    c.in_ok-after.ensures.coded c.in_ok-after.ensures.only c.decode_data.ensures.others c.decode_data.ensures.len c.decode_data.ensures.small in
    record {
      lines = c.decode_data.ensures.lines ∙ c.loop-component.invariant.lines;
      len = c.decode_data.ensures.len ∙ c.loop-component.invariant.len;
      small = c.decode_data.ensures.small;
      read = one_more_scan p header.width header.height (components header.kind) component (get_or header.ids (component + 1) 0) (drop 1 (ids_in header)) c.args.bytes.now c.loop-component.rest.now c.in_ok-rest.rest.now
          (arranged c.args.arrangement (components header.kind) (g.S.Sample.numbers c.loop-component.samples)) (arranged c.args.arrangement (components header.kind) (g.S.Sample.numbers c.decode_data.new.samples)) c.loop-component.invariant.read read (omega (arith, ids_after header c.requires.ids)) (id_after header component inside) next;
    }

pub returns-in_err-after-2-clause-none : goal.returns-in_err-after-2-clause-none
returns-in_err-after-2-clause-none g c =
    let header = c.args.header.now in
    let p = c.args.presets.now in
    let last : c.loop-component.component ≡ c.shape_of-shape.result.components - 1 = omega (arith, c.loop-component-test.false, c.loop-component.auto.component-end) in
    err_always c.from_residual-in_err-after-2.result _
    (no_data p header.width header.height (components header.kind) c.loop-component.component (drop 1 (ids_in header)) c.args.bytes.now c.loop-component.rest.now (arranged c.args.arrangement (components header.kind) (g.S.Sample.numbers c.loop-component.samples))
    c.loop-component.invariant.read (omega (arith, last, c.shape_of-shape.ensures.count, some_components header.kind))
    (no_scan_read p c.shape_of-shape.result.width c.shape_of-shape.result.height header.width header.height c.loop-component.rest.now
    c.shape_of-shape.ensures.width c.shape_of-shape.ensures.height c.in_err-after-2.ensures.none))

pub returns-clause-scans : goal.returns-clause-scans
returns-clause-scans g c =
    let header = c.args.header.now in
    let p = c.args.presets.now in
    let shape = c.shape_of-shape.result in
    let last : c.loop-component.component ≡ shape.components - 1 = omega (arith, c.loop-component-test.false, c.loop-component.auto.component-end) in
    let whole = c.loop-component.invariant.len ∙ c.requires.samples in
    let read = scan_read c.args.arrangement p shape.width shape.height shape.components header.width header.height (components header.kind) (shape.components - 1) c.loop-component.rest.now (g.S.Sample.numbers c.loop-component.samples) (g.S.Sample.numbers c.decode_data-2.new.samples)
    c.shape_of-shape.ensures.width c.shape_of-shape.ensures.height c.shape_of-shape.ensures.count (omega (arith, last, c.shape_of-shape.ensures.count, some_components header.kind)) whole
    c.in_ok-after-2.ensures.coded c.in_ok-after-2.ensures.only c.decode_data-2.ensures.others c.decode_data-2.ensures.len c.decode_data-2.ensures.small in
    gives_ok (λ rest. rest.now) c.find_end.result (end_at c.in_ok-after-2.after.now) _ c.find_end.ensures
    (λ rest e.
    all_scans p header.width header.height (components header.kind) (shape.components - 1) (drop 1 (ids_in header)) c.args.bytes.now c.loop-component.rest.now rest.now (arranged c.args.arrangement (components header.kind) (g.S.Sample.numbers c.loop-component.samples)) (arranged c.args.arrangement (components header.kind) (g.S.Sample.numbers c.decode_data-2.new.samples))
    (subst (λ n. IsReadTo p header.width header.height (components header.kind) (drop 1 (ids_in header)) c.args.bytes.now c.loop-component.rest.now n (arranged c.args.arrangement (components header.kind) (g.S.Sample.numbers c.loop-component.samples))) last c.loop-component.invariant.read)
    read (drop_all (shape.components - 1) (drop 1 (ids_in header)) (omega (arith, ids_after header c.requires.ids, c.shape_of-shape.ensures.count))) (omega (arith, c.shape_of-shape.ensures.count, last, some_components header.kind))
    (ap end_at (sym c.in_ok-after-2.ensures.rest) ∙ e))

pub returns-clause-none : goal.returns-clause-none
returns-clause-none g c =
    let header = c.args.header.now in
    let p = c.args.presets.now in
    let last : c.loop-component.component ≡ c.shape_of-shape.result.components - 1 = omega (arith, c.loop-component-test.false, c.loop-component.auto.component-end) in
    gives_err (λ rest. rest.now) c.find_end.result (end_at c.in_ok-after-2.after.now) _ c.find_end.ensures
    (λ fault e.
    no_end p header.width header.height (components header.kind) c.loop-component.component (drop 1 (ids_in header)) c.args.bytes.now c.loop-component.rest.now (arranged c.args.arrangement (components header.kind) (g.S.Sample.numbers c.loop-component.samples)) fault
    c.loop-component.invariant.read (drop_all c.loop-component.component (drop 1 (ids_in header)) (omega (arith, ids_after header c.requires.ids, c.shape_of-shape.ensures.count, last)))
    (ap end_at (sym c.in_ok-after-2.ensures.rest) ∙ e))

-- ---- where it stops

pub returns-in_err-after-clause-stops : goal.returns-in_err-after-clause-stops
returns-in_err-after-clause-stops g c =
    let header = c.args.header.now in
    let p = c.args.presets.now in
    let fault = err_from_is_err_and c.from_residual.result c.from_residual.ensures.1 in
    rw (fault.1, fault.2)
    (stopped_at_data p header.width header.height (components header.kind) c.loop-component.component (drop 1 (ids_in header)) c.args.bytes.now c.loop-component.rest.now (arranged c.args.arrangement (components header.kind) (g.S.Sample.numbers c.loop-component.samples)) _
    c.loop-component.invariant.read
    (data_breaks p c.shape_of-shape.result.width c.shape_of-shape.result.height c.loop-component.component header.width header.height c.loop-component.component c.loop-component.rest.now _
    c.shape_of-shape.ensures.width c.shape_of-shape.ensures.height refl c.in_err-after.ensures.breaks))

pub returns-in_err-rest-clause-stops : goal.returns-in_err-rest-clause-stops
returns-in_err-rest-clause-stops g c =
    let header = c.args.header.now in
    let p = c.args.presets.now in
    let component : ℕ = c.loop-component.component in
    let shape = c.shape_of-shape.result in
    let inside : component + 1 < components header.kind = omega (arith, c.loop-component-test.true, c.shape_of-shape.ensures.count) in
    let next = ap (λ xs. next_scan_at (get_or header.ids (component + 1) 0) xs) (sym c.in_ok-after.ensures.rest) ∙ c.in_err-rest.ensures in
    let whole = c.loop-component.invariant.len ∙ c.requires.samples in
    let read = scan_read c.args.arrangement p shape.width shape.height shape.components header.width header.height (components header.kind) component c.loop-component.rest.now (g.S.Sample.numbers c.loop-component.samples) (g.S.Sample.numbers c.decode_data.new.samples)
    c.shape_of-shape.ensures.width c.shape_of-shape.ensures.height c.shape_of-shape.ensures.count (omega (arith, c.loop-component-test.true)) whole
    c.in_ok-after.ensures.coded c.in_ok-after.ensures.only c.decode_data.ensures.others c.decode_data.ensures.len c.decode_data.ensures.small in
    let fault = err_from_is_err_and c.from_residual-in_err-rest.result c.from_residual-in_err-rest.ensures.1 in
    rw (fault.1, fault.2)
    (stopped_after_data p header.width header.height (components header.kind) component (get_or header.ids (component + 1) 0) (drop 1 (ids_in header)) c.args.bytes.now c.loop-component.rest.now (arranged c.args.arrangement (components header.kind) (g.S.Sample.numbers c.loop-component.samples)) (arranged c.args.arrangement (components header.kind) (g.S.Sample.numbers c.decode_data.new.samples)) _
    c.loop-component.invariant.read read (omega (arith, ids_after header c.requires.ids)) (id_after header component inside) next)

pub returns-in_err-after-2-clause-stops : goal.returns-in_err-after-2-clause-stops
returns-in_err-after-2-clause-stops g c =
    let header = c.args.header.now in
    let p = c.args.presets.now in
    let last : c.loop-component.component ≡ c.shape_of-shape.result.components - 1 = omega (arith, c.loop-component-test.false, c.loop-component.auto.component-end) in
    let fault = err_from_is_err_and c.from_residual-in_err-after-2.result c.from_residual-in_err-after-2.ensures.1 in
    rw (fault.1, fault.2)
    (stopped_at_data p header.width header.height (components header.kind) c.loop-component.component (drop 1 (ids_in header)) c.args.bytes.now c.loop-component.rest.now (arranged c.args.arrangement (components header.kind) (g.S.Sample.numbers c.loop-component.samples)) _
    c.loop-component.invariant.read
    (data_breaks p c.shape_of-shape.result.width c.shape_of-shape.result.height (c.shape_of-shape.result.components - 1) header.width header.height c.loop-component.component c.loop-component.rest.now _
    c.shape_of-shape.ensures.width c.shape_of-shape.ensures.height (sym last) c.in_err-after-2.ensures.breaks))

pub returns-clause-stops : goal.returns-clause-stops
returns-clause-stops g c =
    let header = c.args.header.now in
    let p = c.args.presets.now in
    let shape = c.shape_of-shape.result in
    let last : c.loop-component.component ≡ shape.components - 1 = omega (arith, c.loop-component-test.false, c.loop-component.auto.component-end) in
    let whole = c.loop-component.invariant.len ∙ c.requires.samples in
    let read = scan_read c.args.arrangement p shape.width shape.height shape.components header.width header.height (components header.kind) (shape.components - 1) c.loop-component.rest.now (g.S.Sample.numbers c.loop-component.samples) (g.S.Sample.numbers c.decode_data-2.new.samples)
    c.shape_of-shape.ensures.width c.shape_of-shape.ensures.height c.shape_of-shape.ensures.count (omega (arith, last, c.shape_of-shape.ensures.count, some_components header.kind)) whole
    c.in_ok-after-2.ensures.coded c.in_ok-after-2.ensures.only c.decode_data-2.ensures.others c.decode_data-2.ensures.len c.decode_data-2.ensures.small in
    gives_fault (λ rest. rest.now) c.find_end.result (end_at c.in_ok-after-2.after.now) _ c.find_end.ensures
    (λ fault e.
    stopped_at_end p header.width header.height (components header.kind) (shape.components - 1) (drop 1 (ids_in header)) c.args.bytes.now c.loop-component.rest.now (arranged c.args.arrangement (components header.kind) (g.S.Sample.numbers c.loop-component.samples)) (arranged c.args.arrangement (components header.kind) (g.S.Sample.numbers c.decode_data-2.new.samples)) fault
    (subst (λ n. IsReadTo p header.width header.height (components header.kind) (drop 1 (ids_in header)) c.args.bytes.now c.loop-component.rest.now n (arranged c.args.arrangement (components header.kind) (g.S.Sample.numbers c.loop-component.samples))) last c.loop-component.invariant.read)
    read (drop_all (shape.components - 1) (drop 1 (ids_in header)) (omega (arith, ids_after header c.requires.ids, c.shape_of-shape.ensures.count)))
    (ap end_at (sym c.in_ok-after-2.ensures.rest) ∙ e))
