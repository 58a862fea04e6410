use Rattle.std.proofs.Common.{◌≡◌, ◌⊎◌, ◌≤◌, ◌++◌, length, drop, refl, sym, ap, subst, ◌∙◌, arith}
use Rattle.std.proofs.lemmas.List.{length-take}
use Rattle.ls_stream.specs.declared.faults.StreamFault.TheVariants.{NoMemory}
use Rattle.ls_stream.specs.View.Outlines.{IsFirstFault}
use Rattle.ls_c.specs.Calls.{IsUnopened, but_its}
use Rattle.ls_c.proofs.DecodingLemmas.{unopened, stopped}
use Rattle.ls_c.proofs.OpeningLemmas.{decoded_of, fitting, all_fit, form_samples, front_numbers, laid_numbers, kept_numbers, beyond_numbers}
use Rattle.ls_c.proofs.coding.decode.Goals as goal

pub returns-in-Err : goal.returns-in-Err
returns-in-Err g c =
    let old = g.S.Sample.numbers c.args.samples.now in
    unopened g.S.Sample.most c.args.bytes.now old c.open.new.form 0 c.open.new.fault c.in-Err.refused
    (subst (λ most. IsUnopened most (length old) c.args.bytes.now c.open.new.form c.open.new.fault c.in-Err.refused) c.greatest.ensures
    (subst (λ room. IsUnopened c.greatest.result room c.args.bytes.now c.open.new.form c.open.new.fault c.in-Err.refused) (sym (g.met.S.Sample.one_each c.args.samples.now)) c.in-Err.ensures.refused)) refl

pub decode_at-requires-clause-samples : goal.decode_at-requires-clause-samples
decode_at-requires-clause-samples g c =
    front_numbers g.S.Sample.numbers g.met.S.Sample.one_each c.sample_count-count.result c.args.samples.now (omega (arith, c.in-Ok.ensures.fits.1, c.sample_count-count.ensures.value)) ∙ c.sample_count-count.ensures.value

pub returns-in-Ok-decode_at : goal.returns-in-Ok-decode_at
returns-in-Ok-decode_at g c =
    let numbers = g.S.Sample.numbers in
    let slots = c.args.samples.now in
    let places = c.decode_at.new.places in
    let inside : c.sample_count-count.result ≤ length slots = omega (arith, c.in-Ok.ensures.fits.1, c.sample_count-count.ensures.value) in
    let count : c.sample_count-count.result ≡ length (numbers places) = omega (arith, c.in-Ok-decode_at.ensures.ok.1.frame.formed.count, c.sample_count-count.ensures.value) in
    decoded_of g.S.Sample.most c.args.bytes.now (numbers slots) _ c.open.new.form c.in-Ok-decode_at.taken c.open.new.fault c.in-Ok.opening (numbers places)
    c.in-Ok.ensures.bytes
    (subst (λ most. c.in-Ok.opening.parameters.maxval ≤ most) c.greatest.ensures c.in-Ok.ensures.fits.0, omega (arith, g.met.S.Sample.one_each slots, c.in-Ok.ensures.fits.1))
    c.in-Ok.ensures.form c.in-Ok.ensures.spelled c.in-Ok-decode_at.ensures.ok c.in-Ok-decode_at.ensures.complete c.in-Ok.ensures.faultless
    (laid_numbers numbers g.met.S.Sample.one_each g.met.S.Sample.in_parts c.sample_count-count.result slots places inside ∙ ap (λ n. numbers places ++ drop n (numbers slots)) count)

pub returns-in-Err-decode_at : goal.returns-in-Err-decode_at
returns-in-Err-decode_at g c =
    let numbers = g.S.Sample.numbers in
    let slots = c.args.samples.now in
    let first = c.in-Err-decode_at.first in
    let places = c.decode_at.new.places in
    let count = c.sample_count-count.result in
    let inside : count ≤ length slots = omega (arith, c.in-Ok.ensures.fits.1, c.sample_count-count.ensures.value) in
    let many : length (numbers places) ≡ count = omega (arith, c.decode_at.auto.places, length-take count slots, g.met.S.Sample.one_each places, inside) in
    let laid = laid_numbers numbers g.met.S.Sample.one_each g.met.S.Sample.in_parts count slots places inside in
    stopped g.S.Sample.most c.args.bytes.now (numbers slots) _ _ 0 _ first
    (λ front rest f e s. c.in-Err-decode_at.ensures.complete front rest f (c.in-Ok.ensures.bytes ∙ e) s)
    (subst (λ bytes. (first ≡ NoMemory) ⊎ IsFirstFault bytes first) c.in-Ok.ensures.bytes c.in-Err-decode_at.ensures.first)
    (all_fit g.S.Sample.most (length (numbers slots)) c.args.bytes.now c.open.new.form c.in-Ok.opening
    (subst (λ most. c.in-Ok.opening.parameters.maxval ≤ most) c.greatest.ensures c.in-Ok.ensures.fits.0, omega (arith, g.met.S.Sample.one_each slots, c.in-Ok.ensures.fits.1))
    c.in-Ok.ensures.form)
    (λ _. fitting g.S.Sample.most (length (numbers slots)) c.args.bytes.now c.open.new.form c.in-Ok.opening
    (subst (λ most. c.in-Ok.opening.parameters.maxval ≤ most) c.greatest.ensures c.in-Ok.ensures.fits.0, omega (arith, g.met.S.Sample.one_each slots, c.in-Ok.ensures.fits.1))
    c.in-Ok.ensures.form)
    (λ e. kept_numbers numbers g.met.S.Sample.in_parts count slots places (c.in-Err-decode_at.ensures.kept e))
    (but_its c.open.new.form c.in-Ok.ensures.form.0
    (subst (λ n. drop n (numbers (places ++ drop count slots)) ≡ drop n (numbers slots)) (c.sample_count-count.ensures.value ∙ sym (form_samples c.in-Ok.opening c.open.new.form c.in-Ok.ensures.form.1))
    (beyond_numbers count (numbers places) (numbers slots) _ many laid)))
    c.details_of.ensures refl c.no_form.ensures
