use Rattle.std.proofs.Common.{◌≡◌, ◌∙◌, ℕ, length, ap, sym, subst}
use Rattle.std.specs.Prelude.{Option}
use Rattle.ls_frame.specs.declared.samples.Samples.{Samples}
use Rattle.ls_frame.specs.View.Numbers.{numbers, most_of}
use Rattle.ls_c.specs.declared.form.JlsrecForm.{JlsrecForm}
use Rattle.ls_c.specs.declared.refusal.Refusal.{Refusal}
use Rattle.ls_c.specs.declared.request.Layout.{Layout}
use Rattle.ls_c.specs.declared.request.Request.{Request}
use Rattle.ls_c.specs.Forms.{request_refusal, rows_of}
use Rattle.ls_c.specs.Requests.{IsRequest}
use Rattle.ls_c.proofs.EncodingLemmas.{refused, answered, joined_count, adjacent_rows}
use Rattle.ls_c.proofs.coding.encode.Goals as goal

-- what the request's call ensures, of the samples themselves
found_of : (samples : Samples) (form : JlsrecForm) (layout : Layout) (most count : ℕ) (found : Option Refusal) → most ≡ most_of samples → count ≡ length (numbers samples)
    → request_refusal most form layout count ≡ found → request_refusal (most_of samples) form layout (length (numbers samples)) ≡ found
found_of samples form layout most count found m n e =
    ap (λ k. request_refusal k form layout (length (numbers samples))) (sym m) ∙ ap (request_refusal most form layout) (sym n) ∙ e

asked_of : (samples : Samples) (form : JlsrecForm) (layout : Layout) (count : ℕ) (request : Request) → count ≡ length (numbers samples) → IsRequest request form layout count
    → IsRequest request form layout (length (numbers samples))
asked_of samples form layout count request n is = subst (IsRequest request form layout) n is

-- the same samples have the same rows
rows_in : {samples others : Samples} (request : Request) → samples ≡ others
    → rows_of request.rows.row request.rows.stride request.rows.height (numbers samples) ≡ rows_of request.rows.row request.rows.stride request.rows.height (numbers others)
rows_in request e = ap (λ (s : Samples). rows_of request.rows.row request.rows.stride request.rows.height (numbers s)) e

pub returns-in-Err : goal.returns-in-Err
returns-in-Err c =
    refused (most_of c.args.samples) c.args.form.now c.args.layout (numbers c.args.samples) c.args.bytes.now c.in-Err.refused
    (found_of c.args.samples c.args.form.now c.args.layout _ _ _ (c.from-most.ensures ∙ c.most.ensures) c.len.ensures c.in-Err.ensures.exactly)

pub encode_joined-requires-clause-count : goal.encode_joined-requires-clause-count
encode_joined-requires-clause-count c =
    let asked = asked_of c.args.samples c.args.form.now c.args.layout _ c.in-Ok.request c.len.ensures c.in-Ok.ensures.asked in
    joined_count c.args.form.now c.args.layout (numbers c.args.samples) (numbers c.in-Some.samples) c.in-Ok.request asked
    (adjacent_rows c.args.form.now c.args.layout (numbers c.args.samples) (numbers c.in-Some.samples) c.in-Ok.request asked c.in-Some.ensures.0 c.in-Some.ensures.1)

pub returns-in-Some : goal.returns-in-Some
returns-in-Some c =
    let asked = asked_of c.args.samples c.args.form.now c.args.layout _ c.in-Ok.request c.len.ensures c.in-Ok.ensures.asked in
    answered (most_of c.args.samples) c.args.form.now c.args.layout (numbers c.args.samples) (numbers c.in-Some.samples) c.args.bytes.now c.encode_joined.new.bytes c.encode_joined.new.written
    c.in-Ok.request c.encode_joined.result
    (found_of c.args.samples c.args.form.now c.args.layout _ _ _ (c.from-most.ensures ∙ c.most.ensures) c.len.ensures c.in-Ok.ensures.exactly)
    asked (adjacent_rows c.args.form.now c.args.layout (numbers c.args.samples) (numbers c.in-Some.samples) c.in-Ok.request asked c.in-Some.ensures.0 c.in-Some.ensures.1)
    (record {
      exactly = c.encode_joined.ensures.exactly;
      frame = c.encode_joined.ensures.frame;
      done = c.encode_joined.ensures.done;
      count = c.encode_joined.ensures.written;
      spells = c.encode_joined.ensures.spells;
      kept = c.encode_joined.ensures.kept;
      need = c.encode_joined.ensures.need;
      none = c.encode_joined.ensures.none;
    })

pub encode_joined-requires-in-Bytes-clause-count : goal.encode_joined-requires-in-Bytes-clause-count
encode_joined-requires-in-Bytes-clause-count c =
    let asked = asked_of c.args.samples c.args.form.now c.args.layout _ c.in-Ok.request c.len.ensures c.in-Ok.ensures.asked in
    joined_count c.args.form.now c.args.layout (numbers c.args.samples) (c.deref.result.now) c.in-Ok.request asked (c.deref.ensures.value ∙ c.in_ok-joined-in-Bytes.ensures ∙ rows_in c.in-Ok.request (sym c.in-Bytes.is))

pub returns-in_ok-joined-in-Bytes : goal.returns-in_ok-joined-in-Bytes
returns-in_ok-joined-in-Bytes c =
    let asked = asked_of c.args.samples c.args.form.now c.args.layout _ c.in-Ok.request c.len.ensures c.in-Ok.ensures.asked in
    answered (most_of c.args.samples) c.args.form.now c.args.layout (numbers c.args.samples) (c.deref.result.now) c.args.bytes.now c.encode_joined-in-Bytes.new.bytes c.encode_joined-in-Bytes.new.written
    c.in-Ok.request c.encode_joined-in-Bytes.result
    (found_of c.args.samples c.args.form.now c.args.layout _ _ _ (c.from-most.ensures ∙ c.most.ensures) c.len.ensures c.in-Ok.ensures.exactly)
    asked (c.deref.ensures.value ∙ c.in_ok-joined-in-Bytes.ensures ∙ rows_in c.in-Ok.request (sym c.in-Bytes.is))
    (record {
      exactly = c.encode_joined-in-Bytes.ensures.exactly;
      frame = c.encode_joined-in-Bytes.ensures.frame;
      done = c.encode_joined-in-Bytes.ensures.done;
      count = c.encode_joined-in-Bytes.ensures.written;
      spells = c.encode_joined-in-Bytes.ensures.spells;
      kept = c.encode_joined-in-Bytes.ensures.kept;
      need = c.encode_joined-in-Bytes.ensures.need;
      none = c.encode_joined-in-Bytes.ensures.none;
    })

pub encode_joined-requires-in-Words-clause-count : goal.encode_joined-requires-in-Words-clause-count
encode_joined-requires-in-Words-clause-count c =
    let asked = asked_of c.args.samples c.args.form.now c.args.layout _ c.in-Ok.request c.len.ensures c.in-Ok.ensures.asked in
    joined_count c.args.form.now c.args.layout (numbers c.args.samples) (c.deref-in-Words.result.now) c.in-Ok.request asked (c.deref-in-Words.ensures.value ∙ c.in_ok-joined-in-Words.ensures ∙ rows_in c.in-Ok.request (sym c.in-Words.is))

pub returns-in_ok-joined-in-Words : goal.returns-in_ok-joined-in-Words
returns-in_ok-joined-in-Words c =
    let asked = asked_of c.args.samples c.args.form.now c.args.layout _ c.in-Ok.request c.len.ensures c.in-Ok.ensures.asked in
    answered (most_of c.args.samples) c.args.form.now c.args.layout (numbers c.args.samples) (c.deref-in-Words.result.now) c.args.bytes.now c.encode_joined-in-Words.new.bytes c.encode_joined-in-Words.new.written
    c.in-Ok.request c.encode_joined-in-Words.result
    (found_of c.args.samples c.args.form.now c.args.layout _ _ _ (c.from-most.ensures ∙ c.most.ensures) c.len.ensures c.in-Ok.ensures.exactly)
    asked (c.deref-in-Words.ensures.value ∙ c.in_ok-joined-in-Words.ensures ∙ rows_in c.in-Ok.request (sym c.in-Words.is))
    (record {
      exactly = c.encode_joined-in-Words.ensures.exactly;
      frame = c.encode_joined-in-Words.ensures.frame;
      done = c.encode_joined-in-Words.ensures.done;
      count = c.encode_joined-in-Words.ensures.written;
      spells = c.encode_joined-in-Words.ensures.spells;
      kept = c.encode_joined-in-Words.ensures.kept;
      need = c.encode_joined-in-Words.ensures.need;
      none = c.encode_joined-in-Words.ensures.none;
    })
