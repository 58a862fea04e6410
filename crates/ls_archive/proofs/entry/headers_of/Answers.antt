use Rattle.std.proofs.Common.{sym, ap, ◌∙◌}
use Rattle.ls_frame.specs.declared.frame.Form.{Form}
use Rattle.ls_archive.proofs.EntryLemmas.{used_few, none_outlined}
use Rattle.ls_archive.proofs.entry.headers_of.Goals as goal

pub returns-clause-ok : goal.returns-clause-ok
returns-clause-ok c =
    let skipped = rw c.in_ok-opening.ensures.bytes at c.in-Ok.ensures.ok in
    let from = skipped.4 in
    record {
      outline = skipped.0;
      left = skipped.1;
      read = skipped.2;
      size = skipped.3;
      few = used_few c.args.bytes.now skipped.1 skipped.0 c.in-Ok.used skipped.2 skipped.3;
      says = record {
        kind = from.kind ∙ sym (ap (λ (form : Form). form.kind) c.form-form.ensures.value);
        width = from.width ∙ sym (ap (λ (form : Form). form.width) c.form-form.ensures.value);
        height = from.height ∙ sym (ap (λ (form : Form). form.height) c.form-form.ensures.value);
        precision = from.precision ∙ sym c.precision.ensures;
        parameters = from.parameters ∙ sym c.presets.ensures;
      };
    }

pub returns-in-Err-clause-none : goal.returns-in-Err-clause-none
returns-in-Err-clause-none c =
    none_outlined c.outlines_follow_the_grammar.ensures.are_read c.args.bytes.now c.in-Err.fault (rw c.in_ok-opening.ensures.bytes at c.in-Err.ensures.fault)
