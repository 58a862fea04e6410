use Rattle.std.proofs.Common.{rules, ◌≡◌, ℕ, Option, None, Some, sym, ap, ◌∙◌}
use Rattle.std.specs.Cmp.Lexicographic.{same_text}
use Rattle.std.proofs.lemmas.Option.{slice_get-get_or}
use Rattle.ls_archive.specs.declared.places.Wanted.{Wanted}
use Rattle.ls_archive.proofs.places.fits.Goals as goal

pub returns-then-one-count-clause-fits : goal.returns-then-one-count-clause-fits
returns-then-one-count-clause-fits c = λ fits.
    let one = c.in-Some.one.now in
    let given = c.in-Some-None.field-0.now in
    let none : given ≡ None = cc in
    let same = same_text c.as_slice.result.now c.as_slice-then-one-count.result.now (sym fits ∙ c.eq.ensures) in
    record {
      one = one;
      is = slice_get-get_or c.args.wanted.now c.args.number one c.in-Some.ensures.lookup.3.0 ∙ ap (λ (w : Wanted). Some w) (sym c.in-Some.ensures.lookup.1);
      none = slice_get-get_or c.args.places.now c.args.number given c.in-Some-None.ensures.lookup.3.0
          ∙ ap (λ (p : Option ℕ). Some p) (sym c.in-Some-None.ensures.lookup.1 ∙ none);
      size_is = search rules;
      sum_is = cc;
    }
