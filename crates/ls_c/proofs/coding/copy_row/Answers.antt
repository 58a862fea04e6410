use Rattle.std.proofs.Common.{◌≡◌, ℕ, ◌+◌, ◌<◌, length, get_or, inl, inr, sym, ◌∙◌, ap, arith}
use Rattle.std.proofs.Math.ListN.{set}
use Rattle.std.proofs.lemmas.Bool.{cases_lt}
use Rattle.std.proofs.lemmas.List.{get_or-set_same, get_or-set_other, length-set}
use Rattle.ls_c.proofs.coding.copy_row.Goals as goal

pub loop-column-preserved : goal.loop-column-preserved
loop-column-preserved g c =
    let column : ℕ = c.loop-column.column in
    let samples = g.S.Sample.numbers c.loop-column.samples in
    let place : ℕ = c.args.start + column in
    let sample : ℕ = get_or c.args.row.now column 0 in
    let inside : place < length samples = omega (arith, c.loop-column-test.true, c.loop-column.invariant.whole, c.requires.inside) in
    record {
      whole = ap length c.put.ensures ∙ length-set samples place sample ∙ c.loop-column.invariant.whole;
      stored = λ j h. elim (cases_lt j column) [
        | inl earlier ↦
            ap (λ xs. get_or xs (c.args.start + j) 0) c.put.ensures
            ∙ get_or-set_other samples place (c.args.start + j) sample 0 (λ e. absurd (omega arith))
            ∙ c.loop-column.invariant.stored j earlier
        | inr later ↦
            let same : j ≡ column = omega arith in
            ap (λ xs. get_or xs (c.args.start + j) 0) c.put.ensures
            ∙ ap (λ n. get_or (set samples place sample) (c.args.start + n) 0) same
            ∙ get_or-set_same samples place sample 0 inside ∙ ap (λ n. get_or c.args.row.now n 0) (sym same)
      ];
      kept = λ k h. ap (λ xs. get_or xs k 0) c.put.ensures ∙ get_or-set_other samples place k sample 0 (h column c.loop-column-test.true) ∙ c.loop-column.invariant.kept k h;
    }
