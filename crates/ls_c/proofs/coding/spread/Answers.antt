use Rattle.std.proofs.Common.{◌≡◌, ℕ, ◌+◌, ◌-◌, ◌*◌, ◌<◌, ◌≤◌, List, length, length-drop, take, drop, get_or, inl, inr, sym, ◌∙◌, ap, arith}
use Rattle.std.proofs.lemmas.Bool.{cases_lt}
use Rattle.std.proofs.lemmas.List.{get_or_past, get_or-take, get_or-drop, length-take-le}
use Rattle.ls_c.proofs.SpreadLemmas.{earlier_row, row_inside, row_of_all}
use Rattle.ls_c.proofs.coding.spread.Goals as goal

-- a row among rows without gaps

part_length : (start row : ℕ) (apart : List ℕ) → start + row ≤ length apart → length (take (start + row - start) (drop start apart)) ≡ row
part_length start row apart inside = length-take-le (start + row - start) (drop start apart) (omega (arith, length-drop start apart)) ∙ omega arith

part_at : (start row j : ℕ) (apart : List ℕ) → j < row → get_or (take (start + row - start) (drop start apart)) j 0 ≡ get_or apart (start + j) 0
part_at start row j apart low = get_or-take (start + row - start) (drop start apart) j 0 (omega arith) ∙ get_or-drop start apart j 0

part_small : (most start row : ℕ) (apart : List ℕ) → start + row ≤ length apart → ((k : ℕ) → get_or apart k 0 ≤ most) → (k : ℕ) → get_or (take (start + row - start) (drop start apart)) k 0 ≤ most
part_small most start row apart inside small k =
    elim (cases_lt k row) [
      | inl low ↦ omega (arith, part_at start row k apart low, small (start + k))
      | inr far ↦
          let none : get_or (take (start + row - start) (drop start apart)) k 0 ≡ 0 = get_or_past (take (start + row - start) (drop start apart)) k 0 (omega (arith, part_length start row apart inside)) in omega arith
    ]

pub copy_row-requires-clause-fits : goal.copy_row-requires-clause-fits
copy_row-requires-clause-fits g c =
    let rows = c.args.rows.now in
    let number : ℕ = c.loop-number.number in
    part_small g.S.Sample.most (number * rows.row) rows.row c.args.apart.now
    (omega (arith, c.requires.count, row_of_all rows.row rows.height number c.loop-number-test.true)) c.requires.fits

pub copy_row-requires-clause-inside : goal.copy_row-requires-clause-inside
copy_row-requires-clause-inside g c =
    let rows = c.args.rows.now in
    let number : ℕ = c.loop-number.number in
    let inside : number * rows.row + rows.row ≤ length c.args.apart.now = omega (arith, c.requires.count, row_of_all rows.row rows.height number c.loop-number-test.true) in
    omega (
      arith,
      part_length (number * rows.row) rows.row c.args.apart.now inside,
      row_inside rows.row rows.stride rows.height number c.loop-number-test.true,
      c.requires.enough,
      c.loop-number.invariant.whole,
    )

pub loop-number-preserved : goal.loop-number-preserved
loop-number-preserved g c =
    let rows = c.args.rows.now in
    let number : ℕ = c.loop-number.number in
    let apart : List ℕ = c.args.apart.now in
    let start : ℕ = number * rows.row in
    let new = g.S.Sample.numbers c.copy_row.new.samples in
    let inside : start + rows.row ≤ length apart = omega (arith, c.requires.count, row_of_all rows.row rows.height number c.loop-number-test.true) in
    let size = part_length start rows.row apart inside in
    record {
      whole = c.copy_row.ensures.len ∙ c.loop-number.invariant.whole;
      stored = λ i j h low. elim (cases_lt i number) [
        | inl earlier ↦
            c.copy_row.ensures.kept (i * rows.stride + j) (λ column _. earlier_row rows.row rows.stride i j number column c.requires.wide earlier low)
            ∙ c.loop-number.invariant.stored i j earlier low
        | inr later ↦
            let same : i ≡ number = omega arith in
            ap (λ n. get_or new (n * rows.stride + j) 0) same
            ∙ c.copy_row.ensures.stored j (omega (arith, size))
            ∙ part_at start rows.row j apart low
            ∙ ap (λ n. get_or apart (n * rows.row + j) 0) (sym same)
      ];
      kept = λ k outside.
          c.copy_row.ensures.kept k (λ j low. outside number j c.loop-number-test.true (omega (arith, size)))
          ∙ c.loop-number.invariant.kept k outside;
    }
