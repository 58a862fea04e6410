use Rattle.std.proofs.Common.{◌≡◌, ◌≤◌, ◌++◌, length, take, decimal, codes, ap, ◌∙◌, arith}
use Rattle.std.specs.List.{flat_map}
use Rattle.std.proofs.lemmas.List.{take_all}
use Rattle.ls_film.specs.Listing.{kind_text, column}
use Rattle.ls_archive.specs.Index.{columns, sum_column, line}
use Rattle.ls_archive.proofs.index.line.Goals as goal

pub returns-clause-text : goal.returns-clause-text
unfolding line columns
returns-clause-text c =
    let e = c.args.indexed.now in
    let bytes = c.bytes-bytes.result.now in
    let sums = c.args.sums in
    let count : length (columns e) ≤ c.loop-column.column-index = omega arith in
    let all : take c.loop-column.column-index c.columns.result ≡ columns e =
    ap (take c.loop-column.column-index) c.columns.ensures ∙ take_all c.loop-column.column-index (columns e) count in
    c.in_ok-push_str-3.ensures.bytes
    ∙ ap (λ text. text ++ codes "\n") (c.in_ok-push_sum.ensures.pushed ∙ ap (λ text. text ++ sum_column sums bytes) c.loop-column.invariant.text)
    ∙ ap (λ numbers. (decimal c.args.number ++ column c.args.offset ++ column (length bytes) ++ codes " " ++ kind_text e.kind ++ flat_map column numbers)
    ++ sum_column sums bytes ++ codes "\n") all
    ∙ ap (λ bs. (decimal c.args.number ++ column c.args.offset ++ column (length bs) ++ codes " " ++ kind_text e.kind ++ flat_map column (columns e))
    ++ sum_column sums bs ++ codes "\n") c.bytes-bytes.ensures.value
