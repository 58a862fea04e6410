use Rattle.std.proofs.Common.{◌≡◌, ◌≤◌, ◌++◌, length, take, decimal, codes, ap, ◌∙◌, arith}
use Rattle.std.specs.List.{flat_map}
use Rattle.std.proofs.lemmas.List.{take_all}
use Rattle.ls_film.specs.Listing.{kind_text, column, columns, line}
use Rattle.ls_film.proofs.listing.line.Goals as goal

pub returns-clause-text : goal.returns-clause-text
unfolding line columns
returns-clause-text c =
    let f = c.args.frame.now in
    let count : length (columns f) ≤ c.loop-column.column-index = omega arith in
    let all : take c.loop-column.column-index c.columns.result ≡ columns f =
    ap (take c.loop-column.column-index) c.columns.ensures ∙ take_all c.loop-column.column-index (columns f) count in
    c.in_ok-push_str-5.ensures.bytes
    ∙ ap (λ text. text ++ codes "\n") c.loop-column.invariant.text
    ∙ ap (λ numbers. (decimal c.args.number ++ codes " " ++ kind_text f.kind ++ flat_map column numbers) ++ codes "\n") all
