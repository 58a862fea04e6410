use Rattle.std.proofs.Common.{◌≡◌, ◌-◌, length, drop, length-drop, ◌∙◌, ap, arith}
use Rattle.std.proofs.lemmas.List.{take_all}
use Rattle.ls_stream.specs.View.Outlines.{data_length}
use Rattle.ls_stream.proofs.FrontLemmas.{data_length-only}
use Rattle.ls_inspect.proofs.markers.after_data.Goals as goal

pub returns : goal.returns
returns c =
    let bytes = c.args.bytes.now in
    let same : c.data_of.result.len ≡ data_length bytes = data_length-only bytes c.data_of.result.len c.data_of.ensures.len in
    take_all (length bytes - c.data_of.result.len) (drop c.data_of.result.len bytes) (omega (arith, length-drop c.data_of.result.len bytes))
    ∙ ap (λ n. drop n bytes) same
