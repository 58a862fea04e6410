use Rattle.std.proofs.Common.{◌++◌, sym, ap, ◌∙◌}
use Rattle.std.proofs.lemmas.Result.{IfOk-weaker}
use Rattle.ls_film.specs.Coding.{default_file}
use Rattle.ls_film.proofs.FileLemmas.{default_file-push}
use Rattle.ls_film.proofs.coding.CodestreamTextTextFrame.chunk.Goals as goal

pub returns-clause-grows : goal.returns-clause-grows
returns-clause-grows c = λ f is. rw (sym is)
    (IfOk-weaker c.encode_frame.result _ _
    (λ chunk bytes frames count. default_file-push frames c.args.frame ∙ ap (λ s. default_file frames ++ s) (sym bytes))
    c.encode_frame.ensures.bytes)
