use Rattle.std.proofs.Common.{◌≡◌, ℕ, List, [], Some, IfOk, IfErr, sym, ap, subst, ◌∙◌}
use Rattle.std.proofs.lemmas.Result.{IfOk-weaker}
use Rattle.ls_frame.specs.View.Devices.{wrapped}
use Rattle.ls_archive.specs.View.Indexing.{Completes, Stops}
use Rattle.ls_archive.proofs.FormLemmas.{index_of, stops_over, whole_index}
use Rattle.ls_archive.proofs.index.index_bytes.Goals as goal

pub returns-clause-completes : goal.returns-clause-completes
returns-clause-completes c =
    let sums = c.args.sums in
    let recording = c.args.recording.now in
    let left = Some c.write_index-ended.new.reader.now in
    let ended = c.write_index-ended.result in
    let none : (wrapped c.new-writer.result).items ≡ [] = ap (λ v. v.items) c.new-writer.ensures.inner ∙ c.new.ensures.items in
    let out : (wrapped c.write_index-ended.new.writer).items ≡ c.into_inner.result.items = sym (ap (λ v. v.items) c.into_inner.ensures) in
    IfOk-weaker ended (Completes sums (Some recording) left (Some []) (Some c.into_inner.result.items)) _ (index_of sums recording c.into_inner.result.items left)
    (subst (λ (written : List ℕ). IfOk ended (Completes sums (Some recording) left (Some []) (Some written))) out
    (subst (λ (written : List ℕ). IfOk ended (Completes sums (Some recording) left (Some written) (Some (wrapped c.write_index-ended.new.writer).items))) none
    c.write_index-ended.ensures.completes))

pub returns-clause-stops : goal.returns-clause-stops
returns-clause-stops c =
    let sums = c.args.sums in
    let recording = c.args.recording.now in
    let left = Some c.write_index-ended.new.reader.now in
    let ended = c.write_index-ended.result in
    let none : (wrapped c.new-writer.result).items ≡ [] = ap (λ v. v.items) c.new-writer.ensures.inner ∙ c.new.ensures.items in
    let out : (wrapped c.write_index-ended.new.writer).items ≡ c.into_inner.result.items = sym (ap (λ v. v.items) c.into_inner.ensures) in
    stops_over sums recording c.into_inner.result.items left ended c.write_index-ended.ensures.reads
    (subst (λ (written : List ℕ). IfErr ended (Stops sums (Some recording) left (Some []) (Some written))) out
    (subst (λ (written : List ℕ). IfErr ended (Stops sums (Some recording) left (Some written) (Some (wrapped c.write_index-ended.new.writer).items))) none
    c.write_index-ended.ensures.stops))

pub returns-clause-of_frames : goal.returns-clause-of_frames
returns-clause-of_frames c = λ frames few film.
    whole_index c.outlines_follow_the_grammar.ensures.are_read c.args.sums c.args.recording.now c.into_inner.result.items frames few film c.write_index-ended.result
    (returns-clause-completes c) (returns-clause-stops c)
