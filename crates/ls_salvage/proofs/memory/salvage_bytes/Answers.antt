use Rattle.std.proofs.Common.{◌≡◌, length, refl, sym, ap, ◌∙◌, rules}
use Rattle.std.proofs.lemmas.Result.{IfOk-weaker}
use Rattle.ls_salvage.proofs.MemoryLemmas.{salvage_of, salvage_of_none, salvaged_whole, whole_none, no_bytes, no_failed_read}
use Rattle.ls_salvage.proofs.memory.salvage_bytes.Goals as goal

pub returns-clause-completes : goal.returns-clause-completes
returns-clause-completes c =
    let empty = ap (λ v. v.items) c.new-writer.ensures.inner ∙ c.new-3.ensures.items in
    let out = sym (ap (λ v. v.items) c.into_inner.ensures) in
    IfOk-weaker c.salvage-salvaged.result _ _
    (λ salvaged. salvage_of c.no_codestream_begins_another.ensures c.one_frame_each.ensures c.args.recording.now _ _ c.into_inner.result.items _ _ _ _ salvaged c.in-Ok.ensures empty out c.new-gaps.ensures.items)
    c.salvage-salvaged.ensures.completes

pub returns-clause-device : goal.returns-clause-device
returns-clause-device c = no_failed_read c.salvage-salvaged.result c.salvage-salvaged.ensures.reads

pub returns-clause-undamaged : goal.returns-clause-undamaged
returns-clause-undamaged c = λ frames few short film.
    salvaged_whole c.no_codestream_begins_another.ensures c.one_frame_each.ensures c.args.recording.now c.into_inner.result.items c.salvage-salvaged.new.gaps.items frames few short film
    c.salvage-salvaged.result _ _ _ _ _ c.in-Ok.ensures c.salvage-salvaged.ensures.reads (returns-clause-completes c) c.salvage-salvaged.ensures.stops

pub returns-in_default-clause-stops : goal.returns-in_default-clause-stops
returns-in_default-clause-stops c = search rules

pub returns-in_default-clause-device : goal.returns-in_default-clause-device
returns-in_default-clause-device c = refl

pub returns-in_default-clause-undamaged : goal.returns-in_default-clause-undamaged
returns-in_default-clause-undamaged c = λ frames few short film. tt

-- no bytes
pub returns-then-is_empty-clause-completes : goal.returns-then-is_empty-clause-completes
returns-then-is_empty-clause-completes c =
    let size : length c.args.recording.now ≡ 0 = search rules in
    salvage_of_none c.no_codestream_begins_another.ensures c.one_frame_each.ensures c.args.recording.now _ _ (no_bytes c.args.recording.now size) c.new.ensures.items c.new-gaps.ensures.items

pub returns-then-is_empty-clause-undamaged : goal.returns-then-is_empty-clause-undamaged
returns-then-is_empty-clause-undamaged c = λ frames few short film.
    let size : length c.args.recording.now ≡ 0 = search rules in
    whole_none 0 c.args.recording.now _ _ frames refl (no_bytes c.args.recording.now size) c.new.ensures.items c.new-gaps.ensures.items film
