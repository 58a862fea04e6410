use Rattle.std.proofs.Common.{rules, ◌≡◌, ◌≤◌, ◌+◌, ◌-◌, ◌∙◌, Some, sym, ap, subst, take, length, get_or, slice_range}
use Rattle.ls_frame.specs.View.Known.{ArePassed, TakesPast}
use Rattle.ls_frame.proofs.MarkLemmas.{front-taken, chunk-one, chunk-past}
use Rattle.ls_frame.proofs.buffered.Buffered.append_past.Goals as goal

pub returns-then-most-eq1-clause-taken : goal.returns-then-most-eq1-clause-taken
returns-then-most-eq1-clause-taken g c =
    let now = c.args.self.now in
    chunk-one c.args.mark c.args.limit c.args.most now.chunk.items now.start now.end c.index-byte.result.now c.args.bytes.now.items c.push.new.self.items (search rules) (search rules) c.requires.some
    c.index-byte.ensures (search rules)

pub returns-clause-taken : goal.returns-clause-taken
returns-clause-taken g c =
    let now = c.args.self.now in
    let count = c.count_past-count in
    let before = c.args.bytes.now.items in
    let after = c.extend_from_slice.new.self.items in
    let same : c.deref.result.now ≡ now.chunk.items = search rules in
    let within : count.result ≤ length (take c.min.result (slice_range c.deref.result.now now.start now.end)) = count.ensures.within in
    let front = front-taken count.result c.min.result (slice_range c.deref.result.now now.start now.end) within in
    let passed = subst (ArePassed c.args.mark c.args.limit) (front ∙ ap (λ bs. take count.result (slice_range bs now.start now.end)) same) count.ensures.passed in
    subst
    (λ bs. TakesPast c.args.mark c.args.limit c.args.most (Some (slice_range now.chunk.items now.start now.end)) (Some (slice_range now.chunk.items (now.start + count.result) now.end)) before after
    (get_or (slice_range bs now.start now.end) (count.result - 1) 0))
    (sym same)
    (chunk-past c.args.mark c.args.limit c.args.most now.chunk.items now.start count.result now.end before after (search rules) count.ensures.some (search rules) (search rules) passed (search rules))
