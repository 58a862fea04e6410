use Rattle.std.proofs.Common.{rules, ◌≡◌, false, replicate}
use Rattle.ls_queue.proofs.bounded.Core.new.Goals as goal

pub returns : goal.returns
returns g c =
    let made = c.in_ok-with_capacity.ensures in
    let counts : c.in_ok-vec.field-0.items ≡ replicate c.args.sources 0 = search rules in
    let closed : c.in_ok-vec-2.field-0.items ≡ replicate c.args.sources false = search rules in (
      search rules,
      λ i. record {
        capacity = (made i).capacity;
        counts = counts i;
        closed = closed i;
        held = (made i).items;
      },
    )
