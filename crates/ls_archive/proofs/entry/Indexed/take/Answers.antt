use Rattle.std.proofs.Common.{[], length, ap, sym, ◌∙◌, append-nil, arith}
use Rattle.ls_stream.specs.View.Outlines.{outline_of}
use Rattle.ls_archive.proofs.CheckLemmas.{spelled_whole, entry_whole, entry_read}
use Rattle.ls_archive.proofs.entry.Indexed.take.Goals as goal

pub returns-then-headers-len-clause-none : goal.returns-then-headers-len-clause-none
returns-then-headers-len-clause-none c = λ f spells.
    let has = rw c.as_slice.ensures.value at c.in-Ok.ensures.ok in
    let none = spelled_whole c.outlines_follow_the_grammar.ensures.are_read c.args.bytes.now.items has.left has.outline f has.read spells in
    absurd (omega (arith, has.size, ap length none))

pub returns-in-Err-clause-none : goal.returns-in-Err-clause-none
returns-in-Err-clause-none c = λ f spells.
    c.in-Err.ensures.none c.args.bytes.now.items [] f (c.as_slice.ensures.value ∙ sym (append-nil c.args.bytes.now.items)) spells

pub returns-then-headers-len-clause-no_entry : goal.returns-then-headers-len-clause-no_entry
returns-then-headers-len-clause-no_entry c = λ entry is same.
    let has = rw c.as_slice.ensures.value at c.in-Ok.ensures.ok in
    let none = entry_whole c.args.bytes.now.items has.left has.outline entry has.read is same in
    absurd (omega (arith, has.size, ap length none))

pub returns-in-Err-clause-no_entry : goal.returns-in-Err-clause-no_entry
returns-in-Err-clause-no_entry c = λ entry is same.
    entry_read c.args.bytes.now.items c.in-Err.field-0 entry (ap outline_of (sym c.as_slice.ensures.value) ∙ c.in-Err.ensures.fault) is same
