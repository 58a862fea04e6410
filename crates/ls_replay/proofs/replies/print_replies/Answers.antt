use Rattle.std.proofs.Common.{◌≡◌, ◌+◌, ◌-◌, ◌^◌, ◌<◌, min, length, arith, rules}
use Rattle.ls_replay.proofs.ReplyLemmas.{piece_broken_off, piece_part}
use Rattle.ls_replay.proofs.replies.print_replies.Goals as goal

pub returns-in-Err-clause-fault : goal.returns-in-Err-clause-fault
returns-in-Err-clause-fault g c =
    let inside : c.loop-reply.reply-index < length c.args.replies.now = omega arith in
    let total : c.saturating_add.result ≡ min (c.loop-reply.written + c.in-Err.fault.written) (2 ^ 64 - 1) = search rules in
    piece_broken_off _ _ _ c.args.replies.now c.loop-reply.reply-index c.loop-reply.written c.in-Err.fault.written c.saturating_add.result _ _ inside c.put_reply-end.ensures.laid c.in-Err.ensures.part c.loop-reply.invariant.written total
    c.loop-reply.invariant.wrote c.in-Err.ensures.fault

pub returns-in-Err-clause-part : goal.returns-in-Err-clause-part
returns-in-Err-clause-part g c =
    let inside : c.loop-reply.reply-index < length c.args.replies.now = omega arith in
    let total : c.saturating_add.result ≡ min (c.loop-reply.written + c.in-Err.fault.written) (2 ^ 64 - 1) = search rules in
    piece_part c.args.replies.now c.loop-reply.reply-index c.loop-reply.written c.in-Err.fault.written c.saturating_add.result _ _ inside c.put_reply-end.ensures.laid c.in-Err.ensures.part c.loop-reply.invariant.written total
