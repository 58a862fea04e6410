use Rattle.std.proofs.Common.{◌<◌, length, ap, ◌∙◌, arith}
use Rattle.ls_queue.proofs.StepLemmas.{after_step-sources, replies_of-more}
use Rattle.ls_queue.proofs.steps.replies_of.Goals as goal

pub loop-step-preserved : goal.loop-step-preserved
loop-step-preserved c =
    let inside : c.loop-step.step-index < length c.args.steps.now = omega arith in
    record {
      replies = replies_of-more c.args.steps.now c.loop-step.step-index _ c.loop-step.queue _ _ c.loop-step.replies.items _ _ inside c.loop-step.invariant.replies
          c.reply_of-reply.ensures.reply c.reply_of-reply.ensures.state c.in_ok-push.ensures.items;
      sources = ap (λ q. length q.counts) c.reply_of-reply.ensures.state ∙ after_step-sources c.loop-step.queue _ ∙ c.loop-step.invariant.sources;
    }
