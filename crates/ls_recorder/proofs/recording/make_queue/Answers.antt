use Rattle.std.proofs.Common.{◌∙◌, sym}
use Rattle.ls_recorder.proofs.RecordingLemmas.{new-workers, lead-all}
use Rattle.ls_recorder.proofs.recording.make_queue.Goals as goal

pub returns-clause-seats : goal.returns-clause-seats
returns-clause-seats g c =
    let made = c.in-Ok-open.ensures in
    let boxes = c.in-Ok.ensures.1 in (
      made.1,
      made.2,
      record {
        sources = made.4;
        workers = new-workers _ _ made.5.0;
        workers_are = made.5.1;
        closer = made.6;
        inboxes = boxes.in_order;
        inboxes_are = boxes.sources_are ∙ sym made.1;
        outboxes = lead-all _ _ _ (boxes.sources_are ∙ sym made.1) boxes.lead;
        outboxes_are = boxes.workers_are ∙ sym made.2;
      },
    )

pub returns-clause-places : goal.returns-clause-places
returns-clause-places g c = (c.in-Ok-open.ensures.3, c.in-Ok.ensures.1.capacity)
