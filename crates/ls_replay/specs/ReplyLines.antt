-- The lines that are written for replies.
use Rattle.std.specs.Prelude.{ℕ, List, ◌++◌, flat_map, codes, decimal}
use Rattle.ls_queue.specs.declared.replies.Job.{Job}
use Rattle.ls_queue.specs.declared.replies.Put.TheVariants as put
use Rattle.ls_queue.specs.declared.replies.Close.TheVariants as close
use Rattle.ls_queue.specs.declared.replies.Take.TheVariants as take
use Rattle.ls_queue.specs.declared.steps.Reply.{Reply}
use Rattle.ls_queue.specs.declared.steps.Reply.TheVariants as reply

-- source, number and item, separated by single blanks
abbrev pub job_line : Job ℕ → List ℕ
job_line job = codes "job " ++ decimal job.source ++ codes " " ++ decimal job.number ++ codes " " ++ decimal job.item ++ codes "\n"

abbrev pub reply_line : Reply → List ℕ
reply_line (reply.Put (put.Taken n)) = codes "taken " ++ decimal n ++ codes "\n"
reply_line (reply.Put (put.Closed x)) = codes "closed\n"
reply_line (reply.Put (put.Spent x)) = codes "spent\n"
reply_line (reply.Put (put.Full x)) = codes "full\n"
reply_line (reply.Close (close.Now n)) = codes "now " ++ decimal n ++ codes "\n"
reply_line (reply.Close (close.Already n)) = codes "already " ++ decimal n ++ codes "\n"
reply_line (reply.Take (take.Job job)) = job_line job
reply_line (reply.Take take.Empty) = codes "empty\n"
reply_line (reply.Take take.Done) = codes "done\n"

abbrev pub reply_lines : List Reply → List ℕ
reply_lines replies = flat_map reply_line replies
