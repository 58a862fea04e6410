-- A queue that runs a list of steps: its reply to each, and its state afterwards.
use Rattle.std.specs.Prelude.{ℕ, Bool, true, List, [], ◌∷◌, nat_lt}
use Rattle.ls_queue.specs.declared.steps.Step.{Step}
use Rattle.ls_queue.specs.declared.steps.Step.TheVariants as step
use Rattle.ls_queue.specs.declared.steps.Reply.{Reply}
use Rattle.ls_queue.specs.declared.steps.Reply.TheVariants as reply
use Rattle.ls_queue.specs.Queue.{Queue, put_reply, after_put, close_reply, after_close, take_reply, after_take}

-- the source that a step names, if it names one, is below the number of sources
abbrev pub is_known : ℕ → Step → Bool
is_known sources (step.Put s x) = nat_lt s sources
is_known sources (step.Close s) = nat_lt s sources
is_known sources step.Take = true

abbrev pub reply_of : Queue ℕ → Step → Reply
reply_of q (step.Put s x) = reply.Put (put_reply q s x)
reply_of q (step.Close s) = reply.Close (close_reply q s)
reply_of q step.Take = reply.Take (take_reply q)

abbrev pub after_step : Queue ℕ → Step → Queue ℕ
after_step q (step.Put s x) = after_put q s x
after_step q (step.Close s) = after_close q s
after_step q step.Take = after_take q

abbrev pub replies_of : Queue ℕ → List Step → List Reply
replies_of q [] = []
replies_of q (step ∷ steps) = reply_of q step ∷ replies_of (after_step q step) steps

abbrev pub after_steps : Queue ℕ → List Step → Queue ℕ
after_steps q [] = q
after_steps q (step ∷ steps) = after_steps (after_step q step) steps
