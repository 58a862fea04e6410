-- Steps of a queue.
use Rattle.std.proofs.Common.{◌≡◌, ℕ, suc, ◌+◌, ◌<◌, Bool, true, false, List, [], ◌∷◌, ◌++◌, length, drop, get_or, ◌==◌, if◌then◌else◌, refl, sym, ap, ◌∙◌, add-one, append_assoc}
use Rattle.std.proofs.Math.Seq.{drop-cons}
use Rattle.std.proofs.lemmas.List.{length-set}
use Rattle.ls_queue.specs.declared.replies.Put.{Put}
use Rattle.ls_queue.specs.declared.replies.Put.TheVariants as put
use Rattle.ls_queue.specs.declared.steps.Step.{Step}
use Rattle.ls_queue.specs.declared.steps.Step.TheVariants as step
use Rattle.ls_queue.specs.Queue.{Queue, count_of, is_closed, spent_count, put_reply, after_reply}
use Rattle.ls_queue.specs.declared.steps.Reply.{Reply}
use Rattle.ls_queue.specs.Steps.{reply_of, after_step, replies_of}

after_reply-sources : (q : Queue ℕ) (s x : ℕ) (r : Put ℕ) → length (after_reply q s x r).counts ≡ length q.counts
after_reply-sources q s x (put.Taken n) = length-set q.counts s (n + 1)
after_reply-sources q s x (put.Closed y) = refl
after_reply-sources q s x (put.Spent y) = refl
after_reply-sources q s x (put.Full y) = refl

-- no step changes the number of sources
pub after_step-sources : (q : Queue ℕ) (step : Step) → length (after_step q step).counts ≡ length q.counts
after_step-sources q (step.Put s x) = after_reply-sources q s x (put_reply q s x)
after_step-sources q (step.Close s) = refl
after_step-sources q step.Take = refl

number_of : (closed spent full : Bool) (count n x : ℕ) → (if closed then put.Closed x else (if spent then put.Spent x else (if full then put.Full x else put.Taken count))) ≡ put.Taken n → n ≡ count
number_of true spent full count n x e = cc
number_of false true full count n x e = cc
number_of false false true count n x e = cc
number_of false false false count n x e = cc

-- an accepted item has its source's count as its number
pub put_reply-number : (q : Queue ℕ) (s x n : ℕ) → put_reply q s x ≡ put.Taken n → n ≡ count_of q s
put_reply-number q s x n e = number_of (is_closed q s) (count_of q s == spent_count) (length q.held == q.capacity) (count_of q s) n x e

-- the replies so far, followed by those to the remaining steps, are all the replies: one step more
pub replies_of-more : (steps : List Step) (i : ℕ) (d : Step) (q q' : Queue ℕ) (all before after : List Reply) (r : Reply) → i < length steps
    → all ≡ before ++ replies_of q (drop i steps) → r ≡ reply_of q (get_or steps i d) → q' ≡ after_step q (get_or steps i d) → after ≡ before ++ r ∷ []
    → all ≡ after ++ replies_of q' (drop (i + 1) steps)
replies_of-more steps i d q q' all before after r inside split reply state grown =
    let next : drop i steps ≡ get_or steps i d ∷ drop (i + 1) steps = drop-cons steps i d inside ∙ ap (λ k. get_or steps i d ∷ drop k steps) (sym (add-one i)) in
    split
    ∙ ap (λ rest. before ++ replies_of q rest) next
    ∙ ap (λ one. before ++ (one ∷ replies_of (after_step q (get_or steps i d)) (drop (i + 1) steps))) (sym reply)
    ∙ ap (λ s. before ++ (r ∷ replies_of s (drop (i + 1) steps))) (sym state)
    ∙ sym (append_assoc before (r ∷ []) (replies_of q' (drop (i + 1) steps)))
    ∙ ap (λ front. front ++ replies_of q' (drop (i + 1) steps)) (sym grown)

pub replies_of-length : (q : Queue ℕ) (steps : List Step) → length (replies_of q steps) ≡ length steps
replies_of-length q [] = refl
replies_of-length q (step ∷ steps) = ap suc (replies_of-length (after_step q step) steps)
