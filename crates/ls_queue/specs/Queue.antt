-- A bounded queue of several sources: its reply to each call, and its state afterwards.
use Rattle.std.specs.Prelude.{ℕ, ◌+◌, ◌-◌, ◌^◌, Bool, true, false, ◌&&◌, ◌==◌, if◌then◌else◌, List, [], ◌∷◌, ◌++◌, length, drop, filter, map, replicate, slice_index, slice_index_or, slice_set}
use Rattle.ls_queue.specs.declared.replies.Job.{Job}
use Rattle.ls_queue.specs.declared.replies.Put.{Put}
use Rattle.ls_queue.specs.declared.replies.Put.TheVariants as put
use Rattle.ls_queue.specs.declared.replies.Close.{Close}
use Rattle.ls_queue.specs.declared.replies.Close.TheVariants as close
use Rattle.ls_queue.specs.declared.replies.Take.{Take}
use Rattle.ls_queue.specs.declared.replies.Take.TheVariants as take

-- The state of a queue. The sources are numbered from 0: each has its count, the number of its items accepted so far, and is open or closed. The
-- jobs held were accepted and not yet taken; the oldest comes first.
pub record Queue (X : Type 0) : Type 0 where
  pub capacity : ℕ
  pub counts : List ℕ
  pub closed : List Bool
  pub held : List (Job X)

-- the count of a source that has used up its numbers: no item has this number
abbrev pub spent_count : ℕ
spent_count = 2 ^ 64 - 1

abbrev pub all_true : List Bool → Bool
all_true [] = true
all_true (b ∷ bs) = b && all_true bs

module _ {X : Type 0} where
  -- the numbers of the jobs of source s
  abbrev pub numbers_of : ℕ → List (Job X) → List ℕ
  numbers_of s jobs = map (λ (j : Job X). j.number) (filter (λ (j : Job X). j.source == s) jobs)

  -- each source is open, and no job is held
  abbrev pub new_queue : ℕ → ℕ → Queue X
  new_queue sources capacity = record { capacity = capacity; counts = replicate sources 0; closed = replicate sources false; held = [] }

  abbrev pub count_of : Queue X → ℕ → ℕ
  count_of q s = slice_index q.counts s

  abbrev pub is_closed : Queue X → ℕ → Bool
  is_closed q s = slice_index_or q.closed s false

  -- Closed is checked before Spent, and Spent before Full
  abbrev pub put_reply : Queue X → ℕ → X → Put X
  put_reply q s x =
      (if is_closed q s then put.Closed x else (if count_of q s == spent_count then put.Spent x else (if length q.held == q.capacity then put.Full x else put.Taken (count_of q s))))

  -- an accepted item becomes the last job held, numbered by its source's count, which grows by one
  abbrev pub after_reply : Queue X → ℕ → X → Put X → Queue X
  after_reply q s x (put.Taken n) = record q { counts = slice_set q.counts s (n + 1); held = q.held ++ record { source = s; number = n; item = x } ∷ [] }
  after_reply q s x (put.Closed y) = q
  after_reply q s x (put.Spent y) = q
  after_reply q s x (put.Full y) = q

  abbrev pub after_put : Queue X → ℕ → X → Queue X
  after_put q s x = after_reply q s x (put_reply q s x)

  abbrev pub close_reply : Queue X → ℕ → Close
  close_reply q s = (if is_closed q s then close.Already (count_of q s) else close.Now (count_of q s))

  abbrev pub after_close : Queue X → ℕ → Queue X
  after_close q s = record q { closed = slice_set q.closed s true }

  -- the first job held; if none is, Done if each source is closed, else Empty
  abbrev pub take_of : List (Job X) → Bool → Take X
  take_of [] all_closed = (if all_closed then take.Done else take.Empty)
  take_of (job ∷ jobs) all_closed = take.Job job

  abbrev pub take_reply : Queue X → Take X
  take_reply q = take_of q.held (all_true q.closed)

  abbrev pub after_take : Queue X → Queue X
  after_take q = record q { held = drop 1 q.held }
