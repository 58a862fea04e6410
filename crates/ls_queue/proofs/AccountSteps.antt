-- Each kind of step keeps the account.
use Rattle.std.proofs.Common.{◌≡◌, ℕ, ◌+◌, ◌<◌, inl, inr, ⊎_elim, Bool, true, false, true≢false, List, [], ◌∷◌, ◌++◌, length, refl, sym, ap, subst, ◌∙◌, arith, append-nil, append_assoc}
use Rattle.std.specs.Prelude.{⊤}
use Rattle.std.specs.List.{sum_by}
use Rattle.std.proofs.lemmas.List.Sums.{sum_by-append, sum_by-cons, sum_by_push}
use Rattle.crossbeam_channel.specs.Fifo.{Pushes, Pops, Learns}
use Rattle.ls_queue.specs.declared.replies.Job.{Job}
use Rattle.ls_queue.specs.declared.views.Message.{Message}
use Rattle.ls_queue.specs.declared.views.Message.TheVariants as message
use Rattle.ls_queue.specs.declared.views.View.{View}
use Rattle.ls_queue.specs.View.Account.{job, numbered, jobs_in, IsWithin, weight_put, weight_taken, marks_taken, Past, FitsPuts, FitsTakes, Fits, Kept, source_view, worker_view, after_put, AfterTake}
use Rattle.ls_queue.proofs.AccountLists.{all_append, all_map, all_none, each_set, sum_set, numbered-more, jobs_of-own, jobs_of-other, jobs_in-append, marks_in-append, IsWithin-later, IsWithin-last, one_more_job, front_job}

pub false_true : {Y : Type 0} → false ≡ true → Y
false_true e = absurd (true≢false (sym e))

pub not_nil : {A : Type 0} (u : A) (us : List A) → u ∷ us ≡ [] → ⊥
not_nil u us e = let l = ap length e in omega arith

module _ {X : Type 0} where
  -- A job is sent: it has the next number of its source, and no mark was sent before it.
  pub sends : (n p s : ℕ) (xs : List X) (x : X) → Pushes Kept n p (source_view s xs) (message.Job (job s (length xs) x)) (λ w. w ≡ source_view s (xs ++ x ∷ []))
  sends n p s xs x items views room k at =
      let v : View X = source_view s xs in
      let w : View X = source_view s (xs ++ x ∷ []) in
      let j : Job X = job s (length xs) x in
      let mine : Fits k.past p v = k.fits p v at in
      let part : FitsPuts k.past p (record { source = s; items = xs }) = mine.puts.0 in
      let none : 0 < length k.past.marks → ⊥ = λ some_mark. not_nil _ _ (mine.ended some_mark refl) in
      let later : Past X = record k.past { jobs = k.past.jobs ++ j ∷ [] } in (
        w,
        record {
          past = later;
          whole = one_more_job k.past.received items k.past.jobs k.past.marks j none k.whole;
          shares = (let t = sum_set (λ (u : View X). u.shares) views p v w at in let old = k.shares in omega arith);
          put = λ h. (let t = sum_set (weight_put h) views p v w at in let old = k.put h in let a = ap (sum_by h) (numbered-more s 0 xs x) in
              let b = sum_by_push h (numbered s 0 xs) (job s (0 + length xs) x) in let c = sum_by_push h k.past.jobs j in
              let d : h (job s (0 + length xs) x) ≡ h j = ap (λ m. h (job s m x)) (omega arith) in omega arith);
          taken = λ h. (let t = sum_set (weight_taken h) views p v w at in let old = k.taken h in omega arith);
          marked = (let t = sum_set marks_taken views p v w at in let old = k.marked in omega arith);
          known = all_append _ k.past.jobs (j ∷ []) k.known (part.known, tt);
          counts = all_none _ k.past.marks none;
          fits = each_set (Fits later) views p w
              (record {
                idle = λ e. absurd (omega arith);
                puts = (
                  record {
                    kept = part.kept;
                    known = part.known;
                    sent = jobs_of-own s (length xs) k.past.jobs x ∙ (ap (λ l. l ++ j ∷ []) part.sent ∙ (ap (λ m. numbered s 0 xs ++ job s m x ∷ []) (omega arith) ∙ sym (numbered-more s 0 xs x)));
                  },
                  tt,
                );
                takes = tt;
                worker = inl refl;
                closer = λ e. false_true e;
                ended = λ some_mark. absurd (none some_mark);
              })
              (λ q u other e. let old = k.fits q u e in record {
                idle = old.idle;
                puts = all_map (FitsPuts k.past q) (FitsPuts later q) (λ y f. record {
                  kept = f.kept;
                  known = f.known;
                  sent = jobs_of-other s y.source (length xs) k.past.jobs x (λ same. other (sym f.kept ∙ (ap k.past.keeper (sym same) ∙ part.kept))) ∙ f.sent;
                }) u.puts old.puts;
                takes = old.takes;
                worker = old.worker;
                closer = old.closer;
                ended = old.ended;
              });
        },
        refl,
      )

  -- A message is received: a job, or an end mark.
  pub receives : (p sources : ℕ) (jobs : List (Job X)) → Pops Kept p (worker_view sources jobs false) (AfterTake (worker_view sources jobs false))
  receives p sources jobs (message.Job j) items views k at =
      let v : View X = worker_view sources jobs false in
      let w : View X = worker_view sources (jobs ++ j ∷ []) false in
      let mine : Fits k.past p v = k.fits p v at in
      let later : Past X = record k.past { received = k.past.received ++ message.Job j ∷ [] } in
      let more : jobs_in later.received ≡ jobs_in k.past.received ++ j ∷ [] = jobs_in-append k.past.received (message.Job j ∷ []) in
      let seated : (sources ≡ k.past.sources) × (0 < k.past.workers) = ⊎_elim (λ e. absurd (not_nil _ _ e)) (λ t. t) mine.worker in
      let known : j.source < k.past.sources = front_job (λ (i : Job X). i.source < k.past.sources) k.past.received items j k.past.jobs k.past.marks k.whole k.known in (
        w,
        record {
          past = later;
          whole = append_assoc k.past.received (message.Job j ∷ []) items ∙ k.whole;
          shares = (let t = sum_set (λ (u : View X). u.shares) views p v w at in let old = k.shares in omega arith);
          put = λ h. (let t = sum_set (weight_put h) views p v w at in let old = k.put h in omega arith);
          taken = λ h. (let t = sum_set (weight_taken h) views p v w at in let old = k.taken h in
              let a = ap (sum_by h) more in let b = sum_by-append h (jobs_in k.past.received) (j ∷ []) in let c = sum_by-append h jobs (j ∷ []) in omega arith);
          marked = (let t = sum_set marks_taken views p v w at in let old = k.marked in let a = marks_in-append k.past.received (message.Job j ∷ []) in omega arith);
          known = k.known;
          counts = k.counts;
          fits = each_set (Fits later) views p w
              (record {
                idle = λ e. absurd (omega arith);
                puts = tt;
                takes = (subst (IsWithin (jobs ++ j ∷ [])) (sym more) (IsWithin-last jobs (jobs_in k.past.received) j mine.takes.0), tt);
                worker = inr seated;
                closer = λ e. false_true e;
                ended = λ some_mark _. refl;
              })
              (λ q u other e. let old = k.fits q u e in record {
                idle = old.idle;
                puts = all_map (FitsPuts k.past q) (FitsPuts later q) (λ y f. record { kept = f.kept; known = f.known; sent = f.sent }) u.puts old.puts;
                takes = all_map (FitsTakes k.past) (FitsTakes later) (λ y f. subst (IsWithin y.jobs) (sym more) (IsWithin-later y.jobs (jobs_in k.past.received) (j ∷ []) f)) u.takes old.takes;
                worker = old.worker;
                closer = old.closer;
                ended = old.ended;
              });
        },
        (refl, (let same = seated.0 in omega arith)),
      )
  receives p sources jobs (message.Mark c) items views k at =
      let v : View X = worker_view sources jobs false in
      let w : View X = worker_view sources jobs true in
      let mine : Fits k.past p v = k.fits p v at in
      let later : Past X = record k.past { received = k.past.received ++ message.Mark c ∷ [] } in
      let same : jobs_in later.received ≡ jobs_in k.past.received = jobs_in-append k.past.received (message.Mark c ∷ []) ∙ append-nil (jobs_in k.past.received) in (
        w,
        record {
          past = later;
          whole = append_assoc k.past.received (message.Mark c ∷ []) items ∙ k.whole;
          shares = (let t = sum_set (λ (u : View X). u.shares) views p v w at in let old = k.shares in omega arith);
          put = λ h. (let t = sum_set (weight_put h) views p v w at in let old = k.put h in omega arith);
          taken = λ h. (let t = sum_set (weight_taken h) views p v w at in let old = k.taken h in let a = ap (sum_by h) same in omega arith);
          marked = (let t = sum_set marks_taken views p v w at in let old = k.marked in let a = marks_in-append k.past.received (message.Mark c ∷ []) in omega (arith, sum_by-cons));
          known = k.known;
          counts = k.counts;
          fits = each_set (Fits later) views p w
              (record {
                idle = λ e. absurd (omega arith);
                puts = tt;
                takes = (subst (IsWithin jobs) (sym same) mine.takes.0, tt);
                worker = ⊎_elim (λ e. absurd (not_nil _ _ e)) (λ t. inr t) mine.worker;
                closer = λ e. false_true e;
                ended = λ some_mark _. refl;
              })
              (λ q u other e. let old = k.fits q u e in record {
                idle = old.idle;
                puts = all_map (FitsPuts k.past q) (FitsPuts later q) (λ y f. record { kept = f.kept; known = f.known; sent = f.sent }) u.puts old.puts;
                takes = all_map (FitsTakes k.past) (FitsTakes later) (λ y f. subst (IsWithin y.jobs) (sym same) f) u.takes old.takes;
                worker = old.worker;
                closer = old.closer;
                ended = old.ended;
              });
        },
        refl,
      )

  -- the same for any view and message equal to these
  pub job_sent : (n p : ℕ) (v : View X) (m : Message X) (s count : ℕ) (xs : List X) (x : X) → v ≡ source_view s xs → count ≡ length xs → m ≡ message.Job (job s count x)
      → Pushes Kept n p v m (λ w. w ≡ after_put v m) × Learns Kept p v (λ items. ⊤)
  job_sent n p v m s count xs x is counted sent =
      let sent' : m ≡ message.Job (job s (length xs) x) = sent ∙ ap (λ k. message.Job (job s k x)) counted in (
        subst (λ (y : View X × Message X). Pushes Kept n p y.0 y.1 (λ w. w ≡ after_put y.0 y.1)) (λ i. (sym is i, sym sent' i)) (sends n p s xs x),
        λ items views k at. tt,
      )

  pub received : (p : ℕ) (v : View X) (sources : ℕ) (jobs : List (Job X)) (done : Bool) → v ≡ worker_view sources jobs done → done ≡ false
      → Pops Kept p v (AfterTake v) × Learns Kept p v (λ items. ⊤)
  received p v sources jobs done is waits =
      let is' : v ≡ worker_view sources jobs false = is ∙ ap (worker_view sources jobs) waits in (
        subst (λ (y : View X). Pops Kept p y (AfterTake y)) (sym is') (receives p sources jobs),
        λ items views k at. tt,
      )
