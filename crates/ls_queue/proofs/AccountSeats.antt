-- The closer's steps keep the account: seats are made, marks are sent, passes are joined, and the last pass is read.
use Rattle.std.proofs.Common.{◌≡◌, ◌≢◌, ℕ, zero, suc, ◌+◌, ◌<◌, ◌≤◌, inl, inr, ⊎_elim, Bool, true, false, ◌==◌, true≢false, List, [], ◌∷◌, ◌++◌, length, set, refl, sym, ap, subst, ◌∙◌, arith, append-nil, length-append}
use Rattle.std.specs.Prelude.{slice_index_or, if◌then◌else◌}
use Rattle.std.specs.List.{sum_by, AllByRecursion}
use Rattle.std.proofs.lemmas.List.Sums.{sum_by-append, sum_by-cons}
use Rattle.std.proofs.lemmas.Bool.{eq-eqb, ne_eqb}
use mathlib.Core.Option.{some, some-injective, some-ne-none}
use lib.ListN.{get_elem?}
use Rattle.crossbeam_channel.specs.Fifo.{Pushes, Forks, Merges, Learns}
use Rattle.ls_queue.specs.declared.replies.Job.{Job}
use Rattle.ls_queue.specs.declared.views.Message.TheVariants as message
use Rattle.ls_queue.specs.declared.views.Puts.{Puts}
use Rattle.ls_queue.specs.declared.views.Takes.{Takes}
use Rattle.ls_queue.specs.declared.views.View.{View}
use Rattle.ls_queue.specs.View.Account.{numbered, jobs_of, jobs_in, marks_in, IsWithin, weight_put, weight_taken, marks_taken, Past, FitsPuts, FitsTakes, Fits, Counts, Kept, source_view, worker_view, first_view, source_made, worker_made, after_mark, joined, spent_view, IsCounted, IsEmpty, IsSettled}
use Rattle.ls_queue.proofs.AccountLists.{all_append, all_map, all_none, at_set, each_set, each_added, sum_set, sum_added, two_of, only_one, length-numbered, one_more_mark, jobs_in-append, jobs_in-all, all_gone}
use Rattle.ls_queue.proofs.AccountSteps.{false_true}

-- the pass that keeps a source, where source n is new in pass q
seated : ℕ → ℕ → (ℕ → ℕ) → ℕ → ℕ
seated n q keeper s = if s == n then q else keeper s

seated-new : (n q : ℕ) (keeper : ℕ → ℕ) → seated n q keeper n ≡ q
unfolding seated
seated-new n q keeper = rw (eq-eqb n n refl) refl

seated-old : (n q : ℕ) (keeper : ℕ → ℕ) (s : ℕ) → s < n → seated n q keeper s ≡ keeper s
unfolding seated
seated-old n q keeper s below = rw (ne_eqb s n (λ e. omega arith)) refl

-- the pass of number k, where the pass other was joined to p
moved : ℕ → ℕ → ℕ → ℕ
moved other p k = if k == other then p else k

either_way : (b : Bool) (p : ℕ) → (if b then p else p) ≡ p
either_way true p = refl
either_way false p = refl

moved-own : (other p : ℕ) → moved other p p ≡ p
unfolding moved
moved-own other p = either_way (p == other) p

moved-there : (other p : ℕ) → moved other p other ≡ p
unfolding moved
moved-there other p = rw (eq-eqb other other refl) refl

moved-else : (other p k : ℕ) → k ≢ other → moved other p k ≡ k
unfolding moved
moved-else other p k n = rw (ne_eqb k other n) refl

module _ {X : Type 0} where
  none_of : (n s : ℕ) (jobs : List (Job X)) → AllByRecursion (λ (j : Job X). j.source < n) jobs → n ≤ s → jobs_of s jobs ≡ []
  none_of n s [] all le = refl
  none_of n s (j ∷ js) all le = let b = all.0 in rw (ne_eqb j.source s (λ e. omega arith)) (none_of n s js all.1 le)

  -- A source seat is made.
  pub makes_source : (p : ℕ) (v : View X) → v.closes ≡ true → v.workers ≡ 0 → v.marks ≡ 0 → 1 < v.shares → Forks Kept p v (source_made v) (source_view v.sources [])
  makes_source p v closes no_workers no_marks some_share items views k at =
      let w : View X = source_made v in
      let r : View X = source_view v.sources [] in
      let mine : Fits k.past p v = k.fits p v at in
      let own = mine.closer closes in
      let n : ℕ = k.past.sources in
      let none : 0 < length k.past.marks → ⊥ = λ some_mark. (let m = own.3 in omega arith) in
      let later : Past X = record k.past { sources = n + 1; keeper = seated n (length views) k.past.keeper } in
      let puts : (q : ℕ) (us : List (Puts X)) → AllByRecursion (FitsPuts k.past q) us → AllByRecursion (FitsPuts later q) us
      = λ q us fit. all_map (FitsPuts k.past q) (FitsPuts later q) (λ y f. record { kept = seated-old n (length views) k.past.keeper y.source f.known ∙ f.kept; known = (let b = f.known in omega arith); sent = f.sent }) us fit in
      record {
        past = later;
        whole = k.whole;
        shares = (let t = sum_added (λ (u : View X). u.shares) views p v w r at in let old = k.shares in omega arith);
        put = λ h. (let t = sum_added (weight_put h) views p v w r at in let old = k.put h in omega arith);
        taken = λ h. (let t = sum_added (weight_taken h) views p v w r at in let old = k.taken h in omega arith);
        marked = (let t = sum_added marks_taken views p v w r at in let old = k.marked in omega arith);
        known = all_map (λ (j : Job X). j.source < n) (λ (j : Job X). j.source < n + 1) (λ j b. omega arith) k.past.jobs k.known;
        counts = all_none _ k.past.marks none;
        fits = each_added (Fits later) views p w r
            (record {
              idle = λ e. absurd (omega arith);
              puts = puts p v.puts mine.puts;
              takes = mine.takes;
              worker = ⊎_elim (λ e. inl e) (λ t. absurd (let a = t.1 in let b = own.2 in omega arith)) mine.worker;
              closer = λ _. (own.0, ap (λ m. m + 1) own.1, own.2, own.3);
              ended = λ some_mark. absurd (none some_mark);
            })
            (λ q u other e. let old = k.fits q u e in record {
              idle = old.idle;
              puts = puts q u.puts old.puts;
              takes = old.takes;
              worker = ⊎_elim (λ e. inl e) (λ t. absurd (let a = t.1 in let b = own.2 in omega arith)) old.worker;
              closer = λ c. absurd (other ((old.closer c).0 ∙ sym own.0));
              ended = λ some_mark. absurd (none some_mark);
            })
            (record {
              idle = λ e. absurd (omega arith);
              puts = (
                record {
                  kept = ap (seated n (length views) k.past.keeper) own.1 ∙ seated-new n (length views) k.past.keeper;
                  known = (let b = own.1 in omega arith);
                  sent = none_of n v.sources k.past.jobs k.known (let b = own.1 in omega arith);
                },
                tt,
              );
              takes = tt;
              worker = inl refl;
              closer = λ e. false_true e;
              ended = λ some_mark. absurd (none some_mark);
            });
      }

  -- A worker seat is made.
  pub makes_worker : (p : ℕ) (v : View X) → v.closes ≡ true → 1 < v.shares → Forks Kept p v (worker_made v) (worker_view v.sources [] false)
  makes_worker p v closes some_share items views k at =
      let w : View X = worker_made v in
      let r : View X = worker_view v.sources [] false in
      let mine : Fits k.past p v = k.fits p v at in
      let own = mine.closer closes in
      let later : Past X = record k.past { workers = k.past.workers + 1 } in
      let puts : (q : ℕ) (us : List (Puts X)) → AllByRecursion (FitsPuts k.past q) us → AllByRecursion (FitsPuts later q) us
      = λ q us fit. all_map (FitsPuts k.past q) (FitsPuts later q) (λ y f. record { kept = f.kept; known = f.known; sent = f.sent }) us fit in
      record {
        past = later;
        whole = k.whole;
        shares = (let t = sum_added (λ (u : View X). u.shares) views p v w r at in let old = k.shares in omega arith);
        put = λ h. (let t = sum_added (weight_put h) views p v w r at in let old = k.put h in omega arith);
        taken = λ h. (let t = sum_added (weight_taken h) views p v w r at in let old = k.taken h in omega arith);
        marked = (let t = sum_added marks_taken views p v w r at in let old = k.marked in omega arith);
        known = k.known;
        counts = k.counts;
        fits = each_added (Fits later) views p w r
            (record {
              idle = λ e. absurd (omega arith);
              puts = puts p v.puts mine.puts;
              takes = mine.takes;
              worker = inr (own.1, omega arith);
              closer = λ _. (own.0, own.1, ap (λ m. m + 1) own.2, own.3);
              ended = λ some_mark e. false_true (sym e ∙ closes);
            })
            (λ q u other e. let old = k.fits q u e in record {
              idle = old.idle;
              puts = puts q u.puts old.puts;
              takes = old.takes;
              worker = ⊎_elim (λ e. inl e) (λ t. inr (t.0, omega arith)) old.worker;
              closer = λ c. absurd (other ((old.closer c).0 ∙ sym own.0));
              ended = old.ended;
            })
            (record {
              idle = λ e. absurd (omega arith);
              puts = tt;
              takes = (tt, tt);
              worker = inr (own.1, omega arith);
              closer = λ e. false_true e;
              ended = λ _ _. refl;
            });
      }

  -- a counted source's items are in this pass, and its count is the number of its jobs
  counted : (past : Past X) (p : ℕ) (counts : List ℕ) (us : List (Puts X)) (s : ℕ) → AllByRecursion (FitsPuts past p) us → IsCounted counts us s
      → (past.keeper s ≡ p) × (slice_index_or counts s 0 ≡ length (jobs_of s past.jobs))
  counted past p counts [] s fit c = absurd c
  counted past p counts (u ∷ us) s fit c = ⊎_elim
      (λ t. let f = fit.0 in (
        ap past.keeper (sym t.0) ∙ f.kept,
        t.1 ∙ (sym (length-numbered u.source 0 u.items) ∙ (ap length (sym f.sent) ∙ ap (λ m. length (jobs_of m past.jobs)) t.0)),
      ))
      (λ t. counted past p counts us s fit.1 t) c

  no_parts : {P : Puts X → Type 0} (us : List (Puts X)) → ((y : Puts X) → P y → ⊥) → AllByRecursion P us → us ≡ []
  no_parts [] n fit = refl
  no_parts (y ∷ ys) n fit = absurd (n y fit.0)

  -- An end mark is sent: the closer has all sources, and the mark has their counts.
  pub sends_mark : (n p : ℕ) (v : View X) (counts : List ℕ) → v.closes ≡ true → ((s : ℕ) → s < v.sources → IsCounted counts v.puts s)
      → Pushes Kept n p v (message.Mark counts) (λ w. w ≡ after_mark v)
  sends_mark n p v counts closes every items views room k at =
      let w : View X = after_mark v in
      let mine : Fits k.past p v = k.fits p v at in
      let own = mine.closer closes in
      let later : Past X = record k.past { marks = k.past.marks ++ counts ∷ [] } in
      let puts : (q : ℕ) (us : List (Puts X)) → AllByRecursion (FitsPuts k.past q) us → AllByRecursion (FitsPuts later q) us
      = λ q us fit. all_map (FitsPuts k.past q) (FitsPuts later q) (λ y f. record { kept = f.kept; known = f.known; sent = f.sent }) us fit in
      let all : Counts k.past.sources k.past.jobs counts
      = λ s b. (counted k.past p counts v.puts s mine.puts (every s (let e = own.1 in omega arith))).1 in
      let no_puts : (q : ℕ) (us : List (Puts X)) → q ≢ p → AllByRecursion (FitsPuts k.past q) us → us ≡ []
      = λ q us other fit. no_parts {P = FitsPuts k.past q} us (λ y f. other (sym f.kept ∙ (counted k.past p counts v.puts y.source mine.puts (every y.source (let e = own.1 in let b = f.known in omega arith))).0)) fit in (
        w,
        record {
          past = later;
          whole = one_more_mark k.past.received items k.past.jobs k.past.marks counts k.whole;
          shares = (let t = sum_set (λ (u : View X). u.shares) views p v w at in let old = k.shares in omega arith);
          put = λ h. (let t = sum_set (weight_put h) views p v w at in let old = k.put h in omega arith);
          taken = λ h. (let t = sum_set (weight_taken h) views p v w at in let old = k.taken h in omega arith);
          marked = (let t = sum_set marks_taken views p v w at in let old = k.marked in omega arith);
          known = k.known;
          counts = all_append _ k.past.marks (counts ∷ []) k.counts (all, tt);
          fits = each_set (Fits later) views p w
              (record {
                idle = mine.idle;
                puts = puts p v.puts mine.puts;
                takes = mine.takes;
                worker = mine.worker;
                closer = λ _. (own.0, own.1, own.2, ap (λ m. m + 1) own.3 ∙ sym (length-append k.past.marks (counts ∷ [])));
                ended = λ some_mark e. false_true (sym e ∙ closes);
              })
              (λ q u other e. let old = k.fits q u e in record {
                idle = old.idle;
                puts = puts q u.puts old.puts;
                takes = old.takes;
                worker = old.worker;
                closer = λ c. absurd (other ((old.closer c).0 ∙ sym own.0));
                ended = λ _ _. no_puts q u.puts other old.puts;
              });
        },
        refl,
      )

  -- Two passes are joined: the closer's, and that of a seat.
  pub joins : (p : ℕ) (v : View X) (other : ℕ) (w : View X) → v.closes ≡ true → w.closes ≡ false → Merges Kept p v other w (joined v w) spent_view
  joins p v other w closes seat items views k at apart at' =
      let both : View X = joined v w in
      let vs : List (View X) = set views p both in
      let was : get_elem? views other ≡ some w = ⊎_elim (λ x. absurd (apart x.0)) (λ x. x.1) (at_set views p other both w at') in
      let mine : Fits k.past p v = k.fits p v at in
      let theirs : Fits k.past other w = k.fits other w was in
      let own = mine.closer closes in
      let later : Past X = record k.past { keeper = λ s. moved other p (k.past.keeper s) } in
      let fits_puts : (q r : ℕ) → moved other p q ≡ r → (us : List (Puts X)) → AllByRecursion (FitsPuts k.past q) us → AllByRecursion (FitsPuts later r) us
      = λ q r m us fit. all_map (FitsPuts k.past q) (FitsPuts later r) (λ y f. record { kept = ap (moved other p) f.kept ∙ m; known = f.known; sent = f.sent }) us fit in
      let Now : ℕ → View X → Type 0 = λ q u. q ≢ other → Fits later q u in
      let now : (q : ℕ) (u : View X) → get_elem? vs q ≡ some u → Now q u = each_set Now views p both
      (λ _. record {
        idle = λ e. absurd (true≢false (sym closes ∙ (mine.idle (omega arith)).2));
        puts = all_append _ v.puts w.puts (fits_puts p p (moved-own other p) v.puts mine.puts) (fits_puts other p (moved-there other p) w.puts theirs.puts);
        takes = all_append _ v.takes w.takes mine.takes theirs.takes;
        worker = ⊎_elim
            (λ none. ⊎_elim (λ none'. inl (ap (λ l. l ++ w.takes) none ∙ none')) (λ t. inr (own.1, t.1)) theirs.worker)
            (λ t. inr t) mine.worker;
        closer = λ _. own;
        ended = λ some_mark e. false_true (sym e ∙ closes);
      })
      (λ q u third e not_other. let old = k.fits q u e in record {
        idle = old.idle;
        puts = fits_puts q q (moved-else other p q not_other) u.puts old.puts;
        takes = old.takes;
        worker = old.worker;
        closer = old.closer;
        ended = old.ended;
      }) in
      record {
        past = later;
        whole = k.whole;
        shares = (let t = sum_set (λ (u : View X). u.shares) views p v both at in let t' = sum_set (λ (u : View X). u.shares) vs other w spent_view at' in let old = k.shares in omega arith);
        put = λ h. (let t = sum_set (weight_put h) views p v both at in let t' = sum_set (weight_put h) vs other w spent_view at' in let old = k.put h in
            let a = sum_by-append (λ (u : Puts X). sum_by h (numbered u.source 0 u.items)) v.puts w.puts in omega arith);
        taken = λ h. (let t = sum_set (weight_taken h) views p v both at in let t' = sum_set (weight_taken h) vs other w spent_view at' in let old = k.taken h in
            let a = sum_by-append (λ (u : Takes X). sum_by h u.jobs) v.takes w.takes in omega arith);
        marked = (let t = sum_set marks_taken views p v both at in let t' = sum_set marks_taken vs other w spent_view at' in let old = k.marked in
            let a = sum_by-append (λ (u : Takes X). if u.marked then 1 else 0) v.takes w.takes in omega arith);
        known = k.known;
        counts = k.counts;
        fits = each_set (Fits later) vs other spent_view
            (record {
              idle = λ _. (refl, refl, refl);
              puts = tt;
              takes = tt;
              worker = inl refl;
              closer = λ e. false_true e;
              ended = λ _ _. refl;
            })
            (λ q u not_other e. now q u e not_other);
      }

  all_marked : (us : List (Takes X)) → AllByRecursion (λ (u : Takes X). u.marked ≡ true) us → sum_by (λ (u : Takes X). if u.marked then 1 else 0) us ≡ length us
  all_marked [] all = refl
  all_marked (u ∷ us) all =
      let a : if◌then◌else◌ {A = ℕ} u.marked 1 0 ≡ 1 = ap (λ (b : Bool). if◌then◌else◌ {A = ℕ} b 1 0) all.0 in let b = all_marked us all.1 in
      omega (arith, sum_by-cons (λ (y : Takes X). if y.marked then 1 else 0) u us)

  -- The last pass is read: the channel is empty, and all jobs were taken.
  pub settles : (p : ℕ) (v : View X) → v.closes ≡ true → 64 ≤ v.shares → 0 < v.marks → v.marks ≤ length v.takes → AllByRecursion (λ (u : Takes X). u.marked ≡ true) v.takes
      → Learns Kept p v (λ items. IsSettled v items)
  settles p v closes all_shares some_mark enough done items views k at =
      let mine : Fits k.past p v = k.fits p v at in
      let own = mine.closer closes in
      let idle : (q : ℕ) (u : View X) → q ≢ p → get_elem? views q ≡ some u → IsEmpty u
      = λ q u other e. (k.fits q u e).idle (let t = two_of (λ (y : View X). y.shares) views p q v u other at e in let s = k.shares in omega arith) in
      let marks : marks_in k.past.received ≡ length v.takes
      = sym k.marked ∙ (only_one marks_taken views p v at (λ q u other e. ap (sum_by (λ (y : Takes X). if y.marked then 1 else 0)) (idle q u other e).1) ∙ all_marked v.takes done) in
      let empty : items ≡ [] = all_gone k.past.received items k.past.jobs k.past.marks k.whole (let a = own.3 in omega arith) (let a = own.3 in omega arith) in
      let whole : jobs_in k.past.received ≡ k.past.jobs
      = sym (append-nil (jobs_in k.past.received)) ∙ (ap (λ l. jobs_in k.past.received ++ jobs_in l) (sym empty)
      ∙ (sym (jobs_in-append k.past.received items) ∙ (ap jobs_in k.whole ∙ jobs_in-all k.past.jobs k.past.marks))) in
      record {
        empty = empty;
        order = k.past.jobs;
        taken = λ h. sym (only_one (weight_taken h) views p v at (λ q u other e. ap (sum_by (λ (y : Takes X). sum_by h y.jobs)) (idle q u other e).1)) ∙ (k.taken h ∙ ap (sum_by h) whole);
        within = all_map (FitsTakes k.past) (λ (u : Takes X). IsWithin u.jobs k.past.jobs) (λ u f. subst (IsWithin u.jobs) whole f) v.takes mine.takes;
        each = all_map (FitsPuts k.past p) (λ (u : Puts X). jobs_of u.source k.past.jobs ≡ numbered u.source 0 u.items) (λ u f. f.sent) v.puts mine.puts;
        no_others = all_map (λ (j : Job X). j.source < k.past.sources) (λ (j : Job X). j.source < v.sources) (λ j b. let e = own.1 in omega arith) k.past.jobs k.known;
      }

  begun : Past X
  begun = record { jobs = []; marks = []; received = []; closer = 0; keeper = λ s. 0; sources = 0; workers = 0 }

  fits_first : (p : ℕ) (v : View X) → get_elem? (first_view ∷ []) p ≡ some v → Fits begun p v
  unfolding begun
  fits_first zero v e = subst (Fits begun 0) (some-injective first_view v e) (record {
    idle = λ none. absurd (omega arith);
    puts = tt;
    takes = tt;
    worker = inl refl;
    closer = λ _. (refl, refl, refl, refl);
    ended = λ _ _. refl;
  })
  fits_first (suc p) v e = absurd (some-ne-none v (sym e))

  -- Nothing was sent yet, and there is one pass.
  pub begins : Kept [] (first_view {X = X} ∷ [])
  unfolding begun
  begins = record {
    past = begun;
    whole = refl;
    shares = refl;
    put = λ h. refl;
    taken = λ h. refl;
    marked = refl;
    known = tt;
    counts = tt;
    fits = fits_first;
  }
