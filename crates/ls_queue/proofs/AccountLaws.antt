-- What follows from the account for each job, for the order of numbers, and for the end marks.
use Rattle.std.proofs.Common.{◌≡◌, ◌≢◌, ℕ, zero, suc, ◌+◌, ◌<◌, ◌≤◌, inl, inr, ⊎_elim, List, [], ◌∷◌, ◌++◌, length, map, refl, sym, ap, subst, ◌∙◌, arith}
use Rattle.std.specs.Prelude.{Some, slice_get, slice_index_or}
use Rattle.std.specs.List.{sum_by, AllByRecursion}
use Rattle.std.proofs.lemmas.List.Sums.{sum_by-append, sum_by-cons}
use Rattle.std.proofs.lemmas.Bool.{eq-eqb, ne_eqb}
use Rattle.std.proofs.lemmas.Bool.Decides.{eqb_tells}
use Rattle.std.proofs.lemmas.Option.{none-some, same_Some}
use Rattle.ls_queue.specs.declared.replies.Job.{Job}
use Rattle.ls_queue.specs.declared.views.Message.{Message}
use Rattle.ls_queue.specs.declared.views.Message.TheVariants as message
use Rattle.ls_queue.specs.declared.views.Puts.{Puts}
use Rattle.ls_queue.specs.declared.views.View.{View}
use mathlib.Core.Option.{some}
use lib.ListN.{get_elem?}
use Rattle.ls_queue.specs.Queue.{numbers_of}
use Rattle.ls_queue.specs.View.Account.{Counts, FitsPuts, FitsTakes, IsWithin, job, numbered, jobs_of, jobs_in, marks_in, marks_taken, weight_put, weight_taken, Kept, weight_at, is_job, times_taken, times_held, IsBelowAll, AreRising, NumbersRise, MarksAreLast, HoldsAll, IsSettled}
use Rattle.ls_queue.proofs.AccountLists.{all_map, length-numbered, jobs_in-append, jobs_in-all, job_or_mark, cons_head, cons_tail}
use Rattle.ls_queue.proofs.AccountSeats.{settles}

-- a list of rising numbers, split in two
below_front : (n : ℕ) (ms ns : List ℕ) → IsBelowAll n (ms ++ ns) → IsBelowAll n ms
below_front n [] ns below = tt
below_front n (m ∷ ms) ns below = (below.0, below_front n ms ns below.1)

below_back : (n : ℕ) (ms ns : List ℕ) → IsBelowAll n (ms ++ ns) → IsBelowAll n ns
below_back n [] ns below = below
below_back n (m ∷ ms) ns below = below_back n ms ns below.1

rising_front : (ms ns : List ℕ) → AreRising (ms ++ ns) → AreRising ms
rising_front [] ns rising = tt
rising_front (m ∷ ms) ns rising = (below_front m ms ns rising.0, rising_front ms ns rising.1)

rising_back : (ms ns : List ℕ) → AreRising (ms ++ ns) → AreRising ns
rising_back [] ns rising = rising
rising_back (m ∷ ms) ns rising = rising_back ms ns rising.1

rising_across : (ms ns : List ℕ) → AreRising (ms ++ ns) → AllByRecursion (λ m. IsBelowAll m ns) ms
rising_across [] ns rising = tt
rising_across (m ∷ ms) ns rising = (below_back m ms ns rising.0, rising_across ms ns rising.1)

module _ {X : Type 0} where
  -- only the jobs of source s add to its weight
  pub own_jobs : (s n : ℕ) (h : Job X → ℕ) (jobs : List (Job X)) → sum_by (weight_at s n h) jobs ≡ sum_by (weight_at s n h) (jobs_of s jobs)
  own_jobs s n h [] = refl
  own_jobs s n h (j ∷ js) =
      let w = weight_at s n h in
      elim (eqb_tells j.source s) [
        | inl same ↦
            let rest : jobs_of s (j ∷ js) ≡ j ∷ jobs_of s js = rw same.0 refl in
            sum_by-cons w j js ∙ (ap (λ m. w j + m) (own_jobs s n h js) ∙ (sym (sum_by-cons w j (jobs_of s js)) ∙ ap (sum_by w) (sym rest)))
        | inr other ↦
            let zero_here : w j ≡ 0 = rw other.0 refl in
            let rest : jobs_of s (j ∷ js) ≡ jobs_of s js = rw other.0 refl in
            sum_by-cons w j js ∙ (ap (λ m. m + sum_by w js) zero_here ∙ (ap (λ m. 0 + m) (own_jobs s n h js) ∙ (let e = ap (sum_by w) rest in omega arith)))
      ]

  -- among numbered jobs, each number from the first on occurs once, with its item, and there are no others
  none_before : (s n m : ℕ) (h : Job X → ℕ) (xs : List X) → n < m → sum_by (weight_at s n h) (numbered s m xs) ≡ 0
  none_before s n m h [] below = refl
  none_before s n m h (x ∷ xs) below =
      let here : weight_at s n h (job s m x) ≡ 0 = rw (eq-eqb s s refl, ne_eqb m n (λ e. omega arith)) refl in
      let rest = none_before s n (suc m) h xs (omega arith) in omega (arith, sum_by-cons (weight_at s n h) (job s m x) (numbered s (suc m) xs))

  pub item_at : (s n m k : ℕ) (h : Job X → ℕ) (xs : List X) (x : X) → n ≡ m + k → slice_get xs k ≡ Some x → sum_by (weight_at s n h) (numbered s m xs) ≡ h (job s n x)
  item_at s n m k h [] x is at = absurd (none-some x at)
  item_at s n m zero h (y ∷ ys) x is at =
      let same : m ≡ n = omega arith in
      let here : weight_at s n h (job s m y) ≡ h (job s m y) = rw (eq-eqb s s refl, eq-eqb m n same) refl in
      let item : h (job s m y) ≡ h (job s n x) = (λ i. h (job s (same i) (same_Some y x at i))) in
      let rest = none_before s n (suc m) h ys (omega arith) in omega (arith, sum_by-cons (weight_at s n h) (job s m y) (numbered s (suc m) ys))
  item_at s n m (suc k) h (y ∷ ys) x is at =
      let here : weight_at s n h (job s m y) ≡ 0 = rw (eq-eqb s s refl, ne_eqb m n (λ e. omega arith)) refl in
      let rest = item_at s n (suc m) k h ys x (omega arith) at in omega (arith, sum_by-cons (weight_at s n h) (job s m y) (numbered s (suc m) ys))

  pub one_each : (s n m : ℕ) (xs : List X) → m ≤ n → n < m + length xs → sum_by (is_job s n) (numbered s m xs) ≡ 1
  one_each s n m [] le lt = absurd (omega arith)
  one_each s n m (x ∷ xs) le lt =
      elim (eqb_tells m n) [
        | inl same ↦
            let here : is_job s n (job s m x) ≡ 1 = rw (eq-eqb s s refl, same.0) refl in
            let rest = none_before s n (suc m) (λ _. 1) xs (let e = same.1 in omega arith) in omega (arith, sum_by-cons (is_job s n) (job s m x) (numbered s (suc m) xs))
        | inr other ↦
            let apart : m ≢ n = other.1 in
            let here : is_job s n (job s m x) ≡ 0 = rw (eq-eqb s s refl, other.0) refl in
            let rest = one_each s n (suc m) xs (omega arith) (omega arith) in omega (arith, sum_by-cons (is_job s n) (job s m x) (numbered s (suc m) xs))
      ]

  -- what was sent was received or is in the channel
  received_or_held : (items : List (Message X)) (views : List (View X)) (k : Kept items views) → jobs_in k.past.received ++ jobs_in items ≡ k.past.jobs
  received_or_held items views k = sym (jobs_in-append k.past.received items) ∙ (ap jobs_in k.whole ∙ jobs_in-all k.past.jobs k.past.marks)

  taken_or_held : (items : List (Message X)) (views : List (View X)) (k : Kept items views) (h : Job X → ℕ)
      → sum_by (weight_taken h) views + sum_by h (jobs_in items) ≡ sum_by h k.past.jobs
  taken_or_held items views k h =
      let a = k.taken h in
      let b = sum_by-append h (jobs_in k.past.received) (jobs_in items) in
      let c = ap (sum_by h) (received_or_held items views k) in omega arith

  -- the jobs taken and those in the channel are those that were put
  pub no_others : (items : List (Message X)) (views : List (View X)) → Kept items views → (h : Job X → ℕ) → sum_by (weight_taken h) views + sum_by h (jobs_in items) ≡ sum_by (weight_put h) views
  no_others items views k h = taken_or_held items views k h ∙ sym (k.put h)

  -- the jobs of one source, taken and in the channel
  of_source : (items : List (Message X)) (views : List (View X)) (k : Kept items views) (s n : ℕ) (h : Job X → ℕ)
      → sum_by (weight_taken (weight_at s n h)) views + sum_by (weight_at s n h) (jobs_in items) ≡ sum_by (weight_at s n h) (jobs_of s k.past.jobs)
  of_source items views k s n h = taken_or_held items views k (weight_at s n h) ∙ own_jobs s n h k.past.jobs

  -- each item that a seat put is one job, which was taken once or is in the channel once
  pub each_once : (items : List (Message X)) (views : List (View X)) → Kept items views → (pass : ℕ) (v : View X) → get_elem? views pass ≡ some v
      → AllByRecursion (λ (u : Puts X). (n : ℕ) → n < length u.items → times_taken u.source n views + times_held u.source n items ≡ 1) v.puts
  each_once items views k pass v at = all_map (FitsPuts k.past pass) _ (λ u f n below.
      of_source items views k u.source n (λ _. 1) ∙ (ap (sum_by (is_job u.source n)) f.sent ∙ one_each u.source n 0 u.items (omega arith) (omega arith))) v.puts (k.fits pass v at).puts

  -- and it has the item that was put
  pub each_item : (items : List (Message X)) (views : List (View X)) → Kept items views → (pass : ℕ) (v : View X) → get_elem? views pass ≡ some v
      → AllByRecursion (λ (u : Puts X). (n : ℕ) (x : X) → slice_get u.items n ≡ Some x → (h : Job X → ℕ)
      → sum_by (weight_taken (weight_at u.source n h)) views + sum_by (weight_at u.source n h) (jobs_in items) ≡ h (job u.source n x)) v.puts
  each_item items views k pass v at = all_map (FitsPuts k.past pass) _ (λ u f n x there h.
      of_source items views k u.source n h ∙ (ap (sum_by (weight_at u.source n h)) f.sent ∙ item_at u.source n 0 n h u.items x (omega arith) there)) v.puts (k.fits pass v at).puts

  -- the numbers of numbered jobs rise
  numbers : List (Job X) → List ℕ
  numbers jobs = map (λ (j : Job X). j.number) jobs

  below_numbered : (s m n : ℕ) (xs : List X) → n < m → IsBelowAll n (numbers (numbered s m xs))
  unfolding numbers
  below_numbered s m n [] below = tt
  below_numbered s m n (x ∷ xs) below = (below, below_numbered s (suc m) n xs (omega arith))

  rising_numbered : (s m : ℕ) (xs : List X) → AreRising (numbers (numbered s m xs))
  unfolding numbers
  rising_numbered s m [] = tt
  rising_numbered s m (x ∷ xs) = (below_numbered s (suc m) m xs (omega arith), rising_numbered s (suc m) xs)

  numbers_of-append : (s : ℕ) (xs ys : List (Job X)) → numbers_of s (xs ++ ys) ≡ numbers_of s xs ++ numbers_of s ys
  numbers_of-append s [] ys = refl
  numbers_of-append s (x ∷ xs) ys =
      elim (eqb_tells x.source s) [
        | inl same ↦
            let all : numbers_of s (x ∷ (xs ++ ys)) ≡ x.number ∷ numbers_of s (xs ++ ys) = rw same.0 refl in
            let front : numbers_of s (x ∷ xs) ≡ x.number ∷ numbers_of s xs = rw same.0 refl in
            all ∙ (ap (λ l. x.number ∷ l) (numbers_of-append s xs ys) ∙ ap (λ l. l ++ numbers_of s ys) (sym front))
        | inr other ↦
            let all : numbers_of s (x ∷ (xs ++ ys)) ≡ numbers_of s (xs ++ ys) = rw other.0 refl in
            let front : numbers_of s (x ∷ xs) ≡ numbers_of s xs = rw other.0 refl in
            all ∙ (numbers_of-append s xs ys ∙ ap (λ l. l ++ numbers_of s ys) (sym front))
      ]

  -- what is true of the numbers in a list is true of those in a subsequence of it
  within_numbers : (P : ℕ → Type 0) (s : ℕ) (xs ys : List (Job X)) → IsWithin xs ys → AllByRecursion P (numbers_of s ys) → AllByRecursion P (numbers_of s xs)
  within_numbers P s [] ys within all = tt
  within_numbers P s (x ∷ xs) [] within all = absurd within
  within_numbers P s (x ∷ xs) (y ∷ ys) within all =
      elim (eqb_tells y.source s) [
        | inl same ↦
            let here : numbers_of s (y ∷ ys) ≡ y.number ∷ numbers_of s ys = rw same.0 refl in
            let all' : P y.number × AllByRecursion P (numbers_of s ys) = subst (AllByRecursion P) here all in
            let there : numbers_of s (y ∷ xs) ≡ y.number ∷ numbers_of s xs = rw same.0 refl in
            ⊎_elim (λ t. subst (λ j. AllByRecursion P (numbers_of s (j ∷ xs))) (sym t.0) (subst (AllByRecursion P) (sym there) (all'.0, within_numbers P s xs ys t.1 all'.1)))
            (λ t. within_numbers P s (x ∷ xs) ys t all'.1) within
        | inr other ↦
            let here : numbers_of s (y ∷ ys) ≡ numbers_of s ys = rw other.0 refl in
            let all' : AllByRecursion P (numbers_of s ys) = subst (AllByRecursion P) here all in
            let there : numbers_of s (y ∷ xs) ≡ numbers_of s xs = rw other.0 refl in
            ⊎_elim (λ t. subst (λ j. AllByRecursion P (numbers_of s (j ∷ xs))) (sym t.0) (subst (AllByRecursion P) (sym there) (within_numbers P s xs ys t.1 all')))
            (λ t. within_numbers P s (x ∷ xs) ys t all') within
      ]

  within_rising : (s : ℕ) (xs ys : List (Job X)) → IsWithin xs ys → AreRising (numbers_of s ys) → AreRising (numbers_of s xs)
  within_rising s [] ys within rising = tt
  within_rising s (x ∷ xs) [] within rising = absurd within
  within_rising s (x ∷ xs) (y ∷ ys) within rising =
      elim (eqb_tells y.source s) [
        | inl same ↦
            let here : numbers_of s (y ∷ ys) ≡ y.number ∷ numbers_of s ys = rw same.0 refl in
            let rising' : IsBelowAll y.number (numbers_of s ys) × AreRising (numbers_of s ys) = subst AreRising here rising in
            let there : numbers_of s (y ∷ xs) ≡ y.number ∷ numbers_of s xs = rw same.0 refl in
            ⊎_elim (λ t. subst (λ j. AreRising (numbers_of s (j ∷ xs))) (sym t.0)
            (subst AreRising (sym there) (within_numbers (λ m. y.number < m) s xs ys t.1 rising'.0, within_rising s xs ys t.1 rising'.1)))
            (λ t. within_rising s (x ∷ xs) ys t rising'.1) within
        | inr other ↦
            let here : numbers_of s (y ∷ ys) ≡ numbers_of s ys = rw other.0 refl in
            let rising' : AreRising (numbers_of s ys) = subst AreRising here rising in
            let there : numbers_of s (y ∷ xs) ≡ numbers_of s xs = rw other.0 refl in
            ⊎_elim (λ t. subst (λ j. AreRising (numbers_of s (j ∷ xs))) (sym t.0) (subst AreRising (sym there) (within_rising s xs ys t.1 rising')))
            (λ t. within_rising s (x ∷ xs) ys t rising') within
      ]

  -- the numbers of one source rise along the channel and along what each worker seat took, and those taken are the lower ones
  rise : (items : List (Message X)) (views : List (View X)) (k : Kept items views) (pass : ℕ) (u : Puts X) → FitsPuts k.past pass u → NumbersRise u.source items views
  unfolding numbers
  rise items views k pass u f =
      let s = u.source in
      let gone = numbers_of s (jobs_in k.past.received) in
      let held = numbers_of s (jobs_in items) in
      let whole : numbers_of s k.past.jobs ≡ gone ++ held
      = ap (numbers_of s) (sym (received_or_held items views k)) ∙ numbers_of-append s (jobs_in k.past.received) (jobs_in items) in
      let all : AreRising (gone ++ held) = subst AreRising (ap numbers (sym f.sent) ∙ whole) (rising_numbered s 0 u.items) in
      record {
        channel = rising_back gone held all;
        workers = λ pass v at. all_map (FitsTakes k.past) _ (λ t w. within_rising s t.jobs (jobs_in k.past.received) w (rising_front gone held all)) v.takes (k.fits pass v at).takes;
        below = λ pass v at. all_map (FitsTakes k.past) _
            (λ t w. within_numbers (λ n. IsBelowAll n held) s t.jobs (jobs_in k.past.received) w (rising_across gone held all)) v.takes (k.fits pass v at).takes;
      }

  pub each_rises : (items : List (Message X)) (views : List (View X)) → Kept items views → (pass : ℕ) (v : View X) → get_elem? views pass ≡ some v
      → AllByRecursion (λ (u : Puts X). NumbersRise u.source items views) v.puts
  each_rises items views k pass v at = all_map (FitsPuts k.past pass) _ (λ u f. rise items views k pass u f) v.puts (k.fits pass v at).puts

-- messages sent, all jobs before all marks, split into those received and those in the channel
record Parted {X : Type 0} (received items : List (Message X)) (marks : List (List ℕ)) : Type 0 where
  gone : List (List ℕ)
  jobs : List (Job X)
  left : List (List ℕ)
  behind : items ≡ map message.Job jobs ++ map message.Mark left
  whole : gone ++ left ≡ marks
  count : marks_in received ≡ length gone
  done : 0 < length gone → jobs ≡ []

module _ {X : Type 0} where
  -- marks without jobs
  parted_marks : (received items : List (Message X)) (marks : List (List ℕ)) → received ++ items ≡ map message.Mark marks
      → (gone left : List (List ℕ)) × (items ≡ map message.Mark left) × (gone ++ left ≡ marks) × (marks_in received ≡ length gone)
  parted_marks [] items marks e = ([], marks, e, refl, refl)
  parted_marks (m ∷ ms) items [] e = absurd (let l = ap length e in omega arith)
  parted_marks (message.Job j ∷ ms) items (c ∷ cs) e = absurd (job_or_mark j c (cons_head _ _ _ _ e))
  parted_marks (message.Mark d ∷ ms) items (c ∷ cs) e =
      let r = parted_marks ms items cs (cons_tail _ _ _ _ e) in (c ∷ r.0, r.1, r.2, ap (λ l. c ∷ l) r.3, ap suc r.4)

  parted : (received items : List (Message X)) (jobs : List (Job X)) (marks : List (List ℕ)) → received ++ items ≡ map message.Job jobs ++ map message.Mark marks → Parted received items marks
  parted [] items jobs marks e = record { gone = []; jobs = jobs; left = marks; behind = e; whole = refl; count = refl; done = λ some_gone. absurd (omega arith) }
  parted (m ∷ ms) items [] marks e =
      let r = parted_marks (m ∷ ms) items marks e in record { gone = r.0; jobs = []; left = r.1; behind = r.2; whole = r.3; count = r.4; done = λ _. refl }
  parted (message.Job j ∷ ms) items (i ∷ is) marks e =
      let r = parted ms items is marks (cons_tail _ _ _ _ e) in
      record { gone = r.gone; jobs = r.jobs; left = r.left; behind = r.behind; whole = r.whole; count = r.count; done = r.done }
  parted (message.Mark d ∷ ms) items (i ∷ is) marks e = absurd (job_or_mark i d (sym (cons_head _ _ _ _ e)))

  -- in the channel all jobs come before the marks
  pub marks_are_last : (items : List (Message X)) (views : List (View X)) → Kept items views → MarksAreLast items views
  marks_are_last items views k =
      let q : Parted k.past.received items k.past.marks = parted k.past.received items k.past.jobs k.past.marks k.whole in
      record {
        gone = q.gone;
        jobs = q.jobs;
        marks = q.left;
        behind = q.behind;
        taken = k.marked ∙ q.count;
        sent = λ pass v at closes. ap length q.whole ∙ sym ((k.fits pass v at).closer closes).3;
        counts = λ pass v at. all_map (FitsPuts k.past pass) _
            (λ u f. subst (AllByRecursion (λ c. slice_index_or c u.source 0 ≡ length u.items)) (sym q.whole)
            (all_map (Counts k.past.sources k.past.jobs) _ (λ c h. h u.source f.known ∙ (ap length f.sent ∙ length-numbered u.source 0 u.items)) k.past.marks k.counts))
            v.puts (k.fits pass v at).puts;
        done = q.done;
      }

  -- once a mark was taken, all items were
  pub all_is_taken : (items : List (Message X)) (views : List (View X)) → Kept items views → 0 < sum_by marks_taken views → (pass : ℕ) (v : View X) → get_elem? views pass ≡ some v
      → AllByRecursion (λ (u : Puts X). (n : ℕ) → n < length u.items → times_taken u.source n views ≡ 1) v.puts
  all_is_taken items views k some_mark pass v at =
      let m = marks_are_last items views k in
      let none : m.jobs ≡ [] = m.done (let t = m.taken in omega arith) in
      let empty : jobs_in items ≡ [] = ap jobs_in m.behind ∙ (jobs_in-all m.jobs m.marks ∙ none) in
      all_map (λ (u : Puts X). (n : ℕ) → n < length u.items → times_taken u.source n views + times_held u.source n items ≡ 1) _
      (λ u once n below. (let e = once n below in let z = ap (sum_by (is_job u.source n)) empty in omega arith)) v.puts (each_once items views k pass v at)

  -- if one pass holds all shares and marks, the channel is empty
  pub last_is_settled : (items : List (Message X)) (views : List (View X)) → Kept items views → (pass : ℕ) (v : View X) → get_elem? views pass ≡ some v → HoldsAll v → IsSettled v items
  last_is_settled items views k pass v at all = settles pass v all.closes all.shares all.some_mark all.enough all.done items views k at
