-- Jobs whose numbers count up for each source: none occurs twice, so the remaining jobs are all but those that are gone.
use Rattle.std.proofs.Common.{◌+◌, ◌≡◌, ◌≢◌, ℕ, ◌<◌, inl, inr, Bool, true, false, not, cond, ◌||◌, List, [], ◌∷◌, ◌++◌, length, map, filter, ◌==◌, refl, sym, ap, subst, ◌∙◌, arith, append-nil, append_assoc}
use Rattle.std.specs.List.{list_any, range_with_len}
use Rattle.std.proofs.lemmas.Bool.{eq-eqb, ne_eqb}
use Rattle.std.proofs.lemmas.Bool.Decides.{eqb_tells}
use Rattle.std.proofs.lemmas.List.{map-append, length-append}
use Rattle.std.proofs.lemmas.List.Elements.{filter-append}
use Rattle.std.proofs.lemmas.List.Folds.{list_any-append}
use Rattle.ls_queue.specs.declared.replies.Job.{Job}
use Rattle.ls_queue.specs.History.{items_of, is_same, is_among}
use Rattle.ls_queue.specs.Queue.{numbers_of}

pub items_of-append : (s : ℕ) (xs ys : List (Job ℕ)) → items_of s (xs ++ ys) ≡ items_of s xs ++ items_of s ys
items_of-append s xs ys =
    ap (map (λ (job : Job ℕ). job.item)) (filter-append (λ (job : Job ℕ). job.source == s) xs ys)
    ∙ map-append (λ (job : Job ℕ). job.item) (filter (λ (job : Job ℕ). job.source == s) xs) (filter (λ (job : Job ℕ). job.source == s) ys)

pub items_of-own : (s n x : ℕ) → items_of s (record { source = s; number = n; item = x } ∷ []) ≡ x ∷ []
items_of-own s n x = rw (eq-eqb s s refl) refl

pub items_of-other : (s t n x : ℕ) → s ≢ t → items_of t (record { source = s; number = n; item = x } ∷ []) ≡ []
items_of-other s t n x other = rw (ne_eqb s t other) refl

-- each job's number is the number of jobs of its source before it
pub AreNumbered : List (Job ℕ) → List (Job ℕ) → Type 0
AreNumbered before [] = Unit {0}
AreNumbered before (job ∷ jobs) = (job.number ≡ length (items_of job.source before)) × AreNumbered (before ++ job ∷ []) jobs

pub AreNumbered-none : (before : List (Job ℕ)) → AreNumbered before []
unfolding AreNumbered
AreNumbered-none before = tt

pub AreNumbered-one : (before : List (Job ℕ)) (job : Job ℕ) → job.number ≡ length (items_of job.source before) → AreNumbered before (job ∷ [])
unfolding AreNumbered
AreNumbered-one before job number = (number, tt)

pub AreNumbered-append : (before xs ys : List (Job ℕ)) → AreNumbered before xs → AreNumbered (before ++ xs) ys → AreNumbered before (xs ++ ys)
unfolding AreNumbered
AreNumbered-append before [] ys front back = subst (λ b. AreNumbered b ys) (append-nil before) back
AreNumbered-append before (x ∷ xs) ys front back =
    (front.0, AreNumbered-append (before ++ x ∷ []) xs ys front.1 (subst (λ b. AreNumbered b ys) (sym (append_assoc before (x ∷ []) xs)) back))

pub AreNumbered-front : (before xs ys : List (Job ℕ)) → AreNumbered before (xs ++ ys) → AreNumbered before xs
unfolding AreNumbered
AreNumbered-front before [] ys numbered = tt
AreNumbered-front before (x ∷ xs) ys numbered = (numbered.0, AreNumbered-front (before ++ x ∷ []) xs ys numbered.1)

AreNumbered-back : (before xs ys : List (Job ℕ)) → AreNumbered before (xs ++ ys) → AreNumbered (before ++ xs) ys
unfolding AreNumbered
AreNumbered-back before [] ys numbered = subst (λ b. AreNumbered b ys) (sym (append-nil before)) numbered
AreNumbered-back before (x ∷ xs) ys numbered =
    subst (λ b. AreNumbered b ys) (append_assoc before (x ∷ []) xs) (AreNumbered-back (before ++ x ∷ []) xs ys numbered.1)

-- each job's number is below the number of jobs of its source in a list
AreBelow : List (Job ℕ) → List (Job ℕ) → Type 0
AreBelow [] all = Unit {0}
AreBelow (job ∷ jobs) all = (job.number < length (items_of job.source all)) × AreBelow jobs all

AreBelow-more : (jobs all more : List (Job ℕ)) → AreBelow jobs all → AreBelow jobs (all ++ more)
unfolding AreBelow
AreBelow-more [] all more below = tt
AreBelow-more (job ∷ jobs) all more below = (
  omega (arith, below.0, ap length (items_of-append job.source all more), length-append (items_of job.source all) (items_of job.source more)),
  AreBelow-more jobs all more below.1,
)

one_more : (before : List (Job ℕ)) (job : Job ℕ) (jobs : List (Job ℕ)) → length (items_of job.source before) < length (items_of job.source (before ++ job ∷ jobs))
one_more before job jobs =
    let own : items_of job.source (job ∷ []) ≡ job.item ∷ [] = items_of-own job.source job.number job.item in
    let tail : items_of job.source (job ∷ jobs) ≡ job.item ∷ items_of job.source jobs =
    items_of-append job.source (job ∷ []) jobs ∙ ap (λ xs. xs ++ items_of job.source jobs) own in
    let whole : items_of job.source (before ++ job ∷ jobs) ≡ items_of job.source before ++ (job.item ∷ items_of job.source jobs) =
    items_of-append job.source before (job ∷ jobs) ∙ ap (λ xs. items_of job.source before ++ xs) tail in
    omega (arith, ap length whole, length-append (items_of job.source before) (job.item ∷ items_of job.source jobs))

AreBelow-numbered : (before jobs : List (Job ℕ)) → AreNumbered before jobs → AreBelow jobs (before ++ jobs)
unfolding AreNumbered AreBelow
AreBelow-numbered before [] numbered = tt
AreBelow-numbered before (job ∷ jobs) numbered = (
  omega (arith, numbered.0, one_more before job jobs),
  subst (AreBelow jobs) (append_assoc before (job ∷ []) jobs) (AreBelow-numbered (before ++ job ∷ []) jobs numbered.1),
)

differ : (one other : Job ℕ) (k : ℕ → ℕ) → one.number < k one.source → other.number ≡ k other.source → is_same one other ≡ false
differ one other k below number =
    elim (eqb_tells one.source other.source) [
      | inl same ↦
          let apart : one.number ≢ other.number = λ e. omega (arith, below, number, ap k same.1, e) in
          rw (same.0, ne_eqb one.number other.number apart) refl
      | inr apart ↦ rw apart.0 refl
    ]

-- a job that is numbered after all of these isn't among them
not_among : (jobs all : List (Job ℕ)) (job : Job ℕ) → AreBelow jobs all → job.number ≡ length (items_of job.source all) → is_among jobs job ≡ false
unfolding AreBelow
not_among [] all job below number = refl
not_among (one ∷ jobs) all job below number =
    rw (differ one job (λ s. length (items_of s all)) below.0 number) (not_among jobs all job below.1 number)

or-true : (a b : Bool) → (a || (true || b)) ≡ true
or-true true b = refl
or-true false b = refl

is_among-here : (front : List (Job ℕ)) (job : Job ℕ) (back : List (Job ℕ)) → is_among (front ++ job ∷ back) job ≡ true
is_among-here front job back =
    let itself : is_same job job ≡ true = rw (eq-eqb job.source job.source refl, eq-eqb job.number job.number refl) refl in
    list_any-append (λ one. is_same one job) front (job ∷ back)
    ∙ ap (λ b. list_any (λ one. is_same one job) front || (b || list_any (λ one. is_same one job) back)) itself
    ∙ or-true (list_any (λ one. is_same one job) front) (list_any (λ one. is_same one job) back)

-- of the jobs that are gone none remains
none_left : (front jobs : List (Job ℕ)) → filter (λ job. not (is_among (front ++ jobs) job)) jobs ≡ []
none_left front [] = refl
none_left front (job ∷ jobs) =
    let rest : filter (λ one. not (is_among (front ++ job ∷ jobs) one)) jobs ≡ [] =
    subst (λ gone. filter (λ one. not (is_among gone one)) jobs ≡ []) (append_assoc front (job ∷ []) jobs) (none_left (front ++ job ∷ []) jobs) in
    ap (λ b. cond (not b) (job ∷ filter (λ one. not (is_among (front ++ job ∷ jobs) one)) jobs) (filter (λ one. not (is_among (front ++ job ∷ jobs) one)) jobs)) (is_among-here front job jobs) ∙ rest

-- of the jobs numbered after them all remain
all_left : (gone before jobs : List (Job ℕ)) → AreBelow gone before → AreNumbered before jobs → filter (λ job. not (is_among gone job)) jobs ≡ jobs
unfolding AreNumbered
all_left gone before [] below numbered = refl
all_left gone before (job ∷ jobs) below numbered =
    let rest : filter (λ one. not (is_among gone one)) jobs ≡ jobs =
    all_left gone (before ++ job ∷ []) jobs (AreBelow-more gone before (job ∷ []) below) numbered.1 in
    ap (λ b. cond (not b) (job ∷ filter (λ one. not (is_among gone one)) jobs) (filter (λ one. not (is_among gone one)) jobs)) (not_among gone before job below numbered.0)
    ∙ ap (λ xs. job ∷ xs) rest

pub left_after : (gone jobs : List (Job ℕ)) → AreNumbered [] (gone ++ jobs) → filter (λ job. not (is_among gone job)) (gone ++ jobs) ≡ jobs
left_after gone jobs numbered =
    filter-append (λ job. not (is_among gone job)) gone jobs
    ∙ ap (λ xs. xs ++ filter (λ job. not (is_among gone job)) jobs) (none_left [] gone)
    ∙ all_left gone gone jobs (AreBelow-numbered [] gone (AreNumbered-front [] gone jobs numbered)) (AreNumbered-back [] gone jobs numbered)

-- numbered jobs have, for each source, consecutive numbers from the number of its jobs before them
pub numbers_in_order : (s : ℕ) (before jobs : List (Job ℕ)) → AreNumbered before jobs → numbers_of s jobs ≡ range_with_len (length (items_of s before)) (length (items_of s jobs))
unfolding AreNumbered
numbers_in_order s before [] numbered = refl
numbers_in_order s before (job ∷ jobs) numbered =
    let rest : numbers_of s jobs ≡ range_with_len (length (items_of s (before ++ job ∷ []))) (length (items_of s jobs)) = numbers_in_order s (before ++ job ∷ []) jobs numbered.1 in
    elim (eqb_tells job.source s) [
      | inl same ↦
          let numbers : numbers_of s (job ∷ jobs) ≡ job.number ∷ numbers_of s jobs = rw same.0 refl in
          let items : items_of s (job ∷ jobs) ≡ job.item ∷ items_of s jobs = rw same.0 refl in
          let own : items_of s (job ∷ []) ≡ job.item ∷ [] = rw same.0 refl in
          let grown : length (items_of s (before ++ job ∷ [])) ≡ length (items_of s before) + 1 =
          ap length (items_of-append s before (job ∷ []) ∙ ap (λ all. items_of s before ++ all) own) ∙ length-append (items_of s before) (job.item ∷ []) in
          let number : job.number ≡ length (items_of s before) = numbered.0 ∙ ap (λ t. length (items_of t before)) same.1 in
          numbers ∙ ap (λ n. n ∷ numbers_of s jobs) number ∙ ap (λ all. length (items_of s before) ∷ all) (rest ∙ ap (λ n. range_with_len n (length (items_of s jobs))) grown)
          ∙ ap (λ all. range_with_len (length (items_of s before)) (length all)) (sym items)
      | inr other ↦
          let numbers : numbers_of s (job ∷ jobs) ≡ numbers_of s jobs = rw other.0 refl in
          let items : items_of s (job ∷ jobs) ≡ items_of s jobs = rw other.0 refl in
          let none : items_of s (job ∷ []) ≡ [] = rw other.0 refl in
          let same : items_of s (before ++ job ∷ []) ≡ items_of s before =
          items_of-append s before (job ∷ []) ∙ ap (λ all. items_of s before ++ all) none ∙ append-nil (items_of s before) in
          numbers ∙ rest ∙ ap (λ all. range_with_len (length all) (length (items_of s jobs))) same ∙ ap (λ all. range_with_len (length (items_of s before)) (length all)) (sym items)
    ]
