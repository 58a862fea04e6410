-- Lists of jobs, of messages and of views, as the account uses them.
use Rattle.std.proofs.Common.{◌≡◌, ◌≢◌, ℕ, zero, suc, ◌+◌, ◌<◌, ◌≤◌, ◌⊎◌, inl, inr, ⊎_elim, List, [], ◌∷◌, ◌++◌, length, map, set, refl, sym, ap, subst, ◌∙◌, arith, append-nil, append_assoc}
use Rattle.std.specs.List.{sum_by, AllByRecursion}
use Rattle.std.proofs.lemmas.List.Sums.{sum_by-cons, sum_by_push}
use Rattle.std.proofs.lemmas.Bool.{eq-eqb, ne_eqb}
use Rattle.std.proofs.lemmas.List.{map-append}
use Rattle.std.proofs.lemmas.List.Elements.{filter-append}
use mathlib.Core.Option.{some, some-injective, some-ne-none}
use lib.ListN.{get_elem?}
use Rattle.ls_queue.specs.declared.replies.Job.{Job}
use Rattle.ls_queue.specs.declared.views.Message.{Message}
use Rattle.ls_queue.specs.declared.views.Message.TheVariants as message
use Rattle.ls_queue.specs.View.Account.{job, numbered, jobs_of, jobs_in, marks_in, IsWithin}

module _ {A : Type 0} where
  pub all_append : (P : A → Type 0) (xs ys : List A) → AllByRecursion P xs → AllByRecursion P ys → AllByRecursion P (xs ++ ys)
  all_append P [] ys a b = b
  all_append P (x ∷ xs) ys a b = (a.0, all_append P xs ys a.1 b)

  pub all_map : (P Q : A → Type 0) → ((x : A) → P x → Q x) → (xs : List A) → AllByRecursion P xs → AllByRecursion Q xs
  all_map P Q f [] a = tt
  all_map P Q f (x ∷ xs) a = (f x a.0, all_map P Q f xs a.1)

  pub all_none : (P : A → Type 0) (xs : List A) → (0 < length xs → ⊥) → AllByRecursion P xs
  all_none P [] n = tt
  all_none P (x ∷ xs) n = absurd (n (omega arith))

  pub at_set : (l : List A) (i j : ℕ) (a b : A) → get_elem? (set l i a) j ≡ some b → ((j ≡ i) × (a ≡ b)) ⊎ ((j ≢ i) × (get_elem? l j ≡ some b))
  at_set [] i j a b e = absurd (some-ne-none b (sym e))
  at_set (x ∷ xs) zero zero a b e = inl (refl, some-injective a b e)
  at_set (x ∷ xs) zero (suc j) a b e = inr ((λ h. omega arith), e)
  at_set (x ∷ xs) (suc i) zero a b e = inr ((λ h. omega arith), e)
  at_set (x ∷ xs) (suc i) (suc j) a b e = ⊎_elim (λ t. inl (ap suc t.0, t.1)) (λ t. let n = t.0 in inr ((λ h. n (omega arith)), t.1)) (at_set xs i j a b e)

  -- after an element is appended, an index has the new element, at the end, or the element it had before
  pub at_end : (l : List A) (a b : A) (j : ℕ) → get_elem? (l ++ a ∷ []) j ≡ some b → ((j ≡ length l) × (a ≡ b)) ⊎ ((j < length l) × (get_elem? l j ≡ some b))
  at_end [] a b zero e = inl (refl, some-injective a b e)
  at_end [] a b (suc j) e = absurd (some-ne-none b (sym e))
  at_end (x ∷ xs) a b zero e = inr (omega arith, e)
  at_end (x ∷ xs) a b (suc j) e = ⊎_elim (λ t. inl (ap suc t.0, t.1)) (λ t. let n = t.0 in inr (omega arith, t.1)) (at_end xs a b j e)

  pub at_inside : (l : List A) (j : ℕ) (b : A) → get_elem? l j ≡ some b → j < length l
  at_inside [] j b e = absurd (some-ne-none b (sym e))
  at_inside (x ∷ xs) zero b e = omega arith
  at_inside (x ∷ xs) (suc j) b e = let n = at_inside xs j b e in omega arith

  pub set_length : (l : List A) (j : ℕ) (b : A) → length (set l j b) ≡ length l
  set_length [] j b = refl
  set_length (x ∷ xs) zero b = refl
  set_length (x ∷ xs) (suc j) b = ap suc (set_length xs j b)

  -- what holds of each element and its place holds after one is set
  pub each_set : (F : ℕ → A → Type 0) (l : List A) (i : ℕ) (a : A) → F i a → ((j : ℕ) (b : A) → j ≢ i → get_elem? l j ≡ some b → F j b)
      → (j : ℕ) (b : A) → get_elem? (set l i a) j ≡ some b → F j b
  each_set F l i a mine others j b e = ⊎_elim (λ (x : (j ≡ i) × (a ≡ b)). subst (λ (y : ℕ × A). F y.0 y.1) (λ k. (sym x.0 k, x.1 k)) mine)
      (λ (x : (j ≢ i) × (get_elem? l j ≡ some b)). others j b x.0 x.1) (at_set l i j a b e)

  -- a sum after one element is set
  pub sum_set : (f : A → ℕ) (l : List A) (i : ℕ) (a b : A) → get_elem? l i ≡ some a → sum_by f (set l i b) + f a ≡ sum_by f l + f b
  sum_set f [] i a b e = absurd (some-ne-none a (sym e))
  sum_set f (x ∷ xs) zero a b e = let s : f x ≡ f a = ap f (some-injective x a e) in omega (arith, sum_by-cons f x xs, sum_by-cons f b xs)
  sum_set f (x ∷ xs) (suc i) a b e = let s = sum_set f xs i a b e in omega (arith, sum_by-cons f x xs, sum_by-cons f x (set xs i b))

  -- what holds of each element and its place holds after one is set and one is added
  pub each_added : (F : ℕ → A → Type 0) (l : List A) (i : ℕ) (a b : A) → F i a → ((j : ℕ) (u : A) → j ≢ i → get_elem? l j ≡ some u → F j u) → F (length l) b
      → (j : ℕ) (u : A) → get_elem? (set l i a ++ b ∷ []) j ≡ some u → F j u
  each_added F l i a b mine others new j u e = ⊎_elim
      (λ (x : (j ≡ length (set l i a)) × (b ≡ u)). subst (λ (y : ℕ × A). F y.0 y.1) (λ k. (sym (x.0 ∙ set_length l i a) k, x.1 k)) new)
      (λ (x : (j < length (set l i a)) × (get_elem? (set l i a) j ≡ some u)). each_set F l i a mine others j u x.1) (at_end (set l i a) b u j e)

  pub sum_added : (f : A → ℕ) (l : List A) (i : ℕ) (a b c : A) → get_elem? l i ≡ some a → sum_by f (set l i b ++ c ∷ []) + f a ≡ sum_by f l + f b + f c
  sum_added f l i a b c e = let s = sum_set f l i a b e in omega (arith, sum_by_push f (set l i b) c)

  -- the parts of a sum
  pub at_most : (f : A → ℕ) (views : List A) (p : ℕ) (v : A) → get_elem? views p ≡ some v → f v ≤ sum_by f views
  at_most f [] p v e = absurd (some-ne-none v (sym e))
  at_most f (x ∷ xs) zero v e = let s : f x ≡ f v = ap f (some-injective x v e) in omega (arith, sum_by-cons f x xs)
  at_most f (x ∷ xs) (suc p) v e = let s = at_most f xs p v e in omega (arith, sum_by-cons f x xs)

  pub two_of : (f : A → ℕ) (views : List A) (p q : ℕ) (v u : A) → q ≢ p → get_elem? views p ≡ some v → get_elem? views q ≡ some u → f v + f u ≤ sum_by f views
  two_of f [] p q v u n e e' = absurd (some-ne-none v (sym e))
  two_of f (x ∷ xs) zero zero v u n e e' = absurd (n refl)
  two_of f (x ∷ xs) zero (suc q) v u n e e' = let s : f x ≡ f v = ap f (some-injective x v e) in let t = at_most f xs q u e' in omega (arith, sum_by-cons f x xs)
  two_of f (x ∷ xs) (suc p) zero v u n e e' = let s : f x ≡ f u = ap f (some-injective x u e') in let t = at_most f xs p v e in omega (arith, sum_by-cons f x xs)
  two_of f (x ∷ xs) (suc p) (suc q) v u n e e' = let t = two_of f xs p q v u (λ i. n (ap suc i)) e e' in omega (arith, sum_by-cons f x xs)

  pub all_zero : (f : A → ℕ) (views : List A) → ((q : ℕ) (u : A) → get_elem? views q ≡ some u → f u ≡ 0) → sum_by f views ≡ 0
  all_zero f [] zeros = refl
  all_zero f (x ∷ xs) zeros = let a = zeros 0 x refl in let b = all_zero f xs (λ q u e. zeros (suc q) u e) in omega (arith, sum_by-cons f x xs)

  -- if all other parts are 0, a sum is the remaining part
  pub only_one : (f : A → ℕ) (views : List A) (p : ℕ) (v : A) → get_elem? views p ≡ some v
      → ((q : ℕ) (u : A) → q ≢ p → get_elem? views q ≡ some u → f u ≡ 0) → sum_by f views ≡ f v
  only_one f [] p v e zeros = absurd (some-ne-none v (sym e))
  only_one f (x ∷ xs) zero v e zeros =
      let s : f x ≡ f v = ap f (some-injective x v e) in let t = all_zero f xs (λ q u e'. zeros (suc q) u (λ i. omega arith) e') in omega (arith, sum_by-cons f x xs)
  only_one f (x ∷ xs) (suc p) v e zeros =
      let s = zeros 0 x (λ i. omega arith) refl in let t = only_one f xs p v e (λ q u n e'. zeros (suc q) u (λ i. n (omega arith)) e') in omega (arith, sum_by-cons f x xs)

head_else : {A : Type 0} → A → List A → A
head_else a [] = a
head_else a (x ∷ xs) = x

tail_of : {A : Type 0} → List A → List A
tail_of [] = []
tail_of (x ∷ xs) = xs

pub cons_head : {A : Type 0} (x y : A) (xs ys : List A) → x ∷ xs ≡ y ∷ ys → x ≡ y
unfolding head_else
cons_head x y xs ys e = ap (head_else x) e

pub cons_tail : {A : Type 0} (x y : A) (xs ys : List A) → x ∷ xs ≡ y ∷ ys → xs ≡ ys
unfolding tail_of
cons_tail x y xs ys e = ap tail_of e

no_rest : {A : Type 0} (xs ys : List A) → xs ++ ys ≡ [] → ys ≡ []
no_rest [] ys e = e
no_rest (x ∷ xs) ys e = let l = ap length e in absurd (omega arith)

module _ {X : Type 0} where
  is_job : Message X → Type 0
  is_job (message.Job j) = Unit {0}
  is_job (message.Mark c) = ⊥

  pub job_or_mark : (j : Job X) (c : List ℕ) → message.Job j ≡ message.Mark c → ⊥
  unfolding is_job
  job_or_mark j c e = subst is_job e tt

  job_else : Job X → Message X → Job X
  job_else k (message.Job j) = j
  job_else k (message.Mark c) = k

  one_job : (j k : Job X) → message.Job j ≡ message.Job k → j ≡ k
  unfolding job_else
  one_job j k e = ap (job_else j) e

  pub numbered-more : (s n : ℕ) (xs : List X) (x : X) → numbered s n (xs ++ x ∷ []) ≡ numbered s n xs ++ job s (n + length xs) x ∷ []
  numbered-more s n [] x = ap (λ k. job s k x ∷ []) (omega arith)
  numbered-more s n (y ∷ ys) x = ap (λ l. job s n y ∷ l) (numbered-more s (suc n) ys x ∙ ap (λ k. numbered s (suc n) ys ++ job s k x ∷ []) (omega arith))

  pub length-numbered : (s n : ℕ) (xs : List X) → length (numbered s n xs) ≡ length xs
  length-numbered s n [] = refl
  length-numbered s n (x ∷ xs) = ap suc (length-numbered s (suc n) xs)

  pub jobs_of-own : (s n : ℕ) (jobs : List (Job X)) (x : X) → jobs_of s (jobs ++ job s n x ∷ []) ≡ jobs_of s jobs ++ job s n x ∷ []
  jobs_of-own s n jobs x = filter-append _ jobs (job s n x ∷ []) ∙ ap (λ l. jobs_of s jobs ++ l) (rw (eq-eqb s s refl) refl)

  pub jobs_of-other : (s t n : ℕ) (jobs : List (Job X)) (x : X) → s ≢ t → jobs_of t (jobs ++ job s n x ∷ []) ≡ jobs_of t jobs
  jobs_of-other s t n jobs x other = filter-append _ jobs (job s n x ∷ []) ∙ (ap (λ l. jobs_of t jobs ++ l) (rw (ne_eqb s t other) refl) ∙ append-nil (jobs_of t jobs))

  pub jobs_in-append : (xs ys : List (Message X)) → jobs_in (xs ++ ys) ≡ jobs_in xs ++ jobs_in ys
  jobs_in-append [] ys = refl
  jobs_in-append (message.Job j ∷ xs) ys = ap (λ l. j ∷ l) (jobs_in-append xs ys)
  jobs_in-append (message.Mark c ∷ xs) ys = jobs_in-append xs ys

  pub marks_in-append : (xs ys : List (Message X)) → marks_in (xs ++ ys) ≡ marks_in xs + marks_in ys
  marks_in-append [] ys = omega arith
  marks_in-append (message.Job j ∷ xs) ys = marks_in-append xs ys
  marks_in-append (message.Mark c ∷ xs) ys = let s = marks_in-append xs ys in omega arith

  pub IsWithin-later : (xs ys zs : List (Job X)) → IsWithin xs ys → IsWithin xs (ys ++ zs)
  IsWithin-later [] ys zs w = tt
  IsWithin-later (x ∷ xs) [] zs w = absurd w
  IsWithin-later (x ∷ xs) (y ∷ ys) zs w = ⊎_elim (λ t. inl (t.0, IsWithin-later xs ys zs t.1)) (λ t. inr (IsWithin-later (x ∷ xs) ys zs t)) w

  pub IsWithin-last : (xs ys : List (Job X)) (z : Job X) → IsWithin xs ys → IsWithin (xs ++ z ∷ []) (ys ++ z ∷ [])
  IsWithin-last [] [] z w = inl (refl, tt)
  IsWithin-last [] (y ∷ ys) z w = inr (IsWithin-last [] ys z tt)
  IsWithin-last (x ∷ xs) [] z w = absurd w
  IsWithin-last (x ∷ xs) (y ∷ ys) z w = ⊎_elim (λ t. inl (t.0, IsWithin-last xs ys z t.1)) (λ t. inr (IsWithin-last (x ∷ xs) ys z t)) w

  -- one more job, if no mark was sent
  pub one_more_job : (received items : List (Message X)) (jobs : List (Job X)) (marks : List (List ℕ)) (j : Job X) → (0 < length marks → ⊥)
      → received ++ items ≡ map message.Job jobs ++ map message.Mark marks
      → received ++ (items ++ message.Job j ∷ []) ≡ map message.Job (jobs ++ j ∷ []) ++ map message.Mark marks
  one_more_job received items jobs [] j none e =
      sym (append_assoc received items (message.Job j ∷ [])) ∙ (ap (λ l. l ++ message.Job j ∷ []) (e ∙ append-nil (map message.Job jobs))
      ∙ (sym (map-append message.Job jobs (j ∷ [])) ∙ sym (append-nil (map message.Job (jobs ++ j ∷ [])))))
  one_more_job received items jobs (c ∷ cs) j none e = absurd (none (omega arith))

  pub one_more_mark : (received items : List (Message X)) (jobs : List (Job X)) (marks : List (List ℕ)) (c : List ℕ)
      → received ++ items ≡ map message.Job jobs ++ map message.Mark marks
      → received ++ (items ++ message.Mark c ∷ []) ≡ map message.Job jobs ++ map message.Mark (marks ++ c ∷ [])
  one_more_mark received items jobs marks c e =
      sym (append_assoc received items (message.Mark c ∷ [])) ∙ (ap (λ l. l ++ message.Mark c ∷ []) e
      ∙ (append_assoc (map message.Job jobs) (map message.Mark marks) (message.Mark c ∷ []) ∙ ap (λ l. map message.Job jobs ++ l) (sym (map-append message.Mark marks (c ∷ [])))))

  -- the first message in the channel is one that was sent
  pub front_job : (P : Job X → Type 0) (received items : List (Message X)) (j : Job X) (jobs : List (Job X)) (marks : List (List ℕ))
      → received ++ (message.Job j ∷ items) ≡ map message.Job jobs ++ map message.Mark marks → AllByRecursion P jobs → P j
  front_job P [] items j [] [] e all = let l = ap length e in absurd (omega arith)
  front_job P [] items j [] (c ∷ cs) e all = absurd (job_or_mark j c (cons_head _ _ _ _ e))
  front_job P [] items j (k ∷ ks) marks e all = subst P (sym (one_job j k (cons_head _ _ _ _ e))) all.0
  front_job P (m ∷ ms) items j [] [] e all = let l = ap length e in absurd (omega arith)
  front_job P (m ∷ ms) items j [] (c ∷ cs) e all = front_job P ms items j [] cs (cons_tail _ _ _ _ e) tt
  front_job P (m ∷ ms) items j (k ∷ ks) marks e all = front_job P ms items j ks marks (cons_tail _ _ _ _ e) all.1

  jobs_in-marks : (marks : List (List ℕ)) → jobs_in {X = X} (map message.Mark marks) ≡ []
  jobs_in-marks [] = refl
  jobs_in-marks (c ∷ cs) = jobs_in-marks cs

  pub jobs_in-all : (jobs : List (Job X)) (marks : List (List ℕ)) → jobs_in (map message.Job jobs ++ map message.Mark marks) ≡ jobs
  jobs_in-all [] marks = jobs_in-marks marks
  jobs_in-all (j ∷ js) marks = ap (λ l. j ∷ l) (jobs_in-all js marks)

  -- once all marks were received, everything was
  pub all_gone : (received items : List (Message X)) (jobs : List (Job X)) (marks : List (List ℕ))
      → received ++ items ≡ map message.Job jobs ++ map message.Mark marks → length marks ≤ marks_in received → 0 < length marks → items ≡ []
  all_gone [] items jobs marks e enough some_mark = absurd (omega arith)
  all_gone (m ∷ ms) items [] [] e enough some_mark = absurd (omega arith)
  all_gone (message.Job j ∷ ms) items [] (c ∷ cs) e enough some_mark = absurd (job_or_mark j c (cons_head _ _ _ _ e))
  all_gone (message.Mark d ∷ ms) items [] (c ∷ []) e enough some_mark = no_rest ms items (cons_tail _ _ _ _ e)
  all_gone (message.Mark d ∷ ms) items [] (c ∷ b ∷ cs) e enough some_mark = all_gone ms items [] (b ∷ cs) (cons_tail _ _ _ _ e) (omega arith) (omega arith)
  all_gone (message.Job j ∷ ms) items (k ∷ ks) marks e enough some_mark = all_gone ms items ks marks (cons_tail _ _ _ _ e) enough some_mark
  all_gone (message.Mark d ∷ ms) items (k ∷ ks) marks e enough some_mark = absurd (job_or_mark k d (sym (cons_head _ _ _ _ e)))
