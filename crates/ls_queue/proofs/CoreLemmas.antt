-- A `Core` stays one: the numbers of its held jobs stay consecutive.
use Rattle.std.proofs.Common.{◌≡◌, ◌≢◌, ℕ, ◌+◌, ◌<◌, ◌≤◌, inl, inr, Bool, true, false, cond, List, [], ◌∷◌, ◌++◌, length, map, drop, set, filter, get_or, ◌==◌, refl, sym, ap, subst, ◌∙◌, arith, append-nil}
use Rattle.std.proofs.lemmas.Bool.{eq-eqb, ne_eqb}
use Rattle.std.proofs.lemmas.Bool.Decides.{eqb_tells}
use Rattle.std.proofs.lemmas.List.{map-append, get_or-set_same, get_or-set_other, length-set, length_push}
use Rattle.std.proofs.lemmas.List.Elements.{filter-append}
use Rattle.ls_queue.specs.declared.replies.Job.{Job}
use Rattle.ls_queue.specs.Queue.{Queue, count_of, numbers_of}
use Rattle.ls_queue.specs.View.Cores.{AreLastBefore, IsCore}

-- one number more
pub AreLastBefore-push : (end : ℕ) (ns : List ℕ) → AreLastBefore end ns → AreLastBefore (end + 1) (ns ++ end ∷ [])
AreLastBefore-push end [] last = (refl, tt)
AreLastBefore-push end (n ∷ ns) last = (omega (arith, length_push ns end, last.0), AreLastBefore-push end ns last.1)

module _ {X : Type 0} where
  pub numbers_of-append : (s : ℕ) (xs ys : List (Job X)) → numbers_of s (xs ++ ys) ≡ numbers_of s xs ++ numbers_of s ys
  numbers_of-append s xs ys =
      ap (map (λ (j : Job X). j.number)) (filter-append (λ (j : Job X). j.source == s) xs ys)
      ∙ map-append (λ (j : Job X). j.number) (filter (λ (j : Job X). j.source == s) xs) (filter (λ (j : Job X). j.source == s) ys)

  pub numbers_of-own : (s n : ℕ) (x : X) → numbers_of {X = X} s (record { source = s; number = n; item = x } ∷ []) ≡ n ∷ []
  numbers_of-own s n x = rw (eq-eqb s s refl) refl

  pub numbers_of-other : (s t n : ℕ) (x : X) → s ≢ t → numbers_of {X = X} t (record { source = s; number = n; item = x } ∷ []) ≡ []
  numbers_of-other s t n x other = rw (ne_eqb s t other) refl

  -- fewer jobs, from the front
  AreLastBefore-rest : (end : ℕ) (b : Bool) (j : Job X) (jobs : List (Job X)) → AreLastBefore end (map (λ (i : Job X). i.number) (cond b (j ∷ jobs) jobs))
      → AreLastBefore end (map (λ (i : Job X). i.number) jobs)
  AreLastBefore-rest end true j jobs last = last.1
  AreLastBefore-rest end false j jobs last = last

  pub AreLastBefore-drop : (end s : ℕ) (jobs : List (Job X)) → AreLastBefore end (numbers_of s jobs) → AreLastBefore end (numbers_of s (drop 1 jobs))
  AreLastBefore-drop end s [] last = last
  AreLastBefore-drop end s (j ∷ jobs) last = AreLastBefore-rest end (j.source == s) j (filter (λ (i : Job X). i.source == s) jobs) last

  length-drop_one : (jobs : List (Job X)) → length (drop 1 jobs) ≤ length jobs
  length-drop_one [] = omega arith
  length-drop_one (j ∷ jobs) = omega arith

  -- after a put
  pub IsCore-put : (q : Queue X) (s n : ℕ) (x : X) → IsCore q → s < length q.counts → n ≡ count_of q s → length q.held < q.capacity
      → IsCore (record { capacity = q.capacity; counts = set q.counts s (n + 1); closed = q.closed; held = q.held ++ record { source = s; number = n; item = x } ∷ [] })
  IsCore-put q s n x core known number room = record {
    some_source = omega (arith, length-set q.counts s (n + 1), core.some_source);
    few_sources = omega (arith, length-set q.counts s (n + 1), core.few_sources);
    lines = core.lines ∙ sym (length-set q.counts s (n + 1));
    some_room = core.some_room;
    little_room = core.little_room;
    room = omega (arith, length_push q.held (record { source = s; number = n; item = x }), room);
    consecutive = λ t.
        let job : Job X = record { source = s; number = n; item = x } in
        let joined : numbers_of t (q.held ++ job ∷ []) ≡ numbers_of t q.held ++ numbers_of t (job ∷ []) = numbers_of-append t q.held (job ∷ []) in
        let before : AreLastBefore (count_of q t) (numbers_of t q.held) = core.consecutive t in
        elim (eqb_tells s t) [
          | inl same ↦
              let counted : get_or (set q.counts s (n + 1)) t 0 ≡ n + 1 = subst (λ k. get_or (set q.counts s (n + 1)) k 0 ≡ n + 1) same.1 (get_or-set_same q.counts s (n + 1) 0 known) in
              let own : numbers_of t (job ∷ []) ≡ n ∷ [] = subst (λ k. numbers_of k (job ∷ []) ≡ n ∷ []) same.1 (numbers_of-own s n x) in
              let at : n ≡ count_of q t = number ∙ ap (count_of q) same.1 in
              let grown : AreLastBefore (n + 1) (numbers_of t q.held ++ n ∷ []) =
              AreLastBefore-push n (numbers_of t q.held) (subst (λ k. AreLastBefore k (numbers_of t q.held)) (sym at) before) in
              subst (λ ns. AreLastBefore (get_or (set q.counts s (n + 1)) t 0) ns) (sym (joined ∙ ap (λ ns. numbers_of t q.held ++ ns) own))
              (subst (λ k. AreLastBefore k (numbers_of t q.held ++ n ∷ [])) (sym counted) grown)
          | inr other ↦
              let counted : get_or (set q.counts s (n + 1)) t 0 ≡ count_of q t = get_or-set_other q.counts s t (n + 1) 0 (λ e. other.1 (sym e)) in
              let none : numbers_of t (job ∷ []) ≡ [] = numbers_of-other s t n x other.1 in
              subst (λ ns. AreLastBefore (get_or (set q.counts s (n + 1)) t 0) ns) (sym (joined ∙ ap (λ ns. numbers_of t q.held ++ ns) none ∙ append-nil (numbers_of t q.held)))
              (subst (λ k. AreLastBefore k (numbers_of t q.held)) (sym counted) before)
        ];
  }

  -- after a take
  pub IsCore-take : (q : Queue X) → IsCore q → IsCore (record { capacity = q.capacity; counts = q.counts; closed = q.closed; held = drop 1 q.held })
  IsCore-take q core = record {
    some_source = core.some_source;
    few_sources = core.few_sources;
    lines = core.lines;
    some_room = core.some_room;
    little_room = core.little_room;
    room = omega (arith, length-drop_one q.held, core.room);
    consecutive = λ t. AreLastBefore-drop (count_of q t) t q.held (core.consecutive t);
  }
