-- How ends are joined and counted.
use Rattle.std.proofs.Common.{◌≡◌, ◌≢◌, ℕ, zero, suc, ◌+◌, ◌-◌, ◌<◌, ◌≤◌, ◌⊎◌, inl, inr, ⊎_elim, Bool, true, false, true≢false, ◌||◌, ◌==◌, List, [], ◌∷◌, ◌++◌, length, set, get_or, refl, sym, ap, subst, ◌∙◌, arith, append_assoc, append-nil}
use Rattle.std.specs.Prelude.{⊤, Some, slice_get, slice_index_or}
use Rattle.std.specs.List.{AllByRecursion, remove}
use Rattle.std.proofs.lemmas.Bool.{eq-eqb, eqb-true, ne_eqb}
use Rattle.std.proofs.lemmas.Bool.Decides.{eqb_tells}
use Rattle.std.proofs.lemmas.Option.{same_Some}
use Rattle.std.proofs.lemmas.List.{get_or-set_same, get_or-set_other}
use Rattle.crossbeam_channel.specs.Fifo.{Pushes, Merges, Learns}
use Rattle.ls_queue.specs.declared.views.Message.TheVariants as message
use Rattle.ls_queue.specs.declared.views.Puts.{Puts}
use Rattle.ls_queue.specs.declared.views.View.{View}
use Rattle.ls_queue.specs.declared.running.Ended.{Ended}
use Rattle.ls_queue.specs.View.Account.{Kept, source_view, ending_view, joined, spent_view, after_mark, with_marks, IsCounted}
use Rattle.ls_queue.specs.View.Running.{has_end, EachHasEnd, AreInOrder, parts_of, items_ended}
use Rattle.ls_queue.proofs.AccountSeats.{joins, sends_mark}

pub took_first : {A : Type 0} (old new : List A) (e : A) → e ≡ slice_index_or old 0 e → new ≡ remove old 0 → length new + 1 ≡ length old → old ≡ e ∷ new
took_first [] new e is rest size = absurd (omega arith)
took_first (x ∷ xs) new e is rest size = λ i. sym is i ∷ sym rest i

pub none_left : {A : Type 0} (l : List A) → length l ≡ 0 → l ≡ []
none_left [] e = refl
none_left (x ∷ xs) e = absurd (omega arith)

-- the list without the element x if b is true, else with it
pick : {A : Type 0} → Bool → A → List A → List A
pick true x l = l
pick false x l = x ∷ l

length-pick : {A : Type 0} (b : Bool) (x : A) (l : List A) → length (pick b x l) ≤ length l + 1
unfolding pick
length-pick true x l = omega arith
length-pick false x l = omega arith

shorter_at : {A : Type 0} (b t : Bool) (x : A) (l l' : List A) → (b || t) ≡ true → (t ≡ true → length l + 1 ≤ length l') → length l ≤ length l' → length (pick b x l) + 1 ≤ length l' + 1
unfolding pick
shorter_at true t x l l' h one le = omega arith
shorter_at false t x l l' h one le = let o = one h in omega arith

or_right : (c t : Bool) → c ≡ false → (c || t) ≡ true → t ≡ true
or_right true t is h = absurd (true≢false is)
or_right false t is h = h

or_more : (c t t' : Bool) → (t ≡ true → t' ≡ true) → (c || t) ≡ true → (c || t') ≡ true
or_more true t t' f h = refl
or_more false t t' f h = f h

neither : (c t : Bool) → (c || t) ≡ false → (c ≡ false) × (t ≡ false)
neither true t h = absurd (true≢false h)
neither false t h = (refl, h)

either : (c t : Bool) → (c || t) ≡ true → (c ≡ true) ⊎ (t ≡ true)
either true t h = inl refl
either false t h = inr h

-- ---- whether a source has an end

module _ {X : Type 0} where
  pub no_end_of : (source : ℕ) (ended : List (Ended X)) → has_end source ended ≡ false → AllByRecursion (λ (e : Ended X). e.source ≢ source) ended
  no_end_of source [] none = tt
  no_end_of source (e ∷ es) none =
      let apart = neither (e.source == source) (has_end source es) none in
      (λ is. true≢false (sym (eq-eqb e.source source is) ∙ apart.0), no_end_of source es apart.1)

  pub some_end_of : (s : ℕ) (ended : List (Ended X)) → has_end s ended ≡ true → (n : ℕ) × (e : Ended X) × (slice_get ended n ≡ Some e) × (e.source ≡ s)
  some_end_of s [] some = absurd (true≢false (sym some))
  some_end_of s (e ∷ es) some = elim (either (e.source == s) (has_end s es) some) [
    | inl here ↦ (0, e, refl, eqb-true e.source s here)
    | inr later ↦ let rest = some_end_of s es later in (suc rest.0, rest.1, rest.2, rest.3)
  ]

-- ---- joining

module _ {X : Type 0} where
  pub end_joins : (p : ℕ) (v : View X) (m s w : ℕ) (other : ℕ) (u : View X) (t : ℕ) (xs : List X) → v ≡ ending_view m v.puts s w 0 → u ≡ source_view t xs → Merges Kept p v other u (joined v u) spent_view
  end_joins p v m s w other u t xs is is' = joins p v other u (ap (λ (y : View X). y.closes) is) (ap (λ (y : View X). y.closes) is')

  pub end_known : (v u n : View X) (m s w t : ℕ) (xs : List X) (m' : ℕ) → v ≡ ending_view m v.puts s w 0 → u ≡ source_view t xs → n ≡ joined v u → m + 1 ≡ m'
      → n ≡ ending_view m' n.puts s w 0
  end_known v u n m s w t xs m' is is' made more =
      let n' : n ≡ joined (ending_view m v.puts s w 0) (source_view t xs) = made ∙ (λ i. joined (is i) (is' i)) in
      n' ∙ (λ i. ending_view (more i) (sym (ap (λ (y : View X). y.puts) n') i) s w 0)

  pub end_puts : (v u n : View X) (t : ℕ) (xs : List X) → u ≡ source_view t xs → n ≡ joined v u → n.puts ≡ v.puts ++ record { source = t; items = xs } ∷ []
  end_puts v u n t xs is' made = ap (λ (y : View X). y.puts) made ∙ ap (λ (y : View X). v.puts ++ y.puts) is'

  counted_last : (counts : List ℕ) (us : List (Puts X)) (t s : ℕ) (xs : List X) → t ≡ s → slice_index_or counts s 0 ≡ length xs → IsCounted counts (us ++ record { source = t; items = xs } ∷ []) s
  counted_last counts [] t s xs same is = inl (same, is)
  counted_last counts (u ∷ us) t s xs same is = inr (counted_last counts us t s xs same is)

  counted_kept : (counts counts' : List ℕ) (us more : List (Puts X)) (s : ℕ) → slice_index_or counts' s 0 ≡ slice_index_or counts s 0 → IsCounted counts us s → IsCounted counts' (us ++ more) s
  counted_kept counts counts' [] more s same c = absurd c
  counted_kept counts counts' (u ∷ us) more s same c = ⊎_elim (λ x. inl (x.0, same ∙ x.1)) (λ x. inr (counted_kept counts counts' us more s same x)) c

  -- one more end is counted
  pub counted_more : (counts : List ℕ) (us : List (Puts X)) (e : Ended X) (es : List (Ended X)) (t c : ℕ) (xs : List X) → length counts ≡ 16 → t < 16 → e.source ≡ t → c ≡ length xs
      → (s : ℕ) → (has_end s (e ∷ es) ≡ true) ⊎ IsCounted counts us s → (has_end s es ≡ true) ⊎ IsCounted (set counts t c) (us ++ record { source = t; items = xs } ∷ []) s
  counted_more counts us e es t c xs size small source count s before =
      elim (eqb_tells e.source s) [
        | inl same ↦
            let here : t ≡ s = sym source ∙ same.1 in
            inr (counted_last (set counts t c) us t s xs here (subst (λ k. get_or (set counts t c) k 0 ≡ length xs) here (get_or-set_same counts t c 0 (omega arith) ∙ count)))
        | inr other ↦
            let apart : s ≢ t = λ h. other.1 (source ∙ sym h) in
            ⊎_elim (λ h. inl (or_right (e.source == s) (has_end s es) other.0 h))
            (λ h. inr (counted_kept counts (set counts t c) us _ s (get_or-set_other counts t s c 0 apart) h)) before
      ]

  without : ℕ → List (Ended X) → List (Ended X)
  without m [] = []
  without m (e ∷ es) = pick (e.source == m) e (without m es)

  not_longer : (m : ℕ) (es : List (Ended X)) → length (without m es) ≤ length es
  unfolding without
  not_longer m [] = omega arith
  not_longer m (e ∷ es) = let a = length-pick (e.source == m) e (without m es) in let b = not_longer m es in omega arith

  shorter : (m : ℕ) (es : List (Ended X)) → has_end m es ≡ true → length (without m es) + 1 ≤ length es
  unfolding without
  shorter m [] h = absurd (true≢false (sym h))
  shorter m (e ∷ es) h = let a = shorter_at (e.source == m) (has_end m es) e (without m es) es h (shorter m es) (not_longer m es) in omega arith

  stays_at : (b : Bool) (s : ℕ) (e : Ended X) (l : List (Ended X)) (t : Bool) → (b ≡ true → (e.source == s) ≡ false) → ((e.source == s) || t) ≡ true → (t ≡ true → has_end s l ≡ true)
      → has_end s (pick b e l) ≡ true
  unfolding pick
  stays_at true s e l t apart h more = more (or_right (e.source == s) t (apart refl) h)
  stays_at false s e l t apart h more = or_more (e.source == s) t (has_end s l) more h

  stays : (m s : ℕ) (es : List (Ended X)) → s ≢ m → has_end s es ≡ true → has_end s (without m es) ≡ true
  unfolding without
  stays m s [] n h = h
  stays m s (e ∷ es) n h = stays_at (e.source == m) s e (without m es) (has_end s es)
      (λ is. elim (eqb_tells e.source m) [ inl same ↦ ne_eqb e.source s (λ h'. n (sym h' ∙ same.1)) | inr other ↦ absurd (true≢false (sym is ∙ other.0)) ])
      h (stays m s es n)

  -- if each source has an end, there are at least as many ends as sources
  pub enough_ends : (n : ℕ) (es : List (Ended X)) → EachHasEnd n es → n ≤ length es
  enough_ends zero es each = omega arith
  enough_ends (suc m) es each =
      let a = shorter m es (each m (omega arith)) in
      let b = enough_ends m (without m es) (λ s below. stays m s es (λ h. omega arith) (each s (omega arith))) in omega arith

  pub mark_sent : (n p : ℕ) (v v' : View X) (counts : List ℕ) → v ≡ v' → v'.closes ≡ true → ((s : ℕ) → s < v'.sources → IsCounted counts v'.puts s)
      → Pushes Kept n p v (message.Mark counts) (λ w. w ≡ after_mark v) × Learns Kept p v (λ items. ⊤)
  mark_sent n p v v' counts is closes every = (
    subst (λ (y : View X). Pushes Kept n p y (message.Mark counts) (λ w. w ≡ after_mark y)) (sym is) (sends_mark n p v' counts closes every),
    λ items views k at. tt,
  )

  pub counted_next : (counts : List ℕ) (us : List (Puts X)) (old : List (Ended X)) (e : Ended X) (es : List (Ended X)) (xs : List X) (n : List (Puts X))
      → old ≡ e ∷ es → length counts ≡ 16 → e.source < 16 → e.count ≡ length xs → n ≡ us ++ record { source = e.source; items = xs } ∷ []
      → (s : ℕ) → (has_end s old ≡ true) ⊎ IsCounted counts us s → (has_end s es ≡ true) ⊎ IsCounted (set counts e.source e.count) n s
  counted_next counts us old e es xs n first size small count puts s before =
      subst (λ l. (has_end s es ≡ true) ⊎ IsCounted (set counts e.source e.count) l s) (sym puts)
      (counted_more counts us e es e.source e.count xs size small refl count s (subst (λ l. (has_end s l ≡ true) ⊎ IsCounted counts us s) first before))

  pub parts_next : (us n : List (Puts X)) (old es all : List (Ended X)) (e : Ended X) (p : Puts X) → p ≡ record { source = e.source; items = items_ended e } → old ≡ e ∷ es
      → n ≡ us ++ p ∷ [] → us ++ parts_of old ≡ parts_of all → n ++ parts_of es ≡ parts_of all
  parts_next us n old es all e p same first puts before =
      ap (λ l. l ++ parts_of es) puts ∙ (append_assoc us (p ∷ []) (parts_of es) ∙ (ap (λ q. us ++ (q ∷ parts_of es)) same ∙ (ap (λ l. us ++ parts_of l) (sym first) ∙ before)))

  pub ends_known : (v : View X) (base whole s w : ℕ) (old all : List (Ended X)) → old ≡ [] → v ≡ ending_view (base + (whole - length old)) v.puts s w 0 → v.puts ++ parts_of old ≡ parts_of all
      → v ≡ ending_view (base + whole) (parts_of all) s w 0
  ends_known v base whole s w old all none is parts =
      let m : base + (whole - length old) ≡ base + whole = (let l = ap length none in omega arith) in
      let p : v.puts ≡ parts_of all = sym (append-nil v.puts) ∙ (ap (λ l. v.puts ++ parts_of l) (sym none) ∙ parts) in
      is ∙ (λ i. ending_view (m i) (p i) s w 0)

  pub finished_known : (v n : View X) (m s w : ℕ) (us : List (Puts X)) → v ≡ ending_view m us s w 0 → n ≡ with_marks v w → n ≡ ending_view m n.puts s w w
  finished_known v n m s w us is made =
      let n' : n ≡ ending_view m us s w w = made ∙ ap (λ (y : View X). with_marks y w) is in
      n' ∙ (λ i. ending_view m (sym (ap (λ (y : View X). y.puts) n') i) s w w)

  pub finished_puts : (v n : View X) (m s w : ℕ) (us : List (Puts X)) → v ≡ ending_view m us s w 0 → n ≡ with_marks v w → n.puts ≡ us
  finished_puts v n m s w us is made = ap (λ (y : View X). y.puts) made ∙ ap (λ (y : View X). y.puts) is

  counted_from : (counts : List ℕ) (n s : ℕ) (es : List (Ended X)) → AreInOrder n es → IsCounted counts (parts_of es) s → n ≤ s
  counted_from counts n s [] order c = absurd c
  counted_from counts n s (e ∷ es) order c = ⊎_elim (λ t. (let a = t.0 in let b = order.0 in omega arith)) (λ t. (let r = counted_from counts (suc n) s es order.1 t in omega arith)) c

  -- if the ends are in order, a count is the number of items of its end
  count_from : (counts : List ℕ) (n i s : ℕ) (es : List (Ended X)) (end : Ended X) → s ≡ n + i → AreInOrder n es → slice_get es i ≡ Some end → IsCounted counts (parts_of es) s
      → slice_index_or counts s 0 ≡ length (items_ended end)
  count_from counts n i s [] end is order at c = absurd c
  count_from counts n zero s (e ∷ es) end is order at c = ⊎_elim (λ t. t.1 ∙ ap (λ (y : Ended X). length (items_ended y)) (same_Some e end at))
      (λ t. absurd (let r = counted_from counts (suc n) s es order.1 t in omega arith)) c
  count_from counts n (suc i) s (e ∷ es) end is order at c = ⊎_elim (λ t. absurd (let a = t.0 in let b = order.0 in omega arith))
      (λ t. count_from counts (suc n) i s es end (omega arith) order.1 at t) c

  pub count_of_end : (counts : List ℕ) (es : List (Ended X)) (s : ℕ) (end : Ended X) → AreInOrder 0 es → slice_get es s ≡ Some end → IsCounted counts (parts_of es) s
      → slice_index_or counts s 0 ≡ length (items_ended end)
  count_of_end counts es s end order at c = count_from counts 0 s s es end (omega arith) order at c
