-- Lists of seats, lanes and tracks, as they grow.
use Rattle.std.proofs.Common.{◌≡◌, ℕ, suc, ◌+◌, ◌<◌, ◌≤◌, ◌⊎◌, inl, inr, Bool, true, false, true≢false, ◌&&◌, ◌||◌, ◌==◌, List, [], ◌∷◌, ◌++◌, length, refl, sym, ap, subst, ◌∙◌, arith, append_assoc, append-nil}
use Rattle.std.specs.List.{AllByRecursion, AllZip}
use Rattle.std.proofs.lemmas.List.{length_push}
use Rattle.ls_queue.specs.declared.running.WorkerSeat.{WorkerSeat}
use Rattle.std.specs.Prelude.{slice_index_or, Option, Result, Ok, Err, IfOk, IfErr, MatchResult, map}
use Rattle.ls_frame.specs.Picture.{Picture}
use Rattle.ls_recorder.specs.declared.lane.LaneEnd.{LaneEnd}
use Rattle.ls_recorder.specs.declared.lane.LaneFault.{LaneFault}
use Rattle.ls_recorder.specs.declared.lane.LaneFault.TheVariants.{NotStarted}
use Rattle.ls_recorder.specs.View.Lanes.{Records, StopsLane, IsLaneEnd, with_tuning}
use Rattle.std.proofs.lemmas.Bool.Decides.{eqb_tells}
use Rattle.std.proofs.Math.Nat.{eq-or-lt_of_le}
use Rattle.ls_queue.specs.declared.running.Ended.{Ended}
use Rattle.ls_queue.specs.View.Running.{is_done, all_done, has_end, AreNewSources, IsSourceAt, items_put, items_ended, AreEnds, parts_of, AreNewWorkers, IsWorkerAt}
use Rattle.ls_queue.specs.View.Account.{IsCounted}
use Rattle.ls_queue.specs.declared.account.Channel.{Channel}
use Rattle.ls_queue.specs.declared.running.SourceSeat.{SourceSeat}
use Rattle.ls_recorder.specs.declared.delivery.ends.Inbox.{Inbox}
use Rattle.ls_queue.specs.declared.running.Queue.{Queue}
use Rattle.ls_frame.specs.declared.tuning.Tuning.{Tuning}
use Rattle.ls_pieces.specs.Orders.{Ordered}
use Rattle.ls_recorder.specs.declared.recording.lanes.Lane.{Lane}
use Rattle.ls_recorder.specs.declared.recording.Track.{Track}
use Rattle.crossbeam_channel.specs.Ends.{sends_on, receives_on}
use Rattle.ls_recorder.specs.declared.delivery.ends.InboxSender.{InboxSender}
use Rattle.ls_recorder.specs.declared.delivery.ends.Outbox.{Outbox}
use Rattle.ls_recorder.specs.View.Boxes.{AreFrom, LeadTo}
use Rattle.ls_recorder.specs.View.Recordings.{IsTrack, IsStarted, AreStarted, AreDone, AreTracks, AreCounted, LeadToAll}

and_both : (a b : Bool) → a ≡ true → b ≡ true → (a && b) ≡ true
and_both true b is is' = is'
and_both false b is is' = absurd (true≢false (sym is))

and_left : (a b : Bool) → (a && b) ≡ true → a ≡ true
and_left true b is = refl
and_left false b is = is

and_right : (a b : Bool) → (a && b) ≡ true → b ≡ true
and_right true b is = is
and_right false b is = absurd (true≢false (sym is))

pub all_done-more : {X : Type 0} (seats : List (WorkerSeat X)) (seat : WorkerSeat X) → all_done seats ≡ true → is_done seat ≡ true → all_done (seats ++ seat ∷ []) ≡ true
all_done-more [] seat all last = and_both (is_done seat) true last refl
all_done-more (s ∷ ss) seat all last = and_both (is_done s) _ (and_left (is_done s) _ all) (all_done-more ss seat (and_right (is_done s) _ all) last)

or_first : (a b : Bool) → a ≡ true → (a || b) ≡ true
or_first true b is = refl
or_first false b is = absurd (true≢false (sym is))

or_second : (a b : Bool) → b ≡ true → (a || b) ≡ true
or_second true b is = refl
or_second false b is = is

or_kept : (a b c : Bool) → (b ≡ true → c ≡ true) → (a || b) ≡ true → (a || c) ≡ true
or_kept true b c more is = refl
or_kept false b c more is = more is

pub has_end-more : {X : Type 0} (s : ℕ) (es : List (Ended X)) (e : Ended X) → has_end s es ≡ true → has_end s (es ++ e ∷ []) ≡ true
has_end-more s [] e is = absurd (true≢false (sym is))
has_end-more s (x ∷ xs) e is = or_kept (x.source == s) _ _ (has_end-more s xs e) is

eq_true : (a b : ℕ) → a ≡ b → (a == b) ≡ true
eq_true a b is = elim (eqb_tells a b) [ inl same ↦ same.0 | inr other ↦ absurd (other.1 is) ]

pub has_end-last : {X : Type 0} (s : ℕ) (es : List (Ended X)) (e : Ended X) → e.source ≡ s → has_end s (es ++ e ∷ []) ≡ true
has_end-last s [] e is = or_first (e.source == s) false (eq_true e.source s is)
has_end-last s (x ∷ xs) e is = or_second (x.source == s) _ (has_end-last s xs e is)

-- a source below n + 1 is below n, or is n
below : (s n : ℕ) → s < n + 1 → (s < n) ⊎ (n ≡ s)
below s n less = elim (eq-or-lt_of_le {n = s} {m = n} (omega arith)) [ inl same ↦ inr (sym same) | inr h ↦ inl h ]

pub each-more : {X : Type 0} (es : List (Ended X)) (e : Ended X) (n : ℕ) → ((s : ℕ) → s < n → has_end s es ≡ true) → e.source ≡ n → (s : ℕ) → s < n + 1 → has_end s (es ++ e ∷ []) ≡ true
each-more es e n each is s less = elim (below s n less) [ inl h ↦ has_end-more s es e (each s h) | inr h ↦ has_end-last s es e (is ∙ h) ]

module _ {R W : Type 0} (remaining : R → Option (List ℕ)) (failed_reads : R → ℕ) (contents : W → Option (List ℕ)) (failed_writes : W → ℕ) where
  pub started-more : (queue : Queue Ordered) (s n : ℕ) (films : List (R × W × Tuning)) (lanes : List (Lane R W)) (film : R × W × Tuning) (l : Lane R W)
      → AreStarted remaining failed_reads contents failed_writes queue s films lanes → n ≡ s + length films → IsStarted remaining failed_reads contents failed_writes queue n film l
      → AreStarted remaining failed_reads contents failed_writes queue s (films ++ film ∷ []) (lanes ++ l ∷ [])
  started-more queue s n [] [] film l all at last = (subst (λ k. IsStarted remaining failed_reads contents failed_writes queue k film l) (omega arith) last, _)
  started-more queue s n [] (x ∷ xs) film l all at last = absurd all
  started-more queue s n (f ∷ fs) [] film l all at last = absurd all
  started-more queue s n (f ∷ fs) (x ∷ xs) film l all at last = (all.0, started-more queue (suc s) n fs xs film l all.1 (omega arith) last)

  pub done-more : (queue : Queue Ordered) (s n : ℕ) (films : List (R × W × Tuning)) (es : List (Ended Ordered)) (ts : List (Track R W)) (film : R × W × Tuning) (e : Ended Ordered) (t : Track R W)
      → AreDone remaining failed_reads contents failed_writes queue s films es ts → n ≡ s + length films
      → IsLaneEnd remaining failed_reads contents failed_writes queue n film.2 film.0 film.1 (record { ended = e; reader = t.reader; writer = t.writer; result = t.result })
      → AreDone remaining failed_reads contents failed_writes queue s (films ++ film ∷ []) (es ++ e ∷ []) (ts ++ t ∷ [])
  done-more queue s n [] [] [] film e t all at last =
      (subst (λ k. IsLaneEnd remaining failed_reads contents failed_writes queue k film.2 film.0 film.1 (record { ended = e; reader = t.reader; writer = t.writer; result = t.result })) (omega arith) last, _)
  done-more queue s n [] [] (y ∷ ys) film e t all at last = absurd all
  done-more queue s n [] (x ∷ xs) ts film e t all at last = absurd all
  done-more queue s n (f ∷ fs) [] ts film e t all at last = absurd all
  done-more queue s n (f ∷ fs) (x ∷ xs) [] film e t all at last = absurd all
  done-more queue s n (f ∷ fs) (x ∷ xs) (y ∷ ys) film e t all at last = (all.0, done-more queue (suc s) n fs xs ys film e t all.1 (omega arith) last)

-- ---- invariants of the loops

module _ {R W : Type 0} (remaining : R → Option (List ℕ)) (failed_reads : R → ℕ) (contents : W → Option (List ℕ)) (failed_writes : W → ℕ) (queue : Queue Ordered) where
  -- one more lane was joined
  pub joins : (films : List (R × W × Tuning)) (done left : List (R × W × Tuning)) (es : List (Ended Ordered)) (ts : List (Track R W)) (lanes rest : List (Lane R W)) (l : Lane R W) (e : Ended Ordered) (t : Track R W)
      → done ++ left ≡ films → AreDone remaining failed_reads contents failed_writes queue 0 done es ts → AreStarted remaining failed_reads contents failed_writes queue (length done) left lanes → lanes ≡ l ∷ rest
      → ((s : ℕ) (film : R × W × Tuning) → IsStarted remaining failed_reads contents failed_writes queue s film l
      → IsLaneEnd remaining failed_reads contents failed_writes queue s film.2 film.0 film.1 (record { ended = e; reader = t.reader; writer = t.writer; result = t.result }))
      → (done' : List (R × W × Tuning)) × (left' : List (R × W × Tuning)) × (done' ++ left' ≡ films)
      × AreDone remaining failed_reads contents failed_writes queue 0 done' (es ++ e ∷ []) (ts ++ t ∷ []) × AreStarted remaining failed_reads contents failed_writes queue (length done') left' rest
  joins films done [] es ts lanes rest l e t whole ended started first end = absurd (subst (AreStarted remaining failed_reads contents failed_writes queue (length done) []) first started)
  joins films done (f ∷ fs) es ts lanes rest l e t whole ended started first end =
      let both : AreStarted remaining failed_reads contents failed_writes queue (length done) (f ∷ fs) (l ∷ rest) = subst (AreStarted remaining failed_reads contents failed_writes queue (length done) (f ∷ fs)) first started in (
        done ++ f ∷ [],
        fs,
        append_assoc done (f ∷ []) fs ∙ whole,
        done-more remaining failed_reads contents failed_writes queue 0 (length done) done es ts f e t ended (omega arith) (end (length done) f both.0),
        subst (λ n. AreStarted remaining failed_reads contents failed_writes queue n fs rest) (sym (length_push done f) ∙ refl) (subst (λ n. AreStarted remaining failed_reads contents failed_writes queue n fs rest) (omega arith) both.1),
      )

  -- no lanes remain
  pub joined : (films done left : List (R × W × Tuning)) (es : List (Ended Ordered)) (ts : List (Track R W)) (lanes : List (Lane R W))
      → done ++ left ≡ films → AreDone remaining failed_reads contents failed_writes queue 0 done es ts → AreStarted remaining failed_reads contents failed_writes queue (length done) left lanes → lanes ≡ []
      → AreDone remaining failed_reads contents failed_writes queue 0 films es ts
  joined films done [] es ts lanes whole ended started none = subst (λ fs. AreDone remaining failed_reads contents failed_writes queue 0 fs es ts) (sym (append-nil done) ∙ whole) ended
  joined films done (f ∷ fs) es ts lanes whole ended started none = absurd (subst (AreStarted remaining failed_reads contents failed_writes queue (length done) (f ∷ fs)) none started)

-- the first of the seats, and of the inboxes, in order from source n on
pub seat-first : {X : Type 0} (channel : Channel X) (n : ℕ) (seats rest : List (SourceSeat X)) (seat : SourceSeat X) → seats ≡ seat ∷ rest → AreNewSources channel n seats
    → (IsSourceAt channel seat × (seat.source ≡ n) × (items_put seat ≡ [])) × AreNewSources channel (n + 1) rest
seat-first channel n seats rest seat first all =
    let both : AreNewSources channel n (seat ∷ rest) = subst (AreNewSources channel n) first all in
    (both.0, subst (λ k. AreNewSources channel k rest) (omega arith) both.1)

pub inbox-first : (n : ℕ) (inboxes rest : List Inbox) (inbox : Inbox) → inboxes ≡ inbox ∷ rest → AreFrom n inboxes → (inbox.source ≡ n) × AreFrom (n + 1) rest
inbox-first n inboxes rest inbox first all =
    let both : AreFrom n (inbox ∷ rest) = subst (AreFrom n) first all in
    (both.0, subst (λ k. AreFrom k rest) (omega arith) both.1)

-- ---- the result of a lane

-- it wasn't started, or it ended in one of two ways
did-lane : {A B C D : Type 0} (P : A → Type 0) (Q : LaneFault → Type 0) (r : Result A LaneFault) → IfOk r P → IfErr r (λ fault. ((fault ≡ NotStarted) × B × C × D) ⊎ Q fault)
    → ((r ≡ Err NotStarted) × B × C × D) ⊎ MatchResult r P Q
did-lane P Q (Ok x) ok err = inr ok
did-lane P Q (Err fault) ok (inl none) = inl (ap Err none.0, none.1, none.2, none.3)
did-lane P Q (Err fault) ok (inr some) = inr some

length-with_tuning : (tuning : Tuning) (frames : List Picture) → length (with_tuning tuning frames) ≡ length frames
length-with_tuning tuning [] = refl
length-with_tuning tuning (f ∷ fs) = ap suc (length-with_tuning tuning fs)

recorded-count : (tuning : Tuning) (items : List Ordered) (read read' written written' : Option (List ℕ)) (r : Result ℕ LaneFault) (count : ℕ) → count ≡ length items
    → IfOk r (Records tuning items read read' written written') → IfOk r (λ n. count ≡ n)
recorded-count tuning items read read' written written' (Ok n) count is records =
    is ∙ (ap length records.put.0 ∙ (length-with_tuning tuning records.run.frames ∙ records.run.count))
recorded-count tuning items read read' written written' (Err fault) count is records = records

module _ {R W : Type 0} (remaining : R → Option (List ℕ)) (failed_reads : R → ℕ) (contents : W → Option (List ℕ)) (failed_writes : W → ℕ) (queue : Queue Ordered) (s : ℕ)
    (film : R × W × Tuning) (end : LaneEnd R W) (is : IsLaneEnd remaining failed_reads contents failed_writes queue s film.2 film.0 film.1 end) where
  -- its track
  lane-track : IsTrack remaining failed_reads contents failed_writes film end.ended.count (record { reader = end.reader; writer = end.writer; result = end.result })
  lane-track = record {
    items = items_ended end.ended;
    put = is.count;
    did = did-lane
        (Records film.2 (items_ended end.ended) (remaining film.0) (remaining end.reader) (contents film.1) (contents end.writer))
        (StopsLane film.2 (items_ended end.ended) (remaining film.0) (remaining end.reader) (contents film.1) (contents end.writer)) end.result is.completes is.stops;
    reads = is.reads;
    writes = is.writes;
  }

  -- of a film that was recorded completely, all frames were put
  lane-count : IfOk end.result (λ n. end.ended.count ≡ n)
  lane-count = recorded-count film.2 (items_ended end.ended) (remaining film.0) (remaining end.reader) (contents film.1) (contents end.writer) end.result end.ended.count is.count is.completes

-- ---- lanes that ended

module _ {R W : Type 0} (remaining : R → Option (List ℕ)) (failed_reads : R → ℕ) (contents : W → Option (List ℕ)) (failed_writes : W → ℕ) (queue : Queue Ordered) where
  pub done-ends : (s : ℕ) (films : List (R × W × Tuning)) (es : List (Ended Ordered)) (ts : List (Track R W)) → AreDone remaining failed_reads contents failed_writes queue s films es ts → AreEnds queue es
  done-ends s [] [] [] all = _
  done-ends s [] [] (t ∷ ts) all = absurd all
  done-ends s [] (e ∷ es) ts all = absurd all
  done-ends s (f ∷ fs) [] ts all = absurd all
  done-ends s (f ∷ fs) (e ∷ es) [] all = absurd all
  done-ends s (f ∷ fs) (e ∷ es) (t ∷ ts) all = (all.0.ended, done-ends (suc s) fs es ts all.1)

  pub done-each : (s : ℕ) (films : List (R × W × Tuning)) (es : List (Ended Ordered)) (ts : List (Track R W)) → AreDone remaining failed_reads contents failed_writes queue s films es ts
      → (k : ℕ) → s ≤ k → k < s + length films → has_end k es ≡ true
  done-each s [] [] [] all k from below_k = absurd (omega arith)
  done-each s [] [] (t ∷ ts) all k from below_k = absurd all
  done-each s [] (e ∷ es) ts all k from below_k = absurd all
  done-each s (f ∷ fs) [] ts all k from below_k = absurd all
  done-each s (f ∷ fs) (e ∷ es) [] all k from below_k = absurd all
  done-each s (f ∷ fs) (e ∷ es) (t ∷ ts) all k from below_k = elim (eq-or-lt_of_le {n = s} {m = k} from) [
    | inl same ↦ or_first (e.source == k) _ (eq_true e.source k (all.0.source ∙ same))
    | inr later ↦ or_second (e.source == k) _ (done-each (suc s) fs es ts all.1 k (omega arith) (omega arith))
  ]

  -- the ends from source s on count nothing for a source below s
  not_below : (counts : List ℕ) (s : ℕ) (films : List (R × W × Tuning)) (es : List (Ended Ordered)) (ts : List (Track R W)) → AreDone remaining failed_reads contents failed_writes queue s films es ts
      → (k : ℕ) → k < s → IsCounted counts (parts_of es) k → ⊥
  not_below counts s [] [] [] all k less counted = counted
  not_below counts s [] [] (t ∷ ts) all k less counted = all
  not_below counts s [] (e ∷ es) ts all k less counted = all
  not_below counts s (f ∷ fs) [] ts all k less counted = all
  not_below counts s (f ∷ fs) (e ∷ es) [] all k less counted = all
  not_below counts s (f ∷ fs) (e ∷ es) (t ∷ ts) all k less counted = elim counted [
    | inl here ↦ (let a = all.0.source in let b = here.0 in absurd (omega arith))
    | inr later ↦ not_below counts (suc s) fs es ts all.1 k (omega arith) later
  ]

  -- the count of source s is that of its end
  count-here : (counts : List ℕ) (s : ℕ) (f : R × W × Tuning) (fs : List (R × W × Tuning)) (e : Ended Ordered) (es : List (Ended Ordered)) (t : Track R W) (ts : List (Track R W))
      → AreDone remaining failed_reads contents failed_writes queue s (f ∷ fs) (e ∷ es) (t ∷ ts) → IsCounted counts (parts_of (e ∷ es)) s → slice_index_or counts s 0 ≡ length (items_ended e)
  count-here counts s f fs e es t ts all counted = elim counted [
    | inl here ↦ here.1
    | inr later ↦ absurd (not_below counts (suc s) fs es ts all.1 s (omega arith) later)
  ]

  -- the counts of the sources after s are those of the ends after it
  counts-later : (counts : List ℕ) (s n : ℕ) (e : Ended Ordered) (es : List (Ended Ordered)) → e.source ≡ s
      → ((k : ℕ) → s ≤ k → k < s + suc n → IsCounted counts (parts_of (e ∷ es)) k) → (k : ℕ) → suc s ≤ k → k < suc s + n → IsCounted counts (parts_of es) k
  counts-later counts s n e es is counted k from less = elim (counted k (omega arith) (omega arith)) [
    | inl here ↦ (let b = here.0 in absurd (omega arith))
    | inr later ↦ later
  ]

  ok-both : {A E : Type 0} (r : Result A E) (P Q : A → Type 0) → ((x : A) → P x → Q x) → IfOk r P → IfOk r Q
  ok-both (Ok x) P Q f h = f x h
  ok-both (Err e) P Q f h = h

  pub done-counted : (counts : List ℕ) (s : ℕ) (films : List (R × W × Tuning)) (es : List (Ended Ordered)) (ts : List (Track R W)) → AreDone remaining failed_reads contents failed_writes queue s films es ts
      → ((k : ℕ) → s ≤ k → k < s + length films → IsCounted counts (parts_of es) k) → AreCounted counts s ts
  done-counted counts s [] [] [] all counted = _
  done-counted counts s [] [] (t ∷ ts) all counted = absurd all
  done-counted counts s [] (e ∷ es) ts all counted = absurd all
  done-counted counts s (f ∷ fs) [] ts all counted = absurd all
  done-counted counts s (f ∷ fs) (e ∷ es) [] all counted = absurd all
  done-counted counts s (f ∷ fs) (e ∷ es) (t ∷ ts) all counted = (
    ok-both t.result (λ n. e.count ≡ n) (λ n. slice_index_or counts s 0 ≡ n)
        (λ n is. count-here counts s f fs e es t ts all (counted s (omega arith) (omega arith)) ∙ (sym all.0.ended.count ∙ is)) (lane-count remaining failed_reads contents failed_writes queue s f _ all.0),
    done-counted counts (suc s) fs es ts all.1 (counts-later counts s (length fs) e es all.0.source counted),
  )

  pub done-tracks : (counts : List ℕ) (s : ℕ) (films : List (R × W × Tuning)) (es : List (Ended Ordered)) (ts : List (Track R W)) → AreDone remaining failed_reads contents failed_writes queue s films es ts
      → ((k : ℕ) → s ≤ k → k < s + length films → IsCounted counts (parts_of es) k) → AreTracks remaining failed_reads contents failed_writes counts s films ts
  done-tracks counts s [] [] [] all counted = _
  done-tracks counts s [] [] (t ∷ ts) all counted = absurd all
  done-tracks counts s [] (e ∷ es) ts all counted = absurd all
  done-tracks counts s (f ∷ fs) [] ts all counted = absurd all
  done-tracks counts s (f ∷ fs) (e ∷ es) [] all counted = absurd all
  done-tracks counts s (f ∷ fs) (e ∷ es) (t ∷ ts) all counted = (
    subst (λ n. IsTrack remaining failed_reads contents failed_writes f n t)
        (all.0.ended.count ∙ sym (count-here counts s f fs e es t ts all (counted s (omega arith) (omega arith)))) (lane-track remaining failed_reads contents failed_writes queue s f _ all.0),
    done-tracks counts (suc s) fs es ts all.1 (counts-later counts s (length fs) e es all.0.source counted),
  )

-- each film has its track
pub each-track : {R W : Type 0} (remaining : R → Option (List ℕ)) (failed_reads : R → ℕ) (contents : W → Option (List ℕ)) (failed_writes : W → ℕ) (counts : List ℕ) (s : ℕ)
    (films : List (R × W × Tuning)) (ts : List (Track R W)) → AreTracks remaining failed_reads contents failed_writes counts s films ts
    → AllZip (λ f t. (n : ℕ) × IsTrack remaining failed_reads contents failed_writes f n t) films ts
each-track remaining failed_reads contents failed_writes counts s [] [] all = _
each-track remaining failed_reads contents failed_writes counts s [] (t ∷ ts) all = all
each-track remaining failed_reads contents failed_writes counts s (f ∷ fs) [] all = all
each-track remaining failed_reads contents failed_writes counts s (f ∷ fs) (t ∷ ts) all =
    ((slice_index_or counts s 0, all.0), each-track remaining failed_reads contents failed_writes counts (suc s) fs ts all.1)

pub new-workers : {X : Type 0} (channel : Channel X) (seats : List (WorkerSeat X)) → AreNewWorkers channel seats → AllByRecursion (IsWorkerAt channel) seats
new-workers channel [] all = _
new-workers channel (s ∷ ss) all = (all.0.0, new-workers channel ss all.1)

-- ---- each outbox has a sender to each inbox

length-map : {A B : Type 0} (f : A → B) (xs : List A) → length (map f xs) ≡ length xs
length-map f [] = refl
length-map f (x ∷ xs) = ap suc (length-map f xs)

lead-length : (inboxes : List Inbox) (senders : List InboxSender) → LeadTo inboxes senders → length senders ≡ length inboxes
lead-length inboxes senders lead =
    sym (length-map (λ (sender : InboxSender). sends_on sender.channel) senders) ∙ (ap length lead ∙ length-map (λ (inbox : Inbox). receives_on inbox.receiver) inboxes)

pub lead-all : (n : ℕ) (inboxes : List Inbox) (outboxes : List Outbox) → length inboxes ≡ n → AllByRecursion (λ (outbox : Outbox). LeadTo inboxes outbox.senders.items) outboxes → LeadToAll n outboxes
lead-all n inboxes [] many all = _
lead-all n inboxes (o ∷ os) many all = ((let l = lead-length inboxes o.senders.items all.0 in omega arith), lead-all n inboxes os many all.1)
