-- Bytes taken off the front, where reading stops after them, and the outcome of several steps.
use Rattle.std.proofs.Common.{◌≡◌, ℕ, suc, ◌+◌, ◌-◌, Bool, true, false, List, [], ◌∷◌, ◌++◌, length, Result, Ok, Err, MatchResult, refl, sym, ap, ◌∙◌, arith, length-append, append_assoc, append-nil}
use Rattle.ls_frame.specs.declared.netpbm.NetpbmFault.{NetpbmFault}
use Rattle.ls_frame.specs.Faults.{Due, allows, fault_at, BreaksOff, too_long, ends, refuses}
use Rattle.ls_frame.specs.View.Reading.{◌>>=◌, wanted, byte_at}

-- ---- bytes taken

-- `front` is taken off `bytes`, which leaves `rest`; `left` of the `allowed` bytes are still allowed
pub record Takes (allowed : ℕ) (bytes front : List ℕ) (left : ℕ) (rest : List ℕ) : Type 0 where
  pub whole : bytes ≡ front ++ rest
  pub room_is : allowed ≡ length front + left

-- nothing
pub takes_none : (allowed : ℕ) (bytes : List ℕ) → Takes allowed bytes [] allowed bytes
takes_none allowed bytes = record { whole = refl; room_is = omega arith }

-- one byte more in front
pub takes_cons : {allowed left : ℕ} {bytes front rest : List ℕ} (c : ℕ) → Takes allowed bytes front left rest → Takes (suc allowed) (c ∷ bytes) (c ∷ front) left rest
takes_cons c taken = record { whole = ap (λ bs. c ∷ bs) taken.whole; room_is = omega arith }

-- one byte
pub takes_one : (c allowed : ℕ) (rest : List ℕ) → Takes (suc allowed) (c ∷ rest) (c ∷ []) allowed rest
takes_one c allowed rest = takes_cons c (takes_none allowed rest)

-- one after the other
pub takes_more : {allowed between left : ℕ} {bytes front middle back rest : List ℕ} → Takes allowed bytes front between middle → Takes between middle back left rest
    → Takes allowed bytes (front ++ back) left rest
takes_more {front = front} {back = back} {rest = rest} first second = record {
  whole = first.whole ∙ ap (λ bs. front ++ bs) second.whole ∙ sym (append_assoc front back rest);
  room_is = simp length-append (let e = first.room_is in let f = second.room_is in omega arith);
}

-- the same for an equal list of bytes
pub takes_as : {allowed left : ℕ} {bytes front front' rest : List ℕ} → Takes allowed bytes front left rest → front ≡ front' → Takes allowed bytes front' left rest
takes_as taken same = rw (← same) taken

-- ---- bytes taken, in two parts

-- the first part of what is taken, the second, and all but the last byte
pub takes_first : (front back : List ℕ) {allowed left : ℕ} {bytes rest : List ℕ} → Takes allowed bytes (front ++ back) left rest → Takes allowed bytes front (length back + left) (back ++ rest)
takes_first front back {rest = rest} taken = record { whole = taken.whole ∙ append_assoc front back rest; room_is = let e = simp length-append at taken.room_is in omega arith }

pub takes_second : (back : List ℕ) (left : ℕ) (rest : List ℕ) → Takes (length back + left) (back ++ rest) back left rest
takes_second back left rest = record { whole = refl; room_is = refl }

pub takes_last : (front : List ℕ) (c : ℕ) {allowed left : ℕ} {bytes rest : List ℕ} → Takes allowed bytes (front ++ c ∷ []) left rest → Takes allowed bytes front (suc left) (c ∷ rest)
takes_last front c {rest = rest} taken = record { whole = taken.whole ∙ append_assoc front (c ∷ []) rest; room_is = let e = simp length-append at taken.room_is in omega arith }

-- ---- where reading stops

-- it stops at the same place with one byte more in front
pub stops_cons : {allowed : ℕ} {bytes front : List ℕ} {d : Due} {fault : NetpbmFault} (c : ℕ) → BreaksOff allowed bytes front d fault → BreaksOff (suc allowed) (c ∷ bytes) (c ∷ front) d fault
stops_cons c (too_long rest whole all is) = too_long rest (ap (λ bs. c ∷ bs) whole) (omega arith) is
stops_cons c (ends whole some is) = ends (ap (λ bs. c ∷ bs) whole) (omega arith) is
stops_cons c (refuses b rest whole some not_allowed is) = refuses b rest (ap (λ bs. c ∷ bs) whole) (omega arith) not_allowed is

-- it stops after what is taken
pub stops_after : {allowed left : ℕ} {bytes front rest back : List ℕ} {d : Due} {fault : NetpbmFault} → Takes allowed bytes front left rest → BreaksOff left rest back d fault
    → BreaksOff allowed bytes (front ++ back) d fault
stops_after {front = front} {back = back} taken (too_long rest whole all is) =
    too_long rest (taken.whole ∙ ap (λ bs. front ++ bs) whole ∙ sym (append_assoc front back rest)) (simp length-append (let e = taken.room_is in omega arith)) is
stops_after {front = front} {back = back} taken (ends whole some is) =
    ends (taken.whole ∙ ap (λ bs. front ++ bs) whole) (simp length-append (let e = taken.room_is in omega arith)) is
stops_after {front = front} {back = back} taken (refuses c rest whole some not_allowed is) =
    refuses c rest (taken.whole ∙ ap (λ bs. front ++ bs) whole ∙ sym (append_assoc front back (c ∷ rest))) (simp length-append (let e = taken.room_is in omega arith)) not_allowed is

-- the same for an equal list of bytes
pub stops_as : {allowed : ℕ} {bytes front front' : List ℕ} {d : Due} {fault : NetpbmFault} → BreaksOff allowed bytes front d fault → front ≡ front' → BreaksOff allowed bytes front' d fault
stops_as stops same = rw (← same) stops

-- ---- where reading stops, seen from there

-- here no byte may be read, or there is none, or it isn't allowed
pub data StopsHere (allowed : ℕ) (bytes : List ℕ) (d : Due) (fault : NetpbmFault) : Type 0 where
  no_byte : byte_at allowed bytes ≡ Err fault → StopsHere allowed bytes d fault
  refused : (c left : ℕ) (rest : List ℕ) → byte_at allowed bytes ≡ Ok (c, left, rest) → allows d c ≡ false → fault ≡ fault_at d → StopsHere allowed bytes d fault

-- `front` is taken, and then reading stops
pub record StopsAfter (allowed : ℕ) (bytes front : List ℕ) (d : Due) (fault : NetpbmFault) : Type 0 where
  pub left : ℕ
  pub rest : List ℕ
  pub takes : Takes allowed bytes front left rest
  pub here : StopsHere left rest d fault

-- if reading stops after `front`, `front` was taken
pub stops_seen : {allowed : ℕ} {bytes front : List ℕ} {d : Due} {fault : NetpbmFault} → BreaksOff allowed bytes front d fault → StopsAfter allowed bytes front d fault
stops_seen (too_long rest whole all is) = record { left = 0; rest = rest; takes = record { whole = whole; room_is = omega arith }; here = no_byte (rw is refl) }
stops_seen {allowed = allowed} {front = front} (ends whole some is) = record {
  left = suc (allowed - suc (length front));
  rest = [];
  takes = record { whole = whole ∙ sym (append-nil front); room_is = omega arith };
  here = no_byte (rw is refl);
}
stops_seen {allowed = allowed} {front = front} (refuses c rest whole some not_allowed is) = record {
  left = suc (allowed - suc (length front));
  rest = c ∷ rest;
  takes = record { whole = whole; room_is = omega arith };
  here = refused c (allowed - suc (length front)) rest refl not_allowed is;
}

-- ---- several steps

-- two steps: the outcome of the second, unless the first fails
pub outcome_of_both : {A B : Type 0} (P : A → Type 0) (Q : NetpbmFault → Type 0) (P' : B → Type 0) (Q' : NetpbmFault → Type 0) (r : Result A NetpbmFault) (f : A → Result B NetpbmFault)
    → MatchResult r P Q → ((x : A) → P x → MatchResult (f x) P' Q') → ((fault : NetpbmFault) → Q fault → Q' fault) → MatchResult (r >>= f) P' Q'
outcome_of_both P Q P' Q' (Ok x) f first second failed = second x first
outcome_of_both P Q P' Q' (Err fault) f first second failed = failed fault first

-- the same step with a weaker outcome
pub outcome_weaker : {A : Type 0} (P : A → Type 0) (Q : NetpbmFault → Type 0) (P' : A → Type 0) (Q' : NetpbmFault → Type 0) (r : Result A NetpbmFault)
    → MatchResult r P Q → ((x : A) → P x → P' x) → ((fault : NetpbmFault) → Q fault → Q' fault) → MatchResult r P' Q'
outcome_weaker P Q P' Q' (Ok x) outcome found failed = found x outcome
outcome_weaker P Q P' Q' (Err fault) outcome found failed = failed fault outcome

-- a test, and what follows it
pub wanted_outcome : {A : Type 0} (P : A → Type 0) (Q : NetpbmFault → Type 0) (test : Bool) (fault : NetpbmFault) (next : Result A NetpbmFault)
    → (test ≡ true → MatchResult next P Q) → (test ≡ false → Q fault) → MatchResult (wanted test fault >>= λ passed. next) P Q
wanted_outcome P Q true fault next passes fails = passes refl
wanted_outcome P Q false fault next passes fails = fails refl

-- a test, a value, and what follows
pub wanted_next_outcome : {A B : Type 0} (P : B → Type 0) (Q : NetpbmFault → Type 0) (test : Bool) (fault : NetpbmFault) (x : A) (f : A → Result B NetpbmFault)
    → (test ≡ true → MatchResult (f x) P Q) → (test ≡ false → Q fault) → MatchResult ((wanted test fault >>= λ passed. Ok x) >>= f) P Q
wanted_next_outcome P Q true fault x f passes fails = passes refl
wanted_next_outcome P Q false fault x f passes fails = fails refl
