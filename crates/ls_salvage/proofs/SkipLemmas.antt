-- The search for the next start, byte by byte.
use Rattle.std.proofs.Common.{Option, None, Some, ◌≡◌, ◌⊎◌, inl, inr, ℕ, ◌+◌, ◌<◌, ◌≤◌, true, false, eqb, List, [], ◌∷◌, ◌++◌, length, refl, sym, ap, ◌∙◌, arith, append_assoc, append-nil}
use Rattle.std.specs.List.{AllByRecursion}
use Rattle.std.proofs.lemmas.List.{length-append}
use Rattle.std.proofs.lemmas.Bool.{ne_eqb, and_left, and_right}
use Rattle.ls_frame.specs.View.Known.{TakesUntil, Tells, WasAtEnd, known}
use Rattle.std.specs.Io.KnownBytes.{Consumes, prepend_known}
use Rattle.ls_salvage.specs.declared.starts.Matched.{Matched}
use Rattle.ls_salvage.specs.declared.starts.Matched.TheVariants.{Nothing, SoiBegun, Soi, SoiAndFf}
use Rattle.ls_salvage.specs.Starts.{may_follow_soi, is_start, to_start}
use Rattle.ls_salvage.specs.View.Skipping.{held, GoesOn, FoundStart, IsPassing, HasSkipped}
use Rattle.ls_salvage.proofs.StartLemmas.{to_start-none, to_start-here}

-- ---- bytes that don't begin a start

other_first : (byte : ℕ) (bytes : List ℕ) → (byte ≡ 255 → ⊥) → is_start (byte ∷ bytes) ≡ false
unfolding is_start
other_first byte [] other = refl
other_first byte (b ∷ []) other = refl
other_first byte (b ∷ c ∷ []) other = refl
other_first byte (b ∷ c ∷ d ∷ bytes) other = and_left (eqb byte 255) _ (ne_eqb byte 255 other)

other_second : (a byte : ℕ) (bytes : List ℕ) → (byte ≡ 216 → ⊥) → is_start (a ∷ byte ∷ bytes) ≡ false
unfolding is_start
other_second a byte [] other = refl
other_second a byte (c ∷ []) other = refl
other_second a byte (c ∷ d ∷ bytes) other = and_right (eqb a 255) _ (and_left (eqb byte 216) _ (ne_eqb byte 216 other))

other_third : (a b byte : ℕ) (bytes : List ℕ) → (byte ≡ 255 → ⊥) → is_start (a ∷ b ∷ byte ∷ bytes) ≡ false
unfolding is_start
other_third a b byte [] other = refl
other_third a b byte (d ∷ bytes) other = and_right (eqb a 255) _ (and_right (eqb b 216) _ (and_left (eqb byte 255) _ (ne_eqb byte 255 other)))

other_fourth : (a b c byte : ℕ) (bytes : List ℕ) → may_follow_soi byte ≡ false → is_start (a ∷ b ∷ c ∷ byte ∷ bytes) ≡ false
unfolding is_start
other_fourth a b c byte bytes other = and_right (eqb a 255) _ (and_right (eqb b 216) _ (and_right (eqb c 255) _ other))

-- a byte is passed over if it isn't FF, or if the byte after it isn't the second of SOI
passed_other : (byte : ℕ) (bytes : List ℕ) → (byte ≡ 255 → ⊥) → to_start (byte ∷ bytes) ≡ 1 + to_start bytes
passed_other byte bytes other = omega (arith, to_start-none byte bytes (other_first byte bytes other))

passed_before : (a byte : ℕ) (bytes : List ℕ) → (byte ≡ 216 → ⊥) → to_start (a ∷ byte ∷ bytes) ≡ 1 + to_start (byte ∷ bytes)
passed_before a byte bytes other = omega (arith, to_start-none a (byte ∷ bytes) (other_second a byte bytes other))

passed_two : (byte : ℕ) (bytes : List ℕ) → (byte ≡ 255 → ⊥) → to_start (255 ∷ 216 ∷ byte ∷ bytes) ≡ 2 + to_start (byte ∷ bytes)
passed_two byte bytes other =
    omega (arith, to_start-none 255 (216 ∷ byte ∷ bytes) (other_third 255 216 byte bytes other), passed_other 216 (byte ∷ bytes) (λ e. omega (arith, e)))

passed_three : (byte : ℕ) (bytes : List ℕ) → may_follow_soi byte ≡ false → to_start (255 ∷ 216 ∷ 255 ∷ byte ∷ bytes) ≡ 2 + to_start (255 ∷ byte ∷ bytes)
passed_three byte bytes other =
    omega (arith, to_start-none 255 (216 ∷ 255 ∷ byte ∷ bytes) (other_fourth 255 216 255 byte bytes other), passed_other 216 (255 ∷ byte ∷ bytes) (λ e. omega (arith, e)))

-- ---- one more byte

pub begun_after_nothing : (byte : ℕ) → byte ≡ 255 → GoesOn Nothing byte SoiBegun
begun_after_nothing byte is = rw is (record { passed = []; split = refl; far = λ bytes. omega arith })

pub nothing_after_nothing : (byte : ℕ) → (byte ≡ 255 → ⊥) → GoesOn Nothing byte Nothing
nothing_after_nothing byte other = record { passed = byte ∷ []; split = refl; far = λ bytes. passed_other byte bytes other }

pub soi_after_begun : (byte : ℕ) → byte ≡ 216 → GoesOn SoiBegun byte Soi
soi_after_begun byte is = rw is (record { passed = []; split = refl; far = λ bytes. omega arith })

pub begun_after_begun : (byte : ℕ) → byte ≡ 255 → GoesOn SoiBegun byte SoiBegun
begun_after_begun byte is = rw is (record { passed = 255 ∷ []; split = refl; far = λ bytes. passed_before 255 255 bytes (λ e. omega (arith, e)) })

pub nothing_after_begun : (byte : ℕ) → (byte ≡ 216 → ⊥) → (byte ≡ 255 → ⊥) → GoesOn SoiBegun byte Nothing
nothing_after_begun byte other others =
    record { passed = 255 ∷ byte ∷ []; split = refl; far = λ bytes. omega (arith, passed_before 255 byte bytes other, passed_other byte bytes others) }

pub ff_after_soi : (byte : ℕ) → byte ≡ 255 → GoesOn Soi byte SoiAndFf
ff_after_soi byte is = rw is (record { passed = []; split = refl; far = λ bytes. omega arith })

pub nothing_after_soi : (byte : ℕ) → (byte ≡ 255 → ⊥) → GoesOn Soi byte Nothing
nothing_after_soi byte other =
    record { passed = 255 ∷ 216 ∷ byte ∷ []; split = refl; far = λ bytes. omega (arith, passed_two byte bytes other, passed_other byte bytes other) }

pub ruleset after_lemmas = (begun_after_nothing, nothing_after_nothing, soi_after_begun, begun_after_begun, nothing_after_begun, ff_after_soi, nothing_after_soi)

pub found_after_ff : (byte : ℕ) → may_follow_soi byte ≡ true → FoundStart SoiAndFf byte
unfolding is_start
found_after_ff byte may = record { four = refl; start = λ bytes. may }

pub soi_after_ff : (byte : ℕ) → byte ≡ 216 → GoesOn SoiAndFf byte Soi
soi_after_ff byte is = rw is (record { passed = 255 ∷ 216 ∷ []; split = refl; far = λ bytes. passed_three 216 bytes refl })

not_filled : (byte : ℕ) → may_follow_soi byte ≡ false → byte ≡ 255 → ⊥
not_filled byte other is = let may : may_follow_soi byte ≡ true = ap may_follow_soi is in let clash : ⊥ = cc in clash

pub nothing_after_ff : (byte : ℕ) → may_follow_soi byte ≡ false → (byte ≡ 216 → ⊥) → GoesOn SoiAndFf byte Nothing
nothing_after_ff byte other others = record {
  passed = 255 ∷ 216 ∷ 255 ∷ byte ∷ [];
  split = refl;
  far = λ bytes. omega (arith, passed_three byte bytes other, passed_before 255 byte bytes others, passed_other byte bytes (not_filled byte other));
}

pub ruleset after_ff_lemmas = (found_after_ff, soi_after_ff, nothing_after_ff)

-- ---- a sequence of bytes

consumed : (a b : Option (List ℕ)) (bytes : List ℕ) → Consumes a b bytes → Tells a → Tells b × (known a ≡ bytes ++ known b)
consumed (Some x) None bytes given told = absurd given
consumed (Some x) (Some y) bytes given told = (refl, given)
consumed None b bytes given told = absurd (let clash : ⊥ = cc in clash)

passed_run : (run : List ℕ) (last : ℕ) (bytes : List ℕ) → AllByRecursion (λ byte. byte ≡ 255 → ⊥) run → to_start (run ++ last ∷ bytes) ≡ length run + to_start (last ∷ bytes)
passed_run [] last bytes unmarked = omega arith
passed_run (byte ∷ run) last bytes unmarked = omega (arith, passed_other byte (run ++ last ∷ bytes) unmarked.0, passed_run run last bytes unmarked.1)

-- `count` of the bytes were read, those passed over and then those held; and after them this one
pub record HasRead (matched : Matched) (count : ℕ) (old new : List ℕ) (last : ℕ) : Type 0 where
  pub passed : List ℕ
  pub split : old ≡ passed ++ (held matched ++ last ∷ new)
  pub count_is : count ≡ length passed + length (held matched)
  pub far : to_start old ≡ length passed + to_start (held matched ++ last ∷ new)

read_more : (matched : Matched) (count : ℕ) (old new run : List ℕ) (last : ℕ) → IsPassing matched count old (run ++ last ∷ new) → (matched ≡ Nothing) ⊎ (run ≡ [])
    → AllByRecursion (λ byte. byte ≡ 255 → ⊥) run → HasRead matched (count + length run) old new last
read_more matched count old new run last before (inl none) unmarked = rw none (record {
  passed = before.passed ++ run;
  split = before.split ∙ ap (λ p. before.passed ++ (held p ++ (run ++ last ∷ new))) none ∙ sym (append_assoc before.passed run (last ∷ new));
  count_is = omega (arith, before.count_is, ap (λ p. length (held p)) none, length-append before.passed run);
  far = omega (arith, before.far, ap (λ p. to_start (held p ++ (run ++ last ∷ new))) none, passed_run run last new unmarked, length-append before.passed run);
})
read_more matched count old new run last before (inr none) unmarked = record {
  passed = before.passed;
  split = before.split ∙ ap (λ s. before.passed ++ (held matched ++ (s ++ last ∷ new))) none;
  count_is = omega (arith, before.count_is, ap length none);
  far = before.far ∙ ap (λ s. length before.passed + to_start (held matched ++ (s ++ last ∷ new))) none;
}

no_run : (run : List ℕ) → length run < 1 → run ≡ []
no_run [] few = refl
no_run (byte ∷ run) few = absurd (omega arith)

unless_run : (matched : Matched) (most : ℕ) (run : List ℕ) → (matched ≡ Nothing) ⊎ (most ≡ 1) → length run < most → (matched ≡ Nothing) ⊎ (run ≡ [])
unless_run matched most run (inl none) few = inl none
unless_run matched most run (inr one) few = inr (no_run run (omega (arith, one)))

-- what was appended to an empty vector
pub run_length : (most last : ℕ) (mid new : Option (List ℕ)) (before items : List ℕ) → before ≡ [] → (taken : TakesUntil 255 most mid new before items last)
    → length items ≡ length taken.run + 1
run_length most last mid new before items none taken =
    omega (arith, ap length taken.appended, ap length none, length-append before (taken.run ++ last ∷ []), length-append taken.run (last ∷ []))

pub run_few : (most last : ℕ) (mid new : Option (List ℕ)) (before items : List ℕ) → before ≡ [] → TakesUntil 255 most mid new before items last
    → (0 < length items) × (length items ≤ most)
run_few most last mid new before items none taken =
    (omega (arith, run_length most last mid new before items none taken), omega (arith, run_length most last mid new before items none taken, taken.few))

-- the state so far, in terms of the reader's bytes, if these are known
abbrev pub HasGivenPassed : Matched → ℕ → Option (List ℕ) → Option (List ℕ) → Type 0
HasGivenPassed matched count old new = Tells old → Tells new × IsPassing matched count (known old) (known new)

abbrev pub HasGivenRead : Matched → ℕ → Option (List ℕ) → Option (List ℕ) → ℕ → Type 0
HasGivenRead matched count old new last = Tells old → Tells new × HasRead matched count (known old) (known new) last

pub read_on : (matched : Matched) (most count last : ℕ) (old mid new : Option (List ℕ)) (before items : List ℕ) → before ≡ [] → HasGivenPassed matched count old mid
    → (matched ≡ Nothing) ⊎ (most ≡ 1) → (taken : TakesUntil 255 most mid new before items last) → HasGivenRead matched (count + length taken.run) old new last
read_on matched most count last old mid new before items none passed one taken = λ told.
    let first = passed told in
    let given = consumed mid new (taken.run ++ last ∷ []) taken.given first.0 in
    let split : known mid ≡ taken.run ++ last ∷ known new = given.1 ∙ append_assoc taken.run (last ∷ []) (known new) in
    (given.0, read_more matched count (known old) (known new) taken.run last (rw split at first.1) (unless_run matched most taken.run one taken.few) taken.unmarked)

with_last : (matched : Matched) (last : ℕ) (new : List ℕ) → held matched ++ last ∷ new ≡ (held matched ++ last ∷ []) ++ new
with_last matched last new = sym (append_assoc (held matched) (last ∷ []) new)

passed_on : (matched next : Matched) (count : ℕ) (old new : List ℕ) (last : ℕ) → HasRead matched count old new last → GoesOn matched last next → IsPassing next (count + 1) old new
passed_on matched next count old new last read go = record {
  passed = read.passed ++ go.passed;
  split =
      read.split
      ∙ ap (λ s. read.passed ++ s) (with_last matched last new ∙ ap (λ s. s ++ new) go.split ∙ append_assoc go.passed (held next) new)
      ∙ sym (append_assoc read.passed go.passed (held next ++ new));
  count_is =
      omega (
        arith,
        read.count_is,
        ap length go.split,
        length-append (held matched) (last ∷ []),
        length-append go.passed (held next),
        length-append read.passed go.passed,
      );
  far = omega (arith, read.far, go.far new, length-append read.passed go.passed);
}

pub given_passed : (matched next : Matched) (count total : ℕ) (old new : Option (List ℕ)) (last : ℕ) → HasGivenRead matched count old new last → GoesOn matched last next → total ≡ count + 1
    → HasGivenPassed next total old new
given_passed matched next count total old new last read go is = λ told.
    let first = read told in (first.0, rw is (passed_on matched next count (known old) (known new) last first.1 go))

pub held_few : (matched next : Matched) (last count more : ℕ) → GoesOn matched last next → length (held matched) ≤ count → 0 < more → length (held next) ≤ count + more
held_few matched next last count more go few some =
    omega (arith, few, some, ap length go.split, length-append (held matched) (last ∷ []), length-append go.passed (held next))

pub three_held : (matched : Matched) (last : ℕ) → FoundStart matched last → length (held matched) ≡ 3
three_held matched last found = omega (arith, ap length found.four, length-append (held matched) (last ∷ []))

put_four : (a b c d : ℕ) (new bytes : Option (List ℕ)) → bytes ≡ prepend_known (a ∷ b ∷ c ∷ d ∷ []) new → Tells new → Tells bytes × (known bytes ≡ a ∷ b ∷ c ∷ d ∷ known new)
put_four a b c d (Some x) bytes is told = rw is (refl, refl)
put_four a b c d None bytes is told = absurd (let clash : ⊥ = cc in clash)

found_here : (matched : Matched) (count : ℕ) (old new : List ℕ) (last : ℕ) → HasRead matched count old new last → FoundStart matched last → (skipped : ℕ) → skipped + 3 ≡ count
    → HasSkipped skipped old (255 ∷ 216 ∷ 255 ∷ last ∷ new)
found_here matched count old new last read found skipped is =
    let four : held matched ++ last ∷ new ≡ 255 ∷ 216 ∷ 255 ∷ last ∷ new = with_last matched last new ∙ ap (λ s. s ++ new) found.four in record {
      passed = read.passed;
      split = read.split ∙ ap (λ s. read.passed ++ s) four;
      count_is = omega (arith, is, read.count_is, three_held matched last found);
      far = omega (arith, is, read.count_is, read.far, ap to_start four, to_start-here (255 ∷ 216 ∷ 255 ∷ last ∷ new) (found.start new), three_held matched last found);
    }

pub given_found : (matched : Matched) (count skipped : ℕ) (old new bytes : Option (List ℕ)) (last : ℕ) → HasGivenRead matched count old new last → FoundStart matched last → skipped + 3 ≡ count
    → bytes ≡ prepend_known (255 ∷ 216 ∷ 255 ∷ last ∷ []) new → Tells old → Tells bytes × HasSkipped skipped (known old) (known bytes)
given_found matched count skipped old new bytes last read found is back = λ told.
    let first = read told in
    let put = put_four 255 216 255 last new bytes back first.0 in
    (put.0, rw (put.1) (found_here matched count (known old) (known new) last first.1 found skipped is))

held_start : (matched : Matched) → to_start (held matched ++ []) ≡ length (held matched)
unfolding to_start is_start
held_start Nothing = refl
held_start SoiBegun = refl
held_start Soi = refl
held_start SoiAndFf = refl

pub given_end : (matched : Matched) (count : ℕ) (old mid new : Option (List ℕ)) → HasGivenPassed matched count old mid → WasAtEnd mid new
    → Tells old → Tells new × HasSkipped count (known old) (known new)
given_end matched count old mid new passed end = λ told.
    let first = passed told in
    let none = end first.0 in
    let before = first.1 in
    let split : known old ≡ before.passed ++ (held matched ++ []) = before.split ∙ ap (λ s. before.passed ++ (held matched ++ s)) none.1 in
    let far : to_start (known old) ≡ length before.passed + to_start (held matched ++ []) = before.far ∙ ap (λ s. length before.passed + to_start (held matched ++ s)) none.1 in (
      none.0,
      rw none.2 (record {
        passed = known old;
        split = sym (append-nil (known old));
        count_is = omega (arith, ap length split, before.count_is, length-append before.passed (held matched ++ []), ap length (append-nil (held matched)));
        far = omega (arith, before.count_is, far, held_start matched);
      }),
    )
