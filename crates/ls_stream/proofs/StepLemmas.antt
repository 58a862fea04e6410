-- The value of a step that didn't fail, and that a step after another doesn't fail.
use Rattle.std.proofs.Common.{◌≡◌, ◌⊎◌, inl, inr, Bool, true, false, Result, Ok, Err, refl, sym, ap}
use Rattle.ls_stream.specs.declared.faults.StreamFault.{StreamFault}
use Rattle.ls_stream.specs.View.Reading.{◌>>=◌, wanted}

-- the value of a step that didn't fail
pub step_ok : {A B : Type 0} (r : Result A StreamFault) (f : A → Result B StreamFault) (y : B) → (r >>= f) ≡ Ok y → (x : A) × (r ≡ Ok x) × (f x ≡ Ok y)
step_ok (Ok x) f y e = (x, refl, e)
step_ok (Err fault) f y e = absurd cc

-- a test that didn't fail
pub test_ok : {B : Type 0} (test : Bool) (fault : StreamFault) (r : Result B StreamFault) (y : B) → (wanted test fault >>= λ passed. r) ≡ Ok y → (test ≡ true) × (r ≡ Ok y)
test_ok true fault r y e = (refl, e)
test_ok false fault r y e = absurd cc

-- the last test
pub passed_ok : (test : Bool) (fault : StreamFault) (y : Unit {0}) → wanted test fault ≡ Ok y → test ≡ true
passed_ok true fault y e = refl
passed_ok false fault y e = absurd cc

-- a test that is met
pub test_met : {B : Type 0} (test : Bool) (fault : StreamFault) (r : Result B StreamFault) → test ≡ true → (wanted test fault >>= λ passed. r) ≡ r
test_met true fault r e = refl
test_met false fault r e = absurd cc

-- a step that gives a value
pub step_is : {A B : Type 0} (r : Result A StreamFault) (f : A → Result B StreamFault) (x : A) → r ≡ Ok x → (r >>= f) ≡ f x
step_is (Ok x) f y e = let same : x ≡ y = cc in rw same refl
step_is (Err fault) f y e = absurd cc

abbrev done : {A : Type 0} → A → Result A StreamFault
done x = Ok x

pub same_ok : {A : Type 0} (x y : A) → done x ≡ done y → x ≡ y
same_ok x y e = cc

-- ---- faults

abbrev failed : {A : Type 0} → StreamFault → Result A StreamFault
failed fault = Err fault

pub same_fault : {A : Type 0} (fault other : StreamFault) → failed {A = A} fault ≡ failed {A = A} other → fault ≡ other
same_fault fault other e = cc

-- the first step fails, or the second
pub step_err : {A B : Type 0} (r : Result A StreamFault) (f : A → Result B StreamFault) (fault : StreamFault) → (r >>= f) ≡ Err fault
    → (r ≡ Err fault) ⊎ ((x : A) × (r ≡ Ok x) × (f x ≡ Err fault))
step_err (Ok x) f fault e = inr (x, refl, e)
step_err {A} {B} (Err other) f fault e = inl (ap (λ d. failed {A = A} d) (same_fault {A = B} other fault e))

-- the test fails, or what follows it
pub test_err : {B : Type 0} (test : Bool) (other : StreamFault) (r : Result B StreamFault) (fault : StreamFault) → (wanted test other >>= λ passed. r) ≡ Err fault
    → ((test ≡ false) × (fault ≡ other)) ⊎ ((test ≡ true) × (r ≡ Err fault))
test_err true other r fault e = inr (refl, e)
test_err {B} false other r fault e = inl (refl, sym (same_fault {A = B} other fault e))
