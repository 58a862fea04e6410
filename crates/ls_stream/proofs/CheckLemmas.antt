-- Contents of segments fail with the fault of the first check that they don't pass.
use Rattle.std.proofs.Common.{◌≡◌, ℕ, ◌+◌, Bool, true, false, cond, eqb, List, [], ◌∷◌, get_or, None, Some, Result, Ok, Err, MatchResult, refl, sym, subst}
use Rattle.std.specs.Prelude.{◌||◌, not}
use Rattle.std.specs.List.{list_any}
use Rattle.std.proofs.lemmas.Result.{MatchResult-at_ok, MatchResult-at_err}
use Rattle.ls_frame.specs.declared.frame.Kind.{Kind}
use Rattle.ls_frame.specs.declared.frame.Kind.TheVariants.{Gray, Color}
use Rattle.ls_stream.specs.declared.faults.StreamFault.{StreamFault}
use Rattle.ls_stream.specs.declared.faults.StreamFault.TheVariants.{BadSegment, Unsupported}
use Rattle.ls_stream.specs.declared.faults.What.TheVariants as what
use Rattle.ls_stream.specs.Faults.{Check, first_unmet, component_checks, size_checks, one_component, three_components, frame_checks, presets_checks, scan_checks}
use Rattle.ls_stream.specs.Segments.{field_of}
use Rattle.ls_stream.specs.View.Reading.{◌>>=◌, wanted, kind_of_count, id_of, ids_of, frame_header_of, preset_fields_of, scan_header_of}

-- what is read passes the checks, and a fault is that of the first check that fails
pub record Agrees {X : Type 0} (checks : List Check) (r : Result X StreamFault) : Type 0 where
  pub same : MatchResult r (λ x. first_unmet checks ≡ None) (λ fault. first_unmet checks ≡ Some fault)

test_agrees : {X : Type 0} (test : Bool) (fault : StreamFault) (checks : List Check) (r : Result X StreamFault) → Agrees checks r → Agrees ((test, fault) ∷ checks) (wanted test fault >>= λ passed. r)
test_agrees true fault checks r agrees = record { same = agrees.same }
test_agrees false fault checks r agrees = record { same = refl }

last_agrees : (test : Bool) (fault : StreamFault) → Agrees ((test, fault) ∷ []) (wanted test fault)
last_agrees true fault = record { same = refl }
last_agrees false fault = record { same = refl }

-- ---- the header of a scan, and preset parameters

pub scan_agrees : (id : ℕ) (contents : List ℕ) → Agrees (scan_checks id contents) (scan_header_of id contents)
unfolding scan_header_of
scan_agrees id contents =
    test_agrees _ _ _ _ (test_agrees _ _ _ _ (test_agrees _ _ _ _ (test_agrees _ _ _ _ (test_agrees _ _ _ _ (test_agrees _ _ _ _ (test_agrees _ _ _ _ (last_agrees _ _)))))))

pub presets_agree : (contents : List ℕ) → Agrees (presets_checks contents) (preset_fields_of contents)
unfolding preset_fields_of
presets_agree contents = test_agrees _ _ _ _ (test_agrees _ _ _ _ (test_agrees _ _ _ _ (record { same = refl })))

-- ---- the frame header

by_tests : {X : Type 0} (first second : Bool) (id : ℕ) (checks : List Check) (f : ℕ → Result X StreamFault) → Agrees checks (f id)
    → Agrees ((first, BadSegment) ∷ (second, Unsupported what.Sampling) ∷ checks)
    ((wanted first BadSegment >>= λ another. wanted second (Unsupported what.Sampling) >>= λ sampled. Ok id) >>= f)
by_tests true true id checks f agrees = record { same = agrees.same }
by_tests true false id checks f agrees = record { same = refl }
by_tests false second id checks f agrees = record { same = refl }

id_agrees : {X : Type 0} (before contents : List ℕ) (place : ℕ) (checks : List Check) (f : ℕ → Result X StreamFault) → Agrees checks (f (get_or contents place 0))
    → Agrees (component_checks before contents place checks) (id_of before contents place >>= f)
unfolding id_of
id_agrees before contents place checks f agrees =
    by_tests (not (list_any (λ id. eqb id (get_or contents place 0)) before)) (eqb (get_or contents (place + 1) 0) 17) (get_or contents place 0) checks f agrees

by_kind : {X : Type 0} (first second : Bool) (fault : StreamFault) (one three : List Check) (f : Kind → Result X StreamFault) → Agrees one (f Gray) → Agrees three (f Color)
    → Agrees ((first || second, fault) ∷ cond first one three) (cond first (Ok Gray) (cond second (Ok Color) (Err fault)) >>= f)
by_kind true second fault one three f gray color = record { same = gray.same }
by_kind false true fault one three f gray color = record { same = color.same }
by_kind false false fault one three f gray color = record { same = refl }

kind_agrees : {X : Type 0} (count : ℕ) (one three : List Check) (f : Kind → Result X StreamFault) → Agrees one (f Gray) → Agrees three (f Color)
    → Agrees ((eqb count 1 || eqb count 3, Unsupported (what.Components count)) ∷ cond (eqb count 1) one three) (kind_of_count count >>= f)
kind_agrees count one three f gray color = by_kind (eqb count 1) (eqb count 3) (Unsupported (what.Components count)) one three f gray color

-- steps within a step
join_one : {A B X : Type 0} (r : Result A StreamFault) (u : A → B) (g : B → Result X StreamFault) → ((r >>= λ a. Ok (u a)) >>= g) ≡ (r >>= λ a. g (u a))
join_one (Ok a) u g = refl
join_one (Err fault) u g = refl

join_two : {A B X : Type 0} (r : Result A StreamFault) (s : A → Result A StreamFault) (u : A → A → B) (g : B → Result X StreamFault)
    → ((r >>= λ a. s a >>= λ b. Ok (u a b)) >>= g) ≡ (r >>= λ a. s a >>= λ b. g (u a b))
join_two (Ok a) s u g = join_one (s a) (u a) g
join_two (Err fault) s u g = refl

join_three : {A B X : Type 0} (r : Result A StreamFault) (s : A → Result A StreamFault) (t : A → A → Result A StreamFault) (u : A → A → A → B) (g : B → Result X StreamFault)
    → ((r >>= λ a. s a >>= λ b. t a b >>= λ c. Ok (u a b c)) >>= g) ≡ (r >>= λ a. s a >>= λ b. t a b >>= λ c. g (u a b c))
join_three (Ok a) s t u g = join_two (s a) (t a) (u a) g
join_three (Err fault) s t u g = refl

named_gray : {X : Type 0} (contents : List ℕ) (checks : List Check) (g : List ℕ → Result X StreamFault) → ((ids : List ℕ) → Agrees checks (g ids))
    → Agrees (component_checks [] contents 6 checks) (ids_of Gray contents >>= g)
unfolding ids_of
named_gray contents checks g agrees =
    subst (Agrees (component_checks [] contents 6 checks)) (sym (join_one (id_of [] contents 6) (λ a. a ∷ 0 ∷ 0 ∷ []) g))
    (id_agrees [] contents 6 checks (λ a. g (a ∷ 0 ∷ 0 ∷ [])) (agrees _))

named_color : {X : Type 0} (contents : List ℕ) (checks : List Check) (g : List ℕ → Result X StreamFault) → ((ids : List ℕ) → Agrees checks (g ids))
    → Agrees (component_checks [] contents 6
    (component_checks (get_or contents 6 0 ∷ []) contents 9 (component_checks (get_or contents 6 0 ∷ get_or contents 9 0 ∷ []) contents 12 checks))) (ids_of Color contents >>= g)
unfolding ids_of
named_color contents checks g agrees =
    let one = get_or contents 6 0 in
    let two = get_or contents 9 0 in
    let third : List Check = component_checks (one ∷ two ∷ []) contents 12 checks in
    let second : List Check = component_checks (one ∷ []) contents 9 third in
    subst (Agrees (component_checks [] contents 6 second))
    (sym (join_three (id_of [] contents 6) (λ a. id_of (a ∷ []) contents 9) (λ a b. id_of (a ∷ b ∷ []) contents 12) (λ a b c. a ∷ b ∷ c ∷ []) g))
    (id_agrees [] contents 6 second (λ a. id_of (a ∷ []) contents 9 >>= λ b. id_of (a ∷ b ∷ []) contents 12 >>= λ c. g (a ∷ b ∷ c ∷ []))
    (id_agrees (one ∷ []) contents 9 third (λ b. id_of (one ∷ b ∷ []) contents 12 >>= λ c. g (one ∷ b ∷ c ∷ []))
    (id_agrees (one ∷ two ∷ []) contents 12 checks (λ c. g (one ∷ two ∷ c ∷ [])) (agrees _))))

pub frame_agrees : (contents : List ℕ) → Agrees (frame_checks contents) (frame_header_of contents)
unfolding frame_header_of field_of
frame_agrees contents =
    test_agrees _ _ _ _ (test_agrees _ _ _ _ (test_agrees _ _ _ _ (test_agrees _ _ _ _
    (kind_agrees (get_or contents 5 0) (one_component contents) (three_components contents) _
    (test_agrees _ _ _ _ (named_gray contents (size_checks 1 contents) _ (λ ids. test_agrees _ _ _ _ (record { same = refl }))))
    (test_agrees _ _ _ _ (named_color contents (size_checks 3 contents) _ (λ ids. test_agrees _ _ _ _ (record { same = refl }))))))))

-- ---- for faults, and for what is read

pub unmet_of : {X : Type 0} (checks : List Check) (r : Result X StreamFault) (fault : StreamFault) → Agrees checks r → r ≡ Err fault → first_unmet checks ≡ Some fault
unmet_of checks r fault agrees e = MatchResult-at_err (λ x. first_unmet checks ≡ None) (λ fault. first_unmet checks ≡ Some fault) fault e agrees.same

pub met_of : {X : Type 0} (checks : List Check) (r : Result X StreamFault) (x : X) → Agrees checks r → r ≡ Ok x → first_unmet checks ≡ None
met_of checks r x agrees e = MatchResult-at_ok (λ x. first_unmet checks ≡ None) (λ fault. first_unmet checks ≡ Some fault) x e agrees.same
