-- Where the samples of a row are among those of all components.
use Rattle.std.proofs.Common.{◌≡◌, ◌≢◌, ℕ, zero, suc, ◌+◌, ◌*◌, ◌^◌, ◌%◌, ◌<◌, ◌≤◌, ◌⊎◌, List, get_or, inl, inr, sym, ◌∙◌, ap, subst, arith}
use Rattle.std.proofs.lemmas.Bool.{cases_lt}
use Rattle.std.proofs.lemmas.Nat.{mul-le, mul-add-lt, mod-mul-add}
use Rattle.ls_coding.proofs.FieldLemmas.{same_or_not}

pub place_inside : (row width height column count component : ℕ) → row < height → column < width → component < count
    → (row * width + column) * count + component < height * width * count
place_inside row width height column count component h k l =
    let pixel : row * width + column < width * height = mul-add-lt row width column height h k in
    let turned : width * height ≡ height * width = omega arith in
    let all : (row * width + column) * count + component < count * (height * width) = mul-add-lt (row * width + column) count component (height * width) (omega arith) l in
    let whole : count * (height * width) ≡ height * width * count = omega arith in
    omega arith

-- what is computed on the way to a place is no greater than the place
pub steps_inside : (row width height column count component : ℕ) → row < height → column < width → component < count → height * width * count < 2 ^ 32
    → (row * width < 2 ^ 32) × (row * width + column < 2 ^ 32) × ((row * width + column) * count < 2 ^ 32) × ((row * width + column) * count + component < 2 ^ 32)
steps_inside row width height column count component h k l few =
    let inside = place_inside row width height column count component h k l in
    let pixel : (row * width + column) * 1 ≤ (row * width + column) * count = mul-le (row * width + column) 1 (row * width + column) count (omega arith) (omega arith) in
    (omega arith, omega arith, omega arith, omega arith)

pub other_column : (row width j column count component : ℕ) → j < column → component < count
    → (row * width + j) * count + component ≢ (row * width + column) * count + component
other_column row width j column count component h k e =
    let less : (row * width + j + 1) * count ≤ (row * width + column) * count = mul-le (row * width + j + 1) count (row * width + column) count (omega arith) (omega arith) in
    let next : (row * width + j + 1) * count ≡ (row * width + j) * count + count = omega arith in
    absurd (omega arith)

-- a row of the only component
pub place_of_the_only : (start j count component : ℕ) → count ≡ 1 → component < count → (start + j) * count + component ≡ start + j
place_of_the_only start j count component one low = ap (λ n. (start + j) * n + component) one ∙ omega arith

pub other_row : (r row width j i count component : ℕ) → r < row → j < width → component < count
    → (r * width + j) * count + component ≢ (row * width + i) * count + component
other_row r row width j i count component h k l e =
    let rows : (r + 1) * width ≤ row * width = mul-le (r + 1) width row width (omega arith) (omega arith) in
    let next : (r + 1) * width ≡ r * width + width = omega arith in
    let less : (r * width + j + 1) * count ≤ (row * width + i) * count = mul-le (r * width + j + 1) count (row * width + i) count (omega arith) (omega arith) in
    let step : (r * width + j + 1) * count ≡ (r * width + j) * count + count = omega arith in
    absurd (omega arith)

pub other_component : (k other pixel count component : ℕ) → other < count → component < count → other ≢ component → k * count + other ≢ pixel * count + component
other_component k other pixel count component h l differs e =
    let one : (k * count + other) % count ≡ other = mod-mul-add k count other h in
    let two : (pixel * count + component) % count ≡ component = mod-mul-add pixel count component l in
    differs (sym one ∙ ap (λ n. n % count) e ∙ two)

-- whether a place is one of a row's
in_row : (width start count component k : ℕ) → ((j : ℕ) × (j < width) × (k ≡ (start + j) * count + component)) ⊎ ((j : ℕ) → j < width → k ≢ (start + j) * count + component)
in_row zero start count component k = inr (λ j h. absurd (omega arith))
in_row (suc width) start count component k =
    elim (in_row width start count component k) [
      | inl found ↦ inl (found.0, omega (arith, found.1), found.2)
      | inr none ↦ elim (same_or_not k ((start + width) * count + component)) [
        | inl same ↦ inl (width, omega arith, same)
        | inr other ↦ inr (λ j h. elim (cases_lt j width) [
          | inl earlier ↦ none j earlier
          | inr last ↦ let is : j ≡ width = omega arith in subst (λ n. k ≢ (start + n) * count + component) (sym is) other
        ])
      ]
    ]

pub small_stored : (maxval width count component row : ℕ) (samples new line : List ℕ) → ((k : ℕ) → get_or samples k 0 ≤ maxval) → ((k : ℕ) → get_or line k 0 ≤ maxval)
    → ((j : ℕ) → j < width → get_or new ((row * width + j) * count + component) 0 ≡ get_or line (j + 1) 0)
    → ((k : ℕ) → ((j : ℕ) → j < width → k ≢ (row * width + j) * count + component) → get_or new k 0 ≡ get_or samples k 0)
    → (k : ℕ) → get_or new k 0 ≤ maxval
small_stored maxval width count component row samples new line small line_small stored kept k =
    elim (in_row width (row * width) count component k) [
      | inl found ↦ subst (λ n. get_or new n 0 ≤ maxval) (sym found.2) (subst (λ v. v ≤ maxval) (sym (stored found.0 found.1)) (line_small (found.0 + 1)))
      | inr none ↦ subst (λ v. v ≤ maxval) (sym (kept k none)) (small k)
    ]
