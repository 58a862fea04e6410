-- The words that a decoder reads, and the samples that they stand for.
use Rattle.std.proofs.Common.{◌≡◌, ℕ, ◌+◌, ◌/◌, ◌^◌, ◌<◌, arith, ◌≤◌, List, Bool, ◌++◌, refl, sym, ◌∙◌, ap, subst}
use Rattle.ls_bits.specs.declared.source.CodeFault.{CodeFault}
use Rattle.ls_bits.specs.declared.source.CodeFault.TheVariants.{OutOfBits, NotCanonical}
use Rattle.ls_bits.specs.Golomb.{IsGolomb, short_word, code_word, escape_zeros, most_value, TakesWord, GolombFault}
use Rattle.ls_bits.proofs.GolombLaws.{same_word, canonical, short_word-taken}
use Rattle.ls_frame.specs.Parameters.{Parameters, range_of, qbpp_of, limit_of}
use Rattle.ls_coding.specs.declared.word.Word.{Word}
use Rattle.ls_coding.specs.declared.neighbours.Neighbours.{Neighbours}
use Rattle.ls_coding.specs.View.States.{Coding}
use Rattle.ls_coding.specs.View.SureZeros.{sure_zeros}
use Rattle.ls_coding.proofs.SureLemmas.{small_by_zeros}
use Rattle.ls_coding.proofs.WordLemmas.{qbpp_are}
use Rattle.ls_coding.specs.View.Plans.{Planned, regular_plan_by, regular_plan, IsReadBy, IsTheSample, NoSample}

no_word : (k glimit qbpp v : ℕ) (bits rest : List Bool) (fault : CodeFault) → IsGolomb k glimit qbpp → GolombFault k glimit qbpp bits fault
    → TakesWord k glimit qbpp bits v rest → ⊥
no_word k glimit qbpp v bits rest NotCanonical golomb fault word = canonical k glimit qbpp bits v rest golomb word fault
no_word k glimit qbpp v bits rest OutOfBits golomb fault word = fault.0 v word.value (rest, word.word)

-- the code of the words of all samples of a kind
pub record IsCode (plan : Planned) (word_of : ℕ → Word) (k glimit qbpp maxval : ℕ) : Type 0 where
  pub golomb : IsGolomb plan.k plan.glimit (qbpp_of maxval)
  pub read_by : (x : ℕ) → IsReadBy plan (word_of x)
  pub k_is : k ≡ plan.k
  pub glimit_is : glimit ≡ plan.glimit
  pub qbpp_is : qbpp ≡ qbpp_of maxval

takes : (plan : Planned) (word_of : ℕ → Word) (k glimit qbpp maxval x : ℕ) (bits rest : List Bool) → IsCode plan word_of k glimit qbpp maxval
    → (word_of x).value ≤ most_value (qbpp_of maxval)
    → bits ≡ code_word (word_of x).k (word_of x).glimit (qbpp_of maxval) (word_of x).value ++ rest
    → TakesWord plan.k plan.glimit (qbpp_of maxval) bits (word_of x).value rest
takes plan word_of k glimit qbpp maxval x bits rest code small e = record {
  value = small;
  word = e ∙ ap (λ n. code_word n (word_of x).glimit (qbpp_of maxval) (word_of x).value ++ rest) (code.read_by x).same_k
      ∙ ap (λ n. code_word plan.k n (qbpp_of maxval) (word_of x).value ++ rest) (code.read_by x).same_limit;
}

-- the same, of the numbers that a call was given
given : (plan : Planned) (word_of : ℕ → Word) (k glimit qbpp maxval : ℕ) (P : ℕ → ℕ → ℕ → Type 0) → IsCode plan word_of k glimit qbpp maxval
    → P k glimit qbpp → P plan.k plan.glimit (qbpp_of maxval)
given plan word_of k glimit qbpp maxval P code h =
    subst (λ n. P plan.k plan.glimit n) code.qbpp_is (subst (λ n. P plan.k n qbpp) code.glimit_is (subst (λ n. P n glimit qbpp) code.k_is h))

-- no word is read if none is at the front
pub none_taken : (plan : Planned) (word_of : ℕ → Word) (k glimit qbpp maxval x : ℕ) (bits rest : List Bool) (fault : CodeFault) → IsCode plan word_of k glimit qbpp maxval
    → GolombFault k glimit qbpp bits fault → (word_of x).value ≤ most_value (qbpp_of maxval)
    → bits ≡ code_word (word_of x).k (word_of x).glimit (qbpp_of maxval) (word_of x).value ++ rest → ⊥
none_taken plan word_of k glimit qbpp maxval x bits rest fault code malformed small e =
    no_word plan.k plan.glimit (qbpp_of maxval) (word_of x).value bits rest fault code.golomb
    (given plan word_of k glimit qbpp maxval (λ a b c. GolombFault a b c bits fault) code malformed) (takes plan word_of k glimit qbpp maxval x bits rest code small e)

-- the word that was read is the one at the front
taken_is : (plan : Planned) (word_of : ℕ → Word) (k glimit qbpp maxval x value : ℕ) (bits new rest : List Bool) → IsCode plan word_of k glimit qbpp maxval
    → TakesWord k glimit qbpp bits value new → (word_of x).value ≤ most_value (qbpp_of maxval)
    → bits ≡ code_word (word_of x).k (word_of x).glimit (qbpp_of maxval) (word_of x).value ++ rest → ((word_of x).value ≡ value) × (rest ≡ new)
taken_is plan word_of k glimit qbpp maxval x value bits new rest code took small e =
    same_word plan.k plan.glimit (qbpp_of maxval) bits (word_of x).value value rest new code.golomb
    (takes plan word_of k glimit qbpp maxval x bits rest code small e) (given plan word_of k glimit qbpp maxval (λ a b c. TakesWord a b c bits value new) code took)

pub only_taken : (plan : Planned) (word_of : ℕ → Word) (IsSample : ℕ → Type 0) (k glimit qbpp maxval x value found : ℕ) (bits new rest : List Bool)
    → IsCode plan word_of k glimit qbpp maxval → TakesWord k glimit qbpp bits value new → IsTheSample IsSample (λ one. (word_of one).value) value found
    → IsSample x → (word_of x).value ≤ most_value (qbpp_of maxval)
    → bits ≡ code_word (word_of x).k (word_of x).glimit (qbpp_of maxval) (word_of x).value ++ rest → (x ≡ found) × (rest ≡ new)
only_taken plan word_of IsSample k glimit qbpp maxval x value found bits new rest code took is here small e =
    let same = taken_is plan word_of k glimit qbpp maxval x value bits new rest code took small e in
    (is.only x here same.0, same.1)

pub no_sample_taken : (plan : Planned) (word_of : ℕ → Word) (IsSample : ℕ → Type 0) (k glimit qbpp maxval x value : ℕ) (bits new rest : List Bool)
    → IsCode plan word_of k glimit qbpp maxval → TakesWord k glimit qbpp bits value new → NoSample IsSample (λ one. (word_of one).value) value
    → IsSample x → (word_of x).value ≤ most_value (qbpp_of maxval)
    → bits ≡ code_word (word_of x).k (word_of x).glimit (qbpp_of maxval) (word_of x).value ++ rest → ⊥
no_sample_taken plan word_of IsSample k glimit qbpp maxval x value bits new rest code took none here small e =
    none x here (taken_is plan word_of k glimit qbpp maxval x value bits new rest code took small e).0

-- the bits begin with the word of the sample that has the value of the word that was read
pub sample_bits : (plan : Planned) (word_of : ℕ → Word) (IsSample : ℕ → Type 0) (k glimit qbpp maxval value found : ℕ) (bits new : List Bool)
    → IsCode plan word_of k glimit qbpp maxval → TakesWord k glimit qbpp bits value new → IsTheSample IsSample (λ one. (word_of one).value) value found
    → bits ≡ code_word (word_of found).k (word_of found).glimit (qbpp_of maxval) (word_of found).value ++ new
sample_bits plan word_of IsSample k glimit qbpp maxval value found bits new code took is =
    let word = given plan word_of k glimit qbpp maxval (λ a b c. TakesWord a b c bits value new) code took in
    word.word ∙ ap (λ n. code_word n plan.glimit (qbpp_of maxval) value ++ new) (sym (code.read_by found).same_k)
    ∙ ap (λ n. code_word (word_of found).k n (qbpp_of maxval) value ++ new) (sym (code.read_by found).same_limit)
    ∙ ap (λ n. code_word (word_of found).k (word_of found).glimit (qbpp_of maxval) n ++ new) (sym is.has_value)

-- a short word that surely stands for a sample
pub sure_takes : (p : Parameters) (k glimit value : ℕ) (bits rest : List Bool) → 0 < p.maxval → p.maxval ≤ 65535 → glimit ≡ limit_of p.maxval
    → value / 2 ^ k < sure_zeros p k → bits ≡ short_word k value ++ rest → TakesWord k glimit (qbpp_of p.maxval) bits value rest
sure_takes p k glimit value bits rest some most limit few e =
    let small : value + 1 < range_of p.maxval = small_by_zeros p value k few in
    let enough = (qbpp_are p.maxval some most).enough in
    short_word-taken k glimit (qbpp_of p.maxval) value bits rest
    (subst (λ n. value / 2 ^ k < escape_zeros n (qbpp_of p.maxval)) (sym limit) (omega (arith, few))) (omega (arith, small, enough)) e

pub regular_limit : (s : Coding) (n : Neighbours) → (regular_plan s n).glimit ≡ limit_of s.parameters.maxval
unfolding regular_plan_by
regular_limit s n = refl

pub limit_is : (s : Coding) (n : Neighbours) (p : Parameters) (limit : ℕ) (plan : Planned) → limit ≡ limit_of p.maxval → s.parameters ≡ p → plan ≡ regular_plan s n → limit ≡ plan.glimit
limit_is s n p limit plan is same plan_is =
    is ∙ ap (λ (q : Parameters). limit_of q.maxval) (sym same) ∙ sym (regular_limit s n) ∙ sym (ap (λ (x : Planned). x.glimit) plan_is)
