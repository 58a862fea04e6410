use Rattle.std.proofs.Common.{◌≡◌, ℕ, ℤ, pos, ap, List, replicate, refl, ◌∙◌, arith, rules}
use Rattle.std.proofs.lemmas.List.{get_or-replicate}
use Rattle.ls_frame.specs.Parameters.{IsLegal}
use Rattle.ls_coding.specs.Numbers.{golomb_parameter}
use Rattle.ls_coding.specs.Stats.{first_a}
use Rattle.ls_coding.proofs.FieldLemmas.{AllAre, first_at, first_counts_at, first_sound, first_few, parameters_first}
use Rattle.ls_coding.proofs.counters.Counters.new.Goals as goal

sums : (c : goal.After-golomb_parameter) → List ℕ
sums c = replicate 367 c.first_a-first.result

all_sums : (c : goal.After-golomb_parameter) → AllAre (sums c) 367 0 (first_a c.args.presets)
unfolding sums
all_sums c i h = get_or-replicate 367 i c.first_a-first.result 0 h ∙ c.first_a-first.ensures

ones : List ℕ
ones = replicate 367 1

all_ones : AllAre ones 367 0 1
unfolding ones
all_ones i h = get_or-replicate 367 i 1 0 h

none : List ℤ
none = replicate 365 (pos 0)

all_none : AllAre none 365 (pos 0) (pos 0)
unfolding none
all_none i h = get_or-replicate 365 i (pos 0) (pos 0) h

two : List ℕ
two = replicate 2 0

all_two : AllAre two 2 0 0
unfolding two
all_two i h = get_or-replicate 2 i 0 0 h

legal : (c : goal.After-golomb_parameter) → IsLegal c.args.presets
legal c = search rules

parameters : (c : goal.After-golomb_parameter) → List ℕ
parameters c = replicate 365 c.golomb_parameter.result

all_parameters : (c : goal.After-golomb_parameter) → AllAre (parameters c) 365 0 c.golomb_parameter.result
unfolding parameters
all_parameters c i h = get_or-replicate 365 i c.golomb_parameter.result 0 h

first_parameter : (c : goal.After-golomb_parameter) → c.golomb_parameter.result ≡ golomb_parameter 1 (first_a c.args.presets)
first_parameter c = c.golomb_parameter.ensures ∙ ap (golomb_parameter 1) c.first_a-first.ensures

pub golomb_parameter-requires-clause-few : goal.golomb_parameter-requires-clause-few
golomb_parameter-requires-clause-few c = let legal : IsLegal c.args.presets = search rules in rw c.first_a-first.ensures (first_few c.args.presets legal).0

pub golomb_parameter-requires-clause-sum : goal.golomb_parameter-requires-clause-sum
golomb_parameter-requires-clause-sum c = let legal : IsLegal c.args.presets = search rules in rw c.first_a-first.ensures (first_few c.args.presets legal).1

pub returns : goal.returns
unfolding sums ones none two parameters
returns c = record {
  contexts = first_at (sums c) ones none none c.args.presets (all_sums c) all_none all_none all_ones;
  ri_type_0 = first_counts_at (sums c) ones two c.args.presets 0 (all_sums c) all_ones all_two (omega arith);
  ri_type_1 = first_counts_at (sums c) ones two c.args.presets 1 (all_sums c) all_ones all_two (omega arith);
  parameters = refl;
  sound = record { legal = legal c; limit_is = search rules; all = first_sound (sums c) ones two none none c.args.presets (legal c) (all_sums c) all_none all_none all_ones all_two; parameters = parameters_first (parameters c) ones (sums c) c.args.presets c.golomb_parameter.result (all_parameters c) all_ones (all_sums c) (first_parameter c) };
}
