use Rattle.std.proofs.Common.{◌≡◌, ◌+◌, ◌-◌, ◌*◌, ◌≤◌, drop, fold}
use Rattle.std.specs.List.{list_all}
use Rattle.ls_frame.specs.Netpbm.{is_digit, decimal_value}
use Rattle.ls_replay.proofs.steps_file.number_of.Given as goal

-- the value so far, continued by the remaining digits, is the word's; and all bytes before are digits
abbrev pub invariant-loop-byte : goal.invariant-loop-byte
invariant-loop-byte l = record {
  value : decimal_value l.word ≡ fold (λ m digit. 10 * m + (digit - 48)) l.value (drop l.byte-index l.word);
  digits : list_all is_digit l.word ≡ list_all is_digit (drop l.byte-index l.word);
  within : l.value ≤ l.most;
}
