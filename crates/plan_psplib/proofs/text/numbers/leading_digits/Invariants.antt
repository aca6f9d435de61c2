use Rattle.std.proofs.Common.{◌≡◌, ◌<◌, ◌^◌, true, take}
use Rattle.std.specs.List.{list_all}
use Rattle.plan_psplib.specs.Numbers.{decimal, is_digit}
use Rattle.plan_psplib.proofs.text.numbers.leading_digits.Given as goal

-- the bytes so far are digits, their value, and a bound on it by their number
abbrev pub invariant-loop-count : goal.invariant-loop-count
invariant-loop-count l = record {
  digits : list_all is_digit (take l.count l.text) ≡ true;
  read : l.value ≡ decimal (take l.count l.text);
  bounded : l.value < 10 ^ l.count;
}
