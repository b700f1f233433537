use Rattle.std.proofs.Common.{◌≡◌, ◌<◌, ◌^◌, take, true}
use Rattle.std.specs.List.{list_all}
use Rattle.text_lines.specs.Values.{is_digit, number_of}
use Rattle.text_lines.proofs.numbers.read_digits.Given as goal

abbrev pub invariant-loop-digit : goal.invariant-loop-digit
invariant-loop-digit l = record {
  digits : list_all is_digit (take l.digit-index l.digits) ≡ true;
  within : l.value < 10 ^ l.digit-index;
  is : l.value ≡ number_of (take l.digit-index l.digits);
}
