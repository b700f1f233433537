use Rattle.std.proofs.Common.{◌≡◌, ◌<◌, ◌^◌, take}
use Rattle.text_lines.specs.Values.{number_of}
use Rattle.text_lines.proofs.numbers.number_of.Given as goal

abbrev pub invariant-loop-digit : goal.invariant-loop-digit
invariant-loop-digit l = record {
  within : l.number < 10 ^ l.digit-index;
  is : l.number ≡ number_of (take l.digit-index l.word);
}
