use Rattle.std.proofs.Common.{◌≡◌, ◌+◌, ◌*◌, ◌^◌, ◌<◌, take}
use Rattle.std.specs.Str.Parse.{digits_value_after}
use Rattle.exact_money.proofs.millionths.value_after.Given as goal

abbrev pub invariant-loop-digit : goal.invariant-loop-digit
invariant-loop-digit l = record {
  value_is : l.value ≡ digits_value_after 10 l.n (take l.digit-index l.digits);
  bound : l.value < (l.n + 1) * 10 ^ l.digit-index;
}
