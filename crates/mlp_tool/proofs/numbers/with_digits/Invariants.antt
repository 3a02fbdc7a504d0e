use Rattle.std.proofs.Common.{◌≡◌, ◌≤◌, drop}
use Rattle.mlp_io.specs.Limit.{limit}
use Rattle.mlp_tool.specs.Numbers.{with_digits}
use Rattle.mlp_tool.proofs.numbers.with_digits.Given as goal

abbrev pub invariant-loop-digit : goal.invariant-loop-digit
invariant-loop-digit l = record {
  small : l.number ≤ limit;
  rest : with_digits l.number (drop l.digit-index l.digits) ≡ with_digits 0 l.digits;
}
