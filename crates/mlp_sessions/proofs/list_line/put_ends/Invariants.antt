use Rattle.std.proofs.Common.{◌≡◌, ◌+◌, ◌*◌, ◌≤◌, ◌++◌, length, take}
use Rattle.mlp_sessions.specs.ListLine.{ends_text}
use Rattle.mlp_sessions.proofs.list_line.put_ends.Given as goal

abbrev pub invariant-loop-entry : goal.invariant-loop-entry
invariant-loop-entry l = record {
  text : l.out.items ≡ l.fn.out.items ++ ends_text (take l.entry-index l.entries);
  short : length l.out.items ≤ length l.fn.out.items + 21 * l.entry-index;
}
