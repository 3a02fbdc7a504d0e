use Rattle.std.proofs.Common.{◌≡◌}
use Rattle.mlp_encode.proofs.SentUnits.{Sending}
use Rattle.mlp_encode.proofs.unit.send_substreams.Given as goal

abbrev pub invariant-loop-j : goal.invariant-loop-j
invariant-loop-j l = record {
  sent : Sending l.profile l.unit l.checks l.frames l.terminator l.initial.sending l.initial.pasts l.j l.sending l.pasts l.out.entries.items l.out.bytes.items;
  same : l.writing ≡ l.sending;
}
