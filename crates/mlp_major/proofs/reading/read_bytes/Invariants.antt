use Rattle.std.proofs.Common.{◌≡◌, ◌≤◌, ◌+◌, ◌-◌, ◌∷◌, [], length}
use Rattle.mlp_layout.specs.Reading.{with_front}
use Rattle.mlp_layout.specs.Layout.{number_of}
use Rattle.mlp_layout.specs.Combined.{times}
use Rattle.mlp_layout.proofs.Repeated.{Continues}
use Rattle.mlp_major.proofs.reading.read_bytes.Given as goal

abbrev pub invariant-loop : goal.invariant-loop
invariant-loop l = record {
  moved : l.fn.r.place ≤ l.r.place;
  so_far : Continues (number_of 8) (l.count - l.counter) l.bytes.items l.r.all l.r.place (with_front (l.first ∷ []) ((times l.count (number_of 8)).read l.fn.r.all l.fn.r.place));
  same_bits : l.r.all ≡ l.fn.r.all;
  count : length l.bytes.items ≡ l.counter + 1;
}
