use Rattle.std.proofs.Common.{◌≡◌, ◌≤◌, ◌-◌, true, length}
use Rattle.mlp_layout.specs.Combined.{times, group, signed_of}
use Rattle.mlp_layout.proofs.Repeated.{Continues}
use Rattle.mlp_params.proofs.matrices.read_coefficients.Given as goal

abbrev pub invariant-loop : goal.invariant-loop
invariant-loop l = record {
  moved : l.fn.r.place ≤ l.r.place;
  so_far : Continues (group true (signed_of l.width)) (l.count - l.counter) l.coeffs.items l.r.all l.r.place ((times l.count (group true (signed_of l.width))).read l.fn.r.all l.fn.r.place);
  same_bits : l.r.all ≡ l.fn.r.all;
  count : length l.coeffs.items ≡ l.counter;
}
