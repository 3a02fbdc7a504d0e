use Rattle.std.proofs.Common.{◌≡◌, take, drop, map, bit_xor}
use Rattle.mlp_output.specs.Output.{samples_of, placed, check_of}
use Rattle.mlp_output.specs.Frames.{check_of_sums}
use Rattle.mlp_output.proofs.samples.put_all.Given as goal

abbrev pub invariant-loop-i : goal.invariant-loop-i
invariant-loop-i l =
    (take l.i l.rows ≡ map (placed l.assign) (map (samples_of l.shifts) (take l.i l.frames)))
    × (check_of (bit_xor l.check (check_of_sums 0 l.sums)) (map (samples_of l.shifts) (drop l.i l.frames)) ≡ check_of l.check (map (samples_of l.shifts) l.frames))
