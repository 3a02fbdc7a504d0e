use Rattle.std.proofs.Common.{◌≡◌, All, take}
use Rattle.arrayvec.specs.ArrayVec.{array_vec_len}
use Rattle.mlp_residual.proofs.frames.make_room_in_all.Given as goal

abbrev pub invariant-loop-i : goal.invariant-loop-i
invariant-loop-i l = All (λ frame. array_vec_len frame.codes ≡ l.count) (take l.i l.frames)
