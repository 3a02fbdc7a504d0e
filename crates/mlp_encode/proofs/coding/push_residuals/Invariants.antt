use Rattle.std.proofs.Common.{◌≡◌, ◌++◌, ◌-◌, ◌<◌, take, drop, map, length}
use Rattle.std.specs.Prelude.{All}
use Rattle.arrayvec.specs.ArrayVec.{array_vec_len}
use Rattle.mlp_encode.specs.Coding.{code_by}
use Rattle.mlp_encode.specs.Pushed.{with_codes}
use Rattle.mlp_encode.proofs.coding.push_residuals.Given as goal

-- the frames so far, and what putting the other codes behind those of the others gives
abbrev pub invariant-loop-i : goal.invariant-loop-i
invariant-loop-i l = record {
  whole : take l.i l.frames ++ with_codes (map (code_by l.book (l.choice.low - l.step) l.choice.offset l.step) (drop l.i l.residuals)) (drop l.i l.frames)
      ≡ with_codes (map (code_by l.book (l.choice.low - l.step) l.choice.offset l.step) l.residuals) l.initial.frames;
  room : All (λ f. array_vec_len f.codes < 8) (drop l.i l.frames);
  count : length l.frames ≡ length l.initial.frames;
}
