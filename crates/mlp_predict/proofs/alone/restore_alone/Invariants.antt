use Rattle.std.proofs.Common.{◌≡◌, ◌+◌, ◌*◌, reverse}
use Rattle.mlp_predict.specs.Lines.{finished}
use Rattle.mlp_predict.proofs.AloneLaws.{fir_alone}
use Rattle.mlp_predict.proofs.alone.restore_alone.Given as goal

abbrev pub invariant-loop-i : goal.invariant-loop-i
invariant-loop-i g l =
    finished (fir_alone (reverse l.fir) l.shift) l.step (16 + l.i * 4) l.outputs
    ≡ finished (fir_alone (reverse l.fir) l.shift) l.step 16 l.initial.outputs
