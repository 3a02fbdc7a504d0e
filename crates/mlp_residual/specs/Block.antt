-- The residuals of a block.
use Rattle.std.specs.Prelude.{ℕ, ℤ, slice_index_or}
use Rattle.mlp_syntax.specs.declared.segment.Code.{Code}
use Rattle.mlp_syntax.specs.declared.segment.FrameCode.{FrameCode}
use Rattle.mlp_residual.specs.Coding.{residual_of}
use Rattle.mlp_residual.specs.declared.block.ResidualCoding.{ResidualCoding}

abbrev pub no_value : Code
no_value = record { symbol = 0; low = 0 }

-- the code of a channel in a frame, counted from the least one
abbrev pub code_in : ℕ → FrameCode → Code
code_in channel f = slice_index_or f.codes.items channel no_value

-- .. and its residual
abbrev pub residual_in : ResidualCoding → ℕ → FrameCode → ℤ
residual_in k channel f = residual_of k.book k.low k.offset k.step (code_in channel f)
