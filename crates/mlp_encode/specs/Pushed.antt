-- What is put into frames: codes behind those that they have, and bypassed bits.
use Rattle.std.specs.Prelude.{List, [], ◌∷◌, ◌++◌}
use Rattle.mlp_syntax.specs.declared.segment.Code.{Code}
use Rattle.mlp_syntax.specs.declared.segment.FrameCode.{FrameCode}
use Rattle.mlp_fold.specs.declared.coding.CodedFrame.{CodedFrame}

abbrev pub with_code : Code → FrameCode → FrameCode
with_code code f = record f { codes = record { items = f.codes.items ++ code ∷ [] } }

-- one for each frame
abbrev pub with_codes : List Code → List FrameCode → List FrameCode
with_codes [] frames = frames
with_codes (code ∷ codes) [] = []
with_codes (code ∷ codes) (f ∷ frames) = with_code code f ∷ with_codes codes frames

-- the bits of each frame
abbrev pub with_bits : List CodedFrame → List FrameCode → List FrameCode
with_bits [] frames = frames
with_bits (x ∷ coded) [] = []
with_bits (x ∷ coded) (f ∷ frames) = record f { bypass = x.bypass } ∷ with_bits coded frames
