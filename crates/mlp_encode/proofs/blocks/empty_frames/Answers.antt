use Rattle.std.proofs.Common.{◌≡◌, ◌∷◌, ◌++◌, [], ◌∙◌, ℕ, List, replicate, length, sym, ap, arith}
use Rattle.std.proofs.lemmas.List.{take_more_set, length-set, take_all, replicate_more}
use Rattle.mlp_syntax.specs.declared.segment.FrameCode.{FrameCode}
use Rattle.mlp_encode.proofs.blocks.empty_frames.Goals as goal

abbrev none : FrameCode
none = record { bypass = 0; codes = record { items = [] } }

pub loop-i-preserved : goal.loop-i-preserved
loop-i-preserved c =
    let i = c.loop-i.i in
    let fs = c.loop-i.frames in
    let x = c.empty_frame.new.frame in
    record {
      so_far = take_more_set fs i x (omega (arith, c.loop-i.invariant.count))
          ∙ ap (λ (gs : List FrameCode). gs ++ x ∷ []) c.loop-i.invariant.so_far
          ∙ ap (λ (f : FrameCode). replicate i none ++ f ∷ []) c.empty_frame.ensures
          ∙ replicate_more i none;
      count = length-set fs i x ∙ c.loop-i.invariant.count;
    }

pub returns : goal.returns
returns c =
    let all : c.loop-i.i ≡ length c.args.frames.now = omega arith in
    sym (take_all c.loop-i.i c.loop-i.frames (omega (arith, all, c.loop-i.invariant.count))) ∙ c.loop-i.invariant.so_far ∙ ap (λ (k : ℕ). replicate k none) all
