use Rattle.std.proofs.Common.{◌≡◌, ◌∷◌, ◌++◌, [], ◌∙◌, ap, arith, ℕ, List, replicate, append_assoc}
use Rattle.std.proofs.lemmas.List.{replicate_more}
use Rattle.mlp_syntax.specs.declared.segment.Code.{Code}
use Rattle.mlp_syntax.specs.declared.segment.FrameCode.{FrameCode}
use Rattle.mlp_encode.proofs.SentCodes.{no_codes}
use Rattle.mlp_encode.proofs.blocks.push_frames.Goals as goal

abbrev none : FrameCode
none = record { bypass = 0; codes = record { items = [] } }

abbrev with_items : List Code → FrameCode
with_items codes = record { bypass = 0; codes = record { items = codes } }

pub loop-i-preserved : goal.loop-i-preserved
loop-i-preserved c =
    c.push.ensures.items
    ∙ ap (λ (fs : List FrameCode). fs ++ with_items c.new.result.items ∷ []) c.loop-i.invariant
    ∙ ap (λ (cs : List Code). (c.args.codes.now.items ++ replicate c.loop-i._i none) ++ with_items cs ∷ []) c.new.ensures
    ∙ append_assoc c.args.codes.now.items (replicate c.loop-i._i none) (none ∷ [])
    ∙ ap (λ (fs : List FrameCode). c.args.codes.now.items ++ fs) (replicate_more c.loop-i._i none)

pub returns : goal.returns
returns c = λ frames e.
    let all : c.loop-i._i ≡ c.args.count = omega arith in
    c.loop-i.invariant
    ∙ ap (λ (k : ℕ). c.args.codes.now.items ++ replicate k none) all
    ∙ ap (λ (fs : List FrameCode). c.args.codes.now.items ++ fs) (no_codes frames c.args.count e)
