use Rattle.std.proofs.Common.{◌≡◌, ◌∙◌, [], ℕ, List, replicate, length, sym, ap}
use Rattle.std.proofs.lemmas.List.{length-replicate}
use Rattle.mlp_syntax.specs.declared.segment.FrameCode.{FrameCode}
use Rattle.mlp_residual.proofs.FrameLaws.{written_back}
use Rattle.mlp_encode.proofs.SentCodes.{no_codes}
use Rattle.mlp_encode.proofs.blocks.renew_frames.Goals as goal

abbrev none : FrameCode
none = record { bypass = 0; codes = record { items = [] } }

pub returns-then-len-count : goal.returns-then-len-count
returns-then-len-count c = λ frames e.
    let xs : List FrameCode = c.args.codes.now.items in
    let ys : List FrameCode = c.empty_frames.new.frames in
    let n : length xs ≡ c.args.count = sym c.len.ensures.value ∙ c.if-len-count.true in
    let made : ys ≡ replicate c.args.count none = c.empty_frames.ensures ∙ ap (λ (k : ℕ). replicate k none) (ap length c.as_mut_slice.ensures.value ∙ n) in
    let count : length ys ≡ length xs = ap length made ∙ length-replicate c.args.count none ∙ sym n in
    written_back xs ys count ∙ made ∙ no_codes frames c.args.count e
