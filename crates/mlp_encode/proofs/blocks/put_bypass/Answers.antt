use Rattle.std.proofs.Common.{List, ap, ◌∙◌, sym}
use Rattle.mlp_syntax.specs.declared.segment.FrameCode.{FrameCode}
use Rattle.mlp_encode.specs.Pushed.{with_bits}
use Rattle.mlp_encode.proofs.SentCodes.{bits_put, bits_absent}
use Rattle.mlp_encode.proofs.blocks.put_bypass.Goals as goal

pub returns-then-has_bypass : goal.returns-then-has_bypass
returns-then-has_bypass c = λ channels e.
    c.put_bits.ensures ∙ ap (λ (fs : List FrameCode). with_bits c.args.frames.now fs) e
    ∙ bits_put c.args.rows.now channels c.args.frames.now (sym c.has_bypass.ensures ∙ c.if-has_bypass.true)

pub returns-else-has_bypass : goal.returns-else-has_bypass
returns-else-has_bypass c = λ channels e. e ∙ bits_absent c.args.rows.now channels c.args.frames.now (sym c.has_bypass.ensures ∙ c.if-has_bypass.false)
