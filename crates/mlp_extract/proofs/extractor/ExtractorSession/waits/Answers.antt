use Rattle.std.proofs.Common.{◌≡◌, ◌↔◌, Bool, false, IsTrue, sym, subst}
use Rattle.mlp_stream.specs.Moves.{Waits}
use Rattle.mlp_present.specs.Decoding.{waits}
use Rattle.mlp_extract.specs.Extractor.{extract_step}
use Rattle.mlp_extract.proofs.ExtractSteps.{extract_waits}
use Rattle.mlp_extract.proofs.extractor.ExtractorSession.waits.Goals as goal

pub returns : goal.returns
returns c =
    let same : c.waits.result ≡ waits c.args.self.now c.args.next.now = cc in
    subst (λ (b : Bool). IsTrue b ↔ (extract_step c.args.self.now false c.args.next.now ≡ Waits)) (sym same) (extract_waits c.args.self.now c.args.next.now)
