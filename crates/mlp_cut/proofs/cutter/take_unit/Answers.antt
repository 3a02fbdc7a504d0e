use Rattle.std.proofs.Common.{◌≡◌, ℕ, take, Ok, Err, refl, sym, ap, ◌∙◌, arith}
use Rattle.mlp_stream.specs.declared.refusal.Refusal.{Refusal}
use Rattle.mlp_stream.specs.Moves.{moved}
use Rattle.mlp_substream.proofs.CheckLaws.{AreBytes}
use Rattle.mlp_cut.specs.Cutting.{cut_out}
use Rattle.mlp_cut.specs.Cutter.{held_with}
use Rattle.mlp_cut.proofs.CutterSteps.{cut_takes, cut_refuses, cut_declines}
use Rattle.mlp_cut.proofs.cutter.take_unit.Goals as goal

pub returns-in-Err-put_piece-clause-unit : goal.returns-in-Err-put_piece-clause-unit
returns-in-Err-put_piece-clause-unit c =
    let bytes = c.args.next.now in
    let small : AreBytes bytes = λ i. omega (arith, c.type_inv.next i) in
    let out : cut_out c.args.first c.args.count c.args.outliner.now.units c.in-Ok.outer.major (take c.in-Ok.size bytes) ≡ Err c.in-Err-put_piece.refusal =
    ap (λ (n : ℕ). cut_out c.args.first c.args.count n c.in-Ok.outer.major (take c.in-Ok.size bytes)) (sym c.units-number.ensures) ∙ c.in-Err-put_piece.ensures.piece in
    cut_refuses c.args.first c.args.count c.args.outliner.now c.unit.new.self bytes (c.in-Ok.size, c.in-Ok.outer) small c.in-Ok.ensures.unit c.in-Err-put_piece.refusal out

pub returns-in-Ok-put_piece-clause-unit : goal.returns-in-Ok-put_piece-clause-unit
returns-in-Ok-put_piece-clause-unit c =
    let bytes = c.args.next.now in
    let small : AreBytes bytes = λ i. omega (arith, c.type_inv.next i) in
    let out : cut_out c.args.first c.args.count c.args.outliner.now.units c.in-Ok.outer.major (take c.in-Ok.size bytes) ≡ Ok c.put_piece.new.out.items =
    ap (λ (n : ℕ). cut_out c.args.first c.args.count n c.in-Ok.outer.major (take c.in-Ok.size bytes)) (sym c.units-number.ensures) ∙ c.in-Ok-put_piece.ensures.piece in
    cut_takes c.args.first c.args.count c.args.outliner.now c.unit.new.self bytes (c.in-Ok.size, c.in-Ok.outer) small c.in-Ok.ensures.unit c.put_piece.new.out.items c.unit.ensures.held out

pub returns-in-Err-clause-unit : goal.returns-in-Err-clause-unit
returns-in-Err-clause-unit c =
    cut_declines (held_with c.args.first c.args.count c.args.outliner.now) c.args.next.now c.in-Err.declined refl c.in-Err.ensures.unit
    ∙ ap (λ (r : Refusal). moved (Err r) c.clear.new.self.items (held_with c.args.first c.args.count c.unit.new.self)) (sym c.refusal_of.ensures)
