use Rattle.std.proofs.Common.{◌≡◌, ◌+◌, ◌-◌, ◌<◌, ◌∙◌, ℕ, pos, List, get_or, drop, refl, sym, ap, subst, arith}
use Rattle.std.specs.Prelude.{All}
use Rattle.std.proofs.Math.ListN.{set}
use Rattle.std.proofs.lemmas.List.{length-set, drop-set-lt, drop-drop}
use Rattle.std.proofs.lemmas.List.Elements.{All-drop}
use Rattle.arrayvec.specs.ArrayVec.{array_vec_len}
use Rattle.mlp_syntax.specs.declared.segment.FrameCode.{FrameCode}
use Rattle.mlp_encode.specs.Coding.{code_by}
use Rattle.mlp_encode.specs.Pushed.{with_code}
use Rattle.mlp_encode.proofs.CodingLaws.{codes_more}
use Rattle.mlp_encode.proofs.coding.push_residuals.Goals as goal

-- what holds of all frames from one on holds of those behind it
room_more : (P : FrameCode → Type 0) (fs : List FrameCode) (i : ℕ) (x : FrameCode) → All P (drop i fs) → All P (drop (i + 1) (set fs i x))
room_more P fs i x h =
    let later : drop (i + 1) (set fs i x) ≡ drop 1 (drop i fs) = drop-set-lt (i + 1) fs i x (omega arith) ∙ sym (drop-drop 1 i fs) in
    subst (λ (gs : List FrameCode). All P gs) (sym later) (All-drop P 1 (drop i fs) h)

pub loop-i-preserved : goal.loop-i-preserved
loop-i-preserved c =
    let inv = c.loop-i.invariant in
    let k = c.args.choice.now in
    let i = c.loop-i.i in
    let fs = c.loop-i.frames in
    let rs = c.args.residuals.now in
    let x = c.push_residual.new.frame in
    record {
      whole = codes_more (code_by c.args.book (k.low - c.args.step) k.offset c.args.step) rs fs _ i x (get_or rs i (pos 0)) (pos 0) c.index-frames-i.result
          (omega (arith, c.requires.count)) (omega (arith, inv.count)) refl c.index-frames-i.is
          (c.push_residual.ensures ∙ ap (λ (f : FrameCode). with_code (code_by c.args.book (k.low - c.args.step) k.offset c.args.step (get_or rs i (pos 0))) f) (sym c.index-frames-i.is))
          inv.whole;
      room = room_more (λ f. array_vec_len f.codes < 8) fs i x inv.room;
      count = length-set fs i x ∙ inv.count;
    }
