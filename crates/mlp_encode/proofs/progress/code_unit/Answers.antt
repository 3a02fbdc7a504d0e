use Rattle.std.proofs.Common.{◌≡◌, ℕ, ◌-◌, ℤ, pos, List, ◌++◌, take, drop, map, length, replicate, sym, ap, ◌∙◌, arith}
use Rattle.std.proofs.lemmas.List.{length-append, length-take, length-drop, length-map, length-replicate, map-append}
use Rattle.std.proofs.Math.Seq.{take-append_seam}
use Rattle.std.proofs.lemmas.Slice.{take-put_mid}
use borrow.Rule.Slice.PartMut.{mid_of, post_of}
use Rattle.mlp_fold.specs.declared.coding.CodedFrame.{CodedFrame}
use Rattle.mlp_fold.specs.Mix.{coded_frame}
use Rattle.mlp_encode.specs.Numbers.{low_zeros}
use Rattle.mlp_encode.specs.Unit.{coded}
use Rattle.mlp_encode.proofs.progress.code_unit.Goals as goal

pub returns : goal.returns
returns c =
    let p = c.args.profile.now in
    let rows = c.args.rows.now in
    let n : ℕ = length rows in
    let f : List ℤ → CodedFrame = coded_frame p.mix (low_zeros p.depth) p.channels in
    let more : List (List ℤ) = replicate (c.args.count - n) (replicate 8 (pos 0)) in
    let cs = c.code_frames.new.out in
    let behind = post_of 0 n c.args.coding.now in
    let all : List CodedFrame = cs ++ behind in
    let long : length cs ≡ n = ap length c.code_frames.ensures.value ∙ length-map rows f in
    let rest : length behind ≡ 160 - n = omega (arith, length-drop n c.args.coding.now, c.told-coding) in
    let part : length (mid_of n (c.args.count - n) all) ≡ c.args.count - n =
    omega (arith, length-take (c.args.count - n) (drop n all), length-drop n all, length-append cs behind, long, rest, c.requires.few, c.requires.most) in
    let silent : c.code_silence.new.coding ≡ coded p more = c.code_silence.ensures ∙ ap (λ (k : ℕ). coded p (replicate k (replicate 8 (pos 0)))) part in
    let count : length c.code_silence.new.coding ≡ c.args.count - n = ap length silent ∙ length-map more f ∙ length-replicate (c.args.count - n) (replicate 8 (pos 0)) in
    take-put_mid n (c.args.count - n) (cs ++ behind) c.code_silence.new.coding c.args.count (omega (arith, count, c.requires.few)) (omega (arith, length-append cs behind, long))
    ∙ ap (λ (xs : List CodedFrame). xs ++ c.code_silence.new.coding) (ap (λ (k : ℕ). take k (cs ++ behind)) (sym long) ∙ take-append_seam cs behind)
    ∙ ap (λ (xs : List CodedFrame). xs ++ c.code_silence.new.coding) c.code_frames.ensures.value
    ∙ ap (λ (xs : List CodedFrame). map f rows ++ xs) silent
    ∙ sym (map-append f rows more)
    ∙ ap (λ (k : ℕ). coded p (rows ++ replicate (k - n) (replicate 8 (pos 0)))) c.requires.count
