use Rattle.std.proofs.Common.{◌≡◌, ◌++◌, ℤ, List, length, drop, reverse, arith, ap, ◌∙◌}
use Rattle.std.proofs.lemmas.List.{take_at, length-reverse}
use Rattle.mlp_search.proofs.LineFits.{put_behind}
use Rattle.mlp_search.proofs.line.put_whole.Goals as goal

pub returns : goal.returns
returns c =
    let copied : List ℤ = c.copy_from_slice.new.self in
    let same : c.copy_from_slice.new.self ≡ c.args.outputs.now = c.copy_from_slice.ensures.after in
    let long : length c.copy_from_slice.new.self ≡ 8 = omega (arith, c.requires.eight, ap (λ (xs : List ℤ). length xs) same) in
    let seen = take_at c.copy_from_slice.new.self (drop 8 c.args.whole.now) 8 long in
    let turned : c.reverse.new.self ≡ reverse c.args.outputs.now = cc (c.reverse.ensures.after, seen, same) in
    let front : length c.reverse.new.self ≡ 8 = omega (arith, ap (λ (xs : List ℤ). length xs) turned, length-reverse c.args.outputs.now, c.requires.eight) in
    put_behind c.reverse.new.self (drop 8 (c.copy_from_slice.new.self ++ drop 8 c.args.whole.now)) c.copy_from_slice-2.new.self front
    ∙ ap (λ (xs : List ℤ). xs ++ c.copy_from_slice-2.new.self) turned
    ∙ ap (λ (xs : List ℤ). reverse c.args.outputs.now ++ xs) c.copy_from_slice-2.ensures.after
