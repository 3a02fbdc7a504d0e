-- Pasts of which those in the middle are replaced.
use Rattle.std.proofs.Common.{◌≡◌, ℕ, ◌+◌, ◌-◌, ◌<◌, ◌≤◌, List, ◌++◌, length, take, drop, get_or, sym, ap, ◌∙◌, arith, append_assoc}
use Rattle.std.proofs.Math.ListN.{get_or-append}
use Rattle.std.proofs.lemmas.List.{length-append, length-take-le, get_or-append-add, get_or-drop, get_or-take}
use Rattle.mlp_predict.specs.Prediction.{Past, zeros}
use Rattle.mlp_channels.specs.Playing.{past_of_channel}

-- those before them stay
pub replaced_below : (ps mid : List Past) (a b c : ℕ) → a ≤ length ps → c < a → past_of_channel (take a ps ++ mid ++ drop b ps) c ≡ past_of_channel ps c
replaced_below ps mid a b c le lt =
    let n = length-take-le a ps le in
    ap (λ (xs : List Past). get_or xs c (zeros 8 4)) (append_assoc (take a ps) mid (drop b ps))
    ∙ get_or-append (take a ps) (mid ++ drop b ps) (zeros 8 4) c (omega (arith, n, lt))
    ∙ get_or-take a ps c (zeros 8 4) lt

-- .. and those behind them
pub replaced_above : (ps mid : List Past) (a b c : ℕ) → a ≤ length ps → a + length mid ≡ b → b ≤ c → past_of_channel (take a ps ++ mid ++ drop b ps) c ≡ past_of_channel ps c
replaced_above ps mid a b c le e lt =
    let both : List Past = take a ps ++ mid in
    let i : ℕ = c - b in
    let n = length-take-le a ps le in
    let u = length-append (take a ps) mid in
    let at : length (take a ps ++ mid) + i ≡ c = omega (arith, n, u, e, lt) in
    let back : b + i ≡ c = omega (arith, lt) in
    ap (λ (k : ℕ). get_or ((take a ps ++ mid) ++ drop b ps) k (zeros 8 4)) (sym at)
    ∙ get_or-append-add (take a ps ++ mid) (drop b ps) i (zeros 8 4)
    ∙ get_or-drop b ps i (zeros 8 4)
    ∙ ap (λ (k : ℕ). get_or ps k (zeros 8 4)) back
