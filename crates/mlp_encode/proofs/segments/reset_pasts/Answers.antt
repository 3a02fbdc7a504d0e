use Rattle.std.proofs.Common.{◌≡◌, ◌-◌, ◌+◌, ◌<◌, ◌≤◌, ◌++◌, ◌∙◌, ℕ, List, take, drop, map, length, refl, sym, ap, arith}
use Rattle.std.specs.List.{range_with_len}
use Rattle.std.proofs.Math.ListN.{set}
use Rattle.std.proofs.lemmas.List.{length-set, append-nil, take-append-drop}
use Rattle.mlp_predict.specs.Prediction.{Past, zeros}
use Rattle.mlp_fold.specs.Substreams.{first_channel, last_channel}
use Rattle.mlp_encode.proofs.Lists.{range_put}
use Rattle.mlp_encode.proofs.SentChannels.{last_most, first_last}
use Rattle.mlp_encode.proofs.segments.reset_pasts.Goals as goal

-- the channels from one up to another are zeros
abbrev reset_to : ℕ → List Past → ℕ → List Past
reset_to first old k = (take first old ++ map (λ (c : ℕ). zeros 8 4) (range_with_len first (k - first))) ++ drop k old

none_reset : (first : ℕ) (old : List Past) → reset_to first old first ≡ old
none_reset first old =
    let z : first - first ≡ 0 = omega arith in
    ap (λ (m : ℕ). (take first old ++ map (λ (c : ℕ). zeros 8 4) (range_with_len first m)) ++ drop first old) z
    ∙ ap (λ (ps : List Past). ps ++ drop first old) (append-nil (take first old))
    ∙ take-append-drop first old

pub loop-channel-init : goal.loop-channel-init
loop-channel-init c = record {
  pasts = sym (ap (λ (k : ℕ). reset_to (first_channel c.args.substream) c.args.pasts.now k) (c.from-first.ensures ∙ c.first_channel.ensures) ∙ none_reset (first_channel c.args.substream) c.args.pasts.now);
  count = refl;
}

pub loop-channel-preserved : goal.loop-channel-preserved
loop-channel-preserved c =
    let first = first_channel c.args.substream in
    let old = c.args.pasts.now in
    let now = c.loop-channel.pasts in
    let k = c.loop-channel.channel in
    let most = last_most c.args.substream in
    let from : first ≤ k = omega (arith, c.loop-channel.auto.channel, c.from-first.ensures, c.first_channel.ensures) in
    let below : k < length old = omega (arith, c.told-pasts, c.loop-channel.invariant.count, most, c.loop-channel-test.true, c.from-end.ensures, c.last_channel.ensures) in
    record {
      pasts = ap (λ (p : Past). set now k p) c.reset.ensures ∙ range_put old now (λ (c : ℕ). zeros 8 4) first k (zeros 8 4) from below c.loop-channel.invariant.pasts;
      count = length-set now k c.reset.new.self ∙ c.loop-channel.invariant.count;
    }

pub returns : goal.returns
returns c =
    let j = c.args.substream in
    let first = first_channel j in
    let old = c.args.pasts.now in
    let le = first_last j c.requires in
    let end : c.loop-channel.channel ≡ last_channel j + 1 = omega (arith, c.loop-channel-test.false, c.loop-channel.auto.channel-end, c.from-end.ensures, c.last_channel.ensures, c.from-first.ensures, c.first_channel.ensures, le) in
    let n : last_channel j + 1 - first ≡ last_channel j - first + 1 = omega (arith, le) in
    c.loop-channel.invariant.pasts ∙ ap (λ (k : ℕ). reset_to first old k) end
    ∙ ap (λ (m : ℕ). (take first old ++ map (λ (c : ℕ). zeros 8 4) (range_with_len first m)) ++ drop (last_channel j + 1) old) n
