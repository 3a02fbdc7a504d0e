use Rattle.std.proofs.Common.{◌≡◌, ℕ, ◌<◌, take, map, bit_xor, sym, ap, ◌∙◌, arith}
use Rattle.std.specs.Prelude.{if◌then◌else◌}
use Rattle.mlp_output.specs.Output.{check_of}
use Rattle.mlp_output.proofs.Sums.{part}
use Rattle.mlp_fold.specs.Mix.{channels_of, presented_of}
use Rattle.mlp_encode.specs.Numbers.{low_zeros}
use Rattle.mlp_encode.proofs.ChannelChecks.{none_taken, channel_more, channels_most, eight_places, checks_same}
use Rattle.mlp_encode.proofs.unit.check_behind.Goals as goal

pub loop-c-init : goal.loop-c-init
loop-c-init c =
    let p = c.args.profile.now in
    let q : ℕ = low_zeros p.depth in
    let begun : ℕ = if c.args.sync then 0 else c.args.running in
    c.check_before-check.ensures ∙ sym (none_taken (presented_of p.mix q p.channels c.args.k) (eight_places p.mix q p.channels c.args.k) begun c.args.frames.now)

pub loop-c-preserved : goal.loop-c-preserved
loop-c-preserved c =
    let p = c.args.profile.now in
    let q : ℕ = low_zeros p.depth in
    let i : ℕ = c.loop-c.c in
    let begun : ℕ = if c.args.sync then 0 else c.args.running in
    let few : i < 8 = omega (arith, c.loop-c-test.true, c.channels_of-c-end.ensures, channels_most c.args.k) in
    ap (λ (n : ℕ). bit_xor n c.part_of-check.result) c.loop-c.invariant
    ∙ ap (bit_xor (check_of begun (map (λ x. take i (presented_of p.mix q p.channels c.args.k x)) c.args.frames.now))) (c.part_of-check.ensures ∙ ap (part i) c.sum_presented-sum.ensures)
    ∙ channel_more (presented_of p.mix q p.channels c.args.k) (eight_places p.mix q p.channels c.args.k) i begun c.args.frames.now few

pub returns : goal.returns
returns c =
    let p = c.args.profile.now in
    let q : ℕ = low_zeros p.depth in
    let k : ℕ = c.args.k in
    let begun : ℕ = if c.args.sync then 0 else c.args.running in
    let all : c.loop-c.c ≡ channels_of k = omega (arith, c.loop-c-test.false, c.loop-c.auto.c-end, c.channels_of-c-end.ensures) in
    c.loop-c.invariant
    ∙ ap (λ (n : ℕ). check_of begun (map (λ x. take n (presented_of p.mix q p.channels k x)) c.args.frames.now)) all
    ∙ checks_same p.mix q p.channels k begun c.args.frames.now
