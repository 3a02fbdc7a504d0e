use Rattle.std.proofs.Common.{◌+◌, ◌-◌, ◌++◌, ◌∙◌, ap, set, take, arith, rules, w32}
use mir.Val.{SFits}
use Rattle.std.proofs.lemmas.Int.{to_z-of_z}
use Rattle.std.proofs.lemmas.List.{length-set}
use Rattle.mlp_pcm.specs.Samples.{sample_in, pieces}
use Rattle.mlp_pcm.proofs.Pieces.{left_more, row_more, zero_more, row_whole}
use Rattle.mlp_pcm.proofs.samples.row.Goals as goal

pub loop-channel-preserved : goal.loop-channel-preserved
loop-channel-preserved c =
    let v = c.loop-channel.invariant in
    let w = c.args.width in
    let n = c.args.channels in
    let i = c.loop-channel.channel in
    let row = c.loop-channel.row in
    let rest = c.loop-channel.rest.now in
    let e = c.behind-rest.ensures in
    let f : SFits w32 c.sample.result = search rules in
    let x = to_z-of_z w32 c.sample.result f ∙ c.sample.ensures in
    record {
      enough = left_more w n i rest _ c.loop-channel-test.true e v.enough;
      done = ap (λ y. take (i + 1) (set row i y) ++ pieces (sample_in w) w (n - (i + 1)) c.behind-rest.result.now) x
          ∙ row_more (sample_in w) w n i row rest _ _ c.loop-channel-test.true (omega (arith, v.eight, c.requires.channels)) e v.done;
      eight = length-set row i _ ∙ v.eight;
      rest_zero = zero_more i row _ (omega (arith, c.requires.channels)) v.rest_zero;
    }

pub returns : goal.returns
returns c =
    let v = c.loop-channel.invariant in
    row_whole (sample_in c.args.width) c.args.width c.args.channels c.loop-channel.channel c.loop-channel.row c.loop-channel.rest.now _ (omega arith) v.done v.rest_zero
