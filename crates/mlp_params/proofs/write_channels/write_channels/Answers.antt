use Rattle.std.proofs.Common.{Option, sym, subst, arith}
use Rattle.std.specs.Prelude.{IfSome}
use Rattle.mlp_syntax.specs.declared.params.ChannelParams.{ChannelParams}
use Rattle.mlp_params.specs.Groups.{ChannelParts}
use Rattle.std.proofs.lemmas.Result.{err_from_is_err_and}
use Rattle.mlp_layout.proofs.WritingLaws.{so_far_begins, writes_as}
use Rattle.mlp_params.specs.InForce.{restarted_channel}
use Rattle.mlp_layout.proofs.WritingLoops.{text, text_goes_on, text_stops, text_done}
use Rattle.mlp_params.proofs.WritingChannels.{any_channel, channels_text}
use Rattle.mlp_params.proofs.write_channels.write_channels.Goals as goal

pub loop-parameters-init : goal.loop-parameters-init
loop-parameters-init c = so_far_begins c.args.w.now (text (any_channel c.args.flags) c.args.channels.now) c.place-place.ensures.small

pub write_given-requires : goal.write_given-requires
write_given-requires c =
    let P : Option ChannelParams → Type 0 = λ o. IfSome o (λ g. ChannelParts c.args.flags g) in
    subst P (sym c.parameters-item.is) (c.requires c.loop-parameters.parameters-index c.parameters-item.result c.loop-parameters-test.true)

pub returns-in_err-write_given : goal.returns-in_err-write_given
returns-in_err-write_given c = λ ss count.
    let p = err_from_is_err_and c.from_residual.result c.from_residual.ensures.1 in
    let h = c.in_err-write_given.ensures restarted_channel in
    rw p.1 (writes_as (channels_text c.args.flags ss c.args.channels.now count) (record {
      ok = tt;
      err = text_stops (any_channel c.args.flags) c.args.channels.now c.loop-parameters.parameters-index c.parameters-item.result
          c.loop-parameters-test.true c.parameters-item.is c.args.w.now c.loop-parameters.w c.loop-parameters.invariant c.write_given.new.w h.err;
    }))

pub loop-parameters-preserved : goal.loop-parameters-preserved
loop-parameters-preserved c =
    let h = c.in_ok-write_given.ensures restarted_channel in
    text_goes_on (any_channel c.args.flags) c.args.channels.now c.loop-parameters.parameters-index c.parameters-item.result c.loop-parameters-test.true c.parameters-item.is c.args.w.now c.loop-parameters.w
    c.loop-parameters.invariant c.write_given.new.w h.ok

pub returns : goal.returns
returns c = λ ss count. writes_as (channels_text c.args.flags ss c.args.channels.now count) (record {
  ok = text_done (any_channel c.args.flags) c.args.channels.now c.loop-parameters.parameters-index c.args.w.now
      c.loop-parameters.w (omega arith) c.loop-parameters.invariant;
  err = tt;
})
