use Rattle.std.proofs.Common.{◌∙◌, ℕ, List, [], Option, length, map, sym, ap, subst}
use Rattle.std.specs.Prelude.{not}
use Rattle.mlp_syntax.specs.declared.params.ChannelParams.{ChannelParams}
use Rattle.mlp_syntax.specs.declared.segment.FrameCode.{FrameCode}
use Rattle.mlp_encode.specs.Blocks.{Force, channels_in, params_of}
use Rattle.mlp_encode.proofs.SentChannels.{codes_in_count}
use Rattle.mlp_layout.specs.Allowed.{Allowed}
use Rattle.mlp_params.specs.Parameters.{params}
use Rattle.mlp_encode.proofs.SentParams.{params_allowed}
use Rattle.mlp_encode.proofs.blocks.send_given.Goals as goal

pub put_params-requires-clause-params : goal.put_params-requires-clause-params
put_params-requires-clause-params c =
    let s = c.args.state.now in
    let empty = params_of c.args.substream c.args.profile.now c.args.restarts s (length c.args.frames.now) [] in
    let allowed = params_allowed c.args.substream c.args.profile.now c.args.restarts s c.args.pasts.now c.args.frames.now c.requires.sendable in
    let before : Force = record { state = s; pasts = c.args.pasts.now } in
    let given = c.send_channels.ensures.given
    ∙ ap (λ (steps : List ℕ). map (λ x. x.given) (channels_in c.args.substream before steps (not c.args.restarts) c.args.frames.now)) (c.deref.ensures.0 ∙ c.steps-steps.ensures) in
    subst (λ (given : List (Option ChannelParams)). Allowed (params s) (record empty { channels = record { items = given } })) (sym given) allowed

pub put_bypass-requires : goal.put_bypass-requires
put_bypass-requires c = ap (λ (cs : List FrameCode). length cs) c.send_channels.ensures.codes ∙ codes_in_count [] _ c.args.frames.now
