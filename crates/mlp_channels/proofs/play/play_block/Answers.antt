use Rattle.std.proofs.Common.{Option, sym, subst, arith}
use Rattle.std.specs.Prelude.{IfSome}
use Rattle.std.specs.Option.{IsSomeAnd}
use Rattle.mlp_params.specs.declared.state.State.{State}
use Rattle.mlp_substream.specs.Playable.{AreCoded}
use Rattle.mlp_channels.specs.Given.{GivesChannels}
use Rattle.mlp_channels.proofs.HeadLaws.{head_gives, force_lawful}
use Rattle.mlp_channels.proofs.play.play_block.Goals as goal

pub put_head-requires-clause-head : goal.put_head-requires-clause-head
put_head-requires-clause-head c = c.requires.playable.1.head

pub play_in-requires-clause-state : goal.play_in-requires-clause-state
play_in-requires-clause-state c = force_lawful c.args.place.now c.put_head.new.state c.put_head.ensures.state

pub play_in-requires-clause-given : goal.play_in-requires-clause-given
play_in-requires-clause-given c =
    let h = c.args.head.now in
    let P : Option State → Type 0 = λ f. IfSome f (λ s. GivesChannels s h.params) in
    subst P (sym c.put_head.ensures.value) (head_gives c.args.place.now c.args.state.now h c.requires.place c.requires.state c.requires.playable.1.head)

pub play_in-requires-clause-codes : goal.play_in-requires-clause-codes
play_in-requires-clause-codes c =
    let P : Option State → Type 0 = λ f. IsSomeAnd f (λ s. AreCoded s c.args.codes.now) in
    subst P (sym c.put_head.ensures.value) c.requires.playable.1.codes

pub play_in-requires-clause-some : goal.play_in-requires-clause-some
play_in-requires-clause-some c = omega (arith, c.requires.playable.1.least, c.requires.playable.1.count)
