use Rattle.std.proofs.Common.{◌∙◌, ◌<◌, ℕ, List, [], ℤ, length, ap, subst, arith}
use Rattle.std.proofs.lemmas.List.{get_or_default}
use Rattle.mlp_channels.specs.Channels.{column}
use Rattle.mlp_channels.proofs.CodedLaws.{in_force}
use Rattle.mlp_channels.proofs.ColumnLaws.{column-with_column, column-with_other}
use Rattle.mlp_channels.proofs.play.play_channel.Goals as goal

pub scatter-requires-clause-channel : goal.scatter-requires-clause-channel
scatter-requires-clause-channel c = let f = in_force c.args.state.now c.args.channel c.requires.state c.requires.codes.steps c.requires.coded in omega (arith, f.most)

pub returns-clause-channel : goal.returns-clause-channel
returns-clause-channel c =
    let f = in_force c.args.state.now c.args.channel c.requires.state c.requires.codes.steps c.requires.coded in
    let wide = λ (k : ℕ) (d : List ℤ) (l : k < length c.args.frames.now).
    subst (λ (frame : List ℤ). c.args.channel < length frame) (get_or_default c.args.frames.now k [] d l) (let ten = c.told-frames k l in omega (arith, ten, f.most)) in
    ap (λ (fs : List (List ℤ)). column c.args.channel fs) c.scatter.ensures
    ∙ column-with_column c.args.channel c.restore.new.block c.args.frames.now (omega (arith, c.requires.count, c.requires.frames, c.restore.auto.block)) wide
    ∙ c.restore.ensures.outputs

pub returns-clause-others : goal.returns-clause-others
returns-clause-others c = λ d ne. ap (λ (fs : List (List ℤ)). column d fs) c.scatter.ensures ∙ column-with_other c.args.channel d c.restore.new.block c.args.frames.now ne
