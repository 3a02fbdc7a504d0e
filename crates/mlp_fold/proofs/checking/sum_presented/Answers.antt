use Rattle.std.proofs.Common.{◌-◌, ◌∙◌}
use Rattle.mlp_fold.proofs.Showing.{sum_shown}
use Rattle.mlp_fold.proofs.checking.sum_presented.Goals as goal

pub returns-in_default : goal.returns-in_default
returns-in_default c =
    c.sum_plain.ensures
    ∙ sum_shown c.args.mix (24 - c.args.depth) c.args.channels c.args.k c.args.channel c.args.frames.now c.in_default.not-Fold c.requires.channel
