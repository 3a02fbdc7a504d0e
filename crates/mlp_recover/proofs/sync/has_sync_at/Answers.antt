use Rattle.mlp_recover.proofs.Syncs.{word_says}
use Rattle.mlp_recover.proofs.sync.has_sync_at.Goals as goal

pub returns : goal.returns
returns c = word_says c.args.bytes.now c.args.place c.word_at-word.result c.requires c.word_at-word.ensures
