-- The channel numbers of a restart that meets the rules.
use Rattle.std.proofs.Common.{◌≡◌, ◌≤◌, leb, arith}
use Rattle.std.proofs.lemmas.Bool.{and_parts, eqb-true, leb-true}
use Rattle.mlp_syntax.specs.declared.major.Kind.{Kind}
use Rattle.mlp_syntax.specs.declared.major.Kind.TheVariants.{Fbb, Fba}
use Rattle.mlp_syntax.specs.declared.restart.Restart.{Restart}
use Rattle.mlp_layout.specs.Layout.{part, ruled}
use Rattle.mlp_layout.specs.Combined.{fixed, checked}
use Rattle.mlp_layout.specs.Allowed.{Allowed}
use Rattle.mlp_layout.proofs.RuleReading.{rule_holds}
use Rattle.mlp_params.specs.RestartHeader.{restart, restart_fields, channel_limit, noise_limit}

limit_most : (format : Kind) → channel_limit format ≤ 7
limit_most Fbb = omega arith
limit_most Fba = omega arith

pub record Ranges (format : Kind) (r : Restart) : Type 0 where
  pub kind : r.kind ≤ noise_limit format
  pub order : r.min ≤ r.max
  pub most : r.max ≤ channel_limit format
  pub at_most_7 : r.max ≤ 7
  pub same : r.max_matrix ≡ r.max

pub ranges : (format : Kind) (r : Restart) → Allowed (restart format) r → Ranges format r
unfolding restart restart_fields checked fixed part ruled
ranges format r h =
    let behind_word = h.meets.0.1 in
    let at_max = behind_word.1.1.1 in
    let range = and_parts (leb r.min r.max) (leb r.max (channel_limit format)) (rule_holds _ 0 at_max.0.1) in
    let most : r.max ≤ channel_limit format = leb-true _ _ range.1 in
    record {
      kind = leb-true _ _ (rule_holds _ 0 behind_word.0.1);
      order = leb-true _ _ range.0;
      most = most;
      at_most_7 = omega (arith, most, limit_most format);
      same = eqb-true _ _ (rule_holds _ 0 at_max.1.0.1);
    }
