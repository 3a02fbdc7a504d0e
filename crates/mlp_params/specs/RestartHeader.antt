-- The restart header, field by field, with the rules in the order in which they are tried.
use Rattle.std.specs.Prelude.{ℕ, ◌+◌, ◌==◌, nat_le, ◌&&◌, not, List, []}
use Rattle.std.specs.List.{list_any}
use Rattle.mlp_syntax.specs.declared.major.Kind.{Kind}
use Rattle.mlp_syntax.specs.declared.major.Kind.TheVariants.{Fbb, Fba}
use Rattle.mlp_syntax.specs.declared.fault.Field.TheVariants as rule
use Rattle.mlp_syntax.specs.declared.restart.Restart.{Restart}
use Rattle.mlp_bits.specs.Checks.{restart_check_of}
use Rattle.mlp_layout.specs.Layout.{Layout, number_of, ruled, part, made}
use Rattle.mlp_layout.specs.Combined.{must, flag, fixed, checked, series}

-- the greatest channel that a kind of stream has
abbrev pub channel_limit : Kind → ℕ
channel_limit Fbb = 5
channel_limit Fba = 7

-- the greatest noise kind that a kind of stream has
abbrev pub noise_limit : Kind → ℕ
noise_limit Fbb = 0
noise_limit Fba = 1

-- an output channel that isn't above the greatest and wasn't given before
abbrev pub assigned : ℕ → List ℕ → Layout ℕ
assigned max_matrix before =
    ruled (must rule.ChannelAssign (λ a. nat_le a max_matrix && not (list_any (λ b. b == a) before))) (number_of 6)

unfoldable pub restart_fields : Kind → Layout Restart
restart_fields format =
    fixed 13 0x18F5 rule.RestartWord
    (part (ruled (must rule.RestartKind (λ k. nat_le k (noise_limit format))) (number_of 1)) (λ r. r.kind) (λ kind.
    part (number_of 16) (λ r. r.output_timing) (λ output_timing.
    part (number_of 4) (λ r. r.min) (λ min.
    part (ruled (must rule.ChannelRange (λ m. nat_le min m && nat_le m (channel_limit format))) (number_of 4))
    (λ r. r.max) (λ max.
    part (ruled (must rule.MatrixChannel (λ m. m == max)) (number_of 4)) (λ r. r.max_matrix) (λ max_matrix.
    part (number_of 4) (λ r. r.noise_shift) (λ noise_shift.
    part (number_of 23) (λ r. r.seed) (λ seed.
    part (number_of 19) (λ r. r.carried_a) (λ carried_a.
    part (ruled (must rule.DataCheck not) flag) (λ r. r.data_check) (λ data_check.
    part (number_of 8) (λ r. r.lossless) (λ lossless.
    part (number_of 16) (λ r. r.carried_b) (λ carried_b.
    part (series (assigned max_matrix) (max_matrix + 1) []) (λ r. r.assign.items) (λ assign.
    made (record {
      kind = kind;
      output_timing = output_timing;
      min = min;
      max = max;
      max_matrix = max_matrix;
      noise_shift = noise_shift;
      seed = seed;
      carried_a = carried_a;
      data_check = data_check;
      lossless = lossless;
      carried_b = carried_b;
      assign = record { items = assign };
    }))))))))))))))

-- the header with its check
unfoldable pub restart : Kind → Layout Restart
restart format = checked 8 restart_check_of rule.RestartCheck (restart_fields format)
