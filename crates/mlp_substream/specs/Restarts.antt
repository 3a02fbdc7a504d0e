-- Where a restart stands, and the rules on it that other segments and other units decide.
use Rattle.std.specs.Prelude.{◌≡◌, ℕ, zero, suc, ◌+◌, ◌==◌, nat_le, ◌&&◌, ◌||◌, not, Bool, true, false, List, [], ◌∷◌, Option, Some, None}
use Rattle.mlp_syntax.specs.declared.fault.Field.TheVariants as rule
use Rattle.mlp_syntax.specs.declared.major.Kind.{Kind}
use Rattle.mlp_syntax.specs.declared.restart.Restart.{Restart}
use Rattle.mlp_bits.specs.Bits.{bit}
use Rattle.mlp_layout.specs.Layout.{Layout, Rule, part, made}
use Rattle.mlp_layout.specs.Combined.{must, must_at, under, first_fault, flag, chosen}
use Rattle.mlp_params.specs.RestartHeader.{restart}
use Rattle.mlp_substream.specs.declared.known.Known.{Known}

-- ---- the flags with which a block begins

-- A parameter flag, and behind one that is 1 a restart flag. The restart flag is 1 exactly where a restart is due,
-- which is in the first block of a unit with a major sync.
unfoldable pub flags : Bool → Layout (Bool × Bool)
flags due =
    under (must rule.RestartMissing (λ f. f.1 || not due)
    ∷ must_at 1 rule.RestartPlace (λ f. not f.1 || due) ∷ [])
    (part flag (λ f. f.0) (λ given.
    part (chosen given flag (made false)) (λ f. f.1) (λ restarts.
    made (given, restarts))))

-- ---- what is known from elsewhere

-- it is as it is known, where it is known
abbrev pub agrees : Option ℕ → ℕ → Bool
agrees None n = true
agrees (Some m) n = n == m

-- each channel below the count is covered, or lies from min to max
unfoldable pub all_covered : ℕ → ℕ → ℕ → ℕ → Bool
all_covered covered min max zero = true
all_covered covered min max (suc c) = (bit covered c || (nat_le min c && nat_le c max)) && all_covered covered min max c

abbrev pub covers : Option ℕ → Restart → Bool
covers None r = true
covers (Some covered) r = all_covered covered r.min r.max (r.max_matrix + 1)

-- in the order in which they are tried; the greatest matrix channel is bit 38 of the header, the lossless check bit 89
abbrev pub restart_rules : Known → List (Rule Restart)
restart_rules known =
    must_at 38 rule.ChannelsChanged (λ r. agrees known.max_matrix r.max_matrix) ∷
    must_at 38 rule.Uncovered (λ r. covers known.covered r) ∷
    must_at 89 rule.LosslessCheck (λ r. agrees known.lossless r.lossless) ∷ []

-- all of them hold of a restart
abbrev pub RestartHolds : Known → Restart → Type 0
RestartHolds known r = first_fault (restart_rules known) r ≡ None

unfoldable pub judged_restart : Known → Kind → Layout Restart
judged_restart known format = under (restart_rules known) (restart format)
