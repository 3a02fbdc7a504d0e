-- The terminator that is sent, and the restarts, are allowed.
use Rattle.std.proofs.Common.{◌≡◌, ℕ, zero, suc, ◌-◌, ◌<◌, ◌≤◌, ◌^◌, Bool, true, false, List, refl, arith}
use Rattle.mlp_syntax.specs.declared.major.Kind.{Kind}
use Rattle.mlp_syntax.specs.declared.major.Kind.TheVariants.{Fbb, Fba}
use Rattle.mlp_bits.specs.Checks.{modulus_restart, restart_check_of}
use Rattle.mlp_bits.proofs.Remainders.{rem_from-smaller}
use Rattle.mlp_layout.specs.Allowed.{Allowed}
use Rattle.mlp_layout.specs.Layout.{number_of, seen, ruled, part, made, item}
use Rattle.mlp_layout.specs.Combined.{flag, fixed, checked, series}
use Rattle.mlp_params.specs.RestartHeader.{restart, restart_fields}
use Rattle.mlp_substream.specs.Segment.{terminator}
use Rattle.mlp_fifo.specs.Pace.{unit_of}
use Rattle.mlp_fifo.proofs.Paces.{unit_most}
use Rattle.mlp_fold.specs.declared.profile.Profile.{Profile}
use Rattle.mlp_encode.specs.Sync.{restart_of}
use Rattle.mlp_encode.specs.Lawful.{IsEnd, IsRestartOf}
use Rattle.mlp_encode.specs.Unit.{end_word, terminator_of}

word_fits : (kind : Kind) (more : ℕ) → more ≤ 160 → (terminator kind).Fits (end_word kind more)
unfolding terminator fixed ruled number_of part
word_fits Fbb more h = search arith
word_fits Fba more h = search arith

word_meets : (kind : Kind) (more : ℕ) → (terminator kind).Meets (end_word kind more)
unfolding terminator fixed ruled number_of part
word_meets Fbb more = search arith
word_meets Fba more = search arith

pub end_is : (p : Profile) (count : ℕ) (last : Bool) → IsEnd p (terminator_of p count last)
end_is p count true = record { fits = word_fits p.kind (unit_of p.rate - count) (omega (arith, unit_most p.rate)); meets = word_meets p.kind (unit_of p.rate - count) }
end_is p count false = record { fits = tt; meets = tt }

check_below : (b : List Bool) → restart_check_of b < 2 ^ 8
check_below b = rem_from-smaller modulus_restart 0 b (omega arith) (omega arith)

first_restart : (kind : Kind) (timing check : ℕ) → timing < 2 ^ 16 → check < 2 ^ 8 → Allowed (restart kind) (restart_of 0 timing check)
unfolding restart restart_fields number_of ruled part made flag fixed checked series seen item
first_restart Fbb timing check ht hc = search (arith, check_below)
first_restart Fba timing check ht hc = search (arith, check_below)

second_restart : (kind : Kind) (timing check : ℕ) → timing < 2 ^ 16 → check < 2 ^ 8 → Allowed (restart kind) (restart_of 1 timing check)
unfolding restart restart_fields number_of ruled part made flag fixed checked series seen item
second_restart Fbb timing check ht hc = search (arith, check_below)
second_restart Fba timing check ht hc = search (arith, check_below)

third_restart : (timing check : ℕ) → timing < 2 ^ 16 → check < 2 ^ 8 → Allowed (restart Fba) (restart_of 2 timing check)
unfolding restart restart_fields number_of ruled part made flag fixed checked series seen item
third_restart timing check ht hc = search (arith, check_below)

-- substream 2 is in TrueHD alone
pub restart_lawful : (p : Profile) (j timing check : ℕ) → j ≤ 2 → (p.kind ≡ Fbb → j ≤ 1) → timing < 2 ^ 16 → check < 2 ^ 8 → IsRestartOf p j (restart_of j timing check)
restart_lawful p j timing check h kind ht hc = record { allowed = by p.kind j h kind; min = refl; max = refl; max_matrix = refl; kind = refl }
  where
    by : (kind : Kind) (j : ℕ) → j ≤ 2 → (kind ≡ Fbb → j ≤ 1) → Allowed (restart kind) (restart_of j timing check)
    by kind zero h few = first_restart kind timing check ht hc
    by kind (suc zero) h few = second_restart kind timing check ht hc
    by Fba (suc (suc zero)) h few = third_restart timing check ht hc
    by Fbb (suc (suc zero)) h few = absurd (omega (arith, few refl))
    by kind (suc (suc (suc j))) h few = absurd (omega (arith, h))
