-- A major sync that later units can rely on tells one of the six rates.
use Rattle.std.proofs.Common.{ℕ, zero, suc, ◌*◌, ◌^◌, ◌≤◌, ◌%◌, nat_lt, Bool, true, false, if◌then◌else◌, IsTrue, refl, arith}
use Rattle.std.proofs.lemmas.Bool.{and_parts, leb-true}
use Rattle.std.specs.Prelude.{nat_le, ◌==◌, not}
use Rattle.mlp_syntax.specs.declared.major.MajorSync.{MajorSync}
use Rattle.mlp_major.specs.MajorSync.{is_rate, rate_of, rate_in_hertz}
use Rattle.mlp_fifo.specs.Pace.{IsRate}

doubled : (low : Bool) (n : ℕ) → n ≤ 2 → IsRate ((if low then 48000 else 44100) * 2 ^ n)
doubled true zero few = refl
doubled true (suc zero) few = refl
doubled true (suc (suc zero)) few = refl
doubled false zero few = refl
doubled false (suc zero) few = refl
doubled false (suc (suc zero)) few = refl
doubled low (suc (suc (suc n))) few = absurd (omega arith)

pub rate_is : (m : MajorSync) → IsTrue (is_rate (rate_of m.format)) → IsRate (rate_in_hertz m)
rate_is m usable =
    let code = rate_of m.format in
    doubled (nat_lt code 8) (code % 8) (leb-true (code % 8) 2 (and_parts (not (code == 15)) (nat_le (code % 8) 2) usable).1)
