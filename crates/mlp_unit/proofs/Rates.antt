-- The greatest rate.
use Rattle.std.proofs.Common.{ℕ, zero, suc, ◌*◌, ◌%◌, ◌^◌, ◌≤◌, Bool, true, false, cond, leb, eqb, ltb, arith}
use Rattle.std.specs.Prelude.{not}
use Rattle.std.proofs.lemmas.Bool.{leb-true, and_parts}
use Rattle.mlp_syntax.specs.declared.major.MajorSync.{MajorSync}
use Rattle.mlp_major.specs.MajorSync.{rate_of, rate_in_hertz, IsUsable}

doubled : (base n : ℕ) → base ≤ 48000 → n ≤ 2 → base * 2 ^ n ≤ 192000
doubled base zero few le = omega arith
doubled base (suc zero) few le = omega arith
doubled base (suc (suc zero)) few le = omega arith
doubled base (suc (suc (suc n))) few le = absurd (omega arith)

base_small : (b : Bool) → cond b 48000 44100 ≤ 48000
base_small true = omega arith
base_small false = omega arith

pub rate_small : (m : MajorSync) → IsUsable m → rate_in_hertz m ≤ 192000
rate_small m u =
    let code = rate_of m.format in
    doubled (cond (ltb code 8) 48000 44100) (code % 8) (base_small (ltb code 8)) (leb-true _ _ (and_parts (not (eqb code 15)) (leb (code % 8) 2) u.rate).1)
