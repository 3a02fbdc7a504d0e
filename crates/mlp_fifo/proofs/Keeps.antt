-- One unit more among the latest.
use Rattle.std.proofs.Common.{◌≡◌, ℕ, suc, ◌+◌, ◌-◌, ◌*◌, ◌≤◌, min, List, [], ◌∷◌, ◌++◌, length, get_or, arith, sym, ◌∙◌, ap, subst}
use Rattle.std.proofs.Math.Decide.{dec_le}
use Rattle.std.proofs.lemmas.List.{get_or-drop, get_or_append_left, get_or_push, length-append, length-drop}
use Rattle.std.proofs.lemmas.Nat.{mul-le}
use Rattle.circular_buffer.specs.Buffer.{keep_last}
use Rattle.mlp_fifo.specs.declared.pace.Pace.{Pace}
use Rattle.mlp_fifo.specs.declared.arrivals.Held.{Held}
use Rattle.mlp_fifo.specs.declared.arrivals.Arrivals.{Arrivals}
use Rattle.mlp_fifo.specs.Pace.{IsUsual}
use Rattle.mlp_fifo.specs.Schedule.{out_of}
use Rattle.mlp_fifo.specs.Load.{sum_from}
use Rattle.mlp_fifo.specs.Arrivals.{IsHeld, IsGone}
use Rattle.mlp_fifo.proofs.Loads.{sum_same}

pub kept_length : (xs : List ℕ) → length (keep_last 91 xs) ≡ min 91 (length xs)
kept_length xs = omega (arith, length-drop (length xs - 91) xs)

pub held_pushed : (latest : List ℕ) (held : Held) (bytes : ℕ) → IsHeld latest held → held.units ≤ 90 → length latest ≤ 91
    → IsHeld (keep_last 91 (latest ++ bytes ∷ [])) (record { units = held.units + 1; bytes = held.bytes + bytes })
held_pushed latest held bytes h most l = record {
  units_most = omega (arith, kept_length all, long, h.units_most);
  bytes_are = omega (arith, h.bytes_are, before, last, cut, ap (λ u. sum_from (λ i. get_or (keep_last 91 all) i 0) (length (keep_last 91 all) - u) u) (let e : suc held.units ≡ held.units + 1 = omega arith in e));
}
  where
    all : List ℕ
    all = latest ++ bytes ∷ []

    long : length all ≡ length latest + 1
    long = length-append latest (bytes ∷ [])

    before : sum_from (λ i. get_or latest i 0) (length latest - held.units) held.units ≡ sum_from (λ i. get_or all i 0) (length latest - held.units) held.units
    before = sum_same (λ i. get_or latest i 0) (λ i. get_or all i 0) (length latest - held.units) (length latest - held.units) held.units
        (λ i k. sym (get_or_append_left latest (bytes ∷ []) 0 (length latest - held.units + i) (omega (arith, h.units_most))))

    last : get_or all (length latest - held.units + held.units) 0 ≡ bytes
    last = get_or_push latest bytes 0 (length latest - held.units + held.units) (omega (arith, h.units_most))

    cut : sum_from (λ i. get_or (keep_last 91 all) i 0) (length (keep_last 91 all) - suc held.units) (suc held.units) ≡ sum_from (λ i. get_or all i 0) (length latest - held.units) (suc held.units)
    cut = sum_same (λ i. get_or (keep_last 91 all) i 0) (λ i. get_or all i 0) (length (keep_last 91 all) - suc held.units) (length latest - held.units) (suc held.units)
        (λ i k. get_or-drop (length all - 91) all (length (keep_last 91 all) - suc held.units + i) 0
        ∙ ap (λ j. get_or all j 0) (let e : length all - 91 + (length (keep_last 91 all) - suc held.units + i) ≡ length latest - held.units + i = omega (arith, kept_length all, long, h.units_most) in e))

-- all units before the latest 91 at most have been output when the next has arrived
pub gone_kept : (p : Pace) (n time finish units : ℕ) → IsUsual p → units ≤ 91 → units ≤ n → n * p.unit ≤ time → time ≤ finish → IsGone p n time units → IsGone p (n + 1) finish (min units 90 + 1)
unfolding out_of
gone_kept p n time finish units u most few start after gone m = elim (dec_le units 90) [
  | yes k ↦ (let e : n + 1 - suc (min units 90 + 1) ≡ n - suc units = omega arith in omega (arith, ap (λ i. (p.latency + i) * p.unit) e, gone (omega arith)))
  | no k ↦ omega (arith, mul-le (p.latency + (n + 1 - suc (min units 90 + 1))) p.unit n p.unit (omega (arith, u.latency_is)) (omega arith))
]

-- all units before the latest have been output still
pub still_gone : (a n : Arrivals) (time units : ℕ) → n.pace ≡ a.pace → n.count ≡ a.count + 1 → time ≤ n.finish → n.held.units ≡ min units 90 + 1 → units ≤ length a.latest.items
    → a.count * a.pace.unit ≤ time → IsGone a.pace a.count time units → IsGone n.pace n.count n.finish n.held.units
still_gone a n time units e f l u h start gone =
    subst (λ p. IsGone p n.count n.finish n.held.units) (sym e)
    (subst (λ c. IsGone a.pace c n.finish n.held.units) (sym f)
    (subst (IsGone a.pace (a.count + 1) n.finish) (sym u)
    (gone_kept a.pace a.count time n.finish units a.usual (omega (arith, a.kept.0)) (omega (arith, a.kept.1)) start l gone)))
