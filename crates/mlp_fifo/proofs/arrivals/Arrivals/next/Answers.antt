use Rattle.std.proofs.Common.{◌≡◌, ℕ, suc, ◌-◌, ◌*◌, ◌<◌, ◌≤◌, max, length, arith, ap, subst}
use Rattle.std.proofs.Math.Decide.{dec_lt}
use Rattle.mlp_fifo.specs.declared.arrivals.Held.{Held}
use Rattle.mlp_fifo.specs.declared.arrivals.Arrivals.{Arrivals}
use Rattle.mlp_fifo.specs.Pace.{pace_of}
use Rattle.mlp_fifo.specs.Schedule.{out_of}
use Rattle.mlp_fifo.specs.Arrivals.{IsShed, time_with_shed}
use Rattle.mlp_fifo.specs.LeftFifo.{left_by, OthersAreOut}
use Rattle.mlp_fifo.specs.Placed.{begins}
use Rattle.mlp_fifo.proofs.Loads.{out_up}
use Rattle.mlp_fifo.proofs.Shown.{shown_by, shows, shows_last}
use Rattle.mlp_fifo.proofs.Next.{IsNext, next_only}
use Rattle.mlp_fifo.proofs.Begins.{shed_next, begins_next}
use Rattle.mlp_fifo.proofs.arrivals.Arrivals.next.Goals as goal

pub returns-clause-start : goal.returns-clause-start
returns-clause-start c = elim (dec_lt c.shed-held.result.units c.args.self.now.held.units) [
  | yes k ↦ omega (arith, c.time_after-time.ensures.shed k)
  | no k ↦ omega (arith, c.time_after-time.ensures.kept (omega (arith, c.shed-held.ensures.fewer)))
]

-- the time is the only least one
time_is : (a : Arrivals) (bytes x : ℕ) (left : Held) → OthersAreOut a → IsShed a.latest.items a.held bytes a.pace.size left → (left.units ≡ a.held.units → x ≡ max (a.count * a.pace.unit) a.finish)
    → (left.units < a.held.units → x ≡ time_with_shed a.pace a.count a.finish left) → x ≡ begins (left_by a) bytes
time_is a bytes x left others shed kept given =
    let b : ℕ → ℕ = shown_by a.latest.items bytes a.count in
    let s = shows a.latest.items bytes a.count a.kept.1 in
    let l = shows_last a.latest.items bytes a.count a.kept.1 in
    next_only (pace_of a.kind a.rate) b a.count a.finish x (begins (left_by a) bytes)
    (subst (λ p. IsNext p b a.count a.finish x) a.pace_is (shed_next a.pace b a.latest.items a.count a.finish bytes x a.held left s l a.kept.1 a.held_is.units_most others shed kept given).1)
    (begins_next (left_by a) b bytes s l a.kept.1 earlier)
  where
    earlier : (i : ℕ) → i < a.count - length a.latest.items → out_of (pace_of a.kind a.rate) i ≤ max (a.count * (pace_of a.kind a.rate).unit) a.finish
    earlier i h = omega (arith, ap (λ p. out_of p i) a.pace_is, out_up a.pace i (a.count - suc a.held.units) (omega (arith, a.held_is.units_most)), others (omega (arith, a.held_is.units_most)))

pub returns-clause-is : goal.returns-clause-is
returns-clause-is c = time_is c.args.self.now c.args.bytes c.time_after-time.result c.shed-held.result c.requires.out c.shed-held.ensures c.time_after-time.ensures.kept c.time_after-time.ensures.shed
