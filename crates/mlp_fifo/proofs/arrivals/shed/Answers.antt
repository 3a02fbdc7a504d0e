use Rattle.std.proofs.Common.{◌≡◌, ◌-◌, suc, length, get_or, ℕ, arith, ap}
use Rattle.mlp_fifo.proofs.Sheds.{some_held, sum_latest}
use Rattle.mlp_fifo.proofs.arrivals.shed.Goals as goal

pub overflow_sub-left : goal.overflow_sub-left
overflow_sub-left c =
    let f : ℕ → ℕ = λ i. get_or c.args.latest.now.items i 0 in
    let h = some_held f _ _ _ _ _ c.loop-left.invariant.bytes_are c.loop-left-test.true c.requires.within.1 in
    let e = sum_latest f (length c.args.latest.now.items) c.loop-left.units h (omega arith) in
    omega (arith, c.first_of-left.ensures)

pub loop-left-preserved : goal.loop-left-preserved
loop-left-preserved c =
    let f : ℕ → ℕ = λ i. get_or c.args.latest.now.items i 0 in
    let h = some_held f _ _ _ _ _ c.loop-left.invariant.bytes_are c.loop-left-test.true c.requires.within.1 in
    let e = sum_latest f (length c.args.latest.now.items) c.loop-left.units h (omega arith) in
    let k : suc (c.loop-left.units - 1) ≡ c.loop-left.units = omega arith in
    record {
      fewer = omega arith;
      bytes_are = omega (arith, c.first_of-left.ensures);
      within = omega (arith, c.first_of-left.ensures);
      most = λ l. omega (arith, c.first_of-left.ensures, ap (λ u. f (length c.args.latest.now.items - u)) k);
    }
