use Rattle.std.proofs.Common.{◌≡◌, ◌+◌, ◌≤◌, arith, ap}
use Rattle.mlp_residual.specs.Coding.{symbols_of}
use Rattle.mlp_search.proofs.BoundLaws.{wide_none}
use Rattle.mlp_search.proofs.WidthLaws.{room_of, few_symbols, room_later}
use Rattle.mlp_search.proofs.weighing.first_low.Goals as goal
use Rattle.mlp_search.proofs.weighing.first_low.Goals.{in-0, in-1, in_default}

pub returns-clause-none : goal.returns-clause-none
returns-clause-none c =
    λ b lt.
    let low : b + room_of c.args.book + 1 ≤ c.min-width.result = elim c.match-book.branch [
      | in-0 w ↦
          let is : c.args.book ≡ 0 = omega arith in
          omega (arith, lt, c.min.ensures, w.fewest-is, ap room_of is)
      | in-1 w ↦
          let is : c.args.book ≡ 1 = omega arith in
          omega (arith, lt, c.min.ensures, w.fewest-is, w.saturating_sub-fewest.ensures, ap room_of is)
      | in_default w ↦
          let two : 2 ≤ c.args.book = omega arith in
          omega (arith, lt, c.min.ensures, w.fewest-is, w.saturating_sub-fewest-in_default.ensures, room_later c.args.book two)
    ] in (
      wide_none c.args.sides.now.zero.top c.args.sides.now.zero.width b (symbols_of c.args.book) (room_of c.args.book) c.requires.zero (few_symbols c.args.book) (omega (arith, low, c.min-width.ensures)),
      wide_none c.args.sides.now.middle.top c.args.sides.now.middle.width b (symbols_of c.args.book) (room_of c.args.book) c.requires.middle (few_symbols c.args.book) (omega (arith, low, c.min-width.ensures)),
    )
