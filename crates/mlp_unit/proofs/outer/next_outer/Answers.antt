use Rattle.std.proofs.Common.{◌≡◌, ◌*◌, ℕ, List, take, Ok, sym, subst, ◌∙◌}
use Rattle.std.specs.Option.{option_copied}
use Rattle.std.proofs.lemmas.Result.{err_from_is_err_and}
use Rattle.mlp_unit.specs.Frame.{frame_of}
use Rattle.mlp_unit.specs.Shape.{unit_read, unit_with}
use Rattle.mlp_unit.proofs.FrameLaws.{is_frame, no_frame, unit_alone, frame_length, frame_itself, head_alone}
use Rattle.mlp_unit.proofs.outer.next_outer.Goals as goal

abbrev FramedBy : List ℕ → ℕ → Type 0
FramedBy next words = frame_of next ≡ Ok (2 * words)

pub returns-in_err-head-clause-read : goal.returns-in_err-head-clause-read
returns-in_err-head-clause-read c =
    let p = err_from_is_err_and c.from_residual.result c.from_residual.ensures.1 in
    rw (p.1, p.2) (no_frame (option_copied c.args.first) c.args.next.now c.in_err-head.field-0.0 c.in_err-head.ensures.frame)

pub read_framed-requires-clause-framed : goal.read_framed-requires-clause-framed
read_framed-requires-clause-framed c =
    let next = c.args.next.now in
    let framed = subst (FramedBy next) (sym c.from-size.ensures) c.in_ok-head.ensures.frame in
    frame_itself next (2 * c.from-size.result) framed

pub read_framed-requires-clause-head : goal.read_framed-requires-clause-head
read_framed-requires-clause-head c =
    let next = c.args.next.now in
    let framed = subst (FramedBy next) (sym c.from-size.ensures) c.in_ok-head.ensures.frame in
    head_alone next (2 * c.from-size.result) c.in_ok-head.head framed c.in_ok-head.ensures.head

pub returns-in_err-outer-clause-read : goal.returns-in_err-outer-clause-read
returns-in_err-outer-clause-read c =
    let next = c.args.next.now in
    let n = 2 * c.from-size.result in
    let framed = subst (FramedBy next) (sym c.from-size.ensures) c.in_ok-head.ensures.frame in
    let p = err_from_is_err_and c.from_residual-in_err-outer.result c.from_residual-in_err-outer.ensures.1 in
    rw (p.1, p.2) (unit_alone next n (is_frame next n framed) (option_copied c.args.first) ∙ c.in_err-outer.ensures.read)

pub returns-clause-read : goal.returns-clause-read
returns-clause-read c =
    let next = c.args.next.now in
    let first = option_copied c.args.first in
    let n = 2 * c.from-size.result in
    let framed = subst (FramedBy next) (sym c.from-size.ensures) c.in_ok-head.ensures.frame in
    let whole = unit_alone next n (is_frame next n framed) first ∙ c.in_ok-outer.ensures.read in
    subst (λ (size : ℕ). unit_read first next ≡ Ok (unit_with (take n next) c.in_ok-outer.outer, 8 * size)) (frame_length next n framed) whole
