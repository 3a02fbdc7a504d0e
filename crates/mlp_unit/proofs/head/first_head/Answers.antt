use Rattle.std.proofs.Common.{◌≡◌, ℕ, List, Bool, length, take, min, Result, Ok, Err, ap, subst, ◌∙◌}
use Rattle.std.specs.Prelude.{MatchResult}
use Rattle.mlp_syntax.specs.declared.fault.Broken.{Broken}
use Rattle.mlp_syntax.specs.declared.unit.UnitHead.{UnitHead}
use Rattle.mlp_bits.specs.Bits.{bits_of}
use Rattle.mlp_bits.specs.Cursor.{Cursor}
use Rattle.mlp_layout.specs.Reading.{Read, Gives}
use Rattle.mlp_unit.specs.AccessUnit.{head}
use Rattle.mlp_unit.proofs.HeadReading.{first_eight, head_found}
use Rattle.mlp_unit.proofs.head.first_head.Goals as goal

abbrev Reads : Result UnitHead Broken → Read UnitHead → Type 0
Reads result read = MatchResult result (λ h. read ≡ Ok (h, 32)) (λ e. read ≡ Err e)

as_read : (all : List Bool) (r s : Cursor) (result : Result UnitHead Broken) → r ≡ record { all = all; place = 0 } → Gives (λ (h : UnitHead). h) r s result (head.read r.all r.place) → Reads result (head.read all 0)
as_read all r s (Ok h) start g =
    let e : head.read all 0 ≡ Ok (h, s.place) = subst (λ (c : Cursor). head.read c.all c.place ≡ Ok (h, s.place)) start g.0 in
    subst (λ (q : ℕ). head.read all 0 ≡ Ok (h, q)) (head_found all h s.place e) e
as_read all r s (Err e) start g = subst (λ (c : Cursor). head.read c.all c.place ≡ Err e) start g

pub returns : goal.returns
returns c =
    let next = c.args.next.now in
    let start = λ (n : ℕ). let r : Cursor = record { all = bits_of (take n next); place = 0 } in r in
    subst (Reads c.read_head.result) (first_eight next) (as_read (bits_of (take (min (length next) 8) next)) c.new-r.result c.read_head.new.r c.read_head.result (c.new-r.ensures ∙ ap start c.min.ensures) c.read_head.ensures)
