use Rattle.std.proofs.Common.{◌≡◌, ◌+◌, ℕ, take, drop, length, sym, subst}
use Rattle.std.specs.Option.{option_copied}
use Rattle.mlp_bits.specs.Bits.{bits_of}
use Rattle.mlp_unit.specs.Shape.{unit_with}
use Rattle.mlp_contents.specs.Inner.{Inner, IsTakenOr}
use Rattle.mlp_contents.proofs.TakenLaws.{IsAnswered, inside_new, taken_or, kept_or, sync_there}
use Rattle.mlp_contents.proofs.substreams.Substreams.take.Goals as goal

pub returns-clause-taken : goal.returns-clause-taken
returns-clause-taken c =
    let sync = option_copied c.args.first in
    let o = unit_with c.args.unit.now c.args.outer.now in
    let text = bits_of c.args.unit.now in
    let place = c.place_of-place.result in
    let i = c.self.inside in
    let new = c.take_contents.new in
    let ys = new.substreams in
    let rest = drop (c.from-last.result + 1) i.all in
    let rows = new.rows.items in
    let r = c.take_contents.result in
    let answered = subst (λ (n : ℕ). IsAnswered o text place (take (n + 1) i.all) ys new.ended i.noise.seed i.check new.noise.seed new.check rows r) c.from-last.ensures c.take_contents.ensures.taken in
    let count = subst (λ (x : Inner). length x.substreams ≡ x.last + 1) (sym c.self.view_is) c.requires.kept.count in
    let is = taken_or sync o text place (take (i.last + 1) i.all) ys rest i.last i.ended new.ended i.noise.seed i.check new.noise.seed new.check rows c.place_of-place.ensures.value count r answered in
    let later = inside_new sync o text place (take (i.last + 1) i.all) ys rest i.last i.ended new.ended i.noise.seed i.check new.noise.seed new.check rows c.place_of-place.ensures.value count in
    subst (λ (x : Inner). IsTakenOr sync o text x later rows r) c.self.view_is is

pub returns-clause-kept : goal.returns-clause-kept
returns-clause-kept c =
    let sync = option_copied c.args.first in
    let o = unit_with c.args.unit.now c.args.outer.now in
    let text = bits_of c.args.unit.now in
    let place = c.place_of-place.result in
    let i = c.self.inside in
    let new = c.take_contents.new in
    let ys = new.substreams in
    let rest = drop (c.from-last.result + 1) i.all in
    let rows = new.rows.items in
    let r = c.take_contents.result in
    let answered = subst (λ (n : ℕ). IsAnswered o text place (take (n + 1) i.all) ys new.ended i.noise.seed i.check new.noise.seed new.check rows r) c.from-last.ensures c.take_contents.ensures.taken in
    let count = subst (λ (x : Inner). length x.substreams ≡ x.last + 1) (sym c.self.view_is) c.requires.kept.count in
    let s = sync_there sync c.args.outer.now c.args.self.now.last c.requires.count c.requires.exist in
    kept_or sync o text place (take (i.last + 1) i.all) ys rest i.last i.ended new.ended i.noise.seed i.check new.noise.seed new.check rows c.place_of-place.ensures.value count s.0 s.1 r answered
