use Rattle.std.proofs.Common.{◌++◌, List, ℕ, [], ◌∷◌, length, sym, ap, subst, ◌∙◌, arith}
use Rattle.mlp_present.specs.Decoding.{next_unit, GivesUnit}
use Rattle.mlp_recover.proofs.Steps.{from_place, broken_at, ends_before, read_more, ends_all, ends_ended, grows, one_more}
use Rattle.mlp_recover.proofs.reach.read_on.Goals as goal

pub returns-in_default-clause-reads : goal.returns-in_default-clause-reads
returns-in_default-clause-reads c = λ k first us g.
    let same = from_place c.args.bytes.now c.args.reach.now.past in
    broken_at k c.args.bytes.now first us c.args.decoder.now c.args.reach.now g c.in_default.field-0
    (ap (next_unit c.args.decoder.now) (sym same) ∙ c.in_default.ensures.unit)

pub returns-then-is_behind-clause-reads : goal.returns-then-is_behind-clause-reads
returns-then-is_behind-clause-reads c = λ k first us g.
    let given = subst (λ (xs : List ℕ). GivesUnit c.args.decoder.now xs c.in-Ok.size c.unit.new.out.items c.unit.new.self) (from_place c.args.bytes.now c.args.reach.now.past) c.in-Ok.ensures.unit in
    (us, ends_before k c.args.bytes.now first us c.args.decoder.now c.args.reach.now g c.in-Ok.size c.unit.new.out.items c.unit.new.self given (sym c.is_behind.ensures ∙ c.if-is_behind.true))

pub returns-then-ended-clause-reads : goal.returns-then-ended-clause-reads
returns-then-ended-clause-reads c = λ k first us g.
    let rest = from_place c.args.bytes.now c.args.reach.now.past in
    let given = subst (λ (xs : List ℕ). GivesUnit c.args.decoder.now xs c.in-Ok.size c.unit.new.out.items c.unit.new.self) rest c.in-Ok.ensures.unit in
    let read = read_more k c.args.bytes.now first us c.args.decoder.now c.args.reach.now g c.in-Ok.size c.unit.new.out.items c.unit.new.self given c.len.result c.channels.result
    (omega (arith, c.in-Ok.ensures.within, ap length rest)) (omega (arith, c.in-Ok.ensures.within)) c.len.ensures.value (omega (arith, c.len.ensures.fits)) c.channels.ensures (sym c.is_behind.ensures ∙ c.if-is_behind.false) in
    (us ++ given.unit ∷ [], ends_ended k c.args.bytes.now first (us ++ given.unit ∷ []) c.unit.new.self _ read (one_more us given.unit) (sym c.ended.ensures ∙ c.if-ended.true))

pub returns-then-reach-bytes-clause-reads : goal.returns-then-reach-bytes-clause-reads
returns-then-reach-bytes-clause-reads c = λ k first us g.
    let rest = from_place c.args.bytes.now c.args.reach.now.past in
    let given = subst (λ (xs : List ℕ). GivesUnit c.args.decoder.now xs c.in-Ok.size c.unit.new.out.items c.unit.new.self) rest c.in-Ok.ensures.unit in
    let read = read_more k c.args.bytes.now first us c.args.decoder.now c.args.reach.now g c.in-Ok.size c.unit.new.out.items c.unit.new.self given c.len.result c.channels.result
    (omega (arith, c.in-Ok.ensures.within, ap length rest)) (omega (arith, c.in-Ok.ensures.within)) c.len.ensures.value (omega (arith, c.len.ensures.fits)) c.channels.ensures (sym c.is_behind.ensures ∙ c.if-is_behind.false) in
    (us ++ given.unit ∷ [], ends_all k c.args.bytes.now first (us ++ given.unit ∷ []) c.unit.new.self _ read (one_more us given.unit) c.if-reach-bytes.true)

pub returns-clause-reads : goal.returns-clause-reads
returns-clause-reads c = λ k first us g.
    let rest = from_place c.args.bytes.now c.args.reach.now.past in
    let given = subst (λ (xs : List ℕ). GivesUnit c.args.decoder.now xs c.in-Ok.size c.unit.new.out.items c.unit.new.self) rest c.in-Ok.ensures.unit in
    let read = read_more k c.args.bytes.now first us c.args.decoder.now c.args.reach.now g c.in-Ok.size c.unit.new.out.items c.unit.new.self given c.len.result c.channels.result
    (omega (arith, c.in-Ok.ensures.within, ap length rest)) (omega (arith, c.in-Ok.ensures.within)) c.len.ensures.value (omega (arith, c.len.ensures.fits)) c.channels.ensures (sym c.is_behind.ensures ∙ c.if-is_behind.false) in
    (us ++ given.unit ∷ [], grows k c.args.bytes.now first (us ++ given.unit ∷ []) c.unit.new.self _ read (one_more us given.unit) (sym c.ended.ensures ∙ c.if-ended.false) c.if-reach-bytes.false)
