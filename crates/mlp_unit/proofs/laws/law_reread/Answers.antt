use Rattle.std.proofs.Common.{◌*◌, length, sym, ◌∙◌, arith}
use Rattle.std.proofs.lemmas.List.{take_all}
use Rattle.mlp_bits.specs.Bits.{bits_of}
use Rattle.mlp_bits.proofs.BitLists.{length-bits_of}
use Rattle.mlp_layout.proofs.LayoutLaws.{is_found}
use Rattle.mlp_unit.specs.AccessUnit.{access_unit}
use Rattle.mlp_unit.proofs.UnitLaws.{access_unit_is}
use Rattle.mlp_unit.proofs.Reread.{writable, rewritten}
use Rattle.mlp_unit.proofs.laws.law_reread.Goals as goal

pub returns-clause-written : goal.returns-clause-written
returns-clause-written c = λ first bytes u usable e.
    let f = (is_found (access_unit_is first) (bits_of bytes) 0 (omega arith) (u, 8 * length bytes) e).0 in
    record { writable = writable first u (λ none. usable) f.fits f.meets; same = rewritten first u (λ none. usable) f.fits f.meets }

pub returns-clause-bits : goal.returns-clause-bits
returns-clause-bits c = λ first bytes u e.
    let f = is_found (access_unit_is first) (bits_of bytes) 0 (omega arith) (u, 8 * length bytes) e in
    let text = (access_unit first).spelling u in
    sym f.0.stands.text_is ∙ take_all (length text) (bits_of bytes) (omega (arith, f.1, length-bits_of bytes))
