use Rattle.std.proofs.Common.{◌↔◌, ◌+◌, ◌*◌, eqb, ℕ, length, subst, sym, arith}
use Rattle.std.specs.Prelude.{IsTrue}
use Rattle.mlp_major.specs.MajorSync.{extension}
use Rattle.mlp_major.proofs.SyncFitting.{fits_without, empty_fits, fits_with}
use Rattle.mlp_major.proofs.fitting.extension_fits.Goals as goal

pub returns-then-not-long : goal.returns-then-not-long
returns-then-not-long c = fits_without c.args.long c.is_empty.result c.args.bytes.now c.if-not-long.true c.is_empty.ensures

pub returns-then-is_empty : goal.returns-then-is_empty
returns-then-is_empty c = empty_fits c.args.long c.is_empty-2.result c.args.bytes.now c.if-not-long.false c.if-is_empty.true c.is_empty-2.ensures

pub returns : goal.returns
returns c =
    let bytes = c.args.bytes.now in
    subst (λ (half : ℕ). IsTrue (eqb (length bytes) (2 + 2 * half)) ↔ (extension c.args.long).Fits bytes) (sym c.from.ensures)
    (fits_with c.args.long c.is_empty-2.result bytes (λ i. omega (arith, c.type_inv.bytes i)) c.if-not-long.false c.if-is_empty.false c.is_empty-2.ensures)
