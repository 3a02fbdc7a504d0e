use Rattle.std.proofs.Common.{sym, subst, arith}
use Rattle.mlp_unit.proofs.UnitFitting.{ExtraFits, entry_fits_by}
use Rattle.mlp_unit.proofs.fitting.entry_fits.Goals as goal

pub returns-in-None : goal.returns-in-None
returns-in-None c = entry_fits_by c.args.entry.now (subst ExtraFits (sym c.in-None.is) tt)

pub returns-in-Some : goal.returns-in-Some
returns-in-Some c = entry_fits_by c.args.entry.now (subst ExtraFits (sym c.in-Some.is) (omega arith))
