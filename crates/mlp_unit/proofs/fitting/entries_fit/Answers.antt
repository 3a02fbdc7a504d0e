use Rattle.std.proofs.Common.{sym, ◌∙◌, refl, arith}
use Rattle.mlp_unit.proofs.WordTexts.{no_entry, entries_fit}
use Rattle.mlp_unit.proofs.UnitFitting.{entries_fit_back, none_fit}
use Rattle.mlp_unit.proofs.fitting.entries_fit.Goals as goal

pub returns-then-not-entry_fits : goal.returns-then-not-entry_fits
returns-then-not-entry_fits c =
    let no = c.if-not-entry_fits.true in
    (λ t. absurd cc, λ fits. sym no ∙ c.entry_fits.ensures.1 (entries_fit c.args.entries.now c.loop-entry.entry-index no_entry c.loop-entry-test.true (c.loop-entry.invariant.1 fits)).0)

pub loop-entry-preserved : goal.loop-entry-preserved
loop-entry-preserved c =
    let es = c.args.entries.now in
    let here = c.entry_fits.ensures.0 c.if-not-entry_fits.false in (
      λ later. c.loop-entry.invariant.0 (entries_fit_back es c.loop-entry.entry-index no_entry c.loop-entry-test.true here later),
      λ fits. (entries_fit es c.loop-entry.entry-index no_entry c.loop-entry-test.true (c.loop-entry.invariant.1 fits)).1,
    )

pub returns : goal.returns
returns c = (λ t. c.loop-entry.invariant.0 (none_fit c.args.entries.now c.loop-entry.entry-index (omega arith)), λ fits. refl)
