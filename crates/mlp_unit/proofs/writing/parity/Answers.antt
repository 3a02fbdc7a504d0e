use Rattle.std.proofs.Common.{◌≡◌, ◌-◌, ℕ, length, subst, arith}
use lib.Bits.{xor_lt}
use Rattle.mlp_unit.specs.Directory.{directory}
use Rattle.mlp_unit.proofs.WordTexts.{no_entry, entries_fit, end_small, sum_starts, sum_goes_on, sum_ends}
use Rattle.mlp_unit.proofs.writing.parity.Goals as goal

pub loop-entry-init : goal.loop-entry-init
loop-entry-init c =
    let es = c.args.entries.now in
    let none : length es ≡ length es - 0 = omega arith in
    record {
      so_far = sum_starts c.args.words c.args.timing c.nibbles.result c.nibbles-2.result es c.requires.words c.nibbles.ensures.sum c.nibbles-2.ensures.sum;
      fits = subst (λ (n : ℕ). (directory n).Fits es) none c.requires.entries;
      small = xor_lt 4 c.nibbles.result c.nibbles-2.result c.nibbles.ensures.small c.nibbles-2.ensures.small;
    }

pub entry_nibbles-sum-requires : goal.entry_nibbles-sum-requires
entry_nibbles-sum-requires c = end_small _ (entries_fit c.args.entries.now c.loop-entry.entry-index _ c.loop-entry-test.true c.loop-entry.invariant.fits).0

pub loop-entry-preserved : goal.loop-entry-preserved
loop-entry-preserved c =
    let es = c.args.entries.now in
    let i = c.loop-entry.invariant in
    record {
      so_far = sum_goes_on c.loop-entry.sum c.entry_nibbles-sum.result _ es c.loop-entry.entry-index no_entry c.loop-entry-test.true c.entry_nibbles-sum.ensures.sum i.so_far;
      fits = (entries_fit es c.loop-entry.entry-index no_entry c.loop-entry-test.true i.fits).1;
      small = xor_lt 4 c.loop-entry.sum c.entry_nibbles-sum.result i.small c.entry_nibbles-sum.ensures.small;
    }

pub returns-clause-sum : goal.returns-clause-sum
returns-clause-sum c = sum_ends c.loop-entry.sum _ c.args.entries.now c.loop-entry.entry-index (omega arith) c.loop-entry.invariant.so_far
