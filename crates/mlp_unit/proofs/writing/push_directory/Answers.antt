use Rattle.std.proofs.Common.{◌+◌, ◌++◌, List, Bool, get_or, ap, sym, ◌∙◌, append_assoc, arith}
use Rattle.std.proofs.lemmas.List.{append-nil}
use Rattle.mlp_bits.specs.Bits.{bits_of}
use Rattle.mlp_unit.specs.Directory.{entry}
use Rattle.mlp_unit.proofs.WordTexts.{no_entry, entries_left, entries_go_on, entries_fit, sizes_go_on, entries_done, end_small}
use Rattle.mlp_unit.proofs.writing.push_directory.Goals as goal

pub push_entry-requires-clause-end : goal.push_entry-requires-clause-end
push_entry-requires-clause-end c = end_small _ (entries_fit c.args.entries.now c.loop-entry.entry-index _ c.loop-entry-test.true c.loop-entry.invariant.fits).0

pub loop-entry-preserved : goal.loop-entry-preserved
loop-entry-preserved c =
    let es = c.args.entries.now in
    let i = c.loop-entry.invariant in
    let n = c.loop-entry.entry-index in
    let old = bits_of c.loop-entry.out.items in
    let e = get_or es n no_entry in
    record {
      so_far = ap (λ (t : List Bool). t ++ entries_left es (n + 1)) c.push_entry.ensures.bits ∙ append_assoc old (entry.spelling e) (entries_left es (n + 1))
          ∙ ap (λ (t : List Bool). old ++ t) (sym (entries_go_on es n no_entry c.loop-entry-test.true)) ∙ i.so_far;
      fits = (entries_fit es n no_entry c.loop-entry-test.true i.fits).1;
      size = omega (arith, c.push_entry.ensures.len, sizes_go_on es n no_entry c.loop-entry-test.true, i.size);
    }

pub returns-clause-bits : goal.returns-clause-bits
returns-clause-bits c =
    let es = c.args.entries.now in
    let none = entries_done es c.loop-entry.entry-index (omega arith) in
    sym (append-nil (bits_of c.loop-entry.out.items)) ∙ ap (λ (t : List Bool). bits_of c.loop-entry.out.items ++ t) (sym none) ∙ c.loop-entry.invariant.so_far
