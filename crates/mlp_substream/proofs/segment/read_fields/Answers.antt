use Rattle.std.proofs.Common.{◌≡◌, Bool, List, Ok, Err, sym, ap, subst, ◌∙◌}
use Rattle.std.proofs.lemmas.Result.{err_from_is_err_and}
use Rattle.mlp_syntax.specs.declared.segment.Segment.{Segment}
use Rattle.mlp_syntax.specs.declared.fault.Field.TheVariants.{SegmentEnd}
use Rattle.mlp_bits.specs.Cursor.{Cursor}
use Rattle.mlp_layout.specs.Layout.{number_of}
use Rattle.mlp_layout.specs.Tails.{ending_read}
use Rattle.mlp_substream.specs.Segment.{terminator, padding_width}
use Rattle.mlp_substream.proofs.EndLaws.{tail_blocks_fail, tail_padding_fails, tail_end_fails, tail_reads}
use Rattle.mlp_substream.proofs.segment.read_fields.Goals as goal
use Rattle.mlp_substream.specs.Blocks.{context_of}

pub returns-in_err-read_blocks-clause-read : goal.returns-in_err-read_blocks-clause-read
returns-in_err-read_blocks-clause-read c =
    let p = err_from_is_err_and c.from_residual.result c.from_residual.ensures.1 in
    rw (p.1, p.2) (tail_blocks_fail c.args.place.now c.args.known.now (context_of c.args.state.now 0 c.args.place.now.major) c.args.out.now.checked _ c.in_err-read_blocks.field-0.0 (rw c.new-r.ensures at c.in_err-read_blocks.ensures.read))

pub returns-in_err-padding-clause-read : goal.returns-in_err-padding-clause-read
returns-in_err-padding-clause-read c =
    let p = err_from_is_err_and c.from_residual-in_err-padding.result c.from_residual-in_err-padding.ensures.1 in
    let b = c.in_ok-read_blocks.ensures.read in
    let q = c.read_blocks.new.r.place in
    let bits-are = c.in_ok-read_blocks.ensures.moved.0 ∙ ap (λ (r : Cursor). r.all) c.new-r.ensures in
    let k = subst (λ (all : List Bool). (number_of (padding_width q)).read all q ≡ Err c.in_err-padding.field-0.0) bits-are (rw c.place.ensures.value at c.in_err-padding.ensures.read) in
    rw (p.1, p.2) (tail_padding_fails c.args.place.now c.args.known.now (context_of c.args.state.now 0 c.args.place.now.major) c.args.out.now.checked _ b.0 q (rw c.new-r.ensures at b.1) c.in_err-padding.field-0.0 k)

pub returns-in_err-terminator-clause-read : goal.returns-in_err-terminator-clause-read
returns-in_err-terminator-clause-read c =
    let p = err_from_is_err_and c.from_residual-in_err-terminator.result c.from_residual-in_err-terminator.ensures.1 in
    let b = c.in_ok-read_blocks.ensures.read in
    let q = c.read_blocks.new.r.place in
    let bits-are = c.in_ok-read_blocks.ensures.moved.0 ∙ ap (λ (r : Cursor). r.all) c.new-r.ensures in
    let k = subst (λ (all : List Bool). (number_of (padding_width q)).read all q ≡ Ok (c.in_ok-padding.padding, c.word.new.r.place)) bits-are (rw c.place.ensures.value at c.in_ok-padding.ensures.read.0) in
    let l = subst (λ (all : List Bool). ending_read SegmentEnd 32 (terminator c.args.place.now.format) (λ (t : _). t) all c.word.new.r.place ≡ Err c.in_err-terminator.field-0.0)
    (c.in_ok-padding.ensures.read.1 ∙ bits-are) c.in_err-terminator.ensures in
    rw (p.1, p.2) (tail_end_fails c.args.place.now c.args.known.now (context_of c.args.state.now 0 c.args.place.now.major) c.args.out.now.checked _ b.0 q
    (rw c.new-r.ensures at b.1) c.in_ok-padding.padding c.word.new.r.place k c.in_err-terminator.field-0.0 l)

pub returns-clause-read : goal.returns-clause-read
returns-clause-read c =
    let b = c.in_ok-read_blocks.ensures.read in
    let q = c.read_blocks.new.r.place in
    let bits-are = c.in_ok-read_blocks.ensures.moved.0 ∙ ap (λ (r : Cursor). r.all) c.new-r.ensures in
    let k = subst (λ (all : List Bool). (number_of (padding_width q)).read all q ≡ Ok (c.in_ok-padding.padding, c.word.new.r.place)) bits-are (rw c.place.ensures.value at c.in_ok-padding.ensures.read.0) in
    let l = subst (λ (all : List Bool). ending_read SegmentEnd 32 (terminator c.args.place.now.format) (λ (t : _). t) all c.word.new.r.place ≡ Ok c.in_ok-terminator.terminator)
    (c.in_ok-padding.ensures.read.1 ∙ bits-are) c.in_ok-terminator.ensures in
    let read = tail_reads c.args.place.now c.args.known.now (context_of c.args.state.now 0 c.args.place.now.major) c.args.out.now.checked _ b.0 q
    (rw c.new-r.ensures at b.1) c.in_ok-padding.padding c.word.new.r.place k c.in_ok-terminator.terminator l in
    read ∙ ap (λ (s : Segment). Ok (record s { padding = c.in_ok-padding.padding; terminator = c.in_ok-terminator.terminator })) (sym b.2)
