use Rattle.std.proofs.Common.{◌+◌, ◌-◌, ◌*◌, ◌/◌, ◌++◌, ◌∷◌, [], ◌∙◌, ap, sym, subst, length, take, IsTrue}
use Rattle.std.proofs.lemmas.List.{length-append}
use Rattle.std.specs.List.{list_all}
use Rattle.mlp_pcm.specs.Samples.{row_in, pieces, are_clear}
use Rattle.mlp_pcm.proofs.Pieces.{left_more, done_more, all_more, first_failing}
use Rattle.mlp_pcm.proofs.samples.unpack_frames.Goals as goal

pub returns-then-not-all_clear-clause-err : goal.returns-then-not-all_clear-clause-err
returns-then-not-all_clear-clause-err c =
    let v = c.loop-frame.invariant in
    rw c.truncate.ensures.items (first_failing (are_clear c.args.depth) (row_in c.args.width c.args.channels) (c.args.channels * c.args.width) (length c.args.bytes.now / (c.args.channels * c.args.width)) c.loop-frame.frame
    (take c.loop-frame.frame c.loop-frame.out.rows.items) c.loop-frame.rest.now _ c.loop-frame-test.true v.frames v.done v.clear
    (ap (are_clear c.args.depth) (sym c.row-row.ensures) ∙ sym c.all_clear.ensures ∙ c.if-not-all_clear.true))

pub loop-frame-preserved : goal.loop-frame-preserved
loop-frame-preserved c =
    let v = c.loop-frame.invariant in
    let value = row_in c.args.width c.args.channels in
    let size = c.args.channels * c.args.width in
    let n = length c.args.bytes.now / (c.args.channels * c.args.width) in
    let i = c.loop-frame.frame in
    let rest = c.loop-frame.rest.now in
    let before = take i c.loop-frame.out.rows.items in
    let p = c.put_row.ensures.front ∙ ap (λ r. before ++ r ∷ []) c.row-row.ensures in
    record {
      channels = v.channels;
      enough = left_more size n i rest _ c.loop-frame-test.true c.behind-rest.ensures v.enough;
      done = ap (λ xs. xs ++ pieces value size (n - (i + 1)) c.behind-rest.result.now) p ∙ done_more value size n i before rest _ _ c.loop-frame-test.true c.behind-rest.ensures v.done;
      there = c.put_row.ensures.length ∙ v.there;
      frames = ap length p ∙ length-append before (value rest ∷ []) ∙ ap (λ m. m + 1) v.frames;
      clear = subst (λ xs. IsTrue (list_all (are_clear c.args.depth) xs)) (sym p)
          (all_more (are_clear c.args.depth) before (value rest) v.clear (ap (are_clear c.args.depth) (sym c.row-row.ensures) ∙ sym c.all_clear.ensures ∙ c.if-not-all_clear.false));
    }
