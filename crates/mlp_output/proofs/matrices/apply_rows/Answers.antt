use Rattle.std.proofs.Common.{◌≡◌, ◌∙◌, [], length, map, sym, arith}
use Rattle.std.proofs.lemmas.Bool.{eqb-true}
use Rattle.std.proofs.lemmas.List.{length-map, nil_from_length}
use Rattle.std.proofs.lemmas.List.Elements.{All-from_get_or}
use Rattle.mlp_output.proofs.Ready.{ready}
use Rattle.mlp_output.proofs.Heard.{rows_heard_by, plain_heard}
use Rattle.mlp_output.proofs.matrices.apply_rows.Goals as goal

pub returns-then-is_empty-clause-samples : goal.returns-then-is_empty-clause-samples
returns-then-is_empty-clause-samples c =
    let s = c.args.state.now in
    let frames = c.args.frames.now in
    plain_heard s (ready s c.requires.state) c.args.noise.now.seed (map (λ f. f.bypass) c.args.codes.now) frames
    (nil_from_length s.rows.items (eqb-true (length s.rows.items) 0 (sym c.is_empty.ensures ∙ c.if-is_empty.true)))
    (length-map c.args.codes.now (λ f. f.bypass) ∙ c.requires.same)
    (All-from_get_or (λ frame. length frame ≡ 10) frames [] c.told-frames)

pub put_heard_noise-requires-clause-shift : goal.put_heard_noise-requires-clause-shift
put_heard_noise-requires-clause-shift c = (ready c.args.state.now c.requires.state).noise_shift

pub put_heard_noise-requires-clause-channels : goal.put_heard_noise-requires-clause-channels
put_heard_noise-requires-clause-channels c = (ready c.args.state.now c.requires.state).most

pub overflow_add-channels : goal.overflow_add-channels
overflow_add-channels c = let most = (ready c.args.state.now c.requires.state).most in omega (arith, most)

pub apply_block-requires-clause-rows : goal.apply_block-requires-clause-rows
apply_block-requires-clause-rows c = rw (c.as_slice-2.ensures.value, c.as_slice-3.ensures.value) (ready c.args.state.now c.requires.state).rows

pub returns-clause-samples : goal.returns-clause-samples
returns-clause-samples c =
    let s = c.args.state.now in
    let frames = c.args.frames.now in
    rw (c.apply_block.ensures, c.gather.ensures, c.put_heard_noise.ensures.noise, c.as_slice-2.ensures.value, c.as_slice-3.ensures.value)
    (rows_heard_by s (ready s c.requires.state) c.hears_noise-heard.result c.args.noise.now.seed (map (λ f. f.bypass) c.args.codes.now) frames
    (rw c.as_slice.ensures.value at c.hears_noise-heard.ensures)
    (length-map c.args.codes.now (λ f. f.bypass) ∙ c.requires.same)
    (All-from_get_or (λ frame. length frame ≡ 10) frames [] c.told-frames))
