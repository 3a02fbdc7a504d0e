use Rattle.std.proofs.Common.{◌≡◌, ◌<◌, ℕ, Bool, List, length, take, get_or, false, ap, sym, arith}
use Rattle.std.proofs.lemmas.Result.{err_from_is_err_and}
use Rattle.std.proofs.lemmas.List.{length-take}
use Rattle.mlp_layout.specs.Layout.{seen, made}
use Rattle.mlp_layout.specs.Combined.{flag, chosen}
use Rattle.mlp_residual.specs.Frames.{bypass_bit, bypass_bits, unpacked}
use Rattle.mlp_residual.proofs.FrameLaws.{length-unpacked}
use Rattle.mlp_residual.proofs.FrameWriting.{series_text, series_begins, series_wrote, series_filled, series_written, unpacked-at}
use Rattle.mlp_residual.proofs.writing.put_bypass.Goals as goal

-- the layout of the next bit
next_is : (rows : List Bool) (n i v : ℕ) → i < n → bypass_bit rows (take i (unpacked n v)) ≡ chosen (get_or rows i false) flag (made false)
next_is rows n i v lt = ap (λ (k : ℕ). chosen (get_or rows k false) flag (made false)) (omega (arith, length-take i (unpacked n v), length-unpacked n v))

pub loop-i-init : goal.loop-i-init
loop-i-init c =
    let rows = c.args.rows.now in
    series_begins (bypass_bit rows) (length rows) (unpacked (length rows) c.args.bypass) c.args.w.now (length-unpacked (length rows) c.args.bypass) c.place-place.ensures.small

pub returns-in_err-put_bit_if : goal.returns-in_err-put_bit_if
unfolding bypass_bits seen
returns-in_err-put_bit_if c =
    let p = err_from_is_err_and c.from_residual.result c.from_residual.ensures.1 in
    let rows = c.args.rows.now in
    let n = length rows in
    let v = c.args.bypass in
    let i = c.loop-i.i in
    let xs = unpacked n v in
    let e = rw (← next_is rows n i v c.loop-i-test.true) at c.in_err-put_bit_if.ensures.err in
    rw p.1 (record {
      ok = tt;
      err = series_filled (bypass_bit rows) xs i _ (omega (arith, length-unpacked n v, c.loop-i-test.true)) (sym (unpacked-at n i v _ c.loop-i-test.true)) c.args.w.now c.loop-i.w c.put_bit_if.new.w
          (series_text (bypass_bit rows) n xs) c.loop-i.invariant e;
    })

pub loop-i-preserved : goal.loop-i-preserved
loop-i-preserved c =
    let rows = c.args.rows.now in
    let n = length rows in
    let v = c.args.bypass in
    let i = c.loop-i.i in
    let xs = unpacked n v in
    let e = rw (← next_is rows n i v c.loop-i-test.true) at c.in_ok-put_bit_if.ensures.ok in
    series_wrote (bypass_bit rows) xs i _ (omega (arith, length-unpacked n v, c.loop-i-test.true)) (sym (unpacked-at n i v _ c.loop-i-test.true)) c.args.w.now c.loop-i.w c.put_bit_if.new.w (series_text (bypass_bit rows) n xs)
    c.loop-i.invariant e

pub returns : goal.returns
unfolding bypass_bits seen
returns c =
    let rows = c.args.rows.now in
    let xs = unpacked (length rows) c.args.bypass in
    record { ok = series_written (bypass_bit rows) xs c.loop-i.i c.args.w.now c.loop-i.w (series_text (bypass_bit rows) (length rows) xs) (omega (arith, length-unpacked (length rows) c.args.bypass)) c.loop-i.invariant; err = tt }
