use Rattle.std.proofs.Common.{◌≡◌, ℕ, ◌+◌, ◌<◌, List, Ok, Err, length, get_or, map, take, ap, sym, subst, ◌∙◌, arith}
use Rattle.std.proofs.lemmas.Result.{err_from_is_err_and}
use Rattle.std.proofs.lemmas.List.{take_more_set}
use Rattle.std.specs.Prelude.{slice_set}
use Rattle.arrayvec.proofs.ArrayVecLemmas.{items-with_items}
use Rattle.mlp_syntax.specs.declared.segment.Code.{Code}
use Rattle.mlp_syntax.specs.declared.segment.FrameCode.{FrameCode}
use Rattle.mlp_bits.specs.Bits.{bits_of}
use Rattle.mlp_residual.specs.Lookups.{channel_of, most_in}
use Rattle.mlp_residual.specs.Frames.{coded_frames}
use Rattle.mlp_residual.proofs.RunLaws.{FramesRead, none_read, one_more, without_bypass, all_read, then_fails, frame_reads, frame_fails, of_channels}
use Rattle.mlp_residual.proofs.runs.frames_of_channels.Goals as goal

pub loop-i-init : goal.loop-i-init
loop-i-init g c = record { from = omega arith; within = omega (arith, c.requires.room); so_far = none_read c.args.coding.now (bits_of c.args.bytes.now) c.args.place }

pub returns-then-end-last-clause-read : goal.returns-then-end-last-clause-read
returns-then-end-last-clause-read g c = all_read c.args.coding.now c.loop-i.i _ (bits_of c.args.bytes.now) c.args.place c.loop-i.end c.loop-i.invariant.so_far

pub returns-then-len-clause-read : goal.returns-then-len-clause-read
returns-then-len-clause-read g c = all_read c.args.coding.now c.loop-i.i _ (bits_of c.args.bytes.now) c.args.place c.loop-i.end c.loop-i.invariant.so_far

pub returns-in_err-end-clause-read : goal.returns-in_err-end-clause-read
returns-in_err-end-clause-read g c =
    let p = err_from_is_err_and c.from_residual.result c.from_residual.ensures.1 in
    let k = c.args.coding.now in
    rw (p.1, p.2) (then_fails k c.loop-i.i (length c.args.out.now) _ c.in_err-end.field-0.0 (bits_of c.args.bytes.now) c.args.place c.loop-i.end c.loop-i-test.true
    (frame_fails k (bits_of c.args.bytes.now) c.loop-i.end c.in_err-end.field-0.0 c.requires.bypass (of_channels c.lookups_by_value-channels.result k.channels.items (bits_of c.args.bytes.now) c.loop-i.end (Err c.in_err-end.field-0.0)
    (ap (map channel_of) c.lookups_by_value-channels.ensures ∙ c.requires.lookups.channels_are) c.in_err-end.ensures.read)) c.loop-i.invariant.so_far)

pub loop-i-preserved : goal.loop-i-preserved
loop-i-preserved g c =
    let i = c.loop-i.invariant in
    let k = c.args.coding.now in
    let all = bits_of c.args.bytes.now in
    let stood = (get_or c.loop-i.out c.loop-i.i c.index-out-i-in-loop-i.result).codes in
    let new = c.codes_ahead.new.codes in
    let kept : length new ≡ length stood.items = c.codes_ahead.auto.codes ∙ ap (λ (cs : List Code). length cs) c.as_mut_slice.ensures.value in
    let here : c.loop-i.i < length c.loop-i.out = omega arith in
    let codes = of_channels c.lookups_by_value-channels.result k.channels.items all c.loop-i.end _ (ap (map channel_of) c.lookups_by_value-channels.ensures ∙ c.requires.lookups.channels_are) c.in_ok-end.ensures.read in
    let more = one_more k c.loop-i.i (take c.loop-i.i c.loop-i.out) (without_bypass new) all c.args.place c.loop-i.end c.in_ok-end.end (frame_reads k new all c.loop-i.end c.in_ok-end.end c.requires.bypass codes) i.so_far in
    let set = subst (λ (fs : List FrameCode). FramesRead k (c.loop-i.i + 1) fs all c.args.place c.in_ok-end.end) (sym (take_more_set c.loop-i.out c.loop-i.i (without_bypass new) here)) more in
    let same : most_in c.lookups_by_value-channels.result ≡ most_in c.args.lookups.now.channels.items = ap most_in c.lookups_by_value-channels.ensures in
    record {
      from = omega (arith, i.from, c.in_ok-end.ensures.behind.0);
      within = omega (arith, same, c.requires.lookups.enough.codes, c.requires.room, c.if-end-last.false, c.in_ok-end.ensures.behind.1);
      so_far = subst (λ (cs : List Code). FramesRead k (c.loop-i.i + 1) (take (c.loop-i.i + 1) (slice_set c.loop-i.out c.loop-i.i (without_bypass cs))) all c.args.place c.in_ok-end.end) (sym (items-with_items stood new kept)) set;
    }

pub returns-clause-read : goal.returns-clause-read
returns-clause-read g c =
    let n = length c.loop-i.out in
    let end : c.loop-i.i ≡ n = omega arith in
    let read = all_read c.args.coding.now c.loop-i.i (take c.loop-i.i c.loop-i.out) (bits_of c.args.bytes.now) c.args.place c.loop-i.end c.loop-i.invariant.so_far in
    subst (λ (m : ℕ). (coded_frames c.args.coding.now m).read (bits_of c.args.bytes.now) c.args.place ≡ Ok (take m c.loop-i.out, c.loop-i.end)) end read
