use Rattle.std.proofs.Common.{◌≡◌, ◌+◌, ◌<◌, ◌≤◌, Bool, List, take, Option, Ok, Err, sym, ap, subst, ◌∙◌, arith}
use Rattle.std.proofs.lemmas.Result.{err_from_is_err_and}
use Rattle.mlp_params.specs.declared.state.State.{State}
use Rattle.mlp_residual.specs.Frames.{frames_of}
use Rattle.mlp_substream.specs.Blocks.{against, steps_fit_in, context_of}
use Rattle.mlp_substream.proofs.ReadingLaws.{appended, block_head_fails, block_step_fails, block_overruns, block_frames_fail, block_reads, least_frames}
use Rattle.mlp_substream.proofs.blocks.read_block.Goals as goal

pub returns-in_err-read_head-clause-read : goal.returns-in_err-read_head-clause-read
returns-in_err-read_head-clause-read c =
    let p = err_from_is_err_and c.from_residual.result c.from_residual.ensures.1 in
    rw (p.1, p.2) (block_head_fails c.args.place.now c.args.known.now (context_of c.args.state.now c.args.first c.args.due) c.args.r.now.all c.args.r.now.place c.in_err-read_head.field-0.0 c.in_err-read_head.ensures.read)

pub returns-then-not-have_steps_fit-clause-read : goal.returns-then-not-have_steps_fit-clause-read
returns-then-not-have_steps_fit-clause-read c =
    let h = c.in_ok-read_head.ensures in
    let late = ap steps_fit_in (sym h.force) ∙ sym c.have_steps_fit.ensures ∙ c.if-not-have_steps_fit.true in
    rw (c.broken.ensures, c.place-at.ensures.value)
    (block_step_fails c.args.place.now c.args.known.now (context_of c.args.state.now c.args.first c.args.due) c.args.r.now.all c.args.r.now.place c.read_head.new.out c.read_head.new.r.place h.read.0 late)

pub returns-then-first-from-clause-read : goal.returns-then-first-from-clause-read
returns-then-first-from-clause-read c =
    let h = c.in_ok-read_head.ensures in
    let fit = ap steps_fit_in (sym h.force) ∙ sym c.have_steps_fit.ensures ∙ c.if-not-have_steps_fit.false in
    let full : c.args.place.now.unit_frames < c.args.first + c.read_head.new.out.frames = omega arith in
    rw (c.broken-then-first-from.ensures, c.place-at.ensures.value)
    (block_overruns c.args.place.now c.args.known.now (context_of c.args.state.now c.args.first c.args.due) c.args.r.now.all c.args.r.now.place c.read_head.new.out c.read_head.new.r.place h.read.0 fit full)

pub returns-in_err-read_codes-clause-read : goal.returns-in_err-read_codes-clause-read
returns-in_err-read_codes-clause-read c =
    let p = err_from_is_err_and c.from_residual-in_err-read_codes.result c.from_residual-in_err-read_codes.ensures.1 in
    let h = c.in_ok-read_head.ensures in
    let n = c.read_head.new.out.frames in
    let fit = ap steps_fit_in (sym h.force) ∙ sym c.have_steps_fit.ensures ∙ c.if-not-have_steps_fit.false in
    let room : c.args.first + n ≤ c.args.place.now.unit_frames = omega arith in
    let here = subst (λ (b : List Bool). (against c.read_head.new.state (λ s. frames_of s n)).read b c.read_head.new.r.place ≡ Err c.in_err-read_codes.field-0.0) h.read.1 c.in_err-read_codes.ensures.read in
    let there = subst (λ (s : Option State). (against s (λ s. frames_of s n)).read c.args.r.now.all c.read_head.new.r.place ≡ Err c.in_err-read_codes.field-0.0) h.force here in
    rw (p.1, p.2) (block_frames_fail c.args.place.now c.args.known.now (context_of c.args.state.now c.args.first c.args.due) c.args.r.now.all
    c.args.r.now.place c.read_head.new.out c.read_head.new.r.place h.read.0 fit room c.in_err-read_codes.field-0.0 there)

pub returns-clause-read : goal.returns-clause-read
returns-clause-read c =
    let h = c.in_ok-read_head.ensures in
    let n = c.read_head.new.out.frames in
    let fit = ap steps_fit_in (sym h.force) ∙ sym c.have_steps_fit.ensures ∙ c.if-not-have_steps_fit.false in
    let room : c.args.first + n ≤ c.args.place.now.unit_frames = omega arith in
    let more = appended (take c.args.first c.args.codes.now.items) (take (c.args.first + c.read_head.new.out.frames) c.read_codes.new.codes.items) c.read_codes.new.r.place _ c.in_ok-read_codes.ensures.read.0 in
    let here = subst (λ (b : List Bool). (against c.read_head.new.state (λ s. frames_of s n)).read b c.read_head.new.r.place ≡ Ok (more.items, c.read_codes.new.r.place)) h.read.1 more.read_is in
    let there = subst (λ (s : Option State). (against s (λ s. frames_of s n)).read c.args.r.now.all c.read_head.new.r.place ≡ Ok (more.items, c.read_codes.new.r.place)) h.force here in (
      more.items,
      block_reads c.args.place.now c.args.known.now (context_of c.args.state.now c.args.first c.args.due) c.args.r.now.all
          c.args.r.now.place c.read_head.new.out c.read_head.new.r.place h.read.0 fit room more.items c.read_codes.new.r.place there,
      more.after_is,
    )

pub returns-clause-count : goal.returns-clause-count
returns-clause-count c =
    let h = c.in_ok-read_head.ensures in
    let more = appended (take c.args.first c.args.codes.now.items) (take (c.args.first + c.read_head.new.out.frames) c.read_codes.new.codes.items) c.read_codes.new.r.place _ c.in_ok-read_codes.ensures.read.0 in
    let least = least_frames c.args.place.now c.read_head.new.state (λ s. frames_of s c.read_head.new.out.frames) c.read_head.new.r.all c.read_head.new.r.place c.read_codes.new.r.place more.items h.state more.read_is in
    (c.in_ok-read_codes.ensures.enough, omega (arith, least, h.frames), omega arith)
