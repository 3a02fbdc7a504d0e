use Rattle.std.proofs.Common.{◌≡◌, ℕ, suc, ◌+◌, ◌-◌, Bool, true, false, List, [], ◌∷◌, ◌++◌, Result, Option, Ok, Err, refl, sym, ap, subst, ◌∙◌, arith}
use Rattle.std.specs.Prelude.{IsErr, IfErr, MatchResult}
use Rattle.std.proofs.lemmas.Result.{err_from_is_err_and}
use Rattle.mlp_syntax.specs.declared.fault.Field.TheVariants.{BlockOverrun}
use Rattle.mlp_syntax.specs.declared.segment.BlockHead.{BlockHead}
use Rattle.mlp_syntax.specs.declared.segment.FrameCode.{FrameCode}
use Rattle.mlp_layout.specs.Reading.{Read}
use Rattle.mlp_layout.specs.Combined.{flag, up_to_last}
use Rattle.mlp_layout.proofs.Loops.{ValuesContinue, value_stops, bit_stops, is_last, values_go_on}
use Rattle.mlp_params.specs.declared.state.State.{State}
use Rattle.mlp_substream.specs.declared.known.Known.{Known}
use Rattle.mlp_substream.specs.declared.known.Place.{Place}
use Rattle.mlp_substream.specs.Blocks.{BlockContext, Block, block, after_head, after_block, force_after, context_of}
use Rattle.mlp_substream.specs.Segment.{heads_of, codes_of}
use Rattle.mlp_layout.proofs.Repeated.{no_front}
use Rattle.mlp_substream.proofs.ReadingLaws.{at_is, force_starts, out_filled, rest_stays, heads_of-push, codes_of-push, force_after-push}
use Rattle.mlp_substream.proofs.blocks.read_blocks.Goals as goal

-- one fewer of the turns that are left
fewer : (place : Place) (known : Known) (n m : ℕ) (at : BlockContext) (front : List Block) (all : List Bool) (p : ℕ) (total : Read (List Block)) → n ≡ m
    → ValuesContinue (block place known) (after_block place) BlockOverrun n at front all p total → ValuesContinue (block place known) (after_block place) BlockOverrun m at front all p total
fewer place known n m at front all p total e h = subst (λ (k : ℕ). ValuesContinue (block place known) (after_block place) BlockOverrun k at front all p total) e h

only_err : {A E : Type 0} (r : Result A E) (P : A → Type 0) (Q R : E → Type 0) → IsErr r → IfErr r Q → ((e : E) → Q e → R e) → MatchResult r P R
only_err (Ok x) P Q R fails h f = absurd cc
only_err (Err e) P Q R fails h f = f e h

pub loop-count-init : goal.loop-count-init
unfolding heads_of codes_of
loop-count-init c =
    record {
      done = [];
      so_far = no_front _;
      rest_is = refl;
      heads_are = refl;
      codes_are = refl;
      force_is = force_starts c.args.place.now c.args.state.now;
      enough = omega arith;
      frames_enough = omega arith;
      few = omega arith;
      least = omega arith;
      state_is = c.requires.state;
      same_bits = refl;
      moved = omega arith;
    }

pub read_block_behind-requires-clause-state : goal.read_block_behind-requires-clause-state
read_block_behind-requires-clause-state c = c.loop-count.invariant.state_is

pub read_block_behind-requires-clause-heads : goal.read_block_behind-requires-clause-heads
read_block_behind-requires-clause-heads c = c.loop-count.invariant.enough

pub read_block_behind-requires-clause-first : goal.read_block_behind-requires-clause-first
read_block_behind-requires-clause-first c = c.loop-count.invariant.frames_enough

pub read_block_behind-requires-clause-few : goal.read_block_behind-requires-clause-few
read_block_behind-requires-clause-few c = c.loop-count.invariant.few

pub returns-in_err-frames-clause-read : goal.returns-in_err-frames-clause-read
returns-in_err-frames-clause-read c =
    let i = c.loop-count.invariant in
    let p = err_from_is_err_and c.from_residual.result c.from_residual.ensures.1 in
    let n = 21 - (c.loop-count.count + 1) in
    let at = context_of c.loop-count.state c.loop-count.frames c.loop-count.due in
    let here = fewer c.args.place.now c.args.known.now (21 - c.loop-count.count) (suc n) at i.done c.loop-count.r.all c.loop-count.r.place _ (omega arith) i.so_far in
    rw (p.1, p.2) (value_stops (block c.args.place.now c.args.known.now) (after_block c.args.place.now) BlockOverrun n at i.done c.loop-count.r.all c.loop-count.r.place _ here c.in_err-frames.field-0.0 c.in_err-frames.ensures.read)

pub returns-in_err-last-clause-read : goal.returns-in_err-last-clause-read
returns-in_err-last-clause-read c =
    let i = c.loop-count.invariant in
    let p = err_from_is_err_and c.from_residual-in_err-last.result c.from_residual-in_err-last.ensures.1 in
    let n = 21 - (c.loop-count.count + 1) in
    let at = context_of c.loop-count.state c.loop-count.frames c.loop-count.due in
    let here = fewer c.args.place.now c.args.known.now (21 - c.loop-count.count) (suc n) at i.done c.loop-count.r.all c.loop-count.r.place _ (omega arith) i.so_far in
    let b = c.in_ok-frames.ensures.read in
    let one : Block = record { head = b.0; frames = b.1 } in
    let no-flag = subst (λ (all : List Bool). flag.read all c.read_block_behind.new.r.place ≡ Err c.in_err-last.field-0.0) c.in_ok-frames.ensures.moved.0 c.in_err-last.ensures in
    rw (p.1, p.2) (bit_stops (block c.args.place.now c.args.known.now)
    (after_block c.args.place.now) BlockOverrun n at i.done c.loop-count.r.all c.loop-count.r.place _ here one c.read_block_behind.new.r.place b.2 c.in_err-last.field-0.0 no-flag)

pub returns-then-last-clause-read : goal.returns-then-last-clause-read
returns-then-last-clause-read c =
    let i = c.loop-count.invariant in
    let n = 21 - (c.loop-count.count + 1) in
    let at = context_of c.loop-count.state c.loop-count.frames c.loop-count.due in
    let here = fewer c.args.place.now c.args.known.now (21 - c.loop-count.count) (suc n) at i.done c.loop-count.r.all c.loop-count.r.place _ (omega arith) i.so_far in
    let b = c.in_ok-frames.ensures.read in
    let out = c.read_block_behind.new.out in
    let one : Block = record { head = b.0; frames = b.1 } in
    let more = i.done ++ one ∷ [] in
    let read = rw c.if-last.true at c.in_ok-last.ensures.0 in
    let last = subst (λ (all : List Bool). flag.read all c.read_block_behind.new.r.place ≡ Ok (true, c.flag.new.r.place)) c.in_ok-frames.ensures.moved.0 read in
    let heads = b.3 ∙ ap (λ (hs : List BlockHead). hs ++ b.0 ∷ []) i.heads_are ∙ sym (heads_of-push i.done one) in
    let codes = b.4 ∙ ap (λ (cs : List FrameCode). cs ++ b.1) i.codes_are ∙ sym (codes_of-push i.done one) in
    let rest = rest_stays out c.loop-count.out c.args.out.now c.read_block_behind.ensures.rest i.rest_is in
    let force = b.5 ∙ ap (λ (s : Option State). after_head c.args.place.now s b.0) i.force_is ∙ sym (force_after-push c.args.place.now c.args.state.now (heads_of i.done) b.0)
    ∙ ap (force_after c.args.place.now c.args.state.now) (sym (heads_of-push i.done one)) in (
      more,
      is_last (block c.args.place.now c.args.known.now) (after_block c.args.place.now) BlockOverrun n at i.done c.loop-count.r.all c.loop-count.r.place _ here one c.read_block_behind.new.r.place b.2 c.flag.new.r.place last,
      out_filled out c.args.out.now more c.truncate.new.self.items c.truncate-then-last.new.self.items rest (c.truncate.ensures.items ∙ heads) (c.truncate-then-last.ensures.items ∙ codes),
      force,
    )

pub returns-then-last-clause-moved : goal.returns-then-last-clause-moved
returns-then-last-clause-moved c =
    let i = c.loop-count.invariant in
    let m = c.in_ok-frames.ensures.moved in
    (c.in_ok-last.ensures.1 ∙ m.0 ∙ i.same_bits, omega (arith, i.moved, m.1, c.in_ok-last.ensures.2))

pub read_beyond-requires-clause-state : goal.read_beyond-requires-clause-state
read_beyond-requires-clause-state c = c.loop-count.invariant.state_is

pub read_beyond-requires-clause-first : goal.read_beyond-requires-clause-first
read_beyond-requires-clause-first c = c.loop-count.invariant.frames_enough

pub read_beyond-requires-clause-few : goal.read_beyond-requires-clause-few
read_beyond-requires-clause-few c = c.loop-count.invariant.few

pub read_beyond-requires-clause-full : goal.read_beyond-requires-clause-full
read_beyond-requires-clause-full c = let least = c.loop-count.invariant.least in omega (arith, least, c.requires.place.most)

pub returns-clause-read : goal.returns-clause-read
returns-clause-read c =
    let i = c.loop-count.invariant in
    let at = context_of c.loop-count.state c.loop-count.frames c.loop-count.due in
    let here = fewer c.args.place.now c.args.known.now (21 - c.loop-count.count) 1 at i.done c.loop-count.r.all c.loop-count.r.place _ (omega arith) i.so_far in
    only_err c.read_beyond.result _ _ _ c.read_beyond.ensures.fails c.read_beyond.ensures.read
    (λ e h. value_stops (block c.args.place.now c.args.known.now) (after_block c.args.place.now) BlockOverrun 0 at i.done c.loop-count.r.all c.loop-count.r.place _ here e h)

pub loop-count-preserved : goal.loop-count-preserved
loop-count-preserved c =
    let i = c.loop-count.invariant in
    let place = c.args.place.now in
    let n = 21 - (c.loop-count.count + 1) in
    let at = context_of c.loop-count.state c.loop-count.frames c.loop-count.due in
    let start = fewer c.args.place.now c.args.known.now (21 - c.loop-count.count) (suc n) at i.done c.loop-count.r.all c.loop-count.r.place _ (omega arith) i.so_far in
    let e = c.in_ok-frames.ensures in
    let b = e.read in
    let out = c.read_block_behind.new.out in
    let one : Block = record { head = b.0; frames = b.1 } in
    let more = i.done ++ one ∷ [] in
    let read = rw c.if-last.false at c.in_ok-last.ensures.0 in
    let other = subst (λ (all : List Bool). flag.read all c.read_block_behind.new.r.place ≡ Ok (false, c.flag.new.r.place)) e.moved.0 read in
    let on = values_go_on (block c.args.place.now c.args.known.now) (after_block c.args.place.now) BlockOverrun n at i.done c.loop-count.r.all c.loop-count.r.place _ start one c.read_block_behind.new.r.place b.2 c.flag.new.r.place other in
    let total = (up_to_last (block c.args.place.now c.args.known.now) (after_block c.args.place.now) BlockOverrun 21 (context_of c.args.state.now 0 c.args.place.now.major)).read c.args.r.now.all c.args.r.now.place in
    let same = at_is (after_head c.args.place.now c.loop-count.state b.0) c.read_block_behind.new.state (c.loop-count.frames + b.0.frames) c.in_ok-frames.frames false (sym b.5) (sym b.6) in
    let here = subst (λ (a : BlockContext). ValuesContinue (block c.args.place.now c.args.known.now) (after_block c.args.place.now) BlockOverrun n a more c.loop-count.r.all c.flag.new.r.place total) same on in
    let bits-are = c.in_ok-last.ensures.1 ∙ e.moved.0 in
    let there = subst (λ (all : List Bool). ValuesContinue (block c.args.place.now c.args.known.now) (after_block c.args.place.now) BlockOverrun n
    (context_of c.read_block_behind.new.state c.in_ok-frames.frames false) more all c.flag.new.r.place total) (sym bits-are) here in
    record {
      done = more;
      so_far = there;
      rest_is = rest_stays out c.loop-count.out c.args.out.now e.rest i.rest_is;
      heads_are = b.3 ∙ ap (λ (hs : List BlockHead). hs ++ b.0 ∷ []) i.heads_are ∙ sym (heads_of-push i.done one);
      codes_are = b.4 ∙ ap (λ (cs : List FrameCode). cs ++ b.1) i.codes_are ∙ sym (codes_of-push i.done one);
      force_is = b.5 ∙ ap (λ (s : Option State). after_head c.args.place.now s b.0) i.force_is ∙ sym (force_after-push c.args.place.now c.args.state.now (heads_of i.done) b.0)
          ∙ ap (force_after c.args.place.now c.args.state.now) (sym (heads_of-push i.done one));
      enough = e.heads;
      frames_enough = e.frames;
      few = e.few;
      least = let l = b.6 in let k = b.7 in omega (arith, i.least, l, k);
      state_is = e.state;
      same_bits = bits-are ∙ i.same_bits;
      moved = omega (arith, i.moved, e.moved.1, c.in_ok-last.ensures.2);
    }
