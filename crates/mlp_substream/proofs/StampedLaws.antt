-- Restarts with another output timing.
use Rattle.std.proofs.Common.{◌≡◌, ℕ, zero, suc, ◌+◌, ◌-◌, ◌<◌, ◌^◌, Bool, true, false, eqb, List, [], ◌∷◌, ◌++◌, length, take, drop, map, Option, Some, None, refl, sym, ap, ◌∙◌, arith}
use Rattle.std.proofs.lemmas.Bool.{eq-eqb}
use Rattle.std.proofs.lemmas.List.{length-append}
use Rattle.mlp_syntax.specs.declared.major.Kind.{Kind}
use Rattle.mlp_syntax.specs.declared.restart.Restart.{Restart}
use Rattle.mlp_syntax.specs.declared.params.Params.{Params}
use Rattle.mlp_syntax.specs.declared.segment.BlockHead.{BlockHead}
use Rattle.mlp_syntax.specs.declared.segment.FrameCode.{FrameCode}
use Rattle.mlp_syntax.specs.declared.segment.Segment.{Segment}
use Rattle.mlp_bits.specs.Bits.{bits}
use Rattle.mlp_bits.specs.Checks.{restart_check_of, modulus_restart}
use Rattle.mlp_bits.proofs.Remainders.{rem_from-smaller}
use Rattle.mlp_layout.specs.Layout.{number_of, seen, ruled, tested, part, made, item, never}
use Rattle.mlp_layout.specs.Combined.{under, flag, fixed, checked, chosen, present, up_to_last}
use Rattle.mlp_params.specs.declared.state.State.{State}
use Rattle.mlp_params.specs.RestartHeader.{restart_fields, restart}
use Rattle.mlp_params.specs.InForce.{in_force}
use Rattle.mlp_params.specs.Applied.{applied}
use Rattle.mlp_params.specs.Parameters.{params, groups}
use Rattle.mlp_params.specs.Matrices.{rows, row}
use Rattle.mlp_residual.specs.Frames.{frames_of}
use Rattle.mlp_substream.specs.declared.known.Place.{Place}
use Rattle.mlp_substream.specs.declared.known.Ending.{Ending}
use Rattle.mlp_substream.specs.declared.known.Known.{Known}
use Rattle.mlp_substream.specs.Restarts.{judged_restart, covers, flags}
use Rattle.mlp_substream.specs.Blocks.{against, context_of, Block, block, head, behind_flags, after_head, force_after}
use Rattle.mlp_substream.specs.Segment.{nested, codes_of, same_end, frames_fit, end_fault, terminator_bits, end_rules, blocks_from, segment, IsAllowed}
use Rattle.mlp_substream.specs.Timings.{SameButForTiming, stamp, stamp_head, stamped}
use Rattle.mlp_substream.proofs.SegmentChanges.{Leads, weaker_leads, blocks_in, with_heads, segment_long, segment_allowed}
use Rattle.mlp_substream.proofs.FreshLaws.{restarting}
use Rattle.mlp_substream.proofs.TimingLaws.{plain, plain_timing, head_timing}

-- ---- a restart

fields_stamped : (format : Kind) (r : Restart) (t : ℕ) → t < 2 ^ 16 → Leads (restart_fields format) (restart_fields format) r (stamp t r)
unfolding restart_fields part made fixed ruled number_of bits
fields_stamped format r t small = record {
  long = refl;
  allowed = λ a. let f = a.fits.1.1.1 in let m = a.meets.1.1.1 in record {
    fits = (
      a.fits.0,
      (
        a.fits.1.0,
        (
          small,
          (
            f.0,
            (
              f.1.0,
              (
                f.1.1.0,
                (
                  f.1.1.1.0,
                  (
                    f.1.1.1.1.0,
                    (
                      f.1.1.1.1.1.0,
                      (
                        f.1.1.1.1.1.1.0,
                        (f.1.1.1.1.1.1.1.0, (f.1.1.1.1.1.1.1.1.0, (f.1.1.1.1.1.1.1.1.1.0, refl))),
                      ),
                    ),
                  ),
                ),
              ),
            ),
          ),
        ),
      ),
    );
    meets = (
      a.meets.0,
      (
        a.meets.1.0,
        (
          tt,
          (
            m.0,
            (
              m.1.0,
              (
                m.1.1.0,
                (
                  m.1.1.1.0,
                  (
                    m.1.1.1.1.0,
                    (
                      m.1.1.1.1.1.0,
                      (
                        m.1.1.1.1.1.1.0,
                        (m.1.1.1.1.1.1.1.0, (m.1.1.1.1.1.1.1.1.0, (m.1.1.1.1.1.1.1.1.1.0, tt))),
                      ),
                    ),
                  ),
                ),
              ),
            ),
          ),
        ),
      ),
    );
  };
}

grow : (a b c d : List Bool) → length a ≡ length b → length c ≡ length d → length (a ++ c) ≡ length (b ++ d)
grow a b c d e f = length-append a c ∙ rw (e, f) (sym (length-append b d))

covers_same : (o : Option ℕ) (r : Restart) (t : ℕ) → covers o (stamp t r) ≡ covers o r
covers_same None r t = refl
covers_same (Some c) r t = refl

judged_stamped : (known : Known) (format : Kind) (r : Restart) (t : ℕ) → t < 2 ^ 16 → Leads (judged_restart known format) (judged_restart known format) r (stamp t r)
unfolding judged_restart under ruled restart checked fixed part made number_of bits
judged_stamped known format r t small =
    let l = fields_stamped format r t small in
    let check : ℕ = restart_check_of ((restart_fields format).spelling (stamp t r)) in
    let bound : check < 2 ^ 8 = rem_from-smaller modulus_restart 0 ((restart_fields format).spelling (stamp t r)) (omega arith) (omega arith) in
    let same : eqb check check ≡ true = eq-eqb check check refl in
    record {
      long = grow ((restart_fields format).spelling (stamp t r)) ((restart_fields format).spelling r) _ _ l.long refl;
      allowed = λ a.
          let m = l.allowed (record { fits = a.fits.0; meets = a.meets.0.0.0.0 }) in
          record {
            fits = (m.fits, (bound, refl));
            meets = ((((m.meets, ((tt, rw same refl), tt)), a.meets.0.0.1), rw (covers_same known.covered r t) a.meets.0.1), a.meets.1);
          };
    }

-- ---- a block

grow3 : (x j k z y : List Bool) → length j ≡ length k → length ((x ++ (j ++ z)) ++ y) ≡ length ((x ++ (k ++ z)) ++ y)
grow3 x j k z y e = grow (x ++ (j ++ z)) (x ++ (k ++ z)) y y (grow x x (j ++ z) (k ++ z) refl (grow j k z z e refl)) refl

abbrev stamp_block : ℕ → Block → Block
stamp_block t b = record b { head = stamp_head t b.head }

-- with a restart: what is in force before it isn't looked at, and its output timing may be another
restarting_stamped : (place : Place) (known : Known) (f g : Option State) (so_far : ℕ) (due : Bool) (r : Restart) (p : Option Params) (n : ℕ) (fs : List FrameCode) (t : ℕ) → t < 2 ^ 16
    → Leads (block place known (context_of f so_far due)) (block place known (context_of g so_far due)) (restarting r p n fs) (restarting (stamp t r) p n fs)
unfolding block head behind_flags part made tested against present chosen seen params groups rows row frames_of
restarting_stamped place known f g so_far due r None n fs t small =
    let j = judged_stamped known place.format r t small in
    let s = in_force place.format place.unit_frames r [] in
    record {
      long = grow3 ((flags due).spelling (false, true)) ((judged_restart known place.format).spelling (stamp t r)) ((judged_restart known place.format).spelling r) [] ((frames_of s n).spelling fs ++ []) j.long;
      allowed = λ a.
          let m = j.allowed (record { fits = a.fits.0.1.0.0; meets = a.meets.0.1.0 }) in
          let same = ap (λ (h : BlockHead). record h { restart = Some (stamp t r) }) a.fits.0.1.1.1 in
          record { fits = ((a.fits.0.0, ((m.fits, refl), (a.fits.0.1.1.0, same))), (a.fits.1.0, refl)); meets = ((a.meets.0.0, (m.meets, a.meets.0.1.1)), a.meets.1) };
    }
restarting_stamped place known f g so_far due r (Some p) n fs t small =
    let j = judged_stamped known place.format r t small in
    let s = in_force place.format place.unit_frames r [] in
    record {
      long = grow3 ((flags due).spelling (true, true)) ((judged_restart known place.format).spelling (stamp t r)) ((judged_restart known place.format).spelling r)
          ((params s).spelling p ++ []) ((frames_of (applied s p) n).spelling fs ++ []) j.long;
      allowed = λ a.
          let m = j.allowed (record { fits = a.fits.0.1.0.0; meets = a.meets.0.1.0 }) in
          let same = ap (λ (h : BlockHead). record h { restart = Some (stamp t r) }) a.fits.0.1.1.1 in
          record { fits = ((a.fits.0.0, ((m.fits, refl), (a.fits.0.1.1.0, same))), (a.fits.1.0, refl)); meets = ((a.meets.0.0, (m.meets, a.meets.0.1.1)), a.meets.1) };
    }

module _ (place : Place) (known : Known) (t : ℕ) (small : t < 2 ^ 16) where
  block_stamped : (f g : Option State) (so_far : ℕ) (due : Bool) (b : Block) → SameButForTiming f g → Leads (block place known (context_of f so_far due)) (block place known (context_of g so_far due)) b (stamp_block t b)
  block_stamped f g so_far due b e = go b.head.restart b.head.params b.head.frames b.frames
    where
      go : (o : Option Restart) (p : Option Params) (n : ℕ) (fs : List FrameCode)
          → (let b : Block = record { head = record { restart = o; params = p; frames = n }; frames = fs } in Leads (block place known (context_of f so_far due)) (block place known (context_of g so_far due)) b (stamp_block t b))
      go None p n fs = weaker_leads (block place known (context_of f so_far due)) (block place known (context_of g so_far due)) (plain p n fs) (plain_timing place known so_far due f g e p n fs)
      go (Some r) p n fs = restarting_stamped place known f g so_far due r p n fs t small

-- ---- what is in force behind it

head_stamped : (place : Place) (t : ℕ) (f g : Option State) (h : BlockHead) → SameButForTiming f g → SameButForTiming (after_head place f h) (after_head place g (stamp_head t h))
head_stamped place t f g h e = go h.restart h.params h.frames
  where
    go : (o : Option Restart) (p : Option Params) (n : ℕ) → (let i : BlockHead = record { restart = o; params = p; frames = n } in SameButForTiming (after_head place f i) (after_head place g (stamp_head t i)))
    go None p n = head_timing place f g (record { restart = None; params = p; frames = n }) e
    go (Some r) None n = refl
    go (Some r) (Some p) n = refl

pub force_stamped : (place : Place) (t : ℕ) (f g : Option State) (hs : List BlockHead) → SameButForTiming f g → SameButForTiming (force_after place f hs) (force_after place g (map (stamp_head t) hs))
force_stamped place t f g [] e = e
force_stamped place t f g (h ∷ hs) e = force_stamped place t (after_head place f h) (after_head place g (stamp_head t h)) hs (head_stamped place t f g h e)

-- ---- all blocks

module _ (place : Place) (known : Known) (t : ℕ) (small : t < 2 ^ 16) where
  blocks_stamped : (n : ℕ) (f g : Option State) (so_far : ℕ) (due : Bool) (hs : List BlockHead) (cs : List FrameCode) → SameButForTiming f g
      → Leads (blocks_from place known n (context_of f so_far due)) (blocks_from place known n (context_of g so_far due)) (nested hs cs) (nested (map (stamp_head t) hs) cs)
  unfolding up_to_last never item part chosen made nested
  blocks_stamped zero f g so_far due hs cs e = record { long = refl; allowed = λ a. absurd a.fits }
  blocks_stamped (suc n) f g so_far due [] cs e = record { long = refl; allowed = λ a. absurd a.fits }
  blocks_stamped (suc n) f g so_far due (h ∷ []) cs e =
      let b : Block = record { head = h; frames = take h.frames cs } in
      let w = block_stamped place known t small f g so_far due b e in
      record {
        long = grow ((block place known (context_of g so_far due)).spelling (stamp_block t b)) ((block place known (context_of f so_far due)).spelling b) (flag.spelling true ++ []) (flag.spelling true ++ []) w.long refl;
        allowed = λ a. let v = w.allowed (record { fits = a.fits.0; meets = a.meets.0 }) in record { fits = (v.fits, a.fits.1); meets = (v.meets, a.meets.1) };
      }
  blocks_stamped (suc n) f g so_far due (h ∷ i ∷ hs) cs e =
      let b : Block = record { head = h; frames = take h.frames cs } in
      let w = block_stamped place known t small f g so_far due b e in
      let v = blocks_stamped n (after_head place f h) (after_head place g (stamp_head t h)) (so_far + h.frames) false (i ∷ hs) (drop h.frames cs) (head_stamped place t f g h e) in
      let new = (blocks_from place known n (context_of (after_head place g (stamp_head t h)) (so_far + h.frames) false)).spelling (nested (map (stamp_head t) (i ∷ hs)) (drop h.frames cs)) in
      let old = (blocks_from place known n (context_of (after_head place f h) (so_far + h.frames) false)).spelling (nested (i ∷ hs) (drop h.frames cs)) in
      record {
        long = grow ((block place known (context_of g so_far due)).spelling (stamp_block t b)) ((block place known (context_of f so_far due)).spelling b)
            (flag.spelling false ++ new) (flag.spelling false ++ old) w.long (grow (flag.spelling false) (flag.spelling false) new old refl v.long);
        allowed = λ a.
            let first = w.allowed (record { fits = a.fits.0; meets = a.meets.0 }) in
            let rest = v.allowed (record { fits = a.fits.1.1; meets = a.meets.1.1 }) in
            record { fits = (first.fits, (a.fits.1.0, rest.fits)); meets = (first.meets, (a.meets.1.0, rest.meets)) };
      }

-- ---- the segment

codes_stamped : (t : ℕ) (hs : List BlockHead) (cs : List FrameCode) → codes_of (nested (map (stamp_head t) hs) cs) ≡ codes_of (nested hs cs)
unfolding codes_of nested
codes_stamped t [] cs = refl
codes_stamped t (h ∷ hs) cs = ap (λ (xs : List FrameCode). take h.frames cs ++ xs) (codes_stamped t hs (drop h.frames cs))

-- the rules at the end don't look at heads
ends_stamped : (known : Known) (unit all : ℕ) (hs : List BlockHead) (s : Segment) → end_rules known unit all s ≡ None → end_rules known unit all (with_heads hs s) ≡ None
unfolding end_rules
ends_stamped known unit all hs s e = go known.first e
  where
    go : (first : Option Ending) → end_fault (same_end first s) (frames_fit first unit s) (all - terminator_bits s) ≡ None
        → end_fault (same_end first (with_heads hs s)) (frames_fit first unit (with_heads hs s)) (all - terminator_bits s) ≡ None
    go None e = e
    go (Some k) e = e

module _ (place : Place) (known : Known) (force : Option State) (checked : Bool) (s : Segment) (t : ℕ) (small : t < 2 ^ 16) where
  heads : List BlockHead
  heads = map (stamp_head t) s.blocks.items

  leads : Leads (blocks_in place known force) (blocks_in place known force) (nested s.blocks.items s.codes.items) (nested heads s.codes.items)
  unfolding heads
  leads = blocks_stamped place known t small 21 force force 0 place.major s.blocks.items s.codes.items refl

  pub stamped_allowed : IsAllowed (segment place known force checked) s → IsAllowed (segment place known force checked) (stamped t s)
  unfolding heads
  stamped_allowed a = segment_allowed place known known force force s heads (codes_stamped t s.blocks.items s.codes.items) leads (λ n e. ends_stamped known place.unit_frames n heads s e) checked a

  pub stamped_long : length ((segment place known force checked).spelling (stamped t s)) ≡ length ((segment place known force checked).spelling s)
  unfolding heads
  stamped_long = segment_long place known known force force s heads (codes_stamped t s.blocks.items s.codes.items) leads checked
