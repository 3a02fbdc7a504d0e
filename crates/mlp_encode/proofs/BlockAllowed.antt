-- A block that is sent can be written where it stands.
use Rattle.std.proofs.Common.{◌≡◌, ℕ, ◌+◌, ◌≤◌, Bool, true, false, List, length, Option, Some, None, refl, sym, ap, ◌∙◌, subst}
use Rattle.std.specs.Prelude.{◌||◌, if◌then◌else◌, is_some, option_map}
use Rattle.std.proofs.lemmas.Bool.{le-leb}
use Rattle.mlp_syntax.specs.declared.params.Params.{Params}
use Rattle.mlp_syntax.specs.declared.restart.Restart.{Restart}
use Rattle.mlp_syntax.specs.declared.segment.BlockHead.{BlockHead}
use Rattle.mlp_syntax.specs.declared.segment.FrameCode.{FrameCode}
use Rattle.mlp_layout.specs.Layout.{Layout, number_of, seen, ruled, tested, part, made}
use Rattle.mlp_layout.specs.Combined.{under, flag, chosen, present}
use Rattle.mlp_layout.specs.Allowed.{Allowed}
use Rattle.mlp_layout.proofs.Fitting.{flag_fits}
use Rattle.mlp_params.specs.declared.state.State.{State}
use Rattle.mlp_params.specs.RestartHeader.{restart}
use Rattle.mlp_params.specs.Parameters.{params}
use Rattle.mlp_residual.specs.Frames.{steps_fit, frames_of}
use Rattle.mlp_substream.specs.declared.known.Place.{Place}
use Rattle.mlp_substream.specs.Restarts.{flags, judged_restart}
use Rattle.mlp_substream.specs.Blocks.{restarted, given, after_head, against, block_size_in, steps_fit_in, context_of, behind_flags, head, block}
use Rattle.mlp_substream.specs.Segment.{unknown}
use Rattle.mlp_params.specs.Applied.{applied}
use Rattle.mlp_fold.specs.declared.profile.Profile.{Profile}
use Rattle.mlp_fold.specs.declared.coding.CodedFrame.{CodedFrame}
use Rattle.mlp_encode.specs.Blocks.{Force, SentBlock, gives, params_of, codes_in, sent_in, given_in, block_sent}
use Rattle.mlp_encode.specs.Lawful.{IsSendable}
use Rattle.mlp_encode.proofs.SentParams.{params_allowed}
use Rattle.mlp_encode.proofs.SentStates.{given_applies}
use Rattle.mlp_encode.proofs.SentBlocks.{size_is, fits_steps, frames_there}
use Rattle.mlp_encode.proofs.FramesMeet.{frames_meet}

-- ---- the flags

flag_meets : (b : Bool) → flag.Meets b
unfolding flag seen number_of
flag_meets true = tt
flag_meets false = tt

pub flags_later : (given : Bool) → Allowed (flags false) (given, false)
unfolding flags under ruled part made chosen
flags_later true = record { fits = (flag_fits true, (flag_fits false, refl)); meets = (((flag_meets true, (flag_meets false, tt)), refl), refl) }
flags_later false = record { fits = (flag_fits false, (refl, refl)); meets = (((flag_meets false, (tt, tt)), refl), refl) }

pub flags_restart : Allowed (flags true) (true, true)
unfolding flags under ruled part made chosen
flags_restart = record { fits = (flag_fits true, (flag_fits true, refl)); meets = (((flag_meets true, (flag_meets true, tt)), refl), refl) }

-- ---- parts that are there or not

some_there : {A : Type 0} (l : Layout A) (x : A) → Allowed l x → Allowed (present true l) (Some x)
unfolding present chosen seen
some_there l x a = record { fits = (a.fits, refl); meets = a.meets }

none_there : {A : Type 0} (l : Layout A) → Allowed (present false l) None
unfolding present chosen made
none_there l = record { fits = refl; meets = tt }

there_or_not : {A : Type 0} (l : Layout A) (o : Option A) → ((x : A) → o ≡ Some x → Allowed l x) → Allowed (present (is_some o) l) o
there_or_not l None h = none_there l
there_or_not l (Some x) h = some_there l x (h x refl)

-- nothing is known of a restart
judged : (r : Restart) (place : Place) → Allowed (restart place.format) r → Allowed (judged_restart unknown place.format) r
unfolding judged_restart under ruled
judged r place a = record { fits = a.fits; meets = (((a.meets, refl), refl), refl) }

against_some : {A : Type 0} (s : State) (l : State → Layout A) (x : A) → Allowed (l s) x → Allowed (against (Some s) l) x
unfolding against
against_some s l x a = a

-- ---- a block

module _ (place : Place) (force : Option State) (o : Option Restart) (s : State) (written : Option Params) (codes : List FrameCode) (n so_far : ℕ) (due : Bool) where
  -- what stands behind its flags
  pub record BlockParts : Type 0 where
    pub flags_are : Allowed (flags due) (is_some written, is_some o)
    pub restart_is : (r : Restart) → o ≡ Some r → Allowed (restart place.format) r
    pub state_is : restarted place force o ≡ Some s
    pub params_are : (p : Params) → written ≡ Some p → Allowed (params s) p
    pub size_is : (given written s).block_size ≡ n
    pub steps_are : steps_fit (given written s) ≡ true
    pub room : so_far + n ≤ place.unit_frames
    pub frames_are : Allowed (frames_of (given written s) n) codes

  abbrev h : BlockHead
  h = record { restart = o; params = written; frames = n }

  module _ (b : BlockParts) where
    pub after_is : after_head place force h ≡ Some (given written s)
    after_is = ap (λ (f : Option State). option_map (given written) f) b.state_is

    params_there : Allowed (present (is_some written) (against (restarted place force o) params)) written
    params_there =
        subst (λ (f : Option State). Allowed (present (is_some written) (against f params)) written) (sym b.state_is) (there_or_not (against (Some s) params) written (λ p e. against_some s params p (b.params_are p e)))

    head_there : Allowed (head place unknown due force) h
    unfolding head behind_flags part made
    head_there =
        let r = there_or_not (judged_restart unknown place.format) o (λ r e. judged r place (b.restart_is r e)) in
        let p = params_there in
        let size : block_size_in (after_head place force h) ≡ n = ap block_size_in after_is ∙ b.size_is in
        record {
          fits = (b.flags_are.fits, (r.fits, (p.fits, ap (λ (m : ℕ). record { restart = o; params = written; frames = m }) (sym size))));
          meets = (b.flags_are.meets, (r.meets, (p.meets, tt)));
        }

    codes_there : Allowed (against (after_head place force h) (λ s. frames_of s n)) codes
    codes_there = subst (λ (f : Option State). Allowed (against f (λ s. frames_of s n)) codes) (sym after_is) (against_some (given written s) (λ s. frames_of s n) codes b.frames_are)

    pub block_there : Allowed (block place unknown (context_of force so_far due)) (record { head = h; frames = codes })
    unfolding block part tested made
    block_there =
        let steps : steps_fit_in (after_head place force h) ≡ true = ap steps_fit_in after_is ∙ b.steps_are in
        record {
          fits = (head_there.fits, (codes_there.fits, refl));
          meets = (head_there.meets, (steps, (le-leb (so_far + n) place.unit_frames b.room, (codes_there.meets, tt))));
        }

-- ---- a block that is sent

module _ (j : ℕ) (p : Profile) (o : Option Restart) (before : Force) (frames : List CodedFrame) (place : Place) (force : Option State) (so_far : ℕ) (due : Bool) (h : IsSendable j p (is_some o) before.state frames) where
  abbrev b : SentBlock
  b = block_sent j p o before frames

  abbrev all : Params
  all = params_of j p (is_some o) before.state (length frames) (sent_in j p (is_some o) before frames)

  abbrev gives_all : Option Params
  gives_all = given_in j p (is_some o) before frames

  applied_there : given gives_all before.state ≡ applied before.state all
  applied_there = given_applies (is_some o) all before.state refl refl

  params_there_in : (q : Params) → gives_all ≡ Some q → Allowed (params before.state) q
  params_there_in q e = pick (is_some o || gives all) e
    where
      pick : (t : Bool) → (if t then Some all else None) ≡ Some q → Allowed (params before.state) q
      pick true e = let same : all ≡ q = cc in subst (λ (x : Params). Allowed (params before.state) x) same (params_allowed j p (is_some o) before.state before.pasts frames h)
      pick false e = absurd (let t : None ≡ Some q = e in cc)

  frames_in : Allowed (frames_of (given gives_all before.state) (length frames)) b.codes
  unfolding block_sent
  frames_in =
      let fits = frames_there j p (is_some o) before.state before.pasts frames h in
      let there = subst (λ (s : State). (frames_of s (length frames)).Fits (codes_in s.rows.items (sent_in j p (is_some o) before frames) frames)) (sym applied_there) fits in
      record { fits = there; meets = frames_meet (given gives_all before.state) (length frames) _ there }

  pub sent_parts : Allowed (flags due) (is_some gives_all, is_some o) → ((r : Restart) → o ≡ Some r → Allowed (restart place.format) r) → restarted place force o ≡ Some before.state → so_far + length frames ≤ place.unit_frames
      → BlockParts place force o before.state gives_all b.codes (length frames) so_far due
  sent_parts f r s room = record {
    flags_are = f;
    restart_is = r;
    state_is = s;
    params_are = params_there_in;
    size_is = ap (λ (s : State). s.block_size) applied_there ∙ size_is j p (is_some o) before.state before.pasts frames h;
    steps_are = ap (λ (s : State). steps_fit s) applied_there ∙ fits_steps j p (is_some o) before.state before.pasts frames h;
    room = room;
    frames_are = frames_in;
  }
