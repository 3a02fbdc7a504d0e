-- The channels of a block, one after the other.
use Rattle.std.proofs.Common.{◌≡◌, ◌≢◌, ℕ, ◌+◌, ◌<◌, ◌≤◌, true, false, List, length, Some, ℤ, refl, sym, ap, ◌∙◌, subst, arith, inl, inr}
use Rattle.std.proofs.Math.ListN.{set}
use Rattle.std.proofs.lemmas.Bool.{cases_eq, cases_lt}
use Rattle.std.proofs.lemmas.List.{length-set, get_or-set_same, get_or-set_other}
use Rattle.mlp_syntax.specs.declared.segment.BlockHead.{BlockHead}
use Rattle.mlp_syntax.specs.declared.segment.FrameCode.{FrameCode}
use Rattle.mlp_params.specs.declared.state.State.{State}
use Rattle.mlp_predict.specs.Prediction.{Past, zeros}
use Rattle.mlp_predict.specs.Outputs.{Frame, outputs_from, past_from}
use Rattle.mlp_channels.specs.Channels.{is_coded, block_frames, column}
use Rattle.mlp_channels.specs.Playing.{past_of_channel, HasPlayedBlock}
use Rattle.mlp_channels.proofs.CodedLaws.{coded_between, uncoded_below, uncoded_above, uncoded_frames}

-- the channels below one have been played, the others are as they were
pub record Along (s : State) (h : BlockHead) (codes : List FrameCode) (at : ℕ) (before now : List Past) (old new : List (List ℤ)) : Type 0 where
  pub coded : (c : ℕ) → c < at → is_coded s c ≡ true → column c new ≡ outputs_from 8 4 (past_of_channel before c) (block_frames (Some s) h c codes)
  pub others : (c : ℕ) → c < at → is_coded s c ≡ false → column c new ≡ column c old
  pub later : (c : ℕ) → at ≤ c → column c new ≡ column c old
  pub pasts : (c : ℕ) → c < at → past_of_channel now c ≡ past_from 8 4 (past_of_channel before c) (block_frames (Some s) h c codes)
  pub later_pasts : (c : ℕ) → at ≤ c → past_of_channel now c ≡ past_of_channel before c
  pub count : length now ≡ length before

-- a channel that isn't coded keeps its past
stays : (s : State) (h : BlockHead) (c : ℕ) (codes : List FrameCode) (past : Past) → is_coded s c ≡ false → past ≡ past_from 8 4 past (block_frames (Some s) h c codes)
stays s h c codes past e = sym (ap (λ (fs : List Frame). past_from 8 4 past fs) (uncoded_frames (Some s) h c codes e))

pub along_none : (s : State) (h : BlockHead) (codes : List FrameCode) (pasts : List Past) (frames : List (List ℤ)) → Along s h codes s.restart.min pasts pasts frames frames
along_none s h codes pasts frames = record {
  coded = λ c l e. absurd (let below = uncoded_below s c l in cc);
  others = λ c l e. refl;
  later = λ c l. refl;
  pasts = λ c l. stays s h c codes (past_of_channel pasts c) (uncoded_below s c l);
  later_pasts = λ c l. refl;
  count = refl;
}

-- what playing one channel does
pub record PlaysOne (s : State) (h : BlockHead) (codes : List FrameCode) (at : ℕ) (before after : Past) (old new : List (List ℤ)) : Type 0 where
  pub channel : column at new ≡ outputs_from 8 4 before (block_frames (Some s) h at codes)
  pub others : (c : ℕ) → c ≢ at → column c new ≡ column c old
  pub past : after ≡ past_from 8 4 before (block_frames (Some s) h at codes)

module _ (s : State) (h : BlockHead) (codes : List FrameCode) (at : ℕ) (before now : List Past) (past : Past) (old mid new : List (List ℤ)) where
  module _ (a : Along s h codes at before now old mid) (one : PlaysOne s h codes at (past_of_channel now at) past mid new) (coded_at : is_coded s at ≡ true) (within : at < length now) where
    this_channel : (c : ℕ) → c ≡ at → column c new ≡ outputs_from 8 4 (past_of_channel before c) (block_frames (Some s) h c codes)
    this_channel c e =
        let here = one.channel ∙ ap (λ (p : Past). outputs_from 8 4 p (block_frames (Some s) h at codes)) (a.later_pasts at (omega arith)) in
        subst (λ (i : ℕ). column i new ≡ outputs_from 8 4 (past_of_channel before i) (block_frames (Some s) h i codes)) (sym e) here

    this_past : (c : ℕ) → c ≡ at → past_of_channel (set now at past) c ≡ past_from 8 4 (past_of_channel before c) (block_frames (Some s) h c codes)
    this_past c e =
        let here = get_or-set_same now at past (zeros 8 4) within ∙ one.past ∙ ap (λ (p : Past). past_from 8 4 p (block_frames (Some s) h at codes)) (a.later_pasts at (omega arith)) in
        subst (λ (i : ℕ). past_of_channel (set now at past) i ≡ past_from 8 4 (past_of_channel before i) (block_frames (Some s) h i codes)) (sym e) here

    next_coded : (c : ℕ) → c < at + 1 → is_coded s c ≡ true → column c new ≡ outputs_from 8 4 (past_of_channel before c) (block_frames (Some s) h c codes)
    next_coded c l e = elim (cases_eq c at) [ inl same ↦ this_channel c same | inr ne ↦ one.others c ne ∙ a.coded c (omega arith) e ]

    next_others : (c : ℕ) → c < at + 1 → is_coded s c ≡ false → column c new ≡ column c old
    next_others c l e = elim (cases_eq c at) [ inl same ↦ absurd (let at_c = subst (λ (i : ℕ). is_coded s i ≡ false) same e in cc) | inr ne ↦ one.others c ne ∙ a.others c (omega arith) e ]

    next_pasts : (c : ℕ) → c < at + 1 → past_of_channel (set now at past) c ≡ past_from 8 4 (past_of_channel before c) (block_frames (Some s) h c codes)
    next_pasts c l = elim (cases_eq c at) [ inl same ↦ this_past c same | inr ne ↦ get_or-set_other now at c past (zeros 8 4) ne ∙ a.pasts c (omega arith) ]

    above : (c : ℕ) → at + 1 ≤ c → c ≢ at
    above c l same = omega arith

    pub along_more : Along s h codes (at + 1) before (set now at past) old new
    along_more = record {
      coded = next_coded;
      others = next_others;
      later = λ c l. one.others c (above c l) ∙ a.later c (omega arith);
      pasts = next_pasts;
      later_pasts = λ c l. get_or-set_other now at c past (zeros 8 4) (above c l) ∙ a.later_pasts c (omega arith);
      count = length-set now at past ∙ a.count;
    }

module _ (s : State) (h : BlockHead) (codes : List FrameCode) (at : ℕ) (before now : List Past) (old new : List (List ℤ)) (a : Along s h codes at before now old new) (end : s.restart.max < at) where
  all_others : (c : ℕ) → is_coded s c ≡ false → column c new ≡ column c old
  all_others c e = elim (cases_lt c at) [ inl l ↦ a.others c l e | inr l ↦ a.later c l ]

  all_pasts : (c : ℕ) → past_of_channel now c ≡ past_from 8 4 (past_of_channel before c) (block_frames (Some s) h c codes)
  all_pasts c = elim (cases_lt c at) [ inl l ↦ a.pasts c l | inr l ↦ a.later_pasts c l ∙ stays s h c codes (past_of_channel before c) (uncoded_above s c (omega arith)) ]

  pub along_all : HasPlayedBlock (Some s) h codes before now old new
  along_all = record {
    coded = λ c e. a.coded c (let to = (coded_between s c e).to in omega arith) e;
    others = all_others;
    pasts = all_pasts;
    count = a.count;
  }
