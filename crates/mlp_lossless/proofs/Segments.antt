-- A segment that was sent gives back the samples of its channels, and leaves what the encoder goes on with.
use Rattle.std.proofs.Common.{◌≡◌, ℕ, ◌+◌, ◌-◌, ◌<◌, ◌≤◌, ℤ, pos, true, false, List, [], ◌∷◌, ◌++◌, map, length, take, drop, get_or, Option, Some, None, refl, sym, ap, ◌∙◌, subst, arith, append_assoc}
use Rattle.std.specs.Prelude.{is_some}
use Rattle.std.proofs.Math.ListN.{get_or-append}
use Rattle.std.proofs.Math.Seq.{take-append_seam, drop-append_seam}
use Rattle.std.proofs.lemmas.List.{append-nil, length-append, length-take-le, map-append, take-append-drop, get_or-append-add}
use Rattle.std.proofs.lemmas.List.FromFn.{get_or-map-range_with_len, length-map-range_with_len}
use Rattle.mlp_syntax.specs.declared.restart.Restart.{Restart}
use Rattle.mlp_syntax.specs.declared.segment.BlockHead.{BlockHead}
use Rattle.mlp_syntax.specs.declared.segment.FrameCode.{FrameCode}
use Rattle.mlp_params.specs.declared.state.State.{State}
use Rattle.mlp_predict.specs.Prediction.{Past, zeros}
use Rattle.mlp_predict.specs.Outputs.{Frame, outputs_from, past_from}
use Rattle.mlp_predict.proofs.FrameLists.{outputs_from-append, past_from-append}
use Rattle.mlp_substream.specs.declared.known.Place.{Place}
use Rattle.mlp_substream.specs.Blocks.{restarted as restarted_at, given, after_head, force_after}
use Rattle.mlp_channels.specs.Channels.{Coded, block_frames, channel_frames, past_before, frames_in, outputs_in, coded_after}
use Rattle.mlp_channels.specs.Playing.{past_of_channel}
use Rattle.mlp_fifo.specs.Pace.{unit_of}
use Rattle.mlp_fold.specs.declared.profile.Profile.{Profile}
use Rattle.mlp_fold.specs.declared.coding.CodedFrame.{CodedFrame}
use Rattle.mlp_fold.specs.Rows.{steps_of}
use Rattle.mlp_fold.specs.Substreams.{first_channel, last_channel}
use Rattle.mlp_encode.specs.Numbers.{coded_channels, first_frames, low_zeros}
use Rattle.mlp_encode.specs.Coding.{column}
use Rattle.mlp_encode.specs.Blocks.{Force, SentBlock, SentSegment, block_sent, restarted, restart_sent, later_sent, sent_in, given_in}
use Rattle.mlp_encode.specs.Lawful.{IsSendable}
use Rattle.mlp_encode.proofs.SentChannels.{codes_in_count, last_most}
use Rattle.mlp_lossless.specs.Chosen.{IsLeastBlock, AreLeastBlocks, IsLeastSegment}
use Rattle.mlp_lossless.proofs.Blocks.{block_outputs, block_past, block_least, pasts_count}

-- ---- a block

-- its frames in a channel give back the samples and leave the past that is sent on
pub record BlockBack (c : ℕ) (past : Past) (b : SentBlock) (frames : List CodedFrame) : Type 0 where
  pub outputs : outputs_from 8 4 past (block_frames (Some b.behind.state) b.head c b.codes) ≡ column c frames
  pub past_is : past_from 8 4 past (block_frames (Some b.behind.state) b.head c b.codes) ≡ past_of_channel b.behind.pasts c

pub record CanBlock (j : ℕ) (p : Profile) (restart : Option Restart) (before : Force) (frames : List CodedFrame) : Type 0 where
  pub sendable : IsSendable j p (is_some restart) before.state frames
  pub steps : length (steps_of p.mix (low_zeros p.depth) j) ≡ last_channel j + 1
  pub eight : length before.pasts ≡ 8

module _ (j : ℕ) (p : Profile) (restart : Option Restart) (before : Force) (frames : List CodedFrame) where
  pub block_count : length (block_sent j p restart before frames).codes ≡ length frames
  unfolding block_sent
  block_count = codes_in_count (given (given_in j p (is_some restart) before frames) before.state).rows.items (sent_in j p (is_some restart) before frames) frames

  pub block_size : (block_sent j p restart before frames).head.frames ≡ length frames
  unfolding block_sent
  block_size = refl

  pub block_restart : (block_sent j p restart before frames).head.restart ≡ restart
  unfolding block_sent
  block_restart = refl

  pub block_back : CanBlock j p restart before frames → (c : ℕ) → first_channel j ≤ c → c ≤ last_channel j → BlockBack c (past_of_channel before.pasts c) (block_sent j p restart before frames) frames
  unfolding block_sent
  block_back h c from to = record {
    outputs = block_outputs j p (is_some restart) before frames h.sendable h.steps h.eight c from to (block_sent j p restart before frames).head (given (given_in j p (is_some restart) before frames) before.state).rows.items refl;
    past_is = block_past j p (is_some restart) before frames h.sendable h.steps h.eight c from to (block_sent j p restart before frames).head (given (given_in j p (is_some restart) before frames) before.state).rows.items refl;
  }

  pub block_chosen : CanBlock j p restart before frames → (c : ℕ) → first_channel j ≤ c → c ≤ last_channel j
      → IsLeastBlock (Some before.state) (past_of_channel before.pasts c) c (block_sent j p restart before frames).head (block_sent j p restart before frames).codes
  unfolding block_sent
  block_chosen h c from to =
      block_least j p (is_some restart) before frames h.sendable h.steps h.eight c from to (block_sent j p restart before frames).head (given (given_in j p (is_some restart) before frames) before.state).rows.items refl refl

  pub block_eight : CanBlock j p restart before frames → length (block_sent j p restart before frames).behind.pasts ≡ 8
  unfolding block_sent
  block_eight h = pasts_count j p (is_some restart) before frames h.sendable h.steps h.eight

-- ---- the frames of a channel, block by block

module _ (place : Place) (c : ℕ) where
  block_first : (force : Option State) (h : BlockHead) (hs : List BlockHead) (codes more : List FrameCode) (s : State) → after_head place force h ≡ Some s → length codes ≡ h.frames
      → channel_frames place force c (h ∷ hs) (codes ++ more) ≡ block_frames (Some s) h c codes ++ channel_frames place (Some s) c hs more
  unfolding channel_frames
  block_first force h hs codes more s e n =
      let front : take h.frames (codes ++ more) ≡ codes = ap (λ (k : ℕ). take k (codes ++ more)) (sym n) ∙ take-append_seam codes more in
      let rest : drop h.frames (codes ++ more) ≡ more = ap (λ (k : ℕ). drop k (codes ++ more)) (sym n) ∙ drop-append_seam codes more in
      ap (λ (f : Option State). block_frames f h c (take h.frames (codes ++ more)) ++ channel_frames place f c hs (drop h.frames (codes ++ more))) e
      ∙ ap (λ (cs : List FrameCode). block_frames (Some s) h c cs ++ channel_frames place (Some s) c hs (drop h.frames (codes ++ more))) front
      ∙ ap (λ (cs : List FrameCode). block_frames (Some s) h c codes ++ channel_frames place (Some s) c hs cs) rest

  no_frames : (force : Option State) (codes : List FrameCode) → channel_frames place force c [] codes ≡ []
  unfolding channel_frames
  no_frames force codes = refl

  pub frames_one : (force : Option State) (h : BlockHead) (codes : List FrameCode) (s : State) → after_head place force h ≡ Some s → length codes ≡ h.frames
      → channel_frames place force c (h ∷ []) (codes ++ []) ≡ block_frames (Some s) h c codes
  frames_one force h codes s e n =
      block_first force h [] codes [] s e n
      ∙ ap (λ (fs : List Frame). block_frames (Some s) h c codes ++ fs) (no_frames (Some s) [])
      ∙ append-nil (block_frames (Some s) h c codes)

  pub frames_two : (force : Option State) (h g : BlockHead) (codes later : List FrameCode) (s t : State) → after_head place force h ≡ Some s → length codes ≡ h.frames → after_head place (Some s) g ≡ Some t → length later ≡ g.frames
      → channel_frames place force c (h ∷ g ∷ []) (codes ++ (later ++ [])) ≡ block_frames (Some s) h c codes ++ block_frames (Some t) g c later
  frames_two force h g codes later s t e n d m =
      block_first force h (g ∷ []) codes (later ++ []) s e n
      ∙ ap (λ (fs : List Frame). block_frames (Some s) h c codes ++ fs) (frames_one (Some s) g later t d m)

  -- a block that is the least choice, and those behind it
  least_first : (force : Option State) (h : BlockHead) (hs : List BlockHead) (codes more : List FrameCode) (s t : State) (past behind : Past) → restarted_at place force h.restart ≡ Some s → after_head place force h ≡ Some t
      → length codes ≡ h.frames
      → IsLeastBlock (Some s) past c h codes → past_from 8 4 past (block_frames (Some t) h c codes) ≡ behind → AreLeastBlocks place (Some t) behind c hs more → AreLeastBlocks place force past c (h ∷ hs) (codes ++ more)
  unfolding AreLeastBlocks
  least_first force h hs codes more s t past behind begun e n least left rest =
      let front : take h.frames (codes ++ more) ≡ codes = ap (λ (k : ℕ). take k (codes ++ more)) (sym n) ∙ take-append_seam codes more in
      let back : drop h.frames (codes ++ more) ≡ more = ap (λ (k : ℕ). drop k (codes ++ more)) (sym n) ∙ drop-append_seam codes more in (
        subst (λ (f : Option State). IsLeastBlock f past c h (take h.frames (codes ++ more))) (sym begun) (subst (λ (cs : List FrameCode). IsLeastBlock (Some s) past c h cs) (sym front) least),
        subst (λ (f : Option State). AreLeastBlocks place f (past_from 8 4 past (block_frames f h c (take h.frames (codes ++ more)))) c hs (drop h.frames (codes ++ more))) (sym e)
            (subst (λ (cs : List FrameCode). AreLeastBlocks place (Some t) (past_from 8 4 past (block_frames (Some t) h c cs)) c hs (drop h.frames (codes ++ more))) (sym front)
            (subst (λ (cs : List FrameCode). AreLeastBlocks place (Some t) (past_from 8 4 past (block_frames (Some t) h c codes)) c hs cs) (sym back)
            (subst (λ (q : Past). AreLeastBlocks place (Some t) q c hs more) (sym left) rest))),
      )

  no_blocks : (force : Option State) (past : Past) (codes : List FrameCode) → AreLeastBlocks place force past c [] codes
  unfolding AreLeastBlocks
  no_blocks force past codes = tt

-- ---- the segment

-- what playing it gives and leaves in the channels of its substream
pub record SegmentBack (place : Place) (x : Coded) (j : ℕ) (s : SentSegment) (frames : List CodedFrame) : Type 0 where
  pub force : force_after place x.force s.segment.blocks.items ≡ Some s.behind.state
  pub outputs : (c : ℕ) → first_channel j ≤ c → c ≤ last_channel j → outputs_in place x s.segment c ≡ column c frames
  pub pasts : (c : ℕ) → first_channel j ≤ c → c ≤ last_channel j → past_of_channel (coded_after place x s.segment).pasts c ≡ past_of_channel s.behind.pasts c
  pub count : length s.segment.codes.items ≡ length frames
  pub least : (c : ℕ) → first_channel j ≤ c → c ≤ last_channel j → IsLeastSegment place x c s.segment

coded_past : (place : Place) (x : Coded) (s : SentSegment) (c : ℕ) → c < 8 → past_of_channel (coded_after place x s.segment).pasts c ≡ past_from 8 4 (past_before place x c) (frames_in place x s.segment c)
unfolding coded_after
coded_past place x s c lt = get_or-map-range_with_len (λ (c : ℕ). past_from 8 4 (past_before place x c) (frames_in place x s.segment c)) 0 8 c c (zeros 8 4) lt (omega arith)

-- ---- behind what is in force

module _ (j : ℕ) (p : Profile) (place : Place) (x : Coded) (st : State) (pasts : List Past) (frames : List CodedFrame) (terminator : Option ℕ) where
  abbrev before : Force
  before = record { state = st; pasts = pasts }

  abbrev later : SentSegment
  later = later_sent j p (record { state = st; pasts = pasts }) frames terminator

  abbrev block : SentBlock
  block = block_sent j p None (record { state = st; pasts = pasts }) frames

  module _ (can : CanBlock j p None (record { state = st; pasts = pasts }) frames) (same : x.force ≡ Some st) (plain : place.major ≡ false)
      (agree : (c : ℕ) → first_channel j ≤ c → c ≤ last_channel j → past_of_channel x.pasts c ≡ past_of_channel pasts c) where
    head_is : after_head place x.force block.head ≡ Some block.behind.state
    unfolding block_sent
    head_is = ap (λ (f : Option State). after_head place f block.head) same

    begun_is : restarted_at place x.force block.head.restart ≡ Some st
    unfolding block_sent
    begun_is = same

    length_is : length block.codes ≡ block.head.frames
    length_is = block_count j p None before frames ∙ sym (block_size j p None before frames)

    frames_are : (c : ℕ) → frames_in place x later.segment c ≡ block_frames (Some block.behind.state) block.head c block.codes
    unfolding later_sent
    frames_are c = frames_one place c x.force block.head block.codes block.behind.state head_is length_is

    past_is : (c : ℕ) → first_channel j ≤ c → c ≤ last_channel j → past_before place x c ≡ past_of_channel pasts c
    past_is c from to = rw plain (agree c from to)

    pub later_back : SegmentBack place x j later frames
    unfolding later_sent outputs_in
    later_back = record {
      force = head_is;
      outputs = λ c from to.
          ap (λ (fs : List Frame). outputs_from 8 4 (past_before place x c) fs) (frames_are c)
          ∙ ap (λ (past : Past). outputs_from 8 4 past (block_frames (Some block.behind.state) block.head c block.codes)) (past_is c from to)
          ∙ (block_back j p None before frames can c from to).outputs;
      pasts = λ c from to.
          coded_past place x later c (let l = last_most j in omega (arith, l, to))
          ∙ ap (λ (fs : List Frame). past_from 8 4 (past_before place x c) fs) (frames_are c)
          ∙ ap (λ (past : Past). past_from 8 4 past (block_frames (Some block.behind.state) block.head c block.codes)) (past_is c from to)
          ∙ (block_back j p None before frames can c from to).past_is;
      count = let n = length-append block.codes [] in omega (arith, n, block_count j p None before frames);
      least = λ c from to.
          least_first place c x.force block.head [] block.codes [] st block.behind.state (past_before place x c) _ begun_is head_is length_is
          (subst (λ (past : Past). IsLeastBlock (Some st) past c block.head block.codes) (sym (past_is c from to)) (block_chosen j p None before frames can c from to)) refl (no_blocks place c _ _ []);
    }

-- ---- with a restart

pub record CanRestart (j : ℕ) (p : Profile) (restart : Restart) (pasts : List Past) (frames : List CodedFrame) : Type 0 where
  pub begins : CanBlock j p (Some restart) (restarted j p restart pasts) (take first_frames frames)
  pub goes_on : CanBlock j p None (block_sent j p (Some restart) (restarted j p restart pasts) (take first_frames frames)).behind (drop first_frames frames)
  pub eight : length pasts ≡ 8

module _ (j : ℕ) (p : Profile) (place : Place) (x : Coded) (restart : Restart) (pasts : List Past) (frames : List CodedFrame) (terminator : Option ℕ) where
  abbrev fresh : SentSegment
  fresh = restart_sent j p restart pasts frames terminator

  abbrev pub first : SentBlock
  first = block_sent j p (Some restart) (restarted j p restart pasts) (take first_frames frames)

  abbrev pub second : SentBlock
  second = block_sent j p None first.behind (drop first_frames frames)

  module _ (can : CanRestart j p restart pasts frames) (format : place.format ≡ p.kind) (unit : place.unit_frames ≡ unit_of p.rate) (major : place.major ≡ true) where
    first_is : after_head place x.force first.head ≡ Some first.behind.state
    unfolding block_sent
    first_is = rw (format, unit) refl

    first_begun : restarted_at place x.force first.head.restart ≡ Some (restarted j p restart pasts).state
    unfolding block_sent
    first_begun = rw (format, unit) refl

    second_begun : restarted_at place (Some first.behind.state) second.head.restart ≡ Some first.behind.state
    unfolding block_sent
    second_begun = refl

    second_is : after_head place (Some first.behind.state) second.head ≡ Some second.behind.state
    unfolding block_sent
    second_is = refl

    first_length : length first.codes ≡ first.head.frames
    first_length = block_count j p (Some restart) (restarted j p restart pasts) (take first_frames frames) ∙ sym (block_size j p (Some restart) (restarted j p restart pasts) (take first_frames frames))

    second_length : length second.codes ≡ second.head.frames
    second_length = block_count j p None first.behind (drop first_frames frames) ∙ sym (block_size j p None first.behind (drop first_frames frames))

    both_frames : (c : ℕ) → frames_in place x fresh.segment c ≡ block_frames (Some first.behind.state) first.head c first.codes ++ block_frames (Some second.behind.state) second.head c second.codes
    unfolding restart_sent
    both_frames c = frames_two place c x.force first.head second.head first.codes second.codes first.behind.state second.behind.state first_is first_length second_is second_length

    -- behind the restart the past is zeros
    zeros_there : (c : ℕ) → first_channel j ≤ c → c ≤ last_channel j → past_before place x c ≡ past_of_channel (restarted j p restart pasts).pasts c
    zeros_there c from to =
        let front : List Past = take (first_channel j) pasts in
        let mid : List Past = map (λ c. zeros 8 4) (coded_channels j) in
        let rest : List Past = drop (last_channel j + 1) pasts in
        let i : ℕ = c - first_channel j in
        let l = last_most j in
        let n : length front ≡ first_channel j = length-take-le (first_channel j) pasts (omega (arith, can.eight, l, from, to)) in
        let at : length front + i ≡ c = omega (arith, n, from) in
        let m = length-map-range_with_len (λ (c : ℕ). zeros 8 4) (first_channel j) (last_channel j - first_channel j + 1) in
        let there : past_of_channel ((front ++ mid) ++ rest) c ≡ zeros 8 4 =
        ap (λ (ps : List Past). get_or ps c (zeros 8 4)) (append_assoc front mid rest)
        ∙ ap (λ (k : ℕ). get_or (front ++ (mid ++ rest)) k (zeros 8 4)) (sym at)
        ∙ get_or-append-add front (mid ++ rest) i (zeros 8 4)
        ∙ get_or-append mid rest (zeros 8 4) i (omega (arith, m, from, to))
        ∙ get_or-map-range_with_len (λ (c : ℕ). zeros 8 4) (first_channel j) (last_channel j - first_channel j + 1) i c (zeros 8 4) (omega (arith, from, to)) (omega (arith, from)) in
        rw major (sym there)

    pub restart_back : SegmentBack place x j fresh frames
    unfolding restart_sent outputs_in
    restart_back =
        let all : ℕ → List Frame = λ c. block_frames (Some first.behind.state) first.head c first.codes ++ block_frames (Some second.behind.state) second.head c second.codes in
        let a = block_back j p (Some restart) (restarted j p restart pasts) (take first_frames frames) can.begins in
        let b = block_back j p None first.behind (drop first_frames frames) can.goes_on in
        record {
          force = ap (λ (f : Option State). force_after place f (second.head ∷ [])) first_is ∙ second_is;
          outputs = λ c from to.
              let fs : List Frame = block_frames (Some first.behind.state) first.head c first.codes in
              let gs : List Frame = block_frames (Some second.behind.state) second.head c second.codes in
              let past : Past = past_of_channel (restarted j p restart pasts).pasts c in
              ap (λ (hs : List Frame). outputs_from 8 4 (past_before place x c) hs) (both_frames c)
              ∙ ap (λ (past : Past). outputs_from 8 4 past (fs ++ gs)) (zeros_there c from to)
              ∙ outputs_from-append 8 4 past fs gs
              ∙ ap (λ (later : Past). outputs_from 8 4 past fs ++ outputs_from 8 4 later gs) (a c from to).past_is
              ∙ ap (λ (xs : List ℤ). xs ++ outputs_from 8 4 (past_of_channel first.behind.pasts c) gs) (a c from to).outputs
              ∙ ap (λ (ys : List ℤ). column c (take first_frames frames) ++ ys) (b c from to).outputs
              ∙ sym (map-append (λ (f : CodedFrame). get_or f.values c (pos 0)) (take first_frames frames) (drop first_frames frames))
              ∙ ap (λ (fs : List CodedFrame). column c fs) (take-append-drop first_frames frames);
          pasts = λ c from to.
              let fs : List Frame = block_frames (Some first.behind.state) first.head c first.codes in
              let gs : List Frame = block_frames (Some second.behind.state) second.head c second.codes in
              let past : Past = past_of_channel (restarted j p restart pasts).pasts c in
              coded_past place x fresh c (let l = last_most j in omega (arith, l, to))
              ∙ ap (λ (hs : List Frame). past_from 8 4 (past_before place x c) hs) (both_frames c)
              ∙ ap (λ (past : Past). past_from 8 4 past (fs ++ gs)) (zeros_there c from to)
              ∙ past_from-append 8 4 past fs gs
              ∙ ap (λ (later : Past). past_from 8 4 later gs) (a c from to).past_is
              ∙ (b c from to).past_is;
          count =
              let n = block_count j p (Some restart) (restarted j p restart pasts) (take first_frames frames) in
              let m = block_count j p None first.behind (drop first_frames frames) in
              let u = length-append first.codes (second.codes ++ []) in
              let v = length-append second.codes [] in
              let w = length-append (take first_frames frames) (drop first_frames frames) in
              let z = ap (λ (fs : List CodedFrame). length fs) (take-append-drop first_frames frames) in
              omega (arith, n, m, u, v, w, z);
          least = λ c from to.
              let later =
              least_first place c (Some first.behind.state) second.head [] second.codes [] first.behind.state second.behind.state (past_of_channel first.behind.pasts c) _ second_begun second_is second_length
              (block_chosen j p None first.behind (drop first_frames frames) can.goes_on c from to) refl (no_blocks place c _ _ []) in
              subst (λ (past : Past). AreLeastBlocks place x.force past c (first.head ∷ second.head ∷ []) (first.codes ++ (second.codes ++ []))) (sym (zeros_there c from to))
              (least_first place c x.force first.head (second.head ∷ []) first.codes (second.codes ++ []) (restarted j p restart pasts).state first.behind.state
              (past_of_channel (restarted j p restart pasts).pasts c) _ first_begun first_is first_length
              (block_chosen j p (Some restart) (restarted j p restart pasts) (take first_frames frames) can.begins c from to) (a c from to).past_is later);
        }
