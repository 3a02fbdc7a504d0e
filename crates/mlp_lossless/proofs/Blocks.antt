-- A block that was sent gives back the samples of its channels.
use Rattle.std.proofs.Common.{◌≡◌, ℕ, zero, suc, ◌+◌, ◌-◌, ◌<◌, ◌≤◌, ℤ, pos, Bool, true, List, [], ◌∷◌, ◌++◌, map, length, take, drop, get_or, Option, Some, None, refl, sym, ap, ◌∙◌, subst, arith, append_assoc}
use Rattle.std.specs.Prelude.{not, is_some}
use Rattle.std.specs.List.{range_with_len}
use Rattle.std.proofs.Math.ListN.{get_or-append}
use Rattle.std.proofs.lemmas.List.{length-append, length-drop, length-map, length-take-le, drop_more, drop_all, get_or-append-add, get_or-map}
use Rattle.std.proofs.lemmas.List.FromFn.{get_or-map-range_with_len, length-map-range_with_len}
use Rattle.mlp_syntax.specs.declared.params.ChannelParams.{ChannelParams}
use Rattle.mlp_syntax.specs.declared.params.MatrixRow.{MatrixRow}
use Rattle.mlp_syntax.specs.declared.params.Params.{Params}
use Rattle.mlp_syntax.specs.declared.restart.Restart.{Restart}
use Rattle.mlp_syntax.specs.declared.segment.BlockHead.{BlockHead}
use Rattle.mlp_syntax.specs.declared.segment.Code.{Code}
use Rattle.mlp_syntax.specs.declared.segment.FrameCode.{FrameCode}
use Rattle.mlp_params.specs.declared.state.ChannelState.{ChannelState}
use Rattle.mlp_params.specs.declared.state.State.{State}
use Rattle.mlp_params.specs.Applied.{channel_applied}
use Rattle.mlp_predict.specs.Prediction.{Past, zeros}
use Rattle.mlp_predict.specs.Filters.{filters_of}
use Rattle.mlp_predict.specs.Outputs.{Frame, outputs_from, past_from, block_of, with_state_first}
use Rattle.mlp_residual.specs.Block.{no_value, code_in, residual_in}
use Rattle.mlp_residual.specs.Coding.{residual_of}
use Rattle.mlp_residual.specs.declared.block.ResidualCoding.{ResidualCoding}
use Rattle.mlp_substream.specs.Blocks.{given}
use Rattle.mlp_channels.specs.Channels.{channel_at, step_at, is_coded, state_given, state_of_channel, block_frames, coding_at}
use Rattle.mlp_channels.specs.Playing.{past_of_channel, frames_by}
use Rattle.mlp_channels.proofs.CodedLaws.{coded_from, coded_frames}
use Rattle.mlp_fold.specs.declared.profile.Profile.{Profile}
use Rattle.mlp_fold.specs.declared.coding.CodedFrame.{CodedFrame}
use Rattle.mlp_fold.specs.Rows.{rows_of, steps_of}
use Rattle.mlp_fold.specs.Substreams.{first_channel, last_channel}
use Rattle.mlp_encode.specs.Numbers.{low_zeros}
use Rattle.mlp_encode.specs.Coding.{Sent, nothing, column, channel_sent}
use Rattle.mlp_encode.specs.Blocks.{Force, bypass_in, frame_code, codes_in, channel_in, sent_in, params_of, given_in, pasts_with}
use Rattle.mlp_encode.specs.Lawful.{IsSendable}
use Rattle.mlp_encode.proofs.SentChannels.{first_last, last_most}
use Rattle.mlp_encode.proofs.SentCodes.{map_equal, codes_count}
use Rattle.mlp_lossless.specs.Chosen.{Basis, given_to, IsLeastFor, basis_of, IsLeastBlock}
use Rattle.mlp_lossless.proofs.Pasts.{replaced_below, replaced_above}
use Rattle.mlp_lossless.proofs.Channels.{CanSend, least_for, codes_give, outputs_back, past_back}
use Rattle.mlp_lossless.proofs.Given.{state_given_is, with_channel, behind_with}
use Rattle.mlp_lossless.proofs.InForce.{restart_behind, rows_behind, steps_behind}

-- ---- a value of each frame

pub over_range : {A B : Type 0} (f : A → B) (d : A) (all : List A) (a n : ℕ) → a + n ≡ length all → map (λ m. f (get_or all m d)) (range_with_len a n) ≡ map f (drop a all)
over_range f d all a zero e = ap (map f) (sym (drop_all a all (omega (arith, e))))
over_range {A} {B} f d all a (suc n) e =
    ap (λ (ys : List B). f (get_or all a d) ∷ ys) (over_range f d all (a + 1) n (omega (arith, e)))
    ∙ ap (map f) (sym (drop_more all a d (omega (arith, e))))

pub map_over : {A B C : Type 0} (f : B → C) (g : A → B) (xs : List A) → map f (map g xs) ≡ map (λ x. f (g x)) xs
map_over f g [] = refl
map_over {A} {B} {C} f g (x ∷ xs) = ap (λ (ys : List C). f (g x) ∷ ys) (map_over f g xs)

no_sent : Sent
no_sent = record { given = None; codes = []; past = zeros 8 4 }

same_all : {A : Type 0} (xs : List A) → map (λ x. x) xs ≡ xs
same_all [] = refl
same_all {A} (x ∷ xs) = ap (λ (ys : List A). x ∷ ys) (same_all xs)

-- the codes of one channel in frames that have those of several
column_is : (rows : List MatrixRow) (channels : List Sent) (frames : List CodedFrame) (i : ℕ) (x : Sent) → i < length channels → get_or channels i no_sent ≡ x → length x.codes ≡ length frames
    → map (code_in i) (codes_in rows channels frames) ≡ x.codes
column_is rows channels frames i x lt is n =
    map_over (code_in i) (frame_code rows channels frames) (range_with_len 0 (length frames))
    ∙ map_equal (λ m. code_in i (frame_code rows channels frames m)) (λ m. get_or x.codes m nothing) (range_with_len 0 (length frames))
    (λ m. get_or-map (λ (y : Sent). get_or y.codes m nothing) channels i no_sent no_value lt ∙ ap (λ (y : Sent). get_or y.codes m nothing) is)
    ∙ over_range (λ (c : Code). c) nothing x.codes 0 (length frames) (omega (arith, n))
    ∙ same_all x.codes

-- .. and what they spell
column_codes : (rows : List MatrixRow) (channels : List Sent) (frames : List CodedFrame) (k : ResidualCoding) (i : ℕ) (x : Sent) → i < length channels → get_or channels i no_sent ≡ x → length x.codes ≡ length frames
    → map (residual_in k i) (codes_in rows channels frames) ≡ map (residual_of k.book k.low k.offset k.step) x.codes
column_codes rows channels frames k i x lt is n =
    let f : Code → ℤ = residual_of k.book k.low k.offset k.step in
    sym (map_over f (code_in i) (codes_in rows channels frames)) ∙ ap (map f) (column_is rows channels frames i x lt is n)

-- ---- the block

module _ (j : ℕ) (p : Profile) (restarts : Bool) (before : Force) (frames : List CodedFrame) (h : IsSendable j p restarts before.state frames)
    (count : length (steps_of p.mix (low_zeros p.depth) j) ≡ last_channel j + 1) (eight : length before.pasts ≡ 8) where
  abbrev channels : List Sent
  channels = sent_in j p restarts before frames

  abbrev all : Params
  all = params_of j p restarts before.state (length frames) (sent_in j p restarts before frames)

  abbrev pub behind : State
  behind = given (given_in j p restarts before frames) before.state

  module _ (c : ℕ) (from : first_channel j ≤ c) (to : c ≤ last_channel j) where
    abbrev x : Sent
    x = channel_in j before (steps_of p.mix (low_zeros p.depth) j) (not restarts) frames c

    abbrev i : ℕ
    i = c - first_channel j

    can : CanSend (channel_at before.state c) (get_or (steps_of p.mix (low_zeros p.depth) j) c 0) (not restarts) (column c frames)
    can =
        let k = h.codable in
        record {
          state = k.states c to;
          small = k.steps_small c to;
          few = k.samples c;
          whole = k.whole c to;
          no_fir = λ e. (k.absent e c to).0;
          no_iir = λ e. (k.absent e c to).1;
        }

    x_there : get_or (sent_in j p restarts before frames) i no_sent ≡ x
    x_there = get_or-map-range_with_len (channel_in j before (steps_of p.mix (low_zeros p.depth) j) (not restarts) frames) (first_channel j) (last_channel j - first_channel j + 1)
        (c - first_channel j) c no_sent (omega (arith, from, to)) (omega (arith, from))

    i_below : i < length (sent_in j p restarts before frames)
    i_below =
        let n = length-map-range_with_len (channel_in j before (steps_of p.mix (low_zeros p.depth) j) (not restarts) frames) (first_channel j) (last_channel j - first_channel j + 1) in
        omega (arith, from, to, n)

    given_there : given_to (given_in j p restarts before frames) i ≡ x.given
    given_there =
        with_channel restarts all i
        ∙ get_or-map (λ (y : Sent). y.given) (sent_in j p restarts before frames) i no_sent None i_below
        ∙ ap (λ (y : Sent). y.given) x_there

    at_c : first_channel j + i ≡ c
    at_c = omega (arith, from)

    channel_behind : channel_at behind c ≡ channel_applied (channel_at before.state c) x.given
    channel_behind =
        let n = h.begun.fits.lawful.channel_count in
        let lt : first_channel j + i < length before.state.channels.items = omega (arith, n, h.begun.max, from, to) in
        let some : i < length all.channels.items = omega (arith, i_below, length-map (sent_in j p restarts before frames) (λ (y : Sent). y.given)) in
        let e = behind_with restarts all before.state (first_channel j) i h.begun.min lt some in
        subst (λ (k : ℕ). channel_at behind k ≡ channel_applied (channel_at before.state k) (given_to (given_in j p restarts before frames) i)) at_c e
        ∙ ap (λ (o : Option ChannelParams). channel_applied (channel_at before.state c) o) given_there

    step_behind : step_at behind c ≡ get_or (steps_of p.mix (low_zeros p.depth) j) c 0
    step_behind = ap (λ (ss : List ℕ). get_or ss c 0) (steps_behind j p restarts before frames h)

    state_behind : state_given (given_in j p restarts before frames) i ≡ state_of_channel x.given
    state_behind = state_given_is (given_in j p restarts before frames) i ∙ ap state_of_channel given_there

    abbrev coding_by : ChannelState → ℕ → ResidualCoding
    coding_by k step = record { book = k.book; low = k.low - step; offset = k.offset; step = step }

    abbrev frames_with : ChannelState → ℕ → List ℤ → List FrameCode → List Frame
    frames_with k step state codes = with_state_first state (block_of (filters_of k.fir k.iir) step (map (residual_in (coding_by k step) i) codes))

    coded_behind : is_coded behind c ≡ true
    coded_behind =
        let r = restart_behind j p restarts before frames in
        let a : behind.restart.min ≡ first_channel j = ap (λ (r : Restart). r.min) r ∙ h.begun.min in
        let b : behind.restart.max ≡ last_channel j = ap (λ (r : Restart). r.max) r ∙ h.begun.max in
        coded_from behind c (omega (arith, a, from)) (omega (arith, b, to))

    index_is : c - behind.restart.min ≡ c - first_channel j
    index_is = ap (λ (r : Restart). c - r.min) (restart_behind j p restarts before frames) ∙ ap (λ (k : ℕ). c - k) h.begun.min

    -- the frames of the channel, by what was sent
    frames_are : (head : BlockHead) (rows : List MatrixRow) → head.params ≡ given_in j p restarts before frames
        → block_frames (Some behind) head c (codes_in rows (sent_in j p restarts before frames) frames)
        ≡ with_state_first (state_of_channel x.given) (block_of (filters_of (channel_applied (channel_at before.state c) x.given).fir (channel_applied (channel_at before.state c) x.given).iir)
        (get_or (steps_of p.mix (low_zeros p.depth) j) c 0)
        (map (residual_of (channel_applied (channel_at before.state c) x.given).book ((channel_applied (channel_at before.state c) x.given).low - get_or (steps_of p.mix (low_zeros p.depth) j) c 0)
        (channel_applied (channel_at before.state c) x.given).offset (get_or (steps_of p.mix (low_zeros p.depth) j) c 0)) x.codes))
    frames_are head rows e =
        let step : ℕ = get_or (steps_of p.mix (low_zeros p.depth) j) c 0 in
        let codes : List FrameCode = codes_in rows (sent_in j p restarts before frames) frames in
        let k : ChannelState = channel_applied (channel_at before.state c) x.given in
        coded_frames behind head c codes coded_behind
        ∙ ap (λ (o : Option Params). frames_by (channel_at behind c) (coding_at behind c) o (c - behind.restart.min) codes) e
        ∙ ap (λ (n : ℕ). frames_by (channel_at behind c) (coding_at behind c) (given_in j p restarts before frames) n codes) index_is
        ∙ ap (λ (state : List ℤ). frames_with (channel_at behind c) (step_at behind c) state codes) state_behind
        ∙ ap (λ (n : ℕ). frames_with (channel_at behind c) n (state_of_channel x.given) codes) step_behind
        ∙ ap (λ (s : ChannelState). frames_with s step (state_of_channel x.given) codes) channel_behind
        ∙ ap (λ (rs : List ℤ). with_state_first (state_of_channel x.given) (block_of (filters_of k.fir k.iir) step rs))
        (column_codes rows (sent_in j p restarts before frames) frames (coding_by k step) i x i_below x_there
        (codes_count (channel_at before.state c) (past_of_channel before.pasts c) step (not restarts) (column c frames) ∙ length-map frames _))

    abbrev past : Past
    past = past_of_channel before.pasts c

    pub block_outputs : (head : BlockHead) (rows : List MatrixRow) → head.params ≡ given_in j p restarts before frames
        → outputs_from 8 4 past (block_frames (Some behind) head c (codes_in rows (sent_in j p restarts before frames) frames)) ≡ column c frames
    unfolding channel_sent
    block_outputs head rows e =
        let step : ℕ = get_or (steps_of p.mix (low_zeros p.depth) j) c 0 in
        let k : ChannelState = channel_applied (channel_at before.state c) x.given in
        ap (outputs_from 8 4 past) (frames_are head rows e)
        ∙ ap (λ (rs : List ℤ). outputs_from 8 4 past (with_state_first (state_of_channel x.given) (block_of (filters_of k.fir k.iir) step rs))) (codes_give (channel_at before.state c) past step (not restarts) (column c frames) can)
        ∙ outputs_back (channel_at before.state c) past step (not restarts) (column c frames) can

    -- the pasts behind the block have that of the channel
    past_there : past_of_channel (pasts_with j before.pasts (sent_in j p restarts before frames)) c ≡ x.past
    past_there =
        let front : List Past = take (first_channel j) before.pasts in
        let mid : List Past = map (λ (y : Sent). y.past) (sent_in j p restarts before frames) in
        let rest : List Past = drop (last_channel j + 1) before.pasts in
        let few : first_channel j ≤ 8 = omega (arith, first_few j h.codable.which) in
        let n : length front ≡ first_channel j = length-take-le (first_channel j) before.pasts (omega (arith, eight, few)) in
        let m : i < length mid = omega (arith, i_below, length-map (sent_in j p restarts before frames) (λ (y : Sent). y.past)) in
        let at : length front + i ≡ c = omega (arith, n, from) in
        ap (λ (ps : List Past). get_or ps c (zeros 8 4)) (append_assoc front mid rest)
        ∙ ap (λ (k : ℕ). get_or (front ++ (mid ++ rest)) k (zeros 8 4)) (sym at)
        ∙ get_or-append-add front (mid ++ rest) i (zeros 8 4)
        ∙ get_or-append mid rest (zeros 8 4) i m
        ∙ get_or-map (λ (y : Sent). y.past) (sent_in j p restarts before frames) i no_sent (zeros 8 4) i_below
        ∙ ap (λ (y : Sent). y.past) x_there
      where
        first_few : (j : ℕ) → j ≤ 2 → first_channel j ≤ 8
        first_few zero le = omega arith
        first_few (suc zero) le = omega arith
        first_few (suc (suc zero)) le = omega arith
        first_few (suc (suc (suc j))) le = absurd (omega arith)

    pub block_past : (head : BlockHead) (rows : List MatrixRow) → head.params ≡ given_in j p restarts before frames
        → past_from 8 4 past (block_frames (Some behind) head c (codes_in rows (sent_in j p restarts before frames) frames)) ≡ past_of_channel (pasts_with j before.pasts (sent_in j p restarts before frames)) c
    unfolding channel_sent
    block_past head rows e =
        let step : ℕ = get_or (steps_of p.mix (low_zeros p.depth) j) c 0 in
        let k : ChannelState = channel_applied (channel_at before.state c) x.given in
        let some : 0 < length (column c frames) = omega (arith, h.least, length-map frames (λ (f : CodedFrame). get_or f.values c (pos 0))) in
        ap (past_from 8 4 past) (frames_are head rows e)
        ∙ ap (λ (rs : List ℤ). past_from 8 4 past (with_state_first (state_of_channel x.given) (block_of (filters_of k.fir k.iir) step rs))) (codes_give (channel_at before.state c) past step (not restarts) (column c frames) can)
        ∙ past_back (channel_at before.state c) past step (not restarts) (column c frames) can some
        ∙ sym past_there

    -- the block is the least choice for them
    pub block_least : (head : BlockHead) (rows : List MatrixRow) → head.params ≡ given_in j p restarts before frames → is_some head.restart ≡ restarts
        → IsLeastBlock (Some before.state) past c head (codes_in rows (sent_in j p restarts before frames) frames)
    block_least head rows e r =
        let codes : List FrameCode = codes_in rows (sent_in j p restarts before frames) frames in
        let k : ChannelState = channel_at before.state c in
        let step : ℕ = get_or (steps_of p.mix (low_zeros p.depth) j) c 0 in
        let long = codes_count k past step (not restarts) (column c frames) ∙ length-map frames _ in
        let step_is : step_at (given head.params before.state) c ≡ step = ap (λ (o : Option Params). step_at (given o before.state) c) e ∙ step_behind in
        let outputs : outputs_from 8 4 past (block_frames (Some (given head.params before.state)) head c codes) ≡ column c frames =
        ap (λ (o : Option Params). outputs_from 8 4 past (block_frames (Some (given o before.state)) head c codes)) e ∙ block_outputs head rows e in
        let written : given_to head.params (c - before.state.restart.min) ≡ x.given =
        ap (λ (o : Option Params). given_to o (c - before.state.restart.min)) e ∙ ap (λ (m : ℕ). given_to (given_in j p restarts before frames) (c - m)) h.begun.min ∙ given_there in
        let spelled : map (code_in (c - before.state.restart.min)) codes ≡ x.codes =
        ap (λ (m : ℕ). map (code_in (c - m)) codes) h.begun.min ∙ column_is rows (sent_in j p restarts before frames) frames i x i_below x_there long in
        let basis : ℕ → Bool → List ℤ → Basis = λ step filters samples. record { force = k; past = past; step = step; filters = filters; samples = samples } in
        let here : Basis = basis_of before.state (given head.params before.state) past c head codes in
        let same : basis step (not restarts) (column c frames) ≡ here =
        ap (λ (n : ℕ). basis n (not restarts) (column c frames)) (sym step_is)
        ∙ ap (λ (t : Bool). basis (step_at (given head.params before.state) c) (not t) (column c frames)) (sym r)
        ∙ ap (λ (ys : List ℤ). basis (step_at (given head.params before.state) c) (not (is_some head.restart)) ys) (sym outputs) in
        subst (λ (cs : List Code). IsLeastFor here (given_to head.params (c - before.state.restart.min)) cs) (sym spelled)
        (subst (λ (g : Option ChannelParams). IsLeastFor here g x.codes) (sym written)
        (subst (λ (b : Basis). IsLeastFor b x.given x.codes) same (least_for k past step (not restarts) (column c frames) can)))

  first_most : first_channel j ≤ 8
  first_most = let le = first_last j h.codable.which in let l = last_most j in omega (arith, le, l)

  front_count : length (take (first_channel j) before.pasts) ≡ first_channel j
  front_count = length-take-le (first_channel j) before.pasts (omega (arith, eight, first_most))

  both_count : length (take (first_channel j) before.pasts ++ map (λ (y : Sent). y.past) (sent_in j p restarts before frames)) ≡ last_channel j + 1
  both_count =
      let le = first_last j h.codable.which in
      let b = length-map (sent_in j p restarts before frames) (λ (y : Sent). y.past) in
      let n = length-map-range_with_len (channel_in j before (steps_of p.mix (low_zeros p.depth) j) (not restarts) frames) (first_channel j) (last_channel j - first_channel j + 1) in
      let u = length-append (take (first_channel j) before.pasts) (map (λ (y : Sent). y.past) (sent_in j p restarts before frames)) in
      omega (arith, front_count, b, n, u, le)

  pub pasts_count : length (pasts_with j before.pasts (sent_in j p restarts before frames)) ≡ 8
  pasts_count =
      let d = length-drop (last_channel j + 1) before.pasts in
      let l = last_most j in
      let u = length-append (take (first_channel j) before.pasts ++ map (λ (y : Sent). y.past) (sent_in j p restarts before frames)) (drop (last_channel j + 1) before.pasts) in
      omega (arith, both_count, d, u, l, eight)

  mid_count : first_channel j + length (map (λ (y : Sent). y.past) (sent_in j p restarts before frames)) ≡ last_channel j + 1
  mid_count = let u = length-append (take (first_channel j) before.pasts) (map (λ (y : Sent). y.past) (sent_in j p restarts before frames)) in omega (arith, both_count, front_count, u)

  -- the pasts of other channels stay
  pub past_below : (c : ℕ) → c < first_channel j → past_of_channel (pasts_with j before.pasts (sent_in j p restarts before frames)) c ≡ past_of_channel before.pasts c
  past_below c lt = replaced_below before.pasts (map (λ (y : Sent). y.past) (sent_in j p restarts before frames)) (first_channel j) (last_channel j + 1) c (omega (arith, eight, first_most)) lt

  pub past_above : (c : ℕ) → last_channel j < c → past_of_channel (pasts_with j before.pasts (sent_in j p restarts before frames)) c ≡ past_of_channel before.pasts c
  past_above c lt = replaced_above before.pasts (map (λ (y : Sent). y.past) (sent_in j p restarts before frames)) (first_channel j) (last_channel j + 1) c (omega (arith, eight, first_most)) mid_count (omega (arith, lt))

  -- the bypassed bits of its frames, where the rows take any
  pub bits_are : map (λ f. f.bypass) (codes_in behind.rows.items (sent_in j p restarts before frames) frames) ≡ map (bypass_in (rows_of p.mix j p.channels)) frames
  bits_are =
      let rows : List MatrixRow = rows_of p.mix j p.channels in
      let channels : List Sent = sent_in j p restarts before frames in
      ap (λ (rows : List MatrixRow). map (λ f. f.bypass) (codes_in rows channels frames)) (rows_behind j p restarts before frames h)
      ∙ map_over (λ (f : FrameCode). f.bypass) (frame_code rows channels frames) (range_with_len 0 (length frames))
      ∙ over_range (bypass_in rows) (record { values = []; bypass = 0 }) frames 0 (length frames) (omega arith)
