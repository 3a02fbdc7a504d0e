-- A block that is sent fits what is in force in it, and leaves what can be in force.
use Rattle.std.proofs.Common.{◌≡◌, ℕ, zero, suc, ◌+◌, ◌-◌, ◌<◌, ◌≤◌, pos, Bool, true, false, List, [], ◌∷◌, ◌++◌, take, drop, map, length, get_or, replicate, Option, Some, None, refl, sym, ap, ◌∙◌, subst, arith}
use Rattle.std.specs.Prelude.{◌==◌, ◌&&◌, not, nat_lt, unwrap_or, if◌then◌else◌}
use Rattle.std.specs.List.{range_with_len, list_any}
use Rattle.std.proofs.lemmas.Bool.{eqb-true, lt-ltb, ne_eqb}
use Rattle.std.proofs.lemmas.List.{length-take-le, length-map}
use Rattle.std.proofs.lemmas.List.FromFn.{length-map-range_with_len, get_or-map-range_with_len}
use Rattle.std.proofs.lemmas.Simd.{map-map}
use Rattle.mlp_syntax.specs.declared.params.ChannelParams.{ChannelParams}
use Rattle.mlp_syntax.specs.declared.params.MatrixRow.{MatrixRow}
use Rattle.mlp_syntax.specs.declared.params.Params.{Params}
use Rattle.mlp_syntax.specs.declared.segment.Code.{Code}
use Rattle.mlp_layout.specs.Layout.{part, made}
use Rattle.mlp_layout.specs.Combined.{series}
use Rattle.mlp_params.specs.declared.state.ChannelState.{ChannelState}
use Rattle.mlp_params.specs.declared.state.State.{State}
use Rattle.mlp_params.specs.Applied.{channel_applied, channels_applied, applied}
use Rattle.mlp_params.specs.InForce.{restarted_channel}
use Rattle.mlp_params.proofs.LawfulSteps.{applied_is}
use Rattle.mlp_predict.specs.Prediction.{Past}
use Rattle.mlp_residual.specs.Frames.{steps_fit, steps_within, channel_codes, coding_of, code, code_at, no_code, bypass_bits, codes_in as codes_layout, frame, coded_frames, frames_of}
use Rattle.mlp_residual.specs.declared.frames.ChannelCode.{ChannelCode}
use Rattle.mlp_channels.specs.Channels.{channel_at}
use Rattle.mlp_channels.specs.Playing.{past_of_channel}
use Rattle.mlp_fold.specs.declared.profile.Profile.{Profile}
use Rattle.mlp_fold.specs.declared.coding.CodedFrame.{CodedFrame}
use Rattle.mlp_fold.specs.Rows.{rows_of, steps_of}
use Rattle.mlp_fold.specs.Substreams.{first_channel, last_channel}
use Rattle.mlp_encode.specs.Numbers.{low_zeros}
use Rattle.mlp_encode.specs.Coding.{Sent, nothing, column}
use Rattle.mlp_encode.specs.Blocks.{Force, channel_in, sent_in, params_of, bypass_in, frame_code, codes_in}
use Rattle.mlp_encode.specs.Lawful.{IsSendable, IsInForce}
use Rattle.mlp_encode.proofs.SentChannels.{first_last}
use Rattle.mlp_encode.proofs.SentStates.{or_parts, applied_over, items_over, codes_over, within_over}
use Rattle.mlp_encode.proofs.SentParams.{params_allowed, steps_count}
use Rattle.mlp_encode.proofs.SentBits.{bits_fit}
use Rattle.mlp_encode.proofs.SentFits.{series_all, codes_fit}
use Rattle.mlp_encode.proofs.ChannelFits.{low_enough, each_fits}

drop_at : {A : Type 0} (xs ys : List A) (m : ℕ) → length xs ≡ m → drop m (xs ++ ys) ≡ ys
drop_at [] ys m e = let z : m ≡ 0 = omega (arith, e) in ap (λ (n : ℕ). drop n ys) z
drop_at {A} (x ∷ xs) ys m e =
    let n : m ≡ suc (length xs) = sym e in
    ap (λ (n : ℕ). drop n (x ∷ (xs ++ ys))) n ∙ drop_at xs ys (length xs) refl

all_zero : (xs : List ℕ) → list_any (nat_lt 0) xs ≡ false → xs ≡ replicate (length xs) 0
all_zero [] e = refl
all_zero (zero ∷ xs) e = ap (λ (ys : List ℕ). 0 ∷ ys) (all_zero xs e)
all_zero (suc x ∷ xs) e = absurd (let t : nat_lt 0 (suc x) ≡ true = lt-ltb 0 (suc x) (omega arith) in let f = (or_parts (nat_lt 0 (suc x)) (list_any (nat_lt 0) xs) e).0 in cc)

no_items : {A : Type 0} (xs : List A) → not (length xs == 0) ≡ false → xs ≡ []
no_items [] e = refl
no_items (x ∷ xs) e = absurd (let z : (suc (length xs) == 0) ≡ false = ne_eqb (suc (length xs)) 0 (λ z. absurd (omega (arith, z))) in let t : not (suc (length xs) == 0) ≡ true = ap not z in cc)

module _ (j : ℕ) (p : Profile) (restarts : Bool) (s : State) (pasts : List Past) (frames : List CodedFrame) (h : IsSendable j p restarts s frames) where
  abbrev before : Force
  before = record { state = s; pasts = pasts }

  abbrev steps : List ℕ
  steps = steps_of p.mix (low_zeros p.depth) j

  abbrev pub first : ℕ
  first = first_channel j

  abbrev pub n : ℕ
  n = last_channel j - first_channel j + 1

  abbrev pub x : ℕ → Sent
  x c = channel_in j before steps (not restarts) frames c

  abbrev written : Params
  written = params_of j p restarts s (length frames) (sent_in j p restarts before frames)

  abbrev pub after : State
  after = applied s written

  -- what is in force in a channel
  abbrev pub behind : ℕ → ChannelState
  behind c = channel_applied (channel_at s c) (x c).given

  pub channels : first + n ≡ length s.channels.items
  channels = let le = first_last j h.codable.which in omega (arith, h.begun.fits.lawful.channel_count, h.begun.max, le)

  pub to_last : (c : ℕ) → c < first + n → c ≤ last_channel j
  to_last c lt = let le = first_last j h.codable.which in omega (arith, lt, le)

  channels_behind : drop s.restart.min after.channels.items ≡ map behind (range_with_len first n)
  channels_behind =
      let low : List ChannelState = take s.restart.min s.channels.items in
      let gs : List (Option ChannelParams) = map (λ (y : Sent). y.given) (sent_in j p restarts before frames) in
      drop_at low (channels_applied (drop s.restart.min s.channels.items) gs) s.restart.min (length-take-le s.restart.min s.channels.items (omega (arith, channels, h.begun.min)))
      ∙ ap (λ (m : ℕ). channels_applied (drop m s.channels.items) gs) h.begun.min
      ∙ ap (λ (os : List (Option ChannelParams)). channels_applied (drop first s.channels.items) os) (map-map (λ (y : Sent). y.given) x (range_with_len first n))
      ∙ applied_over s.channels.items restarted_channel (λ (c : ℕ). (x c).given) first n channels

  -- ---- rows and steps are those of the mix

  pub steps_are : after.steps.items ≡ steps
  steps_are = pick restarts refl
    where
      fresh : (t : Bool) → restarts ≡ true → list_any (nat_lt 0) steps ≡ t → (unwrap_or (if t then Some (record { items = steps }) else None) s.steps).items ≡ steps
      fresh true r e = refl
      fresh false r e = h.no_steps r ∙ ap (λ (k : ℕ). replicate k 0) (sym (steps_count j p h.shape h.top)) ∙ sym (all_zero steps e)

      pick : (t : Bool) → restarts ≡ t → (unwrap_or (if t && list_any (nat_lt 0) steps then Some (record { items = steps }) else None) s.steps).items ≡ steps
      pick true r = fresh (list_any (nat_lt 0) steps) r refl
      pick false r = h.steps r

  pub rows_are : after.rows.items ≡ rows_of p.mix j p.channels
  rows_are = pick restarts refl
    where
      rows : List MatrixRow
      rows = rows_of p.mix j p.channels

      fresh : (t : Bool) → restarts ≡ true → not (length (rows_of p.mix j p.channels) == 0) ≡ t → (unwrap_or (if t then Some (record { items = rows_of p.mix j p.channels }) else None) s.rows).items ≡ rows_of p.mix j p.channels
      fresh true r e = refl
      fresh false r e = h.no_rows r ∙ sym (no_items (rows_of p.mix j p.channels) e)

      pick : (t : Bool) → restarts ≡ t → (unwrap_or (if t && not (length (rows_of p.mix j p.channels) == 0) then Some (record { items = rows_of p.mix j p.channels }) else None) s.rows).items ≡ rows_of p.mix j p.channels
      pick true r = fresh (not (length (rows_of p.mix j p.channels) == 0)) r refl
      pick false r = h.rows r

  steps_dropped : drop s.restart.min after.steps.items ≡ map (λ c. get_or steps c 0) (range_with_len first n)
  steps_dropped =
      let le = first_last j h.codable.which in
      ap (λ (xs : List ℕ). drop s.restart.min xs) steps_are ∙ ap (λ (m : ℕ). drop m steps) h.begun.min
      ∙ items_over steps 0 first n (omega (arith, steps_count j p h.shape h.top, le))

  pub size_is : after.block_size ≡ length frames
  size_is = pick (s.block_size == length frames) refl
    where
      pick : (t : Bool) → (s.block_size == length frames) ≡ t → unwrap_or (if t then None else Some (length frames)) s.block_size ≡ length frames
      pick true e = eqb-true s.block_size (length frames) e
      pick false e = refl

  -- ---- what is in force behind it

  pub lawful_behind : IsInForce p j after
  lawful_behind = record {
    begun = record {
      fits = record { lawful = applied_is s written h.begun.fits.lawful (params_allowed j p restarts s pasts frames h); format_is = h.begun.fits.format_is; frames_are = h.begun.fits.frames_are };
      min = h.begun.min;
      max = h.begun.max;
      max_matrix = h.begun.max_matrix;
      kind = h.begun.kind;
      presence = h.begun.presence;
    };
    rows = rows_are;
    steps = steps_are;
  }

  -- ---- its frames

  channel_step : (c : ℕ) → c ≤ last_channel j → get_or steps c 0 ≤ (behind c).low
  channel_step c le =
      let k = h.codable in
      low_enough (channel_at s c) (past_of_channel pasts c) (get_or steps c 0) (not restarts) (column c frames) (k.states c le) (k.steps_small c le) (k.samples c) (k.whole c le) (λ e. (k.absent e c le).0) (λ e. (k.absent e c le).1)

  pub fits_steps : steps_fit after ≡ true
  fits_steps =
      ap (λ (xs : List ℕ). steps_within xs (drop s.restart.min after.channels.items)) steps_dropped
      ∙ ap (λ (cs : List ChannelState). steps_within (map (λ c. get_or steps c 0) (range_with_len first n)) cs) channels_behind
      ∙ within_over behind (λ c. get_or steps c 0) first n (λ c from to. channel_step c (to_last c to))

  abbrev pub coding : ℕ → ChannelCode
  coding c = record { book = (behind c).book; low = (behind c).low - get_or steps c 0 }

  pub coding_is : channel_codes (drop s.restart.min after.channels.items) (drop s.restart.min after.steps.items) ≡ map coding (range_with_len first n)
  coding_is =
      ap (λ (cs : List ChannelState). channel_codes cs (drop s.restart.min after.steps.items)) channels_behind
      ∙ ap (λ (xs : List ℕ). channel_codes (map behind (range_with_len first n)) xs) steps_dropped
      ∙ codes_over behind (λ c. get_or steps c 0) first n

  code_there : (i c : ℕ) → i < length frames → c ≤ last_channel j → (code (coding c)).Fits (get_or (x c).codes i nothing)
  code_there i c lt le =
      let k = h.codable in
      each_fits (channel_at s c) (past_of_channel pasts c) (get_or steps c 0) (not restarts) (column c frames) (k.states c le) (k.steps_small c le) (k.samples c) (k.whole c le) (λ e. (k.absent e c le).0) (λ e. (k.absent e c le).1)
      i (omega (arith, lt, length-map frames (λ (f : CodedFrame). get_or f.values c (pos 0))))

  codes_there : (i : ℕ) → i < length frames → (codes_layout (channel_codes (drop s.restart.min after.channels.items) (drop s.restart.min after.steps.items))).Fits
      (map (λ (y : Sent). get_or y.codes i nothing) (sent_in j p restarts before frames))
  codes_there i lt =
      let ks : List ChannelCode = map coding (range_with_len first n) in
      let count : length ks ≡ n = length-map-range_with_len coding first n in
      let all = codes_fit coding (λ (c : ℕ). get_or (x c).codes i nothing) ks first n 0 [] refl
      (λ d l. let z : 0 + d ≡ d = omega arith in ap (λ (m : ℕ). get_or ks m no_code) z ∙ get_or-map-range_with_len coding first n d (first + d) no_code l refl) (λ c from to. code_there i c lt (to_last c to)) in
      subst (λ (cs : List ChannelCode). (codes_layout cs).Fits (map (λ (y : Sent). get_or y.codes i nothing) (sent_in j p restarts before frames))) (sym coding_is)
      (subst (λ (m : ℕ). (series (code_at ks) m []).Fits (map (λ (y : Sent). get_or y.codes i nothing) (sent_in j p restarts before frames))) (sym count)
      (subst (λ (cs : List Code). (series (code_at ks) n []).Fits cs) (sym (map-map (λ (y : Sent). get_or y.codes i nothing) x (range_with_len first n))) all))

  frame_there : (i : ℕ) → i < length frames → (frame (coding_of after)).Fits (frame_code after.rows.items (sent_in j p restarts before frames) frames i)
  unfolding frame part made
  frame_there i lt =
      let f : CodedFrame = get_or frames i (record { values = []; bypass = 0 }) in
      let bits = subst (λ (rows : List MatrixRow). (bypass_bits (map (λ row. row.bypass) rows)).Fits (bypass_in rows f)) (sym rows_are) (bits_fit p.mix j p.channels f (h.codable.bits i (record { values = []; bypass = 0 }) lt)) in
      (bits, (codes_there i lt, refl))

  pub frames_there : (frames_of after (length frames)).Fits (codes_in after.rows.items (sent_in j p restarts before frames) frames)
  unfolding frames_of coded_frames
  frames_there = series_all (frame (coding_of after)) (frame_code after.rows.items (sent_in j p restarts before frames) frames) 0 (length frames) [] (λ i from to. frame_there i (omega (arith, to)))
