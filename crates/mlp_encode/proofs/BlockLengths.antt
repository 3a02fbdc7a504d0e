-- How many bits a block that is sent takes at most.
use Rattle.std.proofs.Common.{◌≡◌, ℕ, zero, suc, ◌+◌, ◌-◌, ◌*◌, ◌≤◌, pos, Bool, true, false, List, [], ◌++◌, drop, map, length, get_or, Option, Some, None, refl, ap, ◌∙◌, subst, arith}
use Rattle.std.specs.Prelude.{◌==◌, not, nat_lt, if◌then◌else◌}
use Rattle.std.specs.List.{range_with_len, list_any}
use Rattle.std.proofs.lemmas.List.{length-append, length-map}
use Rattle.std.proofs.lemmas.List.FromFn.{length-map-range_with_len, get_or-map-range_with_len}
use Rattle.std.proofs.lemmas.Simd.{map-map}
use Rattle.mlp_syntax.specs.declared.params.ChannelParams.{ChannelParams}
use Rattle.mlp_syntax.specs.declared.params.MatrixRow.{MatrixRow}
use Rattle.mlp_syntax.specs.declared.params.Params.{Params}
use Rattle.mlp_syntax.specs.declared.segment.Code.{Code}
use Rattle.mlp_bits.specs.Bits.{bit}
use Rattle.mlp_bits.proofs.BitLists.{length-bits}
use Rattle.mlp_layout.specs.Layout.{Layout, number_of, ruled, part, made}
use Rattle.mlp_layout.specs.Combined.{group, times, listed, each, series}
use Rattle.mlp_params.specs.declared.state.ChannelState.{ChannelState}
use Rattle.mlp_params.specs.declared.state.State.{State}
use Rattle.mlp_params.specs.InForce.{restarted_channel}
use Rattle.mlp_params.specs.Matrices.{rows}
use Rattle.mlp_params.specs.Parameters.{channel, block_size_of, output_shift, groups, params}
use Rattle.mlp_predict.specs.Prediction.{Past}
use Rattle.mlp_residual.specs.Frames.{channel_codes, coding_of, code, code_at, no_code, bypass_bits, codes_in as codes_layout, frame, coded_frames, frames_of}
use Rattle.mlp_residual.specs.declared.frames.ChannelCode.{ChannelCode}
use Rattle.mlp_channels.specs.Channels.{channel_at}
use Rattle.mlp_channels.specs.Playing.{past_of_channel}
use Rattle.mlp_fold.specs.declared.profile.Profile.{Profile}
use Rattle.mlp_fold.specs.declared.profile.Mix.{Mix}
use Rattle.mlp_fold.specs.declared.profile.Mix.TheVariants.{Split, Fold, Bypass, Side}
use Rattle.mlp_fold.specs.declared.coding.CodedFrame.{CodedFrame}
use Rattle.mlp_fold.specs.Rows.{steps_of}
use Rattle.mlp_fold.specs.Substreams.{first_channel, last_channel}
use Rattle.mlp_search.proofs.FilterLaws.{none_length, some_length}
use Rattle.mlp_encode.specs.Numbers.{low_zeros}
use Rattle.mlp_encode.specs.Coding.{Sent, nothing, column}
use Rattle.mlp_encode.specs.Blocks.{Force, channel_in, sent_in, size_with, rows_with, steps_with, params_of, bypass_in, frame_code, codes_in}
use Rattle.mlp_encode.specs.Lawful.{IsSendable, rows_size, steps_size, bypass_size}
use Rattle.mlp_encode.proofs.SentBlocks.{after, coding, coding_is, channels, to_last, rows_are}
use Rattle.mlp_encode.proofs.SentCosts.{channel_cost}
use Rattle.mlp_encode.proofs.Sums.{sums, sums_most, sums_add, sums_swap, series_long}
use Rattle.mlp_encode.proofs.BitCounts.{times_most, each_long, codes_long}
use Rattle.mlp_encode.proofs.RowLengths.{rows_most, bypass_few}

-- ---- parameters

five_long : (a b c d e : List Bool) → length (a ++ (b ++ (c ++ (d ++ (e ++ []))))) ≡ length a + length b + length c + length d + length e
five_long a b c d e = omega (
  arith,
  length-append a (b ++ (c ++ (d ++ (e ++ [])))),
  length-append b (c ++ (d ++ (e ++ []))),
  length-append c (d ++ (e ++ [])),
  length-append d (e ++ []),
  length-append e [],
)

number_most : (w v : ℕ) → length ((number_of w).spelling v) ≤ w
unfolding number_of
number_most w v = let e = length-bits w v in omega (arith, e)

numbers_most : (m : ℕ) (xs : List ℕ) → length ((listed m (number_of 4)).spelling (record { items = xs })) ≤ m * 4
unfolding listed part made
numbers_most m xs =
    let all = times_most (number_of 4) 4 (number_most 4) m xs in
    omega (arith, all, length-append ((times m (number_of 4)).spelling xs) [])

-- the rows and steps that come with a restart, and the flags in their place where none comes
abbrev pub rows_given : Bool → Mix → ℕ → ℕ
rows_given true mix j = rows_size mix j
rows_given false mix j = 1

abbrev pub steps_given : Bool → Mix → ℕ → ℕ
steps_given true mix j = steps_size mix j
steps_given false mix j = 1

-- the steps of a mix, where one of them isn't 0
abbrev steps_text : ℕ → List ℕ → List Bool
steps_text m xs = (group true (listed m (number_of 4))).spelling (if list_any (nat_lt 0) xs then Some (record { items = xs }) else None)

steps_any : (m : ℕ) (xs : List ℕ) → length (steps_text m xs) ≤ 1 + m * 4
steps_any m xs = pick (list_any (nat_lt 0) xs)
  where
    pick : (t : Bool) → length ((group true (listed m (number_of 4))).spelling (if t then Some (record { items = xs }) else None)) ≤ 1 + m * 4
    pick true = let e = some_length (listed m (number_of 4)) (record { items = xs }) in omega (arith, e, numbers_most m xs)
    pick false = let e = none_length (listed m (number_of 4)) in omega (arith, e)

steps_most : (mix : Mix) (j q m : ℕ) → m ≡ last_channel j + 1 → length (steps_text m (steps_of mix q j)) ≤ steps_size mix j
steps_most Split j q m e = omega (arith, e, steps_any m (steps_of Split q j))
steps_most Fold j q m e = omega (arith, e, steps_any m (steps_of Fold q j))
steps_most Bypass zero q m e = let none = none_length (listed m (number_of 4)) in omega (arith, none)
steps_most Bypass (suc j) q m e = omega (arith, e, steps_any m (steps_of Bypass q (suc j)))
steps_most Side j q m e = omega (arith, e, steps_any m (steps_of Side q j))

module _ (j : ℕ) (p : Profile) (restarts : Bool) (s : State) (pasts : List Past) (frames : List CodedFrame) (h : IsSendable j p restarts s frames) where
  abbrev before : Force
  before = record { state = s; pasts = pasts }

  abbrev written : Params
  written = params_of j p restarts s (length frames) (sent_in j p restarts before frames)

  abbrev steps : List ℕ
  steps = steps_of p.mix (low_zeros p.depth) j

  abbrev sent : ℕ → Sent
  sent c = channel_in j before steps (not restarts) frames c

  abbrev from : ℕ
  from = first_channel j

  abbrev count : ℕ
  count = last_channel j - first_channel j + 1

  -- of each channel the bits of its parameters and of its codes
  abbrev parameters : ℕ → ℕ
  parameters c = length ((group true (channel 0xFF (channel_at s c))).spelling (sent c).given)

  abbrev code_bits : ℕ → ℕ → ℕ
  code_bits i c = length ((code (coding j p restarts s pasts frames h c)).spelling (get_or (sent c).codes i nothing))

  size_most : length ((group true (block_size_of s.unit_frames)).spelling (size_with s (length frames))) ≤ 10
  unfolding ruled number_of
  size_most = pick (s.block_size == length frames)
    where
      pick : (t : Bool) → length ((group true (block_size_of s.unit_frames)).spelling (if t then None else Some (length frames))) ≤ 10
      pick true = let e = none_length (block_size_of s.unit_frames) in omega (arith, e)
      pick false = let e = some_length (block_size_of s.unit_frames) (length frames) in omega (arith, e, length-bits 9 (length frames))

  rows_bits : length ((group true (rows s.format s.restart)).spelling (rows_with j p restarts)) ≤ rows_given restarts p.mix j
  rows_bits = pick restarts
    where
      pick : (t : Bool) → length ((group true (rows s.format s.restart)).spelling (rows_with j p t)) ≤ rows_given t p.mix j
      pick true = rows_most s.format s.restart p.mix j p.channels p.depth (record { kind = h.begun.kind; max_matrix = h.begun.max_matrix }) h.shape.shape h.top h.codable.which
      pick false = let e = none_length (rows s.format s.restart) in omega (arith, e)

  steps_bits : length ((group true (listed (s.restart.max + 1) (number_of 4))).spelling (steps_with j p restarts)) ≤ steps_given restarts p.mix j
  steps_bits = pick restarts
    where
      pick : (t : Bool) → length ((group true (listed (s.restart.max + 1) (number_of 4))).spelling (steps_with j p t)) ≤ steps_given t p.mix j
      pick true = steps_most p.mix j (low_zeros p.depth) (s.restart.max + 1) (ap (λ (m : ℕ). m + 1) h.begun.max)
      pick false = let e = none_length (listed (s.restart.max + 1) (number_of 4)) in omega (arith, e)

  channels_bits : length ((each (λ c. group true (channel 0xFF c)) (drop s.restart.min s.channels.items)).spelling (map (λ x. x.given) (sent_in j p restarts before frames))) ≡ sums parameters from count
  channels_bits =
      let l : ChannelState → Layout (Option ChannelParams) = λ c. group true (channel 0xFF c) in
      ap (λ (m : ℕ). length ((each l (drop m s.channels.items)).spelling (map (λ x. x.given) (sent_in j p restarts before frames)))) h.begun.min
      ∙ ap (λ (gs : List (Option ChannelParams)). length ((each l (drop from s.channels.items)).spelling gs)) (map-map (λ (y : Sent). y.given) sent (range_with_len from count))
      ∙ each_long l s.channels.items restarted_channel (λ (c : ℕ). (sent c).given) from count (channels j p restarts s pasts frames h)

  groups_bits : length ((groups s None 0xFF).spelling written) ≤ 11 + rows_given restarts p.mix j + steps_given restarts p.mix j + sums parameters from count
  unfolding groups part made
  groups_bits =
      let a = (group true (block_size_of s.unit_frames)).spelling (size_with s (length frames)) in
      let b = (group true (rows s.format s.restart)).spelling (rows_with j p restarts) in
      let c = (group true (listed (s.restart.max_matrix + 1) output_shift)).spelling None in
      let d = (group true (listed (s.restart.max + 1) (number_of 4))).spelling (steps_with j p restarts) in
      let e = (each (λ c. group true (channel 0xFF c)) (drop s.restart.min s.channels.items)).spelling (map (λ x. x.given) (sent_in j p restarts before frames)) in
      omega (arith, five_long a b c d e, size_most, rows_bits, none_length (listed (s.restart.max_matrix + 1) output_shift), steps_bits, channels_bits)

  pub params_bits : length ((params s).spelling written) ≤ 12 + rows_given restarts p.mix j + steps_given restarts p.mix j + sums parameters from count
  unfolding params part
  params_bits =
      let f : ℕ → List Bool = λ p. (group (bit p 0) (number_of 8)).spelling None ++ (groups s None p).spelling written in
      let same = ap (λ (p : ℕ). length (f p)) h.begun.presence in
      omega (arith, same, none_length (number_of 8), groups_bits, length-append ((group true (number_of 8)).spelling None) ((groups s None 0xFF).spelling written))

  -- ---- frames

  all_codes : (i : ℕ) → length ((codes_layout (channel_codes (drop s.restart.min (after j p restarts s pasts frames h).channels.items)
      (drop s.restart.min (after j p restarts s pasts frames h).steps.items))).spelling (map (λ (y : Sent). get_or y.codes i nothing) (sent_in j p restarts before frames)))
      ≡ sums (λ c. code_bits i c) from count
  all_codes i =
      let ks : List ChannelCode = map (coding j p restarts s pasts frames h) (range_with_len from count) in
      let long : length ks ≡ count = length-map-range_with_len (coding j p restarts s pasts frames h) from count in
      let cs : List Code = map (λ (y : Sent). get_or y.codes i nothing) (sent_in j p restarts before frames) in
      ap (λ (k : List ChannelCode). length ((codes_layout k).spelling cs)) (coding_is j p restarts s pasts frames h)
      ∙ ap (λ (m : ℕ). length ((series (code_at ks) m []).spelling cs)) long
      ∙ ap (λ (xs : List Code). length ((series (code_at ks) count []).spelling xs)) (map-map (λ (y : Sent). get_or y.codes i nothing) sent (range_with_len from count))
      ∙ codes_long (coding j p restarts s pasts frames h) (λ (c : ℕ). get_or (sent c).codes i nothing) ks from count 0 [] refl
      (λ d l. let z : 0 + d ≡ d = omega arith in ap (λ (m : ℕ). get_or ks m no_code) z ∙ get_or-map-range_with_len (coding j p restarts s pasts frames h) from count d (from + d) no_code l refl)

  frame_bits : (i : ℕ) → length ((frame (coding_of (after j p restarts s pasts frames h))).spelling
      (frame_code (after j p restarts s pasts frames h).rows.items (sent_in j p restarts before frames) frames i)) ≤ bypass_size p.mix j + sums (λ c. code_bits i c) from count
  unfolding frame part made
  frame_bits i =
      let t : State = after j p restarts s pasts frames h in
      let bypassed : ℕ = bypass_in t.rows.items (get_or frames i (record { values = []; bypass = 0 })) in
      let a = (bypass_bits (map (λ row. row.bypass) t.rows.items)).spelling bypassed in
      let b = (codes_layout (channel_codes (drop s.restart.min t.channels.items) (drop s.restart.min t.steps.items))).spelling (map (λ (y : Sent). get_or y.codes i nothing) (sent_in j p restarts before frames)) in
      let few = bypass_few p.mix j p.channels bypassed in
      let rows_there = ap (λ (ms : List MatrixRow). length ((bypass_bits (map (λ row. row.bypass) ms)).spelling bypassed)) (rows_are j p restarts s pasts frames h) in
      omega (arith, few, rows_there, all_codes i, length-append a (b ++ []), length-append b [])

  frames_sum : (a m : ℕ) → sums (λ i. length ((frame (coding_of (after j p restarts s pasts frames h))).spelling (frame_code (after j p restarts s pasts frames h).rows.items (sent_in j p restarts before frames) frames i))) a m
      ≤ bypass_size p.mix j * m + sums (λ i. sums (λ c. code_bits i c) from count) a m
  frames_sum a zero = omega arith
  frames_sum a (suc m) = let rest = frames_sum (a + 1) m in omega (arith, rest, frame_bits a)

  pub frames_bits : length ((frames_of (after j p restarts s pasts frames h) (length frames)).spelling (codes_in (after j p restarts s pasts frames h).rows.items (sent_in j p restarts before frames) frames))
      ≤ bypass_size p.mix j * length frames + sums (λ c. sums (λ i. code_bits i c) 0 (length frames)) from count
  unfolding frames_of coded_frames
  frames_bits =
      let t : State = after j p restarts s pasts frames h in
      omega (
        arith,
        frames_sum 0 (length frames),
        sums_swap code_bits 0 (length frames) from count,
        series_long (frame (coding_of t)) (frame_code t.rows.items (sent_in j p restarts before frames) frames) 0 (length frames) [],
      )

  -- ---- both

  cost_at : (c : ℕ) → c ≤ last_channel j → parameters c + sums (λ i. code_bits i c) 0 (length frames) ≤ 34 + 26 * length frames
  cost_at c le =
      let k = h.codable in
      let long : length (column c frames) ≡ length frames = length-map frames (λ (f : CodedFrame). get_or f.values c (pos 0)) in
      let cost = channel_cost (channel_at s c) (past_of_channel pasts c) (get_or steps c 0) (not restarts) (column c frames) (k.states c le) (k.steps_small c le) (k.samples c) (k.whole c le)
      (λ e. (k.absent e c le).0) (λ e. (k.absent e c le).1) in
      subst (λ (n : ℕ). parameters c + sums (λ i. code_bits i c) 0 n ≤ 34 + 26 * n) long cost

  -- parameters and frames
  pub body_bits : length ((params s).spelling written) + length ((frames_of (after j p restarts s pasts frames h) (length frames)).spelling
      (codes_in (after j p restarts s pasts frames h).rows.items (sent_in j p restarts before frames) frames))
      ≤ 12 + rows_given restarts p.mix j + steps_given restarts p.mix j + bypass_size p.mix j * length frames + count * (34 + 26 * length frames)
  body_bits =
      let f : ℕ → ℕ = λ c. sums (λ i. code_bits i c) 0 (length frames) in
      let both = sums_add parameters f from count in
      let most = sums_most (λ c. parameters c + f c) (34 + 26 * length frames) from count (λ c low high. cost_at c (to_last j p restarts s pasts frames h c high)) in
      omega (arith, params_bits, frames_bits, both, most)
