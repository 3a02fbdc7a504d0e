-- The parameters of a block that is sent can be written.
use Rattle.std.proofs.Common.{◌≡◌, ℕ, ◌+◌, ◌-◌, ◌≤◌, Bool, true, false, List, drop, map, length, get_or, Option, Some, None, refl, sym, ap, subst, arith}
use Rattle.std.specs.Prelude.{◌==◌, ◌&&◌, not, nat_le, nat_lt, unwrap_or, if◌then◌else◌}
use Rattle.std.specs.List.{range_with_len, list_any}
use Rattle.std.proofs.lemmas.Bool.{and_from, le-leb}
use Rattle.std.proofs.lemmas.Simd.{map-map}
use Rattle.mlp_syntax.specs.declared.params.ChannelParams.{ChannelParams}
use Rattle.mlp_syntax.specs.declared.params.Params.{Params}
use Rattle.mlp_layout.specs.Layout.{number_of, ruled, part, made}
use Rattle.mlp_layout.specs.Combined.{group, listed, each}
use Rattle.mlp_layout.specs.Allowed.{Allowed}
use Rattle.mlp_bits.specs.Bits.{bit}
use Rattle.mlp_params.specs.declared.state.State.{State}
use Rattle.mlp_params.specs.InForce.{restarted_channel}
use Rattle.mlp_params.specs.Matrices.{rows}
use Rattle.mlp_params.specs.Parameters.{channel, block_size_of, output_shift, groups, params}
use Rattle.mlp_predict.specs.Prediction.{Past}
use Rattle.mlp_search.specs.Least.{chosen}
use Rattle.mlp_search.proofs.ChosenLaws.{chosen_least}
use Rattle.mlp_search.proofs.GivenLaws.{candidate_allowed}
use Rattle.mlp_channels.specs.Channels.{channel_at}
use Rattle.mlp_channels.specs.Playing.{past_of_channel}
use Rattle.mlp_fold.specs.declared.profile.Profile.{Profile}
use Rattle.mlp_fold.specs.Profile.{AreMixed}
use Rattle.mlp_fold.specs.Mix.{channels_of}
use Rattle.mlp_fold.specs.declared.coding.CodedFrame.{CodedFrame}
use Rattle.mlp_fold.specs.Rows.{rows_of, steps_of}
use Rattle.mlp_fold.specs.Substreams.{first_channel, last_channel}
use Rattle.mlp_encode.specs.Numbers.{low_zeros}
use Rattle.mlp_encode.specs.Coding.{Sent, column, channel_sent}
use Rattle.mlp_encode.specs.Blocks.{Force, channel_in, sent_in, size_with, rows_with, steps_with, params_of}
use Rattle.mlp_encode.specs.Lawful.{IsSendable}
use Rattle.mlp_encode.proofs.Groups.{none_allowed, some_allowed, holds, each_over}
use Rattle.mlp_encode.proofs.SentChannels.{first_last}
use Rattle.mlp_encode.proofs.MixRows.{steps_long, steps_listed, mix_rows}

-- ---- parameters from their parts, where all presence flags are set

groups_from : (s : State) (p : Params) → p.presence ≡ None → p.shifts ≡ None → Allowed (group true (block_size_of s.unit_frames)) p.block_size → Allowed (group true (rows s.format s.restart)) p.matrices
    → Allowed (group true (listed (s.restart.max + 1) (number_of 4))) p.steps → Allowed (each (λ c. group true (channel 0xFF c)) (drop s.restart.min s.channels.items)) p.channels.items → Allowed (groups s None 0xFF) p
unfolding groups part made
groups_from s p none no_shifts size matrices steps channels =
    let shifts = subst (λ o. Allowed (group true (listed (s.restart.max_matrix + 1) output_shift)) o) (sym no_shifts) (none_allowed (listed (s.restart.max_matrix + 1) output_shift)) in
    record {
      fits = (size.fits, (matrices.fits, (shifts.fits, (steps.fits, (channels.fits, ap (λ (o : Option ℕ). record p { presence = o }) none)))));
      meets = (size.meets, (matrices.meets, (shifts.meets, (steps.meets, (channels.meets, tt)))));
    }

params_from : (s : State) (p : Params) → s.presence ≡ 0xFF → p.presence ≡ None → Allowed (groups s None 0xFF) p → Allowed (params s) p
unfolding params part
params_from s p all none g =
    let flags = subst (λ (o : Option ℕ). Allowed (group (bit s.presence 0) (number_of 8)) o) (sym none) (subst (λ (f : ℕ). Allowed (group (bit f 0) (number_of 8)) None) (sym all) (none_allowed (number_of 8))) in
    let rest = subst (λ (o : Option ℕ). Allowed (groups s o (unwrap_or o s.presence)) p) (sym none) (subst (λ (f : ℕ). Allowed (groups s None f) p) (sym all) g) in
    record { fits = (flags.fits, rest.fits); meets = (flags.meets, rest.meets) }

-- ---- the block size

size_allowed : (unit n : ℕ) (s : State) → 8 ≤ n → n ≤ unit → unit ≤ 160 → Allowed (group true (block_size_of unit)) (size_with s n)
unfolding ruled number_of
size_allowed unit n s least most small = pick (s.block_size == n)
  where
    there : Allowed (block_size_of unit) n
    there = record { fits = omega arith; meets = (tt, holds (nat_le 8 n && nat_le n unit) (and_from (nat_le 8 n) (nat_le n unit) (le-leb 8 n least) (le-leb n unit most))) }

    pick : (t : Bool) → Allowed (group true (block_size_of unit)) (if t then None else Some n)
    pick true = none_allowed (block_size_of unit)
    pick false = some_allowed (block_size_of unit) n there

-- ---- rows and steps

rows_allowed : (j : ℕ) (p : Profile) (restarts : Bool) (s : State) (frames : List CodedFrame) → IsSendable j p restarts s frames → Allowed (group true (rows s.format s.restart)) (rows_with j p restarts)
rows_allowed j p restarts s frames h = pick (restarts && not (length (rows_of p.mix j p.channels) == 0))
  where
    pick : (t : Bool) → Allowed (group true (rows s.format s.restart)) (if t then Some (record { items = rows_of p.mix j p.channels }) else None)
    pick true =
        some_allowed (rows s.format s.restart) (record { items = rows_of p.mix j p.channels })
        (mix_rows s.format s.restart p.mix j p.channels p.depth (record { kind = h.begun.kind; max_matrix = h.begun.max_matrix }) h.shape.shape h.top h.codable.which)
    pick false = none_allowed (rows s.format s.restart)

-- as many steps as channels up to the last one
pub steps_count : (j : ℕ) (p : Profile) → AreMixed p.mix p.depth p.channels → channels_of j ≤ p.channels → length (steps_of p.mix (low_zeros p.depth) j) ≡ last_channel j + 1
steps_count j p h top = steps_long p.mix (low_zeros p.depth) j p.channels p.depth h.shape top

steps_allowed : (j : ℕ) (p : Profile) (restarts : Bool) (s : State) (frames : List CodedFrame) → IsSendable j p restarts s frames → Allowed (group true (listed (s.restart.max + 1) (number_of 4))) (steps_with j p restarts)
steps_allowed j p restarts s frames h = pick (restarts && list_any (nat_lt 0) (steps_of p.mix (low_zeros p.depth) j))
  where
    pick : (t : Bool) → Allowed (group true (listed (s.restart.max + 1) (number_of 4))) (if t then Some (record { items = steps_of p.mix (low_zeros p.depth) j }) else None)
    pick true =
        some_allowed (listed (s.restart.max + 1) (number_of 4)) (record { items = steps_of p.mix (low_zeros p.depth) j })
        (steps_listed (s.restart.max + 1) (steps_of p.mix (low_zeros p.depth) j) (omega (arith, steps_count j p h.shape h.top, h.begun.max)) (λ i lt. h.codable.steps_small i (omega (arith, lt, h.begun.max))))
    pick false = none_allowed (listed (s.restart.max + 1) (number_of 4))

-- ---- all of them

module _ (j : ℕ) (p : Profile) (restarts : Bool) (s : State) (pasts : List Past) (frames : List CodedFrame) (h : IsSendable j p restarts s frames) where
  abbrev before : Force
  before = record { state = s; pasts = pasts }

  abbrev steps : List ℕ
  steps = steps_of p.mix (low_zeros p.depth) j

  -- what is given to a channel
  channel_allowed : (c : ℕ) → c ≤ last_channel j → Allowed (group true (channel 0xFF (channel_at s c))) (channel_in j before steps (not restarts) frames c).given
  unfolding channel_sent
  channel_allowed c le =
      let k = h.codable in
      let force = channel_at s c in
      let past = past_of_channel pasts c in
      let step = get_or steps c 0 in
      let least = chosen_least force past step (not restarts) (column c frames) (k.states c le) (k.steps_small c le) (k.samples c) (k.whole c le) (λ e. (k.absent e c le).0) (λ e. (k.absent e c le).1) in
      candidate_allowed force past step (not restarts) (column c frames) (chosen force past step (not restarts) (column c frames)) _ (k.states c le) least.costs

  channels_allowed : Allowed (each (λ c. group true (channel 0xFF c)) (drop s.restart.min s.channels.items)) (map (λ x. x.given) (sent_in j p restarts before frames))
  channels_allowed =
      let first = first_channel j in
      let n = last_channel j - first_channel j + 1 in
      let le = first_last j h.codable.which in
      let count : first + n ≡ length s.channels.items = omega (arith, h.begun.fits.lawful.channel_count, h.begun.max, le) in
      let all = each_over (λ c. group true (channel 0xFF c)) s.channels.items restarted_channel (λ (c : ℕ). (channel_in j before steps (not restarts) frames c).given) first n count
      (λ c lt. channel_allowed c (omega (arith, h.begun.fits.lawful.channel_count, h.begun.max, lt))) in
      subst (λ (m : ℕ). Allowed (each (λ c. group true (channel 0xFF c)) (drop m s.channels.items)) (map (λ x. x.given) (sent_in j p restarts before frames))) (sym h.begun.min)
      (subst (λ (gs : List (Option ChannelParams)). Allowed (each (λ c. group true (channel 0xFF c)) (drop first s.channels.items)) gs)
      (sym (map-map (λ (x : Sent). x.given) (channel_in j before steps (not restarts) frames) (range_with_len first n))) all)

  pub params_allowed : Allowed (params s) (params_of j p restarts s (length frames) (sent_in j p restarts before frames))
  params_allowed =
      let lawful = h.begun.fits.lawful in
      params_from s (params_of j p restarts s (length frames) (sent_in j p restarts before frames)) h.begun.presence refl
      (groups_from s (params_of j p restarts s (length frames) (sent_in j p restarts before frames)) refl refl
      (size_allowed s.unit_frames (length frames) s h.least (omega (arith, h.most, h.begun.fits.frames_are)) lawful.unit_frames)
      (rows_allowed j p restarts s frames h) (steps_allowed j p restarts s frames h) channels_allowed)
