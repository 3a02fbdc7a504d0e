-- States stay lawful.
use Rattle.std.proofs.Common.{◌≡◌, ℕ, zero, suc, ◌+◌, ◌-◌, ◌^◌, ◌<◌, ◌≤◌, false, List, [], ◌∷◌, ◌++◌, map, length, replicate, refl, sym, ap, subst, ◌∙◌, arith}
use Rattle.std.specs.Prelude.{All}
use Rattle.std.specs.List.{range_with_len}
use Rattle.std.proofs.lemmas.Bool.{le-leb}
use Rattle.std.proofs.lemmas.List.{replicate-append-replicate, length-replicate}
use Rattle.std.proofs.lemmas.List.Elements.{All-replicate}
use Rattle.mlp_syntax.specs.declared.major.Kind.{Kind}
use Rattle.mlp_syntax.specs.declared.restart.Restart.{Restart}
use Rattle.mlp_params.specs.declared.state.ChannelState.{ChannelState}
use Rattle.mlp_layout.specs.Layout.{Layout, number_of, seen, ruled, made, part, item}
use Rattle.mlp_layout.specs.Combined.{signed_of, chosen, times, listed}
use Rattle.mlp_layout.specs.Allowed.{Allowed}
use Rattle.mlp_params.specs.RestartHeader.{restart}
use Rattle.mlp_params.specs.Filters.{absent, filter}
use Rattle.mlp_params.specs.Matrices.{matrix_limit, rows}
use Rattle.mlp_params.specs.Parameters.{block_size_of, output_shift}
use Rattle.mlp_params.specs.InForce.{in_force, restarted_channel, channel_in_force}
use Rattle.mlp_params.specs.States.{IsChannelState, IsState}
use Rattle.mlp_params.proofs.RestartRanges.{ranges}

-- ---- lists

times_allowed : {A : Type 0} (l : Layout A) (x : A) → Allowed l x → (n : ℕ) → Allowed (times n l) (replicate n x)
unfolding times item made
times_allowed l x a zero = record { fits = refl; meets = tt }
times_allowed l x a (suc n) = let later = times_allowed l x a n in record { fits = (a.fits, later.fits); meets = (a.meets, later.meets) }

pub listed_allowed : {A : Type 0} (l : Layout A) (x : A) → Allowed l x → (n : ℕ) → Allowed (listed n l) (record { items = replicate n x })
unfolding listed part made
listed_allowed l x a n = let all = times_allowed l x a n in record { fits = (all.fits, refl); meets = (all.meets, tt) }

-- ---- what a restart puts in force

zero_allowed : (w : ℕ) → 0 < 2 ^ w → Allowed (number_of w) 0
unfolding number_of
zero_allowed w h = record { fits = h; meets = tt }

zero_shift : Allowed output_shift 0
unfolding ruled number_of
zero_shift = record { fits = omega arith; meets = (tt, refl) }

pub presence_255 : Allowed (number_of 8) 0xFF
unfolding number_of
presence_255 = record { fits = omega arith; meets = tt }

pub size_8 : (unit_frames : ℕ) → 8 ≤ unit_frames → Allowed (block_size_of unit_frames) 8
unfolding ruled number_of
size_8 unit_frames h = record { fits = omega arith; meets = (tt, rw (le-leb 8 unit_frames h) refl) }

pub no_rows : (format : Kind) (r : Restart) → Allowed (rows format r) (record { items = [] })
unfolding rows part ruled number_of times made
no_rows format r = record { fits = (omega arith, (refl, refl)); meets = ((tt, rw (le-leb 0 (matrix_limit format) (omega arith)) refl), (tt, tt)) }

pub absent_allowed : (n : ℕ) → Allowed (filter n false) absent
unfolding filter part ruled number_of chosen made
absent_allowed n = record { fits = (omega arith, refl); meets = ((tt, rw (le-leb 0 n (omega arith)) refl), tt) }

pub restarted_is : IsChannelState restarted_channel
unfolding signed_of seen number_of
restarted_is = record {
  fir = absent_allowed 8;
  iir = absent_allowed 4;
  sum = omega arith;
  precision = refl;
  offset = record { fits = (omega arith, refl); meets = tt };
  book = omega arith;
  low = omega arith;
  book_low = λ h. absurd (omega arith);
}

map_same : (n a : ℕ) → map (channel_in_force []) (range_with_len a n) ≡ replicate n restarted_channel
map_same zero a = refl
map_same (suc n) a = ap (λ (cs : List ChannelState). restarted_channel ∷ cs) (map_same n (a + 1))

-- all channels are as at a restart
pub all_restarted : (low high : ℕ) → low ≤ high → replicate high restarted_channel ≡ replicate low restarted_channel ++ map (channel_in_force []) (range_with_len 0 (high - low))
all_restarted low high le =
    let whole : low + (high - low) ≡ high = omega arith in
    ap (λ (n : ℕ). replicate n restarted_channel) (sym whole) ∙ sym (replicate-append-replicate low (high - low) restarted_channel)
    ∙ ap (λ (cs : List ChannelState). replicate low restarted_channel ++ cs) (sym (map_same (high - low) 0))

pub restart_is_state : (format : Kind) (unit_frames : ℕ) (r : Restart) → Allowed (restart format) r → 8 ≤ unit_frames → unit_frames ≤ 160 → IsState (in_force format unit_frames r [])
restart_is_state format unit_frames r a least most =
    let order = (ranges format r a).order in
    let same = all_restarted r.min (r.max + 1) (omega arith) in
    let count : length (replicate r.min restarted_channel ++ map (channel_in_force []) (range_with_len 0 (r.max + 1 - r.min))) ≡ r.max + 1 = ap (λ (cs : List ChannelState). length cs) (sym same)
    ∙ length-replicate (r.max + 1) restarted_channel in
    record {
      restart = a;
      unit_frames = most;
      presence = presence_255;
      block_size = size_8 unit_frames least;
      rows = no_rows format r;
      shifts = listed_allowed output_shift 0 zero_shift (r.max_matrix + 1);
      steps = listed_allowed (number_of 4) 0 (zero_allowed 4 (omega arith)) (r.max + 1);
      channel_count = count;
      channels = subst (All IsChannelState) same (All-replicate IsChannelState (r.max + 1) restarted_channel restarted_is);
    }
