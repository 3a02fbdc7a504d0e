-- The parameters of a block are a layout.
use Rattle.std.proofs.Common.{◌≡◌, ℕ, Bool, true, eqb, List, [], ◌∷◌, Option, refl, sym}
use Rattle.std.proofs.lemmas.Bool.{eqb-true}
use Rattle.mlp_syntax.specs.declared.major.Kind.{Kind}
use Rattle.mlp_syntax.specs.declared.restart.Restart.{Restart}
use Rattle.mlp_syntax.specs.declared.params.Filter.{Filter}
use Rattle.mlp_syntax.specs.declared.params.Params.{Params}
use Rattle.mlp_params.specs.declared.state.ChannelState.{ChannelState}
use Rattle.mlp_params.specs.declared.state.State.{State}
use Rattle.mlp_layout.specs.Layout.{Layout, IsLayout}
use Rattle.mlp_layout.proofs.LayoutLaws.{made_is, item_is, part_is, tested_is}
use Rattle.mlp_layout.proofs.CombinedLaws.{layouts, tested_sets, times_is, made_sets}
use Rattle.mlp_params.specs.Filters.{widths, filter_state, filter}
use Rattle.mlp_params.specs.Matrices.{noise_shift_of, row, rows}
use Rattle.mlp_params.specs.Parameters.{filters_tested, channel, groups, params}
use Rattle.mlp_layout.specs.Combined.{listed, each}

widths_is : IsLayout widths
unfolding widths
widths_is = search layouts depth 40

pub filter_state_is : (order : ℕ) → IsLayout (filter_state order)
unfolding filter_state
filter_state_is order = search layouts depth 40

zero_is : (n : ℕ) → eqb n 0 ≡ true → 0 ≡ n
zero_is n h = sym (eqb-true n 0 h)

pub filter_is : (n : ℕ) (has_state : Bool) → IsLayout (filter n has_state)
unfolding filter
filter_is n has_state = search (layouts, widths_is, filter_state_is, zero_is) depth 40

noise_shift_of_is : (kind : ℕ) → IsLayout (noise_shift_of kind)
unfolding noise_shift_of
noise_shift_of_is kind = search layouts depth 40

pub row_is : (r : Restart) → IsLayout (row r)
unfolding row
row_is r = search (layouts, noise_shift_of_is) depth 40

pub rows_is : (format : Kind) (r : Restart) → IsLayout (rows format r)
unfolding rows
rows_is format r = search (layouts, row_is) depth 40

pub listed_is : {A : Type 0} (n : ℕ) {l : Layout A} → IsLayout l → IsLayout (listed n l)
unfolding listed
listed_is n h = part_is _ (times_is n h) (λ items. made_is _) (λ items fits meets. made_sets _ _ _ refl)

pub each_is : {S A : Type 0} {l : S → Layout A} → ((s : S) → IsLayout (l s)) → (ss : List S) → IsLayout (each l ss)
unfolding each
each_is h [] = made_is []
each_is h (s ∷ ss) = item_is (h s) (λ x. each_is h ss)

filters_tested_is : {A : Type 0} (fir : Filter 8) (iir : Filter 4) {l : Layout A} → IsLayout l → IsLayout (filters_tested fir iir l)
unfolding filters_tested
filters_tested_is fir iir h = tested_is _ _ (tested_is _ _ h)

filters_tested_sets : {A R : Type 0} (of_record : R → A) (a : A) (fir : Filter 8) (iir : Filter 4) (l : Layout R) → ((r : R) → l.Fits r → of_record r ≡ a) → (r : R) → (filters_tested fir iir l).Fits r → of_record r ≡ a
unfolding filters_tested
filters_tested_sets of_record a fir iir l h = tested_sets of_record a _ _ _ (tested_sets of_record a _ _ l h)

pub channel_is : (flags : ℕ) (in_force : ChannelState) → IsLayout (channel flags in_force)
unfolding channel
channel_is flags in_force = search (layouts, filter_is, filters_tested_is, filters_tested_sets) depth 40

groups_is : (s : State) (presence : Option ℕ) (flags : ℕ) → IsLayout (groups s presence flags)
unfolding groups
groups_is s presence flags = search (layouts, rows_is, listed_is, each_is, channel_is) depth 40

groups_sets : (s : State) (presence : Option ℕ) (flags : ℕ) (p : Params) → (groups s presence flags).Fits p → p.presence ≡ presence
unfolding groups
groups_sets s presence flags = search layouts depth 40

pub params_is : (s : State) → IsLayout (params s)
unfolding params
params_is s = search (layouts, groups_is, groups_sets) depth 40
