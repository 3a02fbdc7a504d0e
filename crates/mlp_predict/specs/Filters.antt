-- The filters of a channel's parameters, as the coefficients that they stand for.
use Rattle.std.specs.Prelude.{ℕ, ◌<◌, ◌^◌, List, [], ◌∷◌, All, ℤ, pos, ◌*ℤ◌, FitsSigned}
use Rattle.std.specs.Int.{w32}
use Rattle.mlp_syntax.specs.declared.params.Filter.{Filter}
use Rattle.mlp_syntax.specs.declared.params.FilterState.{FilterState}
use Rattle.mlp_predict.specs.Prediction.{Filters, IsCoefficient}

-- each value times 2^shift
abbrev pub scaled : ℕ → List ℤ → List ℤ
scaled shift [] = []
scaled shift (v ∷ vs) = (v *ℤ pos (2 ^ shift)) ∷ scaled shift vs

-- a coefficient is its field times 2^(coefficient shift)
abbrev pub coefficients : {N : ℕ} → Filter N → List ℤ
coefficients filter = scaled filter.coeff_shift filter.coeffs.items

-- the shift is that of a filter that is there
abbrev pub shift_where : List ℤ → ℕ → ℕ → ℕ
shift_where [] fir iir = iir
shift_where (c ∷ cs) fir iir = fir

abbrev pub filters_of : {F I : ℕ} → Filter F → Filter I → Filters
filters_of fir iir = record {
  fir = coefficients fir;
  iir = coefficients iir;
  shift = shift_where fir.coeffs.items fir.shift iir.shift;
}

-- the differences that a state stands for
abbrev pub differences_of : FilterState → List ℤ
differences_of state = scaled state.shift state.values.items

-- ---- what may be handed in: it holds of all that a stream can carry

-- a filter whose coefficients have 16 signed bits
pub record IsFilter {N : ℕ} (filter : Filter N) : Type 0 where
  pub shift : filter.shift < 16
  pub coeff_shift : filter.coeff_shift < 16
  pub coefficients : All IsCoefficient (scaled filter.coeff_shift filter.coeffs.items)

-- both filters of a channel
pub record AreFilters {F I : ℕ} (fir : Filter F) (iir : Filter I) : Type 0 where
  pub fir_filter : IsFilter fir
  pub iir_filter : IsFilter iir

-- a state whose differences have 32 signed bits
pub record IsState (state : FilterState) : Type 0 where
  pub shift : state.shift < 16
  pub differences : All (FitsSigned w32) (scaled state.shift state.values.items)
