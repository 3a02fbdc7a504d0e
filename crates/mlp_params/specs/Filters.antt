-- Prediction filters, as a block gives them.
use Rattle.std.specs.Prelude.{ℕ, ◌+◌, ◌==◌, nat_le, nat_lt, ◌&&◌, ◌||◌, not, Bool, [], length, None, is_some}
use Rattle.mlp_syntax.specs.declared.fault.Field.TheVariants as rule
use Rattle.mlp_syntax.specs.declared.params.FilterState.{FilterState}
use Rattle.mlp_syntax.specs.declared.params.Filter.{Filter}
use Rattle.mlp_layout.specs.Layout.{Layout, number_of, ruled, part, made}
use Rattle.mlp_layout.specs.Combined.{must, flag, signed_of, chosen, present, times}

-- the number of coefficients
abbrev pub order_of : {n : ℕ} → Filter n → ℕ
order_of f = length f.coeffs.items

-- a filter of order 0
abbrev pub absent : {n : ℕ} → Filter n
absent = record { shift = 0; coeff_bits = 0; coeff_shift = 0; coeffs = record { items = [] }; state = None }

-- Coefficient bits and coefficient shift, with one rule on both, whose place is the coefficient bits. Where these alone
-- break it, it fails before the shift is read.
unfoldable pub widths : Layout (ℕ × ℕ)
widths =
    ruled (must rule.CoeffBits (λ w. nat_le (w.0 + w.1) 16))
    (part (ruled (must rule.CoeffBits (λ b. nat_lt 0 b && nat_le b 16)) (number_of 5)) (λ w. w.0) (λ coeff_bits.
    part (number_of 3) (λ w. w.1) (λ coeff_shift.
    made (coeff_bits, coeff_shift))))

-- the state of a filter of this order; values of 0 bits have no fields and are 0
unfoldable pub filter_state : ℕ → Layout FilterState
filter_state order =
    part (number_of 4) (λ s. s.bits) (λ bits.
    part (number_of 4) (λ s. s.shift) (λ shift.
    part (times order (signed_of bits)) (λ s. s.values.items) (λ values.
    made (record { bits = bits; shift = shift; values = record { items = values } }))))

-- what follows a positive order in a filter, which may have a state or not
abbrev pub behind_order : (n : ℕ) → Bool → ℕ → Layout (Filter n)
behind_order n has_state order =
    part (number_of 4) (λ f. f.shift) (λ shift.
    part widths (λ f. (f.coeff_bits, f.coeff_shift)) (λ w.
    part (times order (signed_of w.0)) (λ f. f.coeffs.items) (λ coeffs.
    part (ruled (must rule.FirState (λ there. has_state || not there)) flag) (λ f. is_some f.state) (λ there.
    part (present there (filter_state order)) (λ f. f.state) (λ state.
    made (record {
      shift = shift;
      coeff_bits = w.0;
      coeff_shift = w.1;
      coeffs = record { items = coeffs };
      state = state;
    }))))))

-- a filter of at most so many coefficients
unfoldable pub filter : (n : ℕ) → Bool → Layout (Filter n)
filter n has_state =
    part (ruled (must rule.FilterOrder (λ order. nat_le order n)) (number_of 4)) order_of (λ order.
    chosen (order == 0) (made absent) (behind_order n has_state order))
