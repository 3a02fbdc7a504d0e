-- Residuals as symbols and low bits.
use Rattle.std.specs.Prelude.{◌≡◌, ℕ, suc, zero, ◌+◌, ◌*◌, ◌/◌, ◌^◌, ◌<◌, ℤ, pos, ◌+ℤ◌, ◌-ℤ◌, ◌*ℤ◌, List, [], ◌∷◌, length, Option, Some, None}
use Rattle.mlp_syntax.specs.declared.segment.Code.{Code}
use Rattle.mlp_arith.specs.Words.{wrap}
use Rattle.mlp_layout.specs.Layout.{Layout}
use Rattle.mlp_residual.specs.Frames.{code}

-- how many symbols a book has; book 0 has the one that takes no bits
abbrev pub symbols_of : ℕ → ℕ
symbols_of zero = 1
symbols_of (suc zero) = 18
symbols_of (suc (suc zero)) = 16
symbols_of (suc (suc (suc book))) = 15

-- how far the values lie below those that the symbols and low bits spell: 7 * 2^b in a book, and 2^(b + 2 - book) in a
-- book or 2^(b - 1) without one, where that power isn't negative
abbrev pub sign_offset : ℕ → ℕ → ℕ
sign_offset zero b = 2 ^ b / 2
sign_offset (suc zero) b = 7 * 2 ^ b + 2 * 2 ^ b
sign_offset (suc (suc zero)) b = 7 * 2 ^ b + 2 ^ b
sign_offset (suc (suc (suc book))) b = 7 * 2 ^ b + 2 ^ b / 2

-- the value of a symbol with b low bits, a number of quantisation steps
abbrev pub value_of : ℕ → ℕ → ℤ → Code → ℤ
value_of book b offset code = pos (code.symbol * 2 ^ b + code.low) +ℤ offset -ℤ pos (sign_offset book b)

-- the residual of a code
abbrev pub residual_of : ℕ → ℕ → ℤ → ℕ → Code → ℤ
residual_of book b offset step code = wrap (value_of book b offset code *ℤ pos (2 ^ step))

-- the code is one of the book with b low bits, and its residual is this one without any wrapping
pub record Spells (book b : ℕ) (offset : ℤ) (step : ℕ) (residual : ℤ) (code : Code) : Type 0 where
  pub symbol_in : code.symbol < symbols_of book
  pub low_in : code.low < 2 ^ b
  pub value : value_of book b offset code *ℤ pos (2 ^ step) ≡ residual

-- ---- how many bits codes take

-- the layout of the codes of a book with b low bits
abbrev pub code_with : ℕ → ℕ → Layout Code
code_with book b = code (record { book = book; low = b })

-- as many bits as its spelling has: those of the symbol's code, and the low bits
abbrev pub length_of : ℕ → ℕ → Code → ℕ
length_of book b value = length ((code_with book b).spelling value)

-- the residuals have codes, which take so many bits in all
unfoldable pub TakeBits : ℕ → ℕ → ℤ → ℕ → List ℤ → ℕ → Type 0
TakeBits book b offset step [] n = n ≡ 0
TakeBits book b offset step (r ∷ rs) n = (code : Code) × (m : ℕ) × Spells book b offset step r code
    × TakeBits book b offset step rs m × (n ≡ length_of book b code + m)

-- a count says how many bits the residuals take, or that they don't all have codes
abbrev pub Counts : ℕ → ℕ → ℤ → ℕ → List ℤ → Option ℕ → Type 0
Counts book b offset step rs None = (n : ℕ) → TakeBits book b offset step rs n → ⊥
Counts book b offset step rs (Some n) = TakeBits book b offset step rs n
