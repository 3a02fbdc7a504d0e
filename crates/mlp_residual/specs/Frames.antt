-- The frames of a block.
use Rattle.std.specs.Prelude.{ℕ, zero, suc, ◌+◌, ◌-◌, ◌*◌, ◌/◌, ◌%◌, ◌==◌, ◌≤◌, nat_le, ◌&&◌, Bool, true, false, List, [], ◌∷◌, length, map, drop, slice_index_or, Some, Result, Ok, Err, if◌then◌else◌, ◌≡◌}
use Rattle.mlp_syntax.specs.declared.fault.Broken.{Broken}
use Rattle.mlp_bits.specs.Cursor.{Cursor}
use Rattle.mlp_layout.specs.Reading.{Read, with_front}
use Rattle.mlp_syntax.specs.declared.segment.Code.{Code}
use Rattle.mlp_syntax.specs.declared.segment.FrameCode.{FrameCode}
use Rattle.mlp_layout.specs.Layout.{Layout, number_of, seen, part, made}
use Rattle.mlp_layout.specs.Combined.{flag, chosen, series}
use Rattle.mlp_books.specs.Books.{symbol_in}
use Rattle.mlp_params.specs.declared.state.ChannelState.{ChannelState}
use Rattle.mlp_params.specs.declared.state.State.{State}
use Rattle.mlp_residual.specs.declared.frames.ChannelCode.{ChannelCode}
use Rattle.mlp_residual.specs.declared.frames.Coding.{Coding}

-- ---- how the frames of a block are coded, by what is in force

-- each channel's book, and its low bits above its step
abbrev pub channel_codes : List ChannelState → List ℕ → List ChannelCode
channel_codes [] steps = []
channel_codes (c ∷ cs) [] = []
channel_codes (c ∷ cs) (step ∷ steps) = record { book = c.book; low = c.low - step } ∷ channel_codes cs steps

-- which matrices have a bypass bit, and the channels from the least to the greatest
abbrev pub coding_of : State → Coding
coding_of s = record {
  bypass = record { items = map (λ row. row.bypass) s.rows.items };
  channels = record { items = channel_codes (drop s.restart.min s.channels.items) (drop s.restart.min s.steps.items) };
}

-- each channel has at least as many low bits as its step
abbrev pub steps_within : List ℕ → List ChannelState → Bool
steps_within [] channels = true
steps_within (step ∷ steps) [] = true
steps_within (step ∷ steps) (c ∷ channels) = nat_le step c.low && steps_within steps channels

-- .. and so have those from the least to the greatest
abbrev pub steps_fit : State → Bool
steps_fit s = steps_within (drop s.restart.min s.steps.items) (drop s.restart.min s.channels.items)

-- ---- the bypass bits

-- bits as a number, the first having weight 1
unfoldable pub packed : List Bool → ℕ
packed [] = 0
packed (b ∷ bs) = (if b then 1 else 0) + 2 * packed bs

unfoldable pub unpacked : ℕ → ℕ → List Bool
unpacked zero n = []
unpacked (suc count) n = (n % 2 == 1) ∷ unpacked count (n / 2)

-- the bit of a matrix, where it has one
abbrev pub bypass_bit : List Bool → List Bool → Layout Bool
bypass_bit rows before = chosen (slice_index_or rows (length before) false) flag (made false)

-- of each matrix its bit, and 0 where it has none
unfoldable pub bypass_bits : List Bool → Layout ℕ
bypass_bits rows = seen packed (λ n. Some (unpacked (length rows) n)) (series (bypass_bit rows) (length rows) [])

-- ---- codes

-- a symbol of the book, and low bits
unfoldable pub code : ChannelCode → Layout Code
code c =
    part (symbol_in c.book) (λ k. k.symbol) (λ symbol.
    part (number_of c.low) (λ k. k.low) (λ low.
    made (record { symbol = symbol; low = low })))

abbrev pub no_code : ChannelCode
no_code = record { book = 0; low = 0 }

-- the code of the channel behind those before it
abbrev pub code_at : List ChannelCode → List Code → Layout Code
code_at channels before = code (slice_index_or channels (length before) no_code)

-- a code of each channel
abbrev pub codes_in : List ChannelCode → Layout (List Code)
codes_in channels = series (code_at channels) (length channels) []

-- ---- frames

unfoldable pub frame : Coding → Layout FrameCode
frame k =
    part (bypass_bits k.bypass.items) (λ f. f.bypass) (λ bypass.
    part (codes_in k.channels.items) (λ f. f.codes.items) (λ codes.
    made (record { bypass = bypass; codes = record { items = codes } })))

-- so many frames
unfoldable pub coded_frames : Coding → ℕ → Layout (List FrameCode)
coded_frames k count = series (λ before. frame k) count []

-- so many frames by what is in force
unfoldable pub frames_of : State → ℕ → Layout (List FrameCode)
frames_of s count = coded_frames (coding_of s) count

-- a channel's coding is one that a state gives
abbrev pub IsCoded : ChannelCode → Type 0
IsCoded c = (c.book ≤ 3) × (c.low ≤ 31)

-- what a function appended is what reading gives, and the reader stands behind it
abbrev pub GivesBehind : {A : Type 0} → List A → List A → Cursor
    → Cursor → Result (Unit {0}) Broken → Read (List A) → Type 0
GivesBehind before after old new (Ok done) read =
    (with_front before read ≡ Ok (after, new.place)) × (new.all ≡ old.all) × (old.place ≤ new.place)
GivesBehind before after old new (Err e) read = read ≡ Err e
