-- There are no rules on frames but those that they fit.
use Rattle.std.proofs.Common.{◌≡◌, ℕ, zero, suc, Bool, true, false, List, [], ◌∷◌, ◌++◌, length, get_or, arith}
use Rattle.mlp_syntax.specs.declared.segment.Code.{Code}
use Rattle.mlp_syntax.specs.declared.segment.FrameCode.{FrameCode}
use Rattle.mlp_layout.specs.Layout.{Layout, number_of, seen, part, made, item}
use Rattle.mlp_layout.specs.Combined.{flag, chosen, series}
use Rattle.mlp_books.specs.Books.{symbol_of, symbol_in}
use Rattle.mlp_params.specs.declared.state.State.{State}
use Rattle.mlp_residual.specs.Frames.{unpacked, bypass_bit, bypass_bits, code, code_at, frame, coded_frames, coding_of, frames_of, no_code}
use Rattle.mlp_residual.specs.declared.frames.ChannelCode.{ChannelCode}
use Rattle.mlp_residual.specs.declared.frames.Coding.{Coding}
use Rattle.mlp_residual.proofs.FrameLaws.{series-length}

pub flag_meets : (b : Bool) → flag.Meets b
unfolding flag seen number_of
flag_meets true = tt
flag_meets false = tt

symbol_meets : (book s : ℕ) → (symbol_in book).Meets s
unfolding symbol_in symbol_of made
symbol_meets zero s = tt
symbol_meets (suc zero) s = tt
symbol_meets (suc (suc zero)) s = tt
symbol_meets (suc (suc (suc book))) s = tt

code_meets : (k : ChannelCode) (c : Code) → (code k).Meets c
unfolding code part number_of made
code_meets k c = (symbol_meets k.book c.symbol, (tt, tt))

codes_meet : (channels : List ChannelCode) (n : ℕ) (before xs : List Code) → length xs ≡ n → (series (code_at channels) n before).Meets xs
unfolding series item made
codes_meet channels zero before xs e = tt
codes_meet channels (suc n) before [] e = absurd (omega (arith, e))
codes_meet channels (suc n) before (x ∷ xs) e = (code_meets (get_or channels (length before) no_code) x, codes_meet channels n (before ++ x ∷ []) xs (omega (arith, e)))

bit_meets : (t b : Bool) → (chosen t flag (made false)).Meets b
unfolding chosen made
bit_meets true b = flag_meets b
bit_meets false b = tt

bits_meet : (rows : List Bool) (count : ℕ) (before : List Bool) (n : ℕ) → (series (bypass_bit rows) count before).Meets (unpacked count n)
unfolding series item made unpacked
bits_meet rows zero before n = tt
bits_meet rows (suc count) before n = (bit_meets (get_or rows (length before) false) _, bits_meet rows count (before ++ _ ∷ []) _)

bypass_meets : (rows : List Bool) (n : ℕ) → (bypass_bits rows).Meets n
unfolding bypass_bits seen
bypass_meets rows n = bits_meet rows (length rows) [] n

frame_meets : (k : Coding) (f : FrameCode) → length f.codes.items ≡ length k.channels.items → (frame k).Meets f
unfolding frame part made
frame_meets k f e = (bypass_meets k.bypass.items f.bypass, (codes_meet k.channels.items (length k.channels.items) [] f.codes.items e, tt))

series_meets : {A : Type 0} (l : Layout A) (n : ℕ) (before xs : List A) → length xs ≡ n → ((x : A) → l.Fits x → l.Meets x) → (series (λ _. l) n before).Fits xs → (series (λ _. l) n before).Meets xs
unfolding series item made
series_meets l zero before xs e h f = tt
series_meets l (suc n) before [] e h f = absurd (omega (arith, e))
series_meets l (suc n) before (x ∷ xs) e h f = (h x f.0, series_meets l n (before ++ x ∷ []) xs (omega (arith, e)) h f.1)

-- frames that fit can be written
pub frames_meet : (s : State) (n : ℕ) (fs : List FrameCode) → (frames_of s n).Fits fs → (frames_of s n).Meets fs
unfolding frames_of coded_frames frame part
frames_meet s n fs f = series_meets (frame (coding_of s)) n [] fs (series-length (λ _. frame (coding_of s)) n [] fs f)
    (λ x fits. frame_meets (coding_of s) x (series-length (code_at (coding_of s).channels.items) (length (coding_of s).channels.items) [] x.codes.items fits.1.0)) f
