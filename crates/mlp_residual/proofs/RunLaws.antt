-- Frames read one after the other from words.
use Rattle.std.proofs.Common.{◌≡◌, ℕ, zero, suc, ◌+◌, ◌-◌, ◌<◌, ◌≤◌, Bool, false, List, [], ◌∷◌, ◌++◌, All, length, replicate, get_or, map, Ok, Err, refl, sym, ap, subst, ◌∙◌, arith}
use Rattle.std.proofs.lemmas.List.{length-map}
use Rattle.mlp_syntax.specs.declared.fault.Broken.{Broken}
use Rattle.mlp_syntax.specs.declared.segment.Code.{Code}
use Rattle.mlp_syntax.specs.declared.segment.FrameCode.{FrameCode}
use Rattle.mlp_layout.specs.Layout.{seen, part, item, made}
use Rattle.mlp_layout.specs.Reading.{Read}
use Rattle.mlp_layout.specs.Combined.{chosen, series}
use Rattle.mlp_layout.proofs.Loops.{SeriesContinues, series_goes_on, series_stops, series_is_done}
use Rattle.mlp_residual.specs.declared.ahead.Lookup.{Lookup}
use Rattle.mlp_residual.specs.declared.frames.ChannelCode.{ChannelCode}
use Rattle.mlp_residual.specs.declared.frames.Coding.{Coding}
use Rattle.mlp_residual.specs.Lookups.{channel_of}
use Rattle.mlp_residual.specs.Frames.{packed, bypass_bit, bypass_bits, code_at, frame, coded_frames}
use Rattle.mlp_residual.proofs.FrameLaws.{starts}

-- ---- no bypass bits

-- no matrix has one
no_bit : (rows : List Bool) → All (λ b. b ≡ false) rows → (i : ℕ) → get_or rows i false ≡ false
no_bit [] none i = refl
no_bit (b ∷ bs) none zero = none 0 false (omega arith)
no_bit (b ∷ bs) none (suc i) = no_bit bs (λ k d lt. none (suc k) d (omega (arith, lt))) i

nothing : (rows before : List Bool) → All (λ b. b ≡ false) rows → (all : List Bool) (p : ℕ) → (bypass_bit rows before).read all p ≡ Ok (false, p)
unfolding chosen made
nothing rows before none all p = rw (no_bit rows none (length before)) refl

nothing_read : (rows : List Bool) → All (λ b. b ≡ false) rows → (n : ℕ) (before all : List Bool) (p : ℕ) → (series (bypass_bit rows) n before).read all p ≡ Ok (replicate n false, p)
unfolding series item made
nothing_read rows none zero before all p = refl
nothing_read rows none (suc n) before all p = rw (nothing rows before none all p, nothing_read rows none n (before ++ false ∷ []) all p) refl

packed_none : (n : ℕ) → packed (replicate n false) ≡ 0
unfolding packed
packed_none zero = refl
packed_none (suc n) = rw (packed_none n) refl

pub no_bypass : (rows : List Bool) → All (λ b. b ≡ false) rows → (all : List Bool) (p : ℕ) → (bypass_bits rows).read all p ≡ Ok (0, p)
unfolding bypass_bits seen
no_bypass rows none all p = rw (nothing_read rows none (length rows) [] all p, packed_none (length rows)) refl

-- ---- a frame without bypass bits

abbrev pub without_bypass : List Code → FrameCode
without_bypass codes = record { bypass = 0; codes = record { items = codes } }

pub frame_reads : (k : Coding) (codes : List Code) (all : List Bool) (p q : ℕ) → All (λ b. b ≡ false) k.bypass.items → (series (code_at k.channels.items) (length k.channels.items) []).read all p ≡ Ok (codes, q)
    → (frame k).read all p ≡ Ok (without_bypass codes, q)
unfolding frame part made
frame_reads k codes all p q none h = rw (no_bypass k.bypass.items none all p, h) refl

pub frame_fails : (k : Coding) (all : List Bool) (p : ℕ) (e : Broken) → All (λ b. b ≡ false) k.bypass.items → (series (code_at k.channels.items) (length k.channels.items) []).read all p ≡ Err e → (frame k).read all p ≡ Err e
unfolding frame part made
frame_fails k all p e none h = rw (no_bypass k.bypass.items none all p, h) refl

-- the codes of the channels that the lookups are of
pub of_channels : (lookups : List Lookup) (channels : List ChannelCode) (all : List Bool) (p : ℕ) (r : Read (List Code)) → map channel_of lookups ≡ channels
    → (series (code_at (map channel_of lookups)) (length lookups) []).read all p ≡ r → (series (code_at channels) (length channels) []).read all p ≡ r
of_channels lookups channels all p r is h =
    let same : length lookups ≡ length channels = sym (length-map lookups channel_of) ∙ ap length is in
    let there : (series (code_at (map channel_of lookups)) (length channels) []).read all p ≡ r = subst (λ (m : ℕ). (series (code_at (map channel_of lookups)) m []).read all p ≡ r) same h in
    subst (λ (cs : List ChannelCode). (series (code_at cs) (length channels) []).read all p ≡ r) is there

-- ---- several frames

-- so many frames were read: the others of any number go on behind them
pub record FramesRead (k : Coding) (count : ℕ) (frames : List FrameCode) (all : List Bool) (place end : ℕ) : Type 0 where
  pub on : (m : ℕ) → count ≤ m → SeriesContinues (λ _. frame k) (m - count) frames all end ((series (λ _. frame k) m []).read all place)

pub none_read : (k : Coding) (all : List Bool) (place : ℕ) → FramesRead k 0 [] all place place
none_read k all place = record { on = λ m le. starts (λ _. frame k) m all place }

pub one_more : (k : Coding) (count : ℕ) (frames : List FrameCode) (f : FrameCode) (all : List Bool) (place end behind : ℕ) → (frame k).read all end ≡ Ok (f, behind) → FramesRead k count frames all place end
    → FramesRead k (count + 1) (frames ++ f ∷ []) all place behind
one_more k count frames f all place end behind h so_far = record {
  on = λ m le. series_goes_on (λ _. frame k) frames m count all end behind f _ (omega arith) h (so_far.on m (omega arith));
}

pub all_read : (k : Coding) (count : ℕ) (frames : List FrameCode) (all : List Bool) (place end : ℕ) → FramesRead k count frames all place end → (coded_frames k count).read all place ≡ Ok (frames, end)
unfolding coded_frames
all_read k count frames all place end so_far = series_is_done (λ _. frame k) frames count count all end _ (omega arith) (so_far.on count (omega arith))

pub then_fails : (k : Coding) (count m : ℕ) (frames : List FrameCode) (e : Broken) (all : List Bool) (place end : ℕ) → count < m → (frame k).read all end ≡ Err e → FramesRead k count frames all place end
    → (coded_frames k m).read all place ≡ Err e
unfolding coded_frames
then_fails k count m frames e all place end lt h so_far = series_stops (λ _. frame k) frames m count all end e _ lt h (so_far.on m (omega arith))
