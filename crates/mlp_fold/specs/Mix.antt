-- The mixes: what is coded of a frame of PCM, and what each presentation shows of it. Values are of 24 bits,
-- with low q bits 0.
use Rattle.std.specs.Prelude.{◌≡◌, ℕ, zero, suc, ◌+◌, ◌*◌, ◌^◌, ◌<◌, ◌==◌, nat_lt, List, [], ◌∷◌, slice_index_or, ℤ, pos, neg_ℤ, ◌+ℤ◌, ◌-ℤ◌, ◌*ℤ◌, ◌≤ℤ◌, ◌<ℤ◌, cond, if◌then◌else◌}
use Rattle.mlp_arith.specs.Words.{floor_by, clear}
use Rattle.mlp_arith.specs.Ranges.{Is26}
use Rattle.mlp_matrix.specs.Matrix.{is_even}
use Rattle.mlp_fold.specs.declared.profile.Mix.{Mix}
use Rattle.mlp_fold.specs.declared.profile.Mix.TheVariants.{Split, Fold, Bypass, Side}
use Rattle.mlp_fold.specs.declared.coding.CodedFrame.{CodedFrame}

abbrev pub at : List ℤ → ℕ → ℤ
at frame c = slice_index_or frame c (pos 0)

-- a value of PCM: 24 signed bits, the low q of them 0
pub record IsSample (q : ℕ) (x : ℤ) : Type 0 where
  pub low : neg_ℤ (pos (2 ^ 23)) ≤ℤ x
  pub high : x <ℤ pos (2 ^ 23)
  pub cleared : clear q x ≡ x

-- a frame whose first channels hold such values
abbrev pub AreSamples : ℕ → ℕ → List ℤ → Type 0
AreSamples q channels frame = (c : ℕ) → c < channels → IsSample q (at frame c)

-- the channels of presentation or substream k, counted from the first
abbrev pub channels_of : ℕ → ℕ
channels_of zero = 2
channels_of (suc zero) = 6
channels_of (suc (suc k)) = 8

-- the first n values, and zeros up to eight
abbrev pub place : ℕ → List ℤ → ℕ → ℤ
place n frame c = cond (nat_lt c n) (at frame c) (pos 0)

abbrev pub shown : ℕ → List ℤ → List ℤ
shown n frame = place n frame 0 ∷ place n frame 1 ∷ place n frame 2 ∷ place n frame 3
    ∷ place n frame 4 ∷ place n frame 5 ∷ place n frame 6 ∷ place n frame 7 ∷ []

-- ---- Fold: the front channels less a part of the others, over 2^14

abbrev pub lowered : ℕ → ℤ → ℤ → ℤ
lowered q x sum = x -ℤ clear q (floor_by 14 sum)

-- of 6 channels: from centre and surround; of 8: from centre and the sum of surround and back
abbrev pub front6 : ℕ → ℤ → ℤ → ℤ → ℤ
front6 q x centre surround = lowered q x (neg_ℤ (pos 11585) *ℤ centre +ℤ neg_ℤ (pos 11585) *ℤ surround)

abbrev pub front8 : ℕ → ℤ → ℤ → ℤ → ℤ
front8 q x centre sum = lowered q x (neg_ℤ (pos 11585) *ℤ centre +ℤ neg_ℤ (pos 5793) *ℤ sum)

-- a front channel of the stereo presentation, both of them, and a side channel of the six-channel one
abbrev pub stereo : ℕ → ℤ → ℤ
stereo q z = clear q (floor_by 14 (pos 6786 *ℤ z))

abbrev pub stereo_pair : ℕ → ℤ → ℤ → List ℤ
stereo_pair q left right =
    stereo q left ∷ stereo q right ∷ pos 0 ∷ pos 0 ∷ pos 0 ∷ pos 0 ∷ pos 0 ∷ pos 0 ∷ []

abbrev pub halved : ℕ → ℤ → ℤ
halved q z = clear q (floor_by 1 z)

-- ---- what is coded

abbrev pub coded_fold6 : ℕ → List ℤ → List ℤ
coded_fold6 q x = front6 q (at x 0) (at x 2) (at x 4) ∷ front6 q (at x 1) (at x 2) (at x 5)
    ∷ at x 2 ∷ at x 3 ∷ at x 4 ∷ at x 5 ∷ pos 0 ∷ pos 0 ∷ []

abbrev pub coded_fold8 : ℕ → List ℤ → List ℤ
coded_fold8 q x =
    front8 q (at x 0) (at x 2) (at x 4 +ℤ at x 6)
    ∷ front8 q (at x 1) (at x 2) (at x 5 +ℤ at x 7) ∷ at x 2 ∷ at x 3
    ∷ (at x 4 +ℤ at x 6) ∷ (at x 5 +ℤ at x 7) ∷ at x 6 ∷ at x 7 ∷ []

abbrev pub coded_bypass : List ℤ → List ℤ
coded_bypass x = at x 0 ∷ at x 1 ∷ clear 1 (at x 2) ∷ clear 1 (at x 3)
    ∷ clear 1 (at x 4) ∷ clear 1 (at x 5) ∷ pos 0 ∷ pos 0 ∷ []

abbrev pub coded_side : List ℤ → List ℤ
coded_side x = at x 0 ∷ (at x 1 -ℤ at x 0) ∷ pos 0 ∷ pos 0 ∷ pos 0 ∷ pos 0 ∷ pos 0 ∷ pos 0 ∷ []

abbrev pub coded_of : Mix → ℕ → ℕ → List ℤ → List ℤ
coded_of Split q channels x = shown channels x
coded_of Fold q channels x = if channels == 6 then coded_fold6 q x else coded_fold8 q x
coded_of Bypass q channels x = coded_bypass x
coded_of Side q channels x = coded_side x

-- the bypassed bits: bit c - 2 is the low bit of channel c
abbrev pub low_bit : ℤ → ℕ
low_bit x = cond (is_even x) 0 1

abbrev pub bypass_of : Mix → List ℤ → ℕ
bypass_of Split x = 0
bypass_of Fold x = 0
bypass_of Bypass x = low_bit (at x 2) + 2 * low_bit (at x 3) + 4 * low_bit (at x 4) + 8 * low_bit (at x 5)
bypass_of Side x = 0

abbrev pub coded_frame : Mix → ℕ → ℕ → List ℤ → CodedFrame
coded_frame mix q channels x = record { values = coded_of mix q channels x; bypass = bypass_of mix x }

-- each coded value has 26 signed bits
abbrev pub IsCoded : CodedFrame → Type 0
IsCoded coded = (c : ℕ) → Is26 (at coded.values c)

-- ---- what a presentation shows

abbrev pub presented_fold6 : ℕ → ℕ → List ℤ → List ℤ
presented_fold6 q zero x = stereo_pair q (front6 q (at x 0) (at x 2) (at x 4)) (front6 q (at x 1) (at x 2) (at x 5))
presented_fold6 q (suc k) x = shown 6 x

abbrev pub presented_fold8 : ℕ → ℕ → List ℤ → List ℤ
presented_fold8 q zero x =
    stereo_pair q (front8 q (at x 0) (at x 2) (at x 4 +ℤ at x 6)) (front8 q (at x 1) (at x 2) (at x 5 +ℤ at x 7))
presented_fold8 q (suc zero) x = at x 0 ∷ at x 1 ∷ at x 2 ∷ at x 3
    ∷ halved q (at x 4 +ℤ at x 6) ∷ halved q (at x 5 +ℤ at x 7) ∷ pos 0 ∷ pos 0 ∷ []
presented_fold8 q (suc (suc k)) x = shown 8 x

abbrev pub presented_of : Mix → ℕ → ℕ → ℕ → List ℤ → List ℤ
presented_of Split q channels k x = shown (channels_of k) x
presented_of Fold q channels k x = if channels == 6 then presented_fold6 q k x else presented_fold8 q k x
presented_of Bypass q channels k x = shown (channels_of k) x
presented_of Side q channels k x = shown (channels_of k) x
