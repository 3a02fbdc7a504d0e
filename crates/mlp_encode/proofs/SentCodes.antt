-- The codes of frames, channel by channel.
use Rattle.std.proofs.Common.{◌≡◌, ℕ, zero, suc, ◌+◌, ◌<◌, ℤ, Bool, true, false, List, [], ◌∷◌, ◌++◌, drop, map, length, get_or, replicate, refl, sym, ap, ◌∙◌, arith}
use Rattle.std.specs.Prelude.{All, if◌then◌else◌}
use Rattle.std.specs.List.{list_any, range_with_len}
use Rattle.std.proofs.lemmas.List.{drop_more, drop_all, map-append, length-map}
use Rattle.std.proofs.lemmas.List.Elements.{All-map}
use Rattle.arrayvec.specs.ArrayVec.{array_vec_len}
use Rattle.mlp_syntax.specs.declared.params.MatrixRow.{MatrixRow}
use Rattle.mlp_syntax.specs.declared.segment.Code.{Code}
use Rattle.mlp_syntax.specs.declared.segment.FrameCode.{FrameCode}
use Rattle.mlp_params.specs.declared.state.ChannelState.{ChannelState}
use Rattle.mlp_params.specs.Applied.{channel_applied}
use Rattle.mlp_predict.specs.Filters.{filters_of}
use Rattle.mlp_predict.specs.Prediction.{Filters, Past, residuals_of, past_after}
use Rattle.mlp_fold.specs.declared.coding.CodedFrame.{CodedFrame}
use Rattle.mlp_encode.specs.Coding.{Sent, nothing, written, channel_sent, code_of, past_with, residuals}
use Rattle.mlp_encode.specs.Pushed.{with_code, with_codes, with_bits}
use Rattle.mlp_encode.specs.Blocks.{frame_code, codes_in}

pub map_equal : {A B : Type 0} (f g : A → B) (xs : List A) → ((x : A) → f x ≡ g x) → map f xs ≡ map g xs
map_equal f g [] h = refl
map_equal {A} {B} f g (x ∷ xs) h = ap (λ (y : B). y ∷ map f xs) (h x) ∙ ap (λ (ys : List B). g x ∷ ys) (map_equal f g xs h)

-- ---- a code more in each frame

codes_over : (all : List Code) (g : ℕ → FrameCode) (a n : ℕ) → a + n ≡ length all
    → with_codes (drop a all) (map g (range_with_len a n)) ≡ map (λ i. with_code (get_or all i nothing) (g i)) (range_with_len a n)
codes_over all g a zero e = ap (λ (cs : List Code). with_codes cs []) (drop_all a all (omega (arith, e)))
codes_over all g a (suc n) e =
    let later : List FrameCode = map g (range_with_len (a + 1) n) in
    let lt : a < length all = omega (arith, e) in
    ap (λ (cs : List Code). with_codes cs (g a ∷ later)) (drop_more all a nothing lt)
    ∙ ap (λ (fs : List FrameCode). with_code (get_or all a nothing) (g a) ∷ fs) (codes_over all g (a + 1) n (omega (arith, e)))

module _ (frames : List CodedFrame) where
  -- the codes of one channel more
  pub codes_next : (channels : List Sent) (x : Sent) → length x.codes ≡ length frames → with_codes x.codes (codes_in [] channels frames) ≡ codes_in [] (channels ++ x ∷ []) frames
  codes_next channels x e =
      codes_over x.codes (frame_code [] channels frames) 0 (length frames) (omega (arith, e))
      ∙ map_equal (λ i. with_code (get_or x.codes i nothing) (frame_code [] channels frames i)) (frame_code [] (channels ++ x ∷ []) frames) (range_with_len 0 (length frames))
      (λ i. ap (λ (cs : List Code). let f : FrameCode = record { bypass = 0; codes = record { items = cs } } in f) (sym (map-append (λ (y : Sent). get_or y.codes i nothing) channels (x ∷ []))))

  -- none of them is full yet
  pub codes_room : (channels : List Sent) → length channels < 8 → All (λ f. array_vec_len f.codes < 8) (codes_in [] channels frames)
  codes_room channels few =
      let P : FrameCode → Type 0 = λ f. array_vec_len f.codes < 8 in
      All-map P (frame_code [] channels frames) (range_with_len 0 (length frames))
      (λ i d h. omega (arith, few, length-map channels (λ (y : Sent). get_or y.codes (get_or (range_with_len 0 (length frames)) i d) nothing)))

-- ---- the bypassed bits

bits_over : (all : List CodedFrame) (g : ℕ → FrameCode) (a n : ℕ) → a + n ≡ length all
    → with_bits (drop a all) (map g (range_with_len a n)) ≡ map (λ i. record (g i) { bypass = (get_or all i (record { values = []; bypass = 0 })).bypass }) (range_with_len a n)
bits_over all g a zero e = ap (λ (cs : List CodedFrame). with_bits cs []) (drop_all a all (omega (arith, e)))
bits_over all g a (suc n) e =
    let later : List FrameCode = map g (range_with_len (a + 1) n) in
    let lt : a < length all = omega (arith, e) in
    ap (λ (cs : List CodedFrame). with_bits cs (g a ∷ later)) (drop_more all a (record { values = []; bypass = 0 }) lt)
    ∙ ap (λ (fs : List FrameCode). record (g a) { bypass = (get_or all a (record { values = []; bypass = 0 })).bypass } ∷ fs) (bits_over all g (a + 1) n (omega (arith, e)))

-- frames with their bits where some row takes them
abbrev with_test : Bool → List Sent → List CodedFrame → List FrameCode
with_test b channels frames = map (λ i. record {
  bypass = if b then (get_or frames i (record { values = []; bypass = 0 })).bypass else 0;
  codes = record { items = map (λ (x : Sent). get_or x.codes i nothing) channels };
}) (range_with_len 0 (length frames))

pub bits_put : (rows : List MatrixRow) (channels : List Sent) (frames : List CodedFrame) → list_any (λ row. row.bypass) rows ≡ true → with_bits frames (codes_in [] channels frames) ≡ codes_in rows channels frames
bits_put rows channels frames e =
    bits_over frames (frame_code [] channels frames) 0 (length frames) (omega arith)
    ∙ sym (ap (λ (b : Bool). with_test b channels frames) e)

pub bits_absent : (rows : List MatrixRow) (channels : List Sent) (frames : List CodedFrame) → list_any (λ row. row.bypass) rows ≡ false → codes_in [] channels frames ≡ codes_in rows channels frames
bits_absent rows channels frames e = sym (ap (λ (b : Bool). with_test b channels frames) e)

-- ---- each sample has a code

pub length-residuals : (f : Filters) (past : Past) (step : ℕ) (xs : List ℤ) → length (residuals_of f past step xs) ≡ length xs
length-residuals f past step [] = refl
length-residuals f past step (x ∷ xs) = ap suc (length-residuals f (past_after f past x) step xs)

pub codes_count : (force : ChannelState) (past : Past) (step : ℕ) (filters : Bool) (samples : List ℤ) → length (channel_sent force past step filters samples).codes ≡ length samples
unfolding channel_sent
codes_count force past step filters samples =
    let given = written force past step filters samples in
    let behind = channel_applied force given in
    length-map (residuals behind given past step samples) (code_of behind step)
    ∙ length-residuals (filters_of behind.fir behind.iir) (past_with given past) step samples

-- ---- frames without codes

empties : (n a : ℕ) → replicate n (record { bypass = 0; codes = record { items = [] } }) ≡ map (λ (i : ℕ). let f : FrameCode = record { bypass = 0; codes = record { items = [] } } in f) (range_with_len a n)
empties zero a = refl
empties (suc n) a = ap (λ (fs : List FrameCode). record { bypass = 0; codes = record { items = [] } } ∷ fs) (empties n (a + 1))

pub no_codes : (frames : List CodedFrame) (n : ℕ) → length frames ≡ n → replicate n (record { bypass = 0; codes = record { items = [] } }) ≡ codes_in [] [] frames
no_codes frames n e = ap (λ (k : ℕ). replicate k (record { bypass = 0; codes = record { items = [] } })) (sym e) ∙ empties (length frames) 0
