-- The channels of a block, one after the other.
use Rattle.std.proofs.Common.{◌≡◌, ℕ, zero, suc, ◌+◌, ◌-◌, ◌<◌, ◌≤◌, Bool, List, [], ◌∷◌, ◌++◌, take, drop, map, length, get_or, Option, pos, sym, ap, ◌∙◌, arith, append_assoc}
use Rattle.std.specs.List.{range_with_len}
use Rattle.std.proofs.Math.ListN.{set}
use Rattle.std.proofs.lemmas.List.{map-append, length-map, length-append, length-take-le, length-set, drop_more, get_or-append-add, get_or-drop, set-append_right}
use Rattle.std.proofs.lemmas.List.FromFn.{map-range_with_len_more, length-map-range_with_len}
use Rattle.mlp_syntax.specs.declared.params.ChannelParams.{ChannelParams}
use Rattle.mlp_syntax.specs.declared.params.MatrixRow.{MatrixRow}
use Rattle.mlp_syntax.specs.declared.segment.FrameCode.{FrameCode}
use Rattle.mlp_params.specs.declared.state.ChannelState.{ChannelState}
use Rattle.mlp_params.specs.declared.state.State.{State}
use Rattle.mlp_predict.specs.Prediction.{Past, zeros}
use Rattle.mlp_channels.specs.Channels.{channel_at}
use Rattle.mlp_channels.specs.Playing.{past_of_channel}
use Rattle.mlp_fold.specs.declared.coding.CodedFrame.{CodedFrame}
use Rattle.mlp_fold.specs.Substreams.{first_channel, last_channel}
use Rattle.mlp_encode.specs.Coding.{Sent, column, channel_sent}
use Rattle.mlp_encode.specs.Pushed.{with_codes}
use Rattle.mlp_encode.specs.Blocks.{Force, frame_code, channel_in, codes_in}
use Rattle.mlp_encode.proofs.SentCodes.{codes_next, codes_count}

pub last_most : (j : ℕ) → last_channel j ≤ 7
last_most zero = omega arith
last_most (suc zero) = omega arith
last_most (suc (suc j)) = omega arith

pub first_last : (j : ℕ) → j ≤ 2 → first_channel j ≤ last_channel j
first_last zero h = omega arith
first_last (suc zero) h = omega arith
first_last (suc (suc zero)) h = omega arith
first_last (suc (suc (suc j))) h = absurd (omega (arith, h))

pub codes_in_count : (rows : List MatrixRow) (channels : List Sent) (frames : List CodedFrame) → length (codes_in rows channels frames) ≡ length frames
codes_in_count rows channels frames = length-map-range_with_len (frame_code rows channels frames) 0 (length frames)

module _ (j : ℕ) (s : State) (steps : List ℕ) (filters : Bool) (frames : List CodedFrame) (old : List Past) where
  abbrev pub before : Force
  before = record { state = s; pasts = old }

  -- the channels below one
  abbrev pub sent_below : ℕ → List Sent
  sent_below k = map (channel_in j before steps filters frames) (range_with_len (first_channel j) (k - first_channel j))

  -- they were sent
  pub record Sending (k : ℕ) (given : List (Option ChannelParams)) (codes : List FrameCode) (pasts : List Past) : Type 0 where
    pub given_are : given ≡ map (λ x. x.given) (sent_below k)
    pub codes_are : codes ≡ codes_in [] (sent_below k) frames
    pub pasts_are : pasts ≡ (take (first_channel j) old ++ map (λ x. x.past) (sent_below k)) ++ drop k old
    pub count_is : length pasts ≡ length old

  module _ (k : ℕ) (from : first_channel j ≤ k) (below : k < length old) where
    abbrev x : Sent
    x = channel_in j before steps filters frames k

    more_below : sent_below (k + 1) ≡ sent_below k ++ x ∷ []
    more_below =
        let e : k + 1 - first_channel j ≡ k - first_channel j + 1 = omega arith in
        ap (λ (n : ℕ). map (channel_in j before steps filters frames) (range_with_len (first_channel j) n)) e
        ∙ map-range_with_len_more (channel_in j before steps filters frames) (first_channel j) (k - first_channel j) k (omega arith)

    pub count_below : length (sent_below k) ≡ k - first_channel j
    count_below = length-map-range_with_len (channel_in j before steps filters frames) (first_channel j) (k - first_channel j)

    front : List Past
    front = take (first_channel j) old ++ map (λ x. x.past) (sent_below k)

    front_count : length (take (first_channel j) old ++ map (λ x. x.past) (sent_below k)) ≡ k
    front_count =
        let a = length-append (take (first_channel j) old) (map (λ x. x.past) (sent_below k)) in
        let b = length-take-le (first_channel j) old (omega arith) in
        let m = length-map (sent_below k) (λ x. x.past) in
        omega (arith, a, b, m, count_below)

    -- the past of this channel is still the old one
    pub past_there : (given : List (Option ChannelParams)) (codes : List FrameCode) (pasts : List Past) (d : Past) → Sending k given codes pasts → get_or pasts k d ≡ get_or old k d
    past_there given codes pasts d h =
        let front : List Past = take (first_channel j) old ++ map (λ x. x.past) (sent_below k) in
        let e : length front + 0 ≡ k = omega (arith, front_count) in
        ap (λ (ps : List Past). get_or ps k d) h.pasts_are
        ∙ ap (λ (n : ℕ). get_or (front ++ drop k old) n d) (sym e)
        ∙ get_or-append-add front (drop k old) 0 d
        ∙ get_or-drop k old 0 d
        ∙ (let z : k + 0 ≡ k = omega arith in ap (λ (n : ℕ). get_or old n d) z)

    next_pasts : (pasts : List Past) → pasts ≡ (take (first_channel j) old ++ map (λ x. x.past) (sent_below k)) ++ drop k old
        → set pasts k x.past ≡ (take (first_channel j) old ++ map (λ x. x.past) (sent_below (k + 1))) ++ drop (k + 1) old
    next_pasts pasts e =
        let front : List Past = take (first_channel j) old ++ map (λ x. x.past) (sent_below k) in
        let z : k - k ≡ 0 = omega arith in
        ap (λ (ps : List Past). set ps k x.past) e
        ∙ set-append_right front (drop k old) k k x.past front_count (omega arith)
        ∙ ap (λ (n : ℕ). front ++ set (drop k old) n x.past) z
        ∙ ap (λ (ps : List Past). front ++ set ps 0 x.past) (drop_more old k (zeros 8 4) below)
        ∙ sym (append_assoc front (x.past ∷ []) (drop (k + 1) old))
        ∙ ap (λ (ps : List Past). ps ++ drop (k + 1) old) (append_assoc (take (first_channel j) old) (map (λ x. x.past) (sent_below k)) (x.past ∷ []))
        ∙ ap (λ (ps : List Past). (take (first_channel j) old ++ ps) ++ drop (k + 1) old) (sym (map-append (λ (x : Sent). x.past) (sent_below k) (x ∷ [])))
        ∙ ap (λ (xs : List Sent). (take (first_channel j) old ++ map (λ x. x.past) xs) ++ drop (k + 1) old) (sym more_below)

    pub sending_more : (given given' : List (Option ChannelParams)) (codes codes' : List FrameCode) (pasts : List Past) (force : ChannelState) (past after : Past) (step : ℕ) (g : Option ChannelParams)
        → force ≡ channel_at s k → past ≡ past_of_channel old k → step ≡ get_or steps k 0
        → g ≡ (channel_sent force past step filters (column k frames)).given → codes' ≡ with_codes (channel_sent force past step filters (column k frames)).codes codes
        → after ≡ (channel_sent force past step filters (column k frames)).past → given' ≡ given ++ g ∷ [] → Sending k given codes pasts → Sending (k + 1) given' codes' (set pasts k after)
    sending_more given given' codes codes' pasts force past after step g ef ep es eg ec ea en h =
        let same : channel_sent force past step filters (column k frames) ≡ x =
        ap (λ (f : ChannelState). channel_sent f past step filters (column k frames)) ef
        ∙ ap (λ (p : Past). channel_sent (channel_at s k) p step filters (column k frames)) ep
        ∙ ap (λ (n : ℕ). channel_sent (channel_at s k) (past_of_channel old k) n filters (column k frames)) es in
        record {
          given_are = en ∙ ap (λ (gs : List (Option ChannelParams)). gs ++ g ∷ []) h.given_are
              ∙ ap (λ (o : Option ChannelParams). map (λ x. x.given) (sent_below k) ++ o ∷ []) (eg ∙ ap (λ (z : Sent). z.given) same)
              ∙ sym (map-append (λ (x : Sent). x.given) (sent_below k) (x ∷ []))
              ∙ ap (λ (xs : List Sent). map (λ x. x.given) xs) (sym more_below);
          codes_are = ec ∙ ap (λ (z : Sent). with_codes z.codes codes) same ∙ ap (λ (cs : List FrameCode). with_codes x.codes cs) h.codes_are
              ∙ codes_next frames (sent_below k) x (codes_count (channel_at s k) (past_of_channel old k) (get_or steps k 0) filters (column k frames) ∙ length-map frames (λ frame. get_or frame.values k (pos 0)))
              ∙ ap (λ (xs : List Sent). codes_in [] xs frames) (sym more_below);
          pasts_are = ap (λ (p : Past). set pasts k p) (ea ∙ ap (λ (z : Sent). z.past) same) ∙ next_pasts pasts h.pasts_are;
          count_is = length-set pasts k after ∙ h.count_is;
        }
