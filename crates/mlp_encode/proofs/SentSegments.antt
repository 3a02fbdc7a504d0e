-- The blocks of a segment can be sent, one after the other.
use Rattle.std.proofs.Common.{◌≡◌, ℕ, zero, suc, ◌+◌, ◌<◌, ◌≤◌, ℤ, Bool, true, false, List, [], ◌∷◌, ◌++◌, take, drop, length, get_or, replicate, Option, Some, None, refl, sym, ap, ◌∙◌, subst, arith}
use Rattle.std.specs.Prelude.{All, is_some}
use Rattle.std.proofs.lemmas.List.{length-take-le, length-drop, take-map, drop-map, append-nil}
use Rattle.std.proofs.lemmas.List.Elements.{All-take, All-drop}
use Rattle.std.proofs.lemmas.Bool.Decides.{nat_tests}
use Rattle.mlp_arith.specs.Words.{clear}
use Rattle.mlp_arith.specs.Ranges.{Is26}
use Rattle.mlp_syntax.specs.declared.restart.Restart.{Restart}
use Rattle.mlp_syntax.specs.declared.segment.FrameCode.{FrameCode}
use Rattle.mlp_syntax.specs.declared.segment.Segment.{Segment}
use Rattle.mlp_predict.specs.Prediction.{Past}
use Rattle.mlp_params.specs.declared.state.ChannelState.{ChannelState}
use Rattle.mlp_params.specs.declared.state.State.{State}
use Rattle.mlp_params.specs.Filters.{order_of}
use Rattle.mlp_params.specs.InForce.{in_force, restarted_channel}
use Rattle.mlp_params.proofs.LawfulStates.{all_restarted, restart_is_state}
use Rattle.mlp_channels.specs.Channels.{channel_at}
use Rattle.mlp_fifo.specs.Pace.{unit_of}
use Rattle.mlp_fifo.proofs.Paces.{unit_most}
use Rattle.mlp_fold.specs.declared.profile.Mix.{Mix}
use Rattle.mlp_fold.specs.declared.profile.Mix.TheVariants.{Split, Fold, Bypass, Side}
use Rattle.mlp_fold.specs.declared.profile.Profile.{Profile}
use Rattle.mlp_fold.specs.declared.coding.CodedFrame.{CodedFrame}
use Rattle.mlp_fold.specs.Profile.{AreMixed}
use Rattle.mlp_fold.specs.Mix.{at, channels_of}
use Rattle.mlp_fold.specs.Rows.{steps_of}
use Rattle.mlp_fold.specs.Substreams.{last_channel}
use Rattle.mlp_encode.specs.Numbers.{low_zeros}
use Rattle.mlp_encode.specs.Coding.{column}
use Rattle.mlp_encode.specs.Blocks.{Force, SentBlock, behind_params, given_in, sent_in, params_of, block_sent, with_block, empty, segment_of, restarted, restart_sent, later_sent}
use Rattle.mlp_encode.specs.Lawful.{IsBegun, IsCodable, IsSendable, IsInForce, AreCodedBy, IsRestartOf, IsSentSegment}
use Rattle.mlp_encode.proofs.SentChannels.{codes_in_count}
use Rattle.mlp_encode.proofs.SentParams.{steps_count}
use Rattle.mlp_encode.proofs.SentStates.{given_applies}
use Rattle.mlp_encode.proofs.SentBlocks.{lawful_behind}

pub unit_least : (rate : ℕ) → 40 ≤ unit_of rate
unfolding unit_of
unit_least rate = grind (arith, nat_tests)

-- ---- frames for a block

pub record Part (p : Profile) (frames : List CodedFrame) : Type 0 where
  pub least : 8 ≤ length frames
  pub most : length frames ≤ unit_of p.rate
  pub samples : (c : ℕ) → All Is26 (column c frames)
  pub bits : All (λ f. f.bypass < 16) frames
  pub whole : (j c : ℕ) → channels_of j ≤ p.channels → c ≤ last_channel j → All (λ x. clear (get_or (steps_of p.mix (low_zeros p.depth) j) c 0) x ≡ x) (column c frames)

module _ (p : Profile) (coded : List CodedFrame) (a : AreCodedBy p coded) where
  least : 40 ≤ length coded
  least = omega (arith, unit_least p.rate, a.count)

  pub part_all : Part p coded
  part_all = record { least = omega (arith, least); most = omega (arith, a.count); samples = a.samples; bits = a.bits; whole = a.whole }

  take-column : (c n : ℕ) → take n (column c coded) ≡ column c (take n coded)
  take-column c n = take-map (λ (f : CodedFrame). at f.values c) n coded

  drop-column : (c n : ℕ) → drop n (column c coded) ≡ column c (drop n coded)
  drop-column c n = drop-map (λ (f : CodedFrame). at f.values c) n coded

  pub part_first : Part p (take 8 coded)
  part_first =
      let n = length-take-le 8 coded (omega (arith, least)) in
      record {
        least = omega (arith, n);
        most = omega (arith, n, unit_least p.rate);
        samples = λ c. subst (λ (xs : List ℤ). All Is26 xs) (take-column c 8) (All-take Is26 8 (column c coded) (a.samples c));
        bits = All-take (λ f. f.bypass < 16) 8 coded a.bits;
        whole = λ j c top le. let P : ℤ → Type 0 = λ x. clear (get_or (steps_of p.mix (low_zeros p.depth) j) c 0) x ≡ x in
            subst (λ (xs : List ℤ). All P xs) (take-column c 8) (All-take P 8 (column c coded) (a.whole j c top le));
      }

  pub part_later : Part p (drop 8 coded)
  part_later =
      let n = length-drop 8 coded in
      record {
        least = omega (arith, n, least);
        most = omega (arith, n, a.count);
        samples = λ c. subst (λ (xs : List ℤ). All Is26 xs) (drop-column c 8) (All-drop Is26 8 (column c coded) (a.samples c));
        bits = All-drop (λ f. f.bypass < 16) 8 coded a.bits;
        whole = λ j c top le. let P : ℤ → Type 0 = λ x. clear (get_or (steps_of p.mix (low_zeros p.depth) j) c 0) x ≡ x in
            subst (λ (xs : List ℤ). All P xs) (drop-column c 8) (All-drop P 8 (column c coded) (a.whole j c top le));
      }

-- ---- steps

abbrev AllSmall : List ℕ → Type 0
AllSmall [] = Unit {0}
AllSmall (x ∷ xs) = (x ≤ 8) × AllSmall xs

small_at : (xs : List ℕ) (c : ℕ) → AllSmall xs → get_or xs c 0 ≤ 8
small_at [] c h = omega arith
small_at (x ∷ xs) zero h = h.0
small_at (x ∷ xs) (suc c) h = small_at xs c h.1

steps_small : (mix : Mix) (q j c : ℕ) → q ≤ 8 → get_or (steps_of mix q j) c 0 ≤ 8
steps_small mix q j c h = small_at (steps_of mix q j) c (all mix j)
  where
    by : (j : ℕ) → AllSmall (steps_of Split q j)
    by zero = (h, (h, tt))
    by (suc zero) = (h, (h, (h, (h, (h, (h, tt))))))
    by (suc (suc j)) = (h, (h, (h, (h, (h, (h, (h, (h, tt))))))))

    bypass : (j : ℕ) → AllSmall (steps_of Bypass q j)
    bypass zero = (omega arith, (omega arith, tt))
    bypass (suc j) = (omega arith, (omega arith, (omega arith, (omega arith, (omega arith, (omega arith, tt))))))

    all : (mix : Mix) (j : ℕ) → AllSmall (steps_of mix q j)
    all Split j = by j
    all Fold j = by j
    all Bypass j = bypass j
    all Side j = by j

-- ---- what is in force at a restart

repeated : (n c : ℕ) (x : ChannelState) → get_or (replicate n x) c x ≡ x
repeated zero c x = refl
repeated (suc n) zero x = refl
repeated (suc n) (suc c) x = repeated n c x

fresh_channel : (p : Profile) (r : Restart) (c : ℕ) → r.min ≤ r.max + 1 → channel_at (in_force p.kind (unit_of p.rate) r []) c ≡ restarted_channel
fresh_channel p r c le = ap (λ (ss : List ChannelState). get_or ss c restarted_channel) (sym (all_restarted r.min (r.max + 1) le)) ∙ repeated (r.max + 1) c restarted_channel

-- ---- blocks

module _ (p : Profile) (j : ℕ) (frames : List CodedFrame) (which : j ≤ 2) (shape : AreMixed p.mix p.depth p.channels) (top : channels_of j ≤ p.channels) (f : Part p frames) where
  codable : (s : State) (filters : Bool) → IsBegun p j s → (filters ≡ false → (c : ℕ) → c ≤ last_channel j → (order_of (channel_at s c).fir ≡ 0) × (order_of (channel_at s c).iir ≡ 0))
      → IsCodable j s (steps_of p.mix (low_zeros p.depth) j) filters frames
  codable s filters b absent =
      let lawful = b.fits.lawful in
      let count = steps_count j p shape top in
      record {
        which = which;
        few = omega (arith, f.most, unit_most p.rate);
        states = λ c le. lawful.channels c restarted_channel (omega (arith, le, lawful.channel_count, b.max));
        count = omega (arith, lawful.channel_count, b.max);
        absent = absent;
        steps_count = omega (arith, count);
        steps_small = λ c le. steps_small p.mix (low_zeros p.depth) j c (omega (arith, shape.depth_least));
        samples = f.samples;
        bits = f.bits;
        whole = λ c le. f.whole j c top le;
      }

  pub later_sendable : (s : State) → IsInForce p j s → IsSendable j p false s frames
  later_sendable s h = record {
    begun = h.begun;
    shape = shape;
    top = top;
    codable = codable s true h.begun (λ e. absurd (let t : true ≡ false = e in cc));
    least = f.least;
    most = f.most;
    rows = λ e. h.rows;
    no_rows = λ e. absurd (let t : false ≡ true = e in cc);
    steps = λ e. h.steps;
    no_steps = λ e. absurd (let t : false ≡ true = e in cc);
  }

  pub fresh_sendable : (r : Restart) → r.min ≤ r.max + 1 → IsRestartOf p j r → IsSendable j p true (in_force p.kind (unit_of p.rate) r []) frames
  fresh_sendable r order h =
      let s : State = in_force p.kind (unit_of p.rate) r [] in
      let begun : IsBegun p j s = record {
        fits = record { lawful = restart_is_state p.kind (unit_of p.rate) r h.allowed (omega (arith, unit_least p.rate)) (unit_most p.rate); format_is = refl; frames_are = refl };
        min = h.min;
        max = h.max;
        max_matrix = h.max_matrix;
        kind = h.kind;
        presence = refl;
      } in
      record {
        begun = begun;
        shape = shape;
        top = top;
        codable = codable s false begun (λ e c le. (ap (λ (x : ChannelState). order_of x.fir) (fresh_channel p r c order), ap (λ (x : ChannelState). order_of x.iir) (fresh_channel p r c order)));
        least = f.least;
        most = f.most;
        rows = λ e. absurd (let t : true ≡ false = e in cc);
        no_rows = λ e. refl;
        steps = λ e. absurd (let t : true ≡ false = e in cc);
        no_steps = λ e. ap (λ (m : ℕ). replicate (m + 1) 0) h.max;
      }

-- ---- segments

-- codes for each frame
pub block_count : (j : ℕ) (p : Profile) (restart : Option Restart) (before : Force) (frames : List CodedFrame) → length (block_sent j p restart before frames).codes ≡ length frames
unfolding block_sent
block_count j p restart before frames =
    let given = given_in j p (is_some restart) before frames in
    codes_in_count (behind_params given before.state).rows.items (sent_in j p (is_some restart) before frames) frames

-- what a block leaves can be in force
pub behind_in_force : (j : ℕ) (p : Profile) (restart : Option Restart) (before : Force) (frames : List CodedFrame) → IsSendable j p (is_some restart) before.state frames → IsInForce p j (block_sent j p restart before frames).behind.state
unfolding block_sent
behind_in_force j p restart before frames h =
    let written = params_of j p (is_some restart) before.state (length frames) (sent_in j p (is_some restart) before frames) in
    subst (λ (s : State). IsInForce p j s) (sym (given_applies (is_some restart) written before.state refl refl)) (lawful_behind j p (is_some restart) before.state before.pasts frames h)

one_block : (b : SentBlock) (t : Option ℕ) → with_block b (empty t) ≡ segment_of (b ∷ []) t
one_block b t = ap (λ (cs : List FrameCode). record (segment_of (b ∷ []) t) { codes = record { items = cs } }) (sym (append-nil b.codes))

two_blocks : (a b : SentBlock) (t : Option ℕ) → with_block b (with_block a (empty t)) ≡ segment_of (a ∷ b ∷ []) t
two_blocks a b t = ap (λ (cs : List FrameCode). record (segment_of (a ∷ b ∷ []) t) { codes = record { items = a.codes ++ cs } }) (sym (append-nil b.codes))

pub later_is : (j : ℕ) (p : Profile) (before : Force) (frames : List CodedFrame) (t : Option ℕ) (s0 s1 : Segment) (state : State) (after : List Past) → s0 ≡ empty t → s1 ≡ with_block (block_sent j p None before frames) s0
    → state ≡ (block_sent j p None before frames).behind.state → after ≡ (block_sent j p None before frames).behind.pasts → IsSentSegment (later_sent j p before frames t) s1 (Some state) after
unfolding later_sent
later_is j p before frames t s0 s1 state after e0 e1 es ea =
    let b : SentBlock = block_sent j p None before frames in
    record { segment_is = e1 ∙ ap (λ (s : Segment). with_block b s) e0 ∙ one_block b t; force_is = ap Some es; pasts_are = ea }

module _ (j : ℕ) (p : Profile) (r : Restart) (pasts : List Past) (frames later : List CodedFrame) (t : Option ℕ) (before1 before2 : Force) where
  abbrev first : SentBlock
  first = block_sent j p (Some r) (restarted j p r pasts) (take 8 frames)

  abbrev second : SentBlock
  second = block_sent j p None first.behind (drop 8 frames)

  pub restart_is : (s0 s1 s2 : Segment) (state : State) (after : List Past) → before1 ≡ restarted j p r pasts → later ≡ drop 8 frames → s0 ≡ empty t → s1 ≡ with_block (block_sent j p (Some r) before1 (take 8 frames)) s0
      → before2 ≡ (block_sent j p (Some r) before1 (take 8 frames)).behind → s2 ≡ with_block (block_sent j p None before2 later) s1 → state ≡ (block_sent j p None before2 later).behind.state
      → after ≡ (block_sent j p None before2 later).behind.pasts → IsSentSegment (restart_sent j p r pasts frames t) s2 (Some state) after
  unfolding restart_sent
  restart_is s0 s1 s2 state after eb el e0 e1 ef e2 es ea =
      let one : block_sent j p (Some r) before1 (take 8 frames) ≡ first = ap (λ (b : Force). block_sent j p (Some r) b (take 8 frames)) eb in
      let two : block_sent j p None before2 later ≡ second =
      ap (λ (b : Force). block_sent j p None b later) (ef ∙ ap (λ (x : SentBlock). x.behind) one) ∙ ap (λ (fs : List CodedFrame). block_sent j p None first.behind fs) el in
      record {
        segment_is = e2 ∙ ap (λ (b : SentBlock). with_block b s1) two
            ∙ ap (λ (s : Segment). with_block second s) (e1 ∙ ap (λ (b : SentBlock). with_block b s0) one ∙ ap (λ (s : Segment). with_block first s) e0)
            ∙ two_blocks first second t;
        force_is = ap Some (es ∙ ap (λ (x : SentBlock). x.behind.state) two);
        pasts_are = ea ∙ ap (λ (x : SentBlock). x.behind.pasts) two;
      }
