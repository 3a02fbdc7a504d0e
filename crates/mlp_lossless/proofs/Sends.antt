-- All that a decoder relies on of a segment that was sent.
use Rattle.std.proofs.Common.{◌≡◌, ℕ, ◌+◌, ◌-◌, ◌<◌, ◌≤◌, true, false, List, [], ◌∷◌, ◌++◌, map, length, take, drop, Option, Some, None, refl, sym, ap, ◌∙◌, arith}
use Rattle.std.specs.Prelude.{is_some}
use Rattle.std.proofs.lemmas.List.{append-nil, length-drop, length-take-le, map-append, take-append-drop}
use Rattle.std.proofs.lemmas.List.FromFn.{length-map-range_with_len}
use Rattle.std.proofs.lemmas.List.Elements.{All-nil, All-cons}
use Rattle.mlp_syntax.specs.declared.restart.Restart.{Restart}
use Rattle.mlp_syntax.specs.declared.segment.BlockHead.{BlockHead}
use Rattle.mlp_syntax.specs.declared.segment.FrameCode.{FrameCode}
use Rattle.mlp_params.specs.declared.state.State.{State}
use Rattle.mlp_predict.specs.Prediction.{Past, zeros}
use Rattle.mlp_substream.specs.declared.known.Place.{Place}
use Rattle.mlp_channels.specs.Channels.{Coded}
use Rattle.mlp_channels.specs.Playing.{past_of_channel}
use Rattle.mlp_fifo.specs.Pace.{unit_of}
use Rattle.mlp_fold.specs.declared.profile.Profile.{Profile}
use Rattle.mlp_fold.specs.declared.coding.CodedFrame.{CodedFrame}
use Rattle.mlp_fold.specs.Rows.{rows_of}
use Rattle.mlp_fold.specs.Substreams.{first_channel, last_channel}
use Rattle.mlp_encode.specs.Numbers.{coded_channels, first_frames}
use Rattle.mlp_encode.specs.Sync.{restart_of}
use Rattle.mlp_encode.specs.Blocks.{Force, SentBlock, SentSegment, bypass_in, block_sent, restarted, restart_sent, later_sent}
use Rattle.mlp_encode.proofs.SentChannels.{first_last, last_most}
use Rattle.mlp_lossless.specs.Chosen.{block_heads}
use Rattle.mlp_lossless.proofs.Pasts.{replaced_below, replaced_above}
use Rattle.mlp_lossless.proofs.Blocks.{bits_are, past_below, past_above}
use Rattle.mlp_lossless.proofs.Segments.{CanBlock, SegmentBack, block_size, block_restart, block_eight, later_back, CanRestart, restart_back}
use Rattle.mlp_lossless.proofs.AsKnown.{IsBegun}
use Rattle.mlp_lossless.proofs.Heard.{IsTop}
use Rattle.mlp_lossless.proofs.Plain.{IsPlain, restart_plain, restart_channels, plain_behind, top_behind}

-- ---- a block

module _ (j : ℕ) (p : Profile) (restart : Option Restart) (before : Force) (frames : List CodedFrame) (can : CanBlock j p restart before frames) where
  pub block_below : (c : ℕ) → c < first_channel j → past_of_channel (block_sent j p restart before frames).behind.pasts c ≡ past_of_channel before.pasts c
  unfolding block_sent
  block_below c lt = past_below j p (is_some restart) before frames can.sendable can.steps can.eight c lt

  pub block_above : (c : ℕ) → last_channel j < c → past_of_channel (block_sent j p restart before frames).behind.pasts c ≡ past_of_channel before.pasts c
  unfolding block_sent
  block_above c lt = past_above j p (is_some restart) before frames can.sendable can.steps can.eight c lt

  pub block_bits : map (λ f. f.bypass) (block_sent j p restart before frames).codes ≡ map (bypass_in (rows_of p.mix j p.channels)) frames
  unfolding block_sent
  block_bits = bits_are j p (is_some restart) before frames can.sendable can.steps can.eight

  pub block_plain : IsPlain j before.state → IsPlain j (block_sent j p restart before frames).behind.state
  unfolding block_sent
  block_plain is = plain_behind j p (is_some restart) before frames can.sendable can.steps is

  pub block_top : IsPlain j before.state → IsTop p.mix p.depth p.channels j (block_sent j p restart before frames).behind.state
  unfolding block_sent
  block_top is = top_behind j p (is_some restart) before frames can.sendable can.steps is

-- ---- a segment

pub record IsSentWell (place : Place) (x : Coded) (j : ℕ) (p : Profile) (restart : Option Restart) (pasts : List Past) (frames : List CodedFrame) (terminator : Option ℕ) (s : SentSegment) : Type 0 where
  pub back : SegmentBack place x j s frames
  pub plain : IsPlain j s.behind.state
  pub top : IsTop p.mix p.depth p.channels j s.behind.state
  pub bits : map (λ f. f.bypass) s.segment.codes.items ≡ map (bypass_in (rows_of p.mix j p.channels)) frames
  pub below : (c : ℕ) → c < first_channel j → past_of_channel s.behind.pasts c ≡ past_of_channel pasts c
  pub above : (c : ℕ) → last_channel j < c → past_of_channel s.behind.pasts c ≡ past_of_channel pasts c
  pub eight : length s.behind.pasts ≡ 8
  pub begun : IsBegun j restart s.segment.blocks.items
  pub end : s.segment.terminator ≡ terminator
  pub padding : s.segment.padding ≡ 0
  pub heads : map (λ h. (h.frames, h.restart)) s.segment.blocks.items ≡ block_heads restart (length frames)

pub later_well : (j : ℕ) (p : Profile) (place : Place) (x : Coded) (st : State) (pasts : List Past) (frames : List CodedFrame) (terminator : Option ℕ)
    → CanBlock j p None (record { state = st; pasts = pasts }) frames → x.force ≡ Some st → place.major ≡ false
    → ((c : ℕ) → first_channel j ≤ c → c ≤ last_channel j → past_of_channel x.pasts c ≡ past_of_channel pasts c) → IsPlain j st
    → IsSentWell place x j p None pasts frames terminator (later_sent j p (record { state = st; pasts = pasts }) frames terminator)
unfolding later_sent
later_well j p place x st pasts frames terminator can same plain agree is =
    let before : Force = record { state = st; pasts = pasts } in
    let b : SentBlock = block_sent j p None before frames in
    record {
      back = later_back j p place x st pasts frames terminator can same plain agree;
      plain = block_plain j p None before frames can is;
      top = block_top j p None before frames can is;
      bits = ap (map (λ (f : FrameCode). f.bypass)) (append-nil b.codes) ∙ block_bits j p None before frames can;
      below = block_below j p None before frames can;
      above = block_above j p None before frames can;
      eight = block_eight j p None before frames can;
      begun = record { first = b.head; more = []; heads = refl; restart = block_restart j p None before frames; others = All-nil (λ (h : BlockHead). h.restart ≡ None); of = tt };
      end = refl;
      padding = refl;
      heads = ap (λ (n : ℕ). (n, b.head.restart) ∷ []) (block_size j p None before frames) ∙ ap (λ (o : Option Restart). (length frames, o) ∷ []) (block_restart j p None before frames);
    }

module _ (j : ℕ) (p : Profile) (place : Place) (x : Coded) (timing check : ℕ) (pasts : List Past) (frames : List CodedFrame) (terminator : Option ℕ) where
  abbrev restart : Restart
  restart = restart_of j timing check

  abbrev fresh : Force
  fresh = restarted j p (restart_of j timing check) pasts

  abbrev first : SentBlock
  first = block_sent j p (Some (restart_of j timing check)) (restarted j p (restart_of j timing check) pasts) (take first_frames frames)

  abbrev second : SentBlock
  second = block_sent j p None first.behind (drop first_frames frames)

  pub restart_well : CanRestart j p (restart_of j timing check) pasts frames → place.format ≡ p.kind → place.unit_frames ≡ unit_of p.rate → place.major ≡ true
      → IsSentWell place x j p (Some (restart_of j timing check)) pasts frames terminator (restart_sent j p (restart_of j timing check) pasts frames terminator)
  unfolding restart_sent
  restart_well can format unit major =
      let n = length-map-range_with_len (λ (c : ℕ). zeros 8 4) (first_channel j) (last_channel j - first_channel j + 1) in
      let le = first_last j can.begins.sendable.codable.which in
      let l = last_most j in
      let zs : List Past = map (λ c. zeros 8 4) (coded_channels j) in
      let a = can.begins in
      let b = can.goes_on in
      let begun = restart_plain j p.kind (unit_of p.rate) timing check in
      let mid = block_plain j p (Some restart) fresh (take first_frames frames) a begun in
      let bypass : List CodedFrame → List ℕ = map (bypass_in (rows_of p.mix j p.channels)) in
      record {
        back = restart_back j p place x restart pasts frames terminator can format unit major;
        plain = block_plain j p None first.behind (drop first_frames frames) b mid;
        top = block_top j p None first.behind (drop first_frames frames) b mid;
        bits = map-append (λ (f : FrameCode). f.bypass) first.codes (second.codes ++ [])
            ∙ ap (λ (bs : List ℕ). bs ++ map (λ (f : FrameCode). f.bypass) (second.codes ++ [])) (block_bits j p (Some restart) fresh (take first_frames frames) a)
            ∙ ap (λ (cs : List FrameCode). bypass (take first_frames frames) ++ map (λ (f : FrameCode). f.bypass) cs) (append-nil second.codes)
            ∙ ap (λ (bs : List ℕ). bypass (take first_frames frames) ++ bs) (block_bits j p None first.behind (drop first_frames frames) b)
            ∙ sym (map-append (bypass_in (rows_of p.mix j p.channels)) (take first_frames frames) (drop first_frames frames))
            ∙ ap bypass (take-append-drop first_frames frames);
        below = λ c lt. block_below j p None first.behind (drop first_frames frames) b c lt ∙ block_below j p (Some restart) fresh (take first_frames frames) a c lt
            ∙ replaced_below pasts zs (first_channel j) (last_channel j + 1) c (omega (arith, can.eight, le, l)) lt;
        above = λ c lt. block_above j p None first.behind (drop first_frames frames) b c lt ∙ block_above j p (Some restart) fresh (take first_frames frames) a c lt
            ∙ replaced_above pasts zs (first_channel j) (last_channel j + 1) c (omega (arith, can.eight, le, l)) (omega (arith, n, le)) (omega (arith, lt));
        eight = block_eight j p None first.behind (drop first_frames frames) b;
        begun = record {
          first = first.head;
          more = second.head ∷ [];
          heads = refl;
          restart = block_restart j p (Some restart) fresh (take first_frames frames);
          others = All-cons (λ (h : BlockHead). h.restart ≡ None) second.head [] (block_restart j p None first.behind (drop first_frames frames)) (All-nil (λ (h : BlockHead). h.restart ≡ None));
          of = restart_channels j timing check;
        };
        end = refl;
        padding = refl;
        heads = ap (λ (n : ℕ). (n, first.head.restart) ∷ (second.head.frames, second.head.restart) ∷ [])
            (block_size j p (Some restart) fresh (take first_frames frames) ∙ length-take-le first_frames frames (omega (arith, b.sendable.least, length-drop first_frames frames)))
            ∙ ap (λ (o : Option Restart). (first_frames, o) ∷ (second.head.frames, second.head.restart) ∷ []) (block_restart j p (Some restart) fresh (take first_frames frames))
            ∙ ap (λ (n : ℕ). (first_frames, Some restart) ∷ (n, second.head.restart) ∷ []) (block_size j p None first.behind (drop first_frames frames) ∙ length-drop first_frames frames)
            ∙ ap (λ (o : Option Restart). (first_frames, Some restart) ∷ (length frames - first_frames, o) ∷ []) (block_restart j p None first.behind (drop first_frames frames));
      }
