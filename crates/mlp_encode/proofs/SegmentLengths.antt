-- How many bits a segment that is sent takes at most.
use Rattle.std.proofs.Common.{◌≡◌, ℕ, ◌+◌, ◌-◌, ◌*◌, ◌%◌, ◌≤◌, Bool, true, false, List, [], ◌∷◌, ◌++◌, take, drop, length, Option, Some, None, refl, sym, ap, ◌∙◌, subst, arith}
use Rattle.std.specs.Prelude.{◌||◌, is_some, IfSome, option_map, if◌then◌else◌}
use Rattle.std.proofs.lemmas.List.{length-append, length-take-le, length-drop}
use Rattle.mlp_syntax.specs.declared.major.Kind.{Kind}
use Rattle.mlp_syntax.specs.declared.params.Params.{Params}
use Rattle.mlp_syntax.specs.declared.restart.Restart.{Restart}
use Rattle.mlp_syntax.specs.declared.segment.BlockHead.{BlockHead}
use Rattle.mlp_syntax.specs.declared.segment.FrameCode.{FrameCode}
use Rattle.mlp_syntax.specs.declared.segment.Segment.{Segment}
use Rattle.mlp_bits.specs.Bits.{bits}
use Rattle.mlp_bits.proofs.BitLists.{length-bits}
use Rattle.mlp_layout.specs.Layout.{Layout, spelling_as, ruled, tested, part, made, item}
use Rattle.mlp_layout.specs.Combined.{under, flag, chosen, present, up_to_last}
use Rattle.mlp_params.specs.declared.state.State.{State}
use Rattle.mlp_params.specs.Applied.{applied}
use Rattle.mlp_params.specs.Parameters.{params}
use Rattle.mlp_params.specs.RestartHeader.{restart}
use Rattle.mlp_predict.specs.Prediction.{Past}
use Rattle.mlp_residual.specs.Frames.{frames_of}
use Rattle.mlp_substream.specs.declared.known.Place.{Place}
use Rattle.mlp_substream.specs.Restarts.{flags, judged_restart}
use Rattle.mlp_substream.specs.Checks.{parity_of, check_of}
use Rattle.mlp_substream.specs.Blocks.{restarted as restarted_at, given, after_head, against, BlockContext, context_of, first_context, Block, behind_flags, head, block, after_block}
use Rattle.mlp_substream.specs.Segment.{nested, heads_of, codes_of, terminator, padding_width, most_blocks, blocks_from, segment_tail, segment, unknown}
use Rattle.mlp_substream.proofs.SegmentLaws.{AllFramesFit, nested-flat, terminator_long}
use Rattle.mlp_substream.proofs.WritingEnds.{tail_text, segment_spelling}
use Rattle.mlp_fifo.specs.Pace.{unit_of}
use Rattle.mlp_fold.specs.declared.profile.Mix.{Mix}
use Rattle.mlp_fold.specs.declared.profile.Profile.{Profile}
use Rattle.mlp_fold.specs.declared.coding.CodedFrame.{CodedFrame}
use Rattle.mlp_fold.specs.Substreams.{first_channel, last_channel}
use Rattle.mlp_encode.specs.Blocks.{Force, SentBlock, gives, params_with, behind_params, given_in, sent_in, params_of, codes_in, block_sent, segment_of, restarted, restart_sent, later_sent}
use Rattle.mlp_encode.specs.Lawful.{IsSendable, IsEnd, place_in, bypass_size, segment_size, segment_most}
use Rattle.mlp_encode.proofs.SentChannels.{codes_in_count}
use Rattle.mlp_encode.proofs.SentStates.{given_applies}
use Rattle.mlp_encode.proofs.BitCounts.{flag_long, there_most, flags_most, restart_most}
use Rattle.mlp_encode.proofs.BlockLengths.{rows_given, steps_given, body_bits}

-- ---- a block by its parts

judged_same : (format : Kind) (r : Restart) → (judged_restart unknown format).spelling r ≡ (restart format).spelling r
unfolding judged_restart under ruled
judged_same format r = refl

against_same : {A : Type 0} (s : State) (l : State → Layout A) (x : A) → (against (Some s) l).spelling x ≡ (l s).spelling x
unfolding against
against_same s l x = refl

module _ (place : Place) (force : Option State) (o : Option Restart) (s : State) (written : Option Params) (codes : List FrameCode) (n so_far : ℕ) (due : Bool) (state_is : restarted_at place force o ≡ Some s) where
  abbrev h : BlockHead
  h = record { restart = o; params = written; frames = n }

  head_most : (r p : ℕ) → ((x : Restart) → o ≡ Some x → length ((restart place.format).spelling x) ≤ r) → ((q : Params) → written ≡ Some q → length ((params s).spelling q) ≤ p)
      → length ((head place unknown due force).spelling h) ≤ 2 + r + p
  unfolding head behind_flags part made
  head_most r p hr hp =
      let a = (flags due).spelling (is_some written, is_some o) in
      let b = (present (is_some o) (judged_restart unknown place.format)).spelling o in
      let c = (present (is_some written) (against (restarted_at place force o) params)).spelling written in
      let eb = there_most (judged_restart unknown place.format) o r (λ x e. subst (λ (t : List Bool). length t ≤ r) (sym (judged_same place.format x)) (hr x e)) in
      let ec = there_most (against (restarted_at place force o) params) written p
      (λ q e. subst (λ (f : Option State). length ((against f params).spelling q) ≤ p) (sym state_is) (subst (λ (t : List Bool). length t ≤ p) (sym (against_same s params q)) (hp q e))) in
      omega (arith, flags_most due (is_some written, is_some o), eb, ec, length-append a (b ++ (c ++ [])), length-append b (c ++ []), length-append c [])

  codes_same : (against (after_head place force h) (λ s. frames_of s n)).spelling codes ≡ (frames_of (given written s) n).spelling codes
  codes_same =
      ap (λ (f : Option State). (against (option_map (given written) f) (λ s. frames_of s n)).spelling codes) state_is ∙ against_same (given written s) (λ s. frames_of s n) codes

  block_parts_most : (r p : ℕ) → ((x : Restart) → o ≡ Some x → length ((restart place.format).spelling x) ≤ r) → ((q : Params) → written ≡ Some q → length ((params s).spelling q) ≤ p)
      → length ((block place unknown (context_of force so_far due)).spelling (record { head = h; frames = codes })) ≤ 2 + r + p + length ((frames_of (given written s) n).spelling codes)
  unfolding block part tested made
  block_parts_most r p hr hp =
      let a = (head place unknown due force).spelling h in
      let b = (against (after_head place force h) (λ s. frames_of s n)).spelling codes in
      omega (arith, head_most r p hr hp, ap (λ (t : List Bool). length t) codes_same, length-append a (b ++ []), length-append b [])

-- ---- a block that is sent

pub given_some : (restarts : Bool) (p q : Params) → params_with restarts p ≡ Some q → p ≡ q
given_some restarts p q e = pick (restarts || gives p) e
  where
    pick : (t : Bool) → (if t then Some p else None) ≡ Some q → p ≡ q
    pick true e = cc
    pick false e = absurd cc

abbrev as_block : SentBlock → Block
as_block b = record { head = b.head; frames = b.codes }

abbrev pub channels_of_block : ℕ → ℕ
channels_of_block j = last_channel j - first_channel j + 1

-- the bits of a restart, and of all but the bypassed bits and the channels
abbrev restart_size : Bool → ℕ → ℕ
restart_size true j = 121 + 6 * (last_channel j + 1)
restart_size false j = 0

abbrev head_size : Bool → Mix → ℕ → ℕ
head_size restarts mix j = 14 + restart_size restarts j + rows_given restarts mix j + steps_given restarts mix j

block_most : (place : Place) (force : Option State) (j : ℕ) (p : Profile) (o : Option Restart) (before : Force) (frames : List CodedFrame) (so_far : ℕ) (due : Bool) → IsSendable j p (is_some o) before.state frames
    → restarted_at place force o ≡ Some before.state
    → ((x : Restart) → o ≡ Some x → x.max_matrix ≡ last_channel j)
    → length ((block place unknown (context_of force so_far due)).spelling (as_block (block_sent j p o before frames))) ≤ head_size (is_some o) p.mix j + bypass_size p.mix j * length frames + channels_of_block j * (34 + 26 * length frames)
unfolding block_sent
block_most place force j p o before frames so_far due h state_is small =
    let s : State = before.state in
    let written : Params = params_of j p (is_some o) s (length frames) (sent_in j p (is_some o) before frames) in
    let f : State → ℕ = λ t. length ((frames_of t (length frames)).spelling (codes_in t.rows.items (sent_in j p (is_some o) before frames) frames)) in
    let is : given (given_in j p (is_some o) before frames) s ≡ applied s written = given_applies (is_some o) written s refl refl in
    let same = ap f is in
    let body = body_bits j p (is_some o) s before.pasts frames h in
    let all = block_parts_most place force o s (given_in j p (is_some o) before frames)
    (codes_in (behind_params (given_in j p (is_some o) before frames) s).rows.items (sent_in j p (is_some o) before frames) frames) (length frames) so_far due state_is
    (restart_size (is_some o) j) (length ((params s).spelling written))
    (λ x e. let m = restart_most place.format x in let some = ap (λ (q : Option Restart). restart_size (is_some q) j) e in omega (arith, m, small x e, some))
    (λ q e. let eq = ap (λ (y : Params). length ((params s).spelling y)) (given_some (is_some o) written q e) in omega (arith, eq)) in
    omega (arith, all, same, body)

-- ---- one block, and two

one_long : (place : Place) (at : BlockContext) (a : Block) → length ((blocks_from place unknown most_blocks at).spelling (a ∷ [])) ≡ length ((block place unknown at).spelling a) + 1
unfolding up_to_last item part chosen made
one_long place at a = omega (arith, flag_long true, length-append ((block place unknown at).spelling a) (flag.spelling true ++ []), length-append (flag.spelling true) [])

two_long : (place : Place) (at : BlockContext) (a b : Block) → length ((blocks_from place unknown most_blocks at).spelling (a ∷ b ∷ []))
    ≡ length ((block place unknown at).spelling a) + length ((block place unknown (after_block place at a)).spelling b) + 2
unfolding up_to_last item part chosen made
two_long place at a b =
    let x = (block place unknown at).spelling a in
    let y = (block place unknown (after_block place at a)).spelling b in
    omega (
      arith,
      flag_long true,
      flag_long false,
      length-append x (flag.spelling false ++ (y ++ (flag.spelling true ++ []))),
      length-append (flag.spelling false) (y ++ (flag.spelling true ++ [])),
      length-append y (flag.spelling true ++ []),
      length-append (flag.spelling true) [],
    )

-- ---- the segment

last_most_bits : (format : Kind) (o : Option ℕ) → IfSome o (λ word. (terminator format).Fits word) → length (spelling_as (terminator format).spelling o) ≤ 32
last_most_bits format None h = omega arith
last_most_bits format (Some word) h = let e = terminator_long format word h in omega (arith, e)

segment_by : (place : Place) (force : Option State) (s : Segment) → IfSome s.terminator (λ word. (terminator place.format).Fits word)
    → length ((segment place unknown force true).spelling s) ≤ length ((blocks_from place unknown most_blocks (first_context place force)).spelling (nested s.blocks.items s.codes.items)) + 63
segment_by place force s end =
    let blocks = (blocks_from place unknown most_blocks (first_context place force)).spelling (nested s.blocks.items s.codes.items) in
    let n = length blocks in
    let text = (segment_tail place unknown (first_context place force) true).spelling 0 s in
    let padding = bits (padding_width n) s.padding in
    let last = spelling_as (terminator place.format).spelling s.terminator in
    let tail = ap (λ (t : List Bool). length t) (tail_text place unknown (first_context place force) true s n refl) in
    let all = ap (λ (t : List Bool). length t) (segment_spelling place unknown force s true) in
    omega (
      arith,
      tail,
      all,
      last_most_bits place.format s.terminator end,
      length-bits (padding_width n) s.padding,
      length-append blocks (padding ++ last),
      length-append padding last,
      length-append text (bits 8 (parity_of text) ++ bits 8 (check_of text)),
      length-append (bits 8 (parity_of text)) (bits 8 (check_of text)),
      length-bits 8 (parity_of text),
      length-bits 8 (check_of text),
    )

module _ (j : ℕ) (p : Profile) (which : j ≤ 2) (frames : List CodedFrame) (t : Option ℕ) (count : length frames ≡ unit_of p.rate) (long : 40 ≤ unit_of p.rate) (end : IsEnd p t) where
  no_restart : (x : Restart) → None ≡ Some x → x.max_matrix ≡ last_channel j
  no_restart x e = absurd cc

  codes_count : (o : Option Restart) (before : Force) (fs : List CodedFrame) → length (block_sent j p o before fs).codes ≡ (block_sent j p o before fs).head.frames
  unfolding block_sent
  codes_count o before fs = codes_in_count (behind_params (given_in j p (is_some o) before fs) before.state).rows.items (sent_in j p (is_some o) before fs) fs

  pub later_bits : (before : Force) → IsSendable j p false before.state frames
      → length ((segment (place_in p false) unknown (Some before.state) true).spelling (later_sent j p before frames t).segment) ≤ segment_size p.mix j (unit_of p.rate)
  unfolding later_sent heads_of codes_of AllFramesFit
  later_bits before h =
      let b : SentBlock = block_sent j p None before frames in
      let place : Place = place_in p false in
      let force : Option State = Some before.state in
      let blocks = nested-flat (as_block b ∷ []) (codes_count None before frames, tt) in
      let same = ap (λ (xs : List Block). length ((blocks_from place unknown most_blocks (first_context place force)).spelling xs)) blocks in
      let most = block_most place force j p None before frames 0 false h refl no_restart in
      let text = segment_by place force (segment_of (b ∷ []) t) end.fits in
      let unit : length frames ≡ unit_of p.rate = count in
      let product = ap (λ (n : ℕ). bypass_size p.mix j * n + channels_of_block j * (34 + 26 * n)) unit in
      omega (arith, text, same, most, one_long place (first_context place force) (as_block b), unit, product)

  both : (m k unit a b x y hx hy : ℕ) → a ≡ 8 → a + b ≡ unit → x ≤ hx + k * a + m * (34 + 26 * a) → y ≤ hy + k * b + m * (34 + 26 * b) → x + y ≤ hx + hy + k * unit + m * (68 + 26 * unit)
  both m k unit a b x y hx hy ea eu le1 le2 =
      let first = ap (λ (n : ℕ). m * (34 + 26 * n)) ea in
      let bypassed = ap (λ (n : ℕ). k * n) ea in
      let sum : unit ≡ 8 + b = omega (arith, ea, eu) in
      let all = ap (λ (n : ℕ). m * (68 + 26 * n)) sum in
      let every = ap (λ (n : ℕ). k * n) sum in
      omega (arith, le1, le2, ea, sum, first, all, bypassed, every)

  leaves : (force : Option State) (o : Option Restart) (before : Force) (fs : List CodedFrame) → restarted_at (place_in p true) force o ≡ Some before.state
      → after_head (place_in p true) force (block_sent j p o before fs).head ≡ Some (block_sent j p o before fs).behind.state
  unfolding block_sent
  leaves force o before fs e = ap (λ (f : Option State). option_map (given (given_in j p (is_some o) before fs)) f) e

  pub restart_bits : (force : Option State) (r : Restart) (pasts : List Past) → IsSendable j p true (restarted j p r pasts).state (take 8 frames)
      → IsSendable j p false (block_sent j p (Some r) (restarted j p r pasts) (take 8 frames)).behind.state (drop 8 frames) → r.max_matrix ≡ last_channel j
      → length ((segment (place_in p true) unknown force true).spelling (restart_sent j p r pasts frames t).segment) ≤ segment_size p.mix j (unit_of p.rate)
  unfolding restart_sent heads_of codes_of AllFramesFit
  restart_bits force r pasts h1 h2 small =
      let begun : Force = restarted j p r pasts in
      let a : SentBlock = block_sent j p (Some r) begun (take 8 frames) in
      let b : SentBlock = block_sent j p None a.behind (drop 8 frames) in
      let place : Place = place_in p true in
      let blocks = nested-flat (as_block a ∷ as_block b ∷ []) (codes_count (Some r) begun (take 8 frames), (codes_count None a.behind (drop 8 frames), tt)) in
      let same = ap (λ (xs : List Block). length ((blocks_from place unknown most_blocks (first_context place force)).spelling xs)) blocks in
      let first = block_most place force j p (Some r) begun (take 8 frames) 0 true h1 refl (λ x e. let same : r ≡ x = cc in subst (λ (y : Restart). y.max_matrix ≡ last_channel j) same small) in
      let behind = leaves force (Some r) begun (take 8 frames) refl in
      let second = block_most place (after_head place force a.head) j p None a.behind (drop 8 frames) (0 + a.head.frames) false h2 behind no_restart in
      let text = segment_by place force (segment_of (a ∷ b ∷ []) t) end.fits in
      let n1 = length-take-le 8 frames (omega (arith, count, long)) in
      let n2 = length-drop 8 frames in
      let sum : length (take 8 frames) + length (drop 8 frames) ≡ unit_of p.rate = omega (arith, n1, n2, count, long) in
      let most = both (channels_of_block j) (bypass_size p.mix j) (unit_of p.rate) (length (take 8 frames)) (length (drop 8 frames)) _ _ (head_size true p.mix j) (head_size false p.mix j) n1 sum first second in
      omega (arith, text, same, most, two_long place (first_context place force) (as_block a) (as_block b))

  pub bytes_there : (n : ℕ) → n % 8 ≡ 0 → n ≤ segment_size p.mix j (unit_of p.rate) → n ≤ 8 * segment_most p j
  bytes_there n e le = omega (arith, e, le)
