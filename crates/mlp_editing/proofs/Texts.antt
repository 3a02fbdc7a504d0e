-- The text of what is recovered, written piece by piece.
use Rattle.std.proofs.Common.{◌≡◌, ℕ, suc, ◌+◌, ◌*◌, ◌<◌, ◌≤◌, true, List, [], ◌∷◌, ◌++◌, length, take, drop, get_or, Result, Ok, Err, Option, Some, None, IfSome, refl, sym, ap, subst, ◌∙◌, arith, length-append, ℤ}
use Rattle.std.specs.Prelude.{min, All, slice_range}
use Rattle.std.proofs.lemmas.List.{length-take-le, length-map, take_all, take_more, take-append-drop, append-nil, get_or-map}
use Rattle.std.proofs.lemmas.List.Concat.{flat_map-append}
use Rattle.std.proofs.lemmas.List.Elements.{All-nil, All-head, All-tail, All-append, All-map}
use Rattle.std.proofs.Math.Seq.{take-append_seam}
use Rattle.std.specs.List.{flat_map}
use Rattle.std.specs.Io.KnownBytes.{Appends}
use Rattle.mlp_io.specs.Limit.{limit}
use Rattle.mlp_io.specs.Causes.{IsCause}
use Rattle.mlp_io.proofs.Bytes.{Appends-append}
use Rattle.mlp_bits.specs.Bits.{bits_of}
use Rattle.mlp_layout.specs.Streams.{Stream}
use Rattle.mlp_params.specs.declared.state.State.{State}
use Rattle.mlp_stream.specs.declared.stop.Stop.{Stop}
use Rattle.mlp_stream.specs.declared.stop.Stop.TheVariants.{Refused, ReadFault, WriteFault, TooLong}
use Rattle.mlp_stream.specs.Sides.{Side}
use Rattle.mlp_stream.specs.Pumped.{Pumped, is_read_fault}
use Rattle.mlp_stream.specs.Gathers.{IsWriteStop}
use Rattle.mlp_answers.specs.Answers.{Answer, refusing}
use Rattle.mlp_answers.specs.Works.{Wrote, Begun}
use Rattle.mlp_pcm.specs.Samples.{sample_bytes, row_bytes, packed}
use Rattle.mlp_output.specs.Output.{placed}
use Rattle.mlp_output.proofs.Places.{length-placed}
use Rattle.mlp_contents.specs.Units.{Left, Unit_of, start, whole, after, placed_by, frames_out}
use Rattle.mlp_samples.specs.Samples.{frames_by_steps, samples}
use Rattle.mlp_samples.proofs.Streams.{samples_are}
use Rattle.mlp_present.specs.Decoding.{channels_by}
use Rattle.mlp_sessions.specs.Playing.{places, playing, Player, player, decode_step, decode_last}
use Rattle.mlp_sessions.proofs.PlayFollows.{decode_works}
use Rattle.mlp_decoded.specs.Decoded.{channels, decoded}
use Rattle.mlp_decoded.proofs.DecodedLaw.{channels_behind, writes_all}
use Rattle.mlp_wave.proofs.Parts.{in_first, in_second}
use Rattle.mlp_recover.specs.declared.span.Span.{Span}
use Rattle.mlp_samples.specs.Behind.{left_behind}
use Rattle.mlp_recover.specs.Recovered.{Piece, Lost, Kept}
use Rattle.mlp_recover.specs.Spans.{span_of}
use Rattle.mlp_editing.specs.Told.{kept_line, told, all_told, Puts, IsSpan, AreSpansOf}

-- ---- one text behind another

pub puts_behind : (a b c : Option (List ℕ)) (xs ys : List ℕ) (r : Result Unit Stop) → Appends a b xs → Puts (record { before = b; behind = c }) ys r → Puts (record { before = a; behind = c }) (xs ++ ys) r
puts_behind a b c xs ys (Ok x) first w = Appends-append a b c xs ys first w
puts_behind a b c xs ys (Err stop) first w = in_second a b c xs ys stop first w

-- ---- the samples of a stream

abbrev err_of : Stop → Result Unit Stop
err_of stop = Err stop

ok_not : (stop : Stop) → err_of stop ≡ Ok tt → ⊥
ok_not stop e = cc

module _ (k : ℕ) (bytes : List ℕ) (us : List Unit_of) (few : length bytes ≤ limit) (stream : Stream (whole k) (start k) k (bits_of bytes) us) where
  one : (end : Result Unit Stop) (put : List ℕ) → Answer (playing k 24) bytes end put → (end ≡ Ok tt) × (put ≡ decoded k 24 us)
  one end put a = (writes_all k bytes us few stream).only end put a

  puts_by : (input output : Side) (taken put : List ℕ) (end : Result Unit Stop) → input.before ≡ Some bytes → (is_read_fault end ≡ true → ⊥) → Appends output.before output.behind put
      → Wrote (playing k 24) input taken put end → Puts output (decoded k 24 us) end
  puts_by input output taken put (Ok x) same free w wrote =
      let a = subst (λ (o : Option (List ℕ)). IfSome o (λ all. Answer (playing k 24) all (Ok tt) put)) same wrote.1 in
      subst (Appends output.before output.behind) (one (Ok tt) put a).1 w
  puts_by input output taken put (Err (Refused r)) same free w wrote =
      let a = subst (λ (o : Option (List ℕ)). IfSome o (λ all. Answer (playing k 24) all (refusing r) put)) same wrote in
      absurd (ok_not (Refused r) (one (refusing r) put a).0)
  puts_by input output taken put (Err ReadFault) same free w wrote = absurd (free refl)
  puts_by input output taken put (Err WriteFault) same free w wrote =
      let b = subst (λ (o : Option (List ℕ)). IfSome o (λ all. Begun (playing k 24) all put)) same wrote in
      let all : decoded k 24 us ≡ put ++ b.3.0 = sym (one b.0 b.1 b.2).1 ∙ b.3.1 in
      (refl, (length put, subst (Appends output.before output.behind) (sym (ap (take (length put)) all ∙ take-append_seam put b.3.0)) w))
  puts_by input output taken put (Err TooLong) same free w wrote =
      let a = subst (λ (o : Option (List ℕ)). IfSome o (λ all. Answer (playing k 24) all (Err TooLong) put)) same wrote in
      absurd (ok_not TooLong (one (Err TooLong) put a).0)

  pub puts_samples : (t : Player) (xs : List ℕ) (behind : Option (List ℕ)) (output : Side) (end : Result Unit Stop) → xs ≡ bytes → IsCause (is_read_fault end) 0 0
      → Pumped decode_step decode_last 0 (player k 24) t (record { before = Some xs; behind = behind }) output end → Puts output (decoded k 24 us) end
  puts_samples t xs behind output end same cause p =
      let input : Side = record { before = Some xs; behind = behind } in
      let w = decode_works k 24 t input output end p in
      puts_by input output w.taken w.put end (ap some_of same) (λ e. let rose = cause.rose e in omega (arith, rose)) w.writes w.wrote
    where
      some_of : List ℕ → Option (List ℕ)
      some_of ys = Some ys

-- ---- how many bytes samples have

sample_long : (s : ℤ) → length (sample_bytes 24 s) ≡ 3
unfolding sample_bytes
sample_long s = refl

row_long : (row : List ℤ) → length (flat_map (sample_bytes 24) row) ≡ 3 * length row
row_long [] = refl
row_long (s ∷ row) = omega (arith, length-append (sample_bytes 24 s) (flat_map (sample_bytes 24) row), sample_long s, row_long row)

abbrev HasEight : List ℤ → Type 0
HasEight row = length row ≡ 8

more_rows : (a b n m : ℕ) → a ≡ m → b ≡ n * m → a + b ≡ (n + 1) * m
more_rows a b n m e f = omega (arith, e, f)

rows_long : (c : ℕ) (rows : List (List ℤ)) → c ≤ 8 → All HasEight rows → length (packed 24 c rows) ≡ length rows * (3 * c)
rows_long c [] le eight = omega arith
rows_long c (row ∷ rows) le eight =
    let here : length row ≡ 8 = All-head HasEight row rows eight in
    let later = rows_long c rows le (All-tail HasEight row rows eight) in
    let one : length (row_bytes 24 c row) ≡ 3 * c = omega (arith, row_long (take c row), length-take-le c row (omega arith)) in
    length-append (row_bytes 24 c row) (packed 24 c rows)
    ∙ more_rows (length (row_bytes 24 c row)) (length (packed 24 c rows)) (length rows) (3 * c) one later
    ∙ ap (λ (n : ℕ). n * (3 * c)) (next (length rows))
  where
    next : (n : ℕ) → n + 1 ≡ suc n
    next n = omega arith

out_eight : (force : Option State) (heard : List (List ℤ)) → All HasEight (placed_by force heard)
out_eight None heard = All-nil HasEight
out_eight (Some s) heard = All-map HasEight (placed s.restart.assign.items) heard (λ i d lt. length-placed s.restart.assign.items _)

steps_eight : (k : ℕ) (left : Left) (us : List Unit_of) → All HasEight (frames_by_steps k left us)
steps_eight k left [] = All-nil HasEight
steps_eight k left (u ∷ us) = All-append HasEight (frames_out k left u) (frames_by_steps k (after k left u) us) (out_eight _ _) (steps_eight k (after k left u) us)

decoded_long : (k : ℕ) (bytes : List ℕ) (us : List Unit_of) → Stream (whole k) (start k) k (bits_of bytes) us → length (samples k us) * (3 * min (channels_by k (left_behind k us)) 8) ≡ length (decoded k 24 us)
decoded_long k bytes us stream =
    let begins = stream.units.begins in
    let same : places (channels_by k (left_behind k us)) ≡ channels k us = channels_behind k (bits_of bytes) us [] begins in
    let most : places (channels_by k (left_behind k us)) ≤ 8 = omega arith in
    let few : channels k us ≤ 8 = subst (λ (n : ℕ). n ≤ 8) same most in
    let eight = subst (All HasEight) (samples_are k (bits_of bytes) [] us begins) (steps_eight k (start k) us) in
    ap (λ (n : ℕ). length (samples k us) * (3 * n)) same ∙ sym (rows_long (channels k us) (samples k us) few eight)

-- ---- a piece

-- the line says how many bytes follow
pub kept_text : (k : ℕ) (bytes : List ℕ) (span : Span) (us : List Unit_of) → IsSpan k bytes span (Kept span.first span.past us)
    → kept_line span (span.frames * (3 * min span.channels 8)) ++ decoded k 24 us ≡ told k (Kept span.first span.past us)
kept_text k bytes span us p =
    let same = p.1 in
    let size : span.frames * (3 * min span.channels 8) ≡ length (decoded k 24 us) =
    ap (λ (s : Span). s.frames * (3 * min s.channels 8)) same ∙ decoded_long k (slice_range bytes span.first span.past) us p.0.stream in
    ap (λ (n : ℕ). kept_line span n ++ decoded k 24 us) size ∙ ap (λ (s : Span). kept_line s (length (decoded k 24 us)) ++ decoded k 24 us) same

module _ (k : ℕ) (bytes : List ℕ) (span : Span) (us : List Unit_of) (is : IsSpan k bytes span (Kept span.first span.past us)) where
  abbrev line_of : ℕ → List ℕ
  line_of n = kept_line span n

  whole_text : (n : ℕ) → n ≡ span.frames * (3 * min span.channels 8) → line_of n ++ decoded k 24 us ≡ told k (Kept span.first span.past us)
  whole_text n size = ap (λ (m : ℕ). line_of m ++ decoded k 24 us) size ∙ kept_text k bytes span us is

  -- a write failed in the line
  pub kept_stops : (output : Side) (line : List ℕ) (n : ℕ) (stop : Stop) → line ≡ line_of n → n ≡ span.frames * (3 * min span.channels 8) → IsWriteStop output line stop → IsWriteStop output (told k (Kept span.first span.past us)) stop
  kept_stops output line n stop is_line size w =
      subst (λ (text : List ℕ). IsWriteStop output text stop) (whole_text n size) (in_first output (line_of n) (decoded k 24 us) stop (subst (λ (text : List ℕ). IsWriteStop output text stop) is_line w))

  pub kept_puts : (a b c : Option (List ℕ)) (line : List ℕ) (n : ℕ) (r : Result Unit Stop) → line ≡ line_of n → n ≡ span.frames * (3 * min span.channels 8) → Appends a b line → Puts (record { before = b; behind = c }) (decoded k 24 us) r
      → Puts (record { before = a; behind = c }) (told k (Kept span.first span.past us)) r
  kept_puts a b c line n r is_line size first w =
      subst (λ (text : List ℕ). Puts (record { before = a; behind = c }) text r) (whole_text n size) (puts_behind a b c (line_of n) (decoded k 24 us) r (subst (Appends a b) is_line first) w)

-- ---- all pieces

module _ (k : ℕ) (bytes : List ℕ) (spans : List Span) (ps : List Piece) (are : AreSpansOf k bytes spans ps) where
  abbrev piece_at : ℕ → Piece
  piece_at i = get_or ps i (Lost 0 0)

  pub count_is : length spans ≡ length ps
  count_is = ap length are.1 ∙ length-map ps (span_of k)

  pub span_at : (i : ℕ) (span : Span) → i < length spans → span ≡ get_or spans i span → IsSpan k bytes span (piece_at i)
  span_at i span lt e = (
    are.0 i (Lost 0 0) (omega (arith, count_is, lt)),
    e ∙ ap (λ (xs : List Span). get_or xs i span) are.1 ∙ get_or-map (span_of k) ps i (Lost 0 0) span (omega (arith, count_is, lt)),
  )

  next_told : (i : ℕ) → i < length spans → all_told k (take (i + 1) ps) ≡ all_told k (take i ps) ++ told k (piece_at i)
  next_told i lt =
      ap (all_told k) (take_more ps i (Lost 0 0) (omega (arith, count_is, lt))) ∙ flat_map-append (told k) (take i ps) (piece_at i ∷ [])
      ∙ ap (λ (xs : List ℕ). all_told k (take i ps) ++ xs) (append-nil (told k (piece_at i)))

  pub told_more : (i : ℕ) (a b c : Option (List ℕ)) → i < length spans → Appends a b (all_told k (take i ps)) → Appends b c (told k (piece_at i)) → Appends a c (all_told k (take (i + 1) ps))
  told_more i a b c lt first next = subst (Appends a c) (sym (next_told i lt)) (Appends-append a b c (all_told k (take i ps)) (told k (piece_at i)) first next)

  pub told_stops : (i : ℕ) (a b c : Option (List ℕ)) (stop : Stop) → i < length spans → Appends a b (all_told k (take i ps)) → IsWriteStop (record { before = b; behind = c }) (told k (piece_at i)) stop
      → IsWriteStop (record { before = a; behind = c }) (all_told k ps) stop
  told_stops i a b c stop lt first next =
      let both = in_second a b c (all_told k (take i ps)) (told k (piece_at i)) stop first next in
      let front = subst (λ (text : List ℕ). IsWriteStop (record { before = a; behind = c }) text stop) (sym (next_told i lt)) both in
      let whole : all_told k (take (i + 1) ps) ++ all_told k (drop (i + 1) ps) ≡ all_told k ps =
      sym (flat_map-append (told k) (take (i + 1) ps) (drop (i + 1) ps)) ∙ ap (all_told k) (take-append-drop (i + 1) ps) in
      subst (λ (text : List ℕ). IsWriteStop (record { before = a; behind = c }) text stop) whole (in_first (record { before = a; behind = c }) (all_told k (take (i + 1) ps)) (all_told k (drop (i + 1) ps)) stop front)

  pub told_all : (i : ℕ) (a b : Option (List ℕ)) → length spans ≤ i → Appends a b (all_told k (take i ps)) → Appends a b (all_told k ps)
  told_all i a b ge all = subst (λ (qs : List Piece). Appends a b (all_told k qs)) (take_all i ps (omega (arith, count_is, ge))) all
