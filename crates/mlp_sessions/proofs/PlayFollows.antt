-- The session of `decode-raw` does its work.
use Rattle.std.proofs.Common.{◌≡◌, ℕ, ◌+◌, ◌==◌, ◌++◌, if◌then◌else◌, Bool, false, List, [], ◌∷◌, length, Result, Ok, Err, Option, Some, None, IfSome, refl, sym, ap, subst, ◌∙◌, arith, length-append}
use Rattle.std.proofs.lemmas.Bool.Decides.{nat_tests}
use Rattle.std.proofs.lemmas.List.{get_or-replicate}
use Rattle.std.specs.Option.{option_map}
use Rattle.mlp_syntax.specs.declared.fault.Field.TheVariants as rule
use Rattle.mlp_syntax.specs.declared.segment.Segment.{Segment}
use Rattle.mlp_bits.specs.Bits.{bits_of}
use Rattle.mlp_layout.specs.Layout.{tested}
use Rattle.mlp_layout.specs.Reading.{broken}
use Rattle.mlp_layout.specs.Streams.{left_after}
use Rattle.mlp_layout.proofs.StreamLaws.{left_more}
use Rattle.mlp_unit.specs.AccessUnit.{AccessUnit}
use Rattle.mlp_stream.specs.declared.stop.Stop.{Stop}
use Rattle.mlp_stream.specs.Sides.{Side}
use Rattle.mlp_stream.specs.Pumped.{Pumped}
use Rattle.mlp_stream.specs.declared.refusal.Refusal.{Refusal}
use Rattle.mlp_walk.specs.declared.refusal.Refusal.{Refusal as Declined}
use Rattle.mlp_walk.specs.Next.{Taken}
use Rattle.mlp_answers.specs.Working.{IsWorking}
use Rattle.mlp_answers.specs.Answers.{AreUnits, HasOneAnswer}
use Rattle.mlp_answers.specs.Works.{Works}
use Rattle.mlp_answers.specs.Reading.{refusal_of, read_step}
use Rattle.mlp_answers.specs.Follows.{next_behind, IsMoved, IsLast, Follows, IsGiven, ReadsOn}
use Rattle.mlp_answers.proofs.ReadingLaws.{read_follows}
use Rattle.mlp_answers.proofs.RunLaws.{works, took_all}
use Rattle.mlp_answers.proofs.SomeAnswer.{has_one_answer}
use Rattle.mlp_outline.proofs.NextParts.{next_broken}
use Rattle.mlp_channels.specs.Channels.{Coded, nothing_coded}
use Rattle.mlp_contents.specs.Inner.{channels_of}
use Rattle.mlp_contents.specs.Units.{Left, Unit_of, start, whole, after, frames_out}
use Rattle.mlp_contents.proofs.FormatLaws.{whole_is, whole_bytes}
use Rattle.mlp_present.specs.Decoding.{channels_by, is_open_behind, last_of, no_unit}
use Rattle.mlp_sessions.specs.Playing.{unit_played, frames_given, playing, Player, player, after_played, with_session, decode_reader, decode_step, on_end, decode_last}
use Rattle.mlp_sessions.specs.PlayLaws.{whole_open}
use Rattle.mlp_sessions.proofs.NoUnit.{none_read}

-- what the session knows of the units that it took
pub record Played (k bits : ℕ) (us : List Unit_of) (s : Player) : Type 0 where
  pub k_is : s.held.k ≡ k
  pub units : s.held.units ≡ length us
  pub left : s.held.left ≡ left_after (whole k) (start k) us
  pub channels : s.held.channels ≡ channels_by k (left_after (whole k) (start k) us)
  pub refusal : s.held.refusal ≡ None
  pub bits_are : s.bits ≡ bits
  pub frames : s.frames ≡ frames_given k (start k) us

pub playing_is : (k bits : ℕ) → IsWorking (playing k bits)
playing_is k bits = record {
  format_is = whole_is k;
  takes_bytes = whole_bytes k;
  open_is = whole_open k;
  some_end = λ us. (Ok [], refl);
  one_end = λ us q r a b. a ∙ sym b;
}

-- ---- one more unit was taken

frames_on : (k : ℕ) (left : Left) (us : List Unit_of) (u : Unit_of) → frames_given k left (us ++ u ∷ []) ≡ frames_given k left us + length (frames_out k (left_after (whole k) left us) u)
frames_on k left [] u = omega arith
frames_on k left (v ∷ us) u = omega (arith, frames_on k (after k left v) us u)

left_on : (k bits : ℕ) (us : List Unit_of) (s : Player) (u : Unit_of) → Played k bits us s → after s.held.k s.held.left u ≡ left_after (whole k) (start k) (us ++ u ∷ [])
left_on k bits us s u h =
    ap (λ (j : ℕ). after j s.held.left u) h.k_is ∙ ap (λ (left : Left). after k left u) h.left
    ∙ sym (left_more (whole k) (whole_is k) (start k) us (u ∷ []))

played_on : (k bits : ℕ) (us : List Unit_of) (s : Player) (u : Unit_of) → Played k bits us s → Played k bits (us ++ u ∷ []) (after_played s u)
played_on k bits us s u h = record {
  k_is = h.k_is;
  units = omega (arith, h.units, length-append us (u ∷ []));
  left = left_on k bits us s u h;
  channels = ap (λ (j : ℕ). channels_by j (after s.held.k s.held.left u)) h.k_is ∙ ap (channels_by k) (left_on k bits us s u h);
  refusal = refl;
  bits_are = h.bits_are;
  frames =
      ap (λ (n : ℕ). n + length (frames_out s.held.k s.held.left u)) h.frames
      ∙ ap (λ (j : ℕ). frames_given k (start k) us + length (frames_out j s.held.left u)) h.k_is
      ∙ ap (λ (left : Left). frames_given k (start k) us + length (frames_out k left u)) h.left
      ∙ sym (frames_on k (start k) us u);
}

out_same : (k bits : ℕ) (us : List Unit_of) (s : Player) (u : Unit_of) → Played k bits us s
    → unit_played k bits (frames_given k (start k) us) (left_after (whole k) (start k) us) u ≡ unit_played s.held.k s.bits s.frames s.held.left u
out_same k bits us s u h =
    sym (ap (λ (j : ℕ). unit_played j s.bits s.frames s.held.left u) h.k_is
    ∙ ap (λ (b : ℕ). unit_played k b s.frames s.held.left u) h.bits_are
    ∙ ap (λ (n : ℕ). unit_played k bits n s.held.left u) h.frames
    ∙ ap (λ (left : Left). unit_played k bits (frames_given k (start k) us) left u) h.left)

given_by : (k bits : ℕ) (us : List Unit_of) (s : Player) (t : Taken AccessUnit (List Segment)) → Played k bits us s → (x : Result (List ℕ) Refusal)
    → unit_played k bits (frames_given k (start k) us) (left_after (whole k) (start k) us) t.unit ≡ x → IsGiven (playing k bits) (Played k bits) us t (with_session (after_played s t.unit) x)
given_by k bits us s t h (Ok bytes) e = (e, played_on k bits us s t.unit h)
given_by k bits us s t h (Err r) e = e

reads_on : (k bits : ℕ) → ReadsOn (playing k bits) (Played k bits) decode_reader
reads_on k bits = record {
  left = λ us s h. h.left;
  count = λ us s h. h.units;
  refusal = λ us s h. ap (option_map refusal_of) h.refusal;
  given = λ us s bytes t h next. given_by k bits us s t h (unit_played s.held.k s.bits s.frames s.held.left t.unit) (out_same k bits us s t.unit h);
}

-- no unit, no channel
none_heard : (k : ℕ) → channels_by k (start k) ≡ 0
none_heard k = ap (λ (x : Coded). channels_of x.force) (get_or-replicate (k + 1) k nothing_coded nothing_coded (omega arith))

none_played : (k bits : ℕ) → Played k bits [] (player k bits)
none_played k bits = record { k_is = refl; units = refl; left = refl; channels = sym (none_heard k); refusal = refl; bits_are = refl; frames = refl }

-- ---- the end

pub none_there : (k : ℕ) → ((whole k).outer (start k)).read (bits_of []) 0 ≡ Err (broken rule.UnitHeader 0)
unfolding tested
none_there k = none_read None

none_next : (k bits : ℕ) → next_behind (playing k bits) (Played k bits) [] [] ≡ Err no_unit
none_next k bits = next_broken (whole k) (Some k) 0 (start k) [] (broken rule.UnitHeader 0) (none_there k)

last_by : ℕ → Option Declined → Result (List ℕ) Refusal
last_by units refusal = on_end (last_of units refusal)

last_is : (k bits : ℕ) (us : List Unit_of) (s : Player) → Played k bits us s → IsLast (playing k bits) (Played k bits) us (decode_last s)
unfolding last_by
last_is k bits [] s h = (no_unit, none_next k bits, ap (λ (n : ℕ). last_by n s.held.refusal) h.units ∙ ap (last_by 0) h.refusal)
last_is k bits (u ∷ us) s h =
    let some : (length (u ∷ us) == 0) ≡ false = grind (arith, nat_tests) in
    ap (λ (n : ℕ). last_by n s.held.refusal) h.units ∙ ap (last_by (length (u ∷ us))) h.refusal
    ∙ ap (λ (b : Bool). on_end (if b then Err no_unit else Ok tt)) some

-- ---- a run

follows : (k bits : ℕ) → Follows (playing k bits) (Played k bits) decode_step decode_last
follows k bits =
    let at_k = read_follows (playing k bits) (Played k bits) decode_reader (reads_on k bits) decode_last (last_is k bits) in
    record {
      moves = λ us s ended bytes sums some.
          subst (λ (j : ℕ). IsMoved (playing k bits) (Played k bits) ended us bytes (read_step (whole j) (Some j) is_open_behind decode_reader s ended bytes))
          (sym sums.k_is) (at_k.moves us s ended bytes sums some);
      ends = last_is k bits;
    }

-- what a run of the session says
pub decode_works : (k bits : ℕ) (t : Player) (input output : Side) (end : Result Unit Stop) → Pumped decode_step decode_last 0 (player k bits) t input output end → Works (playing k bits) input output end
decode_works k bits t input output end p =
    works (playing k bits) (playing_is k bits) (Played k bits) decode_step decode_last (follows k bits) (player k bits) t input output end (none_played k bits) p

-- .. and of the session behind it: where it ends well, all units were taken
pub decode_took : (k bits : ℕ) (t : Player) (input output : Side) → Pumped decode_step decode_last 0 (player k bits) t input output (Ok tt)
    → IfSome input.before (λ all. (us : List Unit_of) × AreUnits (playing k bits) all us × Played k bits us t)
decode_took k bits t input output p =
    took_all (playing k bits) (playing_is k bits) (Played k bits) decode_step decode_last (follows k bits) (player k bits) t input output (none_played k bits) p

pub decode_has_one : (k bits : ℕ) (all : List ℕ) → HasOneAnswer (playing k bits) all
decode_has_one k bits = has_one_answer (playing k bits) (playing_is k bits)
