-- A cutter does the work of the command that cuts.
use Rattle.std.proofs.Common.{◌≡◌, ℕ, ◌+◌, cond, eqb, Bool, false, List, [], ◌∷◌, ◌++◌, length, Result, Ok, Err, None, refl, sym, ap, subst, ◌∙◌, arith, length-append}
use Rattle.std.proofs.lemmas.Bool.{ne_eqb}
use Rattle.mlp_syntax.specs.declared.fault.Field.TheVariants.{UnitHeader}
use Rattle.mlp_syntax.specs.declared.fault.Fault.{Fault}
use Rattle.mlp_bits.specs.Bits.{bits_of}
use Rattle.mlp_layout.specs.Reading.{broken, number_at}
use Rattle.mlp_layout.specs.Layout.{number_of, part, ruled, whole}
use Rattle.mlp_layout.specs.Streams.{left_after}
use Rattle.mlp_layout.proofs.StreamLaws.{left_more}
use Rattle.mlp_stream.specs.declared.refusal.Refusal.{Refusal}
use Rattle.mlp_stream.specs.declared.stop.Stop.{Stop}
use Rattle.mlp_stream.specs.Sides.{Side}
use Rattle.mlp_stream.specs.Pumped.{Pumped}
use Rattle.mlp_walk.specs.declared.refusal.Refusal.TheVariants as declined
use Rattle.mlp_walk.specs.Next.{Taken, next_of}
use Rattle.mlp_unit.specs.AccessUnit.{AccessUnit, in_force, head, head_fields}
use Rattle.mlp_unit.specs.Frame.{framed, frame_of}
use Rattle.mlp_unit.specs.Outline.{outline}
use Rattle.mlp_unit.proofs.FrameLaws.{no_frame}
use Rattle.mlp_answers.specs.Working.{left_of, IsWorking}
use Rattle.mlp_answers.specs.Works.{Works}
use Rattle.mlp_answers.specs.Follows.{IsLast, Follows, IsGiven, ReadsOn}
use Rattle.mlp_answers.proofs.ReadingLaws.{read_follows}
use Rattle.mlp_answers.proofs.RunLaws.{works}
use Rattle.mlp_unit.proofs.OutlineLaws.{outline_is}
use Rattle.mlp_outline.proofs.Outlines.{outline_bytes}
use Rattle.mlp_cut.specs.Cutting.{OuterUnit, cut_end, cutting}
use Rattle.mlp_cut.specs.Cutter.{Held, opened, after_unit, with_after, reader, cut_step, cut_last}
use Rattle.mlp_answers.specs.Reading.{no_unit}
use Rattle.mlp_cut.specs.SessionLaws.{outline_open}

abbrev header_missing : Fault
header_missing = record { unit = 0; substream = 0; field = UnitHeader; bit = 0 }

abbrev no_end : Refusal → Result (List ℕ) Refusal
no_end r = Err r

-- where no byte is, no head is
no_head : head.read (bits_of []) 0 ≡ Err (broken UnitHeader 0)
unfolding head head_fields ruled whole part number_of number_at bits_of
no_head = refl

no_frame_there : frame_of [] ≡ Err (broken UnitHeader 0)
no_frame_there = ap (framed 0) no_head

nothing_there : next_of outline None 0 None [] ≡ Err (declined.Fault header_missing)
unfolding next_of
nothing_there = rw (no_frame None [] (broken UnitHeader 0) no_frame_there) refl

pub cutting_is : (f c : ℕ) → IsWorking (cutting f c)
cutting_is f c = record {
  format_is = outline_is;
  takes_bytes = outline_bytes;
  open_is = outline_open;
  some_end = λ us. (cut_end f c (length us), refl);
  one_end = λ us q r a b. a ∙ sym b;
}

module _ (f c : ℕ) where
  -- behind these units
  abbrev pub behind : List OuterUnit → Held
  behind us = record { first = f; count = c; read = record { units = length us; first = left_of (cutting f c) us; refusal = None }; refusal = None }

  abbrev pub Sums : List OuterUnit → Held → Type 0
  Sums us s = s ≡ behind us

  one_more : (us : List OuterUnit) (t : Taken AccessUnit (Unit {0})) → after_unit (behind us) t ≡ behind (us ++ t.unit ∷ [])
  one_more us t =
      let count : length us + 1 ≡ length (us ++ t.unit ∷ []) = omega (arith, length-append us (t.unit ∷ [])) in
      let sync : in_force (left_after outline None us) t.unit.outer.major ≡ left_after outline None (us ++ t.unit ∷ []) = sym (left_more outline outline_is None us (t.unit ∷ [])) in
      rw (count, sync) refl

  given_by : (us : List OuterUnit) (t : Taken AccessUnit (Unit {0})) (r : Result (List ℕ) Refusal) → (cutting f c).out us t.unit ≡ r → IsGiven (cutting f c) Sums us t (with_after (behind us) t r)
  given_by us t (Ok out) e = (e, one_more us t)
  given_by us t (Err refusal) e = e

  reads_on : ReadsOn (cutting f c) Sums reader
  reads_on = record {
    left = λ us s e. ap (λ (h : Held). h.read.first) e;
    count = λ us s e. ap (λ (h : Held). h.read.units) e;
    refusal = λ us s e. ap reader.refusal e;
    given = λ us s bytes t e next.
        subst (λ (h : Held). IsGiven (cutting f c) Sums us t (reader.gives h t)) (sym e) (given_by us t ((cutting f c).out us t.unit) refl);
  }

  last_at : (us : List OuterUnit) → IsLast (cutting f c) Sums us (cut_last (behind us))
  last_at [] = (declined.Fault header_missing, nothing_there, refl)
  last_at (u ∷ us) =
      let some : eqb (length (u ∷ us)) 0 ≡ false = ne_eqb (length (u ∷ us)) 0 (λ e. omega arith) in
      ap (λ (b : Bool). cond b (no_end no_unit) (cut_end f c (length (u ∷ us)))) some

  last_is : (us : List OuterUnit) (s : Held) → Sums us s → IsLast (cutting f c) Sums us (cut_last s)
  last_is us s e = subst (λ (h : Held). IsLast (cutting f c) Sums us (cut_last h)) (sym e) (last_at us)

  pub cut_follows : Follows (cutting f c) Sums cut_step cut_last
  cut_follows = read_follows (cutting f c) Sums reader reads_on cut_last last_is

  -- a run of a cutter that has taken no unit
  pub cut_works : (t : Held) (input output : Side) (end : Result Unit Stop) → Pumped cut_step cut_last 0 (opened f c) t input output end → Works (cutting f c) input output end
  cut_works t input output end p = works (cutting f c) (cutting_is f c) Sums cut_step cut_last cut_follows (opened f c) t input output end refl p
