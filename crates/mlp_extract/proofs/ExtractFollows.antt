-- An extractor does the work of the command that extracts.
use Rattle.std.proofs.Common.{◌≡◌, ℕ, ◌==◌, ◌++◌, if◌then◌else◌, Bool, false, List, [], ◌∷◌, length, Result, Ok, Err, Option, Some, None, refl, sym, ap, subst, ◌∙◌, arith, length-append}
use Rattle.std.proofs.lemmas.Bool.Decides.{nat_tests}
use Rattle.std.specs.Option.{option_map}
use Rattle.mlp_syntax.specs.declared.fault.Field.TheVariants as rule
use Rattle.mlp_syntax.specs.declared.segment.Segment.{Segment}
use Rattle.mlp_bits.specs.Bits.{bits_of}
use Rattle.mlp_layout.specs.Layout.{tested}
use Rattle.mlp_layout.specs.Reading.{broken}
use Rattle.mlp_layout.proofs.StreamLaws.{left_more}
use Rattle.mlp_unit.specs.AccessUnit.{AccessUnit}
use Rattle.mlp_stream.specs.declared.stop.Stop.{Stop}
use Rattle.mlp_stream.specs.Sides.{Side}
use Rattle.mlp_stream.specs.Pumped.{Pumped}
use Rattle.mlp_stream.specs.declared.refusal.Refusal.{Refusal}
use Rattle.mlp_walk.specs.declared.refusal.Refusal.{Refusal as Declined}
use Rattle.mlp_walk.specs.Next.{Taken}
use Rattle.mlp_answers.specs.Working.{IsWorking}
use Rattle.mlp_answers.specs.Works.{Works}
use Rattle.mlp_answers.specs.Reading.{refusal_of, read_step}
use Rattle.mlp_answers.specs.Follows.{next_behind, IsMoved, IsLast, Follows, IsGiven, ReadsOn}
use Rattle.mlp_answers.proofs.ReadingLaws.{read_follows}
use Rattle.mlp_answers.proofs.RunLaws.{works}
use Rattle.mlp_outline.proofs.NextParts.{next_broken}
use Rattle.mlp_contents.specs.Units.{Left, Unit_of, start, whole, after}
use Rattle.mlp_contents.proofs.FormatLaws.{whole_is, whole_bytes}
use Rattle.mlp_present.specs.Decoding.{Held, opened, after_unit, is_open_behind, last_of, no_unit}
use Rattle.mlp_present.specs.Laws.{HoldsUnits}
use Rattle.mlp_sessions.specs.Playing.{on_end}
use Rattle.mlp_sessions.specs.PlayLaws.{whole_open}
use Rattle.mlp_sessions.proofs.NoUnit.{none_read}
use Rattle.mlp_extract.specs.Extract.{extracted_bytes}
use Rattle.mlp_extract.specs.Extracting.{extracting}
use Rattle.mlp_extract.specs.Extractor.{given, extract_reader, extract_step, extract_last}

pub extracting_is : (k : ℕ) → IsWorking (extracting k)
extracting_is k = record {
  format_is = whole_is k;
  takes_bytes = whole_bytes k;
  open_is = whole_open k;
  some_end = λ us. (Ok [], refl);
  one_end = λ us q r a b. a ∙ sym b;
}

module _ (k : ℕ) where
  -- ---- one more unit was taken

  one_more : (us : List Unit_of) (held : Held) (u : Unit_of) → HoldsUnits k us held → HoldsUnits k (us ++ u ∷ []) (after_unit held u)
  one_more us held u h = record {
    k_is = h.k_is;
    units_are = omega (arith, h.units_are, length-append us (u ∷ []));
    left_is =
        ap (λ (j : ℕ). after j held.left u) h.k_is ∙ ap (λ (left : Left). after k left u) h.left_is
        ∙ sym (left_more (whole k) (whole_is k) (start k) us (u ∷ []));
    none_refused = refl;
  }

  given_by : (us : List Unit_of) (held : Held) (t : Taken AccessUnit (List Segment)) → HoldsUnits k us held → IsGiven (extracting k) (HoldsUnits k) us t (given held t)
  given_by us held t h = (ap (λ (j : ℕ). ok_of (extracted_bytes j t.unit.outer)) (sym h.k_is), one_more us held t.unit h)
    where
      ok_of : List ℕ → Result (List ℕ) Refusal
      ok_of xs = Ok xs

  reads_on : ReadsOn (extracting k) (HoldsUnits k) extract_reader
  reads_on = record {
    left = λ us held h. h.left_is;
    count = λ us held h. h.units_are;
    refusal = λ us held h. ap (option_map refusal_of) h.none_refused;
    given = λ us held bytes t h next. given_by us held t h;
  }

  -- ---- the end

  none_there : ((whole k).outer (start k)).read (bits_of []) 0 ≡ Err (broken rule.UnitHeader 0)
  unfolding tested
  none_there = none_read None

  none_next : next_behind (extracting k) (HoldsUnits k) [] [] ≡ Err no_unit
  none_next = next_broken (whole k) (Some k) 0 (start k) [] (broken rule.UnitHeader 0) none_there

  last_by : ℕ → Option Declined → Result (List ℕ) Refusal
  last_by units refusal = on_end (last_of units refusal)

  last_is : (us : List Unit_of) (held : Held) → HoldsUnits k us held → IsLast (extracting k) (HoldsUnits k) us (extract_last held)
  unfolding last_by
  last_is [] held h = (no_unit, none_next, ap (λ (n : ℕ). last_by n held.refusal) h.units_are ∙ ap (last_by 0) h.none_refused)
  last_is (u ∷ us) held h =
      let some : (length (u ∷ us) == 0) ≡ false = grind (arith, nat_tests) in
      ap (λ (n : ℕ). last_by n held.refusal) h.units_are ∙ ap (last_by (length (u ∷ us))) h.none_refused
      ∙ ap (λ (b : Bool). on_end (if b then Err no_unit else Ok tt)) some

  -- ---- a run

  follows : Follows (extracting k) (HoldsUnits k) extract_step extract_last
  follows =
      let at_k = read_follows (extracting k) (HoldsUnits k) extract_reader reads_on extract_last last_is in
      record {
        moves = λ us held ended bytes sums some.
            subst (λ (j : ℕ). IsMoved (extracting k) (HoldsUnits k) ended us bytes (read_step (whole j) (Some j) is_open_behind extract_reader held ended bytes))
            (sym sums.k_is) (at_k.moves us held ended bytes sums some);
        ends = last_is;
      }

  -- what a run of an extractor says
  pub extract_works : (t : Held) (input output : Side) (end : Result Unit Stop) → Pumped extract_step extract_last 0 (opened k) t input output end → Works (extracting k) input output end
  extract_works t input output end p =
      works (extracting k) (extracting_is k) (HoldsUnits k) extract_step extract_last follows (opened k) t input output end
      (record { k_is = refl; units_are = refl; left_is = refl; none_refused = refl }) p
