-- The session of `list` does its work.
use Rattle.std.proofs.Common.{◌≡◌, ℕ, ◌==◌, ◌++◌, if◌then◌else◌, Bool, false, List, [], ◌∷◌, length, Result, Ok, Err, Option, None, refl, sym, ap, ◌∙◌, arith, length-append}
use Rattle.std.proofs.lemmas.Bool.Decides.{nat_tests}
use Rattle.std.specs.Option.{option_map}
use Rattle.mlp_syntax.specs.declared.fault.Field.TheVariants as rule
use Rattle.mlp_syntax.specs.declared.major.MajorSync.{MajorSync}
use Rattle.mlp_layout.specs.Reading.{broken}
use Rattle.mlp_layout.proofs.StreamLaws.{left_more}
use Rattle.mlp_unit.specs.Outline.{outline}
use Rattle.mlp_unit.specs.AccessUnit.{AccessUnit, in_force}
use Rattle.mlp_stream.specs.declared.stop.Stop.{Stop}
use Rattle.mlp_stream.specs.Sides.{Side}
use Rattle.mlp_stream.specs.Pumped.{Pumped}
use Rattle.mlp_stream.specs.declared.refusal.Refusal.{Refusal}
use Rattle.mlp_walk.specs.declared.refusal.Refusal.TheVariants as declined
use Rattle.mlp_walk.specs.Next.{Taken}
use Rattle.mlp_answers.specs.Working.{IsWorking, left_of}
use Rattle.mlp_answers.specs.Answers.{HasOneAnswer}
use Rattle.mlp_answers.specs.Works.{Works}
use Rattle.mlp_answers.specs.Reading.{refusal_of}
use Rattle.mlp_answers.specs.Follows.{next_behind, IsLast, Follows, ReadsOn}
use Rattle.mlp_answers.proofs.ReadingLaws.{read_follows}
use Rattle.mlp_answers.proofs.RunLaws.{works}
use Rattle.mlp_answers.proofs.SomeAnswer.{has_one_answer}
use Rattle.mlp_outline.specs.Outlining.{Outlined, nothing_read, after_outline}
use Rattle.mlp_sessions.specs.ListLine.{unit_line}
use Rattle.mlp_sessions.specs.Listing.{OutlineUnit, listing, list_reader, list_step, list_last}
use Rattle.mlp_answers.specs.Reading.{no_unit}
use Rattle.mlp_unit.proofs.OutlineLaws.{outline_is}
use Rattle.mlp_outline.proofs.Outlines.{outline_bytes, outline_broken}
use Rattle.mlp_sessions.specs.ListLaws.{outline_open}
use Rattle.mlp_sessions.proofs.NoUnit.{none_read}

-- what the session knows of the units that it took
pub record Listed (us : List OutlineUnit) (held : Outlined) : Type 0 where
  pub units : held.units ≡ length us
  pub first : held.first ≡ left_of listing us
  pub refusal : held.refusal ≡ None

pub listing_is : IsWorking listing
listing_is = record {
  format_is = outline_is;
  takes_bytes = outline_bytes;
  open_is = outline_open;
  some_end = λ us. (Ok [], refl);
  one_end = λ us q r a b. a ∙ sym b;
}

-- one more unit was taken
listed_on : (us : List OutlineUnit) (held : Outlined) (t : Taken AccessUnit (Unit {0})) → Listed us held → Listed (us ++ t.unit ∷ []) (after_outline held (Ok t))
listed_on us held t h = record {
  units = omega (arith, h.units, length-append us (t.unit ∷ []));
  first = ap (λ (first : Option MajorSync). in_force first t.unit.outer.major) h.first ∙ sym (left_more outline outline_is None us (t.unit ∷ []));
  refusal = h.refusal;
}

reads_on : ReadsOn listing Listed list_reader
reads_on = record {
  left = λ us held h. h.first;
  count = λ us held h. h.units;
  refusal = λ us held h. ap (option_map refusal_of) h.refusal;
  given = λ us held bytes t h next. (ap (λ (n : ℕ). Ok (unit_line n t.unit.outer)) (sym h.units), listed_on us held t h);
}

-- ---- the end

none_next : next_behind listing Listed [] [] ≡ Err (declined.Fault (record { unit = 0; substream = 0; field = rule.UnitHeader; bit = 0 }))
none_next = outline_broken 0 None [] (broken rule.UnitHeader 0) (none_read None)

last_by : ℕ → Result (List ℕ) Refusal
last_by units = if units == 0 then Err no_unit else Ok []

last_is : (us : List OutlineUnit) (held : Outlined) → Listed us held → IsLast listing Listed us (list_last held)
unfolding last_by
last_is [] held h = (_, none_next, ap last_by h.units)
last_is (u ∷ us) held h =
    let some : (length (u ∷ us) == 0) ≡ false = grind (arith, nat_tests) in
    ap last_by h.units ∙ ap (λ (b : Bool). if b then Err no_unit else Ok []) some

follows : Follows listing Listed list_step list_last
follows = read_follows listing Listed list_reader reads_on list_last last_is

-- what a run of the session says
pub list_works : (t : Outlined) (input output : Side) (end : Result Unit Stop) → Pumped list_step list_last 0 nothing_read t input output end → Works listing input output end
list_works t input output end p = works listing listing_is Listed list_step list_last follows nothing_read t input output end (record { units = refl; first = refl; refusal = refl }) p

pub list_has_one : (all : List ℕ) → HasOneAnswer listing all
list_has_one = has_one_answer listing listing_is
