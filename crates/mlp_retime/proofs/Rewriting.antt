-- What is written of a unit is the unit with its timings.
use Rattle.std.proofs.Common.{◌≡◌, ℕ, ◌+◌, ◌*◌, Bool, true, List, [], ◌++◌, length, take, drop, Option, Some, None, is_none, refl, sym, ap, subst, ◌∙◌}
use Rattle.std.proofs.lemmas.List.{drop-drop}
use Rattle.std.specs.Prelude.{is_some, if◌then◌else◌}
use Rattle.std.specs.List.{flat_map}
use Rattle.mlp_syntax.specs.declared.major.MajorSync.{MajorSync}
use Rattle.mlp_syntax.specs.declared.segment.Segment.{Segment}
use Rattle.mlp_bits.specs.Bits.{bits_of}
use Rattle.mlp_layout.specs.Contents.{FoundIn}
use Rattle.mlp_unit.specs.AccessUnit.{AccessUnit, in_force}
use Rattle.mlp_unit.specs.Shape.{unit_with, end_before}
use Rattle.mlp_unit.specs.Written.{written_unit}
use Rattle.mlp_substream.specs.Checks.{bytes_of}
use Rattle.mlp_substream.specs.Timings.{stamped}
use Rattle.mlp_walk.proofs.NextLaws.{from_unit}
use Rattle.mlp_output.specs.Output.{folded}
use Rattle.mlp_contents.specs.Units.{Left, start, place_by}
use Rattle.mlp_present.specs.Decoding.{Held}
use Rattle.mlp_present.proofs.Joined.{spelled}
use Rattle.mlp_retime.specs.Top.{highest, begun, top}
use Rattle.mlp_retime.specs.Retimed.{own_text, stamped_body, retimed}
use Rattle.mlp_retime.specs.Stamping.{restamped_from, restamped_body, rewritten}
use Rattle.mlp_retime.specs.Retimer.{TakesTop, IsTop}
use Rattle.mlp_retime.specs.SessionLaws.{top_is, top_bytes}
use Rattle.mlp_retime.proofs.Taking.{sync_taken}
use Rattle.mlp_retime.proofs.Texts.{all_texts}

pub place_forced : (sync major : Option MajorSync) → place_by (in_force sync major) major ≡ place_by sync major
place_forced None None = refl
place_forced None (Some m) = refl
place_forced (Some f) major = refl

pub begun_sync : (k : ℕ) (left : Left) (sync : Option MajorSync) → left.sync ≡ sync → (if is_none sync then start k else left).sync ≡ left.sync
begun_sync k left None e = sym e
begun_sync k left (Some m) e = refl

module _ (old : Held) (t : IsTop old) (next : List ℕ) (new : Held) (size : ℕ) (g : TakesTop old next size new) where
  abbrev bytes : List ℕ
  bytes = take size next

  abbrev outer : AccessUnit
  outer = unit_with bytes g.outer

  abbrev sync : Option MajorSync
  sync = in_force old.left.sync g.outer.major

  abbrev k : ℕ
  k = highest sync

  contents_found : FoundIn (top.contents old.left outer) (bits_of bytes) g.unit.contents
  contents_found =
      let from = from_unit top top_is top_bytes None old.units old.left next (record { size = size; unit = g.unit }) g.next_is in
      subst (λ (text : List Bool). FoundIn (top.contents old.left outer) text g.unit.contents)
      (spelled old.left.ended old.left.sync next size outer g.has_outer.read g.has_outer.there)
      (subst (λ (o : AccessUnit). FoundIn (top.contents old.left o) ((top.outer old.left).spelling o) g.unit.contents) g.outer_is from.next.contents)

  -- the body, by the unit's own major sync
  body_is : (output : ℕ) (major : Option MajorSync) → g.outer.major ≡ major
      → (if is_some major then restamped_body (place_by sync major) (k + 1) output bytes g.outer else drop g.outer.body bytes)
      ≡ (if is_some major then stamped_body (place_by sync major) output (record { outer = outer; contents = g.unit.contents }) else drop g.outer.body bytes)
  unfolding stamped_body
  body_is output None e = refl
  body_is output (Some m) e =
      let here = begun k old.left in
      let place = place_by sync (Some m) in
      let place_is : place_by here.sync g.outer.major ≡ place =
      ap (λ (s : Option MajorSync). place_by s g.outer.major) (begun_sync k old.left old.left.sync refl) ∙ sym (place_forced old.left.sync g.outer.major) ∙ ap (place_by sync) e in
      let major : (place_by here.sync g.outer.major).major ≡ true = ap (λ (o : Option MajorSync). is_some o) e in
      let all = all_texts k (place_by here.sync g.outer.major) major here.substreams (folded here.check) output bytes g.outer (bits_of bytes) g.has_outer.body refl (k + 1) [] g.unit.contents contents_found in
      let texts : restamped_from place output bytes g.outer 0 (k + 1) ≡ flat_map (λ (s : Segment). own_text place (stamped output s)) g.unit.contents =
      subst (λ (p : _). restamped_from p output bytes g.outer 0 (k + 1) ≡ flat_map (λ (s : Segment). own_text p (stamped output s)) g.unit.contents) place_is all.0 in
      let behind : drop (g.outer.body + 2 * end_before g.outer.entries.items (k + 1)) bytes ≡ drop (2 * end_before g.outer.entries.items (length g.unit.contents)) (drop g.outer.body bytes) =
      sym (drop-drop (2 * end_before g.outer.entries.items (k + 1)) g.outer.body bytes) ∙ ap (λ (n : ℕ). drop (2 * end_before g.outer.entries.items n) (drop g.outer.body bytes)) (sym all.1) in
      λ i. bytes_of (texts i ++ bits_of (behind i))

  pub unit_is : (first : MajorSync) (input output : ℕ) → Some first ≡ new.left.sync
      → rewritten first (highest (Some first) + 1) input output bytes g.outer ≡ retimed (in_force old.left.sync g.unit.outer.major) input output g.unit
  unit_is first input output e =
      let same : Some first ≡ sync = e ∙ sync_taken old t next new size g ∙ ap (λ (o : AccessUnit). in_force old.left.sync o.major) g.outer_is in
      ap (λ (s : Option MajorSync). written_unit input g.outer.major g.outer.entries.items (if is_some g.outer.major then restamped_body (place_by s g.outer.major) (highest s + 1) output bytes g.outer else drop g.outer.body bytes)) same
      ∙ ap (written_unit input g.outer.major g.outer.entries.items) (body_is output g.outer.major refl)
      ∙ (λ i. retimed (in_force old.left.sync (sym g.outer_is i).major) input output (record { outer = sym g.outer_is i; contents = g.unit.contents }))
