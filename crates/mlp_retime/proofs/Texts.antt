-- The segments that are read again are those of the unit.
use Rattle.std.proofs.Common.{◌≡◌, ℕ, zero, suc, ◌+◌, ◌-◌, ◌*◌, Bool, List, [], ◌∷◌, ◌++◌, length, take, drop, Ok, Option, None, IsTrue, sym, ap, ◌∙◌, arith, length-append}
use Rattle.std.specs.List.{flat_map}
use Rattle.std.proofs.lemmas.List.Concat.{flat_map-cons}
use Rattle.mlp_syntax.specs.declared.segment.Segment.{Segment}
use Rattle.mlp_syntax.specs.declared.unit.Outer.{Outer}
use Rattle.mlp_bits.specs.Bits.{bits_of}
use Rattle.mlp_layout.specs.Tails.{FoundWhole}
use Rattle.mlp_layout.specs.Contents.{FoundIn, segments, segment_first, no_segments, bits_in}
use Rattle.mlp_params.specs.declared.state.State.{State}
use Rattle.mlp_unit.specs.AccessUnit.{AccessUnit}
use Rattle.mlp_unit.specs.Shape.{unit_with, body_place, end_at, end_before, segment_bits}
use Rattle.mlp_substream.specs.declared.known.Place.{Place}
use Rattle.mlp_substream.specs.declared.known.Known.{Known}
use Rattle.mlp_substream.specs.Segment.{segment, unknown, IsAllowed}
use Rattle.mlp_substream.specs.Timings.{stamped}
use Rattle.mlp_substream.proofs.SegmentLaws.{segment_is}
use Rattle.mlp_substream.proofs.KnownLaws.{known_text, known_allowed}
use Rattle.mlp_substream.proofs.FreshLaws.{fresh_allowed, fresh_text}
use Rattle.mlp_channels.specs.Channels.{Coded}
use Rattle.mlp_contents.specs.Units.{portion, is_checked}
use Rattle.mlp_retime.specs.Retimed.{own_text}
use Rattle.mlp_retime.specs.Stamping.{stamped_text, restamped, restamped_from}

-- in a unit with a major sync a segment is read without what was in force before it, and without what is known of it
pub read_alone : (place : Place) (known : Known) (force : Option State) (checked : Bool) (bits : List Bool) (s : Segment) → IsTrue place.major → FoundWhole (segment place known force checked) bits s
    → (segment place unknown None checked).read bits ≡ Ok s
read_alone place known force checked bits s major f =
    let here : IsAllowed (segment place known force checked) s = record { fits = f.fits; meets = f.meets } in
    let b = ((known_allowed place known force checked s).0 here).0 in
    let d = fresh_allowed place unknown force None checked s major b in
    (segment_is place unknown None checked).found bits s (record {
      fits = d.fits;
      meets = d.meets;
      text_is = f.text_is ∙ known_text place known force checked s ∙ sym (fresh_text place unknown force None checked s major b);
    })

module _ (k : ℕ) (place : Place) (major : IsTrue place.major) (xs : List Coded) (check output : ℕ) (bytes : List ℕ) (o : Outer) (text : List Bool)
    (body : o.body ≡ body_place (unit_with bytes o)) (own : text ≡ bits_of bytes) where
  abbrev unit : AccessUnit
  unit = unit_with bytes o

  abbrev stamped_own : Segment → List Bool
  stamped_own s = own_text place (stamped output s)

  bits_here : (before : List Segment) → bits_in (portion k place xs check unit before) text ≡ segment_bits bytes o (length before)
  unfolding portion
  bits_here before =
      let j = length before in
      let es = o.entries.items in
      λ i. take (16 * (end_at es j - end_before es j)) (drop (8 * (sym body i + 2 * end_before es j)) (own i))

  one_text : (before : List Segment) (s : Segment) → FoundWhole (portion k place xs check unit before).text (bits_in (portion k place xs check unit before) text) s
      → restamped place output (is_checked o.entries.items (length before)) (segment_bits bytes o (length before)) ≡ stamped_own s
  unfolding portion
  one_text before s f =
      let there = bits_here before in
      ap (λ (t : List Bool). restamped place output (is_checked o.entries.items (length before)) t) (sym there)
      ∙ ap (stamped_text place output (bits_in (portion k place xs check unit before) text))
      (read_alone place _ _ (is_checked o.entries.items (length before)) (bits_in (portion k place xs check unit before) text) s major f)

  pub all_texts : (n : ℕ) (before ss : List Segment) → FoundIn (segments (portion k place xs check unit) n before) text ss
      → (restamped_from place output bytes o (length before) n ≡ flat_map stamped_own ss) × (length ss ≡ n)
  unfolding segments segment_first no_segments
  all_texts zero before ss f = (ap (flat_map stamped_own) (sym f.fits), ap (λ (xs : List Segment). length xs) f.fits)
  all_texts (suc n) before [] f = absurd f.fits
  all_texts (suc n) before (s ∷ ss) f =
      let here = one_text before s (record { fits = f.fits.0.0; meets = f.meets.0; text_is = f.fits.0.1 }) in
      let later = all_texts n (before ++ s ∷ []) ss (record { fits = f.fits.1; meets = f.meets.1 }) in
      let on : length (before ++ s ∷ []) ≡ suc (length before) = omega (arith, length-append before (s ∷ [])) in (
        (λ i. here i ++ (ap (λ (j : ℕ). restamped_from place output bytes o j n) (sym on) ∙ later.0) i) ∙ sym (flat_map-cons stamped_own s ss),
        ap suc later.1,
      )
