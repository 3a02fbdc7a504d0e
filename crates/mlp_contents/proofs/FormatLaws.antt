-- Whole units are a format, so each list of bits has one of the three readings.
use Rattle.std.proofs.Common.{◌≡◌, ℕ, ◌+◌, ◌*◌, Bool, List, [], length, arith}
use Rattle.mlp_layout.specs.Layout.{tested}
use Rattle.mlp_layout.specs.Streams.{HasOne, IsFormat}
use Rattle.mlp_layout.proofs.LayoutLaws.{tested_is}
use Rattle.mlp_layout.proofs.ContentLaws.{segments_are}
use Rattle.mlp_layout.proofs.StreamLaws.{has_one}
use Rattle.mlp_substream.proofs.SegmentLaws.{segment_is}
use Rattle.mlp_unit.specs.AccessUnit.{AccessUnit, major_size}
use Rattle.mlp_unit.specs.Directory.{directory_size}
use Rattle.mlp_unit.proofs.UnitLaws.{access_unit_is, access_unit_size}
use Rattle.mlp_layout.specs.Tails.{IsWhole}
use Rattle.mlp_syntax.specs.declared.segment.Segment.{Segment}
use Rattle.mlp_substream.specs.declared.known.Place.{Place}
use Rattle.mlp_channels.specs.Channels.{Coded}
use Rattle.mlp_output.specs.Output.{folded}
use Rattle.mlp_walk.specs.Next.{TakesBytes}
use Rattle.mlp_contents.specs.Units.{Left, start, place_of, portion, whole}

pub outer_size : (k : ℕ) (left : Left) (o : AccessUnit) → ((whole k).outer left).Fits o → length (((whole k).outer left).spelling o) ≡ 32 + (8 * major_size o.major + (8 * directory_size o.entries + (8 * length o.body + 0)))
unfolding tested
outer_size k left o fits = access_unit_size left.sync o fits

portion_is : (last : ℕ) (place : Place) (xs : List Coded) (check : ℕ) (o : AccessUnit) (before : List Segment) → IsWhole (portion last place xs check o before).text
unfolding portion
portion_is last place xs check o before = segment_is place _ _ _

pub whole_is : (k : ℕ) → IsFormat (whole k)
whole_is k = record {
  outer_is = λ left. tested_is _ _ (access_unit_is left.sync);
  contents_are = λ left o. segments_are _ (λ before. portion_is k (place_of left o) left.substreams (folded left.check) o before) (k + 1) [];
  takes_bits = λ left o fits. omega (arith, outer_size k left o fits);
}

pub whole_bytes : (k : ℕ) → TakesBytes (whole k)
whole_bytes k = record {
  whole = λ left o fits. (4 + major_size o.major + directory_size o.entries + length o.body, omega (arith, outer_size k left o fits));
}

pub one_reading : (k : ℕ) (all : List Bool) → HasOne (whole k) (start k) k all
one_reading k all = has_one (whole k) (whole_is k) (start k) k all
