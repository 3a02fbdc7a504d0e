-- A segment: blocks up to the last one, padding, a terminator, and two bytes of checks.
use Rattle.std.specs.Prelude.{ℕ, ◌-◌, ◌%◌, ◌==◌, ◌&&◌, ◌||◌, not, Bool, true, false, List, [], ◌∷◌, ◌++◌, length, take, drop, Option, Some, None, is_some, IfSome, IsTrue, if◌then◌else◌}
use Rattle.std.specs.List.{All}
use Rattle.mlp_syntax.specs.declared.major.Kind.{Kind}
use Rattle.mlp_syntax.specs.declared.major.Kind.TheVariants.{Fbb, Fba}
use Rattle.mlp_syntax.specs.declared.fault.Field.{Field}
use Rattle.mlp_syntax.specs.declared.fault.Field.TheVariants as rule
use Rattle.mlp_syntax.specs.declared.segment.BlockHead.{BlockHead}
use Rattle.mlp_syntax.specs.declared.segment.FrameCode.{FrameCode}
use Rattle.mlp_syntax.specs.declared.segment.Segment.{Segment}
use Rattle.mlp_layout.specs.Layout.{Layout, number_of, ruled}
use Rattle.mlp_layout.specs.Combined.{must, fixed, up_to_last}
use Rattle.mlp_layout.specs.Tails.{Tail, Whole, EndJudge, part_tail, placed, ending, whole_text, judged_at_end, checked_first, chosen_whole}
use Rattle.mlp_params.specs.declared.state.State.{State}
use Rattle.mlp_substream.specs.declared.known.Place.{Place}
use Rattle.mlp_substream.specs.declared.known.Ending.{Ending}
use Rattle.mlp_substream.specs.declared.known.Known.{Known}
use Rattle.mlp_substream.specs.Checks.{parity_of, check_of}
use Rattle.mlp_substream.specs.Restarts.{RestartHolds}
use Rattle.mlp_substream.specs.Blocks.{BlockContext, first_context, Block, block, after_block}

-- ---- the record has the frames of all blocks in one list

unfoldable pub nested : List BlockHead → List FrameCode → List Block
nested [] codes = []
nested (h ∷ hs) codes = record { head = h; frames = take h.frames codes } ∷ nested hs (drop h.frames codes)

unfoldable pub heads_of : List Block → List BlockHead
heads_of [] = []
heads_of (b ∷ bs) = b.head ∷ heads_of bs

unfoldable pub codes_of : List Block → List FrameCode
codes_of [] = []
codes_of (b ∷ bs) = b.frames ++ codes_of bs

-- ---- the end

abbrev pub is_fba : Kind → Bool
is_fba Fba = true
is_fba Fbb = false

-- two words, of which the record has the second; in an MLP stream that is the first again
unfoldable pub terminator : Kind → Layout ℕ
terminator format = fixed 16 0xD234 rule.Terminator
    (ruled (must rule.Terminator (λ word. is_fba format || (word == 0xD234))) (number_of 16))

-- the bits up to the next multiple of 16
abbrev pub padding_width : ℕ → ℕ
padding_width place = (16 - place % 16) % 16

-- it has a terminator exactly where substream 0 has one
abbrev pub same_end : Option Ending → Segment → Bool
same_end None s = true
same_end (Some e) s = if is_some s.terminator then e.terminator else not e.terminator

-- as many frames as a unit has, or any number with a terminator; and as many as substream 0 has
abbrev pub frames_fit : Option Ending → ℕ → Segment → Bool
frames_fit None unit s = (length s.codes.items == unit) || is_some s.terminator
frames_fit (Some e) unit s =
    ((length s.codes.items == unit) || is_some s.terminator) && (length s.codes.items == e.frames)

abbrev pub terminator_bits : Segment → ℕ
terminator_bits s = if is_some s.terminator then 32 else 0

-- the first rule at the end that fails, and its place among so many bits: behind the padding,
-- or the segment's first bit
abbrev pub end_fault : Bool → Bool → ℕ → Option (Field × ℕ)
end_fault false frames place = Some (rule.TerminatorMixed, place)
end_fault true false place = Some (rule.FrameCount, 0)
end_fault true true place = None

unfoldable pub end_rules : Known → ℕ → EndJudge Segment
end_rules known unit all s =
    end_fault (same_end known.first s) (frames_fit known.first unit s) (all - terminator_bits s)

-- ---- the segment

-- a unit has frames for 20 blocks
abbrev pub most_blocks : ℕ
most_blocks = 21

-- so many blocks at most, up to the last one
abbrev pub blocks_from : Place → Known → ℕ → BlockContext → Layout (List Block)
blocks_from place known n at = up_to_last (block place known) (after_block place) rule.BlockOverrun n at

module _ (place : Place) where
  unfoldable pub segment_tail : Known → BlockContext → Bool → Tail Segment
  segment_tail known at checked =
      part_tail (blocks_from place known most_blocks at) (λ s. nested s.blocks.items s.codes.items) (λ bs.
      placed (λ here.
      part_tail (number_of (padding_width here)) (λ s. s.padding) (λ padding.
      ending rule.SegmentEnd 32 (terminator place.format) (λ s. s.terminator) (λ terminator.
      record {
        blocks = record { items = heads_of bs };
        codes = record { items = codes_of bs };
        padding = padding;
        terminator = terminator;
        checked = checked;
      }))))

  -- the fields, and the rules at the end
  unfoldable pub segment_text : Known → Option State → Bool → Whole Segment
  segment_text known force checked = judged_at_end (end_rules known place.unit_frames)
      (whole_text (segment_tail known (first_context place force) checked))

  -- a segment against what is in force at its start; checks are tried before its fields are read
  unfoldable pub segment : Known → Option State → Bool → Whole Segment
  segment known force checked = chosen_whole checked
      (checked_first parity_of check_of (segment_text known force true)) (segment_text known force false)

-- nothing is known from elsewhere
abbrev pub unknown : Known
unknown = record { max_matrix = None; covered = None; lossless = None; first = None }

-- a value has a spelling and meets the rules
pub record IsAllowed {R : Type 0} (w : Whole R) (r : R) : Type 0 where
  pub fits : w.Fits r
  pub meets : w.Meets r

-- a segment is as it is known from elsewhere, where it is known
pub record IsAsKnown (place : Place) (known : Known) (s : Segment) : Type 0 where
  pub restarts : All (λ h. IfSome h.restart (λ r. RestartHolds known r)) s.blocks.items
  pub end : IsTrue (same_end known.first s)
  pub frames : IsTrue (frames_fit known.first place.unit_frames s)
