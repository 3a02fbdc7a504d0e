use Rattle.std.proofs.Common.{◌≡◌, ℕ, ◌*◌, ◌-◌, ◌≤◌, Bool, List, length, take, Option}
use Rattle.mlp_syntax.specs.declared.segment.Segment.{Segment}
use Rattle.mlp_syntax.specs.declared.fault.Field.TheVariants.{BlockOverrun}
use Rattle.mlp_bits.specs.Cursor.{Cursor}
use Rattle.mlp_layout.specs.Reading.{Read}
use Rattle.mlp_layout.specs.Combined.{up_to_last}
use Rattle.mlp_layout.proofs.Loops.{ValuesContinue}
use Rattle.mlp_params.specs.declared.state.State.{State}
use Rattle.mlp_substream.specs.declared.known.Known.{Known}
use Rattle.mlp_substream.specs.declared.known.Place.{Place}
use Rattle.mlp_substream.specs.Blocks.{Block, block, after_block, force_after, context_of, ForceFits}
use Rattle.mlp_substream.specs.Segment.{heads_of, codes_of}
use Rattle.mlp_substream.proofs.blocks.read_blocks.Given as goal

-- the blocks so far; behind their heads and frames stand those that were there
pub record SoFar (place : Place) (known : Known) (count frames : ℕ) (state first : Option State) (due : Bool) (r start : Cursor) (out before : Segment) (total : Read (List Block)) : Type 0 where
  pub done : List Block
  pub so_far : ValuesContinue (block place known) (after_block place) BlockOverrun (21 - count) (context_of state frames due) done r.all r.place total
  pub rest_is : out ≡ record before { blocks = out.blocks; codes = out.codes }
  pub heads_are : take count out.blocks.items ≡ heads_of done
  pub codes_are : take frames out.codes.items ≡ codes_of done
  pub force_is : state ≡ force_after place first (heads_of done)
  pub enough : count ≤ length out.blocks.items
  pub frames_enough : frames ≤ length out.codes.items
  pub few : frames ≤ place.unit_frames
  pub least : 8 * count ≤ frames
  pub state_is : ForceFits place state
  pub same_bits : r.all ≡ start.all
  pub moved : start.place ≤ r.place

abbrev pub invariant-loop-count : goal.invariant-loop-count
invariant-loop-count l = SoFar l.place l.known l.count l.frames l.state l.fn.state l.due l.r l.fn.r l.out l.fn.out ((up_to_last
    (block l.place l.known) (after_block l.place) BlockOverrun 21 (context_of l.fn.state 0 l.place.major)).read l.fn.r.all l.fn.r.place)
