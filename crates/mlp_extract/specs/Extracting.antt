-- The command that extracts presentation k: it reads all that decoding the presentation reads.
use Rattle.std.specs.Prelude.{◌≡◌, ℕ, List, [], Some, Ok}
use Rattle.mlp_syntax.specs.declared.segment.Segment.{Segment}
use Rattle.mlp_unit.specs.AccessUnit.{AccessUnit}
use Rattle.mlp_answers.specs.Working.{Working}
use Rattle.mlp_contents.specs.Units.{Left, start, whole}
use Rattle.mlp_present.specs.Decoding.{is_open_behind}
use Rattle.mlp_extract.specs.Extract.{extracted_bytes}

-- a unit that meets every rule gives what the presentation needs of it, whatever came before
abbrev pub extracting : ℕ → Working Left AccessUnit (List Segment)
extracting k = record {
  format = whole k;
  start = start k;
  wanted = Some k;
  is_open = is_open_behind;
  out = λ us u. Ok (extracted_bytes k u.outer);
  Ends = λ us last. last ≡ Ok [];
}
