use Rattle.std.proofs.Common.{◌≡◌, ℕ, ◌/◌, ◌%◌, ◌^◌, [], ◌++◌, sym}
use Rattle.std.proofs.lemmas.List.{append-nil}
use Rattle.mlp_bits.specs.Bits.{bits}
use Rattle.mlp_bits.proofs.BitLists.{bits-split}
use Rattle.mlp_bits.proofs.Writing.{bits-mod}
use Rattle.mlp_layout.specs.Layout.{number_of}
use Rattle.mlp_layout.proofs.WritingLaws.{writes_as}
use Rattle.mlp_layout.proofs.writing.put_wide.Goals as goal

halves : (v : ℕ) → bits 32 (v / 2 ^ 32) ++ (bits 32 (v % 2 ^ 32) ++ []) ≡ bits 64 v
halves v = rw (append-nil (bits 32 (v % 2 ^ 32)), bits-mod 32 v) (sym (bits-split 32 32 v))

pub returns : goal.returns
unfolding number_of
returns c = writes_as (halves c.args.value) c.put_all.ensures
