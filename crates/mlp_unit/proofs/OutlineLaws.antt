-- Bytes are units, or the first rule fails in one.
use Rattle.std.proofs.Common.{ℕ, List, None, arith}
use Rattle.mlp_bits.specs.Bits.{bits_of}
use Rattle.mlp_layout.specs.Streams.{IsFormat}
use Rattle.mlp_layout.proofs.ContentLaws.{nothing_is}
use Rattle.mlp_layout.proofs.StreamLaws.{has_one_end}
use Rattle.mlp_unit.specs.Outline.{outline, HasOneOutline}
use Rattle.mlp_unit.proofs.UnitLaws.{access_unit_is, access_unit_size}

pub outline_is : IsFormat outline
outline_is = record {
  outer_is = access_unit_is;
  contents_are = λ first u. nothing_is;
  takes_bits = λ first u fits. omega (arith, access_unit_size first u fits);
}

pub one_outline : (bytes : List ℕ) → HasOneOutline bytes
one_outline bytes =
    let h = has_one_end outline outline_is None (bits_of bytes) in
    record { some = h.some; not_both = h.not_both; one_list = h.one_list; one_fault = h.one_fault }
