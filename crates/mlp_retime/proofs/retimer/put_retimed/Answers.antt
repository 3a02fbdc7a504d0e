use Rattle.std.proofs.Common.{◌≡◌, true, not, List, ℕ, sym, ap, ◌∙◌}
use Rattle.std.specs.Prelude.{is_some}
use Rattle.mlp_bits.specs.Bits.{bits_of}
use Rattle.mlp_substream.specs.Checks.{bytes_of}
use Rattle.mlp_unit.specs.Written.{written_unit}
use Rattle.mlp_cut.specs.Cut.{unit_bytes}
use Rattle.mlp_retime.proofs.Putting.{stamped_unit}
use Rattle.mlp_retime.proofs.retimer.put_retimed.Goals as goal

pub returns : goal.returns
returns c =
    let o = c.args.outer.now in
    let body = c.stamp_body.new.out.items in
    let there : is_some o.major ≡ true = c.is_none.ensures ∙ ap not c.if-is_none.false in
    let slice : c.as_slice.result.now ≡ body = cc in
    let own : bytes_of (bits_of body) ≡ body = ap (λ (xs : List ℕ). bytes_of (bits_of xs)) (sym slice) ∙ c.law_bits.ensures ∙ slice in
    c.put_unit-2.ensures ∙ ap (λ (xs : List ℕ). unit_bytes (written_unit c.args.input o.major o.entries.items xs)) c.deref.ensures.0
    ∙ stamped_unit c.args.first.now c.args.input c.args.output c.substreams.result c.args.unit.now o c.restart_place-place.result body there c.restart_place-place.ensures.value c.substreams.ensures own c.stamp_body.ensures.text
