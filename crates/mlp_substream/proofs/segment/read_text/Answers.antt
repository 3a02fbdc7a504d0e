use Rattle.std.proofs.Common.{◌≡◌, ℕ, List, ◌*◌, length, sym, ap, ◌∙◌, arith}
use Rattle.std.proofs.lemmas.Result.{err_from_is_err_and}
use Rattle.mlp_syntax.specs.declared.segment.Segment.{Segment}
use Rattle.mlp_substream.specs.declared.known.Known.{Known}
use Rattle.mlp_bits.specs.Bits.{bits_of}
use Rattle.mlp_bits.proofs.BitLists.{length-bits_of}
use Rattle.mlp_layout.specs.Tails.{whole_text}
use Rattle.mlp_substream.specs.Segment.{segment_tail, segment_text, end_rules}
use Rattle.mlp_substream.proofs.EndLaws.{end_fails, end_meets, end_breaks}
use Rattle.mlp_substream.proofs.segment.read_text.Goals as goal
use Rattle.mlp_substream.specs.Blocks.{context_of}

at_size : (known : Known) (unit : ℕ) (bytes : List ℕ) (s : Segment) → end_rules known unit (length (bits_of bytes)) s ≡ end_rules known unit (length bytes * 8) s
at_size known unit bytes s = let e : length (bits_of bytes) ≡ length bytes * 8 = omega (arith, length-bits_of bytes) in ap (λ (n : ℕ). end_rules known unit n s) e

pub returns-in_err-read_fields-clause-read : goal.returns-in_err-read_fields-clause-read
unfolding segment_text
returns-in_err-read_fields-clause-read c =
    let p = err_from_is_err_and c.from_residual.result c.from_residual.ensures.1 in
    rw (p.1, p.2) (end_fails (end_rules c.args.known.now c.args.place.now.unit_frames) (whole_text (segment_tail c.args.place.now c.args.known.now (context_of c.args.state.now 0 c.args.place.now.major) c.args.out.now.checked))
    (bits_of c.args.bytes.now) c.in_err-read_fields.field-0.0 c.in_err-read_fields.ensures.read)

pub returns-in-None-clause-read : goal.returns-in-None-clause-read
unfolding segment_text
returns-in-None-clause-read c =
    end_meets (end_rules c.args.known.now c.args.place.now.unit_frames) (whole_text (segment_tail c.args.place.now c.args.known.now (context_of c.args.state.now 0 c.args.place.now.major) c.args.out.now.checked))
    (bits_of c.args.bytes.now) c.read_fields.new.out c.in_ok-read_fields.ensures.read (at_size c.args.known.now c.args.place.now.unit_frames c.args.bytes.now c.read_fields.new.out ∙ sym c.end_fault.ensures ∙ c.in-None.is)

pub returns-in-Some-clause-read : goal.returns-in-Some-clause-read
unfolding segment_text
returns-in-Some-clause-read c =
    rw c.broken.ensures (end_breaks (end_rules c.args.known.now c.args.place.now.unit_frames) (whole_text (segment_tail c.args.place.now c.args.known.now (context_of c.args.state.now 0 c.args.place.now.major) c.args.out.now.checked))
    (bits_of c.args.bytes.now) c.read_fields.new.out (c.in-Some.field, c.in-Some.bit) c.in_ok-read_fields.ensures.read
    (at_size c.args.known.now c.args.place.now.unit_frames c.args.bytes.now c.read_fields.new.out ∙ sym c.end_fault.ensures ∙ c.in-Some.is))
