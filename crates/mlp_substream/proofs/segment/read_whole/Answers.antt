use Rattle.std.proofs.Common.{◌≡◌, ◌-◌, ◌+◌, true, Bool, List, length, take, Result, Ok, Err, sym, subst, ◌∙◌, arith}
use Rattle.std.specs.Prelude.{MatchResult}
use Rattle.mlp_syntax.specs.declared.fault.Broken.{Broken}
use Rattle.mlp_syntax.specs.declared.segment.Segment.{Segment}
use Rattle.mlp_bits.specs.Bits.{bits_of}
use Rattle.mlp_bits.proofs.BitLists.{length-bits_of}
use Rattle.mlp_substream.specs.Segment.{segment_text}
use Rattle.mlp_substream.proofs.CheckLaws.{AreBytes, text_bits}
use Rattle.mlp_substream.proofs.EndLaws.{segment_checked, segment_plain, checked_fails, checked_text, checked_long}
use Rattle.mlp_substream.proofs.segment.read_whole.Goals as goal

pub returns-then-not-checked-clause-read : goal.returns-then-not-checked-clause-read
returns-then-not-checked-clause-read c =
    let plain = segment_plain c.args.place.now c.args.known.now c.args.state.now c.args.checked (bits_of c.args.bytes.now) c.if-not-checked.true in
    let here = subst (λ (b : Bool). MatchResult c.read_text.result (λ x. (segment_text c.args.place.now c.args.known.now c.args.state.now b).read (bits_of c.args.bytes.now) ≡ Ok c.read_text.new.out)
    (λ e. (segment_text c.args.place.now c.args.known.now c.args.state.now b).read (bits_of c.args.bytes.now) ≡ Err e)) c.if-not-checked.true c.read_text.ensures.read in
    subst (λ (r : Result Segment Broken). MatchResult c.read_text.result (λ x. r ≡ Ok c.read_text.new.out) (λ e. r ≡ Err e)) (sym plain) here

pub returns-in-Some-clause-read : goal.returns-in-Some-clause-read
returns-in-Some-clause-read c =
    segment_checked c.args.place.now c.args.known.now c.args.state.now c.args.checked (bits_of c.args.bytes.now) c.if-not-checked.false
    ∙ checked_fails (segment_text c.args.place.now c.args.known.now c.args.state.now true) (bits_of c.args.bytes.now) c.in-Some.fault (sym c.check_fault.ensures ∙ c.in-Some.is)

pub slice_bounds-read_text-count : goal.slice_bounds-read_text-count
slice_bounds-read_text-count c = let l = checked_long (bits_of c.args.bytes.now) (sym c.check_fault.ensures ∙ c.in-None.is) in omega (arith, length-bits_of c.args.bytes.now)

pub returns-in-None-clause-read : goal.returns-in-None-clause-read
returns-in-None-clause-read c =
    let bytes = c.args.bytes.now in
    let none = sym c.check_fault.ensures ∙ c.in-None.is in
    let long = checked_long (bits_of bytes) none in
    let size : length bytes ≡ length bytes - 2 + 2 = omega (arith, length-bits_of bytes) in
    let small : AreBytes bytes = λ i. omega (arith, c.type_inv.bytes i) in
    let whole = segment_checked c.args.place.now c.args.known.now c.args.state.now c.args.checked (bits_of bytes) c.if-not-checked.false
    ∙ checked_text (segment_text c.args.place.now c.args.known.now c.args.state.now true) (bits_of bytes) none in
    let here = subst (λ (b : Bool). MatchResult c.read_text-in-None.result (λ x. (segment_text c.args.place.now c.args.known.now c.args.state.now b).read (bits_of (take (length bytes - 2) bytes)) ≡ Ok c.read_text-in-None.new.out)
    (λ e. (segment_text c.args.place.now c.args.known.now c.args.state.now b).read (bits_of (take (length bytes - 2) bytes)) ≡ Err e)) c.if-not-checked.false c.read_text-in-None.ensures.read in
    let there = subst (λ (t : List Bool). MatchResult c.read_text-in-None.result (λ x. (segment_text c.args.place.now c.args.known.now c.args.state.now true).read t ≡ Ok c.read_text-in-None.new.out)
    (λ e. (segment_text c.args.place.now c.args.known.now c.args.state.now true).read t ≡ Err e)) (sym (text_bits bytes (length bytes - 2) small size)) here in
    subst (λ (r : Result Segment Broken). MatchResult c.read_text-in-None.result (λ x. r ≡ Ok c.read_text-in-None.new.out) (λ e. r ≡ Err e)) (sym whole) there
