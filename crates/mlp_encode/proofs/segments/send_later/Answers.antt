use Rattle.std.proofs.Common.{◌≡◌, ◌∷◌, ◌++◌, ◌∙◌, ℕ, Bool, List, [], Option, Some, None, true, take, drop, length, refl, sym, ap, subst, arith}
use Rattle.std.specs.Prelude.{IfSome}
use Rattle.std.proofs.Math.ListN.{set}
use Rattle.std.proofs.lemmas.List.{length-set}
use Rattle.arrayvec.specs.ArrayVec.{ArrayVec}
use Rattle.mlp_syntax.specs.declared.segment.BlockHead.{BlockHead}
use Rattle.mlp_syntax.specs.declared.segment.FrameCode.{FrameCode}
use Rattle.mlp_syntax.specs.declared.segment.Segment.{Segment}
use Rattle.mlp_params.specs.declared.state.State.{State}
use Rattle.mlp_residual.proofs.FrameLaws.{written_back}
use Rattle.mlp_encode.specs.Blocks.{Force, SentBlock, block_sent, with_block, empty, later_sent}
use Rattle.mlp_encode.specs.Lawful.{IsInForce, IsSentSegment}
use Rattle.mlp_encode.proofs.SentChannels.{codes_in_count}
use Rattle.mlp_encode.proofs.SentSegments.{block_count, part_all, later_sendable, later_is}
use Rattle.mlp_encode.proofs.segments.send_later.Goals as goal

pub fill_block-requires-clause-sendable : goal.fill_block-requires-clause-sendable
fill_block-requires-clause-sendable c =
    let h = c.requires.sends in
    later_sendable c.args.profile.now c.args.substream c.args.frames.now h.which h.shape h.top (part_all c.args.profile.now c.args.frames.now h.frames) c.in-Some.state
    (subst (λ (o : Option State). IfSome o (IsInForce c.args.profile.now c.args.substream)) c.in-Some.is h.force)

pub fill_block-requires-clause-codes : goal.fill_block-requires-clause-codes
fill_block-requires-clause-codes c = c.as_mut_slice-codes.ensures.value ∙ c.renew_frames.ensures c.args.frames.now refl

only_set : (heads : List BlockHead) (head : BlockHead) → length heads ≡ 1 → set heads 0 head ≡ head ∷ []
only_set [] head e = absurd (omega arith)
only_set (h ∷ []) head e = refl
only_set (h ∷ g ∷ more) head e = absurd (omega arith)

-- the only head is another
only_put : (heads all : List BlockHead) (head : BlockHead) → length heads ≡ 1 → all ≡ heads → take (length heads) (set all 0 head ++ drop (length (set all 0 head)) heads) ≡ head ∷ []
only_put heads all head e f = written_back heads (set all 0 head) (length-set all 0 head ∙ ap length f) ∙ only_set all head (ap length f ∙ e)

-- a segment of one block
segment_put : (s : Segment) (heads : ArrayVec BlockHead) (codes : ArrayVec FrameCode) (b : SentBlock) → s.padding ≡ 0 → s.checked ≡ true → heads.items ≡ b.head ∷ [] → codes.items ≡ b.codes
    → record s { blocks = heads; codes = codes } ≡ with_block b (empty s.terminator)
segment_put s heads codes b p k e f =
    ap (λ (n : ℕ). record s { blocks = heads; codes = codes; padding = n }) p
    ∙ ap (λ (t : Bool). record s { blocks = heads; codes = codes; padding = 0; checked = t }) k
    ∙ ap (λ (xs : List BlockHead). record s { blocks = record { items = xs }; codes = codes; padding = 0; checked = true }) e
    ∙ ap (λ (xs : List FrameCode). record s { blocks = record { items = b.head ∷ [] }; codes = record { items = xs }; padding = 0; checked = true }) f

pub returns : goal.returns
returns c =
    let j = c.args.substream in
    let p = c.args.profile.now in
    let frames = c.args.frames.now in
    let t = c.args.segment.now.terminator in
    let before : Force = record { state = c.in-Some.state; pasts = c.args.pasts.now } in
    let b : SentBlock = block_sent j p None before frames in
    let sent = c.fill_block.ensures in
    let old : List BlockHead = c.leave_one.new.heads.items in
    let all : List BlockHead = c.as_mut_slice.result.now in
    let xs : List FrameCode = c.renew_frames.new.codes.items in
    let ys : List FrameCode = c.fill_block.new.codes in
    let hs : List BlockHead = set all 0 c.fill_block.new.head in
    let head = only_put old all c.fill_block.new.head c.leave_one.ensures c.as_mut_slice.ensures.value ∙ ap (λ (h : BlockHead). h ∷ []) sent.head in
    let count = ap length sent.codes ∙ block_count j p None before frames ∙ sym (codes_in_count [] [] frames) ∙ ap length (sym (c.renew_frames.ensures frames refl)) in
    let heads : ArrayVec BlockHead = record { items = take (length old) (hs ++ drop (length hs) old) } in
    let codes : ArrayVec FrameCode = record { items = take (length xs) (ys ++ drop (length ys) xs) } in
    let after : Segment = record (c.args.segment.now) { blocks = heads; codes = codes } in
    let whole = segment_put c.args.segment.now heads codes b c.requires.padding c.requires.checked head (written_back xs ys count ∙ sent.codes) in
    subst (λ (o : Option State). IfSome o (λ s. let force : Force = record { state = s; pasts = c.args.pasts.now } in
    IsSentSegment (later_sent j p force frames t) after (Some c.fill_block.new.state) c.fill_block.new.pasts)) (sym c.in-Some.is)
    (later_is j p before frames t (empty t) after c.fill_block.new.state c.fill_block.new.pasts refl whole sent.state sent.pasts)
