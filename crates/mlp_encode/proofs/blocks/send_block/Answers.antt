use Rattle.std.proofs.Common.{◌≡◌, ◌+◌, ◌-◌, ◌∷◌, ◌++◌, ◌∙◌, ℕ, List, [], length, take, drop, refl, sym, ap, arith}
use Rattle.std.proofs.Math.ListN.{set}
use Rattle.std.proofs.Math.Seq.{set-append_seam}
use Rattle.std.proofs.lemmas.List.{drop-drop, drop_all, append-nil, length-append, length-set, take_at}
use Rattle.arrayvec.specs.ArrayVec.{ArrayVec}
use Rattle.mlp_syntax.specs.declared.segment.BlockHead.{BlockHead}
use Rattle.mlp_syntax.specs.declared.segment.FrameCode.{FrameCode}
use Rattle.mlp_syntax.specs.declared.segment.Segment.{Segment}
use Rattle.mlp_encode.specs.Blocks.{Force, SentBlock, codes_in, block_sent, with_block}
use Rattle.mlp_residual.proofs.FrameLaws.{written_back}
use Rattle.mlp_encode.proofs.SentChannels.{codes_in_count}
use Rattle.mlp_encode.proofs.SentSegments.{block_count}
use Rattle.mlp_encode.proofs.blocks.send_block.Goals as goal

-- the last head is another
last_put : (old heads all : List BlockHead) (blank head : BlockHead) (at : ℕ) → heads ≡ old ++ blank ∷ [] → all ≡ heads → at ≡ length old
    → take (length heads) (set all at head ++ drop (length (set all at head)) heads) ≡ old ++ head ∷ []
last_put old heads all blank head at e f g =
    let put : set all at head ≡ old ++ head ∷ [] =
    ap (λ (hs : List BlockHead). set hs at head) (f ∙ e) ∙ ap (λ (n : ℕ). set (old ++ blank ∷ []) n head) g ∙ set-append_seam old blank [] head in
    written_back heads (set all at head) (length-set all at head ∙ ap length f) ∙ put

-- what is put behind all that stands before it
in_place : (a k : ℕ) (xs ys : List FrameCode) → a + k ≡ length xs → take a xs ++ (ys ++ drop k (drop a xs)) ≡ take a xs ++ ys
in_place a k xs ys e =
    let none : drop k (drop a xs) ≡ [] = drop-drop k a xs ∙ drop_all (a + k) xs (omega (arith, e)) in
    ap (λ (zs : List FrameCode). take a xs ++ (ys ++ zs)) none ∙ ap (λ (zs : List FrameCode). take a xs ++ zs) (append-nil ys)

-- codes in the place of those behind the old ones
codes_put : (old codes all sent fresh : List FrameCode) (start : ℕ) → codes ≡ old ++ fresh → all ≡ codes → start ≡ length old → length sent ≡ length fresh
    → (let behind : List FrameCode = take start all ++ (sent ++ drop (length all - start) (drop start all)) in take (length codes) (behind ++ drop (length behind) codes)) ≡ old ++ sent
codes_put old codes all sent fresh start e f g count =
    let whole : all ≡ old ++ fresh = f ∙ e in
    let behind : List FrameCode = take start all ++ (sent ++ drop (length all - start) (drop start all)) in
    let long : start + (length all - start) ≡ length all = omega (arith, g, ap length whole, length-append old fresh) in
    let put : behind ≡ old ++ sent = in_place start (length all - start) all sent long
    ∙ ap (λ (xs : List FrameCode). take start xs ++ sent) whole
    ∙ ap (λ (xs : List FrameCode). xs ++ sent) (take_at old fresh start (sym g)) in
    let same : length behind ≡ length codes = omega (arith, ap length put, length-append old sent, ap length e, length-append old fresh, count) in
    written_back codes behind same ∙ put

-- a segment with other blocks and codes
segment_put : (s : Segment) (bs : ArrayVec BlockHead) (cs : ArrayVec FrameCode) (b : SentBlock) → bs.items ≡ s.blocks.items ++ b.head ∷ [] → cs.items ≡ s.codes.items ++ b.codes → record s { blocks = bs; codes = cs } ≡ with_block b s
segment_put s bs cs b e f =
    ap (λ (xs : List BlockHead). record s { blocks = record { items = xs }; codes = cs }) e
    ∙ ap (λ (xs : List FrameCode). record s { blocks = record { items = s.blocks.items ++ b.head ∷ [] }; codes = record { items = xs } }) f

pub returns-clause-segment : goal.returns-clause-segment
returns-clause-segment c =
    let before : Force = record { state = c.args.state.now; pasts = c.args.pasts.now } in
    let frames = c.args.frames.now in
    let s : Segment = c.args.segment.now in
    let b : SentBlock = block_sent c.args.substream c.args.profile.now c.args.restart before frames in
    let head = last_put s.blocks.items c.push.new.self.items c.as_mut_slice-2.result.now c.default.result c.fill_block.new.head c.len-at.result c.push.ensures.items c.as_mut_slice-2.ensures.value c.len-at.ensures.value
    ∙ ap (λ (h : BlockHead). s.blocks.items ++ h ∷ []) c.fill_block.ensures.head in
    let count = ap length c.fill_block.ensures.codes ∙ block_count c.args.substream c.args.profile.now c.args.restart before frames ∙ sym (codes_in_count [] [] frames) in
    let codes = codes_put s.codes.items c.push_frames.new.codes.items c.as_mut_slice.result.now c.fill_block.new.codes (codes_in [] [] frames) c.len-start.result (c.push_frames.ensures frames refl) c.as_mut_slice.ensures.value c.len-start.ensures.value count
    ∙ ap (λ (cs : List FrameCode). s.codes.items ++ cs) c.fill_block.ensures.codes in
    segment_put s _ _ b head codes
