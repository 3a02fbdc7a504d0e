use Rattle.std.proofs.Common.{◌≡◌, ◌-◌, ◌∙◌, ℕ, true, Option, Some, List, [], take, drop, length, sym, ap, subst, arith}
use Rattle.std.proofs.lemmas.List.{take_all, length-drop, length-take-le}
use Rattle.mlp_syntax.specs.declared.restart.Restart.{Restart}
use Rattle.mlp_syntax.specs.declared.segment.Segment.{Segment}
use Rattle.mlp_params.specs.declared.state.State.{State}
use Rattle.mlp_params.specs.InForce.{in_force}
use Rattle.mlp_predict.specs.Prediction.{Past}
use Rattle.mlp_fifo.specs.Pace.{unit_of}
use Rattle.mlp_fold.specs.declared.profile.Profile.{Profile}
use Rattle.mlp_fold.specs.declared.coding.CodedFrame.{CodedFrame}
use Rattle.mlp_encode.specs.Blocks.{Force, block_sent, with_block}
use Rattle.mlp_encode.specs.Lawful.{IsSendable, IsInForce, SendsSegment}
use Rattle.mlp_encode.proofs.SentChannels.{first_last}
use Rattle.mlp_encode.proofs.SentSegments.{block_count, Part, part_first, part_later, later_sendable, fresh_sendable, behind_in_force, restart_is}
use Rattle.mlp_encode.proofs.segments.send_restarted.Goals as goal

some_is : (x y : State) (o : Option State) → o ≡ Some x → o ≡ Some y → x ≡ y
some_is x y o e f = cc

-- the frames behind the first eight
later_all : (frames : List CodedFrame) → take (length frames - 8) (drop 8 frames) ≡ drop 8 frames
later_all frames = take_all (length frames - 8) (drop 8 frames) (omega (arith, length-drop 8 frames))

-- what the restart puts in force
begun : (p : Profile) (r : Restart) (n : ℕ) (s : State) (o : Option State) → n ≡ unit_of p.rate → o ≡ Some s → o ≡ Some (in_force p.kind n r []) → s ≡ in_force p.kind (unit_of p.rate) r []
begun p r n s o e there is = some_is s (in_force p.kind n r []) o there is ∙ ap (λ (m : ℕ). in_force p.kind m r []) e

-- the first block can be sent
first_block : (p : Profile) (j : ℕ) (r : Restart) (frames : List CodedFrame) (state s : Option State) (x : State) → SendsSegment p j (Some r) state frames → s ≡ Some x
    → s ≡ Some (in_force p.kind (length frames) r []) → IsSendable j p true x (take 8 frames)
first_block p j r frames state s x h there is =
    let le = first_last j h.which in
    subst (λ (y : State). IsSendable j p true y (take 8 frames)) (sym (begun p r (length frames) x s h.frames.count there is))
    (fresh_sendable p j (take 8 frames) h.which h.shape h.top (part_first p frames h.frames) r (omega (arith, le, h.restarts.min, h.restarts.max)) h.restarts)

pub send_block-requires-clause-sendable : goal.send_block-requires-clause-sendable
send_block-requires-clause-sendable c =
    first_block c.args.profile.now c.args.substream c.args.restart c.args.frames.now c.args.state.now c.begin.new.state c.in-Some.state c.requires.sends c.in-Some.is c.begin.ensures

pub send_block-requires-2-clause-room : goal.send_block-requires-2-clause-room
send_block-requires-2-clause-room c =
    let before : Force = record { state = c.in-Some.state; pasts = c.reset_pasts.new.pasts } in
    let frames = c.args.frames.now in
    let b = block_sent c.args.substream c.args.profile.now (Some c.args.restart) before (take 8 frames) in
    let whole = ap (λ (s : Segment). length s.codes.items) (c.send_block.ensures.segment ∙ ap (λ (s : Segment). with_block b s) c.requires.empty) in
    let first = block_count c.args.substream c.args.profile.now (Some c.args.restart) before (take 8 frames) in
    let eight = length-take-le 8 frames (omega (arith, c.requires.least)) in
    let later = ap (λ (fs : List CodedFrame). length fs) (later_all frames) ∙ length-drop 8 frames in
    omega (arith, whole, first, eight, later, c.requires.least, c.requires.most)

pub send_block-requires-2-clause-sendable : goal.send_block-requires-2-clause-sendable
send_block-requires-2-clause-sendable c =
    let h = c.requires.sends in
    let j = c.args.substream in
    let p = c.args.profile.now in
    let frames = c.args.frames.now in
    let before : Force = record { state = c.in-Some.state; pasts = c.reset_pasts.new.pasts } in
    let leaves = behind_in_force j p (Some c.args.restart) before (take 8 frames) (first_block p j c.args.restart frames c.args.state.now c.begin.new.state c.in-Some.state h c.in-Some.is c.begin.ensures) in
    let part = subst (λ (fs : List CodedFrame). Part p fs) (sym (later_all frames)) (part_later p frames h.frames) in
    later_sendable p j (take (length frames - 8) (drop 8 frames)) h.which h.shape h.top part c.send_block.new.state (subst (λ (s : State). IsInForce p j s) (sym c.send_block.ensures.state) leaves)

pub returns : goal.returns
returns c =
    let j = c.args.substream in
    let p = c.args.profile.now in
    let before1 : Force = record { state = c.in-Some.state; pasts = c.reset_pasts.new.pasts } in
    let before2 : Force = record { state = c.send_block.new.state; pasts = c.send_block.new.pasts } in
    let start = begun p c.args.restart (length c.args.frames.now) c.in-Some.state c.begin.new.state c.requires.sends.frames.count c.in-Some.is c.begin.ensures in
    restart_is j p c.args.restart c.args.pasts.now c.args.frames.now (take (length c.args.frames.now - 8) (drop 8 c.args.frames.now)) c.args.segment.now.terminator before1 before2
    c.args.segment.now c.send_block.new.segment c.send_block-2.new.segment c.send_block-2.new.state c.send_block-2.new.pasts
    (ap (λ (s : State). let b : Force = record { state = s; pasts = c.reset_pasts.new.pasts } in b) start
    ∙ ap (λ (ps : List Past). let b : Force = record { state = in_force p.kind (unit_of p.rate) c.args.restart []; pasts = ps } in b) c.reset_pasts.ensures)
    (later_all c.args.frames.now) c.requires.empty c.send_block.ensures.segment
    (ap (λ (s : State). let b : Force = record { state = s; pasts = c.send_block.new.pasts } in b) c.send_block.ensures.state
    ∙ ap (λ (ps : List Past). let b : Force = record { state = (block_sent j p (Some c.args.restart) before1 (take 8 c.args.frames.now)).behind.state; pasts = ps } in b) c.send_block.ensures.pasts)
    c.send_block-2.ensures.segment c.send_block-2.ensures.state c.send_block-2.ensures.pasts
