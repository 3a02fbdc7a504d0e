use Rattle.std.proofs.Common.{◌≡◌, ◌-◌, ◌∙◌, ℕ, Bool, List, take, map, length, Option, Some, None, sym, ap, subst}
use Rattle.std.specs.Prelude.{if◌then◌else◌}
use Rattle.std.specs.List.{range_with_len}
use Rattle.mlp_fold.specs.Substreams.{substreams_of}
use Rattle.mlp_fold.specs.declared.coding.CodedFrame.{CodedFrame}
use Rattle.mlp_encode.specs.Numbers.{has_sync}
use Rattle.mlp_encode.specs.Lawful.{AreCodedBy, IsEnd}
use Rattle.mlp_encode.specs.Unit.{filled, end_word, terminator_of, check_with}
use Rattle.mlp_encode.proofs.SyncAllowed.{passes}
use Rattle.mlp_encode.proofs.SentStarts.{mixed_there}
use Rattle.mlp_encode.proofs.FramesCoded.{coded_by}
use Rattle.mlp_encode.proofs.FramesFilled.{filled_samples, filled_count}
use Rattle.mlp_encode.proofs.SentCodes.{map_equal}
use Rattle.mlp_encode.proofs.SilentChecks.{checks_filled}
use Rattle.mlp_encode.proofs.Ends.{end_is}
use Rattle.mlp_encode.proofs.UnitMade.{made}
use Rattle.mlp_encode.proofs.progress.make_unit.Goals as goal

pub code_unit-requires-clause-profile : goal.code_unit-requires-clause-profile
code_unit-requires-clause-profile c = let p = c.args.progress.now.profile in mixed_there p (passes p c.requires.progress.going.profile)

pub send_substreams-requires-clause-frames : goal.send_substreams-requires-clause-frames
send_substreams-requires-clause-frames c =
    let p = c.args.progress.now.profile in
    let rows = c.args.rows.now in
    let a = c.requires.frames in
    subst (λ (cs : List CodedFrame). AreCodedBy p cs) (sym c.code_unit.ensures)
    (coded_by p (filled p rows) (mixed_there p (passes p c.requires.progress.going.profile)) (filled_samples p rows c.args.last a) (filled_count p rows c.args.last a))

pub send_substreams-requires-clause-end : goal.send_substreams-requires-clause-end
send_substreams-requires-clause-end c =
    let p = c.args.progress.now.profile in
    let end : c.terminator_of.result ≡ terminator_of p (length c.args.rows.now) c.args.last =
    c.terminator_of.ensures ∙ ap (λ (all : ℕ). if c.args.last then Some (end_word p.kind (all - length c.args.rows.now)) else None) c.unit_frames-all.ensures.is in
    subst (λ (t : Option ℕ). IsEnd p t) (sym end) (end_is p (length c.args.rows.now) c.args.last)

pub checks_behind-requires-clause-shape : goal.checks_behind-requires-clause-shape
checks_behind-requires-clause-shape c = let p = c.args.progress.now.profile in mixed_there p (passes p c.requires.progress.going.profile)

pub returns : goal.returns
returns c =
    let x = c.args.progress.now in
    let p = x.profile in
    let rows = c.args.rows.now in
    let end : c.terminator_of.result ≡ terminator_of p (length rows) c.args.last =
    c.terminator_of.ensures ∙ ap (λ (all : ℕ). if c.args.last then Some (end_word p.kind (all - length rows)) else None) c.unit_frames-all.ensures.is in
    let w = c.send_substreams.new in
    let m = substreams_of p.channels in
    let checks = c.checks_behind.ensures
    ∙ ap (λ (b : Bool). map (check_with p b x.checks rows) (range_with_len 0 m)) c.has_sync-major.ensures
    ∙ map_equal (check_with p (has_sync x.units) x.checks rows) (check_with p (has_sync x.units) x.checks (filled p rows)) (range_with_len 0 m) (checks_filled p (has_sync x.units) x.checks rows) in
    made x rows c.args.last c.requires.progress w.sending w.writing w.pasts c.checks_behind.new.checks w.out.entries.items w.out.bytes.items
    (take c.from-count.result c.code_unit.new.coding) c.terminator_of.result c.code_unit.ensures end
    c.send_substreams.ensures.sent c.send_substreams.ensures.whole c.send_substreams.ensures.same c.send_substreams.ensures.next c.law_pasts.ensures checks
