use Rattle.std.proofs.Common.{◌≡◌, ◌*◌, ◌-◌, ◌%◌, ◌/◌, ◌≤◌, ℕ, ℤ, List, length, take, Result, OnOk, IfErr, subst, sym}
use Rattle.mlp_fold.specs.declared.profile.Profile.{Profile}
use Rattle.mlp_pcm.specs.Samples.{AreUnpacked, AreUnpackedTo}
use Rattle.mlp_encoding.specs.Pcm.{sample_size, frame_size}
use Rattle.mlp_encoding.specs.Sizes.{sizes}
use Rattle.mlp_encoding.proofs.Parts.{front_few, clear_by, frames_by, padded_by}
use Rattle.mlp_encoding.proofs.part.unpack_part.Goals as goal

-- by the sizes as the code has them
unpacked_at : (p : Profile) (part : List ℕ) (r : Result Unit ℕ) (rows : List (List ℤ)) {w f : ℕ} → w ≡ sample_size p.depth → f ≡ frame_size p
    → OnOk r (AreUnpacked w p.depth p.channels (take (length part - length part % f) part) rows)
    → OnOk r (AreUnpacked (sample_size p.depth) p.depth p.channels (take (length part - length part % frame_size p) part) rows)
unpacked_at p part r rows {w = w} e g h =
    subst (λ (k : ℕ). OnOk r (AreUnpacked k p.depth p.channels (take (length part - length part % frame_size p) part) rows)) e
    (subst (λ (k : ℕ). OnOk r (AreUnpacked w p.depth p.channels (take (length part - length part % k) part) rows)) g h)

unpacked_to : (p : Profile) (part : List ℕ) (r : Result Unit ℕ) (rows : List (List ℤ)) {w f : ℕ} → w ≡ sample_size p.depth → f ≡ frame_size p
    → IfErr r (AreUnpackedTo w p.depth p.channels (take (length part - length part % f) part) rows)
    → IfErr r (AreUnpackedTo (sample_size p.depth) p.depth p.channels (take (length part - length part % frame_size p) part) rows)
unpacked_to p part r rows {w = w} e g h =
    subst (λ (k : ℕ). IfErr r (AreUnpackedTo k p.depth p.channels (take (length part - length part % frame_size p) part) rows)) e
    (subst (λ (k : ℕ). IfErr r (AreUnpackedTo w p.depth p.channels (take (length part - length part % k) part) rows)) g h)

pub unpack-requires-clause-few : goal.unpack-requires-clause-few
unpack-requires-clause-few c =
    let p = c.args.profile.now in
    let part = c.args.part.now in
    subst (λ (f : ℕ). length (take (length part - length part % f) part) / (p.channels * c.sample_size.result) ≤ 160) (sym c.frame_size.ensures)
    (subst (λ (w : ℕ). length (take (length part - length part % frame_size p) part) / (p.channels * w) ≤ 160) (sym c.sample_size.ensures)
    (front_few p (sizes p c.requires.passes) part c.requires.most))

pub returns-clause-clear : goal.returns-clause-clear
returns-clause-clear c =
    let p = c.args.profile.now in
    let part = c.args.part.now in
    clear_by p (sizes p c.requires.passes) part c.unpack.result c.unpack.new.out.rows.items (unpacked_at p part c.unpack.result c.unpack.new.out.rows.items c.sample_size.ensures c.frame_size.ensures c.unpack.ensures.ok)

pub returns-clause-frames : goal.returns-clause-frames
returns-clause-frames c =
    let p = c.args.profile.now in
    let part = c.args.part.now in
    frames_by p (sizes p c.requires.passes) part c.unpack.result c.unpack.new.out.rows.items (unpacked_at p part c.unpack.result c.unpack.new.out.rows.items c.sample_size.ensures c.frame_size.ensures c.unpack.ensures.ok)

pub returns-clause-padded : goal.returns-clause-padded
returns-clause-padded c =
    let p = c.args.profile.now in
    let part = c.args.part.now in
    padded_by p (sizes p c.requires.passes) part c.unpack.result c.unpack.new.out.rows.items (unpacked_to p part c.unpack.result c.unpack.new.out.rows.items c.sample_size.ensures c.frame_size.ensures c.unpack.ensures.err)
