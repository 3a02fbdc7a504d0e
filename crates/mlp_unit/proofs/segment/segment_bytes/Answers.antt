use Rattle.std.proofs.Common.{◌≡◌, ◌+◌, ◌*◌, ℕ, List, ap, ◌∙◌, arith}
use Rattle.mlp_syntax.specs.declared.unit.DirEntry.{DirEntry}
use Rattle.mlp_unit.specs.Shape.{end_at, end_before}
use Rattle.mlp_unit.proofs.SegmentPlaces.{segment_place, segment_text}
use Rattle.mlp_unit.proofs.segment.segment_bytes.Goals as goal

pub part-requires-clause-rising : goal.part-requires-clause-rising
part-requires-clause-rising c =
    let j = c.args.substream in
    let es = c.args.outer.now.entries.items in
    let start : c.from.result ≡ end_before es j = c.from.ensures ∙ c.end_before.ensures ∙ ap (λ (xs : List DirEntry). end_before xs j) c.deref.ensures.0 in
    let end : c.from-2.result ≡ end_at es j = c.from-2.ensures ∙ c.end_at.ensures ∙ ap (λ (xs : List DirEntry). end_at xs j) c.deref-2.ensures.0 in
    omega (arith, start, end, segment_place c.args.unit.now c.args.outer.now j c.requires.inside c.requires.exists)

pub part-requires-clause-inside : goal.part-requires-clause-inside
part-requires-clause-inside c =
    let j = c.args.substream in
    let es = c.args.outer.now.entries.items in
    let end : c.from-2.result ≡ end_at es j = c.from-2.ensures ∙ c.end_at.ensures ∙ ap (λ (xs : List DirEntry). end_at xs j) c.deref-2.ensures.0 in
    omega (arith, end, segment_place c.args.unit.now c.args.outer.now j c.requires.inside c.requires.exists)

pub returns : goal.returns
returns c =
    let j = c.args.substream in
    let es = c.args.outer.now.entries.items in
    let body = c.args.outer.now.body in
    let start : c.from.result ≡ end_before es j = c.from.ensures ∙ c.end_before.ensures ∙ ap (λ (xs : List DirEntry). end_before xs j) c.deref.ensures.0 in
    let end : c.from-2.result ≡ end_at es j = c.from-2.ensures ∙ c.end_at.ensures ∙ ap (λ (xs : List DirEntry). end_at xs j) c.deref-2.ensures.0 in
    segment_text c.args.unit.now c.part.result.now c.args.outer.now j _ _ c.requires.inside c.requires.exists (ap (λ (n : ℕ). body + 2 * n) start) (ap (λ (n : ℕ). body + 2 * n) end) c.part.ensures
