-- A stream for the highest presentation is one of its own format.
use Rattle.std.proofs.Common.{◌≡◌, ℕ, ◌+◌, Bool, false, List, [], ◌∷◌, Ok, Option, Some, None, is_none, refl, sym, ap, subst, ◌∙◌, arith}
use Rattle.std.specs.Prelude.{min, if◌then◌else◌}
use Rattle.mlp_syntax.specs.declared.major.MajorSync.{MajorSync}
use Rattle.mlp_syntax.specs.declared.segment.Segment.{Segment}
use Rattle.mlp_layout.specs.Reading.{Read}
use Rattle.mlp_layout.specs.Contents.{Contents, FoundIn}
use Rattle.mlp_layout.specs.Streams.{IsNext, spelling_of, rest_of, Begins, Units, Has, Stream}
use Rattle.mlp_unit.specs.AccessUnit.{AccessUnit, in_force, substreams_of}
use Rattle.mlp_contents.specs.Units.{Left, Unit_of, start, whole, after}
use Rattle.mlp_contents.proofs.FormatLaws.{whole_is}
use Rattle.mlp_retime.specs.Top.{highest, top}
use Rattle.mlp_retime.proofs.Decoders.{in_force_kept}
use Rattle.mlp_retime.proofs.TopLaws.{contents_later}

after_by : Option MajorSync → Left → Unit_of → Left
after_by sync left u = let k = highest (in_force sync u.outer.major) in after k (if is_none sync then start k else left) u

pub after_later : (left : Left) (u : Unit_of) (sync : Option MajorSync) → left.sync ≡ sync → is_none sync ≡ false → top.after left u ≡ after (highest sync) left u
unfolding after_by
after_later left u None e synced = absurd cc
after_later left u (Some f) e synced = ap (λ (s : Option MajorSync). after_by s left u) e

pub sync_after : (k : ℕ) (left : Left) (u : Unit_of) → is_none left.sync ≡ false → (after k left u).sync ≡ left.sync
unfolding after
sync_after k left u synced = in_force_kept left.sync u.outer.major synced

module _ (k : ℕ) where
  next_later : (left : Left) (all : List Bool) (u : Unit_of) → is_none left.sync ≡ false → k ≡ highest left.sync → IsNext (whole k) left all u → IsNext top left all u
  next_later left all u synced e next =
      let same : (whole k).contents left u.outer ≡ top.contents left u.outer =
      ap (λ (j : ℕ). (whole j).contents left u.outer) e ∙ sym (contents_later left u.outer left.sync refl synced) in
      record { outer = next.outer; contents = subst (λ (c : Contents (List Segment)). FoundIn c (spelling_of top left u) u.contents) same next.contents }

  pub begins_later : (left : Left) (all : List Bool) (us : List Unit_of) (rest : List Bool) → is_none left.sync ≡ false → k ≡ highest left.sync → Begins (whole k) left all us rest → Begins top left all us rest
  unfolding Begins
  begins_later left all [] rest synced e b = b
  begins_later left all (u ∷ us) rest synced e b =
      let kept = sync_after k left u synced in
      let same : after k left u ≡ top.after left u = ap (λ (j : ℕ). after j left u) e ∙ sym (after_later left u left.sync refl synced) in
      let there : is_none (after k left u).sync ≡ false = ap (λ (s : Option MajorSync). is_none s) kept ∙ synced in
      let on = begins_later (after k left u) (rest_of top left all u) us rest there (e ∙ ap highest (sym kept)) b.1 in (
        next_later left all u synced e b.0,
        subst (λ (l : Left). Begins top l (rest_of top left all u) us rest) same on,
      )

  -- the first unit tells it

  pub some_sync : (major : Option MajorSync) → min 3 (substreams_of major) ≡ k + 1 → (highest major ≡ k) × (is_none major ≡ false)
  some_sync None e = absurd (omega (arith, e))
  some_sync (Some m) e = (omega (arith, e), refl)

  first_sync : (u : Unit_of) → (after k (start k) u).sync ≡ u.outer.major
  unfolding after
  first_sync u = refl

  read_ok : AccessUnit × ℕ → Read AccessUnit
  read_ok x = Ok x

  one_read : (x y : AccessUnit × ℕ) → read_ok x ≡ read_ok y → x ≡ y
  unfolding read_ok
  one_read x y e = cc

  pub first_told : (all : List Bool) (u : Unit_of) → Has (whole k) (start k) all (k + 1) → IsNext (whole k) (start k) all u → (highest u.outer.major ≡ k) × (is_none u.outer.major ≡ false)
  unfolding read_ok
  first_told all u (o, found, told) next =
      let is = (whole_is k).outer_is (start k) in
      let same : o ≡ u.outer = ap (λ (x : AccessUnit × ℕ). x.0) (one_read _ _ (sym (is.found all 0 o found) ∙ is.found all 0 u.outer next.outer)) in
      some_sync u.outer.major (ap (λ (p : AccessUnit). min 3 (substreams_of p.major)) (sym same) ∙ told)

  units_top : (all : List Bool) (us : List Unit_of) → Has (whole k) (start k) all (k + 1) → Begins (whole k) (start k) all us [] → Begins top (start 0) all us []
  unfolding Begins
  units_top all [] has b = b
  units_top all (u ∷ vs) has b =
      let t = first_told all u has b.0 in
      let contents : (whole k).contents (start k) u.outer ≡ top.contents (start 0) u.outer = ap (λ (j : ℕ). (whole j).contents (start j) u.outer) (sym t.0) in
      let behind : after k (start k) u ≡ top.after (start 0) u = ap (λ (j : ℕ). after j (start j) u) (sym t.0) in
      let rest = rest_of (whole k) (start k) all u in
      let sync = first_sync u in
      let there : is_none (after k (start k) u).sync ≡ false = ap (λ (s : Option MajorSync). is_none s) sync ∙ t.1 in
      let on = begins_later (after k (start k) u) rest vs [] there (sym t.0 ∙ ap highest (sym sync)) b.1 in (
        record { outer = b.0.outer; contents = subst (λ (c : Contents (List Segment)). FoundIn c (spelling_of (whole k) (start k) u) u.contents) contents b.0.contents },
        subst (λ (l : Left). Begins top l rest vs []) behind on,
      )

  pub stream_top : (all : List Bool) (us : List Unit_of) → Has (whole k) (start k) all (k + 1) → Stream (whole k) (start k) k all us → Units top (start 0) all us
  stream_top all us has stream = record { begins = units_top all us has stream.units.begins; some = stream.units.some }
