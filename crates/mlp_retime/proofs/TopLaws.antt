-- What the format of the highest presentation reads, a decoder of that presentation reads.
use Rattle.std.proofs.Common.{◌≡◌, ℕ, ◌<◌, cond, Bool, true, false, List, Ok, Err, Option, Some, None, is_none, refl, sym, ap, ◌∙◌, arith}
use Rattle.std.specs.Prelude.{min, ◌==◌, if◌then◌else◌}
use Rattle.std.proofs.lemmas.Bool.{lt-leb}
use Rattle.std.proofs.lemmas.Bool.Decides.{nat_tests}
use Rattle.mlp_syntax.specs.declared.major.MajorSync.{MajorSync}
use Rattle.mlp_syntax.specs.declared.segment.Segment.{Segment}
use Rattle.mlp_bits.specs.Bits.{bits_of}
use Rattle.mlp_layout.specs.Reading.{Read}
use Rattle.mlp_layout.specs.Contents.{Contents}
use Rattle.mlp_layout.specs.Streams.{then_contents, with_outer}
use Rattle.mlp_unit.specs.AccessUnit.{AccessUnit, in_force, substreams_of}
use Rattle.mlp_walk.specs.declared.refusal.Refusal.TheVariants as refused
use Rattle.mlp_walk.specs.Next.{numbered, gated, next_of}
use Rattle.mlp_contents.specs.Units.{Left, start, whole}
use Rattle.mlp_present.specs.Parts.{Next, outer_read}
use Rattle.mlp_retime.specs.Top.{highest, top}

-- ---- behind a first major sync

-- what of a unit is read by the highest presentation, by the first major sync
abbrev contents_by : Option MajorSync → Left → AccessUnit → Contents (List Segment)
contents_by sync left o = let k = highest (in_force sync o.major) in (whole k).contents (if is_none sync then start k else left) o

pub contents_later : (left : Left) (o : AccessUnit) (sync : Option MajorSync) → left.sync ≡ sync → is_none sync ≡ false → top.contents left o ≡ (whole (highest sync)).contents left o
contents_later left o None e synced = absurd cc
contents_later left o (Some f) e synced = ap (λ (s : Option MajorSync). contents_by s left o) e

then_later : (left : Left) (x : Read AccessUnit) → is_none left.sync ≡ false → then_contents top left x ≡ then_contents (whole (highest left.sync)) left x
then_later left (Err b) synced = refl
then_later left (Ok o) synced =
    ap (λ (c : Contents (List Segment)). with_outer top o (c.read (((whole 0).outer left).spelling o.0))) (contents_later left o.0 left.sync refl synced)

later_by : (number : ℕ) (left : Left) (x : Read AccessUnit) (k : ℕ) (first : Bool) → first ≡ false → is_none left.sync ≡ false → k ≡ highest left.sync
    → gated top (if first then None else None) x (numbered top number (then_contents top left x)) ≡ gated (whole k) (if first then Some k else None) x (numbered (whole k) number (then_contents (whole k) left x))
later_by number left x k true later synced e = absurd cc
later_by number left x k false later synced e =
    ap (numbered top number) (then_later left x synced) ∙ ap (λ (j : ℕ). numbered (whole j) number (then_contents (whole j) left x)) (sym e)

pub same_later : (number : ℕ) (left : Left) (bytes : List ℕ) (k : ℕ) → 0 < number → is_none left.sync ≡ false → k ≡ highest left.sync
    → next_of top None number left bytes ≡ next_of (whole k) (Some k) number left bytes
unfolding next_of
same_later number left bytes k some synced e =
    let later : (number == 0) ≡ false = grind (arith, nat_tests) in
    later_by number left (((whole 0).outer left).read (bits_of bytes) 0) k (number == 0) later synced e

-- ---- the first unit

pub same_first : (bytes : List ℕ) (o : AccessUnit) (end : ℕ) → outer_read false None bytes ≡ Ok (o, end) → 0 < substreams_of o.major
    → next_of top None 0 (start 0) bytes ≡ next_of (whole (highest o.major)) (Some (highest o.major)) 0 (start (highest o.major)) bytes
unfolding next_of
same_first bytes o end e some =
    let k = highest o.major in
    let unit : Next = numbered (whole k) 0 (with_outer (whole k) (o, end) (((whole k).contents (start k) o).read (((whole k).outer (start k)).spelling o))) in
    rw e (sym (ap (λ (c : Bool). cond {A = Next} c (Err (refused.NoPresentation (min 3 (substreams_of o.major)))) unit) (lt-leb (min 3 (substreams_of o.major)) k (omega (arith, some)))))
