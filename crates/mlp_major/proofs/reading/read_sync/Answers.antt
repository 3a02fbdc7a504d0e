use Rattle.std.proofs.Common.{◌≡◌, ◌-◌, ◌/◌, false, true, length, take, drop, ap, sym, subst, ◌∙◌, arith}
use Rattle.std.proofs.lemmas.List.{length-take, length-drop}
use Rattle.std.specs.Option.{option_copied}
use Rattle.mlp_bits.specs.Bits.{number}
use Rattle.mlp_bits.proofs.BitLists.{length-bits_of}
use Rattle.mlp_layout.specs.Reading.{Read, Gives}
use Rattle.mlp_syntax.specs.declared.major.MajorSync.{MajorSync}
use Rattle.mlp_major.specs.MajorSync.{is_same_kind}
use Rattle.mlp_major.proofs.SyncReading.{bits_at, other_kind, same_kind}
use Rattle.mlp_major.proofs.reading.read_sync.Goals as goal

pub first_word-requires-clause-high : goal.first_word-requires-clause-high
first_word-requires-clause-high c = omega (
  arith,
  c.place-at.ensures.small,
  length-bits_of c.args.bytes.now,
  ap length c.requires.same,
  length-take
      (length c.args.bytes.now - c.place-at.result / 8) (drop (c.place-at.result / 8) c.args.bytes.now),
  length-drop (c.place-at.result / 8) c.args.bytes.now,
)

pub returns-then-not-is_same_kind-clause-read : goal.returns-then-not-is_same_kind-clause-read
returns-then-not-is_same_kind-clause-read c =
    let first = option_copied c.args.first in
    let word : c.first_word.result ≡ number (take 32 (drop c.args.r.now.place c.args.r.now.all)) =
    bits_at 32 c.first_word.result c.args.bytes.now c.args.r.now c.place-at.result c.requires.same c.requires.whole c.place-at.ensures.value c.first_word.ensures in
    let not : is_same_kind first (number (take 32 (drop c.args.r.now.place c.args.r.now.all))) ≡ false = ap (is_same_kind first) (sym word) ∙ sym c.is_same_kind.ensures ∙ c.if-not-is_same_kind.true in
    rw (c.broken.ensures, c.place-at.ensures.value) (other_kind first c.args.r.now.all c.args.r.now.place not)

pub returns-clause-read : goal.returns-clause-read
returns-clause-read c =
    let first = option_copied c.args.first in
    let word : c.first_word.result ≡ number (take 32 (drop c.args.r.now.place c.args.r.now.all)) =
    bits_at 32 c.first_word.result c.args.bytes.now c.args.r.now c.place-at.result c.requires.same c.requires.whole c.place-at.ensures.value c.first_word.ensures in
    let is : is_same_kind first (number (take 32 (drop c.args.r.now.place c.args.r.now.all))) ≡ true = ap (is_same_kind first) (sym word) ∙ sym c.is_same_kind.ensures ∙ c.if-not-is_same_kind.false in
    subst (λ (y : Read MajorSync). Gives (λ (m : MajorSync). m) c.args.r.now c.read_judged.new.r c.read_judged.result y) (sym (same_kind first c.args.r.now.all c.args.r.now.place is)) c.read_judged.ensures.read
