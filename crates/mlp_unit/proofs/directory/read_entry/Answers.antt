use Rattle.std.proofs.Common.{◌≡◌, ◌/◌, eqb, Bool, List, ℕ, Option, Ok, Err, subst, ◌∙◌, arith}
use Rattle.mlp_layout.specs.Reading.{Read}
use Rattle.mlp_layout.specs.Layout.{number_of}
use Rattle.mlp_layout.specs.Combined.{present}
use Rattle.mlp_unit.proofs.WordReading.{entry_short, entry_read, extra_short}
use Rattle.mlp_unit.proofs.directory.read_entry.Goals as goal

pub returns-in_default : goal.returns-in_default
returns-in_default c = rw (c.broken.ensures, c.place-at.ensures.value) (entry_short c.args.r.now.all c.args.r.now.place c.place-at.ensures.within c.in_default.field-0 c.in_default.ensures.read)

abbrev ExtraIs : List Bool → ℕ → ℕ → Read (Option ℕ) → Type 0
ExtraIs all place word x = (present (eqb (word / 32768) 1) (number_of 16)).read all place ≡ x

pub returns-in_default-read_extra : goal.returns-in_default-read_extra
returns-in_default-read_extra c =
    let r = c.args.r.now in
    let w = c.in-Ok.ensures.read in
    let e = c.in_default-read_extra.field-0 in
    let h : ExtraIs r.all c.word.new.r.place c.in-Ok.first (Err e) = subst (λ (all : List Bool). ExtraIs all c.word.new.r.place c.in-Ok.first (Err e)) w.1 c.in_default-read_extra.ensures in
    rw (c.broken-in_default-read_extra.ensures, c.place-at.ensures.value) (extra_short r.all r.place c.place-at.ensures.within c.in-Ok.first c.word.new.r.place w.0 e h)

pub returns : goal.returns
returns c =
    let r = c.args.r.now in
    let w = c.in-Ok.ensures.read in
    let x = c.in-Ok-read_extra.ensures in
    let b = c.read_extra.new.r.place in
    let h : ExtraIs r.all c.word.new.r.place c.in-Ok.first (Ok (c.in-Ok-read_extra.extra, b)) = subst (λ (all : List Bool). ExtraIs all c.word.new.r.place c.in-Ok.first (Ok (c.in-Ok-read_extra.extra, b))) w.1 x.0 in
    (entry_read r.all r.place c.place-at.ensures.within c.in-Ok.first c.word.new.r.place w.0 c.in-Ok-read_extra.extra b h, x.1 ∙ w.1, omega (arith, w.2, x.2))
