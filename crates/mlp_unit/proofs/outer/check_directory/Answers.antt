use Rattle.std.proofs.lemmas.List.{length-take}
use Rattle.std.proofs.lemmas.Bool.{ne_eqb}
use Rattle.std.proofs.Common.{◌≡◌, eqb, false, ◌-◌, ◌++◌, ℕ, List, Option, take, drop, Some, None, ap, sym, ◌∙◌, arith, refl}
use Rattle.std.specs.Option.{option_copied}
use Rattle.mlp_unit.proofs.UnitReading.{framed_small}
use Rattle.mlp_unit.proofs.DirectoryRules.{seen_parts, faults_are, extra_is, flag_is, end_is}
use Rattle.mlp_bits.specs.Checks.{nibble_parity_of}
use Rattle.mlp_unit.specs.AccessUnit.{stream_kind, parity_of}
use Rattle.mlp_unit.specs.Shape.{unit_of}
use Rattle.mlp_syntax.specs.declared.major.MajorSync.{MajorSync}
use Rattle.mlp_syntax.specs.declared.unit.DirEntry.{DirEntry}
use Rattle.mlp_syntax.specs.declared.unit.Outer.{Outer}
use Rattle.mlp_syntax.specs.declared.unit.UnitHead.{UnitHead}
use Rattle.mlp_unit.proofs.outer.check_directory.Goals as goal

abbrev as_outer : UnitHead → Option MajorSync → List DirEntry → ℕ → Outer
as_outer head major entries body = record { head = head; major = major; entries = record { items = entries }; body = body }

pub overflow_mul-start : goal.overflow_mul-start
overflow_mul-start c =
    let s = seen_parts (option_copied c.args.first) c.args.unit.now (as_outer c.args.head c.args.major.now c.args.entries.now c.args.body) (λ i. omega (arith, c.type_inv.unit i)) c.requires.read c.requires.body in
    omega (arith, s.inside, s.start, framed_small c.args.unit.now _ c.requires.framed, c.directory_start-start.ensures)

pub first_extra_word-requires-clause-place : goal.first_extra_word-requires-clause-place
first_extra_word-requires-clause-place c =
    let s = seen_parts (option_copied c.args.first) c.args.unit.now (as_outer c.args.head c.args.major.now c.args.entries.now c.args.body) (λ i. omega (arith, c.type_inv.unit i)) c.requires.read c.requires.body in
    omega (arith, s.inside, s.start, framed_small c.args.unit.now _ c.requires.framed, c.directory_start-start.ensures)

pub slice_bounds-nibble_parity-end : goal.slice_bounds-nibble_parity-end
slice_bounds-nibble_parity-end c =
    let s = seen_parts (option_copied c.args.first) c.args.unit.now (as_outer c.args.head c.args.major.now c.args.entries.now c.args.body) (λ i. omega (arith, c.type_inv.unit i)) c.requires.read c.requires.body in
    omega (arith, s.inside, s.start, length-take 4 c.args.unit.now)

pub slice_bounds-nibble_parity-end-2 : goal.slice_bounds-nibble_parity-end-2
slice_bounds-nibble_parity-end-2 c =
    let s = seen_parts (option_copied c.args.first) c.args.unit.now (as_outer c.args.head c.args.major.now c.args.entries.now c.args.body) (λ i. omega (arith, c.type_inv.unit i)) c.requires.read c.requires.body in
    omega (arith, s.inside, s.start, c.directory_start-start.ensures)

pub returns-then-nibble_parity-ne15 : goal.returns-then-nibble_parity-ne15
returns-then-nibble_parity-ne15 c =
    let s = seen_parts (option_copied c.args.first) c.args.unit.now (as_outer c.args.head c.args.major.now c.args.entries.now c.args.body) (λ i. omega (arith, c.type_inv.unit i)) c.requires.read c.requires.body in
    let first = option_copied c.args.first in
    let kind = c.stream_kind-kind.ensures ∙ ap stream_kind c.in_force.ensures in
    let extra = extra_is c.args.unit.now
    (as_outer c.args.head c.args.major.now c.args.entries.now c.args.body) c.directory_start-start.result c.directory_start-start.ensures c.args.entries.now refl first c.stream_kind-kind.result None kind c.in_default.ensures.first in
    let parity : c.nibble_parity.result ≡ parity_of c.args.head c.args.entries.now = c.nibble_parity.ensures
    ∙ ap (λ (n : ℕ). nibble_parity_of (take 4 c.args.unit.now ++ take (c.args.body - n) (drop n c.args.unit.now))) c.directory_start-start.ensures ∙ sym s.parity in
    let differs : eqb c.nibble_parity.result 15 ≡ false = ne_eqb c.nibble_parity.result 15 c.if-nibble_parity-ne15.true in
    rw c.broken-then-nibble_parity-ne15.ensures (faults_are first (unit_of c.args.unit.now c.args.head c.args.major.now c.args.entries.now c.args.body) None c.nibble_parity.result _ _ extra parity refl refl ∙ rw differs refl)

pub overflow_mul-start-2 : goal.overflow_mul-start-2
overflow_mul-start-2 c =
    let s = seen_parts (option_copied c.args.first) c.args.unit.now (as_outer c.args.head c.args.major.now c.args.entries.now c.args.body) (λ i. omega (arith, c.type_inv.unit i)) c.requires.read c.requires.body in
    omega (arith, s.inside, s.start, framed_small c.args.unit.now _ c.requires.framed, c.directory_start-start.ensures)

pub first_restart_flag-requires-clause-place : goal.first_restart_flag-requires-clause-place
first_restart_flag-requires-clause-place c =
    let s = seen_parts (option_copied c.args.first) c.args.unit.now (as_outer c.args.head c.args.major.now c.args.entries.now c.args.body) (λ i. omega (arith, c.type_inv.unit i)) c.requires.read c.requires.body in
    omega (arith, s.inside, s.start, framed_small c.args.unit.now _ c.requires.framed, c.directory_start-start.ensures)

pub returns-in-Some-first_restart_flag : goal.returns-in-Some-first_restart_flag
returns-in-Some-first_restart_flag c =
    let s = seen_parts (option_copied c.args.first) c.args.unit.now (as_outer c.args.head c.args.major.now c.args.entries.now c.args.body) (λ i. omega (arith, c.type_inv.unit i)) c.requires.read c.requires.body in
    let first = option_copied c.args.first in
    let kind = c.stream_kind-kind.ensures ∙ ap stream_kind c.in_force.ensures in
    let extra = extra_is c.args.unit.now
    (as_outer c.args.head c.args.major.now c.args.entries.now c.args.body) c.directory_start-start.result c.directory_start-start.ensures c.args.entries.now refl first c.stream_kind-kind.result None kind c.in_default.ensures.first in
    let parity : c.nibble_parity.result ≡ parity_of c.args.head c.args.entries.now = c.nibble_parity.ensures
    ∙ ap (λ (n : ℕ). nibble_parity_of (take 4 c.args.unit.now ++ take (c.args.body - n) (drop n c.args.unit.now))) c.directory_start-start.ensures ∙ sym s.parity in
    let flag = flag_is c.args.unit.now (as_outer c.args.head c.args.major.now c.args.entries.now c.args.body) c.directory_start-start.result c.directory_start-start.ensures c.args.entries.now refl c.is_some.result
    (Some c.in-Some-first_restart_flag.place) c.is_some.ensures c.in-Some-first_restart_flag.ensures.first in
    rw c.broken-in-Some-first_restart_flag.ensures (faults_are first (unit_of c.args.unit.now c.args.head c.args.major.now c.args.entries.now c.args.body) None c.nibble_parity.result
    (Some c.in-Some-first_restart_flag.place) _ extra parity flag refl ∙ rw c.if-nibble_parity-ne15.false refl)

pub overflow_sub-last : goal.overflow_sub-last
overflow_sub-last c =
    let s = seen_parts (option_copied c.args.first) c.args.unit.now (as_outer c.args.head c.args.major.now c.args.entries.now c.args.body) (λ i. omega (arith, c.type_inv.unit i)) c.requires.read c.requires.body in
    s.inside

pub overflow_mul-start-3 : goal.overflow_mul-start-3
overflow_mul-start-3 c =
    let s = seen_parts (option_copied c.args.first) c.args.unit.now (as_outer c.args.head c.args.major.now c.args.entries.now c.args.body) (λ i. omega (arith, c.type_inv.unit i)) c.requires.read c.requires.body in
    omega (arith, s.inside, s.start, framed_small c.args.unit.now _ c.requires.framed, c.directory_start-start.ensures)

pub first_bad_end-requires-clause-place : goal.first_bad_end-requires-clause-place
first_bad_end-requires-clause-place c =
    let s = seen_parts (option_copied c.args.first) c.args.unit.now (as_outer c.args.head c.args.major.now c.args.entries.now c.args.body) (λ i. omega (arith, c.type_inv.unit i)) c.requires.read c.requires.body in
    omega (arith, s.inside, s.start, framed_small c.args.unit.now _ c.requires.framed, c.directory_start-start.ensures)

pub returns-in-Some-first_bad_end : goal.returns-in-Some-first_bad_end
returns-in-Some-first_bad_end c =
    let s = seen_parts (option_copied c.args.first) c.args.unit.now (as_outer c.args.head c.args.major.now c.args.entries.now c.args.body) (λ i. omega (arith, c.type_inv.unit i)) c.requires.read c.requires.body in
    let first = option_copied c.args.first in
    let kind = c.stream_kind-kind.ensures ∙ ap stream_kind c.in_force.ensures in
    let extra = extra_is c.args.unit.now
    (as_outer c.args.head c.args.major.now c.args.entries.now c.args.body) c.directory_start-start.result c.directory_start-start.ensures c.args.entries.now refl first c.stream_kind-kind.result None kind c.in_default.ensures.first in
    let parity : c.nibble_parity.result ≡ parity_of c.args.head c.args.entries.now = c.nibble_parity.ensures
    ∙ ap (λ (n : ℕ). nibble_parity_of (take 4 c.args.unit.now ++ take (c.args.body - n) (drop n c.args.unit.now))) c.directory_start-start.ensures ∙ sym s.parity in
    let flag = flag_is c.args.unit.now
    (as_outer c.args.head c.args.major.now c.args.entries.now c.args.body) c.directory_start-start.result c.directory_start-start.ensures
    c.args.entries.now refl c.is_some.result None c.is_some.ensures c.in_default-first_restart_flag.ensures.first in
    let end = end_is c.args.unit.now (as_outer c.args.head c.args.major.now c.args.entries.now c.args.body) c.directory_start-start.result c.directory_start-start.ensures c.args.entries.now refl
    (Some c.in-Some-first_bad_end.place) c.in-Some-first_bad_end.ensures.first in
    rw c.broken-in-Some-first_bad_end.ensures (faults_are first (unit_of c.args.unit.now c.args.head c.args.major.now c.args.entries.now c.args.body) None c.nibble_parity.result None
    (Some c.in-Some-first_bad_end.place) extra parity flag end ∙ rw c.if-nibble_parity-ne15.false refl)

pub returns : goal.returns
returns c =
    let s = seen_parts (option_copied c.args.first) c.args.unit.now (as_outer c.args.head c.args.major.now c.args.entries.now c.args.body) (λ i. omega (arith, c.type_inv.unit i)) c.requires.read c.requires.body in
    let first = option_copied c.args.first in
    let kind = c.stream_kind-kind.ensures ∙ ap stream_kind c.in_force.ensures in
    let extra = extra_is c.args.unit.now
    (as_outer c.args.head c.args.major.now c.args.entries.now c.args.body) c.directory_start-start.result c.directory_start-start.ensures c.args.entries.now refl first c.stream_kind-kind.result None kind c.in_default.ensures.first in
    let parity : c.nibble_parity.result ≡ parity_of c.args.head c.args.entries.now = c.nibble_parity.ensures
    ∙ ap (λ (n : ℕ). nibble_parity_of (take 4 c.args.unit.now ++ take (c.args.body - n) (drop n c.args.unit.now))) c.directory_start-start.ensures ∙ sym s.parity in
    let flag = flag_is c.args.unit.now
    (as_outer c.args.head c.args.major.now c.args.entries.now c.args.body) c.directory_start-start.result c.directory_start-start.ensures
    c.args.entries.now refl c.is_some.result None c.is_some.ensures c.in_default-first_restart_flag.ensures.first in
    let end = end_is c.args.unit.now
    (as_outer c.args.head c.args.major.now c.args.entries.now c.args.body) c.directory_start-start.result c.directory_start-start.ensures c.args.entries.now refl None c.in_default-first_bad_end.ensures.first in
    faults_are first (unit_of c.args.unit.now c.args.head c.args.major.now c.args.entries.now c.args.body) None c.nibble_parity.result None None extra parity flag end ∙ rw c.if-nibble_parity-ne15.false refl
