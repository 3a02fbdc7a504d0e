use Rattle.std.proofs.Common.{◌≡◌, ℕ, List, Bool, [], ◌++◌, length, drop, refl, ap, ◌∙◌, arith}
use Rattle.std.proofs.lemmas.List.{length-append, drop_at}
use Rattle.mlp_bits.specs.Bits.{bits}
use Rattle.mlp_bits.specs.Checks.{restart_check_of}
use Rattle.mlp_layout.specs.Layout.{part, ruled, number_of, made}
use Rattle.mlp_layout.specs.Combined.{fixed, checked}
use Rattle.mlp_layout.proofs.WritingLaws.{writes_as, then_writes, stops_writing}
use Rattle.mlp_params.specs.RestartHeader.{restart_fields, restart}
use Rattle.mlp_layout.proofs.WritingGroups.{ends_with}
use Rattle.mlp_params.proofs.write_header.write_restart.Goals as goal

pub write_fields-requires : goal.write_fields-requires
unfolding restart checked part
write_fields-requires c = (c.requires.0, c.requires.1.0)

pub returns-in_err-write_fields : goal.returns-in_err-write_fields
unfolding restart checked fixed part ruled number_of made
returns-in_err-write_fields c = λ format.
    let text = (restart_fields format).spelling c.args.header.now in
    stops_writing _ (bits 8 (restart_check_of text) ++ []) c.from_residual.result c.from_residual.ensures.1 (c.in_err-write_fields.ensures format)

pub restart_check_since-check-requires : goal.restart_check_since-check-requires
restart_check_since-check-requires c =
    let text = (restart_fields c.requires.0).spelling c.args.header.now in
    let wrote = (c.in_ok-write_fields.ensures c.requires.0).ok.appended in
    omega (arith, c.place-first.ensures.value, ap (λ (t : List Bool). length t) wrote, length-append c.args.w.now text)

pub returns : goal.returns
unfolding restart checked fixed part ruled number_of made
returns c = λ format.
    let old = c.args.w.now in
    let text = (restart_fields format).spelling c.args.header.now in
    let a = c.in_ok-write_fields.ensures format in
    let new : drop c.place-first.result c.write_fields.new.w ≡ text = ap (λ (n : ℕ). drop n c.write_fields.new.w) c.place-first.ensures.value ∙ ap (λ (t : List Bool). drop (length old) t) a.ok.appended
    ∙ drop_at old text (length old) refl in
    let check : c.from.result ≡ restart_check_of text = c.from.ensures ∙ c.restart_check_since-check.ensures ∙ ap restart_check_of new in
    let b = writes_as (ap (λ (n : ℕ). bits 8 n) check) c.put_number.ensures in
    then_writes a (ends_with b)
