use Rattle.std.proofs.Common.{◌≡◌, ◌+◌, ◌*◌, ◌/◌, ◌++◌, ◌≤◌, ℕ, List, length, ap, ◌∙◌, arith}
use Rattle.std.specs.Prelude.{bit_xor}
use Rattle.std.specs.Option.{option_copied}
use Rattle.mlp_bits.specs.Bits.{bits, bits_of}
use Rattle.mlp_bits.proofs.Words.{bits_of-append}
use Rattle.mlp_unit.specs.AccessUnit.{parity_of}
use Rattle.mlp_unit.specs.Written.{unit_size}
use Rattle.mlp_unit.proofs.WrittenLaws.{put_together, unit_fits}
use Rattle.mlp_unit.proofs.writing.write_unit.Goals as goal

pub returns-clause-written : goal.returns-clause-written
unfolding bits_of
returns-clause-written c =
    let major = option_copied c.args.major in
    let es = c.args.entries.now in
    let body = c.args.body.now in
    let timing = c.args.timing in
    let made = 4 + c.major_length.result + c.directory_length.result + length body in
    let same : made ≡ unit_size major es body = omega (arith, c.major_length.ensures.length, c.directory_length.ensures.length) in
    let words : made / 2 ≡ unit_size major es body / 2 = ap (λ (n : ℕ). n / 2) same in
    let size : unit_size major es body ≤ 8190 = omega (arith, same, c.if-body-front.false, c.major_length.ensures.small, c.directory_length.ensures.small) in
    let check = c.from.ensures ∙ ap (λ (n : ℕ). bit_xor n 15) (c.parity-check.ensures.sum ∙ ap (λ (n : ℕ). parity_of (record { check = 0; words = n; timing = timing }) es) words) in
    let word = ap (λ (n : ℕ). n * 4096 + made / 2) check ∙ ap (λ (n : ℕ). bit_xor (parity_of (record { check = 0; words = unit_size major es body / 2; timing = timing }) es) 15 * 4096 + n) words in
    let start = c.push_word.ensures.bits ∙ ap (λ (xs : List ℕ). bits_of xs ++ bits 16 (c.from.result * 4096 + made / 2)) c.clear.ensures in
    let end = ap bits_of c.push_bytes.ensures ∙ bits_of-append c.push_directory.new.out.items body in
    λ first count. (
      unit_fits first timing major es body c.requires count (omega arith) (λ i. omega (arith, c.type_inv.body i)) size,
      put_together first timing major es body c.requires count (c.from.result * 4096 + made / 2) _ _ _ _ _ size word start c.push_word-2.ensures.bits c.push_major.ensures.bits c.push_directory.ensures.bits end,
    )
