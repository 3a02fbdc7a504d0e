use Rattle.std.proofs.Common.{◌≡◌, ◌*◌, ◌+◌, ◌-◌, ◌/◌, ◌%◌, ◌^◌, ◌++◌, length, take, drop, ap, ◌∙◌, sym, subst, arith, List, ℕ}
use Rattle.std.proofs.lemmas.List.{length-take, length-drop}
use borrow.Rule.Slice.PartMut.{put_mid}
use Rattle.mlp_bits.specs.Bits.{bits, bits_of}
use Rattle.mlp_bits.proofs.Words.{be-bits, eight-set}
use Rattle.mlp_bits.proofs.Writing.{moved-bits, store-view}
use Rattle.mlp_bits.proofs.writer.store_word.Goals as goal

pub returns : goal.returns
returns c =
    let n = c.args.count in
    let p = c.args.pending in
    let at = c.args.len in
    let x = p * 2 ^ ((64 - n) % 64) % 2 ^ 64 in
    let word = c.to_be_bytes-word.result in
    let old = take (at + 8 - at) (drop at c.args.bytes.now) in
    let len : length word ≡ 8 = ap length c.to_be_bytes-word.ensures in
    let begins : take n (bits_of word) ≡ bits n p = ap (take n) (ap bits_of c.to_be_bytes-word.ensures ∙ be-bits x (omega arith)) ∙ moved-bits n p c.requires.width in
    let room : length old ≡ 8 = omega (arith, length-take (at + 8 - at) (drop at c.args.bytes.now), length-drop at c.args.bytes.now) in
    let is = eight-set old word room len in
    subst (λ (ys : List ℕ). bits_of (take (at + n / 8) (put_mid at (at + 8 - at) c.args.bytes.now ys)) ++ bits (n % 8) p ≡ bits_of (take at c.args.bytes.now) ++ bits n p) (sym is)
    (store-view c.args.bytes.now word at (at + 8 - at) n p (omega arith) len c.requires.width begins)
