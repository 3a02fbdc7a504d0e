use Rattle.std.proofs.Common.{ℕ, ◌+◌, ◌/◌, ◌%◌, ◌^◌, ◌<◌, get_or, refl, ap, ◌∙◌, arith}
use Rattle.std.specs.Int.Bits.{bit_and}
use Rattle.mlp_residual.specs.Lookups.{channel_of}
use Rattle.mlp_residual.proofs.AheadLaws.{meaning_ahead, masked, code_fails, code_at_front}
use Rattle.mlp_residual.proofs.ahead.code_ahead.Goals as goal

pub returns-then-meaning : goal.returns-then-meaning
returns-then-meaning c = record {
  read = λ left place all is enough room.
      let l = c.args.lookup in
      let a = meaning_ahead (l.table_start / 512) l.table_start place (c.args.window / 2 ^ 55) _ c.args.window left all c.meanings.result.now c.requires.looked_up.book c.requires.looked_up.table_start (omega (arith, room))
      (omega (arith, enough)) is refl c.meanings.ensures.each refl in
      code_fails (channel_of l) all place _ (a.none (omega (arith, c.if-meaning.true)));
}

pub returns : goal.returns
returns c = record {
  read = λ left place all is enough room.
      let l = c.args.lookup in
      let n = get_or c.meanings.result.now (l.table_start + c.args.window / 2 ^ 55) 0 in
      let a = meaning_ahead (l.table_start / 512) l.table_start place (c.args.window / 2 ^ 55) n c.args.window left all c.meanings.result.now c.requires.looked_up.book c.requires.looked_up.table_start (omega (arith, room))
      (omega (arith, enough)) is refl c.meanings.ensures.each refl in
      let lt : n < 65535 = omega arith in
      let taken = c.from.result + l.low in
      let low = masked c.rotate_left-behind.result l.low l.mask c.requires.looked_up.low c.requires.looked_up.mask ∙ ap (λ (w : ℕ). w % 2 ^ l.low) c.rotate_left-behind.ensures in
      let all-of = code_at_front (channel_of l) n c.args.window left (bit_and (c.rotate_left-behind.result % 2 ^ 32) l.mask) taken all place a lt c.requires.looked_up.low enough is room (ap (λ (k : ℕ). k + l.low) c.from.ensures) low in
      (all-of.0, rw c.rotate_left-behind.ensures all-of.1, all-of.2);
}
