use Rattle.std.proofs.Common.{pos, ◌*ℤ◌, ◌^◌, w8, w32, ◌∙◌, ap, arith, rules}
use Rattle.std.proofs.lemmas.Int.{to_z-of_z}
use Rattle.mlp_matrix.proofs.Noises.{put_is}
use Rattle.mlp_matrix.proofs.noise.put.Goals as goal

pub returns : goal.returns
returns c =
    put_is c.args.shift c.args.channels c.args.seed c.from-place.result c.args.frame.now _ _ (omega arith) c.requires.channels c.from-place.ensures
    (to_z-of_z w32 c.shifted.result (record { sfits = c.shifted.type_inv }) ∙ c.shifted.ensures
    ∙ ap (λ z. z *ℤ pos (2 ^ c.args.shift)) (to_z-of_z w8 c.noise_of-first.result.0 (search rules) ∙ c.noise_of-first.ensures.first))
    (to_z-of_z w32 c.shifted-2.result (record { sfits = c.shifted-2.type_inv }) ∙ c.shifted-2.ensures
    ∙ ap (λ z. z *ℤ pos (2 ^ c.args.shift)) (to_z-of_z w8 c.noise_of-first.result.1 (search rules) ∙ c.noise_of-first.ensures.second))
