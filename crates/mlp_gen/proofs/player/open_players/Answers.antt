use Rattle.std.proofs.Common.{◌≡◌, ◌∙◌, ap, sym, arith, map, List, [], ◌∷◌, ◌++◌, Bool, true}
use Rattle.std.specs.Prelude.{if◌then◌else◌}
use Rattle.std.specs.Result.{is_ok}
use Rattle.std.specs.List.{range_with_len}
use Rattle.std.proofs.lemmas.List.FromFn.{map-range_with_len_more}
use Rattle.mlp_gen.specs.Player.{Played, unplayed}
use Rattle.mlp_gen.proofs.player.open_players.Goals as goal

pub loop-k-preserved : goal.loop-k-preserved
loop-k-preserved c =
    let players : List Played = c.loop-k.players.items in
    let ok : is_ok c.push.result ≡ true = sym c.map_err.ensures.variant ∙ ap is_ok c.in_ok-map_err.was in
    c.push.ensures.items ∙ ap (λ (b : Bool). if b then players ++ c.in_ok-player.player ∷ [] else players) ok
    ∙ ap (λ (xs : List Played). xs ++ c.in_ok-player.player ∷ []) c.loop-k.invariant
    ∙ ap (λ (player : Played). map unplayed (range_with_len 0 c.loop-k.k) ++ player ∷ []) c.in_ok-player.ensures
    ∙ sym (map-range_with_len_more unplayed 0 c.loop-k.k c.loop-k.k (omega arith))
