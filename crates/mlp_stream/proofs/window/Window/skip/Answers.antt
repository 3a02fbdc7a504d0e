use Rattle.std.proofs.Common.{ℕ, ◌+◌, ◌-◌, ◌≤◌, length, drop, arith, ap, List}
use Rattle.std.proofs.lemmas.List.{length-take}
use Rattle.mlp_stream.specs.Held.{Held}
use Rattle.mlp_stream.proofs.WindowLaws.{skipped}
use Rattle.mlp_stream.proofs.window.Window.skip.Goals as goal

pub returns : goal.returns
returns c =
    let w = c.self.inside in
    let few : c.args.count + w.start ≤ w.end = omega (arith, ap (λ (h : Held). length h.bytes) c.self.view_is, length-take (w.end - w.start) (drop w.start w.room)) in
    rw (← c.self.view_is) (ap (λ (xs : List ℕ). record { bytes = xs; taken = w.taken; rest = w.rest }) (skipped w.room w.start w.end c.args.count few))
