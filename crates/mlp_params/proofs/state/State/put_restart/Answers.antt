use Rattle.std.proofs.Common.{◌≡◌, ◌+◌, List, refl, sym, ap, subst, ◌∙◌, arith}
use Rattle.arrayvec.specs.ArrayVec.{ArrayVec}
use Rattle.mlp_params.specs.States.{IsState}
use Rattle.mlp_params.proofs.RestartRanges.{ranges}
use Rattle.mlp_params.proofs.LawfulStates.{all_restarted, restart_is_state}
use Rattle.mlp_params.proofs.state.State.put_restart.Goals as goal

pub overflow_add-header : goal.overflow_add-header
overflow_add-header c = let r = ranges _ _ c.requires.header in record { fits = omega (arith, r.at_most_7, r.same) }

pub zeros-self-requires : goal.zeros-self-requires
zeros-self-requires c = let r = ranges _ _ c.requires.header in omega (arith, r.at_most_7, r.same)

pub overflow_add-header-2 : goal.overflow_add-header-2
overflow_add-header-2 c = let r = ranges _ _ c.requires.header in record { fits = omega (arith, r.at_most_7) }

pub zeros-self-requires-2 : goal.zeros-self-requires-2
zeros-self-requires-2 c = let r = ranges _ _ c.requires.header in omega (arith, r.at_most_7)

same_vec : {A : Type 0} (v : ArrayVec A) (xs : List A) → v.items ≡ xs → v ≡ record { items = xs }
same_vec v xs e = ap (λ (ys : List _). let w : ArrayVec _ = record { items = ys } in w) e

pub returns-clause-value : goal.returns-clause-value
returns-clause-value c =
    let r = ranges _ _ c.requires.header in
    let header = c.args.header.now in
    let channels = c.restart_channels.ensures ∙ all_restarted header.min (header.max + 1) (omega (arith, r.order)) in
    rw (
      c.copied_restart-self.ensures,
      same_vec c.clear.new.self _ c.clear.ensures,
      same_vec c.zeros-self.result _ c.zeros-self.ensures,
      same_vec c.zeros-self-2.result _ c.zeros-self-2.ensures,
      same_vec
          c.restart_channels.new.out _ channels,
    ) refl

pub returns-clause-lawful : goal.returns-clause-lawful
returns-clause-lawful c = subst IsState (sym (returns-clause-value c)) (restart_is_state c.args.format c.args.unit_frames c.args.header.now c.requires.header c.requires.least c.requires.most)
