-- The unit that goes on behind an interval carries the interval's check.
use Rattle.std.proofs.Common.{◌≡◌, ℕ, eqb, cond, Bool, true, List, [], ◌∷◌, length, take, drop, Option, Some, None, refl, ap, subst, ◌∙◌, arith}
use Rattle.std.specs.Prelude.{is_some, option_map, All, IfSome}
use Rattle.std.proofs.lemmas.Bool.{eqb-true, eq-eqb}
use Rattle.std.proofs.lemmas.List.{length-take-le}
use Rattle.std.proofs.lemmas.List.Elements.{All-head}
use Rattle.mlp_syntax.specs.declared.restart.Restart.{Restart}
use Rattle.mlp_syntax.specs.declared.segment.BlockHead.{BlockHead}
use Rattle.mlp_bits.specs.Bits.{bits_of}
use Rattle.mlp_layout.specs.Streams.{spelling_of}
use Rattle.mlp_layout.proofs.RuleReading.{rule_holds}
use Rattle.mlp_major.proofs.RuleLaws.{none_first}
use Rattle.mlp_params.specs.declared.state.State.{State}
use Rattle.mlp_substream.specs.Restarts.{agrees, restart_rules, RestartHolds}
use Rattle.mlp_substream.proofs.KnownLaws.{known_allowed}
use Rattle.mlp_output.specs.Output.{folded}
use Rattle.mlp_contents.specs.Known.{first_restart, known}
use Rattle.mlp_contents.specs.Units.{Unit_of, coded_at, place_of, is_checked, top_of, whole}
use Rattle.mlp_samples.specs.Leaving.{matrix_of, matrix_in_force}
use Rattle.mlp_samples.proofs.UnitParts.{unit_count, unit_allowed}
use Rattle.mlp_samples.proofs.Streams.{restart_there}
use Rattle.mlp_recover.specs.Interval.{GoesOn, Interval}
use Rattle.mlp_samples.specs.Behind.{left_behind}
use Rattle.mlp_recover.specs.Laws.{CarriesCheck}
use Rattle.mlp_recover.proofs.Intervals.{interval_some, interval_taken}

restart_of : (o : Option Restart) → is_some (matrix_of o) ≡ true → (r : Restart) × (o ≡ Some r)
restart_of None e = absurd cc
restart_of (Some r) e = (r, refl)

state_of : (o : Option State) → is_some (matrix_in_force o) ≡ true → (s : State) × (o ≡ Some s)
state_of None e = absurd cc
state_of (Some s) e = (s, refl)

first_holds : (P : Restart → Type 0) (hs : List BlockHead) (r : Restart) → All (λ h. IfSome h.restart P) hs → first_restart hs ≡ Some r → P r
first_holds P [] r all e = absurd cc
first_holds P (h ∷ hs) r all e = subst (λ (o : Option Restart). IfSome o P) e (All-head (λ (b : BlockHead). IfSome b.restart P) h hs all)

-- what is known of the check in the last substream
check_known : (k n check : ℕ) (o : Option State) (s : State) → n ≡ k → o ≡ Some s → cond (eqb n k) (option_map (λ (t : State). check) o) None ≡ Some check
check_known k n check o s same there =
    ap (λ (b : Bool). cond b (option_map (λ (t : State). check) o) None) (eq-eqb n k same) ∙ ap (option_map (λ (t : State). check)) there

pub carries_check : (k : ℕ) (bytes : List ℕ) (first past : ℕ) (us : List Unit_of) → Interval k bytes first past us → (g : GoesOn k us (drop past bytes)) → CarriesCheck k us g.unit
carries_check k bytes first past us i g =
    let left = left_behind k us in
    let u = g.unit in
    let there = restart_there k (bits_of (drop first bytes)) (bits_of (drop past bytes)) us u (interval_taken k bytes first past us i).begins (interval_some k bytes first past us i) g.next g.major in
    let force = state_of (coded_at left.substreams k).force there.0 in
    let restart = restart_of (first_restart (top_of k u.contents).blocks.items) there.1 in
    let text = spelling_of (whole k) left u in
    let known_here = known k (coded_at left.substreams k).force (folded left.check) (take k u.contents) in
    let allowed = unit_allowed k left u text g.next.contents k (omega arith) in
    let restarts = ((known_allowed (place_of left u.outer) known_here (coded_at left.substreams k).force (is_checked u.outer.entries k) (top_of k u.contents)).0 allowed).1.restarts in
    let holds = first_holds (RestartHolds known_here) (top_of k u.contents).blocks.items restart.0 restarts restart.1 in
    let agree : agrees known_here.lossless restart.0.lossless ≡ true = rule_holds (agrees known_here.lossless restart.0.lossless) 89 (none_first (restart_rules known_here) restart.0 holds).1.1.0 in
    let count : length (take k u.contents) ≡ k = length-take-le k u.contents (omega (arith, unit_count k left u text g.next.contents)) in
    let due : known_here.lossless ≡ Some (folded left.check) = check_known k (length (take k u.contents)) (folded left.check) (coded_at left.substreams k).force force.0 count force.1 in
    (restart.0, restart.1, eqb-true restart.0.lossless (folded left.check) (subst (λ (o : Option ℕ). agrees o restart.0.lossless ≡ true) due agree))
