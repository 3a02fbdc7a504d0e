use Rattle.std.proofs.Common.{◌≡◌, ◌-◌, ◌∙◌, ℤ, List, map, Option, Some, true, sym, ap}
use Rattle.std.specs.Option.{option_map}
use Rattle.mlp_search.specs.declared.pair.Pair.{Pair}
use Rattle.mlp_search.specs.Candidates.{residuals_for, past_behind}
use Rattle.mlp_search.proofs.CandidateLaws.{has_cost}
use Rattle.mlp_encode.specs.Coding.{Sent, code_by}
use Rattle.mlp_encode.specs.Pushed.{with_codes}
use Rattle.mlp_encode.proofs.CodingLaws.{channel_is}
use Rattle.mlp_encode.proofs.coding.send_channel.Goals as goal

some_is : {A : Type 0} (x y : A) → Some x ≡ Some y → x ≡ y
some_is x y e = cc

pub returns-clause-given : goal.returns-clause-given
returns-clause-given g c =
    let k = c.choose-choice.result in
    let p = has_cost c.args.force.now c.args.past.now c.args.step true c.args.samples.now k k.bits c.choose-choice.ensures.costs in
    let is = channel_is c.args.force.now c.args.past.now c.args.step c.args.filters c.args.samples.now k p.pair c.requires.force c.choose-choice.ensures.chosen p.there in
    c.reduced-given.ensures.given ∙ sym (ap (λ (x : Sent). x.given) is)

pub returns-clause-codes : goal.returns-clause-codes
returns-clause-codes g c =
    let k = c.choose-choice.result in
    let p = has_cost c.args.force.now c.args.past.now c.args.step true c.args.samples.now k k.bits c.choose-choice.ensures.costs in
    let is = channel_is c.args.force.now c.args.past.now c.args.step c.args.filters c.args.samples.now k p.pair c.requires.force c.choose-choice.ensures.chosen p.there in
    let f = λ (q : Pair). residuals_for c.args.past.now c.args.step c.args.samples.now k.filter q in
    let e = some_is (f p.pair) c.reduced-given.new.residuals (ap (λ (o : Option Pair). option_map f o) (sym p.there) ∙ c.reduced-given.ensures.residuals) in
    c.push_codes.ensures
    ∙ ap (λ (rs : List ℤ). with_codes (map (code_by k.book (k.low - c.args.step) k.offset c.args.step) rs) c.args.frames.now) (sym e)
    ∙ sym (ap (λ (x : Sent). with_codes x.codes c.args.frames.now) is)

pub returns-clause-past : goal.returns-clause-past
returns-clause-past g c =
    let k = c.choose-choice.result in
    let p = has_cost c.args.force.now c.args.past.now c.args.step true c.args.samples.now k k.bits c.choose-choice.ensures.costs in
    let is = channel_is c.args.force.now c.args.past.now c.args.step c.args.filters c.args.samples.now k p.pair c.requires.force c.choose-choice.ensures.chosen p.there in
    let f = λ (q : Pair). past_behind c.args.past.now c.args.samples.now k.filter q in
    let e = some_is (f p.pair) c.reduced-given.new.history (ap (λ (o : Option Pair). option_map f o) (sym p.there) ∙ c.reduced-given.ensures.past) in
    sym e ∙ sym (ap (λ (x : Sent). x.past) is)
