use Rattle.mlp_search.proofs.CodeLaws.{code_judged, bits_counted}
use Rattle.mlp_search.proofs.CostLaws.{parameters_is}
use Rattle.mlp_search.proofs.laws.law_cost.Goals as goal

pub returns-clause-code : goal.returns-clause-code
returns-clause-code c = λ book b offset step r. (code_judged book b offset step r).some

pub returns-clause-no_code : goal.returns-clause-no_code
returns-clause-no_code c = λ book b offset step r. (code_judged book b offset step r).none

pub returns-clause-codes : goal.returns-clause-codes
returns-clause-codes c = bits_counted

pub returns-clause-parameters : goal.returns-clause-parameters
returns-clause-parameters c = parameters_is
