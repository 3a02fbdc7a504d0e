use Rattle.std.proofs.Common.{arith}
use Rattle.mlp_search.proofs.SearchLaws.{same_number}
use Rattle.mlp_search.proofs.search.with_any_entry.Goals as goal

pub returns-in-1 : goal.returns-in-1
returns-in-1 c =
    same_number c.args.state.now c.args.history.now c.args.step c.args.samples.now c.args.best c.with_entry.result c.args.number 1 c.in-1.is c.with_entry.ensures

pub returns-in-2 : goal.returns-in-2
returns-in-2 c =
    same_number c.args.state.now c.args.history.now c.args.step c.args.samples.now c.args.best c.with_entry-in-2.result c.args.number 2 c.in-2.is c.with_entry-in-2.ensures

pub returns-in-3 : goal.returns-in-3
returns-in-3 c =
    same_number c.args.state.now c.args.history.now c.args.step c.args.samples.now c.args.best c.with_entry-in-3.result c.args.number 3 c.in-3.is c.with_entry-in-3.ensures

pub returns-in-4 : goal.returns-in-4
returns-in-4 c =
    same_number c.args.state.now c.args.history.now c.args.step c.args.samples.now c.args.best c.with_entry-in-4.result c.args.number 4 c.in-4.is c.with_entry-in-4.ensures

pub returns-in-5 : goal.returns-in-5
returns-in-5 c =
    same_number c.args.state.now c.args.history.now c.args.step c.args.samples.now c.args.best c.with_entry-in-5.result c.args.number 5 c.in-5.is c.with_entry-in-5.ensures

pub returns-in-6 : goal.returns-in-6
returns-in-6 c =
    same_number c.args.state.now c.args.history.now c.args.step c.args.samples.now c.args.best c.with_entry-in-6.result c.args.number 6 c.in-6.is c.with_entry-in-6.ensures

pub returns-in-7 : goal.returns-in-7
returns-in-7 c =
    same_number c.args.state.now c.args.history.now c.args.step c.args.samples.now c.args.best c.with_entry-in-7.result c.args.number 7 c.in-7.is c.with_entry-in-7.ensures

pub returns-in-8 : goal.returns-in-8
returns-in-8 c =
    same_number c.args.state.now c.args.history.now c.args.step c.args.samples.now c.args.best c.with_entry-in-8.result c.args.number 8 c.in-8.is c.with_entry-in-8.ensures

pub returns-in_default : goal.returns-in_default
returns-in_default c =
    same_number c.args.state.now c.args.history.now c.args.step c.args.samples.now c.args.best c.with_entry-in_default.result c.args.number 9 (omega arith) c.with_entry-in_default.ensures
