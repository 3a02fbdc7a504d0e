use Rattle.std.proofs.Common.{◌≡◌, ℕ, true, false, List, None, map, string_bytes, refl, sym}
use Rattle.mlp_tool.specs.declared.words.Verb.{Verb}
use Rattle.mlp_tool.specs.Words.{options_of, are_options, command_of, with_options}
use Rattle.mlp_tool.proofs.words.with_options.Goals as goal

refused : (words : List (List ℕ)) (verb : Verb) → false ≡ are_options (options_of verb) words → None ≡ with_options words verb
refused words verb e = rw (sym e) refl

given : (words : List (List ℕ)) (verb : Verb) → true ≡ are_options (options_of verb) words → command_of words verb ≡ with_options words verb
given words verb e = rw (sym e) refl

pub returns-then-not-are_options-clause-form : goal.returns-then-not-are_options-clause-form
returns-then-not-are_options-clause-form c = refused (map string_bytes c.args.words.now) c.args.verb (rw (c.options_of.ensures, c.if-not-are_options.true) at c.are_options.ensures)

pub returns-clause-form : goal.returns-clause-form
returns-clause-form c = rw c.command_of.ensures.form (given (map string_bytes c.args.words.now) c.args.verb (rw (c.options_of.ensures, c.if-not-are_options.false) at c.are_options.ensures))
