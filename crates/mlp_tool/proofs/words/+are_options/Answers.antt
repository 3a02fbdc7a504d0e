use Rattle.std.proofs.Common.{◌≡◌, ℕ, ◌<◌, ◌≤◌, false, List, [], ◌∷◌, length, map, string_bytes, refl, arith}
use Rattle.std.proofs.lemmas.List.{length-map}
use Rattle.mlp_tool.specs.declared.words.Name.{Name}
use Rattle.mlp_tool.specs.Words.{are_options}
use Rattle.mlp_tool.proofs.words.+are_options.Goals as goal

-- a name without a value is no option
alone : (names : List Name) (words : List (List ℕ)) → 1 ≤ length words → length words < 2 → false ≡ are_options names words
alone names [] some few = absurd (omega arith)
alone names (word ∷ []) some few = refl
alone names (word ∷ value ∷ words) some few = absurd (omega arith)

pub returns-in-len1 : goal.returns-in-len1
returns-in-len1 t c =
    let long = length-map c.args.words.now string_bytes in
    alone c.args.names.now (map string_bytes c.args.words.now) (omega (arith, long)) (omega (arith, long))
