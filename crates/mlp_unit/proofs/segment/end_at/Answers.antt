use Rattle.std.proofs.Common.{◌≡◌, ℕ, zero, suc, ◌<◌, List, [], ◌∷◌, length, get_or, refl, arith}
use Rattle.mlp_syntax.specs.declared.unit.DirEntry.{DirEntry}
use Rattle.mlp_unit.specs.Shape.{end_at}
use Rattle.mlp_unit.proofs.segment.end_at.Goals as goal

end_is : (es : List DirEntry) (d : DirEntry) (j : ℕ) → j < length es → (get_or es j d).end ≡ end_at es j
end_is [] d j lt = absurd (omega arith)
end_is (e ∷ es) d zero lt = refl
end_is (e ∷ es) d (suc j) lt = end_is es d j (omega arith)

pub returns : goal.returns
returns c = end_is c.args.entries.now _ c.args.at c.requires
