use Rattle.std.proofs.Common.{◌≡◌, ◌∙◌, ◌++◌, ℕ, List, codes, decimal, ap, append_assoc}
use Rattle.mlp_gen.proofs.report.put_channels.Goals as goal

moved : (o a d b e : List ℕ) → (((o ++ a) ++ d) ++ b) ++ e ≡ o ++ (((a ++ d) ++ b) ++ e)
moved o a d b e =
    ap (λ (x : List ℕ). (x ++ b) ++ e) (append_assoc o a d)
    ∙ ap (λ (x : List ℕ). x ++ e) (append_assoc o (a ++ d) b)
    ∙ append_assoc o ((a ++ d) ++ b) e

pub returns-clause-text : goal.returns-clause-text
returns-clause-text c =
    let old = c.args.out.now.items in
    let first : List ℕ = codes "presentation " in
    let second : List ℕ = codes " channels " in
    c.put_number-2.ensures.text
    ∙ ap (λ (n : ℕ). c.put_text-2.new.out.items ++ decimal n) c.from-2.ensures
    ∙ ap (λ (x : List ℕ). x ++ decimal c.args.channels)
    (c.put_text-2.ensures ∙ ap (λ (x : List ℕ). x ++ second)
    (c.put_number.ensures.text ∙ ap (λ (n : ℕ). c.put_text.new.out.items ++ decimal n) c.from.ensures
    ∙ ap (λ (x : List ℕ). x ++ decimal c.args.presentation) c.put_text.ensures))
    ∙ moved old first (decimal c.args.presentation) second (decimal c.args.channels)
