-- What can be written.
use Rattle.std.proofs.Common.{◌≡◌, ◌↔◌, ℕ, zero, suc, ◌+◌, ◌-◌, ◌*◌, ◌/◌, ◌<◌, ◌≤◌, ltb, eqb, Bool, true, false, List, [], ◌∷◌, ◌++◌, length, get_or, take, drop, Option, Some, None, refl, sym, ap, subst, ◌∙◌, append_assoc, arith}
use Rattle.std.proofs.lemmas.List.{take_at, drop_all, drop_more}
use Rattle.std.proofs.lemmas.Bool.{eqb-true, ltb-true, lt-ltb}
use Rattle.std.specs.Prelude.{IsTrue, is_some}
use Rattle.mlp_syntax.specs.declared.unit.DirEntry.{DirEntry}
use Rattle.mlp_bits.specs.Bits.{bits, number}
use Rattle.mlp_bits.proofs.BitLists.{length-bits, bits-split}
use Rattle.mlp_bits.proofs.ReadBack.{number-of}
use Rattle.mlp_layout.specs.Layout.{number_of, seen, whole, part, made, item, next_is}
use Rattle.mlp_layout.specs.Combined.{chosen, present, times}
use Rattle.mlp_layout.proofs.Fitting.{flag_fits}
use Rattle.mlp_major.specs.MajorSync.{sync}
use Rattle.mlp_unit.specs.Directory.{entry, directory}
use Rattle.mlp_unit.proofs.WordTexts.{bits-join, end_small, EntriesFit}
use Rattle.mlp_unit.proofs.WrittenLaws.{behind_first_bit, directory_first, directory_first_fits, no_sync}

-- ---- entries

abbrev pub ExtraFits : Option ℕ → Type 0
ExtraFits None = Unit {0}
ExtraFits (Some x) = x < 65536

extra_fits : (o : Option ℕ) → ExtraFits o → (present (is_some o) (number_of 16)).Fits o
unfolding present chosen seen made number_of
extra_fits None fits = refl
extra_fits (Some x) fits = (fits, refl)

pub entry_fits_by : (e : DirEntry) → ExtraFits e.extra → IsTrue (ltb e.end 4096) ↔ entry.Fits e
unfolding entry part made number_of
entry_fits_by e extra = (λ t. (flag_fits (is_some e.extra), (flag_fits e.restart_absent, (flag_fits e.checked, (flag_fits e.reserved, (ltb-true _ _ t, (extra_fits e.extra extra, refl)))))), λ fits. lt-ltb _ _ (end_small e fits))

pub extra_small : (o : Option ℕ) → (present (is_some o) (number_of 16)).Fits o → ExtraFits o
unfolding present chosen seen made number_of
extra_small None fits = tt
extra_small (Some x) fits = fits.0

pub extra_of : (e : DirEntry) (x : ℕ) → entry.Fits e → e.extra ≡ Some x → x < 65536
unfolding entry part made
extra_of e x fits is = subst ExtraFits is (extra_small e.extra fits.1.1.1.1.1.0)

pub entries_fit_back : (es : List DirEntry) (i : ℕ) (d : DirEntry) → i < length es → entry.Fits (get_or es i d) → EntriesFit es (i + 1) → EntriesFit es i
unfolding directory times item whole
entries_fit_back es i d lt here later =
    let k = length es - (i + 1) in
    let both : (directory (suc k)).Fits (get_or es i d ∷ drop (i + 1) es) = (here, later) in
    let count : length es - i ≡ suc k = omega arith in
    subst (λ (n : ℕ). (directory n).Fits (drop i es)) (sym count) (subst (λ (xs : List DirEntry). (directory (suc k)).Fits xs) (sym (drop_more es i d lt)) both)

pub none_fit : (es : List DirEntry) (i : ℕ) → length es ≤ i → EntriesFit es i
unfolding directory times made
none_fit es i le =
    let none : drop i es ≡ [] = drop_all i es le in
    let count : length es - i ≡ 0 = omega arith in
    subst (λ (n : ℕ). (directory n).Fits (drop i es)) (sym count) none

-- ---- a directory that begins as a major sync does

pub no_entries : next_is 31 sync ((directory 0).spelling []) ≡ false
unfolding directory times made number
no_entries = refl

pub plain_first : (e : DirEntry) (es : List DirEntry) → e.extra ≡ None → next_is 31 sync ((directory (length (e ∷ es))).spelling (e ∷ es)) ≡ false
plain_first e es is =
    let b = behind_first_bit e in
    let t = b.0 ++ (directory (length es)).spelling es in
    let first : (directory (length (e ∷ es))).spelling (e ∷ es) ≡ false ∷ t = directory_first e es ∙ ap (λ (t : List Bool). t ++ (directory (length es)).spelling es) (b.1 ∙ ap (λ (o : Option ℕ). is_some o ∷ b.0) is) in
    ap (λ (t : List Bool). eqb (number (take 31 t)) sync) first ∙ no_sync t

-- 31 bits of two words
first_bits : (word extra : ℕ) (rest : List Bool) → word < 65536 → extra < 65536 → number (take 31 ((bits 16 word ++ bits 16 extra) ++ rest)) ≡ (word * 65536 + extra) / 2
first_bits word extra rest small less =
    let n = word * 65536 + extra in
    let text : (bits 16 word ++ bits 16 extra) ++ rest ≡ bits 31 (n / 2) ++ (bits 1 n ++ rest) = ap (λ (t : List Bool). t ++ rest)
    (sym (bits-join 16 16 word extra less) ∙ bits-split 31 1 n) ∙ append_assoc (bits 31 (n / 2)) (bits 1 n) rest in
    ap (λ (t : List Bool). number (take 31 t)) text ∙ ap number (take_at (bits 31 (n / 2)) (bits 1 n ++ rest) 31 (length-bits 31 (n / 2))) ∙ number-of 31 (n / 2) (omega arith)

pub extra_first : (e : DirEntry) (es : List DirEntry) (word extra : ℕ) → word < 65536 → extra < 65536 → entry.spelling e ≡ bits 16 word ++ bits 16 extra
    → next_is 31 sync ((directory (length (e ∷ es))).spelling (e ∷ es)) ≡ eqb ((word * 65536 + extra) / 2) sync
extra_first e es word extra small less is =
    let rest = (directory (length es)).spelling es in
    ap (λ (t : List Bool). eqb (number (take 31 t)) sync) (directory_first e es ∙ ap (λ (t : List Bool). t ++ rest) is) ∙ ap (λ (n : ℕ). eqb n sync) (first_bits word extra rest small less)

-- as the code looks at the first entry

pub not_empty : (b : Bool) (n : ℕ) → b ≡ false → b ≡ eqb n 0 → 0 < n
not_empty b zero none is = absurd (let e : true ≡ false = sym is ∙ none in cc)
not_empty b (suc n) none is = omega arith

pub first_fits : (es : List DirEntry) (d : DirEntry) → 0 < length es → (directory (length es)).Fits es → entry.Fits (get_or es 0 d)
first_fits [] d some fits = absurd (omega arith)
first_fits (e ∷ es) d some fits = directory_first_fits e es fits

abbrev directory_like : List DirEntry → Bool
directory_like es = next_is 31 sync ((directory (length es)).spelling es)

pub like_empty : (b : Bool) (es : List DirEntry) → b ≡ true → b ≡ eqb (length es) 0 → false ≡ directory_like es
like_empty b [] empty is = sym no_entries
like_empty b (e ∷ es) empty is = absurd (omega (arith, eqb-true (length (e ∷ es)) 0 (sym is ∙ empty)))

pub like_plain : (es : List DirEntry) (d : DirEntry) → 0 < length es → (get_or es 0 d).extra ≡ None → false ≡ directory_like es
like_plain [] d some is = absurd (omega arith)
like_plain (e ∷ es) d some is = sym (plain_first e es is)

pub like_extra : (es : List DirEntry) (d : DirEntry) (word extra : ℕ) → 0 < length es → word < 65536 → extra < 65536
    → entry.spelling (get_or es 0 d) ≡ bits 16 word ++ bits 16 extra → eqb ((word * 65536 + extra) / 2) sync ≡ directory_like es
like_extra [] d word extra some small less is = absurd (omega arith)
like_extra (e ∷ es) d word extra some small less is = sym (extra_first e es word extra small less is)
