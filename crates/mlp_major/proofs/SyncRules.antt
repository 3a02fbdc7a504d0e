-- When a major sync meets the layout's rules, and what an extraction makes of one.
use Rattle.std.proofs.Common.{◌≡◌, ◌↔◌, ℕ, zero, suc, ◌+◌, ◌*◌, ◌/◌, ◌^◌, ◌<◌, eqb, ltb, leb, cond, take, Bool, true, false, List, [], ◌∷◌, ◌++◌, Option, Some, None, refl, sym, ap, subst, ◌∙◌, append_assoc, arith}
use Rattle.std.proofs.lemmas.Bool.{eqb-true, eq-eqb, leb-true, ltb-true, le-leb, lt-ltb}
use Rattle.std.proofs.lemmas.List.{append-nil, take_at}
use Rattle.std.specs.Prelude.{IsTrue, ◌&&◌, option_map}
use Rattle.mlp_syntax.specs.declared.major.Kind.{Kind}
use Rattle.mlp_syntax.specs.declared.major.Kind.TheVariants as kind
use Rattle.mlp_syntax.specs.declared.major.FormatInfo.{FormatInfo}
use Rattle.mlp_syntax.specs.declared.major.FormatInfo.TheVariants as format
use Rattle.mlp_syntax.specs.declared.major.MajorSync.{MajorSync}
use Rattle.mlp_bits.specs.Bits.{bits, number}
use Rattle.mlp_bits.specs.Checks.{modulus16, rem}
use Rattle.mlp_bits.proofs.BitLists.{length-bits}
use Rattle.mlp_bits.proofs.ReadBack.{number-of}
use Rattle.mlp_layout.specs.Layout.{number_of, seen, ruled, opening, whole, part, made, item}
use Rattle.mlp_layout.specs.Combined.{flag, fixed, checked, chosen, times}
use Rattle.mlp_major.specs.MajorSync.{fbb, fba, format_info, kind_of, kind_bit, kind_bit_of, extension, is_long, fields, checked_sync, judged_sync, major_sync, rules, with_signature, sync}
use Rattle.mlp_major.specs.MajorSync.{rate_of, is_rate, in_fba, in_fbb, most_substreams, is_unchanged, is_same_kind, IsUsable, Alike, HasKindOf, KeepsRules, smaller, NarrowsWell}
use Rattle.mlp_major.proofs.SyncWriting.{sync_fits, sync_text, checked_text, fields_text, sync_has_fields, piece_2, piece_3, piece_4, piece_5}
use Rattle.mlp_major.proofs.SyncFitting.{fit_of, fit_by}
use Rattle.mlp_major.proofs.RuleLaws.{Met, met, meets_under, first_none, none_first, both}
use Rattle.mlp_layout.proofs.RuleReading.{rule_holds}

-- ---- what meets the rules by itself

format_meets : (f : FormatInfo) → (format_info (kind_of f)).Meets f
unfolding format_info seen fbb fba part made number_of
format_meets (format.Fbb f) = (tt, (tt, (tt, (tt, (tt, (tt, tt))))))
format_meets (format.Fba f) = (tt, (tt, (tt, (tt, (tt, (tt, (tt, tt)))))))

times_meets : (n : ℕ) (bytes : List ℕ) → (times n (number_of 8)).Fits bytes → (times n (number_of 8)).Meets bytes
unfolding times made item number_of
times_meets zero bytes fits = tt
times_meets (suc n) [] fits = absurd fits
times_meets (suc n) (b ∷ bs) fits = (tt, times_meets n bs fits.1)

extension_meets : (long : Bool) (bytes : List ℕ) → (extension long).Fits bytes → (extension long).Meets bytes
unfolding extension chosen made item number_of
extension_meets true [] fits = absurd fits
extension_meets true (b ∷ bs) fits = (tt, times_meets (1 + 2 * (b / 16)) bs fits.1)
extension_meets false bytes fits = tt

fields_meet : (m : MajorSync) → fields.Fits (with_signature m) → fields.Meets (with_signature m)
unfolding fields fixed ruled part number_of made kind_bit seen flag
fields_meet m fits =
    let e = extension_meets (is_long (kind_of m.format) m.meaning) m.extension.items (sync_fits m fits).extension in
    ((tt, refl), (tt, (format_meets m.format, (tt, (tt, (tt, (tt, (tt, (tt, (tt, (tt, (tt, (tt, (e, tt))))))))))))))

itself : (n : ℕ) → cond {A = Option ℕ} (eqb n n) None (Some 0) ≡ None
itself n = let same : eqb n n ≡ true = eq-eqb n n refl in rw same refl

checked_meets : (m : MajorSync) → fields.Fits (with_signature m) → checked_sync.Meets (with_signature m)
unfolding checked_sync whole checked part fixed ruled number_of made
checked_meets m fits = (fields_meet m fits, ((tt, itself (rem modulus16 (fields.spelling (with_signature m)))), tt))

signed_meets : (m : MajorSync) → fields.Fits (with_signature m) → (first : Option MajorSync) → Met (rules first) m → (judged_sync first).Meets m
unfolding judged_sync seen ruled
signed_meets m fits first rules-met = meets_under (rules first) _ m (checked_meets m fits, refl) rules-met

-- ---- the kind

word_bits : (k : Kind) → bits 31 sync ++ bits 1 (kind_bit_of k) ≡ bits 32 (2 * sync + kind_bit_of k)
unfolding bits
word_bits kind.Fba = refl
word_bits kind.Fbb = refl

bit_small : (k : Kind) → kind_bit_of k < 2
bit_small kind.Fba = omega arith
bit_small kind.Fbb = omega arith

-- its first word
first_word : (first : Option MajorSync) (m : MajorSync) → fields.Fits (with_signature m) → number (take 32 ((major_sync first).spelling m)) ≡ 2 * sync + kind_bit_of (kind_of m.format)
first_word first m fits =
    let k = kind_of m.format in
    let w = 2 * sync + kind_bit_of k in
    let rest = piece_2 m ++ (piece_3 m ++ (piece_4 m ++ (piece_5 m ++ bits 16 (rem modulus16 (fields.spelling (with_signature m)))))) in
    let text : (major_sync first).spelling m ≡ (bits 31 sync ++ bits 1 (kind_bit_of k)) ++ rest =
    rw (sync_text first m, checked_text m, fields_text m fits) (simp (append_assoc, append-nil)) in
    ap (λ (t : List Bool). number (take 32 t)) (text ∙ ap (λ (t : List Bool). t ++ rest) (word_bits k)) ∙ ap number (take_at (bits 32 w) rest 32 (length-bits 32 w)) ∙ number-of 32 w (omega (arith, bit_small k))

kind_again : (a b : Kind) → kind_bit_of a ≡ kind_bit_of b → a ≡ b
kind_again kind.Fbb kind.Fbb e = refl
kind_again kind.Fbb kind.Fba e = absurd (omega (arith, e))
kind_again kind.Fba kind.Fbb e = absurd (omega (arith, e))
kind_again kind.Fba kind.Fba e = refl

has_kind : (first : Option MajorSync) (m : MajorSync) → IsTrue (is_same_kind first (2 * sync + kind_bit_of (kind_of m.format))) → HasKindOf first m
has_kind None m t = tt
has_kind (Some first) m t = kind_again (kind_of m.format) (kind_of first.format) (omega (arith, eqb-true (2 * sync + kind_bit_of (kind_of m.format)) (2 * sync + kind_bit_of (kind_of first.format)) t))

same_kind : (first : Option MajorSync) (m : MajorSync) → HasKindOf first m → IsTrue (is_same_kind first (2 * sync + kind_bit_of (kind_of m.format)))
same_kind None m e = refl
same_kind (Some first) m e = eq-eqb _ _ (ap (λ (k : Kind). 2 * sync + kind_bit_of k) e)

-- ---- the rules

pub sync_meets : (first : Option MajorSync) (m : MajorSync) → (major_sync None).Fits m → KeepsRules first m → (major_sync first).Meets m
unfolding major_sync opening
sync_meets first m fits k =
    let f = sync_has_fields None m fits in
    (subst (λ (n : ℕ). IsTrue (is_same_kind first n)) (sym (first_word first m f)) (same_kind first m k.kind), signed_meets m f first (none_first (rules first) m k.fields))

pub keeps_rules : (first : Option MajorSync) (m : MajorSync) → (major_sync None).Fits m → (major_sync first).Meets m → KeepsRules first m
unfolding major_sync opening judged_sync
keeps_rules first m fits meets =
    let f = sync_has_fields None m fits in
    record {
      kind = has_kind first m (subst (λ (n : ℕ). IsTrue (is_same_kind first n)) (first_word first m f) meets.0);
      fields = first_none (rules first) m (met (rules first) _ m meets.1).1;
    }

pub sync_rules : (first : Option MajorSync) (m : MajorSync) → (major_sync None).Fits m → (major_sync first).Meets m ↔ KeepsRules first m
sync_rules first m fits = (keeps_rules first m fits, sync_meets first m fits)

-- ---- what later units rely on

rate_met : (f : FormatInfo) → in_fba (λ g. is_rate g.rate) f ≡ true → in_fbb (λ g. is_rate g.rate1) f ≡ true → IsTrue (is_rate (rate_of f))
rate_met (format.Fbb f) a b = b
rate_met (format.Fba f) a b = a

pub usable_of : (first : Option MajorSync) (m : MajorSync) → KeepsRules first m → IsUsable m
usable_of first m k =
    let each = none_first (rules first) m k.fields in
    let range = both (ltb 0 m.substreams) (leb m.substreams (most_substreams m.format)) (rule_holds (ltb 0 m.substreams && leb m.substreams (most_substreams m.format)) 128 each.1.1.1.1.0) in
    record {
      rate = rate_met m.format (rule_holds _ 32 each.0) (rule_holds _ 40 each.1.0);
      some = ltb-true _ _ range.0;
      few = leb-true _ _ range.1;
    }

pub unchanged_of : (first : Option MajorSync) (m : MajorSync) → KeepsRules first m → is_unchanged first m ≡ true
unchanged_of first m k = rule_holds (is_unchanged first m) 0 (none_first (rules first) m k.fields).1.1.1.1.1.0

-- ---- a sync that keeps the rules behind a first one could be the first

pub alike_of : (first m : MajorSync) → KeepsRules (Some first) m → Alike first m
alike_of first m k =
    let same = both (eqb (rate_of m.format) (rate_of first.format)) (eqb m.substreams first.substreams) (unchanged_of (Some first) m k) in
    record {
      kind = sym k.kind;
      rate = sym (eqb-true (rate_of m.format) (rate_of first.format) same.0);
      substreams = sym (eqb-true m.substreams first.substreams same.1);
    }

pub keeps_first : (first : Option MajorSync) (m : MajorSync) → KeepsRules first m → KeepsRules None m
keeps_first first m k =
    let each = none_first (rules first) m k.fields in
    record {
      kind = tt;
      fields = first_none (rules None) m (each.0, (each.1.0, (each.1.1.0, (each.1.1.1.0, (each.1.1.1.1.0, (refl, tt))))));
    }

-- ---- an extraction

meaning_fits : (m : MajorSync) → fields.Fits (with_signature m) → m.meaning < 2 ^ 64
unfolding fields fixed ruled part number_of made
meaning_fits m fits = fits.1.1.1.1.1.1.1.1.1.1.1.1.0

smaller_fits : (k : ℕ) (m : MajorSync) → k < m.substreams → (major_sync None).Fits m → (major_sync None).Fits (smaller k m)
smaller_fits k m less fits =
    let f = fit_of m fits in
    fit_by (smaller k m) (record {
      format = f.format;
      flags = f.flags;
      reserved = f.reserved;
      peak = f.peak;
      substreams = omega (arith, f.substreams);
      carried = f.carried;
      extended = f.extended;
      info = omega arith;
      extension = f.extension;
    }) (meaning_fits m (sync_has_fields None m fits))

smaller_usable : (k : ℕ) (m : MajorSync) → k < m.substreams → IsUsable m → IsUsable (smaller k m)
smaller_usable k m less u = record { rate = u.rate; some = omega arith; few = omega (arith, u.few) }

smaller_kind : (k : ℕ) (first : Option MajorSync) (m : MajorSync) → HasKindOf first m → HasKindOf (option_map (smaller k) first) (smaller k m)
smaller_kind k None m e = tt
smaller_kind k (Some first) m e = e

smaller_unchanged : (k : ℕ) (first : Option MajorSync) (m : MajorSync) → is_unchanged first m ≡ true → is_unchanged (option_map (smaller k) first) (smaller k m) ≡ true
smaller_unchanged k None m e = refl
smaller_unchanged k (Some first) m e =
    let rate = (both (eqb (rate_of m.format) (rate_of first.format)) (eqb m.substreams first.substreams) e).0 in
    let same : eqb (k + 1) (k + 1) ≡ true = eq-eqb (k + 1) (k + 1) refl in
    rw (rate, same) refl

smaller_rules : (k : ℕ) (first : Option MajorSync) (m : MajorSync) → k < m.substreams → KeepsRules first m → KeepsRules (option_map (smaller k) first) (smaller k m)
smaller_rules k first m less r =
    let each = none_first (rules first) m r.fields in
    let u = usable_of first m r in
    let some : ltb 0 (k + 1) ≡ true = lt-ltb _ _ (omega arith) in
    let few : leb (k + 1) (most_substreams m.format) ≡ true = le-leb _ _ (omega (arith, u.few)) in
    let range : cond {A = Option ℕ} (ltb 0 (k + 1) && leb (k + 1) (most_substreams m.format)) None (Some 128) ≡ None = rw (some, few) refl in
    let changed = smaller_unchanged k first m (unchanged_of first m r) in
    record {
      kind = smaller_kind k first m r.kind;
      fields = first_none (rules (option_map (smaller k) first)) (smaller k m) (each.0, (each.1.0, (each.1.1.0, (each.1.1.1.0, (range, (rw changed refl, tt))))));
    }

pub narrows_well : (k : ℕ) (m : MajorSync) → k < m.substreams → NarrowsWell k m
narrows_well k m less = record {
  fits = smaller_fits k m less;
  usable = smaller_usable k m less;
  rules = λ first r. smaller_rules k first m less r;
}
