-- The major sync is a layout.
use Rattle.std.proofs.Common.{◌≡◌, ℕ, zero, suc, ◌+◌, ◌*◌, ◌^◌, ◌<◌, Bool, eqb, cond, length, Option, Some, refl, ap, arith}
use Rattle.mlp_syntax.specs.declared.major.Kind.{Kind}
use Rattle.mlp_syntax.specs.declared.major.Kind.TheVariants as kind
use Rattle.mlp_syntax.specs.declared.major.FormatInfo.{FormatInfo}
use Rattle.mlp_syntax.specs.declared.major.FormatInfo.TheVariants as format
use Rattle.mlp_syntax.specs.declared.major.MajorSync.{MajorSync}
use Rattle.mlp_layout.specs.Layout.{Layout, IsLayout, number_of, seen, ruled, part}
use Rattle.mlp_layout.proofs.LayoutLaws.{number_of_is, seen_is, ruled_is, part_is, opening_is, whole_is}
use Rattle.mlp_layout.proofs.CombinedLaws.{layouts, fixed_is, checked_is, under_is, must_is}
use Rattle.mlp_layout.proofs.Sizes.{Takes, number_takes, seen_takes, flag_takes, under_takes, ruled_takes, opening_takes, whole_takes, made_takes, part_takes}
use Rattle.mlp_layout.proofs.Sizes.{fixed_takes, checked_takes, chosen_takes, nil_takes, item_takes, times_takes, total, total-same, takes_is}
use Rattle.mlp_major.specs.declared.reading.SignedSync.{SignedSync}
use Rattle.mlp_major.specs.MajorSync.{fbb, fba, format_info, kind_of, kind_bit, kind_bit_of, extension, fields, rules, checked_sync, judged_sync, major_sync, signature, is_long, sync}

pub fbb_is : IsLayout fbb
unfolding fbb
fbb_is = search layouts depth 40

pub fba_is : IsLayout fba
unfolding fba
fba_is = search layouts depth 40

pub format_info_is : (k : Kind) → IsLayout (format_info k)
unfolding format_info
format_info_is kind.Fbb = seen_is _ _ fbb_is (λ a fits meets. refl)
format_info_is kind.Fba = seen_is _ _ fba_is (λ a fits meets. refl)

kind_fits : (k : Kind) (i : FormatInfo) → (format_info k).Fits i → kind_of i ≡ k
unfolding format_info seen
kind_fits kind.Fbb (format.Fbb f) h = refl
kind_fits kind.Fbb (format.Fba f) h = absurd h
kind_fits kind.Fba (format.Fbb f) h = absurd h
kind_fits kind.Fba (format.Fba f) h = refl

kind_sets : {R : Type 0} (of_record : R → FormatInfo) (k : Kind) (rest : FormatInfo → Layout R) (r : R) → (part (format_info k) of_record rest).Fits r → kind_of (of_record r) ≡ k
unfolding part
kind_sets of_record k rest r fits = kind_fits k (of_record r) fits.0

abbrev some : {A : Type 0} → A → Option A
some x = Some x

kind_back : (n : ℕ) → n < 2 ^ 1 → some (kind_bit_of (cond (eqb n 1) kind.Fbb kind.Fba)) ≡ Some n
kind_back zero h = refl
kind_back (suc zero) h = refl
kind_back (suc (suc n)) h = absurd (omega arith)

pub kind_bit_is : IsLayout kind_bit
unfolding kind_bit number_of
kind_bit_is = seen_is _ _ (number_of_is 1) (λ n fits meets. kind_back n fits)

pub extension_is : (long : Bool) → IsLayout (extension long)
unfolding extension
extension_is long = search layouts depth 20

pub fields_is : IsLayout fields
unfolding fields
fields_is = fixed_is _ _ _ (part_is _ kind_bit_is (λ k. search (layouts, format_info_is, extension_is) depth 60) (λ k _ _. kind_sets _ k _))

-- ---- sizes

bits_32 : (kind : Kind) → Takes (format_info kind) (λ i. 32)
unfolding format_info fbb fba
bits_32 kind.Fbb = seen_takes _ _ fbb (λ f. 4 + (4 + (4 + (4 + (11 + (5 + 0)))))) (λ i. 32)
    (part_takes _ _ _ _ _ (number_takes 4) (λ a. part_takes _ _ _ _ _ (number_takes 4) (λ a. part_takes _ _ _ _ _ (number_takes 4)
    (λ a. part_takes _ _ _ _ _ (number_takes 4) (λ a. part_takes _ _ _ _ _ (number_takes 11) (λ a. part_takes _ _ _ _ _ (number_takes 5) (λ a. made_takes _)))))))
    (λ f. refl)
bits_32 kind.Fba = seen_takes _ _ fba (λ f. 4 + (4 + (2 + (2 + (5 + (2 + (13 + 0))))))) (λ i. 32)
    (part_takes _ _ _ _ _ (number_takes 4) (λ a. part_takes _ _ _ _ _ (number_takes 4) (λ a. part_takes _ _ _ _ _ (number_takes 2)
    (λ a. part_takes _ _ _ _ _ (number_takes 2) (λ a. part_takes _ _ _ _ _ (number_takes 5) (λ a. part_takes _ _ _ _ _ (number_takes 2) (λ a. part_takes _ _ _ _ _ (number_takes 13) (λ a. made_takes _))))))))
    (λ f. refl)

extension_takes : (long : Bool) → Takes (extension long) (λ bytes. 8 * length bytes)
unfolding extension
extension_takes long = takes_is _ (total (λ b. 8)) _
    (chosen_takes long _ _ (total (λ b. 8))
    (λ is. item_takes _ _ (λ b. 8) (number_takes 8) (λ b. times_takes _ _ (λ b. 8) (number_takes 8)))
    (λ is. nil_takes (λ b. 8)))
    (total-same 8)

kind_takes : Takes kind_bit (λ k. 1)
unfolding kind_bit
kind_takes = seen_takes _ _ (number_of 1) (λ n. 1) (λ k. 1) (number_takes 1) (λ n. refl)

pub fields_take : Takes fields (λ s. 208 + 8 * length s.major.extension.items)
unfolding fields
fields_take = takes_is _ _ _
    (fixed_takes 31 sync _ _ _
    (part_takes _ _ _ _ _ kind_takes (λ k.
    part_takes _ _ _ _ _ (bits_32 k) (λ a.
    part_takes _ _ _ _ _ (number_takes 16) (λ a.
    part_takes _ _ _ _ _ (number_takes 16) (λ a.
    part_takes _ _ _ _ _ (number_takes 16) (λ a.
    part_takes _ _ _ _ _ flag_takes (λ a.
    part_takes _ _ _ _ _ (number_takes 15) (λ a.
    part_takes _ _ _ _ _ (number_takes 4) (λ a.
    part_takes _ _ _ _ _ (number_takes 2) (λ a.
    part_takes _ _ _ _ _ (number_takes 2) (λ a.
    part_takes _ _ _ _ _ (number_takes 8) (λ a.
    part_takes _ _ _ _ _ (number_takes 64) (λ meaning.
    part_takes _ _ _ _ _ (extension_takes (is_long k meaning)) (λ a.
    made_takes _)))))))))))))))
    (λ s. omega arith)

checked_sync_takes : Takes checked_sync (λ s. 208 + 8 * length s.major.extension.items + (16 + 0))
unfolding checked_sync
checked_sync_takes = whole_takes _ _ _ (checked_takes 16 _ _ _ _ fields_take)

judged_takes : (first : Option MajorSync) → Takes (judged_sync first) (λ m. 8 * (28 + length m.extension.items))
unfolding judged_sync
judged_takes first = under_takes (rules first) _ _ (seen_takes _ _ _ _ _ (ruled_takes _ _ _ checked_sync_takes) (λ s. omega arith))

checked_sync_is : IsLayout checked_sync
unfolding checked_sync
checked_sync_is = whole_is _ (checked_is 16 _ _ fields_is)

signed_back : (s : SignedSync) → (signature ≡ s.signature) → some (let t : SignedSync = record { signature = signature; major = s.major } in t) ≡ Some s
signed_back s e = ap (λ (n : ℕ). some (let t : SignedSync = record { signature = n; major = s.major } in t)) e

judged_is : (first : Option MajorSync) → IsLayout (judged_sync first)
unfolding judged_sync ruled
judged_is first = under_is (rules first) (seen_is _ _ (ruled_is _ checked_sync_is) (λ s fits meets. signed_back s (must_is signature s.signature 64 meets.1)))

-- a major sync has 28 bytes and its extension
pub major_takes : (first : Option MajorSync) → Takes (major_sync first) (λ m. 8 * (28 + length m.extension.items))
unfolding major_sync
major_takes first = opening_takes _ _ _ _ _ (judged_takes first)

pub major_is : (first : Option MajorSync) → IsLayout (major_sync first)
unfolding major_sync
major_is first = opening_is _ _ _ (judged_is first) (λ m fits. omega (arith, (judged_takes first).takes m fits))
