-- What a major sync is spelled as, piece by piece.
use Rattle.std.proofs.Common.{◌≡◌, ℕ, zero, suc, ◌+◌, ◌*◌, ◌/◌, take, ◌%◌, ◌<◌, Bool, true, false, List, [], ◌∷◌, ◌++◌, length, Option, refl, sym, ap, ◌∙◌, append_assoc, arith}
use Rattle.std.proofs.lemmas.List.{append-nil, take_at}
use Rattle.std.specs.List.{flat_map}
use Rattle.mlp_syntax.specs.declared.major.MajorSync.{MajorSync}
use Rattle.mlp_bits.specs.Bits.{bits, digit, number, bits_of}
use Rattle.mlp_bits.specs.Checks.{modulus16, rem}
use Rattle.mlp_bits.proofs.BitLists.{length-bits}
use Rattle.mlp_bits.proofs.ReadBack.{number-of}
use Rattle.mlp_layout.specs.Layout.{Layout, Rule, number_of, seen, ruled, opening, whole, part, made, item}
use Rattle.mlp_layout.specs.Combined.{under, flag, fixed, checked, chosen, times}
use Rattle.mlp_layout.proofs.CombinedLaws.{times_count}
use Rattle.mlp_layout.specs.Writing.{field_bits}
use Rattle.mlp_major.proofs.MajorLaws.{fields_take, major_takes}
use Rattle.mlp_major.specs.MajorSync.{format_info, kind_of, kind_bit, kind_bit_of, is_long, extension, fields, checked_sync, judged_sync, major_sync, rules, with_signature, sync, signature}

-- ---- the extension

pub times_text : (n : ℕ) (bytes : List ℕ) → (times n (number_of 8)).Fits bytes → (times n (number_of 8)).spelling bytes ≡ bits_of bytes
unfolding times made item number_of bits_of
times_text zero bytes fits = ap bits_of (sym fits)
times_text (suc n) [] fits = absurd fits
times_text (suc n) (b ∷ bs) fits = ap (λ (t : List Bool). bits 8 b ++ t) (times_text n bs fits.1)

pub extension_text : (long : Bool) (bytes : List ℕ) → (extension long).Fits bytes → (extension long).spelling bytes ≡ bits_of bytes
unfolding extension chosen made item number_of bits_of
extension_text true [] fits = absurd fits
extension_text true (b ∷ bs) fits = ap (λ (t : List Bool). bits 8 b ++ t) (times_text _ bs fits.1)
extension_text false bytes fits = ap bits_of (sym fits)

-- ---- what fits

pub record SyncFits (m : MajorSync) : Type 0 where
  pub format : (format_info (kind_of m.format)).Fits m.format
  pub flags : m.flags < 65536
  pub reserved : m.reserved < 65536
  pub peak : m.peak < 32768
  pub substreams : m.substreams < 16
  pub carried : m.carried < 4
  pub extended : m.extended < 4
  pub info : m.info < 256
  pub extension : (extension (is_long (kind_of m.format) m.meaning)).Fits m.extension.items

pub sync_fits : (m : MajorSync) → fields.Fits (with_signature m) → SyncFits m
unfolding fields fixed ruled part number_of made
sync_fits m fits =
    let f = fits.1.1 in
    record {
      format = f.0;
      flags = f.1.1.0;
      reserved = f.1.1.1.0;
      peak = f.1.1.1.1.1.0;
      substreams = f.1.1.1.1.1.1.0;
      carried = f.1.1.1.1.1.1.1.0;
      extended = f.1.1.1.1.1.1.1.1.0;
      info = f.1.1.1.1.1.1.1.1.1.0;
      extension = f.1.1.1.1.1.1.1.1.1.1.1.0;
    }

pub digit_small : (b : Bool) → digit b < 2
digit_small true = omega arith
digit_small false = omega arith

-- ---- the pieces

abbrev pub piece_1 : MajorSync → List Bool
piece_1 m = flat_map field_bits ((sync, 31) ∷ (kind_bit_of (kind_of m.format), 1) ∷ [])

abbrev pub piece_2 : MajorSync → List Bool
piece_2 m = (format_info (kind_of m.format)).spelling m.format

abbrev pub piece_3 : MajorSync → List Bool
piece_3 m = flat_map field_bits ((signature, 16) ∷ (m.flags, 16) ∷ (m.reserved, 16) ∷ (digit m.variable, 1) ∷ (m.peak, 15) ∷ (m.substreams, 4) ∷ (m.carried, 2) ∷ (m.extended, 2) ∷ (m.info, 8) ∷ [])

abbrev pub piece_4 : MajorSync → List Bool
piece_4 m = (number_of 64).spelling m.meaning

abbrev pub piece_5 : MajorSync → List Bool
piece_5 m = bits_of m.extension.items

pub fields_text : (m : MajorSync) → fields.Fits (with_signature m) → fields.spelling (with_signature m) ≡ piece_1 m ++ (piece_2 m ++ (piece_3 m ++ (piece_4 m ++ piece_5 m)))
unfolding fields fixed ruled part number_of made kind_bit seen flag
fields_text m fits = rw (extension_text (is_long (kind_of m.format) m.meaning) m.extension.items (sync_fits m fits).extension) (simp (append_assoc, append-nil))

-- ---- the check, and the rules

pub checked_text : (m : MajorSync) → checked_sync.spelling (with_signature m) ≡ fields.spelling (with_signature m) ++ bits 16 (rem modulus16 (fields.spelling (with_signature m)))
unfolding checked_sync whole checked part fixed ruled number_of made
checked_text m = simp append-nil

ruled_text : {A : Type 0} (rule : Rule A) (l : Layout A) (x : A) → (ruled rule l).spelling x ≡ l.spelling x
unfolding ruled
ruled_text rule l x = refl

ruled_fits : {A : Type 0} (rule : Rule A) (l : Layout A) (x : A) → (ruled rule l).Fits x → l.Fits x
unfolding ruled
ruled_fits rule l x fits = fits

-- rules change neither what is spelled nor what fits
pub under_text : {A : Type 0} (rules : List (Rule A)) (l : Layout A) (x : A) → (under rules l).spelling x ≡ l.spelling x
unfolding under
under_text [] l x = refl
under_text (rule ∷ rules) l x = under_text rules (ruled rule l) x ∙ ruled_text rule l x

pub under_fits : {A : Type 0} (rules : List (Rule A)) (l : Layout A) (x : A) → (under rules l).Fits x → l.Fits x
unfolding under
under_fits [] l x fits = fits
under_fits (rule ∷ rules) l x fits = ruled_fits rule l x (under_fits rules (ruled rule l) x fits)

fits_ruled : {A : Type 0} (rule : Rule A) (l : Layout A) (x : A) → l.Fits x → (ruled rule l).Fits x
unfolding ruled
fits_ruled rule l x fits = fits

pub fits_under : {A : Type 0} (rules : List (Rule A)) (l : Layout A) (x : A) → l.Fits x → (under rules l).Fits x
unfolding under
fits_under [] l x fits = fits
fits_under (rule ∷ rules) l x fits = fits_under rules (ruled rule l) x (fits_ruled rule l x fits)

-- whatever the first sync is
pub fits_any : (a b : Option MajorSync) (m : MajorSync) → (major_sync a).Fits m → (major_sync b).Fits m
unfolding major_sync opening judged_sync
fits_any a b m fits = fits_under (rules b) _ m (under_fits (rules a) _ m fits)

-- a sync is spelled with its signature and check
pub sync_text : (first : Option MajorSync) (m : MajorSync) → (major_sync first).spelling m ≡ checked_sync.spelling (with_signature m)
unfolding major_sync opening judged_sync seen ruled
sync_text first m = under_text (rules first) _ m

pub sync_has_fields : (first : Option MajorSync) (m : MajorSync) → (major_sync first).Fits m → fields.Fits (with_signature m)
unfolding major_sync opening judged_sync seen ruled checked_sync whole checked part
sync_has_fields first m fits = (under_fits (rules first) _ m fits).0.0

-- how long it is
pub sync_length : (first : Option MajorSync) (m : MajorSync) → (major_sync first).Fits m → length ((major_sync first).spelling m) ≡ 8 * (28 + length m.extension.items)
sync_length first m fits = (major_takes first).takes m fits

pub fields_whole : (m : MajorSync) → fields.Fits (with_signature m) → length (fields.spelling (with_signature m)) % 8 ≡ 0
fields_whole m fits = omega (arith, fields_take.takes (with_signature m) fits)

-- it begins with the sync word
pub sync_begins : (first : Option MajorSync) (m : MajorSync) (rest : List Bool) → (major_sync first).Fits m → number (take 31 ((major_sync first).spelling m ++ rest)) ≡ sync
sync_begins first m rest fits =
    let later = (bits 1 (kind_bit_of (kind_of m.format)) ++ []) ++ (piece_2 m ++ (piece_3 m ++ (piece_4 m ++ piece_5 m))) in
    let text : (major_sync first).spelling m ++ rest ≡ bits 31 sync ++ ((later ++ bits 16 (rem modulus16 (fields.spelling (with_signature m)))) ++ rest) =
    rw (sync_text first m, checked_text m, fields_text m (sync_has_fields first m fits)) (simp append_assoc) in
    ap (λ (t : List Bool). number (take 31 t)) text ∙ ap number (take_at (bits 31 sync) ((later ++ bits 16 (rem modulus16 (fields.spelling (with_signature m)))) ++ rest) 31 (length-bits 31 sync)) ∙ number-of 31 sync (omega arith)

-- an extension has an even number of bytes
pub extension_even : (long : Bool) (bytes : List ℕ) → (extension long).Fits bytes → length bytes % 2 ≡ 0
unfolding extension chosen made item
extension_even true [] fits = absurd fits
extension_even true (b ∷ bs) fits = omega (arith, times_count (1 + 2 * (b / 16)) (number_of 8) bs fits.1)
extension_even false bytes fits = ap (λ (xs : List ℕ). length xs % 2) fits

pub sync_even : (first : Option MajorSync) (m : MajorSync) → (major_sync first).Fits m → length m.extension.items % 2 ≡ 0
sync_even first m fits = extension_even (is_long (kind_of m.format) m.meaning) m.extension.items (sync_fits m (sync_has_fields first m fits)).extension
