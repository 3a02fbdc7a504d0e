-- Bits of an access unit's body.
use Rattle.std.proofs.Common.{◌≡◌, ℕ, ◌+◌, ◌*◌, ◌≤◌, Bool, List, ◌++◌, length, take, drop, Option, sym, ap, ◌∙◌, arith, append_assoc}
use Rattle.std.proofs.Math.Seq.{drop-append-add}
use Rattle.std.proofs.lemmas.List.{length-append}
use Rattle.mlp_syntax.specs.declared.major.MajorSync.{MajorSync}
use Rattle.mlp_bits.specs.Bits.{bits_of}
use Rattle.mlp_bits.proofs.BitLists.{length-bits_of}
use Rattle.mlp_major.proofs.SyncReading.{bits_of-middle}
use Rattle.mlp_unit.specs.Directory.{directory}
use Rattle.mlp_unit.specs.AccessUnit.{AccessUnit, access_unit, head}
use Rattle.mlp_unit.specs.Shape.{body_place}
use Rattle.mlp_unit.specs.Written.{major_text}
use Rattle.mlp_unit.proofs.UnitLaws.{access_unit_size}
use Rattle.mlp_unit.proofs.UnitRules.{fits_text}

module _ (first : Option MajorSync) (o : AccessUnit) (fits : (access_unit first).Fits o) where
  abbrev front : List Bool
  front = head.spelling o.head ++ (major_text o.major ++ (directory (length o.entries)).spelling o.entries)

  text_is : (access_unit first).spelling o ≡ front ++ bits_of o.body
  text_is =
      let h = head.spelling o.head in
      let m = major_text o.major in
      let d = (directory (length o.entries)).spelling o.entries in
      fits_text first o fits
      ∙ ap (λ (t : List Bool). h ++ t) (sym (append_assoc m d (bits_of o.body)))
      ∙ sym (append_assoc h (m ++ d) (bits_of o.body))

  front_long : length front ≡ 8 * body_place o
  front_long =
      let whole = access_unit_size first o fits in
      omega (arith, ap length text_is, length-append front (bits_of o.body), length-bits_of o.body, whole)

  -- so many bytes of the body, from one on, as bits of the unit
  pub body_bits : (b n : ℕ) → b + n ≤ length o.body
      → take (8 * n) (drop (8 * (body_place o + b)) ((access_unit first).spelling o)) ≡ bits_of (take n (drop b o.body))
  body_bits b n within =
      let place : 8 * (body_place o + b) ≡ length front + 8 * b = omega (arith, front_long) in
      ap (take (8 * n)) ((λ i. drop (place i) (text_is i)) ∙ drop-append-add front (bits_of o.body) (8 * b))
      ∙ bits_of-middle b n o.body within
