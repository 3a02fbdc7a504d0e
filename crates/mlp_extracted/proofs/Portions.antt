-- The segments that an extraction keeps have the bits that they have in the unit.
use Rattle.std.proofs.Common.{◌≡◌, ℕ, zero, suc, ◌+◌, ◌-◌, ◌*◌, ◌/◌, ◌≤◌, ◌<◌, Bool, false, List, [], ◌∷◌, ◌++◌, length, take, drop, Option, None, inl, inr, refl, sym, ap, ◌∙◌, arith, append_assoc}
use Rattle.std.proofs.lemmas.Bool.{cases_lt}
use Rattle.std.proofs.lemmas.List.{take-take, drop-take, get_or-take, length-append, length-take}
use Rattle.std.specs.Prelude.{option_map}
use Rattle.mlp_syntax.specs.declared.major.MajorSync.{MajorSync}
use Rattle.mlp_syntax.specs.declared.unit.DirEntry.{DirEntry}
use Rattle.mlp_bits.specs.Bits.{bits_of}
use Rattle.mlp_layout.specs.Allowed.{Allowed}
use Rattle.mlp_major.specs.MajorSync.{smaller}
use Rattle.mlp_unit.specs.AccessUnit.{AccessUnit, access_unit, first_bad_end}
use Rattle.mlp_unit.specs.Extracted.{extracted}
use Rattle.mlp_unit.specs.Shape.{body_place, end_at, end_before}
use Rattle.mlp_unit.specs.Written.{FirstUsable}
use Rattle.mlp_unit.proofs.Fewer.{fewer_meets}
use Rattle.mlp_unit.proofs.Reread.{writable}
use Rattle.mlp_unit.proofs.SegmentPlaces.{ends_rise}
use Rattle.mlp_unit.proofs.BodyBits.{body_bits}
use Rattle.mlp_contents.specs.Units.{is_checked}

-- ---- ends that don't fall

pub rises : (last : ℕ) (es : List DirEntry) (j : ℕ) → first_bad_end 0 last 0 es ≡ None → j < length es → (end_before es j ≤ end_at es j) × (end_at es j ≤ last)
rises last es zero none lt = ends_rise 0 last 0 es zero none lt
rises last es (suc j) none lt = ends_rise 0 last 0 es (suc j) none lt

pub ends_up : (last : ℕ) (es : List DirEntry) (j k : ℕ) → first_bad_end 0 last 0 es ≡ None → k < length es → j ≤ k → end_at es j ≤ end_at es k
ends_up last es j zero none lt le = let e : j ≡ 0 = omega (arith, le) in omega (arith, ap (end_at es) e)
ends_up last es j (suc k) none lt le = elim (cases_lt j (suc k)) [
  | inl below ↦ omega (arith, ends_up last es j k none (omega (arith, lt)) (omega (arith, below)), (rises last es (suc k) none lt).0)
  | inr above ↦ let e : j ≡ suc k = omega (arith, le, above) in omega (arith, ap (end_at es) e)
]

-- ---- fewer entries

pub end_fewer : (n : ℕ) (es : List DirEntry) (j : ℕ) → j < n → end_at (take n es) j ≡ end_at es j
end_fewer zero es j lt = absurd (omega (arith, lt))
end_fewer (suc n) [] j lt = refl
end_fewer (suc n) (e ∷ es) zero lt = refl
end_fewer (suc n) (e ∷ es) (suc j) lt = end_fewer n es j (omega (arith, lt))

pub before_fewer : (n : ℕ) (es : List DirEntry) (j : ℕ) → j < n → end_before (take n es) j ≡ end_before es j
before_fewer n es zero lt = refl
before_fewer n es (suc j) lt = end_fewer n es j (omega (arith, lt))

pub checked_fewer : (n : ℕ) (es : List DirEntry) (j : ℕ) → j < n → is_checked (take n es) j ≡ is_checked es j
checked_fewer n es j lt = ap (λ (e : DirEntry). e.checked) (get_or-take n es j (record { extra = None; restart_absent = false; checked = false; reserved = false; end = 0 }) lt)

-- so many bytes of the front of others
middle_less : (b n m : ℕ) (bytes : List ℕ) → b + n ≤ m → take n (drop b (take m bytes)) ≡ take n (drop b bytes)
middle_less b n m bytes within =
    let all : m ≡ b + (m - b) = omega (arith, within) in
    ap (λ (x : ℕ). take n (drop b (take x bytes))) all ∙ ap (take n) (drop-take b (m - b) bytes) ∙ take-take n (m - b) (drop b bytes) (omega (arith, within))

-- ---- a segment

-- the bits of segment j, of those of the unit
abbrev pub bits_at : AccessUnit → ℕ → List Bool → List Bool
bits_at o j text = take (16 * (end_at o.entries j - end_before o.entries j)) (drop (8 * (body_place o + 2 * end_before o.entries j)) text)

pub bits_at_is : (first : Option MajorSync) (o : AccessUnit) (j : ℕ) → (access_unit first).Fits o → first_bad_end 0 (length o.body / 2) 0 o.entries ≡ None → j < length o.entries
    → bits_at o j ((access_unit first).spelling o) ≡ bits_of (take (2 * (end_at o.entries j - end_before o.entries j)) (drop (2 * end_before o.entries j) o.body))
bits_at_is first o j fits ends lt =
    let r = rises (length o.body / 2) o.entries j ends lt in
    let b = end_before o.entries j in
    let n = end_at o.entries j - b in
    let size : 16 * n ≡ 8 * (2 * n) = omega arith in
    ap (λ (x : ℕ). take x (drop (8 * (body_place o + 2 * b)) ((access_unit first).spelling o))) size ∙ body_bits first o fits (2 * b) (2 * n) (omega (arith, r.0, r.1))

module _ (k : ℕ) (first : Option MajorSync) (o : AccessUnit) (usable : FirstUsable first) (a : Allowed (access_unit first) o) (lt : k < length o.entries) where
  pub kept_bits : (j : ℕ) → j ≤ k → bits_at (extracted k o) j ((access_unit (option_map (smaller k) first)).spelling (extracted k o)) ≡ bits_at o j ((access_unit first).spelling o)
  kept_bits j le =
      let f = fewer_meets k first o usable a lt in
      let w = writable first o (λ none. usable) a.fits a.meets in
      let es = o.entries in
      let end : end_at (take (k + 1) es) j ≡ end_at es j = end_fewer (k + 1) es j (omega (arith, le)) in
      let before : end_before (take (k + 1) es) j ≡ end_before es j = before_fewer (k + 1) es j (omega (arith, le)) in
      let r = rises (length o.body / 2) es j w.ends (omega (arith, le, lt)) in
      let up = ends_up (length o.body / 2) es j k w.ends lt le in
      bits_at_is (option_map (smaller k) first) (extracted k o) j f.allowed.fits f.writable.ends (omega (arith, length-take (k + 1) es, le, lt))
      ∙ (λ i. bits_of (take (2 * (end i - before i)) (drop (2 * before i) (take (2 * end_at es k) o.body))))
      ∙ ap bits_of (middle_less (2 * end_before es j) (2 * (end_at es j - end_before es j)) (2 * end_at es k) o.body (omega (arith, r.0, up)))
      ∙ sym (bits_at_is first o j a.fits w.ends (omega (arith, le, lt)))
