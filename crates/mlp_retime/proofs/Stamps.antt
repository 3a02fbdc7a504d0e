-- Other output timings in the restarts of segments.
use Rattle.std.proofs.Common.{◌≡◌, ◌↔◌, ℕ, false, zero, suc, ◌+◌, ◌-◌, ◌*◌, ◌^◌, ◌<◌, ◌≤◌, Bool, List, [], ◌∷◌, ◌++◌, length, Result, Ok, Err, None, refl, sym, ap, subst, ◌∙◌, arith, append_assoc, length-append, add-one, take, drop}
use Rattle.std.proofs.lemmas.List.{append-nil, length-take, length-drop}
use Rattle.std.specs.Prelude.{IsErr, OnOk, map, slice_set, slice_index_or}
use Rattle.mlp_syntax.specs.declared.fault.Broken.{Broken}
use Rattle.mlp_syntax.specs.declared.segment.Segment.{Segment}
use Rattle.mlp_syntax.specs.declared.unit.DirEntry.{DirEntry}
use Rattle.mlp_syntax.specs.declared.unit.Outer.{Outer}
use Rattle.mlp_bits.specs.Bits.{bits_of}
use Rattle.mlp_bits.proofs.BitLists.{length-bits_of}
use Rattle.mlp_unit.specs.Shape.{end_at, end_before, HoldsSegments, segment_bits}
use Rattle.mlp_unit.proofs.SegmentPlaces.{segment_place}
use Rattle.mlp_substream.specs.declared.known.Place.{Place}
use Rattle.mlp_substream.specs.Segment.{segment, unknown, IsAllowed}
use Rattle.mlp_substream.specs.Timings.{stamped}
use Rattle.mlp_substream.proofs.RoundTrip.{is_checked, found_there}
use Rattle.mlp_substream.proofs.StampedLaws.{stamped_allowed, stamped_long}
use Rattle.mlp_contents.specs.Units.{is_checked as is_checked_in}
use Rattle.mlp_retime.specs.Retimed.{own_text}
use Rattle.mlp_retime.specs.Stamping.{stamped_text, restamped, restamped_from}

-- ---- heads, one after the other

abbrev stamped_front : {A : Type 0} → (A → A) → ℕ → List A → List A
stamped_front f i xs = map f (take i xs) ++ drop i xs

front_more : {A : Type 0} (f : A → A) (xs : List A) (i : ℕ) (other : A) → i < length xs → slice_set (stamped_front f i xs) i (f (slice_index_or (stamped_front f i xs) i other)) ≡ stamped_front f (suc i) xs
front_more f [] i other lt = absurd (omega arith)
front_more f (x ∷ xs) zero other lt = refl
front_more f (x ∷ xs) (suc i) other lt = ap (λ ys. f x ∷ ys) (front_more f xs i other (omega arith))

pub one_stamped : {A : Type 0} (f : A → A) (xs ys : List A) (i : ℕ) (here other : A) → i < length xs → ys ≡ stamped_front f i xs → here ≡ f (slice_index_or ys i other)
    → slice_set ys i here ≡ stamped_front f (i + 1) xs
one_stamped f xs ys i here other lt e is =
    ap (slice_set ys i) is ∙ ap (λ zs. slice_set zs i (f (slice_index_or zs i other))) e ∙ front_more f xs i other lt ∙ ap (λ (n : ℕ). stamped_front f n xs) (sym (add-one i))

-- ---- a segment

module _ (place : Place) (output : ℕ) (small : output < 2 ^ 16) (checked : Bool) (bits : List Bool) where
  module _ (s : Segment) (e : (segment place unknown None checked).read bits ≡ Ok s) where
    own_allowed : IsAllowed (segment place unknown None s.checked) s
    own_allowed =
        let f = found_there place unknown None checked bits s e in
        let is = sym (is_checked place unknown None checked s f.fits) in
        subst (λ (c : Bool). IsAllowed (segment place unknown None c) s) is (record { fits = f.fits; meets = f.meets })

    own_bits : own_text place s ≡ bits
    own_bits =
        let f = found_there place unknown None checked bits s e in
        ap (λ (c : Bool). (segment place unknown None c).spelling s) (is_checked place unknown None checked s f.fits) ∙ sym f.text_is

    pub stamped_is : IsAllowed (segment place unknown None s.checked) (stamped output s)
    stamped_is = stamped_allowed place unknown None s.checked s output small own_allowed

    pub stamped_size : length (own_text place (stamped output s)) ≡ length bits
    stamped_size = stamped_long place unknown None s.checked s output small ∙ ap (λ (t : List Bool). length t) own_bits

    pub restamped_is : restamped place output checked bits ≡ own_text place (stamped output s)
    restamped_is = ap (stamped_text place output bits) e

  pub restamped_none : (b : Broken) → (segment place unknown None checked).read bits ≡ Err b → restamped place output checked bits ≡ bits
  restamped_none b e = ap (stamped_text place output bits) e

-- it is appended
pub appended : (place : Place) (output : ℕ) (checked : Bool) (bytes old : List ℕ) (s : Segment) → output < 2 ^ 16 → length old + length bytes ≤ 8190
    → (segment place unknown None checked).read (bits_of bytes) ≡ Ok s
    → {E : Type 0} (r : Result (Unit {0}) E) (new : List ℕ) → IsErr r ↔ (65520 < length (bits_of old ++ own_text place (stamped output s)))
    → OnOk r (bits_of new ≡ bits_of old ++ own_text place (stamped output s))
    → (bits_of new ≡ bits_of old ++ restamped place output checked (bits_of bytes)) × (length new ≡ length old + length bytes)
appended place output checked bytes old s small room read (Err e) new long is =
    let size = stamped_size place output small checked (bits_of bytes) s read in
    absurd (omega (arith, long.0 refl, size, length-append (bits_of old) (own_text place (stamped output s)), length-bits_of old, length-bits_of bytes))
appended place output checked bytes old s small room read (Ok done) new long is =
    let size = stamped_size place output small checked (bits_of bytes) s read in (
      is ∙ ap (λ (t : List Bool). bits_of old ++ t) (sym (restamped_is place output small checked (bits_of bytes) s read)),
      omega (arith, ap (λ (t : List Bool). length t) is, size, length-append (bits_of old) (own_text place (stamped output s)), length-bits_of old, length-bits_of bytes, length-bits_of new),
    )

-- ---- one segment more

pub one_more : (place : Place) (output : ℕ) (bytes : List ℕ) (o : Outer) (j n : ℕ)
    → restamped_from place output bytes o j (suc n)
    ≡ restamped_from place output bytes o j n ++ restamped place output (is_checked_in o.entries.items (j + n)) (segment_bits bytes o (j + n))
one_more place output bytes o j zero =
    let here : j + 0 ≡ j = omega arith in
    append-nil _ ∙ ap (λ (i : ℕ). restamped place output (is_checked_in o.entries.items i) (segment_bits bytes o i)) (sym here)
one_more place output bytes o j (suc n) =
    let on : suc j + n ≡ j + suc n = omega arith in
    let x = restamped place output (is_checked_in o.entries.items j) (segment_bits bytes o j) in
    ap (λ (t : List Bool). x ++ t) (one_more place output bytes o (suc j) n ∙ ap (λ (i : ℕ). restamped_from place output bytes o (suc j) n ++ restamped place output (is_checked_in o.entries.items i) (segment_bits bytes o i)) on)
    ∙ sym (append_assoc x (restamped_from place output bytes o (suc j) n) _)

pub one_behind : (place : Place) (output : ℕ) (bytes : List ℕ) (o : Outer) (n : ℕ)
    → restamped_from place output bytes o 0 (n + 1) ≡ restamped_from place output bytes o 0 n ++ restamped place output (is_checked_in o.entries.items n) (segment_bits bytes o n)
one_behind place output bytes o n =
    let same : 0 + n ≡ n = omega arith in
    ap (restamped_from place output bytes o 0) (add-one n) ∙ one_more place output bytes o 0 n
    ∙ ap (λ (i : ℕ). restamped_from place output bytes o 0 n ++ restamped place output (is_checked_in o.entries.items i) (segment_bits bytes o i)) same

-- a segment has the bytes of its range
pub segment_long : (bytes part : List ℕ) (o : Outer) (j : ℕ) → HoldsSegments bytes o → j < length o.entries.items → bits_of part ≡ segment_bits bytes o j
    → (2 * end_before o.entries.items j + length part ≡ 2 * end_at o.entries.items j) × (o.body + 2 * end_at o.entries.items j ≤ length bytes)
segment_long bytes part o j h lt e =
    let p = segment_place bytes o j h lt in
    let n = 16 * (end_at o.entries.items j - end_before o.entries.items j) in
    let from = 8 * (o.body + 2 * end_before o.entries.items j) in
    let long : length (bits_of part) ≡ length (take n (drop from (bits_of bytes))) = ap (λ (t : List Bool). length t) e in
    (omega (arith, p, long, length-take n (drop from (bits_of bytes)), length-drop from (bits_of bytes), length-bits_of part, length-bits_of bytes), p.1)

pub bits_none : (xs : List ℕ) → xs ≡ [] → (bits_of xs ≡ []) × (length xs ≡ 0)
unfolding bits_of
bits_none xs e = (ap bits_of e, ap (λ (ys : List ℕ). length ys) e)

-- the end before the entry behind some
pub end_behind : (es : List DirEntry) (n : ℕ) → 0 < n → end_before es n ≡ end_at es (n - 1)
end_behind es zero lt = absurd (omega (arith, lt))
end_behind es (suc n) lt = let less : n ≡ suc n - 1 = omega arith in ap (end_at es) less

same_at : (es : List DirEntry) (n : ℕ) (a b : DirEntry) → n < length es → slice_index_or es n a ≡ slice_index_or es n b
same_at [] n a b lt = absurd (omega arith)
same_at (e ∷ es) zero a b lt = refl
same_at (e ∷ es) (suc n) a b lt = same_at es n a b (omega arith)

-- a segment more was appended
pub one_appended : (place : Place) (output : ℕ) (bytes : List ℕ) (o : Outer) (n : ℕ) (old new part : List ℕ) (entries : List DirEntry) (at : ℕ) (other : DirEntry) → n < length o.entries.items → entries ≡ o.entries.items → at ≡ n
    → bits_of part ≡ segment_bits bytes o n → bits_of old ≡ restamped_from place output bytes o 0 n
    → bits_of new ≡ bits_of old ++ restamped place output (slice_index_or entries at other).checked (bits_of part)
    → bits_of new ≡ restamped_from place output bytes o 0 (n + 1)
one_appended place output bytes o n old new part entries at other lt listed there own before is =
    let checked : (slice_index_or entries at other).checked ≡ is_checked_in o.entries.items n =
    (λ i. (slice_index_or (listed i) (there i) other).checked) ∙ ap (λ (e : DirEntry). e.checked) (same_at o.entries.items n other (record { extra = None; restart_absent = false; checked = false; reserved = false; end = 0 }) lt) in
    is ∙ (λ i. before i ++ restamped place output (checked i) (own i)) ∙ sym (one_behind place output bytes o n)
