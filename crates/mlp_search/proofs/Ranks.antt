-- The first of the least has the least cost, and comes first.
use Rattle.std.proofs.Common.{◌≡◌, ℕ, zero, suc, ◌+◌, ◌*◌, ◌<◌, ◌≤◌, ℤ, pos, Bool, true, false, List, Option, Some, None, arith, refl, sym, ◌∙◌, ap, subst, inl, inr, add-one}
use Rattle.std.specs.Prelude.{◌⊎◌, nat_lt, if◌then◌else◌}
use Rattle.std.specs.Ordering.{int_eq}
use Rattle.std.specs.List.{flat_map, range_with_len}
use Rattle.std.proofs.lemmas.Bool.{ltb-true, ltb-false, le-ltb, cases_lt}
use Rattle.std.proofs.lemmas.Bool.Decides.{Decides-int_eq}
use Rattle.mlp_search.specs.declared.choice.Choice.{Choice}
use Rattle.mlp_search.specs.Least.{better, least_from, choice_of, with_offsets, with_lows, with_books, rank, IsWithinFirst, IsLeast}
use Rattle.mlp_search.proofs.Scanning.{least_from-append, range_more}

-- ---- what is known of a cost

-- only choices of these ranges have a cost, which doesn't depend on the bits that they say
pub record IsCost (cost : Choice → Option ℕ) (mid : ℕ → ℤ) : Type 0 where
  pub blind : (c : Choice) (n : ℕ) → cost (record c { bits = n }) ≡ cost c
  pub filter : (c : Choice) (n : ℕ) → cost c ≡ Some n → c.filter < 18
  pub book : (c : Choice) (n : ℕ) → cost c ≡ Some n → c.book < 4
  pub low : (c : Choice) (n : ℕ) → cost c ≡ Some n → c.low < 32
  pub offset : (c : Choice) (n : ℕ) → cost c ≡ Some n → (c.offset ≡ pos 0) ⊎ (c.offset ≡ mid c.filter)

-- ---- the best below a rank

pub record IsBestOf (cost : Choice → Option ℕ) (k : ℕ) (c : Choice) : Type 0 where
  pub costs : cost c ≡ Some c.bits
  pub below : rank c < k
  pub least : (d : Choice) (n : ℕ) → cost d ≡ Some n → rank d < k → c.bits ≤ n
  pub first : (d : Choice) (n : ℕ) → cost d ≡ Some n → rank d < rank c → c.bits < n

-- of the choices whose rank is below k this is the first of the least, or none of them has a cost
abbrev pub IsBest : (Choice → Option ℕ) → ℕ → Option Choice → Type 0
IsBest cost k None = (d : Choice) (n : ℕ) → cost d ≡ Some n → rank d < k → ⊥
IsBest cost k (Some c) = IsBestOf cost k c

pub record Covers (cost : Choice → Option ℕ) (k : ℕ) (c : Choice) : Type 0 where
  pub rank_is : rank c ≤ k
  pub same : (d : Choice) (n : ℕ) → cost d ≡ Some n → rank d ≡ k → cost c ≡ Some n

-- ---- ranks

abbrev place : ℕ → ℕ → ℕ → ℕ
place filter book low = (filter * 4 + book) * 32 + low

rank_parts : (d : Choice) → ((d.offset ≡ pos 0) × (rank d ≡ place d.filter d.book d.low * 2)) ⊎ ((d.offset ≡ pos 0 → ⊥) × (rank d ≡ place d.filter d.book d.low * 2 + 1))
rank_parts d = pick (int_eq d.offset (pos 0)) refl
  where
    pick : (t : Bool) → int_eq d.offset (pos 0) ≡ t
        → ((d.offset ≡ pos 0) × (place d.filter d.book d.low * 2 + (if t then 0 else 1) ≡ place d.filter d.book d.low * 2))
        ⊎ ((d.offset ≡ pos 0 → ⊥) × (place d.filter d.book d.low * 2 + (if t then 0 else 1) ≡ place d.filter d.book d.low * 2 + 1))
    pick true e = inl ((Decides-int_eq d.offset (pos 0)).0 e, omega arith)
    pick false e = inr ((λ z. let s : true ≡ false = sym ((Decides-int_eq d.offset (pos 0)).1 z) ∙ e in cc), omega arith)

module _ (cost : Choice → Option ℕ) (mid : ℕ → ℤ) (is : IsCost cost mid) where
  none_more : (k : ℕ) (c : Choice) (best : Option Choice) → Covers cost k c → cost c ≡ None → IsBest cost k best → IsBest cost (k + 1) best
  none_more k c None v e h = λ d n costs below. elim (cases_lt (rank d) k) [
    | inl lt ↦ h d n costs lt
    | inr ge ↦ absurd (let s : Some n ≡ None = sym (v.same d n costs (omega (arith, ge, below))) ∙ e in cc)
  ]
  none_more k c (Some b) v e h = record {
    costs = h.costs;
    below = omega (arith, h.below);
    least = λ d n costs below. elim (cases_lt (rank d) k) [
      | inl lt ↦ h.least d n costs lt
      | inr ge ↦ absurd (let s : Some n ≡ None = sym (v.same d n costs (omega (arith, ge, below))) ∙ e in cc)
    ];
    first = h.first;
  }

  same_cost : (m n : ℕ) (c : Choice) → cost c ≡ Some m → cost c ≡ Some n → m ≡ n
  same_cost m n c e g = let s : Some m ≡ Some n = sym e ∙ g in cc

  taken_first : (k m : ℕ) (c : Choice) → Covers cost k c → cost c ≡ Some m → IsBest cost k None → IsBestOf cost (k + 1) (record c { bits = m })
  taken_first k m c v e h = record {
    costs = is.blind c m ∙ e;
    below = omega (arith, v.rank_is);
    least = λ d n costs below. elim (cases_lt (rank d) k) [
      | inl lt ↦ absurd (h d n costs lt)
      | inr ge ↦ omega (arith, same_cost m n c e (v.same d n costs (omega (arith, ge, below))))
    ];
    first = λ d n costs below. absurd (h d n costs (omega (arith, below, v.rank_is)));
  }

  taken : (k m : ℕ) (c b : Choice) → Covers cost k c → cost c ≡ Some m → m < b.bits → IsBestOf cost k b → IsBestOf cost (k + 1) (record c { bits = m })
  taken k m c b v e less h = record {
    costs = is.blind c m ∙ e;
    below = omega (arith, v.rank_is);
    least = λ d n costs below. elim (cases_lt (rank d) k) [
      | inl lt ↦ omega (arith, less, h.least d n costs lt)
      | inr ge ↦ omega (arith, same_cost m n c e (v.same d n costs (omega (arith, ge, below))))
    ];
    first = λ d n costs below. let old = h.least d n costs (omega (arith, below, v.rank_is)) in omega (arith, less, old);
  }

  kept : (k m : ℕ) (c b : Choice) → Covers cost k c → cost c ≡ Some m → b.bits ≤ m → IsBestOf cost k b → IsBestOf cost (k + 1) b
  kept k m c b v e more h = record {
    costs = h.costs;
    below = omega (arith, h.below);
    least = λ d n costs below. elim (cases_lt (rank d) k) [
      | inl lt ↦ h.least d n costs lt
      | inr ge ↦ omega (arith, more, same_cost m n c e (v.same d n costs (omega (arith, ge, below))))
    ];
    first = h.first;
  }

  some_more : (k m : ℕ) (c : Choice) (best : Option Choice) → Covers cost k c → cost c ≡ Some m → IsBest cost k best → IsBest cost (k + 1) (better best c (Some m))
  some_more k m c None v e h = taken_first k m c v e h
  some_more k m c (Some b) v e h = pick (nat_lt m b.bits) refl
    where
      pick : (t : Bool) → nat_lt m b.bits ≡ t → IsBest cost (k + 1) (if t then Some (record c { bits = m }) else Some b)
      pick true lt = taken k m c b v e (ltb-true m b.bits lt) h
      pick false ge = kept k m c b v e (ltb-false m b.bits ge) h

  one_more : (k : ℕ) (c : Choice) (best : Option Choice) → Covers cost k c → IsBest cost k best → IsBest cost (k + 1) (better best c (cost c))
  one_more k c best v h = pick (cost c) refl
    where
      pick : (o : Option ℕ) → cost c ≡ o → IsBest cost (k + 1) (better best c o)
      pick None e = none_more k c best v e h
      pick (Some m) e = some_more k m c best v e h

  -- a choice of the same numbers costs the same
  alike : (d : Choice) (filter book low : ℕ) (offset : ℤ) → d.filter ≡ filter → d.book ≡ book → d.low ≡ low → d.offset ≡ offset → cost (choice_of filter book low offset) ≡ cost d
  alike d filter book low offset f b l o =
      let make : ℕ → ℕ → ℕ → ℤ → Option ℕ = λ f b l o. cost (choice_of f b l o) in
      sym (ap (λ (x : ℕ). make x d.book d.low d.offset) f ∙ ap (λ (x : ℕ). make filter x d.low d.offset) b ∙ ap (λ (x : ℕ). make filter book x d.offset) l ∙ ap (λ (x : ℤ). make filter book low x) o)
      ∙ is.blind d 0

  covers_zero : (filter book low : ℕ) → book < 4 → low < 32 → Covers cost (place filter book low * 2) (choice_of filter book low (pos 0))
  covers_zero filter book low b l = record {
    rank_is = omega arith;
    same = λ d n costs r. elim (rank_parts d) [
      | inl p ↦
          let db = is.book d n costs in
          let dl = is.low d n costs in
          let e : place d.filter d.book d.low * 2 ≡ place filter book low * 2 = sym p.1 ∙ r in
          let fs : d.filter ≡ filter = omega (arith, e, b, l, db, dl) in
          let bs : d.book ≡ book = omega (arith, e, b, l, db, dl) in
          let ls : d.low ≡ low = omega (arith, e, b, l, db, dl) in
          alike d filter book low (pos 0) fs bs ls p.0 ∙ costs
      | inr p ↦ absurd (let e : place d.filter d.book d.low * 2 + 1 ≡ place filter book low * 2 = sym p.1 ∙ r in omega (arith, e))
    ];
  }

  most_rank : (filter book low : ℕ) (offset : ℤ) → rank (choice_of filter book low offset) ≤ place filter book low * 2 + 1
  most_rank filter book low offset = elim (rank_parts (choice_of filter book low offset)) [
    | inl p ↦ omega (arith, p.1)
    | inr p ↦ omega (arith, p.1)
  ]

  covers_mid : (filter book low : ℕ) → book < 4 → low < 32 → Covers cost (place filter book low * 2 + 1) (choice_of filter book low (mid filter))
  covers_mid filter book low b l = record {
    rank_is = most_rank filter book low (mid filter);
    same = λ d n costs r. elim (rank_parts d) [
      | inl p ↦ absurd (let e : place d.filter d.book d.low * 2 ≡ place filter book low * 2 + 1 = sym p.1 ∙ r in omega (arith, e))
      | inr p ↦
          let db = is.book d n costs in
          let dl = is.low d n costs in
          let e : place d.filter d.book d.low * 2 + 1 ≡ place filter book low * 2 + 1 = sym p.1 ∙ r in
          let fs : d.filter ≡ filter = omega (arith, e, b, l, db, dl) in
          let bs : d.book ≡ book = omega (arith, e, b, l, db, dl) in
          let ls : d.low ≡ low = omega (arith, e, b, l, db, dl) in
          alike d filter book low (mid filter) fs bs ls (offset_is d n costs p.0 ∙ ap mid fs) ∙ costs
    ];
  }
    where
      offset_is : (d : Choice) (n : ℕ) → cost d ≡ Some n → (d.offset ≡ pos 0 → ⊥) → d.offset ≡ mid d.filter
      offset_is d n costs some = elim (is.offset d n costs) [
        | inl z ↦ absurd (some z)
        | inr m ↦ m
      ]

  -- ---- lists

  offsets_best : (filter book low : ℕ) (best : Option Choice) → book < 4 → low < 32 → IsBest cost (place filter book low * 2) best
      → IsBest cost (place filter book low * 2 + 2) (least_from cost best (with_offsets filter (mid filter) book low))
  offsets_best filter book low best b l h =
      let first : Choice = choice_of filter book low (pos 0) in
      let one = one_more (place filter book low * 2) first best (covers_zero filter book low b l) h in
      let two = one_more (place filter book low * 2 + 1) (choice_of filter book low (mid filter)) (better best first (cost first)) (covers_mid filter book low b l) one in
      let e : place filter book low * 2 + 1 + 1 ≡ place filter book low * 2 + 2 = omega arith in
      subst (λ (k : ℕ). IsBest cost k (least_from cost best (with_offsets filter (mid filter) book low))) e two

  range_best : (f : ℕ → List Choice) (start width m : ℕ) → ((i : ℕ) (b : Option Choice) → i < m → IsBest cost (start + i * width) b → IsBest cost (start + i * width + width) (least_from cost b (f i)))
      → (n : ℕ) (best : Option Choice) → n ≤ m → IsBest cost start best → IsBest cost (start + n * width) (least_from cost best (flat_map f (range_with_len 0 n)))
  range_best f start width m step zero best le h = let e : start ≡ start + 0 * width = omega arith in subst (λ (k : ℕ). IsBest cost k best) e h
  range_best f start width m step (suc n) best le h =
      let before = range_best f start width m step n best (omega (arith, le)) h in
      let here = step n (least_from cost best (flat_map f (range_with_len 0 n))) (omega (arith, le)) before in
      let joined : least_from cost (least_from cost best (flat_map f (range_with_len 0 n))) (f n) ≡ least_from cost best (flat_map f (range_with_len 0 (suc n))) =
      sym (least_from-append cost best (flat_map f (range_with_len 0 n)) (f n)) ∙ ap (least_from cost best) (sym (rw add-one at (range_more f n))) in
      let e : start + n * width + width ≡ start + suc n * width = grind arith in
      subst (λ (b : Option Choice). IsBest cost (start + suc n * width) b) joined (subst (λ (k : ℕ). IsBest cost k (least_from cost (least_from cost best (flat_map f (range_with_len 0 n))) (f n))) e here)

  at_rank : (j k : ℕ) (best : Option Choice) → j ≡ k → IsBest cost j best → IsBest cost k best
  at_rank j k best e h = subst (λ (i : ℕ). IsBest cost i best) e h

  lows_best : (filter book : ℕ) (best : Option Choice) → book < 4 → IsBest cost (filter * 256 + book * 64) best → IsBest cost (filter * 256 + book * 64 + 64) (least_from cost best (with_lows filter (mid filter) book))
  lows_best filter book best b h =
      range_best (with_offsets filter (mid filter) book) (filter * 256 + book * 64) 2 32
      (λ low o lt k.
      at_rank (place filter book low * 2 + 2) (filter * 256 + book * 64 + low * 2 + 2) _ (omega arith) (offsets_best filter book low o b lt (at_rank (filter * 256 + book * 64 + low * 2) (place filter book low * 2) o (omega arith) k)))
      32 best (omega arith) h

  books_best : (filter : ℕ) (best : Option Choice) → IsBest cost (filter * 256) best → IsBest cost (filter * 256 + 256) (least_from cost best (with_books filter (mid filter)))
  books_best filter best h =
      range_best (with_lows filter (mid filter)) (filter * 256) 64 4 (λ book o lt k. lows_best filter book o lt k) 4 best (omega arith) h

  -- the best of filter 0 costs no more than any of its choices
  pub first_within : (best : Option Choice) → best ≡ least_from cost None (with_books 0 (mid 0)) → IsWithinFirst cost best
  first_within best e =
      let none : IsBest cost (0 * 256) None = λ d n costs below. absurd (omega (arith, below)) in
      subst (λ (b : Option Choice). IsWithinFirst cost b) (sym e) (within (least_from cost None (with_books 0 (mid 0))) (books_best 0 None none))
    where
      below : (c : Choice) (n : ℕ) → c.filter ≡ 0 → cost c ≡ Some n → rank c < 256
      below c n first costs =
          let b = is.book c n costs in
          let l = is.low c n costs in
          elim (rank_parts c) [
            | inl p ↦ omega (arith, p.1, first, b, l)
            | inr p ↦ omega (arith, p.1, first, b, l)
          ]

      within : (o : Option Choice) → IsBest cost (0 * 256 + 256) o → IsWithinFirst cost o
      within None h = λ c n first costs. absurd (h c n costs (below c n first costs))
      within (Some b) h = λ c n first costs. le-ltb n b.bits (h.least c n costs (below c n first costs))

  pub filters_best : (best : Option Choice) → IsBest cost 0 best → IsBest cost 4608 (least_from cost best (flat_map (λ n. with_books n (mid n)) (range_with_len 0 18)))
  filters_best best h =
      range_best (λ n. with_books n (mid n)) 0 256 18
      (λ n o lt k. at_rank (n * 256 + 256) (0 + n * 256 + 256) _ (omega arith) (books_best n o (at_rank (0 + n * 256) (n * 256) o (omega arith) k)))
      18 best (omega arith) h

  below_all : (c : Choice) (n : ℕ) → cost c ≡ Some n → rank c < 4608
  below_all c n costs =
      let f = is.filter c n costs in
      let b = is.book c n costs in
      let l = is.low c n costs in
      elim (rank_parts c) [
        | inl p ↦ omega (arith, p.1, f, b, l)
        | inr p ↦ omega (arith, p.1, f, b, l)
      ]

  pub least_is : (c : Choice) → IsBestOf cost 4608 c → IsLeast cost c
  least_is c h = record { costs = h.costs; least = λ d n costs. h.least d n costs (below_all d n costs); first = h.first }

  pub never_none : (c : Choice) (n : ℕ) → cost c ≡ Some n → IsBest cost 4608 None → ⊥
  never_none c n costs h = h c n costs (below_all c n costs)

  -- ---- there is one

  full : ℕ → ℕ → ℕ → ℤ → ℕ → Choice
  full f b l o k = record { filter = f; book = b; low = l; offset = o; bits = k }

  equal : (c d : Choice) → c.filter ≡ d.filter → c.book ≡ d.book → c.low ≡ d.low → c.offset ≡ d.offset → c.bits ≡ d.bits → c ≡ d
  unfolding full
  equal c d f b l o k =
      let one : c ≡ full d.filter c.book c.low c.offset c.bits = ap (λ (x : ℕ). full x c.book c.low c.offset c.bits) f in
      let two : full d.filter c.book c.low c.offset c.bits ≡ full d.filter d.book c.low c.offset c.bits = ap (λ (x : ℕ). full d.filter x c.low c.offset c.bits) b in
      let three : full d.filter d.book c.low c.offset c.bits ≡ full d.filter d.book d.low c.offset c.bits = ap (λ (x : ℕ). full d.filter d.book x c.offset c.bits) l in
      let four : full d.filter d.book d.low c.offset c.bits ≡ full d.filter d.book d.low d.offset c.bits = ap (λ (x : ℤ). full d.filter d.book d.low x c.bits) o in
      let five : full d.filter d.book d.low d.offset c.bits ≡ d = ap (λ (x : ℕ). full d.filter d.book d.low d.offset x) k in
      one ∙ two ∙ three ∙ four ∙ five

  middle_is : (x : Choice) (k : ℕ) → cost x ≡ Some k → (x.offset ≡ pos 0 → ⊥) → x.offset ≡ mid x.filter
  middle_is x k costs some = elim (is.offset x k costs) [
    | inl z ↦ absurd (some z)
    | inr o ↦ o
  ]

  same_place : (c d : Choice) (m n : ℕ) → cost c ≡ Some m → cost d ≡ Some n → place c.filter c.book c.low ≡ place d.filter d.book d.low → (c.filter ≡ d.filter) × (c.book ≡ d.book) × (c.low ≡ d.low)
  same_place c d m n cm dn e =
      let cb = is.book c m cm in
      let cl = is.low c m cm in
      let db = is.book d n dn in
      let dl = is.low d n dn in
      let f : c.filter ≡ d.filter = omega (arith, e, cb, cl, db, dl) in
      let b : c.book ≡ d.book = omega (arith, e, cb, cl, db, dl) in
      let l : c.low ≡ d.low = omega (arith, e, cb, cl, db, dl) in
      (f, b, l)

  same_rank : (c d : Choice) (m n : ℕ) → cost c ≡ Some m → cost d ≡ Some n → rank c ≡ rank d → c.bits ≡ d.bits → c ≡ d
  same_rank c d m n cm dn r bits = elim (rank_parts c) [
    | inl p ↦ elim (rank_parts d) [
      | inl q ↦
          let e : place c.filter c.book c.low * 2 ≡ place d.filter d.book d.low * 2 = sym p.1 ∙ r ∙ q.1 in
          let s = same_place c d m n cm dn (omega (arith, e)) in
          equal c d s.0 s.1 s.2 (p.0 ∙ sym q.0) bits
      | inr q ↦ absurd (let e : place c.filter c.book c.low * 2 ≡ place d.filter d.book d.low * 2 + 1 = sym p.1 ∙ r ∙ q.1 in omega (arith, e))
    ]
    | inr p ↦ elim (rank_parts d) [
      | inl q ↦ absurd (let e : place c.filter c.book c.low * 2 + 1 ≡ place d.filter d.book d.low * 2 = sym p.1 ∙ r ∙ q.1 in omega (arith, e))
      | inr q ↦
          let e : place c.filter c.book c.low * 2 + 1 ≡ place d.filter d.book d.low * 2 + 1 = sym p.1 ∙ r ∙ q.1 in
          let s = same_place c d m n cm dn (omega (arith, e)) in
          equal c d s.0 s.1 s.2 (middle_is c m cm p.0 ∙ ap mid s.0 ∙ sym (middle_is d n dn q.0)) bits
    ]
  ]

  pub one_least : (c d : Choice) → IsLeast cost c → IsLeast cost d → c ≡ d
  one_least c d h k =
      let le = h.least d d.bits k.costs in
      let ge = k.least c c.bits h.costs in
      let bits : c.bits ≡ d.bits = omega (arith, le, ge) in
      elim (cases_lt (rank c) (rank d)) [
        | inl lt ↦ absurd (let n = k.first c c.bits h.costs lt in omega (arith, n, bits))
        | inr more ↦ elim (cases_lt (rank d) (rank c)) [
          | inl lt ↦ absurd (let n = h.first d d.bits k.costs lt in omega (arith, n, bits))
          | inr less ↦ same_rank c d c.bits d.bits h.costs k.costs (omega (arith, more, less)) bits
        ]
      ]
