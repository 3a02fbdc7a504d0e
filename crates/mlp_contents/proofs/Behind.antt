-- Behind the segments of a unit that were read so far.
use Rattle.std.proofs.Common.{◌≡◌, ◌≢◌, ℕ, zero, suc, ◌+◌, ◌-◌, ◌<◌, ◌≤◌, Bool, true, false, cond, eqb, leb, List, [], ◌∷◌, ◌++◌, length, take, get_or, set, Option, Some, None, refl, sym, ap, subst, ◌∙◌, arith, ℤ}
use Rattle.std.specs.Prelude.{is_some, IfSome, ◌&&◌, ◌||◌, ◌⊎◌}
use Rattle.std.proofs.Common.{inl, inr}
use Rattle.std.specs.List.{All, list_any}
use Rattle.std.proofs.lemmas.List.{length-set, get_or-set_same, get_or-set_other, take_more_set, take_all, get_or_push, length_push}
use Rattle.std.proofs.lemmas.List.Folds.{list_any-append}
use Rattle.std.proofs.lemmas.List.Elements.{All-head}
use Rattle.std.proofs.lemmas.Bool.{cases_lt, eqb-true}
use Rattle.std.proofs.Common.{eq-eqb}
use Rattle.mlp_syntax.specs.declared.fault.Field.{Field}
use Rattle.mlp_syntax.specs.declared.fault.Field.TheVariants as rule
use Rattle.mlp_syntax.specs.declared.restart.Restart.{Restart}
use Rattle.mlp_syntax.specs.declared.segment.BlockHead.{BlockHead}
use Rattle.mlp_syntax.specs.declared.segment.Segment.{Segment}
use Rattle.mlp_bits.specs.Bits.{bit}
use Rattle.mlp_layout.specs.Combined.{fault_or}
use Rattle.mlp_residual.specs.Frames.{packed}
use Rattle.mlp_params.specs.declared.state.State.{State}
use Rattle.mlp_params.proofs.RestartRanges.{ranges}
use Rattle.mlp_substream.specs.declared.known.Place.{Place}
use Rattle.mlp_substream.specs.declared.known.Known.{Known}
use Rattle.mlp_substream.specs.declared.known.Ending.{Ending}
use Rattle.mlp_substream.specs.Restarts.{agrees, all_covered, covers, RestartHolds}
use Rattle.mlp_substream.specs.Blocks.{force_after, ForceFits}
use Rattle.mlp_substream.specs.Playable.{ArePlayable}
use Rattle.mlp_channels.specs.Channels.{Coded, codes_channel, coded_after, nothing_coded, HasPlayed}
use Rattle.mlp_contents.specs.Known.{ending_of, first_restart, has_channel, covered_by, known_by}
use Rattle.mlp_contents.specs.Units.{coded_at, coded_each, top_of}
use Rattle.mlp_contents.specs.Inner.{is_coded_in, IsCovered}
use Rattle.mlp_contents.specs.Read.{ForcesAre, HaveChannels, HasRead}
use Rattle.mlp_contents.proofs.Coverage.{has_any, bit_covered, any_more}
use Rattle.mlp_contents.proofs.ChannelLists.{force_behind, each_none, each_more, each_at, length-each, have_none, have_more}
use Rattle.mlp_contents.proofs.ReadSegments.{restart_in, coded_by_restart, blocks_keep, blocks_restart, IsRead, frames_same, end_same}

-- ---- a substream changes among others

module _ (xs : List Coded) (j : ℕ) (y : Coded) (lt : j < length xs) where
  pub forces_set : (place : Place) → ForcesAre place xs → ForceFits place y.force → ForcesAre place (set xs j y)
  forces_set place h k i = elim (same_or i) [
    | inl e ↦ subst (λ (x : Coded). ForceFits place x.force) (sym (ap (λ (n : ℕ). get_or (set xs j y) n nothing_coded) e ∙ get_or-set_same xs j y nothing_coded lt)) k
    | inr ne ↦ subst (λ (x : Coded). ForceFits place x.force) (sym (get_or-set_other xs j i y nothing_coded ne)) (h i)
  ]
    where
      same_or : (i : ℕ) → (i ≡ j) ⊎ (i ≢ j)
      same_or i = by_test (eqb i j) refl
        where
          by_test : (b : Bool) → eqb i j ≡ b → (i ≡ j) ⊎ (i ≢ j)
          by_test true e = inl (eqb-true i j e)
          by_test false e = inr (λ same. absurd (let f = eq-eqb i j same in cc))

-- one that codes the same channels
coded_set : (xs : List Coded) (j : ℕ) (y : Coded) (c : ℕ) → codes_channel y.force c ≡ codes_channel (coded_at xs j).force c → is_coded_in (set xs j y) c ≡ is_coded_in xs c
coded_set [] j y c e = refl
coded_set (x ∷ xs) zero y c e = ap (λ (b : Bool). b || is_coded_in xs c) e
coded_set (x ∷ xs) (suc j) y c e = ap (λ (b : Bool). codes_channel x.force c || b) (coded_set xs j y c e)

one_more_coded : (xs : List Coded) (y : Coded) (c : ℕ) → is_coded_in (xs ++ y ∷ []) c ≡ (is_coded_in xs c || codes_channel y.force c)
one_more_coded xs y c = list_any-append (λ (x : Coded). codes_channel x.force c) xs (y ∷ []) ∙ ap (λ (b : Bool). is_coded_in xs c || b) (or_false (codes_channel y.force c))
  where
    or_false : (b : Bool) → (b || false) ≡ b
    or_false true = refl
    or_false false = refl

-- ---- the rule on covered channels

covered_all : (covered min max n c : ℕ) → all_covered covered min max n ≡ true → c < n → (bit covered c || (leb min c && leb c max)) ≡ true
unfolding all_covered
covered_all covered min max zero c h lt = absurd (omega arith)
covered_all covered min max (suc n) c h lt = elim (cases_lt c n) [
  | inl less ↦ covered_all covered min max n c (second _ _ h) less
  | inr ge ↦ (let same : c ≡ n = omega arith in subst (λ (k : ℕ). (bit covered k || (leb min k && leb k max)) ≡ true) (sym same) (first _ _ h))
]
  where
    first : (a b : Bool) → (a && b) ≡ true → a ≡ true
    first true b e = refl
    first false b e = absurd cc

    second : (a b : Bool) → (a && b) ≡ true → b ≡ true
    second true b e = e
    second false b e = absurd cc

-- the second of the rules on a restart
covers_holds : (k : Known) (r : Restart) → RestartHolds k r → covers k.covered r ≡ true
covers_holds k r h = by_case (agrees k.max_matrix r.max_matrix) (covers k.covered r) _ h
  where
    by_case : (a b : Bool) (later : Option (Field × ℕ)) → fault_or rule.ChannelsChanged (cond {A = Option ℕ} a None (Some 38)) (fault_or rule.Uncovered (cond {A = Option ℕ} b None (Some 38)) later) ≡ None → b ≡ true
    by_case true true later e = refl
    by_case true false later e = absurd cc
    by_case false b later e = absurd cc

-- ---- what is covered

covered_along : (f g : Option State) (xs zs : List Coded) → restart_in g ≡ restart_in f → ((c : ℕ) → is_coded_in zs c ≡ is_coded_in xs c) → IsCovered f xs → IsCovered g zs
covered_along f None xs zs e same h = tt
covered_along None (Some t) xs zs e same h = absurd cc
covered_along (Some s) (Some t) xs zs e same h = λ c le. let r : t.restart ≡ s.restart = cc in same c ∙ h c (subst (λ (q : Restart). c ≤ q.max_matrix) r le)

covered_fresh : (g : Option State) (r : Restart) (zs : List Coded) → restart_in g ≡ Some r → ((c : ℕ) → c ≤ r.max_matrix → is_coded_in zs c ≡ true) → IsCovered g zs
covered_fresh None r zs e h = tt
covered_fresh (Some t) r zs e h = λ c le. let q : t.restart ≡ r = cc in h c (subst (λ (u : Restart). c ≤ u.max_matrix) q le)

few_channels : (place : Place) (g : Option State) (r : Restart) → ForceFits place g → restart_in g ≡ Some r → r.max_matrix ≤ 7
few_channels place None r fits e = absurd cc
few_channels place (Some t) r fits e =
    let q : t.restart ≡ r = cc in
    let w = ranges t.format t.restart fits.lawful.restart in
    subst (λ (u : Restart). u.max_matrix ≤ 7) q (omega (arith, w.same, w.at_most_7))

-- ---- the invariant

pub record Behind (place : Place) (xs : List Coded) (before : List Segment) (covered : ℕ) (first : Option Ending) (now : List Coded) (top : Segment) (frames : List (List ℤ)) : Type 0 where
  pub now_is : now ≡ coded_each place xs before
  pub forces : ForcesAre place now
  pub covered_is : covered ≡ covered_by before
  pub first_is : first ≡ ending_of before
  pub top_is : before ≢ [] → top ≡ top_of (length before - 1) before
  pub same : (e : Ending) → first ≡ Some e → (length top.codes.items ≡ e.frames) × (is_some top.terminator ≡ e.terminator)
  pub ends : before ≢ [] → list_any (λ s. is_some s.terminator) before ≡ is_some top.terminator
  pub have : HaveChannels place xs before (length top.codes.items) frames
  pub kept : place.major ≡ false → (c : ℕ) → is_coded_in now c ≡ is_coded_in xs c
  pub fresh : place.major ≡ true → (c : ℕ) → is_coded_in (take (length before) now) c ≡ has_any before c
  pub full : length before ≡ length xs → IsCovered (coded_at now (length xs - 1)).force now

-- the substream behind them is as it was
pub substream_is : (place : Place) (xs : List Coded) (before : List Segment) (covered : ℕ) (first : Option Ending) (now : List Coded) (top : Segment) (frames : List (List ℤ)) → Behind place xs before covered first now top frames
    → coded_at now (length before) ≡ coded_at xs (length before)
substream_is place xs before covered first now top frames b = ap (λ (t : List Coded). coded_at t (length before)) b.now_is ∙ each_at place xs before

pub behind_starts : (place : Place) (xs : List Coded) (top : Segment) (frames : List (List ℤ)) → 1 ≤ length xs → ForcesAre place xs → Behind place xs [] 0 None xs top frames
unfolding packed
behind_starts place xs top frames some forces = record {
  now_is = sym (each_none place xs);
  forces = forces;
  covered_is = refl;
  first_is = refl;
  top_is = λ there. absurd (there refl);
  same = λ e is. absurd cc;
  ends = λ there. absurd (there refl);
  have = have_none place xs (length top.codes.items) frames;
  kept = λ major c. refl;
  fresh = λ major c. refl;
  full = λ whole. absurd (omega (arith, some));
}

abbrev end_of : Segment → Ending
end_of s = record { frames = length s.codes.items; terminator = is_some s.terminator }

abbrev none_ending : Option Ending
none_ending = None

abbrev some_ending : Ending → Option Ending
some_ending e = Some e

pub first_ending : (before : List Segment) (s : Segment) → none_ending ≡ ending_of before → {e : Ending} → e ≡ end_of s → some_ending e ≡ ending_of (before ++ s ∷ [])
first_ending [] s none {e} is = ap some_ending is
first_ending (b ∷ before) s none is = absurd cc

pub same_ending : (before : List Segment) (s : Segment) (e : Ending) → some_ending e ≡ ending_of before → some_ending e ≡ ending_of (before ++ s ∷ [])
same_ending [] s e is = absurd cc
same_ending (b ∷ before) s e is = is

-- substream 0 is this one, or one before it
which_first : (before : List Segment) (s : Segment) (first later : Option Ending) → first ≡ ending_of before → later ≡ ending_of (before ++ s ∷ []) → (e : Ending) → later ≡ Some e → (e ≡ end_of s) ⊎ (first ≡ Some e)
which_first [] s first later f l e is = inl (let h : some_ending e ≡ some_ending (end_of s) = sym is ∙ l in cc)
which_first (b ∷ before) s first later f l e is = inr (f ∙ sym l ∙ is)

some_first : (before : List Segment) (first : Option Ending) → first ≡ ending_of before → before ≢ [] → (e : Ending) × (first ≡ Some e)
some_first [] first f some = absurd (some refl)
some_first (b ∷ before) first f some = (end_of b, f)

ends_more : (before : List Segment) (s : Segment) → (before ≢ [] → list_any (λ t. is_some t.terminator) before ≡ is_some s.terminator) → list_any (λ t. is_some t.terminator) (before ++ s ∷ []) ≡ is_some s.terminator
ends_more [] s h = once (is_some s.terminator)
  where
    once : (b : Bool) → (b || false) ≡ b
    once true = refl
    once false = refl
ends_more (b ∷ before) s h =
    list_any-append (λ (t : Segment). is_some t.terminator) (b ∷ before) (s ∷ []) ∙ ap (λ (x : Bool). x || (is_some s.terminator || false)) (h (λ none. cc)) ∙ twice (is_some s.terminator)
  where
    twice : (b : Bool) → (b || (b || false)) ≡ b
    twice true = refl
    twice false = refl

module _ (place : Place) (xs : List Coded) (before : List Segment) (s : Segment) (check covered : ℕ) (first : Option Ending) (now : List Coded) (top : Segment) (old new : List (List ℤ)) (is_last : Bool)
    (b : Behind place xs before covered first now top old) (lt : length before < length xs) (last_is : length before + 1 ≡ length xs → is_last ≡ true)
    (r : IsRead place (known_by is_last (coded_at now (length before)).force check covered first) (coded_at now (length before)).force s) where
  abbrev j : ℕ
  j = length before

  abbrev x : Coded
  x = coded_at now j

  abbrev y : Coded
  y = coded_after place x s

  abbrev k : Known
  k = known_by is_last x.force check covered first

  long : length now ≡ length xs
  long = ap length b.now_is ∙ length-each place xs before

  within : j < length now
  within = omega (arith, long, lt)

  x_is : x ≡ coded_at xs j
  x_is = substream_is place xs before covered first now top old b

  now_more : set now j y ≡ coded_each place xs (before ++ s ∷ [])
  now_more = ap (λ (t : List Coded). set t j y) b.now_is ∙ ap (λ (z : Coded). set (coded_each place xs before) j (coded_after place z s)) x_is ∙ sym (each_more place xs before s lt)

  -- the segment before it has as many frames, and ends in the same way
  as_before : before ≢ [] → (length top.codes.items ≡ length s.codes.items) × (is_some top.terminator ≡ is_some s.terminator)
  as_before some =
      let f = some_first before first b.first_is some in
      let was = b.same f.0 f.1 in
      (was.0 ∙ sym (frames_same place k x.force s f.0 r f.1), was.1 ∙ sym (end_same place k x.force s f.0 r f.1))

  same_more : (later : Option Ending) → later ≡ ending_of (before ++ s ∷ []) → (e : Ending) → later ≡ Some e → (length s.codes.items ≡ e.frames) × (is_some s.terminator ≡ e.terminator)
  same_more later l e is = elim (which_first before s first later b.first_is l e is) [
    | inl here ↦ (ap (λ (z : Ending). z.frames) (sym here), ap (λ (z : Ending). z.terminator) (sym here))
    | inr there ↦ (frames_same place k x.force s e r there, end_same place k x.force s e r there)
  ]

  -- which channels it codes
  codes_kept : place.major ≡ false → restart_in y.force ≡ restart_in x.force
  codes_kept major =
      ap restart_in (force_behind place x s) ∙ blocks_keep place x.force s.blocks.items s.codes.items (subst (λ (due : Bool). ArePlayable place due x.force s.blocks.items s.codes.items) major r.plays)

  record Restarts : Type 0 where
    header : Restart
    given : first_restart s.blocks.items ≡ Some header
    in_force : restart_in y.force ≡ Some header
    holds : RestartHolds k header

  codes_fresh : place.major ≡ true → Restarts
  codes_fresh major = by_case s.blocks.items refl (subst (λ (due : Bool). ArePlayable place due x.force s.blocks.items s.codes.items) major r.plays)
    where
      held : (o : Option Restart) (h : Restart) → o ≡ Some h → IfSome o (λ q. RestartHolds k q) → RestartHolds k h
      held o h e i = rw e at i

      by_case : (hs : List BlockHead) → s.blocks.items ≡ hs → ArePlayable place true x.force hs s.codes.items → Restarts
      by_case [] e p = absurd (r.some e)
      by_case (h ∷ hs) e p =
          let q = blocks_restart place x.force h hs s.codes.items p in
          record {
            header = q.0;
            given = ap first_restart e ∙ q.1;
            in_force = ap restart_in (force_behind place x s ∙ ap (force_after place x.force) e) ∙ q.2;
            holds = held h.restart q.0 q.1 (All-head (λ g. IfSome g.restart (λ z. RestartHolds k z)) h hs (subst (λ (gs : List BlockHead). All (λ g. IfSome g.restart (λ z. RestartHolds k z)) gs) e r.as_known.restarts));
          }

  kept_more : place.major ≡ false → (c : ℕ) → is_coded_in (set now j y) c ≡ is_coded_in xs c
  kept_more major c =
      coded_set now j y c (coded_by_restart y.force c ∙ ap (has_channel c) (codes_kept major) ∙ sym (coded_by_restart x.force c)) ∙ b.kept major c

  front_more : take (j + 1) (set now j y) ≡ take j now ++ y ∷ []
  front_more = take_more_set now j y within

  codes_given : place.major ≡ true → (c : ℕ) → codes_channel y.force c ≡ has_channel c (first_restart s.blocks.items)
  codes_given major c = let q = codes_fresh major in coded_by_restart y.force c ∙ ap (has_channel c) (q.in_force ∙ sym q.given)

  fresh_more : place.major ≡ true → (c : ℕ) → is_coded_in (take (j + 1) (set now j y)) c ≡ has_any (before ++ s ∷ []) c
  fresh_more major c =
      ap (λ (t : List Coded). is_coded_in t c) front_more ∙ one_more_coded (take j now) y c
      ∙ ap (λ (a : Bool). a || codes_channel y.force c) (b.fresh major c) ∙ ap (λ (a : Bool). has_any before c || a) (codes_given major c) ∙ sym (any_more before s c)

  module _ (whole : j + 1 ≡ length xs) (start : IsCovered (coded_at xs j).force xs) (fits : ForceFits place y.force) where
    all_here : set now j y ≡ take (j + 1) (set now j y)
    all_here = sym (take_all (j + 1) (set now j y) (omega (arith, length-set now j y, long, whole)))

    covered_here : (q : Restarts) → place.major ≡ true → (c : ℕ) → c ≤ q.header.max_matrix → is_coded_in (set now j y) c ≡ true
    covered_here q major c le =
        let last : k.covered ≡ Some covered = ap (λ (a : Bool). cond {A = Option ℕ} a (Some covered) None) (last_is whole) in
        let h = subst (λ (o : Option ℕ). covers o q.header ≡ true) last (covers_holds k q.header q.holds) in
        let each = covered_all covered q.header.min q.header.max (q.header.max_matrix + 1) c h (omega (arith, le)) in
        let small : c < 8 = omega (arith, le, few_channels place y.force q.header fits q.in_force) in
        let before_it : bit covered c ≡ has_any before c = ap (λ (n : ℕ). bit n c) b.covered_is ∙ bit_covered before c small in
        let here : has_channel c (first_restart s.blocks.items) ≡ (leb q.header.min c && leb c q.header.max) = ap (has_channel c) q.given in
        ap (λ (t : List Coded). is_coded_in t c) all_here ∙ fresh_more major c ∙ any_more before s c ∙ ap (λ (a : Bool). has_any before c || a) here
        ∙ ap (λ (a : Bool). a || (leb q.header.min c && leb c q.header.max)) (sym before_it) ∙ each

    covered_more : IsCovered y.force (set now j y)
    covered_more = by_case place.major refl
      where
        by_case : (major : Bool) → place.major ≡ major → IsCovered y.force (set now j y)
        by_case false e = covered_along (coded_at xs j).force y.force xs (set now j y) (codes_kept e ∙ ap (λ (z : Coded). restart_in z.force) x_is) (kept_more e) start
        by_case true e = let q = codes_fresh e in covered_fresh y.force q.header (set now j y) q.in_force (covered_here q e)

  pub behind_more : IsCovered (coded_at xs (length xs - 1)).force xs → ForceFits place y.force → HasPlayed place x s (length s.codes.items) old new
      → (covers : ℕ) → covers ≡ covered_by (before ++ s ∷ []) → (later : Option Ending) → later ≡ ending_of (before ++ s ∷ []) → Behind place xs (before ++ s ∷ []) covers later (set now j y) s new
  behind_more start fits played covers covers_is later later_is = record {
    now_is = now_more;
    forces = forces_set now j y within place b.forces fits;
    covered_is = covers_is;
    first_is = later_is;
    top_is = λ there. sym (get_or_push before s _ _ (omega (arith, length_push before s)));
    same = same_more later later_is;
    ends = λ there. ends_more before s (λ some. b.ends some ∙ (as_before some).1);
    have = have_more place xs before s (length top.codes.items) (length s.codes.items) old new lt (λ some. (as_before some).0) b.have
        (subst (λ (z : Coded). HasPlayed place z s (length s.codes.items) old new) x_is played);
    kept = kept_more;
    fresh = λ major c. ap (λ (n : ℕ). is_coded_in (take n (set now j y)) c) (length_push before s) ∙ fresh_more major c;
    full = λ whole.
        let n : j + 1 ≡ length xs = sym (length_push before s) ∙ whole in
        let last : length xs - 1 ≡ j = omega (arith, n) in
        let at : coded_at (set now j y) (length xs - 1) ≡ y = ap (λ (i : ℕ). get_or (set now j y) i nothing_coded) last ∙ get_or-set_same now j y nothing_coded within in
        subst (λ (z : Coded). IsCovered z.force (set now j y)) (sym at)
        (covered_more n (subst (λ (i : ℕ). IsCovered (coded_at xs i).force xs) last start) fits);
  }

-- the next segment that is read, of the substream with this number
pub record IsNext (place : Place) (xs : List Coded) (check covered : ℕ) (first : Option Ending) (now : List Coded) (is_last : Bool) (s : Segment) (old new : List (List ℤ)) (at : ℕ) : Type 0 where
  pub lt : at < length xs
  pub last_is : at + 1 ≡ length xs → is_last ≡ true
  pub read : IsRead place (known_by is_last (coded_at now at).force check covered first) (coded_at now at).force s
  pub fits : ForceFits place (coded_after place (coded_at now at) s).force
  pub played : HasPlayed place (coded_at now at) s (length s.codes.items) old new

pub behind_next : (place : Place) (xs : List Coded) (before : List Segment) (s : Segment) (check covered : ℕ) (first : Option Ending) (now : List Coded) (top : Segment) (old new : List (List ℤ)) (is_last : Bool) (at : ℕ)
    → Behind place xs before covered first now top old → length before ≡ at → IsCovered (coded_at xs (length xs - 1)).force xs → IsNext place xs check covered first now is_last s old new at
    → (covers : ℕ) → covers ≡ covered_by (before ++ s ∷ []) → (later : Option Ending) → later ≡ ending_of (before ++ s ∷ [])
    → Behind place xs (before ++ s ∷ []) covers later (set now at (coded_after place (coded_at now at) s)) s new
behind_next place xs before s check covered first now top old new is_last at b count start next covers covers_is later later_is =
    let here = subst (IsNext place xs check covered first now is_last s old new) (sym count) next in
    subst (λ (n : ℕ). Behind place xs (before ++ s ∷ []) covers later (set now n (coded_after place (coded_at now n) s)) s new) count
    (behind_more place xs before s check covered first now top old new is_last b here.lt here.last_is here.read start here.fits here.played covers covers_is later later_is)

-- behind all of them
pub behind_all : (place : Place) (xs : List Coded) (ss : List Segment) (covered : ℕ) (first : Option Ending) (now : List Coded) (top : Segment) (frames : List (List ℤ)) → 1 ≤ length xs → length ss ≡ length xs
    → Behind place xs ss covered first now top frames → HasRead place xs now ss top frames
behind_all place xs ss covered first now top frames some count b =
    let there : ss ≢ [] = λ none. omega (arith, some, count, ap length none) in
    record {
      count = count;
      top_is = b.top_is there ∙ ap (λ (n : ℕ). top_of (n - 1) ss) count;
      coded = b.now_is;
      forces = b.forces;
      covered = b.full count;
      ended = b.ends there;
      frames_have = b.have;
    }
