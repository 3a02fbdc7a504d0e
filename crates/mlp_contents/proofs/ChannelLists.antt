-- The channels of a unit's frames, by one more segment.
use Rattle.std.proofs.Common.{◌≡◌, ◌≢◌, ℕ, suc, ◌+◌, ◌<◌, ◌≤◌, Bool, true, false, cond, List, [], ◌∷◌, ◌++◌, length, take, get_or, set, map, Option, refl, sym, ap, ◌∙◌, arith, ℤ, pos}
use Rattle.std.specs.List.{range_with_len}
use Rattle.std.proofs.lemmas.List.{length-map, length-take-le, get_or-take, get_or-map, same_lists, get_or_default}
use Rattle.std.proofs.lemmas.List.FromFn.{length-map-range_with_len, get_or-map-range_with_len}
use Rattle.mlp_syntax.specs.declared.segment.Segment.{Segment}
use Rattle.mlp_params.specs.declared.state.State.{State}
use Rattle.mlp_substream.specs.declared.known.Place.{Place}
use Rattle.mlp_substream.specs.Blocks.{force_after}
use Rattle.mlp_channels.specs.Channels.{Coded, codes_channel, outputs_in, coded_after, column, HasPlayed}
use Rattle.mlp_contents.specs.Frames.{is_coded_by, channel, frames_of}
use Rattle.mlp_contents.specs.Units.{coded_at, coded_each}
use Rattle.mlp_contents.specs.Read.{HaveChannels}

abbrev pub force_here : Place → Coded → Segment → Option State
force_here place x s = force_after place x.force s.blocks.items

pub force_behind : (place : Place) (x : Coded) (s : Segment) → (coded_after place x s).force ≡ force_here place x s
unfolding coded_after
force_behind place x s = refl

-- ---- substreams behind one more segment

pub each_none : (place : Place) (xs : List Coded) → coded_each place xs [] ≡ xs
each_none place [] = refl
each_none place (x ∷ xs) = refl

pub each_more : (place : Place) (xs : List Coded) (before : List Segment) (s : Segment) → length before < length xs
    → coded_each place xs (before ++ s ∷ []) ≡ set (coded_each place xs before) (length before) (coded_after place (coded_at xs (length before)) s)
each_more place [] before s lt = absurd (omega arith)
each_more place (x ∷ xs) [] s lt = ap (λ (t : List Coded). coded_after place x s ∷ t) (each_none place xs)
each_more place (x ∷ xs) (b ∷ before) s lt = ap (λ (t : List Coded). coded_after place x b ∷ t) (each_more place xs before s (omega arith))

pub each_at : (place : Place) (xs : List Coded) (before : List Segment) → coded_at (coded_each place xs before) (length before) ≡ coded_at xs (length before)
each_at place [] before = refl
each_at place (x ∷ xs) [] = refl
each_at place (x ∷ xs) (b ∷ before) = each_at place xs before

pub length-each : (place : Place) (xs : List Coded) (ss : List Segment) → length (coded_each place xs ss) ≡ length xs
length-each place [] ss = refl
length-each place (x ∷ xs) [] = refl
length-each place (x ∷ xs) (s ∷ ss) = ap suc (length-each place xs ss)

-- ---- channels with one more segment

abbrev pub codes_here : Place → List Coded → List Segment → Segment → ℕ → Bool
codes_here place xs before s c = codes_channel (force_here place (coded_at xs (length before)) s) c

none_coded : (place : Place) (xs : List Coded) (c : ℕ) → is_coded_by place xs [] c ≡ false
none_coded place [] c = refl
none_coded place (x ∷ xs) c = refl

either_true : (b : Bool) → cond {A = Bool} b true true ≡ true
either_true true = refl
either_true false = refl

coded_here : (place : Place) (xs : List Coded) (before : List Segment) (s : Segment) (c : ℕ) → length before < length xs → codes_here place xs before s c ≡ true → is_coded_by place xs (before ++ s ∷ []) c ≡ true
coded_here place [] before s c lt h = absurd (omega arith)
coded_here place (x ∷ xs) [] s c lt h = ap (λ (b : Bool). cond {A = Bool} b true (is_coded_by place xs [] c)) h
coded_here place (x ∷ xs) (b ∷ before) s c lt h =
    ap (λ (t : Bool). cond {A = Bool} (codes_channel (force_here place x b) c) true t) (coded_here place xs before s c (omega arith) h) ∙ either_true (codes_channel (force_here place x b) c)

coded_before : (place : Place) (xs : List Coded) (before : List Segment) (s : Segment) (c : ℕ) → length before < length xs
    → codes_here place xs before s c ≡ false → is_coded_by place xs (before ++ s ∷ []) c ≡ is_coded_by place xs before c
coded_before place [] before s c lt h = absurd (omega arith)
coded_before place (x ∷ xs) [] s c lt h = ap (λ (b : Bool). cond {A = Bool} b true (is_coded_by place xs [] c)) h ∙ none_coded place xs c
coded_before place (x ∷ xs) (b ∷ before) s c lt h = ap (λ (t : Bool). cond {A = Bool} (codes_channel (force_here place x b) c) true t) (coded_before place xs before s c (omega arith) h)

channel_here : (place : Place) (xs : List Coded) (before : List Segment) (s : Segment) (c : ℕ) → length before < length xs → codes_here place xs before s c ≡ true
    → channel place xs (before ++ s ∷ []) c ≡ outputs_in place (coded_at xs (length before)) s c
channel_here place [] before s c lt h = absurd (omega arith)
channel_here place (x ∷ xs) [] s c lt h = rw (none_coded place xs c, h) refl
channel_here place (x ∷ xs) (b ∷ before) s c lt h = rw (coded_here place xs before s c (omega arith) h) (channel_here place xs before s c (omega arith) h)

channel_before : (place : Place) (xs : List Coded) (before : List Segment) (s : Segment) (c : ℕ) → length before < length xs
    → codes_here place xs before s c ≡ false → channel place xs (before ++ s ∷ []) c ≡ channel place xs before c
channel_before place [] before s c lt h = absurd (omega arith)
channel_before place (x ∷ xs) [] s c lt h = rw (none_coded place xs c, h) refl
channel_before place (x ∷ xs) (b ∷ before) s c lt h = rw (coded_before place xs before s c (omega arith) h, channel_before place xs before s c (omega arith) h) refl

-- before the first segment
pub have_none : (place : Place) (xs : List Coded) (n : ℕ) (frames : List (List ℤ)) → HaveChannels place xs [] n frames
have_none place xs n frames c h = absurd (let e = none_coded place xs c in cc)

-- behind one more, which has as many frames as those before it
pub have_more : (place : Place) (xs : List Coded) (before : List Segment) (s : Segment) (m n : ℕ) (old new : List (List ℤ)) → length before < length xs → (before ≢ [] → m ≡ n)
    → HaveChannels place xs before m old → HasPlayed place (coded_at xs (length before)) s n old new → HaveChannels place xs (before ++ s ∷ []) n new
have_more place xs before s m n old new lt same h p c coded = by_case (codes_here place xs before s c) refl
  where
    some_before : (bs : List Segment) → is_coded_by place xs bs c ≡ true → bs ≢ []
    some_before [] e none = absurd (let f = none_coded place xs c in cc)
    some_before (b ∷ bs) e none = absurd cc

    by_case : (b : Bool) → codes_here place xs before s c ≡ b → take n (column c new) ≡ channel place xs (before ++ s ∷ []) c
    by_case true e = p.coded c e ∙ sym (channel_here place xs before s c lt e)
    by_case false e =
        let there : is_coded_by place xs before c ≡ true = sym (coded_before place xs before s c lt e) ∙ coded in
        let count : m ≡ n = same (some_before before there) in
        ap (λ (t : List ℤ). take n t) (p.others c e) ∙ ap (λ (k : ℕ). take k (column c old)) (sym count) ∙ h c there ∙ sym (channel_before place xs before s c lt e)

-- ---- frames with their channels side by side

item_at : (c i : ℕ) (frames : List (List ℤ)) → i < length frames → get_or (column c frames) i (pos 0) ≡ get_or (get_or frames i []) c (pos 0)
item_at c i frames lt = get_or-map (λ (frame : List ℤ). get_or frame c (pos 0)) frames i [] (pos 0) lt

module _ (m n : ℕ) (frames : List (List ℤ)) (channels : ℕ → List ℤ) (enough : n ≤ length frames)
    (wide : (i : ℕ) → i < length frames → m + 1 ≤ length (get_or frames i [])) (have : (c : ℕ) → c ≤ m → take n (column c frames) ≡ channels c) where
  -- an item of a frame
  value_at : (i c : ℕ) → i < n → c ≤ m → get_or (get_or frames i []) c (pos 0) ≡ get_or (channels c) i (pos 0)
  value_at i c lt le =
      sym (item_at c i frames (omega (arith, enough))) ∙ sym (get_or-take n (column c frames) i (pos 0) lt) ∙ ap (λ (t : List ℤ). get_or t i (pos 0)) (have c le)

  frame_at : (i : ℕ) → i < n → take (m + 1) (get_or frames i []) ≡ map (λ c. get_or (channels c) i (pos 0)) (range_with_len 0 (m + 1))
  frame_at i lt =
      let long = wide i (omega (arith, enough)) in
      let frame = get_or frames i [] in
      let row = λ (c : ℕ). get_or (channels c) i (pos 0) in
      same_lists (take (m + 1) frame) (map row (range_with_len 0 (m + 1))) (length-take-le (m + 1) frame long ∙ sym (length-map-range_with_len row 0 (m + 1)))
      (λ k d small.
      let below : k < m + 1 = omega (arith, length-take-le (m + 1) frame long) in
      get_or-take (m + 1) frame k d below ∙ get_or_default frame k d (pos 0) (omega (arith, long, below)) ∙ value_at i k lt (omega arith) ∙ sym (get_or-map-range_with_len row 0 (m + 1) k k d below (omega arith)))

  pub frames_are : map (take (m + 1)) (take n frames) ≡ frames_of channels m n
  frames_are =
      let cut = take n frames in
      let long : length cut ≡ n = length-take-le n frames enough in
      let row = λ (i : ℕ). map (λ c. get_or (channels c) i (pos 0)) (range_with_len 0 (m + 1)) in
      same_lists (map (take (m + 1)) cut) (map row (range_with_len 0 n)) (length-map cut (take (m + 1)) ∙ long ∙ sym (length-map-range_with_len row 0 n))
      (λ k d small.
      let below : k < n = omega (arith, length-map cut (take (m + 1)), long) in
      get_or-map (take (m + 1)) cut k [] d (omega (arith, long, below)) ∙ ap (take (m + 1)) (get_or-take n frames k [] below) ∙ frame_at k below ∙ sym (get_or-map-range_with_len row 0 n k k d below (omega arith)))
