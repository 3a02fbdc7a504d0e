-- A stream that is made, unit by unit.
use Rattle.std.proofs.Common.{◌≡◌, ℕ, zero, suc, ◌+◌, ◌-◌, ◌^◌, ◌<◌, ◌≤◌, List, [], ◌∷◌, ◌++◌, map, length, ℤ, Bool, true, false, Result, Ok, Err, refl, sym, ap, ◌∙◌, subst, arith}
use Rattle.std.specs.Prelude.{◌==◌, slice_index_or}
use Rattle.std.specs.List.{range_with_len}
use Rattle.std.proofs.lemmas.List.{length-append}
use Rattle.std.proofs.lemmas.List.Elements.{All-nil}
use Rattle.std.proofs.lemmas.List.FromFn.{length-map-range_with_len, get_or-map-range_with_len}
use Rattle.std.proofs.lemmas.Bool.{ne_eqb, eq-eqb}
use Rattle.mlp_syntax.specs.declared.refusal.NoRoom.{NoRoom}
use Rattle.mlp_bits.specs.Bits.{bits_of}
use Rattle.mlp_layout.specs.Streams.{Stream, Begins}
use Rattle.mlp_layout.proofs.StreamLaws.{has_one_end, begins_none}
use Rattle.mlp_walk.proofs.WalkLaws.{no_bits}
use Rattle.mlp_contents.specs.Units.{start, whole}
use Rattle.mlp_contents.proofs.FormatLaws.{whole_is}
use Rattle.mlp_fold.specs.declared.profile.Profile.{Profile}
use Rattle.mlp_fold.specs.Profile.{checked}
use Rattle.mlp_fold.specs.Substreams.{substreams_of}
use Rattle.mlp_encode.specs.Left.{Going, Left, going}
use Rattle.mlp_encode.specs.Unit.{AreNext, unit_sent, behind, next_sent, joined}
use Rattle.mlp_encode.specs.Sent.{sent}
use Rattle.mlp_present.specs.Decoding.{after_units}
use Rattle.mlp_encode.proofs.SyncAllowed.{passes}
use Rattle.mlp_lossless.specs.Streams.{all_frames}
use Rattle.mlp_lossless.specs.Following.{Follows}
use Rattle.mlp_lossless.specs.Next.{HasSent, IsFollowed}
use Rattle.mlp_lossless.proofs.Shapes.{presentation}
use Rattle.mlp_lossless.proofs.Starts.{follows_start}
use Rattle.mlp_lossless.proofs.Streams.{was_sent}
use Rattle.mlp_lossless.proofs.Owed.{all_given_back}
use Rattle.mlp_lossless.proofs.Next.{sent_last, sent_refused, kept_sent, each_followed, each_added}
use Rattle.mlp_gen.specs.Generator.{unit_at, generated}
use Rattle.mlp_gen.specs.Player.{Played, unplayed, shown_by, player_at, CanTake, Took}
use Rattle.mlp_gen.specs.Generated.{nothing_shown, IsShown, IsMade, HasNoPlace}
use Rattle.mlp_gen.proofs.UnitFrames.{unit_is, is_sent, frames_more, joined_more, generated_more, rest_of}
use Rattle.mlp_gen.proofs.Playing.{IsPlayedTo, can_take, played_on, follows_on}

abbrev pub FollowAll : Profile → Going → List Played → Type 0
FollowAll p e players = (k : ℕ) → k < substreams_of p.channels → Follows k e (player_at players k).held.left

abbrev pub AllPlayedTo : Profile → ℕ → List (List ℤ) → List ℕ → List Played → Type 0
AllPlayedTo p number pcm bytes players = (k : ℕ) → k < substreams_of p.channels → IsPlayedTo p k number pcm bytes (player_at players k)

-- so many units of a stream were made
pub record IsUnderWay (p : Profile) (seed number : ℕ) (units : List (List ℕ)) (e : Going) (players : List Played) : Type 0 where
  pub sent : HasSent p (generated p seed number) units e
  pub follow : FollowAll p e players
  pub played : AllPlayedTo p number (all_frames (generated p seed number)) (joined units) players

-- .. or all
pub record IsWhole (p : Profile) (seed count : ℕ) (units : List (List ℕ)) (players : List Played) : Type 0 where
  pub left : Left
  pub sent_is : sent true (Ok (going p)) (generated p seed count) ≡ record { units = units; end = Ok left }
  pub played : AllPlayedTo p count (all_frames (generated p seed count)) (joined units) players

pub record Goes (p : Profile) (seed count number : ℕ) (encoder : Left) (players : List Played) (size : ℕ) : Type 0 where
  pub units : List (List ℕ)
  pub size_is : size ≡ length (joined units)
  pub going_on : number < count → (e : Going) × (encoder ≡ Ok e) × IsUnderWay p seed number units e players
  pub whole : count ≤ number → IsWhole p seed count units players

-- ---- before the first unit

nothing_played : (p : Profile) (k : ℕ) → IsPlayedTo p k 0 [] [] (unplayed k)
unfolding after_units
nothing_played p k = record {
  us = [];
  held_is = refl;
  count = refl;
  begins = subst (λ (b : List Bool). Begins (whole k) (start k) (bits_of []) [] b) no_bits (begins_none (whole k) (whole_is k) (start k) (bits_of []));
  frames = refl;
  sum = refl;
  extracted = refl;
}

pub goes_first : (p : Profile) (seed count : ℕ) (encoder : Left) (players : List Played) → checked p ≡ Ok tt → 1 ≤ count → encoder ≡ Ok (going p) → players ≡ map unplayed (range_with_len 0 (substreams_of p.channels))
    → Goes p seed count 0 encoder players 0
goes_first p seed count encoder players is some encoder_is players_are =
    let at : (k : ℕ) → k < substreams_of p.channels → player_at players k ≡ unplayed k =
    λ k lt. ap (λ (xs : List Played). player_at xs k) players_are ∙ get_or-map-range_with_len unplayed 0 (substreams_of p.channels) k k (unplayed 0) lt (omega arith) in
    record {
      units = [];
      size_is = refl;
      going_on = λ lt. (
        going p,
        encoder_is,
        record {
          sent = record { profile = is; full = All-nil (λ f. AreNext p f false); sent_is = refl };
          follow = λ k lt. subst (λ (x : Played). Follows k (going p) x.held.left) (sym (at k lt)) (follows_start p k lt);
          played = λ k lt. subst (IsPlayedTo p k 0 [] []) (sym (at k lt)) (nothing_played p k);
        },
      );
      whole = λ le. absurd (omega (arith, some, le));
    }

-- ---- the next unit

last_same : (number count : ℕ) → number < count → (number + 1 == count) ≡ (count - (number + 1) == 0)
last_same number count lt = by_rest (count - (number + 1)) refl
  where
    by_rest : (m : ℕ) → count - (number + 1) ≡ m → (number + 1 == count) ≡ (count - (number + 1) == 0)
    by_rest zero z = let end : number + 1 ≡ count = omega (arith, z, lt) in ap (λ (n : ℕ). n == count) end ∙ eq-eqb count count refl ∙ sym (ap (λ (m : ℕ). m == 0) z)
    by_rest (suc m) z = ne_eqb (number + 1) count (λ e. absurd (omega (arith, z, e))) ∙ sym (ap (λ (m : ℕ). m == 0) z ∙ ne_eqb (suc m) 0 (λ e. absurd (omega (arith, e))))

module _ (p : Profile) (seed count number : ℕ) (units : List (List ℕ)) (e : Going) (players : List Played) (few : count ≤ 100000) (lt : number < count) (h : IsUnderWay p seed number units e players) where
  abbrev frames : List (List ℤ)
  frames = unit_at p seed number

  abbrev last : Bool
  last = number + 1 == count

  pub is_next : (ends : Bool) → AreNext p (unit_at p seed number) ends
  is_next ends = unit_is p seed number ends h.sent.profile

  kept : (e.profile ≡ p) × (e.units ≡ number)
  kept =
      let k = kept_sent p (generated p seed number) units e h.sent in
      (k.1, k.2 ∙ length-map-range_with_len (unit_at p seed) 0 number)

  pub may_send : (ends : Bool) → AreNext e.profile (unit_at p seed number) ends × (e.units < 2 ^ 40)
  may_send ends = (subst (λ (q : Profile). AreNext q (unit_at p seed number) ends) (sym kept.0) (is_next ends), omega (arith, kept.1, few, lt))

  followed : (k : ℕ) → k < substreams_of p.channels → (bytes : List ℕ) (left : Left) → next_sent (Ok e) (unit_at p seed number) last ≡ Ok (bytes, left) → IsFollowed p k (player_at players k).held.left (unit_at p seed number) last bytes left
  followed k there bytes left is = each_followed p (generated p seed number) units e k (player_at players k).held.left (unit_at p seed number) last (bytes, left) h.sent there (h.follow k there) (is_next last) is

  shows : (k : ℕ) → k < substreams_of p.channels → k ≤ 2
  shows k there = (presentation p k (passes p h.sent.profile) there).few

  pub all_can : (bytes : List ℕ) (left : Left) → next_sent (Ok e) (unit_at p seed number) last ≡ Ok (bytes, left) → (k : ℕ) → k < substreams_of p.channels → CanTake bytes (player_at players k)
  all_can bytes left is k there =
      can_take p k number (shows k there) there (all_frames (generated p seed number)) (joined units) (player_at players k) (h.played k there) (unit_at p seed number) last bytes left (followed k there bytes left is) (omega (arith, few, lt))

  -- no place: then all have none
  pub none_has : (room : NoRoom) → next_sent (Ok e) (unit_at p seed number) last ≡ Err room → HasNoPlace p seed count room
  none_has room is =
      let m : ℕ = count - (number + 1) in
      let more : List (List (List ℤ)) = map (unit_at p seed) (range_with_len (number + 1) m) in
      let long : length more ≡ m = length-map-range_with_len (unit_at p seed) (number + 1) m in
      let n : number + suc m ≡ count = omega (arith, lt) in
      let flag : last ≡ (length more == 0) = last_same number count lt ∙ ap (λ (k : ℕ). k == 0) (sym long) in
      let all : generated p seed count ≡ generated p seed number ++ unit_at p seed number ∷ more = ap (generated p seed) (sym n) ∙ rest_of p seed number m in
      ap (λ (us : List (List (List ℤ))). (sent true (Ok (going p)) us).end) all
      ∙ sent_refused p (generated p seed number) more units e (unit_at p seed number) room h.sent (ap (next_sent (Ok e) (unit_at p seed number)) (sym flag) ∙ is)

  module _ (bytes : List ℕ) (left : Left) (is : next_sent (Ok e) (unit_at p seed number) last ≡ Ok (bytes, left)) (after : List Played)
      (took : (k : ℕ) → k < substreams_of p.channels → Took bytes (player_at players k) (player_at after k)) where
    played : AllPlayedTo p (number + 1) (all_frames (generated p seed (number + 1))) (joined (units ++ bytes ∷ [])) after
    played k there =
        let pcm : all_frames (generated p seed (number + 1)) ≡ all_frames (generated p seed number) ++ unit_at p seed number =
        ap all_frames (generated_more p seed number) ∙ frames_more (generated p seed number) (unit_at p seed number) in
        let f = followed k there bytes left is in
        let on = played_on p k number (shows k there) there (all_frames (generated p seed number)) (joined units) (player_at players k) (h.played k there) (unit_at p seed number) last bytes left f (player_at after k) (took k there) in
        subst (λ (xs : List (List ℤ)). IsPlayedTo p k (number + 1) xs (joined (units ++ bytes ∷ [])) (player_at after k)) (sym pcm)
        (subst (λ (b : List ℕ). IsPlayedTo p k (number + 1) (all_frames (generated p seed number) ++ unit_at p seed number) b (player_at after k)) (sym (joined_more units bytes)) on)

    followers : (next : Going) → left ≡ Ok next → last ≡ false → FollowAll p next after
    followers next left_is e k there =
        let f = followed k there bytes left is in
        let same : f.e ≡ next = (let z : Ok f.e ≡ Ok next = sym f.left_is ∙ left_is in cc) in
        subst (λ (g : Going). Follows k g (player_at after k).held.left) same
        (follows_on p k number (shows k there) there (all_frames (generated p seed number)) (joined units) (player_at players k) (h.played k there) (unit_at p seed number) last bytes left f (player_at after k) (took k there) e)

    first_left : (next : Going) × (left ≡ Ok next)
    first_left = let w = was_sent e (unit_at p seed number) last (bytes, left) is in (behind e (unit_at p seed number) (unit_sent e (unit_at p seed number) last) w.fifo, w.left_is)

    -- it goes on, or was the last
    going_on : number + 1 < count → (next : Going) → left ≡ Ok next → IsUnderWay p seed (number + 1) (units ++ bytes ∷ []) next after
    going_on more next left_is =
        let off : last ≡ false = ne_eqb (number + 1) count (λ z. absurd (omega (arith, more, z))) in
        record {
          sent = subst (λ (fs : List (List (List ℤ))). HasSent p fs (units ++ bytes ∷ []) next) (sym (generated_more p seed number))
              (each_added p (generated p seed number) units e (unit_at p seed number) bytes next h.sent (is_next false)
              (ap (next_sent (Ok e) (unit_at p seed number)) (sym off) ∙ is ∙ ap (λ (l : Left). let r : Result (List ℕ × Left) NoRoom = Ok (bytes, l) in r) left_is));
          follow = followers next left_is off;
          played = played;
        }

    all_done : number + 1 ≡ count → IsWhole p seed count (units ++ bytes ∷ []) after
    all_done end =
        let on : last ≡ true = ap (λ (n : ℕ). n == count) end ∙ eq-eqb count count refl in
        record {
          left = left;
          sent_is = ap (λ (n : ℕ). sent true (Ok (going p)) (generated p seed n)) (sym end)
              ∙ ap (sent true (Ok (going p))) (generated_more p seed number)
              ∙ sent_last p (generated p seed number) units e (unit_at p seed number) bytes left h.sent (ap (next_sent (Ok e) (unit_at p seed number)) (sym on) ∙ is);
          played = subst (λ (n : ℕ). AllPlayedTo p n (all_frames (generated p seed n)) (joined (units ++ bytes ∷ [])) after) end played;
        }

    pub goes_next : (size : ℕ) → size ≡ length (joined units) → Goes p seed count (number + 1) left after (size + length bytes)
    goes_next size size_is = record {
      units = units ++ bytes ∷ [];
      size_is = omega (arith, size_is, ap (λ (b : List ℕ). length b) (joined_more units bytes), length-append (joined units) bytes);
      going_on = λ more. let f = first_left in (f.0, f.1, going_on more f.0 f.1);
      whole = λ le. all_done (omega (arith, le, lt));
    }

-- ---- all of them

module _ (p : Profile) (seed count : ℕ) (units : List (List ℕ)) (players : List Played) (is : checked p ≡ Ok tt) (some : 1 ≤ count) (h : IsWhole p seed count units players) where
  shown : (k : ℕ) → k < substreams_of p.channels → IsShown p k (all_frames (generated p seed count)) (joined units) (shown_by (player_at players k))
  shown k there =
      let x = h.played k there in
      let g = all_given_back p (generated p seed count) units h.left k (is_sent p seed count units h.left is some h.sent_is) there in
      let same : g.units ≡ x.us = (has_one_end (whole k) (whole_is k) (start k) (bits_of (joined units))).one_list g.units x.us g.stream.units (record { begins = x.begins; some = g.stream.units.some }) in
      record {
        units = x.us;
        stream = subst (Stream (whole k) (start k) k (bits_of (joined units))) same g.stream;
        frames = x.frames;
        sum = x.sum;
        extracted = x.extracted;
      }

  pub is_made : (size : ℕ) → size ≡ length (joined units) → IsMade p seed count size players
  is_made size size_is = record { units = units; left = h.left; sent_is = h.sent_is; stream = size_is; shown = shown }

-- ---- a step of the loop

module _ (p : Profile) (seed count number : ℕ) (encoder : Left) (players : List Played) (size : ℕ) (few : count ≤ 100000) (lt : number < count) (h : Goes p seed count number encoder players size) where
  abbrev sends : Left → Result (List ℕ × Left) NoRoom
  sends left = next_sent left (unit_at p seed number) (number + 1 == count)

  pub step_may : (g : Going) → encoder ≡ Ok g → (last : Bool) → AreNext g.profile (unit_at p seed number) last × (g.units < 2 ^ 40)
  step_may g is last =
      let x = h.going_on lt in
      let same : x.0 ≡ g = (let z : Ok x.0 ≡ Ok g = sym x.1 ∙ is in cc) in
      subst (λ (g : Going). AreNext g.profile (unit_at p seed number) last × (g.units < 2 ^ 40)) same (may_send p seed count number h.units x.0 players few lt x.2 last)

  pub step_can : (bytes : List ℕ) (after : Left) → next_sent encoder (unit_at p seed number) (number + 1 == count) ≡ Ok (bytes, after) → (k : ℕ) → k < substreams_of p.channels → CanTake bytes (player_at players k)
  step_can bytes after is = let x = h.going_on lt in all_can p seed count number h.units x.0 players few lt x.2 bytes after (sym (ap sends x.1) ∙ is)

  pub step_goes : (bytes : List ℕ) (left : Left) (after : List Played) → next_sent encoder (unit_at p seed number) (number + 1 == count) ≡ Ok (bytes, left)
      → ((k : ℕ) → k < substreams_of p.channels → Took bytes (player_at players k) (player_at after k)) → Goes p seed count (number + 1) left after (size + length bytes)
  step_goes bytes left after is took = let x = h.going_on lt in goes_next p seed count number h.units x.0 players few lt x.2 bytes left (sym (ap sends x.1) ∙ is) after took size h.size_is

  pub step_refused : (room : NoRoom) → next_sent encoder (unit_at p seed number) (number + 1 == count) ≡ Err room → HasNoPlace p seed count room
  step_refused room is = let x = h.going_on lt in none_has p seed count number h.units x.0 players few lt x.2 room (sym (ap sends x.1) ∙ is)

pub goes_last : (p : Profile) (seed count number : ℕ) (encoder : Left) (players : List Played) (size : ℕ) → checked p ≡ Ok tt → 1 ≤ count → count ≤ number → Goes p seed count number encoder players size → IsMade p seed count size players
goes_last p seed count number encoder players size is some le h = is_made p seed count h.units players is some (h.whole le) size h.size_is

-- ---- what is told

pub shown_at : (players : List Played) (k : ℕ) → k < length players → slice_index_or (map shown_by players) k nothing_shown ≡ shown_by (player_at players k)
shown_at [] k lt = absurd (omega (arith, lt))
shown_at (x ∷ players) zero lt = refl
shown_at (x ∷ players) (suc k) lt = shown_at players k (omega (arith, lt))
