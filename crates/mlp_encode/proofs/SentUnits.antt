-- The segments of a unit, one after the other.
use Rattle.std.proofs.Common.{◌≡◌, ℕ, suc, ◌+◌, ◌/◌, ◌%◌, ◌<◌, ◌≤◌, Bool, true, false, List, [], ◌∷◌, ◌++◌, take, drop, length, get_or, Option, Some, None, refl, sym, ap, ◌∙◌, subst, arith, append_assoc}
use Rattle.std.specs.Prelude.{nat_lt, IfSome, IsSome, is_some}
use Rattle.std.specs.Option.{IsSomeAnd}
use Rattle.std.proofs.lemmas.Bool.{ltb-true, ltb-false}
use Rattle.std.proofs.Math.ListN.{set}
use Rattle.std.proofs.lemmas.List.{get_or-take, get_or-set_same, get_or-set_other, take_more_set, length-set, drop_more, length-append, length-take-le}
use Rattle.mlp_syntax.specs.declared.segment.Segment.{Segment}
use Rattle.mlp_syntax.specs.declared.unit.DirEntry.{DirEntry}
use Rattle.mlp_bits.specs.Bits.{bits_of}
use Rattle.mlp_bits.proofs.BitLists.{length-bits_of}
use Rattle.mlp_params.specs.declared.state.State.{State}
use Rattle.mlp_predict.specs.Prediction.{Past}
use Rattle.mlp_substream.specs.declared.known.Place.{Place}
use Rattle.mlp_substream.specs.Checks.{bytes_of}
use Rattle.mlp_substream.specs.Segment.{segment, unknown}
use Rattle.mlp_substream.proofs.CheckLaws.{AreBytes}
use Rattle.mlp_fold.specs.declared.profile.Profile.{Profile}
use Rattle.mlp_fold.specs.declared.coding.CodedFrame.{CodedFrame}
use Rattle.mlp_fold.specs.Substreams.{substreams_of}
use Rattle.mlp_encode.specs.Numbers.{has_sync}
use Rattle.mlp_encode.specs.Blocks.{SentSegment, segment_sent}
use Rattle.mlp_encode.specs.Lawful.{IsInForce, SendsSegment, IsEnd, IsSentSegment, place_in, segment_most, segments_to, AreWords}
use Rattle.mlp_encode.specs.Unit.{SentUnit, nothing_sent, before, segments_from, segments_bytes, joined, entry_at, entries_from, restart_in}
use Rattle.mlp_encode.proofs.Renewed.{substreams_most}
use Rattle.mlp_encode.proofs.SentLength.{written_is}
use Rattle.mlp_encode.proofs.UnitLengths.{segments_more}
use Rattle.mlp_encode.proofs.SentStarts.{restart_is_sync}
use Rattle.mlp_encode.proofs.SegmentLaws.{sent_words, sent_in_force}

record Found {A : Type 0} (o : Option A) (P : A → Type 0) : Type 0 where
  value : A
  is : o ≡ Some value
  holds : P value

found : {A : Type 0} (o : Option A) (P : A → Type 0) → IsSomeAnd o P → Found o P
found (Some x) P h = record { value = x; is = refl; holds = h }
found None P h = absurd h

module _ (p : Profile) (n : ℕ) (checks : List ℕ) (frames : List CodedFrame) (t : Option ℕ) (old : List (Option State)) (old_pasts : List Past) where
  abbrev place : Place
  place = place_in p (has_sync n)

  abbrev sync : Bool
  sync = has_sync n

  abbrev first : List (Option State)
  first = take (substreams_of p.channels) old

  abbrev from : ℕ → List Past → SentUnit
  from j pasts = segments_from p (restart_in p n checks) frames t j (drop j first) pasts

  abbrev bytes_from : ℕ → List Past → List (List ℕ)
  bytes_from j pasts = segments_bytes place (drop j first) (from j pasts).segments

  -- the first j substreams were sent, and the others will be
  pub record Sending (j : ℕ) (now : List (Option State)) (pasts : List Past) (entries : List DirEntry) (bytes : List ℕ) : Type 0 where
    pub force_is : (from 0 old_pasts).force ≡ take j now ++ (from j pasts).force
    pub pasts_are : (from 0 old_pasts).pasts ≡ (from j pasts).pasts
    pub bytes_are : joined (bytes_from 0 old_pasts) ≡ bytes ++ joined (bytes_from j pasts)
    pub entries_are : entries_from sync 0 (bytes_from 0 old_pasts) ≡ entries ++ entries_from sync (length bytes / 2) (bytes_from j pasts)
    pub words : length bytes % 2 ≡ 0
    pub count_from : length (bytes_from 0 old_pasts) ≡ j + length (bytes_from j pasts)
    pub words_from : AreWords (bytes_from j pasts) → AreWords (bytes_from 0 old_pasts)
    pub most : length bytes ≤ segments_to p j
    pub count : length entries ≡ j
    pub later : (k : ℕ) → j ≤ k → get_or now k None ≡ get_or old k None
    pub each : (k : ℕ) → k < j → IfSome (get_or now k None) (IsInForce p k)
    pub there : (k : ℕ) → k < j → IsSome (get_or now k None)
    pub three : length now ≡ 3
    pub small : AreBytes bytes

  module _ (j : ℕ) (now : List (Option State)) (pasts : List Past) (entries : List DirEntry) (bytes : List ℕ) (h : Sending j now pasts entries bytes) (lt : j < substreams_of p.channels) (three : length old ≡ 3) where
    abbrev force : Option State
    force = get_or now j None

    abbrev more : List (Option State)
    more = drop (j + 1) first

    splits : drop j first ≡ force ∷ more
    splits =
        let count = length-take-le (substreams_of p.channels) old (omega (arith, substreams_most p.channels, three)) in
        drop_more first j None (omega (arith, count, lt)) ∙ ap (λ (f : Option State). f ∷ more) (get_or-take (substreams_of p.channels) old j None lt ∙ sym (h.later j (omega arith)))

    -- what comes from here on, where this segment is sent
    one_from : (s : SentSegment) → segment_sent j p (restart_in p n checks j) force pasts frames t ≡ Some s → from j pasts ≡ before s (from (j + 1) s.behind.pasts)
    one_from s e =
        ap (λ (fs : List (Option State)). segments_from p (restart_in p n checks) frames t j fs pasts) splits
        ∙ ap (λ (o : Option SentSegment). elim o [ None ↦ nothing_sent pasts | Some s ↦ before s (segments_from p (restart_in p n checks) frames t (j + 1) more s.behind.pasts) ]) e

    one_bytes : (s : SentSegment) → segment_sent j p (restart_in p n checks j) force pasts frames t ≡ Some s → bytes_from j pasts ≡ bytes_of ((segment place unknown force true).spelling s.segment) ∷ bytes_from (j + 1) s.behind.pasts
    one_bytes s e =
        ap (λ (fs : List (Option State)). segments_bytes place fs (from j pasts).segments) splits
        ∙ ap (λ (u : SentUnit). segments_bytes place (force ∷ more) u.segments) (one_from s e)

    module _ (made : Segment) (after : Option State) (ps : List Past) (entries' : List DirEntry) (bytes' : List ℕ) where
      pub record Step : Type 0 where
        pub sent : IsSomeAnd (segment_sent j p (restart_in p n checks j) force pasts frames t) (λ s. IsSentSegment s made after ps)
        pub sends : SendsSegment p j (restart_in p n checks j) force frames
        pub end : IsEnd p t
        pub small_then : AreBytes bytes'
        pub bits : bits_of bytes' ≡ bits_of bytes ++ (segment place unknown force true).spelling made
        pub entry : entries' ≡ entries ++ entry_at sync (length bytes' / 2) ∷ []
        pub more_most : length bytes' ≤ length bytes + segment_most p j

      module _ (x : Step) where
        abbrev text : List Bool
        text = (segment place unknown force true).spelling made

        abbrev rest : SentUnit
        rest = from (j + 1) ps

        abbrev later_bytes : List (List ℕ)
        later_bytes = bytes_from (j + 1) ps

        one : Found (segment_sent j p (restart_in p n checks j) force pasts frames t) (λ s. IsSentSegment s made after ps)
        one = found _ _ x.sent

        abbrev segment_there : SentSegment → Type 0
        segment_there s = length ((segment (place_in p (is_some (restart_in p n checks j))) unknown force true).spelling s.segment) % 16 ≡ 0

        whole : length text % 16 ≡ 0
        whole =
            let words = subst (λ (o : Option SentSegment). IsSomeAnd o segment_there) one.is (sent_words j p pasts frames t (restart_in p n checks j) force x.sends x.end) in
            let here = subst (λ (s : Segment). length ((segment (place_in p (is_some (restart_in p n checks j))) unknown force true).spelling s) % 16 ≡ 0) (sym one.holds.segment_is) words in
            subst (λ (b : Bool). length ((segment (place_in p b) unknown force true).spelling made) % 16 ≡ 0) (restart_is_sync p n checks j) here

        in_force : IfSome after (IsInForce p j)
        in_force =
            let next = subst (λ (o : Option SentSegment). IsSomeAnd o (λ s. IsInForce p j s.behind.state)) one.is (sent_in_force j p pasts frames t (restart_in p n checks j) force x.sends) in
            subst (λ (o : Option State). IfSome o (IsInForce p j)) (sym one.holds.force_is) next

        some : IsSome after
        some = subst (λ (o : Option State). IsSome o) (sym one.holds.force_is) refl

        bytes_is : bytes_from j pasts ≡ bytes_of text ∷ later_bytes
        bytes_is =
            one_bytes one.value one.is
            ∙ ap (λ (s : Segment). bytes_of ((segment place unknown force true).spelling s) ∷ bytes_from (j + 1) one.value.behind.pasts) (sym one.holds.segment_is)
            ∙ ap (λ (qs : List Past). bytes_of text ∷ bytes_from (j + 1) qs) (sym one.holds.pasts_are)

        appended : bytes' ≡ bytes ++ bytes_of text
        appended = written_is bytes' bytes text x.small_then h.small x.bits

        sum : length bytes' ≡ length bytes + length (bytes_of text)
        sum = ap (λ (b : List ℕ). length b) appended ∙ length-append bytes (bytes_of text)

        even : length bytes' % 2 ≡ 0
        even = omega (arith, ap (λ (b : List Bool). length b) x.bits, length-append (bits_of bytes) text, length-bits_of bytes, length-bits_of bytes', whole, h.words)

        word : length (bytes_of text) % 2 ≡ 0
        word = omega (arith, sum, even, h.words)

        end_is : length bytes / 2 + length (bytes_of text) / 2 ≡ length bytes' / 2
        end_is = omega (arith, sum, even, h.words)

        within : j < length now
        within = omega (arith, h.three, lt, substreams_most p.channels)

        by_one : (P : ℕ → Option State → Type 0) → ((k : ℕ) → k < j → P k (get_or now k None)) → P j after → (k : ℕ) → k < j + 1 → P k (get_or (set now j after) k None)
        by_one P below here k le = case (nat_lt k j) refl
          where
            case : (b : Bool) → nat_lt k j ≡ b → P k (get_or (set now j after) k None)
            case true e = subst (λ (o : Option State). P k o) (sym (get_or-set_other now j k after None (λ same. omega (arith, ltb-true k j e, same)))) (below k (ltb-true k j e))
            case false e =
                let same : k ≡ j = omega (arith, ltb-false k j e, le) in
                subst (λ (m : ℕ). P m (get_or (set now j after) m None)) (sym same) (subst (λ (o : Option State). P j o) (sym (get_or-set_same now j after None within)) here)

        pub one_more : Sending (j + 1) (set now j after) ps entries' bytes'
        one_more = record {
          force_is = h.force_is ∙ ap (λ (u : SentUnit). take j now ++ u.force) (one_from one.value one.is)
              ∙ ap (λ (o : Option State). take j now ++ (o ∷ (from (j + 1) one.value.behind.pasts).force)) (sym one.holds.force_is)
              ∙ ap (λ (qs : List Past). take j now ++ (after ∷ (from (j + 1) qs).force)) (sym one.holds.pasts_are)
              ∙ sym (append_assoc (take j now) (after ∷ []) rest.force)
              ∙ ap (λ (xs : List (Option State)). xs ++ rest.force) (sym (take_more_set now j after within));
          pasts_are = h.pasts_are ∙ ap (λ (u : SentUnit). u.pasts) (one_from one.value one.is) ∙ ap (λ (qs : List Past). (from (j + 1) qs).pasts) (sym one.holds.pasts_are);
          bytes_are = h.bytes_are ∙ ap (λ (bs : List (List ℕ)). bytes ++ joined bs) bytes_is ∙ sym (append_assoc bytes (bytes_of text) (joined later_bytes)) ∙ ap (λ (b : List ℕ). b ++ joined later_bytes) (sym appended);
          entries_are = h.entries_are ∙ ap (λ (bs : List (List ℕ)). entries ++ entries_from sync (length bytes / 2) bs) bytes_is
              ∙ ap (λ (m : ℕ). entries ++ (entry_at sync m ∷ entries_from sync m later_bytes)) end_is
              ∙ sym (append_assoc entries (entry_at sync (length bytes' / 2) ∷ []) (entries_from sync (length bytes' / 2) later_bytes))
              ∙ ap (λ (es : List DirEntry). es ++ entries_from sync (length bytes' / 2) later_bytes) (sym x.entry);
          words = even;
          count_from = h.count_from ∙ ap (λ (bs : List (List ℕ)). j + length bs) bytes_is ∙ (let z : j + suc (length later_bytes) ≡ j + 1 + length later_bytes = omega arith in z);
          words_from = λ w. h.words_from (subst (λ (bs : List (List ℕ)). AreWords bs) (sym bytes_is) (word, w));
          most = omega (arith, h.most, x.more_most, segments_more p j);
          count = ap (λ (es : List DirEntry). length es) x.entry ∙ length-append entries (entry_at sync (length bytes' / 2) ∷ []) ∙ ap (λ (m : ℕ). m + 1) h.count;
          later = λ k le. get_or-set_other now j k after None (λ same. omega (arith, le, same)) ∙ h.later k (omega (arith, le));
          each = by_one (λ k o. IfSome o (IsInForce p k)) h.each in_force;
          there = by_one (λ k o. IsSome o) h.there some;
          three = length-set now j after ∙ h.three;
          small = x.small_then;
        }
