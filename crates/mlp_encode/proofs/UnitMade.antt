-- A unit whose segments were written: its body can be written, and is the next one that is sent.
use Rattle.std.proofs.Common.{◌≡◌, ℕ, zero, suc, ◌+◌, ◌*◌, ◌/◌, ◌<◌, ◌≤◌, ℤ, Bool, true, false, List, [], ◌∷◌, ◌++◌, take, map, length, Option, Some, None, refl, sym, ap, ◌∙◌, subst, arith}
use Rattle.std.specs.Prelude.{if◌then◌else◌}
use Rattle.std.specs.List.{range_with_len}
use Rattle.std.proofs.lemmas.List.{get_or-take}
use Rattle.std.proofs.lemmas.List.FromFn.{map-range_with_len_more}
use Rattle.mlp_syntax.specs.declared.restart.Restart.{Restart}
use Rattle.mlp_syntax.specs.declared.unit.DirEntry.{DirEntry}
use Rattle.mlp_params.specs.declared.state.State.{State}
use Rattle.mlp_predict.specs.Prediction.{Past}
use Rattle.mlp_unit.specs.Directory.{directory_size}
use Rattle.mlp_unit.specs.AccessUnit.{major_size}
use Rattle.mlp_fold.specs.declared.profile.Profile.{Profile}
use Rattle.mlp_fold.specs.declared.coding.CodedFrame.{CodedFrame}
use Rattle.mlp_fold.specs.Substreams.{substreams_of}
use Rattle.mlp_fold.specs.Mix.{presented_of}
use Rattle.mlp_output.specs.Output.{check_of}
use Rattle.mlp_encode.specs.Numbers.{has_sync, low_zeros}
use Rattle.mlp_encode.specs.Sync.{restart_of}
use Rattle.mlp_encode.specs.Blocks.{SentSegment, segment_sent}
use Rattle.mlp_encode.specs.Left.{Going}
use Rattle.mlp_encode.specs.Lawful.{AreInForce}
use Rattle.mlp_encode.specs.Unit.{SentUnit, nothing_sent, before, segments_from, output_timing, check_in, restart_in, check_with, entries_from, joined, AreWhole, IsSentUnit, Body}
use Rattle.mlp_encode.specs.Unit.{body_by, segments_in, segments_bytes, bytes_in, coded, filled, terminator_of, major_of, place_of, unit_sent}
use Rattle.mlp_encode.specs.Encoding.{IsBody, IsMade, IsEncoding, going_of}
use Rattle.mlp_encode.specs.declared.progress.Progress.{Progress}
use Rattle.mlp_encode.proofs.SyncAllowed.{Passes, passes, substreams_few}
use Rattle.mlp_encode.proofs.UnitAllowed.{major_at, writable, entries_count}
use Rattle.mlp_encode.proofs.UnitLengths.{segments_fit}

-- ---- the size of a unit

entries_size : (sync : Bool) (start : ℕ) (bs : List (List ℕ)) → directory_size (entries_from sync start bs) ≡ 2 * length (entries_from sync start bs)
entries_size sync start [] = refl
entries_size sync start (b ∷ bs) = let rest = entries_size sync (start + length b / 2) bs in omega (arith, rest)

pub sync_size : (p : Profile) (sync : Bool) → major_size (major_at p sync) ≤ 28
sync_size p true = omega arith
sync_size p false = omega arith

abbrev pub body_at : Profile → Bool → List (List ℕ) → Body
body_at p sync bs = record { major = major_at p sync; entries = entries_from sync 0 bs; bytes = joined bs }

pub is_body : (p : Profile) (sync : Bool) (bs : List (List ℕ)) → Passes p → AreWhole p bs → IsBody (body_at p sync bs)
is_body p sync bs h whole =
    let most = segments_fit p h in
    let few = substreams_few p.channels in
    let head = sync_size p sync in
    let size = entries_size sync 0 bs in
    let count = entries_count sync 0 bs in
    record {
      writable = writable p sync bs h whole.count whole.words (omega (arith, whole.most, most));
      plain = size;
      size = omega (arith, head, size, count, whole.count, few, whole.most, most);
    }

-- ---- running checks that no substream has don't matter

module _ (p : Profile) (frames : List CodedFrame) (t : Option ℕ) (these those : ℕ → Option Restart) where
  one_of : Option Restart → (ℕ → Option Restart) → ℕ → Option State → List (Option State) → List Past → SentUnit
  one_of o restarts j f force pasts = elim (segment_sent j p o f pasts frames t) [
    | None ↦ nothing_sent pasts
    | Some s ↦ before s (segments_from p restarts frames t (j + 1) force s.behind.pasts)
  ]

  abbrev after : (ℕ → Option Restart) → ℕ → List (Option State) → List Past → Option SentSegment → SentUnit
  after restarts j force pasts None = nothing_sent pasts
  after restarts j force pasts (Some s) = before s (segments_from p restarts frames t (j + 1) force s.behind.pasts)

  after_one : (j : ℕ) (force : List (Option State)) (pasts : List Past)
      → ((later : List Past) → segments_from p these frames t (j + 1) force later ≡ segments_from p those frames t (j + 1) force later)
      → (o : Option SentSegment) → after these j force pasts o ≡ after those j force pasts o
  after_one j force pasts same None = refl
  after_one j force pasts same (Some s) = ap (λ (u : SentUnit). before s u) (same s.behind.pasts)

  same_from : (j : ℕ) (force : List (Option State)) (pasts : List Past) → ((k : ℕ) → k < j + length force → these k ≡ those k) → segments_from p these frames t j force pasts ≡ segments_from p those frames t j force pasts
  unfolding one_of
  same_from j [] pasts same = refl
  same_from j (f ∷ force) pasts same =
      ap (λ (o : Option Restart). one_of o these j f force pasts) (same j (omega arith))
      ∙ after_one j force pasts (λ later. same_from (j + 1) force later (λ k lt. same k (omega (arith, lt)))) (segment_sent j p (those j) f pasts frames t)

pub checks_taken : (p : Profile) (n m : ℕ) (checks : List ℕ) (frames : List CodedFrame) (t : Option ℕ) (force : List (Option State)) (pasts : List Past) → length force ≤ m
    → segments_from p (restart_in p n checks) frames t 0 force pasts ≡ segments_from p (restart_in p n (take m checks)) frames t 0 force pasts
checks_taken p n m checks frames t force pasts le =
    same_from p frames t (restart_in p n checks) (restart_in p n (take m checks)) 0 force pasts
    (λ k lt. ap (λ (x : ℕ). restart_by k x) (sym (get_or-take m checks k 0 (omega (arith, lt, le)))))
  where
    restart_by : ℕ → ℕ → Option Restart
    restart_by k x = if has_sync n then Some (restart_of k (output_timing p n) (check_in n x)) else None

map_below : (f g : ℕ → ℕ) (a n : ℕ) → ((k : ℕ) → k < a + n → f k ≡ g k) → map f (range_with_len a n) ≡ map g (range_with_len a n)
map_below f g a zero same = refl
map_below f g a (suc n) same =
    let next : suc n ≡ n + 1 = omega arith in
    ap (λ (k : ℕ). map f (range_with_len a k)) next
    ∙ map-range_with_len_more f a n (a + n) refl
    ∙ ap (λ (x : ℕ). map f (range_with_len a n) ++ x ∷ []) (same (a + n) (omega arith))
    ∙ ap (λ (xs : List ℕ). xs ++ g (a + n) ∷ []) (map_below f g a n (λ k lt. same k (omega (arith, lt))))
    ∙ sym (map-range_with_len_more g a n (a + n) refl)
    ∙ ap (λ (k : ℕ). map g (range_with_len a k)) (sym next)

pub checks_with : (p : Profile) (sync : Bool) (m : ℕ) (checks : List ℕ) (frames : List (List ℤ)) → map (check_with p sync checks frames) (range_with_len 0 m) ≡ map (check_with p sync (take m checks) frames) (range_with_len 0 m)
checks_with p sync m checks frames =
    map_below (check_with p sync checks frames) (check_with p sync (take m checks) frames) 0 m
    (λ k lt. ap (λ (x : ℕ). check_of (if sync then 0 else x) (map (presented_of p.mix (low_zeros p.depth) p.channels k) frames)) (sym (get_or-take m checks k 0 (omega (arith, lt)))))

-- ---- the next unit

module _ (x : Progress) (rows : List (List ℤ)) (last : Bool) (h : IsEncoding x) (sending writing : List (Option State)) (pasts : List Past) (checks : List ℕ) (entries : List DirEntry) (bytes : List ℕ) where
  abbrev p : Profile
  p = x.profile

  abbrev n : ℕ
  n = x.units

  abbrev m : ℕ
  m = substreams_of x.profile.channels

  abbrev g : Going
  g = going_of x

  abbrev Sent : List CodedFrame → Option ℕ → Type 0
  Sent cs t = IsSentUnit x.profile x.units x.checks cs t x.sending x.pasts sending pasts entries bytes × AreWhole x.profile (bytes_in x.profile x.units x.checks cs t x.sending x.pasts)

  abbrev cs : List CodedFrame
  cs = coded x.profile (filled x.profile rows)

  abbrev t : Option ℕ
  t = terminator_of x.profile (length rows) last

  abbrev bs : List (List ℕ)
  bs = bytes_in x.profile x.units x.checks (coded x.profile (filled x.profile rows)) (terminator_of x.profile (length rows) last) x.sending x.pasts

  abbrev body : Body
  body = record { major = major_of (going_of x); entries = entries; bytes = bytes }

  same_unit : segments_in x.profile x.units x.checks (coded x.profile (filled x.profile rows)) (terminator_of x.profile (length rows) last) x.sending x.pasts ≡ unit_sent (going_of x) rows last
  unfolding unit_sent
  same_unit = checks_taken p n m x.checks cs t (take m x.sending) x.pasts (omega (arith, h.going.force.count))

  by_bytes : Sent cs t → body ≡ body_by (going_of x) bs
  by_bytes s =
      ap (λ (es : List DirEntry). let b : Body = record { major = major_of (going_of x); entries = es; bytes = bytes } in b) s.0.entries_are
      ∙ ap (λ (xs : List ℕ). let b : Body = record { major = major_of (going_of x); entries = entries_from (has_sync x.units) 0 bs; bytes = xs } in b) s.0.bytes_are

  made_here : Sent cs t → writing ≡ sending → AreInForce x.profile (x.units + 1) (take m sending) → length pasts ≡ 8
      → take m checks ≡ map (check_with x.profile (has_sync x.units) x.checks (filled x.profile rows)) (range_with_len 0 m)
      → IsMade (going_of x) rows last body (record { profile = x.profile; units = x.units; sending = sending; writing = writing; pasts = pasts; checks = checks; fifo = x.fifo })
  made_here s same next eight after = record {
    body_is = by_bytes s ∙ ap (λ (u : SentUnit). body_by (going_of x) (segments_bytes (place_of (going_of x)) (going_of x).force u.segments)) same_unit;
    lawful = subst (λ (b : Body). IsBody b) (sym (by_bytes s)) (is_body x.profile (has_sync x.units) bs (passes x.profile h.going.profile) s.1);
    profile = refl;
    units = refl;
    fifo = refl;
    force = s.0.force_is ∙ ap (λ (u : SentUnit). u.force) same_unit;
    next = next;
    same = same;
    pasts = s.0.pasts_are ∙ ap (λ (u : SentUnit). u.pasts) same_unit;
    eight = eight;
    checks = after ∙ checks_with x.profile (has_sync x.units) m x.checks (filled x.profile rows);
  }

  -- .. of frames and a terminator that are these
  pub made : (coded_are : List CodedFrame) (end : Option ℕ) → coded_are ≡ cs → end ≡ t → IsSentUnit x.profile x.units x.checks coded_are end x.sending x.pasts sending pasts entries bytes
      → AreWhole x.profile (bytes_in x.profile x.units x.checks coded_are end x.sending x.pasts) → writing ≡ sending → AreInForce x.profile (x.units + 1) (take m sending) → length pasts ≡ 8
      → take m checks ≡ map (check_with x.profile (has_sync x.units) x.checks (filled x.profile rows)) (range_with_len 0 m)
      → IsMade (going_of x) rows last body (record { profile = x.profile; units = x.units; sending = sending; writing = writing; pasts = pasts; checks = checks; fifo = x.fifo })
  made coded_are end a b sent whole same next eight after = made_here (subst (λ (e : Option ℕ). Sent cs e) b (subst (λ (c : List CodedFrame). Sent c end) a (sent, whole))) same next eight after
