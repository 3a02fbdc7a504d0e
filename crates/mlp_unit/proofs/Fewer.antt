-- What an extraction makes of a unit, and a unit with another timing and body.
use Rattle.std.proofs.Common.{◌≡◌, ℕ, zero, suc, ◌+◌, ◌*◌, ◌/◌, ◌%◌, ◌<◌, ◌≤◌, leb, eqb, cond, Bool, true, false, List, [], ◌∷◌, ◌++◌, length, take, Option, Some, None, refl, sym, ap, subst, ◌∙◌, arith}
use Rattle.std.proofs.lemmas.Bool.{le-leb, leb-true}
use Rattle.std.proofs.lemmas.List.{length-take, take-append-le}
use Rattle.std.specs.Prelude.{is_some, IfSome, option_map}
use Rattle.mlp_syntax.specs.declared.major.Kind.{Kind}
use Rattle.mlp_syntax.specs.declared.major.MajorSync.{MajorSync}
use Rattle.mlp_syntax.specs.declared.unit.DirEntry.{DirEntry}
use Rattle.mlp_bits.specs.Bits.{number}
use Rattle.mlp_layout.specs.Layout.{whole, item, made, next_is}
use Rattle.mlp_layout.specs.Combined.{times}
use Rattle.mlp_major.specs.MajorSync.{sync, smaller, KeepsRules}
use Rattle.mlp_major.proofs.SyncRules.{narrows_well}
use Rattle.mlp_unit.specs.Directory.{entry, entry_size, directory, directory_size, first_failing, may_stand}
use Rattle.mlp_unit.specs.AccessUnit.{AccessUnit, access_unit, in_force, substreams_of, stream_kind, major_size, first_bad_end, is_restart_flag}
use Rattle.mlp_unit.specs.Shape.{end_at}
use Rattle.mlp_unit.specs.Written.{MajorFits, CountFits, FirstUsable, MayFollow, Writable, unit_size, written_unit}
use Rattle.mlp_layout.specs.Allowed.{Allowed}
use Rattle.mlp_unit.specs.Laws.{AreBytes, MayBeNext, RewrittenMeets, FewerMeets}
use Rattle.mlp_unit.proofs.UnitLaws.{entry_takes}
use Rattle.mlp_layout.proofs.Fitting.{Small}
use Rattle.mlp_unit.proofs.ParityLaws.{small-take, small_bytes}
use Rattle.mlp_unit.proofs.WrittenLaws.{unit_fits, behind_first_bit, directory_first, directory_first_fits, no_sync}
use Rattle.mlp_unit.proofs.UnitRules.{unit_meets}
use Rattle.mlp_unit.proofs.SegmentPlaces.{ends_split, ends_rise}
use Rattle.mlp_unit.proofs.Reread.{parts_of, writable, small_size}

-- ---- what can be written as the next unit

written_allowed : (first : Option MajorSync) (timing : ℕ) (major : Option MajorSync) (entries : List DirEntry) (body : List ℕ)
    → Writable major entries body → MayFollow first major entries → timing < 65536 → Small body → unit_size major entries body ≤ 8190
    → Allowed (access_unit first) (written_unit timing major entries body)
written_allowed first timing major entries body w f clock small size = record {
  fits = unit_fits first timing major entries body w f.count clock small size;
  meets = unit_meets first timing major entries body w f size;
}

pub next_allowed : (first : Option MajorSync) (timing : ℕ) (major : Option MajorSync) (entries : List DirEntry) (body : List ℕ)
    → MayBeNext first timing major entries body → Allowed (access_unit first) (written_unit timing major entries body)
next_allowed first timing major entries body n = written_allowed first timing major entries body n.writable n.follows n.clock (small_bytes body n.bytes) n.small

-- ---- another timing and body

pub rewritten_meets : (first : Option MajorSync) (timing : ℕ) (u : AccessUnit) (body : List ℕ) → FirstUsable first → Allowed (access_unit first) u
    → timing < 65536 → AreBytes body → length body ≡ length u.body → RewrittenMeets first timing u body
rewritten_meets first timing u body usable a clock bytes same =
    let p = parts_of first u (λ none. usable) a.fits a.meets in
    let w = writable first u (λ none. usable) a.fits a.meets in
    let size = small_size first u (λ none. usable) a.fits a.meets in
    let v : Writable u.major u.entries body = record {
      major_fits = w.major_fits;
      entries_fit = w.entries_fit;
      some = w.some;
      few = w.few;
      count = w.count;
      whole_words = ap (λ (n : ℕ). n % 2) same ∙ w.whole_words;
      ends = subst (λ (n : ℕ). first_bad_end 0 (n / 2) 0 u.entries ≡ None) (sym same) w.ends;
      unlike = w.unlike;
    } in
    record {
      writable = v;
      allowed = written_allowed first timing u.major u.entries body v p.asked clock (small_bytes body bytes) (omega (arith, size, same));
    }

-- ---- fewer entries

directory_fewer : (n : ℕ) (es : List DirEntry) → (directory (length es)).Fits es → (directory (length (take n es))).Fits (take n es)
unfolding directory times item made whole
directory_fewer zero es fits = refl
directory_fewer (suc n) [] fits = refl
directory_fewer (suc n) (e ∷ es) fits = (fits.0, directory_fewer n es fits.1)

pub size_fewer : (n : ℕ) (es : List DirEntry) → directory_size (take n es) ≤ directory_size es
size_fewer zero es = omega arith
size_fewer (suc n) [] = omega arith
size_fewer (suc n) (e ∷ es) = let later = size_fewer n es in omega (arith, later)

failing_fewer : (holds : DirEntry → Bool) (p n : ℕ) (es : List DirEntry) → first_failing holds p es ≡ None → first_failing holds p (take n es) ≡ None
failing_fewer holds p zero es e = refl
failing_fewer holds p (suc n) [] e = refl
failing_fewer holds p (suc n) (x ∷ es) e = by_case (λ k. failing_fewer holds (p + 8 * entry_size x) n es k) (holds x) refl e
  where
    by_case : (first_failing holds (p + 8 * entry_size x) es ≡ None → first_failing holds (p + 8 * entry_size x) (take n es) ≡ None)
        → (b : Bool) → holds x ≡ b → cond {A = Option ℕ} b (first_failing holds (p + 8 * entry_size x) es) (Some p) ≡ None
        → cond {A = Option ℕ} (holds x) (first_failing holds (p + 8 * entry_size x) (take n es)) (Some p) ≡ None
    by_case later true is k = rw is (later k)
    by_case later false is k = absurd cc

-- an end lies above what is before the first
above : (before last p : ℕ) (es : List DirEntry) (j : ℕ) → first_bad_end before last p es ≡ None → j < length es → before ≤ end_at es j
above before last p [] j none lt = absurd (omega arith)
above before last p (e ∷ es) zero none lt = leb-true _ _ (ends_split before last p e es none).0.0
above before last p (e ∷ es) (suc j) none lt =
    let s = ends_split before last p e es none in
    omega (arith, leb-true before e.end s.0.0, above e.end last (p + 8 * entry_size e) es j s.1 (omega arith))

ends_fewer : (before last p : ℕ) (es : List DirEntry) (j : ℕ) → first_bad_end before last p es ≡ None → j < length es → first_bad_end before (end_at es j) p (take (suc j) es) ≡ None
ends_fewer before last p [] j none lt = absurd (omega arith)
ends_fewer before last p (e ∷ es) zero none lt =
    let here : leb before e.end ≡ true = (ends_split before last p e es none).0.0 in
    let same : leb e.end e.end ≡ true = le-leb _ _ (omega arith) in
    rw (here, same) refl
ends_fewer before last p (e ∷ es) (suc j) none lt =
    let s = ends_split before last p e es none in
    let rises : leb e.end (end_at es j) ≡ true = le-leb _ _ (above e.end last (p + 8 * entry_size e) es j s.1 (omega arith)) in
    rw (s.0.0, rises) (ends_fewer e.end last (p + 8 * entry_size e) es j s.1 (omega arith))

-- whether a directory begins as a major sync does lies in its first entry
unlike_fewer : (n : ℕ) (es : List DirEntry) → 0 < length es → (directory (length es)).Fits es → next_is 31 sync ((directory (length es)).spelling es) ≡ false
    → next_is 31 sync ((directory (length (take (suc n) es))).spelling (take (suc n) es)) ≡ false
unlike_fewer n [] some fits unlike = absurd (omega arith)
unlike_fewer n (e ∷ es) some fits unlike = by_extra e.extra refl
  where
    by_extra : (o : Option ℕ) → e.extra ≡ o → next_is 31 sync ((directory (length (e ∷ take n es))).spelling (e ∷ take n es)) ≡ false
    by_extra None is =
        let text = (directory (length (take n es))).spelling (take n es) in
        let b = behind_first_bit e in
        let first : (directory (length (e ∷ take n es))).spelling (e ∷ take n es) ≡ false ∷ (b.0 ++ text) =
        directory_first e (take n es) ∙ ap (λ (t : List Bool). t ++ text) (b.1 ∙ ap (λ (o : Option ℕ). is_some o ∷ b.0) is) in
        ap (λ (t : List Bool). eqb (number (take 31 t)) sync) first ∙ no_sync (b.0 ++ text)
    by_extra (Some x) is =
        let text = (directory (length (take n es))).spelling (take n es) in
        let all = (directory (length es)).spelling es in
        let len = entry_takes.takes e (directory_first_fits e es fits) in
        let four : entry_size e ≡ 4 = ap (λ (o : Option ℕ). cond (is_some o) 4 2) is in
        let long : 31 ≤ length (entry.spelling e) = omega (arith, len, four) in
        let one : take 31 ((directory (length (e ∷ take n es))).spelling (e ∷ take n es)) ≡ take 31 (entry.spelling e) = ap (take 31) (directory_first e (take n es)) ∙ take-append-le 31 (entry.spelling e) text long in
        let two : take 31 ((directory (length (e ∷ es))).spelling (e ∷ es)) ≡ take 31 (entry.spelling e) = ap (take 31) (directory_first e es) ∙ take-append-le 31 (entry.spelling e) all long in
        ap (λ (t : List Bool). eqb (number t) sync) (one ∙ sym two) ∙ unlike

-- ---- the smaller sync

pub some_smaller : (k : ℕ) (o : Option MajorSync) → is_some (option_map (smaller k) o) ≡ is_some o
some_smaller k None = refl
some_smaller k (Some m) = refl

pub size_smaller : (k : ℕ) (o : Option MajorSync) → major_size (option_map (smaller k) o) ≡ major_size o
size_smaller k None = refl
size_smaller k (Some m) = refl

pub force_smaller : (k : ℕ) (first o : Option MajorSync) → in_force (option_map (smaller k) first) (option_map (smaller k) o) ≡ option_map (smaller k) (in_force first o)
force_smaller k None o = refl
force_smaller k (Some f) o = refl

kind_smaller : (k : ℕ) (o : Option MajorSync) → stream_kind (option_map (smaller k) o) ≡ stream_kind o
kind_smaller k None = refl
kind_smaller k (Some m) = refl

count_smaller : (k n : ℕ) (o : Option MajorSync) → substreams_of o ≡ n → 0 < n → substreams_of (option_map (smaller k) o) ≡ k + 1
count_smaller k n None e some = absurd (omega arith)
count_smaller k n (Some m) e some = refl

major_smaller : (k n : ℕ) (o : Option MajorSync) → CountFits o n → k < n → MajorFits o → MajorFits (option_map (smaller k) o)
major_smaller k n None count lt fits = tt
major_smaller k n (Some m) count lt fits = (narrows_well k m (omega (arith, count))).fits fits

count_fewer : (k n : ℕ) (o : Option MajorSync) → n ≡ k + 1 → CountFits (option_map (smaller k) o) n
count_fewer k n None e = tt
count_fewer k n (Some m) e = e

keeps_smaller : (k n : ℕ) (first o : Option MajorSync) → CountFits o n → k < n → IfSome o (KeepsRules first) → IfSome (option_map (smaller k) o) (KeepsRules (option_map (smaller k) first))
keeps_smaller k n first None count lt keeps = tt
keeps_smaller k n first (Some m) count lt keeps = (narrows_well k m (omega (arith, count))).rules first keeps

-- ---- an extraction

module _ (k : ℕ) (first : Option MajorSync) (u : AccessUnit) (usable : FirstUsable first) (a : Allowed (access_unit first) u) (lt : k < length u.entries) where
  w : Writable u.major u.entries u.body
  w = writable first u (λ none. usable) a.fits a.meets

  entry_count : length (take (k + 1) u.entries) ≡ k + 1
  entry_count = omega (arith, length-take (k + 1) u.entries)

  body_size : length (take (2 * end_at u.entries k) u.body) ≡ 2 * end_at u.entries k
  body_size = omega (arith, length-take (2 * end_at u.entries k) u.body, ends_rise 0 (length u.body / 2) 0 u.entries k w.ends lt)

  one_more : k + 1 ≡ suc k
  one_more = omega arith

  fewer_writable : Writable (option_map (smaller k) u.major) (take (k + 1) u.entries) (take (2 * end_at u.entries k) u.body)
  fewer_writable = record {
    major_fits = major_smaller k (length u.entries) u.major w.count lt w.major_fits;
    entries_fit = directory_fewer (k + 1) u.entries w.entries_fit;
    some = omega (arith, entry_count);
    few = omega (arith, entry_count, w.few);
    count = count_fewer k (length (take (k + 1) u.entries)) u.major entry_count;
    whole_words = omega (arith, body_size);
    ends =
        let half : length (take (2 * end_at u.entries k) u.body) / 2 ≡ end_at u.entries k = omega (arith, body_size) in
        rw (half, one_more) (ends_fewer 0 (length u.body / 2) 0 u.entries k w.ends lt);
    unlike = λ none. rw one_more (unlike_fewer k u.entries w.some w.entries_fit (w.unlike (sym (some_smaller k u.major) ∙ none)));
  }

  fewer_follows : MayFollow (option_map (smaller k) first) (option_map (smaller k) u.major) (take (k + 1) u.entries)
  fewer_follows =
      let f = (parts_of first u (λ none. usable) a.fits a.meets).asked in
      let force = force_smaller k first u.major in
      let kind : stream_kind (in_force (option_map (smaller k) first) (option_map (smaller k) u.major)) ≡ stream_kind (in_force first u.major) = ap stream_kind force ∙ kind_smaller k (in_force first u.major) in
      record {
        sync = keeps_smaller k (length u.entries) first u.major w.count lt f.sync;
        count = ap substreams_of force ∙ count_smaller k (length u.entries) (in_force first u.major) f.count w.some ∙ sym entry_count;
        extra = subst (λ (x : Kind). first_failing (may_stand x) 0 (take (k + 1) u.entries) ≡ None) (sym kind) (failing_fewer (may_stand (stream_kind (in_force first u.major))) 0 (k + 1) u.entries f.extra);
        flags = subst (λ (b : Bool). first_failing (is_restart_flag b) 0 (take (k + 1) u.entries) ≡ None) (sym (some_smaller k u.major)) (failing_fewer (is_restart_flag (is_some u.major)) 0 (k + 1) u.entries f.flags);
      }

  fewer_small : unit_size (option_map (smaller k) u.major) (take (k + 1) u.entries) (take (2 * end_at u.entries k) u.body) ≤ 8190
  fewer_small = omega (arith, small_size first u (λ none. usable) a.fits a.meets, size_smaller k u.major, size_fewer (k + 1) u.entries, body_size, ends_rise 0 (length u.body / 2) 0 u.entries k w.ends lt)

  pub fewer_meets : FewerMeets k first u
  fewer_meets =
      let p = parts_of first u (λ none. usable) a.fits a.meets in
      record {
        writable = fewer_writable;
        small = fewer_small;
        allowed = written_allowed (option_map (smaller k) first) u.head.timing (option_map (smaller k) u.major) (take (k + 1) u.entries)
            (take (2 * end_at u.entries k) u.body) fewer_writable fewer_follows p.timing (small-take (2 * end_at u.entries k) u.body p.small) fewer_small;
      }
