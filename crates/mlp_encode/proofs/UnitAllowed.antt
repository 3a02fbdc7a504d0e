-- What a unit sends around its segments can be written, and may follow what was sent before.
use Rattle.std.proofs.Common.{◌≡◌, ℕ, ◌+◌, ◌/◌, ◌%◌, ◌<◌, ◌≤◌, Bool, true, false, List, [], ◌∷◌, length, Option, Some, None, refl, sym, ap, ◌∙◌, arith}
use Rattle.std.specs.Prelude.{◌&&◌, ◌||◌, not, nat_le, if◌then◌else◌}
use Rattle.std.proofs.lemmas.Bool.{and_from, le-leb}
use Rattle.std.proofs.lemmas.List.{length-append}
use Rattle.mlp_syntax.specs.declared.major.Kind.{Kind}
use Rattle.mlp_syntax.specs.declared.major.Kind.TheVariants.{Fbb, Fba}
use Rattle.mlp_syntax.specs.declared.major.MajorSync.{MajorSync}
use Rattle.mlp_syntax.specs.declared.unit.DirEntry.{DirEntry}
use Rattle.mlp_layout.specs.Layout.{number_of, whole, part, made, item, next_is}
use Rattle.mlp_layout.specs.Combined.{chosen, present, times}
use Rattle.mlp_layout.proofs.Fitting.{flag_fits}
use Rattle.mlp_major.specs.MajorSync.{sync, is_fba}
use Rattle.mlp_unit.specs.Directory.{entry, directory, first_failing, may_stand}
use Rattle.mlp_unit.specs.AccessUnit.{in_force, stream_kind, is_restart_flag, first_bad_end}
use Rattle.mlp_unit.specs.Written.{MajorFits, CountFits, Writable, MayFollow}
use Rattle.mlp_unit.proofs.UnitFitting.{plain_first}
use Rattle.mlp_fold.specs.declared.profile.Profile.{Profile}
use Rattle.mlp_fold.specs.Substreams.{substreams_of}
use Rattle.mlp_encode.specs.Sync.{sync_of}
use Rattle.mlp_encode.specs.Lawful.{AreWords}
use Rattle.mlp_encode.specs.Unit.{entry_at, entries_from, joined}
use Rattle.mlp_encode.proofs.SyncAllowed.{Passes, substreams_some, substreams_few, sync_fits, keeps_first, keeps_later}

-- ---- the body

pub joined_words : (segments : List (List ℕ)) → AreWords segments → length (joined segments) % 2 ≡ 0
joined_words [] h = refl
joined_words (bytes ∷ more) h = let rest = joined_words more h.1 in omega (arith, h.0, rest, length-append bytes (joined more))

-- ---- the entries

pub entries_count : (major : Bool) (start : ℕ) (segments : List (List ℕ)) → length (entries_from major start segments) ≡ length segments
entries_count major start [] = refl
entries_count major start (bytes ∷ more) = let rest = entries_count major (start + length bytes / 2) more in omega (arith, rest)

entry_fits : (major : Bool) (end : ℕ) → end < 4096 → entry.Fits (entry_at major end)
unfolding entry part made number_of present chosen
entry_fits major end lt = (flag_fits false, (flag_fits (not major), (flag_fits true, (flag_fits false, (lt, (refl, refl))))))

-- they end where their segments do
ends_rise : (major : Bool) (start last place : ℕ) (segments : List (List ℕ)) → AreWords segments → start + length (joined segments) / 2 ≤ last → first_bad_end start last place (entries_from major start segments) ≡ None
ends_rise major start last place [] h le = refl
ends_rise major start last place (bytes ∷ more) h le =
    let words = joined_words more h.1 in
    let end : ℕ = start + length bytes / 2 in
    let later : end + length (joined more) / 2 ≤ last = omega (arith, le, h.0, words, length-append bytes (joined more)) in
    let here : (nat_le start end && nat_le end last) ≡ true = and_from _ _ (le-leb start end (omega arith)) (le-leb end last (omega (arith, later))) in
    ap (λ (b : Bool). if b then first_bad_end end last (place + 16) (entries_from major end more) else Some place) here ∙ ends_rise major end last (place + 16) more h.1 later

entries_fit : (major : Bool) (start : ℕ) (segments : List (List ℕ)) → AreWords segments → start + length (joined segments) / 2 < 4096
    → (directory (length (entries_from major start segments))).Fits (entries_from major start segments)
unfolding directory times item made whole
entries_fit major start [] h lt = refl
entries_fit major start (bytes ∷ more) h lt =
    let words = joined_words more h.1 in
    let end : ℕ = start + length bytes / 2 in
    let later : end + length (joined more) / 2 < 4096 = omega (arith, lt, h.0, words, length-append bytes (joined more)) in
    (entry_fits major end (omega (arith, later)), entries_fit major end more h.1 later)

no_sync_there : (major : Bool) (segments : List (List ℕ)) → 0 < length segments → next_is 31 sync ((directory (length (entries_from major 0 segments))).spelling (entries_from major 0 segments)) ≡ false
no_sync_there major [] lt = absurd (omega (arith, lt))
no_sync_there major (bytes ∷ more) lt = plain_first (entry_at major (0 + length bytes / 2)) (entries_from major (0 + length bytes / 2) more) refl

-- ---- the unit

abbrev pub major_at : Profile → Bool → Option MajorSync
major_at p major = if major then Some (sync_of p) else None

major_fits : (p : Profile) → Passes p → (major : Bool) → MajorFits (major_at p major)
major_fits p h true = sync_fits p h
major_fits p h false = tt

count_fits : (p : Profile) (major : Bool) (n : ℕ) → n ≡ substreams_of p.channels → CountFits (major_at p major) n
count_fits p true n e = e
count_fits p false n e = tt

pub writable : (p : Profile) (major : Bool) (segments : List (List ℕ)) → Passes p → length segments ≡ substreams_of p.channels → AreWords segments → length (joined segments) ≤ 8190
    → Writable (major_at p major) (entries_from major 0 segments) (joined segments)
writable p major segments h count words few =
    let n = entries_count major 0 segments in
    let some = substreams_some p.channels in
    let most = substreams_few p.channels in
    record {
      major_fits = major_fits p h major;
      entries_fit = entries_fit major 0 segments words (omega (arith, few));
      some = omega (arith, n, count, some);
      few = omega (arith, n, count, most);
      count = count_fits p major (length (entries_from major 0 segments)) (n ∙ count);
      whole_words = joined_words segments words;
      ends = ends_rise major 0 (length (joined segments) / 2) 0 segments words (omega arith);
      unlike = λ e. no_sync_there major segments (omega (arith, count, some));
    }

-- ---- behind the units before it

none_fails : (holds : DirEntry → Bool) (major : Bool) → ((end : ℕ) → holds (entry_at major end) ≡ true) → (start place : ℕ) (segments : List (List ℕ)) → first_failing holds place (entries_from major start segments) ≡ None
none_fails holds major h start place [] = refl
none_fails holds major h start place (bytes ∷ more) =
    let end : ℕ = start + length bytes / 2 in
    ap (λ (b : Bool). if b then first_failing holds (place + 16) (entries_from major end more) else Some place) (h end) ∙ none_fails holds major h end (place + 16) more

no_extra : (k : Kind) → (is_fba k || true) ≡ true
no_extra Fbb = refl
no_extra Fba = refl

-- the first unit of a stream
pub follows_none : (p : Profile) (segments : List (List ℕ)) → Passes p → length segments ≡ substreams_of p.channels → MayFollow None (major_at p true) (entries_from true 0 segments)
follows_none p segments h count = record {
  sync = keeps_first p h;
  count = sym (entries_count true 0 segments ∙ count);
  extra = none_fails (may_stand (stream_kind (in_force None (major_at p true)))) true (λ end. no_extra (stream_kind (in_force None (major_at p true)))) 0 0 segments;
  flags = none_fails (is_restart_flag true) true (λ end. refl) 0 0 segments;
}

-- each later one
pub follows_first : (p : Profile) (major : Bool) (segments : List (List ℕ)) → Passes p → length segments ≡ substreams_of p.channels → MayFollow (Some (sync_of p)) (major_at p major) (entries_from major 0 segments)
follows_first p true segments h count = record {
  sync = keeps_later p h;
  count = sym (entries_count true 0 segments ∙ count);
  extra = none_fails (may_stand (stream_kind (Some (sync_of p)))) true (λ end. no_extra (stream_kind (Some (sync_of p)))) 0 0 segments;
  flags = none_fails (is_restart_flag true) true (λ end. refl) 0 0 segments;
}
follows_first p false segments h count = record {
  sync = tt;
  count = sym (entries_count false 0 segments ∙ count);
  extra = none_fails (may_stand (stream_kind (Some (sync_of p)))) false (λ end. no_extra (stream_kind (Some (sync_of p)))) 0 0 segments;
  flags = none_fails (is_restart_flag false) false (λ end. refl) 0 0 segments;
}
