-- The outer part of a unit that is sent may follow the units before it.
use Rattle.std.proofs.Common.{◌≡◌, ℕ, zero, suc, ◌+◌, ◌*◌, ◌/◌, ◌^◌, ◌<◌, ◌≤◌, Bool, true, false, List, [], ◌∷◌, ◌++◌, length, take, drop, get_or, Option, Some, None, refl, sym, ap, ◌∙◌, subst, arith, append_assoc}
use Rattle.mlp_syntax.specs.declared.major.MajorSync.{MajorSync}
use Rattle.mlp_syntax.specs.declared.unit.DirEntry.{DirEntry}
use Rattle.mlp_layout.specs.Allowed.{Allowed}
use Rattle.mlp_unit.specs.AccessUnit.{AccessUnit, access_unit, in_force}
use Rattle.mlp_unit.specs.Written.{MayFollow, Writable, unit_size, written_unit}
use Rattle.mlp_unit.specs.Laws.{AreBytes}
use Rattle.mlp_unit.proofs.Fewer.{next_allowed}
use Rattle.mlp_fold.specs.declared.profile.Profile.{Profile}
use Rattle.mlp_fold.specs.Substreams.{substreams_of as substreams}
use Rattle.mlp_encode.specs.Sync.{sync_of}
use Rattle.mlp_encode.specs.Unit.{entries_from, joined}
use Rattle.mlp_encode.proofs.SyncAllowed.{Passes}
use Rattle.mlp_encode.proofs.UnitAllowed.{major_at, follows_none, follows_first}

-- ---- the entries

pub checked_all : (sync : Bool) (start : ℕ) (bs : List (List ℕ)) (i : ℕ) (d : DirEntry) → i < length bs → (get_or (entries_from sync start bs) i d).checked ≡ true
checked_all sync start [] i d lt = absurd (omega arith)
checked_all sync start (b ∷ bs) zero d lt = refl
checked_all sync start (b ∷ bs) (suc i) d lt = checked_all sync (start + length b / 2) bs i d (omega arith)

-- ---- the unit

module _ (p : Profile) (passes : Passes p) (first : Option MajorSync) (sync : Bool) (bs : List (List ℕ)) (same : in_force first (major_at p sync) ≡ Some (sync_of p)) (count : length bs ≡ substreams p.channels) where
  pub follows : MayFollow first (major_at p sync) (entries_from sync 0 bs)
  follows = pick sync first same
    where
      pick : (t : Bool) (first : Option MajorSync) → in_force first (major_at p t) ≡ Some (sync_of p) → MayFollow first (major_at p t) (entries_from t 0 bs)
      pick true None e = follows_none p bs passes count
      pick false None e = absurd cc
      pick t (Some m) e = let is : sync_of p ≡ m = cc in subst (λ (m : MajorSync). MayFollow (Some m) (major_at p t) (entries_from t 0 bs)) is (follows_first p t bs passes count)

  pub outer_allowed : (timing : ℕ) → timing < 2 ^ 16 → Writable (major_at p sync) (entries_from sync 0 bs) (joined bs) → AreBytes (joined bs) → unit_size (major_at p sync) (entries_from sync 0 bs) (joined bs) ≤ 8190
      → Allowed (access_unit first) (written_unit timing (major_at p sync) (entries_from sync 0 bs) (joined bs))
  outer_allowed timing clock w bytes small = next_allowed first timing (major_at p sync) (entries_from sync 0 bs) (joined bs) (record { writable = w; follows = follows; clock = clock; bytes = bytes; small = small })
