-- The major sync that is sent, as a decoder takes it.
use Rattle.std.proofs.Common.{◌≡◌, ℕ, ◌*◌, ◌%◌, ◌^◌, Bool, true, false, Some, refl, sym, ap, ◌∙◌, subst, inl, inr}
use Rattle.std.specs.Prelude.{nat_le, nat_lt, not, ◌==◌, ◌&&◌, ◌||◌, if◌then◌else◌}
use Rattle.std.proofs.lemmas.Bool.{and_parts, or_cases, eqb-true}
use Rattle.mlp_syntax.specs.declared.major.Kind.{Kind}
use Rattle.mlp_syntax.specs.declared.major.Kind.TheVariants.{Fbb, Fba}
use Rattle.mlp_major.specs.MajorSync.{kind_of, unit_frames}
use Rattle.mlp_unit.specs.AccessUnit.{stream_kind}
use Rattle.mlp_contents.specs.Units.{frames_in_unit}
use Rattle.mlp_fifo.specs.Pace.{unit_of}
use Rattle.mlp_fold.specs.declared.profile.Profile.{Profile}
use Rattle.mlp_fold.specs.Profile.{has_channels, has_rate}
use Rattle.mlp_fold.specs.Substreams.{substreams_of}
use Rattle.mlp_encode.specs.Numbers.{rate_code}
use Rattle.mlp_encode.specs.Sync.{format_of, sync_of}
use Rattle.mlp_encode.proofs.SyncAllowed.{Passes}

-- ---- its rate

-- what holds of each of the six rates
pub of_rate : (P : ℕ → Type 0) → P 44100 → P 48000 → P 88200 → P 96000 → P 176400 → P 192000 → (rate channels : ℕ) → has_rate rate channels ≡ true → P rate
of_rate P a b c d e f rate channels h =
    let at : (n : ℕ) → P n → (rate == n) ≡ true → P rate = λ n p is. subst P (sym (eqb-true rate n is)) p in
    let t0 : Bool = rate == 44100 in
    let t1 : Bool = rate == 48000 in
    let t2 : Bool = rate == 88200 in
    let t3 : Bool = rate == 96000 in
    let t4 : Bool = rate == 176400 in
    let t5 : Bool = rate == 192000 in
    let some = (and_parts (t0 || t1 || t2 || t3 || t4 || t5) (not ((channels == 8) && nat_lt 96000 rate)) h).0 in
    elim (or_cases (t0 || t1 || t2 || t3 || t4) t5 some) [
      | inr is ↦ at 192000 f is
      | inl some4 ↦ elim (or_cases (t0 || t1 || t2 || t3) t4 some4) [
        | inr is ↦ at 176400 e is
        | inl some3 ↦ elim (or_cases (t0 || t1 || t2) t3 some3) [
          | inr is ↦ at 96000 d is
          | inl some2 ↦ elim (or_cases (t0 || t1) t2 some2) [
            | inr is ↦ at 88200 c is
            | inl some1 ↦ elim (or_cases t0 t1 some1) [
              | inr is ↦ at 48000 b is
              | inl is ↦ at 44100 a is
            ]
          ]
        ]
      ]
    ]

frames_by_code : (rate channels : ℕ) → has_rate rate channels ≡ true → 40 * 2 ^ (rate_code rate % 8) ≡ unit_of rate
unfolding unit_of
frames_by_code = of_rate (λ r. 40 * 2 ^ (rate_code r % 8) ≡ unit_of r) refl refl refl refl refl refl

-- ---- the sync

kind_there : (kind : Kind) (rate channels depth : ℕ) → kind_of (format_of kind rate channels depth) ≡ kind
kind_there Fbb rate channels depth = refl
kind_there Fba rate channels depth = refl

pub sync_kind : (p : Profile) → stream_kind (Some (sync_of p)) ≡ p.kind
sync_kind p = kind_there p.kind p.rate p.channels p.depth

frames_there : (kind : Kind) (p : Profile) → p.kind ≡ kind → unit_frames (sync_of p) ≡ 40 * 2 ^ (rate_code p.rate % 8)
frames_there Fbb p e = ap (λ (k : Kind). unit_frames (record (sync_of p) { format = format_of k p.rate p.channels p.depth })) e
frames_there Fba p e = ap (λ (k : Kind). unit_frames (record (sync_of p) { format = format_of k p.rate p.channels p.depth })) e

pub sync_frames : (p : Profile) → Passes p → frames_in_unit (Some (sync_of p)) ≡ unit_of p.rate
sync_frames p h = frames_there p.kind p refl ∙ frames_by_code p.rate p.channels h.rate

-- ---- its substreams

pub two_at_most : (channels : ℕ) → has_channels Fbb channels ≡ true → nat_le (substreams_of channels) 2 ≡ true
two_at_most channels h = pick (channels == 2) (channels == 6) h
  where
    pick : (a b : Bool) → (a || b) ≡ true → nat_le (if a then 1 else (if b then 2 else 3)) 2 ≡ true
    pick true b h = refl
    pick false true h = refl
    pick false false h = absurd cc
