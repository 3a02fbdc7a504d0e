-- What is known of a unit whose parts were read, and the first rule on its directory that fails.
use Rattle.std.proofs.Common.{◌≡◌, ℕ, ◌+◌, ◌-◌, ◌*◌, ◌/◌, ◌≤◌, eqb, cond, Bool, List, ◌++◌, length, take, drop, Option, Some, None, Ok, refl, sym, subst, ◌∙◌, arith}
use Rattle.std.proofs.lemmas.List.{length-drop}
use Rattle.std.specs.Prelude.{is_some}
use Rattle.mlp_syntax.specs.declared.fault.Field.{Field}
use Rattle.mlp_syntax.specs.declared.fault.Field.TheVariants as rule
use Rattle.mlp_syntax.specs.declared.major.Kind.{Kind}
use Rattle.mlp_syntax.specs.declared.major.MajorSync.{MajorSync}
use Rattle.mlp_syntax.specs.declared.unit.DirEntry.{DirEntry}
use Rattle.mlp_syntax.specs.declared.unit.Outer.{Outer}
use Rattle.mlp_bits.specs.Bits.{bits_of}
use Rattle.mlp_bits.specs.Checks.{nibble_parity_of}
use Rattle.mlp_layout.specs.Layout.{Found, tested, part, marked, sized}
use Rattle.mlp_layout.specs.Combined.{first_fault, fault_or, present}
use Rattle.mlp_layout.proofs.LayoutLaws.{is_found}
use Rattle.mlp_layout.proofs.CombinedLaws.{times_count}
use Rattle.mlp_layout.proofs.Standing.{Stands-front, Stands-back}
use Rattle.mlp_major.specs.MajorSync.{major_sync}
use Rattle.mlp_major.proofs.SyncReading.{bits_of-middle}
use Rattle.mlp_unit.specs.Directory.{directory, directory_size, first_failing, may_stand}
use Rattle.mlp_unit.specs.AccessUnit.{AccessUnit, head, in_force, stream_kind, substreams_of, major_size, behind_sync, parts, rules, parity_of, further, first_bad_end, directory_place, is_restart_flag}
use Rattle.mlp_unit.specs.Shape.{unit_with, body_place}
use Rattle.mlp_unit.proofs.UnitLaws.{parts_is, parts_take, head_takes, directory_takes, sync_takes}
use Rattle.mlp_layout.proofs.Fitting.{Small}
use Rattle.mlp_unit.proofs.ParityLaws.{small-take, small-drop, parity_is}

-- ---- where head and directory stand

pub record Laid (all : List Bool) (u : AccessUnit) : Type 0 where
  pub head : take 32 all ≡ head.spelling u.head
  pub directory : take (8 * directory_size u.entries) (drop (32 + 8 * major_size u.major) all) ≡ (directory (length u.entries)).spelling u.entries

pub laid : (first : Option MajorSync) (all : List Bool) (u : AccessUnit) → Found (parts first) all 0 u → Laid all u
unfolding parts sized marked part behind_sync tested directory
laid first all u f =
    let h-len = head_takes.takes u.head f.fits.0 in
    let rest = f.fits.1.0.0 in
    let m-len = (sync_takes (is_some u.major) first).takes u.major rest.0 in
    let n = substreams_of (in_force first u.major) in
    let d-fits = rest.1.0 in
    let d-len = (directory_takes n).takes u.entries d-fits in
    let count : length u.entries ≡ n = times_count n _ u.entries d-fits in
    let one = Stands-front all 0 _ _ f.stands in
    let two = Stands-back all 0 (head.spelling u.head) _ f.stands in
    let three = Stands-back all _ ((present (is_some u.major) (major_sync first)).spelling u.major) _ two in
    let four = Stands-front all _ ((directory n).spelling u.entries) _ three in
    let at : 0 + length (head.spelling u.head) + length ((present (is_some u.major) (major_sync first)).spelling u.major) ≡ 32 + 8 * major_size u.major = omega (arith, h-len, m-len) in
    record {
      head = subst (λ (k : ℕ). take k all ≡ head.spelling u.head) h-len one.text_is;
      directory = rw count (subst (λ (k : ℕ). take k (drop (32 + 8 * major_size u.major) all) ≡ (directory n).spelling u.entries) d-len
          (subst (λ (k : ℕ). take (length ((directory n).spelling u.entries)) (drop k all) ≡ (directory n).spelling u.entries) at four.text_is));
    }

-- ---- what the checks look at

pub record Seen (bytes : List ℕ) (o : Outer) : Type 0 where
  pub inside : o.body ≤ length bytes
  pub start : 4 + major_size o.major ≤ o.body
  pub parity : parity_of o.head o.entries.items ≡ nibble_parity_of (take 4 bytes ++ take (o.body - (4 + major_size o.major)) (drop (4 + major_size o.major) bytes))

pub seen_parts : (first : Option MajorSync) (bytes : List ℕ) (o : Outer) → Small bytes → (parts first).read (bits_of bytes) 0 ≡ Ok (unit_with bytes o, 8 * length bytes) → o.body ≡ body_place (unit_with bytes o) → Seen bytes o
seen_parts first bytes o small e body =
    let u = unit_with bytes o in
    let f = is_found (parts_is first) (bits_of bytes) 0 (omega arith) (u, 8 * length bytes) e in
    let len = (parts_take first).takes u f.0.fits in
    let l = laid first (bits_of bytes) u f.0 in
    let start = 4 + major_size o.major in
    let size : o.body - start ≡ directory_size o.entries.items = omega (arith, body) in
    let inside : o.body ≤ length bytes = omega (arith, body, len, f.1) in
    let h-bits : bits_of (take 4 bytes) ≡ head.spelling o.head = sym (bits_of-middle 0 4 bytes (omega (arith, inside, body))) ∙ l.head in
    let place : 8 * start ≡ 32 + 8 * major_size o.major = omega arith in
    let d-bits : bits_of (take (o.body - start) (drop start bytes)) ≡ (directory (length o.entries.items)).spelling o.entries.items =
    sym (bits_of-middle start (o.body - start) bytes (omega (arith, inside, body))) ∙ rw (place, size) l.directory in
    record {
      inside = inside;
      start = omega (arith, body);
      parity = rw (← h-bits, ← d-bits) (parity_is (take 4 bytes) (take (o.body - start) (drop start bytes)) (small-take 4 bytes small) (small-take (o.body - start) (drop start bytes) (small-drop start bytes small)));
    }

-- ---- the first rule that fails

-- by what each of the rules finds
abbrev pub found_faults : Option ℕ → ℕ → Option ℕ → Option ℕ → Option (Field × ℕ)
found_faults extra parity flag end =
    fault_or rule.ExtraWord (further 0 extra) (fault_or rule.UnitParity (cond (eqb parity 0xF) None (Some 0)) (fault_or rule.RestartFlag (further 1 flag) (fault_or rule.DirectoryEnd (further 4 end) None)))

pub faults_are : (first : Option MajorSync) (u : AccessUnit) (extra : Option ℕ) (parity : ℕ) (flag end : Option ℕ)
    → extra ≡ first_failing (may_stand (stream_kind (in_force first u.major))) (directory_place u) u.entries
    → parity ≡ parity_of u.head u.entries
    → flag ≡ first_failing (is_restart_flag (is_some u.major)) (directory_place u) u.entries
    → end ≡ first_bad_end 0 (length u.body / 2) (directory_place u) u.entries
    → first_fault (rules first) u ≡ found_faults extra parity flag end
faults_are first u extra parity flag end a b c d = rw (a, b, c, d) refl

-- ---- as the code asks them

module _ (bytes : List ℕ) (o : Outer) (start : ℕ) (start-is : start ≡ 4 + major_size o.major) (es : List DirEntry) (es-is : es ≡ o.entries.items) where
  place-is : 8 * start ≡ directory_place (unit_with bytes o)
  place-is = omega (arith, start-is)

  pub extra_is : (first : Option MajorSync) (k : Kind) (x : Option ℕ) → k ≡ stream_kind (in_force first o.major) → x ≡ first_failing (may_stand k) (8 * start) es
      → x ≡ first_failing (may_stand (stream_kind (in_force first o.major))) (directory_place (unit_with bytes o)) o.entries.items
  extra_is first k x k-is e = e ∙ rw (k-is, es-is, place-is) refl

  pub flag_is : (there : Bool) (x : Option ℕ) → there ≡ is_some o.major → x ≡ first_failing (is_restart_flag there) (8 * start) es
      → x ≡ first_failing (is_restart_flag (is_some o.major)) (directory_place (unit_with bytes o)) o.entries.items
  flag_is there x there-is e = e ∙ rw (there-is, es-is, place-is) refl

  pub end_is : (x : Option ℕ) → x ≡ first_bad_end 0 ((length bytes - o.body) / 2) (8 * start) es → x ≡ first_bad_end 0 (length (drop o.body bytes) / 2) (directory_place (unit_with bytes o)) o.entries.items
  end_is x e = e ∙ rw (es-is, place-is, length-drop o.body bytes) refl
