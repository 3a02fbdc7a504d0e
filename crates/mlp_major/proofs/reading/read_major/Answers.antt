use Rattle.std.proofs.Common.{◌≡◌, ◌*◌, ◌/◌, ℕ, Ok, ap, subst, ◌∙◌, arith, refl}
use Rattle.std.specs.Option.{option_copied}
use Rattle.mlp_bits.specs.Bits.{bits_of}
use Rattle.mlp_bits.specs.Cursor.{Cursor}
use Rattle.mlp_layout.specs.Reading.{Read}
use Rattle.mlp_syntax.specs.declared.major.MajorSync.{MajorSync}
use Rattle.mlp_major.specs.MajorSync.{major_sync}
use Rattle.mlp_major.proofs.SyncReading.{sync_whole}
use Rattle.mlp_major.proofs.reading.read_major.Goals as goal

abbrev ok_at : MajorSync → ℕ → Read MajorSync
ok_at m n = Ok (m, n)

pub returns-clause-read : goal.returns-clause-read
returns-clause-read c =
    let first = option_copied c.args.first in
    let bits = bits_of c.args.after_head.now in
    let read : (major_sync first).read bits 0 ≡ Ok (c.in_ok-major.major, c.read_sync.new.r.place) =
    subst (λ (r : Cursor). (major_sync first).read r.all r.place ≡ Ok (c.in_ok-major.major, c.read_sync.new.r.place)) c.new-r.ensures c.in_ok-major.ensures.read.0 in
    let whole = sync_whole first bits 0 c.in_ok-major.major c.read_sync.new.r.place refl (omega arith) read in
    let end : c.read_sync.new.r.place ≡ 8 * (c.place.result / 8) = omega (arith, whole, c.place.ensures.value) in
    read ∙ ap (λ (n : ℕ). ok_at c.in_ok-major.major n) end
