use Rattle.std.proofs.Common.{◌+◌, [], ◌∷◌, ◌++◌, true, arith}
use Rattle.mlp_bits.specs.Bits.{digit}
use Rattle.mlp_layout.specs.Combined.{times, group, signed_of}
use Rattle.mlp_layout.proofs.WritingLaws.{writes_as, then_writes, stops_writing}
use Rattle.mlp_params.specs.Matrices.{sources, noise_shift_of}
use Rattle.mlp_params.proofs.WritingMatrices.{row_fits, row_text}
use Rattle.mlp_layout.proofs.WritingGroups.{fields_stop, fields_then, ends_with}
use Rattle.mlp_params.proofs.write_matrices.write_row.Goals as goal

pub put_all-requires : goal.put_all-requires
put_all-requires c =
    let fits = row_fits c.args.restart.now c.args.given.now c.requires in
    rw (c.from-dest.ensures, c.from-frac.ensures) ((fits.dest, omega arith), ((fits.frac, omega arith), ((c.digit-bypass.ensures.small, omega arith), tt)))

pub returns-in_err-put_all : goal.returns-in_err-put_all
returns-in_err-put_all c =
    let r = c.args.restart.now in
    let m = c.args.given.now in
    let a = rw (c.from-dest.ensures, c.from-frac.ensures, c.digit-bypass.ensures.value) at c.in_err-put_all.ensures in
    writes_as (row_text r m) (fields_stop _ ((m.dest, 4) ∷ (m.frac, 4) ∷ (digit m.bypass, 1) ∷ []) ((times (sources r) (group true (signed_of (m.frac + 2)))).spelling m.coeffs.items ++
    ((noise_shift_of r.kind).spelling m.noise_shift ++ [])) c.from_residual.result c.from_residual.ensures.1 a)

pub overflow_add-given : goal.overflow_add-given
overflow_add-given c = let fits = row_fits c.args.restart.now c.args.given.now c.requires in record { fits = omega (arith, fits.width) }

pub write_coefficients-requires : goal.write_coefficients-requires
write_coefficients-requires c =
    let fits = row_fits c.args.restart.now c.args.given.now c.requires in
    rw c.deref.ensures.0 (record { width = omega (arith, fits.width); coeffs = (sources c.args.restart.now, fits.coeffs) })

pub write_noise_shift-requires : goal.write_noise_shift-requires
write_noise_shift-requires c = (row_fits c.args.restart.now c.args.given.now c.requires).noise_shift

pub returns-in_err-write_coefficients : goal.returns-in_err-write_coefficients
returns-in_err-write_coefficients c =
    let r = c.args.restart.now in
    let m = c.args.given.now in
    let fits = row_fits r m c.requires in
    let a = rw (c.from-dest.ensures, c.from-frac.ensures, c.digit-bypass.ensures.value) at c.in_ok-put_all.ensures in
    let b = rw c.deref.ensures.0 at c.in_err-write_coefficients.ensures in
    writes_as (row_text r m) (fields_then ((m.dest, 4) ∷ (m.frac, 4) ∷ (digit m.bypass, 1) ∷ []) a (stops_writing _ ((noise_shift_of r.kind).spelling m.noise_shift ++ []) c.from_residual-in_err-write_coefficients.result
    c.from_residual-in_err-write_coefficients.ensures.1 (b (sources r) fits.coeffs)))

pub returns : goal.returns
returns c =
    let r = c.args.restart.now in
    let m = c.args.given.now in
    let fits = row_fits r m c.requires in
    let a = rw (c.from-dest.ensures, c.from-frac.ensures, c.digit-bypass.ensures.value) at c.in_ok-put_all.ensures in
    let b = rw c.deref.ensures.0 at c.in_ok-write_coefficients.ensures in
    writes_as (row_text r m) (fields_then ((m.dest, 4) ∷ (m.frac, 4) ∷ (digit m.bypass, 1) ∷ []) a (then_writes (b (sources r) fits.coeffs) (ends_with c.write_noise_shift.ensures)))
