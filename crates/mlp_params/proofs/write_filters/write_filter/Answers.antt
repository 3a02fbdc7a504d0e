use Rattle.std.proofs.Common.{◌≢◌, [], ◌∷◌, ◌++◌, true, sym, ◌∙◌, arith}
use Rattle.mlp_layout.specs.Layout.{number_of}
use Rattle.mlp_layout.specs.Combined.{times, signed_of, group}
use Rattle.mlp_layout.proofs.WritingLaws.{writes_as, then_writes, stops_writing}
use Rattle.mlp_params.specs.Filters.{order_of, filter_state}
use Rattle.mlp_params.proofs.WritingFilters.{absent_is, filter_text, order_fits, filter_fits}
use Rattle.mlp_layout.proofs.WritingGroups.{fields_stop, fields_then}
use Rattle.mlp_params.proofs.write_filters.write_filter.Goals as goal

pub overflow_cast-order : goal.overflow_cast-order
overflow_cast-order g c = let few = order_fits g.row.N c.requires.0 c.args.given.now c.requires.1 in record { fits = omega (arith, few, c.len-order.ensures.value) }

pub returns-then-order-eq0 : goal.returns-then-order-eq0
unfolding number_of
returns-then-order-eq0 g c = λ b a. writes_as (absent_is g.row.N b c.args.given.now (sym c.len-order.ensures.value ∙ c.if-order-eq0.true)) c.put_number.ensures

pub put_all-requires : goal.put_all-requires
put_all-requires g c =
    let f = c.args.given.now in
    let b = c.requires.0 in
    let few = order_fits g.row.N b f c.requires.1 in
    let fits = filter_fits g.row.N b f (λ e. c.if-order-eq0.false (c.len-order.ensures.value ∙ e)) c.requires.1 in
    rw (c.len-order.ensures.value, c.from-shift.ensures, c.from-coeff_bits.ensures, c.from-coeff_shift.ensures) ((few, omega arith), ((fits.shift, omega arith), ((fits.coeff_bits, omega arith), ((fits.coeff_shift, omega arith), tt))))

pub returns-in_err-put_all : goal.returns-in_err-put_all
unfolding number_of
returns-in_err-put_all g c = λ b allowed.
    let f = c.args.given.now in
    let some : order_of f ≢ 0 = λ e. c.if-order-eq0.false (c.len-order.ensures.value ∙ e) in
    let a = rw (c.len-order.ensures.value, c.from-shift.ensures, c.from-coeff_bits.ensures, c.from-coeff_shift.ensures) at c.in_err-put_all.ensures in
    writes_as (filter_text g.row.N b f some) (fields_stop _ ((order_of f, 4) ∷ (f.shift, 4) ∷ (f.coeff_bits, 5) ∷ (f.coeff_shift, 3) ∷ [])
    ((times (order_of f) (signed_of f.coeff_bits)).spelling f.coeffs.items ++ (group true (filter_state (order_of f))).spelling f.state) c.from_residual.result c.from_residual.ensures.1 a)

pub write_values-requires : goal.write_values-requires
write_values-requires g c =
    let f = c.args.given.now in
    let fits = filter_fits g.row.N c.requires.0 f (λ e. c.if-order-eq0.false (c.len-order.ensures.value ∙ e)) c.requires.1 in
    rw c.deref.ensures.0 (record { width = fits.width; values = (order_of f, fits.values) })

pub write_state_if-requires : goal.write_state_if-requires
write_state_if-requires g c =
    let f = c.args.given.now in
    let fits = filter_fits g.row.N c.requires.0 f (λ e. c.if-order-eq0.false (c.len-order.ensures.value ∙ e)) c.requires.1 in
    (order_of f, fits.state)

pub returns-in_err-write_values : goal.returns-in_err-write_values
unfolding number_of
returns-in_err-write_values g c = λ b allowed.
    let f = c.args.given.now in
    let some : order_of f ≢ 0 = λ e. c.if-order-eq0.false (c.len-order.ensures.value ∙ e) in
    let fits = filter_fits g.row.N b f some allowed in
    let a = rw (c.len-order.ensures.value, c.from-shift.ensures, c.from-coeff_bits.ensures, c.from-coeff_shift.ensures) at c.in_ok-put_all.ensures in
    let v = rw c.deref.ensures.0 at c.in_err-write_values.ensures in
    writes_as (filter_text g.row.N b f some) (fields_then ((order_of f, 4) ∷ (f.shift, 4) ∷ (f.coeff_bits, 5) ∷ (f.coeff_shift, 3) ∷ []) a
    (stops_writing _ ((group true (filter_state (order_of f))).spelling f.state) c.from_residual-in_err-write_values.result c.from_residual-in_err-write_values.ensures.1 (v (order_of f) fits.values)))

pub returns : goal.returns
unfolding number_of
returns g c = λ b allowed.
    let f = c.args.given.now in
    let some : order_of f ≢ 0 = λ e. c.if-order-eq0.false (c.len-order.ensures.value ∙ e) in
    let fits = filter_fits g.row.N b f some allowed in
    let a = rw (c.len-order.ensures.value, c.from-shift.ensures, c.from-coeff_bits.ensures, c.from-coeff_shift.ensures) at c.in_ok-put_all.ensures in
    let v = rw c.deref.ensures.0 at c.in_ok-write_values.ensures in
    writes_as (filter_text g.row.N b f some) (fields_then ((order_of f, 4) ∷ (f.shift, 4) ∷ (f.coeff_bits, 5) ∷ (f.coeff_shift, 3) ∷ []) a
    (then_writes (v (order_of f) fits.values) (c.write_state_if.ensures (order_of f) fits.state)))
