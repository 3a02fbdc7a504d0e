use Rattle.std.proofs.Common.{[], ◌∷◌, ◌++◌}
use Rattle.mlp_layout.specs.Layout.{part, made, number_of}
use Rattle.mlp_layout.specs.Combined.{times, signed_of}
use Rattle.mlp_params.specs.Filters.{filter_state}
use Rattle.mlp_layout.proofs.WritingGroups.{fields_stop, fields_then, ends_with}
use Rattle.mlp_params.proofs.write_filters.write_state.Goals as goal

pub returns-in_err-put_all : goal.returns-in_err-put_all
unfolding filter_state part made number_of
returns-in_err-put_all c = λ n fits.
    let s = c.args.state.now in
    let a = rw (c.from-bits.ensures, c.from-shift.ensures) at c.in_err-put_all.ensures in
    fields_stop _ ((s.bits, 4) ∷ (s.shift, 4) ∷ []) ((times n (signed_of s.bits)).spelling s.values.items ++ []) c.from_residual.result c.from_residual.ensures.1 a

pub returns : goal.returns
unfolding filter_state part made number_of
returns c = λ n fits.
    let s = c.args.state.now in
    let a = rw (c.from-bits.ensures, c.from-shift.ensures) at c.in_ok-put_all.ensures in
    let b = rw c.deref.ensures.0 at c.write_values.ensures in
    fields_then ((s.bits, 4) ∷ (s.shift, 4) ∷ []) a (ends_with (b n fits.1.1.0))
