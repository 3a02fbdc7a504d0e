use Rattle.std.proofs.Common.{◌+◌, [], ◌++◌, arith}
use Rattle.mlp_layout.specs.Combined.{series}
use Rattle.mlp_layout.proofs.WritingLaws.{writes_as}
use Rattle.mlp_params.specs.RestartHeader.{assigned}
use Rattle.mlp_params.proofs.WritingHeaders.{assigned_text, header_fields, header_text, header_fits}
use Rattle.mlp_layout.proofs.WritingGroups.{fields_stop, fields_then, ends_with}
use Rattle.mlp_params.proofs.write_header.write_fields.Goals as goal

pub put_all-requires : goal.put_all-requires
put_all-requires c =
    let h = header_fits c.requires.0 c.args.header.now c.requires.1 in
    rw (c.from-kind.ensures, c.from-output_timing.ensures, c.from-min.ensures, c.from-max.ensures, c.from-max_matrix.ensures, c.from-noise_shift.ensures, c.from-lossless.ensures, c.from-carried_b.ensures) (
      (omega arith, omega arith),
      (
        (h.kind, omega arith),
        (
          (h.output_timing, omega arith),
          (
            (h.min, omega arith),
            (
              (h.max, omega arith),
              (
                (h.max_matrix, omega arith),
                (
                  (h.noise_shift, omega arith),
                  (
                    (h.seed, omega arith),
                    ((h.carried_a, omega arith), ((c.digit-data_check.ensures.small, omega arith), ((h.lossless, omega arith), ((h.carried_b, omega arith), tt)))),
                  ),
                ),
              ),
            ),
          ),
        ),
      ),
    )

pub returns-in_err-put_all : goal.returns-in_err-put_all
returns-in_err-put_all c = λ format.
    let r = c.args.header.now in
    let a = rw (
      c.from-kind.ensures,
      c.from-output_timing.ensures,
      c.from-min.ensures,
      c.from-max.ensures,
      c.from-max_matrix.ensures,
      c.from-noise_shift.ensures,
      c.digit-data_check.ensures.value,
      c.from-lossless.ensures,
      c.from-carried_b.ensures,
    ) at c.in_err-put_all.ensures in
    writes_as (header_text format r) (fields_stop _ (header_fields r) ((series (assigned r.max_matrix) (r.max_matrix + 1) []).spelling r.assign.items ++ []) c.from_residual.result c.from_residual.ensures.1 a)

pub write_numbers-requires-clause-values : goal.write_numbers-requires-clause-values
write_numbers-requires-clause-values c =
    let r = c.args.header.now in
    rw c.deref.ensures.0 (r.max_matrix + 1, (header_fits c.requires.0 r c.requires.1).assign)

pub returns : goal.returns
returns c = λ format.
    let r = c.args.header.now in
    let a = rw (
      c.from-kind.ensures,
      c.from-output_timing.ensures,
      c.from-min.ensures,
      c.from-max.ensures,
      c.from-max_matrix.ensures,
      c.from-noise_shift.ensures,
      c.digit-data_check.ensures.value,
      c.from-lossless.ensures,
      c.from-carried_b.ensures,
    ) at c.in_ok-put_all.ensures in
    let b = rw c.deref.ensures.0 at c.write_numbers.ensures in
    let fits = (header_fits c.requires.0 r c.requires.1).assign in
    writes_as (header_text format r) (fields_then (header_fields r) a (ends_with (writes_as (assigned_text r.max_matrix (r.max_matrix + 1) [] r.assign.items) (b (r.max_matrix + 1) fits))))
