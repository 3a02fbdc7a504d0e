use Rattle.std.proofs.Common.{◌+◌, [], ◌++◌, drop}
use Rattle.mlp_layout.specs.Layout.{number_of, part, made}
use Rattle.mlp_layout.specs.Combined.{group, listed}
use Rattle.mlp_layout.proofs.WritingLaws.{then_writes, stops_writing}
use Rattle.mlp_params.specs.Matrices.{rows}
use Rattle.mlp_params.specs.Parameters.{block_size_of, output_shift, groups}
use Rattle.mlp_params.proofs.LawfulSteps.{parts, each_count}
use Rattle.mlp_params.proofs.WritingChannels.{channels_parts}
use Rattle.mlp_layout.proofs.WritingGroups.{ends_with}
use Rattle.mlp_layout.specs.Allowed.{Allowed}
use Rattle.mlp_params.proofs.WritingParameters.{matrices_text, shifts_group, steps_group, channels_group}
use Rattle.mlp_params.proofs.write_parameters.write_groups.Goals as goal

pub write_block_size-requires : goal.write_block_size-requires
write_block_size-requires c =
    let s = c.args.state.now in
    let g = parts s c.args.given.now c.requires.given in
    rw (c.has_bit.ensures, c.requires.flags) (s.unit_frames, g.block_size)

pub write_matrices_if-requires : goal.write_matrices_if-requires
write_matrices_if-requires c =
    let s = c.args.state.now in
    let g = parts s c.args.given.now c.requires.given in
    rw (c.has_bit-2.ensures, c.requires.flags) (s.format, g.matrices)

pub write_shifts-requires : goal.write_shifts-requires
write_shifts-requires c =
    let s = c.args.state.now in
    let g = parts s c.args.given.now c.requires.given in
    rw (c.has_bit-3.ensures, c.requires.flags) (s.restart.max_matrix + 1, g.shifts)

pub write_steps-requires : goal.write_steps-requires
write_steps-requires c =
    let s = c.args.state.now in
    let g = parts s c.args.given.now c.requires.given in
    rw (c.has_bit-4.ensures, c.requires.flags) (s.restart.max + 1, g.steps)

pub write_channels-requires : goal.write_channels-requires
write_channels-requires c =
    let s = c.args.state.now in
    let g = parts s c.args.given.now c.requires.given in
    rw (c.deref.ensures.0, c.requires.flags) (channels_parts _ (drop s.restart.min s.channels.items) c.args.given.now.channels.items g.channels)

pub returns-in_err-write_block_size : goal.returns-in_err-write_block_size
unfolding groups part made
returns-in_err-write_block_size c =
    let s = c.args.state.now in
    let p = c.args.given.now in
    let flags = c.args.flags in
    let g = parts s p c.requires.given in
    let a : Allowed (group c.has_bit.result (block_size_of s.unit_frames)) p.block_size = rw (c.has_bit.ensures, c.requires.flags) g.block_size in
    let a-wrote = rw c.has_bit.ensures at (c.in_err-write_block_size.ensures s.unit_frames a) in
    (stops_writing _ (matrices_text s p flags ++ (shifts_group s p flags ++ (steps_group s p flags ++ (channels_group s p flags ++ [])))) c.from_residual.result c.from_residual.ensures.1 a-wrote)

pub returns-in_err-write_matrices_if : goal.returns-in_err-write_matrices_if
unfolding groups part made
returns-in_err-write_matrices_if c =
    let s = c.args.state.now in
    let p = c.args.given.now in
    let flags = c.args.flags in
    let g = parts s p c.requires.given in
    let a : Allowed (group c.has_bit.result (block_size_of s.unit_frames)) p.block_size = rw (c.has_bit.ensures, c.requires.flags) g.block_size in
    let b : Allowed (group c.has_bit-2.result (rows s.format s.restart)) p.matrices = rw (c.has_bit-2.ensures, c.requires.flags) g.matrices in
    let a-wrote = rw c.has_bit.ensures at (c.in_ok-write_block_size.ensures s.unit_frames a) in
    let b-wrote = rw c.has_bit-2.ensures at (c.in_err-write_matrices_if.ensures s.format b) in
    then_writes a-wrote (stops_writing _ (shifts_group s p flags ++ (steps_group s p flags ++ (channels_group s p flags ++ []))) c.from_residual-in_err-write_matrices_if.result c.from_residual-in_err-write_matrices_if.ensures.1 b-wrote)

pub returns-in_err-write_shifts : goal.returns-in_err-write_shifts
unfolding groups part made
returns-in_err-write_shifts c =
    let s = c.args.state.now in
    let p = c.args.given.now in
    let flags = c.args.flags in
    let g = parts s p c.requires.given in
    let a : Allowed (group c.has_bit.result (block_size_of s.unit_frames)) p.block_size = rw (c.has_bit.ensures, c.requires.flags) g.block_size in
    let b : Allowed (group c.has_bit-2.result (rows s.format s.restart)) p.matrices = rw (c.has_bit-2.ensures, c.requires.flags) g.matrices in
    let d : Allowed (group c.has_bit-3.result (listed (s.restart.max_matrix + 1) output_shift)) p.shifts = rw (c.has_bit-3.ensures, c.requires.flags) g.shifts in
    let a-wrote = rw c.has_bit.ensures at (c.in_ok-write_block_size.ensures s.unit_frames a) in
    let b-wrote = rw c.has_bit-2.ensures at (c.in_ok-write_matrices_if.ensures s.format b) in
    let d-wrote = rw c.has_bit-3.ensures at (c.in_err-write_shifts.ensures (s.restart.max_matrix + 1) d) in
    then_writes a-wrote (then_writes b-wrote (stops_writing _ (steps_group s p flags ++ (channels_group s p flags ++ [])) c.from_residual-in_err-write_shifts.result c.from_residual-in_err-write_shifts.ensures.1 d-wrote))

pub returns-in_err-write_steps : goal.returns-in_err-write_steps
unfolding groups part made
returns-in_err-write_steps c =
    let s = c.args.state.now in
    let p = c.args.given.now in
    let flags = c.args.flags in
    let g = parts s p c.requires.given in
    let a : Allowed (group c.has_bit.result (block_size_of s.unit_frames)) p.block_size = rw (c.has_bit.ensures, c.requires.flags) g.block_size in
    let b : Allowed (group c.has_bit-2.result (rows s.format s.restart)) p.matrices = rw (c.has_bit-2.ensures, c.requires.flags) g.matrices in
    let d : Allowed (group c.has_bit-3.result (listed (s.restart.max_matrix + 1) output_shift)) p.shifts = rw (c.has_bit-3.ensures, c.requires.flags) g.shifts in
    let e : Allowed (group c.has_bit-4.result (listed (s.restart.max + 1) (number_of 4))) p.steps = rw (c.has_bit-4.ensures, c.requires.flags) g.steps in
    let a-wrote = rw c.has_bit.ensures at (c.in_ok-write_block_size.ensures s.unit_frames a) in
    let b-wrote = rw c.has_bit-2.ensures at (c.in_ok-write_matrices_if.ensures s.format b) in
    let d-wrote = rw c.has_bit-3.ensures at (c.in_ok-write_shifts.ensures (s.restart.max_matrix + 1) d) in
    let e-wrote = rw c.has_bit-4.ensures at (c.in_err-write_steps.ensures (s.restart.max + 1) e) in
    then_writes a-wrote (then_writes b-wrote (then_writes d-wrote (stops_writing _ (channels_group s p flags ++ []) c.from_residual-in_err-write_steps.result c.from_residual-in_err-write_steps.ensures.1 e-wrote)))

pub returns : goal.returns
unfolding groups part made
returns c =
    let s = c.args.state.now in
    let p = c.args.given.now in
    let flags = c.args.flags in
    let g = parts s p c.requires.given in
    let a : Allowed (group c.has_bit.result (block_size_of s.unit_frames)) p.block_size = rw (c.has_bit.ensures, c.requires.flags) g.block_size in
    let b : Allowed (group c.has_bit-2.result (rows s.format s.restart)) p.matrices = rw (c.has_bit-2.ensures, c.requires.flags) g.matrices in
    let d : Allowed (group c.has_bit-3.result (listed (s.restart.max_matrix + 1) output_shift)) p.shifts = rw (c.has_bit-3.ensures, c.requires.flags) g.shifts in
    let e : Allowed (group c.has_bit-4.result (listed (s.restart.max + 1) (number_of 4))) p.steps = rw (c.has_bit-4.ensures, c.requires.flags) g.steps in
    let a-wrote = rw c.has_bit.ensures at (c.in_ok-write_block_size.ensures s.unit_frames a) in
    let b-wrote = rw c.has_bit-2.ensures at (c.in_ok-write_matrices_if.ensures s.format b) in
    let d-wrote = rw c.has_bit-3.ensures at (c.in_ok-write_shifts.ensures (s.restart.max_matrix + 1) d) in
    let e-wrote = rw c.has_bit-4.ensures at (c.in_ok-write_steps.ensures (s.restart.max + 1) e) in
    let count = each_count _ (drop s.restart.min s.channels.items) p.channels.items g.channels.fits in
    let coded = rw c.deref.ensures.0 at c.write_channels.ensures in
    then_writes a-wrote (then_writes b-wrote (then_writes d-wrote (then_writes e-wrote (ends_with (coded (drop s.restart.min s.channels.items) count)))))
