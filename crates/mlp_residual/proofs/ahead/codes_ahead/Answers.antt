use Rattle.std.proofs.Common.{◌≡◌, ◌+◌, ◌-◌, [], false, get_or, length, map, take, arith}
use Rattle.std.proofs.lemmas.List.{get_or-map, length-take, take_all, take_more_set}
use Rattle.mlp_bits.specs.Bits.{bits_of}
use Rattle.mlp_bits.proofs.BitLists.{length-bits_of}
use Rattle.mlp_layout.specs.Combined.{series}
use Rattle.mlp_layout.proofs.Loops.{series_goes_on, series_stops, series_is_done}
use Rattle.mlp_residual.specs.Lookups.{channel_of, bits_for, most_of}
use Rattle.mlp_residual.specs.declared.ahead.Lookup.{Lookup}
use Rattle.mlp_residual.specs.Frames.{code_at, no_code}
use Rattle.mlp_residual.proofs.AheadLaws.{planned_next, most_next}
use Rattle.mlp_residual.proofs.ahead.codes_ahead.Goals as goal

abbrev blank : Lookup
blank = record { table_start = 0; low = 0; mask = 0; reload = false }

pub overflow_add-end : goal.overflow_add-end
overflow_add-end c =
    let i = c.loop-i.invariant in
    let ls = c.args.lookups.now in
    let n = planned_next i.left c.loop-i.i ls blank c.loop-i-test.true i.planned in
    let rest = most_next c.loop-i.i ls blank c.loop-i-test.true in
    let read = c.in-Some.ensures.read (bits_for (get_or ls c.loop-i.i blank) i.left) c.loop-i.end (bits_of c.args.bytes.now) (c.window_for-window.ensures i.left i.window_is) n.enough
    (omega (arith, i.to, rest, length-bits_of c.args.bytes.now)) in
    record { fits = omega (arith, i.to, rest, read.2) }

pub returns-in-None-clause-read : goal.returns-in-None-clause-read
returns-in-None-clause-read c =
    let i = c.loop-i.invariant in
    let ls = c.args.lookups.now in
    let cs = map channel_of ls in
    let all = bits_of c.args.bytes.now in
    let n = planned_next i.left c.loop-i.i ls blank c.loop-i-test.true i.planned in
    let rest = most_next c.loop-i.i ls blank c.loop-i-test.true in
    let none = c.in-None.ensures.read (bits_for (get_or ls c.loop-i.i blank) i.left) c.loop-i.end all (c.window_for-window.ensures i.left i.window_is) n.enough (omega (arith, i.to, rest, length-bits_of c.args.bytes.now)) in
    let here : length (take c.loop-i.i c.loop-i.codes) ≡ c.loop-i.i = omega (arith, length-take c.loop-i.i c.loop-i.codes) in
    rw c.broken.ensures (series_stops (code_at cs) (take c.loop-i.i c.loop-i.codes) (length ls) c.loop-i.i all c.loop-i.end _ _ c.loop-i-test.true
    (rw (here, get_or-map channel_of ls c.loop-i.i blank no_code c.loop-i-test.true) none) i.so_far)

pub loop-i-preserved : goal.loop-i-preserved
loop-i-preserved c =
    let i = c.loop-i.invariant in
    let ls = c.args.lookups.now in
    let cs = map channel_of ls in
    let all = bits_of c.args.bytes.now in
    let lookup = get_or ls c.loop-i.i blank in
    let n = planned_next i.left c.loop-i.i ls blank c.loop-i-test.true i.planned in
    let rest = most_next c.loop-i.i ls blank c.loop-i-test.true in
    let read = c.in-Some.ensures.read (bits_for lookup i.left) c.loop-i.end all (c.window_for-window.ensures i.left i.window_is) n.enough (omega (arith, i.to, rest, length-bits_of c.args.bytes.now)) in
    let here : length (take c.loop-i.i c.loop-i.codes) ≡ c.loop-i.i = omega (arith, length-take c.loop-i.i c.loop-i.codes) in
    let on = series_goes_on (code_at cs) (take c.loop-i.i c.loop-i.codes) (length ls) c.loop-i.i all c.loop-i.end (c.loop-i.end + c.in-Some.taken) c.code_ahead.new.out
    ((series (code_at cs) (length ls) []).read all c.args.place) c.loop-i-test.true (rw (here, get_or-map channel_of ls c.loop-i.i blank no_code c.loop-i-test.true) read.0) i.so_far in
    record {
      left = bits_for lookup i.left - most_of lookup;
      window_is = read.1;
      planned = n.rest;
      from = omega (arith, i.from);
      to = omega (arith, i.to, rest, read.2);
      so_far = rw (take_more_set c.loop-i.codes c.loop-i.i c.code_ahead.new.out (omega arith)) on;
    }

pub returns-clause-read : goal.returns-clause-read
returns-clause-read c =
    let i = c.loop-i.invariant in
    let whole : take c.loop-i.i c.loop-i.codes ≡ c.loop-i.codes = take_all c.loop-i.i c.loop-i.codes (omega arith) in
    rw whole at (series_is_done (code_at (map channel_of c.args.lookups.now)) (take c.loop-i.i c.loop-i.codes) (length c.args.lookups.now) c.loop-i.i (bits_of c.args.bytes.now) c.loop-i.end _ c.loop-i-test.false i.so_far)
