-- What an extraction keeps of a unit.
use Rattle.std.specs.Prelude.{ℕ, ◌+◌, ◌*◌, take, option_map}
use Rattle.mlp_major.specs.MajorSync.{smaller}
use Rattle.mlp_unit.specs.AccessUnit.{AccessUnit}
use Rattle.mlp_unit.specs.Shape.{end_at}
use Rattle.mlp_unit.specs.Written.{written_unit}

-- for presentation k its first k + 1 entries and segments, and nothing behind them
abbrev pub extracted : ℕ → AccessUnit → AccessUnit
extracted k u = written_unit u.head.timing
    (option_map (smaller k) u.major) (take (k + 1) u.entries) (take (2 * end_at u.entries k) u.body)
