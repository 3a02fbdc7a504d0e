-- Values that may be written.
use Rattle.mlp_layout.specs.Layout.{Layout}

-- a value that has a spelling and meets the rules
pub record Allowed {A : Type 0} (l : Layout A) (x : A) : Type 0 where
  pub fits : l.Fits x
  pub meets : l.Meets x
