use Rattle.std.proofs.Common.{◌≡◌, true, ◌≤◌, ◌*◌, ◌++◌, All, List, length, map, take}
use Rattle.mlp_residual.specs.declared.ahead.Lookup.{Lookup}
use Rattle.mlp_residual.specs.Lookups.{channel_of, most_in, IsLookup, Planned}
use Rattle.mlp_residual.proofs.ahead.lookups_of.Given as goal

abbrev pub invariant-loop-channel : goal.invariant-loop-channel
invariant-loop-channel l = record {
  channels : map channel_of l.lookups.items ≡ take l.channel-index l.channels;
  looked_up : All IsLookup l.lookups.items;
  count : length l.lookups.items ≡ l.channel-index;
  few : l.left ≤ 57;
  most : l.most ≡ most_in l.lookups.items;
  small : l.most ≤ 40 * l.channel-index;
  others : All (λ (k : Lookup). k.reload ≡ true → l.reload ≡ true) l.lookups.items;
  planned : (ls : List Lookup) → Planned l.left ls → Planned 57 (l.lookups.items ++ ls);
}
