use Rattle.std.specs.Prelude.{◌≡◌, ◌≤◌, ◌+◌, ◌-◌}
use Rattle.cborn_wire.proofs.Common.{length, take, drop}
use Rattle.cborn_wire.proofs.placed_heads.make_room.Given as goal

-- the bytes before the offset end are where they were, and the rest is moved
abbrev pub invariant-blocks-2 : goal.invariant-blocks-2
invariant-blocks-2 l = record {
  least : l.from ≤ l.end;
  most : l.end ≤ length l.fn.out.items;
  size : length l.out.items ≡ length l.fn.out.items + l.more;
  before : take l.end l.out.items ≡ take l.end l.fn.out.items;
  after : drop (l.end + l.more) l.out.items ≡ drop l.end l.fn.out.items;
}

abbrev pub decreases-blocks-2 : goal.decreases-blocks-2
decreases-blocks-2 l = l.end - l.from
