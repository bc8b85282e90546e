-- `relist` meets its contract: what is found in the two nodes' parts are the arc's old place and its new one. Assumes nothing.
use Rattle.std.proofs.Common.{arith}
use Rattle.listing.specs.Listing.{near_of}
use Rattle.relist.proofs.PlaceLaws.{old_part, old_below_first, new_part, new_below_first, has_before, has_room, before_is, one_before, places_in, relisted_there}
use Rattle.relist.proofs.relist.Goals as goal

pub place_in-p-requires : goal.place_in-p-requires
place_in-p-requires c =
    record { part = old_part c.args.a c.args.node c.requires.listable c.requires.listed c.requires.a_in_bounds; below_first = old_below_first c.args.a c.args.node c.requires.listable c.requires.listed c.requires.a_in_bounds }

pub place_in-requires : goal.place_in-requires
place_in-requires c =
    record { part = new_part c.args.a c.args.node c.requires.listable c.requires.listed c.requires.a_in_bounds; below_first = new_below_first c.args.a c.args.node c.requires.listable c.requires.listed c.requires.a_in_bounds }

pub overflow_sub-q : goal.overflow_sub-q
overflow_sub-q c =
    omega (
      arith,
      before_is (near_of c.args.near.now c.args.a) c.args.node c.from.result c.from.ensures,
      one_before c.args.a c.args.node c.requires.listable c.requires.listed c.requires.a_in_bounds _ _ c.place_in-p.ensures c.place_in.ensures,
    )

pub shift-requires : goal.shift-requires
shift-requires c =
    rw (before_is (near_of c.args.near.now c.args.a) c.args.node c.from.result c.from.ensures)
    (places_in c.args.a c.args.node c.requires.listable c.requires.listed c.requires.a_in_bounds _ _ c.place_in-p.ensures c.place_in.ensures)

pub move_begins-requires : goal.move_begins-requires
move_begins-requires c =
    record { before = has_before c.args.a c.args.node c.requires.listable c.requires.listed c.requires.a_in_bounds; room = has_room c.args.a c.args.node c.requires.listable c.requires.listed c.requires.a_in_bounds }

pub returns : goal.returns
returns c =
    relisted_there c.args.a c.args.node c.requires.listable c.requires.listed c.requires.a_in_bounds _ _ c.place_in-p.ensures c.place_in.ensures
    (rw (before_is (near_of c.args.near.now c.args.a) c.args.node c.from.result c.from.ensures) at c.shift.ensures)
    c.move_begins.ensures
