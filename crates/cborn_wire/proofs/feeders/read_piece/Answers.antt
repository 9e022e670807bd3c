use Rattle.std.specs.Prelude.{◌≡◌, ◌++◌}
use Rattle.cborn_wire.proofs.Common.{rules, take, append-nil, option_to_list, err_from_is_err_and}
use Rattle.cborn_wire.proofs.Feeding.ItemSteps.{then_stops, then_moved}
use Rattle.cborn_wire.proofs.Visiting.Pieces.{next_cut}
use Rattle.cborn_wire.proofs.feeders.read_piece.Goals as goal
use Rattle.cborn_wire.proofs.feeders.read_piece.Goals.{in-Some+in_ok-push_back, in_default}

pub returns-in_err-len-clause-runs : goal.returns-in_err-len-clause-runs
returns-in_err-len-clause-runs c =
    let (y, cut, moved) = c.loop-rest.invariant in
    let p = err_from_is_err_and c.from_residual.result c.from_residual.ensures.1 in
    rw (p.1, p.2) (then_stops c.args.reader.now c.args.ready.now.items c.loop-rest.reader c.loop-rest.ready.items c.args.piece.now y c.loop-rest.rest.now cut moved c.in_err-len.field-0.0 c.in_err-len.ensures.item)

pub loop-rest-preserved : goal.loop-rest-preserved
loop-rest-preserved c =
    let (y, cut, moved) = c.loop-rest.invariant in
    let rest = c.loop-rest.rest.now in
    let n = c.in_ok-len.len in
    let items = c.loop-rest.ready.items in
    let added : c.match-item.ready.items ≡ items ++ option_to_list c.in_ok-len.item
    = elim c.match-item.branch [ in-Some+in_ok-push_back w ↦ search rules | in_default w ↦ search (rules, append-nil) ] in (
      y ++ take n rest,
      next_cut c.args.piece.now y rest cut n c.in_ok-len.ensures.item.within,
      then_moved c.args.reader.now c.args.ready.now.items c.loop-rest.reader items c.args.piece.now y rest cut moved c.read_item.new.self n c.in_ok-len.item c.match-item.ready.items c.in_ok-len.ensures.item c.in_ok-len.ensures.limit added,
    )
