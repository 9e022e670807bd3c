use Rattle.cborn_wire.proofs.Common.{refl, take}
use Rattle.cborn_wire.proofs.Feeding.ItemSteps.{no_item_whole, item_whole}
use Rattle.cborn_wire.proofs.feeders.ItemReader.read_item.Goals as goal

pub returns-in_default-clause-item : goal.returns-in_default-clause-item
returns-in_default-clause-item c =
    let old = c.requires.made in
    let read = c.in_ok-len.ensures in
    let left = c.in_default.ensures in
    let next = no_item_whole c.args.self.now old c.read.new.self c.read.new.levels c.read.new.visitor (take c.in_ok-len.len c.args.piece.now) read.limit (read.fed old.base old.read old.fed)
    c.take_whole.new.self (left.same refl) left.string (left.none refl) (read.item refl old.base old.read old.fed) in
    record { some = read.some; within = read.within; made = next.0; at = read.at; goes = next.1; between = tt }

pub new-requires : goal.new-requires
new-requires c =
    let old = c.requires.made in
    let read = c.in_ok-len.ensures in
    let left = c.in-Some.ensures in
    (item_whole c.args.self.now old c.read.new.self c.read.new.levels c.read.new.visitor (take c.in_ok-len.len c.args.piece.now) read.limit (read.fed old.base old.read old.fed)
    c.in-Some.node c.take_whole.new.self left.taken.0 left.taken.1 c.start_anew.new.self left.string c.start_anew.ensures.outer c.start_anew.ensures.inner (read.item refl old.base old.read old.fed)).3

pub returns-clause-item : goal.returns-clause-item
returns-clause-item c =
    let old = c.requires.made in
    let read = c.in_ok-len.ensures in
    let left = c.in-Some.ensures in
    let next = item_whole c.args.self.now old c.read.new.self c.read.new.levels c.read.new.visitor (take c.in_ok-len.len c.args.piece.now) read.limit (read.fed old.base old.read old.fed)
    c.in-Some.node c.take_whole.new.self left.taken.0 left.taken.1 c.start_anew.new.self left.string c.start_anew.ensures.outer c.start_anew.ensures.inner (read.item refl old.base old.read old.fed) in
    rw (c.new.ensures) (record { some = read.some; within = read.within; made = next.0; at = read.at; goes = next.1; between = next.2 })
