use Rattle.std.proofs.Common.{◌≡◌, drop}
use Rattle.std.specs.List.{list_all}
use Rattle.log_flight.specs.Texts.{is_item}
use Rattle.log_flight.proofs.texts.are_items.Given as goal

-- the rest are items exactly where all are
abbrev pub invariant-loop-item : goal.invariant-loop-item
invariant-loop-item l = list_all is_item (drop l.item-index l.items) ≡ list_all is_item l.items
