use Rattle.std.proofs.Common.{◌≡◌, true, sym, ◌∙◌, arith}
use Rattle.slot_beliefs.proofs.Counting.{room_fits}
use Rattle.token_manager.proofs.slot.Slot.apply_for.Goals as goal

pub merge_all-requires : goal.merge_all-requires
merge_all-requires c =
    let passed : c.has_room.result ≡ true = grind arith in
    room_fits c.self.inside.index.usage c.args.rows.now (sym c.has_room.ensures ∙ passed)
