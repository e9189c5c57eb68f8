use Rattle.std.proofs.Common.{arith}
use Rattle.manager_map.specs.Slots.{manager_map_start}
use Rattle.manager_map.proofs.Epochs.{moves_follow, moves_epoch, start_epoch}
use Rattle.manager_map.proofs.laws.epochs_never_fall.Goals as goal

pub returns-clause-never_fall : goal.returns-clause-never_fall
returns-clause-never_fall c = λ slots moves slot. (moves_follow slots moves slot).never_below

pub returns-clause-one_manager : goal.returns-clause-one_manager
returns-clause-one_manager c = λ slots moves slot. (moves_follow slots moves slot).same_manager

pub returns-clause-counted : goal.returns-clause-counted
returns-clause-counted c = λ managers moves slot within.
    let first = start_epoch managers slot within in
    let all = moves_epoch (manager_map_start managers) moves slot within (omega arith) in
    omega arith
