-- A takeover that is told of newer groups hands no slot out.
use Rattle.std.proofs.Common.{◌+◌, ℕ, List, [], ◌∷◌, inl, inr, Option, Some, None, sym, subst}
use Rattle.group_map.specs.GroupMapState.{GroupMapState}
use Rattle.group_map.specs.Groups.{group_of}
use Rattle.group_map.specs.declared.group.Group.{Group}
use Rattle.segment_reading.specs.Reading.{reading_start, reading_unanswered}
use Rattle.takeover.specs.declared.input.In.TheVariants as input
use Rattle.takeover.specs.declared.output.Out.{Out}
use Rattle.takeover.specs.declared.output.Out.TheVariants.{Active}
use Rattle.takeover.specs.declared.source.Source.{Source}
use Rattle.takeover.specs.TakeState.{TakeState}
use Rattle.takeover.specs.Transition.{Done, can_ask, target_of, sought_over, seek, waiting, sought_again, on_maps, transition}
use Rattle.token_protocol.specs.Basics.{In}
use Rattle.xfs_base.proofs.Booleans.{by_test}
use Rattle.xfs_base.specs.declared.block.BlockId.{BlockId}
use Rattle.xfs_base.specs.declared.entry.Entry.{Entry}
use Rattle.xfs_base.specs.declared.token.Mode.{Mode}
use Rattle.xfs_base.specs.Steps.{still}
use Rattle.node_slots.proofs.node_tie.ManagerTakes.{IsPlain, ArePlain, fetches_plain}

-- where all is plain no slot is handed out
pub plain_hands_nothing : (outs : List Out) → ArePlain outs
    → (epoch : ℕ) (index : List (BlockId × Entry)) (beliefs : List (BlockId × ℕ × Mode)) (applied : List ℕ)
    → In (Active epoch index beliefs applied) outs → ⊥
plain_hands_nothing [] plain epoch index beliefs applied fact = fact
plain_hands_nothing (o ∷ outs) plain epoch index beliefs applied (inl fact) = subst IsPlain (sym fact) plain.0
plain_hands_nothing (o ∷ outs) plain epoch index beliefs applied (inr fact) = plain_hands_nothing outs plain.1 epoch index beliefs applied fact

-- newer groups never end a takeover
pub maps_said : (s : TakeState) (groups : GroupMapState) → ArePlain (transition s (input.Maps groups)).outs
unfolding on_maps seek
maps_said s groups = by_waiting (waiting s.present)
  where
    by_group : (source : Source) (g : Option Group) → ArePlain (sought_over (record s { groups = groups }) source g).outs
    by_group source None = tt
    by_group source (Some group) =
        fetches_plain source.seg.name (s.ask + 1) (reading_unanswered (reading_start (target_of source) group (s.ask + 1)))

    by_waiting : (o : Option Source) → ArePlain (sought_again (record s { groups = groups }) o).outs
    by_waiting None = tt
    by_waiting (Some source) =
        by_test (λ (d : Done). ArePlain d.outs) (can_ask s) (seek (record s { groups = groups }) source) (still (record s { groups = groups }))
        (λ _. by_group source (group_of groups source.seg.group)) (λ _. tt)
