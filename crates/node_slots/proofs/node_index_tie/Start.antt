-- A manager at the start of a run is seen in the opening of the small world of one slot's index.
use Rattle.std.proofs.Common.{◌≡◌, ℕ, zero, suc, ◌-◌, ◌==◌, ◌<◌, List, [], ◌∷◌, get_or, None, refl, sym, subst, ◌∙◌, arith}
use Rattle.xfs_base.proofs.Booleans.{by_test}
use Rattle.xfs_base.specs.Blocks.{slot_of}
use Rattle.xfs_base.specs.declared.setup.Setup.{Setup}
use Rattle.xfs_base.specs.Limits.{slot_count}
use Rattle.index_tie.specs.Net.{opening}
use Rattle.manager_map.specs.Slots.{manager_map_start, entry_at}
use Rattle.manager_node.specs.Events.{manager_start, first_life}
use Rattle.manager_slots.specs.SlotTable.{first_phase, slot_table_first}
use Rattle.manager_slots.specs.Slots.{first_active}
use Rattle.manager_slots.specs.declared.slot_phase.SlotPhase.TheVariants as phase
use Rattle.group_map.specs.Groups.{group_map_start as groups_started}
use Rattle.node_base.specs.Maps.{maps_start}
use Rattle.segment_format.specs.declared.segment.Segment.{Segment}
use Rattle.version_model.specs.declared.work.Work.{Work}
use Rattle.node_slots.specs.node_index_tie.ManagerEvents.{PhaseAgrees, ManagerAgrees, FirstManagerAgrees}
use Rattle.node_slots.specs.node_index_tie.Pages.{Desk}
use Rattle.node_slots.specs.node_index_tie.Pages.Paged.{Covered}
use Rattle.headline.specs.Filed.{Texts}
use Rattle.node_slots.proofs.node_tie.SlotTables.{first_at}
use Rattle.node_slots.proofs.node_index_tie.Events.{begun_agreed}
use Rattle.node_slots.proofs.node_index_tie.Moves.{some_none}

-- nothing is applied
abbrev nine_zeros : List ℕ
nine_zeros = 0 ∷ 0 ∷ 0 ∷ 0 ∷ 0 ∷ 0 ∷ 0 ∷ 0 ∷ 0 ∷ []

abbrev zero_in : ℕ → ℕ
zero_in k = get_or nine_zeros k 0

none_applied : (k : ℕ) → zero_in k ≡ 0
none_applied zero = refl
none_applied (suc zero) = refl
none_applied (suc (suc zero)) = refl
none_applied (suc (suc (suc zero))) = refl
none_applied (suc (suc (suc (suc zero)))) = refl
none_applied (suc (suc (suc (suc (suc zero))))) = refl
none_applied (suc (suc (suc (suc (suc (suc zero)))))) = refl
none_applied (suc (suc (suc (suc (suc (suc (suc zero))))))) = refl
none_applied (suc (suc (suc (suc (suc (suc (suc (suc zero)))))))) = refl
none_applied (suc (suc (suc (suc (suc (suc (suc (suc (suc k))))))))) = refl

module _ (part : ℕ) (texts : Texts) (any : ℕ → ℕ → Segment) where
  -- a slot that is managed from the start of the run
  first_is : (desk : Desk) → desk.writer.work ≡ None → PhaseAgrees part texts (opening any) desk first_active
  first_is desk idle = record {
    there = refl;
    nine = refl;
    short = λ l some limit. let none = none_applied (l - 1) in omega arith;
    pages = Covered [] tt refl (λ w fact of at. some_none w (sym fact ∙ idle));
  }

  pub first_agrees : (number : ℕ) (setup : Setup) (works : List Work) → part < slot_count
      → ManagerAgrees part texts (opening any) (manager_start number setup works).phase
  first_agrees number setup works exists =
      let f = λ (k : ℕ). first_phase number (manager_map_start setup.managers) k in (
        begun_agreed part texts [] exists number (opening any) (first_life number works) (maps_start (groups_started setup.servers setup.groups))
            (slot_table_first number setup.managers) (groups_started setup.servers setup.groups) refl
            (subst (PhaseAgrees part texts (opening any) _) (sym (first_at f part exists))
            (by_test (PhaseAgrees part texts (opening any) _) ((entry_at (manager_map_start setup.managers) (slot_of part)).manager == number) first_active
            (phase.Away 1) (λ _. first_is _ refl) (λ _. tt))),
        λ f_ fact. absurd (some_none f_ (sym fact)),
      )

pub first_manager_agrees : FirstManagerAgrees
first_manager_agrees part texts any number setup works exists = first_agrees part texts any number setup works exists
