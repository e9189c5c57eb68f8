-- What is known of a part of a checkpoint is known later: the segment flew, it was acted to be filed, and its rows are told where more is filed.
use Rattle.std.proofs.Common.{◌≡◌, ⊎_elim, ℕ, suc, List, [], ◌∷◌, None, Option, Some, inl, inr, sym, arith}
use Rattle.std.specs.List.{AllByRecursion}
use Rattle.std.specs.Prelude.{Contains}
use Rattle.core_world.specs.declared.any_node.AnyNode.{AnyNode}
use Rattle.node_tellings.proofs.entry_tie.Rising.{rows_rise, told_more}
use Rattle.node_tellings.specs.entry_tie.ManagerTells.{PartTold}
use Rattle.node_tellings.specs.entry_tie.Told.{AreMore, FiledRows, told_by_rows}
use Rattle.log_tie.specs.Setting.{Setting}
use Rattle.segment_format.specs.declared.segment.Item.{Item}
use Rattle.segment_format.specs.declared.segment.Item.TheVariants.{Block, Delta, Part}
use Rattle.token_protocol.specs.Basics.{In}
use Rattle.version_model.specs.declared.act.Act.TheVariants as act
use Rattle.world_base.specs.declared.estate.Estate.{Estate}
use Rattle.headline.specs.Moments.{node_in}
use Rattle.run_laws.proofs.world_logs.Line.{grows}
use Rattle.run_laws.specs.world_logs.Lines.{HasLines}
use Rattle.headline.specs.Logs.{log_by}
use Rattle.headline.specs.Logs.Role.{OfManager}
use Rattle.run_laws.proofs.world_reads.EntriesStay.{at_place}
use Rattle.run_laws.proofs.world_reads.Taking.{did_before}
use Rattle.run_laws.specs.world_reads.Entries.{PartKnown}
use Rattle.xfs_base.proofs.Members.{contains_cases, contains_nothing}
use Rattle.xfs_base.specs.declared.segment.SegRef.{SegRef}
use Rattle.xfs_base.proofs.Alls.{all_weaker}

-- a node of a name is one of the nodes
pub among_nodes : (nodes : List AnyNode) (o : Option ℕ) (node : AnyNode) → node_in nodes o ≡ Some node → In node nodes
among_nodes nodes None node fact = absurd (let clash : None ≡ Some node = fact in cc)
among_nodes nodes (Some place) node fact = at_place nodes place node fact

-- what a list contains is in it
pub in_contained : {X : Type 0} (xs : List X) (x : X) → Contains xs x → In x xs
in_contained [] x fact = absurd (contains_nothing x fact)
in_contained (y ∷ xs) x fact = ⊎_elim (λ same. inl (sym same)) (λ later. inr (in_contained xs x later)) (contains_cases y x xs fact)

module _ (rows later : FiledRows) (more : AreMore rows later) where
  part_rises : (i : Item) → PartTold (told_by_rows rows) i → PartTold (told_by_rows later) i
  part_rises (Block block value) told = absurd told
  part_rises (Delta block ver hop item) told = absurd told
  part_rises (Part slot all) told = rows_rise (told_by_rows rows) (told_by_rows later) (told_more rows later more) all told

  parts_rise : (items : List Item) → AllByRecursion (PartTold (told_by_rows rows)) items → AllByRecursion (PartTold (told_by_rows later)) items
  parts_rise items all = all_weaker (PartTold (told_by_rows rows)) (PartTold (told_by_rows later)) part_rises items all

  module _ (base : Setting) (e : Estate AnyNode) (lines : HasLines base e) where
    -- where more is filed
    pub part_more : (count : ℕ) (ref : SegRef) → PartKnown base e lines count rows ref → PartKnown base e lines count later ref
    part_more count ref known = record {
      manager = known.manager;
      there = known.there;
      segment = known.segment;
      flew = known.flew;
      named = known.named;
      group = known.group;
      acted = known.acted;
      told = parts_rise known.segment.items known.told;
    }

    -- and at the next count
    pub part_later : (count : ℕ) (ref : SegRef) → PartKnown base e lines count rows ref → PartKnown base e lines (suc count) later ref
    part_later count ref known = record {
      manager = known.manager;
      there = known.there;
      segment = known.segment;
      flew = (grows base e (OfManager known.manager) (lines (OfManager known.manager) known.there) count (suc count) (omega arith)).flown known.segment
          known.flew;
      named = known.named;
      group = known.group;
      acted = did_before e (log_by (OfManager known.manager)) count (act.Filed ref.name) known.acted;
      told = parts_rise known.segment.items known.told;
    }
