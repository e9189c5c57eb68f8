-- What the owner of a log files in an event, as the small world of one slot's index sees it: each segment that it acts to be filed, in order.
use Rattle.std.specs.Prelude.{◌≡◌, ℕ, suc, ◌<◌, ◌≤◌, ◌==◌, List, [], ◌∷◌, if◌then◌else◌}
use Rattle.headline.specs.Filed.{Filed, IsSegment, Texts}
use Rattle.index_tie.specs.Growth.{with_segment}
use Rattle.index_tie.specs.Net.{Net}
use Rattle.node_base.specs.declared.effects.Effect.{Effect}
use Rattle.node_base.specs.declared.effects.Effect.TheVariants.{Does}
use Rattle.node_slots.specs.node_index_tie.Sight.{RowsFit}
use Rattle.segment_format.specs.declared.segment.Segment.{Segment}
use Rattle.segment_format.specs.Rows.{rows_of}
use Rattle.version_model.specs.declared.act.Act.{Act}
use Rattle.version_model.specs.declared.act.Act.TheVariants.{Filed as ActsFiled}
use Rattle.xfs_base.specs.Limits.{u32_end}
use Rattle.xfs_base.specs.declared.segment.SegName.{SegName}

-- the small world, where this is filed
abbrev pub filing : Net → Filed → Net
filing n f = record n { filed = f }

module _ (texts : Texts) (l : ℕ) where
  -- A segment of the log is filed where its number is the next one, with the text of its name; one that was filed before, as what a reopening read back,
  -- changes nothing.
  abbrev pub with_name : Filed → SegName → Filed
  with_name f name = if name.seq == suc (f.head l) then with_segment f l (texts name) else f

  abbrev pub after_act : Filed → Act → Filed
  after_act f (ActsFiled name) = with_name f name
  after_act f _ = f

  abbrev pub after_effect : Filed → Effect → Filed
  after_effect f (Does act) = after_act f act
  after_effect f _ = f

  -- what is filed once all this is done, in its order
  abbrev pub filed_after : Filed → List Effect → Filed
  filed_after f [] = f
  filed_after f (e ∷ es) = filed_after (after_effect f e) es

-- of this log just the same is filed
pub record IsSameLog (l : ℕ) (f g : Filed) : Type 0 where
  pub head : g.head l ≡ f.head l
  pub segment : (q : ℕ) → 0 < q → q ≤ f.head l → g.segment l q ≡ f.segment l q

-- The text of a name that is filed next is the next segment of its log; what it says is as new as is asked; its numbers are within their types, and no log
-- is at its last number.
pub record FilesNext (New : Filed → Segment → Type 0) (texts : Texts) (l : ℕ) (f : Filed) (name : SegName) : Type 0 where
  pub named : (texts name).name ≡ name
  pub segment : IsSegment l (suc (f.head l)) (texts name)
  pub new : New f (texts name)
  pub fits : RowsFit (rows_of (texts name))
  pub short : suc (f.head l) < u32_end

-- what is owed of all that is acted to be filed, each where it is the next one
module _ (New : Filed → Segment → Type 0) (texts : Texts) (l : ℕ) where
  abbrev pub OwedAct : Filed → Act → Type 0
  OwedAct f (ActsFiled name) = name.seq ≡ suc (f.head l) → FilesNext New texts l f name
  OwedAct f _ = Unit {0}

  abbrev pub OwedEffect : Filed → Effect → Type 0
  OwedEffect f (Does act) = OwedAct f act
  OwedEffect f _ = Unit {0}

  abbrev pub FilesOwed : Filed → List Effect → Type 0
  FilesOwed f [] = Unit {0}
  FilesOwed f (e ∷ es) = OwedEffect f e × FilesOwed (after_effect texts l f e) es
