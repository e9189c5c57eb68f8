-- What an event makes of the lines of logs: in one of another node they stay, and in one of its owner a log's line goes on by what the owner acts to be filed.
use Rattle.std.specs.Prelude.{◌≡◌, ℕ, suc, true, false, [], ◌∷◌, List}
use Rattle.xfs_base.specs.Logs.{cleaners_number}
use Rattle.cleaner_node.specs.declared.cleaner.Phase.{Phase as CleanerPhase}
use Rattle.client_log.specs.LogState.{LogState}
use Rattle.client_log.specs.Transition.{has_next}
use Rattle.group_map.specs.GroupMapState.{GroupMapState}
use Rattle.headline.specs.Filed.{Filed, Texts}
use Rattle.index_tie.specs.Net as index
use Rattle.log_law.specs.Events.{Runs}
use Rattle.log_law.specs.Net.{Net, opening}
use Rattle.log_law.specs.Net.Owner.{Serving}
use Rattle.log_law.specs.Restarts.{is_serving}
use Rattle.log_protocol.specs.Tables.{In}
use Rattle.log_tie.specs.Setting.{Setting}
use Rattle.node_base.specs.declared.effects.Effect.{Effect}
use Rattle.node_base.specs.declared.effects.Effect.TheVariants.{Send, Answer, Lose, Does}
pub use Rattle.node_slots.specs.owner_index_tie.Acting.{ActSo, AllSo, EffectSo}
use Rattle.node_slots.specs.owner_index_tie.CleanerEvents.{NewFor}
use Rattle.node_slots.specs.owner_index_tie.ClientEvents.{IsNewerAtSlot}
use Rattle.node_slots.specs.owner_index_tie.Filing.{FilesOwed, IsSameLog, after_effect, filed_after}
use Rattle.segment_format.specs.declared.segment.Segment.{Segment}
use Rattle.version_model.specs.declared.act.Act.{Act}
use Rattle.version_model.specs.declared.act.Act.TheVariants.{Filed as ActsFiled}
use Rattle.run_laws.specs.world_lines.Lines.{IsLine, IsSure, SaysBlocks}

-- ---- at the start, and in an event of another

abbrev pub LinesBegin : Type 0
LinesBegin = (l : ℕ) (g : Setting) (m : GroupMapState) (any : ℕ → ℕ → Segment) → IsLine l (opening g m) (index.opening any).filed

-- where nothing more is filed of the log, and what flew stays so
abbrev pub LinesStay : Type 0
LinesStay = (l : ℕ) (n o : Net) (f h : Filed) → o.filed ≡ n.filed → o.flown ≡ n.flown → IsSameLog l f h → IsLine l n f → IsLine l o h

-- ---- in an event of the owner

-- what is new of each segment that is acted to be filed where it is the next one, with what is filed before it
module _ (New : Filed → Segment → Type 0) (texts : Texts) (l : ℕ) where
  abbrev pub NewAct : Filed → Act → Type 0
  NewAct f (ActsFiled name) = name.seq ≡ suc (f.head l) → New f (texts name)
  NewAct f _ = Unit {0}

  abbrev pub NewEffect : Filed → Effect → Type 0
  NewEffect f (Send to m) = Unit {0}
  NewEffect f (Answer item answer) = Unit {0}
  NewEffect f (Lose seg) = Unit {0}
  NewEffect f (Does act) = NewAct f act

  abbrev pub AllNew : Filed → List Effect → Type 0
  AllNew f [] = Unit {0}
  AllNew f (e ∷ es) = NewEffect f e × AllNew (after_effect texts l f e) es

-- What is acted to be filed in an event: each such name is filed after it, and its number has one after it.
pub record ActsFile (o : Net) (outs : List Effect) : Type 0 where
  pub filed : AllSo (λ name. In name o.filed) outs
  pub short : AllSo (λ name. has_next name.seq ≡ true) outs

-- Then it is owed, where its text says of blocks, and what is new of that is given: of a client
abbrev pub ClientsFilesAreOwed : Type 0
ClientsFilesAreOwed =
    (part : ℕ) (texts : Texts) (c : ℕ) (g : Setting) (o : Net) (f : Filed) (outs : List Effect) → IsSure texts c g o → ActsFile o outs
    → AllSo (λ name. SaysBlocks (texts name)) outs
    → AllNew (IsNewerAtSlot part) texts c f outs → FilesOwed (IsNewerAtSlot part) texts c f outs

-- and of the cleaner
abbrev pub CleanersFilesAreOwed : Type 0
CleanersFilesAreOwed =
    (part : ℕ) (texts : Texts) (n : index.Net) (p : CleanerPhase) (g : Setting) (o : Net) (f : Filed) (outs : List Effect) → IsSure texts cleaners_number g o
    → ActsFile o outs
    → AllSo (λ name. SaysBlocks (texts name)) outs
    → AllNew (NewFor part texts n p) texts cleaners_number f outs → FilesOwed (NewFor part texts n p) texts cleaners_number f outs

-- An event of the owner: what it acts to be filed is filed after it. Where the owner serves then, its end is the last of what is filed then (which the law
-- of the index gives); else nothing was filed.
pub record IsTurn (texts : Texts) (l : ℕ) (g : Setting) (n o : Net) (f : Filed) (outs : List Effect) : Type 0 where
  pub run : Runs g n o
  pub sure : IsSure texts l g o
  pub acts : AllSo (λ name. In name o.filed) outs
  pub end : (s : LogState) → o.owner ≡ Serving s → s.end.seq ≡ (filed_after texts l f outs).head l
  pub still : is_serving o.owner ≡ false → o.filed ≡ n.filed

abbrev pub LinesGoOn : Type 0
LinesGoOn =
    (texts : Texts) (l : ℕ) (g : Setting) (n o : Net) (f : Filed) (outs : List Effect) → IsLine l n f → IsTurn texts l g n o f outs
    → IsLine l o (filed_after texts l f outs)
