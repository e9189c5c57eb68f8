-- What the cleaner acts to be filed says of blocks: what it had in flight, what was filed of its log, and what a reopening adopts.
use Rattle.std.proofs.Common.{◌≡◌, ◌≤◌, ◌<◌, ◌⊎◌, ℕ, false, List, [], ◌∷◌, Some, inl, inr, sym, ap, subst, ◌∙◌}
use Rattle.std.specs.List.{AllByRecursion, filter_map}
use Rattle.headline.specs.Filed.{AreTexts, Filed, IsNoPart, Texts}
use Rattle.log_flight.specs.Flights.{FlightState}
use Rattle.log_law.specs.Events.{Happens}
use Rattle.log_law.specs.Events.Runs.{On}
use Rattle.log_law.specs.Laws.{IsAttemptOf, Moment}
use Rattle.log_law.specs.Net.{Net}
use Rattle.log_law.specs.Restarts.{EndsRestart, IsSureRun, last_flight}
use Rattle.log_law.specs.Tails.{ARestartFilesTheTail, TellsOnlyTheTail}
use Rattle.log_protocol.specs.Tables.{In}
use Rattle.log_tie.specs.Setting.{Setting}
use Rattle.run_laws.specs.reopening_law.Reopens.{TellsApart}
use Rattle.segment_format.specs.declared.segment.Item.{Item}
use Rattle.segment_format.specs.declared.segment.Item.TheVariants.{Block, Delta, Part}
use Rattle.segment_format.specs.declared.segment.Segment.{Segment}
use Rattle.segment_format.specs.Rows.{row_of}
use Rattle.run_laws.specs.segment_tie.Segments.{TellsOnce}
use Rattle.run_laws.specs.world_lines.Lines.{FlownAreTexts, IsLine, LineGives, SaysBlocks}
use Rattle.xfs_base.specs.declared.block.BlockId.{BlockId}
use Rattle.xfs_base.specs.declared.entry.Entry.{Entry}
use Rattle.xfs_base.specs.declared.segment.SegName.{SegName}

pub says_once : (s : Segment) → TellsOnce s → SaysBlocks s
says_once s tells = record { versions = tells.versioned; no_parts = tells.no_parts }

-- ---- segments of the same items

abbrev AreFromOne : List (BlockId × Entry) → Type 0
AreFromOne rows = AllByRecursion (λ (row : BlockId × Entry). 0 < row.1.ver) rows

versions_stay : (s t : Segment) (items : List Item) → AreFromOne (filter_map (row_of s) items) → AreFromOne (filter_map (row_of t) items)
versions_stay s t [] all = tt
versions_stay s t (Block block value ∷ items) all = versions_stay s t items all
versions_stay s t (Delta block ver hop item ∷ items) all = (all.0, versions_stay s t items all.1)
versions_stay s t (Part slot rows ∷ items) all = versions_stay s t items all

same_says : (s t : Segment) → t.items ≡ s.items → SaysBlocks s → SaysBlocks t
same_says s t same says = record {
  versions = versions_stay s t t.items (subst (λ (items : List Item). AreFromOne (filter_map (row_of s) items)) (sym same) says.versions);
  no_parts = subst (AllByRecursion IsNoPart) (sym same) says.no_parts;
}

nothing_says : (t : Segment) → t.items ≡ [] → SaysBlocks t
nothing_says t none = record {
  versions = subst (λ (items : List Item). AreFromOne (filter_map (row_of t) items)) (sym none) tt;
  no_parts = subst (AllByRecursion IsNoPart) (sym none) tt;
}

-- ---- what was filed

-- of a line the text of each filed name is a segment that tells once
pub filed_says : (texts : Texts) (l : ℕ) (n : Net) (f : Filed) → IsLine l n f → LineGives l n f → AreTexts texts f
    → ((q : ℕ) → 0 < q → q ≤ f.head l → TellsOnce (f.segment l q)) → (name : SegName) → In name n.filed → SaysBlocks (texts name)
filed_says texts l n f line gives are tells name fact =
    let in_line = line.all name fact in
    let s : Segment = f.segment l name.seq in
    let same : texts name ≡ s = ap texts (gives.one name fact) ∙ sym (are l name.seq in_line.0 in_line.1) in
    subst SaysBlocks (sym same) (says_once s (tells name.seq in_line.0 in_line.1))

-- ---- what a reopening adopts

module _ (only : ARestartFilesTheTail) (texts : Texts) (g : Setting) (n o : Net) (trusted : g.doubts ≡ false) (apart : TellsApart g) (at : Moment g n)
    (happens : Happens g n o) (calm : IsSureRun (On at.run happens)) (ends : EndsRestart n o) (are : FlownAreTexts texts o)
    (flew : (x : FlightState) → last_flight at.run ≡ Some x → SaysBlocks x.segment)
    (before : (name : SegName) → In name n.filed → SaysBlocks (texts name)) where
  tail_says : (name : SegName) → TellsOnlyTheTail at o name → SaysBlocks (texts name)
  tail_says name (t, flown, same, tells) = subst SaysBlocks its (by tells)
    where
      its : t ≡ texts name
      its = sym (are t flown) ∙ ap texts same

      by : ((g.content t.items ≡ 0) ⊎ ((x : FlightState) × (last_flight at.run ≡ Some x) × IsAttemptOf g x t)) → SaysBlocks t
      by (inl nothing) = nothing_says t (apart t.items [] (nothing ∙ sym g.no_content))
      by (inr (x, last, attempt)) = same_says x.segment t (apart t.items x.segment.items attempt.content) (flew x last)

  pub adopted_says : (name : SegName) → In name o.filed → SaysBlocks (texts name)
  adopted_says name filed = by (only g n o trusted at happens calm ends name filed)
    where
      by : In name n.filed ⊎ TellsOnlyTheTail at o name → SaysBlocks (texts name)
      by (inl was) = before name was
      by (inr tail) = tail_says name tail
