-- A log of checkpoints that starts anew stays written, as long as what it takes fits.
use Rattle.std.proofs.Common.{◌<◌, ◌^◌, ℕ, List, [], ◌∷◌, arith}
use Rattle.std.specs.List.{AllByRecursion}
use Rattle.xfs_base.proofs.Alls.{all_weaker}
use Rattle.xfs_base.specs.declared.segment.LogId.{LogId}
use Rattle.segment_format.specs.declared.segment.Item.{Item}
use Rattle.segment_format.specs.declared.segment.Item.TheVariants.{Block, Delta, Part}
use Rattle.segment_format.specs.Format.{second_version, IsLog}
use Rattle.segment_format.specs.Ranges.{FitsItem}
use Rattle.segment_format.specs.Text.{IsItem}
use Rattle.group_map.specs.GroupMapState.{GroupMapState}
use Rattle.log_flight.specs.Texts.{HasText}
use Rattle.log_flight.proofs.ItemTexts.{tested_have_text}
use Rattle.client_log.specs.declared.input.In.{In as Input}
use Rattle.client_log.specs.declared.input.In.TheVariants.{Put, Parts, Maps}
use Rattle.client_log.specs.LogState.{LogState, log_start}
use Rattle.client_log.specs.Transition.{transition}
use Rattle.log_law.specs.Net.{no_end}
use Rattle.log_law.specs.Events.{WritesText}
use Rattle.log_law.proofs.TextBytes.{ItemBytes, part_item}
use Rattle.log_law.proofs.Texts.{ItemsFit}
use Rattle.node_logs.specs.client_log_tie.Texts.{MapFits}
use Rattle.node_logs.specs.manager_log_tie.Fitting.{PartFits, InputFits, StaysWritten}
use Rattle.node_logs.proofs.client_log_tie.Staying.{Takes, flies_written}

ranges_of : (items : List Item) → AllByRecursion PartFits items → AllByRecursion FitsItem items
ranges_of [] all = tt
ranges_of (Block block value ∷ items) all = absurd all.0
ranges_of (Delta block ver hop item ∷ items) all = absurd all.0
ranges_of (Part slot rows ∷ items) all = (all.0, ranges_of items all.1)

bytes_of : (items : List Item) → AllByRecursion PartFits items → AllByRecursion (IsItem second_version) items → AllByRecursion ItemBytes items
bytes_of [] fits all = tt
bytes_of (Block block value ∷ items) fits all = absurd fits.0
bytes_of (Delta block ver hop item ∷ items) fits all = absurd fits.0
bytes_of (Part slot rows ∷ items) fits all = (part_item slot rows all.0, bytes_of items fits.1 all.1)

parts_fit : (items : List Item) → AllByRecursion PartFits items → HasText items → ItemsFit items
parts_fit items fits text = record { ranges = ranges_of items fits; text = text; bytes = bytes_of items fits text.each }

takes : (i : Input) → InputFits i → Takes i
takes (Put block entry value) fits = absurd fits
takes (Parts items) fits = λ can. parts_fit items fits (tested_have_text items can)
takes (Maps m) fits = fits
takes _ fits = tt

-- a log that begins anew
pub anew_written : (log : LogId) (inc : ℕ) (m : GroupMapState) → IsLog log.0 → inc < 2 ^ 32 → MapFits m → StaysWritten (log_start log inc no_end m)
anew_written log inc m fact small ids later all =
    flies_written log inc no_end m fact small (omega arith, (omega arith, omega arith), omega arith) ids later (all_weaker InputFits Takes takes later all)

-- ---- one input

pub written_after : (s : LogState) (i : Input) → StaysWritten s → InputFits i → StaysWritten (transition s i).state
written_after s i h fits later all = h (i ∷ later) (fits, all)

pub writes_text : (s : LogState) (i : Input) → StaysWritten s → InputFits i → WritesText (transition s i)
writes_text s i h fits = h (i ∷ []) (fits, tt)
