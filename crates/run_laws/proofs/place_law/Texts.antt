-- What a client, a takeover or the cleaner reads under a name is the text of the name.
use Rattle.std.proofs.Common.{◌≡◌, ◌<◌, ◌^◌, ℕ, true, ◌==◌, List, [], ◌∷◌, filter, Option, None, Some, refl, sym, subst}
use Rattle.std.specs.Prelude.{IfSome}
use Rattle.std.specs.List.{AllByRecursion, flat_map}
use Rattle.node_tellings.proofs.entry_tie.Frames.{all_filter_map}
use Rattle.log_law.specs.Laws.{OneNameOneText}
use Rattle.log_law.specs.Net.Packet.{FragmentSent}
use Rattle.log_law.specs.Places.{APlaceNamesOneContent}
use Rattle.log_protocol.specs.Tables.{In}
use Rattle.log_tie.specs.Shelves.{is_of_log}
use Rattle.node_logs.specs.manager_log_tie.Told.{WhatIsToldIsInRange}
use Rattle.node_slots.specs.node_index_tie.ManagerEvents.{completes_at, completes_in}
use Rattle.node_slots.specs.node_index_tie.Sight.{IsRead, RowsFit}
use Rattle.headline.specs.Filed.{Texts}
use Rattle.node_tellings.specs.reading_tie.Arrivals.{Cuts, Tells, answered_in}
use Rattle.node_tellings.specs.reading_tie.TakeoverReads.{TakeoversReadWhatCame, to_any}
use Rattle.segment_format.specs.declared.segment.Item.{Item}
use Rattle.segment_format.specs.declared.segment.Item.TheVariants.{Block, Delta, Part}
use Rattle.segment_format.specs.declared.segment.Segment.{Segment}
use Rattle.segment_format.specs.Ranges.{FitsItem, FitsRow}
use Rattle.segment_format.specs.Rows.{row_of, rows_of}
use Rattle.segment_reading.specs.Reading.{ReadingState}
use Rattle.stripe_code.specs.declared.round.Told.TheVariants.{Held}
use Rattle.takeover.specs.Rows.{is_of, part_rows, told_of}
use Rattle.wire_msg.specs.declared.body.Body.{Body}
use Rattle.wire_msg.specs.declared.body.Body.TheVariants as body
use Rattle.wire_msg.specs.declared.packet.Packet.{Packet}
use Rattle.xfs_base.specs.declared.node.NodeId.{NodeId}
use Rattle.xfs_base.proofs.Booleans.{by_test}
use Rattle.xfs_base.specs.declared.block.BlockId.{BlockId}
use Rattle.xfs_base.specs.declared.entry.Entry.{Entry}
use Rattle.xfs_base.specs.declared.fragment.Fragment.{Fragment}
use Rattle.xfs_base.specs.declared.segment.SegRef.{SegRef}
use Rattle.xfs_base.proofs.Alls.{all_append, all_filter, all_weaker}
use Rattle.run_laws.specs.place_law.Reads.{LogKnown, TakeoversReadTexts, WhatIsReadIsTheText}
use Rattle.run_laws.proofs.place_law.Joined.{CameOf, IsFlown, joined}

-- ---- what came was sent

module _ (texts : Texts) (packets : List Packet) (to : NodeId) (cuts : Cuts) (seg : SegRef) (l : LogKnown texts packets cuts seg.name.log) where
  abbrev WasSent : Fragment → Type 0
  WasSent f = is_of_log l.setting f.meta.name ≡ true → In (FragmentSent f) l.net.sent

  -- a body that tells of a fragment bears it
  bears : (p : Packet) (ask : ℕ) (f : Fragment) (m : Body) → In p packets → p.body ≡ m → Tells ask (Held f) m → WasSent f
  bears p ask f (body.Fragment m) among fact t own =
      let same : f ≡ m.fragment = held_same t.1 in
      subst (λ g. In (FragmentSent g) l.net.sent) (sym same) (l.told p m among fact (subst (λ (g : Fragment). is_of_log l.setting g.meta.name ≡ true) same own))
    where
      held_same : {a b : Fragment} → Held a ≡ Held b → a ≡ b
      held_same e = cc
  bears p ask f (body.Missing m) among fact t own = absurd (let clash = t.1 in cc)
  bears p ask f _ among fact t own = absurd t

  pub was_sent : CameOf (answered_in packets to) WasSent
  was_sent ask server f h = bears h.packet ask f h.packet.body h.among refl h.tells

  pub any_was_sent : CameOf (to_any (answered_in packets to)) WasSent
  any_was_sent own server f h = was_sent h.ask server f h.came_so

-- ---- its numbers are within their types

blocks_fit : (rows : List (BlockId × Entry)) → AllByRecursion FitsRow rows → RowsFit rows
blocks_fit rows all = all_weaker FitsRow _ (λ row h. h.0.1) rows all

module _ (part : ℕ) (s : Segment) where
  item_fits : (i : Item) → FitsItem i → RowsFit (part_rows part i)
  item_fits (Block block value) h = tt
  item_fits (Delta block ver hop item) h = tt
  item_fits (Part slot rows) h = by_test RowsFit (slot == part) rows [] (λ _. blocks_fit rows h) (λ _. tt)

  parts_fit : (items : List Item) → AllByRecursion FitsItem items → RowsFit (flat_map (part_rows part) items)
  parts_fit [] all = tt
  parts_fit (i ∷ rest) all = all_append _ (part_rows part i) (flat_map (part_rows part) rest) (item_fits i all.0) (parts_fit rest all.1)

  deltas_fit : AllByRecursion FitsItem s.items → RowsFit (rows_of s)
  deltas_fit all = all_filter_map _ FitsItem (row_of s) one s.items all
    where
      one : (i : Item) → FitsItem i → IfSome (row_of s i) (λ row. row.0.blk < 2 ^ 32)
      one (Block block value) h = tt
      one (Delta block ver hop item) h = h.0.1
      one (Part slot rows) h = tt

  pub told_fits : AllByRecursion FitsItem s.items → RowsFit (told_of part s)
  told_fits all = all_append _ (flat_map (part_rows part) s.items) (filter (is_of part) (rows_of s)) (parts_fit s.items all)
      (all_filter _ (is_of part) (rows_of s) (deltas_fit all))

-- ---- the laws

pub what_is_read_is_the_text : OneNameOneText → APlaceNamesOneContent → WhatIsReadIsTheText
what_is_read_is_the_text one place texts packets to cuts seg s l group h =
    (joined one place texts packets cuts (answered_in packets to) seg l group (was_sent texts packets to cuts seg l) s h).is_text

pub takeovers_read_texts : OneNameOneText → APlaceNamesOneContent → WhatIsToldIsInRange → TakeoversReadWhatCame → TakeoversReadTexts
takeovers_read_texts one place ranged reads part texts packets to cuts take p ask own server told s h at answered l group completes =
    by p.reading refl (subst (λ o. completes_at take o own server told ≡ Some s) at completes)
  where
    by : (o : Option ReadingState) → p.reading ≡ o → completes_in take o own server told ≡ Some s → IsRead part texts s
    by None fact done = absurd (cc)
    by (Some r) fact done =
        let flown : IsFlown one place texts packets cuts (to_any (answered_in packets to)) p.source.seg l group
        (any_was_sent texts packets to cuts p.source.seg l) s =
        joined one place texts packets cuts (to_any (answered_in packets to)) p.source.seg l group (any_was_sent texts packets to cuts p.source.seg l) s
        (reads packets to cuts take p r ask own server told s h at fact answered done)
        in
        record {
          text = sym (l.texts_of s flown.among);
          fits = told_fits part s ((ranged l.setting l.net l.moment).written s flown.among).fits.items;
        }
