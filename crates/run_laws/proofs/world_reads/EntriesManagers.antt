-- What a takeover reads tells what is told: a filed segment, or a segment of a manager's log, of whose Parts each row is told.
use Rattle.std.proofs.Common.{◌≡◌, ⊎_elim, ℕ, suc, ◌<◌, ◌≤◌, ◌==◌, List, [], ◌∷◌, filter, None, Option, Some, length, slice_get, unwrap_or, refl, sym, ap, subst, ◌∙◌, arith}
use Rattle.std.proofs.lemmas.Option.{slice_get_within}
use Rattle.std.specs.Prelude.{IfSome}
use Rattle.std.specs.List.{AllByRecursion, flat_map}
use Rattle.core_world.specs.declared.any_node.AnyNode.{AnyNode}
use Rattle.node_tellings.proofs.entry_tie.Frames.{all_filter_map}
use Rattle.node_tellings.proofs.entry_tie.Rising.{rows_rise, told_more}
use Rattle.node_tellings.specs.entry_tie.ManagerTells.{AnswerOwed, BodyOwed, DoOwed, ManagerOwed, PacketOwed, PartTold, SlotOwed}
use Rattle.node_tellings.specs.entry_tie.Told.{AreMore, FiledRows, RowTold, RowsTold, Told as EntryTold, told_by_rows}
use Rattle.index_tie.specs.Filed.{IsFiled}
use Rattle.headline.specs.Filed.{AreTexts, IsNoPart, rows_at}
use Rattle.index_tie.specs.Net.{Net}
use Rattle.log_owner.specs.Sending.{server_in}
use Rattle.log_tie.specs.Setting.{Setting}
use Rattle.manager_node.specs.declared.manager.Manager.{Manager as ManagerNode}
use Rattle.manager_node.specs.declared.phase.Phase.{Phase}
use Rattle.manager_node.specs.declared.phase.Phase.TheVariants as managing
use Rattle.manager_node.specs.Events.{manager_step}
use Rattle.manager_slots.specs.declared.slot_phase.SlotPhase.{SlotPhase}
use Rattle.manager_slots.specs.declared.slot_phase.SlotPhase.TheVariants as phase
use Rattle.manager_slots.specs.declared.slot_phase.Taking.{Taking}
use Rattle.manager_slots.specs.Slots.{fetch_of}
use Rattle.manager_serving.specs.declared.serving.Serving.{Serving}
use Rattle.node_slots.specs.node_index_tie.ManagerEvents.{AbsentGets, FoundGets, ManagerAgrees, PhaseAgrees, TakingAgrees, completes_at, completes_in}
use Rattle.node_slots.specs.node_index_tie.Pages.{Desk, desk_of}
use Rattle.node_slots.specs.node_index_tie.Sight.{IsRead, Questions}
use Rattle.headline.specs.Managers.{phase_at, slot_in}
use Rattle.segment_format.specs.declared.segment.Item.{Item}
use Rattle.segment_format.specs.declared.segment.Item.TheVariants.{Block, Delta, Part}
use Rattle.segment_format.specs.declared.segment.Segment.{Segment}
use Rattle.segment_format.specs.Rows.{row_of, rows_of}
use Rattle.segment_reading.specs.declared.reading.Next.{Next}
use Rattle.segment_reading.specs.declared.reading.Next.TheVariants as next
use Rattle.segment_reading.specs.declared.target.Target.{Target}
use Rattle.segment_reading.specs.Reading.{reading_take}
use Rattle.stripe_code.specs.declared.round.Told.{Told as Answered}
use Rattle.stripe_code.specs.declared.round.Told.TheVariants as answered
use Rattle.takeover.proofs.Readings.{IsNamed, named-reading_take}
use Rattle.takeover.specs.Course.{segment_of}
use Rattle.takeover.specs.declared.source.Present.{Present}
use Rattle.takeover.specs.declared.source.Source.{Source}
use Rattle.takeover.specs.Rows.{is_of, part_rows, told_of}
use Rattle.takeover.specs.TakeState.{TakeState}
use Rattle.takeover.specs.Transition.{target_of}
use Rattle.token_protocol.specs.Basics.{In}
use Rattle.wire_msg.specs.declared.body.Body.{Body}
use Rattle.wire_msg.specs.declared.body.Body.TheVariants as body
use Rattle.wire_msg.specs.declared.packet.Do.{Do}
use Rattle.wire_msg.specs.declared.packet.Do.TheVariants.{Begin, Deliver, Tick}
use Rattle.wire_msg.specs.declared.packet.Packet.{Packet}
use Rattle.wire_msg.specs.declared.storage.Found.{Found}
use Rattle.wire_msg.specs.declared.storage.Missing.{Missing as Absent}
use Rattle.world_base.specs.declared.estate.Estate.{Estate}
use Rattle.run_laws.specs.world_index.Owes.{BodyReads, DoReads}
use Rattle.run_laws.specs.world_logs.Lines as lined
use Rattle.run_laws.specs.world_logs.Lines.{HasLines}
use Rattle.run_laws.proofs.world_reads.EntriesCourse.{LooksFor}
use Rattle.run_laws.proofs.world_reads.EntriesNames.{TakenKnown}
use Rattle.run_laws.proofs.world_reads.EntriesOwners.{segment_told}
use Rattle.run_laws.proofs.world_reads.EntriesSources.{reads_there}
use Rattle.run_laws.specs.world_reads.Entries.{PartKnown}
use Rattle.xfs_base.proofs.Booleans.{by_test}
use Rattle.xfs_base.specs.declared.node.NodeId.{NodeId}
use Rattle.xfs_base.specs.declared.node.NodeId.TheVariants.{Client, Manager, Server, Cleaner, Registry}
use Rattle.xfs_base.specs.declared.segment.SegRef.{SegRef}
use Rattle.xfs_base.proofs.Alls.{all_append, all_filter}
use Rattle.xfs_base.specs.Limits.{slot_count}

-- ---- what a segment tells of a slot

module _ (told : EntryTold) (slot : ℕ) where
  part_told : (i : Item) → PartTold told i → RowsTold told (part_rows slot i)
  part_told (Block block value) fact = absurd fact
  part_told (Delta block ver hop item) fact = absurd fact
  part_told (Part of rows) fact = by_test (RowsTold told) (of == slot) rows [] (λ _. fact) (λ _. tt)

  parts_told : (items : List Item) → AllByRecursion (PartTold told) items → RowsTold told (flat_map (part_rows slot) items)
  parts_told [] all = tt
  parts_told (i ∷ rest) all = all_append (RowTold told) (part_rows slot i) (flat_map (part_rows slot) rest) (part_told i all.0) (parts_told rest all.1)

  no_row : (s : Segment) (i : Item) → PartTold told i → IfSome (row_of s i) (RowTold told)
  no_row s (Block block value) fact = absurd fact
  no_row s (Delta block ver hop item) fact = absurd fact
  no_row s (Part of rows) fact = tt

  -- one of Parts tells their rows
  pub pages_tell : (s : Segment) → AllByRecursion (PartTold told) s.items → RowsTold told (told_of slot s)
  pages_tell s all =
      all_append (RowTold told) (flat_map (part_rows slot) s.items) (filter (is_of slot) (rows_of s)) (parts_told s.items all)
      (all_filter (RowTold told) (is_of slot) (rows_of s) (all_filter_map (RowTold told) (PartTold told) (row_of s) (no_row s) s.items all))

  no_parts : (items : List Item) → AllByRecursion IsNoPart items → RowsTold told (flat_map (part_rows slot) items)
  no_parts [] none = tt
  no_parts (Block block value ∷ rest) none = no_parts rest none.1
  no_parts (Delta block ver hop item ∷ rest) none = no_parts rest none.1
  no_parts (Part of rows ∷ rest) none = absurd none.0

  -- and one without Parts the rows of its Deltas
  pub deltas_tell : (s : Segment) → AllByRecursion IsNoPart s.items → RowsTold told (rows_of s) → RowsTold told (told_of slot s)
  deltas_tell s none all =
      all_append (RowTold told) (flat_map (part_rows slot) s.items) (filter (is_of slot) (rows_of s)) (no_parts s.items none)
      (all_filter (RowTold told) (is_of slot) (rows_of s) all)

-- ---- what is read

-- what completes a segment has the name that was looked for
completed_named : (target : Target) (n : Next) (s : Segment) → IsNamed target n → segment_of n ≡ Some s → s.name ≡ target.seg.name
completed_named target (next.Read x) s named fact = (let same : x ≡ s = cc in subst (λ (y : Segment). y.name ≡ target.seg.name) same named)
completed_named target next.Wait s named fact = absurd (let clash : None ≡ Some s = fact in cc)
completed_named target next.Ask s named fact = absurd (let clash : None ≡ Some s = fact in cc)
completed_named target next.Again s named fact = absurd (let clash : None ≡ Some s = fact in cc)
completed_named target next.Lost s named fact = absurd (let clash : None ≡ Some s = fact in cc)

module _ (base : Setting) (e : Estate AnyNode) (lines : HasLines base e) (texts : lined.Texts base e lines) (count : ℕ) (later : FiledRows) where
  -- What is known of a slot at this count in the small world of its index, of a manager in this phase: all that is filed there is told, what was filed are the
  -- texts of their names, and so is what an answer completes of a takeover; and the parts that the news of the takeover name flew.
  pub record SlotKnown (slot j : ℕ) (p : Phase) (what : Do) : Type 0 where
    pub net : Net
    pub asked : Questions
    pub more : AreMore (rows_at net.filed) later
    pub filed : IsFiled net.filed
    pub are_texts : AreTexts texts.text net.filed
    pub agrees : ManagerAgrees slot texts.text net p
    pub reads : DoReads slot texts.text asked j net p what
    pub parts : TakenKnown (PartKnown base e lines count later) (slot_in slot p)

  module _ (slot j : ℕ) (p : Phase) (what : Do) (k : SlotKnown slot j p what) where
    abbrev told : EntryTold
    told = told_by_rows later

    -- a part of a checkpoint tells rows that are told
    part_read : (part : SegRef) (s : Segment) (of : ℕ) → PartKnown base e lines count later part → s.name ≡ part.name → s ≡ texts.text s.name
        → RowsTold told (told_of of s)
    part_read part s of its named text =
        let same : s ≡ its.segment = text ∙ (ap texts.text (named ∙ sym its.named) ∙ texts.flown _ its.there count its.segment its.flew) in
        pages_tell told of s (subst (λ (x : Segment). AllByRecursion (PartTold told) x.items) (sym same) its.told)

    -- so does a filed segment
    filed_read : (l q : ℕ) (s : Segment) (of : ℕ) → 0 < q → q ≤ k.net.filed.head l → s.name ≡ (k.net.filed.segment l q).name → s ≡ texts.text s.name
        → RowsTold told (told_of of s)
    filed_read l q s of some limit named text =
        let same : k.net.filed.segment l q ≡ s = k.are_texts l q some limit ∙ (ap texts.text (sym named) ∙ sym text) in
        deltas_tell told of s (subst (λ (x : Segment). AllByRecursion IsNoPart x.items) same (k.filed.each l q some limit).no_parts)
        (rows_rise (told_by_rows (rows_at k.net.filed)) told (told_more (rows_at k.net.filed) later k.more) (rows_of s)
        (segment_told k.net.filed l q s some limit same))

    source_read : (epoch : ℕ) (take : TakeState) → TakingAgrees slot texts.text k.net epoch take
        → ((ref : SegRef) → In ref take.news.parts → PartKnown base e lines count later ref) → (x : Present) → take.present ≡ Some x → (s : Segment) (of : ℕ)
        → s.name ≡ x.source.seg.name → s ≡ texts.text s.name → RowsTold told (told_of of s)
    source_read epoch take taking flew x fact s of named text =
        ⊎_elim
        (λ part. part_read part.ref s of (flew part.ref part.among) (named ∙ ap (λ (y : Source). y.seg.name) part.of_part) text)
        (λ here. filed_read here.log here.seq s of here.some here.limit (named ∙ here.named) text)
        (reads_there slot texts.text k.net k.filed k.are_texts epoch take taking x fact).lies

    -- ---- an answer

    -- what an answer to a question of a takeover completes is the text of its name
    abbrev Completes : SlotPhase → ℕ → ℕ → Answered → Type 0
    Completes x ask server answer =
        (t : Taking) (own : ℕ) (s : Segment) → x ≡ phase.Taking t → fetch_of x ask ≡ Some own → completes_at t.take t.take.present own server answer ≡ Some s
        → IsRead slot texts.text s

    pub slot_owed : (desk : Desk) (x : SlotPhase) → PhaseAgrees slot texts.text k.net desk x → TakenKnown (PartKnown base e lines count later) x
        → (ask server : ℕ) (answer : Answered) → Completes x ask server answer
        → SlotOwed told ask server answer x
    slot_owed desk (phase.Away epoch) agrees flew ask server answer completes own fetched = tt
    slot_owed desk (phase.Active active) agrees flew ask server answer completes own fetched = tt
    slot_owed desk (phase.Broken epoch seg) agrees flew ask server answer completes own fetched = tt
    slot_owed desk (phase.Taking t) agrees flew ask server answer completes own fetched =
        λ present reading segment at fact done.
        (let there = reads_there slot texts.text k.net k.filed k.are_texts t.epoch t.take agrees present at in
        let looks : reading.target ≡ target_of present.source = subst (LooksFor present.source) fact there.looks in
        let after = (reading_take reading t.take.groups own server answer).next in
        source_read t.epoch t.take agrees flew present at segment t.take.news.slot
        (completed_named (target_of present.source) after segment
        (subst (λ target. IsNamed target after) looks (named-reading_take reading t.take.groups own server answer)) done)
        (completes t own segment refl fetched
        (subst (λ o. completes_at t.take o own server answer ≡ Some segment) (sym at)
        (subst (λ o. completes_in t.take o own server answer ≡ Some segment) (sym fact) done))).text)

  -- ---- all slots

  all_at : {X : Type 0} (P : X → Type 0) (xs : List X) → ((q : ℕ) (x : X) → slice_get xs q ≡ Some x → P x) → AllByRecursion P xs
  all_at P [] each = tt
  all_at P (x ∷ xs) each = (each 0 x refl, all_at P xs (λ q y fact. each (suc q) y fact))

  module _ (j : ℕ) (s : Serving) (packet : Packet)
      (slots : (q : ℕ) → q < slot_count → SlotKnown q j (managing.Serving s) (Deliver packet)) where
    eight : length s.slots ≡ slot_count
    eight = (slots 0 (omega arith)).agrees.0.eight

    -- an answer of a server is owed by each of its slots
    slots_owed : (ask server : ℕ) (answer : Answered)
        → ((q : ℕ) (less : q < slot_count) → Completes q j (managing.Serving s) (Deliver packet) (slots q less) (phase_at s.slots q) ask server answer)
        → AllByRecursion (SlotOwed (told_by_rows later) ask server answer) s.slots
    slots_owed ask server answer completes = all_at (SlotOwed (told_by_rows later) ask server answer) s.slots one
      where
        one : (q : ℕ) (x : SlotPhase) → slice_get s.slots q ≡ Some x → SlotOwed (told_by_rows later) ask server answer x
        one q x fact =
            let within = slice_get_within s.slots q x fact in
            let size = eight in
            let less : q < slot_count = omega arith in
            let at : phase_at s.slots q ≡ x = ap (λ (o : Option SlotPhase). unwrap_or o (phase.Away 0)) fact in
            let agrees = (slots q less).agrees.0 in
            subst (SlotOwed (told_by_rows later) ask server answer) at
            (slot_owed q j (managing.Serving s) (Deliver packet) (slots q less) (desk_of s agrees.given) (phase_at s.slots q) agrees.here
            (slots q less).parts ask server answer (completes q less))

    found_owed : (from : NodeId) (m : Found)
        → ((q : ℕ) (less : q < slot_count) → FoundGets q texts.text (slots q less).asked j (slots q less).net (phase_at s.slots q) from m)
        → AnswerOwed (told_by_rows later) s (server_in from) m.ask (answered.Held m.fragment)
    found_owed (Server v) m gets = slots_owed m.ask v (answered.Held m.fragment) (λ q less t own x fact fetched done. gets q less t own x fact fetched done)
    found_owed (Client c) m gets = tt
    found_owed (Manager c) m gets = tt
    found_owed Cleaner m gets = tt
    found_owed Registry m gets = tt

    absent_owed : (from : NodeId) (m : Absent)
        → ((q : ℕ) (less : q < slot_count) → AbsentGets q texts.text (slots q less).asked j (slots q less).net (phase_at s.slots q) from m)
        → AnswerOwed (told_by_rows later) s (server_in from) m.ask (answered.Missing m.generation)
    absent_owed (Server v) m gets =
        slots_owed m.ask v (answered.Missing m.generation) (λ q less t own x fact fetched done. gets q less t own x fact fetched done)
    absent_owed (Client c) m gets = tt
    absent_owed (Manager c) m gets = tt
    absent_owed Cleaner m gets = tt
    absent_owed Registry m gets = tt

    body_owed : (from : NodeId) (m : Body)
        → ((q : ℕ) (less : q < slot_count) → BodyReads q texts.text (slots q less).asked j (slots q less).net (phase_at s.slots q) from m)
        → BodyOwed (told_by_rows later) s from m
    body_owed from (body.Fragment m) gets = found_owed from m gets
    body_owed from (body.Missing m) gets = absent_owed from m gets
    body_owed from _ gets = tt

    pub packet_owed : PacketOwed (told_by_rows later) (managing.Serving s) packet
    packet_owed = body_owed packet.from packet.body (λ q less. (slots q less).reads)

  -- ---- an event

  -- What a manager is owed, where so much is known of each slot of the map.
  pub manager_owed : (j : ℕ) (manager : ManagerNode) (what : Do)
      → ((q : ℕ) → q < slot_count → SlotKnown q j manager.phase what) → ManagerOwed (told_by_rows later) manager what (manager_step manager what).acts
  manager_owed j manager what slots = by what refl
    where
      by_phase : (packet : Packet) → what ≡ Deliver packet → (p : Phase) → manager.phase ≡ p → PacketOwed (told_by_rows later) p packet
      by_phase packet fact (managing.Serving s) serves =
          packet_owed j s packet
          (λ q less. subst (SlotKnown q j (managing.Serving s)) fact (subst (λ (p : Phase). SlotKnown q j p what) serves (slots q less)))
      by_phase packet fact (managing.Down kept) serves = tt
      by_phase packet fact (managing.Waiting kept hello) serves = tt

      by : (d : Do) → what ≡ d → DoOwed (told_by_rows later) manager.phase d
      by Begin fact = tt
      by (Deliver packet) fact = by_phase packet fact manager.phase refl
      by Tick fact = tt
