-- A manager's slots tell entries in answer to a Want, a Gave, Deltas or a Check alone: whatever is said of Grants and Lives, all else that a slot says says
-- nothing of it.
use Rattle.std.proofs.Common.{ℕ, Bool, true, false, cond, nat_lt, ◌==◌, List, [], ◌∷◌, Option, None, Some, filter, is_some, slice_get, sym, subst}
use Rattle.std.proofs.lemmas.Grind.{flat_map-append}
use Rattle.std.specs.List.{flat_map}
use Rattle.slot_beliefs.specs.declared.job.Awaited.{Awaited}
use Rattle.slot_beliefs.specs.declared.job.Job.{Job}
use Rattle.token_manager.specs.Recalls.{send_all, recall_of, send_recalls}
use Rattle.xfs_base.proofs.Booleans.{by_test}
use Rattle.xfs_base.specs.declared.block.BlockId.{BlockId}
use Rattle.group_map.specs.GroupMapState.{GroupMapState}
use Rattle.manager_slots.specs.declared.slot_phase.SlotPhase.{SlotPhase}
use Rattle.manager_slots.specs.declared.slot_phase.SlotPhase.TheVariants as phase
use Rattle.manager_slots.specs.Slots.{epoch_of}
use Rattle.manager_slots.specs.SlotTable as table
use Rattle.manager_slots.specs.SlotTable.{Hearer, Table, TableAsker}
use Rattle.manager_slots.specs.Takeovers as takeovers
use Rattle.manager_slots.specs.Takeovers.{Asker}
use Rattle.manager_slots.specs.Tokens as tokens
use Rattle.node_base.specs.declared.effects.Effect.{Effect}
use Rattle.node_base.specs.declared.questions.Questions.{Questions}
use Rattle.takeover.specs.declared.input.In.{In as Given}
use Rattle.takeover.specs.declared.input.In.TheVariants as given_in
use Rattle.takeover.specs.declared.output.Out.{Out as Told}
use Rattle.takeover.specs.declared.output.Out.TheVariants as told
use Rattle.wire_msg.specs.declared.body.Body.{Body}
use Rattle.wire_msg.specs.declared.cleaning.UsageAsk.{UsageAsk}
use Rattle.wire_msg.specs.declared.deltas.Report.{Report}
use Rattle.xfs_base.specs.declared.news.SlotNews.{SlotNews}
use Rattle.xfs_base.specs.declared.node.NodeId.{NodeId}
use Rattle.xfs_base.specs.declared.segment.SegName.{SegName}
use Rattle.xfs_base.specs.Steps.{Stepped}
use Rattle.xfs_base.proofs.Alls.{all_append}
use Rattle.run_laws.proofs.place_law.Saying.{AllSay, IsOfEntries, Says, steps_say}

-- of one slot of the table
module _ (Is : Body → Type 0) where
  pub in_slot_so : (t : Table) (slot : ℕ) (event : SlotPhase → Stepped SlotPhase Effect) → ((p : SlotPhase) → AllSay Is (event p).outs) → (o : Option SlotPhase)
      → AllSay Is (table.in_slot t slot event o).outs
  in_slot_so t slot event each None = tt
  in_slot_so t slot event each (Some p) = each p

module _ (Is : Body → Type 0) (silent : IsOfEntries Is) where
  -- ---- one slot

  -- recalls that are sent again
  again_of : (slot epoch : ℕ) (block : BlockId) (awaited : List Awaited) → AllSay Is (flat_map (tokens.tokens_say slot epoch) (send_recalls block awaited))
  unfolding tokens.tokens_say
  again_of slot epoch block [] = tt
  again_of slot epoch block (a ∷ rest) =
      elim (is_some a.end) as (λ t. AllSay Is (flat_map (tokens.tokens_say slot epoch) (cond t (send_recalls block rest) (recall_of block a ∷ send_recalls block rest)))) [
        | true ↦ again_of slot epoch block rest
        | false ↦ (silent _ tt, again_of slot epoch block rest)
      ]

  all_again : (slot epoch : ℕ) (jobs : List (BlockId × Job)) → AllSay Is (flat_map (tokens.tokens_say slot epoch) (send_all jobs))
  all_again slot epoch [] = tt
  all_again slot epoch (e ∷ es) =
      subst (AllSay Is) (sym (flat_map-append (tokens.tokens_say slot epoch) (send_recalls e.0 e.1.awaited) (send_all es)))
      (all_append (Says Is) _ _ (again_of slot epoch e.0 e.1.awaited) (all_again slot epoch es))

  tick_so : (p : SlotPhase) (slot : ℕ) → AllSay Is (tokens.on_tick p slot).outs
  unfolding tokens.tokens_take
  tick_so (phase.Active a) slot = all_again slot a.slot.epoch a.slot.jobs
  tick_so (phase.Away epoch) slot = tt
  tick_so (phase.Taking t) slot = tt
  tick_so (phase.Broken epoch seg) slot = tt

  usage_so : (asked : UsageAsk) (p : SlotPhase) → AllSay Is (tokens.on_usage_ask p asked)
  unfolding tokens.on_usage_ask
  usage_so asked (phase.Active a) = (silent _ tt, tt)
  usage_so asked (phase.Away epoch) = tt
  usage_so asked (phase.Taking t) = tt
  usage_so asked (phase.Broken epoch seg) = tt

  -- ---- in the table

  pub usages_say : (t : Table) (asked : UsageAsk) → AllSay Is (table.on_usage_ask t asked)
  unfolding table.on_usage_ask
  usages_say t asked = by (slice_get t asked.slot)
    where
      by : (o : Option SlotPhase) → AllSay Is (table.usage_in asked o)
      by None = tt
      by (Some p) = usage_so asked p

  pub recalls_say : (t : Table) → AllSay Is (table.recall_again t).outs
  unfolding table.slot_table_recall
  recalls_say t = steps_say Is table.slot_table_recall one t table.all_slots
    where
      one : (t : Table) (slot : ℕ) → AllSay Is (table.slot_table_recall t slot).outs
      one t slot = in_slot_so Is t slot (λ p. tokens.on_tick p slot) (λ p. tick_so p slot) (slice_get t slot)

  -- ---- takeovers

  fetch_so : (p : SlotPhase) (q : Questions) (server : ℕ) (name : SegName) (own : ℕ) → AllSay Is (takeovers.takeovers_fetch p q server name own).outs
  fetch_so (phase.Taking t) q server name own = (silent _ tt, tt)
  fetch_so (phase.Away epoch) q server name own = tt
  fetch_so (phase.Active a) q server name own = tt
  fetch_so (phase.Broken epoch seg) q server name own = tt

  takeovers_say_so : (slot : ℕ) (a : Asker) (o : Told) → AllSay Is (takeovers.takeovers_say slot a o).outs
  unfolding takeovers.takeovers_say
  takeovers_say_so slot a (told.Poll to) = (silent _ tt, tt)
  takeovers_say_so slot a (told.Fetch server name own) = fetch_so a.phase a.questions server name own
  takeovers_say_so slot a (told.Active epoch index beliefs applied) = tt
  takeovers_say_so slot a (told.Lost seg) = (tt, tt)

  each_so : (slot : ℕ) (a : Asker) (outs : List Told) → AllSay Is (takeovers.say_each slot a outs).outs
  unfolding takeovers.say_each
  each_so slot a outs = steps_say Is (takeovers.takeovers_say slot) (takeovers_say_so slot) a outs

  taken_so : (a : Asker) (slot : ℕ) (given : Given) → AllSay Is (takeovers.takeovers_take a slot given).outs
  unfolding takeovers.takeovers_take
  taken_so a slot given = each_so slot (record a { phase = (takeovers.outs_of a.phase given).state }) (takeovers.outs_of a.phase given).outs

  again_so : (a : Asker) (slot : ℕ) (polls : Bool) → AllSay Is (takeovers.takeovers_ask_again a slot polls).outs
  unfolding takeovers.takeovers_ask_again
  again_so a slot polls =
      each_so slot (record a { phase = (takeovers.outs_of a.phase given_in.Tick).state })
      (filter (takeovers.is_wanted polls) (takeovers.outs_of a.phase given_in.Tick).outs)

  in_taken_so : (a : TableAsker) (slot : ℕ) (event : Asker → Stepped Asker Effect) → ((one : Asker) → AllSay Is (event one).outs) → (o : Option SlotPhase)
      → AllSay Is (table.in_taken a slot event o).outs
  in_taken_so a slot event each None = tt
  in_taken_so a slot event each (Some p) = each (takeovers.asker p a.questions)

  pub takes_say : (a : TableAsker) (slot : ℕ) (given : Given) → AllSay Is (table.slot_table_take a slot given).outs
  unfolding table.slot_table_take
  takes_say a slot given = in_taken_so a slot (λ one. takeovers.takeovers_take one slot given) (λ one. taken_so one slot given) (slice_get a.table slot)

  pub reports_say : (a : TableAsker) (from : NodeId) (report : Report) → AllSay Is (table.on_report a from report).outs
  unfolding table.on_report
  reports_say a from report = in_taken_so a report.slot (λ one. takeovers.on_report one from report) one (slice_get a.table report.slot)
    where
      one : (one : Asker) → AllSay Is (takeovers.on_report one from report).outs
      one x = by_test (λ (d : takeovers.Done). AllSay Is d.outs) (report.epoch == epoch_of x.phase)
          (takeovers.takeovers_take x report.slot (takeovers.report_input from report)) _
          (λ t. taken_so x report.slot (takeovers.report_input from report)) (λ t. tt)

  pub asks_say : (polls : Bool) (a : TableAsker) → AllSay Is (table.slot_table_ask_again polls a).outs
  unfolding table.slot_table_ask
  asks_say polls a = steps_say Is (table.slot_table_ask polls) one a table.all_slots
    where
      one : (a : TableAsker) (slot : ℕ) → AllSay Is (table.slot_table_ask polls a slot).outs
      one a slot = in_taken_so a slot (λ x. takeovers.takeovers_ask_again x slot polls) (λ x. again_so x slot polls) (slice_get a.table slot)

  pub regroups_say : (groups : GroupMapState) (a : TableAsker) → AllSay Is (table.slot_table_regroup groups a).outs
  regroups_say groups a = steps_say Is (table.regroup_one groups) (λ a slot. takes_say a slot (given_in.Maps groups)) a table.all_slots

  pub hears_say : (h : Hearer) (a : TableAsker) (slots : List SlotNews) → AllSay Is (table.hear_each h a slots).outs
  unfolding table.slot_table_hear table.hear_of
  hears_say h a slots = steps_say Is (table.slot_table_hear h) one a slots
    where
      heard : (news : SlotNews) (x : Asker) → AllSay Is (table.hear_of h news x).outs
      heard news x =
          by_test (λ (d : takeovers.Done). AllSay Is d.outs) (nat_lt (epoch_of x.phase) news.epoch)
          (takeovers.takeovers_take (record x { phase = takeovers.phase_of h.ears.number news h.groups h.ears.clients }) news.slot given_in.Tick) _
          (λ t. taken_so (record x { phase = takeovers.phase_of h.ears.number news h.groups h.ears.clients }) news.slot given_in.Tick) (λ t. tt)

      one : (a : TableAsker) (news : SlotNews) → AllSay Is (table.slot_table_hear h a news).outs
      one a news = in_taken_so a news.slot (table.hear_of h news) (heard news) (slice_get a.table news.slot)
