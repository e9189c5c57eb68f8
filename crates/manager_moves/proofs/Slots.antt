-- What happens to a slot of a manager, and to all of them, is made of moves.
use Rattle.std.proofs.Common.{◌≡◌, ℕ, ◌==◌, Bool, nat_lt, List, [], ◌∷◌, Option, Some, None, filter, refl, subst}
use Rattle.std.specs.List.{slice_get}
use Rattle.std.specs.Prelude.{Contains}
use Rattle.group_map.specs.GroupMapState.{GroupMapState}
use Rattle.manager_serving.specs.Checkpoints.{Done}
use Rattle.manager_serving.specs.declared.serving.Serving.{Serving}
use Rattle.manager_serving.specs.Serving as serving
use Rattle.manager_serving.specs.Serving.{asker_of, client_in, recalls_again, regroups, serving_ask_again, with_asker}
use Rattle.manager_slots.specs.declared.slot_phase.SlotPhase.{SlotPhase}
use Rattle.manager_slots.specs.declared.slot_phase.SlotPhase.TheVariants as phase
use Rattle.manager_slots.specs.Slots.{epoch_of}
use Rattle.manager_slots.specs.SlotTable as table
use Rattle.manager_slots.specs.SlotTable.{Asks, Hearer, TableAsker, all_slots, hear_of, in_slot, in_taken}
use Rattle.manager_slots.specs.Takeovers as takeovers
use Rattle.manager_slots.specs.Takeovers.{Asker, asker, outs_of, phase_of, report_input}
use Rattle.manager_slots.specs.Tokens as tokens
use Rattle.node_base.specs.declared.effects.Effect.{Effect}
use Rattle.takeover.specs.declared.input.In.{In as TakeIn}
use Rattle.takeover.specs.declared.input.In.TheVariants as take_in
use Rattle.token_manager.specs.declared.input.In.{In as SlotIn}
use Rattle.token_manager.specs.declared.input.In.TheVariants as slot_in
use Rattle.wire_msg.specs.declared.body.Body.TheVariants as body
use Rattle.wire_msg.specs.declared.cleaning.Check.{Check}
use Rattle.wire_msg.specs.declared.deltas.Report.{Report}
use Rattle.wire_msg.specs.declared.packet.Do.{Do}
use Rattle.wire_msg.specs.declared.packet.Packet.{Packet}
use Rattle.wire_msg.specs.declared.registry.News.{News}
use Rattle.wire_msg.specs.declared.tokens.Want.{Want}
use Rattle.xfs_base.proofs.Booleans.{by_test}
use Rattle.xfs_base.proofs.Members.{contains_first, contains_rest}
use Rattle.xfs_base.specs.Blocks.{slot_of}
use Rattle.xfs_base.specs.declared.news.SlotNews.{SlotNews}
use Rattle.xfs_base.specs.Steps.{Stepped, steps, still}
use Rattle.node_moves.specs.server_moves.Moves.{Brought, Came}
use Rattle.manager_moves.specs.Moves.{Fed, Given, Moves, SlotMove, begun}
use Rattle.manager_moves.specs.Moves.Fed.{TimePassed, WantCame}
use Rattle.manager_moves.specs.Moves.Given.{MapsCame, ReportCame}
use Rattle.manager_moves.specs.Moves.Moves.{InSlot, Rests, Then}
use Rattle.manager_moves.specs.Moves.SlotMove.{AsksAgain, Begins, Checks, Hears, Leaves, Refuses, Stays, Takes}

module _ (what : Do) where
  abbrev pub Goes : Serving → Done → Type 0
  Goes s d = Moves what s d.state d.outs

  -- ---- one slot

  abbrev SlotGoes : Option GroupMapState → ℕ → Asker → takeovers.Done → Type 0
  SlotGoes known k x d = SlotMove what known k x d.state d.outs

  -- it asks nothing
  abbrev PhaseGoes : Option GroupMapState → ℕ → Asker → Stepped SlotPhase Effect → Type 0
  PhaseGoes known k x d = SlotMove what known k x (record x { phase = d.state }) d.outs

  stays : (known : Option GroupMapState) (k : ℕ) (x : Asker) (p : SlotPhase) → x.phase ≡ p → PhaseGoes known k x (still p)
  stays known k x p at = subst (λ q. PhaseGoes known k x (still q)) at (Stays x)

  pub at_slot : (s : Serving) (k : ℕ) (event : Asker → takeovers.Done) → ((x : Asker) → SlotGoes s.maps.groups k x (event x)) → (o : Option SlotPhase)
      → slice_get s.slots k ≡ o → Goes s (with_asker s (in_taken (asker_of s) k event o))
  at_slot s k event each None fact = Rests s
  at_slot s k event each (Some p) fact =
      InSlot s k p (event (asker p s.lasting.questions)).state (event (asker p s.lasting.questions)).outs fact (each (asker p s.lasting.questions))

  pub in_table : (s : Serving) (k : ℕ) (event : SlotPhase → Stepped SlotPhase Effect) → ((x : Asker) → PhaseGoes s.maps.groups k x (event x.phase))
      → Goes s (serving.with_slots s (table.at_slot s.slots k event))
  in_table s k event each = by (slice_get s.slots k) refl
    where
      by : (o : Option SlotPhase) → slice_get s.slots k ≡ o → Goes s (serving.with_slots s (in_slot s.slots k event o))
      by None fact = Rests s
      by (Some p) fact = InSlot s k p (asker (event p).state s.lasting.questions) (event p).outs fact (each (asker p s.lasting.questions))

  pub tokens_go : (known : Option GroupMapState) (k : ℕ) (given : SlotIn) → Fed what k given → (x : Asker)
      → PhaseGoes known k x (tokens.tokens_take x.phase k given)
  unfolding tokens.tokens_take
  tokens_go known k given fed x = by x.phase refl
    where
      by : (p : SlotPhase) → x.phase ≡ p → PhaseGoes known k x (tokens.tokens_take p k given)
      by (phase.Active a) at = Takes x a given fed at
      by (phase.Away epoch) at = stays known k x (phase.Away epoch) at
      by (phase.Taking t) at = stays known k x (phase.Taking t) at
      by (phase.Broken epoch seg) at = stays known k x (phase.Broken epoch seg) at

  pub checks_go : (known : Option GroupMapState) (packet : Packet) (m : Check) → Came what packet (body.Check m) → (x : Asker)
      → PhaseGoes known (slot_of m.block.ino.0) x (tokens.on_check x.phase m)
  unfolding tokens.on_check
  checks_go known packet m came x = by x.phase refl
    where
      by : (p : SlotPhase) → x.phase ≡ p → PhaseGoes known (slot_of m.block.ino.0) x (tokens.on_check p m)
      by (phase.Active a) at = Checks x a packet m came refl at
      by (phase.Away epoch) at = stays known _ x (phase.Away epoch) at
      by (phase.Taking t) at = stays known _ x (phase.Taking t) at
      by (phase.Broken epoch seg) at = stays known _ x (phase.Broken epoch seg) at

  pub wants_go : (known : Option GroupMapState) (packet : Packet) (client : ℕ) (m : Want) → Came what packet (body.Want m) → client_in packet.from ≡ Some client
      → (x : Asker) → PhaseGoes known (slot_of m.block.ino.0) x (tokens.on_want x.phase client m)
  unfolding tokens.on_want tokens.tokens_take
  wants_go known packet client m came from x = by x.phase refl
    where
      by : (p : SlotPhase) → x.phase ≡ p → PhaseGoes known (slot_of m.block.ino.0) x (tokens.on_want p client m)
      by (phase.Active a) at = Takes x a (tokens.want_input client m) (WantCame packet client m came from) at
      by (phase.Away epoch) at = stays known _ x (phase.Away epoch) at
      by (phase.Taking t) at = stays known _ x (phase.Taking t) at
      by (phase.Broken epoch seg) at =
          subst (λ p. PhaseGoes known (slot_of m.block.ino.0) x (record { state = p; outs = tokens.gone epoch seg client m })) at
          (Refuses x epoch seg packet client m came from refl at)

  -- ---- its takeover

  hears_go : (known : Option GroupMapState) (k : ℕ) (given : TakeIn) → Given what k given → (x : Asker) → SlotGoes known k x (takeovers.takeovers_take x k given)
  unfolding takeovers.takeovers_take outs_of takeovers.say_each
  hears_go known k given because x = by x.phase refl
    where
      by : (p : SlotPhase) → x.phase ≡ p → SlotGoes known k x (takeovers.say_each k (record x { phase = (outs_of p given).state }) (outs_of p given).outs)
      by (phase.Taking t) at = Hears x t given because at
      by (phase.Active a) at = stays known k x (phase.Active a) at
      by (phase.Away epoch) at = stays known k x (phase.Away epoch) at
      by (phase.Broken epoch seg) at = stays known k x (phase.Broken epoch seg) at

  asks_go : (known : Option GroupMapState) (polls : Bool) (k : ℕ) (x : Asker) → SlotGoes known k x (takeovers.takeovers_ask_again x k polls)
  unfolding takeovers.takeovers_ask_again outs_of takeovers.say_each
  asks_go known polls k x = by x.phase refl
    where
      by : (p : SlotPhase) → x.phase ≡ p
          → SlotGoes known k x
          (takeovers.say_each k (record x { phase = (outs_of p take_in.Tick).state }) (filter (takeovers.is_wanted polls) (outs_of p take_in.Tick).outs))
      by (phase.Taking t) at = AsksAgain x t polls at
      by (phase.Active a) at = stays known k x (phase.Active a) at
      by (phase.Away epoch) at = stays known k x (phase.Away epoch) at
      by (phase.Broken epoch seg) at = stays known k x (phase.Broken epoch seg) at

  pub reports_go : (known : Option GroupMapState) (packet : Packet) (m : Report) → Came what packet (body.Report m) → (x : Asker)
      → SlotGoes known m.slot x (takeovers.on_report x packet.from m)
  reports_go known packet m came x =
      by_test (SlotGoes known m.slot x) (m.epoch == epoch_of x.phase) (takeovers.takeovers_take x m.slot (report_input packet.from m)) (still x)
      (λ _. hears_go known m.slot (report_input packet.from m) (ReportCame packet m came) x) (λ _. Stays x)

  -- ---- all slots

  each_slot : (step : TableAsker → ℕ → Asks) → ((s : Serving) (k : ℕ) → Goes s (with_asker s (step (asker_of s) k))) → (s : Serving) (ks : List ℕ)
      → Goes s (with_asker s (steps step (asker_of s) ks))
  each_slot step each s [] = Rests s
  each_slot step each s (k ∷ ks) = Then (each s k) (each_slot step each (with_asker s (step (asker_of s) k)).state ks)

  pub asks_again : (s : Serving) (polls : Bool) → Goes s (serving_ask_again s polls)
  unfolding serving_ask_again table.slot_table_ask
  asks_again s polls =
      each_slot (table.slot_table_ask polls)
      (λ s k. at_slot s k (λ x. takeovers.takeovers_ask_again x k polls) (asks_go s.maps.groups polls k) (slice_get s.slots k) refl) s all_slots

  pub recalls : (s : Serving) → Goes s (recalls_again s)
  unfolding recalls_again table.slot_table_recall
  recalls s = each s all_slots
    where
      each : (s : Serving) (ks : List ℕ) → Goes s (serving.with_slots s (steps table.slot_table_recall s.slots ks))
      each s [] = Rests s
      each s (k ∷ ks) =
          Then (in_table s k (λ p. tokens.on_tick p k) (tokens_go s.maps.groups k slot_in.Tick (TimePassed k)))
          (each (serving.with_slots s (table.slot_table_recall s.slots k)).state ks)

  -- ---- what the maps say of them

  module _ (packet : Packet) (news : News) (brought : Brought what packet news) where
    pub regroups_go : (s : Serving) → Goes s (regroups s news.groups)
    unfolding regroups table.slot_table_take
    regroups_go s =
        each_slot (table.regroup_one news.groups)
        (λ s k. at_slot s k (λ x. takeovers.takeovers_take x k (take_in.Maps news.groups))
        (hears_go s.maps.groups k (take_in.Maps news.groups) (MapsCame k packet news brought)) (slice_get s.slots k) refl) s all_slots

    -- it has another manager, or is taken over
    news_go : (known : Option GroupMapState) (h : Hearer) → known ≡ Some h.groups → (n : SlotNews) → Contains news.slots n → (x : Asker)
        → SlotGoes known n.slot x (hear_of h n x)
    unfolding hear_of takeovers.takeovers_take outs_of takeovers.say_each
    news_go known h same n among x =
        by_test (SlotGoes known n.slot x) (nat_lt (epoch_of x.phase) n.epoch)
        (takeovers.takeovers_take (record x { phase = phase_of h.ears.number n h.groups h.ears.clients }) n.slot take_in.Tick) (still x)
        (λ _. by_test (λ p. SlotGoes known n.slot x (takeovers.takeovers_take (record x { phase = p }) n.slot take_in.Tick)) (n.manager == h.ears.number)
        (phase.Taking (begun n h.groups h.ears.clients)) (phase.Away n.epoch)
        (λ _. Begins x packet news n h.groups h.ears.clients brought among refl same)
        (λ _. Leaves x packet news n brought among refl)) (λ _. Stays x)

    pub hears_all : (s : Serving) (h : Hearer) → s.maps.groups ≡ Some h.groups → (slots : List SlotNews)
        → ((n : SlotNews) → Contains slots n → Contains news.slots n) → Goes s (with_asker s (table.hear_each h (asker_of s) slots))
    unfolding table.slot_table_hear
    hears_all s h same [] among = Rests s
    hears_all s h same (n ∷ slots) among =
        Then (at_slot s n.slot (hear_of h n) (news_go s.maps.groups h same n (among n (contains_first n slots))) (slice_get s.slots n.slot) refl)
        (hears_all (with_asker s (table.slot_table_hear h (asker_of s) n)).state h same slots (λ x more. among x (contains_rest n x slots more)))
