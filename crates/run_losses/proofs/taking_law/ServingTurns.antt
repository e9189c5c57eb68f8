-- What each packet, and the time, make of what a manager that serves takes over.
use Rattle.std.proofs.Common.{◌≡◌, ℕ, ◌+◌, ◌==◌, ◌&&◌, ◌<◌, Bool, true, false, cond, not, List, [], ◌++◌, Option, Some, None, inl, inr, refl, sym, subst, ◌∙◌, append_assoc, arith}
use Rattle.std.proofs.lemmas.Bool.{eqb-true}
use Rattle.client_log.specs.declared.input.In.TheVariants as log_input
use Rattle.group_map.specs.declared.group.Group.{Group}
use Rattle.group_map.specs.GroupMapState.{GroupMapState}
use Rattle.log_owner.specs.Sending.{server_in}
use Rattle.manager_slots.specs.declared.slot_phase.SlotPhase.{SlotPhase}
use Rattle.manager_slots.specs.declared.slot_phase.SlotPhase.TheVariants as phase
use Rattle.manager_slots.specs.declared.slot_phase.Taking.{Taking}
use Rattle.manager_slots.specs.Slots.{fetch_of as fetch_in}
use Rattle.manager_slots.specs.SlotTable as table
use Rattle.manager_slots.specs.SlotTable.{Asks, Table}
use Rattle.manager_serving.specs.Checkpoints.{Done, on_checkpoint, serving_tell_again, serving_write}
use Rattle.manager_serving.specs.declared.serving.Serving.{Serving}
use Rattle.manager_serving.specs.Serving.{asker_of, answered_by, serving_ask_again, ask_for_maps, client_in, fed_log, hearer_of, serving_hear, hear_slots, hears_with, on_body, on_fitting_news, on_found, on_missing, on_newer, on_news, on_report, on_tick, recalls_again, regroups, serving_take, with_asker}
use Rattle.node_base.specs.Asking.{own_of}
use Rattle.node_base.specs.declared.effects.Effect.{Effect}
use Rattle.node_base.specs.declared.maps.Maps.{Maps}
use Rattle.node_base.specs.declared.questions.Asked.{Asked}
use Rattle.node_base.specs.Known.{names_known_groups}
use Rattle.node_base.specs.Maps.{fits, is_older, maps_take}
use Rattle.node_slots.proofs.node_tie.ManagerFetches.{fetch_is}
use Rattle.headline.specs.Managers.{phase_at}
use Rattle.segment_reading.specs.Reading.{ReadingState}
use Rattle.stripe_code.specs.declared.round.Told.{Told}
use Rattle.stripe_code.specs.declared.round.Told.TheVariants as told
use Rattle.takeover.specs.declared.input.In.{In}
use Rattle.takeover.specs.declared.input.In.TheVariants as input
use Rattle.takeover.specs.declared.source.Present.{Present}
use Rattle.wire_msg.specs.declared.body.Body.{Body}
use Rattle.wire_msg.specs.declared.body.Body.TheVariants as body
use Rattle.wire_msg.specs.declared.deltas.Report.{Report}
use Rattle.wire_msg.specs.declared.packet.Packet.{Packet}
use Rattle.wire_msg.specs.declared.registry.News.{News}
use Rattle.wire_msg.specs.declared.storage.Found.{Found}
use Rattle.wire_msg.specs.declared.storage.Missing.{Missing}
use Rattle.xfs_base.proofs.Booleans.{and_second, by_test}
use Rattle.xfs_base.specs.declared.news.SlotNews.{SlotNews}
use Rattle.xfs_base.specs.declared.node.NodeId.{NodeId}
use Rattle.xfs_base.specs.Limits.{u32_end}
use Rattle.xfs_base.specs.Steps.{saying, still}
use Rattle.run_losses.proofs.taking_law.QuietServing.{Rests, ack_rests, asks_maps-rests, check_rests, checkpoint_rests, deltas_rest, gave_rests, recalls_rest, rests_still, tells_rest, usage_rests, want_rests, writes_rest}
use Rattle.run_losses.proofs.taking_law.SlotReads.{PresentFrom, ReadingFrom, TakingFrom}
use Rattle.run_losses.proofs.taking_law.SlotTurns.{TakingFine}
use Rattle.run_losses.proofs.taking_law.TableTurns.{After, Sofar, quiet_turn, table_asks, table_hears, table_regroups, table_reports, table_takes}
use Rattle.run_losses.proofs.taking_law.TakeTurns.{Heard, InputNamed, MapNamed, heard_in}

-- ---- the number that is answered

same_own : (a b : ℕ) → Some a ≡ Some b → a ≡ b
same_own a b e = cc

same_heard : (a b : Heard) → Some a ≡ Some b → a ≡ b
same_heard a b e = cc

-- the question that is answered is the one that is out
pub own_is : (f : Asked) (ask own : ℕ) → own_of f ask ≡ Some own → (own ≡ f.own) × (ask ≡ f.ask)
own_is f ask own = by (not (f.own == 0) && (ask == f.ask)) refl
  where
    by : (b : Bool) → (not (f.own == 0) && (ask == f.ask)) ≡ b → cond b (Some f.own) None ≡ Some own → (own ≡ f.own) × (ask ≡ f.ask)
    by true fact e = (sym (same_own f.own own e), eqb-true ask f.ask (and_second (not (f.own == 0)) (ask == f.ask) fact))
    by false fact e = absurd cc

module _ (Named : ℕ → Group → Type 0) where
  abbrev pub MapsNamed : Option GroupMapState → Type 0
  MapsNamed None = Unit {0}
  MapsNamed (Some m) = MapNamed Named m

  -- what is known of the slots of a manager, where numbers up to this one were drawn
  pub record TableFine (last : ℕ) (t : Table) : Type 0 where
    pub fine : (k : ℕ) (x : Taking) → phase_at t k ≡ phase.Taking x → TakingFine Named last x
    pub apart : (k m : ℕ) (x w : Taking) → phase_at t k ≡ phase.Taking x → phase_at t m ≡ phase.Taking w → (k ≡ m → ⊥) → x.fetches.ask ≡ w.fetches.ask
        → x.fetches.ask ≡ 0

  pub record Fine (s : Serving) : Type 0 where
    pub slots : TableFine s.lasting.questions.last s.slots
    pub maps : MapsNamed s.maps.groups

module _ (Named : ℕ → Group → Type 0) (Came : ℕ → ℕ → Told → Type 0) where
  -- ---- what a packet brings

  abbrev pub AnswerBrought : Option ℕ → ℕ → Told → Type 0
  AnswerBrought None ask t = Unit {0}
  AnswerBrought (Some server) ask t = Came ask server t

  abbrev pub BodyBrought : NodeId → Body → Type 0
  BodyBrought from (body.Fragment m) = AnswerBrought (server_in from) m.ask (told.Held m.fragment)
  BodyBrought from (body.Missing m) = AnswerBrought (server_in from) m.ask (told.Missing m.generation)
  BodyBrought from (body.MapNews m) = MapNamed Named m.groups
  BodyBrought from (body.Welcome m) = MapNamed Named m.news.groups
  BodyBrought from _ = Unit {0}

  -- ---- at the beginning of an event

  pub from_start : (start : ℕ) (x : Taking) → TakingFrom Named Came start (phase.Taking x) x
  from_start start x = by x.take.present refl
    where
      by : (o : Option Present) → x.take.present ≡ o → PresentFrom Named Came start (phase.Taking x) x o
      by None at = tt
      by (Some p) at = (x, refl, record { epoch = refl; reads = by_reading p.reading at })
        where
          by_reading : (r : Option ReadingState) → x.take.present ≡ Some (record { source = p.source; reading = r })
              → ReadingFrom Named Came start x x p.source r
          by_reading None at = tt
          by_reading (Some r) at = inr (inl (record { was = at; number = refl }))

  module _ (start : ℕ) (first : Table) where
    -- what an event has done so far
    pub record ServesSo (s : Serving) (outs : List Effect) : Type 0 where
      pub slots : Sofar Named Came start first s.slots s.lasting.questions.last outs
      pub maps : MapsNamed Named s.maps.groups

    abbrev pub Goes : List Effect → Done → Type 0
    Goes outs d = ServesSo d.state (outs ++ d.outs)

    pub quiet_goes : (s : Serving) (outs : List Effect) (d : Done) → Rests s d → ServesSo s outs → Goes outs d
    quiet_goes s outs d r so = record {
      slots = quiet_turn Named Came start first s.slots d.state.slots s.lasting.questions.last d.state.lasting.questions.last r.alike r.up outs d.outs r.does
          so.slots;
      maps = subst (λ (m : Maps). MapsNamed Named m.groups) (sym r.maps) so.maps;
    }

    pub goes_then : (outs : List Effect) (d e : Done) → Goes (outs ++ d.outs) e → Goes outs (saying d.outs e)
    goes_then outs d e so = subst (ServesSo e.state) (append_assoc outs d.outs e.outs) so

    asks_go : (s : Serving) (outs : List Effect) (d : Asks) → ServesSo s outs → After Named Came start first outs d → Goes outs (with_asker s d)
    asks_go s outs d so now = record { slots = now; maps = so.maps }

    -- ---- the maps

    slots_go : (s : Serving) (clients : ℕ) (slots : List SlotNews) (outs : List Effect) → ServesSo s outs → s.lasting.questions.last < u32_end
        → Goes outs (hear_slots s clients slots)
    unfolding hear_slots
    slots_go s clients slots outs so room = by s.maps.groups so.maps
      where
        by : (groups : Option GroupMapState) → MapsNamed Named groups → Goes outs (hears_with s clients slots groups)
        by None named = quiet_goes s outs (still s) (rests_still s) so
        by (Some groups) named =
            asks_go s outs (table.hear_each (hearer_of s clients groups) (asker_of s) slots) so
            (table_hears Named Came start first (hearer_of s clients groups) named (asker_of s) slots outs so.slots room)

    newer_goes : (s : Serving) (clients : ℕ) (news : News) (outs : List Effect) → MapNamed Named news.groups → ServesSo s outs
        → s.lasting.questions.last + 8 < u32_end → Goes outs (on_newer s clients news)
    unfolding on_newer regroups
    newer_goes s clients news outs named so room =
        let r = table_regroups Named Came start first news.groups named (asker_of s) outs so.slots room in
        let a : Done = with_asker s (table.slot_table_regroup news.groups (asker_of s)) in
        let one : Goes outs a = asks_go s outs (table.slot_table_regroup news.groups (asker_of s)) so r.0 in
        let b : Done = hear_slots a.state clients news.slots in
        let two : Goes (outs ++ a.outs) b = slots_go a.state clients news.slots (outs ++ a.outs) one (let k = r.1 in omega arith) in
        let ab : Done = saying a.outs b in
        let both : Goes outs ab = goes_then outs a b two in
        let c : Done = serving_write ab.state (log_input.Maps news.groups) in
        goes_then outs ab c (quiet_goes ab.state (outs ++ ab.outs) c (writes_rest ab.state (log_input.Maps news.groups)) both)

    pub news_go : (s : Serving) (clients : ℕ) (news : News) (outs : List Effect) → MapNamed Named news.groups → ServesSo s outs
        → s.lasting.questions.last + 8 < u32_end → Goes outs (on_news s clients news)
    unfolding on_news
    news_go s clients news outs named so room =
        by_test (Goes outs) (is_older s.maps news) (on_newer (record s { maps = maps_take s.maps news }) clients news) (hear_slots s clients news.slots)
        (λ _. newer_goes (record s { maps = maps_take s.maps news }) clients news outs named
        (record { slots = so.slots; maps = taken_named s.maps news so.maps named }) room)
        (λ _. slots_go s clients news.slots outs so (omega arith))
      where
        taken_named : (m : Maps) (n : News) → MapsNamed Named m.groups → MapNamed Named n.groups → MapsNamed Named (maps_take m n).groups
        taken_named m n old new = by_test (λ (x : Maps). MapsNamed Named x.groups) (is_older m n) _ m (λ _. new) (λ _. old)

  -- ---- an event of a manager that serves

  module _ (s : Serving) (fine : Fine Named s) (room : s.lasting.questions.last + 24 < u32_end) where
    abbrev start : ℕ
    start = s.lasting.questions.last

    abbrev At : Serving → List Effect → Type 0
    At t outs = ServesSo s.lasting.questions.last s.slots t outs

    abbrev Ends : Done → Type 0
    Ends d = ServesSo s.lasting.questions.last s.slots d.state d.outs

    pub begins : At s []
    begins = record {
      slots = record {
        up = omega arith;
        fine = fine.slots.fine;
        apart = fine.slots.apart;
        from = λ k x fact. subst (λ (p : SlotPhase). TakingFrom Named Came start p x) (sym fact) (from_start start x);
        does = tt;
      };
      maps = fine.maps;
    }

    rests : (d : Done) → Rests s d → Ends d
    rests d r = quiet_goes start s.slots s [] d r begins

    -- ---- takeovers

    take_goes : (k : ℕ) (given : In) → ((h : Heard) → heard_in given ≡ Some h → (x : Taking) → phase_at s.slots k ≡ phase.Taking x
        → (h.own ≡ x.fetches.own) × Came x.fetches.ask h.server h.told) → InputNamed Named given → Ends (serving_take s k given)
    unfolding serving_take
    take_goes k given brought named =
        asks_go start s.slots s [] (table.slot_table_take (asker_of s) k given) begins
        (table_takes Named Came start s.slots s.lasting.questions begins.slots (omega arith) k given named brought)

    report_goes : (from : NodeId) (report : Report) → Ends (on_report s from report)
    unfolding on_report
    report_goes from report =
        asks_go start s.slots s [] (table.on_report (asker_of s) from report) begins
        (table_reports Named Came start s.slots s.lasting.questions begins.slots (omega arith) from report)

    -- the answer goes to the takeover that asked
    answer_goes : (ask server : ℕ) (t : Told) (given : ℕ → In)
        → ((own : ℕ) → heard_in (given own) ≡ Some (record { own = own; server = server; told = t })) → ((own : ℕ) → InputNamed Named (given own))
        → Came ask server t
        → Ends (answered_by s (table.fetch_among s.slots ask table.all_slots) given)
    answer_goes ask server t given tells plain came = by (table.fetch_among s.slots ask table.all_slots) refl
      where
        by : (to : Option (ℕ × ℕ)) → table.fetch_among s.slots ask table.all_slots ≡ to → Ends (answered_by s to given)
        by None fact = rests (still s) (rests_still s)
        by (Some which) fact = take_goes which.0 (given which.1) brought (plain which.1)
          where
            fetched : fetch_in (phase_at s.slots which.0) ask ≡ Some which.1
            fetched = fetch_is s.slots ask table.all_slots which fact

            brought : (h : Heard) → heard_in (given which.1) ≡ Some h → (x : Taking) → phase_at s.slots which.0 ≡ phase.Taking x
                → (h.own ≡ x.fetches.own) × Came x.fetches.ask h.server h.told
            brought h gives x at =
                let o = own_is x.fetches ask which.1 (subst (λ p. fetch_in p ask ≡ Some which.1) at fetched) in
                let same : record { own = which.1; server = server; told = t } ≡ h = same_heard _ h (sym (tells which.1) ∙ gives) in
                subst (λ (g : Heard). (g.own ≡ x.fetches.own) × Came x.fetches.ask g.server g.told) same
                (o.0, subst (λ n. Came n server t) o.1 came)

    found_goes : (server : Option ℕ) (found : Found) → AnswerBrought server found.ask (told.Held found.fragment) → Ends (on_found s server found)
    unfolding on_found
    found_goes None found fact = rests (still s) (rests_still s)
    found_goes (Some server) found fact =
        answer_goes found.ask server (told.Held found.fragment) (λ own. input.Got own server found.generation found.fragment) (λ own. refl) (λ own. tt) fact

    missing_goes : (server : Option ℕ) (missing : Missing) → AnswerBrought server missing.ask (told.Missing missing.generation)
        → Ends (on_missing s server missing)
    unfolding on_missing
    missing_goes None missing fact = rests (still s) (rests_still s)
    missing_goes (Some server) missing fact =
        answer_goes missing.ask server (told.Missing missing.generation) (λ own. input.Missing own server missing.generation) (λ own. refl) (λ own. tt) fact

    -- ---- all packets

    fitting_goes : (clients : ℕ) (news : News) → MapNamed Named news.groups → Ends (on_fitting_news s clients news)
    fitting_goes clients news fact =
        by_test Ends (fits s.maps news) (on_news s clients news) (still s) (λ _. news_go start s.slots s clients news [] fact begins (omega arith))
        (λ _. rests (still s) (rests_still s))

    body_goes : (clients : ℕ) (from : NodeId) (said : Body) → BodyBrought from said → Ends (on_body s clients from said)
    body_goes clients from (body.MapNews news) fact = fitting_goes clients news fact
    body_goes clients from (body.Welcome welcome) fact =
        by_test Ends (welcome.inc == s.lasting.inc) (on_fitting_news s clients welcome.news) (still s) (λ _. fitting_goes clients welcome.news fact)
        (λ _. rests (still s) (rests_still s))
    body_goes clients from (body.Want want) fact = rests _ (want_rests s (client_in from) want)
    body_goes clients from (body.Gave gave) fact = rests _ (gave_rests s (client_in from) gave)
    body_goes clients from (body.Deltas deltas) fact = rests _ (deltas_rest s (fed_log from) deltas)
    body_goes clients from (body.Check check) fact = rests _ (check_rests s check)
    body_goes clients from (body.UsageAsk asking) fact = rests _ (usage_rests s asking)
    body_goes clients from (body.Report report) fact = report_goes from report
    body_goes clients from (body.Fragment found) fact = found_goes (server_in from) found fact
    body_goes clients from (body.Missing missing) fact = missing_goes (server_in from) missing fact
    body_goes clients from (body.Stored stored) fact = rests _ (writes_rest s (log_input.Acked stored.name stored.index stored.generation))
    body_goes clients from (body.CkptAck ack) fact = rests _ (ack_rests s ack)
    body_goes clients from _ fact = rests (still s) (rests_still s)

    pub packet_goes : (clients : ℕ) (packet : Packet) → BodyBrought packet.from packet.body
        → ServesSo s.lasting.questions.last s.slots (serving_hear s clients packet).state (serving_hear s clients packet).outs
    unfolding serving_hear
    packet_goes clients packet fact =
        by_test Ends (names_known_groups s.maps packet.body) (on_body s clients packet.from packet.body) (ask_for_maps s)
        (λ _. body_goes clients packet.from packet.body fact) (λ _. rests (ask_for_maps s) (asks_maps-rests s))

    pub checkpoint_goes : (number : ℕ) → ServesSo s.lasting.questions.last s.slots (on_checkpoint s number).state (on_checkpoint s number).outs
    checkpoint_goes number = rests (on_checkpoint s number) (checkpoint_rests s number)

    -- ---- time

    pub tick_goes : ServesSo s.lasting.questions.last s.slots (on_tick s).state (on_tick s).outs
    unfolding on_tick recalls_again serving_ask_again
    tick_goes =
        let a : Done = recalls_again s in
        let one : Ends a = rests a (recalls_rest s) in
        let p = table_asks Named Came start s.slots true (asker_of a.state) a.outs one.slots (omega arith) in
        let b : Done = serving_ask_again a.state true in
        let two : At b.state (a.outs ++ b.outs) = asks_go start s.slots a.state a.outs (table.slot_table_ask_again true (asker_of a.state)) one p.0 in
        let q = table_asks Named Came start s.slots false (asker_of b.state) (a.outs ++ b.outs) two.slots (let k = p.1 in omega arith) in
        let c : Done = serving_ask_again b.state false in
        let three : At c.state ((a.outs ++ b.outs) ++ c.outs) =
        asks_go start s.slots b.state (a.outs ++ b.outs) (table.slot_table_ask_again false (asker_of b.state)) two q.0 in
        let d : Done = serving_write c.state log_input.Tick in
        let four = quiet_goes start s.slots c.state ((a.outs ++ b.outs) ++ c.outs) d (writes_rest c.state log_input.Tick) three in
        quiet_goes start s.slots d.state (((a.outs ++ b.outs) ++ c.outs) ++ d.outs) (serving_tell_again d.state) (tells_rest d.state) four
