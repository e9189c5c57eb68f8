-- What news make of a manager that serves, in the small world, and all that it hears.
use Rattle.std.proofs.Common.{◌≡◌, ℕ, ◌+◌, ◌==◌, ◌≤◌, ◌<◌, Bool, true, false, cond, List, [], Option, Some, None, is_some, refl, sym, ap, subst, ◌∙◌, arith}
use Rattle.std.proofs.lemmas.Bool.{eqb-true}
use Rattle.xfs_base.proofs.Booleans.{by_test, contrary}
use Rattle.xfs_base.specs.Steps.{still, saying}
use Rattle.xfs_base.specs.declared.news.SlotNews.{SlotNews}
use Rattle.xfs_base.specs.declared.node.NodeId.{NodeId}
use Rattle.xfs_base.specs.Limits.{slot_count}
use Rattle.client_log.specs.declared.input.In.TheVariants as log_input
use Rattle.group_map.specs.GroupMapState.{GroupMapState}
use Rattle.node_base.specs.Known.{names_known_groups}
use Rattle.node_base.specs.Maps.{fits, is_older, maps_take}
use Rattle.token_law.specs.Net.{Net}
use Rattle.token_protocol.specs.Basics.{In}
use Rattle.wire_msg.specs.declared.body.Body.{Body}
use Rattle.wire_msg.specs.declared.body.Body.TheVariants as body
use Rattle.wire_msg.specs.declared.packet.Packet.{Packet as Sent}
use Rattle.wire_msg.specs.declared.registry.News.{News}
use Rattle.manager_slots.specs.SlotTable.{Table}
use Rattle.manager_slots.specs.Slots.{epoch_of}
use Rattle.manager_serving.specs.Checkpoints.{Done, serving_write, on_stored, on_ckpt_ack}
use Rattle.manager_serving.specs.declared.serving.Serving.{Serving}
use Rattle.manager_serving.specs.Serving.{asker_of, regroups, hearer_of, hears_with, hear_slots, on_newer, on_news, on_fitting_news, ask_for_maps, on_body, serving_hear}
use Rattle.node_slots.specs.node_tie.ManagerEvents.{TableAgrees, AllNewsGets, ServingGets, NamedBy}
use Rattle.headline.specs.Managers.{phase_at}
use Rattle.node_slots.proofs.node_tie.ManagerCheckpoints.{Quiet, quiet_writes, quiet_stored, quiet_ckpt_ack}
use Rattle.node_slots.proofs.node_tie.ManagerMoves.{Rises, Goes, stays_same, rises_of, rises_then, goes_moving, goes_rising, goes_staying}
use Rattle.node_slots.proofs.node_tie.ManagerNews.{table_hears_all}
use Rattle.node_slots.proofs.node_tie.ManagerTables.{table_same, table_regroups}
use Rattle.node_slots.proofs.node_tie.ManagerServes as serves

module _ (logs : Bool) (members part limit life : ℕ) (exists : part < slot_count) (j : ℕ) (named : ℕ → Type 0) where
  -- an event of a manager in which its slot may get a later epoch; where the groups are known, it knows of these slots' epochs then
  pub record Went (n : Net) (number inc : ℕ) (t : Table) (known : Bool) (slots : List SlotNews) (d : Done) : Type 0 where
    pub numbered : d.state.lasting.number ≡ number
    pub lives : d.state.lasting.inc ≡ inc
    pub next : Net
    pub goes : Goes logs members part limit life named n next (phase_at t part) (phase_at d.state.slots part) d.outs
    pub agrees : TableAgrees members part next d.state.slots
    pub within : serves.Low logs members part limit life exists d.state.slots
    pub above : known ≡ true → (news : SlotNews) → In news slots → news.slot ≡ part → news.epoch ≤ epoch_of (phase_at d.state.slots part)

  abbrev pub WentOf : Net → Serving → Done → Type 0
  WentOf n s d = Went n s.lasting.number s.lasting.inc s.slots false [] d

  pub went_serving : (n : Net) (s : Serving) (d : Done) → serves.Low logs members part limit life exists s.slots
      → serves.Of logs members part limit life exists n s d → WentOf n s d
  went_serving n s d low h = record {
    numbered = h.number;
    lives = h.lives;
    next = h.event.next;
    goes = goes_moving logs members part limit life named n h.event.next (phase_at s.slots part) (phase_at d.state.slots part) d.outs h.event.moves;
    agrees = h.event.agrees;
    within = serves.low_on logs members part limit life exists n s.lasting.number s.lasting.inc s.slots d h low;
    above = λ fact. contrary fact;
  }

  -- how the slots rise, where nothing happens in the small world
  record Rose (n : Net) (number inc : ℕ) (t : Table) (known : Bool) (slots : List SlotNews) (d : Done) : Type 0 where
    numbered : d.state.lasting.number ≡ number
    lives : d.state.lasting.inc ≡ inc
    rises : Rises logs members part limit life named n (phase_at t part) (phase_at d.state.slots part) d.outs
    agrees : TableAgrees members part n d.state.slots
    within : serves.Low logs members part limit life exists d.state.slots
    above : known ≡ true → (news : SlotNews) → In news slots → news.slot ≡ part → news.epoch ≤ epoch_of (phase_at d.state.slots part)

  -- the slots' news are owed, and name what is named
  pub record Owed (n : Net) (s : Serving) (clients : ℕ) (slots : List SlotNews) : Type 0 where
    pub number : s.lasting.number ≡ j
    pub many : clients + 1 ≡ members
    pub gets : AllNewsGets part limit j n (epoch_of (phase_at s.slots part)) slots
    pub names : (news : SlotNews) → In news slots → news.slot ≡ part → news.manager ≡ j → named news.epoch

  rose_slots : (n : Net) (s : Serving) (clients : ℕ) (slots : List SlotNews) → TableAgrees members part n s.slots
      → serves.Low logs members part limit life exists s.slots → Owed n s clients slots
      → Rose n s.lasting.number s.lasting.inc s.slots (is_some s.maps.groups) slots (hear_slots s clients slots)
  unfolding hear_slots
  rose_slots n s clients slots agrees low owed = by s.maps.groups
    where
      by : (o : Option GroupMapState) → Rose n s.lasting.number s.lasting.inc s.slots (is_some o) slots (hears_with s clients slots o)
      by None = record {
        numbered = refl;
        lives = refl;
        rises = rises_of logs members part limit life named n _ _ [] (stays_same logs members part limit life n (phase_at s.slots part) [] tt);
        agrees = agrees;
        within = low;
        above = λ fact. contrary fact;
      }
      by (Some groups) =
          let h = table_hears_all logs members part limit life exists named j n (hearer_of s clients groups) (asker_of s) slots
          (record { number = owed.number; many = owed.many }) agrees low owed.gets owed.names in
          record { numbered = refl; lives = refl; rises = h.rises; agrees = h.agrees; within = h.within; above = λ _. h.above }

  quiet_rose : (n : Net) (number inc : ℕ) (t : Table) (known : Bool) (slots : List SlotNews) (d e : Done)
      → Quiet logs members part limit life exists n number inc t d
      → Rose n d.state.lasting.number d.state.lasting.inc d.state.slots known slots e → Rose n number inc t known slots (saying d.outs e)
  quiet_rose n number inc t known slots d e h k = record {
    numbered = k.numbered ∙ h.number;
    lives = k.lives ∙ h.lives;
    rises = rises_then logs members part limit life named n (phase_at t part) (phase_at d.state.slots part) (phase_at e.state.slots part) d.outs e.outs
        (rises_of logs members part limit life named n (phase_at t part) (phase_at d.state.slots part) d.outs h.stays) k.rises;
    agrees = k.agrees;
    within = k.within;
    above = k.above;
  }

  rose_went : (n : Net) (s : Serving) (known : Bool) (slots : List SlotNews) (d : Done) → Rose n s.lasting.number s.lasting.inc s.slots known slots d
      → Went n s.lasting.number s.lasting.inc s.slots known slots d
  rose_went n s known slots d h = record {
    numbered = h.numbered;
    lives = h.lives;
    next = n;
    goes = goes_rising logs members part limit life named n (phase_at s.slots part) (phase_at d.state.slots part) d.outs h.rises;
    agrees = h.agrees;
    within = h.within;
    above = h.above;
  }

  went_quiet : (n : Net) (number inc : ℕ) (t : Table) (known : Bool) (slots : List SlotNews) (d e : Done) (h : Went n number inc t known slots d)
      → Quiet logs members part limit life exists h.next d.state.lasting.number d.state.lasting.inc d.state.slots e
      → Went n number inc t known slots (saying d.outs e)
  went_quiet n number inc t known slots d e h k =
      let same = k.stays.epoch in
      record {
        numbered = k.number ∙ h.numbered;
        lives = k.lives ∙ h.lives;
        next = h.next;
        goes = goes_staying logs members part limit life named n h.next (phase_at t part) (phase_at d.state.slots part)
            (phase_at e.state.slots part) d.outs e.outs h.goes k.stays;
        agrees = k.agrees;
        within = let w = h.within in omega arith;
        above = λ fact news there of. let a = h.above fact news there of in omega arith;
      }

  went_less : (n : Net) (s : Serving) (known : Bool) (slots : List SlotNews) (d : Done) → Went n s.lasting.number s.lasting.inc s.slots known slots d
      → WentOf n s d
  went_less n s known slots d h =
      record { numbered = h.numbered; lives = h.lives; next = h.next; goes = h.goes; agrees = h.agrees; within = h.within; above = λ fact. contrary fact }

  quiet_regroups : (n : Net) (s : Serving) (groups : GroupMapState) → TableAgrees members part n s.slots
      → serves.Low logs members part limit life exists s.slots
      → Quiet logs members part limit life exists n s.lasting.number s.lasting.inc s.slots (regroups s groups)
  unfolding regroups
  quiet_regroups n s groups agrees low =
      let h = table_regroups logs members part limit life exists n groups (asker_of s) agrees low in
      record { number = refl; lives = refl; stays = h.stays; agrees = h.agrees }

  quiet_low : (n : Net) (number inc : ℕ) (t : Table) (d : Done) → Quiet logs members part limit life exists n number inc t d
      → serves.Low logs members part limit life exists t → serves.Low logs members part limit life exists d.state.slots
  quiet_low n number inc t d h low = let same = h.stays.epoch in omega arith

  -- what is owed still is after a step of which the small world sees nothing
  owed_on : (n : Net) (s : Serving) (clients : ℕ) (slots : List SlotNews) (d : Done)
      → Quiet logs members part limit life exists n s.lasting.number s.lasting.inc s.slots d → Owed n s clients slots → Owed n d.state clients slots
  owed_on n s clients slots d h owed =
      let same = h.stays.epoch in
      record {
        number = h.number ∙ owed.number;
        many = owed.many;
        gets = λ news there of. let g = owed.gets news there of in record { within = g.within; new = λ ours later. g.new ours (omega arith) };
        names = owed.names;
      }

  went_newer : (n : Net) (s : Serving) (clients : ℕ) (news : News) → TableAgrees members part n s.slots → serves.Low logs members part limit life exists s.slots
      → Owed n s clients news.slots
      → Went n s.lasting.number s.lasting.inc s.slots (is_some s.maps.groups) news.slots (on_newer s clients news)
  unfolding on_newer regroups
  went_newer n s clients news agrees low owed =
      let d = regroups s news.groups in
      let h = quiet_regroups n s news.groups agrees low in
      let e = hear_slots d.state clients news.slots in
      let r = rose_slots n d.state clients news.slots h.agrees
      (quiet_low n s.lasting.number s.lasting.inc s.slots d h low) (owed_on n s clients news.slots d h owed) in
      let w = rose_went n s (is_some s.maps.groups) news.slots (saying d.outs e)
      (quiet_rose n s.lasting.number s.lasting.inc s.slots (is_some s.maps.groups) news.slots d e h r) in
      went_quiet n s.lasting.number s.lasting.inc s.slots (is_some s.maps.groups) news.slots (saying d.outs e) (serving_write e.state (log_input.Maps news.groups)) w
      (quiet_writes logs members part limit life exists w.next e.state (log_input.Maps news.groups) w.agrees)

  went_news : (n : Net) (s : Serving) (clients : ℕ) (news : News) → TableAgrees members part n s.slots → serves.Low logs members part limit life exists s.slots
      → Owed n s clients news.slots
      → WentOf n s (on_news s clients news)
  unfolding on_news
  went_news n s clients news agrees low owed =
      let newer : Serving = record s { maps = maps_take s.maps news } in
      by_test (WentOf n s) (is_older s.maps news) (on_newer newer clients news) (hear_slots s clients news.slots)
      (λ _. went_less n s (is_some (maps_take s.maps news).groups) news.slots (on_newer newer clients news)
      (went_newer n newer clients news agrees low (record { number = owed.number; many = owed.many; gets = owed.gets; names = owed.names })))
      (λ _. went_less n s (is_some s.maps.groups) news.slots (hear_slots s clients news.slots)
      (rose_went n s (is_some s.maps.groups) news.slots (hear_slots s clients news.slots) (rose_slots n s clients news.slots agrees low owed)))

  -- one that opens knows of the epochs that its Welcome names, where the maps are newer than none
  pub went_opening : (n : Net) (s : Serving) (clients : ℕ) (news : News) → TableAgrees members part n s.slots
      → serves.Low logs members part limit life exists s.slots → Owed n s clients news.slots
      → is_older s.maps news ≡ true → Went n s.lasting.number s.lasting.inc s.slots true news.slots (on_news s clients news)
  unfolding on_news
  went_opening n s clients news agrees low owed older =
      let newer : Serving = record s { maps = maps_take s.maps news } in
      let h = went_newer n newer clients news agrees low (record { number = owed.number; many = owed.many; gets = owed.gets; names = owed.names }) in
      let known : is_some (maps_take s.maps news).groups ≡ true = ap
      (λ t. is_some (cond t (record s.maps { version = news.version; groups = Some news.groups }) s.maps).groups) older in
      subst (λ t. Went n s.lasting.number s.lasting.inc s.slots true news.slots (cond t (on_newer newer clients news) (hear_slots s clients news.slots)))
      (sym older)
      (record { numbered = h.numbered; lives = h.lives; next = h.next; goes = h.goes; agrees = h.agrees; within = h.within; above = λ _. h.above known })

  went_still : (n : Net) (s : Serving) → TableAgrees members part n s.slots → serves.Low logs members part limit life exists s.slots → WentOf n s (still s)
  went_still n s agrees low = went_serving n s (still s) low (serves.still_serves logs members part limit life exists n s agrees)

  went_fitting : (n : Net) (s : Serving) (clients : ℕ) (news : News) → TableAgrees members part n s.slots
      → serves.Low logs members part limit life exists s.slots → Owed n s clients news.slots
      → WentOf n s (on_fitting_news s clients news)
  went_fitting n s clients news agrees low owed = by_test (WentOf n s) (fits s.maps news) (on_news s clients news) (still s)
      (λ _. went_news n s clients news agrees low owed) (λ _. went_still n s agrees low)

  -- ---- all packets

  went_body : (n : Net) (s : Serving) (clients : ℕ) (from : NodeId) (b : Body) → s.lasting.number ≡ j → clients + 1 ≡ members
      → TableAgrees members part n s.slots → serves.Low logs members part limit life exists s.slots
      → ServingGets logs part limit j n members s.lasting.inc (phase_at s.slots part) from b → ((e : ℕ) → NamedBy part j e b → named e) → WentOf n s
      (on_body s clients from b)
  went_body n s clients from (body.MapNews news) number many agrees low gets names = went_fitting n s clients news agrees low
      (record { number = number; many = many; gets = gets; names = λ x fact of ours. names x.epoch (x, fact, of, refl, ours) })
  went_body n s clients from (body.Welcome welcome) number many agrees low gets names =
      by_test (WentOf n s) (welcome.inc == s.lasting.inc) (on_fitting_news s clients welcome.news) (still s)
      (λ same. went_fitting n s clients welcome.news agrees low
      (record {
        number = number;
        many = many;
        gets = gets (eqb-true welcome.inc s.lasting.inc same);
        names = λ x fact of ours. names x.epoch
            (x, fact, of, refl, ours);
      }))
      (λ _. went_still n s agrees low)
  went_body n s clients from (body.Want want) number many agrees low gets names =
      went_serving n s _ low (serves.serves_want logs members part limit life exists n s from want agrees gets)
  went_body n s clients from (body.Gave gave) number many agrees low gets names =
      went_serving n s _ low (serves.serves_gave logs members part limit life exists n s from gave agrees gets)
  went_body n s clients from (body.Deltas deltas) number many agrees low gets names =
      went_serving n s _ low (serves.serves_deltas logs members part limit life exists n s from deltas agrees gets)
  went_body n s clients from (body.Check check) number many agrees low gets names =
      went_serving n s _ low (serves.serves_check logs members part limit life exists n s check agrees)
  went_body n s clients from (body.UsageAsk asked) number many agrees low gets names =
      went_serving n s _ low (serves.serves_usage logs members part limit life exists n s asked agrees)
  went_body n s clients from (body.Report report) number many agrees low gets names =
      went_serving n s _ low (serves.serves_report logs members part limit life exists n s from report agrees low gets.0 gets.1)
  went_body n s clients from (body.Fragment found) number many agrees low gets names = went_serving n s _ low
      (serves.serves_found logs members part limit life exists n s from found agrees low gets)
  went_body n s clients from (body.Missing missing) number many agrees low gets names = went_serving n s _ low
      (serves.serves_missing logs members part limit life exists n s from missing agrees low gets)
  went_body n s clients from (body.Stored stored) number many agrees low gets names = went_serving n s _ low
      (serves.serves_quiet logs members part limit life exists n s.lasting.number s.lasting.inc s.slots (on_stored s stored)
      (quiet_stored logs members part limit life exists n s stored agrees))
  went_body n s clients from (body.CkptAck ack) number many agrees low gets names = went_serving n s _ low
      (serves.serves_quiet logs members part limit life exists n s.lasting.number s.lasting.inc s.slots (on_ckpt_ack s ack)
      (quiet_ckpt_ack logs members part limit life exists n s ack agrees))
  went_body n s clients from _ number many agrees low gets names = went_still n s agrees low

  pub went_hears : (n : Net) (s : Serving) (clients : ℕ) (packet : Sent) → s.lasting.number ≡ j → s.lasting.inc ≡ life → clients + 1 ≡ members
      → TableAgrees members part n s.slots → serves.Low logs members part limit life exists s.slots
      → ServingGets logs part limit j n members s.lasting.inc (phase_at s.slots part) packet.from packet.body →
      ((e : ℕ) → NamedBy part j e packet.body → named e) → WentOf n s (serving_hear s clients packet)
  unfolding serving_hear ask_for_maps
  went_hears n s clients packet number lives many agrees low gets names =
      by_test (WentOf n s) (names_known_groups s.maps packet.body) (on_body s clients packet.from packet.body) (ask_for_maps s)
      (λ _. went_body n s clients packet.from packet.body number many agrees low gets names)
      (λ _. went_serving n s (ask_for_maps s) low
      (record { number = refl; lives = refl; event = table_same logs members part limit life exists n s.slots _ agrees (omega arith, tt) }))
