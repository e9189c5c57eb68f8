-- What comes to a scan of the owner's node came in the small world of its log.
use Rattle.std.proofs.Common.{◌≡◌, ◌⊎◌, ℕ, ◌==◌, ◌&&◌, not, true, Option, Some, None, refl, sym, subst, ◌∙◌, inl, inr, arith}
use Rattle.std.proofs.lemmas.Bool.Decides.{nat_tests}
use Rattle.std.proofs.lemmas.Bool.{eqb-true}
use Rattle.xfs_base.proofs.Booleans.{by_test, and_first, and_second}
use Rattle.xfs_base.specs.declared.node.NodeId.{NodeId}
use Rattle.xfs_base.specs.declared.segment.LogId.{LogId}
use Rattle.node_logs.specs.client_log_tie.Owner.{Scene, MapCame, SeesScan, AsksRegistry, AsksServers, AsksIn, AsksAt}
use Rattle.group_map.specs.GroupMapState.{GroupMapState}
use Rattle.log_law.specs.Events.{CameToScan}
use Rattle.log_law.specs.Net.Packet.{FencedSent, FragmentSent, MapSent, WelcomeSent}
use Rattle.log_owner.specs.declared.known.Known.{Known}
use Rattle.log_owner.specs.declared.opening.Scanning.{Scanning}
use Rattle.log_owner.specs.Opening.{is_meant}
use Rattle.log_protocol.specs.Tables.{In}
use Rattle.log_scan.specs.declared.input.In.{In as Input}
use Rattle.log_scan.specs.declared.input.In.TheVariants as input
use Rattle.log_scan.specs.declared.stage.Stage.{Stage}
use Rattle.log_scan.specs.declared.stage.Stage.TheVariants.{Hails, Gathers, Asks, Reads, Over}
use Rattle.log_tie.specs.Setting.{Setting}
use Rattle.log_tie.specs.Shelves.{is_of_log}
use Rattle.node_base.specs.Asking.{own_of}
use Rattle.node_base.specs.declared.questions.Asked.{Asked}
use Rattle.node_base.specs.Maps.{fits}
use Rattle.node_logs.specs.node_log_tie.Sight.{Asker, AnsweredBy, BodySeen, FencedSeen, FragmentSeen, NewsSeen, WelcomeSeen}
use Rattle.segment_reading.specs.declared.reading.Stage as readings
use Rattle.segment_reading.specs.declared.reading.Stage.TheVariants as reading
use Rattle.wire_msg.specs.declared.body.Body.TheVariants as body
use Rattle.wire_msg.specs.declared.packet.Do.{Do}
use Rattle.wire_msg.specs.declared.packet.Do.TheVariants as done
use Rattle.wire_msg.specs.declared.packet.Packet.{Packet}
use Rattle.wire_msg.specs.declared.registry.Welcome.{Welcome}
use Rattle.run_losses.proofs.torn_law.OpeningSays.{Comes}
use Rattle.run_losses.proofs.torn_law.OpeningTurns.{CameBy}

-- ---- the question that is answered

pub record OwnParts (a : Asked) (ask own : ℕ) : Type 0 where
  pub own_is : own ≡ a.own
  pub some : a.own ≡ 0 → ⊥
  pub ask_is : ask ≡ a.ask

not_zero : (n : ℕ) → not (n == 0) ≡ true → n ≡ 0 → ⊥
not_zero n t e = grind (arith, nat_tests)

pub own_parts : (a : Asked) (ask own : ℕ) → own_of a ask ≡ Some own → OwnParts a ask own
own_parts a ask own =
    by_test (λ (x : Option ℕ). x ≡ Some own → OwnParts a ask own) (not (a.own == 0) && (ask == a.ask)) (Some a.own) None
    (λ t e. record {
      own_is = same e;
      some = not_zero a.own (and_first (not (a.own == 0)) (ask == a.ask) t);
      ask_is = eqb-true ask a.ask (and_second (not (a.own == 0)) (ask == a.ask) t);
    })
    (λ t e. absurd cc)
  where
    same : Some a.own ≡ Some own → own ≡ a.own
    same e = cc

module _ (g : Setting) (w : Scene) (owner : NodeId) where
  abbrev pub asks : Asker
  asks = record { node = owner; asked = w.asked }

  module _ (a : Asked) (ask : ℕ) (m : Welcome) (some : a.own ≡ 0 → ⊥) (answered : AnsweredBy g asks w.net m (w.asked a.ask)) where
    of_servers : AsksServers w.asked a ask → AsksRegistry w.asked a ask
    of_servers (inl e) = absurd (some e)
    of_servers (inr e) = absurd (subst (AnsweredBy g asks w.net m) e answered)

    of_reading : (x : readings.Stage) → AsksIn w.asked a ask x → AsksRegistry w.asked a ask
    of_reading reading.Asking h = of_servers h
    of_reading reading.Between h = h
    of_reading reading.Doubted h = h
    of_reading reading.Over h = absurd h

    of_registry : (st : Stage) → AsksAt w.asked a ask st → AsksRegistry w.asked a ask
    of_registry Hails h = h
    of_registry (Gathers lists) h = of_servers h
    of_registry (Asks lists) h = h
    of_registry (Reads b None) h = h
    of_registry (Reads b (Some r)) h = of_reading r.stage h.stage
    of_registry Over h = of_servers h

  -- ---- what comes

  module _ (c : ℕ) (k : Known) (s : Scanning) (last : ℕ) (sees : SeesScan g c w k s last) (packet : Packet)
      (seen : BodySeen g asks w.net packet.from owner packet.body) where
    welcome_came : (own : ℕ) (m : Welcome) → packet.body ≡ body.Welcome m → is_meant k m ≡ true → own_of s.asked m.ask ≡ Some own
        → In (WelcomeSent w.net.inc own m.news.slots m.news.groups) w.net.sent
    welcome_came own m fact meant own_is =
        let hears : WelcomeSeen g asks w.net owner m = subst (λ b. BodySeen g asks w.net packet.from owner b) fact seen in
        let p : OwnParts s.asked m.ask own = own_parts s.asked m.ask own own_is in
        let answered : AnsweredBy g asks w.net m (w.asked s.asked.ask) =
        subst (λ n. AnsweredBy g asks w.net m (w.asked n)) p.ask_is (hears.own refl) in
        let r : AsksRegistry w.asked s.asked s.scan.opening.ask =
        of_registry s.asked s.scan.opening.ask m p.some answered s.scan.stage sees.asks in
        let sent : In (WelcomeSent m.inc s.scan.opening.ask m.news.slots m.news.groups) w.net.sent =
        subst (AnsweredBy g asks w.net m) r.number answered in
        let boot : m.inc ≡ w.net.inc = eqb-true m.inc k.owner.inc (and_first (m.inc == k.owner.inc) (fits k.maps m.news) meant) ∙ sees.inc in
        subst (λ n. In (WelcomeSent n own m.news.slots m.news.groups) w.net.sent) boot
        (subst (λ n. In (WelcomeSent m.inc n m.news.slots m.news.groups) w.net.sent) (sym r.own ∙ sym p.own_is) sent)

    map_came : (m : Welcome) (groups : GroupMapState) → packet.body ≡ body.Welcome m → (groups ≡ m.news.groups) ⊎ (k.maps.groups ≡ Some groups)
        → In (MapSent groups) w.net.sent
    map_came m groups fact (inl e) =
        let hears : WelcomeSeen g asks w.net owner m = subst (λ b. BodySeen g asks w.net packet.from owner b) fact seen in
        subst (λ x. In (MapSent x) w.net.sent) (sym e) hears.map
    map_came m groups fact (inr e) = subst (MapCame g c w) e sees.came

    came_so : (i : Input) → CameBy k s packet i → CameToScan g w.net i
    came_so (input.Welcome own news groups) (m, by, same) = (
      (
        m.news.groups,
        subst (λ x. In (WelcomeSent w.net.inc own x m.news.groups) w.net.sent) (sym same) (welcome_came own m by.bears by.meant by.own_is),
      ),
      map_came m groups by.bears by.groups_are,
    )
    came_so (input.Fenced server generation held) (m, by, same, list) =
        let hears : FencedSeen g asks w.net packet.from m = subst (λ b. BodySeen g asks w.net packet.from owner b) by.bears seen in
        let says = subst (λ n. FencedSeen g asks w.net n m) by.from hears in
        let of_it : (m.log.0 == g.log.0) ≡ true = subst (λ (l : LogId). (m.log.0 == l.0) ≡ true) sees.log by.log in
        let boot : m.pass.inc ≡ w.net.inc = eqb-true m.pass.inc k.owner.inc by.boot ∙ sees.inc in
        subst (λ x. In (FencedSent server w.net.inc x held) w.net.sent) (sym same)
        (subst (λ x. In (FencedSent server w.net.inc m.generation x) w.net.sent) (sym list)
        (subst (λ n. In (FencedSent server n m.generation m.held) w.net.sent) boot (says of_it)))
    came_so (input.Got own server generation fragment) (m, fact, same) =
        let hears : FragmentSeen g asks w.net m = subst (λ b. BodySeen g asks w.net packet.from owner b) fact seen in
        λ of. subst (λ f. In (FragmentSent f) w.net.sent) (sym same) (hears (subst (λ f. is_of_log g f.meta.name ≡ true) same of))
    came_so (input.Missing own server generation) by = tt
    came_so (input.Maps groups) (news, fact, same) =
        let hears : NewsSeen g asks w.net news = subst (λ b. BodySeen g asks w.net packet.from owner b) fact seen in
        subst (λ x. In (MapSent x) w.net.sent) (sym same) hears
    came_so input.Tick by = tt

  -- in whichever event
  pub comes_so : (c : ℕ) (k : Known) (s : Scanning) (last : ℕ) → SeesScan g c w k s last → (what : Do)
      → ((packet : Packet) → what ≡ done.Deliver packet → BodySeen g asks w.net packet.from owner packet.body) → (i : Input) → Comes k s what i
      → CameToScan g w.net i
  comes_so c k s last sees done.Begin seen i comes = absurd comes
  comes_so c k s last sees (done.Deliver packet) seen i comes = came_so c k s last sees packet (seen packet refl) i comes
  comes_so c k s last sees done.Tick seen i comes = subst (CameToScan g w.net) (sym comes) tt
