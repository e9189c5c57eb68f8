-- What is known at one count of a run is known at the next: where another node has its turn, and where the owner of the log has.
use Rattle.std.proofs.Common.{◌≡◌, ⊎_elim, ℕ, suc, true, false, List, ◌++◌, Option, Some, None, map, is_some, All, refl, sym, ap, subst, ◌∙◌}
use Rattle.std.specs.List.{AllByRecursion}
use Rattle.xfs_base.specs.declared.node.NodeId.{NodeId}
use Rattle.xfs_base.specs.declared.node.NodeId.TheVariants as names
use Rattle.xfs_base.specs.declared.segment.SegRef.{SegRef}
use Rattle.core_world.specs.AnyNode.{any_step}
use Rattle.core_world.specs.declared.any_node.AnyNode.{AnyNode}
use Rattle.log_law.specs.Events.{Runs}
use Rattle.log_law.specs.Net.{Net, opening}
use Rattle.log_owner.specs.declared.opening.Scanning.{Scanning}
use Rattle.log_scan.specs.declared.input.In.{In as Input}
use Rattle.log_scan.specs.declared.stage.Backward.{Backward}
use Rattle.log_scan.specs.declared.stage.Stage.TheVariants.{Hails, Reads}
use Rattle.log_tie.specs.Setting.{Setting}
use Rattle.loss_law.proofs.Kept.{StageKept}
use Rattle.loss_law.specs.Losses.{LacksIn}
use Rattle.node_logs.specs.node_log_tie.Sight.{Asker, BodySeen}
use Rattle.node_slots.proofs.node_tie.StoreFrames.{packets_do}
use Rattle.segment_reading.specs.Reading.{ReadingState}
use Rattle.token_protocol.specs.Basics.{In}
use Rattle.wire_msg.specs.declared.body.Body.TheVariants as body
use Rattle.wire_msg.specs.declared.packet.Do.{Do}
use Rattle.wire_msg.specs.declared.packet.Do.TheVariants as done
use Rattle.wire_msg.specs.declared.packet.Packet.{Packet}
use Rattle.wire_msg.specs.declared.storage.Fetch.{Fetch}
use Rattle.wire_msg.specs.declared.storage.Missing.{Missing}
use Rattle.world_base.specs.Cluster.{place_of}
use Rattle.world_base.specs.declared.estate.Estate.{Estate}
use Rattle.world_base.specs.declared.event.Event.{Event}
use Rattle.world_base.specs.declared.event.Event.TheVariants.{Begin, Deliver, Tick}
use Rattle.world_base.specs.declared.world.World.{World}
use Rattle.world_base.specs.Events.{node_of, what_of}
use Rattle.world_base.specs.NextWorld.{sent_at}
use Rattle.world_base.specs.Runs.{MayHappen}
use Rattle.run_laws.proofs.world_law.Laws.{one_node}
use Rattle.run_laws.proofs.world_law.Sent.{at_clock, in_append, was_sent}
use Rattle.headline.specs.Moments.{moment, node_in}
use Rattle.run_laws.proofs.world_logs.Lists.{in_before}
use Rattle.run_laws.specs.world_logs.Lines.{HasLines, setting}
use Rattle.run_laws.specs.world_logs.Roles.{asker_by}
use Rattle.headline.specs.Logs.{IsThere, Role, owner_by, renews}
use Rattle.headline.specs.Logs.Role.{OfClient, OfCleaner, OfManager}
use Rattle.run_losses.proofs.torn_law.Coming.{comes_so}
use Rattle.run_losses.proofs.torn_law.Events.{Answered, Good, Node, TornBy, at_count, base_at, drawn_at, joined, k_of, net, node_at, opens_through, owns_at, scan_is, torn_now, torn_on}
use Rattle.run_losses.proofs.torn_law.OpeningSays.{DoesSo, Fetches, Sends}
use Rattle.run_losses.proofs.torn_law.Owners.{Owns, Scans, boot_in, outs_of}
use Rattle.run_losses.proofs.torn_law.Truths.{Truths, aside, own_turn, truth_of}
use Rattle.run_losses.proofs.torn_law.Drawn.{FetchesDrawn, last_of}
use Rattle.headline.specs.Openings.{scan_at, scan_of}

-- ---- what an event brings

same_packet : (p q : Packet) → done.Deliver p ≡ done.Deliver q → p ≡ q
same_packet p q e = cc

pub brought : (w : World AnyNode) (event : Event) → MayHappen w event → (p : Packet) → what_of event ≡ done.Deliver p → In p w.sent × (p.to ≡ node_of event)
brought w (Begin node) may p fact = absurd cc
brought w (Deliver q) may p fact =
    let same = same_packet q p fact in
    (subst (λ x. In x w.sent) same (was_sent w.sent q may), ap (λ (x : Packet). x.to) (sym same))
brought w (Tick node) may p fact = absurd cc

-- one that has just begun reads nothing yet
fresh_so : (g : Setting) (Was : SegRef → Type 0) (start n : Net) (run : Runs g start n) (sent : List Packet) (name : NodeId) (s : Scanning)
    → s.scan.stage ≡ Hails → Truths g Was run sent name s
fresh_so g Was start n run sent name s fresh = record {
  kept = subst (λ st. StageKept g Was run s.scan.opening.ask st) (sym fresh) tt;
  fetched = λ r. absurd (never r.back r.round r.reads);
  missed = λ r. absurd (never r.back r.round r.reads);
}
  where
    never : (b : Backward) (x : ReadingState) → s.scan.stage ≡ Reads b (Some x) → ⊥
    never b x fact = none (sym fresh ∙ fact)
      where
        none : Hails ≡ Reads b (Some x) → ⊥
        none e = cc

pub no_server : (r : Role) (v : ℕ) → owner_by r ≡ names.Server v → ⊥
no_server (OfClient c) v e = cc
no_server OfCleaner v e = cc
no_server (OfManager j) v e = cc

module _ (base : Setting) (e : Estate AnyNode) (lines : HasLines base e) (r : Role)
    (is_there : IsThere e.script.setup.clients e.script.setup.managers r) (keeps : renews r ≡ false) where
  abbrev g : Setting
  g = setting base e r

  abbrev Here : ℕ → Option AnyNode
  Here count = node_in (moment e count).nodes (place_of (k_of base e lines r is_there keeps) (owner_by r))

  abbrev Known : ℕ → Type 0
  Known count = Good base e lines r is_there keeps count

  abbrev Sent : ℕ → List Packet
  Sent count = (moment e count).sent

  abbrev Torn : ℕ → SegRef → Type 0
  Torn count = TornBy base e lines r is_there keeps count

  abbrev asker_of : ℕ → Asker
  asker_of count = asker_by r ((lines r is_there).scene count)

  opens_at : (count : ℕ) (s : Scanning) → scan_at e r count ≡ Some s → is_some (scan_at e r count) ≡ true
  opens_at count s fact = ap is_some fact

  -- a Missing answers a fetch of the owner that was sent, of what the server lacks then
  pub record Told (count : ℕ) (m : Missing) (v : ℕ) : Type 0 where
    pub packet : Packet
    pub among : In packet (Sent count)
    pub asker : packet.from ≡ owner_by r
    pub fetch : Fetch
    pub asks : packet.body ≡ body.Fetch fetch
    pub ask : m.ask ≡ fetch.ask
    pub lacks : LacksIn fetch.name v m.generation (net base e lines r is_there keeps count)

  module _ (count : ℕ) (new : List Packet) (sent_is : Sent (suc count) ≡ Sent count ++ new) (good : Known count) where
    -- ---- what is answered

    answered_then : ((p : Packet) (m : Missing) (v : ℕ) → In p new → p.from ≡ names.Server v → p.to ≡ owner_by r → p.body ≡ body.Missing m → Told count m v)
        → (p : Packet) (m : Missing) (v : ℕ) → In p (Sent (suc count)) → p.from ≡ names.Server v → p.to ≡ owner_by r → p.body ≡ body.Missing m
        → Answered base e lines r is_there keeps (suc count) m
    answered_then answers p m v among from to tells =
        ⊎_elim (λ old. before (good.answered p m v old from to tells)) (λ late. now (answers p m v late from to tells))
        (in_append (Sent count) new p (subst (In p) sent_is among))
      where
        grown : (q : Packet) → In q (Sent count) → In q (Sent (suc count))
        grown q h = subst (In q) (sym sent_is) (in_before (Sent count) new q h)

        before : Answered base e lines r is_there keeps count m → Answered base e lines r is_there keeps (suc count) m
        before a = record { packet = a.packet; fetch = a.fetch; among = grown a.packet a.among; asker = a.asker; asks = a.asks; ask = a.ask }

        now : Told count m v → Answered base e lines r is_there keeps (suc count) m
        now t = record { packet = t.packet; fetch = t.fetch; among = grown t.packet t.among; asker = t.asker; asks = t.asks; ask = t.ask }

    -- ---- another node has its turn, or none

    pub aside_good : Here (suc count) ≡ Here count → ((p : Packet) → In p new → p.from ≡ owner_by r → ⊥)
        → ((p : Packet) (m : Missing) (v : ℕ) → In p new → p.from ≡ names.Server v → p.to ≡ owner_by r → p.body ≡ body.Missing m → Told count m v)
        → Known (suc count)
    aside_good same others answers = record { answered = answered_then answers; truths = truths }
      where
        truths : (s : Scanning) → scan_at e r (suc count) ≡ Some s
            → Truths (setting base e r) (Torn (suc count)) (at_count base e lines r is_there keeps (suc count)).run (Sent (suc count)) (owner_by r) s
        truths s fact =
            let b = node_at base e lines r is_there keeps (suc count) s fact in
            let was : Here count ≡ Some b.node = sym same ∙ b.stands in
            let a : Node base e lines r is_there keeps count s = record {
              node = b.node;
              stands = was;
              scan = b.scan;
              scans = (owns_at base e lines r is_there keeps count b.node was).scans s b.scan;
            } in
            joined base e lines r is_there keeps count new sent_is s
            (aside (setting base e r) (Torn count) (Torn (suc count)) (torn_on base e lines r is_there keeps count (opens_at (suc count) s fact))
            (opening (setting base e r) (at_count base e lines r is_there keeps count).map) ((lines r is_there).scene count)
            (at_count base e lines r is_there keeps count).run (base_at base e lines r is_there keeps count)
            (net base e lines r is_there keeps (suc count)) ((lines r is_there).goes count)
            (opens_through base e lines r is_there keeps count new sent_is s s a b refl) (Sent count) new (owner_by r) a.scans.number a.scans.known s
            (last_of (Some a.node)) a.scans.sees (good.truths s (scan_is base e lines r is_there keeps count b.node s was b.scan)) others
            (λ p m v late from to tells. let t = answers p m v late from to tells in record {
              packet = t.packet;
              among = t.among;
              asker = t.asker;
              fetch = t.fetch;
              asks = t.asks;
              ask = t.ask;
              lacks = t.lacks;
            }))

  -- ---- the owner has its turn

  module _ (count clock : ℕ) (x : AnyNode) (what : Do)
      (sent_is : Sent (suc count) ≡ Sent count ++ map (sent_at clock) (any_step x what).packets) (good : Known count)
      (fetches : FetchesDrawn e r count) (was : Here count ≡ Some x) (now : Here (suc count) ≡ Some (any_step x what).node)
      (gets : (p : Packet) → what ≡ done.Deliver p → In p (Sent count) × (p.to ≡ owner_by r))
      (its : (p : Packet) → In p (map (sent_at clock) (any_step x what).packets) → p.from ≡ owner_by r) where
    abbrev new : List Packet
    new = map (sent_at clock) (any_step x what).packets

    owns : Owns (setting base e r) ((lines r is_there).scene count) (owner_by r) x
    owns = owns_at base e lines r is_there keeps count x was

    -- what is fetched
    module _ (s : Scanning) (k : Scans (setting base e r) ((lines r is_there).scene count) s (last_of (Some x)) (boot_in (Some x)) (λ k. Unit {0}))
        (by : Option Input) (does : AllByRecursion (DoesSo k.known s what (last_of (Some x)) by) (outs_of x what)) where
      AsksSo : Packet → Type 0
      AsksSo p = (m : Fetch) → p.body ≡ body.Fetch m → Fetches k.known s what (last_of (Some x)) by m.name

      asks_so : (p : Packet) (m : Fetch) → In p new → p.body ≡ body.Fetch m → Fetches k.known s what (last_of (Some x)) by m.name
      unfolding AsksSo
      asks_so p m late asks =
          at_clock clock AsksSo AsksSo (λ q h. h) (any_step x what).packets
          (subst (λ ps. All AsksSo ps) (sym (owns.packets what))
          (packets_do AsksSo (DoesSo k.known s what (last_of (Some x)) by) (owner_by r)
          (λ to said so m same. subst (Sends k.known s what (last_of (Some x)) by) same so) (outs_of x what) does))
          p late m asks

    own_truths : (s : Scanning) → scan_of (Some x) ≡ Some s → (later : Scanning) → scan_at e r (suc count) ≡ Some later
        → Truths (setting base e r) (Torn (suc count)) (at_count base e lines r is_there keeps (suc count)).run (Sent (suc count)) (owner_by r) later
    own_truths s scan later fact =
        let sc = owns.scans s scan in
        let a : Node base e lines r is_there keeps count s = record { node = x; stands = was; scan = scan; scans = sc } in
        let t = sc.turns what in
        let y : AnyNode = (any_step x what).node in
        let b0 = node_at base e lines r is_there keeps (suc count) later fact in
        let same_node : b0.node ≡ y = one_node b0.node y (sym b0.stands ∙ now) in
        let after : scan_of (Some y) ≡ Some later = subst (λ z. scan_of (Some z) ≡ Some later) same_node b0.scan in
        let boot : boot_in (Some b0.node) ≡ boot_in (Some x) = ap (λ z. boot_in (Some z)) same_node ∙ t.boot in
        let known : Scans (setting base e r) ((lines r is_there).scene count) s (last_of (Some x)) (boot_in (Some x)) (λ k. Unit {0}) =
        record { known = sc.known; number = sc.number; sees = sc.sees; boot = sc.boot; turns = tt } in
        let before : scan_at e r count ≡ Some s = scan_is base e lines r is_there keeps count x s was scan in
        let truths = good.truths s before in
        joined base e lines r is_there keeps count new sent_is later
        (own_turn (setting base e r) (Torn count) (Torn (suc count)) (torn_on base e lines r is_there keeps count (opens_at (suc count) later fact))
        (opening (setting base e r) (at_count base e lines r is_there keeps count).map) ((lines r is_there).scene count)
        (at_count base e lines r is_there keeps count).run (base_at base e lines r is_there keeps count)
        (net base e lines r is_there keeps (suc count)) ((lines r is_there).goes count)
        (opens_through base e lines r is_there keeps count new sent_is s later a b0 boot) (Sent count) new (owner_by r) sc.number sc.known s
        (last_of (Some x)) sc.sees truths (torn_now base e lines r is_there keeps count (opens_at count s before)) what
        (drawn_at base e lines r is_there keeps count good fetches x was) (no_server r)
        (comes_so (setting base e r) ((lines r is_there).scene count) (owner_by r) sc.number sc.known s (last_of (Some x)) sc.sees what
        (λ p same. let got = gets p same in
        subst (λ to. BodySeen (setting base e r) (asker_of count) (net base e lines r is_there keeps count) p.from to p.body) got.1
        (((lines r is_there).stands count).facts p got.0)))
        (truth_of (setting base e r) (Torn count) (opening (setting base e r) (at_count base e lines r is_there keeps count).map)
        (net base e lines r is_there keeps count) (at_count base e lines r is_there keeps count).run (Sent count) (owner_by r) sc.known s truths what gets)
        its t.by later (t.scan later after) (asks_so s known t.by t.does) b0.scans.sees.owner)

    pub own_good : Known (suc count)
    own_good = record {
      answered = answered_then count new sent_is good (λ p m v late from to tells. absurd (no_server r v (sym (its p late) ∙ from)));
      truths = λ later fact. by (scan_of (Some x)) refl later fact;
    }
      where
        by : (o : Option Scanning) → scan_of (Some x) ≡ o → (later : Scanning) → scan_at e r (suc count) ≡ Some later
            → Truths (setting base e r) (Torn (suc count)) (at_count base e lines r is_there keeps (suc count)).run (Sent (suc count)) (owner_by r) later
        by (Some s) scan later fact = own_truths s scan later fact
        by None scan later fact =
            let b = node_at base e lines r is_there keeps (suc count) later fact in
            let same_node = one_node b.node (any_step x what).node (sym b.stands ∙ now) in
            fresh_so (setting base e r) (Torn (suc count)) (opening (setting base e r) (at_count base e lines r is_there keeps (suc count)).map)
            (net base e lines r is_there keeps (suc count)) (at_count base e lines r is_there keeps (suc count)).run (Sent (suc count)) (owner_by r) later
            (owns.fresh scan what later (subst (λ z. scan_of (Some z) ≡ Some later) same_node b.scan))
