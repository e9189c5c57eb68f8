-- At each moment of every run of the nodes what comes to an opening is true: in answer to the question of a round, a server tells that it misses a segment only
-- where it was so at a moment since the question was drawn.
use Rattle.std.proofs.Common.{◌≡◌, ⊎_elim, ℕ, suc, ◌≤◌, true, false, List, ◌++◌, Option, Some, None, is_some, refl, sym, ap, subst, ◌∙◌, arith}
use Rattle.xfs_base.specs.declared.node.NodeId.{NodeId}
use Rattle.xfs_base.specs.declared.node.NodeId.TheVariants as names
use Rattle.xfs_base.specs.declared.segment.SegRef.{SegRef}
use Rattle.core_world.specs.declared.any_node.AnyNode.{AnyNode}
use Rattle.log_law.specs.Laws.{Moment}
use Rattle.log_law.specs.Net.{Net, opening}
use Rattle.log_law.specs.Tails.{then_on}
use Rattle.log_owner.specs.declared.opening.Scanning.{Scanning}
use Rattle.log_tie.specs.Setting.{Setting}
use Rattle.loss_law.proofs.Events.{first_base}
use Rattle.loss_law.proofs.Growing.{Base}
use Rattle.loss_law.proofs.Interval.{passed}
use Rattle.loss_law.proofs.Kept.{IsReading}
use Rattle.loss_law.specs.Losses.{IsTorn, is_opening}
use Rattle.token_protocol.specs.Basics.{In}
use Rattle.wire_msg.specs.declared.body.Body.TheVariants as body
use Rattle.wire_msg.specs.declared.packet.Packet.{Packet}
use Rattle.wire_msg.specs.declared.storage.Fetch.{Fetch}
use Rattle.wire_msg.specs.declared.storage.Missing.{Missing}
use Rattle.world_base.specs.Cluster.{cluster_of, place_of}
use Rattle.world_base.specs.declared.cluster.Cluster.{Cluster}
use Rattle.world_base.specs.declared.estate.Estate.{Estate}
use Rattle.headline.specs.Moments.{moment, node_in, node_named}
use Rattle.run_laws.proofs.world_logs.Line.{last_or_before}
use Rattle.run_laws.specs.world_logs.Lines.{HasLines, Line, setting}
use Rattle.headline.specs.Logs.{IsThere, Role, owner_by, renews}
use Rattle.run_losses.proofs.torn_law.Counts.{cluster_at}
use Rattle.run_losses.proofs.torn_law.OneOpening.{AllOpen, all_open}
use Rattle.run_losses.proofs.torn_law.Owners.{Owns, Scans, TurnsOf, boot_in, owner_owns}
use Rattle.run_losses.proofs.torn_law.Truths.{Drawn, Truths}
use Rattle.run_losses.proofs.torn_law.Drawn.{FetchesDrawn, last_of}
use Rattle.headline.specs.Openings.{scan_at, scan_of}

module _ (base : Setting) (e : Estate AnyNode) (lines : HasLines base e) (r : Role)
    (is_there : IsThere e.script.setup.clients e.script.setup.managers r) (keeps : renews r ≡ false) where
  abbrev pub k_of : Cluster
  k_of = cluster_of e.script.setup

  abbrev pub owner : NodeId
  owner = owner_by r

  abbrev pub line : Line base e r
  line = lines r is_there

  abbrev pub net : ℕ → Net
  net count = ((lines r is_there).scene count).net

  abbrev pub at_count : (count : ℕ) → Moment (setting base e r) (net count)
  at_count count = ((lines r is_there).stands count).moment

  abbrev pub sent_by : ℕ → List Packet
  sent_by count = (moment e count).sent

  pub base_at : (count : ℕ) → Base (setting base e r) (net count)
  base_at count =
      (passed (setting base e r) (opening (setting base e r) (at_count count).map) (net count) (first_base (setting base e r) (at_count count).map)
      (at_count count).run).base

  -- ---- its node

  pub named_is : (count : ℕ) (name : NodeId) → node_named (moment e count) name ≡ node_in (moment e count).nodes (place_of k_of name)
  named_is count name = ap (λ c. node_in (moment e count).nodes (place_of c name)) (cluster_at e count)

  pub owns_at : (count : ℕ) (x : AnyNode) → node_in (moment e count).nodes (place_of k_of owner) ≡ Some x → Owns (setting base e r) (line.scene count) owner x
  owns_at count x fact = owner_owns (setting base e r) (line.scene count) r keeps x ((line.stands count).seen owner x fact)

  -- the node that reads its log
  pub record Node (count : ℕ) (s : Scanning) : Type 0 where
    pub node : AnyNode
    pub stands : node_in (moment e count).nodes (place_of k_of owner) ≡ Some node
    pub scan : scan_of (Some node) ≡ Some s
    pub scans : Scans (setting base e r) (line.scene count) s (last_of (Some node)) (boot_in (Some node)) (TurnsOf (setting base e r) (line.scene count) node s)

  pub node_at : (count : ℕ) (s : Scanning) → scan_at e r count ≡ Some s → Node count s
  node_at count s fact = by (node_in (moment e count).nodes (place_of k_of owner)) refl (sym (ap scan_of (named_is count owner)) ∙ fact)
    where
      by : (o : Option AnyNode) → node_in (moment e count).nodes (place_of k_of owner) ≡ o → scan_of o ≡ Some s → Node count s
      by None at so = absurd cc
      by (Some x) at so = record { node = x; stands = at; scan = so; scans = (owns_at count x at).scans s so }

  pub last_is : (count : ℕ) (x : AnyNode) → node_in (moment e count).nodes (place_of k_of owner) ≡ Some x
      → last_of (node_named (moment e count) owner) ≡ last_of (Some x)
  last_is count x fact = ap last_of (named_is count owner ∙ fact)

  pub scan_is : (count : ℕ) (x : AnyNode) (s : Scanning) → node_in (moment e count).nodes (place_of k_of owner) ≡ Some x → scan_of (Some x) ≡ Some s
      → scan_at e r count ≡ Some s
  scan_is count x s fact so = ap scan_of (named_is count owner ∙ fact) ∙ so

  -- ---- what was torn

  -- at a moment of this opening, up to this one, at which it was read
  pub record TornBy (count : ℕ) (segment : SegRef) : Type 0 where
    pub when : ℕ
    pub before : when ≤ count
    pub opens : (k : ℕ) → when ≤ k → k ≤ count → is_some (scan_at e r k) ≡ true
    pub reads : IsReading segment (net when)
    pub torn : IsTorn (setting base e r) segment (net when)

  pub torn_now : (count : ℕ) → is_some (scan_at e r count) ≡ true → (segment : SegRef) → IsReading segment (net count)
      → IsTorn (setting base e r) segment (net count) → TornBy count segment
  torn_now count opens segment reads torn = record {
    when = count;
    before = omega arith;
    opens = λ k since limit. subst (λ j. is_some (scan_at e r j) ≡ true) (omega arith) opens;
    reads = reads;
    torn = torn;
  }

  pub torn_on : (count : ℕ) → is_some (scan_at e r (suc count)) ≡ true → (segment : SegRef) → TornBy count segment → TornBy (suc count) segment
  torn_on count opens segment t = record {
    when = t.when;
    before = (let a = t.before in omega arith);
    opens = λ k since limit.
        ⊎_elim (λ same. subst (λ j. is_some (scan_at e r j) ≡ true) (sym same) opens) (λ below. t.opens k since below) (last_or_before k count limit);
    reads = t.reads;
    torn = t.torn;
  }

  -- ---- what is known at each count

  -- a Missing answers a fetch that was sent
  pub record Answered (count : ℕ) (m : Missing) : Type 0 where
    pub packet : Packet
    pub fetch : Fetch
    pub among : In packet (sent_by count)
    pub asker : packet.from ≡ owner
    pub asks : packet.body ≡ body.Fetch fetch
    pub ask : m.ask ≡ fetch.ask

  pub record Good (count : ℕ) : Type 0 where
    pub answered : (p : Packet) (m : Missing) (v : ℕ) → In p (sent_by count) → p.from ≡ names.Server v → p.to ≡ owner → p.body ≡ body.Missing m
        → Answered count m
    pub truths : (s : Scanning) → scan_at e r count ≡ Some s
        → Truths (setting base e r) (TornBy count) (at_count count).run (sent_by count) owner s

  pub drawn_at : (count : ℕ) → Good count → FetchesDrawn e r count → (x : AnyNode) → node_in (moment e count).nodes (place_of k_of owner) ≡ Some x
      → Drawn (sent_by count) owner (last_of (Some x))
  drawn_at count good fetches x fact = record {
    fetches = λ p m among from asks. subst (λ n. m.ask ≤ n) (last_is count x fact) (fetches p m among from asks);
    missings = λ p m v among from to tells.
        (let a = good.answered p m v among from to tells in
        let b = subst (λ n. a.fetch.ask ≤ n) (last_is count x fact) (fetches a.packet a.fetch a.among a.asker a.asks) in
        let c = a.ask in omega arith);
  }

  -- ---- from one count to the next

  module _ (count : ℕ) (new : List Packet) (sent_is : sent_by (suc count) ≡ sent_by count ++ new) where
    -- in one boot an opening stays one
    pub opens_through : (s t : Scanning) (a : Node count s) (b : Node (suc count) t) → boot_in (Some b.node) ≡ boot_in (Some a.node)
        → AllOpen (setting base e r) (line.goes count)
    opens_through s t a b boot =
        all_open (setting base e r) (net count) (net (suc count)) (base_at count) (line.goes count) (b.scans.boot ∙ (boot ∙ sym a.scans.boot))
        (ap is_opening b.scans.sees.owner)

    pub joined : (s : Scanning)
        → Truths (setting base e r) (TornBy (suc count)) (then_on (at_count count).run (line.goes count)) (sent_by count ++ new) owner s
        → Truths (setting base e r) (TornBy (suc count)) (at_count (suc count)).run (sent_by (suc count)) owner s
    joined s t =
        subst (λ sent. Truths (setting base e r) (TornBy (suc count)) (at_count (suc count)).run sent owner s) (sym sent_is)
        (subst (λ (m : Moment (setting base e r) (net (suc count))). Truths (setting base e r) (TornBy (suc count)) m.run (sent_by count ++ new) owner s)
        (sym (line.joined count)) t)
