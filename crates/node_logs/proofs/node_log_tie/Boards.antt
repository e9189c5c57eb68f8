-- What an event makes of the registry's maps, in the small world.
use Rattle.std.proofs.Common.{◌≡◌, ◌≢◌, ℕ, ◌-◌, ◌==◌, ◌<◌, ◌≤◌, Bool, true, false, List, length, refl, sym, ap, subst, ◌∙◌, inl, inr, arith}
use Rattle.std.specs.Prelude.{nat_le}
use Rattle.std.proofs.lemmas.Bool.Decides.{nat_tests}
use Rattle.std.proofs.lemmas.List.{get_or-set_same, get_or-set_other}
use Rattle.std.proofs.lemmas.Bool.{eqb-true}
use Rattle.xfs_base.proofs.Booleans.{by_test, and_second}
use Rattle.xfs_base.specs.declared.segment.SegName.{SegName}
use Rattle.xfs_base.specs.Limits.{block_logs}
use Rattle.group_map.specs.GroupMapState.{GroupMapState}
use Rattle.group_map.specs.Groups.{generation_at, generations_after, after_loss}
use Rattle.group_map.specs.WellFormed.{IsGroupMap}
use Rattle.log_flight.specs.Fate.{has_server}
use Rattle.registry.specs.Board.{hears_server}
use Rattle.registry.specs.BoardState.{BoardState}
use Rattle.registry.specs.Checkpoints.{covers_kept, horizon_at}
use Rattle.registry.specs.declared.checkpoint.Checkpoint.{Checkpoint}
use Rattle.registry.specs.Slots.{entry_of}
use Rattle.registry.proofs.Losses.{loss_exists, loss_newer, loss_kept, loss_heard}
use Rattle.registry_node.specs.declared.node.RegistryNode.{RegistryNode}
use Rattle.registry_node.specs.Events.{takes}
use Rattle.wire_msg.specs.declared.body.Body.TheVariants as body
use Rattle.wire_msg.specs.declared.packet.Do.{Do}
use Rattle.wire_msg.specs.declared.packet.Packet.{Packet}
use Rattle.wire_msg.specs.declared.registry.Hello.{Hello}
use Rattle.node_moves.proofs.registry_moves.Events.{registry_events_are_moves}
use Rattle.node_moves.proofs.registry_moves.Keeping.{Keeps, event_keeps}
use Rattle.node_moves.specs.registry_moves.Moves.{Turned}
use Rattle.node_moves.specs.registry_moves.Moves.Turned.{Rests, Takes}
use Rattle.node_moves.specs.server_moves.Moves.{Came}
use Rattle.log_protocol.specs.Tables.{In, put}
use Rattle.log_tie.specs.Setting.{Setting}
use Rattle.log_law.specs.Net.{Net}
use Rattle.log_law.specs.Events.{Runs}
use Rattle.log_law.specs.Events.Happens.{Hears as HearsLoss, Raises}
use Rattle.log_law.specs.Events.Runs.{Begun, On}
use Rattle.node_logs.specs.node_log_tie.Sight.{Asker, BodySeen, HelloSeen, ReachedBy}
use Rattle.node_logs.specs.node_log_tie.RegistryEvents.{NamesGroups, RegistrySeen, Hears, low_of, IsFiled, all_but_known}
use Rattle.node_logs.proofs.node_log_tie.Horizons.{HasHorizons, kept_nine, low_rises, least_is_one}

-- what the world lets the registry keep: horizons tell of the logs up to 9 alone
pub record MayKeep (g : Setting) (n : Net) (b : BoardState) : Type 0 where
  pub named : NamesGroups g b.groups
  pub filed : g.log.0 ≤ block_logs → IsFiled n (low_of g b)

-- The small world runs on, without a packet, to a net in which these maps are seen.
pub record MadeSeen (g : Setting) (n : Net) (b : BoardState) : Type 0 where
  pub next : Net
  pub runs : Runs g n next
  pub seen : RegistrySeen g next b
  pub rest : all_but_known next ≡ all_but_known n

-- the Hello that came
pub hello_came : (g : Setting) (owner : Asker) (n : Net) (what : Do) → Hears g owner n what → (packet : Packet) (m : Hello) → Came what packet (body.Hello m)
    → HelloSeen g owner n packet.from m
hello_came g owner n what sent packet m came =
    subst (BodySeen g owner n packet.from packet.to) came.says (subst (Hears g owner n) came.event sent)

module _ (g : Setting) (owner : Asker) (n : Net) (r : RegistryNode) (before : RegistrySeen g n r.board) (what : Do) (sent : Hears g owner n what) where
  abbrev b : BoardState
  b = r.board

  -- it runs on to a net in which these groups are seen, and each slot has its nine numbers
  record Known (groups : GroupMapState) (checkpoints : List Checkpoint) : Type 0 where
    next : Net
    runs : Runs g n next
    map : IsGroupMap groups
    size : groups.servers ≡ g.servers
    known : (v : ℕ) → has_server groups v ≡ true → next.registry v ≡ generation_at groups.generations v
    horizons : (slot : ℕ) → slot < 8 → length (horizon_at checkpoints slot) ≡ 9
    low : next.low ≡ n.low
    rest : all_but_known next ≡ all_but_known n

  at_first : Known b.groups b.checkpoints
  at_first = record {
    next = n;
    runs = Begun;
    map = before.map;
    size = before.size;
    known = before.known;
    horizons = before.horizons;
    low = refl;
    rest = refl;
  }

  -- ---- a server has lost what it kept

  module _ (v generation : ℕ) (hears : hears_server b v generation ≡ true) (reached : generation ≤ (n.shelves v).generation) where
    exists : (1 ≤ v) × (v ≤ b.groups.servers)
    exists = loss_exists b.groups v generation (loss_heard b v generation hears)

    is_there : has_server b.groups v ≡ true
    is_there = let e = exists.0 in let f = exists.1 in grind (arith, nat_tests)

    up : n.registry v ≤ generation
    up = (let e = before.known v is_there in let l = loss_newer b.groups v generation (loss_heard b v generation hears) in omega arith)

    known_then : (u : ℕ) → has_server b.groups u ≡ true → put n.registry v generation u ≡ generation_at (generations_after b.groups.generations v generation) u
    known_then u has =
        by_test (λ k. k ≡ generation_at (generations_after b.groups.generations v generation) u) (u == v) generation (n.registry u)
        (λ t. sym (ap (λ w. generation_at (generations_after b.groups.generations v generation) w) (eqb-true u v t)
        ∙ get_or-set_same b.groups.generations (v - 1) generation 0 (let l = before.map.each_server in let e = exists.0 in let f = exists.1 in omega arith)))
        (λ t. before.known u has
        ∙ sym (get_or-set_other b.groups.generations (v - 1) (u - 1) generation 0
        (λ e. let first : 1 ≤ u = grind (arith, nat_tests) in let k = exists.0 in let apart : u ≢ v = grind (arith, nat_tests) in apart (omega arith))))

    heard : Known (after_loss b.groups v generation) b.checkpoints
    heard = record {
      next = record n { registry = put n.registry v generation };
      runs = On Begun (HearsLoss v generation up reached);
      map = loss_kept b.groups v generation (loss_heard b v generation hears) before.map;
      size = before.size;
      known = known_then;
      horizons = before.horizons;
      low = refl;
      rest = refl;
    }

  -- ---- all changes

  keeps : Keeps r what (λ c. Known c.groups c.checkpoints) (λ c e. Unit {0})
  keeps = record {
    restarts = λ packet m manager came from hears k. k;
    loses = λ packet m server came from hears k.
        heard server m.inc hears
        (subst (λ node. ReachedBy g owner n node m.inc) from (hello_came g owner n what sent packet m came).reached);
    moves = λ slot manager can k. k;
    checkpoints = λ packet m came kept k. record {
      next = n;
      runs = Begun;
      map = before.map;
      size = before.size;
      known = before.known;
      horizons =
          kept_nine b.checkpoints m.slot (record { parts = m.parts; horizon = m.horizon })
          (and_second ((entry_of b.entries m.slot).epoch == m.epoch) (covers_kept b.checkpoints m.slot m.horizon) kept) before.horizons;
      low = refl;
      rest = refl;
    };
    says = λ c e k said. tt;
  }

  -- ---- the least horizon

  rises : g.log.0 ≤ block_logs → (c : BoardState) → Turned r what c → HasHorizons c → low_of g b ≤ low_of g c
  rises some c Rests nine = omega arith
  rises some c (Takes given came) nine = low_rises g.log.0 some b given before.horizons nine

  raised : (c : BoardState) → NamesGroups g c.groups → Known c.groups c.checkpoints → low_of g b ≤ low_of g c → IsFiled n (low_of g c) → MadeSeen g n c
  raised c named k rise (inl no_more) = record {
    next = k.next;
    runs = k.runs;
    seen = record {
      map = k.map;
      size = k.size;
      named = named;
      known = k.known;
      low = (let same = k.low in let e = before.low in omega arith);
      horizons = k.horizons;
    };
    rest = k.rest;
  }
  raised c named k rise (inr filed) =
      let there : In filed.0 k.next.filed = subst (λ (names : List SegName). In filed.0 names) (sym (ap (λ (m : Net). m.filed) k.rest)) filed.1 in
      record {
        next = record k.next { low = low_of g c };
        runs = On k.runs (Raises (low_of g c) filed.0 (let same = k.low in let e = before.low in omega arith) there filed.2);
        seen = record { map = k.map; size = k.size; named = named; known = k.known; low = refl; horizons = k.horizons };
        rest = k.rest;
      }

  -- whatever happens to the registry
  pub board_goes : MayKeep g n (takes r what).state.board → MadeSeen g n (takes r what).state.board
  board_goes keep = by (nat_le g.log.0 block_logs) refl
    where
      now : BoardState
      now = (takes r what).state.board

      k : Known now.groups now.checkpoints
      k = (event_keeps r what (λ c. Known c.groups c.checkpoints) (λ c e. Unit {0}) keeps at_first).state

      by : (t : Bool) → nat_le g.log.0 block_logs ≡ t → MadeSeen g n now
      by true t =
          let some : g.log.0 ≤ block_logs = grind (arith, nat_tests) in
          raised now keep.named k (rises some now (registry_events_are_moves r what).board k.horizons) (keep.filed some)
      by false t =
          let high : block_logs < g.log.0 = grind (arith, nat_tests) in
          let first : low_of g b ≡ 1 = least_is_one g.log.0 high b before.horizons in
          let then_is : low_of g now ≡ 1 = least_is_one g.log.0 high now k.horizons in
          raised now keep.named k (omega arith) (inl (let e = before.low in omega arith))
