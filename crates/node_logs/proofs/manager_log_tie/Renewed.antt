-- A manager's log begins anew in any later incarnation: the small world passes through those in which the manager never served.
use Rattle.std.proofs.Common.{◌≡◌, ◌<◌, ℕ, zero, suc, ◌+◌, ◌-◌, true, refl, sym, ap, subst, ◌∙◌, arith}
use Rattle.xfs_base.specs.Limits.{block_logs}
use Rattle.group_map.specs.GroupMapState.{GroupMapState}
use Rattle.client_log.specs.LogState.{log_start}
use Rattle.log_protocol.specs.Tables.{In}
use Rattle.log_tie.specs.Setting.{Setting}
use Rattle.log_law.specs.Net.{Net, no_end}
use Rattle.log_law.specs.Net.{Owner as owner}
use Rattle.log_law.specs.Net.Packet.{MapSent}
use Rattle.log_law.specs.Events.{Happens, Runs}
use Rattle.log_law.specs.Events.Happens.{Crashes, Renews}
use Rattle.log_law.specs.Events.Runs.{Begun, On}
use Rattle.node_logs.proofs.node_log_tie.Going.{runs_on}

-- the same but for the owner
pub record SameElse (n m : Net) : Type 0 where
  pub sent : m.sent ≡ n.sent
  pub filed : m.filed ≡ n.filed
  pub shelves : m.shelves ≡ n.shelves
  pub registry : m.registry ≡ n.registry
  pub low : m.low ≡ n.low
  pub dropped : m.dropped ≡ n.dropped

same_on : (n m o : Net) → SameElse n m → SameElse m o → SameElse n o
same_on n m o a b = record {
  sent = b.sent ∙ a.sent;
  filed = b.filed ∙ a.filed;
  shelves = b.shelves ∙ a.shelves;
  registry = b.registry ∙ a.registry;
  low = b.low ∙ a.low;
  dropped = b.dropped ∙ a.dropped;
}

module _ (g : Setting) where
  -- ---- the owner falls

  pub record Fall (n : Net) : Type 0 where
    pub net : Net
    pub happens : Happens g n net
    pub down : net.owner ≡ owner.Down
    pub inc : net.inc ≡ n.inc
    pub same : SameElse n net

  pub fall_of : (n : Net) → Fall n
  fall_of n = record {
    net = _;
    happens = Crashes;
    down = refl;
    inc = refl;
    same = record { sent = refl; filed = refl; shelves = refl; registry = refl; low = refl; dropped = refl };
  }

  -- ---- its log begins anew

  module _ (high : block_logs < g.log.0) (doubts : g.doubts ≡ true) (m : GroupMapState) where
    record Renewal (n : Net) : Type 0 where
      net : Net
      happens : Happens g n net
      owner : net.owner ≡ owner.Serving (log_start g.log (suc n.inc) no_end m)
      inc : net.inc ≡ suc n.inc
      same : SameElse n net

    renewal_of : (n : Net) → n.owner ≡ owner.Down → In (MapSent m) n.sent → Renewal n
    renewal_of n down came = record {
      net = _;
      happens = Renews m high doubts down came;
      owner = refl;
      inc = refl;
      same = record { sent = refl; filed = refl; shelves = refl; registry = refl; low = refl; dropped = refl };
    }

    -- in this incarnation
    pub record Renewed (n : Net) (life : ℕ) : Type 0 where
      pub net : Net
      pub runs : Runs g n net
      pub owner : net.owner ≡ owner.Serving (log_start g.log life no_end m)
      pub inc : net.inc ≡ life
      pub same : SameElse n net

    -- with so many between
    passed : (between : ℕ) (n : Net) → n.owner ≡ owner.Down → In (MapSent m) n.sent → Renewed n (suc (between + n.inc))
    passed zero n down came =
        let r : Renewal n = renewal_of n down came in
        let e : suc n.inc ≡ suc (zero + n.inc) = omega arith in
        record {
          net = r.net;
          runs = On Begun r.happens;
          owner = r.owner ∙ ap (λ k. owner.Serving (log_start g.log k no_end m)) e;
          inc = r.inc ∙ e;
          same = r.same;
        }
    passed (suc between) n down came =
        let r : Renewal n = renewal_of n down came in
        let f : Fall r.net = fall_of r.net in
        let same : SameElse n f.net = same_on n r.net f.net r.same f.same in
        let q : Renewed f.net (suc (between + f.net.inc)) = passed between f.net f.down (subst (In (MapSent m)) (sym same.sent) came) in
        let e : suc (between + f.net.inc) ≡ suc (suc between + n.inc) = (let x = f.inc in let y = r.inc in omega arith) in
        record {
          net = q.net;
          runs = runs_on g n f.net q.net (On (On Begun r.happens) f.happens) q.runs;
          owner = q.owner ∙ ap (λ k. owner.Serving (log_start g.log k no_end m)) e;
          inc = q.inc ∙ e;
          same = same_on n f.net q.net same q.same;
        }

    pub renewed : (n : Net) (life : ℕ) → n.inc < life → n.owner ≡ owner.Down → In (MapSent m) n.sent → Renewed n life
    renewed n life less down came =
        subst (Renewed n) (let e : suc ((life - suc n.inc) + n.inc) ≡ life = omega arith in e) (passed (life - suc n.inc) n down came)
