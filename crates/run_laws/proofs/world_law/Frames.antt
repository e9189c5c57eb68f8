-- What other nodes do leaves a client seen as it was, where its log stands as it did.
use Rattle.std.specs.Prelude.{IfSome}
use Rattle.std.proofs.Common.{◌≡◌, ⊎_elim, ℕ, suc, Bool, ◌≤◌, ◌<◌, List, Option, None, Some, inl, inr, ap, sym, subst, ◌∙◌, arith}
use Rattle.client_log.specs.LogState.{LogState}
use Rattle.client_node.specs.declared.phase.Phase.{Phase as ClientPhase}
use Rattle.client_node.specs.declared.phase.Phase.TheVariants as clients
use Rattle.log_flight.specs.Flights.{FlightState}
use Rattle.node_slots.proofs.node_tie.SmallWorld.{premise_by}
use Rattle.node_slots.specs.node_tie.ClientLogs.{LogAgrees, NothingBeyond}
use Rattle.node_slots.specs.node_tie.LogRows.{LogSeen, rows_told}
use Rattle.node_slots.specs.node_tie.Sight.{SameLog}
use Rattle.node_slots.specs.node_tie.ClientEvents.{ClientAgrees, ClientStands, PromisesWithin}
use Rattle.token_client.specs.State.{TokensState, epoch_of}
use Rattle.token_law.specs.Books.{Books, Row}
use Rattle.token_law.specs.Net.{Net, Packet, Runs}
use Rattle.token_law.specs.Net.Runs.{Begun, On}
use Rattle.token_protocol.specs.Basics.{In}
use Rattle.xfs_base.specs.declared.block.BlockId.{BlockId}

-- one run after another
pub runs_on : (logs : Bool) (members part : ℕ) (n m o : Net) → Runs logs members part n m → Runs logs members part m o → Runs logs members part n o
runs_on logs members part n m o first Begun = first
runs_on logs members part n m o first (On more last) = On (runs_on logs members part n m _ first more) last

-- ---- a log

pub same_books : (k m : Books) → m ≡ k → (l : ℕ) → SameLog k m l
same_books k m fact l =
    record { end = ap (λ (b : Books). b.end l) fact; flying = ap (λ (b : Books). b.flying l) fact; rows = ap (λ (b : Books). b.rows l) fact }

module _ (k m : Books) (c : ℕ) (same : SameLog k m c) where
  beyond_on : NothingBeyond k c → NothingBeyond m c
  beyond_on h = λ q past. ap (λ (rows : ℕ → List (BlockId × Row)). rows q) same.rows ∙ h q (subst (λ e. suc e < q) same.end past)

  next_on : m.rows c (suc (m.end c)) ≡ k.rows c (suc (k.end c))
  next_on = ap (λ (rows : ℕ → List (BlockId × Row)). rows (suc (m.end c))) same.rows ∙ ap (λ e. k.rows c (suc e)) same.end

  seen_on : (l : LogState) → LogSeen k c l → LogSeen m c l
  seen_on l h = record { end = same.end ∙ h.end; flying = same.flying ∙ h.flying; flight = by l.flight h.flight }
    where
      by : (o : Option FlightState)
          → IfSome o (λ f. (f.segment.name.seq ≡ suc l.end.seq) × (k.rows c (suc (k.end c)) ≡ rows_told f.segment.items))
          → IfSome o (λ f. (f.segment.name.seq ≡ suc l.end.seq) × (m.rows c (suc (m.end c)) ≡ rows_told f.segment.items))
      by None h = tt
      by (Some f) h = (h.0, next_on ∙ h.1)

  log_on : (t : TokensState) (l : LogState) → LogAgrees k c t l → LogAgrees m c t l
  log_on t l h = record { seen = seen_on l h.seen; said = next_on ∙ h.said; beyond = beyond_on h.beyond; unsettled = h.unsettled }

-- ---- a client

module _ (logs : Bool) (part c : ℕ) (n m : Net) (tokens : m.tokens c ≡ n.tokens c) (up : m.up c ≡ n.up c) (log : SameLog n.books m.books c)
    (grows : (x : Packet) → In x n.sent → In x m.sent) where
  pub client_frame : (p : ClientPhase) → ClientAgrees logs part c n p → ClientAgrees logs part c m p
  client_frame (clients.Down l) h =
      record {
        up = up ∙ h.up;
        number = h.number;
        inc = subst (λ (t : TokensState). t.inc ≤ l.inc) (sym tokens) h.inc;
        beyond = premise_by logs (beyond_on n.books m.books c log) h.beyond;
      }
  client_frame (clients.Opening l o) h = record {
    up = up ∙ h.up;
    number = h.number;
    inc = subst (λ (t : TokensState). t.inc < l.inc) (sym tokens) h.inc;
    owner = h.owner;
    promised = ⊎_elim (λ first. inl first)
        (λ r. inr (record {
          epochs = r.epochs;
          rises = subst (λ (t : TokensState). epoch_of t.epochs part ≤ epoch_of o.known.promised.epochs part) (sym tokens) r.rises;
        })) h.promised;
    beyond = premise_by logs (beyond_on n.books m.books c log) h.beyond;
  }
  client_frame (clients.Serving s) h = record {
    up = up ∙ h.up;
    tokens = tokens ∙ h.tokens;
    number = h.number;
    inc = h.inc;
    epochs = h.epochs;
    giving = λ block g inside fact. grows _ (h.giving block g inside fact);
    valued = h.valued;
    logged = premise_by logs (log_on n.books m.books c log s.tokens s.log) h.logged;
  }

promises_more : (part limit more : ℕ) → limit ≤ more → (p : ClientPhase) → PromisesWithin part limit p → PromisesWithin part more p
promises_more part limit more rise (clients.Down l) h = tt
promises_more part limit more rise (clients.Opening l o) h = ⊎_elim (λ first. inl first) (λ within. inr (omega arith)) h
promises_more part limit more rise (clients.Serving s) h = tt

pub stands_frame : (part limit more c : ℕ) (n m : Net) → limit ≤ more → m.tokens c ≡ n.tokens c → (p : ClientPhase) → ClientStands part limit c n p
    → ClientStands part more c m p
stands_frame part limit more c n m rise tokens p h = record {
  asks = h.asks;
  within = subst (λ (t : TokensState). epoch_of t.epochs part ≤ more) (sym tokens) (up_to _ _ _ h.within rise);
  promises = promises_more part limit more rise p h.promises;
}
  where
    up_to : (a b c : ℕ) → a ≤ b → b ≤ c → a ≤ c
    up_to a b c h g = omega arith
