-- What a client says is lost while it reads a block was torn: the Grant that confirmed where the block lies was sent after servers had missed the segment
-- twice, and it leads to what stood then; and where a manager answered that it is gone, that stands too.
use Rattle.std.proofs.Common.{◌≡◌, ⊎_elim, ℕ, ◌<◌, ◌≤◌, Option, Some, None, slice_get, sym, ap, subst, ◌∙◌, inl, inr, arith}
use Rattle.client_node.specs.declared.phase.Phase.{Phase}
use Rattle.client_node.specs.declared.phase.Phase.TheVariants.{Down, Opening, Serving as Serves}
use Rattle.client_serving.specs.declared.serving.Serving.{Serving}
use Rattle.core_world.specs.AnyNode.{any_start, any_step}
use Rattle.core_world.specs.declared.any_node.AnyNode.{AnyNode}
use Rattle.core_world.specs.declared.any_node.AnyNode.TheVariants as any
use Rattle.run_losses.specs.fetched_law.Reads.{CallsReadWhatIsStored, CallsReadWhatWasFiled}
use Rattle.run_losses.specs.fetching_law.Fetchings.{FetchesLossesEarned, WasTornInFetch}
use Rattle.headline.specs.Reads.{WasTornInRead, serving_at, serving_in, serving_of}
use Rattle.run_losses.specs.keeping_law.Keeping.{GrantsLeadToWhatStands, WouldAccept}
use Rattle.node_base.specs.Setups.{IsSetup}
use Rattle.headline.specs.Restarts.{NoDoubtfulRestart}
use Rattle.segment_reading.specs.declared.target.Target.{Target}
use Rattle.run_losses.specs.standing_law.Gone.{GonesAreOfWhatStands}
use Rattle.token_client.specs.State.{TokensState}
use Rattle.headline.specs.Torn.{IsTornAt}
use Rattle.run_losses.proofs.torn_law.Counts.{may_happen}
use Rattle.run_losses.proofs.torn_law.Turns.{brought}
use Rattle.wire_msg.specs.declared.packet.Packet.{Packet}
use Rattle.world_base.specs.declared.estate.Estate.{Estate}
use Rattle.world_base.specs.declared.event.Event.{Event}
use Rattle.world_base.specs.Events.{node_of, what_of}
use Rattle.world_base.specs.Runs.{IsRun}
use Rattle.headline.specs.Moments.{moment, node_named}
use Rattle.headline.specs.Owners.{tokens_in, tokens_of}
use Rattle.headline.specs.Segments.{NotDeleted}
use Rattle.xfs_base.specs.declared.node.NodeId.TheVariants as nodes
use Rattle.xfs_base.specs.declared.segment.SegName.{SegName}
use Rattle.run_losses.specs.lost_law.Reads.{ReadsLoseWhatIsTorn}

-- the tokens of a client that serves

tokens_served : (p : Phase) (s : Serving) → serving_in p ≡ Some s → tokens_in p ≡ Some s.tokens
tokens_served (Down l) s fact = absurd cc
tokens_served (Opening l o) s fact = absurd cc
tokens_served (Serves t) s fact = ap (λ (o : Option Serving). tokens_now o) fact
  where
    tokens_now : Option Serving → Option TokensState
    tokens_now None = None
    tokens_now (Some x) = Some x.tokens

tokens_there : (o : Option AnyNode) (s : Serving) → serving_of o ≡ Some s → tokens_of o ≡ Some s.tokens
tokens_there None s fact = absurd cc
tokens_there (Some (any.Client node)) s fact = tokens_served node.phase s fact
tokens_there (Some (any.Manager node)) s fact = absurd cc
tokens_there (Some (any.Server node)) s fact = absurd cc
tokens_there (Some (any.Cleaner node)) s fact = absurd cc
tokens_there (Some (any.Registry node)) s fact = absurd cc

module _ (keeps : GrantsLeadToWhatStands) (e : Estate AnyNode) (setup : IsSetup e.script.setup) (run : IsRun any_step any_start e.script e.events e.world)
    (c count : ℕ) (none : NoDoubtfulRestart e count) (event : Event) (fact : slice_get e.events count ≡ Some event) (own : nodes.Client c ≡ node_of event)
    (s : Serving) (serves : serving_at e c count ≡ Some s) (name : SegName) where
  torn_so : CallsReadWhatWasFiled → CallsReadWhatIsStored → 0 < c → c ≤ e.script.setup.clients → WasTornInFetch e c s count (what_of event) name
      → WasTornInRead e c count name
  torn_so filed stored some within w = record {
    segment = w.reading.target.seg;
    named = w.named;
    item = w.item;
    when = w.first;
    before = first_before;
    reads = w.reads;
    filed = filed e setup run w.first undoubted c some within w.item w.reading.target.seg (w.reads w.first (omega arith) first_before);
    torn = torn;
    stored = stored e setup run w.first undoubted c some within w.item w.reading.target.seg (w.reads w.first (omega arith) first_before) torn.kept;
  }
    where
      first_before : w.first ≤ count
      first_before = (let a = w.in_order in let b = w.before in omega arith)

      undoubted : NoDoubtfulRestart e w.first
      undoubted r n less = none r n (let a = first_before in omega arith)

      packet : Packet
      packet = w.confirms.packet

      would : WouldAccept (moment e count) c packet w.confirms.place
      would =
          let got = brought (moment e count) event (may_happen e run count event fact) packet w.confirms.delivers in
          record {
            tokens = s.tokens;
            serves = tokens_there (node_named (moment e count) (nodes.Client c)) s serves;
            sent = got.0;
            to = got.1 ∙ sym own;
            grant = w.confirms.grant;
            bears = w.confirms.bears;
            accepted = w.accepted;
            leads = w.confirms.lies;
          }

      -- when servers had missed it twice it stood
      stood : NotDeleted (moment e w.second) name
      stood =
          subst (NotDeleted (moment e w.second)) (sym (w.named ∙ ap (λ (t : Target). t.seg.name) w.confirms.reads))
          (keeps e setup run count none c packet w.confirms.place would w.second w.before w.asked_after)

      torn : IsTornAt e w.first w.reading.target.seg
      torn = w.torn stood

pub reads_lose : FetchesLossesEarned → GonesAreOfWhatStands → GrantsLeadToWhatStands → CallsReadWhatWasFiled → CallsReadWhatIsStored → ReadsLoseWhatIsTorn
reads_lose fetches told keeps filed stored e setup run c some within count none event fact own s serves name among =
    ⊎_elim (λ gone. inl (told e setup run count none c event fact own s serves name among gone))
    (λ w. inr (torn_so keeps e setup run c count none event fact own s serves name filed stored some within w))
    (fetches e setup run c some within count event fact own s serves name among)
