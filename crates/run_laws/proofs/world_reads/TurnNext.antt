-- Each moment of a run that stands to both small worlds of a slot, and of which logs, falls and what is told are known, stands to all small worlds; and so
-- does the one after an event.
use Rattle.std.proofs.Common.{arith, ◌≡◌, ⊎_elim, ℕ, suc, ◌<◌, ◌≤◌, false, Option, Some, slice_get, refl, sym, subst, ◌∙◌}
use Rattle.std.specs.List.{AllByRecursion}
use Rattle.std.specs.Prelude.{IfSome}
use Rattle.core_world.specs.AnyNode.{any_start, any_step}
use Rattle.core_world.specs.declared.any_node.AnyNode.{AnyNode}
use Rattle.core_world.specs.declared.any_node.AnyNode.TheVariants as any
use Rattle.headline.specs.Filed.{rows_at}
use Rattle.index_tie.specs.Growth.{IsMore}
use Rattle.log_flight.specs.Flights.{FlightState}
use Rattle.node_slots.proofs.owner_index_tie.Frames.{more_itself}
use Rattle.node_slots.specs.owner_index_tie.CleanerMoves.{ItemMoves}
use Rattle.run_laws.specs.reopening_law.Falls.{FallKnown}
use Rattle.run_laws.specs.reopening_law.Reopens.{TellsApart}
use Rattle.run_laws.specs.segment_tie.Cleaners.{CleanerWrites}
use Rattle.run_laws.specs.segment_tie.Clients.{ClientWrites}
use Rattle.run_laws.specs.segment_tie.Runs.{PacketTellsVersion}
use Rattle.world_base.specs.Cluster.{place_of}
use Rattle.world_base.specs.declared.cluster.Cluster.{Cluster}
use Rattle.world_base.specs.declared.event.Event.{Event}
use Rattle.world_base.specs.Events.{node_of, what_of}
use Rattle.world_base.specs.Runs.{IsRun, MayHappen}
use Rattle.headline.specs.Moments.{moment, node_in}
use Rattle.headline.specs.Logs.{Role, renews}
use Rattle.headline.specs.Logs.Role.{OfClient, OfCleaner}
use Rattle.run_laws.proofs.world_reads.After.{OfLogs, of_logs}
use Rattle.run_laws.proofs.world_reads.AfterWrites.{cleaner_writes_then, clients_write_then}
use Rattle.run_laws.proofs.world_reads.CleanerMoving.{moved_then}
use Rattle.run_laws.proofs.world_reads.Taking.{Took, took_it}
use Rattle.run_laws.proofs.world_reads.TurnActed.{acted_still, acted_then}
use Rattle.run_laws.proofs.world_reads.TurnBooks.{promised_left}
use Rattle.run_laws.proofs.world_reads.TurnBoth.{Both, IsOwed, Turned, both_of}
use Rattle.run_laws.proofs.world_reads.TurnCleaner.{promised_after}
use Rattle.run_laws.proofs.world_reads.TurnFalls.{FallsKnown, fell_then}
use Rattle.run_laws.proofs.world_reads.TurnFollows.{follows_itself, follows_turn}
use Rattle.run_laws.proofs.world_reads.TurnLinks.{cleaner_linked, clients_linked}
use Rattle.run_laws.proofs.world_reads.TurnLogs.{LogsKnown, cleaner_or_not, known_then, logs_known}
use Rattle.run_laws.proofs.world_reads.TurnMoment as now
use Rattle.run_laws.proofs.world_reads.TurnStill.{IsStill, Rests, flew_still, known_still, rested}
use Rattle.run_laws.specs.world_reads.Chains.{Follows}
use Rattle.run_laws.specs.world_reads.Entries.{EntriesStand}
use Rattle.run_laws.specs.world_reads.Joint.{Joint, LinesActed, There, flew_at, k}
use Rattle.run_laws.proofs.world_reads.Joint.{IsSureUpto}
use Rattle.xfs_base.specs.declared.node.NodeId.TheVariants.{Cleaner}
use Rattle.xfs_base.specs.Limits.{slot_count}
use Rattle.run_laws.proofs.world_reads.Below.{Below}
use Rattle.run_laws.specs.world_reads.LoggedRuns.{LoggedRun}

-- The moment after one that stands to all small worlds: it stands so and follows that one, and no less is filed than was.
pub record Grows (logged : LoggedRun) (part count : ℕ) (before : Joint logged part count) : Type 0 where
  pub joint : Joint logged part (suc count)
  pub more : IsMore before.idx.net.filed joint.idx.net.filed
  pub follows : Follows (k logged part) part before.tok before.idx.net joint.tok joint.idx.net

module _ (laws : Below) (logged : LoggedRun) (part : ℕ) (of_eight : part < slot_count) (apart : TellsApart logged.base)
    (run : IsRun any_step any_start logged.estate.script logged.estate.events logged.estate.world)
    (clusters : (count : ℕ) → (moment logged.estate count).cluster ≡ k logged part) where
  open logged use {estate as e, texts, first}

  abbrev cl : Cluster
  cl = k logged part

  -- ---- a moment

  -- what the cleaner's last flight moves was said
  abbrev pub FlightMoves : (count : ℕ) → Both logged part count → Type 0
  FlightMoves count b =
      IfSome (flew_at logged part OfCleaner tt count) (λ f. AllByRecursion (ItemMoves part b.idx.net.sent) f.segment.items)

  -- of blocks that live managers told versions from 1 on
  abbrev pub LivesTell : ℕ → Type 0
  LivesTell count = AllByRecursion PacketTellsVersion (moment e count).sent

  abbrev pub TellsEntries : (count : ℕ) → Both logged part count → Type 0
  TellsEntries count b = EntriesStand (rows_at b.idx.net.filed) (moment e count).nodes (moment e count).sent

  -- what of it isn't given by the small worlds themselves
  pub record IsKnown (count : ℕ) (b : Both logged part count) : Type 0 where
    pub logs : LogsKnown logged part count b
    pub falls : FallsKnown logged part count b
    pub moved : FlightMoves count b
    pub promised : b.idx.net.promised ≤ b.tok.net.promised
    pub acted : LinesActed logged part count b.idx.net.filed
    pub entries : TellsEntries count b

  clients_write : (count : ℕ) (b : Both logged part count) (c : ℕ) → 0 < c → c ≤ e.script.setup.clients
      → ClientWrites (b.tok.client c).phase
  clients_write count b c some limit =
      clients_write_then e run cl count (clusters count) laws.writing.runs_write_originals c (b.tok.client c)
      (now.client_here logged part count b c (some, limit))

  cleaner_writes : (count : ℕ) (b : Both logged part count) → LivesTell count → CleanerWrites b.tok.cleaner.phase
  cleaner_writes count b lives =
      cleaner_writes_then e run cl count (clusters count) laws.writing.runs_write_copies lives b.tok.cleaner
      (now.cleaner_here logged part count b)

  pub joint_of : (count : ℕ) (b : Both logged part count) → IsSureUpto logged part count → LivesTell count
      → IsKnown count b → Joint logged part count
  joint_of count b sure lives known =
      let logs : OfLogs logged part count b.tok.net.books b.idx.net.filed =
      of_logs logged part count b.tok.net.books b.idx.net.filed known.logs.all known.logs.none in
      record {
        tok = b.tok;
        tokens_stand = b.tokens_stand;
        idx = b.idx;
        index_stands = b.index_stands;
        slots = b.slots;
        entered = b.entered;
        books = logs.books;
        lined = logs.lined;
        alone = logs.alone;
        tells = logs.tells;
        acted = known.acted;
        flew = logs.flew;
        kind = logs.kind;
        fell = known.falls;
        clients_write = clients_write count b;
        cleaner_writes = cleaner_writes count b lives;
        moved = known.moved;
        promised = known.promised;
        clients_linked = clients_linked laws logged part of_eight count b sure known.logs;
        cleaner_linked = cleaner_linked laws logged part of_eight count b sure known.logs;
        entries = known.entries;
      }

  pub known_of : (count : ℕ) (joint : Joint logged part count) → IsKnown count (both_of logged part count joint)
  known_of count joint = record {
    logs = logs_known logged part count joint;
    falls = joint.fell;
    moved = joint.moved;
    promised = joint.promised;
    acted = joint.acted;
    entries = joint.entries;
  }

  -- ---- where no node takes an event

  module _ (count : ℕ) (joint : Joint logged part count) (sure : IsSureUpto logged part (suc count)) where
    abbrev b : Both logged part count
    b = both_of logged part count joint

    pub stays : LivesTell (suc count) → Rests logged part count
        → ((r : Role) (there : There logged part r) → renews r ≡ false → IsStill logged part count r there)
        → Grows logged part count joint
    unfolding joint_of
    stays lives rests still = record {
      joint = joint_of (suc count) (rested logged part count rests b) sure lives (record {
        logs = known_still logged part count rests b laws still sure known.logs;
        falls = λ c there. subst (λ acts. FallKnown acts c (flew_at logged part (OfClient c) there (suc count)) (b.tok.client c).phase)
            (sym rests.acts)
            (subst (λ flight. FallKnown (moment e count).acts c flight (b.tok.client c).phase) (sym (flew (OfClient c) there refl)) (known.falls c there));
        moved = subst (λ (o : Option FlightState). IfSome o (λ f. AllByRecursion (ItemMoves part b.idx.net.sent) f.segment.items))
            (sym (flew OfCleaner tt refl)) known.moved;
        promised = known.promised;
        acted = acted_still logged part count joint.idx.net.filed known.acted;
        entries = subst (λ nodes. EntriesStand (rows_at b.idx.net.filed) nodes (moment e (suc count)).sent) (sym rests.nodes)
            (subst (λ sent. EntriesStand (rows_at b.idx.net.filed) (moment e count).nodes sent) (sym rests.sent) known.entries);
      });
      more = more_itself joint.idx.net.filed;
      follows = follows_itself cl part texts.text first (moment e count).nodes (moment e count).sent joint.tok joint.idx joint.index_stands;
    }
      where
        known : IsKnown count b
        known = known_of count joint

        flew : (r : Role) (there : There logged part r) → renews r ≡ false
            → flew_at logged part r there (suc count) ≡ flew_at logged part r there count
        flew r there keeps = flew_still logged part count rests b laws still r there keeps

    -- ---- where a node takes it

    module _ (event : Event) (at : slice_get e.events count ≡ Some event) (may : MayHappen (moment e count) event) (node : AnyNode)
        (took : Took (moment e count) event node) (owed : IsOwed logged part count event b node)
        (turned : Turned logged part count event b node owed) where
      abbrev d : Both logged part (suc count)
      d = turned.then

      known : IsKnown count b
      known = known_of count joint

      logs : LivesTell (suc count) → LogsKnown logged part (suc count) d
      logs lives = known_then logged part laws of_eight apart count event at (clusters count) may b sure node took owed turned known.logs
          known.falls (clients_write (suc count) d) (cleaner_writes (suc count) d lives)

      moved : FlightMoves (suc count) d
      moved = moved_then logged part count joint.idx.net d.idx.net turned.grown.sent laws.reopenings.flights.others_leave_flights event at d.tok.cleaner
          (now.cleaner_here logged part (suc count) d) (now.cleaner_indexed logged part (suc count) d) joint.moved

      cleaner_at : node_of event ≡ Cleaner → (x : AnyNode) → Took (moment e count) event x → Some x ≡ Some (any.Cleaner b.tok.cleaner)
      cleaner_at own x t =
          sym (subst (λ name. node_in (moment e count).nodes (place_of cl name) ≡ Some x) own (took_it cl (moment e count) (clusters count) event x t))
          ∙ now.cleaner_here logged part count b

      own_promised : node_of event ≡ Cleaner → (x : AnyNode) → (t : Took (moment e count) event x) → (o : IsOwed logged part count event b x)
          → (n : Turned logged part count event b x o) → n.then.idx.net.promised ≤ n.then.tok.net.promised
      own_promised own (any.Cleaner x) t o n =
          promised_after laws logged part of_eight apart count event at (clusters count) may b sure own x t o n known.promised
      own_promised own (any.Client x) t o n = absurd (let clash = cleaner_at own (any.Client x) t in cc)
      own_promised own (any.Manager x) t o n = absurd (let clash = cleaner_at own (any.Manager x) t in cc)
      own_promised own (any.Server x) t o n = absurd (let clash = cleaner_at own (any.Server x) t in cc)
      own_promised own (any.Registry x) t o n = absurd (let clash = cleaner_at own (any.Registry x) t in cc)

      promised_left_so : (Cleaner ≡ node_of event → ⊥) → d.idx.net.promised ≤ d.tok.net.promised
      promised_left_so away =
          let same = promised_left part texts.text b.idx.net d.idx.net (what_of event) (node_of event) node turned.makes away in
          let low = known.promised in let rises = turned.since.promises in omega arith

      -- the moment after it, where what is told of where blocks lie is so
      pub taken : LivesTell (suc count) → (LogsKnown logged part (suc count) d → TellsEntries (suc count) d)
          → Grows logged part count joint
      unfolding joint_of
      taken lives entries = record {
        joint = joint_of (suc count) d sure lives (record {
          logs = logs lives;
          falls = fell_then logged part laws of_eight apart count event at (clusters count) may b sure node took owed turned known.logs
              known.falls (clients_write (suc count) d);
          moved = moved;
          promised = ⊎_elim (λ own. own_promised own node took owed turned) promised_left_so (cleaner_or_not (node_of event));
          acted = acted_then logged part count event at b.idx.asked b.idx.net d.idx.net (node_of event) refl node took owed.index turned.makes
              known.acted;
          entries = entries (logs lives);
        });
        more = turned.grown.filed;
        follows = follows_turn logged part count event at (clusters count) b node took owed turned;
      }
