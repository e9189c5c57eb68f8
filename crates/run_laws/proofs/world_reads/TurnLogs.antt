-- What is known of all logs at a moment of a run, and after an event that a node takes: the owner's log goes on, and others stay.
use Rattle.std.proofs.Common.{◌≡◌, ◌⊎◌, ⊎_elim, ◌≤◌, ◌<◌, ℕ, suc, true, false, Some, inl, inr, slice_get, refl, sym, ap, subst, ◌∙◌, arith}
use Rattle.core_world.specs.declared.any_node.AnyNode.{AnyNode}
use Rattle.core_world.specs.declared.any_node.AnyNode.TheVariants as any
use Rattle.node_slots.specs.node_tie.CleanerLogs.{its_log}
use Rattle.run_laws.specs.reopening_law.Falls.{FallKnown}
use Rattle.run_laws.specs.reopening_law.Reopens.{TellsApart}
use Rattle.run_laws.specs.segment_tie.Cleaners.{CleanerWrites}
use Rattle.run_laws.specs.segment_tie.Clients.{ClientWrites}
use Rattle.world_base.specs.Cluster.{place_of}
use Rattle.world_base.specs.declared.cluster.Cluster.{Cluster}
use Rattle.world_base.specs.declared.event.Event.{Event}
use Rattle.world_base.specs.Events.{node_of, what_of}
use Rattle.world_base.specs.Runs.{MayHappen}
use Rattle.run_laws.proofs.world_law.OtherTurns.{equal_or_not}
use Rattle.run_laws.proofs.world_law.Places.{behind}
use Rattle.headline.specs.Moments.{moment, node_in}
use Rattle.headline.specs.Logs.{Role, log_by, owner_by, renews}
use Rattle.headline.specs.Logs.Role.{OfClient, OfCleaner, OfManager}
use Rattle.run_laws.proofs.world_reads.After.{AllKnown, KnownAt, NothingElse, Owns, left_after}
use Rattle.run_laws.proofs.world_reads.Taking.{Took, took_it}
use Rattle.run_laws.proofs.world_reads.TurnBooks.{IsOther, books_left, filed_left}
use Rattle.run_laws.proofs.world_reads.TurnBoth.{Both, IsOwed, Turned, both_of}
use Rattle.run_laws.proofs.world_reads.TurnCleaner.{cleaner_known}
use Rattle.run_laws.proofs.world_reads.TurnClient.{client_known}
use Rattle.run_laws.proofs.world_reads.TurnMoment as now
use Rattle.run_laws.specs.world_reads.Joint.{Joint, There, flew_at, k}
use Rattle.run_laws.proofs.world_reads.Joint.{IsSureUpto}
use Rattle.xfs_base.proofs.Booleans.{contrary}
use Rattle.xfs_base.specs.declared.node.NodeId.{NodeId}
use Rattle.xfs_base.specs.declared.node.NodeId.TheVariants.{Client, Manager, Server, Cleaner, Registry}
use Rattle.xfs_base.specs.Limits.{slot_count, block_logs}
use Rattle.xfs_base.specs.Logs.{cleaners_number}
use Rattle.run_laws.proofs.world_reads.Below.{Below}
use Rattle.run_laws.specs.world_reads.LoggedRuns.{LoggedRun}

-- ---- names

same_number : (c d : ℕ) → Client c ≡ Client d → c ≡ d
same_number c d fact = cc

pub client_or_not : (c : ℕ) (name : NodeId) → (name ≡ Client c) ⊎ (Client c ≡ name → ⊥)
client_or_not c (Client d) = ⊎_elim (λ same. inl (ap Client same)) (λ other. inr (λ fact. other (sym (same_number c d fact)))) (equal_or_not d c)
client_or_not c (Manager j) = inr (λ fact. absurd cc)
client_or_not c (Server v) = inr (λ fact. absurd cc)
client_or_not c Cleaner = inr (λ fact. absurd cc)
client_or_not c Registry = inr (λ fact. absurd cc)

pub cleaner_or_not : (name : NodeId) → (name ≡ Cleaner) ⊎ (Cleaner ≡ name → ⊥)
cleaner_or_not (Client d) = inr (λ fact. absurd cc)
cleaner_or_not (Manager j) = inr (λ fact. absurd cc)
cleaner_or_not (Server v) = inr (λ fact. absurd cc)
cleaner_or_not Cleaner = inl refl
cleaner_or_not Registry = inr (λ fact. absurd cc)

other_client : (c : ℕ) → c < cleaners_number → (name : NodeId) → (Client c ≡ name → ⊥) → IsOther name c
other_client c below (Client d) away = λ same. away (ap Client same)
other_client c below (Manager j) away = tt
other_client c below (Server v) away = tt
other_client c below Cleaner away = λ same. absurd (omega arith)
other_client c below Registry away = tt

other_cleaner : (name : NodeId) → ((d : ℕ) → name ≡ Client d → d < block_logs) → (Cleaner ≡ name → ⊥) → IsOther name its_log
other_cleaner (Client d) below away = λ same. absurd (let less = below d refl in omega arith)
other_cleaner (Manager j) below away = tt
other_cleaner (Server v) below away = tt
other_cleaner Cleaner below away = absurd (away refl)
other_cleaner Registry below away = tt

module _ (logged : LoggedRun) (part : ℕ) where
  open logged use {base, estate as e, lines, texts}

  abbrev cl : Cluster
  cl = k logged part

  -- a log that nobody has isn't that of a node of the run
  nobodys : (l : ℕ) → ((r : Role) → Owns logged part l r → ⊥) → (name : NodeId)
      → ((d : ℕ) → name ≡ Client d → There logged part (OfClient d)) → IsOther name l
  nobodys l none (Client d) there = λ same. none (OfClient d) (there d refl, refl, sym same)
  nobodys l none (Manager j) there = tt
  nobodys l none (Server v) there = tt
  nobodys l none Cleaner there = λ same. none OfCleaner (tt, refl, sym same)
  nobodys l none Registry there = tt

  -- what is known of all logs
  pub record LogsKnown (count : ℕ) (b : Both logged part count) : Type 0 where
    pub all : AllKnown logged part count b.tok.net.books b.idx.net.filed
    pub none : NothingElse logged part b.tok.net.books b.idx.net.filed

  pub logs_known : (count : ℕ) (joint : Joint logged part count) → LogsKnown count (both_of logged part count joint)
  logs_known count joint = record { all = all; none = none }
    where
      numbered : (r : Role) (there : There logged part r) → renews r ≡ false → (0 < log_by r) × (log_by r ≤ block_logs)
      numbered (OfClient c) there keeps =
          (there.0, (let less = now.below logged part count (both_of logged part count joint) c there in omega arith))
      numbered OfCleaner there keeps = (omega arith, omega arith)
      numbered (OfManager j) there keeps = contrary (sym keeps)

      all : AllKnown logged part count joint.tok.net.books joint.idx.net.filed
      all r there keeps =
          let n = numbered r there keeps in
          record {
            known = record {
              books = record {
                end = joint.books.end (log_by r) n.0 n.1;
                rows = λ q some limit. joint.books.rows (log_by r) q n.0 n.1 some limit;
              };
              line = joint.lined r there keeps;
              flew = joint.flew r there keeps;
            };
            tells = λ q some limit. joint.tells (log_by r) q some limit;
            kind = joint.kind r there keeps;
          }

      none : NothingElse logged part joint.tok.net.books joint.idx.net.filed
      none = record {
        head = λ l free. joint.alone l (λ r there keeps fact. free r (there, keeps, fact));
        end = λ l some limit free. joint.books.end l some limit ∙ joint.alone l (λ r there keeps fact. free r (there, keeps, fact));
      }

  -- ---- a node takes the event

  module _ (laws : Below) (of_eight : part < slot_count) (apart : TellsApart base) (count : ℕ) (event : Event)
      (at_event : slice_get e.events count ≡ Some event) (cluster : (moment e count).cluster ≡ cl) (may : MayHappen (moment e count) event)
      (b : Both logged part count)
      (sure : IsSureUpto logged part (suc count)) (node : AnyNode)
      (took : Took (moment e count) event node) (owed : IsOwed logged part count event b node)
      (turned : Turned logged part count event b node owed) where
    abbrev d : Both logged part (suc count)
    d = turned.then

    -- a client to which it happens is one of the run
    pub is_there : (c : ℕ) → node_of event ≡ Client c → There logged part (OfClient c)
    is_there c own =
        let at : place_of cl (Client c) ≡ Some took.place = subst (λ name. place_of cl name ≡ Some took.place) own
        (subst (λ x. place_of x (node_of event) ≡ Some took.place) cluster took.placed) in
        let i = behind 0 cl.clients c took.place at in (i.some, i.within)

    below : (c : ℕ) → node_of event ≡ Client c → c < cleaners_number
    below c own = now.below logged part count b c (is_there c own)

    left : (r : Role) (there : There logged part r) → renews r ≡ false → (owner_by r ≡ node_of event → ⊥) → IsOther (node_of event) (log_by r)
        → LogsKnown count b → KnownAt logged part (suc count) d.tok.net.books d.idx.net.filed r there
    left r there keeps away other known =
        left_after logged part laws count b.tok.net.books d.tok.net.books b.idx.net.filed d.idx.net.filed r there
        ((lines r there).others count event at_event away)
        (books_left true owed.adopted b.tok.net d.tok.net (what_of event) (node_of event) node turned.books (log_by r) other)
        (filed_left part texts.text b.idx.net d.idx.net (what_of event) (node_of event) node turned.makes (log_by r) other)
        (known.all r there keeps)

    -- the node is that of its name
    named : (x : AnyNode) → Took (moment e count) event x → (name : NodeId) → node_of event ≡ name
        → node_in (moment e count).nodes (place_of cl name) ≡ Some x
    named x took name own =
        subst (λ name. node_in (moment e count).nodes (place_of cl name) ≡ Some x) own (took_it cl (moment e count) cluster event x took)

    client_at : (c : ℕ) (there : There logged part (OfClient c)) → node_of event ≡ Client c → (x : AnyNode)
        → Took (moment e count) event x → Some x ≡ Some (any.Client (b.tok.client c))
    client_at c there own x took = sym (named x took (Client c) own) ∙ now.client_here logged part count b c there

    cleaner_at : node_of event ≡ Cleaner → (x : AnyNode) → Took (moment e count) event x → Some x ≡ Some (any.Cleaner b.tok.cleaner)
    cleaner_at own x took = sym (named x took Cleaner own) ∙ now.cleaner_here logged part count b

    module _ (known : LogsKnown count b)
        (fell : (c : ℕ) (there : There logged part (OfClient c))
        → FallKnown (moment e count).acts c (flew_at logged part (OfClient c) there count) (b.tok.client c).phase)
        (clients_write : (c : ℕ) → 0 < c → c ≤ e.script.setup.clients → ClientWrites (d.tok.client c).phase)
        (cleaner_writes : CleanerWrites d.tok.cleaner.phase) where
      own_client : (c : ℕ) (there : There logged part (OfClient c)) → node_of event ≡ Client c → (x : AnyNode)
          → Took (moment e count) event x → (o : IsOwed logged part count event b x)
          → (t : Turned logged part count event b x o) → ClientWrites (t.then.tok.client c).phase
          → KnownAt logged part (suc count) t.then.tok.net.books t.then.idx.net.filed (OfClient c) there
      own_client c there own (any.Client x) took owed turned writes =
          client_known laws logged part apart count event at_event cluster b sure c there own x took owed turned writes known.all
          (fell c there)
      own_client c there own (any.Manager x) took owed turned writes = absurd (let clash = client_at c there own (any.Manager x) took in cc)
      own_client c there own (any.Server x) took owed turned writes = absurd (let clash = client_at c there own (any.Server x) took in cc)
      own_client c there own (any.Cleaner x) took owed turned writes = absurd (let clash = client_at c there own (any.Cleaner x) took in cc)
      own_client c there own (any.Registry x) took owed turned writes = absurd (let clash = client_at c there own (any.Registry x) took in cc)

      own_cleaner : node_of event ≡ Cleaner → (x : AnyNode) → Took (moment e count) event x → (o : IsOwed logged part count event b x)
          → (t : Turned logged part count event b x o) → CleanerWrites t.then.tok.cleaner.phase
          → KnownAt logged part (suc count) t.then.tok.net.books t.then.idx.net.filed OfCleaner tt
      own_cleaner own (any.Cleaner x) took owed turned writes =
          cleaner_known laws logged part of_eight apart count event at_event cluster may b sure own x took owed turned writes known.all
      own_cleaner own (any.Client x) took owed turned writes = absurd (let clash = cleaner_at own (any.Client x) took in cc)
      own_cleaner own (any.Manager x) took owed turned writes = absurd (let clash = cleaner_at own (any.Manager x) took in cc)
      own_cleaner own (any.Server x) took owed turned writes = absurd (let clash = cleaner_at own (any.Server x) took in cc)
      own_cleaner own (any.Registry x) took owed turned writes = absurd (let clash = cleaner_at own (any.Registry x) took in cc)

      all_then : AllKnown logged part (suc count) d.tok.net.books d.idx.net.filed
      all_then (OfClient c) there keeps = ⊎_elim (λ own. own_client c there own node took owed turned (clients_write c there.0 there.1))
          (λ away. left (OfClient c) there keeps away (other_client c (now.below logged part count b c there) (node_of event) away) known)
          (client_or_not c (node_of event))
      all_then OfCleaner there keeps = ⊎_elim (λ own. own_cleaner own node took owed turned cleaner_writes)
          (λ away. left OfCleaner there keeps away (other_cleaner (node_of event) below away) known)
          (cleaner_or_not (node_of event))
      all_then (OfManager j) there keeps = contrary (sym keeps)

      none_then : NothingElse logged part d.tok.net.books d.idx.net.filed
      none_then = record {
        head = λ l free. (filed_left part texts.text b.idx.net d.idx.net (what_of event) (node_of event) node turned.makes l
            (nobodys l free (node_of event) is_there)).head ∙ known.none.head l free;
        end = λ l some limit free. (books_left true owed.adopted b.tok.net d.tok.net (what_of event) (node_of event) node turned.books l
            (nobodys l free (node_of event) is_there)).end ∙ known.none.end l some limit free;
      }

      pub known_then : LogsKnown (suc count) d
      known_then = record { all = all_then; none = none_then }
