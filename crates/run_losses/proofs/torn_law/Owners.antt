-- The node of a log's owner, a client or the cleaner, beside the small world of its log: its scan is that of the owner, and what its events make of it; and
-- each node sends under its own name.
use Rattle.std.proofs.Common.{◌≡◌, ℕ, false, List, [], Option, Some, None, refl, sym, ap, subst}
use Rattle.xfs_base.specs.declared.node.NodeId.{NodeId}
use Rattle.xfs_base.specs.declared.node.NodeId.TheVariants as names
use Rattle.xfs_base.proofs.Booleans.{contrary}
use Rattle.node_logs.specs.cleaner_log_tie.Owner.{CleanerAgrees, its_number}
use Rattle.cleaner_node.specs.CleanerEvents as cleaners
use Rattle.cleaner_node.specs.declared.cleaner.Cleaner.{Cleaner}
use Rattle.cleaner_node.specs.declared.cleaner.Phase as cleaner_phases
use Rattle.cleaner_node.specs.declared.cleaner.Phase.TheVariants as cleaning
use Rattle.node_logs.specs.client_log_tie.Owner.{Scene, ClientAgrees, SeesScan, SeesStage}
use Rattle.client_node.specs.declared.client.Client.{Client}
use Rattle.client_node.specs.declared.phase.Phase as client_phases
use Rattle.client_node.specs.declared.phase.Phase.TheVariants as phase
use Rattle.client_node.specs.Phases as clients
use Rattle.core_world.specs.AnyNode.{any_step}
use Rattle.core_world.specs.declared.any_node.AnyNode.{AnyNode}
use Rattle.core_world.specs.declared.any_node.AnyNode.TheVariants as any
use Rattle.log_owner.specs.declared.known.Known.{Known}
use Rattle.log_owner.specs.declared.opening.Scanning.{Scanning}
use Rattle.log_owner.specs.declared.opening.Stage.{Stage}
use Rattle.log_owner.specs.declared.opening.Stage.TheVariants as stage
use Rattle.log_tie.specs.Setting.{Setting}
use Rattle.node_base.specs.declared.effects.Effect.{Effect}
use Rattle.node_base.specs.Effects.{acts_of, packets_of}
use Rattle.wire_msg.specs.declared.packet.Do.{Do}
use Rattle.headline.specs.Logs.{Role, owner_by, renews}
use Rattle.headline.specs.Logs.Role.{OfClient, OfCleaner, OfManager}
use Rattle.run_laws.specs.world_logs.Standing.{CleanerThere, ClientThere, Seen}
use Rattle.run_losses.proofs.torn_law.ClientScans as client_scans
use Rattle.run_losses.proofs.torn_law.ClientScans.{IsFresh, StageTurn, Turning, client_turns, some_is}
use Rattle.run_losses.proofs.torn_law.CleanerScans as cleaner_scans
use Rattle.run_losses.proofs.torn_law.CleanerScans.{cleaner_turns}
use Rattle.run_losses.proofs.torn_law.Drawn.{last_of}
use Rattle.headline.specs.Openings.{cleaners_scan, clients_scan, scan_in, scan_of}

-- its boot
abbrev pub boot_in : Option AnyNode → ℕ
boot_in None = 0
boot_in (Some (any.Client node)) = (clients.lasting_of node.phase).inc
boot_in (Some (any.Manager node)) = 0
boot_in (Some (any.Server node)) = 0
boot_in (Some (any.Cleaner node)) = (cleaners.lasting_of node.phase).inc
boot_in (Some (any.Registry node)) = 0

-- what an event has a client or the cleaner do
abbrev pub outs_of : AnyNode → Do → List Effect
outs_of (any.Client node) what = (clients.takes node what).outs
outs_of (any.Manager node) what = []
outs_of (any.Server node) what = []
outs_of (any.Cleaner node) what = (cleaners.takes node.peers node.phase what).outs
outs_of (any.Registry node) what = []

module _ (g : Setting) (w : Scene) where
  -- one that reads its log
  pub record Scans (s : Scanning) (last inc : ℕ) (Turns : Known → Type 0) : Type 0 where
    pub known : Known
    pub number : ℕ
    pub sees : SeesScan g number w known s last
    pub boot : w.net.inc ≡ inc
    pub turns : Turns known

  abbrev pub TurnsOf : AnyNode → Scanning → Known → Type 0
  TurnsOf x s k = (what : Do)
      → Turning k s what (last_of (Some x)) (boot_in (Some x)) (scan_of (Some (any_step x what).node)) (boot_in (Some (any_step x what).node)) (outs_of x what)

  pub record Owns (owner : NodeId) (x : AnyNode) : Type 0 where
    pub scans : (s : Scanning) → scan_of (Some x) ≡ Some s → Scans s (last_of (Some x)) (boot_in (Some x)) (TurnsOf x s)
    pub fresh : scan_of (Some x) ≡ None → (what : Do) → IsFresh (scan_of (Some (any_step x what).node))
    pub packets : (what : Do) → (any_step x what).packets ≡ packets_of owner (outs_of x what)
    pub acts : (what : Do) → (any_step x what).acts ≡ acts_of owner (outs_of x what)

  -- ---- its scan

  module _ (s : Scanning) (number : ℕ) (k : Known) (last inc : ℕ) (boot : w.net.inc ≡ inc) (After : Do → Option Scanning) (Life : Do → ℕ)
      (Outs : Do → List Effect) where
    by_stage : (at : Stage) → SeesStage g number w k last at → scan_in at ≡ Some s
        → ((what : Do) → StageTurn k last inc at what (After what) (Life what) (Outs what))
        → Scans s last inc (λ j. (what : Do) → Turning j s what last inc (After what) (Life what) (Outs what))
    by_stage (stage.Scanning t) sees fact turns =
        let same : s ≡ t = some_is t s fact in
        record {
          known = k;
          number = number;
          sees = subst (λ x. SeesScan g number w k x last) (sym same) sees;
          boot = boot;
          turns = λ what. subst (λ x. Turning k x what last inc (After what) (Life what) (Outs what)) (sym same) (turns what);
        }
    by_stage (stage.Settling t) sees fact turns = absurd cc

  fresh_stage : (k : Known) (last inc : ℕ) (what : Do) (after : Option Scanning) (life : ℕ) (outs : List Effect) (at : Stage) → scan_in at ≡ None
      → StageTurn k last inc at what after life outs → IsFresh after
  fresh_stage k last inc what after life outs (stage.Scanning t) none turns = absurd cc
  fresh_stage k last inc what after life outs (stage.Settling t) none turns = turns

  -- ---- a client

  module _ (c : ℕ) (node : Client) where
    client_scan : (p : client_phases.Phase) → ClientAgrees g c w p → ((what : Do) → client_scans.PhaseSo what p (clients.takes node what)) → (s : Scanning)
        → clients_scan p ≡ Some s
        → Scans s (clients.lasting_of p).questions.last (clients.lasting_of p).inc
        (λ k. (what : Do) → Turning k s what (clients.lasting_of p).questions.last (clients.lasting_of p).inc (clients_scan (clients.takes node what).state)
        (clients.lasting_of (clients.takes node what).state).inc (clients.takes node what).outs)
    client_scan (phase.Down l) agrees turns s fact = absurd cc
    client_scan (phase.Opening l o) agrees turns s fact =
        by_stage s c o.known l.questions.last l.inc agrees.0.inc (λ what. clients_scan (clients.takes node what).state)
        (λ what. (clients.lasting_of (clients.takes node what).state).inc) (λ what. (clients.takes node what).outs) o.stage agrees.1 fact turns
    client_scan (phase.Serving t) agrees turns s fact = absurd cc

    client_fresh : (p : client_phases.Phase) → (what : Do) → client_scans.PhaseSo what p (clients.takes node what) → clients_scan p ≡ None
        → IsFresh (clients_scan (clients.takes node what).state)
    client_fresh (phase.Down l) what turns none = turns
    client_fresh (phase.Opening l o) what turns none =
        fresh_stage o.known l.questions.last l.inc what _ (clients.lasting_of (clients.takes node what).state).inc
        (clients.takes node what).outs o.stage none turns
    client_fresh (phase.Serving t) what turns none = turns

    client_number : (p : client_phases.Phase) → ClientAgrees g c w p → (clients.lasting_of p).number ≡ c
    client_number (phase.Down l) agrees = agrees.0.number
    client_number (phase.Opening l o) agrees = agrees.0.number
    client_number (phase.Serving s) agrees = agrees.0.number

    client_owns : ClientAgrees g c w node.phase → Owns (names.Client c) (any.Client node)
    client_owns agrees = record {
      scans = λ s fact. client_scan node.phase agrees (client_turns node) s fact;
      fresh = λ none what. client_fresh node.phase what (client_turns node what) none;
      packets = λ what. ap (λ n. packets_of (names.Client n) (clients.takes node what).outs) (client_number node.phase agrees);
      acts = λ what. ap (λ n. acts_of (names.Client n) (clients.takes node what).outs) (client_number node.phase agrees);
    }

  -- ---- the cleaner

  module _ (node : Cleaner) where
    cleaner_scan : (p : cleaner_phases.Phase) → CleanerAgrees g w p
        → ((what : Do) → cleaner_scans.PhaseSo what p (cleaners.takes node.peers node.phase what)) → (s : Scanning)
        → cleaners_scan p ≡ Some s
        → Scans s (cleaners.lasting_of p).questions.last (cleaners.lasting_of p).inc
        (λ k. (what : Do) → Turning k s what (cleaners.lasting_of p).questions.last (cleaners.lasting_of p).inc
        (cleaners_scan (cleaners.takes node.peers node.phase what).state)
        (cleaners.lasting_of (cleaners.takes node.peers node.phase what).state).inc (cleaners.takes node.peers node.phase what).outs)
    cleaner_scan (cleaning.Down l) agrees turns s fact = absurd cc
    cleaner_scan (cleaning.Opening l o) agrees turns s fact =
        by_stage s its_number o.known l.questions.last l.inc agrees.lasts.inc (λ what. cleaners_scan (cleaners.takes node.peers node.phase what).state)
        (λ what. (cleaners.lasting_of (cleaners.takes node.peers node.phase what).state).inc)
        (λ what. (cleaners.takes node.peers node.phase what).outs) o.stage agrees.sees fact turns
    cleaner_scan (cleaning.Serving t) agrees turns s fact = absurd cc

    cleaner_fresh : (p : cleaner_phases.Phase) → (what : Do) → cleaner_scans.PhaseSo what p (cleaners.takes node.peers node.phase what)
        → cleaners_scan p ≡ None
        → IsFresh (cleaners_scan (cleaners.takes node.peers node.phase what).state)
    cleaner_fresh (cleaning.Down l) what turns none = turns
    cleaner_fresh (cleaning.Opening l o) what turns none =
        fresh_stage o.known l.questions.last l.inc what _ (cleaners.lasting_of (cleaners.takes node.peers node.phase what).state).inc
        (cleaners.takes node.peers node.phase what).outs o.stage none turns
    cleaner_fresh (cleaning.Serving t) what turns none = turns

    cleaner_owns : CleanerAgrees g w node.phase → Owns names.Cleaner (any.Cleaner node)
    cleaner_owns agrees = record {
      scans = λ s fact. cleaner_scan node.phase agrees (cleaner_turns node.peers node.phase) s fact;
      fresh = λ none what. cleaner_fresh node.phase what (cleaner_turns node.peers node.phase what) none;
      packets = λ what. refl;
      acts = λ what. refl;
    }

  -- ---- whichever owns the log

  client_there : (c : ℕ) (x : AnyNode) → ClientThere g (OfClient c) w c x → Owns (names.Client c) x
  client_there c (any.Client node) h = client_owns c node (h refl).agrees
  client_there c (any.Manager node) h = absurd h
  client_there c (any.Server node) h = absurd h
  client_there c (any.Cleaner node) h = absurd h
  client_there c (any.Registry node) h = absurd h

  cleaner_there : (x : AnyNode) → CleanerThere g OfCleaner w x → Owns names.Cleaner x
  cleaner_there (any.Client node) h = absurd h
  cleaner_there (any.Manager node) h = absurd h
  cleaner_there (any.Server node) h = absurd h
  cleaner_there (any.Cleaner node) h = cleaner_owns node h.agrees
  cleaner_there (any.Registry node) h = absurd h

  pub owner_owns : (r : Role) → renews r ≡ false → (x : AnyNode) → Seen g r w (owner_by r) x → Owns (owner_by r) x
  owner_owns (OfClient c) keeps x h = client_there c x h
  owner_owns OfCleaner keeps x h = cleaner_there x h
  owner_owns (OfManager j) keeps x h = contrary (sym keeps)
