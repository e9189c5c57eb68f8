-- What is known of each kind of node by the number that it filed last; so each files its log one segment after another.
use Rattle.std.proofs.Common.{◌≡◌, ℕ, Some, None, refl, sym, ap, subst, ◌∙◌}
use Rattle.client_log.specs.LogState.{LogState}
use Rattle.client_node.specs.declared.client.Client.{Client}
use Rattle.client_node.specs.declared.phase.Phase.{Phase}
use Rattle.client_node.specs.declared.phase.Phase.TheVariants.{Down, Opening, Serving as Serves}
use Rattle.client_node.specs.Phases.{lasting_of, takes}
use Rattle.core_world.specs.declared.any_node.AnyNode.{AnyNode}
use Rattle.core_world.specs.declared.any_node.AnyNode.TheVariants as any
use Rattle.node_base.specs.Effects.{acts_of}
use Rattle.wire_msg.specs.declared.packet.Do.{Do}
use Rattle.world_base.specs.declared.estate.Estate.{Estate}
use Rattle.xfs_base.specs.declared.node.NodeId.{NodeId}
use Rattle.xfs_base.specs.declared.node.NodeId.TheVariants as nodes
use Rattle.headline.specs.Filings.{FilesOn, filed_last, files_from, own_log}
use Rattle.headline.specs.Restarts.{clients_log}
use Rattle.run_answers.proofs.file_law.Cleaning.{cleaner_kind}
use Rattle.run_answers.proofs.file_law.Clients as clients
use Rattle.run_answers.proofs.file_law.Clients.{PhaseFiles, client_files}
use Rattle.run_answers.proofs.file_law.Managing.{manager_kind}
use Rattle.run_answers.proofs.file_law.Owners.{Kind, Turned, files_its_log}
use Rattle.run_answers.proofs.file_law.Silence.{files_open}
use Rattle.run_answers.specs.file_law.Runs.{EachRunsNodesFileOn}

no_log : (l : LogState) → None ≡ Some l → ⊥
no_log l fact = cc

one_log : (a b : LogState) → Some a ≡ Some b → a ≡ b
one_log a b fact = cc

-- ---- clients

module _ (n : ℕ) where
  abbrev ClientHolds : ℕ → AnyNode → Type 0
  ClientHolds last (any.Client c) = PhaseFiles n last c.phase
  ClientHolds last _ = ⊥

  number_is : (last : ℕ) (p : Phase) → PhaseFiles n last p → (lasting_of p).number ≡ n
  number_is last (Down l) h = h
  number_is last (Opening l o) h = h.0
  number_is last (Serves s) h = h.0

  one_turns : (last : ℕ) (c : Client) (what : Do) → PhaseFiles n last c.phase → Turned (nodes.Client n) ClientHolds last (any.Client c) what
  one_turns last c what h =
      let w = takes c what in
      let t : clients.Turned n last c.phase w = client_files n last c what h in
      let same : (lasting_of c.phase).number ≡ n = number_is last c.phase h in
      record {
        holds = subst (λ k. PhaseFiles n (filed_last last (acts_of (nodes.Client k) w.outs)) w.state) (sym same) t.holds;
        numbers = λ l fact. subst (λ k. FilesOn (record { 0 = n }) l.inc last (acts_of (nodes.Client k) w.outs)) (sym same) (t.numbers l fact);
        opens = t.opens;
        stays = t.stays;
      }

  client_turns : (last : ℕ) (x : AnyNode) (what : Do) → ClientHolds last x → Turned (nodes.Client n) ClientHolds last x what
  client_turns last (any.Client c) what h = one_turns last c what h
  client_turns last (any.Manager m) what h = absurd h
  client_turns last (any.Server v) what h = absurd h
  client_turns last (any.Cleaner c) what h = absurd h
  client_turns last (any.Registry r) what h = absurd h

  client_rests : (last : ℕ) (x : AnyNode) → ClientHolds last x → ClientHolds (files_from (Some x) last) x
  client_rests last (any.Client c) h = h
  client_rests last (any.Manager m) h = absurd h
  client_rests last (any.Server v) h = absurd h
  client_rests last (any.Cleaner c) h = absurd h
  client_rests last (any.Registry r) h = absurd h

  phase_ends : (last : ℕ) (p : Phase) (l : LogState) → PhaseFiles n last p → clients_log p ≡ Some l → l.end.seq ≡ last
  phase_ends last (Down m) l h fact = absurd (no_log l fact)
  phase_ends last (Opening m o) l h fact = absurd (no_log l fact)
  phase_ends last (Serves s) l h fact = ap (λ (x : LogState). x.end.seq) (sym (one_log s.log l fact)) ∙ h.1.1

  client_ends : (last : ℕ) (x : AnyNode) (l : LogState) → ClientHolds last x → own_log (Some x) ≡ Some l → l.end.seq ≡ last
  client_ends last (any.Client c) l h fact = phase_ends last c.phase l h fact
  client_ends last (any.Manager m) l h fact = absurd h
  client_ends last (any.Server v) l h fact = absurd h
  client_ends last (any.Cleaner c) l h fact = absurd h
  client_ends last (any.Registry r) l h fact = absurd h

  client_kind : (e : Estate AnyNode) → Kind (nodes.Client n) e
  client_kind e = record {
    Holds = ClientHolds;
    starts = λ works. (refl, (record { its = refl; boot = refl; flies = tt }, refl));
    rests = client_rests;
    ends = client_ends;
    turns = client_turns;
  }

-- ---- servers own no log

module _ (n : ℕ) where
  abbrev ServerHolds : ℕ → AnyNode → Type 0
  ServerHolds last (any.Server v) = Unit {0}
  ServerHolds last _ = ⊥

  server_turns : (last : ℕ) (x : AnyNode) (what : Do) → ServerHolds last x → Turned (nodes.Server n) ServerHolds last x what
  server_turns last (any.Client c) what h = absurd h
  server_turns last (any.Manager m) what h = absurd h
  server_turns last (any.Server v) what h = record {
    holds = tt;
    numbers = λ l fact. absurd (no_log l fact);
    opens = λ none l fact. absurd (no_log l fact);
    stays = λ was l before. absurd (no_log was before);
  }
  server_turns last (any.Cleaner c) what h = absurd h
  server_turns last (any.Registry r) what h = absurd h

  server_rests : (last : ℕ) (x : AnyNode) → ServerHolds last x → ServerHolds (files_from (Some x) last) x
  server_rests last (any.Client c) h = absurd h
  server_rests last (any.Manager m) h = absurd h
  server_rests last (any.Server v) h = tt
  server_rests last (any.Cleaner c) h = absurd h
  server_rests last (any.Registry r) h = absurd h

  server_ends : (last : ℕ) (x : AnyNode) (l : LogState) → ServerHolds last x → own_log (Some x) ≡ Some l → l.end.seq ≡ last
  server_ends last (any.Client c) l h fact = absurd h
  server_ends last (any.Manager m) l h fact = absurd h
  server_ends last (any.Server v) l h fact = absurd (no_log l fact)
  server_ends last (any.Cleaner c) l h fact = absurd h
  server_ends last (any.Registry r) l h fact = absurd h

  server_kind : (e : Estate AnyNode) → Kind (nodes.Server n) e
  server_kind e = record { Holds = ServerHolds; starts = λ works. tt; rests = server_rests; ends = server_ends; turns = server_turns }

-- ---- nor does the registry

abbrev RegistryHolds : ℕ → AnyNode → Type 0
RegistryHolds last (any.Registry r) = Unit {0}
RegistryHolds last _ = ⊥

registry_turns : (last : ℕ) (x : AnyNode) (what : Do) → RegistryHolds last x → Turned nodes.Registry RegistryHolds last x what
registry_turns last (any.Client c) what h = absurd h
registry_turns last (any.Manager m) what h = absurd h
registry_turns last (any.Server v) what h = absurd h
registry_turns last (any.Cleaner c) what h = absurd h
registry_turns last (any.Registry r) what h = record {
  holds = tt;
  numbers = λ l fact. absurd (no_log l fact);
  opens = λ none l fact. absurd (no_log l fact);
  stays = λ was l before. absurd (no_log was before);
}

registry_rests : (last : ℕ) (x : AnyNode) → RegistryHolds last x → RegistryHolds (files_from (Some x) last) x
registry_rests last (any.Client c) h = absurd h
registry_rests last (any.Manager m) h = absurd h
registry_rests last (any.Server v) h = absurd h
registry_rests last (any.Cleaner c) h = absurd h
registry_rests last (any.Registry r) h = tt

registry_ends : (last : ℕ) (x : AnyNode) (l : LogState) → RegistryHolds last x → own_log (Some x) ≡ Some l → l.end.seq ≡ last
registry_ends last (any.Client c) l h fact = absurd h
registry_ends last (any.Manager m) l h fact = absurd h
registry_ends last (any.Server v) l h fact = absurd h
registry_ends last (any.Cleaner c) l h fact = absurd h
registry_ends last (any.Registry r) l h fact = absurd (no_log l fact)

registry_kind : (e : Estate AnyNode) → Kind nodes.Registry e
registry_kind e = record { Holds = RegistryHolds; starts = λ works. tt; rests = registry_rests; ends = registry_ends; turns = registry_turns }

-- ---- all of them

kind_of : (e : Estate AnyNode) (name : NodeId) → Kind name e
kind_of e (nodes.Client n) = client_kind n e
kind_of e (nodes.Manager n) = manager_kind n e
kind_of e (nodes.Server n) = server_kind n e
kind_of e nodes.Cleaner = cleaner_kind e
kind_of e nodes.Registry = registry_kind e

pub each_node : EachRunsNodesFileOn
each_node e name = files_its_log e name (kind_of e name) files_open
