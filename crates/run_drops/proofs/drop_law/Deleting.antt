-- What a server was told to delete is below the least horizon of its log that the registry keeps; so nothing of a manager's log was deleted, of which no
-- horizon tells.
use Rattle.std.proofs.Common.{◌≡◌, ℕ, ◌<◌, ◌==◌, true, ap, subst, ◌∙◌, arith}
use Rattle.core_world.specs.declared.any_node.AnyNode.{AnyNode}
use Rattle.log_law.specs.Laws.{Moment}
use Rattle.log_law.specs.Net.{Net, opening}
use Rattle.log_law.specs.Net.Packet.{DeleteSent}
use Rattle.log_law.specs.Written.{WhatFlewIsWritten}
use Rattle.log_protocol.specs.Tables as tables
use Rattle.log_scan.specs.Transition.{least_horizon}
use Rattle.log_tie.specs.Setting.{Setting}
use Rattle.log_tie.specs.Shelves.{is_of_log}
use Rattle.loss_law.proofs.Events.{first_base}
use Rattle.loss_law.proofs.Growing.{Base}
use Rattle.loss_law.proofs.Interval.{passed}
use Rattle.node_logs.specs.node_log_tie.RegistryEvents.{RegistrySeen}
use Rattle.node_logs.specs.node_log_tie.Sight.{BodySeen, DeleteSeen}
use Rattle.registry.specs.Board.{board_slots}
use Rattle.registry.specs.BoardState.{BoardState}
use Rattle.segment_format.specs.declared.segment.Segment.{Segment}
use Rattle.token_protocol.specs.Basics.{In}
use Rattle.wire_msg.specs.declared.body.Body.TheVariants as body
use Rattle.wire_msg.specs.declared.packet.Packet.{Packet}
use Rattle.wire_msg.specs.declared.storage.Delete.{Delete}
use Rattle.world_base.specs.declared.estate.Estate.{Estate}
use Rattle.node_logs.proofs.node_log_tie.Horizons.{least_is_one}
use Rattle.headline.specs.Moments.{moment}
use Rattle.run_laws.proofs.world_logs.Roles.{high_log}
use Rattle.run_laws.specs.world_logs.Lines.{HasLines, setting}
use Rattle.run_laws.specs.world_logs.Roles.{asker_by}
use Rattle.headline.specs.Logs.{IsThere, Role, log_by}
use Rattle.headline.specs.Logs.Role.{OfManager}
use Rattle.xfs_base.specs.declared.segment.LogId.{LogId}
use Rattle.xfs_base.specs.declared.segment.SegName.{SegName}
use Rattle.xfs_base.proofs.Booleans.{equal_itself}

-- ---- one log

module _ (base : Setting) (e : Estate AnyNode) (lines : HasLines base e) (r : Role) (there : IsThere e.script.setup.clients e.script.setup.managers r)
    (count : ℕ) where
  abbrev g : Setting
  g = setting base e r

  abbrev n : Net
  n = ((lines r there).scene count).net

  abbrev m : Moment (setting base e r) ((lines r there).scene count).net
  m = ((lines r there).stands count).moment

  base_now : Base (setting base e r) ((lines r there).scene count).net
  base_now =
      (passed (setting base e r) (opening (setting base e r) m.map) ((lines r there).scene count).net (first_base (setting base e r) m.map) m.run).base

  -- below the least horizon that this board has of the log, where the small world sees that
  pub deleted_below : (b : BoardState) → RegistrySeen (setting base e r) ((lines r there).scene count).net b → (name : SegName)
      → name.log ≡ record { 0 = log_by r } → (p : Packet) (d : Delete) → In p (moment e count).sent → p.body ≡ body.Delete d → d.name ≡ name
      → name.seq < least_horizon (log_by r) (board_slots b)
  deleted_below b seen name own p d among fact same =
      let told : BodySeen (setting base e r) (asker_by r ((lines r there).scene count)) ((lines r there).scene count).net p.from p.to p.body =
      ((lines r there).stands count).facts p among in
      let deletes : DeleteSeen (setting base e r) (asker_by r ((lines r there).scene count)) ((lines r there).scene count).net d =
      subst (λ x. BodySeen (setting base e r) (asker_by r ((lines r there).scene count)) ((lines r there).scene count).net p.from p.to x) fact told in
      let of : is_of_log (setting base e r) d.name ≡ true =
      ap (is_of_log (setting base e r)) same ∙ (ap (λ (l : LogId). l.0 == log_by r) own ∙ equal_itself (log_by r)) in
      let dropped : tables.In name ((lines r there).scene count).net.dropped =
      subst (λ x. tables.In x ((lines r there).scene count).net.dropped) same (base_now.packets (DeleteSent d.name) (deletes of)) in
      subst (λ x. name.seq < x) seen.low (base_now.below name dropped)

-- nothing of a manager's log was deleted
module _ (written : WhatFlewIsWritten) (base : Setting) (e : Estate AnyNode) (lines : HasLines base e) (j : ℕ)
    (there : IsThere e.script.setup.clients e.script.setup.managers (OfManager j)) where
  pub none_deleted : (count later : ℕ) (b : BoardState)
      → RegistrySeen (setting base e (OfManager j)) ((lines (OfManager j) there).scene later).net b
      → (s : Segment) → tables.In s ((lines (OfManager j) there).scene count).net.flown → (p : Packet) (d : Delete) → In p (moment e later).sent
      → p.body ≡ body.Delete d → d.name ≡ s.name → ⊥
  none_deleted count later b seen s flew p d among fact same =
      let of = written (setting base e (OfManager j)) ((lines (OfManager j) there).scene count).net ((lines (OfManager j) there).stands count).moment s flew in
      let low = deleted_below base e lines (OfManager j) there later b seen s.name of.log p d among fact same in
      let one = least_is_one (log_by (OfManager j)) (high_log j there.0) b seen.horizons in
      let some = of.seq in
      absurd (omega arith)
