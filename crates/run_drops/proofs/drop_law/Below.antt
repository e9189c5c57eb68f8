-- What servers were told to delete is below the least horizon of its log that the registry keeps: as the small world of the log knows, by its registry.
use Rattle.std.proofs.Common.{◌≡◌, Option, Some, None, refl, subst, arith}
use Rattle.core_world.specs.declared.any_node.AnyNode.{AnyNode}
use Rattle.core_world.specs.declared.any_node.AnyNode.TheVariants as any
use Rattle.log_tie.specs.Exist.{SomeSetting}
use Rattle.log_tie.specs.Setting.{Setting}
use Rattle.node_logs.specs.client_log_tie.Owner.{Scene}
use Rattle.node_logs.specs.node_log_tie.RegistryEvents.{RegistrySeen}
use Rattle.registry.specs.BoardState.{BoardState}
use Rattle.world_base.specs.Cluster.{cluster_of, place_of}
use Rattle.run_laws.proofs.world_law.Laws.{NodeLaws, front}
use Rattle.headline.specs.Moments.{moment, node_in}
use Rattle.headline.specs.Horizons.{board_of}
use Rattle.run_laws.specs.world_logs.Lines.{RunsHaveLines, setting}
use Rattle.headline.specs.Logs.{Role}
use Rattle.run_laws.specs.world_logs.Standing.{Seen}
use Rattle.xfs_base.specs.declared.node.NodeId.TheVariants.{Registry}
use Rattle.run_drops.proofs.drop_law.Deleting.{deleted_below}
use Rattle.run_drops.specs.drop_law.Drops.{EveryRunDeletesBelowHorizons}

-- a registry that stands there is seen by its board
seen_by : (g : Setting) (r : Role) (w : Scene) (o : Option AnyNode) → ((x : AnyNode) → o ≡ Some x → Seen g r w Registry x) → (b : BoardState)
    → board_of o ≡ Some b → RegistrySeen g w.net b
seen_by g r w None seen b fact = (let clash : None ≡ Some b = fact in absurd (cc))
seen_by g r w (Some (any.Client node)) seen b fact = (let clash : None ≡ Some b = fact in absurd (cc))
seen_by g r w (Some (any.Manager node)) seen b fact = (let clash : None ≡ Some b = fact in absurd (cc))
seen_by g r w (Some (any.Server node)) seen b fact = (let clash : None ≡ Some b = fact in absurd (cc))
seen_by g r w (Some (any.Cleaner node)) seen b fact = (let clash : None ≡ Some b = fact in absurd (cc))
seen_by g r w (Some (any.Registry node)) seen b fact = subst (RegistrySeen g w.net) (same node.board b fact) (seen (any.Registry node) refl)
  where
    same : (x y : BoardState) → Some x ≡ Some y → x ≡ y
    same x y fact = cc

pub every_run_below : NodeLaws → SomeSetting → RunsHaveLines → EveryRunDeletesBelowHorizons
every_run_below laws some have e ok run count r there b fact name told own =
    let base = some.0 in
    let lines = have base e ok run in
    let stands = (lines r there).stands count in
    let cluster = (front laws e ok run count 0 (omega arith)).0 in
    deleted_below base e lines r there count b
    (seen_by (setting base e r) r ((lines r there).scene count) (node_in (moment e count).nodes (place_of (cluster_of e.script.setup) Registry))
    (λ x at. stands.seen Registry x at) b
    (subst (λ c. board_of (node_in (moment e count).nodes (place_of c Registry)) ≡ Some b) cluster fact)) name own told.0 (record { name = name })
    told.1 told.2 refl
