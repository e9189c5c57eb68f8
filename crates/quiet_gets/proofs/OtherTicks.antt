-- Time passes at servers and at the cleaner, which have nothing to say again, and at the registry, which tells the maps of the setup to all other nodes; and the maps
-- change nothing where they come.
use Rattle.cleaner_node.specs.CleanerEvents as cleaner
use Rattle.cleaner_node.specs.CleanerEvents.{cleaner_start, cleaner_step}
use Rattle.cleaner_serving.specs.EmptyingEvents as emptying
use Rattle.cleaner_serving.specs.Jobs as jobs
use Rattle.registry_node.specs.Events as registry
use Rattle.registry_node.specs.Events.{registry_start, registry_step}
use Rattle.store_nodes.specs.Rebuilds.{rebuilds}
use Rattle.store_nodes.specs.ServerEvents as server
use Rattle.store_nodes.specs.ServerEvents.{server_step}
use Rattle.wire_msg.specs.declared.packet.Do.TheVariants.{Deliver, Tick}
use Rattle.node_base.specs.Nodes.{others, peers_of}
use Rattle.client_log.specs.Transition as log
use Rattle.delta_feed.specs.Transition.{feed_push}
use Rattle.wire_msg.specs.declared.body.Body.TheVariants as body
use Rattle.node_base.specs.Effects.{acts_of, packets_of, send_each}
use Rattle.node_base.specs.declared.effects.Effect.{Effect}
use Rattle.quiet_gets.specs.Passing.{all_news, first_news, news_to}
use Rattle.quiet_nodes.specs.Scene.{server_at}
use Rattle.std.proofs.Common.{List, [], ap, map, refl, ℕ, ◌∙◌, ◌∷◌, ◌≡◌}
use Rattle.version_model.specs.declared.work.Work.{Work}
use Rattle.xfs_base.specs.declared.fragment.Fragment.{Fragment}
use Rattle.xfs_base.specs.declared.node.NodeId.TheVariants.{Cleaner, Registry, Server}
use Rattle.xfs_base.specs.declared.node.NodeId.{NodeId}
use Rattle.xfs_base.specs.declared.setup.Setup.{Setup}

module _ (setup : Setup) (works : NodeId → List Work) where
  -- ---- servers

  module _ (v : ℕ) (held : List Fragment) where
    pub server_ticks : server_step (server_at setup works v held) Tick ≡ record { node = server_at setup works v held; packets = []; acts = [] }
    unfolding server.on_tick rebuilds
    server_ticks = refl

    pub server_news : server_step (server_at setup works v held) (Deliver (news_to setup works (Server v)))
        ≡ record { node = server_at setup works v held; packets = []; acts = [] }
    unfolding server.on_packet server.takes_news
    server_news = refl

  -- ---- the cleaner

  pub cleaner_ticks : cleaner_step (cleaner_start setup (works Cleaner)) Tick ≡ record { node = cleaner_start setup (works Cleaner); packets = []; acts = [] }
  unfolding cleaner.on_time emptying.on_tick jobs.emptying_clean jobs.emptying_take emptying.emptying_write log.on_tick feed_push
  cleaner_ticks = refl

  pub cleaner_news : cleaner_step (cleaner_start setup (works Cleaner)) (Deliver (news_to setup works Cleaner))
      ≡ record { node = cleaner_start setup (works Cleaner); packets = []; acts = [] }
  unfolding cleaner.on_deliver cleaner.cleaner_hear emptying.on_packet emptying.take_news emptying.hear_slots emptying.hear_slot
  cleaner_news = refl

  -- ---- the registry

  sent_to : (names : List NodeId) → packets_of Registry (send_each names (body.MapNews (first_news setup works))) ≡ map (news_to setup works) names
  sent_to [] = refl
  sent_to (name ∷ names) = ap (λ ps. news_to setup works name ∷ ps) (sent_to names)

  none_acted : (names : List NodeId) → acts_of Registry (send_each names (body.MapNews (first_news setup works))) ≡ []
  none_acted [] = refl
  none_acted (name ∷ names) = none_acted names

  pub registry_ticks : registry_step (registry_start setup (works Registry)) Tick
      ≡ record { node = registry_start setup (works Registry); packets = all_news setup works; acts = [] }
  registry_ticks =
      ap (λ ps. record { node = registry_start setup (works Registry); packets = ps; acts = acts_of Registry said }) (sent_to (others (peers_of setup) Registry))
      ∙ ap (λ as_. record { node = registry_start setup (works Registry); packets = all_news setup works; acts = as_ }) (none_acted (others (peers_of setup) Registry))
    where
      said : List Effect
      said = send_each (others (peers_of setup) Registry) (body.MapNews (first_news setup works))

  pub registry_news : registry_step (registry_start setup (works Registry)) (Deliver (news_to setup works Registry))
      ≡ record { node = registry_start setup (works Registry); packets = []; acts = [] }
  unfolding registry.on_packet
  registry_news = refl
