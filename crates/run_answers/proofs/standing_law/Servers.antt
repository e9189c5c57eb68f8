-- What an event of a storage server answers it may answer, and its open item stays a rebuild.
use Rattle.std.proofs.Common.{◌≡◌, ℕ, List, [], ◌∷◌, Option, Some, None, is_some, refl, sym, ap, subst, ◌∙◌}
use Rattle.core_world.specs.declared.any_node.AnyNode.TheVariants as any
use Rattle.group_map.specs.GroupMapState.{GroupMapState}
use Rattle.group_rebuild.specs.declared.input.In.TheVariants as input
use Rattle.group_rebuild.specs.RebuildState.{rebuild_start}
use Rattle.node_base.specs.Asking.{draw, next_ask}
use Rattle.node_base.specs.Beginning.{items_begin, next_item, items_wait, work_at}
use Rattle.node_base.specs.declared.effects.Effect.TheVariants.{Answer as Answers}
use Rattle.serving_moves.proofs.item_moves.Servers.{Goes, packet_goes, rebuilds_go, tick_goes}
use Rattle.serving_moves.specs.item_moves.Moves.Losses.{Silent}
use Rattle.store_nodes.specs.declared.server.Server.{Server as Node}
use Rattle.store_nodes.specs.Rebuilds.{Done, rebuilds}
use Rattle.store_nodes.specs.ServerEvents as events
use Rattle.store_nodes.specs.ServerEvents.{takes, wish_of}
use Rattle.version_model.specs.declared.answer.Answer.TheVariants as answer
use Rattle.version_model.specs.declared.work.Work.{Work}
use Rattle.version_model.specs.declared.work.Work.TheVariants as work
use Rattle.wire_msg.specs.declared.packet.Do.{Do}
use Rattle.wire_msg.specs.declared.packet.Do.TheVariants.{Begin, Deliver, Tick}
use Rattle.xfs_base.proofs.Booleans.{by_test}
use Rattle.xfs_base.specs.Steps.{still}
use Rattle.run_answers.proofs.once_law.Items.{begun_open, begun_works}
use Rattle.run_answers.proofs.standing_law.Allowed.{May, at_once, falls_meet, is_open, rebuilds_meet}
use Rattle.run_answers.proofs.standing_law.Meeting.{AllMeet, Moved, none_open, one_number}
use Rattle.headline.specs.Items.{IsOpen, asked_at}
use Rattle.headline.specs.Standings.{IsRebuild}

module _ (works : List Work) where
  abbrev pub Asks : Node → Type 0
  Asks v = (item : ℕ) → IsOpen v.items item → IsRebuild (asked_at works item)

  module _ (v : Node) where
    pub record Turned (d : Done) : Type 0 where
      pub asks : Asks d.state
      pub meets : AllMeet (May works (any.Server v) (any.Server d.state)) d.outs

    -- a server that has such items goes on
    stored : (w : Node) (d : Done) → Asks w → Goes w d → Turned d
    stored w d asks g =
        let moved : Moved (May works (any.Server v) (any.Server d.state)) (IsOpen w.items) d.outs d.state.items =
        rebuilds_meet works (any.Server v) (any.Server d.state) (IsOpen w.items) refl Silent asks w.items d.state.items d.outs (λ item waits. waits) g.moves in
        record { asks = λ item waits. asks item (moved.opens item waits); meets = moved.meets }

    module _ (number : ℕ) (next : next_item v.items ≡ Some number) (asks : Asks v) where
      abbrev w : Node
      w = record v { items = items_begin v.items }

      still_asks : (item : ℕ) → IsOpen w.items item → IsRebuild (asked_at works item)
      still_asks item waits = asks item (sym (begun_open v.items) ∙ waits)

      idle : Turned (still w)
      idle = record { asks = still_asks; meets = tt }

      lose_so : (server : ℕ) → asked_at works number ≡ Some (work.Lose server) → Turned (events.on_lose w number)
      unfolding events.on_lose
      lose_so server asked = record {
        asks = λ item waits. absurd (none_open item waits);
        meets = falls_meet works (any.Server v) (any.Server (events.on_lose w number).state) w.items.unanswered number (Some (work.Lose server))
            (λ item waits. sym (begun_open v.items) ∙ waits) refl asked (next, refl) Silent _ (tt, tt);
      }

      begins_so : (server : ℕ) → asked_at works number ≡ Some (work.Rebuild server) → (groups : Option GroupMapState)
          → Turned (events.begins_rebuild w number groups)
      begins_so server asked None = idle
      begins_so server asked (Some groups) =
          let u : Node = record w {
            items = items_wait w.items number;
            questions = draw w.questions;
            rebuilding = Some (record { rebuild = rebuild_start w.number groups; lists = next_ask w.questions; fetches = record { own = 0; ask = 0 } });
          } in
          stored u (rebuilds u input.Tick)
          (λ item waits. subst (λ n. IsRebuild (asked_at works n)) (one_number number item waits) (subst IsRebuild (sym asked) tt)) (rebuilds_go u input.Tick)

      -- a rebuild begins, which is refused while another is open
      rebuild_so : (server : ℕ) → asked_at works number ≡ Some (work.Rebuild server) → Turned (events.on_rebuild w number)
      unfolding events.on_rebuild
      rebuild_so server asked =
          by_test Turned (is_some w.items.unanswered) (events.tells w (Answers number answer.Busy ∷ [])) (events.begins_rebuild w number w.maps.groups)
          (λ waits. busy (is_open w.items.unanswered waits)) (λ _. begins_so server asked w.maps.groups)
        where
          busy : (n : ℕ) × (w.items.unanswered ≡ Some n) → Turned (events.tells w (Answers number answer.Busy ∷ []))
          busy other = record {
            asks = still_asks;
            meets = at_once works (any.Server v) (any.Server w) number (Some (work.Rebuild server)) answer.Busy asked
                (next, ((tt, refl), (other.0, (sym (begun_open v.items) ∙ other.1, other.1))));
          }

      wish_so : (wanted : Option Work) → asked_at works number ≡ wanted → Turned (events.on_wish w number (wish_of wanted))
      wish_so None asked = idle
      wish_so (Some (work.Lose server)) asked = lose_so server asked
      wish_so (Some (work.Rebuild server)) asked = rebuild_so server asked
      wish_so (Some _) asked = idle

    begin_so : v.items.works ≡ works → Asks v → Turned (events.on_begin v)
    unfolding events.on_begin
    begin_so has asks = by (next_item v.items) refl
      where
        by : (item : Option ℕ) → next_item v.items ≡ item → Turned (events.at_item (record v { items = items_begin v.items }) item)
        by None fact = record { asks = λ item waits. asks item (sym (begun_open v.items) ∙ waits); meets = tt }
        by (Some number) fact =
            wish_so number fact asks (work_at (items_begin v.items) number) (sym (ap (λ (ws : List Work). asked_at ws number) (begun_works v.items ∙ has)))

    event_so : (what : Do) → v.items.works ≡ works → Asks v → Turned (events.on_event v what)
    event_so Begin has asks = begin_so has asks
    event_so (Deliver packet) has asks = stored v (events.on_packet v packet) asks (packet_goes v packet)
    event_so Tick has asks = stored v (events.on_tick v) asks (tick_goes v)

    pub server_fits : (what : Do) → v.items.works ≡ works → Asks v → Turned (takes v what)
    server_fits what has asks =
        by_test Turned (events.is_far_from_ends v) (events.on_event v what) (still v) (λ _. event_so what has asks)
        (λ _. record { asks = asks; meets = tt })
