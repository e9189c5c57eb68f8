-- A server whose items lose no disk keeps its first generation, in each of its events: so do all servers of a script without such an item.
use Rattle.std.proofs.Common.{◌≡◌, ℕ, zero, suc, ◌-◌, List, [], ◌∷◌, Option, Some, None, nat_lt, slice_get, inl, inr, refl, ◌∙◌}
use Rattle.fragment_store.specs.Calls.{shelf_store, on_fence, on_fill}
use Rattle.fragment_store.specs.ShelfState.{ShelfState, is_held, is_marked}
use Rattle.group_rebuild.specs.declared.output.Out.{Out}
use Rattle.group_rebuild.specs.RebuildState.{RebuildState}
use Rattle.node_base.specs.Beginning.{work_at}
use Rattle.node_base.specs.declared.items.Items.{Items}
use Rattle.store_nodes.specs.declared.server.Server.{Server as Node}
use Rattle.store_nodes.specs.ServerEvents.{server_step}
use Rattle.token_protocol.specs.Basics.{In}
use Rattle.version_model.specs.declared.work.Work.{Work}
use Rattle.version_model.specs.declared.work.Work.TheVariants as work
use Rattle.wire_msg.specs.declared.body.Body.{Body}
use Rattle.wire_msg.specs.declared.packet.Do.{Do}
use Rattle.xfs_base.proofs.Booleans.{by_test}
use Rattle.xfs_base.specs.declared.node.NodeId.{NodeId}
use Rattle.node_moves.proofs.server_moves.Keeping.{Holds, Keeps, any_rebuild, event_keeps, takes_any}
use Rattle.headline.specs.Restarts.{LosesNone}

pub record Quiet (node : Node) : Type 0 where
  pub generation : node.shelf.generation ≡ 1
  pub works : LosesNone node.items.works

-- ---- shelves

kept_same : (s : ShelfState) (f : _) → (shelf_store s f).generation ≡ s.generation
kept_same s f = by_test (λ (x : ShelfState). x.generation ≡ s.generation) (is_held s f.meta.name) s _ (λ t. refl) (λ t. refl)

fill_same : (s : ShelfState) (f : _) → (on_fill s f).generation ≡ s.generation
fill_same s f = by_test (λ (x : ShelfState). x.generation ≡ s.generation) (is_marked s.marks f.meta.name) s (shelf_store s f) (λ t. refl) (λ t. kept_same s f)

fence_same : (s : ShelfState) (log : _) (pass : _) → (on_fence s log pass).generation ≡ s.generation
fence_same s log pass = by_test (λ (x : ShelfState). x.generation ≡ s.generation) _ _ s (λ t. refl) (λ t. refl)

-- ---- items

-- what an item asks for is one of the works
in_get : (works : List Work) (i : ℕ) (w : Work) → slice_get works i ≡ Some w → In w works
in_get [] i w fact = absurd cc
in_get (x ∷ works) zero w fact = inl cc
in_get (x ∷ works) (suc i) w fact = inr (in_get works i w fact)

in_works : (items : Items) (number : ℕ) (w : Work) → work_at items number ≡ Some w → In w items.works
in_works items number w fact =
    by_test (λ (o : Option Work). o ≡ Some w → In w items.works) (nat_lt 0 number) (slice_get items.works (number - 1)) None
    (λ t h. in_get items.works (number - 1) w h) (λ t h. absurd cc) fact

-- ---- events

abbrev IsFirst : ShelfState → Type 0
IsFirst s = s.generation ≡ 1

keeps : (first : ShelfState) (what : Do)
    → Keeps first what IsFirst (λ (r : RebuildState). Unit {0}) LosesNone (λ (o : Out). Unit {0}) (λ (to : NodeId) (said : Body). Unit {0})
keeps first what = record {
  stores = λ packet m came s h. kept_same s m.fragment ∙ h;
  fences = λ log pass s h. fence_same s log pass ∙ h;
  deletes = λ packet m came s h. h;
  fills = λ f so s h. fill_same s f ∙ h;
  loses = λ items number server asked none s room h. absurd (none server (in_works items number (work.Lose server) asked));
  begins = λ server groups. tt;
  takes = λ s r given came h. takes_any r given;
  sends = λ s to said h sent. tt;
}

pub server_so : (node : Node) (what : Do) → Quiet node → Quiet (server_step node what).node
server_so node what h =
    let holds : Holds IsFirst (λ (r : RebuildState). Unit {0}) LosesNone (server_step node what).node =
    (event_keeps node what IsFirst (λ r. Unit {0}) LosesNone (λ o. Unit {0}) (λ to said. Unit {0}) (keeps node.shelf what)
    (record { shelf = h.generation; rebuild = any_rebuild node.rebuilding; works = h.works })).state in
    record { generation = holds.shelf; works = holds.works }
