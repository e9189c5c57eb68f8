-- An event of a server leaves what its shelf holds, unless its disk is lost or it is told to delete it; and its generation never falls.
use Rattle.std.proofs.Common.{◌≡◌, ℕ, ◌+◌, ◌<◌, ◌≤◌, ◌⊎◌, Bool, true, false, cond, is_some, min, List, None, refl, ap, subst, ◌∙◌, inl, inr, arith}
use Rattle.std.proofs.lemmas.Bool.Decides.{nat_tests}
use Rattle.std.specs.BTreeMap.{insert_entry}
use Rattle.xfs_base.proofs.Booleans.{by_test}
use Rattle.xfs_base.specs.declared.fragment.Fragment.{Fragment}
use Rattle.xfs_base.specs.declared.node.NodeId.{NodeId}
use Rattle.xfs_base.specs.declared.segment.LogId.{LogId}
use Rattle.xfs_base.specs.declared.segment.Pass.{Pass}
use Rattle.xfs_base.specs.declared.segment.SegName.{SegName}
use Rattle.xfs_base.specs.Limits.{u32_end}
use Rattle.xfs_base.specs.Segments.{pass_cmp}
use Rattle.xfs_base.specs.Stamps.{is_greater}
use Rattle.xfs_base.proofs.SegmentNames.{one_name}
use Rattle.fragment_store.proofs.Tables.{held-with, held-without}
use Rattle.fragment_store.specs.Calls.{shelf_store, on_delete as without, on_fence as fenced_at, on_fill, on_lose as lost, with_fragment}
use Rattle.fragment_store.specs.ShelfState.{ShelfState, fence_of, held_at, is_held, is_marked, log_cmp, same_name}
use Rattle.group_rebuild.specs.declared.output.Out.{Out}
use Rattle.group_rebuild.specs.RebuildState.{RebuildState}
use Rattle.node_base.specs.Room.{has_room}
use Rattle.store_nodes.specs.declared.server.Server.{Server as Node}
use Rattle.store_nodes.specs.ServerEvents.{server_step}
use Rattle.version_model.specs.declared.work.Work.{Work}
use Rattle.wire_msg.specs.declared.body.Body.{Body}
use Rattle.wire_msg.specs.declared.body.Body.TheVariants as body
use Rattle.wire_msg.specs.declared.packet.Do.{Do}
use Rattle.wire_msg.specs.declared.packet.Do.TheVariants.{Deliver}
use Rattle.wire_msg.specs.declared.packet.Packet.{Packet}
use Rattle.wire_msg.specs.declared.storage.Delete.{Delete}
use Rattle.loss_law.proofs.Shelves.{at_most, found_too, less_min, none_found}
use Rattle.node_moves.proofs.server_moves.Keeping.{Keeps, any_rebuild, event_keeps, takes_any}

low_of : (g : ℕ) → has_room g ≡ true → g < u32_end
low_of g room = grind (arith, nat_tests)

-- The shelf went on: its generation doesn't fall, and what it holds stays, or its disk was lost, or it was told to delete it.
pub record ShelfOn (Told : SegName → Type 0) (s t : ShelfState) : Type 0 where
  pub up : s.generation ≤ t.generation
  pub holds : (name : SegName) → is_held s name ≡ true → (is_held t name ≡ true) ⊎ ((s.generation < t.generation) ⊎ Told name)

module _ (Told : SegName → Type 0) where
  pub shelf_same : (s : ShelfState) → ShelfOn Told s s
  shelf_same s = record { up = omega arith; holds = λ name fact. inl fact }

  pub shelf_then : (s t u : ShelfState) → ShelfOn Told s t → ShelfOn Told t u → ShelfOn Told s u
  shelf_then s t u one two = record { up = (let a = one.up in let b = two.up in omega arith); holds = λ name fact. first name (one.holds name fact) }
    where
      second : (name : SegName) → (is_held u name ≡ true) ⊎ ((t.generation < u.generation) ⊎ Told name)
          → (is_held u name ≡ true) ⊎ ((s.generation < u.generation) ⊎ Told name)
      second name (inl fact) = inl fact
      second name (inr (inl less)) = inr (inl (let a = one.up in omega arith))
      second name (inr (inr told)) = inr (inr told)

      first : (name : SegName) → (is_held t name ≡ true) ⊎ ((s.generation < t.generation) ⊎ Told name)
          → (is_held u name ≡ true) ⊎ ((s.generation < u.generation) ⊎ Told name)
      first name (inl fact) = second name (two.holds name fact)
      first name (inr (inl less)) = inr (inl (let a = two.up in omega arith))
      first name (inr (inr told)) = inr (inr told)

  -- ---- what is done to a shelf

  kept_on : (s : ShelfState) (f : Fragment) → ShelfOn Told s (shelf_store s f)
  kept_on s f =
      by_test (ShelfOn Told s) (is_held s f.meta.name) s (record s { held = with_fragment f s.held }) (λ e. shelf_same s)
      (λ e. record {
        up = omega arith;
        holds = λ name fact. inl
            (ap is_some (held-with f s.held name (none_found (held_at s.held f.meta.name) e))
            ∙ found_too (same_name name f.meta.name) f (held_at s.held name) fact);
      })

  fence_on : (s : ShelfState) (log : LogId) (pass : Pass) → ShelfOn Told s (fenced_at s log pass)
  fence_on s log pass =
      by_test (ShelfOn Told s) (is_greater (pass_cmp pass (fence_of s.fences log))) (record s { fences = insert_entry log_cmp s.fences log pass }) s
      (λ e. record { up = omega arith; holds = λ name fact. inl fact }) (λ e. shelf_same s)

  fill_on : (s : ShelfState) (f : Fragment) → ShelfOn Told s (on_fill s f)
  fill_on s f = by_test (ShelfOn Told s) (is_marked s.marks f.meta.name) s (shelf_store s f) (λ e. shelf_same s) (λ e. kept_on s f)

  lose_on : (s : ShelfState) → s.generation < u32_end → ShelfOn Told s (lost s)
  lose_on s low =
      let less : s.generation < min (s.generation + 1) u32_end = less_min s.generation u32_end low in
      record { up = at_most _ _ less; holds = λ name fact. inr (inl less) }

  delete_on : (s : ShelfState) (name : SegName) → Told name → ShelfOn Told s (without s name)
  delete_on s name told = record { up = omega arith; holds = holds }
    where
      holds : (q : SegName) → is_held s q ≡ true → (is_held (without s name) q ≡ true) ⊎ ((s.generation < s.generation) ⊎ Told q)
      holds q fact = by (same_name name q) refl
        where
          by : (t : Bool) → same_name name q ≡ t → (is_held (without s name) q ≡ true) ⊎ ((s.generation < s.generation) ⊎ Told q)
          by true e = inr (inr (subst Told (one_name name q e) told))
          by false e = inl (ap is_some (held-without name s.held q ∙ ap (λ t. cond t None (held_at s.held q)) e) ∙ fact)

  -- ---- events

  abbrev TellsIn : Do → Type 0
  TellsIn what = (packet : Packet) (m : Delete) → what ≡ Deliver packet → packet.body ≡ body.Delete m → Told m.name

  keeps : (first : ShelfState) (what : Do) → TellsIn what
      → Keeps first what (ShelfOn Told first) (λ (r : RebuildState). Unit {0}) (λ (works : List Work). Unit {0}) (λ (o : Out). Unit {0})
      (λ (to : NodeId) (said : Body). Unit {0})
  keeps first what tells = record {
    stores = λ packet m came s h. shelf_then first s (shelf_store s m.fragment) h (kept_on s m.fragment);
    fences = λ log pass s h. shelf_then first s (fenced_at s log pass) h (fence_on s log pass);
    deletes = λ packet m came s h. shelf_then first s (without s m.name) h (delete_on s m.name (tells packet m came.event came.says));
    fills = λ f so s h. shelf_then first s (on_fill s f) h (fill_on s f);
    loses = λ items number server asked works s room h. shelf_then first s (lost s) h (lose_on s (low_of s.generation room));
    begins = λ server groups. tt;
    takes = λ s r given came h. takes_any r given;
    sends = λ s to said h sent. tt;
  }

  -- whatever happens to it
  pub server_on : (node : Node) (what : Do) → TellsIn what → ShelfOn Told node.shelf (server_step node what).node.shelf
  server_on node what tells =
      (event_keeps node what (ShelfOn Told node.shelf) (λ r. Unit {0}) (λ works. Unit {0}) (λ o. Unit {0}) (λ to said. Unit {0}) (keeps node.shelf what tells)
      (record { shelf = shelf_same node.shelf; rebuild = any_rebuild node.rebuilding; works = tt })).state.shelf
