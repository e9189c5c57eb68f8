-- A recall comes to each of several clients, and each gives the block up and says so.
use Rattle.std.proofs.Common.{◌≡◌, ℕ, ◌+◌, ◌<◌, ◌==◌, ◌&&◌, Bool, true, false, cond, List, [], ◌∷◌, None, refl, sym, ap, subst, ◌∙◌, arith}
use Rattle.std.specs.List.{AllByRecursion}
use Rattle.std.proofs.lemmas.Bool.Decides.{nat_tests}
use Rattle.core_world.specs.AnyNode.{any_step, as_any}
use Rattle.core_world.specs.declared.any_node.AnyNode.{AnyNode}
use Rattle.core_world.specs.declared.any_node.AnyNode.TheVariants as any
use Rattle.delta_feed.specs.Transition.{feed_push}
use Rattle.node_base.specs.Nodes.{has_node, peers_of}
use Rattle.slot_beliefs.specs.Recalls.{stamp}
use Rattle.token_client.proofs.Tables.{held_of-put_itself}
use Rattle.token_client.specs.declared.held.Held.{Held}
use Rattle.xfs_base.specs.Modes.{is_held}
use Rattle.token_client.specs.State.{held_of}
use Rattle.version_model.specs.declared.work.Work.{Work}
use Rattle.wire_msg.specs.declared.packet.Do.TheVariants.{Deliver}
use Rattle.wire_msg.specs.NodeStep.{NodeStep}
use Rattle.xfs_base.specs.Blocks.{slot_of}
use Rattle.xfs_base.specs.declared.block.BlockId.{BlockId}
use Rattle.xfs_base.specs.declared.node.NodeId.{NodeId}
use Rattle.xfs_base.specs.declared.node.NodeId.TheVariants.{Client, Manager}
use Rattle.xfs_base.specs.declared.setup.Setup.{Setup}
use Rattle.xfs_base.specs.declared.token.Mode.TheVariants.{Copy, Nothing}
use Rattle.quiet_gives.specs.Recalls.{all_gave, gave_by, gaves_by, gives_held, gives_part, its_manager, recall_to, recalls_to}
use Rattle.quiet_gives.proofs.Recalled.{IsGivable, recall_comes}
use Rattle.quiet_nodes.specs.Moves.{Moves}
use Rattle.quiet_nodes.specs.Scene.{ClientPart, Scene, node_at, put_number, with_client}
use Rattle.quiet_nodes.proofs.Begins.{HasRoom}
use Rattle.quiet_nodes.proofs.Moving.{moves_next, moves_none}
use Rattle.quiet_nodes.proofs.Staging.{client_frame, client_put}
use Rattle.quiet_nodes.proofs.Wanting.{feed_at}

module _ (setup : Setup) (works : NodeId → List Work) (b : BlockId) (keep : Bool) where
  -- a client that gives the block up at once where it is recalled under the next turn
  pub record GivesUp (turn d : ℕ) (p : ClientPart) : Type 0 where
    pub there : has_node (peers_of setup) (Client d) ≡ true
    pub room : HasRoom setup works d p
    pub idle : p.call ≡ None
    pub told : feed_push (feed_at p) (slot_of b.ino.0) ≡ []
    pub givable : IsGivable turn (held_of p.blocks b)

  -- each of these does
  abbrev pub EachGivesUp : (ℕ → ClientPart) → ℕ → List ℕ → Type 0
  EachGivesUp clients turn ds = AllByRecursion (λ d. GivesUp turn d (clients d)) ds

  -- what is given up can be given up again
  given_givable : (turn : ℕ) (h : Held) → IsGivable turn h → IsGivable (turn + 1) (gives_held setup works b keep (turn + 1) h)
  given_givable turn h g = by_test (keep && is_held h.mode)
    where
      by_test : (t : Bool) → IsGivable (turn + 1) (cond t (record h { mode = Copy; stamp = stamp 1 (turn + 1); giving = None })
          (record h { mode = Nothing; value = None; stamp = stamp 1 (turn + 1); giving = None }))
      by_test true = record { fetch = g.fetch; clean = g.clean; epoch = omega arith; turn_before = omega arith }
      by_test false = record { fetch = g.fetch; clean = g.clean; epoch = omega arith; turn_before = omega arith }

  later_givable : (turn : ℕ) (h : Held) → IsGivable turn h → IsGivable (turn + 1) h
  later_givable turn h g = record { fetch = g.fetch; clean = g.clean; epoch = g.epoch; turn_before = (let before = g.turn_before in omega arith) }

  -- one that gave it up does so again under a later turn
  again : (turn d : ℕ) (p : ClientPart) → GivesUp turn d p → GivesUp (turn + 1) d (gives_part setup works b keep (turn + 1) p)
  again turn d p g = record {
    there = g.there;
    room = record { asked = g.room.asked; req = g.room.req; seq = g.room.seq; attempt = g.room.attempt; again = rw g.idle refl };
    idle = g.idle;
    told = g.told;
    givable = subst (λ (h : Held). IsGivable (turn + 1) h) (sym (held_of-put_itself b (gives_held setup works b keep (turn + 1) (held_of p.blocks b)) p.blocks))
        (given_givable turn (held_of p.blocks b) g.givable);
  }

  later_too : (turn d : ℕ) (p : ClientPart) → GivesUp turn d p → GivesUp (turn + 1) d p
  later_too turn d p g = record { there = g.there; room = g.room; idle = g.idle; told = g.told; givable = later_givable turn (held_of p.blocks b) g.givable }

  -- the others do as they did once one gave it up
  others_too : (clients : ℕ → ClientPart) (turn d : ℕ) (ds : List ℕ) → GivesUp turn d (clients d) → EachGivesUp clients turn ds
      → EachGivesUp (put_number clients d (gives_part setup works b keep (turn + 1) (clients d))) (turn + 1) ds
  others_too clients turn d [] g each = tt
  others_too clients turn d (e ∷ es) g each = (one, others_too clients turn d es g each.1)
    where
      one : GivesUp (turn + 1) e (cond (e == d) (gives_part setup works b keep (turn + 1) (clients d)) (clients e))
      one =
          elim (e == d) as (λ t. (e == d) ≡ t → GivesUp (turn + 1) e (cond t (gives_part setup works b keep (turn + 1) (clients d)) (clients e))) [
            | true ↦ λ same. subst (λ n. GivesUp (turn + 1) n (gives_part setup works b keep (turn + 1) (clients d))) (sym (equal e d same)) (again turn d (clients d) g)
            | false ↦ λ differs. later_too turn e (clients e) each.0
          ] refl
        where
          equal : (m n : ℕ) → (m == n) ≡ true → m ≡ n
          equal m n h = grind (arith, nat_tests)

  -- ---- the layer

  gaves_same : (f g : ℕ → ℕ) → ((e : ℕ) → f e ≡ g e) → (turn : ℕ) (ds : List ℕ) → gaves_by setup works b keep f turn ds ≡ gaves_by setup works b keep g turn ds
  gaves_same f g same turn [] = refl
  gaves_same f g same turn (d ∷ ds) =
      ap (λ end. gave_by setup works b keep (turn + 1) d end ∷ gaves_by setup works b keep f (turn + 1) ds) (same d)
      ∙ ap (λ ps. gave_by setup works b keep (turn + 1) d (g d) ∷ ps) (gaves_same f g same (turn + 1) ds)

  abbrev end_of : (ℕ → ClientPart) → ℕ → ℕ
  end_of clients e = (clients e).end.seq

  -- the ends of logs are as they were
  ends_same : (clients : ℕ → ClientPart) (turn d e : ℕ)
      → end_of (put_number clients d (gives_part setup works b keep (turn + 1) (clients d))) e ≡ end_of clients e
  ends_same clients turn d e =
      elim (e == d) as (λ t. (e == d) ≡ t → (cond t (gives_part setup works b keep (turn + 1) (clients d)) (clients e)).end.seq ≡ (clients e).end.seq) [
        | true ↦ λ same. ap (end_of clients) (sym (equal e d same))
        | false ↦ λ differs. refl
      ] refl
    where
      equal : (m n : ℕ) → (m == n) ≡ true → m ≡ n
      equal m n h = grind (arith, nat_tests)

  module _ (within : slot_of b.ino.0 < 8) (there : has_node (peers_of setup) (Manager (its_manager setup works b keep)) ≡ true) where
    one_gives : (s : Scene) (turn d : ℕ) → GivesUp turn d (s.client d)
        → any_step (node_at setup works s (Client d)) (Deliver (recall_to setup works b keep (turn + 1) d)) ≡ record {
          node = node_at setup works (with_client s d (gives_part setup works b keep (turn + 1) (s.client d))) (Client d);
          packets = gave_by setup works b keep (turn + 1) d (s.client d).end.seq ∷ [];
          acts = [];
        }
    one_gives s turn d g =
        ap (as_any any.Client) (recall_comes setup works b keep d turn within (s.client d) g.idle g.givable g.told there g.room)
        ∙ ap with_node (sym (client_put setup works d (gives_part setup works b keep (turn + 1) (s.client d)) s))
      where
        with_node : AnyNode → NodeStep AnyNode
        with_node x = record { node = x; packets = gave_by setup works b keep (turn + 1) d (s.client d).end.seq ∷ []; acts = [] }

    -- each gives the block up under its turn, and says so
    pub recalls_move : (s : Scene) (turn : ℕ) (ds : List ℕ) → EachGivesUp s.client turn ds
        → Moves setup works s (recalls_to setup works b keep turn ds) (gaves_by setup works b keep (end_of s.client) turn ds) [] (all_gave setup works b keep s turn ds)
    recalls_move s turn [] each = moves_none setup works s
    recalls_move s turn (d ∷ ds) each =
        moves_next setup works s (next s turn d) (all_gave setup works b keep s turn (d ∷ ds)) (recall_to setup works b keep (turn + 1) d)
        (gave_by setup works b keep (turn + 1) d (s.client d).end.seq ∷ []) (recalls_to setup works b keep (turn + 1) ds)
        (gaves_by setup works b keep (end_of s.client) (turn + 1) ds) [] [] each.0.there (one_gives s turn d each.0)
        (client_frame setup works d (gives_part setup works b keep (turn + 1) (s.client d)) s)
        (subst (λ outs. Moves setup works (next s turn d) (recalls_to setup works b keep (turn + 1) ds) outs [] (all_gave setup works b keep s turn (d ∷ ds)))
        (gaves_same (end_of (next s turn d).client) (end_of s.client) (ends_same s.client turn d) (turn + 1) ds)
        (recalls_move (next s turn d) (turn + 1) ds (others_too s.client turn d ds each.0 each.1)))
      where
        next : Scene → ℕ → ℕ → Scene
        next m n e = with_client m e (gives_part setup works b keep (n + 1) (m.client e))
