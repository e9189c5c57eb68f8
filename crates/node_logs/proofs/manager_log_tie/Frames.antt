-- How a manager that serves goes on in the small world of its log: what of it stays, and how one thing that it does follows another.
use Rattle.std.proofs.Common.{◌≡◌, ℕ, List, [], ◌∷◌, sym, subst}
use Rattle.std.specs.List.{AllByRecursion}
use Rattle.manager_serving.specs.Checkpoints.{Done}
use Rattle.manager_serving.specs.declared.serving.Serving.{Serving}
use Rattle.node_base.specs.declared.effects.Effect.{Effect}
use Rattle.node_base.specs.declared.effects.Effect.TheVariants.{Send, Answer, Lose, Does}
use Rattle.version_model.specs.declared.act.Act.{Act}
use Rattle.version_model.specs.declared.act.Act.TheVariants.{Filed}
use Rattle.wire_msg.specs.declared.body.Body.{Body}
use Rattle.wire_msg.specs.declared.body.Body.TheVariants as body
use Rattle.wire_msg.specs.declared.storage.Store as stores
use Rattle.xfs_base.specs.declared.node.NodeId.{NodeId}
use Rattle.xfs_base.specs.declared.node.NodeId.TheVariants.{Manager, Server}
use Rattle.xfs_base.specs.Steps.{still, saying, steps}
use Rattle.xfs_base.proofs.Alls.{all_append, all_weaker}
use Rattle.log_tie.specs.Setting.{Setting}
use Rattle.node_logs.specs.node_log_tie.Sight.{AskedBy, BodySeen, StoreSeen}
use Rattle.node_logs.specs.node_log_tie.Sight.Question.{OfMaps}
use Rattle.node_logs.proofs.client_log_tie.Frames.{grown_still, grown_on}
use Rattle.node_logs.specs.client_log_tie.ClientEvents.{ActSeen, Grown, OfItsLog}
use Rattle.node_logs.specs.client_log_tie.Owner.{Scene}
use Rattle.node_logs.specs.manager_log_tie.Fitting.{InRange}
use Rattle.node_logs.specs.manager_log_tie.Owner.{its_asker, Stands}
use Rattle.node_logs.proofs.manager_log_tie.SlotPhases.{Aside, IsAside}

module _ (g : Setting) (j : ℕ) where
  -- ---- what a manager does

  -- what it stores was sent, and is of its log; it may ask for the maps, and says nothing else of logs
  abbrev pub Says : Scene → NodeId → Body → Type 0
  Says w to (body.Store m) = StoreSeen g (its_asker j w) w.net to m × (m.fragment.meta.name.log ≡ g.log)
  Says w to (body.Hello m) = Unit {0}
  Says w to said = Aside said

  -- so it is of what it sends, and what it tells to be filed is filed
  abbrev pub ManagerDoes : Scene → Effect → Type 0
  ManagerDoes w (Send to said) = Says w to said
  ManagerDoes w (Answer item answer) = Unit {0}
  ManagerDoes w (Lose seg) = Unit {0}
  ManagerDoes w (Does act) = ActSeen w act

  abbrev pub AllDone : Scene → List Effect → Type 0
  AllDone w outs = AllByRecursion (ManagerDoes w) outs

  -- what is no matter of a log may be done in any world
  aside_said : (w : Scene) (to : NodeId) (said : Body) → Aside said → Says w to said
  aside_said w to (body.Store m) h = absurd h
  aside_said w to (body.Hello m) h = tt
  aside_said w to _ h = h

  aside_does : (w : Scene) (e : Effect) → IsAside e → ManagerDoes w e
  aside_does w (Send to said) h = aside_said w to said h
  aside_does w (Answer item answer) h = tt
  aside_does w (Lose seg) h = tt
  aside_does w (Does act) h = absurd h

  pub all_aside : (w : Scene) (outs : List Effect) → AllByRecursion IsAside outs → AllDone w outs
  all_aside w outs all = all_weaker IsAside (ManagerDoes w) (aside_does w) outs all

  -- what it says is seen
  pub says_seen : (w : Scene) → ((k : ℕ) → w.asked k ≡ OfMaps) → (to : NodeId) (said : Body) → Says w to said
      → BodySeen g (its_asker j w) w.net (Manager j) to said
  says_seen w asks to (body.Store m) h = h.0
  says_seen w asks to (body.Hello m) h = record { own = λ fact. subst (AskedBy g (its_asker j w) w.net m.inc) (sym (asks m.ask)) tt; reached = tt }
  says_seen w asks to (body.Stored m) h = absurd h
  says_seen w asks to (body.Fragment m) h = absurd h
  says_seen w asks to (body.Fence m) h = absurd h
  says_seen w asks to (body.Fenced m) h = absurd h
  says_seen w asks to (body.Listed m) h = absurd h
  says_seen w asks to (body.Delete m) h = absurd h
  says_seen w asks to (body.Welcome m) h = absurd h
  says_seen w asks to (body.MapNews m) h = absurd h
  says_seen w asks to _ h = tt

  -- and in range
  pub says_fits : (w : Scene) (to : NodeId) (said : Body) → Says w to said → InRange said
  says_fits w to (body.Deltas m) h = absurd h
  says_fits w to (body.Live m) h = h
  says_fits w to (body.Grant m) h = h
  says_fits w to (body.Fragment m) h = absurd h
  says_fits w to (body.Welcome m) h = absurd h
  says_fits w to (body.MapNews m) h = absurd h
  says_fits w to _ h = tt

  pub says_own : (w : Scene) (to : NodeId) (said : Body) → Says w to said → OfItsLog g said
  says_own w to (body.Store m) h = h.1
  says_own w to (body.Fence m) h = absurd h
  says_own w to _ h = tt

  -- ---- what was seen is seen

  module _ (w v : Scene) (grown : Grown g w v) where
    store_more : (to : NodeId) (m : stores.Store) → StoreSeen g (its_asker j w) w.net to m → StoreSeen g (its_asker j v) v.net to m
    store_more (Server k) m h = λ own. grown.sent _ (h own)
    store_more _ m h = tt

    says_more : (to : NodeId) (said : Body) → Says w to said → Says v to said
    says_more to (body.Store m) h = (store_more to m h.0, h.1)
    says_more to (body.Hello m) h = tt
    says_more to _ h = h

    act_more : (act : Act) → ActSeen w act → ActSeen v act
    act_more (Filed seg) h = grown.filed _ h
    act_more _ h = tt

    does_more : (e : Effect) → ManagerDoes w e → ManagerDoes v e
    does_more (Send to said) h = says_more to said h
    does_more (Answer item answer) h = tt
    does_more (Lose seg) h = tt
    does_more (Does act) h = act_more act h

    pub all_more : (outs : List Effect) → AllDone w outs → AllDone v outs
    all_more outs all = all_weaker (ManagerDoes w) (ManagerDoes v) does_more outs all

  -- ---- a manager that serves

  -- it goes on to a world in which it stands, and all that it does is seen
  pub record Goes (w : Scene) (d : Done) : Type 0 where
    pub next : Scene
    pub grown : Grown g w next
    pub stands : Stands g j next d.state
    pub does : AllDone next d.outs

  -- where the small world stands still
  pub at_once : (w : Scene) (s : Serving) (outs : List Effect) → Stands g j w s → AllDone w outs → Goes w (record { state = s; outs = outs })
  at_once w s outs stands does = record { next = w; grown = grown_still g w; stands = stands; does = does }

  pub stays : (w : Scene) (s : Serving) → Stands g j w s → Goes w (still s)
  stays w s stands = at_once w s [] stands tt

  -- one thing follows another
  pub goes_on : (w : Scene) (d e : Done) (p : Goes w d) → Goes p.next e → Goes w (saying d.outs e)
  goes_on w d e p q = record {
    next = q.next;
    grown = grown_on g w p.next q.next p.grown q.grown;
    stands = q.stands;
    does = all_append (ManagerDoes q.next) d.outs e.outs (all_more p.next q.next q.grown d.outs p.does) q.does;
  }

  pub goes_after : (w : Scene) (outs : List Effect) (e : Done) → AllDone w outs → Goes w e → Goes w (saying outs e)
  goes_after w outs e does q = record {
    next = q.next;
    grown = q.grown;
    stands = q.stands;
    does = all_append (ManagerDoes q.next) outs e.outs (all_more w q.next q.grown outs does) q.does;
  }

  pub goes_from : (w v : Scene) (d : Done) → Grown g w v → Goes v d → Goes w d
  goes_from w v d grown p = record { next = p.next; grown = grown_on g w v p.next grown p.grown; stands = p.stands; does = p.does }

  -- one step for each item
  pub goes_each : {A : Type 0} (P : A → Type 0) (step : Serving → A → Done) → ((w : Scene) (s : Serving) (x : A) → Stands g j w s → P x → Goes w (step s x))
      → (w : Scene) (s : Serving) (xs : List A) → Stands g j w s → AllByRecursion P xs → Goes w (steps step s xs)
  goes_each P step each w s [] h all = stays w s h
  goes_each P step each w s (x ∷ xs) h all =
      let p : Goes w (step s x) = each w s x h all.0 in
      goes_on w (step s x) (steps step (step s x).state xs) p (goes_each P step each p.next (step s x).state xs p.stands all.1)
