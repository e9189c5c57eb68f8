-- A line in which others have to do something first, before its want is answered, ends as if they had done it before the line: from there on the same flows.
use Rattle.std.proofs.Common.{◌≡◌, ◌⊎◌, inl, inr, ℕ, suc, ◌+◌, ◌-◌, ◌<◌, ◌≤◌, List, [], ◌∷◌, ◌++◌, length, slice_get, refl, sym, ap, subst, ◌∙◌, append_assoc, append-nil, arith}
use Rattle.client_node.specs.Phases.{client_step}
use Rattle.core_world.specs.AnyNode.{any_step, as_any}
use Rattle.core_world.specs.declared.any_node.AnyNode.{AnyNode}
use Rattle.core_world.specs.declared.any_node.AnyNode.TheVariants as any
use Rattle.play.specs.Plays.{answers}
use Rattle.quiet_flow.proofs.Flowing.{layer_flows}
use Rattle.quiet_flow.specs.Flow.{Done, Drains, Stage, begins, delivers, delivers_all, flows, one_more, rounds, stepped, turned, unclocked}
use Rattle.slot_beliefs.specs.Beliefs.{share_of}
use Rattle.version_model.specs.declared.act.Act.{Act}
use Rattle.version_model.specs.declared.act.Act.TheVariants as acts
use Rattle.version_model.specs.declared.work.Work.{Work}
use Rattle.wire_msg.specs.declared.packet.Do.TheVariants.{Begin}
use Rattle.wire_msg.specs.declared.packet.Packet.{Packet}
use Rattle.wire_msg.specs.NodeStep.{NodeStep}
use Rattle.world_base.specs.Cluster.{HasNode}
use Rattle.xfs_base.specs.declared.block.BlockId.{BlockId}
use Rattle.xfs_base.specs.declared.node.NodeId.{NodeId}
use Rattle.xfs_base.specs.declared.node.NodeId.TheVariants.{Client}
use Rattle.xfs_base.specs.declared.setup.Setup.{Setup}
use Rattle.quiet_law.specs.Lines.{Ends, EndsAfterRound, IsAnswered, IsNamed, Names, Stands}
use Rattle.quiet_law.proofs.Alike.{AfterOne, Alike, AreAlike, DrainsAlike, after_one, drains_alike, flows_both, rounds_alike}
use Rattle.quiet_law.proofs.Keeping.{drained_more}
use Rattle.quiet_nodes.specs.Moves.{IsAfter, IsPlaced, Moved, Moves}
use Rattle.quiet_nodes.specs.Scene.{ClientPart, Scene, client_at, node_at, with_client}
use Rattle.quiet_nodes.proofs.Moving.{after_both, answers_both}
use Rattle.quiet_nodes.proofs.Staging.{client_frame, client_put, happens_as, placed_on}

-- what ends a step sooner ends so
answered_up : (setup : Setup) (works : NodeId → List Work) (k : ℕ) (s : Scene) (t : Stage AnyNode) (c item : ℕ) (u : Scene) (end : Stage AnyNode)
    → IsAnswered setup works k s t c item u end → IsAnswered setup works (suc k) s t c item u end
answered_up setup works k s t c item u end a = record {
  stands = a.stands;
  drained = drained_more setup works (suc k) u a.drained;
  begun = a.begun;
  others = a.others;
  answer = a.answer;
  of_call = a.of_call;
  before = a.before;
  after = a.after;
  acted = a.acted;
  none_before = a.none_before;
  none_after = a.none_after;
  believed = a.believed;
}

pub ends_up : (setup : Setup) (works : NodeId → List Work) (k most : ℕ) (s : Scene) (t : Stage AnyNode) (c item : ℕ) → Ends setup works k most s t c item
    → Ends setup works (suc k) most s t c item
ends_up setup works k most s t c item e = record {
  scene = e.scene;
  end = e.end;
  deliveries = e.deliveries;
  few = e.few;
  drains = e.drains;
  answered = answered_up setup works k s t c item e.scene e.end e.answered;
}

pub ends_later_up : (setup : Setup) (works : NodeId → List Work) (k most more : ℕ) (s : Scene) (t : Stage AnyNode) (c item : ℕ)
    → EndsAfterRound setup works k most more s t c item → EndsAfterRound setup works (suc k) most more s t c item
ends_later_up setup works k most more s t c item e = record {
  mid = e.mid;
  first = e.first;
  first_few = e.first_few;
  first_drains = e.first_drains;
  waits = e.waits;
  scene = e.scene;
  end = e.end;
  second = e.second;
  second_few = e.second_few;
  second_drains = e.second_drains;
  answered = answered_up setup works k s t c item e.scene e.end e.answered;
}

-- ---- some packets come, and others wait then

module _ (setup : Setup) (works : NodeId → List Work) where
  pub record Reached (n : ℕ) (t : Stage AnyNode) (waiting rest : List Packet) (done : List Act) (u : Scene) : Type 0 where
    pub end : Stage AnyNode
    pub flows_so : flows any_step setup n t waiting ≡ record { state = end; outs = rest }
    pub is_after : IsAfter setup works t done u end

  -- with so many deliveries these packets wait, and the nodes are as the scene has them
  abbrev pub Reaches : ℕ → Scene → List Packet → List Packet → List Act → Scene → Type 0
  Reaches n s waiting rest done u = (t : Stage AnyNode) → IsPlaced setup works s t.node → Reached n t waiting rest done u

  and_none : (n : ℕ) → n ≡ n + 0
  and_none n = omega arith

  -- the first ones of those that wait are delivered
  pub reaches_first : (s u : Scene) (layer rest outs : List Packet) (done : List Act) → Moves setup works s layer outs done u
      → Reaches (length layer) s (layer ++ rest) (rest ++ outs) done u
  unfolding flows
  reaches_first s u layer rest outs done moves t placed =
      (let a = moves t placed in
      record {
        end = a.end;
        flows_so =
            ap (λ n. flows any_step setup n t (layer ++ rest)) (and_none (length layer))
            ∙ layer_flows any_step setup 0 t layer rest
            ∙ ap (λ outs. record { state = (delivers_all any_step setup t layer).state; outs = rest ++ outs }) a.delivers.outs_are
            ∙ ap (λ end. record { state = end; outs = rest ++ outs }) a.delivers.state;
        is_after = a.is_after;
      })

  -- a whole layer is delivered, and then others
  pub reaches_layer : (n : ℕ) (s m u : Scene) (layer outs rest : List Packet) (first second : List Act) → Moves setup works s layer outs first m
      → Reaches n m outs rest second u → Reaches (length layer + n) s layer rest (first ++ second) u
  reaches_layer n s m u layer outs rest first second moves then_ t placed =
      (let a = moves t placed in
      let b = then_ a.end a.is_after.placed in
      record {
        end = b.end;
        flows_so =
            ap (λ q. flows any_step setup (length layer + n) t q) (sym (append-nil layer))
            ∙ layer_flows any_step setup n t layer []
            ∙ ap (λ q. flows any_step setup n (delivers_all any_step setup t layer).state q) a.delivers.outs_are
            ∙ ap (λ st. flows any_step setup n st outs) a.delivers.state
            ∙ b.flows_so;
        is_after = after_both setup works t a.end b.end first second m u a.is_after b.is_after;
      })

-- A client begins and asks, and acts nothing. Really that leads to a scene r with these packets on their way; and as if it began from a scene m, to a scene h, whose
-- nodes are the same, with the same packets.
module _ (setup : Setup) (works : NodeId → List Work) (k : ℕ) (s m r h : Scene) (t : Stage AnyNode) (c item n : ℕ) (asked : ClientPart) (want : Packet) (rest : List Packet)
    (done : List Act) (stands : Stands setup works s t) (least : 1 ≤ c) (most : c ≤ setup.clients) (same : m.client c ≡ s.client c)
    (is : client_step (client_at setup works c (s.client c)) Begin ≡ record { node = client_at setup works c asked; packets = want ∷ []; acts = [] })
    (really : Reaches setup works n (with_client s c asked) (unclocked want ∷ []) rest done r)
    (as_if : Moves setup works (with_client m c asked) (unclocked want ∷ []) rest [] h)
    (alike : (name : NodeId) → HasNode setup name → node_at setup works r name ≡ node_at setup works h name) (quiet : answers done ≡ 0)
    (begun : (e : ℕ) → (m.client e).begun ≡ (s.client e).begun)
    (fewer : (i : ℕ) → i < 8 → (x : BlockId) (e : ℕ) → 1 ≤ share_of (m.slot i).beliefs x e → 1 ≤ share_of (s.slot i).beliefs x e) where
  -- ---- really

  abbrev s1 : Scene
  s1 = with_client s c asked

  abbrev at : Scene → NodeStep AnyNode
  at x = record { node = node_at setup works x (Client c); packets = want ∷ []; acts = [] }

  abbrev with_node : AnyNode → NodeStep AnyNode
  with_node x = record { node = x; packets = want ∷ []; acts = [] }

  begins_so : begins any_step t (Client c) ≡ stepped (one_more t) (Client c) (at s1)
  begins_so =
      happens_as setup works (Client c) Begin s s1 (one_more t) (want ∷ []) [] (least, most) stands.placed
      (ap (as_any any.Client) is ∙ ap with_node (sym (client_put setup works c asked s)))

  abbrev t1 : Stage AnyNode
  t1 = turned (one_more t) (Client c) (at s1)

  it : Reached setup works n t1 (unclocked want ∷ []) rest done r
  it = really t1 (placed_on setup works (Client c) s s1 (one_more t) (want ∷ []) [] stands.placed (client_frame setup works c asked s))

  -- ---- as if

  abbrev as_t : Stage AnyNode
  as_t = record { node = node_at setup works m; acts = t.acts ++ done; unanswered = 0 }

  as_stands : Stands setup works m as_t
  as_stands = record { placed = λ name has. refl; settled = refl }

  abbrev m1 : Scene
  m1 = with_client m c asked

  as_is : client_step (client_at setup works c (m.client c)) Begin ≡ record { node = client_at setup works c asked; packets = want ∷ []; acts = [] }
  as_is = ap (λ p. client_step (client_at setup works c p) Begin) same ∙ is

  as_begins : begins any_step as_t (Client c) ≡ stepped (one_more as_t) (Client c) (at m1)
  as_begins =
      happens_as setup works (Client c) Begin m m1 (one_more as_t) (want ∷ []) [] (least, most) as_stands.placed
      (ap (as_any any.Client) as_is ∙ ap with_node (sym (client_put setup works c asked m)))

  abbrev as_t1 : Stage AnyNode
  as_t1 = turned (one_more as_t) (Client c) (at m1)

  as_it : Moved setup works as_t1 (unclocked want ∷ []) rest [] h
  as_it = as_if as_t1 (placed_on setup works (Client c) m m1 (one_more as_t) (want ∷ []) [] as_stands.placed (client_frame setup works c asked m))

  -- ---- both are alike

  one_left : (a b : ℕ) → a ≡ 0 → b ≡ 0 → ((a + 1) - 0) - b ≡ ((0 + 1) - 0) - 0
  one_left a b none zero_ = omega arith

  are_alike : Alike any_step setup it.end as_it.end
  are_alike = record {
    node = λ name has. it.is_after.placed name has ∙ alike name has ∙ sym (as_it.is_after.placed name has);
    acts =
        it.is_after.acted
        ∙ ap (λ xs. xs ++ done) (append-nil t.acts)
        ∙ sym (append-nil (t.acts ++ done))
        ∙ sym (append-nil ((t.acts ++ done) ++ []))
        ∙ sym as_it.is_after.acted;
    unanswered = it.is_after.answered ∙ one_left t.unanswered (answers done) stands.settled quiet ∙ sym as_it.is_after.answered;
  }

  -- what drains from where the client began as if, with one delivery more, drains really from where it is
  pub record Really (d : ℕ) (as_end : Stage AnyNode) : Type 0 where
    pub less : ℕ
    pub counts : d ≡ suc less
    pub end : Stage AnyNode
    pub drains : Drains any_step setup (n + less) (begins any_step t (Client c)).state (begins any_step t (Client c)).outs end
    pub like : Alike any_step setup end as_end

  so_really : (d : ℕ) (as_end : Stage AnyNode) → Drains any_step setup d (begins any_step as_t (Client c)).state (begins any_step as_t (Client c)).outs as_end
      → Really d as_end
  so_really d as_end drains =
      (let one : AfterOne any_step setup d as_t1 (unclocked want) as_end =
      after_one any_step setup d as_t1 (unclocked want) as_end
      (subst (λ (b : Done AnyNode). Drains any_step setup d b.state b.outs as_end) as_begins drains) in
      let outs_so : (delivers any_step setup as_t1 (unclocked want)).outs ≡ rest = sym (append-nil _) ∙ as_it.delivers.outs_are in
      let from : Drains any_step setup one.less as_it.end rest as_end =
      subst (λ st. Drains any_step setup one.less st rest as_end) as_it.delivers.state
      (subst (λ os. Drains any_step setup one.less (delivers any_step setup as_t1 (unclocked want)).state os as_end) outs_so one.drains) in
      let there : DrainsAlike any_step setup one.less it.end rest as_end = drains_alike any_step setup one.less it.end as_it.end rest as_end are_alike from in
      record {
        less = one.less;
        counts = one.is;
        end = there.end;
        drains = subst (λ (b : Done AnyNode). Drains any_step setup (n + one.less) b.state b.outs there.end) (sym begins_so)
            (flows_both any_step setup n one.less t1 (unclocked want ∷ [])
            ∙ ap (λ (x : Done AnyNode). flows any_step setup one.less x.state x.outs) it.flows_so
            ∙ there.drains);
        like = there.alike;
      })

  named_so : (u : Scene) → IsNamed setup works m u c → IsNamed setup works s u c
  named_so u believed i within x e has = by_case (believed i within x e has)
    where
      by_case : (1 ≤ share_of (m.slot i).beliefs x e) ⊎ ((e ≡ c) × Names (slice_get (works (Client c)) (m.client c).begun) x)
          → (1 ≤ share_of (s.slot i).beliefs x e) ⊎ ((e ≡ c) × Names (slice_get (works (Client c)) (s.client c).begun) x)
      by_case (inl before) = inl (fewer i within x e before)
      by_case (inr it) = inr (it.0, subst (λ p. Names (slice_get (works (Client c)) p.begun) x) same it.1)

  -- where a stage is like the one in which it is answered as if, it is answered really, too
  answered_from : (u : Scene) (end as_end : Stage AnyNode) → Alike any_step setup end as_end → IsAnswered setup works k m as_t c item u as_end
      → IsAnswered setup works k s t c item u end
  answered_from u end as_end like a =
      record {
        stands = record {
          placed = λ name has. like.node name has ∙ a.stands.placed name has;
          settled = like.unanswered ∙ a.stands.settled;
        };
        drained = a.drained;
        begun = a.begun;
        others = λ d differs. a.others d differs ∙ begun d;
        answer = a.answer;
        of_call = a.of_call;
        before = done ++ a.before;
        after = a.after;
        acted =
            like.acts
            ∙ a.acted
            ∙ append_assoc t.acts done (a.before ++ acts.Answered (Client c) item a.answer ∷ a.after)
            ∙ ap (λ xs. t.acts ++ xs) (sym (append_assoc done a.before (acts.Answered (Client c) item a.answer ∷ a.after)));
        none_before = answers_both done a.before ∙ ap (λ x. x + answers a.before) quiet ∙ ap (λ x. 0 + x) a.none_before;
        none_after = a.none_after;
        believed = named_so u a.believed;
      }

  module _ (few : ℕ) where
    fewer_then : (d less : ℕ) → d ≡ suc less → d ≤ few → n + less ≤ n + (few - 1)
    fewer_then d less is h = omega (arith, is, h)

    ends_from : Ends setup works k few m as_t c item → Ends setup works k (n + (few - 1)) s t c item
    ends_from e =
        (let r = so_really e.deliveries e.end e.drains in
        record {
          scene = e.scene;
          end = r.end;
          deliveries = n + r.less;
          few = fewer_then e.deliveries r.less r.counts e.few;
          drains = r.drains;
          answered = answered_from e.scene r.end e.end r.like e.answered;
        })

    ends_later_from : (more : ℕ) → EndsAfterRound setup works k few more m as_t c item → EndsAfterRound setup works k (n + (few - 1)) more s t c item
    ends_later_from more e =
        (let r = so_really e.first e.mid e.first_drains in
        let passed : AreAlike any_step setup (rounds any_step setup r.end) (rounds any_step setup e.mid) = rounds_alike any_step setup r.end e.mid r.like in
        let then_ : DrainsAlike any_step setup e.second (rounds any_step setup r.end).state (rounds any_step setup e.mid).outs e.end =
        drains_alike any_step setup e.second (rounds any_step setup r.end).state (rounds any_step setup e.mid).state (rounds any_step setup e.mid).outs e.end
        passed.state e.second_drains in
        record {
          mid = r.end;
          first = n + r.less;
          first_few = fewer_then e.first r.less r.counts e.first_few;
          first_drains = r.drains;
          waits = r.like.unanswered ∙ e.waits;
          scene = e.scene;
          end = then_.end;
          second = e.second;
          second_few = e.second_few;
          second_drains = subst (λ os. Drains any_step setup e.second (rounds any_step setup r.end).state os then_.end) (sym passed.outs) then_.drains;
          answered = answered_from e.scene then_.end e.end then_.alike e.answered;
        })

    -- the line ends as it would from there
    pub ends_as_if : ((t' : Stage AnyNode) → Stands setup works m t' → Ends setup works k few m t' c item) → Ends setup works k (n + (few - 1)) s t c item
    ends_as_if law = ends_from (law as_t as_stands)

    -- and so it does after a round
    pub ends_later_as_if : (more : ℕ) → ((t' : Stage AnyNode) → Stands setup works m t' → EndsAfterRound setup works k few more m t' c item)
        → EndsAfterRound setup works k (n + (few - 1)) more s t c item
    ends_later_as_if more law = ends_later_from more (law as_t as_stands)

  -- and in one of both ways
  pub either_as_if : (few before more : ℕ)
      → ((t' : Stage AnyNode) → Stands setup works m t' → Ends setup works k few m t' c item ⊎ EndsAfterRound setup works k before more m t' c item)
      → Ends setup works k (n + (few - 1)) s t c item ⊎ EndsAfterRound setup works k (n + (before - 1)) more s t c item
  either_as_if few before more law = by_case (law as_t as_stands)
    where
      by_case : Ends setup works k few m as_t c item ⊎ EndsAfterRound setup works k before more m as_t c item
          → Ends setup works k (n + (few - 1)) s t c item ⊎ EndsAfterRound setup works k (n + (before - 1)) more s t c item
      by_case (inl e) = inl (ends_from few e)
      by_case (inr e) = inr (ends_later_from before more e)
