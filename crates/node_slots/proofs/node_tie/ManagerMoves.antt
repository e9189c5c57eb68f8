-- Parts of an event of a manager, one after another: what they make of the small world and of the manager's slot, and what they do.
use Rattle.std.proofs.Common.{◌≡◌, ℕ, Bool, ◌≤◌, ◌<◌, List, [], ◌∷◌, ◌++◌, ◌⊎◌, inl, inr, ⊎_elim, Option, Some, None, refl, sym, ap, subst, ◌∙◌, arith}
use Rattle.std.specs.List.{AllByRecursion}
use Rattle.node_base.specs.declared.effects.Effect.{Effect}
use Rattle.node_base.specs.declared.effects.Effect.TheVariants.{Send, Answer, Lose, Does}
use Rattle.wire_msg.specs.declared.body.Body.{Body}
use Rattle.wire_msg.specs.declared.body.Body.TheVariants as body
use Rattle.xfs_base.specs.declared.node.NodeId.{NodeId}
use Rattle.xfs_base.specs.declared.node.NodeId.TheVariants.{Client, Manager, Server, Cleaner, Registry}
use Rattle.xfs_base.proofs.Alls.{all_append, all_weaker}
use Rattle.manager_slots.specs.Slots.{epoch_of}
use Rattle.manager_slots.specs.declared.slot_phase.SlotPhase.{SlotPhase}
use Rattle.manager_slots.specs.declared.slot_phase.SlotPhase.TheVariants as phase
use Rattle.token_law.specs.Net.{Net, Packet, Runs}
use Rattle.token_law.specs.Net.Runs.{Begun}
use Rattle.token_manager.specs.SlotState.{SlotState}
use Rattle.token_protocol.specs.Basics.{In}
use Rattle.node_slots.specs.node_tie.Sight.{ManagerSends, ManagerDoes}
use Rattle.node_slots.specs.node_tie.ManagerEvents.{TakingAt, HeldAt, ManagedAt}
use Rattle.node_slots.proofs.node_tie.SmallWorld.{runs_through, promised_stays}

pub in_more : {X : Type 0} (x : X) (xs ys : List X) → In x ys → In x (xs ++ ys)
in_more x [] ys fact = fact
in_more x (z ∷ zs) ys fact = inr (in_more x zs ys fact)

pub in_front : {X : Type 0} (x : X) (xs ys : List X) → In x xs → In x (xs ++ ys)
in_front x [] ys fact = absurd fact
in_front x (z ∷ zs) ys (inl same) = inl same
in_front x (z ∷ zs) ys (inr fact) = inr (in_front x zs ys fact)

-- what is held is held at the epoch of the slot
pub held_is : (p : SlotPhase) (e : ℕ) → HeldAt p e → epoch_of p ≡ e
held_is (phase.Taking t) e h = h
held_is (phase.Active a) e h = h
held_is (phase.Away epoch) e h = absurd h
held_is (phase.Broken epoch seg) e h = absurd h

-- what was sent there is sent later
abbrev pub Grows : Net → Net → Type 0
Grows n m = (x : Packet) → In x n.sent → In x m.sent

module _ (logs : Bool) (members part limit life : ℕ) where
  -- an effect that a manager may have, where this was sent
  abbrev pub DoesAt : Net → Effect → Type 0
  DoesAt n e = ManagerDoes part n.sent limit life e

  abbrev pub AllDone : Net → List Effect → Type 0
  AllDone n outs = AllByRecursion (DoesAt n) outs

  sends_on : (n m : Net) → Grows n m → (to : NodeId) (b : Body) → ManagerSends part n.sent limit life to b → ManagerSends part m.sent limit life to b
  sends_on n m grows (Client c) (body.Grant g) h = λ inside. grows _ (h inside)
  sends_on n m grows (Manager c) (body.Grant g) h = h
  sends_on n m grows (Server c) (body.Grant g) h = h
  sends_on n m grows Cleaner (body.Grant g) h = h
  sends_on n m grows Registry (body.Grant g) h = h
  sends_on n m grows (Client c) (body.Forward g) h = λ inside. grows _ (h inside)
  sends_on n m grows (Manager c) (body.Forward g) h = h
  sends_on n m grows (Server c) (body.Forward g) h = h
  sends_on n m grows Cleaner (body.Forward g) h = h
  sends_on n m grows Registry (body.Forward g) h = h
  sends_on n m grows (Client c) (body.Recall g) h = λ inside. grows _ (h inside)
  sends_on n m grows (Manager c) (body.Recall g) h = h
  sends_on n m grows (Server c) (body.Recall g) h = h
  sends_on n m grows Cleaner (body.Recall g) h = h
  sends_on n m grows Registry (body.Recall g) h = h
  sends_on n m grows to _ h = h

  does_on : (n m : Net) → Grows n m → (e : Effect) → DoesAt n e → DoesAt m e
  does_on n m grows (Send to b) h = sends_on n m grows to b h
  does_on n m grows (Answer item answer) h = tt
  does_on n m grows (Lose seg) h = tt
  does_on n m grows (Does act) h = h

  pub done_on : (n m : Net) → Grows n m → (outs : List Effect) → AllDone n outs → AllDone m outs
  done_on n m grows outs h = all_weaker (DoesAt n) (DoesAt m) (does_on n m grows) outs h

  -- ---- the slot keeps its epoch

  pub record Moves (n m : Net) (p q : SlotPhase) (outs : List Effect) : Type 0 where
    pub runs : Runs logs members part n m
    pub tokens : m.tokens ≡ n.tokens
    pub up : m.up ≡ n.up
    pub books : m.books ≡ n.books
    pub acts : m.acts ≡ n.acts
    pub epoch : epoch_of q ≡ epoch_of p
    pub slots : (e : ℕ) → (HeldAt p e → ⊥) → m.slots e ≡ n.slots e
    pub changed : (e : ℕ) → (m.slots e ≡ n.slots e) ⊎ ManagedAt q e
    pub entered : (e : ℕ) (z : SlotState) → m.slots e ≡ Some z → n.slots e ≡ None → TakingAt p e × (e ≤ n.promised)
    pub taking : (e : ℕ) → TakingAt q e → TakingAt p e
    pub held : (e : ℕ) → HeldAt q e → HeldAt p e
    -- what is managed still is
    pub managed : (e : ℕ) → ManagedAt p e → ManagedAt q e
    pub grows : Grows n m
    pub does : AllDone m outs

  -- nothing happens in the small world
  pub record Stays (n : Net) (p q : SlotPhase) (outs : List Effect) : Type 0 where
    pub epoch : epoch_of q ≡ epoch_of p
    pub taking : (e : ℕ) → TakingAt q e → TakingAt p e
    pub held : (e : ℕ) → HeldAt q e → HeldAt p e
    pub managed : (e : ℕ) → ManagedAt p e → ManagedAt q e
    pub does : AllDone n outs

  clash : (n m : Net) (e : ℕ) (z : SlotState) → m.slots ≡ n.slots → m.slots e ≡ Some z → n.slots e ≡ None → ⊥
  clash n m e z same some none = let h = ap (λ (f : ℕ → Option SlotState). f e) same in absurd (some_none z (sym some ∙ h ∙ none))
    where
      some_none : (z : SlotState) → Some z ≡ None → ⊥
      some_none z h = cc

  pub moves_of : (n : Net) (p q : SlotPhase) (outs : List Effect) → Stays n p q outs → Moves n n p q outs
  moves_of n p q outs t = record {
    runs = Begun;
    tokens = refl;
    up = refl;
    books = refl;
    acts = refl;
    epoch = t.epoch;
    slots = λ e other. refl;
    changed = λ e. inl refl;
    entered = λ e z some none. absurd (clash n n e z refl some none);
    taking = t.taking;
    held = t.held;
    managed = t.managed;
    grows = λ x fact. fact;
    does = t.does;
  }

  pub stays_same : (n : Net) (p : SlotPhase) (outs : List Effect) → AllDone n outs → Stays n p p outs
  stays_same n p outs done = record { epoch = refl; taking = λ e h. h; held = λ e h. h; managed = λ e h. h; does = done }

  pub stays_then : (n : Net) (p q r : SlotPhase) (outs more : List Effect) → Stays n p q outs → Stays n q r more → Stays n p r (outs ++ more)
  stays_then n p q r outs more t u = record {
    epoch = u.epoch ∙ t.epoch;
    taking = λ e h. t.taking e (u.taking e h);
    held = λ e h. t.held e (u.held e h);
    managed = λ e h. u.managed e (t.managed e h);
    does = all_append (DoesAt n) outs more t.does u.does;
  }

  pub moves_then : (n m o : Net) (p q r : SlotPhase) (outs more : List Effect) → Moves n m p q outs → Moves m o q r more → Moves n o p r (outs ++ more)
  moves_then n m o p q r outs more t u = record {
    runs = runs_through n m o t.runs u.runs;
    tokens = u.tokens ∙ t.tokens;
    up = u.up ∙ t.up;
    books = u.books ∙ t.books;
    acts = u.acts ∙ t.acts;
    epoch = u.epoch ∙ t.epoch;
    slots = λ e other. u.slots e (λ h. other (t.held e h)) ∙ t.slots e other;
    changed = λ e.
        ⊎_elim (λ same. ⊎_elim (λ before. inl (same ∙ before)) (λ was. inr (u.managed e was)) (t.changed e)) (λ managed. inr managed) (u.changed e);
    entered = λ e z some none. by e z (m.slots e) refl some none;
    taking = λ e h. t.taking e (u.taking e h);
    held = λ e h. t.held e (u.held e h);
    managed = λ e h. u.managed e (t.managed e h);
    grows = λ x fact. u.grows x (t.grows x fact);
    does = all_append (DoesAt o) outs more (done_on m o u.grows outs t.does) u.does;
  }
    where
      by : (e : ℕ) (z : SlotState) (o_ : Option SlotState) → m.slots e ≡ o_ → o.slots e ≡ Some z → n.slots e ≡ None → TakingAt p e × (e ≤ n.promised)
      by e z None fact some none = (let h = u.entered e z some fact in (t.taking e h.0, subst (λ k. e ≤ k) (promised_stays logs members part n m t.runs) h.1))
      by e z (Some y) fact some none = t.entered e y fact none

  -- ---- the slot gets a later epoch, where nothing happens in the small world: these epochs are named

  pub record Rises (named : ℕ → Type 0) (n : Net) (p q : SlotPhase) (outs : List Effect) : Type 0 where
    pub rises : epoch_of p ≤ epoch_of q
    pub held : (e : ℕ) → HeldAt q e → HeldAt p e ⊎ (named e × (epoch_of p < e))
    pub does : AllDone n outs

  pub rises_of : (named : ℕ → Type 0) (n : Net) (p q : SlotPhase) (outs : List Effect) → Stays n p q outs → Rises named n p q outs
  rises_of named n p q outs t = record { rises = let e = t.epoch in omega arith; held = λ e h. inl (t.held e h); does = t.does }

  pub rises_then : (named : ℕ → Type 0) (n : Net) (p q r : SlotPhase) (outs more : List Effect) → Rises named n p q outs → Rises named n q r more
      → Rises named n p r (outs ++ more)
  rises_then named n p q r outs more t u = record {
    rises = let a = t.rises in let b = u.rises in omega arith;
    held = λ e h. ⊎_elim (λ k. t.held e k) (λ k. let a = t.rises in let b = k.1 in inr (k.0, omega arith)) (u.held e h);
    does = all_append (DoesAt n) outs more t.does u.does;
  }

  -- ---- the slot moves, or rises

  pub record Goes (named : ℕ → Type 0) (n m : Net) (p q : SlotPhase) (outs : List Effect) : Type 0 where
    pub runs : Runs logs members part n m
    pub tokens : m.tokens ≡ n.tokens
    pub up : m.up ≡ n.up
    pub books : m.books ≡ n.books
    pub acts : m.acts ≡ n.acts
    pub rises : epoch_of p ≤ epoch_of q
    pub slots : (e : ℕ) → (HeldAt p e → ⊥) → m.slots e ≡ n.slots e
    pub changed : (e : ℕ) → (m.slots e ≡ n.slots e) ⊎ ManagedAt q e
    pub entered : (e : ℕ) (z : SlotState) → m.slots e ≡ Some z → n.slots e ≡ None → TakingAt p e × (e ≤ n.promised)
    pub held : (e : ℕ) → HeldAt q e → HeldAt p e ⊎ (named e × (epoch_of p < e))
    pub grows : Grows n m
    pub does : AllDone m outs

  pub goes_moving : (named : ℕ → Type 0) (n m : Net) (p q : SlotPhase) (outs : List Effect) → Moves n m p q outs → Goes named n m p q outs
  goes_moving named n m p q outs t = record {
    runs = t.runs;
    tokens = t.tokens;
    up = t.up;
    books = t.books;
    acts = t.acts;
    rises = let a = t.epoch in omega arith;
    slots = t.slots;
    changed = t.changed;
    entered = t.entered;
    held = λ e h. inl (t.held e h);
    grows = t.grows;
    does = t.does;
  }

  pub goes_rising : (named : ℕ → Type 0) (n : Net) (p q : SlotPhase) (outs : List Effect) → Rises named n p q outs → Goes named n n p q outs
  goes_rising named n p q outs u = record {
    runs = Begun;
    tokens = refl;
    up = refl;
    books = refl;
    acts = refl;
    rises = u.rises;
    slots = λ e other. refl;
    changed = λ e. inl refl;
    entered = λ e z some none. absurd (clash n n e z refl some none);
    held = u.held;
    grows = λ x fact. fact;
    does = u.does;
  }

  pub goes_staying : (named : ℕ → Type 0) (n m : Net) (p q r : SlotPhase) (outs more : List Effect) → Goes named n m p q outs → Stays m q r more
      → Goes named n m p r (outs ++ more)
  goes_staying named n m p q r outs more t u = record {
    runs = t.runs;
    tokens = t.tokens;
    up = t.up;
    books = t.books;
    acts = t.acts;
    rises = let a = t.rises in let b = u.epoch in omega arith;
    slots = t.slots;
    changed = λ e. ⊎_elim (λ same. inl same) (λ managed. inr (u.managed e managed)) (t.changed e);
    entered = t.entered;
    held = λ e h. t.held e (u.held e h);
    grows = t.grows;
    does = all_append (DoesAt m) outs more t.does u.does;
  }
