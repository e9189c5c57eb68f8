-- What a manager's steps are in the small world, how they compose, and that what was seen there stays seen.
use Rattle.std.proofs.Common.{◌≡◌, ◌≤◌, ◌<◌, ℕ, List, [], ◌∷◌, ◌++◌, ◌⊎◌, inl, inr, ⊎_elim, Option, Some, None, refl, sym, subst, ◌∙◌, arith}
use Rattle.std.specs.List.{AllByRecursion}
use Rattle.xfs_base.specs.declared.news.SlotNews.{SlotNews}
use Rattle.xfs_base.specs.declared.node.NodeId.{NodeId}
use Rattle.xfs_base.specs.declared.node.NodeId.TheVariants.{Client, Cleaner}
use Rattle.xfs_base.specs.declared.segment.End.{End}
use Rattle.xfs_base.proofs.Alls.{all_append, all_weaker}
use Rattle.xfs_base.specs.Logs.{cleaners_number}
use Rattle.index_tie.specs.Net.{Net, Packet, Happens, Runs, with_slot}
use Rattle.index_tie.specs.Net.Runs.{Begun, On}
use Rattle.index_tie.specs.Takeovers.{IsEnd, Linked}
use Rattle.headline.specs.Indexes.{of_log}
use Rattle.index_tie.proofs.Tables.{at_same, at_other, put_each}
use Rattle.log_protocol.specs.Tables.{In, put}
use Rattle.manager_slots.specs.Slots.{epoch_of}
use Rattle.manager_slots.specs.declared.slot_phase.SlotPhase.{SlotPhase}
use Rattle.manager_slots.specs.declared.slot_phase.SlotPhase.TheVariants as phase
use Rattle.node_base.specs.declared.effects.Effect.{Effect}
use Rattle.node_base.specs.declared.effects.Effect.TheVariants.{Send}
use Rattle.node_slots.specs.node_tie.ManagerEvents.{HeldAt, ManagedAt}
use Rattle.token_manager.specs.SlotState.{SlotState}
use Rattle.wire_msg.specs.declared.body.Body.{Body}
use Rattle.wire_msg.specs.declared.body.Body.TheVariants as body
use Rattle.node_slots.specs.node_index_tie.ManagerEvents.{rest}
use Rattle.node_slots.specs.node_index_tie.Sight.{Questions, held_in, EndKnown, ReportKnown, NewsKnown, ManagerSends, ManagerDoes}
use Rattle.headline.specs.Filed.{Texts}

-- ---- lists

pub in_more : {X : Type 0} (x : X) (xs ys : List X) → In x ys → In x (xs ++ ys)
in_more x [] ys fact = fact
in_more x (z ∷ zs) ys fact = inr (in_more x zs ys fact)

pub in_front : {X : Type 0} (x : X) (xs ys : List X) → In x xs → In x (xs ++ ys)
in_front x [] ys fact = absurd fact
in_front x (z ∷ zs) ys (inl same) = inl same
in_front x (z ∷ zs) ys (inr fact) = inr (in_front x zs ys fact)

pub put_here : {X : Type 0} (f : ℕ → X) (c : ℕ) (x : X) → put f c x c ≡ x
put_here f c x = at_same c x (f c)

pub put_there : {X : Type 0} (f : ℕ → X) (c : ℕ) (x : X) (d : ℕ) → (d ≡ c → ⊥) → put f c x d ≡ f d
put_there f c x d other = at_other d c x (f d) other

pub some_none : {X : Type 0} (x : X) → Some x ≡ None → ⊥
some_none x h = absurd (cc)

-- what is held is held at the epoch of the slot
pub held_is : (p : SlotPhase) (e : ℕ) → HeldAt p e → epoch_of p ≡ e
held_is (phase.Taking t) e h = h
held_is (phase.Active a) e h = h
held_is (phase.Away epoch) e h = absurd h
held_is (phase.Broken epoch seg) e h = absurd h

-- and so is what is managed
managed_is : (p : SlotPhase) (e : ℕ) → ManagedAt p e → epoch_of p ≡ e
managed_is (phase.Active a) e h = h
managed_is _ e h = absurd h

-- a slot that stays as it is is managed as before
pub managed_as : (p q : SlotPhase) → q ≡ p → (e : ℕ) → ManagedAt p e → ManagedAt q e
managed_as p q same e h = subst (λ x. ManagedAt x e) (sym same) h

-- ---- what stays

-- the small world has gone on: only slots and packets are new
pub record Grows (n m : Net) : Type 0 where
  pub rest : rest m ≡ rest n
  pub stay : (e : ℕ) → m.slots e ≡ None → n.slots e ≡ None
  pub sent : (x : Packet) → In x n.sent → In x m.sent

pub grows_itself : (n : Net) → Grows n n
grows_itself n = record { rest = refl; stay = λ e h. h; sent = λ x fact. fact }

pub grows_then : (n m o : Net) → Grows n m → Grows m o → Grows n o
grows_then n m o g h = record { rest = h.rest ∙ g.rest; stay = λ e fact. g.stay e (h.stay e fact); sent = λ x fact. h.sent x (g.sent x fact) }

pub grows_slot : (n : Net) (e : ℕ) (s : SlotState) → Grows n (with_slot n e s)
grows_slot n e s = record {
  rest = refl;
  stay = put_each (λ d o. o ≡ None → n.slots d ≡ None) n.slots e (Some s) (λ h. absurd (some_none s h)) (λ d other h. h);
  sent = λ x fact. fact;
}

pub grows_sent : (n : Net) (new : List Packet) → Grows n (record n { sent = new ++ n.sent })
grows_sent n new = record { rest = refl; stay = λ e h. h; sent = λ x fact. in_more x new n.sent fact }

module _ (part : ℕ) (n m : Net) (g : Grows n m) where
  pub end_on : (epoch log : ℕ) (end : End) → EndKnown part n epoch log end → EndKnown part m epoch log end
  end_on epoch log end k = record {
    filed = subst (λ (x : Net). 0 < of_log (x.horizon epoch) log → of_log (x.horizon epoch) log ≤ end.seq → IsEnd x.filed log end) (sym g.rest) k.filed;
    linked = subst (λ (x : Net). 0 < of_log (x.horizon epoch) log → Linked x.filed log (of_log (x.horizon epoch) log) end.seq) (sym g.rest) k.linked;
    short = k.short;
  }

  pub report_on : (epoch : ℕ) (from : NodeId) (end : End) → ReportKnown part n epoch from end → ReportKnown part m epoch from end
  report_on epoch (Client c) end k = end_on epoch c end k
  report_on epoch Cleaner end k = (end_on epoch cleaners_number end k.0, g.sent _ k.1)
  report_on epoch _ end k = tt

  pub news_on : (news : SlotNews) → m.slots news.epoch ≡ n.slots news.epoch → NewsKnown part n news → NewsKnown part m news
  news_on news same k = record {
    free = same ∙ k.free;
    some = k.some;
    begun = subst (λ (x : Net). news.epoch ≤ x.epoch) (sym g.rest) k.begun;
    horizon = subst (λ (x : Net). news.horizon ≡ x.horizon news.epoch) (sym g.rest) k.horizon;
    parts = subst (λ (x : Net). news.parts ≡ x.parts news.epoch) (sym g.rest) k.parts;
    from_one = k.from_one;
    short = k.short;
  }

pub runs_through : {part : ℕ} {holds : _} (n m o : Net) → Runs part holds n m → Runs part holds m o → Runs part holds n o
runs_through n m o r Begun = r
runs_through n m o r (On {m = x} s h) = On (runs_through n m x r s) h

-- What an event brings: the epochs that it names, and whether it may end a takeover, which news of the maps don't.
pub record Brought : Type 1 where
  pub names : ℕ → Type 0
  pub ends : Type 0

-- no epoch is named
abbrev pub nothing : Type 0 → Brought
nothing ends = record { names = λ e. ⊥; ends = ends }

module _ (part : ℕ) (texts : Texts) (asked : Questions) where
  abbrev pub DoesAt : Net → Effect → Type 0
  DoesAt n e = ManagerDoes part asked n e

  abbrev pub AllDone : Net → List Effect → Type 0
  AllDone n outs = AllByRecursion (DoesAt n) outs

  sends_on : (n m : Net) → Grows n m → (b : Body) → ManagerSends part asked n b → ManagerSends part asked m b
  sends_on n m g (body.Live x) h = λ inside. g.sent _ (h inside)
  sends_on n m g (body.Dead x) h = λ inside. let k = h inside in record
      { number = k.number; name = k.name; below = k.below; sent = g.sent _ k.sent; question = k.question }
  sends_on n m g (body.CkptDone x) h = λ inside. g.sent _ (h inside)
  sends_on n m g _ h = h

  does_on : (n m : Net) → Grows n m → (e : Effect) → DoesAt n e → DoesAt m e
  does_on n m g (Send to b) h = sends_on n m g b h
  does_on n m g _ h = tt

  pub done_on : (n m : Net) → Grows n m → (outs : List Effect) → AllDone n outs → AllDone m outs
  done_on n m g outs h = all_weaker (DoesAt n) (DoesAt m) (does_on n m g) outs h

  -- ---- steps

  -- By things that happen there the small world comes to one in which this holds. The slot goes from one phase to another; only epochs that it held, and
  -- such as are named, are touched or held after. Where the event may end a takeover, a slot that is managed stays so; else none enters the small world,
  -- and none that it doesn't know ever does.
  pub record Sees (brought : Brought) (n : Net) (p q : SlotPhase) (outs : List Effect) (At : Net → Type 0) : Type 0 where
    pub next : Net
    pub runs : Runs part (held_in part texts) n next
    pub grows : Grows n next
    pub slots : (e : ℕ) → (HeldAt p e → ⊥) → (brought.names e → ⊥) → next.slots e ≡ n.slots e
    pub enters : (e : ℕ) (z : SlotState) → next.slots e ≡ Some z → n.slots e ≡ None → brought.ends × ManagedAt q e
    pub stays : brought.ends → (e : ℕ) → ManagedAt p e → ManagedAt q e
    pub came : (e : ℕ) → n.slots e ≡ None → (next.slots e ≡ None) ⊎ (e ≤ epoch_of q)
    pub held : (e : ℕ) → HeldAt q e → HeldAt p e ⊎ brought.names e
    pub rises : epoch_of p ≤ epoch_of q
    pub does : AllDone next outs
    pub agrees : At next

  module _ (brought : Brought) where
    -- nothing happens there
    pub sees_quiet : (n : Net) (p q : SlotPhase) (outs : List Effect) (At : Net → Type 0) → ((e : ℕ) → HeldAt q e → HeldAt p e ⊎ brought.names e)
        → (brought.ends → (e : ℕ) → ManagedAt p e → ManagedAt q e) → epoch_of p ≤ epoch_of q → AllDone n outs → At n → Sees brought n p q outs At
    sees_quiet n p q outs At held stays rises done at = record {
      next = n;
      runs = Begun;
      grows = grows_itself n;
      slots = λ e other _. refl;
      came = λ e none. inl none;
      enters = λ e z some none. absurd (some_none z (sym some ∙ none));
      stays = stays;
      held = held;
      rises = rises;
      does = done;
      agrees = at;
    }

    pub sees_same : (n : Net) (p : SlotPhase) (outs : List Effect) (At : Net → Type 0) → AllDone n outs → At n → Sees brought n p p outs At
    sees_same n p outs At done at = sees_quiet n p p outs At (λ e h. inl h) (λ _ e h. h) (omega arith) done at

    -- one thing happens there, which changes packets alone
    pub sees_sent : (n : Net) (p q : SlotPhase) (new : List Packet) (outs : List Effect) (At : Net → Type 0)
        → Happens part (held_in part texts) n (record n { sent = new ++ n.sent }) → ((d : ℕ) → HeldAt q d → HeldAt p d)
        → ((d : ℕ) → ManagedAt p d → ManagedAt q d)
        → epoch_of p ≤ epoch_of q → AllDone (record n { sent = new ++ n.sent }) outs → At (record n { sent = new ++ n.sent }) → Sees brought n p q outs At
    sees_sent n p q new outs At happens held stays rises done at = record {
      next = record n { sent = new ++ n.sent };
      runs = On Begun happens;
      grows = grows_sent n new;
      slots = λ e other _. refl;
      came = λ e none. inl none;
      enters = λ e z some none. absurd (some_none z (sym some ∙ none));
      stays = λ _ e h. stays e h;
      held = λ e h. inl (held e h);
      rises = rises;
      does = done;
      agrees = at;
    }

    -- one thing happens there, which changes a slot that is held
    pub sees_slot : (n : Net) (p q : SlotPhase) (e : ℕ) (s : SlotState) (outs : List Effect) (At : Net → Type 0)
        → Happens part (held_in part texts) n (with_slot n e s) → HeldAt p e → ((d : ℕ) → HeldAt q d → HeldAt p d)
        → (n.slots e ≡ None → brought.ends) → ManagedAt q e
        → epoch_of p ≤ epoch_of q → AllDone (with_slot n e s) outs → At (with_slot n e s) → Sees brought n p q outs At
    sees_slot n p q e s outs At happens here held ends managed rises done at = record {
      next = with_slot n e s;
      runs = On Begun happens;
      grows = grows_slot n e s;
      slots = λ d other _. put_there n.slots e (Some s) d (λ same. other (subst (HeldAt p) (sym same) here));
      came = put_each (λ d o. n.slots d ≡ None → (o ≡ None) ⊎ (d ≤ epoch_of q)) n.slots e (Some s) (λ none. inr (let at = held_is p e here in omega arith))
          (λ d other none. inl none);
      enters = λ d z. put_each (λ x o. o ≡ Some z → n.slots x ≡ None → brought.ends × ManagedAt q x) n.slots e (Some s)
          (λ _ none. (ends none, managed)) (λ x other some none. absurd (some_none z (sym some ∙ none))) d;
      stays = λ _ d h. subst (ManagedAt q) (sym (held_is p e here) ∙ managed_is p d h) managed;
      held = λ d h. inl (held d h);
      rises = rises;
      does = done;
      agrees = at;
    }

    one_enters : {X : Type 0} (m : Net) (e : ℕ) → (m.slots e ≡ None → X) → ((z : SlotState) → m.slots e ≡ Some z → X) → X
    one_enters {X = X} m e none some = by (m.slots e) refl
      where
        by : (o : Option SlotState) → m.slots e ≡ o → X
        by None fact = none fact
        by (Some z) fact = some z fact

    pub sees_then : (n : Net) (p q r : SlotPhase) (outs more : List Effect) (At Bt : Net → Type 0) → Sees brought n p q outs At
        → ((m : Net) → Grows n m → At m → Sees brought m q r more Bt) → Sees brought n p r (outs ++ more) Bt
    sees_then n p q r outs more At Bt h f =
        let k = f h.next h.grows h.agrees in
        record {
          next = k.next;
          runs = runs_through n h.next k.next h.runs k.runs;
          grows = grows_then n h.next k.next h.grows k.grows;
          slots = λ e other not_named. k.slots e (λ at. ⊎_elim other not_named (h.held e at)) not_named ∙ h.slots e other not_named;
          came = λ e none. ⊎_elim (λ free. k.came e free) (λ low. inr (let b = k.rises in omega arith)) (h.came e none);
          enters = λ e z some none. one_enters h.next e (λ still. k.enters e z some still)
              (λ x fact. let first = h.enters e x fact none in (first.0, k.stays first.0 e first.1));
          stays = λ ends e at. k.stays ends e (h.stays ends e at);
          held = λ e at. ⊎_elim (λ x. h.held e x) (λ x. inr x) (k.held e at);
          rises = let a = h.rises in let b = k.rises in omega arith;
          does = all_append (DoesAt k.next) outs more (done_on h.next k.next k.grows outs h.does) k.does;
          agrees = k.agrees;
        }

    -- what agrees then agrees so, too
    pub sees_so : (n : Net) (p q : SlotPhase) (outs : List Effect) (At Bt : Net → Type 0) (h : Sees brought n p q outs At) → Bt h.next
        → Sees brought n p q outs Bt
    sees_so n p q outs At Bt h agrees = record {
      next = h.next;
      runs = h.runs;
      grows = h.grows;
      slots = h.slots;
      came = h.came;
      enters = h.enters;
      stays = h.stays;
      held = h.held;
      rises = h.rises;
      does = h.does;
      agrees = agrees;
    }

    pub sees_as : (n : Net) (p q : SlotPhase) (outs : List Effect) (At Bt : Net → Type 0) → ((m : Net) → Grows n m → At m → Bt m) → Sees brought n p q outs At
        → Sees brought n p q outs Bt
    sees_as n p q outs At Bt f h = sees_so n p q outs At Bt h (f h.next h.grows h.agrees)

    -- where nothing is named, the more so
    pub sees_named : (n : Net) (p q : SlotPhase) (outs : List Effect) (At : Net → Type 0) → Sees (nothing brought.ends) n p q outs At
        → Sees brought n p q outs At
    sees_named n p q outs At h = record {
      next = h.next;
      runs = h.runs;
      grows = h.grows;
      slots = λ e other _. h.slots e other (λ no. no);
      came = h.came;
      enters = h.enters;
      stays = h.stays;
      held = λ e at. ⊎_elim (λ x. inl x) (λ no. absurd no) (h.held e at);
      rises = h.rises;
      does = h.does;
      agrees = h.agrees;
    }
