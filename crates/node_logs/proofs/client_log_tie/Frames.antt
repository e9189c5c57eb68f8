-- How a client that serves goes on in the small world of its log: what of it stays, and how one thing that it does follows another.
use Rattle.std.proofs.Common.{◌≡◌, ℕ, List, [], ◌∷◌, ◌++◌, refl, ◌∙◌, sym, ap, inl, inr, arith}
use Rattle.std.specs.Prelude.{All, fold}
use Rattle.std.proofs.lemmas.List.Elements.{All-nil, All-append, All-weaker}
use Rattle.client_log.specs.History.{state_after}
use Rattle.client_log.specs.LogState.{LogState}
use Rattle.client_serving.specs.declared.serving.Serving.{Serving}
use Rattle.client_serving.specs.Sends.{Done, gives}
use Rattle.node_base.specs.declared.effects.Effect.{Effect}
use Rattle.node_base.specs.declared.effects.Effect.TheVariants.{Send, Answer, Lose, Does}
use Rattle.version_model.specs.declared.act.Act.{Act}
use Rattle.version_model.specs.declared.act.Act.TheVariants.{Filed}
use Rattle.wire_msg.specs.declared.body.Body.{Body}
use Rattle.wire_msg.specs.declared.body.Body.TheVariants as body
use Rattle.xfs_base.specs.declared.node.NodeId.{NodeId}
use Rattle.xfs_base.specs.declared.node.NodeId.TheVariants.{Client}
use Rattle.xfs_base.specs.Steps.{still, saying, steps}
use Rattle.fragment_store.specs.ShelfState.{ShelfState}
use Rattle.log_protocol.specs.Tables.{In}
use Rattle.log_tie.specs.Setting.{Setting}
use Rattle.log_law.specs.Net.{Net}
use Rattle.log_law.specs.Net.{Owner as owner}
use Rattle.log_law.specs.Events.{Runs}
use Rattle.log_law.specs.Events.Runs.{Begun, On}
use Rattle.node_logs.specs.node_log_tie.Sight.{BodySeen}
use Rattle.node_logs.proofs.node_log_tie.Sight.{Later}
use Rattle.node_logs.proofs.node_log_tie.Sights.{seen_on}
use Rattle.client_node.specs.declared.phase.Phase.{Phase}
use Rattle.node_logs.specs.client_log_tie.Owner.{Scene, asker, Lasts, SeesLog, ClientAgrees}
use Rattle.node_logs.specs.client_log_tie.Puts.{LogTook, PutsOwn, ServesBy}
use Rattle.node_logs.specs.client_log_tie.Texts.{StaysWritten}
use Rattle.node_logs.proofs.client_log_tie.Puts.{took_both, took_nothing}
use Rattle.node_logs.specs.client_log_tie.ClientEvents.{ActSeen, OfItsLog, PhaseWritten, FliesInBoot, Grown, IsOnce, NeverHasLog, ServesStraight}

-- ---- lists

pub in_after : {X : Type 0} (xs ys : List X) (x : X) → In x ys → In x (xs ++ ys)
in_after [] ys x fact = fact
in_after (y ∷ xs) ys x fact = inr (in_after xs ys x fact)

pub in_before : {X : Type 0} (xs ys : List X) (x : X) → In x xs → In x (xs ++ ys)
in_before [] ys x fact = absurd fact
in_before (y ∷ xs) ys x (inl e) = inl e
in_before (y ∷ xs) ys x (inr fact) = inr (in_before xs ys x fact)

module _ (g : Setting) where
  -- ---- how the small world grows

  pub grown_still : (w : Scene) → Grown g w w
  grown_still w = record {
    runs = Begun;
    sent = λ p fact. fact;
    filed = λ name fact. fact;
    shelves = refl;
    registry = refl;
    low = refl;
    dropped = refl;
    asked = λ k some. refl;
  }

  runs_on : (n m o : Net) → Runs g n m → Runs g m o → Runs g n o
  runs_on n m o first Begun = first
  runs_on n m o first (On {m = k} run happens) = On (runs_on n m k first run) happens

  pub grown_on : (u v w : Scene) → Grown g u v → Grown g v w → Grown g u w
  grown_on u v w a b = record {
    runs = runs_on u.net v.net w.net a.runs b.runs;
    sent = λ p fact. b.sent p (a.sent p fact);
    filed = λ name fact. b.filed name (a.filed name fact);
    shelves = b.shelves ∙ a.shelves;
    registry = b.registry ∙ a.registry;
    low = b.low ∙ a.low;
    dropped = b.dropped ∙ a.dropped;
    asked = λ k some. b.asked k (λ none. some (sym (a.asked k some) ∙ none)) ∙ a.asked k some;
  }

  -- ---- what the owner is on the way

  pub still_once : (w : Scene) → IsOnce (grown_still w).runs
  unfolding grown_still
  still_once w = tt

  never_through : (n m o : Net) (first : Runs g n m) (run : Runs g m o) → NeverHasLog first → NeverHasLog run → NeverHasLog (runs_on n m o first run)
  unfolding runs_on
  never_through n m o first Begun a b = a
  never_through n m o first (On {m = k} run happens) a b = (b.0, never_through n m k first run a b.1)

  pub never_on : (u v w : Scene) (a : Grown g u v) (b : Grown g v w) → NeverHasLog a.runs → NeverHasLog b.runs → NeverHasLog (grown_on u v w a b).runs
  unfolding grown_on
  never_on u v w a b x y = never_through u.net v.net w.net a.runs b.runs x y

-- ---- what a client does

module _ (g : Setting) (c : ℕ) where
  -- what it says was sent, and what it stores or bars is of the log
  abbrev pub ClientSays : Scene → NodeId → Body → Type 0
  ClientSays w to (body.Store m) = BodySeen g (asker c w) w.net (Client c) to (body.Store m) × OfItsLog g (body.Store m)
  ClientSays w to (body.Fence m) = BodySeen g (asker c w) w.net (Client c) to (body.Fence m) × OfItsLog g (body.Fence m)
  ClientSays w to said = BodySeen g (asker c w) w.net (Client c) to said

  pub says_seen : (w : Scene) (to : NodeId) (said : Body) → ClientSays w to said → BodySeen g (asker c w) w.net (Client c) to said
  says_seen w to (body.Store m) h = h.0
  says_seen w to (body.Fence m) h = h.0
  says_seen w to _ h = h

  pub says_own : (w : Scene) (to : NodeId) (said : Body) → ClientSays w to said → OfItsLog g said
  says_own w to (body.Store m) h = h.1
  says_own w to (body.Fence m) h = h.1
  says_own w to _ h = tt

  -- what it sends was sent, and what it tells to be filed is filed
  abbrev pub ClientDoes : Scene → Effect → Type 0
  ClientDoes w (Send to said) = ClientSays w to said
  ClientDoes w (Answer item answer) = Unit {0}
  ClientDoes w (Lose seg) = Unit {0}
  ClientDoes w (Does act) = ActSeen w act

  -- the small world runs on to one in which the client is seen in this phase, and all that it does is seen
  pub record ClientDid (w : Scene) (p : Phase) (outs : List Effect) : Type 0 where
    pub next : Scene
    pub grown : Grown g w next
    pub agrees : ClientAgrees g c next p
    pub written : PhaseWritten p
    pub does : All (ClientDoes next) outs
    pub flies : FliesInBoot w.net next.net
    pub straight : ServesStraight grown.runs
    pub puts : ServesBy PutsOwn w.net next.net

  -- ---- what was seen is seen

  module _ (w v : Scene) (grown : Grown g w v) where
    later : Later w.net v.net
    later = record {
      low = (let y = grown.low in omega arith);
      sent = grown.sent;
      reached = λ k. (let e = ap (λ (f : ℕ → ShelfState). (f k).generation) grown.shelves in omega arith);
    }

    pub body_more : (from to : NodeId) (said : Body) → BodySeen g (asker c w) w.net from to said → BodySeen g (asker c v) v.net from to said
    body_more from to said h = seen_on g (asker c w) (asker c v) refl grown.asked w.net v.net later from to said h

    act_more : (act : Act) → ActSeen w act → ActSeen v act
    act_more (Filed seg) h = grown.filed _ h
    act_more _ h = tt

    says_more : (to : NodeId) (said : Body) → ClientSays w to said → ClientSays v to said
    says_more to (body.Store m) h = (body_more (Client c) to (body.Store m) h.0, h.1)
    says_more to (body.Fence m) h = (body_more (Client c) to (body.Fence m) h.0, h.1)
    says_more to said h = body_more (Client c) to said h

    does_more : (e : Effect) → ClientDoes w e → ClientDoes v e
    does_more (Send to said) h = says_more to said h
    does_more (Answer item answer) h = tt
    does_more (Lose seg) h = tt
    does_more (Does act) h = act_more act h

    pub all_more : (es : List Effect) → All (ClientDoes w) es → All (ClientDoes v) es
    all_more es h = All-weaker (ClientDoes w) (ClientDoes v) does_more es h

  -- what a client may do in any world
  abbrev pub Plain : List Effect → Type 0
  Plain es = (w : Scene) → All (ClientDoes w) es

  -- ---- a client that serves

  -- one of this log, this number and this incarnation, which asked nothing by later numbers, stands in the small world
  pub record Stands (w : Scene) (log : LogState) (its life last : ℕ) : Type 0 where
    pub lasts : Lasts g c w its life last
    pub sees : SeesLog g c w log
    pub written : StaysWritten log

  abbrev pub At : Scene → Serving → Type 0
  At w s = Stands w s.log s.lasting.number s.lasting.inc s.lasting.questions.last

  -- it goes on to a world in which it stands, and all that it does is seen
  pub record Gone (w : Scene) (log : LogState) (its life last : ℕ) (outs : List Effect) : Type 0 where
    pub next : Scene
    pub grown : Grown g w next
    pub stands : Stands next log its life last
    pub does : All (ClientDoes next) outs
    pub boot : next.net.inc ≡ w.net.inc
    pub puts : (s : LogState) → w.net.owner ≡ owner.Serving s → LogTook PutsOwn w.net next.net s

  abbrev pub Goes : Scene → Done → Type 0
  Goes w d = Gone w d.state.log d.state.lasting.number d.state.lasting.inc d.state.lasting.questions.last d.outs

  -- nothing is done
  pub goes_still : (w : Scene) (s : Serving) → At w s → Goes w (still s)
  goes_still w s h = record { next = w; grown = grown_still g w; stands = h; does = All-nil (ClientDoes w); boot = refl; puts = took_nothing PutsOwn w.net }

  -- what may be done in any world
  pub goes_plain : (w : Scene) (s : Serving) (outs : List Effect) → At w s → Plain outs → Goes w (gives s outs)
  goes_plain w s outs h plain = record { next = w; grown = grown_still g w; stands = h; does = plain w; boot = refl; puts = took_nothing PutsOwn w.net }

  -- what is seen already
  pub goes_seen : (w : Scene) (s : Serving) (outs : List Effect) → At w s → All (ClientDoes w) outs → Goes w (gives s outs)
  goes_seen w s outs h seen = record { next = w; grown = grown_still g w; stands = h; does = seen; boot = refl; puts = took_nothing PutsOwn w.net }

  -- one thing follows another, in a world that grew
  pub goes_on_in : (w : Scene) (d e : Done) → Goes w d → ((v : Scene) → Grown g w v → At v d.state → Goes v e) → Goes w (saying d.outs e)
  goes_on_in w d e p f =
      let q : Goes p.next e = f p.next p.grown p.stands in
      record {
        next = q.next;
        grown = grown_on g w p.next q.next p.grown q.grown;
        stands = q.stands;
        does = All-append (ClientDoes q.next) d.outs e.outs (all_more p.next q.next q.grown d.outs p.does) q.does;
        boot = q.boot ∙ p.boot;
        puts = λ s fact.
            let a : LogTook PutsOwn w.net p.next.net s = p.puts s fact in
            took_both PutsOwn w.net p.next.net q.next.net s a (q.puts (state_after s a.inputs) a.serves);
      }

  pub goes_on : (w : Scene) (d e : Done) → Goes w d → ((v : Scene) → At v d.state → Goes v e) → Goes w (saying d.outs e)
  goes_on w d e p f = goes_on_in w d e p (λ v grown h. f v h)

  pub goes_from : (w v : Scene) (d : Done) → Grown g w v → v.net.inc ≡ w.net.inc
      → ((s : LogState) → w.net.owner ≡ owner.Serving s → LogTook PutsOwn w.net v.net s) → Goes v d → Goes w d
  goes_from w v d grown boot puts p = record {
    next = p.next;
    grown = grown_on g w v p.next grown p.grown;
    stands = p.stands;
    does = p.does;
    boot = p.boot ∙ boot;
    puts = λ s fact.
        let a : LogTook PutsOwn w.net v.net s = puts s fact in
        took_both PutsOwn w.net v.net p.next.net s a (p.puts (state_after s a.inputs) a.serves);
  }

  -- a change of what the small world doesn't see, with more that may be done in any world, before or after
  pub goes_and_gives : (w : Scene) (d : Done) (s : Serving) (outs : List Effect) → Goes w d → ((v : Scene) → At v d.state → At v s) → Plain outs
      → Goes w (gives s (d.outs ++ outs))
  goes_and_gives w d s outs p f plain = goes_on w d (gives s outs) p (λ v h. goes_plain v s outs (f v h) plain)

  pub goes_after : (w : Scene) (outs : List Effect) (d : Done) → Plain outs → Goes w d → Goes w (saying outs d)
  goes_after w outs d plain p = record {
    next = p.next;
    grown = p.grown;
    stands = p.stands;
    does = All-append (ClientDoes p.next) outs d.outs (plain p.next) p.does;
    boot = p.boot;
    puts = p.puts;
  }

  -- a list of steps
  pub goes_steps : {A : Type 0} (f : Serving → A → Done) → ((w : Scene) (s : Serving) (x : A) → At w s → Goes w (f s x))
      → (w : Scene) (s : Serving) (xs : List A) → At w s
      → Goes w (steps f s xs)
  goes_steps f one w s [] h = goes_still w s h
  goes_steps f one w s (x ∷ xs) h = goes_on w (f s x) (steps f (f s x).state xs) (one w s x h) (λ v k. goes_steps f one v (f s x).state xs k)

  -- a list of changes of what the small world doesn't see
  pub stands_fold : {A : Type 0} (w : Scene) (f : Serving → A → Serving) → ((s : Serving) (x : A) → At w s → At w (f s x)) → (s : Serving) (xs : List A)
      → At w s → At w (fold f s xs)
  stands_fold w f one s [] h = h
  stands_fold w f one s (x ∷ xs) h = stands_fold w f one (f s x) xs (one s x h)
