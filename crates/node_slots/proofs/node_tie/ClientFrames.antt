-- How a client that serves goes on in the small world: what of it stays, and how one thing that it does follows another.
use Rattle.std.proofs.Common.{◌≡◌, ◌≤◌, ◌<◌, ℕ, suc, ◌+◌, Bool, true, List, [], ◌∷◌, ◌++◌, append_assoc, append-nil, Option, Some, None, refl, sym, ap, subst, ◌∙◌, length, arith}
use Rattle.std.specs.Prelude.{All, fold}
use Rattle.std.specs.List.{AllByRecursion}
use Rattle.std.proofs.lemmas.List.Elements.{All-nil, All-cons, All-append, All-weaker, recursion_from_All}
use Rattle.client_log.specs.LogState.{LogState}
use Rattle.client_serving.specs.declared.serving.Serving.{Serving}
use Rattle.client_serving.specs.Sends.{Done, gives}
use Rattle.node_base.specs.declared.effects.Effect.{Effect}
use Rattle.node_base.specs.declared.effects.Effect.TheVariants.{Send, Answer, Lose, Does}
use Rattle.node_base.specs.Effects.{act_of, acts_of}
use Rattle.token_client.specs.declared.held.Giving.{Giving}
use Rattle.token_client.specs.declared.held.Held.{Held}
use Rattle.token_client.specs.Laws.{IsSound}
use Rattle.token_client.specs.State.{TokensState, epoch_of, is_in_slot}
use Rattle.token_law.specs.Books.{Books, AreOnce, row_in}
use Rattle.token_law.specs.Net.{Net, Packet, Happens, Runs, acted}
use Rattle.token_law.specs.Net.Packet.{RecallSent}
use Rattle.token_law.specs.Net.Runs.{Begun, On}
use Rattle.token_law.specs.Owed.{IsNeutral}
use Rattle.token_protocol.specs.Basics.{In}
use Rattle.token_protocol.specs.Premises.{Premise}
use Rattle.version_model.specs.declared.act.Act.{Act}
use Rattle.version_model.specs.declared.act.Act.TheVariants as act
use Rattle.wire_msg.specs.declared.body.Body.{Body}
use Rattle.wire_msg.specs.declared.body.Body.TheVariants as body
use Rattle.xfs_base.specs.declared.block.BlockId.{BlockId}
use Rattle.xfs_base.specs.declared.node.NodeId.{NodeId}
use Rattle.xfs_base.specs.declared.node.NodeId.TheVariants.{Client}
use Rattle.xfs_base.specs.Limits.{u32_end, slot_count}
use Rattle.xfs_base.specs.Steps.{still, saying, steps}
use Rattle.node_slots.specs.node_tie.ClientLogs.{AreVersions, NothingBeyond, IsUnsettled}
use Rattle.node_slots.specs.node_tie.LogRows.{LogSeen, rows_flown, rows_waiting}
use Rattle.node_slots.specs.node_tie.Sight.{SameLog, ClientSends, SupplySeen}
use Rattle.node_slots.proofs.node_tie.Sight.{ClientDoes, IsNoFall}
use Rattle.node_slots.proofs.node_tie.ClientBearing.{Bears, IsValued}
use Rattle.node_slots.proofs.node_tie.ClientBooks.{Onward, onward_on, onward_still, same_log, same_log_on}
use Rattle.node_slots.proofs.node_tie.SmallWorld.{neutral_acts, premise, premise_both, premise_by, runs_through, says_all}

-- ---- lists of packets

-- all of these packets are among those
abbrev pub Within : List Packet → List Packet → Type 0
Within sent more = (x : Packet) → In x sent → In x more

module _ (part c life : ℕ) where
  -- what a client does, and was seen, is seen in a world of more packets
  supply_more : (sent more : List Packet) → Within sent more → (to : NodeId) (m : _) → SupplySeen part sent to m → SupplySeen part more to m
  supply_more sent more w (Client n) m h = λ inside. w _ (h inside)
  supply_more sent more w _ m h = h

  sends_more : (sent more : List Packet) → Within sent more → (to : NodeId) (m : Body) → ClientSends part sent c life to m → ClientSends part more c life to m
  sends_more sent more w to (body.Want m) h = λ inside. w _ (h inside)
  sends_more sent more w to (body.Gave m) h = λ inside. w _ (h inside)
  sends_more sent more w to (body.Report m) h = λ inside. w _ (h inside)
  sends_more sent more w to (body.Supply m) h = supply_more sent more w to m h
  sends_more sent more w to (body.Deltas m) h = h
  sends_more sent more w to (body.Store m) h = h
  sends_more sent more w to (body.Fetch m) h = h
  sends_more sent more w to (body.Fence m) h = h
  sends_more sent more w to (body.Hello m) h = h
  sends_more sent more w to _ h = absurd h

  pub does_more : (sent more : List Packet) → Within sent more → (e : Effect) → ClientDoes part sent c life e → ClientDoes part more c life e
  does_more sent more w (Send to m) h = sends_more sent more w to m h
  does_more sent more w _ h = h

  pub all_more : (sent more : List Packet) → Within sent more → (es : List Effect) → All (ClientDoes part sent c life) es
      → All (ClientDoes part more c life) es
  all_more sent more w es h = All-weaker (ClientDoes part sent c life) (ClientDoes part more c life) (does_more sent more w) es h

-- what a client may do in any world: its acts change no history
abbrev pub May : ℕ → ℕ → ℕ → Effect → Type 0
May part c life (Send to m) = ClientSends part [] c life to m
May part c life (Answer item answer) = Unit {0}
May part c life (Lose seg) = Unit {0}
May part c life (Does a) = IsNeutral a

abbrev pub Plain : ℕ → ℕ → ℕ → List Effect → Type 0
Plain part c life es = All (May part c life) es

module _ (part c life : ℕ) where
  no_fall : (a : Act) → IsNeutral a → IsNoFall a
  no_fall (act.Fell client flight falls) h = h
  no_fall _ h = tt

  may_does : (e : Effect) → May part c life e → ClientDoes part [] c life e
  may_does (Send to m) h = h
  may_does (Answer item answer) h = tt
  may_does (Lose seg) h = tt
  may_does (Does a) h = no_fall a h

  pub plain_does : (sent : List Packet) (es : List Effect) → Plain part c life es → All (ClientDoes part sent c life) es
  plain_does sent es h = all_more part c life [] sent (λ x none. absurd none) es (All-weaker (May part c life) (ClientDoes part [] c life) may_does es h)

  pub plain_acts : (es : List Effect) → Plain part c life es → AllByRecursion IsNeutral (acts_of (Client c) es)
  plain_acts es h = neutral_acts (Client c) (May part c life) (λ a fact. fact) es (recursion_from_All (May part c life) es h)

-- what is done by one list and then by another
pub acts_on : (c : ℕ) (es fs : List Effect) → acts_of (Client c) (es ++ fs) ≡ acts_of (Client c) es ++ acts_of (Client c) fs
acts_on c [] fs = refl
acts_on c (e ∷ es) fs =
    ap (λ rest. act_of (Client c) e ++ rest) (acts_on c es fs) ∙ sym (append_assoc (act_of (Client c) e) (acts_of (Client c) es) (acts_of (Client c) fs))

-- ---- the net

module _ (logs : Bool) (members part c : ℕ) where
  -- how a net grows by what client c does, with these acts
  pub record Grown (n next : Net) (done : List Act) : Type 0 where
    pub runs : Runs logs members part n next
    pub others : (d : ℕ) → (d ≡ c → ⊥) → (next.tokens d ≡ n.tokens d) × (next.up d ≡ n.up d)
    pub slots : (e : ℕ) → next.slots e ≡ n.slots e
    pub grows : Within n.sent next.sent
    pub books : (l : ℕ) → (l ≡ c → ⊥) → SameLog n.books next.books l
    pub acts : next.acts ≡ n.acts ++ done
    pub own : Premise logs (Onward n.books next.books c)

  pub grown_still : (n : Net) → Grown n n []
  grown_still n = record {
    runs = Begun;
    others = λ d other. (refl, refl);
    slots = λ e. refl;
    grows = λ x h. h;
    books = λ l other. same_log n.books l;
    acts = sym (append-nil n.acts);
    own = premise logs (onward_still n.books c);
  }

  pub grown_on : (n m o : Net) (first later : List Act) → Grown n m first → Grown m o later → Grown n o (first ++ later)
  grown_on n m o first later p q = record {
    runs = runs_through n m o p.runs q.runs;
    others = λ d other. ((q.others d other).0 ∙ (p.others d other).0, (q.others d other).1 ∙ (p.others d other).1);
    slots = λ e. q.slots e ∙ p.slots e;
    grows = λ x h. q.grows x (p.grows x h);
    books = λ l other. same_log_on n.books m.books o.books l (p.books l other) (q.books l other);
    acts = q.acts ∙ ap (λ done. done ++ later) p.acts ∙ append_assoc n.acts first later;
    own = premise_both logs (onward_on n.books m.books o.books c) p.own q.own;
  }

  -- one thing happens, and these acts are done
  pub grown_acting : (n : Net) (done : List Act) → Happens logs members part n (acted n done) → Grown n (acted n done) done
  grown_acting n done happens = record {
    runs = On Begun happens;
    others = λ d other. (refl, refl);
    slots = λ e. refl;
    grows = λ x h. h;
    books = λ l other. same_log n.books l;
    acts = refl;
    own = premise logs (onward_still n.books c);
  }

  -- acts that change no history are done
  pub grown_saying : (n : Net) (done : List Act) → AllByRecursion IsNeutral done → Grown n (acted n done) done
  grown_saying n done neutral = record {
    runs = says_all logs members part n done neutral;
    others = λ d other. (refl, refl);
    slots = λ e. refl;
    grows = λ x h. h;
    books = λ l other. same_log n.books l;
    acts = refl;
    own = premise logs (onward_still n.books c);
  }

-- ---- a client that serves

-- so many numbers are left behind this one up to the top, which isn't the last
pub record HasNumbers (end room highest : ℕ) : Type 0 where
  pub below : end + room ≤ highest
  pub next : highest < u32_end

-- how its log stands in the books, by itself
pub record LogStands (k : Books) (c : ℕ) (l : LogState) : Type 0 where
  pub seen : LogSeen k c l
  pub said : k.rows c (suc (k.end c)) ≡ rows_flown l.flight
  pub beyond : NothingBeyond k c
  pub waits_once : AreOnce (rows_waiting l)
  pub flies_once : AreOnce (rows_flown l.flight)
  pub waits_some : AreVersions (rows_waiting l)
  pub flies_some : AreVersions (rows_flown l.flight)

-- what is put off of a block was sent
abbrev pub Sent : ℕ → ℕ → List Packet → BlockId → Option Giving → Type 0
Sent part c sent block None = Unit {0}
Sent part c sent block (Some g) = is_in_slot part block ≡ true → In (RecallSent c block g.stamp g.keep) sent

pub record Promised (part limit : ℕ) (epochs : List ℕ) : Type 0 where
  pub eight : length epochs ≡ slot_count
  pub within : epoch_of epochs part ≤ limit

-- a block that is held has a value; and of it just what is dirty waits, or is in flight
abbrev pub Known : Bool → LogState → BlockId → Held → Type 0
Known logs l b h = IsValued h × Premise logs (IsUnsettled h (row_in (rows_waiting l) b) (row_in (rows_flown l.flight) b))

module _ (logs : Bool) (members part limit c life room highest : ℕ) where
  -- what the tokens bear, beside this log
  abbrev pub Bear : List Packet → LogState → TokensState → Type 0
  Bear sent l t = Bears (Sent part c sent) (Promised part limit) (Known logs l) life t

  -- the client of these tokens, this log, this number and this incarnation stands in the net; so many segments may still be settled, up to this number
  pub record Stands (n : Net) (t : TokensState) (l : LogState) (number inc : ℕ) : Type 0 where
    pub up : n.up c ≡ true
    pub tokens : n.tokens c ≡ t
    pub number_is : number ≡ c
    pub inc_is : inc ≡ life
    pub sound : IsSound t
    pub bears : Bear n.sent l t
    pub logged : Premise logs (LogStands n.books c l)
    pub numbers : Premise logs (HasNumbers l.end.seq room highest)

  abbrev pub At : Net → Serving → Type 0
  At n s = Stands n s.tokens s.log s.lasting.number s.lasting.inc

  -- it goes on to a net in which it stands, and all that it sends was sent, and what it acts is acted
  pub record Gone (n : Net) (t : TokensState) (l : LogState) (number inc : ℕ) (outs : List Effect) : Type 0 where
    pub next : Net
    pub grown : Grown logs members part c n next (acts_of (Client c) outs)
    pub stands : Stands next t l number inc
    pub does : All (ClientDoes part next.sent c life) outs

  abbrev pub Goes : Net → Done → Type 0
  Goes n d = Gone n d.state.tokens d.state.log d.state.lasting.number d.state.lasting.inc d.outs

  -- the same, with nothing sent, or acted
  pub record Passes (n : Net) (t : TokensState) (l : LogState) (number inc : ℕ) : Type 0 where
    pub next : Net
    pub grown : Grown logs members part c n next []
    pub stands : Stands next t l number inc

  pub stands_acted : (n : Net) (done : List Act) (t : TokensState) (l : LogState) (number inc : ℕ) → Stands n t l number inc
      → Stands (acted n done) t l number inc
  stands_acted n done t l number inc h = record {
    up = h.up;
    tokens = h.tokens;
    number_is = h.number_is;
    inc_is = h.inc_is;
    sound = h.sound;
    bears = h.bears;
    logged = h.logged;
    numbers = h.numbers;
  }

  -- nothing is sent
  pub goes_still : (n : Net) (s : Serving) → At n s → Goes n (still s)
  goes_still n s h = record { next = n; grown = grown_still logs members part c n; stands = h; does = All-nil (ClientDoes part n.sent c life) }

  -- what is sent may be sent in any world
  pub goes_plain : (n : Net) (s : Serving) (outs : List Effect) → At n s → Plain part c life outs → Goes n (gives s outs)
  goes_plain n s outs h plain = record {
    next = acted n (acts_of (Client c) outs);
    grown = grown_saying logs members part c n (acts_of (Client c) outs) (plain_acts part c life outs plain);
    stands = stands_acted n (acts_of (Client c) outs) s.tokens s.log s.lasting.number s.lasting.inc h;
    does = plain_does part c life n.sent outs plain;
  }

  -- what was sent is sent, and nothing is acted
  pub goes_said : (n : Net) (s : Serving) (e : Effect) → acts_of (Client c) (e ∷ []) ≡ [] → At n s → ClientDoes part n.sent c life e → Goes n (gives s (e ∷ []))
  goes_said n s e silent h seen = record {
    next = n;
    grown = subst (Grown logs members part c n n) (sym silent) (grown_still logs members part c n);
    stands = h;
    does = All-cons (ClientDoes part n.sent c life) e [] seen (All-nil (ClientDoes part n.sent c life));
  }

  -- one thing follows another, in a world of more packets
  pub goes_on_in : (n : Net) (d e : Done) → Goes n d → ((m : Net) → Within n.sent m.sent → At m d.state → Goes m e) → Goes n (saying d.outs e)
  goes_on_in n d e p f =
      let q : Goes p.next e = f p.next p.grown.grows p.stands in
      record {
        next = q.next;
        grown = subst (Grown logs members part c n q.next) (sym (acts_on c d.outs e.outs))
            (grown_on logs members part c n p.next q.next (acts_of (Client c) d.outs) (acts_of (Client c) e.outs) p.grown q.grown);
        stands = q.stands;
        does = All-append (ClientDoes part q.next.sent c life) d.outs e.outs (all_more part c life p.next.sent q.next.sent q.grown.grows d.outs p.does)
            q.does;
      }

  -- one thing follows another
  pub goes_on : (n : Net) (d e : Done) → Goes n d → ((m : Net) → At m d.state → Goes m e) → Goes n (saying d.outs e)
  goes_on n d e p f = goes_on_in n d e p (λ m w h. f m h)

  -- what goes on from a net that grew
  pub goes_from : (n m : Net) (d : Done) → Grown logs members part c n m [] → Goes m d → Goes n d
  goes_from n m d grown p =
      record { next = p.next; grown = grown_on logs members part c n m p.next [] (acts_of (Client c) d.outs) grown p.grown; stands = p.stands; does = p.does }

  -- what goes on from a net that grew by an act of its
  pub goes_acting : (n m : Net) (a : Act) (d : Done) → IsNoFall a → Grown logs members part c n m (a ∷ []) → Goes m d → Goes n (saying (Does a ∷ []) d)
  goes_acting n m a d no_fall grown p = record {
    next = p.next;
    grown = grown_on logs members part c n m p.next (a ∷ []) (acts_of (Client c) d.outs) grown p.grown;
    stands = p.stands;
    does = All-cons (ClientDoes part p.next.sent c life) (Does a) d.outs no_fall p.does;
  }

  -- a change of what the small world doesn't see, with more that may be sent in any world, before or after
  pub goes_and_gives : (n : Net) (d : Done) (s : Serving) (outs : List Effect) → Goes n d → ((m : Net) → At m d.state → At m s) → Plain part c life outs
      → Goes n (gives s (d.outs ++ outs))
  goes_and_gives n d s outs p f plain = goes_on n d (gives s outs) p (λ m h. goes_plain m s outs (f m h) plain)

  pub goes_after_in : (n : Net) (s : Serving) (outs : List Effect) (d : Done) → Plain part c life outs → At n s
      → ((m : Net) → Within n.sent m.sent → At m s → Goes m d)
      → Goes n (saying outs d)
  goes_after_in n s outs d plain h f = goes_on_in n (gives s outs) d (goes_plain n s outs h plain) f

  pub goes_after : (n : Net) (s : Serving) (outs : List Effect) (d : Done) → Plain part c life outs → At n s → ((m : Net) → At m s → Goes m d)
      → Goes n (saying outs d)
  goes_after n s outs d plain h f = goes_after_in n s outs d plain h (λ m w k. f m k)

  -- a list of steps
  pub goes_steps : {A : Type 0} (f : Serving → A → Done) → ((n : Net) (s : Serving) (x : A) → At n s → Goes n (f s x)) → (n : Net) (s : Serving) (xs : List A)
      → At n s → Goes n (steps f s xs)
  goes_steps f one n s [] h = goes_still n s h
  goes_steps f one n s (x ∷ xs) h = goes_on n (f s x) (steps f (f s x).state xs) (one n s x h) (λ m k. goes_steps f one m (f s x).state xs k)

  -- a list of changes that send nothing
  pub goes_fold : {A : Type 0} (f : Serving → A → Serving) → ((n : Net) (s : Serving) (x : A) → At n s → Goes n (still (f s x)))
      → (n : Net) (s : Serving) (xs : List A) → At n s → Goes n (still (fold f s xs))
  goes_fold f one n s [] h = goes_still n s h
  goes_fold f one n s (x ∷ xs) h = goes_on n (still (f s x)) (still (fold f (f s x) xs)) (one n s x h) (λ m k. goes_fold f one m (f s x) xs k)

-- so many segments may be settled, where the numbers allow it
pub stands_upto : (logs : Bool) (members part limit c life room rest highest : ℕ) (n : Net) (t : TokensState) (l : LogState) (number inc : ℕ)
    → Premise logs (HasNumbers l.end.seq rest highest) → Stands logs members part limit c life room highest n t l number inc
    → Stands logs members part limit c life rest highest n t l number inc
stands_upto logs members part limit c life room rest highest n t l number inc numbers h = record {
  up = h.up;
  tokens = h.tokens;
  number_is = h.number_is;
  inc_is = h.inc_is;
  sound = h.sound;
  bears = h.bears;
  logged = h.logged;
  numbers = numbers;
}

-- fewer may be
pub stands_less : (logs : Bool) (members part limit c life room highest : ℕ) (n : Net) (t : TokensState) (l : LogState) (number inc : ℕ)
    → Stands logs members part limit c life (room + 1) highest n t l number inc → Stands logs members part limit c life room highest n t l number inc
stands_less logs members part limit c life room highest n t l number inc h =
    stands_upto logs members part limit c life (room + 1) room highest n t l number inc
    (premise_by logs (λ (k : HasNumbers l.end.seq (room + 1) highest). record { below = less l.end.seq k.below; next = k.next }) h.numbers) h
  where
    less : (end : ℕ) → end + (room + 1) ≤ highest → end + room ≤ highest
    less end h = omega (arith, h)
