-- A client's tokens take an input in the small world.
use Rattle.std.proofs.Common.{◌≡◌, ◌≤◌, ◌<◌, ℕ, ◌==◌, Bool, true, false, List, [], ◌∷◌, ◌++◌, append-nil, Option, Some, None, is_some, refl, sym, ap, subst, ◌∙◌, length, inl, inr, arith, slice_set}
use Rattle.std.specs.List.{AllByRecursion}
use Rattle.std.proofs.lemmas.Bool.Decides.{nat_tests}
use Rattle.std.proofs.lemmas.List.{get_or-set_same, get_or-set_other}
use Rattle.std.proofs.Math.ListN.{length-set}
use Rattle.std.proofs.lemmas.Bool.{eqb-true}
use Rattle.client_log.specs.LogState.{LogState}
use Rattle.xfs_base.specs.declared.block.BlockId.{BlockId}
use Rattle.xfs_base.specs.Modes.{is_held}
use Rattle.xfs_base.specs.Limits.{slot_count}
use Rattle.token_client.specs.declared.held.Giving.{Giving}
use Rattle.token_client.specs.declared.input.In as inputs
use Rattle.token_client.specs.declared.output.Out as outputs
use Rattle.token_client.specs.declared.output.Out.TheVariants as output
use Rattle.token_client.specs.Laws.{IsSound}
use Rattle.token_client.specs.State.{TokensState, epoch_of, held_of}
use Rattle.token_client.specs.Transition as client
use Rattle.token_client.proofs.AllInputs.{transition-follows}
use Rattle.token_law.specs.Books.{row_in}
use Rattle.token_law.specs.Net.{Net, Packet, Happens, IsServing, after_client, client_packets, acts_by, IsOwnAct}
use Rattle.token_law.specs.Net.Happens.{Acts}
use Rattle.token_law.specs.Net.Packet.{WantSent, GaveSent}
use Rattle.token_law.specs.Net.Runs.{Begun, On}
use Rattle.token_protocol.specs.Premises.{Premise}
use Rattle.version_model.specs.declared.act.Act.{Act}
use Rattle.node_slots.specs.node_tie.LogRows.{rows_flown, rows_waiting}
use Rattle.node_slots.specs.node_tie.Sight.{SentOf}
use Rattle.node_slots.proofs.node_tie.ClientBearing.{Allowed, Stays, transition-bears}
use Rattle.node_slots.proofs.node_tie.ClientBooks.{onward_still, put_here, put_there, same_log}
use Rattle.node_slots.proofs.node_tie.ClientFrames as frames
use Rattle.node_slots.proofs.node_tie.ClientFrames.{Within, Grown, Sent, Promised, Known, LogStands}
use Rattle.node_slots.proofs.node_tie.ClientUnsettled.{stays_clean, stays_same}
use Rattle.node_slots.proofs.node_tie.SmallWorld.{premise, premise_by}

-- ---- packets of two lists

pub in_first : (xs ys : List Packet) → Within xs (xs ++ ys)
in_first [] ys x h = absurd h
in_first (y ∷ xs) ys x (inl h) = inl h
in_first (y ∷ xs) ys x (inr h) = inr (in_first xs ys x h)

pub in_second : (xs ys : List Packet) → Within ys (xs ++ ys)
in_second [] ys x h = h
in_second (y ∷ xs) ys x h = inr (in_second xs ys x h)

-- ---- what is known of each block

-- what waits or flies stays as it is, where a block does, and where it goes from clean to clean
pub known_stays : (logs : Bool) (l : LogState) → Stays (Known logs l)
known_stays logs l = record {
  same = λ b h g mode ver settled value q. (
    λ held. ap is_some value ∙ q.0 (ap is_held (sym mode) ∙ held),
    premise_by logs (stays_same (row_in (rows_waiting l) b) (row_in (rows_flown l.flight) b) h g ver settled value) q.1,
  );
  clean = λ b h g was now valued q.
      (valued, premise_by logs (stays_clean (row_in (rows_waiting l) b) (row_in (rows_flown l.flight) b) h g was now) q.1);
  lowers = λ b h g held was ver settled value q.
      (λ x. ap is_some value ∙ q.0 held, premise_by logs (stays_same (row_in (rows_waiting l) b) (row_in (rows_flown l.flight) b) h g ver settled value) q.1);
}

module _ (logs : Bool) (members part limit c life room highest : ℕ) where
  abbrev Stands : Net → TokensState → LogState → ℕ → ℕ → Type 0
  Stands n t l number inc = frames.Stands logs members part limit c life room highest n t l number inc

  abbrev Bear : List Packet → LogState → TokensState → Type 0
  Bear sent l t = frames.Bear logs members part limit c life room highest sent l t

  -- what was sent still is
  pub bears_more : (sent more : List Packet) → Within sent more → (l : LogState) (t : TokensState) → Bear sent l t → Bear more l t
  bears_more sent more w l t h =
      record { life_is = h.life_is; promised = h.promised; giving = λ b. by_giving b (held_of t.blocks b).giving (h.giving b); held = h.held }
    where
      by_giving : (b : BlockId) (g : Option Giving) → Sent part c sent b g → Sent part c more b g
      by_giving b None p = p
      by_giving b (Some g) p = λ inside. w _ (p inside)

  -- the client stands where more packets were sent
  pub stands_more : (n : Net) (more : List Packet) (t : TokensState) (l : LogState) (number inc : ℕ) → Within n.sent more → Stands n t l number inc
      → Stands (record n { sent = more }) t l number inc
  stands_more n more t l number inc w h = record {
    up = h.up;
    tokens = h.tokens;
    number_is = h.number_is;
    inc_is = h.inc_is;
    sound = h.sound;
    bears = bears_more n.sent more w l t h.bears;
    logged = h.logged;
    numbers = h.numbers;
  }

  -- it is one that serves, and knows the end of its log
  pub is_serving : (n : Net) (t : TokensState) (l : LogState) (number inc : ℕ) → 0 < c → c < members → Stands n t l number inc
      → IsServing logs members n c l.end.seq
  is_serving n t l number inc pos less h =
      record { some = pos; within = less; up = h.up; end_is = premise_by logs (λ (k : LogStands n.books c l). sym k.seen.end) h.logged }

  -- what the tokens gave out was sent, with the end that the log had; beside this log they stand then
  pub record Taken (n : Net) (l : LogState) (end number inc : ℕ) (d : client.Done) (done : List Act) : Type 0 where
    pub next : Net
    pub grown : Grown logs members part c n next done
    pub stands : Stands next d.state l number inc
    pub seen : Within (client_packets c life end d.outs) next.sent

  -- an input is taken, with these acts
  pub acting : (n : Net) (m : LogState) (end number inc : ℕ) (d : client.Done) (done acts : List Act) → n.up c ≡ true → number ≡ c → inc ≡ life
      → Premise logs (frames.HasNumbers m.end.seq room highest) → acts ≡ n.acts ++ done
      → Happens logs members part n (record (after_client n c end d) { acts = acts }) → IsSound d.state → Bear n.sent m d.state
      → Premise logs (LogStands n.books c m) → Taken n m end number inc d done
  acting n m end number inc d done acts up number_is inc_is numbers are happens sound bears logged =
      let next : Net = record (after_client n c end d) { acts = acts } in
      let packets : List Packet = client_packets c d.state.inc end d.outs in
      record {
        next = next;
        grown = record {
          runs = On Begun happens;
          others = λ k other. (put_there n.tokens c d.state k other, refl);
          slots = λ e. refl;
          grows = in_second packets n.sent;
          books = λ k other. same_log n.books k;
          acts = are;
          own = premise logs (onward_still n.books c);
        };
        stands = record {
          up = up;
          tokens = put_here n.tokens c d.state;
          number_is = number_is;
          inc_is = inc_is;
          sound = sound;
          bears = bears_more n.sent next.sent (in_second packets n.sent) m d.state bears;
          logged = logged;
          numbers = numbers;
        };
        seen = subst (λ i. Within (client_packets c i end d.outs) next.sent) bears.life_is (in_first packets n.sent);
      }

  pub taken : (n : Net) (t : TokensState) (l : LogState) (number inc : ℕ) (d : client.Done) → Stands n t l number inc
      → Happens logs members part n (after_client n c l.end.seq d) → IsSound d.state → Bear n.sent l d.state → Taken n l l.end.seq number inc d []
  taken n t l number inc d h happens sound bears =
      acting n l l.end.seq number inc d [] n.acts h.up h.number_is h.inc_is h.numbers (sym (append-nil n.acts)) happens sound bears h.logged

  -- an input may be taken
  pub record MayTake (n : Net) (l : LogState) (i : inputs.In) : Type 0 where
    pub happens : (end : ℕ) → IsServing logs members n c end → Happens logs members part n (after_client n c end (client.transition (n.tokens c) i))
    pub allowed : Allowed (Sent part c n.sent) (Promised part limit) (Known logs l) life i

  pub none_sent : (sent : List Packet) (b : BlockId) → Sent part c sent b None
  none_sent sent b = tt

  -- what was taken follows
  pub takes : (n : Net) (t : TokensState) (l : LogState) (number inc : ℕ) (i : inputs.In) → 0 < c → c < members → Stands n t l number inc → MayTake n l i
      → Taken n l l.end.seq number inc (client.transition t i) []
  takes n t l number inc i pos less h may =
      taken n t l number inc (client.transition t i) h
      (subst (λ u. Happens logs members part n (after_client n c l.end.seq (client.transition u i))) h.tokens
      (may.happens l.end.seq (is_serving n t l number inc pos less h)))
      (transition-follows (λ b. Unit {0}) t h.sound i (λ b k. tt)).sound
      (transition-bears (Sent part c n.sent) (Promised part limit) (Known logs l) life (known_stays logs l) (none_sent n.sent) t h.sound i may.allowed h.bears)

  -- of its own accord, where nothing is acted
  pub may_act : (n : Net) (l : LogState) (i : inputs.In) → IsOwnAct i → ((u : TokensState) → acts_by c u i ≡ [])
      → Allowed (Sent part c n.sent) (Promised part limit) (Known logs l) life i → MayTake n l i
  may_act n l i own silent allowed = record {
    happens = λ end serves.
        subst (λ (acts : List Act). Happens logs members part n (record (after_client n c end (client.transition (n.tokens c) i)) { acts = acts }))
        (ap (λ acts. n.acts ++ acts) (silent (n.tokens c)) ∙ append-nil n.acts) (Acts c end i serves own);
    allowed = allowed;
  }

  -- ---- what the tokens give out

  abbrev pub OutSeen : List Packet → ℕ → outputs.Out → Type 0
  OutSeen sent end (output.Want block req again mode) = SentOf part sent block (WantSent c life req again block mode end)
  OutSeen sent end (output.Gave block stamp) = SentOf part sent block (GaveSent c block stamp end)
  OutSeen sent end _ = Unit {0}

  abbrev pub OutsSeen : List Packet → ℕ → List outputs.Out → Type 0
  OutsSeen sent end outs = AllByRecursion (OutSeen sent end) outs

  pub outs_seen : (sent : List Packet) (end : ℕ) (outs : List outputs.Out) → Within (client_packets c life end outs) sent → OutsSeen sent end outs
  outs_seen sent end [] w = tt
  outs_seen sent end (output.Want block req again mode ∷ outs) w = (λ inside. w _ (inl refl), outs_seen sent end outs (λ x h. w x (inr h)))
  outs_seen sent end (output.Gave block stamp ∷ outs) w = (λ inside. w _ (inl refl), outs_seen sent end outs (λ x h. w x (inr h)))
  outs_seen sent end (output.Supply block ver value ∷ outs) w = (tt, outs_seen sent end outs w)
  outs_seen sent end (output.Flush block ∷ outs) w = (tt, outs_seen sent end outs w)
  outs_seen sent end (output.Read block place ∷ outs) w = (tt, outs_seen sent end outs w)
  outs_seen sent end (output.Ready block ∷ outs) w = (tt, outs_seen sent end outs w)

  -- what was seen is seen in a world of more packets
  out_more : (sent more : List Packet) → Within sent more → (end : ℕ) (o : outputs.Out) → OutSeen sent end o → OutSeen more end o
  out_more sent more w end (output.Want block req again mode) h = λ inside. w _ (h inside)
  out_more sent more w end (output.Gave block stamp) h = λ inside. w _ (h inside)
  out_more sent more w end _ h = h

  pub outs_more : (sent more : List Packet) → Within sent more → (end : ℕ) (outs : List outputs.Out) → OutsSeen sent end outs → OutsSeen more end outs
  outs_more sent more w end [] h = h
  outs_more sent more w end (o ∷ outs) h = (out_more sent more w end o h.0, outs_more sent more w end outs h.1)

  -- ---- promises

  -- a promise within the bound may be made
  pub promise_may : part < slot_count → (slot epoch : ℕ) → (slot ≡ part → epoch ≤ limit) → (epochs : List ℕ) → Promised part limit epochs
      → Promised part limit (slice_set epochs slot epoch)
  promise_may small slot epoch fits epochs h = record { eight = length-set epochs slot epoch ∙ h.eight; within = by_slot (slot == part) refl }
    where
      apart : (n m : ℕ) → (n == m) ≡ false → m ≡ n → ⊥
      apart n m t = grind (arith, nat_tests)

      by_slot : (t : Bool) → (slot == part) ≡ t → epoch_of (slice_set epochs slot epoch) part ≤ limit
      by_slot true fact =
          let here : slot ≡ part = eqb-true slot part fact in
          let inside : part < length epochs = (let e : length epochs ≡ slot_count = h.eight in omega arith) in
          subst (λ k. epoch_of (slice_set epochs k epoch) part ≤ limit) (sym here)
          (subst (λ m. m ≤ limit) (sym (get_or-set_same epochs part epoch 0 inside)) (fits here))
      by_slot false fact = subst (λ m. m ≤ limit) (sym (get_or-set_other epochs slot part epoch 0 (apart slot part fact))) h.within
