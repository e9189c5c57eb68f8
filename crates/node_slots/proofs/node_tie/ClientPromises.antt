-- A client that serves promises a slot to a manager's epoch: what is dropped by it, and that what it reports is of that epoch.
use Rattle.std.proofs.Common.{◌≡◌, ◌≤◌, ◌<◌, ℕ, ◌+◌, ◌-◌, ◌==◌, ◌&&◌, Bool, true, List, [], ◌∷◌, Option, Some, None, is_some, nat_lt, nat_le, length, refl, sym, ap, ◌∙◌, arith, inl, inr, ◌++◌, subst}
use Rattle.std.specs.List.{AllByRecursion, filter}
use Rattle.std.specs.List.Sorted.{IsStrictlySortedBy}
use Rattle.std.specs.Map.{keys_of}
use Rattle.std.specs.declared.cmp.Ordering.TheVariants.{Less, Equal}
use Rattle.std.proofs.lemmas.Bool.Decides.{nat_tests}
use Rattle.std.proofs.lemmas.Cmp.{tied_itself}
use Rattle.std.proofs.lemmas.List.{get_or-set_same}
use Rattle.std.proofs.lemmas.List.Elements.{All-nil, All-cons, recursion_from_All}
use Rattle.client_log.specs.declared.input.In.TheVariants as log_in
use Rattle.client_log.specs.LogState.{LogState}
use Rattle.client_serving.specs.declared.serving.Serving.{Serving}
use Rattle.client_serving.specs.Flights.{held_at, serving_write}
use Rattle.client_serving.specs.Follow.{serving_follow, follow_one}
use Rattle.client_serving.specs.Packets.{serving_renew, promised_by, serving_promise, reports, may_report, polled, on_poll, promised_in, is_news, serving_hear, regroups, takes_news, on_news, on_welcome}
use Rattle.client_serving.specs.Sends.{Done, report}
use Rattle.delta_feed.specs.Transition.{new_epoch}
use Rattle.group_map.specs.GroupMapState.{GroupMapState}
use Rattle.log_flight.specs.Flights.{FlightState}
use Rattle.node_base.specs.Maps.{fits, is_older, maps_take}
use Rattle.node_base.specs.Room.{has_room}
use Rattle.token_client.specs.declared.held.Fetch.{Fetch}
use Rattle.token_client.specs.declared.held.Held.{Held}
use Rattle.token_client.specs.declared.input.In.TheVariants as input
use Rattle.token_client.specs.declared.output.Out as outputs
use Rattle.token_client.specs.declared.output.Out.TheVariants as output
use Rattle.token_client.specs.State.{TokensState, held_of, held_in, epoch_of, is_in_slot}
use Rattle.token_client.specs.Transition as client
use Rattle.token_client.proofs.Promises.{Agrees, agrees-itself}
use Rattle.token_client.proofs.Tables.{InOrder}
use Rattle.token_law.specs.Net.{Net}
use Rattle.token_law.specs.Net.Happens.{Reports}
use Rattle.token_law.specs.Net.Packet.{ReportSent}
use Rattle.token_law.specs.Net.Runs.{Begun, On}
use Rattle.wire_msg.specs.declared.deltas.Poll.{Poll}
use Rattle.wire_msg.specs.declared.registry.News.{News}
use Rattle.wire_msg.specs.declared.registry.Welcome.{Welcome}
use Rattle.xfs_base.proofs.BlockOrder.{block_cmp_total}
use Rattle.xfs_base.proofs.Booleans.{by_test, contrary, and_first, and_second}
use Rattle.xfs_base.specs.Blocks.{block_cmp}
use Rattle.xfs_base.specs.declared.block.BlockId.{BlockId}
use Rattle.xfs_base.specs.declared.news.SlotNews.{SlotNews}
use Rattle.xfs_base.specs.declared.node.NodeId.{NodeId}
use Rattle.xfs_base.specs.declared.node.NodeId.TheVariants as node
use Rattle.xfs_base.specs.declared.token.Mode.{Mode}
use Rattle.xfs_base.specs.declared.token.Mode.TheVariants.{Copy}
use Rattle.xfs_base.specs.Steps.{Stepped, still, steps}
use Rattle.xfs_base.specs.Limits.{u32_end, slot_count}
use Rattle.node_slots.specs.node_tie.Asks.{needed, AsksForCall}
use Rattle.node_slots.specs.node_tie.ClientEvents.{NewsWithin}
use Rattle.node_slots.specs.node_tie.Sight.{PollSeen}
use Rattle.node_slots.proofs.node_tie.Sight.{ClientDoes}
use Rattle.node_slots.proofs.node_tie.ClientBearing.{bears_steps, ask-bears, no_fact}
use Rattle.node_slots.proofs.node_tie.ClientBooks.{same_log}
use Rattle.node_slots.proofs.node_tie.ClientFrames as frames
use Rattle.node_slots.proofs.node_tie.ClientTaking as taking
use Rattle.node_slots.proofs.node_tie.ClientTokens as tokens
use Rattle.node_slots.proofs.node_tie.ClientWrites as writing
use Rattle.node_slots.proofs.node_tie.SmallWorld.{premise_by}

-- ---- at most one block is fetched

abbrev IsFetched : List (BlockId × Held) → BlockId → Type 0
IsFetched table b = is_some (held_of table b).fetch ≡ true

module _ (table : List (BlockId × Held)) (slot : ℕ) (alone : (a b : BlockId) → IsFetched table a → IsFetched table b → a ≡ b) where
  -- behind one that is fetched no other is
  none_behind : (a : BlockId) → IsFetched table a → (es : List (BlockId × Held)) → AllByRecursion (λ b. block_cmp a b ≡ Less) (keys_of es) → Agrees table es
      → length (client.fetched_blocks slot es) ≡ 0
  none_behind a f [] below h = refl
  none_behind a f (e ∷ es) below h =
      let rest : List (BlockId × Held) = filter (λ e. is_in_slot slot e.0 && is_some e.1.fetch) es in
      by_test (λ (rows : List (BlockId × Held)). length (keys_of rows) ≡ 0) (is_in_slot slot e.0 && is_some e.1.fetch) (e ∷ rest) rest
      (λ t.
      let also : IsFetched table e.0 = ap (λ (g : Held). is_some g.fetch) h.0 ∙ and_second (is_in_slot slot e.0) (is_some e.1.fetch) t in
      let same : e.0 ≡ a = alone e.0 a also f in
      let apart : Equal ≡ Less = sym (tied_itself block_cmp_total a) ∙ sym (ap (block_cmp a) same) ∙ below.0 in
      absurd (cc))
      (λ t. none_behind a f es below.1 h.1)

  pub one_fetched : (es : List (BlockId × Held)) → InOrder es → Agrees table es → length (client.fetched_blocks slot es) ≤ 1
  unfolding IsStrictlySortedBy
  one_fetched [] sorted h = omega arith
  one_fetched (e ∷ es) sorted h =
      let rest : List (BlockId × Held) = filter (λ e. is_in_slot slot e.0 && is_some e.1.fetch) es in
      by_test (λ (rows : List (BlockId × Held)). length (keys_of rows) ≤ 1) (is_in_slot slot e.0 && is_some e.1.fetch) (e ∷ rest) rest
      (λ t.
      let f : IsFetched table e.0 = ap (λ (g : Held). is_some g.fetch) h.0 ∙ and_second (is_in_slot slot e.0) (is_some e.1.fetch) t in
      let none : length (client.fetched_blocks slot es) ≡ 0 = none_behind e.0 f es sorted.0 h.1 in
      omega arith)
      (λ t. one_fetched es sorted.1 h.1)

-- the open call fetches one block alone
fetched_alone : (s : Serving) → AsksForCall s → (a b : BlockId) → IsFetched s.tokens.blocks a → IsFetched s.tokens.blocks b → a ≡ b
fetched_alone s asks a b fa fb = ap block_in (sym (need a (held_at s a).fetch refl fa) ∙ need b (held_at s b).fetch refl fb)
  where
    block_in : Option (BlockId × Mode) → BlockId
    block_in None = a
    block_in (Some n) = n.0

    need : (k : BlockId) (fetch : Option Fetch) → (held_at s k).fetch ≡ fetch → is_some fetch ≡ true → needed s.call ≡ Some (k, Copy)
    need k None fact f = contrary f
    need k (Some x) fact f = asks.fetched k x fact

-- a promise that may be reported is made
promise_made : (s : Serving) (slot epoch : ℕ) → AsksForCall s → has_room s.tokens.req ≡ true
    → (nat_lt slot slot_count && nat_le (epoch_of s.tokens.epochs slot) epoch) ≡ true → client.may_promise s.tokens slot epoch ≡ true
promise_made s slot epoch asks room may =
    let few : length (client.fetched_blocks slot s.tokens.blocks) ≤ 1 = one_fetched s.tokens.blocks slot (fetched_alone s asks) s.tokens.blocks asks.sound.sorted
    (agrees-itself s.tokens.blocks asks.sound.sorted) in
    ap (λ t. t && nat_le (length (client.fetched_blocks slot s.tokens.blocks)) (u32_end - s.tokens.req)) may ∙ fits_in s.tokens.req
    (length (client.fetched_blocks slot s.tokens.blocks)) room few
  where
    fits_in : (req k : ℕ) → has_room req ≡ true → k ≤ 1 → nat_le k (u32_end - req) ≡ true
    fits_in req k r f = grind (arith, nat_tests)

-- and is kept
promise_kept : (s : TokensState) (slot epoch : ℕ) → length s.epochs ≡ slot_count → slot < slot_count → client.may_promise s slot epoch ≡ true
    → epoch_of (client.on_promise s slot epoch).state.epochs slot ≡ epoch
unfolding client.on_promise
promise_kept s slot epoch eight small may =
    by_test (λ (d : client.Done). epoch_of d.state.epochs slot ≡ epoch) (client.may_promise s slot epoch)
    (steps client.ask_copy (client.raised s slot epoch) (client.fetched_blocks slot s.blocks)) (still s)
    (λ t. (bears_steps (λ b g. Unit {0}) kept (λ b g. Unit {0}) s.inc client.ask_copy
    (λ u b. ask-bears (λ b g. Unit {0}) kept (λ b g. Unit {0}) s.inc no_fact u b Copy)
    (client.raised s slot epoch) (client.fetched_blocks slot s.blocks)
    (record { life_is = refl; promised = get_or-set_same s.epochs slot epoch 0 (omega arith); giving = λ b. tt; held = λ b. tt })).promised)
    (λ t. contrary (sym t ∙ may))
  where
    kept : List ℕ → Type 0
    kept epochs = epoch_of epochs slot ≡ epoch

-- ---- a promise leaves the log

abbrev IsWant : outputs.Out → Type 0
IsWant (output.Want block req again mode) = Unit {0}
IsWant _ = ⊥

wants_on : (xs ys : List outputs.Out) → AllByRecursion IsWant xs → AllByRecursion IsWant ys → AllByRecursion IsWant (xs ++ ys)
wants_on [] ys h k = k
wants_on (x ∷ xs) ys h k = (h.0, wants_on xs ys h.1 k)

asks-wants : (t : TokensState) (block : BlockId) → AllByRecursion IsWant (client.ask_copy t block).outs
unfolding client.tokens_ask
asks-wants t block =
    by_test (λ (d : client.Done). AllByRecursion IsWant d.outs) (nat_lt t.req u32_end) _ (still t) (λ x. (tt, tt)) (λ x. tt)

all_ask-wants : (t : TokensState) (blocks : List BlockId) → AllByRecursion IsWant (steps client.ask_copy t blocks).outs
all_ask-wants t [] = tt
all_ask-wants t (b ∷ blocks) =
    let d : client.Done = client.ask_copy t b in
    wants_on d.outs (steps client.ask_copy d.state blocks).outs (asks-wants t b) (all_ask-wants d.state blocks)

promise-wants : (t : TokensState) (slot epoch : ℕ) → AllByRecursion IsWant (client.on_promise t slot epoch).outs
unfolding client.on_promise
promise-wants t slot epoch =
    by_test (λ (d : client.Done). AllByRecursion IsWant d.outs) (client.may_promise t slot epoch)
    (steps client.ask_copy (client.raised t slot epoch) (client.fetched_blocks slot t.blocks))
    (still t) (λ x. all_ask-wants (client.raised t slot epoch) (client.fetched_blocks slot t.blocks)) (λ x. tt)

wants-log : (s : Serving) (outs : List outputs.Out) → AllByRecursion IsWant outs → (serving_follow s outs).state.log ≡ s.log
unfolding serving_follow follow_one
wants-log s [] h = refl
wants-log s (output.Want block req again mode ∷ outs) h = wants-log s outs h.1
wants-log s (output.Gave block stamp ∷ outs) h = absurd h.0
wants-log s (output.Supply block ver value ∷ outs) h = absurd h.0
wants-log s (output.Flush block ∷ outs) h = absurd h.0
wants-log s (output.Read block place ∷ outs) h = absurd h.0
wants-log s (output.Ready block ∷ outs) h = absurd h.0

serving_renew-log : (s : Serving) (slot epoch : ℕ) → (serving_renew s slot epoch).log ≡ s.log
unfolding serving_renew
serving_renew-log s slot epoch =
    by_test (λ (t : Serving). t.log ≡ s.log) (nat_lt (epoch_of s.tokens.epochs slot) epoch) (record s { feed = new_epoch s.feed slot }) s (λ x. refl)
    (λ x. refl)

serving_hear-log : (s : Serving) (news : SlotNews) → (serving_hear s news).state.log ≡ s.log
unfolding serving_hear serving_promise
serving_hear-log s news =
    let r : Serving = serving_renew s news.slot news.epoch in
    let p : Stepped Serving outputs.Out = promised_by r news.slot news.epoch news.manager in
    by_test (λ (d : Done). d.state.log ≡ s.log) (is_news s news) (promised_in s news) (still s)
    (λ x. wants-log p.state p.outs (promise-wants r.tokens news.slot news.epoch) ∙ serving_renew-log s news.slot news.epoch) (λ x. refl)

all_heard-log : (s : Serving) (slots : List SlotNews) → (steps serving_hear s slots).state.log ≡ s.log
all_heard-log s [] = refl
all_heard-log s (news ∷ slots) = all_heard-log (serving_hear s news).state slots ∙ serving_hear-log s news

module _ (logs : Bool) (members part limit c life room highest : ℕ) (small : part < slot_count) (pos : 0 < c) (less : c < members) where
  abbrev At : Net → Serving → Type 0
  At n s = frames.At logs members part limit c life room highest n s

  abbrev Goes : Net → Done → Type 0
  Goes n d = frames.Goes logs members part limit c life room highest n d

  still_so : (n : Net) (s : Serving) → At n s → Goes n (still s)
  still_so n s h = frames.goes_still logs members part limit c life room highest n s h

  -- ---- a promise

  -- the tokens take the promise
  abbrev Promises : Net → Serving → ℕ → ℕ → Type 0
  Promises n s slot epoch =
      taking.Taken logs members part limit c life room highest n s.log s.log.end.seq s.lasting.number s.lasting.inc (client.on_promise s.tokens slot epoch) []

  promise_taken : (n : Net) (s : Serving) (slot epoch : ℕ) → (slot ≡ part → epoch ≤ limit) → At n s → Promises n s slot epoch
  promise_taken n s slot epoch fits h =
      taking.takes logs members part limit c life room highest n s.tokens s.log s.lasting.number s.lasting.inc (input.Promise slot epoch) pos less h
      (taking.may_act logs members part limit c life room highest n s.log (input.Promise slot epoch) tt (λ u. refl)
      (taking.promise_may logs members part limit c life room highest small slot epoch fits))

  -- what the feed does first changes nothing that is seen
  by_renewed : (P : Serving → Type 0) (s : Serving) (slot epoch : ℕ) → P (record s { feed = new_epoch s.feed slot }) → P s → P (serving_renew s slot epoch)
  unfolding serving_renew
  by_renewed P s slot epoch newer same = by_test P (nat_lt (epoch_of s.tokens.epochs slot) epoch) (record s { feed = new_epoch s.feed slot }) s (λ t. newer)
      (λ t. same)

  -- what the tokens say of a promise is done
  promised_by_so : (n : Net) (s : Serving) (slot epoch manager : ℕ) → (slot ≡ part → epoch ≤ limit) → At n s
      → Goes n (serving_follow (promised_by s slot epoch manager).state (promised_by s slot epoch manager).outs)
  promised_by_so n s slot epoch manager fits h =
      let p : Stepped Serving outputs.Out = promised_by s slot epoch manager in
      let k : Promises n s slot epoch = promise_taken n s slot epoch fits h in
      frames.goes_from logs members part limit c life room highest n k.next (serving_follow p.state p.outs) k.grown
      (tokens.serving_follow_so logs members part limit c life room highest pos less k.next p.state p.outs k.stands
      (taking.outs_seen logs members part limit c life room highest k.next.sent s.log.end.seq p.outs k.seen))

  promised_in_so : (n : Net) (s : Serving) (news : SlotNews) → (news.slot ≡ part → news.epoch ≤ limit) → At n s → Goes n (promised_in s news)
  unfolding serving_promise
  promised_in_so n s news fits h =
      by_renewed (λ (t : Serving). Goes n (serving_follow (promised_by t news.slot news.epoch news.manager).state
      (promised_by t news.slot news.epoch news.manager).outs)) s news.slot news.epoch
      (promised_by_so n (record s { feed = new_epoch s.feed news.slot }) news.slot news.epoch news.manager fits h)
      (promised_by_so n s news.slot news.epoch news.manager fits h)

  -- ---- a report

  -- it is of the promised epoch
  reports_so : (n : Net) (s : Serving) (slot epoch manager : ℕ) → (slot ≡ part → epoch ≤ limit) → slot < slot_count → client.may_promise s.tokens slot epoch ≡ true
      → At n s → Goes n (reports slot epoch (promised_by s slot epoch manager))
  reports_so n s slot epoch manager fits low may h =
      let p : Stepped Serving outputs.Out = promised_by s slot epoch manager in
      let k : Promises n s slot epoch = promise_taken n s slot epoch fits h in
      let m : Net = k.next in
      let next : Net = record m { sent = ReportSent c (epoch_of (m.tokens c).epochs part) (held_in part (m.tokens c).blocks) s.log.end.seq ∷ m.sent } in
      let grown : frames.Grown logs members part c m next [] = record {
        runs = On Begun
            (Reports c s.log.end.seq
            (taking.is_serving logs members part limit c life room highest m p.state.tokens s.log s.lasting.number s.lasting.inc pos less k.stands));
        others = λ d other. (refl, refl);
        slots = λ e. refl;
        grows = λ x i. inr i;
        books = λ l other. same_log m.books l;
        acts = (frames.grown_still logs members part c m).acts;
        own = (frames.grown_still logs members part c m).own;
      } in
      let said : frames.Goes logs members part limit c life room highest m (record { state = p.state; outs = report p.state slot epoch ∷ [] }) = record {
        next = next;
        grown = grown;
        stands = taking.stands_more logs members part limit c life room highest m next.sent p.state.tokens s.log s.lasting.number s.lasting.inc
            (λ x i. inr i) k.stands;
        does = All-cons (ClientDoes part next.sent c life) (report p.state slot epoch) [] (λ fact. inl (reported m k.stands.tokens fact))
            (All-nil (ClientDoes part next.sent c life));
      } in
      frames.goes_from logs members part limit c life room highest n m (reports slot epoch p) k.grown
      (frames.goes_on_in logs members part limit c life room highest m (record { state = p.state; outs = report p.state slot epoch ∷ [] })
      (serving_follow p.state p.outs) said
      (λ o w i. tokens.serving_follow_so logs members part limit c life room highest pos less o p.state p.outs i
      (taking.outs_more logs members part limit c life room highest m.sent o.sent w s.log.end.seq p.outs
      (taking.outs_seen logs members part limit c life room highest m.sent s.log.end.seq p.outs k.seen))))
    where
      reported : (m : Net) → m.tokens c ≡ (client.on_promise s.tokens slot epoch).state → slot ≡ part
          → ReportSent c epoch (held_in slot (client.on_promise s.tokens slot epoch).state.blocks) s.log.end.seq
          ≡ ReportSent c (epoch_of (m.tokens c).epochs part) (held_in part (m.tokens c).blocks) s.log.end.seq
      reported m same fact =
          let t : TokensState = (client.on_promise s.tokens slot epoch).state in
          ap (λ k. ReportSent c k (held_in slot t.blocks) s.log.end.seq) (sym (promise_kept s.tokens slot epoch h.bears.promised.eight low may))
          ∙ ap (λ k. ReportSent c (epoch_of t.epochs k) (held_in k t.blocks) s.log.end.seq) fact
          ∙ ap (λ (u : TokensState). ReportSent c (epoch_of u.epochs part) (held_in part u.blocks) s.log.end.seq) (sym same)

  polled_so : (n : Net) (s : Serving) (manager : ℕ) (p : Poll) → PollSeen part n.sent limit p → AsksForCall s → has_room s.tokens.req ≡ true → At n s
      → Goes n (polled s manager p)
  unfolding polled serving_promise
  polled_so n s manager p fits asks room h =
      by_test (λ (d : Done). Goes n d) (may_report s p) (reports p.slot p.epoch (promised_by (serving_renew s p.slot p.epoch) p.slot p.epoch manager)) (still s)
      (λ t.
      let may : client.may_promise s.tokens p.slot p.epoch ≡ true = promise_made s p.slot p.epoch asks room t in
      let low : p.slot < slot_count = is_low p.slot (and_first (nat_lt p.slot slot_count) (nat_le (epoch_of s.tokens.epochs p.slot) p.epoch) t) in
      by_renewed (λ (u : Serving). Goes n (reports p.slot p.epoch (promised_by u p.slot p.epoch manager))) s p.slot p.epoch
      (reports_so n (record s { feed = new_epoch s.feed p.slot }) p.slot p.epoch manager fits low may h)
      (reports_so n s p.slot p.epoch manager fits low may h))
      (λ t. still_so n s h)
    where
      is_low : (k : ℕ) → nat_lt k slot_count ≡ true → k < slot_count
      is_low k t = grind (arith, nat_tests)

  pub on_poll_so : (n : Net) (s : Serving) (from : NodeId) (p : Poll) → PollSeen part n.sent limit p → AsksForCall s → has_room s.tokens.req ≡ true → At n s
      → Goes n (on_poll s from p)
  on_poll_so n s (node.Manager manager) p fits asks room h = polled_so n s manager p fits asks room h
  on_poll_so n s _ p fits asks room h = still_so n s h

  -- ---- news

  serving_hear_so : (n : Net) (s : Serving) (news : SlotNews) → (news.slot ≡ part → news.epoch ≤ limit) → At n s → Goes n (serving_hear s news)
  unfolding serving_hear
  serving_hear_so n s news fits h = by_test (λ (d : Done). Goes n d) (is_news s news) (promised_in s news) (still s) (λ t. promised_in_so n s news fits h)
      (λ t. still_so n s h)

  all_heard : (n : Net) (s : Serving) (slots : List SlotNews) → AllByRecursion (λ news. news.slot ≡ part → news.epoch ≤ limit) slots → At n s
      → Goes n (steps serving_hear s slots)
  all_heard n s [] fits h = still_so n s h
  all_heard n s (news ∷ slots) fits h = frames.goes_on logs members part limit c life room highest n (serving_hear s news) (steps serving_hear (serving_hear s news).state slots)
      (serving_hear_so n s news fits.0 h) (λ m k. all_heard m (serving_hear s news).state slots fits.1 k)

  -- newer groups may settle what is in flight
  abbrev pub More : Net → Serving → Type 0
  More n s = (f : FlightState) → s.log.flight ≡ Some f → frames.At logs members part limit c life (room + 1) highest n s

  regroups_so : (n : Net) (s : Serving) (newer : Bool) (groups : GroupMapState) → At n s → More n s → Goes n (regroups s newer groups)
  regroups_so n s newer groups h more =
      by_test (λ (d : Done). Goes n d) newer (serving_write s (log_in.Maps groups)) (still s)
      (λ t. writing.maps_so logs members part limit c life room highest pos less n s h more groups) (λ t. still_so n s h)

  takes_news_so : (n : Net) (s : Serving) (news : News) → NewsWithin part limit c n news.slots → At n s → More n s → Goes n (takes_news s news)
  unfolding takes_news
  takes_news_so n s news fits h more =
      let t : Serving = record s { maps = maps_take s.maps news } in
      let d : Done = steps serving_hear t news.slots in
      frames.goes_on logs members part limit c life room highest n d (regroups d.state (is_older s.maps news) news.groups)
      (all_heard n t news.slots (recursion_from_All (λ (x : SlotNews). x.slot ≡ part → x.epoch ≤ limit) news.slots fits) h)
      (λ m k. regroups_so m d.state (is_older s.maps news) news.groups k (more_then m d.state (all_heard-log t news.slots) k))
    where
      more_then : (m : Net) (u : Serving) → u.log ≡ s.log → At m u → More m u
      more_then m u same k f fact =
          frames.stands_upto logs members part limit c life room (room + 1) highest m u.tokens u.log u.lasting.number u.lasting.inc
          (premise_by logs
          (λ (x : frames.HasNumbers s.log.end.seq (room + 1) highest). subst (λ (l : LogState). frames.HasNumbers l.end.seq (room + 1) highest) (sym same) x)
          (more f (ap (λ (l : LogState). l.flight) (sym same) ∙ fact)).numbers) k

  pub on_news_so : (n : Net) (s : Serving) (news : News) → NewsWithin part limit c n news.slots → At n s → More n s → Goes n (on_news s news)
  on_news_so n s news within h more =
      by_test (λ (d : Done). Goes n d) (fits s.maps news) (takes_news s news) (still s) (λ t. takes_news_so n s news within h more) (λ t. still_so n s h)

  pub on_welcome_so : (n : Net) (s : Serving) (w : Welcome) → NewsWithin part limit c n w.news.slots → At n s → More n s → Goes n (on_welcome s w)
  unfolding on_welcome
  on_welcome_so n s w within h more =
      by_test (λ (d : Done). Goes n d) (w.inc == s.lasting.inc) (on_news s w.news) (still s) (λ t. on_news_so n s w.news within h more) (λ t. still_so n s h)
