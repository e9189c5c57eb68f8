-- Stores that are sent: what the log gives for a flight is a list of steps.
use Rattle.std.proofs.Common.{◌≡◌, ℕ, zero, suc, ◌+◌, ◌<◌, Bool, true, false, List, [], ◌∷◌, ◌++◌, length, sym, ap, subst, ◌∙◌, inl, inr, arith, cond}
use Rattle.log_protocol.specs.Packets.{StorePacket}
use Rattle.log_protocol.specs.Tables.{In}
use Rattle.log_protocol.specs.State.{State}
use Rattle.log_protocol.specs.Step.{Steps}
use Rattle.log_protocol.specs.Step.Step.{Sends}
use Rattle.log_protocol.specs.Step.Steps.{Done, More}
use Rattle.segment_format.specs.declared.segment.Segment.{Segment}
use Rattle.group_map.specs.declared.group.Member.{Member}
use Rattle.log_flight.specs.Flights.{FlightState, generation_of, is_noted, server_of}
use Rattle.log_flight.specs.Fragments.{flight_fragment}
use Rattle.client_log.specs.declared.output.Out.{Out}
use Rattle.client_log.specs.declared.output.Out.TheVariants.{Send}
use Rattle.client_log.specs.Transition.{sends, sending_send}
use Rattle.log_tie.specs.Setting.{Setting, Stripe, stripe_of_group, fragment_over}
use Rattle.log_tie.specs.Seen.{Page, Book, members_of, AllSaid}

module _ (g : Setting) (w : State) (book : ℕ → Segment) where
  abbrev pub with_stores : List StorePacket → State
  with_stores stores = record w { stores = stores }

  -- from some stores on, more are sent
  pub record Sent (stores : List StorePacket) (outs : List Out) : Type 0 where
    pub all : List StorePacket
    pub steps : Steps (with_stores stores) (with_stores all)
    pub grown : (p : StorePacket) → In p stores → In p all
    pub said : AllSaid g w.booked book all w.filed outs

  -- the members of the flight, from a place on, are the members of its name
  pub sent_from : (f : FlightState) (x : ℕ) (ms : List Member) (i : ℕ) (stores : List StorePacket) → w.booked x ≡ 1 → f.segment ≡ book x
      → stripe_of_group f.group ≡ g.stripe (book x).group → Book g w book
      → ((j k : ℕ) → j ≡ k + i → k < length ms
      → (j < w.member_count x) × (w.member_server x j ≡ server_of ms k) × (w.member_generation x j ≡ generation_of ms k)) → Sent stores (sends f ms i)
  unfolding flight_fragment
  sent_from f x [] i stores booked segment stripe paged at = record { all = stores; steps = Done; grown = λ p fact. fact; said = tt }
  sent_from f x (m ∷ ms) i stores booked segment stripe paged at =
      by (is_noted f.noted i) (λ stores. sent_from f x ms (i + 1) stores booked segment stripe paged (λ j k e below. at j (suc k) (omega arith) (omega arith)))
    where
      page : Page g x (book x) (w.text_of x) (w.member_count x) (w.member_server x) (w.member_generation x) (w.prior_of x) (w.content_of x)
      page = paged x booked

      here : (i < w.member_count x) × (w.member_server x i ≡ m.server) × (w.member_generation x i ≡ m.generation)
      here = at i zero (omega arith) (omega arith)

      packet : StorePacket
      packet = record { to = w.member_server x i; name = x; index = i; generation = w.member_generation x i; text = w.text_of x }

      after_one : (a b c : State) → Steps a b → Steps b c → Steps a c
      after_one a b c s Done = s
      after_one a b c s (More {v = d} t step) = More (after_one a b d s t) step

      first : (t : Sent (packet ∷ stores) (sends f ms (i + 1))) → Steps (with_stores stores) (with_stores t.all)
      first t = after_one (with_stores stores) (with_stores (packet ∷ stores)) (with_stores t.all)
          (More Done (Sends x i (record { booked = booked; member = here.0 }))) t.steps

      by : (t : Bool) → ((stores : List StorePacket) → Sent stores (sends f ms (i + 1)))
          → Sent stores (cond t [] (Send (flight_fragment f.segment f.group i) m ∷ []) ++ sends f ms (i + 1))
      by true more = more stores
      by false more = let t = more (packet ∷ stores) in record {
        all = t.all;
        steps = first t;
        grown = λ p fact. t.grown p (inr fact);
        said = (
          record {
            name = x;
            index = i;
            known = booked;
            named = ap (λ (s : Segment). s.name) segment ∙ page.named;
            fragment = λ j. fragment_over (segment j) (stripe j) i;
            sent = t.grown _ (inl (λ j. record { to = sym here.1 j; name = x; index = i; generation = sym here.2 j; text = sym page.spelled j }));
          },
          t.said,
        );
      }

  -- all of a flight's
  pub sent_all : (f : FlightState) (x : ℕ) → w.booked x ≡ 1 → f.segment ≡ book x → stripe_of_group f.group ≡ g.stripe (book x).group → Book g w book
      → Sent w.stores (sending_send f)
  unfolding sending_send
  sent_all f x booked segment stripe paged = sent_from f x f.group.members 0 w.stores booked segment stripe paged at
    where
      page : Page g x (book x) (w.text_of x) (w.member_count x) (w.member_server x) (w.member_generation x) (w.prior_of x) (w.content_of x)
      page = paged x booked

      members : f.group.members ≡ members_of g (book x)
      members = ap (λ (s : Stripe). s.members) stripe

      at : (j k : ℕ) → j ≡ k + 0 → k < length f.group.members
          → (j < w.member_count x) × (w.member_server x j ≡ server_of f.group.members k) × (w.member_generation x j ≡ generation_of f.group.members k)
      at j k e below =
          let same : j ≡ k = omega arith in
          let in_page : k < length (members_of g (book x)) = subst (λ ms. k < length ms) members below in
          let counted = page.counted in (
            omega arith,
            ap (w.member_server x) same ∙ (page.at_server k ∙ ap (λ ms. server_of ms k) (sym members)),
            ap (w.member_generation x) same ∙ (page.at_generation k in_page ∙ ap (λ ms. generation_of ms k) (sym members)),
          )
