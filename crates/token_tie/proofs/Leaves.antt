-- What each change of a block is by a step of the abstract protocol: one lemma for each change.
use Rattle.std.proofs.Common.{◌≡◌, ℕ, ◌+◌, ◌==◌, ◌≤◌, ◌<◌, Bool, true, false, ◌&&◌, List, [], ◌∷◌, Option, Some, None, is_none, refl, sym, ap, subst, ◌∙◌, inl, inr, arith, min}
use Rattle.std.proofs.lemmas.Bool.Decides.{nat_tests}
use Rattle.std.proofs.lemmas.Bool.{eqb-true}
use Rattle.xfs_base.specs.declared.entry.Place.{Place}
use Rattle.xfs_base.specs.declared.token.Mode.{Mode}
use Rattle.xfs_base.specs.declared.token.Mode.TheVariants.{Nothing, Copy, Own}
use Rattle.xfs_base.specs.declared.token.Stamp.{Stamp}
use Rattle.token_client.specs.declared.held.Fetch.{Fetch}
use Rattle.token_client.specs.declared.held.Giving.{Giving}
use Rattle.token_client.specs.declared.held.Held.{Held}
use Rattle.token_client.specs.declared.held.Wanted.{Wanted}
use Rattle.token_client.specs.declared.output.Out.{Out}
use Rattle.token_client.specs.declared.output.Out.TheVariants.{Want, Gave}
use Rattle.token_client.specs.Held.{gives_after, is_answer, is_wanted, is_dirty, held_ask, asked_again, held_own, copy_of, fetch_from, end_fetch, held_write, let_go, unfetched, drop_promised, put_off, give_up}
use Rattle.token_protocol.specs.Acts.Act.{Wrote as WroteBlock}
use Rattle.token_protocol.specs.Client.{Client}
use Rattle.token_protocol.specs.Entry as abstract_entry
use Rattle.token_protocol.specs.Premises.{Premise, SettledEnd, PlaceRead, IsSupplied}
use Rattle.token_protocol.specs.Stamps.{Seen}
use Rattle.token_protocol.specs.Step.Step.{Asks, AsksAgain, DropsWant, DropsFetch, WritesFirst, Declines, TakesAbsent, TakesSupply, TakesPlace, Fetches, Writes, Evicts, Gives, GivesAgain, Promises}
use Rattle.token_protocol.specs.World.{World}
use Rattle.token_protocol.specs.Asking.{asks, asks_again, drops_want, drops_fetch}
use Rattle.token_protocol.specs.Taking.{MayTake, writes_first, declines, takes_value, takes_place, fetches}
use Rattle.token_protocol.specs.Using.{writes, evicts}
use Rattle.token_protocol.specs.Giving.{MayGive, gives, gives_again}
use Rattle.token_protocol.specs.Takeover.{promises}
use Rattle.token_protocol.proofs.StampsSeen.{taken, equal, stamped, promised}
use Rattle.token_tie.specs.Seen.{WantShown, FetchShown, ValueShown, SentOffer, SentRecall, offer_seen, recall_seen, Setting, Local, Shows, kept, located, stamp_seen, node_seen}
use Rattle.xfs_base.specs.Modes.{is_held, is_own, mode_number}
use Rattle.token_tie.specs.Taken.{Acts, AllSaid}
use Rattle.token_tie.proofs.Taken.{Goes}
use Rattle.token_tie.proofs.Frames.{acts_by, goes_saying}
use Rattle.xfs_base.specs.Stamps.{is_later}
use Rattle.xfs_base.proofs.Booleans.{and_first, and_second, by_test}
use Rattle.token_tie.proofs.SmallFacts.{put_back, some_rank, most_rank, own_rank, later_exceeds, wanted_rank, restamped, given_rank, unfetching}

module _ (logs : Bool) (g : Setting) (end : ℕ) (w : World) where
  abbrev here : Client
  here = w.client g.client

  abbrev To : Local → List Out → Type 0
  To l outs = Goes logs g end w l outs

  abbrev Shown : Local → Type 0
  Shown l = Shows g w.epoch l here

  -- What is shown of a client that is who it was: in this order, what it acted on, its mode, how many wants it counts, the open one, the version and the
  -- settled one, its value and its fetch.
  shown_as : (l : Local) → Shown l → {m : Local} {x : Client} → m.inc ≡ l.inc → x.serving ≡ here.serving → x.incarnation ≡ here.incarnation
      → Seen (node_seen m.promised m.held.stamp) x w.epoch → x.mode ≡ mode_number m.held.mode → x.request ≤ m.req → WantShown m.held.want x.want x.request
      → x.version ≡ m.held.ver → x.settled ≡ m.held.settled → ValueShown g.number m.held.value x.value → FetchShown m.held.fetch x.fetching x.fetch
      → Shows g w.epoch m x
  shown_as l s boot serves incarnation stamps mode counted want version settled value fetch = record {
    client = s.client;
    serving = serves ∙ s.serving;
    boot = boot ∙ s.boot;
    incarnation = incarnation ∙ s.incarnation;
    stamps = stamps;
    mode = mode;
    counted = counted;
    want = want;
    version = version;
    settled = settled;
    value = value;
    fetch = fetch;
  }

  -- a client is shown whose want alone is another
  wants_shown : (l : Local) → Shown l → {o : Option Wanted} {req want request : ℕ} → request ≤ req → WantShown o want request
      → Shows g w.epoch (record l { req = req; held = record l.held { want = o } }) (record here { want = want; request = request })
  wants_shown l s counted wants =
      shown_as l s refl refl refl (restamped _ here _ w.epoch refl refl s.stamps) s.mode counted wants s.version s.settled s.value s.fetch

  pub drops_want-goes : (l : Local) → Shown l → To (record l { held = record l.held { want = None } }) []
  drops_want-goes l s =
      acts_by logs g end w (drops_want w g.client) [] _ [] (record here { want = 0 }) (DropsWant g.client) refl refl refl (λ p fact. fact) (λ y fact. fact)
      (wants_shown l s s.counted refl) tt

  -- a fetch is let go, whatever recall was put off
  lets_fetch_go : (l : Local) (giving : Option Giving) → Shown l → To (record l { held = record l.held { fetch = None; giving = giving } }) []
  lets_fetch_go l giving s =
      acts_by logs g end w (drops_fetch w g.client) [] _ [] (record here { fetching = 0 }) (DropsFetch g.client) refl refl refl (λ p fact. fact)
      (λ y fact. fact)
      (shown_as l s refl refl refl (restamped _ here _ w.epoch refl refl s.stamps) s.mode s.counted s.want s.version s.settled s.value refl) tt

  pub drops_fetch-goes : (l : Local) → Shown l → To (record l { held = unfetched l.held }) []
  drops_fetch-goes l = lets_fetch_go l l.held.giving

  -- with the recall that was put off
  pub drops_promised-goes : (l : Local) → Shown l → To (record l { held = drop_promised l.held }) []
  drops_promised-goes l = lets_fetch_go l None

  -- a want is opened, whether or not one was open
  pub asks-goes : (l : Local) (mode : Mode) → Shown l → is_held mode ≡ true → mode_number l.held.mode < mode_number mode
      → Premise logs (SettledEnd w g.client end)
      → To (record l { req = l.req + 1; held = held_ask l.held (l.req + 1) mode }) (Want g.block (l.req + 1) 0 mode ∷ [])
  asks-goes l mode s some less settled =
      let known = s.mode in let counted = s.counted in
      acts_by logs g end w (asks w g.client (mode_number mode) (l.req + 1) end) [] _ _ (record here { want = mode_number mode; request = l.req + 1 })
      (Asks g.client (mode_number mode) (l.req + 1) end
      (record { client = s.client; serving = s.serving; some = some_rank mode some; upto_own = most_rank mode; less = omega arith; unused = omega arith })
      settled)
      refl refl refl (λ p fact. inr fact) (λ y fact. fact)
      (wants_shown l s (omega arith) (refl, refl, some)) (
        λ fact. inl (ap (λ i. record { client = g.client; incarnation = i; request = l.req + 1; mode = mode_number mode; end = end }) (sym s.incarnation)),
        tt,
      )

  -- an open want is sent again
  pub asks_again-goes : (l : Local) (v : Wanted) → Shown l → l.held.want ≡ Some v → Premise logs (SettledEnd w g.client end)
      → To (record l { held = asked_again l.held v }) (Want g.block v.req (v.again + 1) v.mode ∷ [])
  asks_again-goes l v s fact settled =
      let open_ : WantShown (Some v) here.want here.request = subst (λ o. WantShown o here.want here.request) fact s.want in
      let limit = some_rank v.mode open_.2 in let named = open_.0 in
      acts_by logs g end w (asks_again w g.client end) [] _ _ here (AsksAgain g.client end (record { open_want = omega arith }) settled)
      refl (sym (put_back w.client g.client)) refl (λ p here. inr here) (λ y here. here)
      (wants_shown l s s.counted open_) (λ same. inl (λ i. record { client = g.client; incarnation = sym s.incarnation i; request = sym open_.1 i; mode = sym open_.0 i; end = end }), tt)

  -- ---- offers

  -- the tests of a client on an answer to its want
  abbrev pub meets : Local → Stamp → ℕ → ℕ → Mode → Bool
  meets l stamp inc req mode = (l.promised == stamp.epoch) && (inc == l.inc) && is_answer l.held stamp req mode

  -- they show that the offer may be taken, and is of the reigning epoch
  pub taking : (l : Local) (stamp : Stamp) (inc req : ℕ) (mode : Mode) (entry : abstract_entry.Entry) → Shown l → w.epoch ≤ here.promised
      → SentOffer g.client w stamp inc req mode entry → meets l stamp inc req mode ≡ true
      → (stamp.epoch ≡ w.epoch) × MayTake w (offer_seen g.client stamp inc req mode entry) (mode_number mode)
  taking l stamp inc req mode entry s high sent t =
      let two = and_first ((l.promised == stamp.epoch) && (inc == l.inc)) (is_answer l.held stamp req mode) t in
      let answer = and_second ((l.promised == stamp.epoch) && (inc == l.inc)) (is_answer l.held stamp req mode) t in
      let same : stamp.epoch ≡ l.promised = sym (eqb-true l.promised stamp.epoch (and_first (l.promised == stamp.epoch) (inc == l.inc) two)) in
      let boot : inc ≡ l.inc = eqb-true inc l.inc (and_second (l.promised == stamp.epoch) (inc == l.inc) two) in
      let named = and_first (is_wanted l.held.want req mode) (is_later stamp l.held.stamp) answer in
      let above = later_exceeds stamp l.held.stamp (and_second (is_wanted l.held.want req mode) (is_later stamp l.held.stamp) answer) in
      let seen = taken (node_seen l.promised l.held.stamp) here w.epoch (stamp_seen stamp) s.stamps high sent.low sent.some same above in
      let want = wanted_rank l.held.want req mode here.want here.request named s.want in (
        seen.1,
        record {
          sent = sent.offered seen.1;
          live = record {
            heard = seen.0;
            newer = seen.2;
            wanted = want.0;
            incarnation = s.incarnation ∙ sym s.boot ∙ sym boot;
            request = want.1;
            some = want.2;
          };
          of_mode = refl;
        },
      )

  -- the stamp of what was taken is seen
  stamping : (l : Local) (stamp : Stamp) (x : Client) → Shown l → stamp.epoch ≡ w.epoch → x.promised ≡ here.promised → x.stamp ≡ stamp.turn
      → Seen (node_seen l.promised stamp) x w.epoch
  stamping l stamp x s reigns p q =
      restamped (node_seen l.promised stamp) (record here { stamp = stamp.turn }) x w.epoch p q
      (stamped (node_seen l.promised l.held.stamp) here w.epoch (stamp_seen stamp) s.stamps reigns)

  -- ready to run on
  abbrev Run : List Out → Type 0
  Run outs = (v : World) → AllSaid g end v outs

  module _ (l : Local) (stamp : Stamp) (inc req : ℕ) (outs : List Out) (s : Shown l) (run : Run outs) (reigns : stamp.epoch ≡ w.epoch) where
    -- the client that takes the offer acts on its stamp and wants nothing more; what it holds then is told
    taken_shown : {mode : Mode} {ver settled : ℕ} {kept : Option (Option (List ℕ))} {fetch : Option Fetch} {version last value fetching : ℕ}
        {from : abstract_entry.Entry} → version ≡ ver → last ≡ settled → ValueShown g.number kept value → FetchShown fetch fetching from
        → Shows g w.epoch
        (record l { held = record l.held { mode = mode; ver = ver; settled = settled; value = kept; stamp = stamp; want = None; fetch = fetch } }) (record here {
          mode = mode_number mode;
          stamp = stamp.turn;
          want = 0;
          version = version;
          settled = last;
          value = value;
          fetching = fetching;
          fetch = from;
        })
    taken_shown newest last holds fetches =
        shown_as l s refl refl refl (stamping l stamp _ s reigns refl refl) refl s.counted refl newest last holds fetches

    -- a copy of an absent version
    pub absent-goes : (ver hop : ℕ) → MayTake w (offer_seen g.client stamp inc req Copy (located ver hop None)) 1
        → To (record l { held = copy_of l.held stamp ver None }) outs
    absent-goes ver hop may =
        let p = offer_seen g.client stamp inc req Copy (located ver hop None) in
        acts_by logs g end w (takes_value w p 0) [] _ outs _ (TakesAbsent p may (record { unplaced = refl })) refl refl refl (λ p fact. fact) (λ y fact. fact)
        (taken_shown refl refl (sym g.absent) refl) (run (takes_value w p 0))

    -- a copy that another client supplied
    pub supplied-goes : (ver hop : ℕ) (place : Option Place) (value : Option (List ℕ))
        → MayTake w (offer_seen g.client stamp inc req Copy (located ver hop place)) 1
        → Premise logs (IsSupplied w (offer_seen g.client stamp inc req Copy (located ver hop place)) (g.number value))
        → To (record l { held = copy_of l.held stamp ver value }) outs
    supplied-goes ver hop place value may fact =
        let p = offer_seen g.client stamp inc req Copy (located ver hop place) in
        acts_by logs g end w (takes_value w p (g.number value)) [] _ outs _ (TakesSupply p (g.number value) may fact) refl refl refl (λ p fact. fact)
        (λ y fact. fact)
        (taken_shown refl refl refl refl) (run (takes_value w p (g.number value)))

    -- a place, which is read first
    pub place-goes : (ver hop : ℕ) (place : Place) → MayTake w (offer_seen g.client stamp inc req Copy (located ver hop (Some place))) 1
        → To (record l { held = fetch_from l.held stamp ver place }) outs
    place-goes ver hop place may =
        let p = offer_seen g.client stamp inc req Copy (located ver hop (Some place)) in
        acts_by logs g end w (takes_place w p) [] _ outs _ (TakesPlace p may (record { placed = omega arith })) refl refl refl (λ p fact. fact) (λ y fact. fact)
        (taken_shown s.version s.settled tt (refl, (hop, refl))) (run (takes_place w p))

    -- owned, and written in the same event
    pub first-goes : (ver hop : ℕ) (place : Option Place) (value : Option (List ℕ))
        → MayTake w (offer_seen g.client stamp inc req Own (located ver hop place)) 2
        → Acts logs g end w (WroteBlock g.client (g.number value) ∷ []) (record l { held = held_write (held_own l.held stamp ver) value }) outs
    first-goes ver hop place value may =
        let p = offer_seen g.client stamp inc req Own (located ver hop place) in
        acts_by logs g end w (writes_first w p (g.number value)) (WroteBlock g.client (g.number value) ∷ []) _ outs _
        (WritesFirst p (g.number value) may) refl refl refl (λ p fact. fact) (λ y fact. fact)
        (taken_shown (omega arith) refl refl refl) (run (writes_first w p (g.number value)))

    -- owned, and let go unwritten
    pub declines-goes : (ver hop : ℕ) (place : Option Place) → MayTake w (offer_seen g.client stamp inc req Own (located ver hop place)) 2
        → To (record l { held = let_go (held_own l.held stamp ver) }) outs
    declines-goes ver hop place may =
        let p = offer_seen g.client stamp inc req Own (located ver hop place) in
        acts_by logs g end w (declines w p) [] _ outs _ (Declines p may) refl refl refl (λ p fact. fact) (λ y fact. fact)
        (taken_shown refl refl tt refl) (run (declines w p))

  -- ---- what is held

  -- a read of the place ends
  pub fetches-goes : (l : Local) (f : Fetch) (value : Option (List ℕ)) (outs : List Out) → Shown l → l.held.fetch ≡ Some f → Run outs
      → Premise logs (PlaceRead w g.client (g.number value)) → To (record l { held = end_fetch l.held (Some f) value }) outs
  fetches-goes l f value outs s fact run read =
      let open_ : FetchShown (Some f) here.fetching here.fetch = subst (λ o. FetchShown o here.fetching here.fetch) fact s.fetch in
      let ver : here.fetch.version ≡ f.ver = ap (λ (e : abstract_entry.Entry). e.version) open_.1.1 in
      acts_by logs g end w (fetches w g.client (g.number value)) [] _ outs _
      (Fetches g.client (g.number value) (record { fetching = open_.0 }) read) refl refl refl (λ p fact. fact) (λ y fact. fact)
      (shown_as l s refl refl refl (restamped _ here _ w.epoch refl refl s.stamps) refl s.counted s.want ver ver refl refl)
      (run (fetches w g.client (g.number value)))

  pub writes-goes : (l : Local) (value : Option (List ℕ)) → Shown l → is_own l.held.mode ≡ true
      → Acts logs g end w (WroteBlock g.client (g.number value) ∷ []) (record l { held = held_write l.held value }) []
  writes-goes l value s own =
      let owns : here.mode ≡ 2 = s.mode ∙ own_rank l.held.mode own in
      let known = s.version in
      acts_by logs g end w (writes w g.client (g.number value)) (WroteBlock g.client (g.number value) ∷ []) _ [] _
      (Writes g.client (g.number value) (record { owns = owns })) refl refl refl (λ p fact. fact) (λ y fact. fact)
      (shown_as l s refl refl refl (restamped _ here _ w.epoch refl refl s.stamps) s.mode s.counted s.want (omega arith) s.settled refl s.fetch) tt

  cleaned : (l : Local) → Shown l → is_dirty l.held ≡ false → here.version ≤ here.settled
  cleaned l s clean = let v = s.version in let q = s.settled in grind (arith, nat_tests)

  pub evicts-goes : (l : Local) → Shown l → is_dirty l.held ≡ false → To (record l { held = let_go l.held }) []
  evicts-goes l s clean =
      acts_by logs g end w (evicts w g.client) [] _ [] _ (Evicts g.client (record { victim = cleaned l s clean })) refl refl refl (λ p fact. fact)
      (λ y fact. fact)
      (shown_as l s refl refl refl (restamped _ here _ w.epoch refl refl s.stamps) refl s.counted s.want s.version s.settled tt s.fetch) tt

  -- ---- recalls

  -- a recall of a dirty block is put off
  pub put_off-goes : (l : Local) (stamp : Stamp) (keep : Bool) (outs : List Out) → Shown l → Run outs → To (record l { held = put_off l.held stamp keep }) outs
  put_off-goes l stamp keep outs s run =
      by_test (λ (h : Held). To (record l { held = h }) outs) (gives_after l.held.giving stamp) l.held
      (record l.held { giving = Some (record { stamp = stamp; keep = keep }) })
      (λ t. goes_saying logs g end w l outs s (run w))
      (λ t. goes_saying logs g end w _ outs
      (shown_as l s refl refl refl s.stamps s.mode s.counted s.want s.version s.settled s.value s.fetch) (run w))

  -- the block is given up, and held in this mode with this value from then on
  given_as : (l : Local) (stamp : Stamp) (keep : Bool) (mode : Mode) (value : Option (Option (List ℕ))) → Shown l
      → MayGive w (recall_seen g.client stamp keep) → Premise logs (SettledEnd w g.client end) → stamp.epoch ≡ w.epoch
      → min here.mode (kept keep) ≡ mode_number mode → ValueShown g.number value here.value → is_none l.held.fetch ≡ true
      → To (record l { held = record l.held { mode = mode; value = value; stamp = stamp; giving = None } }) (Gave g.block stamp ∷ [])
  given_as l stamp keep mode value s may settled reigns less holds unfetched_ =
      let r = recall_seen g.client stamp keep in
      acts_by logs g end w (gives w r end) [] _ _ _ (Gives r end may settled) refl refl refl (λ p fact. fact) (λ y fact. inr fact)
      (shown_as l s refl refl refl (stamping l stamp _ s reigns refl refl) less s.counted s.want s.version s.settled holds
      (unfetching l.held.fetch here.fetching here.fetch unfetched_ s.fetch)) (λ fact. (omega (arith, reigns), inl refl), tt)

  pub gives-goes : (l : Local) (stamp : Stamp) (keep : Bool) → Shown l → w.epoch ≤ here.promised → SentRecall g.client w stamp keep → stamp.epoch ≡ l.promised
      → is_later stamp l.held.stamp ≡ true → is_dirty l.held ≡ false
      → is_none l.held.fetch ≡ true → Premise logs (SettledEnd w g.client end) → To (record l { held = give_up l.held stamp keep }) (Gave g.block stamp ∷ [])
  gives-goes l stamp keep s high sent same later clean unfetched_ settled =
      let seen = taken (node_seen l.promised l.held.stamp) here w.epoch (stamp_seen stamp) s.stamps high sent.low sent.some same
      (later_exceeds stamp l.held.stamp later) in
      let may : MayGive w (recall_seen g.client stamp keep) =
      record { sent = sent.recalled seen.1; serving = s.serving; heard = seen.0; newer = seen.2; clean = cleaned l s clean } in
      let less = λ (b : Bool) (t : (keep && is_held l.held.mode) ≡ b). ap (λ n. min n (kept keep)) s.mode ∙ given_rank l.held.mode keep b t in
      by_test (λ (h : Held). To (record l { held = h }) (Gave g.block stamp ∷ [])) (keep && is_held l.held.mode)
      (record l.held { mode = Copy; stamp = stamp; giving = None }) (record l.held { mode = Nothing; value = None; stamp = stamp; giving = None })
      (λ t. given_as l stamp keep Copy l.held.value s may settled seen.1 (less true t) s.value unfetched_)
      (λ t. given_as l stamp keep Nothing None s may settled seen.1 (less false t) tt unfetched_)

  pub gives_again-goes : (l : Local) (stamp : Stamp) (keep : Bool) → Shown l → w.epoch ≤ here.promised → SentRecall g.client w stamp keep
      → stamp.epoch ≡ l.promised → stamp_seen l.held.stamp ≡ stamp_seen stamp
      → Premise logs (SettledEnd w g.client end) → To l (Gave g.block stamp ∷ [])
  gives_again-goes l stamp keep s high sent same fact settled =
      let p = s.stamps.promised in let low = sent.low in
      let reigns : stamp.epoch ≡ w.epoch = omega arith in
      let r = recall_seen g.client stamp keep in
      acts_by logs g end w (gives_again w r end) [] _ _ here
      (GivesAgain r end
      (record {
        sent = sent.recalled reigns;
        serving = s.serving;
        heard = omega arith;
        equal = equal (node_seen l.promised l.held.stamp) here w.epoch (stamp_seen stamp) s.stamps high sent.low same fact;
      }) settled)
      refl (sym (put_back w.client g.client)) refl (λ p fact. fact) (λ y fact. inr fact) s (λ fact. (sent.low, inl refl), tt)

  -- ---- promises

  pub promises-goes : (l : Local) (epoch : ℕ) → Shown l → l.promised ≤ epoch → To (record l { promised = epoch; held = drop_promised l.held }) []
  promises-goes l epoch s rises =
      let p = s.stamps.promised in
      acts_by logs g end w (promises w g.client epoch) [] _ [] _ (Promises g.client epoch (record { serving = s.serving; higher = omega arith })) refl refl refl
      (λ p fact. fact) (λ y fact. fact)
      (shown_as l s refl refl refl (promised (node_seen l.promised l.held.stamp) here w.epoch epoch s.stamps) s.mode s.counted s.want s.version s.settled
      s.value refl) tt
