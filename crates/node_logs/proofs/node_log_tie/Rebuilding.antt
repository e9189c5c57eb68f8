-- What a rebuild keeps stays seen, and what it fills in is a filling.
use Rattle.std.proofs.Common.{◌≡◌, ℕ, zero, suc, ◌==◌, ◌&&◌, ◌<◌, true, List, [], ◌∷◌, ◌++◌, length, get_or, slice_get, Option, Some, None, refl, sym, ap, subst, ◌∙◌}
use Rattle.std.specs.Prelude.{IfSome, unwrap_or, position}
use Rattle.std.specs.List.{AllByRecursion, cons_option}
use Rattle.std.proofs.lemmas.List.Elements.{All-nil}
use Rattle.std.proofs.lemmas.List.Quantifiers.{position-Some}
use Rattle.std.proofs.lemmas.Option.{unwrap_or-slice_get}
use Rattle.std.proofs.lemmas.Bool.{eqb-true}
use Rattle.xfs_base.proofs.Booleans.{by_test, and_first, and_second}
use Rattle.xfs_base.specs.declared.fragment.FragMeta.{FragMeta}
use Rattle.xfs_base.specs.declared.fragment.Fragment.{Fragment}
use Rattle.xfs_base.specs.declared.segment.SegName.{SegName}
use Rattle.xfs_base.specs.Steps.{Stepped, still}
use Rattle.xfs_base.proofs.Alls.{all_map, all_weaker}
use Rattle.group_map.specs.declared.group.Group.{Group}
use Rattle.group_map.specs.declared.group.Member.{Member}
use Rattle.group_map.specs.GroupMapState.{GroupMapState}
use Rattle.group_map.specs.Groups.{group_of}
use Rattle.xfs_base.proofs.SegmentNames.{one_name}
use Rattle.stripe_code.proofs.Rounds.{pushed_is_round}
use Rattle.stripe_code.specs.declared.round.Answer.{Answer}
use Rattle.stripe_code.specs.declared.round.RoundState.{RoundState}
use Rattle.stripe_code.specs.declared.round.RoundState.TheVariants.{Read, Short, Waiting}
use Rattle.stripe_code.specs.declared.round.Told.{Told}
use Rattle.stripe_code.specs.declared.round.Told.TheVariants.{Held, Missing}
use Rattle.stripe_code.specs.Fragments.{fragment_at}
use Rattle.stripe_code.specs.Round.{RoundSoFar, asks, has_answered, told_fits, round_take, state_of}
use Rattle.stripe_code.specs.Stripe.{IsCut, stripe_of}
use Rattle.log_flight.specs.Flights.{no_member, server_of}
use Rattle.group_rebuild.specs.declared.output.Out.{Out}
use Rattle.group_rebuild.specs.declared.output.Out.TheVariants as out
use Rattle.group_rebuild.specs.declared.reads.Present.{Present}
use Rattle.group_rebuild.specs.declared.wanted.Wanted.{Wanted}
use Rattle.group_rebuild.specs.Reads.{ReadsState, one_more, fetches, go_on, is_of, counts, reads_judge, answered, reads_take}
use Rattle.group_rebuild.specs.Wanted.{in_group, of_group, wanted_of, wanted_in, refilled}
use Rattle.log_protocol.specs.Tables.{In}
use Rattle.log_tie.specs.Setting.{Setting, Stripe, stripe_of_group}
use Rattle.log_tie.specs.Shelves.{is_of_log}
use Rattle.log_law.specs.Net.{Net}
use Rattle.log_law.specs.Net.Packet.{FragmentSent}
use Rattle.log_law.specs.Events.{ToldCame, AllCame, IsFilling}
use Rattle.node_logs.proofs.node_log_tie.Sight.{Later}
use Rattle.node_logs.specs.node_log_tie.ServerEvents.{NamesStripes, ListedOfLog, WantedSeen, RoundSeen, PresentSeen, ReadsSeen}
use Rattle.node_logs.proofs.node_log_tie.Lists.{if_some}

-- ---- while the small world goes on

module _ (g : Setting) (n next : Net) (later : Later n next) where
  pub listed_later : (meta : FragMeta) → ListedOfLog g n meta → ListedOfLog g next meta
  listed_later meta h own = let was = h own in record { lists = was.lists; sent = later.sent _ was.sent; among = was.among }

  pub told_later : (name : SegName) (told : Told) → ToldCame n name told → ToldCame next name told
  told_later name (Held f) h = (later.sent _ h.0, h.1)
  told_later name (Missing generation) h = tt

  pub came_later : (name : SegName) (answers : List Answer) → AllCame n name answers → AllCame next name answers
  came_later name [] h = tt
  came_later name (a ∷ rest) h = (told_later name a.told h.0, came_later name rest h.1)

  module _ (v : ℕ) where
    pub wanted_later : (w : Wanted) → WantedSeen g n v w → WantedSeen g next v w
    wanted_later w h = record { listed = listed_later w.meta h.listed; count = h.count; parity = h.parity; cut = h.cut; within = h.within; own = h.own }

    round_later : (w : Wanted) (r : RoundSoFar) → RoundSeen g n v w r → RoundSeen g next v w r
    round_later w r h = record { is_round = h.is_round; count = h.count; parity = h.parity; came = λ own. came_later w.meta.name r.answers (h.came own) }

    present_later : (p : Present) → PresentSeen g n v p → PresentSeen g next v p
    present_later p h = record { wanted = wanted_later p.wanted h.wanted; round = round_later p.wanted p.round h.round }

    pub reads_later : (r : ReadsState) → ReadsSeen g n v r → ReadsSeen g next v r
    reads_later r h = record {
      left = all_weaker (WantedSeen g n v) (WantedSeen g next v) wanted_later r.left h.left;
      present = if_some (PresentSeen g n v) (PresentSeen g next v) present_later r.present h.present;
    }

    pub filling_later : (f : Fragment) → IsFilling g n v f → IsFilling g next v f
    filling_later f h = record {
      lists = h.lists;
      sent = later.sent _ h.sent;
      meta = h.meta;
      among = h.among;
      round = h.round;
      is_round = h.is_round;
      count = h.count;
      parity = h.parity;
      came = came_later h.meta.name h.round.answers h.came;
      text = h.text;
      read = h.read;
      place = h.place;
      within = h.within;
      own = h.own;
      cut = h.cut;
    }

-- ---- what is wanted

module _ (g : Setting) (n : Net) (v : ℕ) where
  at_place : (members : List Member) (place : ℕ) → position (λ (m : Member). m.server == v) members ≡ Some place
      → (place < length members) × (server_of members place ≡ v)
  at_place members place fact = let p = position-Some (λ (m : Member). m.server == v) members place no_member fact in (p.0, eqb-true _ v p.1)

  wanted_at : (group : Group) (meta : FragMeta) (place : Option ℕ) → g.stripe meta.group ≡ stripe_of_group group → IsCut (length group.members) group.parity
      → ListedOfLog g n meta
      → position (λ (m : Member). m.server == v) group.members ≡ place → IfSome (in_group v group meta place) (WantedSeen g n v)
  wanted_at group meta None named cut listed fact = tt
  wanted_at group meta (Some place) named cut listed fact =
      let at = at_place group.members place fact in
      record {
        listed = listed;
        count = ap (λ (s : Stripe). length s.members) (sym named);
        parity = ap (λ (s : Stripe). s.parity) (sym named);
        cut = cut;
        within = at.0;
        own = ap (λ (s : Stripe). server_of s.members place) named ∙ at.1;
      }

  wanted_in_group : (groups : GroupMapState) (meta : FragMeta) (group : Option Group) → NamesStripes g groups → ListedOfLog g n meta
      → group_of groups meta.group ≡ group
      → IfSome (of_group v meta group) (WantedSeen g n v)
  wanted_in_group groups meta None maps listed fact = tt
  wanted_in_group groups meta (Some group) maps listed fact =
      wanted_at group meta (position (λ (m : Member). m.server == v) group.members) (maps.named meta.group group fact)
      (maps.cut meta.group group fact) listed refl

  if_wanted : (o : Option Wanted) (rest : List Wanted) → IfSome o (WantedSeen g n v) → AllByRecursion (WantedSeen g n v) rest
      → AllByRecursion (WantedSeen g n v) (cons_option o rest)
  if_wanted None rest h all = all
  if_wanted (Some w) rest h all = (h, all)

  pub all_wanted : (groups : GroupMapState) (metas : List FragMeta) → NamesStripes g groups → AllByRecursion (ListedOfLog g n) metas
      → AllByRecursion (WantedSeen g n v) (wanted_in v groups metas)
  all_wanted groups [] maps all = tt
  all_wanted groups (meta ∷ metas) maps all =
      if_wanted (wanted_of v groups meta) (wanted_in v groups metas) (wanted_in_group groups meta (group_of groups meta.group) maps all.0 refl)
      (all_wanted groups metas maps all.1)

  -- ---- what is said

  -- what is filled in of the log is a filling
  abbrev pub OutSeen : Out → Type 0
  OutSeen (out.Fill f) = is_of_log g f.meta.name ≡ true → IsFilling g n v f
  OutSeen _ = Unit {0}

  -- a step of the reading
  pub record ReadOn (s : Stepped ReadsState Out) : Type 0 where
    pub reads : ReadsSeen g n v s.state
    pub outs : AllByRecursion OutSeen s.outs

  fetches_seen : (name : SegName) (ask : ℕ) (servers : List ℕ) → AllByRecursion OutSeen (fetches name ask servers)
  fetches_seen name ask servers = all_map OutSeen (λ (server : ℕ). out.Fetch server name ask) (λ server. tt) servers

  -- the next round begins, or it is over
  pub goes_on_seen : (left : List Wanted) (r : ReadsState) → AllByRecursion (WantedSeen g n v) left → ReadOn (go_on left r)
  goes_on_seen [] r all = record { reads = record { left = tt; present = tt }; outs = (tt, tt) }
  goes_on_seen (w ∷ ws) r all = record {
    reads = record {
      left = all.1;
      present = record {
        wanted = all.0;
        round = record { is_round = record { cut = all.0.cut; parts = All-nil _ }; count = refl; parity = refl; came = λ own. tt };
      };
    };
    outs = fetches_seen w.meta.name (one_more r.ask) w.others;
  }

  -- ---- what is filled in

  at_or_none : (xs : List (List ℕ)) (i : ℕ) → get_or xs i [] ≡ fragment_at xs i
  at_or_none [] i = refl
  at_or_none (x ∷ xs) zero = refl
  at_or_none (x ∷ xs) (suc i) = at_or_none xs i

  refilled_is : (w : Wanted) (text : List ℕ) (n parity : ℕ) → n ≡ w.n → parity ≡ w.parity
      → refilled w text ≡ record { meta = record w.meta { index = w.place }; bytes = fragment_at (stripe_of text n parity) w.place }
  unfolding refilled
  refilled_is w text n parity fact also = λ i. record {
    meta = record w.meta { index = w.place };
    bytes = bytes i;
  }
    where
      bytes : unwrap_or (slice_get (stripe_of text w.n w.parity) w.place) [] ≡ fragment_at (stripe_of text n parity) w.place
      bytes =
          unwrap_or-slice_get (stripe_of text w.n w.parity) w.place []
          ∙ (at_or_none (stripe_of text w.n w.parity) w.place ∙ sym (λ i. fragment_at (stripe_of text (fact i) (also i)) w.place))

  filling : (w : Wanted) (r : RoundSoFar) (text : List ℕ) → WantedSeen g n v w → RoundSeen g n v w r → state_of r ≡ Read text
      → is_of_log g (refilled w text).meta.name ≡ true
      → IsFilling g n v (refilled w text)
  unfolding refilled
  filling w r text wanted round read own =
      let was = wanted.listed own in
      record {
        lists = was.lists;
        sent = was.sent;
        meta = w.meta;
        among = was.among;
        round = r;
        is_round = round.is_round;
        count = round.count ∙ wanted.count;
        parity = round.parity ∙ wanted.parity;
        came = round.came own;
        text = text;
        read = read;
        place = w.place;
        within = subst (λ k. w.place < k) (sym round.count) wanted.within;
        own = wanted.own;
        cut = refilled_is w text r.n r.parity round.count round.parity;
      }

  -- ---- an answer

  judged_seen : (r : ReadsState) (w : Wanted) (round : RoundSoFar) (st : RoundState) → ReadsSeen g n v r → WantedSeen g n v w → RoundSeen g n v w round
      → state_of round ≡ st
      → ReadOn (reads_judge r w round st)
  judged_seen r w round (Read text) seen wanted rounds fact =
      let more = goes_on_seen r.left (record r { filled = one_more r.filled }) seen.left in
      record { reads = more.reads; outs = (filling w round text wanted rounds fact, more.outs) }
  judged_seen r w round (Short pairs) seen wanted rounds fact = goes_on_seen r.left (record r { gone = one_more r.gone }) seen.left
  judged_seen r w round Waiting seen wanted rounds fact =
      record { reads = record { left = seen.left; present = record { wanted = wanted; round = rounds } }; outs = tt }

  -- what a server told was sent
  abbrev pub TellsSent : Told → Type 0
  TellsSent (Held f) = is_of_log g f.meta.name ≡ true → In (FragmentSent f) n.sent
  TellsSent (Missing generation) = Unit {0}

  told_came : (w : Wanted) (told : Told) → is_of w told ≡ true → TellsSent told → is_of_log g w.meta.name ≡ true → ToldCame n w.meta.name told
  told_came w (Held f) fact sent own =
      let named : f.meta.name ≡ w.meta.name = one_name f.meta.name w.meta.name (and_first _ (f.meta.len == w.meta.len) fact) in
      (sent (subst (λ name. is_of_log g name ≡ true) (sym named) own), named)
  told_came w (Missing generation) fact sent own = tt

  came_too : (name : SegName) (answers : List Answer) (a : Answer) → AllCame n name answers → ToldCame n name a.told → AllCame n name (answers ++ a ∷ [])
  came_too name [] a all came = (came, tt)
  came_too name (b ∷ rest) a all came = (all.0, came_too name rest a all.1 came)

  taken_seen : (w : Wanted) (r : RoundSoFar) (server : ℕ) (told : Told) → RoundSeen g n v w r → is_of w told ≡ true → told_fits r told ≡ true → TellsSent told
      → RoundSeen g n v w (round_take r server told)
  unfolding round_take
  taken_seen w r server told seen fact fits sent =
      by_test (RoundSeen g n v w) (has_answered r.answers server) r (record r { answers = r.answers ++ record { server = server; told = told } ∷ [] })
      (λ t. seen)
      (λ t. record {
        is_round = pushed_is_round r server told seen.is_round fits;
        count = seen.count;
        parity = seen.parity;
        came = λ own. came_too w.meta.name r.answers (record { server = server; told = told }) (seen.came own) (told_came w told fact sent own);
      })

  answered_seen : (r : ReadsState) (present : Option Present) (ask server : ℕ) (told : Told) → ReadsSeen g n v r → IfSome present (PresentSeen g n v)
      → TellsSent told
      → ReadOn (answered r present ask server told)
  answered_seen r None ask server told seen present sent = record { reads = seen; outs = tt }
  answered_seen r (Some p) ask server told seen present sent =
      by_test ReadOn ((ask == r.ask) && counts p server told) (reads_judge r p.wanted (round_take p.round server told) (state_of (round_take p.round server told))) (still r)
      (λ t.
      let fit = and_second (asks p.round server) (is_of p.wanted told && told_fits p.round told) (and_second (ask == r.ask) (counts p server told) t) in
      let fact = and_first (is_of p.wanted told) (told_fits p.round told) fit in
      let fits = and_second (is_of p.wanted told) (told_fits p.round told) fit in
      judged_seen r p.wanted (round_take p.round server told) (state_of (round_take p.round server told)) seen present.wanted
      (taken_seen p.wanted p.round server told present.round fact fits sent) refl)
      (λ t. record { reads = seen; outs = tt })

  pub answer_seen : (r : ReadsState) (ask server : ℕ) (told : Told) → ReadsSeen g n v r → TellsSent told → ReadOn (reads_take r ask server told)
  unfolding reads_take
  answer_seen r ask server told seen sent = answered_seen r r.present ask server told seen seen.present sent
