-- The pick: the lists that an opening kept, and the Welcome that counts, are what the abstract pick asks.
use Rattle.std.proofs.Common.{◌≡◌, ℕ, zero, suc, ◌<◌, ◌≤◌, ◌⊎◌, ◌==◌, Bool, true, false, cond, List, [], ◌∷◌, Some, None, length, refl, sym, ap, subst, ◌∙◌, inl, inr, arith}
use Rattle.std.proofs.lemmas.Bool.{eqb-true}
use Rattle.xfs_base.specs.declared.fragment.FragMeta.{FragMeta}
use Rattle.xfs_base.specs.declared.segment.SegName.{SegName}
use Rattle.xfs_base.proofs.Booleans.{contrary, equal_itself}
use Rattle.segment_format.specs.declared.segment.Segment.{Segment}
use Rattle.group_map.specs.declared.group.Group.{Group}
use Rattle.group_map.specs.GroupMapState.{GroupMapState}
use Rattle.group_map.specs.Groups.{group_of}
use Rattle.stripe_code.specs.Fragments.{meta_of}
use Rattle.log_protocol.specs.Phase
use Rattle.log_protocol.specs.Tables.{In}
use Rattle.log_protocol.specs.Packets.{FencedPacket}
use Rattle.log_protocol.specs.State.{State}
use Rattle.log_protocol.specs.LogLaws.{Reached}
use Rattle.log_protocol.specs.OpeningSteps.{Gathered, Picked, CanPickNone, CanPickKept, CanPickPrior}
use Rattle.log_protocol.proofs.Induction.{always}
use Rattle.log_scan.specs.declared.listing.Listing.{Listing}
use Rattle.log_scan.specs.Linked.{IsNoNewer, IsPicked}
use Rattle.log_scan.specs.Pick.{counting, newest, has_name, has_list, is_torn}
use Rattle.log_scan.proofs.Newest.{search_is}
use Rattle.log_scan.proofs.Picked.{picked_is}
use Rattle.log_tie.specs.Setting.{Setting, Stripe, name_of}
use Rattle.log_flight.specs.Flights.{generation_of, server_of}
use Rattle.log_tie.specs.Seen.{Book, Fixed, members_of}
use Rattle.log_tie.specs.Shelves.{flag}
use Rattle.log_tie.specs.Scans.{WholeMap, AllMetas, FencedSeen, AllListed, Phantom}
use Rattle.log_tie.proofs.Listings.{in_contained, contained_in, counted_listed, listed_counted, named_in, in_named, listing_of, its_list, no_list, has_in, Lacks, whole_lists}

module _ (g : Setting) (w : State) (book : ℕ → Segment) (bound : ℕ) where
  -- what is kept of a list that is in
  pub record ItsKept (l : Listing) : Type 0 where
    pub seen : FencedSeen g w book l.server w.incarnation l.generation l.held
    pub past : seen.low ≤ bound
    pub exists : l.server < suc g.servers

  pub kept_list : (ls : List Listing) (l : Listing) → AllListed g w book bound ls → In l ls → ItsKept l
  kept_list [] l all fact = absurd fact
  kept_list (k ∷ ls) l all (inl e) = subst ItsKept (sym e) (record { seen = all.0.seen; past = all.0.past; exists = all.0.exists })
  kept_list (k ∷ ls) l all (inr fact) = kept_list ls l all.1 fact

  -- and it is the one of its server
  pub its_own : (ls : List Listing) (l : Listing) → AllListed g w book bound ls → In l ls → listing_of ls l.server ≡ l
  its_own [] l all fact = absurd fact
  its_own (k ∷ ls) l all (inl e) = ap (λ t. cond t k (listing_of ls l.server)) (ap (λ (z : Listing). k.server == z.server) e ∙ equal_itself k.server) ∙ sym e
  its_own (k ∷ ls) l all (inr fact) = by (k.server == l.server) refl (its_own ls l all.1 fact)
    where
      by : (t : Bool) → (k.server == l.server) ≡ t → listing_of ls l.server ≡ l → cond t k (listing_of ls l.server) ≡ l
      by true e more = contrary (sym all.0.only ∙ (ap (λ z. has_list z ls) (eqb-true k.server l.server e) ∙ has_in ls l fact))
      by false e more = more

-- a meta that is listed is of a booked segment
meta_booked : (book : ℕ → Segment) (booked : ℕ → ℕ) (ms : List FragMeta) (x : FragMeta) → AllMetas book booked ms → In x ms
    → (y : ℕ) × (i : ℕ) × (booked y ≡ 1) × (x ≡ meta_of (book y) i)
meta_booked book booked [] x all fact = absurd fact
meta_booked book booked (k ∷ ms) x all (inl e) = (all.0.0, all.0.1, all.0.2, e ∙ all.0.3)
meta_booked book booked (k ∷ ms) x all (inr fact) = meta_booked book booked ms x all.1 fact

-- what a number tells of the kept list of a server, or of server 0
pub record TellsList (g : Setting) (w : State) (ls : List Listing) (bound v : ℕ) : Type 0 where
  pub packet : FencedPacket
  pub sent : In packet w.fenceds
  pub from : v < suc g.servers → packet.from ≡ v
  pub boot : packet.incarnation ≡ w.incarnation
  pub low : packet.low ≤ bound
  pub generation : 0 < v → v < suc g.servers → packet.generation ≡ (listing_of ls v).generation
  pub lists : (x : ℕ) → packet.listed x ≡ flag (has_name (name_of g x) (listing_of ls v).held)

one_flag : (t : Bool) → flag t ≡ 1 → t ≡ true
one_flag true h = refl
one_flag false h = absurd (let a = h in omega arith)

-- an empty list has no newest, and a list without one is empty
pub nothing_newest : (ms : List FragMeta) → newest ms ≡ None → ms ≡ []
nothing_newest [] h = refl
nothing_newest (m ∷ ms) h = absurd (let e = search_is m ms ∙ h in cc)

module _ (g : Setting) (w : State) (book : ℕ → Segment) (fixed : Fixed g w) (paged : Book g w book) (reached : Reached w) (m : GroupMapState)
    (whole : WholeMap g w.registry_generation m) (bound low : ℕ) (ls : List Listing) (all : AllListed g w book bound ls) (phantom : Phantom w)
    (every : (v : ℕ) → 0 < v → v < suc g.servers → has_list v ls ≡ true) (begun : w.begin_low ≤ bound) (after : bound ≤ low) (known : low ≤ w.low) where
  pub told : (v : ℕ) → TellsList g w ls bound v
  told v = by (has_list v ls) refl
    where
      by : (t : Bool) → has_list v ls ≡ t → TellsList g w ls bound v
      by true e = let k = its_list ls v e in let s = kept_list g w book bound ls (listing_of ls v) all k.0 in record {
        packet = record {
          from = (listing_of ls v).server;
          incarnation = w.incarnation;
          generation = (listing_of ls v).generation;
          low = s.seen.low;
          listed = s.seen.listed;
        };
        sent = s.seen.sent;
        from = λ b. k.1;
        boot = refl;
        low = s.past;
        generation = λ a b. refl;
        lists = s.seen.lists;
      }
      by false e = record {
        packet = record { from = 0; incarnation = w.incarnation; generation = phantom.generation; low = w.begin_low; listed = phantom.listed };
        sent = phantom.sent;
        from = λ b. zero_then b;
        boot = refl;
        low = begun;
        generation = λ a b. contrary (sym e ∙ every v a b);
        lists = λ x. phantom.nothing x ∙ ap (λ ms. flag (has_name (name_of g x) ms)) (sym (no_list ls v e));
      }
        where
          zero_then : v < suc g.servers → 0 ≡ v
          zero_then b = positive v refl
            where
              positive : (n : ℕ) → v ≡ n → 0 ≡ v
              positive zero e0 = sym e0
              positive (suc n) e0 = contrary (sym e ∙ every v (omega arith) b)

  abbrev pub list_of : ℕ → FencedPacket
  list_of v = (told v).packet

  pub gathered : Gathered w list_of low
  gathered = record {
    sent = λ v b. (told v).sent;
    from = λ v b. (told v).from (subst (λ n. v < n) fixed.servers b);
    boot = λ v b. (told v).boot;
    no_older = λ v b. (let a = (told v).low in omega arith);
    begun = omega arith;
    known = known;
  }

  -- a name that is listed is a meta's
  listed_meta : (v x : ℕ) → (list_of v).listed x ≡ 1 → (y : FragMeta) × In y (listing_of ls v).held × (y.name ≡ name_of g x)
  listed_meta v x h = named_in (name_of g x) (listing_of ls v).held (one_flag _ (sym ((told v).lists x) ∙ h))

  has_metas : (v : ℕ) (y : FragMeta) → In y (listing_of ls v).held → has_list v ls ≡ true
  has_metas v y fact = by (has_list v ls) refl
    where
      by : (t : Bool) → has_list v ls ≡ t → has_list v ls ≡ true
      by true e = e
      by false e = absurd (subst (In y) (no_list ls v e) fact)

  name_seq : (x : ℕ) (n : SegName) → n ≡ name_of g x → w.seq_of x ≡ n.seq
  name_seq x n named = ap (λ k. k x) fixed.seq_of ∙ sym (ap (λ (z : SegName). z.seq) named)

  name_inc : (x : ℕ) (n : SegName) → n ≡ name_of g x → w.incarnation_of x ≡ n.pass.inc
  name_inc x n named = ap (λ k. k x) fixed.incarnation_of ∙ sym (ap (λ (z : SegName). z.pass.inc) named)

  name_att : (x : ℕ) (n : SegName) → n ≡ name_of g x → w.attempt_of x ≡ n.pass.att
  name_att x n named = ap (λ k. k x) fixed.attempt_of ∙ sym (ap (λ (z : SegName). z.pass.att) named)

  -- each name that is listed and isn't below the horizon counts
  pub record Counts (x : ℕ) : Type 0 where
    pub meta : FragMeta
    pub list : Listing
    pub among : In list ls
    pub held : In meta list.held
    pub named : meta.name ≡ name_of g x
    pub up : low ≤ meta.name.seq

  pub counts : (v x : ℕ) → (list_of v).listed x ≡ 1 → low ≤ w.seq_of x → Counts x
  counts v x h up =
      let y = listed_meta v x h in
      let seq = name_seq x y.0.name y.2 in
      let l = its_list ls v (has_metas v y.0 y.1) in
      record { meta = y.0; list = listing_of ls v; among = l.0; held = y.1; named = y.2; up = omega arith }

  pub picks_nothing : w.phase ≡ Phase.gathering → counting low ls ≡ [] → CanPickNone w list_of low
  picks_nothing phase none = record { gathering = phase; gathered = gathered; nothing = λ v y b h. below v y h }
    where
      no : (v y : ℕ) → (list_of v).listed y ≡ 1 → low ≤ w.seq_of y → ⊥
      no v y h up = let c = counts v y h up in subst (In c.meta) none (listed_counted low ls c.list c.meta c.among c.held c.up)

      below : (v y : ℕ) → (list_of v).listed y ≡ 1 → w.seq_of y < low
      below v y h = let n = no v y h in omega arith

  -- the picked one
  pub record Best (b : FragMeta) : Type 0 where
    pub number : ℕ
    pub index : ℕ
    pub booked : w.booked number ≡ 1
    pub describes : b ≡ meta_of (book number) index
    pub named : b.name ≡ name_of g number
    pub picked : Picked w list_of low number

  module _ (b : FragMeta) (is_picked : IsPicked low ls b) where
    no_newer : (v z : ℕ) → (list_of v).listed z ≡ 1 → low ≤ w.seq_of z → (y : FragMeta) × (y.name ≡ name_of g z) × IsNoNewer y.name b.name
    no_newer v z listed up = let c =
        counts v z listed up in (c.meta, c.named, is_picked.first c.list c.meta (contained_in c.list ls c.among) (contained_in c.meta c.list.held c.held) c.up)

    newest_boot : (x : ℕ) → b.name ≡ name_of g x → (v z : ℕ) → (list_of v).listed z ≡ 1 → low ≤ w.seq_of z → w.incarnation_of z ≤ w.incarnation_of x
    newest_boot x named v z listed up = let c = no_newer v z listed up in let p = c.2.incarnation in let i = name_inc z c.0.name c.1 in let j =
        name_inc x b.name named in omega arith

    longest : (x : ℕ) → b.name ≡ name_of g x → (v z : ℕ) → (list_of v).listed z ≡ 1 → low ≤ w.seq_of z → w.incarnation_of z ≡ w.incarnation_of x
        → w.seq_of z ≤ w.seq_of x
    longest x named v z listed up same =
        let c = no_newer v z listed up in let i = name_inc z c.0.name c.1 in let j = name_inc x b.name named in let p = c.2.number (omega arith) in let s =
        name_seq z c.0.name c.1 in let t = name_seq x b.name named in omega arith

    attempts : (x : ℕ) → b.name ≡ name_of g x → (v z : ℕ) → (list_of v).listed z ≡ 1 → low ≤ w.seq_of z → w.incarnation_of z ≡ w.incarnation_of x
        → w.seq_of z ≡ w.seq_of x → w.attempt_of z ≤ w.attempt_of x
    attempts x named v z listed up same seqs =
        let c = no_newer v z listed up in let i = name_inc z c.0.name c.1 in let j = name_inc x b.name named in let s = name_seq z c.0.name c.1 in let t =
        name_seq x b.name named in
        let p = c.2.attempt (omega arith) (omega arith) in let a = name_att z c.0.name c.1 in let d = name_att x b.name named in omega arith

    best_one : Best b
    best_one =
        let c = counted_listed low ls b (in_contained b (counting low ls) is_picked.counts) in
        let s = kept_list g w book bound ls c.0 all c.1 in
        let y = meta_booked book w.booked c.0.held b s.seen.whole c.2 in
        let named : b.name ≡ name_of g y.0 = ap (λ (z : FragMeta). z.name) y.3 ∙ (paged y.0 y.2).named in
        let own = its_own g w book bound ls c.0 all c.1 in record {
          number = y.0;
          index = y.1;
          booked = y.2;
          describes = y.3;
          named = named;
          picked = record {
            listed = (
              c.0.server,
              subst (λ n. c.0.server < n) (sym fixed.servers) s.exists,
              (told c.0.server).lists y.0
                  ∙ ap flag (ap (λ (z : Listing). has_name (name_of g y.0) z.held) own ∙ (ap (λ n. has_name n c.0.held) (sym named) ∙ in_named c.0.held b c.2)),
            );
            above = let a = c.3 in let q = name_seq y.0 b.name named in omega arith;
            newest_boot = λ v z below listed up. newest_boot y.0 named v z listed up;
            longest = λ v z below listed up same. longest y.0 named v z listed up same;
            last_attempt = λ v z below listed up same seq. attempts y.0 named v z listed up same seq;
          };
        }

  pub the_best : (b : FragMeta) → newest (counting low ls) ≡ Some b → Best b
  the_best b e = best_one b (picked_is low ls b e)

  -- the group of the picked one, as the map has it
  module _ (b : FragMeta) (k : Best b) (group : Group) (of : group_of m b.group ≡ Some group) where
    its_members : group.members ≡ members_of g (book k.number)
    its_members = ap (λ (z : Stripe). z.members) (sym (whole.named b.group group of)) ∙ ap (λ (z : FragMeta). (g.stripe z.group).members) k.describes

    its_count : w.member_count k.number ≡ length group.members
    its_count = (paged k.number k.booked).counted ∙ ap length (sym its_members)

    its_server : (j : ℕ) → w.member_server k.number j ≡ server_of group.members j
    its_server j = (paged k.number k.booked).at_server j ∙ ap (λ ms. server_of ms j) (sym its_members)

    its_generation : (j : ℕ) → j < length group.members → w.member_generation k.number j ≡ generation_of group.members j
    its_generation j member =
        (paged k.number k.booked).at_generation j (subst (λ ms. j < length ms) its_members member) ∙ ap (λ ms. generation_of ms j) (sym its_members)

    its_exists : (j : ℕ) → j < length group.members → server_of group.members j < suc g.servers
    its_exists j member =
        subst (λ n. n < suc g.servers) (its_server j)
        (subst (λ n. w.member_server k.number j < n) fixed.servers
        ((always w reached).shelf.texts.server_known k.number j k.booked (subst (λ n. j < n) (sym its_count) member)))

    pub keeps_it : w.phase ≡ Phase.gathering → is_torn ls b.name group.members ≡ false → CanPickKept w list_of low k.number
    keeps_it phase none = record { gathering = phase; gathered = gathered; picked = k.picked; whole = λ j member. by j (subst (λ n. j < n) its_count member) }
      where
        by : (j : ℕ) → j < length group.members
            → ((list_of (w.member_server k.number j)).listed k.number ≡ 1)
            ⊎ ((list_of (w.member_server k.number j)).generation ≡ w.member_generation k.number j → ⊥)
        by j member = from (whole_lists ls b.name group.members none j member (listing_of ls v) there.0 there.1)
          where
            v : ℕ
            v = server_of group.members j

            positive : 0 < server_of group.members j
            positive = whole.some b.group group of j member

            there : In (listing_of ls (server_of group.members j)) ls × ((listing_of ls (server_of group.members j)).server ≡ server_of group.members j)
            there = its_list ls (server_of group.members j) (every (server_of group.members j) positive (its_exists j member))

            from : (has_name b.name (listing_of ls (server_of group.members j)).held ≡ true)
                ⊎ ((listing_of ls (server_of group.members j)).generation ≡ generation_of group.members j → ⊥)
                → ((list_of (w.member_server k.number j)).listed k.number ≡ 1)
                ⊎ ((list_of (w.member_server k.number j)).generation ≡ w.member_generation k.number j → ⊥)
            from (inl t) =
                inl (ap (λ u. (list_of u).listed k.number) (its_server j)
                ∙ ((told (server_of group.members j)).lists k.number
                ∙ ap flag (ap (λ n. has_name n (listing_of ls (server_of group.members j)).held) (sym k.named) ∙ t)))
            from (inr other) =
                inr (λ same. other
                (sym ((told (server_of group.members j)).generation positive (its_exists j member))
                ∙ (ap (λ u. (list_of u).generation) (sym (its_server j)) ∙ (same ∙ its_generation j member))))

    pub discards_it : w.phase ≡ Phase.gathering → (l : Lacks ls b.name group.members) → CanPickPrior w list_of low k.number l.place
    discards_it phase l = record {
      gathering = phase;
      gathered = gathered;
      picked = k.picked;
      member = subst (λ n. l.place < n) (sym its_count) l.member;
      lacks = ap (λ u. (list_of u).listed k.number) (its_server l.place)
          ∙ ((told v).lists k.number
          ∙ ap flag (ap (λ (z : Listing). has_name (name_of g k.number) z.held) own ∙ (ap (λ n. has_name n l.list.held) (sym k.named) ∙ l.lacking)));
      original = ap (λ u. (list_of u).generation) (its_server l.place)
          ∙ ((told v).generation (whole.some b.group group of l.place l.member) (its_exists l.place l.member)
          ∙ (ap (λ (z : Listing). z.generation) own ∙ (l.original ∙ sym (its_generation l.place l.member))));
    }
      where
        v : ℕ
        v = server_of group.members l.place

        own : listing_of ls (server_of group.members l.place) ≡ l.list
        own = ap (listing_of ls) (sym l.at_server) ∙ its_own g w book bound ls l.list all l.among
