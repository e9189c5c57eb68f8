-- What a takeover was reported, as the small world has it: once all have reported, the slot becomes active there.
use Rattle.std.proofs.Common.{◌≡◌, ℕ, Bool, ◌+◌, ◌-◌, ◌==◌, ◌≤◌, ◌<◌, true, false, cond, List, [], ◌∷◌, ◌++◌, inl, inr, ⊎_elim, map, Some, None, refl, sym, ap, subst, ◌∙◌, arith}
use Rattle.std.specs.List.{AllByRecursion, Contains, flat_map, range_with_len}
use Rattle.std.proofs.Common.{append_assoc, append-nil, max, zero, suc}
use Rattle.std.proofs.lemmas.Bool.{eqb-true}
use Rattle.std.proofs.lemmas.Bool.Decides.{nat_tests}
use Rattle.std.proofs.lemmas.List.Elements.{All-from_recursion}
use Rattle.xfs_base.proofs.Booleans.{contrary}
use Rattle.xfs_base.proofs.Members.{contains_first, contains_rest}
use Rattle.xfs_base.specs.declared.block.BlockId.{BlockId}
use Rattle.xfs_base.specs.declared.entry.Entry.{Entry}
use Rattle.xfs_base.specs.declared.node.NodeId.{NodeId}
use Rattle.xfs_base.specs.declared.node.NodeId.TheVariants.{Client, Manager, Server, Cleaner, Registry}
use Rattle.xfs_base.specs.declared.segment.End.{End}
use Rattle.xfs_base.specs.declared.token.Mode.{Mode}
use Rattle.xfs_base.proofs.NodeOrder.{same_node_itself, same_node_is}
use Rattle.xfs_base.specs.Nodes.{same_node}
use Rattle.xfs_base.proofs.Alls.{all_append}
use Rattle.takeover.specs.declared.report.Report.{Report as Heard}
use Rattle.takeover.specs.Reports.{polled, client_after, end_from, held_by, beliefs_of}
use Rattle.takeover.specs.TakeState.{TakeState}
use Rattle.takeover.specs.Transition.{awaited}
use Rattle.token_law.specs.Net.{Net, Happens, IsLatest}
use Rattle.token_law.specs.Net.Packet.{ReportSent}
use Rattle.token_law.specs.Net.Happens.{Activates}
use Rattle.token_law.specs.Owed.{Gathered}
use Rattle.token_manager.specs.Transition.{slot_start as slot_started}
use Rattle.token_protocol.specs.Basics.{put, In}
use Rattle.token_protocol.specs.Premises.{Premise}
use Rattle.token_tie.specs.Epochs.{reported, all_reported}
use Rattle.node_slots.specs.node_tie.ManagerEvents.{ReportKnown, ends_of}
use Rattle.node_slots.proofs.node_tie.ManagerMoves.{in_front}
use Rattle.node_slots.proofs.node_tie.ManagerTakes.{IsOnce, heard_is, all_heard}

-- ---- the reports, as the small world has them

-- the clients that reported, in the order in which they did
abbrev client_of : NodeId → List ℕ
client_of (Client c) = c ∷ []
client_of _ = []

abbrev order_of : List Heard → List ℕ
order_of reports = flat_map (λ r. client_of r.from) reports

-- what a client reported first
abbrev rows_of : List Heard → ℕ → List (BlockId × Mode)
rows_of [] c = []
rows_of (r ∷ rs) c = cond (same_node r.from (Client c)) r.held (rows_of rs c)

-- the first report of a client
abbrev First : List Heard → ℕ → Type 0
First reports c = (q : Heard) × In q reports × (q.from ≡ Client c) × (rows_of reports c ≡ q.held) × (end_from (Client c) reports ≡ q.end)

first_found : (reports : List Heard) (c : ℕ) (r : Heard) → In r reports → r.from ≡ Client c → First reports c
first_found [] c r fact from = absurd fact
first_found (x ∷ xs) c r fact from =
    elim (same_node x.from (Client c)) as (λ t. same_node x.from (Client c) ≡ t → (q : Heard) × In q (x ∷ xs) × (q.from ≡ Client c) ×
    (cond t x.held (rows_of xs c) ≡ q.held) × (cond t x.end (end_from (Client c) xs) ≡ q.end)) [
      | true ↦ λ same. (x, inl refl, same_node_is x.from (Client c) same, refl, refl)
      | false ↦ λ other.
          let there : In r xs = ⊎_elim (λ same. absurd (contrary
          (sym other ∙ subst (λ k. same_node k (Client c) ≡ true) (sym from ∙ ap (λ (y : Heard). y.from) same) (same_node_itself (Client c)))))
          (λ h. h) fact in
          let rest = first_found xs c r there from in (rest.0, inr rest.1, rest.2, rest.3, rest.4)
    ] refl

rows_are : (reports : List Heard) → IsOnce reports → (c : ℕ) (r : Heard) → In r reports → r.from ≡ Client c → rows_of reports c ≡ r.held
rows_are reports once c r fact from = let q = first_found reports c r fact from in q.3 ∙ once q.0 r q.1 fact (q.2 ∙ sym from)

both_reported : (rows : ℕ → List (BlockId × Mode)) (cs ds : List ℕ) → all_reported rows (cs ++ ds) ≡ all_reported rows cs ++ all_reported rows ds
both_reported rows [] ds = refl
both_reported rows (c ∷ cs) ds = ap (λ xs. reported c (rows c) ++ xs) (both_reported rows cs ds) ∙ sym
    (append_assoc (reported c (rows c)) (all_reported rows cs) (all_reported rows ds))

one_reported : (rows : ℕ → List (BlockId × Mode)) (node : NodeId) (held : List (BlockId × Mode)) → ((c : ℕ) → node ≡ Client c → rows c ≡ held)
    → held_by node held ≡ all_reported rows (client_of node)
one_reported rows (Client c) held say = ap (reported c) (sym (say c refl)) ∙ sym (append-nil (reported c (rows c)))
one_reported rows _ held say = refl

-- where each client's report says these rows, what is believed is what was reported
beliefs_are : (rows : ℕ → List (BlockId × Mode)) (reports : List Heard) → ((c : ℕ) (r : Heard) → In r reports → r.from ≡ Client c → rows c ≡ r.held)
    → beliefs_of reports ≡ all_reported rows (order_of reports)
beliefs_are rows [] say = refl
beliefs_are rows (r ∷ rs) say =
    ap (λ xs. held_by r.from r.held ++ xs) (beliefs_are rows rs (λ c q fact. say c q (inr fact))) ∙ ap (λ xs. xs ++ all_reported rows (order_of rs))
    (one_reported rows r.from r.held (λ c. say c r (inl refl)))
    ∙ sym (both_reported rows (client_of r.from) (order_of rs))

contains_either : (cs ds : List ℕ) (c : ℕ) → Contains ds c → Contains (cs ++ ds) c
contains_either [] ds c fact = fact
contains_either (d ∷ cs) ds c fact = contains_rest d c (cs ++ ds) (contains_either cs ds c fact)

in_order : (reports : List Heard) (c : ℕ) (r : Heard) → In r reports → r.from ≡ Client c → Contains (order_of reports) c
in_order [] c r fact from = absurd fact
in_order (x ∷ xs) c r (inl same) from = subst (λ k. Contains (client_of k ++ order_of xs) c) (sym from ∙ ap (λ (y : Heard). y.from) same)
    (contains_first c (order_of xs))
in_order (x ∷ xs) c r (inr fact) from = contains_either (client_of x.from) (order_of xs) c (in_order xs c r fact from)

in_range : (a n c : ℕ) → a ≤ c → c < a + n → In (client_after c) (map client_after (range_with_len a n))
in_range a zero c low high = absurd (omega arith)
in_range a (suc n) c low high =
    elim (a == c) as (λ t. (a == c) ≡ t → In (client_after c) (client_after a ∷ map client_after (range_with_len (a + 1) n))) [
      | true ↦ λ same. inl (ap client_after (sym (eqb-true a c same)))
      | false ↦ λ other. inr (in_range (a + 1) n c (above a c low other) (omega arith))
    ] refl
  where
    above : (a c : ℕ) → a ≤ c → (a == c) ≡ false → a + 1 ≤ c
    above a c low other = grind (arith, nat_tests)

is_polled : (clients c : ℕ) → 0 < c → c < clients + 1 → In (Client c) (polled clients)
is_polled clients c pos less =
    let before : c - 1 + 1 ≡ c = omega arith in
    subst (λ k. In (Client k) (polled clients)) before (in_front (client_after (c - 1)) (map client_after (range_with_len 0 clients)) (Cleaner ∷ [])
    (in_range 0 clients (c - 1) (omega arith) (omega arith)))

cleaner_polled : (clients : ℕ) → In Cleaner (polled clients)
cleaner_polled clients = behind (map client_after (range_with_len 0 clients))
  where
    behind : (nodes : List NodeId) → In Cleaner (nodes ++ Cleaner ∷ [])
    behind [] = inl refl
    behind (x ∷ nodes) = inr (behind nodes)

first_of : (a b : ℕ) → a ≤ max a b
first_of a b = omega arith

module _ (members part : ℕ) (n : Net) where
  -- once all have reported, the cleaner has promised the epoch
  pub cleaner_promised : (s : TakeState) (e : ℕ) → awaited s ≡ [] → ((r : Heard) → In r s.reports → ReportKnown members part n e r.from r.held r.end)
      → e ≤ n.promised
  cleaner_promised s e none known =
      let r = heard_is s.reports Cleaner (all_heard s.reports (polled s.clients) Cleaner none (cleaner_polled s.clients)) in
      subst (λ node. ReportKnown members part n e node r.0.held r.0.end) r.2 (known r.0 r.1)

  abbrev IsClient : ℕ → Type 0
  IsClient c = (0 < c) × (c < members)

  are_clients : (e : ℕ) (reports : List Heard) → ((r : Heard) → In r reports → ReportKnown members part n e r.from r.held r.end)
      → AllByRecursion IsClient (order_of reports)
  are_clients e [] known = tt
  are_clients e (r ∷ rs) known = all_append IsClient (client_of r.from) (order_of rs) (one r.from r.held r.end (known r (inl refl)))
      (are_clients e rs (λ q fact. known q (inr fact)))
    where
      one : (node : NodeId) (held : List (BlockId × Mode)) (end : End) → ReportKnown members part n e node held end → AllByRecursion IsClient (client_of node)
      one (Client c) held end k = ((k.0, k.1), tt)
      one (Manager c) held end k = tt
      one (Server c) held end k = tt
      one Cleaner held end k = tt
      one Registry held end k = tt

  known_at : (e c : ℕ) (node : NodeId) (held : List (BlockId × Mode)) (end : End) → node ≡ Client c → ReportKnown members part n e node held end
      → In (ReportSent c e held end.seq) n.sent
  known_at e c node held end fact known = (subst (λ k. ReportKnown members part n e k held end) fact known).2

  -- once all have reported, the slot becomes active in the small world
  pub activates : (logs : Bool) (s : TakeState) (e : ℕ) (index : List (BlockId × Entry)) (applied : List ℕ) → n.slots e ≡ None → s.clients + 1 ≡ members
      → awaited s ≡ []
      → IsOnce s.reports
      → ((r : Heard) → In r s.reports → ReportKnown members part n e r.from r.held r.end)
      → Premise logs (IsLatest n e → Gathered members part n.books index applied (ends_of s.reports))
      → Happens logs members part n (record n { slots = put n.slots e (Some (slot_started e index (beliefs_of s.reports) applied)) })
  activates logs s e index applied free clients none once known gathered =
      let rows = rows_of s.reports in
      let order = order_of s.reports in
      subst (λ beliefs. Happens logs members part n (record n { slots = put n.slots e (Some (slot_started e index beliefs applied)) }))
      (sym (beliefs_are rows s.reports (rows_are s.reports once)))
      (Activates e index applied rows (ends_of s.reports) order free
      (λ c pos less. let r = heard_of c pos less in in_order s.reports c r.0 r.1 r.2)
      (All-from_recursion IsClient order (are_clients e s.reports known))
      (λ c pos less. let r = heard_of c pos less in named c (first_found s.reports c r.0 r.1 r.2))
      gathered)
    where
      named : (c : ℕ) → First s.reports c → In (ReportSent c e (rows_of s.reports c) (ends_of s.reports c)) n.sent
      named c q =
          subst (λ (held : List (BlockId × Mode)). In (ReportSent c e held (ends_of s.reports c)) n.sent) (sym q.3)
          (subst (λ (end : End). In (ReportSent c e q.0.held end.seq) n.sent) (sym q.4) (known_at e c q.0.from q.0.held q.0.end q.2 (known q.0 q.1)))

      heard_of : (c : ℕ) → 0 < c → c < members → (r : Heard) × In r s.reports × (r.from ≡ Client c)
      heard_of c pos less = heard_is s.reports (Client c) (all_heard s.reports (polled s.clients) (Client c) none (is_polled s.clients c pos (omega arith)))
