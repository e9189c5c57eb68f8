-- In a run by workers each item of a node but a crash, or the loss of a disk, begins only once all earlier items of the node are answered.
use Rattle.std.proofs.Common.{◌≡◌, ◌⊎◌, ◌<◌, ◌≤◌, ℕ, zero, suc, ◌+◌, ◌-◌, nat_lt, ◌&&◌, ◌==◌, Bool, true, false, cond, List, [], ◌∷◌, length, take, Option, Some, None, inl, inr, refl, sym, ap, subst, ◌∙◌, arith}
use Rattle.std.specs.Prelude.{nat_le, slice_get}
use Rattle.std.specs.List.{Contains, fold}
use Rattle.std.proofs.lemmas.Bool.{eqb-true, leb-true, lt-ltb, ltb-true}
use Rattle.std.proofs.lemmas.Option.{same_Some}
use Rattle.core_world.specs.AnyNode.{any_start, any_step}
use Rattle.core_world.specs.declared.any_node.AnyNode.{AnyNode}
use Rattle.journals.proofs.Gets.{any_has, has}
use Rattle.journals.proofs.Starts.{start_cluster, start_node}
use Rattle.journals.specs.Answers.{AreAnswered, is_answer_to}
use Rattle.journals.specs.Journals.{MayBegin, acts_in, begins, replayed}
use Rattle.journals.specs.Merging.{whats_of}
use Rattle.node_base.specs.Beginning.{is_left, next_item}
use Rattle.node_base.specs.declared.items.Items.{Items}
use Rattle.headline.specs.Dues.{has_counters}
use Rattle.run_answers.specs.once_law.Ledgers.{OpenHasBegun}
use Rattle.headline.specs.Items.{Falls, items_in}
use Rattle.headline.specs.Turns.{BeginsInTurn, IsAnswered, asks}
use Rattle.run_laws.proofs.world_law.Turning.{next_cluster}
use Rattle.headline.specs.Moments.{moment, node_in}
use Rattle.script_text.specs.declared.script.Line.{Line}
use Rattle.serving_moves.proofs.item_moves.Keeping.{next_is}
use Rattle.token_protocol.specs.Basics.{In}
use Rattle.top_call.specs.Claim.{IsLiveRun}
use Rattle.version_model.specs.declared.act.Act.{Act}
use Rattle.version_model.specs.declared.act.Act.TheVariants as act
use Rattle.version_model.specs.declared.answer.Answer.{Answer}
use Rattle.version_model.specs.declared.work.Work.{Work}
use Rattle.version_model.specs.declared.work.Work.TheVariants as work
use Rattle.wire_msg.specs.declared.packet.Do.{Do}
use Rattle.wire_msg.specs.declared.packet.Do.TheVariants.{Begin}
use Rattle.world_base.proofs.Places.{node_there, place_within}
use Rattle.world_base.specs.Cluster.{HasNode, cluster_of, place_behind, place_of}
use Rattle.world_base.specs.declared.due.Due.{Due}
use Rattle.world_base.specs.declared.estate.Estate.{Estate}
use Rattle.world_base.specs.declared.event.Event.{Event}
use Rattle.world_base.specs.declared.event.Event.TheVariants as events
use Rattle.world_base.specs.declared.world.World.{World}
use Rattle.world_base.specs.Dues.{due_of, dues_of, is_free}
use Rattle.world_base.specs.Items.{is_for, items_of}
use Rattle.world_base.specs.NextWorld.{first_node, next_world, start_world}
use Rattle.world_base.proofs.Dues.{due_for_each}
use Rattle.xfs_base.proofs.Booleans.{and_first, and_second, contrary}
use Rattle.xfs_base.proofs.Members.{contains_cases, contains_nothing}
use Rattle.xfs_base.proofs.NodeOrder.{same_node_is}
use Rattle.xfs_base.specs.declared.node.NodeId.{NodeId}
use Rattle.xfs_base.specs.declared.node.NodeId.TheVariants as nodes
use Rattle.xfs_base.specs.declared.setup.Setup.{Setup}
use Rattle.xfs_base.specs.Limits.{u32_end}
use Rattle.xfs_base.specs.Nodes.{same_node}
use Rattle.xfs_top.proofs.Counted.{begun_all}
use Rattle.xfs_top.proofs.Following.{Follows, follows, next_what}

-- ---- dues

-- an item that is neither a crash nor the loss of a disk is not free
not_free : (w : Work) → (Falls (Some w) → ⊥) → is_free w ≡ false
not_free (work.Crash node) apart = absurd (apart tt)
not_free (work.Lose server) apart = absurd (apart tt)
not_free _ apart = refl

-- the due of an item of a node
pub record ItsDue (lines : List Line) (node : NodeId) (k : ℕ) (w : Work) : Type 0 where
  pub due : Due
  pub there : slice_get (dues_of lines node) k ≡ Some due
  pub free : due.free ≡ is_free w

pub its_due : (lines : List Line) (node : NodeId) (k : ℕ) (w : Work) → slice_get (items_of lines node) k ≡ Some w → ItsDue lines node k w
its_due [] node k w at = absurd cc
its_due (line ∷ lines) node k w at = by (λ j there. its_due lines node j w there) (is_for node line.work) refl k at
  where
    by : ((j : ℕ) → slice_get (items_of lines node) j ≡ Some w → ItsDue lines node j w) → (t : Bool) → is_for node line.work ≡ t → (k : ℕ) → slice_get (items_of (line ∷ lines) node) k ≡ Some w → ItsDue (line ∷ lines) node k w
    by rest_ false is k at_ =
        let items : items_of (line ∷ lines) node ≡ items_of lines node = rw is refl in
        let dues : dues_of (line ∷ lines) node ≡ dues_of lines node = rw is refl in
        let rest = rest_ k (ap (λ ws. slice_get ws k) (sym items) ∙ at_) in
        record { due = rest.due; there = ap (λ ds. slice_get ds k) dues ∙ rest.there; free = rest.free }
    by rest_ true is zero at_ =
        let items : items_of (line ∷ lines) node ≡ line.work ∷ items_of lines node = rw is refl in
        let dues : dues_of (line ∷ lines) node ≡ due_of line ∷ dues_of lines node = rw is refl in
        let one : line.work ≡ w = same_Some line.work w (ap (λ ws. slice_get ws 0) (sym items) ∙ at_) in
        record { due = due_of line; there = ap (λ ds. slice_get ds 0) dues; free = ap is_free one }
    by rest_ true is (suc k) at_ =
        let items : items_of (line ∷ lines) node ≡ line.work ∷ items_of lines node = rw is refl in
        let dues : dues_of (line ∷ lines) node ≡ due_of line ∷ dues_of lines node = rw is refl in
        let rest = rest_ k (ap (λ ws. slice_get ws (suc k)) (sym items) ∙ at_) in
        record { due = rest.due; there = ap (λ ds. slice_get ds (suc k)) dues ∙ rest.there; free = rest.free }

behind_has : (first count k q : ℕ) → place_behind first count k ≡ Some q → (1 ≤ k) × (k ≤ count)
behind_has first count k q at = by (nat_lt 0 k && nat_le k count) refl
  where
    by : (t : Bool) → (nat_lt 0 k && nat_le k count) ≡ t → (1 ≤ k) × (k ≤ count)
    by true is =
        let low : 0 < k = ltb-true 0 k (and_first (nat_lt 0 k) (nat_le k count) is) in
        (omega (arith, low), leb-true k count (and_second (nat_lt 0 k) (nat_le k count) is))
    by false is = absurd (let none : place_behind first count k ≡ None = rw is refl in let both : Some q ≡ None = sym at ∙ none in cc)

had : (setup : Setup) (node : NodeId) (q : ℕ) → place_of (cluster_of setup) node ≡ Some q → HasNode setup node
had setup (nodes.Client k) q at = behind_has 0 setup.clients k q at
had setup (nodes.Manager k) q at = behind_has (cluster_of setup).clients setup.managers k q at
had setup (nodes.Server k) q at = behind_has ((cluster_of setup).clients + (cluster_of setup).managers) setup.servers k q at
had setup nodes.Cleaner q at = tt
had setup nodes.Registry q at = tt

-- ---- runs by workers

-- an answer in words of acts
answers_so : (node : NodeId) (item : ℕ) (acts : List Act) (x : Act) → Contains acts x → is_answer_to node item x ≡ true
    → (a : Answer) × (x ≡ act.Answered node item a)
answers_so node item acts (act.Answered by number a) found is =
    let one : by ≡ node = same_node_is by node (and_first (same_node by node) (number == item) is) in
    let two : number ≡ item = eqb-true number item (and_second (same_node by node) (number == item) is) in
    (a, ap (λ m. act.Answered m number a) one ∙ ap (λ k. act.Answered node k a) two)
answers_so node item acts _ found is = contrary is

contained : (acts : List Act) (x : Act) → Contains acts x → In x acts
contained [] x found = absurd (contains_nothing x found)
contained (y ∷ acts) x found = by (λ more. contained acts x more) (contains_cases y x acts found)
  where
    by : (Contains acts x → In x acts) → (y ≡ x) ⊎ Contains acts x → In x (y ∷ acts)
    by rest (inl is) = inl (sym is)
    by rest (inr more) = inr (rest more)

-- the world's nodes stay the same
clusters : (count : ℕ) (es : List Event) (w : World AnyNode) → (fold (next_world any_step) w (take count es)).cluster ≡ w.cluster
clusters zero [] w = refl
clusters zero (e ∷ es) w = refl
clusters (suc count) [] w = refl
clusters (suc count) (e ∷ es) w = clusters count es (next_world any_step w e) ∙ next_cluster any_step w e

-- a node before its first event
fresh : (name : NodeId) (setup : Setup) (works : List Work) → items_in (any_start name setup works) ≡ record { works = works; begun = 0; unanswered = None }
fresh (nodes.Client k) setup works = refl
fresh (nodes.Manager k) setup works = refl
fresh (nodes.Server k) setup works = refl
fresh nodes.Cleaner setup works = refl
fresh nodes.Registry setup works = refl

-- what stands in a front of a list stands in the list
front_of : (xs : List Do) (k j : ℕ) (d : Do) → slice_get (take k xs) j ≡ Some d → (slice_get xs j ≡ Some d) × (take j (take k xs) ≡ take j xs)
front_of [] zero j d at = absurd cc
front_of [] (suc k) j d at = absurd cc
front_of (x ∷ xs) zero j d at = absurd cc
front_of (x ∷ xs) (suc k) zero d at = (at, refl)
front_of (x ∷ xs) (suc k) (suc j) d at = (let rest = front_of xs k j d at in (rest.0, ap (λ ds. x ∷ ds) rest.1))

module _ (e : Estate AnyNode) (live : IsLiveRun any_step any_start e) (count : ℕ) (node : NodeId)
    (happens : slice_get e.events count ≡ Some (events.Begin node)) (x : AnyNode) (q : ℕ) (placed : place_of (moment e count).cluster node ≡ Some q)
    (there : slice_get (moment e count).nodes q ≡ Some x) (room : has_counters x ≡ true) (number : ℕ) (next : next_item (items_in x) ≡ Some number) where
  abbrev items : List Work
  items = items_of e.script.lines node

  abbrev dues : List Due
  dues = dues_of e.script.lines node

  abbrev first : AnyNode
  first = first_node any_start e.script node

  abbrev before : List Do
  before = whats_of node (take count e.events)

  abbrev all : List Do
  all = whats_of node e.events

  at_start : place_of (cluster_of e.script.setup) node ≡ Some q
  at_start =
      ap (λ k. place_of k node) (sym (clusters count e.events (start_world any_start e.script) ∙ start_cluster any_start e.script)) ∙ placed

  here : slice_get (start_world any_start e.script).nodes q ≡ Some first
  here =
      start_node any_start e.script q (place_within (cluster_of e.script.setup) node q at_start)
      ∙ ap (λ n. Some (first_node any_start e.script n)) (sym (node_there (cluster_of e.script.setup) node q at_start))

  f : Follows node q (start_world any_start e.script) (moment e count) first before
  f = follows node q count e.events (start_world any_start e.script) 0 0 first
      (ap (λ k. place_of k node) (start_cluster any_start e.script) ∙ at_start) here live.rises

  is_it : replayed any_step first before ≡ x
  is_it = same_Some (replayed any_step first before) x (sym f.there ∙ there)

  met : (k : ℕ) → slice_get all k ≡ Some Begin → MayBegin any_step node first dues (take k all)
  met k at = live.met node (had e.script.setup node q at_start) k at

  size : length dues ≡ length items
  size = due_for_each e.script.lines node

  started_ : items_in first ≡ record { works = items; begun = 0; unanswered = None }
  started_ = fresh node e.script.setup items

  may : MayBegin any_step node first dues before
  may = (let w = next_what node e.events count happens in subst (λ ds. MayBegin any_step node first dues ds) w.1 (met (length before) w.0))

  sound : OpenHasBegun (items_in first)
  sound item waits = absurd (let clash : None ≡ Some item = sym (ap (λ (i : Items). i.unanswered) started_) ∙ waits in cc)

  left : (j : ℕ) → slice_get before j ≡ Some Begin → (items_in first).begun + begins (take j before) < length (items_in first).works
  left j at =
      let w = next_what node e.events count happens in
      let front = front_of all (length before) j Begin (ap (λ ds. slice_get ds j) w.1 ∙ at) in
      let low : begins (take j all) < length dues = (met j front.0).left in
      let same : begins (take j before) ≡ begins (take j all) = ap (λ ds. begins (take j ds)) (sym w.1) ∙ ap begins front.1 in
      let none = ap (λ (i : Items). i.begun) started_ in
      let works = ap (λ (i : Items). length i.works) started_ in
      let sizes = size in
      omega (arith, low, same, none, works, sizes)

  far : (items_in x).begun < u32_end
  far = by (is_left (items_in x)) refl
    where
      by : (t : Bool) → is_left (items_in x) ≡ t → (items_in x).begun < u32_end
      by true is = ltb-true (items_in x).begun u32_end (and_second (nat_lt (items_in x).begun (length (items_in x).works)) (nat_lt (items_in x).begun u32_end) is)
      by false is = absurd (let none : next_item (items_in x) ≡ None = ap (λ t. cond t (Some ((items_in x).begun + 1)) None) is in let both : None ≡ Some number = sym none ∙ next in cc)

  -- as many have begun as Begins happened to it
  counted : (items_in x).begun ≡ begins before
  counted =
      let same = ap (λ n. (items_in n).begun) is_it in
      let far_ = far in
      let all_ = begun_all before first sound (ap has_counters is_it ∙ room) (omega (arith, same, far_)) left in
      let none = ap (λ (i : Items). i.begun) started_ in
      omega (arith, same, all_, none)

  one : number ≡ begins before + 1
  one = (let is = next_is (items_in x) number next in let same = counted in omega (arith, is, same))

  work_there : (w : Work) × (slice_get items (begins before) ≡ Some w)
  work_there = (let low = may.left in let sizes = size in has items (begins before) (omega (arith, low, sizes)))

  asked_so : asks e node number ≡ Some work_there.0
  asked_so =
      let above : 0 < number = (let is = one in omega (arith, is)) in
      let place : number - 1 ≡ begins before = (let is = one in omega (arith, is)) in
      ap (λ t. cond t (slice_get items (number - 1)) None) (lt-ltb 0 number above) ∙ (ap (λ k. slice_get items k) place ∙ work_there.1)

  all_answered : (Falls (asks e node number) → ⊥) → AreAnswered node (begins before) (acts_in any_step first before)
  all_answered apart =
      let d = its_due e.script.lines node (begins before) work_there.0 work_there.1 in
      (may.due d.due d.there).answered (d.free ∙ not_free work_there.0 (λ falls. apart (subst Falls (sym asked_so) falls)))

  answered_before : (Falls (asks e node number) → ⊥) → (item : ℕ) → 1 ≤ item → item < number → IsAnswered (moment e count).acts node item
  answered_before apart item low high =
      let acts : List Act = acts_in any_step first before in
      let found = any_has (is_answer_to node item) acts (all_answered apart item low (let is = one in omega (arith, is, high))) in
      let a = answers_so node item acts found.0 found.1 found.2 in
      (a.0, f.acts (act.Answered node item a.0) (subst (λ y. In y acts) a.1 (contained acts found.0 found.1)))

pub begins_in_turn : (e : Estate AnyNode) → IsLiveRun any_step any_start e → BeginsInTurn e
begins_in_turn e live count node happens x was room number next apart item low high = by (place_of (moment e count).cluster node) refl was
  where
    by : (o : Option ℕ) → place_of (moment e count).cluster node ≡ o → node_in (moment e count).nodes o ≡ Some x → IsAnswered (moment e count).acts node item
    by None placed there = absurd cc
    by (Some q) placed there = answered_before e live count node happens x q placed there room number next apart item low high
