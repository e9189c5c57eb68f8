-- What the items of a script ask for whose items are calls of clients.
use Rattle.std.proofs.Common.{true≢false, ◌≡◌, ◌≤◌, ℕ, ◌-◌, nat_le, Bool, true, false, cond, ◌&&◌, ◌||◌, not, is_some, List, [], ◌∷◌, get_or, inl, inr, length, slice_get, Option, Some, None, refl, sym, ap, subst, ◌∙◌, arith}
use Rattle.std.specs.List.{AllByRecursion}
use Rattle.std.specs.Prelude.{IfSome}
use Rattle.std.proofs.lemmas.Bool.{and_parts, le-leb, lt-ltb}
use Rattle.std.proofs.lemmas.List.Sums.{count_by-le-length}
use Rattle.std.proofs.lemmas.List.{length-map}
use Rattle.std.proofs.lemmas.Option.{slice_get-get_or}
use Rattle.client_call.specs.Calls.{may_make}
use Rattle.core_world.specs.declared.any_node.AnyNode.{AnyNode}
use Rattle.file_plan.specs.declared.block_call.BlockCall.TheVariants.{Get, Put, Sync}
use Rattle.file_plan.specs.Plan.{plan}
use Rattle.headline.specs.Courses.{Doing, by_one, doing_of}
use Rattle.headline.specs.Items.{asked_at}
use Rattle.headline.specs.Moments.{moment, node_named}
use Rattle.headline.specs.OneMachine.{AreCalls, is_call, is_call_or_none}
use Rattle.headline.specs.Restarts.{LosesNone}
use Rattle.headline.specs.Standings.Standing.{Serves as Stands}
use Rattle.headline.specs.Standings.{standing}
use Rattle.one_machine.specs.Trees.{AreFit, IsFit}
use Rattle.quiet_script.proofs.Answered.{items_counted}
use Rattle.run_answers.specs.due_law.Turns.{EachEventKeepsStanding, EachStartServes}
use Rattle.script_text.specs.declared.script.Line.{Line}
use Rattle.version_model.specs.declared.file_call.FileCall.{FileCall}
use Rattle.version_model.specs.declared.work.Work.{Work}
use Rattle.version_model.specs.declared.work.Work.TheVariants as work
use Rattle.world_base.specs.declared.estate.Estate.{Estate}
use Rattle.world_base.specs.Items.{actor_of, is_for, is_for_actor, items_of, works_of}
use Rattle.xfs_base.proofs.Booleans.{by_test}
use Rattle.xfs_base.proofs.NodeOrder.{same_node_is}
use Rattle.xfs_base.specs.declared.block.BlockId.{BlockId}
use Rattle.xfs_base.specs.declared.node.NodeId.{NodeId}
use Rattle.xfs_base.specs.declared.node.NodeId.TheVariants as nodes
use Rattle.xfs_base.specs.Limits.{max_lines}
use Rattle.run_text.proofs.Events.{all_asked}
use Rattle.run_text.proofs.Standing.{each_serves}

-- what is so of each call
pub each_call : (P : Work → Type 0) → ((c : ℕ) (b : BlockId) (value : Option (List ℕ)) → P (work.Bput c b value)) → ((c : ℕ) (b : BlockId) → P (work.Bget c b))
    → ((c : ℕ) → P (work.Sync c)) → ((c : ℕ) (f : FileCall) → P (work.File c f)) → (w : Work) → is_call w ≡ true → P w
each_call P put get sync file (work.Bput c b value) is = put c b value
each_call P put get sync file (work.Bget c b) is = get c b
each_call P put get sync file (work.Sync c) is = sync c
each_call P put get sync file (work.File c f) is = file c f
each_call P put get sync file _ is = absurd (true≢false (sym is))

-- an item of this node asks for a call, as scripts have it
pub record IsCallOf (node : NodeId) (w : Work) : Type 0 where
  pub called : is_call w ≡ true
  pub actor : actor_of w ≡ Some node
  pub fit : IsFit w

line_calls : (node : NodeId) (l : Line) → is_call_or_none l ≡ true → IsFit l.work → is_for node l.work ≡ true → IsCallOf node l.work
line_calls node l calls fit its = by (actor_of l.work) refl
  where
    no_more : (t : Bool) → (t || false) ≡ t
    no_more true = refl
    no_more false = refl

    by : (o : Option NodeId) → actor_of l.work ≡ o → IsCallOf node l.work
    by None none = absurd (true≢false (sym its ∙ ap (is_for_actor node) none))
    by (Some actor) is = record {
      called = sym (no_more (is_call l.work)) ∙ (sym (ap (λ (o : Option NodeId). is_call l.work || not (is_some o)) is) ∙ calls);
      actor = is ∙ ap Some (same_node_is actor node (sym (ap (is_for_actor node) is) ∙ its));
      fit = fit;
    }

all_calls : (lines : List Line) (node : NodeId) → AreCalls lines → AreFit lines → AllByRecursion (IsCallOf node) (items_of lines node)
all_calls [] node calls fit = tt
all_calls (l ∷ lines) node calls fit =
    let both = and_parts (is_call_or_none l) _ calls in
    by_test (λ xs. AllByRecursion (IsCallOf node) xs) (is_for node l.work) (l.work ∷ items_of lines node) (items_of lines node)
    (λ its. (line_calls node l both.0 fit.0 its, all_calls lines node both.1 fit.1)) (λ _. all_calls lines node both.1 fit.1)

-- no server loses its disk
pub calls_lose_none : (lines : List Line) → AreCalls lines → LosesNone (works_of lines)
calls_lose_none [] calls server among = among
calls_lose_none (l ∷ lines) calls server (inl same) =
    absurd (true≢false (sym (subst (λ w. (is_call w || not (is_some (actor_of w))) ≡ true) (sym same) (and_parts (is_call_or_none l) _ calls).0)))
calls_lose_none (l ∷ lines) calls server (inr among) = calls_lose_none lines (and_parts (is_call_or_none l) _ calls).1 server among

-- whose item such a work is
pub caller : (w : Work) → is_call w ≡ true → (c : ℕ) × (actor_of w ≡ Some (nodes.Client c))
caller =
    each_call (λ w. (c : ℕ) × (actor_of w ≡ Some (nodes.Client c))) (λ c b value. (c, refl)) (λ c b. (c, refl)) (λ c. (c, refl)) (λ c f. (c, refl))

-- what it does
abbrev Does : ℕ → Work → Type 0
Does item w = (client : ℕ) → actor_of w ≡ Some (nodes.Client client) → IsFit w → (does : Doing) × (doing_of w item client ≡ Some does)

pub does_so : (item : ℕ) → item ≤ max_lines → (w : Work) → is_call w ≡ true → Does item w
does_so item most =
    each_call (Does item) (λ c b value client own fit. (by_one (Put b value), refl)) (λ c b client own fit. (by_one (Get b), refl))
    (λ c client own fit. (by_one Sync, refl)) (λ c f client own fit. (plan f item client, file c f client own fit))
  where
    file : (c : ℕ) (f : FileCall) (client : ℕ) → Some (nodes.Client c) ≡ Some (nodes.Client client) → (1 ≤ c) × (c ≤ 8)
        → doing_of (work.File c f) item client ≡ Some (plan f item client)
    file c f client own fit = ap (λ (t : Bool). cond t (Some (plan f item client)) None) may
      where
        same : c ≡ client
        same = cc

        least : 1 ≤ client
        least = subst (λ n. 1 ≤ n) same fit.0

        last : client ≤ 8
        last = subst (λ n. n ≤ 8) same fit.1

        may : may_make item client ≡ true
        may =
            ap (λ t. t && (nat_le 1 client && nat_le client 8)) (le-leb item max_lines most)
            ∙ (ap (λ t. t && nat_le client 8) (le-leb 1 client least) ∙ le-leb client 8 last)

module _ (lines : List Line) (calls : AreCalls lines) (fit : AreFit lines) where
  -- the script asks for this by an item
  pub record IsAskedFor (node : NodeId) (item : ℕ) : Type 0 where
    pub its : Work
    pub there : asked_at (items_of lines node) item ≡ Some its
    pub call : IsCallOf node its

  pub asked_call : (node : NodeId) (item : ℕ) (w : Work) → asked_at (items_of lines node) item ≡ Some w → IsCallOf node w
  asked_call node item w asked =
      subst (λ o. IfSome o (IsCallOf node)) asked (all_asked (IsCallOf node) (items_of lines node) item (all_calls lines node calls fit))

  pub asked_for : (node : NodeId) (item : ℕ) → 1 ≤ item → item ≤ length (items_of lines node) → IsAskedFor node item
  asked_for node item least most = record { its = its; there = there; call = asked_call node item its there }
    where
      its : Work
      its = get_or (items_of lines node) (item - 1) work.NetHold

      there : asked_at (items_of lines node) item ≡ Some its
      there =
          ap (λ t. cond t (slice_get (items_of lines node) (item - 1)) None) (lt-ltb 0 item (omega (arith, least)))
          ∙ slice_get-get_or (items_of lines node) (item - 1) work.NetHold (omega (arith, least, most))

-- no node has more items than there are lines
pub items_few : (lines : List Line) (node : NodeId) → length (items_of lines node) ≤ length lines
items_few lines node =
    let count = items_counted lines node in
    let most = count_by-le-length (is_for node) (works_of lines) in
    let long = length-map lines (λ (l : Line). l.work) in
    omega arith

-- every node serves at each moment
pub calls_serve : (e : Estate AnyNode) → AreCalls e.script.lines → AreFit e.script.lines → EachStartServes → EachEventKeepsStanding → (count : ℕ) (name : NodeId)
    (x : AnyNode) → node_named (moment e count) name ≡ Some x → standing x ≡ Stands
calls_serve e calls fit starts events =
    each_serves e starts events
    (λ node item named asked. true≢false (sym (asked_call e.script.lines calls fit node item (work.Crash named) asked).called))
